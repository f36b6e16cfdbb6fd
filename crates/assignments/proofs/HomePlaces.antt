-- Home and high of a row of a solved table's answer are variable and bit of the lowest place tied to its first place. Assumes nothing.
use mathlib.Core.Path.{◌≡◌, refl, sym, ap, ◌∙◌}
use mathlib.Core.Logic.{◌⊎◌, inl, inr}
use mathlib.Core.Bool.{Bool, true, false, not, ◌&&◌, cond}
use mathlib.Core.List.{List, [], ◌∷◌, map}
use Prim.Native.Nat.{ℕ, zero, suc, ◌+◌, ◌-◌, ◌≤◌, ◌<◌}
use native.Mathlib.Omega.{arith}
use lib.Dec.{eqb, ltb}
use lib.ListN.{length, get_or, take, drop}
use lib.Seq.{take-length}
use borrow.Author.Tests.{eqb-true, eq-eqb, ne_eqb, lt-ltb, le-ltb, not-true}
use Rattle.terms.specs.declared.Row.{Row}
use Rattle.terms.specs.Faults.{Accepted, first_fault}
use Rattle.terms.specs.Table.{rows_of, bits_of, satisfies}
use Rattle.laws.specs.Lists.{tally}
use Rattle.laws.proofs.Bools.{and_both, and_parts}
use Rattle.laws.proofs.Least.{least_within}
use Rattle.laws.proofs.Numbers.{lt_or_le, below-or_at}
use Rattle.laws.proofs.Tallies.{tally_mono}
use Rattle.answers.specs.declared.AnswerRow.{AnswerRow}
use Rattle.answers.specs.Answer.{variable_widths, answer_row_at, fixed_to, unfixed, goes_on, lowest, appears, place_row, answer_rows, variable_at, is_fresh, width_in_rows, high_bit, home_row, answer_row_numbers}
use Rattle.answers.specs.Demands.{part_of, side_of, sides_from, sides_of}
use Rattle.answers.specs.inner.Orderly.{Ordered}
use Rattle.answers.specs.Pairs.{equal_under}
use Rattle.answers.specs.Solve.{solved_rows, answer_record}
use Rattle.answers.specs.Systems.{fill, fresh, side_width}
use Rattle.answers.proofs.AnswerNumbers.{number_at}
use Rattle.answers.proofs.Homes.{of_piece, home_is, home_fill, home_le}
use Rattle.answers.proofs.LowestPlaces.{LowestAppears, table_lowest}
use Rattle.answers.proofs.GeneralSystems.{width_sum}
use Rattle.answers.proofs.OurSystem.{some_left, answer_system}
use Rattle.answers.proofs.RowSides.{variable_low}
use Rattle.answers.proofs.Variables.{widths_sum}
use Rattle.assignments.specs.Form.{pattern_bits}
use Rattle.assignments.specs.Homes.{variable_start, bit_at, home_place, home_of, HomesAreLowest}
use Rattle.assignments.proofs.RowPlaces.{Begins, begins_at, row_of, all-bits}
use Rattle.assignments.proofs.VariableBits.{bits_next, width_parts, on_wide, row_start}
use Rattle.assignments.proofs.FormFacts.{Formed, formed_rows}
use Rattle.assignments.proofs.Theorems.{rows-fine}

-- the first places of rows rise
first_rise : (rows : List AnswerRow) (i j : ℕ) → i < j → j ≤ length rows → pattern_bits (take i rows) + (answer_row_at rows i).width ≤ pattern_bits (take j rows)
first_rise rows i zero a b = absurd (omega arith)
first_rise rows i (suc j) a b = go (below-or_at i j a) (λ (m : i < j). first_rise rows i j m (omega arith))
  where
    next : pattern_bits (take (suc j) rows) ≡ pattern_bits (take j rows) + (answer_row_at rows j).width
    next = bits_next rows j (omega arith)

    go : (i < j) ⊎ (i ≡ j) → (i < j → pattern_bits (take i rows) + (answer_row_at rows i).width ≤ pattern_bits (take j rows))
        → pattern_bits (take i rows) + (answer_row_at rows i).width ≤ pattern_bits (take (suc j) rows)
    go (inl m) h = omega (arith, h m, next)
    go (inr e) h = rw e (omega (arith, next))

module _ (n : ℕ) (ws : List ℕ) (same : ℕ → ℕ → Bool) (low : LowestAppears n ws same) where
  abbrev rows : List AnswerRow
  rows = answer_rows n ws same

  abbrev at : ℕ → AnswerRow
  at = answer_row_at rows

  abbrev first : ℕ → ℕ
  first j = pattern_bits (take j rows)

  abbrev new : ℕ → Bool
  new = appears n ws same

  B : (j : ℕ) → j < length rows → Begins n ws same (first j) (at j)
  B j l = begins_at n ws same j l

  -- the row of a place is fresh where the place is unfixed
  kind_unfixed : (i : ℕ) → is_fresh (place_row n ws same i) ≡ unfixed same i
  unfolding place_row
  kind_unfixed i = go (fixed_to same i 0) (fixed_to same i 1)
    where
      go : (a b : Bool) → not (ltb (cond {A = ℕ} a 0 (cond b 1 2)) 2) ≡ not a && not b
      go true b = refl
      go false true = refl
      go false false = refl

  fresh_unfixed : (j : ℕ) → j < length rows → is_fresh (at j) ≡ unfixed same (first j)
  fresh_unfixed j l = ap (λ (k : ℕ). not (ltb k 2)) (B j l).kind_is ∙ kind_unfixed (first j)

  number_is : (j : ℕ) → j < length rows → unfixed same (first j) ≡ true → (at j).fresh ≡ tally (lowest same (first j)) new
  number_is j l u = (B j l).fresh_is ∙ (unfold place_row in rw u)

  first-in : (j : ℕ) → j < length rows → first j < n
  first-in j l =
      omega (
        arith,
        first_rise rows j (length rows) l (omega arith),
        ap pattern_bits (take-length rows),
        all-bits n ws same,
        (B j l).wide,
      )

  lowest_le : (i : ℕ) → lowest same i ≤ i
  unfolding lowest
  lowest_le i = omega (arith, (least_within (λ k. same (suc (suc i)) (suc (suc k))) 0 i).1)

  -- a place where a fresh piece appears
  record Shown (q : ℕ) : Type 0 where
    own : lowest same q ≡ q
    open' : unfixed same q ≡ true
    begins' : goes_on n ws same q ≡ false

  shown : (q : ℕ) → new q ≡ true → Shown q
  unfolding appears
  shown q h =
      let a = and_parts (eqb (lowest same q) q) (unfixed same q && not (goes_on n ws same q)) h in
      let b = and_parts (unfixed same q) (not (goes_on n ws same q)) a.1 in
      record { own = eqb-true (lowest same q) q a.0; open' = b.0; begins' = not-true (goes_on n ws same q) b.1 }

  -- a fresh row, with the place where its piece appears
  module _ (j : ℕ) (l : j < length rows) (f : is_fresh (at j) ≡ true) where
    loose : unfixed same (first j) ≡ true
    loose = sym (fresh_unfixed j l) ∙ f

    abbrev q : ℕ
    q = lowest same (first j)

    q_new : new q ≡ true
    q_new = low (first j) (first-in j l) loose (B j l).new

    S : Shown q
    S = shown q q_new

    H : (h : ℕ) × (h < length rows) × (first h ≡ q)
    H = row_of n ws same q (omega (arith, lowest_le (first j), first-in j l)) S.begins'

    abbrev h : ℕ
    h = H.0

    unfixed_h : unfixed same (first h) ≡ true
    unfixed_h = ap (unfixed same) H.2 ∙ S.open'

    fresh_h : is_fresh (at h) ≡ true
    fresh_h = fresh_unfixed h H.1 ∙ unfixed_h

    number_h : (at h).fresh ≡ (at j).fresh
    number_h =
        number_is h H.1 unfixed_h
        ∙ ap (λ (x : ℕ). tally x new) (ap (lowest same) H.2 ∙ S.own)
        ∙ sym (number_is j l loose)

    not_behind : h ≤ j
    not_behind = go (lt_or_le j h)
      where
        go : (j < h) ⊎ (h ≤ j) → h ≤ j
        go (inl m) = absurd (omega (arith, first_rise rows j h m (omega (arith, H.1)), (B j l).wide, H.2, lowest_le (first j)))
        go (inr m) = m

    none_before : (i : ℕ) → i < h → of_piece rows j i ≡ false
    none_before i m = go (is_fresh (at i)) refl
      where
        in_rows : i < length rows
        in_rows = omega (arith, H.1)

        less : is_fresh (at i) ≡ true → (at i).fresh < (at j).fresh
        less g =
            let u : unfixed same (first i) ≡ true = sym (fresh_unfixed i in_rows) ∙ g in
            let up = first_rise rows i h m (omega (arith, H.1)) in
            omega (
              arith,
              number_is i in_rows u,
              number_is j l loose,
              tally_mono (lowest same (first i)) q new (omega (arith, lowest_le (first i), up, (B i in_rows).wide, H.2)) (low (first i) (first-in i in_rows) u (B i in_rows).new),
            )

        go : (b : Bool) → is_fresh (at i) ≡ b → b && eqb (at i).fresh (at j).fresh ≡ false
        go true g = ne_eqb (at i).fresh (at j).fresh (omega (arith, less g))
        go false g = refl

    home_first : first (home_row rows j) ≡ q
    home_first =
        ap first
        (home_is rows j h f not_behind (and_both (is_fresh (at h)) (eqb (at h).fresh (at j).fresh) fresh_h (eq-eqb (at h).fresh (at j).fresh number_h)) none_before)
        ∙ H.2

  -- The home row of a row begins at its home place.
  home_begins : (j : ℕ) → j < length rows → first (home_row rows j) ≡ home_place same (first j)
  unfolding home_place
  home_begins j l = go (is_fresh (at j)) refl
    where
      go : (b : Bool) → is_fresh (at j) ≡ b → first (home_row rows j) ≡ cond (unfixed same (first j)) (lowest same (first j)) (first j)
      go true f = home_first j l f ∙ rw (sym (fresh_unfixed j l) ∙ f)
      go false f = ap first (home_fill rows j f) ∙ rw (sym (fresh_unfixed j l) ∙ f)

  own_variable : (j : ℕ) → j < length rows → (at j).variable ≡ variable_at ws (first j)
  unfolding place_row
  own_variable j l = (B j l).variable_is

  home_variable : (j : ℕ) → j < length rows → (at (home_row rows j)).variable ≡ variable_at ws (home_place same (first j))
  home_variable j l = own_variable (home_row rows j) (omega (arith, home_le rows j)) ∙ ap (variable_at ws) (home_begins j l)

-- the bit of place a of variable v
bit-of : (ws : List ℕ) (v a : ℕ) → v < length ws → a < get_or ws v 0 → bit_at ws (width_sum (take v ws) + a) ≡ get_or ws v 0 - 1 - a
unfolding bit_at width_sum
bit-of [] v a l m = absurd (omega arith)
bit-of (w ∷ ws) zero a l m = let e : 0 + a ≡ a = omega arith in rw (e, lt-ltb a w m)
bit-of (w ∷ ws) (suc v) a l m =
    let k : w ≤ w + width_sum (take v ws) + a = omega arith in
    let e : w + width_sum (take v ws) + a - w ≡ width_sum (take v ws) + a = omega arith in
    rw (le-ltb (w + width_sum (take v ws) + a) w k, e) (bit-of ws v a (omega arith) m)

sum_next : (ws : List ℕ) (v : ℕ) → v < length ws → width_sum (take (suc v) ws) ≡ width_sum (take v ws) + get_or ws v 0
unfolding width_sum
sum_next [] v l = absurd (omega arith)
sum_next (w ∷ ws) zero l = omega arith
sum_next (w ∷ ws) (suc v) l = omega (arith, sum_next ws v (omega arith))

-- rows of variables that have these widths
module _ (rows : List AnswerRow) (ordered : Ordered rows) (ws : List ℕ) (widths : (v : ℕ) → v < length ws → width_in_rows rows v ≡ get_or ws v 0) where
  start_is : (v : ℕ) → v ≤ length ws → variable_start rows v ≡ width_sum (take v ws)
  unfolding variable_start width_sum
  start_is zero l = refl
  start_is (suc v) l = omega (arith, start_is v (omega arith), widths v (omega arith), sum_next ws v (omega arith))

  high-bit : (h : ℕ) → h < length rows → 1 ≤ (answer_row_at rows h).width → (answer_row_at rows h).variable < length ws
      → high_bit rows h ≡ bit_at ws (pattern_bits (take h rows))
  unfolding high_bit
  high-bit h l w k =
      let v = (answer_row_at rows h).variable in
      let a = width_in_rows (take h rows) v in
      let place : pattern_bits (take h rows) ≡ width_sum (take v ws) + a = row_start rows ordered h l ∙ ap (λ (x : ℕ). x + a) (start_is v (omega arith)) in
      let all : get_or ws v 0 ≡ a + width_in_rows (drop h rows) v = sym (widths v k) ∙ width_parts rows ordered h l in
      let on = on_wide rows ordered h l in
      let bit : bit_at ws (width_sum (take v ws) + a) ≡ get_or ws v 0 - 1 - a = bit-of ws v a k (omega arith) in
      let this : width_in_rows (drop h rows) v - 1 ≡ get_or ws v 0 - 1 - a = omega arith in
      this ∙ sym bit ∙ ap (bit_at ws) (sym place)

-- the widths of the rows of a variable, and of its right side
side-width : (v : ℕ) (rows : List AnswerRow) → side_width (side_of v rows) ≡ width_in_rows rows v
unfolding side_of side_width width_in_rows part_of
side-width v [] = refl
side-width v (r ∷ rows) = go (eqb r.variable v) (is_fresh r) (side-width v rows)
  where
    go : (b c : Bool) → side_width (side_of v rows) ≡ width_in_rows rows v
        → side_width (cond b (cond c (fresh r.fresh r.width) (fill r.kind r.width) ∷ side_of v rows) (side_of v rows)) ≡ cond b r.width 0 + width_in_rows rows v
    go true true e = ap (λ (x : ℕ). r.width + x) e
    go true false e = ap (λ (x : ℕ). r.width + x) e
    go false c e = e ∙ omega arith

sides_at : (v m : ℕ) (rows : List AnswerRow) (i : ℕ) → i < m → get_or (map side_width (sides_from v m rows)) i 0 ≡ width_in_rows rows (v + i)
unfolding sides_from
sides_at v zero rows i l = absurd (omega arith)
sides_at v (suc m) rows zero l = let e : v + 0 ≡ v = omega arith in side-width v rows ∙ ap (width_in_rows rows) (sym e)
sides_at v (suc m) rows (suc i) l = let e : suc v + i ≡ v + suc i = omega arith in sides_at (suc v) m rows i (omega arith) ∙ ap (width_in_rows rows) e

-- Home and high in the answer of a solved table.
module _ (table : List ℕ) (accepted : first_fault table ≡ Accepted) (solved : (answer_record (rows_of table)).outcome ≡ 2) where
  abbrev t : List Row
  t = rows_of table

  abbrev ws : List ℕ
  ws = variable_widths (rows_of table)

  abbrev same : ℕ → ℕ → Bool
  same = equal_under (bits_of (rows_of table)) (satisfies (rows_of table))

  low : LowestAppears (bits_of t) ws same
  low = table_lowest table accepted (some_left t solved)

  F : Formed (solved_rows t)
  F = formed_rows (solved_rows t) (rows-fine table accepted solved)

  widths : (v : ℕ) → v < length ws → width_in_rows (solved_rows t) v ≡ get_or ws v 0
  unfolding sides_of
  widths v l =
      let e : 0 + v ≡ v = omega arith in
      ap (width_in_rows (solved_rows t)) (sym e)
      ∙ sym (sides_at 0 (length ws) (solved_rows t) v l)
      ∙ ap (λ (x : List ℕ). get_or x v 0) (answer_system table accepted solved).solves.widths_are

  variable-in : (j : ℕ) → j < length (solved_rows t) → (answer_row_at (solved_rows t) j).variable < length ws
  unfolding solved_rows
  variable-in j l =
      omega (
        arith,
        own_variable (bits_of t) ws same low j l,
        variable_low ws (pattern_bits (take j (solved_rows t))) (omega (arith, first-in (bits_of t) ws same low j l, widths_sum t)),
      )

  -- Home and high of a row are variable and bit of its home place.
  pub homes_lowest : HomesAreLowest (rows_of table)
  homes_lowest j l = (
    number_at (solved_rows t) j 4 l (omega arith) ∙ home,
    number_at (solved_rows t) j 5 l (omega arith) ∙ high,
  )
    where
      h : ℕ
      h = home_row (solved_rows t) j

      home-in : h < length (solved_rows t)
      home-in = omega (arith, home_le (solved_rows t) j)

      home : get_or (answer_row_numbers (solved_rows t) j) 4 0 ≡ variable_at ws (home_of t j)
      home = unfold answer_row_numbers solved_rows in home_variable (bits_of t) ws same low j l

      begins' : pattern_bits (take h (solved_rows t)) ≡ home_of t j
      begins' = unfold solved_rows in home_begins (bits_of t) ws same low j l

      high : get_or (answer_row_numbers (solved_rows t) j) 5 0 ≡ bit_at ws (home_of t j)
      high =
          unfold answer_row_numbers in (high-bit (solved_rows t) F.ordered ws widths h home-in (F.wide h home-in) (variable-in h home-in)
          ∙ ap (bit_at ws) begins')
