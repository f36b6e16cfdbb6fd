-- The rows of an answer as right sides, one for each variable: rows stand in the order of their variables, and the rows of a variable
-- have its width.
use mathlib.Core.Path.{◌≡◌, refl, sym, ap, ap₂, ◌∙◌}
use mathlib.Core.Logic.{◌⊎◌, inl, inr, ◌≢◌}
use mathlib.Core.Bool.{Bool, true, false, not, ◌||◌, cond}
use mathlib.Core.List.{List, [], ◌∷◌, ◌++◌, map, reverse, reverse_aux, append_assoc}
use Prim.Native.Nat.{ℕ, zero, suc, ◌+◌, ◌-◌, ◌≤◌, ◌<◌}
use native.Mathlib.Omega.{arith}
use lib.Dec.{eqb, ltb}
use lib.ListN.{length, get_or}
use borrow.Author.Tests.{eq-eqb, ne_eqb, lt-ltb, le-ltb, not-true}
use Rattle.laws.specs.Lists.{tally}
use Rattle.answers.specs.Answer.{begins, variable_at, contiguous, fixed_alike, goes_on, place_row, widened, placed, rows_to, answer_rows, is_fresh, fresh_numbers}
use Rattle.answers.specs.declared.AnswerRow.{AnswerRow}
use Rattle.answers.specs.Systems.{Part, fill, fresh, part_width, side_width, FinePart, FineSide, FineSides, labels_of, all_labels, part_bits, side_bits, system_bits}
use Rattle.laws.proofs.Bools.{and_first}
use Rattle.laws.proofs.Numbers.{dec_eq}
use Rattle.laws.proofs.Numbers.{lt_or_le}
use Rattle.answers.proofs.AnswerRows.{Each}
use Rattle.answers.proofs.Instantiating.{each_turn}
use Rattle.answers.proofs.GeneralSystems.{width_sum}
use Rattle.answers.proofs.Variables.{begins_first}
use Rattle.laws.proofs.Tallies.{tally-all, tally_ext, tally_no, tally_apart}
use Rattle.answers.specs.Demands.{part_of, side_of, sides_from, sides_of}

-- all parts in one list
unfoldable pub flat : List (List Part) → List Part
flat [] = []
flat (side ∷ sides) = side ++ flat sides

labels_append : (a b : List Part) → labels_of (a ++ b) ≡ labels_of a ++ labels_of b
unfolding labels_of
labels_append [] b = refl
labels_append (fill bit w ∷ a) b = labels_append a b
labels_append (fresh l w ∷ a) b = ap (λ (x : List ℕ). l ∷ x) (labels_append a b)

pub labels_flat : (sides : List (List Part)) → all_labels sides ≡ labels_of (flat sides)
unfolding all_labels flat
labels_flat [] = unfold labels_of in refl
labels_flat (side ∷ sides) = ap (λ (x : List ℕ). labels_of side ++ x) (labels_flat sides) ∙ sym (labels_append side (flat sides))

bits_append : (φ : ℕ → ℕ → ℕ) (a b : List Part) → side_bits φ (a ++ b) ≡ side_bits φ a ++ side_bits φ b
unfolding side_bits
bits_append φ [] b = refl
bits_append φ (x ∷ a) b = ap (λ (l : List ℕ). part_bits φ x ++ l) (bits_append φ a b) ∙ sym (append_assoc (part_bits φ x) (side_bits φ a) (side_bits φ b))

pub bits_flat : (φ : ℕ → ℕ → ℕ) (sides : List (List Part)) → system_bits φ sides ≡ side_bits φ (flat sides)
unfolding system_bits flat
bits_flat φ [] = unfold side_bits in refl
bits_flat φ (side ∷ sides) = ap (λ (l : List ℕ). side_bits φ side ++ l) (bits_flat φ sides) ∙ sym (bits_append φ side (flat sides))

pub row_labels : (rows : List AnswerRow) → labels_of (map part_of rows) ≡ fresh_numbers rows
unfolding labels_of fresh_numbers part_of
row_labels [] = refl
row_labels (r ∷ rows) = go (is_fresh r) (row_labels rows)
  where
    go : (b : Bool) → labels_of (map part_of rows) ≡ fresh_numbers rows
        → labels_of (cond b (fresh r.fresh r.width) (fill r.kind r.width) ∷ map part_of rows) ≡ cond b (r.fresh ∷ fresh_numbers rows) (fresh_numbers rows)
    go true e = ap (λ (l : List ℕ). r.fresh ∷ l) e
    go false e = e

-- rows in the order of their variables
abbrev pub Sorted : List AnswerRow → Type 0
Sorted [] = Unit {0}
Sorted (r ∷ rows) = Each (λ s. r.variable ≤ s.variable) rows × Sorted rows

abbrev SortedBack : List AnswerRow → Type 0
SortedBack [] = Unit {0}
SortedBack (r ∷ rest) = Each (λ s. s.variable ≤ r.variable) rest × SortedBack rest

each_both : (P Q : AnswerRow → Type 0) (xs : List AnswerRow) → Each P xs → Each Q xs → Each (λ x. P x × Q x) xs
each_both P Q [] h k = tt
each_both P Q (x ∷ xs) h k = ((h.0, k.0), each_both P Q xs h.1 k.1)

each_all : (P : AnswerRow → Type 0) (xs : List AnswerRow) → ((x : AnswerRow) → P x) → Each P xs
each_all P [] h = tt
each_all P (x ∷ xs) h = (h x, each_all P xs h)

each_map : (P Q : AnswerRow → Type 0) (xs : List AnswerRow) → ((x : AnswerRow) → P x → Q x) → Each P xs → Each Q xs
each_map P Q [] h k = tt
each_map P Q (x ∷ xs) h k = (h x k.0, each_map P Q xs h k.1)

sorted_turn : (xs ys : List AnswerRow) → SortedBack xs → Sorted ys → Each (λ x. Each (λ y. x.variable ≤ y.variable) ys) xs → Sorted (reverse_aux xs ys)
sorted_turn [] ys h s k = s
sorted_turn (x ∷ xs) ys h s k =
    sorted_turn xs (x ∷ ys) h.1 (k.0, s)
    (each_both (λ z. z.variable ≤ x.variable) (λ z. Each (λ y. z.variable ≤ y.variable) ys) xs h.0 k.1)

-- a row in front of rows of no lower variable is the first part
side_none : (v : ℕ) (rows : List AnswerRow) → Each (λ s. v < s.variable) rows → side_of v rows ≡ []
unfolding side_of
side_none v [] h = refl
side_none v (r ∷ rows) h = rw (ne_eqb r.variable v (omega (arith, h.0))) (side_none v rows h.1)

other_sides : (m v : ℕ) (r : AnswerRow) (rows : List AnswerRow) → r.variable < v → sides_from v m (r ∷ rows) ≡ sides_from v m rows
unfolding sides_from side_of
other_sides zero v r rows l = refl
other_sides (suc m) v r rows l = rw (ne_eqb r.variable v (omega arith)) (ap (λ (s : List (List Part)). side_of v rows ∷ s) (other_sides m (suc v) r rows (omega arith)))

in_front : (m v : ℕ) (r : AnswerRow) (rows : List AnswerRow) → v ≤ r.variable → r.variable < v + m → Each (λ s. r.variable ≤ s.variable) rows
    → flat (sides_from v m (r ∷ rows)) ≡ part_of r ∷ flat (sides_from v m rows)
unfolding sides_from flat side_of
in_front zero v r rows l k h = absurd (omega arith)
in_front (suc m) v r rows l k h = go (dec_eq r.variable v) (λ (q : suc v ≤ r.variable). in_front m (suc v) r rows q (omega arith) h)
  where
    go : (r.variable ≡ v) ⊎ (r.variable ≢ v) → (suc v ≤ r.variable → flat (sides_from (suc v) m (r ∷ rows)) ≡ part_of r ∷ flat (sides_from (suc v) m rows))
        → cond (eqb r.variable v) (part_of r ∷ side_of v rows) (side_of v rows) ++ flat (sides_from (suc v) m (r ∷ rows)) ≡ part_of r ∷ (side_of v rows ++ flat (sides_from (suc v) m rows))
    go (inl e) on = rw (eq-eqb r.variable v e, other_sides m (suc v) r rows (omega arith))
    go (inr d) on =
        let q : suc v ≤ r.variable = omega arith in
        rw (ne_eqb r.variable v d, side_none v rows (each_map (λ s. r.variable ≤ s.variable) (λ s. v < s.variable) rows (λ s a. omega arith) h)) (on q)

flat_none : (m v : ℕ) → flat (sides_from v m []) ≡ []
unfolding sides_from flat side_of
flat_none zero v = refl
flat_none (suc m) v = flat_none m (suc v)

pub flat_rows : (m : ℕ) (rows : List AnswerRow) → Sorted rows → Each (λ s. s.variable < m) rows → flat (sides_from 0 m rows) ≡ map part_of rows
flat_rows m [] s h = flat_none m 0
flat_rows m (r ∷ rows) s h = in_front m 0 r rows (omega arith) (omega (arith, h.0)) s.0 ∙ ap (λ (l : List Part). part_of r ∷ l) (flat_rows m rows s.1 h.1)

-- fine parts make fine sides
fine_side : (wide : ℕ → ℕ) (v : ℕ) (rows : List AnswerRow) → Each (λ r. FinePart wide (part_of r)) rows → FineSide wide (side_of v rows)
unfolding side_of
fine_side wide v [] h = tt
fine_side wide v (r ∷ rows) h = go (eqb r.variable v) (fine_side wide v rows h.1)
  where
    go : (b : Bool) → FineSide wide (side_of v rows) → FineSide wide (cond b (part_of r ∷ side_of v rows) (side_of v rows))
    go true k = (h.0, k)
    go false k = k

pub fine_sides : (wide : ℕ → ℕ) (m v : ℕ) (rows : List AnswerRow) → Each (λ r. FinePart wide (part_of r)) rows → FineSides wide (sides_from v m rows)
unfolding sides_from
fine_sides wide zero v rows h = tt
fine_sides wide (suc m) v rows h = (fine_side wide v rows h, fine_sides wide m (suc v) rows h)

-- the width of a side
part-width : (r : AnswerRow) → part_width (part_of r) ≡ r.width
unfolding part_of
part-width r = go (is_fresh r)
  where
    go : (b : Bool) → part_width (cond b (fresh r.fresh r.width) (fill r.kind r.width)) ≡ r.width
    go true = refl
    go false = refl

side_more : (v : ℕ) (r : AnswerRow) (rows : List AnswerRow) → side_width (side_of v (r ∷ rows)) ≡ cond (eqb r.variable v) r.width 0 + side_width (side_of v rows)
unfolding side_of side_width
side_more v r rows = go (eqb r.variable v)
  where
    go : (b : Bool) → side_width (cond b (part_of r ∷ side_of v rows) (side_of v rows)) ≡ cond b r.width 0 + side_width (side_of v rows)
    go true = ap (λ (x : ℕ). x + side_width (side_of v rows)) (part-width r)
    go false = omega arith

side_turned : (v : ℕ) (xs ys : List AnswerRow) → side_width (side_of v (reverse_aux xs ys)) ≡ side_width (side_of v xs) + side_width (side_of v ys)
side_turned v [] ys = unfold side_of side_width in omega arith
side_turned v (x ∷ xs) ys = omega (arith, side_turned v xs (x ∷ ys), side_more v x ys, side_more v x xs)

widths_from : (ws : List ℕ) (v : ℕ) (rows : List AnswerRow) → ((i : ℕ) → i < length ws → side_width (side_of (v + i) rows) ≡ get_or ws i 0) → map side_width (sides_from v (length ws) rows) ≡ ws
unfolding sides_from
widths_from [] v rows h = refl
widths_from (w ∷ ws) v rows h =
    let z : v + 0 ≡ v = omega arith in
    ap₂ (λ (x : ℕ) (l : List ℕ). x ∷ l) (ap (λ (x : ℕ). side_width (side_of x rows)) (sym z) ∙ h 0 (omega arith))
    (widths_from ws (suc v) rows (λ i l. let s : suc v + i ≡ v + suc i = omega arith in ap (λ (x : ℕ). side_width (side_of x rows)) s ∙ h (suc i) (omega arith)))

-- the variables of the places
variable_up : (ws : List ℕ) (i : ℕ) → variable_at ws i ≤ variable_at ws (suc i)
unfolding variable_at
variable_up [] i = omega arith
variable_up (w ∷ ws) i = go (lt_or_le i w) (variable_up ws (i - w))
  where
    go : (i < w) ⊎ (w ≤ i) → variable_at ws (i - w) ≤ variable_at ws (suc (i - w)) → cond (ltb i w) 0 (suc (variable_at ws (i - w))) ≤ cond (ltb (suc i) w) 0 (suc (variable_at ws (suc i - w)))
    go (inl a) r = rw (lt-ltb i w a) (omega arith)
    go (inr a) r = let e : suc i - w ≡ suc (i - w) = omega arith in rw (le-ltb i w a, le-ltb (suc i) w (omega arith), e) (omega arith)

variable_on : (ws : List ℕ) (i : ℕ) → begins ws (suc i) ≡ false → variable_at ws (suc i) ≡ variable_at ws i
unfolding variable_at begins
variable_on [] i h = let z : ◌≡◌ {A = ℕ} 0 1 = cc in absurd (omega arith)
variable_on (w ∷ ws) i h = go (lt_or_le (suc i) w) (lt_or_le i w) (variable_on ws (i - w)) h
  where
    go : (suc i < w) ⊎ (w ≤ suc i) → (i < w) ⊎ (w ≤ i) → (begins ws (suc (i - w)) ≡ false → variable_at ws (suc (i - w)) ≡ variable_at ws (i - w))
        → cond (ltb (suc i) w) (eqb (suc i) 0) (begins ws (suc i - w)) ≡ false
        → cond (ltb (suc i) w) 0 (suc (variable_at ws (suc i - w))) ≡ cond (ltb i w) 0 (suc (variable_at ws (i - w)))
    go (inl a) b r = rw (lt-ltb (suc i) w a, lt-ltb i w (omega arith)) (λ h. refl)
    go (inr a) (inl b) r =
        let e : suc i - w ≡ 0 = omega arith in
        rw (le-ltb (suc i) w a, e, begins_first ws) (λ h. let z : ◌≡◌ {A = ℕ} 0 1 = cc in absurd (omega arith))
    go (inr a) (inr b) r =
        let e : suc i - w ≡ suc (i - w) = omega arith in
        rw (le-ltb (suc i) w a, le-ltb i w b, e) (λ h. ap suc (r h))

pub variable_low : (ws : List ℕ) (i : ℕ) → i < width_sum ws → variable_at ws i < length ws
unfolding variable_at width_sum
variable_low [] i l = absurd (omega arith)
variable_low (w ∷ ws) i l = go (lt_or_le i w) (λ (k : i - w < width_sum ws). variable_low ws (i - w) k)
  where
    go : (i < w) ⊎ (w ≤ i) → (i - w < width_sum ws → variable_at ws (i - w) < length ws) → cond (ltb i w) 0 (suc (variable_at ws (i - w))) < suc (length ws)
    go (inl a) r = rw (lt-ltb i w a) (omega arith)
    go (inr a) r = rw (le-ltb i w a) (omega (arith, r (omega arith)))

variable_within : (w : ℕ) (ws : List ℕ) (i : ℕ) → i < w → variable_at (w ∷ ws) i ≡ 0
unfolding variable_at
variable_within w ws i l = rw (lt-ltb i w l)

variable_behind : (w : ℕ) (ws : List ℕ) (i : ℕ) → variable_at (w ∷ ws) (w + i) ≡ suc (variable_at ws i)
unfolding variable_at
variable_behind w ws i = let e : w + i - w ≡ i = omega arith in rw (le-ltb (w + i) w (omega arith), e)

places_in : (ws : List ℕ) (v : ℕ) → tally (width_sum ws) (λ k. eqb (variable_at ws k) v) ≡ get_or ws v 0
places_in [] v = unfold width_sum tally in refl
places_in (w ∷ ws) v =
    start ∙ tally_apart w (width_sum ws) (λ k. eqb (variable_at (w ∷ ws) k) v)
    ∙ ap₂ ◌+◌ (tally_ext w (λ k. eqb (variable_at (w ∷ ws) k) v) (λ k. eqb 0 v) (λ i l. ap (λ (x : ℕ). eqb x v) (variable_within w ws i l)))
    (tally_ext (width_sum ws) (λ k. eqb (variable_at (w ∷ ws) (w + k)) v) (λ k. eqb (suc (variable_at ws k)) v) (λ i l. ap (λ (x : ℕ). eqb x v) (variable_behind w ws i)))
    ∙ go v (λ (u : ℕ). places_in ws u)
  where
    start : tally (width_sum (w ∷ ws)) (λ k. eqb (variable_at (w ∷ ws) k) v) ≡ tally (w + width_sum ws) (λ k. eqb (variable_at (w ∷ ws) k) v)
    start = unfold width_sum in refl

    go : (u : ℕ) → ((x : ℕ) → tally (width_sum ws) (λ k. eqb (variable_at ws k) x) ≡ get_or ws x 0)
        → tally w (λ k. eqb 0 u) + tally (width_sum ws) (λ k. eqb (suc (variable_at ws k)) u) ≡ get_or (w ∷ ws) u 0
    go zero r =
        omega (
          arith,
          tally-all w,
          tally_ext (width_sum ws) (λ k. eqb (suc (variable_at ws k)) 0) (λ k. false) (λ i l. ne_eqb (suc (variable_at ws i)) 0 (omega arith)),
          tally_no (width_sum ws),
        )
    go (suc u) r =
        omega (
          arith,
          tally_ext w (λ k. eqb 0 (suc u)) (λ k. false) (λ i l. ne_eqb 0 (suc u) (omega arith)),
          tally_no w,
          tally_ext (width_sum ws) (λ k. eqb (suc (variable_at ws k)) (suc u)) (λ k. eqb (variable_at ws k) u) (λ i l. one_less (variable_at ws i) u),
          r u,
        )
      where
        one_less : (x y : ℕ) → eqb (suc x) (suc y) ≡ eqb x y
        one_less x y = two (dec_eq x y)
          where
            two : (x ≡ y) ⊎ (x ≢ y) → eqb (suc x) (suc y) ≡ eqb x y
            two (inl e) = rw (eq-eqb x y e, eq-eqb (suc x) (suc y) (ap suc e))
            two (inr d) = rw (ne_eqb x y d, ne_eqb (suc x) (suc y) (λ q. d (omega arith)))

-- the rows of the places up to j, last first
record Rising (ws : List ℕ) (j : ℕ) (rows : List AnswerRow) : Type 0 where
  row : AnswerRow
  rest : List AnswerRow
  are : rows ≡ row ∷ rest
  variable_is : row.variable ≡ variable_at ws j
  sorted : SortedBack (row ∷ rest)
  wide : Each (λ r. 1 ≤ r.width) (row ∷ rest)
  sizes : (v : ℕ) → side_width (side_of v (row ∷ rest)) ≡ tally (suc j) (λ k. eqb (variable_at ws k) v)

module _ (n : ℕ) (ws : List ℕ) (same : ℕ → ℕ → Bool) where
  abbrev at : ℕ → AnswerRow
  at j = place_row n ws same j

  at_variable : (j : ℕ) → (at j).variable ≡ variable_at ws j
  unfolding place_row
  at_variable j = refl

  at_width : (j : ℕ) → (at j).width ≡ 1
  unfolding place_row
  at_width j = refl

  goes-in : (j : ℕ) → goes_on n ws same (suc j) ≡ true → begins ws (suc j) ≡ false
  unfolding goes_on
  goes-in j h = not-true (begins ws (suc j)) (and_first (not (begins ws (suc j))) (fixed_alike same j || contiguous n ws same j) h)

  begun_size : (j v : ℕ) (rows : List AnswerRow) → side_width (side_of v (at j ∷ rows)) ≡ cond (eqb (variable_at ws j) v) 1 0 + side_width (side_of v rows)
  begun_size j v rows = side_more v (at j) rows ∙ ap₂ (λ (x y : ℕ). cond (eqb x v) y 0 + side_width (side_of v rows)) (at_variable j) (at_width j)

  rising : (j : ℕ) → Rising ws j (rows_to n ws same (suc j))
  unfolding rows_to placed tally
  rising zero =
      record {
        row = at 0;
        rest = [];
        are = refl;
        variable_is = at_variable 0;
        sorted = (tt, tt);
        wide = (omega (arith, at_width 0), tt);
        sizes = λ v. begun_size 0 v [] ∙ unfold side_of side_width in refl;
      }
  rising (suc j) = go (rising j) (goes_on n ws same (suc j)) refl
    where
      go : Rising ws j (rows_to n ws same (suc j)) → (b : Bool) → goes_on n ws same (suc j) ≡ b → Rising ws (suc j) (placed b (at (suc j)) (rows_to n ws same (suc j)))
      go R true h =
          let e : variable_at ws (suc j) ≡ variable_at ws j = variable_on ws j (goes-in j h) in
          let d : R.row.variable ≡ variable_at ws (suc j) = R.variable_is ∙ sym e in
          record {
            row = widened R.row;
            rest = R.rest;
            are = rw R.are;
            variable_is = d;
            sorted = R.sorted;
            wide = (omega arith, R.wide.1);
            sizes = λ v.
                side_more v (widened R.row) R.rest
                ∙ one_more v R.row.variable R.row.width (side_width (side_of v R.rest))
                ∙ ap₂ (λ (x y : ℕ). cond (eqb x v) 1 0 + y) d (sym (side_more v R.row R.rest) ∙ R.sizes v);
          }
        where
          one_more : (v x w y : ℕ) → cond (eqb x v) (suc w) 0 + y ≡ cond (eqb x v) 1 0 + (cond (eqb x v) w 0 + y)
          one_more v x w y = two (eqb x v)
            where
              two : (b : Bool) → cond b (suc w) 0 + y ≡ cond b 1 0 + (cond b w 0 + y)
              two true = omega arith
              two false = omega arith
      go R false h =
          let up : R.row.variable ≤ (at (suc j)).variable = omega (arith, R.variable_is, at_variable (suc j), variable_up ws j) in
          record {
            row = at (suc j);
            rest = R.row ∷ R.rest;
            are = rw R.are;
            variable_is = at_variable (suc j);
            sorted = ((up, each_map (λ s. s.variable ≤ R.row.variable) (λ s. s.variable ≤ (at (suc j)).variable) R.rest (λ s q. omega arith) R.sorted.0), R.sorted);
            wide = (omega (arith, at_width (suc j)), R.wide);
            sizes = λ v. begun_size (suc j) v (R.row ∷ R.rest) ∙ ap (λ (y : ℕ). cond (eqb (variable_at ws (suc j)) v) 1 0 + y) (R.sizes v);
          }

-- What the answer's rows are by their variables.
pub record InOrder (ws : List ℕ) (rows : List AnswerRow) : Type 0 where
  pub sorted : Sorted rows
  pub low : Each (λ r. r.variable < length ws) rows
  pub wide : Each (λ r. 1 ≤ r.width) rows
  pub widths_are : map side_width (sides_of ws rows) ≡ ws

pub in_order : (n : ℕ) (ws : List ℕ) (same : ℕ → ℕ → Bool) → width_sum ws ≡ n → InOrder ws (answer_rows n ws same)
unfolding answer_rows sides_of
in_order n ws same sum = go n refl
  where
    sizes : (v : ℕ) (rows : List AnswerRow) → side_width (side_of v rows) ≡ tally n (λ k. eqb (variable_at ws k) v) → side_width (side_of v (reverse rows)) ≡ get_or ws v 0
    sizes v rows h =
        side_turned v rows [] ∙ ap₂ ◌+◌ (h ∙ ap (λ (m : ℕ). tally m (λ k. eqb (variable_at ws k) v)) (sym sum) ∙ places_in ws v) nothing ∙ omega arith
      where
        nothing : side_width (side_of v []) ≡ 0
        nothing = unfold side_of side_width in refl

    widths : (rows : List AnswerRow) → ((v : ℕ) → side_width (side_of v rows) ≡ tally n (λ k. eqb (variable_at ws k) v)) → map side_width (sides_from 0 (length ws) (reverse rows)) ≡ ws
    widths rows h = widths_from ws 0 (reverse rows) (λ i l. let z : 0 + i ≡ i = omega arith in ap (λ (v : ℕ). side_width (side_of v (reverse rows))) z ∙ sizes i rows (h i))

    go : (m : ℕ) → n ≡ m → InOrder ws (reverse (rows_to n ws same m))
    go zero e =
        let q : rows_to n ws same 0 ≡ [] = unfold rows_to in refl in
        rw q
        (record {
          sorted = tt;
          low = tt;
          wide = tt;
          widths_are = widths [] (λ v. rw e (unfold side_of side_width tally in refl));
        })
    go (suc j) e =
        let R = rising n ws same j in
        let l : R.row.variable < length ws = omega (arith, R.variable_is, variable_low ws j (omega arith)) in
        rw R.are
        (record {
          sorted = sorted_turn (R.row ∷ R.rest) [] R.sorted tt (each_all (λ x. Unit {0}) (R.row ∷ R.rest) (λ x. tt));
          low = each_turn (λ r. r.variable < length ws) (R.row ∷ R.rest) [] (l, each_map (λ s. s.variable ≤ R.row.variable) (λ s. s.variable < length ws) R.rest (λ s q. omega arith) R.sorted.0) tt;
          wide = each_turn (λ r. 1 ≤ r.width) (R.row ∷ R.rest) [] R.wide tt;
          widths_are = widths (R.row ∷ R.rest) (λ v. R.sizes v ∙ ap (λ (m : ℕ). tally m (λ k. eqb (variable_at ws k) v)) (sym e));
        })
