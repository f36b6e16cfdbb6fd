-- The answer's rows of a variable of w bits whose places are tied as the labels of Overlaps.antt say: between the first and the last each to
-- the next but one. Of an even width those between are a two-bit piece repeated. Of an odd width the last of them has no second bit, so
-- that all are single bits. Assumes nothing.
use mathlib.Core.Path.{◌≡◌, refl, sym, ◌∙◌, ap}
use mathlib.Core.Bool.{Bool, true, false, not, ◌&&◌, cond, or-true, and-false}
use mathlib.Core.List.{List, [], ◌∷◌, ◌++◌, reverse, reverse_aux}
use mathlib.Core.Logic.{◌⊎◌, inl, inr, ◌≢◌}
use Prim.Native.Nat.{ℕ, zero, suc, ◌+◌, ◌-◌, ◌*◌, ◌%◌, ◌≤◌, ◌<◌, pred}
use native.Mathlib.Omega.{arith}
use lib.Dec.{eqb}
use borrow.Author.Tests.{eq-eqb, ne_eqb}
use Rattle.laws.specs.Lists.{below, tally}
use Rattle.laws.proofs.Least.{least_is}
use Rattle.laws.proofs.Numbers.{dec_eq}
use Rattle.laws.proofs.Tallies.{below_of, below_fails, tally_none, tally_apart}
use Rattle.answers.specs.declared.AnswerRow.{AnswerRow}
use Rattle.laws.specs.Bools.{implies}
use Rattle.answers.specs.Answer.{begins, tied, fixed_to, contiguous, fixed_alike, goes_on, lowest, appears, place_row, widened, placed, rows_to, answer_rows}
use Rattle.worked.proofs.PieceNumbers.{row_of}
use Rattle.answers.proofs.AnswerRows.{placed_new}
use Rattle.worked.proofs.OneWord.{inside, variable_0}
use Rattle.worked.proofs.Overlaps.{label, home, Stands, first, last, between, label_first, label_last, label_between, label_odd, label_even, stands, home_least, home_label}

-- Rows that stand k times before others.
abbrev pub copies : ℕ → List AnswerRow → List AnswerRow → List AnswerRow
copies zero group rows = rows
copies (suc k) group rows = group ++ copies k group rows

copies_behind : (k : ℕ) (group rows : List AnswerRow) → copies k group (group ++ rows) ≡ group ++ copies k group rows
copies_behind zero group rows = refl
copies_behind (suc k) group rows = ap (λ (l : List AnswerRow). group ++ l) (copies_behind k group rows)

turned_back : (group rows rest : List AnswerRow) → reverse_aux (reverse_aux group rows) rest ≡ reverse_aux rows (group ++ rest)
turned_back [] rows rest = refl
turned_back (r ∷ group) rows rest = turned_back group (r ∷ rows) rest

-- rows that begin with r and grow by a group each time, the last first
grown : (n : ℕ) (r : AnswerRow) (group : List AnswerRow) (to : ℕ → List AnswerRow)
    → to 0 ≡ r ∷ [] → ((k : ℕ) → k < n → to (suc k) ≡ reverse_aux group (to k))
    → (k : ℕ) → k ≤ n → (rest : List AnswerRow) → reverse_aux (to k) rest ≡ r ∷ copies k group rest
grown n r group to e next zero l rest = rw e refl
grown n r group to e next (suc k) l rest =
    rw (next k (omega arith))
    (turned_back group (to k) rest
    ∙ grown n r group to e next k (omega arith) (group ++ rest)
    ∙ ap (λ (rows : List AnswerRow). r ∷ rows) (copies_behind k group rest))

-- The answer's rows of a width 2 n + 3, and of a width 2 m + 2.
abbrev pub odd_rows : ℕ → List AnswerRow
odd_rows n = row_of 2 1 0 ∷ copies n (row_of 2 1 1 ∷ row_of 2 1 2 ∷ []) (row_of 2 1 1 ∷ row_of 2 1 3 ∷ [])

abbrev pub even_rows : ℕ → List AnswerRow
even_rows m = row_of 2 1 0 ∷ copies m (row_of 2 2 1 ∷ []) (row_of 2 1 2 ∷ [])

module _ (w : ℕ) (five : 5 ≤ w) (same : ℕ → ℕ → Bool)
    (ties : (i j : ℕ) → i < w → j < w → tied same i j ≡ eqb (label w i) (label w j))
    (open_0 : (i : ℕ) → i < w → fixed_to same i 0 ≡ false) (open_1 : (i : ℕ) → i < w → fixed_to same i 1 ≡ false) where
  -- whether places i and i + 1 lie in one fresh piece; whether one appears at place i; a place's row; the rows of the places below i
  abbrev one_piece : ℕ → Bool
  one_piece = contiguous w (w ∷ []) same

  abbrev new : ℕ → Bool
  new = appears w (w ∷ []) same

  abbrev row-at : ℕ → AnswerRow
  row-at = place_row w (w ∷ []) same

  abbrev rows-to : ℕ → List AnswerRow
  rows-to = rows_to w (w ∷ []) same

  -- which places are tied
  joint : (i j : ℕ) → i < w → j < w → label w i ≡ label w j → tied same i j ≡ true
  joint i j l m e = ties i j l m ∙ eq-eqb (label w i) (label w j) e

  apart : (i j : ℕ) → i < w → j < w → label w i ≢ label w j → tied same i j ≡ false
  apart i j l m d = ties i j l m ∙ ne_eqb (label w i) (label w j) d

  -- the lowest of them
  low : (i : ℕ) → i < w → lowest same i ≡ home w (label w i)
  unfolding lowest
  low i l =
      let here : home w (label w i) ≤ i = home_least w five i l in
      least_is (tied same i) i 0 (home w (label w i)) (omega arith) (omega arith)
      (joint i (home w (label w i)) l (omega arith) (sym (home_label w five i l)))
      (λ j h. apart i j l (omega arith) (λ e. omega (arith, home_least w five j (omega arith), ap (home w) e)))

  -- What the neighbours i and i + 1 ask of place k, before a place tied to i + 1 and behind one tied to i.
  abbrev before : ℕ → ℕ → Bool
  before i k = implies (tied same k (suc i)) (not (begins (w ∷ []) k) && tied same (pred k) i)

  abbrev behind : ℕ → ℕ → Bool
  behind i k = implies (tied same k i) (not (begins (w ∷ []) (suc k)) && tied same (suc k) (suc i))

  module _ (i : ℕ) (l : suc i < w) where
    -- that and no more decides of them, since no bit is fixed
    by_ties : one_piece i ≡ below w (before i) && below w (behind i)
    unfolding contiguous
    by_ties = rw (open_0 i (omega arith), open_1 i (omega arith), open_0 (suc i) l, open_1 (suc i) l, inside w same i l) refl

    on : goes_on w (w ∷ []) same (suc i) ≡ one_piece i
    unfolding goes_on fixed_alike
    on = rw (inside w same i l, open_0 i (omega arith), open_1 i (omega arith)) refl

    -- They do not lie in one piece where a place that is tied to one stands beside one that is not tied to the other.
    not_before : (k : ℕ) → suc k < w → label w (suc k) ≡ label w (suc i) → label w k ≢ label w i → one_piece i ≡ false
    not_before k m e d =
        by_ties
        ∙ rw (below_fails w (before i) (suc k) m
        (rw (joint (suc k) (suc i) m l e, apart k i (omega arith) (omega arith) d) (and-false (not (begins (w ∷ []) (suc k))))))
        refl

    not_behind : (k : ℕ) → suc k < w → label w k ≡ label w i → label w (suc k) ≢ label w (suc i) → one_piece i ≡ false
    not_behind k m e d =
        by_ties
        ∙ rw (below_fails w (behind i) k (omega arith)
        (rw (joint k i (omega arith) (omega arith) e, apart (suc k) (suc i) m l d) (and-false (not (begins (w ∷ []) (suc k))))))
        (and-false (below w (before i)))

  -- labels of the lowest places
  label_1 : label w 1 ≡ 1
  label_1 = label_odd w five 1 refl (omega arith)

  label_2 : label w 2 ≡ 2
  label_2 = label_even w five 2 (omega arith) refl (omega arith)

  label_3 : label w 3 ≡ 1
  label_3 = label_odd w five 3 refl (omega arith)

  -- A piece ends at the first place, and at each even place.
  first_ends : one_piece 0 ≡ false
  first_ends =
      not_before 0 (omega arith) 2 (omega arith) (omega (arith, label_3, label_1)) (λ e. omega (arith, e, label_2, label_first w five))

  even_ends : (i : ℕ) → 1 ≤ i → i % 2 ≡ 0 → suc i < w → one_piece i ≡ false
  even_ends i l e h = go (dec_eq (suc (suc i)) w)
    where
      here : label w i ≡ 2
      here = label_even w five i l e h

      go : (suc (suc i) ≡ w) ⊎ (suc (suc i) ≢ w) → one_piece i ≡ false
      go (inl q) = not_behind i h 2 (omega arith) (omega (arith, here, label_2)) (λ k. omega (arith, k, label_3, label_last w five (suc i) q))
      go (inr d) =
          not_before i h 0 (omega arith) (omega (arith, label_1, label_odd w five (suc i) (omega arith) (omega arith)))
          (λ k. omega (arith, k, here, label_first w five))

  -- What appears: place 0, place 1, place 2 unless it goes on, and before the last place no other.
  new_0 : new 0 ≡ true
  unfolding appears goes_on home
  new_0 = rw (low 0 (omega arith), label_first w five, open_0 0 (omega arith), open_1 0 (omega arith)) refl

  new_1 : new 1 ≡ true
  unfolding appears home
  new_1 =
      rw (low 1 (omega arith), label_1, open_0 1 (omega arith), open_1 1 (omega arith), on 0 (omega arith), first_ends) refl

  new_2 : (b : Bool) → one_piece 1 ≡ b → new 2 ≡ not b
  unfolding appears home
  new_2 b e =
      rw (low 2 (omega arith), label_2, open_0 2 (omega arith), open_1 2 (omega arith), on 1 (omega arith), e) refl

  none_new : (i : ℕ) → 3 ≤ i → suc i < w → new i ≡ false
  unfolding appears home
  none_new i a b =
      let l : i < w = omega arith in
      rw (low i l, label_between w five i (omega arith) b, ne_eqb (2 - i % 2) 3 (λ e. omega arith), ne_eqb (2 - i % 2) i (λ e. omega arith)) refl

  up_to_last : tally (w - 1) new ≡ tally 3 new
  up_to_last =
      let at : w - 1 ≡ 3 + (w - 4) = omega arith in
      let none : tally (w - 4) (λ k. new (3 + k)) ≡ 0 =
      tally_none (w - 4) (λ k. new (3 + k)) (λ i l. none_new (3 + i) (omega arith) (omega arith)) in
      ap (λ (n : ℕ). tally n new) at
      ∙ tally_apart 3 (w - 4) new
      ∙ omega (arith, none)

  -- A place's row, from its label.
  place-row : (i : ℕ) → i < w → row-at i ≡ row_of 2 1 (tally (home w (label w i)) new)
  unfolding place_row
  place-row i l = rw (variable_0 w same i l, open_0 i l, open_1 i l, low i l) refl

  row-first : row-at 0 ≡ row_of 2 1 0
  unfolding home tally
  row-first = place-row 0 (omega arith) ∙ rw (label_first w five) refl

  row_odd : (i : ℕ) → i % 2 ≡ 1 → suc i < w → row-at i ≡ row_of 2 1 1
  unfolding home tally
  row_odd i e h = place-row i (omega arith) ∙ rw (label_odd w five i e h, new_0) refl

  row_even : (i : ℕ) → 1 ≤ i → i % 2 ≡ 0 → suc i < w → row-at i ≡ row_of 2 1 2
  unfolding home tally
  row_even i l e h = place-row i (omega arith) ∙ rw (label_even w five i l e h, new_0, new_1) refl

  row_last : (i : ℕ) (b : Bool) → suc i ≡ w → one_piece 1 ≡ b → row-at i ≡ row_of 2 1 (cond {A = ℕ} (not b) 1 0 + 2)
  unfolding home tally
  row_last i b e h =
      place-row i (omega arith) ∙ rw (label_last w five i e, up_to_last, new_0, new_1, new_2 b h) refl

  -- A row begins, or goes on.
  begins-row : (i : ℕ) → suc i < w → one_piece i ≡ false
      → rows-to (suc (suc i)) ≡ row-at (suc i) ∷ rows-to (suc i)
  unfolding rows_to
  begins-row i l e = rw (on i l, e) (placed_new (row-at (suc i)) (rows-to (suc i)))

  goes-on : (i : ℕ) (r : AnswerRow) (rows : List AnswerRow) → suc i < w → one_piece i ≡ true
      → rows-to (suc i) ≡ r ∷ rows → rows-to (suc (suc i)) ≡ widened r ∷ rows
  unfolding rows_to placed
  goes-on i r rows l e q = rw (on i l, e, q) refl

  first-row : rows-to 1 ≡ row_of 2 1 0 ∷ []
  unfolding rows_to placed
  first-row = rw row-first refl

  -- The rows of the places up to 2 k, and with the next.
  abbrev to : ℕ → List AnswerRow
  to k = rows-to (suc (2 * k))

  even_all : (k : ℕ) → suc (2 * k) < w → one_piece (2 * k) ≡ false
  even_all zero l = first_ends
  even_all (suc k) l = even_ends (2 * suc k) (omega arith) (omega arith) l

  next_odd : (k : ℕ) → suc (suc (2 * k)) < w → rows-to (suc (suc (2 * k))) ≡ row_of 2 1 1 ∷ to k
  next_odd k l = begins-row (2 * k) (omega arith) (even_all k (omega arith)) ∙ rw (row_odd (suc (2 * k)) (omega arith) l) refl

  -- An odd width: every place is a piece. The place before the last is tied to each odd place, and the last is tied to no other.
  module _ (n : ℕ) (odd : w ≡ 2 * n + 3) where
    odd_ends : (i : ℕ) → i % 2 ≡ 1 → suc i < w → one_piece i ≡ false
    odd_ends i e h = go (dec_eq (suc (suc i)) w)
      where
        here : label w i ≡ 1
        here = label_odd w five i e h

        go : (suc (suc i) ≡ w) ⊎ (suc (suc i) ≢ w) → one_piece i ≡ false
        go (inl q) = not_behind i h 1 (omega arith) (omega (arith, here, label_1)) (λ k. omega (arith, k, label_2, label_last w five (suc i) q))
        go (inr d) =
            not_behind i h (suc (2 * n)) (omega arith)
            (omega (arith, here, label_odd w five (suc (2 * n)) (omega arith) (omega arith)))
            (λ k. omega (arith, k, label_last w five (suc (suc (2 * n))) (omega arith), label_even w five (suc i) (omega arith) (omega arith) (omega arith)))

    odd_step : (k : ℕ) → k < n → to (suc k) ≡ row_of 2 1 2 ∷ row_of 2 1 1 ∷ to k
    odd_step k l =
        let at : suc (2 * suc k) ≡ suc (suc (suc (2 * k))) = omega arith in
        ap rows-to at
        ∙ begins-row (suc (2 * k)) (omega arith) (odd_ends (suc (2 * k)) (omega arith) (omega arith))
        ∙ rw (row_even (suc (suc (2 * k))) (omega arith) (omega arith) (omega arith), next_odd k (omega arith)) refl

    pub odd-rows : answer_rows w (w ∷ []) same ≡ odd_rows n
    unfolding answer_rows
    odd-rows =
        let at : w ≡ suc (suc (suc (2 * n))) = omega arith in
        let all : rows-to w ≡ row_of 2 1 3 ∷ row_of 2 1 1 ∷ to n =
        ap rows-to at
        ∙ begins-row (suc (2 * n)) (omega arith) (odd_ends (suc (2 * n)) (omega arith) (omega arith))
        ∙ rw (row_last (suc (suc (2 * n))) false (omega arith) (odd_ends 1 refl (omega arith)), next_odd n (omega arith)) refl in
        ap reverse all
        ∙ grown n (row_of 2 1 0) (row_of 2 1 1 ∷ row_of 2 1 2 ∷ []) to first-row odd_step n (omega arith) (row_of 2 1 1 ∷ row_of 2 1 3 ∷ [])

  -- An even width: each odd place but the last and the next are a piece.
  module _ (m : ℕ) (even : w ≡ 2 * m + 2) where
    module _ (i : ℕ) (e : i % 2 ≡ 1) (h : suc i < w) where
      here : label w i ≡ 1
      here = label_odd w five i e h

      next : label w (suc i) ≡ 2
      next = label_even w five (suc i) (omega arith) (omega arith) (omega arith)

      all_before : (k : ℕ) → k < w → before i k ≡ true
      all_before zero l = rw (apart 0 (suc i) l h (λ q. omega (arith, q, next, label_first w five))) refl
      all_before (suc k) l = go (dec_eq (label w (suc k)) 2) (stands w five (suc k) l)
        where
          go : (label w (suc k) ≡ 2) ⊎ (label w (suc k) ≢ 2) → Stands w (suc k) → before i (suc k) ≡ true
          go (inr d) s = rw (apart (suc k) (suc i) l h (λ q. omega (arith, q, next))) refl
          go (inl q) (first a b) = absurd (omega arith)
          go (inl q) (last a b) = absurd (omega arith)
          go (inl q) (between a b c) =
              rw (inside w same k l, joint k i (omega arith) (omega arith) (omega (arith, here, label_odd w five k (omega arith) (omega arith))))
              (or-true (not (tied same (suc k) (suc i))))

      all-behind : (k : ℕ) → k < w → behind i k ≡ true
      all-behind k l = go (dec_eq (label w k) 1) (stands w five k l)
        where
          go : (label w k ≡ 1) ⊎ (label w k ≢ 1) → Stands w k → behind i k ≡ true
          go (inr d) s = rw (apart k i l (omega arith) (λ q. omega (arith, q, here))) refl
          go (inl q) (first a b) = absurd (omega arith)
          go (inl q) (last a b) = absurd (omega arith)
          go (inl q) (between a b c) =
              rw (
                inside w same k b,
                joint (suc k) (suc i) b h (omega (arith, next, label_even w five (suc k) (omega arith) (omega arith) (omega arith))),
              )
              (or-true (not (tied same k i)))

      together : one_piece i ≡ true
      together = by_ties i h ∙ rw (below_of w (before i) all_before, below_of w (behind i) all-behind) refl

    even_step : (k : ℕ) → k < m → to (suc k) ≡ row_of 2 2 1 ∷ to k
    even_step k l =
        let at : suc (2 * suc k) ≡ suc (suc (suc (2 * k))) = omega arith in
        ap rows-to at
        ∙ goes-on (suc (2 * k)) (row_of 2 1 1) (to k) (omega arith) (together (suc (2 * k)) (omega arith) (omega arith)) (next_odd k (omega arith))

    pub even-rows : answer_rows w (w ∷ []) same ≡ even_rows m
    unfolding answer_rows
    even-rows =
        let at : w ≡ suc (suc (2 * m)) = omega arith in
        let all : rows-to w ≡ row_of 2 1 2 ∷ to m =
        ap rows-to at
        ∙ begins-row (2 * m) (omega arith) (even_all m (omega arith))
        ∙ rw (row_last (suc (2 * m)) true (omega arith) (together 1 refl (omega arith))) refl in
        ap reverse all
        ∙ grown m (row_of 2 1 0) (row_of 2 2 1 ∷ []) to first-row even_step m (omega arith) (row_of 2 1 2 ∷ [])
