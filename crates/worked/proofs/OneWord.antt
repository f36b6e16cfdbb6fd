-- A table with one variable, of any width: its answer's rows, its record and its answer where only the pattern of zeros meets it, and
-- where only the patterns whose bits are all alike do. Assumes nothing.
use mathlib.Core.Path.{◌≡◌, refl, sym, ◌∙◌, ap, ap₂, subst}
use mathlib.Core.Bool.{Bool, true, false, not, ◌||◌, ◌&&◌}
use mathlib.Core.List.{List, [], ◌∷◌, reverse, reverse_aux}
use mathlib.Core.Logic.{◌≢◌}
use Prim.Native.Nat.{ℕ, zero, suc, ◌+◌, ◌-◌, ◌≤◌, ◌<◌, pred}
use native.Mathlib.Omega.{arith}
use lib.Dec.{eqb}
use lib.ListN.{length, get_or, replicate, length-replicate, get_or-replicate}
use borrow.Author.Tests.{lt-ltb, eq-eqb, ne_eqb}
use Rattle.terms.specs.Assignments.{Assignment, off}
use Rattle.terms.specs.Faults.{Accepted, first_fault}
use Rattle.terms.specs.Table.{rows_of, bits_of, bit_of, satisfies}
use Rattle.terms.proofs.Assignments.{assignment_of, every_of}
use Rattle.laws.specs.Lists.{least}
use Rattle.answers.specs.declared.AnswerRow.{AnswerRow}
use Rattle.laws.specs.Bools.{implies}
use Rattle.answers.specs.Answer.{variable_widths, answer_rows, answer_numbers, fresh_numbers, fresh_pieces, fresh_start, free_bits, begins, variable_at, tied, fixed_to, contiguous, fixed_alike, goes_on, lowest, place_row, placed, rows_to, fresh_width}
use Rattle.answers.specs.Pairs.{equal_under}
use Rattle.laws.specs.Lists.{distinct, tally, member}
use Rattle.answers.specs.Solve.{solved_rows, answer_record, solved_record}
use Rattle.laws.proofs.Tallies.{below_fails}
use Rattle.answers.proofs.AnswerRows.{placed_new}
use Rattle.answers.proofs.Variables.{begins_first}
use Rattle.worked.specs.Cases.{Solved, Holds, piece, times, figures}
use Rattle.worked.proofs.Holding.{every_fails, met_by_some, solved_case}
use Rattle.worked.proofs.PieceNumbers.{row_of, piece_numbers, fill_numbers}

-- The answer's rows of one variable, from which bits are equal.
module _ (w : ℕ) (same : ℕ → ℕ → Bool) where
  pub inside : (i : ℕ) → suc i < w → begins (w ∷ []) (suc i) ≡ false
  unfolding begins
  inside i h = rw (lt-ltb (suc i) w h) (ne_eqb (suc i) 0 (λ e. omega arith))

  pub variable_0 : (i : ℕ) → i < w → variable_at (w ∷ []) i ≡ 0
  unfolding variable_at
  variable_0 i h = rw (lt-ltb i w h)

  -- Every bit is 0: one fill as wide as the variable.
  module _ (zeros : (i : ℕ) → i < w → fixed_to same i 0 ≡ true) where
    fill-row : (i : ℕ) → i < w → place_row w (w ∷ []) same i ≡ row_of 0 1 0
    unfolding place_row
    fill-row i h = rw (zeros i h, variable_0 i h) refl

    fill_on : (i : ℕ) → suc i < w → goes_on w (w ∷ []) same (suc i) ≡ true
    unfolding goes_on fixed_alike
    fill_on i h = rw (inside i h, zeros i (omega arith), zeros (suc i) h) refl

    fill-to : (i : ℕ) → suc i ≤ w → rows_to w (w ∷ []) same (suc i) ≡ row_of 0 (suc i) 0 ∷ []
    unfolding rows_to placed
    fill-to zero h = rw (fill-row 0 h) refl
    fill-to (suc i) h = rw (fill-to i (omega arith), fill_on i h) refl

    one_fill : 1 ≤ w → answer_rows w (w ∷ []) same ≡ row_of 0 w 0 ∷ []
    unfolding answer_rows
    one_fill h =
        let e : suc (w - 1) ≡ w = omega arith in
        ap (λ (i : ℕ). reverse (rows_to w (w ∷ []) same i)) (sym e)
        ∙ ap reverse (fill-to (w - 1) (omega arith))
        ∙ ap (λ (i : ℕ). row_of 0 i 0 ∷ []) e

  -- All bits are tied and none is fixed: one fresh piece of width 1, as often as the variable has bits.
  module _ (all : (i j : ℕ) → i < w → j < w → tied same i j ≡ true) (open_0 : (i : ℕ) → i < w → fixed_to same i 0 ≡ false)
      (open_1 : (i : ℕ) → i < w → fixed_to same i 1 ≡ false) where
    low : (i : ℕ) → i < w → lowest same i ≡ 0
    unfolding lowest least
    low zero h = refl
    low (suc i) h = rw (all (suc i) 0 h (omega arith)) refl

    tied-row : (i : ℕ) → i < w → place_row w (w ∷ []) same i ≡ row_of 2 1 0
    unfolding place_row tally
    tied-row i h = rw (open_0 i h, open_1 i h, variable_0 i h, low i h) refl

    -- the first bit is tied to each and has none beside it
    apart : (i : ℕ) → suc i < w → contiguous w (w ∷ []) same i ≡ false
    unfolding contiguous
    apart i h =
        let first : implies (tied same 0 (suc i)) (not (begins (w ∷ []) 0) && tied same (pred 0) i) ≡ false =
        rw (all 0 (suc i) (omega arith) h, begins_first (w ∷ [])) refl in
        rw (
          open_0 i (omega arith),
          open_1 i (omega arith),
          open_0 (suc i) h,
          open_1 (suc i) h,
          inside i h,
          below_fails w (λ k. implies (tied same k (suc i)) (not (begins (w ∷ []) k) && tied same (pred k) i)) 0 (omega arith) first,
        )
        refl

    tied_on : (i : ℕ) → i < w → goes_on w (w ∷ []) same i ≡ false
    unfolding goes_on fixed_alike
    tied_on zero h = refl
    tied_on (suc i) h = rw (inside i h, open_0 i (omega arith), open_1 i (omega arith), apart i h) refl

    tied_to : (i : ℕ) → i ≤ w → rows_to w (w ∷ []) same i ≡ replicate i (row_of 2 1 0)
    unfolding rows_to
    tied_to zero h = refl
    tied_to (suc i) h = rw (tied_on i h, tied-row i h, tied_to i (omega arith)) (placed_new (row_of 2 1 0) (replicate i (row_of 2 1 0)))

    one_piece : answer_rows w (w ∷ []) same ≡ replicate w (row_of 2 1 0)
    unfolding answer_rows
    one_piece = ap reverse (tied_to w (omega arith)) ∙ turned w 0 w (omega arith)
      where
        turned : (n m k : ℕ) → n + m ≡ k → reverse_aux (replicate n (row_of 2 1 0)) (replicate m (row_of 2 1 0)) ≡ replicate k (row_of 2 1 0)
        turned zero m k e = let f : m ≡ k = omega arith in ap (λ (n : ℕ). replicate n (row_of 2 1 0)) f
        turned (suc n) m k e = turned n (suc m) k (omega arith)

-- The figures of such rows.
copies : (n : ℕ) → fresh_numbers (replicate n (row_of 2 1 0)) ≡ replicate n 0
unfolding fresh_numbers
copies zero = refl
copies (suc n) = ap (λ (l : List ℕ). 0 ∷ l) (copies n)

one_number : (n : ℕ) → distinct (replicate (suc n) 0) ≡ 1
unfolding distinct member
one_number zero = refl
one_number (suc n) = omega (arith, one_number n)

one_fresh : (n : ℕ) → 1 ≤ n → fresh_pieces (replicate n (row_of 2 1 0)) ≡ 1
unfolding fresh_pieces
one_fresh zero h = absurd (omega arith)
one_fresh (suc n) h = ap distinct (copies (suc n)) ∙ one_number n

one_free : (n : ℕ) → 1 ≤ n → free_bits (replicate n (row_of 2 1 0)) ≡ 1
unfolding free_bits fresh_start fresh_width
one_free zero h = absurd (omega arith)
one_free (suc n) h = rw (one_fresh (suc n) h) refl

-- bits that are equal in every pattern that passes a test; bits that differ in one
pub equal_in : (n : ℕ) (test : List ℕ → Bool) (s u : ℕ)
    → ((p : List ℕ) → Assignment n p → test p ≡ true → bit_of p s ≡ bit_of p u) → equal_under n test s u ≡ true
unfolding equal_under
equal_in n test s u h = every_of n (λ p. not (test p) || eqb (bit_of p s) (bit_of p u)) (λ p a. go p a (test p) refl)
  where
    go : (p : List ℕ) → Assignment n p → (b : Bool) → test p ≡ b → not b || eqb (bit_of p s) (bit_of p u) ≡ true
    go p a false e = refl
    go p a true e = eq-eqb (bit_of p s) (bit_of p u) (h p a e)

pub unequal_at : (n : ℕ) (test : List ℕ → Bool) (s u : ℕ) (p : List ℕ)
    → Assignment n p → test p ≡ true → bit_of p s ≢ bit_of p u → equal_under n test s u ≡ false
unfolding equal_under
unequal_at n test s u p a e d =
    every_fails n (λ p. not (test p) || eqb (bit_of p s) (bit_of p u)) p a (rw (e, ne_eqb (bit_of p s) (bit_of p u) d) refl)

-- the pattern whose bits are all b, and each of its bits
pub alike : (n b : ℕ) → b ≤ 1 → Assignment n (replicate n b)
alike n b h = assignment_of n (replicate n b) (length-replicate n b) (λ i l. rw (get_or-replicate n i b 0 l) h)

pub all_alike : (n b i : ℕ) → i < n → get_or (replicate n b) i 0 ≡ b
all_alike n b i l = get_or-replicate n i b 0 l

pub false_of : (b : Bool) → (b ≡ true → ⊥) → b ≡ false
false_of false h = refl
false_of true h = absurd (h refl)

-- A table with one variable.
module _ (table : List ℕ) (w : ℕ) (least : 1 ≤ w) (accepted : first_fault table ≡ Accepted)
    (bits : bits_of (rows_of table) ≡ w) (widths : variable_widths (rows_of table) ≡ w ∷ []) where
  pub rows_are : solved_rows (rows_of table) ≡ answer_rows w (w ∷ []) (equal_under w (satisfies (rows_of table)))
  unfolding solved_rows
  rows_are = rw (bits, widths) refl

  -- its record, from its answer's rows and from two patterns of which one meets it
  pub record_is : (rows : List AnswerRow) → solved_rows (rows_of table) ≡ rows → (p q : List ℕ) → Assignment w p → Assignment w q
      → satisfies (rows_of table) p ≡ true → satisfies (rows_of table) q ≡ false
      → answer_record (rows_of table) ≡ figures 2 (length rows) (fresh_pieces rows) (free_bits rows) (w - free_bits rows) 0
  record_is rows e p q a b met other =
      met_by_some table accepted p q (rw bits a) (rw bits b) met other
      ∙ ap₂ (λ (l : List AnswerRow) (n : ℕ). solved_record l (n - free_bits l)) e bits

  -- Only the pattern of zeros meets it: one fill.
  pub zeros_alone : ((p : List ℕ) → Assignment w p → satisfies (rows_of table) p ≡ true → (i : ℕ) → i < w → get_or p i 0 ≡ 0)
      → satisfies (rows_of table) (replicate w 0) ≡ true → Holds (Solved table (figures 2 1 0 0 w 0) (piece 0 0 w 0 0 (w - 1)) 1)
  unfolding bit_of fresh_pieces fresh_numbers distinct free_bits fresh_start
  zeros_alone only met =
      solved_case table (figures 2 1 0 0 w 0) accepted
      (record_is (row_of 0 w 0 ∷ []) rows (replicate w 0) (replicate w 1) (alike w 0 (omega arith)) (alike w 1 (omega arith)) met other
      ∙ ap (λ (n : ℕ). figures 2 1 0 0 n 0) none_free)
      (piece 0 0 w 0 0 (w - 1)) (ap answer_numbers rows ∙ fill_numbers w)
    where
      none_free : w - 0 ≡ w
      none_free = omega arith

      rows : solved_rows (rows_of table) ≡ row_of 0 w 0 ∷ []
      rows =
          rows_are
          ∙ one_fill w (equal_under w (satisfies (rows_of table)))
          (λ i l. equal_in w (satisfies (rows_of table)) (suc (suc i)) 0 (λ p a e. only p a e i l)) least

      other : satisfies (rows_of table) (replicate w 1) ≡ false
      other =
          false_of (satisfies (rows_of table) (replicate w 1))
          (λ e. omega (arith, only (replicate w 1) (alike w 1 (omega arith)) e 0 least, all_alike w 1 0 least))

  -- The patterns whose bits are all alike meet it, and no other: one fresh piece of width 1, for each bit.
  pub alike-alone : 2 ≤ w → ((p : List ℕ) → Assignment w p → satisfies (rows_of table) p ≡ true → (i : ℕ) → i < w → get_or p i 0 ≡ get_or p 0 0)
      → ((b : ℕ) → b ≤ 1 → satisfies (rows_of table) (replicate w b) ≡ true)
      → Holds (Solved table (figures 2 w 1 1 (w - 1) 0) (times w (piece 0 2 1 0 0 (w - 1))) 2)
  unfolding bit_of
  alike-alone more only met =
      solved_case table (figures 2 w 1 1 (w - 1) 0) accepted
      (record_is (replicate w (row_of 2 1 0)) rows
      (replicate w 0) (0 ∷ replicate (w - 1) 1) (alike w 0 (omega arith)) mixed (met 0 (omega arith)) other
      ∙ rw (length-replicate w (row_of 2 1 0), one_fresh w least, one_free w least) refl)
      (times w (piece 0 2 1 0 0 (w - 1))) (ap answer_numbers rows ∙ piece_numbers w)
    where
      rows : solved_rows (rows_of table) ≡ replicate w (row_of 2 1 0)
      rows =
          rows_are
          ∙ one_piece w (equal_under w (satisfies (rows_of table)))
          (λ i j l m. equal_in w (satisfies (rows_of table)) (suc (suc i)) (suc (suc j)) (λ p a e. only p a e i l ∙ sym (only p a e j m)))
          (λ i l. unequal_at w (satisfies (rows_of table)) (suc (suc i)) 0 (replicate w 1) (alike w 1 (omega arith)) (met 1 (omega arith))
          (λ e. omega (arith, e, all_alike w 1 i l)))
          (λ i l. unequal_at w (satisfies (rows_of table)) (suc (suc i)) 1 (replicate w 0) (alike w 0 (omega arith)) (met 0 (omega arith))
          (λ e. omega (arith, e, all_alike w 0 i l)))

      mixed : Assignment w (0 ∷ replicate (w - 1) 1)
      mixed =
          let e : suc (w - 1) ≡ w = omega arith in
          subst (λ (n : ℕ). Assignment n (0 ∷ replicate (w - 1) 1)) e (off (alike (w - 1) 1 (omega arith)))

      other : satisfies (rows_of table) (0 ∷ replicate (w - 1) 1) ≡ false
      other =
          false_of (satisfies (rows_of table) (0 ∷ replicate (w - 1) 1))
          (λ e. omega (arith, only (0 ∷ replicate (w - 1) 1) mixed e 1 more, all_alike (w - 1) 1 0 (omega arith)))
