-- Case 1 at every width 2 m + 2 and case 2 at every width 2 m + 1, m from 2 on and the width at most 1,024: a variable with two cuts that
-- overlap, equal to each other. Assumes nothing.
use mathlib.Core.Path.{◌≡◌, refl, ◌∙◌, ap}
use mathlib.Core.Bool.{Bool, true, false}
use mathlib.Core.List.{List, [], ◌∷◌, ◌++◌}
use Prim.Native.Nat.{ℕ, zero, suc, ◌+◌, ◌-◌, ◌*◌, ◌≤◌, ◌<◌}
use native.Mathlib.Omega.{arith}
use lib.Dec.{eqb}
use lib.ListN.{length, get_or}
use Rattle.terms.specs.declared.Row.{Row}
use Rattle.terms.specs.Assignments.{Assignment}
use Rattle.terms.specs.Faults.{Accepted, first_fault}
use Rattle.terms.specs.Table.{rows_of, bits_of, satisfies}
use Rattle.terms.proofs.Assignments.{assignment_length}
use Rattle.terms.proofs.Computed.{satisfies_computed}
use Rattle.laws.specs.Lists.{distinct, member}
use Rattle.laws.proofs.Bools.{one_most}
use Rattle.laws.proofs.Lists.{tab_at}
use Rattle.answers.specs.declared.AnswerRow.{AnswerRow}
use Rattle.answers.specs.Answer.{variable_widths, answer_rows, answer_numbers, fresh_numbers, fresh_pieces, fresh_width, fresh_start, free_bits, tied, fixed_to}
use Rattle.answers.specs.Pairs.{equal_under}
use Rattle.answers.specs.Solve.{solved_rows}
use Rattle.worked.specs.Cases.{Solved, Holds, row, piece, times, figures}
use Rattle.worked.specs.EveryWidth.{case1, case2}
use Rattle.worked.proofs.Holding.{solved_case}
use Rattle.worked.proofs.PieceNumbers.{row_of}
use Rattle.worked.proofs.OneWord.{rows_are, record_is, false_of}
use Rattle.worked.proofs.Labels.{labelled, mark, labelled_bits, label_ties, label_open_0, label_open_1}
use Rattle.worked.proofs.Overlaps.{overlapped, label, label_odd, overlapped_accepted, label_alike, label_meets}
use Rattle.worked.proofs.OverlapNumbers.{even_numbers, odd_numbers}
use Rattle.worked.proofs.OverlapRows.{copies, odd_rows, even_rows, odd-rows, even-rows}

-- The rows behind the first of an even width, and their figures.
abbrev even_rest : ℕ → List AnswerRow
even_rest k = copies k (row_of 2 2 1 ∷ []) (row_of 2 1 2 ∷ [])

even_length : (k : ℕ) → length (even_rest k) ≡ suc k
even_length zero = refl
even_length (suc k) = ap suc (even_length k)

even_others : (k : ℕ) → member 0 (fresh_numbers (even_rest k)) ≡ false
unfolding fresh_numbers member
even_others zero = refl
even_others (suc k) = even_others k

even_distinct : (k : ℕ) → distinct (fresh_numbers (even_rest (suc k))) ≡ 2
unfolding fresh_numbers distinct member
even_distinct zero = refl
even_distinct (suc k) = omega (arith, even_distinct k)

even_last : (k : ℕ) → fresh_width (even_rest k) 2 ≡ 1
unfolding fresh_width
even_last zero = refl
even_last (suc k) = even_last k

even_fresh : (k : ℕ) → 1 ≤ k → fresh_pieces (even_rows k) ≡ 3
unfolding fresh_pieces fresh_numbers distinct member
even_fresh zero l = absurd (omega arith)
even_fresh (suc k) l = rw (even_others k) (omega (arith, even_distinct k))

even_free : (k : ℕ) → 1 ≤ k → free_bits (even_rows k) ≡ 4
unfolding free_bits fresh_start fresh_width
even_free zero l = absurd (omega arith)
even_free (suc k) l = rw (even_fresh (suc k) l, even_last k) refl

-- The same of an odd width.
abbrev odd_rest : ℕ → List AnswerRow
odd_rest k = copies k (row_of 2 1 1 ∷ row_of 2 1 2 ∷ []) (row_of 2 1 1 ∷ row_of 2 1 3 ∷ [])

odd_length : (k : ℕ) → length (odd_rest k) ≡ 2 * k + 2
odd_length zero = refl
odd_length (suc k) = omega (arith, odd_length k)

odd_others : (k : ℕ) → member 0 (fresh_numbers (odd_rest k)) ≡ false
unfolding fresh_numbers member
odd_others zero = refl
odd_others (suc k) = odd_others k

odd_distinct : (k : ℕ) → distinct (fresh_numbers (odd_rest (suc k))) ≡ 3
unfolding fresh_numbers distinct member
odd_distinct zero = refl
odd_distinct (suc k) = omega (arith, odd_distinct k)

odd_last : (k : ℕ) → fresh_width (odd_rest k) 3 ≡ 1
unfolding fresh_width
odd_last zero = refl
odd_last (suc k) = odd_last k

odd_fresh : (k : ℕ) → 1 ≤ k → fresh_pieces (odd_rows k) ≡ 4
unfolding fresh_pieces fresh_numbers distinct member
odd_fresh zero l = absurd (omega arith)
odd_fresh (suc k) l = rw (odd_others k) (omega (arith, odd_distinct k))

odd_free : (k : ℕ) → 1 ≤ k → free_bits (odd_rows k) ≡ 4
unfolding free_bits fresh_start fresh_width
odd_free zero l = absurd (omega arith)
odd_free (suc k) l = rw (odd_fresh (suc k) l, odd_last k) refl

module _ (w : ℕ) (five : 5 ≤ w) (most : w ≤ 1024) where
  abbrev t : List Row
  t = rows_of (overlapped w)

  abbrev same : ℕ → ℕ → Bool
  same = equal_under w (satisfies t)

  bits_are : bits_of t ≡ w
  unfolding satisfies_computed
  bits_are = omega arith

  widths_are : variable_widths t ≡ w ∷ []
  unfolding satisfies_computed variable_widths
  widths_are = refl

  -- which patterns meet the table,
  only : (p : List ℕ) → Assignment w p → satisfies t p ≡ true
      → (i j : ℕ) → i < w → j < w → label w i ≡ label w j → get_or p i 0 ≡ get_or p j 0
  only p a e = label_alike w five p (assignment_length a) e

  met : (f : ℕ → ℕ) → ((c : ℕ) → f c ≤ 1) → satisfies t (labelled w (label w) f) ≡ true
  met f h = label_meets w five f

  -- so that its places are tied by their labels, which gives its rows
  ties_are : (i j : ℕ) → i < w → j < w → tied same i j ≡ eqb (label w i) (label w j)
  ties_are = label_ties w (label w) (satisfies t) only met

  open_0 : (i : ℕ) → i < w → fixed_to same i 0 ≡ false
  open_0 = label_open_0 w (label w) (satisfies t) only met

  open_1 : (i : ℕ) → i < w → fixed_to same i 1 ≡ false
  open_1 = label_open_1 w (label w) (satisfies t) only met

  even_are : (m : ℕ) → w ≡ 2 * m + 2 → answer_rows w (w ∷ []) same ≡ even_rows m
  even_are m e = even-rows w five same ties_are open_0 open_1 m e

  odd_are : (n : ℕ) → w ≡ 2 * n + 3 → answer_rows w (w ∷ []) same ≡ odd_rows n
  odd_are n e = odd-rows w five same ties_are open_0 open_1 n e

  -- a pattern that does not meet the table: of its bits 1 and 3, which have one label, only one is 1
  abbrev differs : List ℕ
  differs = labelled w (λ i. i) (mark 1)

  differs_bits : Assignment w differs
  differs_bits = labelled_bits w (λ i. i) (mark 1) (λ l. one_most (eqb l 1))

  not_met : satisfies t differs ≡ false
  not_met =
      let alike : label w 1 ≡ label w 3 = omega (arith, label_odd w five 1 refl (omega arith), label_odd w five 3 refl (omega arith)) in
      false_of (satisfies t differs)
      (λ e.
      omega (
        arith,
        only differs differs_bits e 1 3 (omega arith) (omega arith) alike,
        tab_at w (mark 1) 1 (omega arith),
        tab_at w (mark 1) 3 (omega arith),
      ))

  -- The case, from the answer's rows and their figures.
  holds : (rows : List AnswerRow) → answer_rows w (w ∷ []) same ≡ rows → free_bits rows ≡ 4
      → (high low pieces fresh : ℕ) (answer : List ℕ)
      → w - 2 ≡ high → w - 4 ≡ low → length rows ≡ pieces → fresh_pieces rows ≡ fresh → answer_numbers rows ≡ answer
      → Holds (Solved (row 0 w 0 0 ++ row 3 0 high 3 ++ row 3 0 low 1 ++ row 4 1 2 0) (figures 2 pieces fresh 4 low 0) answer 16)
  holds rows e free high low pieces fresh answer a b c d f =
      rw (← a, ← b, ← c, ← d, ← f)
      (solved_case (overlapped w) (figures 2 (length rows) (fresh_pieces rows) 4 (w - 4) 0) accepted
      (record_is (overlapped w) w (omega arith) accepted bits_are widths_are rows rows_is
      (labelled w (label w) (λ c. 0)) differs (labelled_bits w (label w) (λ c. 0) (λ c. omega arith)) differs_bits
      (label_meets w five (λ c. 0)) not_met
      ∙ rw free refl)
      (answer_numbers rows) (ap answer_numbers rows_is))
    where
      accepted : first_fault (overlapped w) ≡ Accepted
      accepted = overlapped_accepted w five most

      rows_is : solved_rows t ≡ rows
      rows_is = rows_are (overlapped w) w (omega arith) accepted bits_are widths_are ∙ e

-- Case 1.
pub even_any : (m : ℕ) → 2 ≤ m → 2 * m + 2 ≤ 1024 → Holds (case1 m)
even_any m l most =
    holds (2 * m + 2) (omega arith) most (even_rows m) (even_are (2 * m + 2) (omega arith) most m refl) (even_free m (omega arith))
    (2 * m) (2 * m - 2) (m + 2) 3 (piece 0 2 1 0 0 (2 * m + 1) ++ times m (piece 0 2 2 1 0 (2 * m)) ++ piece 0 2 1 2 0 0)
    (omega arith) (omega arith) (omega (arith, even_length m)) (even_fresh m (omega arith)) (even_numbers m (omega arith))

-- Case 2.
pub odd_any : (m : ℕ) → 2 ≤ m → 2 * m + 1 ≤ 1024 → Holds (case2 m)
odd_any m l most =
    holds (2 * m + 1) (omega arith) most (odd_rows (m - 1)) (odd_are (2 * m + 1) (omega arith) most (m - 1) (omega arith)) (odd_free (m - 1) (omega arith))
    (2 * m - 1) (2 * m - 3) (2 * m + 1) 4 (numbers (2 * m) (2 * m - 1) (2 * m - 2))
    (omega arith) (omega arith) (omega (arith, odd_length (m - 1))) (odd_fresh (m - 1) (omega arith))
    (rw (first, second, third) at (odd_numbers (m - 1) (omega arith)))
  where
    numbers : ℕ → ℕ → ℕ → List ℕ
    numbers a b c = piece 0 2 1 0 0 a ++ times (m - 1) (piece 0 2 1 1 0 b ++ piece 0 2 1 2 0 c) ++ piece 0 2 1 1 0 b ++ piece 0 2 1 3 0 0

    first : 2 * (m - 1) + 2 ≡ 2 * m
    first = omega arith

    second : 2 * (m - 1) + 1 ≡ 2 * m - 1
    second = omega arith

    third : 2 * (m - 1) ≡ 2 * m - 2
    third = omega arith
