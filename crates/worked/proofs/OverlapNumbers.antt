-- The numbers of the answer's rows of two cuts that overlap (OverlapRows.antt): home and high of each. Assumes nothing.
use mathlib.Core.Path.{◌≡◌, refl, sym, ◌∙◌, ap, ap₂}
use mathlib.Core.Bool.{Bool, false, ◌&&◌, and-false}
use mathlib.Core.List.{List, [], ◌∷◌, ◌++◌}
use Prim.Native.Nat.{ℕ, zero, suc, ◌+◌, ◌*◌, ◌≤◌, ◌<◌}
use native.Mathlib.Omega.{arith}
use lib.Dec.{eqb}
use lib.ListN.{get_or, drop}
use Rattle.answers.specs.declared.AnswerRow.{AnswerRow}
use Rattle.answers.specs.Answer.{no_answer_row, answer_row_at, is_fresh, width_in_rows, high_bit, answer_row_numbers, numbers_from, answer_numbers}
use Rattle.answers.proofs.Homes.{of_piece, home_is}
use Rattle.worked.specs.Cases.{times, piece}
use Rattle.worked.proofs.PieceNumbers.{row_of, row_is, of-piece, high_is}
use Rattle.worked.proofs.OverlapRows.{copies, even_rows, odd_rows}

-- A single bit, a two-bit piece m times, and a single bit.
abbrev even_rest : ℕ → List AnswerRow
even_rest k = copies k (row_of 2 2 1 ∷ []) (row_of 2 1 2 ∷ [])

even-at : (k i : ℕ) → i < k → get_or (even_rest k) i no_answer_row ≡ row_of 2 2 1
even-at zero i l = absurd (omega arith)
even-at (suc k) zero l = refl
even-at (suc k) (suc i) l = even-at k i (omega arith)

even_end : (k : ℕ) → get_or (even_rest k) k no_answer_row ≡ row_of 2 1 2
even_end zero = refl
even_end (suc k) = even_end k

even_left : (k : ℕ) → drop k (even_rest k) ≡ row_of 2 1 2 ∷ []
even_left zero = refl
even_left (suc k) = even_left k

even_width : (k : ℕ) → width_in_rows (even_rest k) 0 ≡ 2 * k + 1
unfolding width_in_rows
even_width zero = refl
even_width (suc k) = omega (arith, even_width k)

module _ (m : ℕ) (some : 1 ≤ m) where
  abbrev even : List AnswerRow
  even = even_rows m

  even_first : answer_row_numbers even 0 ≡ piece 0 2 1 0 0 (2 * m + 1)
  even_first =
      row_is even 0 0 (row_of 2 1 0) (row_of 2 1 0) (2 * m + 1) refl (home_is even 0 0 refl (omega arith) refl (λ i l. absurd (omega arith))) refl
      (high_is even 0 (row_of 2 1 0) even (2 * m + 2) refl refl (unfold width_in_rows in omega (arith, even_width m)) ∙ omega arith)

  even_between : (i : ℕ) → i < m → answer_row_numbers even (suc i) ≡ piece 0 2 2 1 0 (2 * m)
  even_between i l =
      row_is even (suc i) 1 (row_of 2 2 1) (row_of 2 2 1) (2 * m) (even-at m i l)
      (home_is even (suc i) 1 (ap is_fresh (even-at m i l)) (omega arith)
      (of-piece even (suc i) 1 (row_of 2 2 1) (row_of 2 2 1) (even-at m i l) (even-at m 0 (omega arith))) before)
      (even-at m 0 (omega arith)) high
    where
      before : (k : ℕ) → k < 1 → of_piece even (suc i) k ≡ false
      before zero h = of-piece even (suc i) 0 (row_of 2 2 1) (row_of 2 1 0) (even-at m i l) refl
      before (suc k) h = absurd (omega arith)

      high : high_bit even 1 ≡ 2 * m
      high = high_is even 1 (row_of 2 2 1) (even_rest m) (2 * m + 1) (even-at m 0 (omega arith)) refl (even_width m) ∙ omega arith

  even_last : answer_row_numbers even (suc m) ≡ piece 0 2 1 2 0 0
  even_last =
      row_is even (suc m) (suc m) (row_of 2 1 2) (row_of 2 1 2) 0 (even_end m)
      (home_is even (suc m) (suc m) (ap is_fresh (even_end m)) (omega arith)
      (of-piece even (suc m) (suc m) (row_of 2 1 2) (row_of 2 1 2) (even_end m) (even_end m)) before)
      (even_end m) high
    where
      before : (k : ℕ) → k < suc m → of_piece even (suc m) k ≡ false
      before zero h = of-piece even (suc m) 0 (row_of 2 1 2) (row_of 2 1 0) (even_end m) refl
      before (suc k) h = of-piece even (suc m) (suc k) (row_of 2 1 2) (row_of 2 2 1) (even_end m) (even-at m k (omega arith))

      high : high_bit even (suc m) ≡ 0
      high = high_is even (suc m) (row_of 2 1 2) (row_of 2 1 2 ∷ []) 1 (even_end m) (even_left m) (unfold width_in_rows in refl)

  even_from : (k i : ℕ) → i + k ≡ m → numbers_from even (suc i) (even_rest k) ≡ times k (piece 0 2 2 1 0 (2 * m)) ++ piece 0 2 1 2 0 0
  unfolding numbers_from
  even_from zero i e = let f : i ≡ m = omega arith in rw (f, even_last)
  even_from (suc k) i e = ap₂ (λ (x y : List ℕ). x ++ y) (even_between i (omega arith)) (even_from k (suc i) (omega arith))

  pub even_numbers : answer_numbers (even_rows m) ≡ piece 0 2 1 0 0 (2 * m + 1) ++ times m (piece 0 2 2 1 0 (2 * m)) ++ piece 0 2 1 2 0 0
  unfolding answer_numbers numbers_from
  even_numbers = ap₂ (λ (x y : List ℕ). x ++ y) even_first (even_from m 0 (omega arith))

-- A single bit, two single bits n times, the first of them once more, and a single bit.
abbrev odd_rest : ℕ → List AnswerRow
odd_rest k = copies k (row_of 2 1 1 ∷ row_of 2 1 2 ∷ []) (row_of 2 1 1 ∷ row_of 2 1 3 ∷ [])

twice : (i : ℕ) → 2 * suc i ≡ suc (suc (2 * i))
twice i = omega arith

odd_at : (k i : ℕ) → i ≤ k → get_or (odd_rest k) (2 * i) no_answer_row ≡ row_of 2 1 1
odd_at zero zero l = refl
odd_at zero (suc i) l = absurd (omega arith)
odd_at (suc k) zero l = refl
odd_at (suc k) (suc i) l = rw (twice i) (odd_at k i (omega arith))

odd_next : (k i : ℕ) → i < k → get_or (odd_rest k) (suc (2 * i)) no_answer_row ≡ row_of 2 1 2
odd_next zero i l = absurd (omega arith)
odd_next (suc k) zero l = refl
odd_next (suc k) (suc i) l = rw (twice i) (odd_next k i (omega arith))

odd_end : (k : ℕ) → get_or (odd_rest k) (suc (2 * k)) no_answer_row ≡ row_of 2 1 3
odd_end zero = refl
odd_end (suc k) = rw (twice k) (odd_end k)

odd_left : (k : ℕ) → drop (suc (2 * k)) (odd_rest k) ≡ row_of 2 1 3 ∷ []
odd_left zero = refl
odd_left (suc k) = rw (twice k) (odd_left k)

odd_width : (k : ℕ) → width_in_rows (odd_rest k) 0 ≡ 2 * k + 2
unfolding width_in_rows
odd_width zero = refl
odd_width (suc k) = omega (arith, odd_width k)

-- only the last has fresh number 3
odd_others : (k i : ℕ) → i < suc (2 * k) → eqb (get_or (odd_rest k) i no_answer_row).fresh 3 ≡ false
odd_others zero zero l = refl
odd_others zero (suc i) l = absurd (omega arith)
odd_others (suc k) zero l = refl
odd_others (suc k) (suc zero) l = refl
odd_others (suc k) (suc (suc i)) l = odd_others k i (omega arith)

module _ (n : ℕ) (some : 1 ≤ n) where
  abbrev odd : List AnswerRow
  odd = odd_rows n

  odd_first : answer_row_numbers odd 0 ≡ piece 0 2 1 0 0 (2 * n + 2)
  odd_first =
      row_is odd 0 0 (row_of 2 1 0) (row_of 2 1 0) (2 * n + 2) refl (home_is odd 0 0 refl (omega arith) refl (λ i l. absurd (omega arith))) refl
      (high_is odd 0 (row_of 2 1 0) odd (2 * n + 3) refl refl (unfold width_in_rows in omega (arith, odd_width n)) ∙ omega arith)

  one : answer_row_at odd 1 ≡ row_of 2 1 1
  one = odd_at n 0 (omega arith)

  two : answer_row_at odd 2 ≡ row_of 2 1 2
  two = odd_next n 0 (omega arith)

  odd_one : (i : ℕ) → i ≤ n → answer_row_numbers odd (suc (2 * i)) ≡ piece 0 2 1 1 0 (2 * n + 1)
  odd_one i l =
      row_is odd (suc (2 * i)) 1 (row_of 2 1 1) (row_of 2 1 1) (2 * n + 1) (odd_at n i l)
      (home_is odd (suc (2 * i)) 1 (ap is_fresh (odd_at n i l)) (omega arith)
      (of-piece odd (suc (2 * i)) 1 (row_of 2 1 1) (row_of 2 1 1) (odd_at n i l) one) before)
      one (high_is odd 1 (row_of 2 1 1) (odd_rest n) (2 * n + 2) one refl (odd_width n) ∙ omega arith)
    where
      before : (k : ℕ) → k < 1 → of_piece odd (suc (2 * i)) k ≡ false
      before zero h = of-piece odd (suc (2 * i)) 0 (row_of 2 1 1) (row_of 2 1 0) (odd_at n i l) refl
      before (suc k) h = absurd (omega arith)

  odd_two : (i : ℕ) → i < n → answer_row_numbers odd (suc (suc (2 * i))) ≡ piece 0 2 1 2 0 (2 * n)
  odd_two i l =
      row_is odd (suc (suc (2 * i))) 2 (row_of 2 1 2) (row_of 2 1 2) (2 * n) (odd_next n i l)
      (home_is odd (suc (suc (2 * i))) 2 (ap is_fresh (odd_next n i l)) (omega arith)
      (of-piece odd (suc (suc (2 * i))) 2 (row_of 2 1 2) (row_of 2 1 2) (odd_next n i l) two) before)
      two (high_is odd 2 (row_of 2 1 2) (drop 1 (odd_rest n)) (2 * n + 1) two refl (left n some) ∙ omega arith)
    where
      before : (k : ℕ) → k < 2 → of_piece odd (suc (suc (2 * i))) k ≡ false
      before zero h = of-piece odd (suc (suc (2 * i))) 0 (row_of 2 1 2) (row_of 2 1 0) (odd_next n i l) refl
      before (suc zero) h = of-piece odd (suc (suc (2 * i))) 1 (row_of 2 1 2) (row_of 2 1 1) (odd_next n i l) one
      before (suc (suc k)) h = absurd (omega arith)

      left : (k : ℕ) → 1 ≤ k → width_in_rows (drop 1 (odd_rest k)) 0 ≡ 2 * k + 1
      left zero h = absurd (omega arith)
      left (suc k) h = unfold width_in_rows in omega (arith, odd_width k)

  odd_last : answer_row_numbers odd (suc (suc (2 * n))) ≡ piece 0 2 1 3 0 0
  odd_last =
      row_is odd (suc (suc (2 * n))) (suc (suc (2 * n))) (row_of 2 1 3) (row_of 2 1 3) 0 (odd_end n)
      (home_is odd (suc (suc (2 * n))) (suc (suc (2 * n))) (ap is_fresh (odd_end n)) (omega arith)
      (of-piece odd (suc (suc (2 * n))) (suc (suc (2 * n))) (row_of 2 1 3) (row_of 2 1 3) (odd_end n) (odd_end n)) before)
      (odd_end n) (high_is odd (suc (suc (2 * n))) (row_of 2 1 3) (row_of 2 1 3 ∷ []) 1 (odd_end n) (odd_left n) (unfold width_in_rows in refl))
    where
      before : (k : ℕ) → k < suc (suc (2 * n)) → of_piece odd (suc (suc (2 * n))) k ≡ false
      before zero h = of-piece odd (suc (suc (2 * n))) 0 (row_of 2 1 3) (row_of 2 1 0) (odd_end n) refl
      before (suc k) h =
          of-piece odd (suc (suc (2 * n))) (suc k) (row_of 2 1 3) (answer_row_at odd (suc k)) (odd_end n) refl
          ∙ ap (λ (b : Bool). is_fresh (answer_row_at odd (suc k)) && b) (odd_others n k (omega arith))
          ∙ and-false (is_fresh (answer_row_at odd (suc k)))

  odd_from : (k i : ℕ) → i + k ≡ n
      → numbers_from odd (suc (2 * i)) (odd_rest k) ≡ times k (piece 0 2 1 1 0 (2 * n + 1) ++ piece 0 2 1 2 0 (2 * n)) ++ piece 0 2 1 1 0 (2 * n + 1) ++ piece 0 2 1 3 0 0
  unfolding numbers_from
  odd_from zero i e = let f : i ≡ n = omega arith in rw (f, odd_one n (omega arith), odd_last)
  odd_from (suc k) i e =
      rw (odd_one i (omega arith), odd_two i (omega arith))
      (ap (λ (l : List ℕ). piece 0 2 1 1 0 (2 * n + 1) ++ piece 0 2 1 2 0 (2 * n) ++ l)
      (ap (λ (j : ℕ). numbers_from odd (suc j) (odd_rest k)) (sym (twice i)) ∙ odd_from k (suc i) (omega arith)))

  pub odd_numbers : answer_numbers (odd_rows n)
      ≡ piece 0 2 1 0 0 (2 * n + 2) ++ times n (piece 0 2 1 1 0 (2 * n + 1) ++ piece 0 2 1 2 0 (2 * n)) ++ piece 0 2 1 1 0 (2 * n + 1) ++ piece 0 2 1 3 0 0
  unfolding answer_numbers numbers_from
  odd_numbers = ap₂ (λ (x y : List ℕ). x ++ y) odd_first (odd_from n 0 (omega arith))
