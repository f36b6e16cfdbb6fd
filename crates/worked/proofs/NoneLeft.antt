-- Case 5 at every width of 1 to 1,024: words u = v, v = 0, u = 1 of w bits. The ties of the first two equations are those of the table
-- without the third, which fixes every bit. Assumes nothing.
use mathlib.Core.Path.{◌≡◌, refl, sym, ◌∙◌, ap}
use mathlib.Core.Bool.{Bool, true, false, not, ◌&&◌, cond}
use mathlib.Core.List.{List, [], ◌∷◌, ◌++◌, reverse_aux}
use mathlib.Core.Logic.{◌⊎◌, inl, inr}
use Prim.Native.Nat.{ℕ, zero, suc, ◌+◌, ◌-◌, ◌*◌, ◌≤◌, ◌<◌}
use native.Mathlib.Omega.{arith}
use lib.ListN.{length, get_or, take, drop, replicate, length-replicate, length-drop, replicate-append-replicate}
use lib.Seq.{length-take-le, take_all, take_at, drop_at, get_or-take, get_or-drop}
use borrow.Author.Tests.{le-ltb, ne_eqb}
use Rattle.terms.specs.declared.Row.{Row}
use Rattle.terms.specs.Assignments.{Assignment, every}
use Rattle.terms.specs.Faults.{Accepted, first_fault}
use Rattle.terms.specs.Table.{rows_of, bits_of, bit_of, sources_of, evened, same_word, satisfies}
use Rattle.terms.proofs.Assignments.{assignment_length, every_of}
use Rattle.terms.proofs.Computed.{fault_computed, satisfies_computed}
use Rattle.terms.proofs.Filled.{same_even}
use Rattle.terms.proofs.Satisfies.{same-word, word_same}
use Rattle.laws.specs.Lists.{distinct}
use Rattle.laws.proofs.Bools.{and_parts}
use Rattle.laws.proofs.Least.{least_is}
use Rattle.laws.proofs.Numbers.{lt_or_le}
use Rattle.answers.specs.declared.AnswerRow.{AnswerRow}
use Rattle.answers.specs.Answer.{variable_widths, answer_rows, fixed_to, goes_on, place_row, placed, rows_to, is_fresh, fresh_numbers, fresh_pieces, fresh_start, free_bits}
use Rattle.answers.specs.Pairs.{pairs_of, pairs_in, equal_under}
use Rattle.answers.specs.Solve.{unsatisfiable, unsat_row, satisfies_to, ties_to, pairs_together, solved_rows, never_record, answer_record}
use Rattle.answers.proofs.Demands.{solved_sum}
use Rattle.answers.proofs.Tables.{not_valid}
use Rattle.worked.specs.Cases.{Holds, row, figures}
use Rattle.worked.specs.EveryWidth.{case5}
use Rattle.worked.proofs.Holding.{every_fails, solved_case}
use Rattle.worked.proofs.OneWord.{equal_in, alike, all_alike, false_of}

-- the fresh numbers of rows that are turned
fresh_turned : (rows seen : List AnswerRow) → fresh_numbers (reverse_aux rows seen) ≡ reverse_aux (fresh_numbers rows) (fresh_numbers seen)
unfolding fresh_numbers
fresh_turned [] seen = refl
fresh_turned (r ∷ rows) seen = fresh_turned rows (r ∷ seen) ∙ go (is_fresh r)
  where
    go : (b : Bool)
        → reverse_aux (fresh_numbers rows) (cond b (r.fresh ∷ fresh_numbers seen) (fresh_numbers seen))
        ≡ reverse_aux (cond b (r.fresh ∷ fresh_numbers rows) (fresh_numbers rows)) (fresh_numbers seen)
    go true = refl
    go false = refl

-- Where every bit is 0 the answer's rows have no fresh piece.
module _ (n : ℕ) (ws : List ℕ) (same : ℕ → ℕ → Bool) (zeros : (i : ℕ) → i < n → fixed_to same i 0 ≡ true) where
  one_more : (on : Bool) (r : AnswerRow) (rows : List AnswerRow) → r.kind ≡ 0 → fresh_numbers rows ≡ [] → fresh_numbers (placed on r rows) ≡ []
  unfolding placed fresh_numbers
  one_more on r [] k e = rw k
  one_more true r (s ∷ rows) k e = e
  one_more false r (s ∷ rows) k e = rw k e

  none-to : (i : ℕ) → i ≤ n → fresh_numbers (rows_to n ws same i) ≡ []
  unfolding rows_to place_row
  none-to zero l = unfold fresh_numbers in refl
  none-to (suc i) l =
      one_more (goes_on n ws same i) (place_row n ws same i) (rows_to n ws same i) (rw (zeros i (omega arith)) refl) (none-to i (omega arith))

  none_free : free_bits (answer_rows n ws same) ≡ 0
  unfolding answer_rows free_bits fresh_pieces fresh_start distinct fresh_numbers
  none_free =
      let none : fresh_numbers (answer_rows n ws same) ≡ [] = fresh_turned (rows_to n ws same n) [] ∙ rw (none-to n (omega arith)) refl in
      rw none refl

-- u, v and the fills in rows 0 to 3, then u = v and v = 0; and u = 1 after them.
abbrev two_equations : ℕ → List ℕ
two_equations w = row 0 w 0 0 ++ row 0 w 0 0 ++ row 1 0 w 0 ++ row 1 1 w 0 ++ row 4 0 1 0 ++ row 4 1 2 0

abbrev three_equations : ℕ → List ℕ
three_equations w = row 0 w 0 0 ++ row 0 w 0 0 ++ row 1 0 w 0 ++ row 1 1 w 0 ++ row 4 0 1 0 ++ row 4 1 2 0 ++ row 4 0 3 0

module _ (w : ℕ) (one : 1 ≤ w) (most : w ≤ 1024) where
  abbrev first_two : List Row
  first_two = rows_of (two_equations w)

  abbrev all_three : List Row
  all_three = rows_of (three_equations w)

  two_accepted : first_fault (two_equations w) ≡ Accepted
  unfolding fault_computed
  two_accepted =
      rw (
        ne_eqb w 0 (λ e. omega arith),
        le-ltb 1024 w most,
        le-ltb 4096 (w + 0) (omega arith),
        le-ltb 4096 (w + (w + 0)) (omega arith),
      )

  three_accepted : first_fault (three_equations w) ≡ Accepted
  unfolding fault_computed
  three_accepted =
      rw (
        ne_eqb w 0 (λ e. omega arith),
        le-ltb 1024 w most,
        le-ltb 4096 (w + 0) (omega arith),
        le-ltb 4096 (w + (w + 0)) (omega arith),
      )

  -- the ties of the equations before the third, in both
  ties_are : ties_to all_three 6 ≡ ties_to first_two 6
  unfolding ties_to pairs_in pairs_of pairs_together sources_of satisfies_computed
  ties_are = refl

  -- the bits of u and of v in a pattern
  abbrev u : List ℕ → List ℕ
  u p = take w p

  abbrev v : List ℕ → List ℕ
  v p = take w (drop (w + 0) p)

  abbrev zero_word : List ℕ
  zero_word = replicate w 0

  -- the pattern of zeros
  abbrev zeros : List ℕ
  zeros = zero_word ++ zero_word

  size : length zero_word ≡ w
  size = length-replicate w 0

  zeros_bits : Assignment (w + (w + 0)) zeros
  zeros_bits =
      let n : w + w ≡ w + (w + 0) = omega arith in
      let all : zeros ≡ replicate (w + (w + 0)) 0 = replicate-append-replicate w w 0 ∙ rw n refl in
      rw all (alike (w + (w + 0)) 0 (omega arith))

  u_zeros : u zeros ≡ zero_word
  u_zeros = take_at zero_word zero_word w size

  v_zeros : v zeros ≡ zero_word
  v_zeros = ap (take w) (drop_at zero_word zero_word (w + 0) (omega (arith, size))) ∙ take_all w zero_word (omega (arith, size))

  -- The pattern of zeros meets each row before the third equation,
  met_to : (r : ℕ) → r < 6 → satisfies_to all_three r zeros ≡ true
  unfolding satisfies_to satisfies_computed
  met_to zero l = refl
  met_to (suc zero) l = refl
  met_to (suc (suc zero)) l = refl
  met_to (suc (suc (suc zero))) l = refl
  met_to (suc (suc (suc (suc zero)))) l = rw (u_zeros, v_zeros, word_same (evened zero_word zero_word))
  met_to (suc (suc (suc (suc (suc zero))))) l = rw (u_zeros, v_zeros, word_same (evened zero_word zero_word))
  met_to (suc (suc (suc (suc (suc (suc r)))))) l = absurd (omega arith)

  met_two : satisfies first_two zeros ≡ true
  unfolding satisfies_computed
  met_two = rw (u_zeros, v_zeros, word_same (evened zero_word zero_word))

  -- and no other meets the first two,
  sized : (p : List ℕ) → length p ≡ w + (w + 0) → (length (u p) ≡ w) × (length (v p) ≡ w)
  sized p n = (length-take-le w p (omega arith), length-take-le w (drop (w + 0) p) (omega (arith, length-drop (w + 0) p)))

  -- words of one width are equal where they are found so
  equal_words : (x y : List ℕ) → length x ≡ w → length y ≡ w → same_word (evened x y) (evened y x) ≡ true → x ≡ y
  equal_words x y m n e = same-word x y (sym (same_even x y (m ∙ sym n)) ∙ e)

  both-zero : (p : List ℕ) → length p ≡ w + (w + 0) → (more : Bool)
      → same_word (evened (u p) (v p)) (evened (v p) (u p)) && (same_word (evened (v p) zero_word) (evened zero_word (v p)) && more) ≡ true
      → (u p ≡ zero_word) × (v p ≡ zero_word) × (more ≡ true)
  both-zero p n more e =
      let s = sized p n in
      let h = and_parts (same_word (evened (u p) (v p)) (evened (v p) (u p))) (same_word (evened (v p) zero_word) (evened zero_word (v p)) && more) e in
      let k = and_parts (same_word (evened (v p) zero_word) (evened zero_word (v p))) more h.1 in
      let second = equal_words (v p) zero_word s.1 size k.0 in
      (equal_words (u p) (v p) s.0 s.1 h.0 ∙ second, second, k.1)

  only : (p : List ℕ) → length p ≡ w + (w + 0) → satisfies first_two p ≡ true → (i : ℕ) → i < w + (w + 0) → get_or p i 0 ≡ 0
  unfolding satisfies_computed
  only p n e i l = go (lt_or_le i w)
    where
      go : (i < w) ⊎ (w ≤ i) → get_or p i 0 ≡ 0
      go (inl h) =
          sym (get_or-take w p i 0 h) ∙ ap (λ (word : List ℕ). get_or word i 0) (both-zero p n true e).0 ∙ all_alike w 0 i h
      go (inr h) =
          let at : w + 0 + (i - w) ≡ i = omega arith in
          ap (λ (j : ℕ). get_or p j 0) (sym at)
          ∙ sym (get_or-drop (w + 0) p (i - w) 0)
          ∙ sym (get_or-take w (drop (w + 0) p) (i - w) 0 (omega arith))
          ∙ ap (λ (word : List ℕ). get_or word (i - w) 0) (both-zero p n true e).1
          ∙ all_alike w 0 (i - w) (omega arith)

  -- so that these leave no bit free and every bit is a tie.
  none_left : free_bits (solved_rows first_two) ≡ 0
  unfolding solved_rows satisfies_computed bit_of
  none_left =
      none_free (w + (w + 0)) (variable_widths first_two) (equal_under (w + (w + 0)) (satisfies first_two))
      (λ i l. equal_in (w + (w + 0)) (satisfies first_two) (suc (suc i)) 0 (λ p a e. only p (assignment_length a) e i l))

  some : unsatisfiable first_two ≡ false
  unfolding unsatisfiable satisfies_computed
  some = every_fails (w + (w + 0)) (λ p. not (satisfies first_two p)) zeros zeros_bits (ap not met_two)

  ties_two : ties_to first_two 6 ≡ w + (w + 0)
  unfolding satisfies_computed
  ties_two = omega (arith, none_left, solved_sum (two_equations w) two_accepted some)

  -- No pattern meets all three.
  none_meets : (p : List ℕ) → length p ≡ w + (w + 0) → satisfies all_three p ≡ false
  unfolding satisfies_computed
  none_meets p n =
      false_of (satisfies all_three p)
      (λ e.
      let one_word = replicate w 1 in
      let third = same_word (evened (u p) one_word) (evened one_word (u p)) in
      let h = both-zero p n (third && true) e in
      let ones = equal_words (u p) one_word (sized p n).0 (length-replicate w 1) (and_parts third true h.2).0 in
      omega (arith, ap (λ (word : List ℕ). get_or word 0 0) (sym h.0 ∙ ones), all_alike w 0 0 one, all_alike w 1 0 one))

  never : unsatisfiable all_three ≡ true
  unfolding unsatisfiable satisfies_computed
  never =
      every_of (bits_of all_three) (λ p. not (satisfies all_three p)) (λ p a. ap not (none_meets p (assignment_length a)))

  row_6 : unsat_row all_three ≡ 6
  unfolding unsat_row satisfies_computed
  row_6 =
      least_is (λ r. every (w + (w + 0)) (λ p. not (satisfies_to all_three r p))) 7 0 6 (omega arith) (omega arith)
      (unfold unsatisfiable satisfies_to in never)
      (λ r l. every_fails (w + (w + 0)) (λ p. not (satisfies_to all_three r p)) zeros zeros_bits (ap not (met_to r l)))

  record_is : answer_record all_three ≡ never_record (2 * w) 6
  unfolding answer_record
  record_is =
      let all : ties_to all_three 6 ≡ 2 * w = omega (arith, ties_are, ties_two) in
      rw (not_valid (three_equations w) three_accepted never, never, row_6, all) refl

  -- Case 5.
  pub none_left_any : Holds (case5 w)
  none_left_any = solved_case (three_equations w) (figures 1 0 0 0 (2 * w) 6) three_accepted record_is [] refl
