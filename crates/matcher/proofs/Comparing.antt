-- Two runs of numbers compared, and an answer compared with what a solve has left: three ways in which that ends. Assumes nothing.
use mathlib.Core.Path.{◌≡◌, refl, sym, ◌∙◌, ap, ap₂}
use mathlib.Core.Bool.{Bool, true, false, not, ◌&&◌}
use mathlib.Core.List.{List}
use Prim.Native.Nat.{ℕ, suc, ◌+◌, ◌*◌, ◌≤◌, ◌<◌}
use native.Mathlib.Omega.{arith}
use lib.Bits.{bit_or, bit_xor}
use lib.Dec.{eqb}
use lib.ListN.{length, get_or, take, drop, length-take}
use lib.Seq.{get_or-take, ext_get_or, take_at}
use borrow.Author.Tests.{eqb-true, eq-eqb, ne_eqb}
use Rattle.laws.specs.Lists.{below}
use Rattle.laws.proofs.Bools.{same_test}
use Rattle.laws.proofs.Tallies.{below_of, below_at}
use Rattle.terms.specs.declared.Record.{Record}
use Rattle.terms.specs.Faults.{Accepted, first_fault}
use Rattle.terms.specs.Table.{rows_of, bits_of, same_word}
use Rattle.terms.proofs.Satisfies.{same-word, word_same}
use Rattle.answers.specs.Answer.{answer_numbers}
use Rattle.answers.specs.Solve.{solved_rows, answer_record}
use Rattle.answers.proofs.AnswerNumbers.{numbers_length}
use Rattle.answers.proofs.Demands.{demand_3}
use Rattle.solver.specs.inner.Call.{answer_over, Answered}
use Rattle.solver.proofs.Concluding.{solved_few}
use Rattle.laws.proofs.Buffers.{overwrite-fits}
use Rattle.assignments.specs.Matching.{other_answer}
use Rattle.areas.specs.inner.Areas.{agree}
use Rattle.areas.proofs.Areas.{or_none, xor_none}

-- one number more of two runs
pub differ_more : (xs ys : List ℕ) (i d x y : ℕ) → x ≡ get_or xs i 0 → y ≡ get_or ys i 0 → eqb d 0 ≡ below i (λ k. eqb (get_or xs k 0) (get_or ys k 0))
    → eqb (bit_or d (bit_xor y x)) 0 ≡ below (i + 1) (λ k. eqb (get_or xs k 0) (get_or ys k 0))
unfolding below
differ_more xs ys i d x y e f h =
    let one : i + 1 ≡ suc i = omega arith in
    or_none d (bit_xor y x) ∙ ap₂ (λ (a b : Bool). a && b) (xor_none y x ∙ ap₂ eqb e f) h
    ∙ ap (λ (j : ℕ). below j (λ k. eqb (get_or xs k 0) (get_or ys k 0))) (sym one)

-- a run that is as long as the numbers with which another begins agrees with it exactly if it is those numbers
agree_same : (numbers answer own : List ℕ) → length answer ≡ length numbers → take (length numbers) own ≡ numbers → agree answer own ≡ same_word numbers answer
unfolding agree
agree_same numbers answer own l t =
    same_test (agree answer own) (same_word numbers answer)
    (λ h. ap (same_word numbers) (sym (ext_get_or 0 numbers answer (sym l) (λ i k. sym (eqb-true _ _ (below_at _ same h i (omega (arith, long))) ∙ read i k)))) ∙ word_same numbers)
    (λ h. below_of _ same (λ i k. eq-eqb _ _ (ap (λ (w : List ℕ). get_or w i 0) (sym (same-word numbers answer h)) ∙ sym (read i (omega (arith, l, k))))))
  where
    same : ℕ → Bool
    same i = eqb (get_or answer i 0) (get_or own i 0)

    long : length numbers ≤ length own
    long = omega (arith, ap length t, length-take (length numbers) own)

    read : (i : ℕ) → i < length numbers → get_or own i 0 ≡ get_or numbers i 0
    read i k = sym (get_or-take (length numbers) own i 0 k) ∙ ap (λ (w : List ℕ). get_or w i 0) t

-- what a solve with room has left
module _ (table answer own own' : List ℕ) (accepted : first_fault table ≡ Accepted) (room : bits_of (rows_of table) * 6 ≤ length own)
    (r : Record) (A : Answered (rows_of table) own own' r) where
  solved : r ≡ answer_record (rows_of table)
  solved = A.record_is

  pub no_answer : (r.outcome ≡ 2 → ⊥) → (b : Bool) → b ≡ true → b ≡ other_answer table answer
  unfolding other_answer
  no_answer n b e = e ∙ rw (← solved, ne_eqb r.outcome 2 n) refl

  module _ (two : r.outcome ≡ 2) where
    outcome_is : (answer_record (rows_of table)).outcome ≡ 2
    outcome_is = ap (λ (q : Record). q.outcome) (sym solved) ∙ two

    count : length (answer_numbers (solved_rows (rows_of table))) ≡ r.pieces * 6
    count = numbers_length (solved_rows (rows_of table)) ∙ ap (λ (n : ℕ). n * 6) (sym ((demand_3 table accepted).solved_pieces outcome_is) ∙ ap (λ (q : Record). q.pieces) (sym solved))

    fits : length (answer_numbers (solved_rows (rows_of table))) ≤ length own
    fits = omega (arith, numbers_length (solved_rows (rows_of table)), solved_few (rows_of table), room)

    pub other_count : (length answer ≡ r.pieces * 6 → ⊥) → (b : Bool) → b ≡ true → b ≡ other_answer table answer
    unfolding other_answer
    other_count n b e = e ∙ rw (outcome_is) (sym (ap not (go (same_word (answer_numbers (solved_rows (rows_of table))) answer) refl)))
      where
        go : (t : Bool) → same_word (answer_numbers (solved_rows (rows_of table))) answer ≡ t → t ≡ false
        go true h = absurd (n (ap length (sym (same-word _ answer h)) ∙ count))
        go false h = refl

    begins : take (length (answer_numbers (solved_rows (rows_of table)))) own' ≡ answer_numbers (solved_rows (rows_of table))
    unfolding answer_over
    begins =
        ap (take (length (answer_numbers (solved_rows (rows_of table))))) (A.answer_is ∙ rw outcome_is (overwrite-fits (answer_numbers (solved_rows (rows_of table))) own fits))
        ∙ take_at (answer_numbers (solved_rows (rows_of table))) (drop (length (answer_numbers (solved_rows (rows_of table)))) own) (length (answer_numbers (solved_rows (rows_of table)))) refl

    pub compared : length answer ≡ r.pieces * 6 → (d : ℕ) → eqb d 0 ≡ agree answer own' → (b : Bool) → b ≡ not (eqb d 0) → b ≡ other_answer table answer
    unfolding other_answer
    compared l d h b e = e ∙ ap not (h ∙ agree_same (answer_numbers (solved_rows (rows_of table))) answer own' (l ∙ sym count) begins) ∙ rw outcome_is refl
