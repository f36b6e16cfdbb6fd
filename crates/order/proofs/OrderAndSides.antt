-- Neither the order of equations nor which side of one is left matters (document 02, (xiv)): the same patterns meet both tables, so their answers
-- are equal, and so is what a solve and a search for marker positions yield, but for ties and row of a never. Assumes nothing.
use mathlib.Core.Path.{◌≡◌, refl, sym, ◌∙◌, ap, fun_ext}
use mathlib.Core.Bool.{Bool, true, false, ◌||◌, cond}
use mathlib.Core.Logic.{◌≢◌}
use mathlib.Core.List.{List}
use Prim.Native.Nat.{ℕ}
use native.Mathlib.Omega.{arith}
use lib.Dec.{ltb}
use lib.ListN.{length, take}
use Rattle.terms.specs.declared.Row.{Row}
use Rattle.terms.specs.Calls.{refusal, stop_at}
use Rattle.terms.specs.Faults.{Accepted, first_fault}
use Rattle.terms.specs.Counting.{NoLines}
use Rattle.terms.specs.Table.{rows_of, bits_of, count_kind, satisfies}
use Rattle.terms.proofs.Alike.{alike_bits, alike-count}
use Rattle.answers.specs.Answer.{variable_widths}
use Rattle.answers.specs.Solve.{valid, unsatisfiable, answer_record, solve_record, answer_after, work_after}
use Rattle.answers.specs.Demands.{SameAnswer}
use Rattle.answers.proofs.Demands.{same_answer, demand_3}
use Rattle.windows.specs.Words.{words_bits}
use Rattle.windows.specs.Call.{meets_front, starts_from, positions_of, breaks41, positions_record, positions_after}
use Rattle.order.specs.Rearranged.{Rearranged, AlikeRecords, AlikeAnswers, AlikeCalls, AlikePositions}
use Rattle.order.proofs.Rearranged.{rearranged_alike, same_patterns}

-- the row of an answer that is no never is 0
row_zero : (t : List Row) → (answer_record t).outcome ≢ 1 → (answer_record t).row ≡ 0
unfolding answer_record
row_zero t e = go (valid t) refl (unsatisfiable t) refl
  where
    go : (v : Bool) → valid t ≡ v → (n : Bool) → unsatisfiable t ≡ n → (answer_record t).row ≡ 0
    go true h n k = rw h refl
    go false h true k = let o : (answer_record t).outcome ≡ 1 = rw (h, k) refl in absurd (e o)
    go false h false k = rw (h, k) refl

module _ (first second : List ℕ) (first_accepted : first_fault first ≡ Accepted) (second_accepted : first_fault second ≡ Accepted)
    (first_no_lines : NoLines (rows_of first)) (second_no_lines : NoLines (rows_of second)) (h : Rearranged (rows_of first) (rows_of second)) where
  abbrev t : List Row
  t = rows_of first

  abbrev u : List Row
  u = rows_of second

  patterns : ((p : List ℕ) → satisfies t p ≡ satisfies u p) × (variable_widths t ≡ variable_widths u)
  patterns = same_patterns t u first_no_lines second_no_lines h

  same : SameAnswer t u
  same = same_answer t u patterns.1 (λ p a. patterns.0 p)

  bits : bits_of u ≡ bits_of t
  bits = alike_bits 4 (omega arith) u t (rearranged_alike t u h)

  other : (answer_record t).outcome ≢ 1 → (answer_record u).outcome ≢ 1
  other e o = e (same.same_outcome ∙ o)

  -- (b) The answers are equal: ties are the variable bits less the free ones.
  pub order_and_sides : AlikeAnswers (rows_of first) (rows_of second)
  order_and_sides =
      record {
        records =
            record {
              outcome = same.same_outcome;
              pieces = same.same_pieces;
              fresh = same.same_fresh;
              free = same.same_free;
              ties = λ e. omega (arith, (demand_3 first first_accepted).free_and-ties e, (demand_3 second second_accepted).free_and-ties (other e), same.same_free, bits);
              row = λ e. row_zero t e ∙ sym (row_zero u (other e));
            };
        rows = same.same_rows;
      }

  -- (c) A solve of either yields the same, whatever is lent to it: with too little memory both are refused 10, else both are accepted.
  same_call : (answerRoom work_room : ℕ) → AlikeRecords (solve_record first answerRoom work_room) (solve_record second answerRoom work_room)
  unfolding solve_record stop_at
  same_call answerRoom work_room = rw (first_accepted, second_accepted) (go (ltb answerRoom 24576 || ltb work_room 16384))
    where
      go : (b : Bool) → AlikeRecords (cond b (refusal 10 0) (answer_record t)) (cond b (refusal 10 0) (answer_record u))
      go true = record { outcome = refl; pieces = refl; fresh = refl; free = refl; ties = λ e. refl; row = λ e. refl }
      go false = order_and_sides.records

  pub order_and_sides_call : (answer work : List ℕ) → AlikeCalls first second answer work
  order_and_sides_call answer work =
      record {
        records = records;
        answer-left = unfold answer_after in (rw (records.outcome, same.same_rows));
        work_left = unfold work_after in (rw records.outcome);
      }
    where
      records : AlikeRecords (solve_record first (length answer) (length work)) (solve_record second (length answer) (length work))
      records = same_call (length answer) (length work)

  -- (f) The marker positions of either are the same in every run.
  pub order_and_sides_positions : (words : List ℕ) → AlikePositions first second words
  order_and_sides_positions words =
      record {
        starts = starts;
        records = recorded;
        list_left = λ list. unfold positions_after in (rw (recorded, starts));
      }
    where
      variables : count_kind 0 u ≡ count_kind 0 t
      variables = alike-count 4 0 u t (rearranged_alike t u h)

      meets : meets_front t ≡ meets_front u
      meets = fun_ext (λ rest. unfold meets_front in (rw (variables, patterns.0 (words_bits (take (count_kind 0 t) rest)))))

      starts : positions_of t words ≡ positions_of u words
      starts = unfold positions_of in (ap (λ (f : List ℕ → Bool). starts_from f 0 words) meets)

      refused : breaks41 t ≡ breaks41 u
      refused = unfold breaks41 in (rw (variables, patterns.1))

      recorded : positions_record first words ≡ positions_record second words
      recorded = unfold positions_record in (rw (refused, starts, first_accepted, second_accepted))
