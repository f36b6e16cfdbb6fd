-- (f) What other calls say of rearranged tables (document 02, (xiv)): a solve in whole pieces says the same of both, they compare as 0, and either
-- gives the same record on all recordings and makes the same patterns with the same refusals. Marker positions stand in OrderAndSides.antt.
-- Assumes nothing.
use mathlib.Core.Path.{◌≡◌, refl, sym, ◌∙◌, ap, ap₂}
use mathlib.Core.List.{List, [], ◌∷◌}
use Prim.Native.Nat.{ℕ}
use lib.ListN.{length}
use Rattle.terms.specs.Faults.{Accepted, first_fault}
use Rattle.terms.specs.Counting.{NoLines}
use Rattle.terms.specs.Table.{rows_of, satisfies}
use Rattle.answers.specs.Answer.{variable_widths}
use Rattle.assignments.specs.Matching.{other_answer, make_stops, make_record, make_after, make_work}
use Rattle.recordings.proofs.Alike.{same_sheet}
use Rattle.inclusion.specs.Call.{compared_record}
use Rattle.inclusion.specs.Comparing.{Comparable}
use Rattle.inclusion.proofs.Stops.{compare_is, outcome_is}
use Rattle.inclusion.proofs.Theorems.{compared}
use Rattle.order.specs.Rearranged.{Rearranged, AlikeAnswers, AlikeCalls, AlikePieces, AlikeCompared, AlikeRecordings, AlikePatterns}
use Rattle.order.proofs.Rearranged.{same_patterns}
use Rattle.order.proofs.OrderAndSides.{order_and_sides, order_and_sides_call}

module _ (first second : List ℕ) (first_accepted : first_fault first ≡ Accepted) (second_accepted : first_fault second ≡ Accepted)
    (first_no_lines : NoLines (rows_of first)) (second_no_lines : NoLines (rows_of second)) (h : Rearranged (rows_of first) (rows_of second)) where
  patterns : ((p : List ℕ) → satisfies (rows_of first) p ≡ satisfies (rows_of second) p) × (variable_widths (rows_of first) ≡ variable_widths (rows_of second))
  patterns = same_patterns (rows_of first) (rows_of second) first_no_lines second_no_lines h

  pub order_and_sides_pieces : (answer work : List ℕ) → AlikePieces first second answer work
  order_and_sides_pieces answer work =
      let c : AlikeCalls first second answer work = order_and_sides_call first second first_accepted second_accepted first_no_lines second_no_lines h answer work in
      record { records = c.records; left = ap₂ (λ (x y : List ℕ). x ∷ y ∷ []) c.answer-left c.work_left }

  pub order_and_sides_compared : AlikeCompared first second
  order_and_sides_compared =
      record {
        compared = λ room enough.
            let c : Comparable first second room =
            record { first_accepted = first_accepted; second_accepted = second_accepted; same-variables = patterns.1; enough = enough } in
            compare_is first second room c
            ∙ ap compared_record (sym (outcome_is first second room c) ∙ (compared first second room c).same.of (λ p a. patterns.0 p));
      }

  pub order_and_sides_recordings : AlikeRecordings first second
  order_and_sides_recordings = record { records = same_sheet first second first_accepted second_accepted patterns.1 (λ p a. patterns.0 p) }

  -- the call stops at the same place
  same_stops : (answer fresh : List ℕ) (room work_room : ℕ) → make_stops first answer fresh room work_room ≡ make_stops second answer fresh room work_room
  unfolding make_stops other_answer
  same_stops answer fresh room work_room =
      let same : AlikeAnswers (rows_of first) (rows_of second) = order_and_sides first second first_accepted second_accepted first_no_lines second_no_lines h in
      rw (first_accepted, second_accepted, same.records.outcome, same.rows) refl

  pub order_and_sides_patterns : (answer fresh output work : List ℕ) → AlikePatterns first second answer fresh output work
  unfolding make_record make_after make_work
  order_and_sides_patterns answer fresh output work =
      record {
        records = rw (same_stops answer fresh (length output) (length work)) refl;
        output_left = rw (same_stops answer fresh (length output) (length work)) refl;
        work_left = rw (same_stops answer fresh (length output) (length work)) refl;
      }
