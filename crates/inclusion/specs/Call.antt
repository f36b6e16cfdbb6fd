-- Old layout against new: what the call returns and leaves, for every input (document 02, (xii)). Two tables are compared by the assignments
-- (patterns) that satisfy (meet) them, and by nothing else.
use Rattle.std.specs.Prelude.{Bool, true, false, not, cond, List, [], ◌∷◌, ℕ, ltb, length, replicate}
use Rattle.terms.specs.declared.Record.{Record}
use Rattle.terms.specs.declared.Row.{Row}
use Rattle.terms.specs.Assignments.{every}
use Rattle.terms.specs.Table.{rows_of, bits_of, same_word, satisfies}
use Rattle.terms.specs.Faults.{is_accepted, first_fault}
use Rattle.terms.specs.Calls.{refusal, fault_record, stop_at, stopped}
use Rattle.laws.specs.Bools.{implies}
use Rattle.answers.specs.Answer.{variable_widths}

-- Whether every assignment that satisfies t satisfies u.
unfoldable pub among : List Row → List Row → Bool
among t u = every (bits_of t) (λ p. implies (satisfies t p) (satisfies u p))

-- The outcome, from whether those of t are among those of u, and the reverse. 0: the same. 1: those of t are among those of u, and fewer. 2: the
-- reverse. 3: neither.
abbrev pub outcome_of : Bool → Bool → ℕ
outcome_of true true = 0
outcome_of true false = 1
outcome_of false true = 2
outcome_of false false = 3

unfoldable pub comparison : List Row → List Row → ℕ
comparison t u = outcome_of (among t u) (among u t)

-- 49: differing widths or numbers of variables
unfoldable pub breaks49 : List Row → List Row → Bool
breaks49 t u = not (same_word (variable_widths t) (variable_widths u))

-- Where the call stops, with a work area of so many numbers. 10: the work area below 16,384
unfoldable pub compare_stops : List ℕ → List ℕ → ℕ → List (Bool × Record)
compare_stops first second work_room =
    (ltb work_room 16384, refusal 10 0)
    ∷ (not (is_accepted (first_fault first)), fault_record (first_fault first))
    ∷ (not (is_accepted (first_fault second)), fault_record (first_fault second))
    ∷ (breaks49 (rows_of first) (rows_of second), refusal 49 0)
    ∷ []

-- The record of a comparison: 0 but for its outcome.
abbrev pub compared_record : ℕ → Record
compared_record outcome = record { outcome = outcome; pieces = 0; fresh = 0; free = 0; ties = 0; row = 0 }

-- The record of the call.
unfoldable pub compare_record : List ℕ → List ℕ → ℕ → Record
compare_record first second work_room = stop_at (compare_stops first second work_room) (compared_record (comparison (rows_of first) (rows_of second)))

-- The work area after the call: every number 0; what was there, if the call stops.
unfoldable pub compare_work : List ℕ → List ℕ → List ℕ → List ℕ
compare_work first second old = cond (stopped (compare_stops first second (length old))) old (replicate (length old) 0)
