-- What a solve returns, and what it leaves in the buffers lent to it, for every input (document 01, "The solver's answer" and "Where a
-- call stops"). The answer's rows are a function of the assignments that satisfy the table, and of nothing else.
use Rattle.std.specs.Prelude.{Bool, not, ◌||◌, cond, List, [], ◌∷◌, ◌++◌, ℕ, suc, eqb, ltb, length, replicate, take}
use Rattle.terms.specs.declared.Record.{Record}
use Rattle.terms.specs.declared.Row.{Row}
use Rattle.terms.specs.Assignments.{every}
use Rattle.terms.specs.Calls.{refusal, fault_record, stop_at}
use Rattle.laws.specs.Buffers.{overwrite}
use Rattle.terms.specs.Faults.{is_accepted, first_fault}
use Rattle.terms.specs.Table.{rows_of, bits_of, values_of, sides_agree, all_rows, counting, satisfies}
use Rattle.answers.specs.Pairs.{Pair, equation_pairs, ties, equal_under}
use Rattle.laws.specs.Lists.{least}
use Rattle.answers.specs.declared.AnswerRow.{AnswerRow}
use Rattle.answers.specs.Answer.{variable_widths, answer_rows, answer_numbers, fresh_pieces, free_bits}

-- Whether every assignment satisfies a table; whether none does.
unfoldable pub valid : List Row → Bool
valid t = every (bits_of t) (satisfies t)

unfoldable pub unsatisfiable : List Row → Bool
unsatisfiable t = every (bits_of t) (λ p. not (satisfies t p))

-- Whether an assignment satisfies the equations up to row r, of those that count in the whole table, and the lowest row at which none is left.
unfoldable pub satisfies_to : List Row → ℕ → List ℕ → Bool
satisfies_to t r p = all_rows (sides_agree (values_of t p)) (take (suc r) (counting t))

unfoldable pub unsat_row : List Row → ℕ
unsat_row t = least (λ r. every (bits_of t) (λ p. not (satisfies_to t r p))) 0 (length t)

-- The bit pairs of several equations in one list, in their order; the ties of the equations before row r.
unfoldable pub pairs_together : List (List Pair) → List Pair
pairs_together [] = []
pairs_together (e ∷ es) = e ++ pairs_together es

unfoldable pub ties_to : List Row → ℕ → ℕ
ties_to t r = ties (bits_of t) [] (pairs_together (take r (equation_pairs t)))

-- The rows of the answer table.
unfoldable pub solved_rows : List Row → List AnswerRow
solved_rows t = answer_rows (bits_of t) (variable_widths t) (equal_under (bits_of t) (satisfies t))

-- The record of an accepted table. Outcome 0: always.
abbrev pub always_record : ℕ → Record
always_record bits = record { outcome = 0; pieces = 0; fresh = 0; free = bits; ties = 0; row = 0 }

-- 1: never
abbrev pub never_record : ℕ → ℕ → Record
never_record tied row = record { outcome = 1; pieces = 0; fresh = 0; free = 0; ties = tied; row = row }

-- 2: solved
abbrev pub solved_record : List AnswerRow → ℕ → Record
solved_record rows tied = record { outcome = 2; pieces = length rows; fresh = fresh_pieces rows; free = free_bits rows; ties = tied; row = 0 }

unfoldable pub answer_record : List Row → Record
answer_record t =
    cond (valid t) (always_record (bits_of t))
    (cond (unsatisfiable t) (never_record (ties_to t (unsat_row t)) (unsat_row t))
    (solved_record (solved_rows t) (ties_to t (length t))))

-- The record of a call, where the answer table and the work area have room for so many numbers. 10: the answer table below 24,576
-- or the work area below 16,384
unfoldable pub solve_record : List ℕ → ℕ → ℕ → Record
solve_record table answerRoom work_room =
    stop_at
    ((ltb answerRoom 24576 || ltb work_room 16384, refusal 10 0)
    ∷ (not (is_accepted (first_fault table)), fault_record (first_fault table))
    ∷ [])
    (answer_record (rows_of table))

-- The answer table after a call: for outcome 2 the rows and then what was there; else what was there.
unfoldable pub answer_after : List ℕ → List ℕ → ℕ → List ℕ
answer_after table old work_room =
    cond (eqb (solve_record table (length old) work_room).outcome 2) (overwrite (answer_numbers (solved_rows (rows_of table))) old) old

-- The work area after a call: every number 0 if it is accepted, with outcome 0, 1 or 2; what was there, if it is refused.
unfoldable pub work_after : List ℕ → ℕ → List ℕ → List ℕ
work_after table answerRoom old = cond (ltb (solve_record table answerRoom (length old)).outcome 3) (replicate (length old) 0) old
