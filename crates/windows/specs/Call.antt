-- The marker positions of a run of words, and what the call returns and writes, for every input (document 02, (ii)).
use Rattle.std.specs.Prelude.{Bool, not, ◌&&◌, ◌||◌, cond, List, [], ◌∷◌, ℕ, suc, eqb, leb, ltb, length, take}
use Rattle.terms.specs.declared.Record.{Record}
use Rattle.terms.specs.declared.Row.{Row}
use Rattle.terms.specs.Table.{rows_of, count_kind, satisfies}
use Rattle.terms.specs.Faults.{is_accepted, first_fault}
use Rattle.terms.specs.Calls.{refusal, completed, fault_record, stop_at}
use Rattle.laws.specs.Buffers.{overwrite}
use Rattle.answers.specs.Answer.{variable_widths}
use Rattle.windows.specs.Words.{words_bits, sixteens}

-- Whether the first words of what is left of a run, one for each variable of a table, meet (satisfy) it. Word j is variable j.
unfoldable pub meets_front : List Row → List ℕ → Bool
meets_front t rest = leb (count_kind 0 t) (length rest) && satisfies t (words_bits (take (count_kind 0 t) rest))

-- The starts in a run at which what is left of it passes a test. The first word is number i.
unfoldable pub starts_from : (List ℕ → Bool) → ℕ → List ℕ → List ℕ
starts_from test i [] = []
starts_from test i (w ∷ words) = cond (test (w ∷ words)) (i ∷ starts_from test (suc i) words) (starts_from test (suc i) words)

-- The starts, numbered from 0, at which a run meets a table.
unfoldable pub positions_of : List Row → List ℕ → List ℕ
positions_of t words = starts_from (meets_front t) 0 words

-- 41: no variable, or one that is not 16 bits
unfoldable pub breaks41 : List Row → Bool
breaks41 t = eqb (count_kind 0 t) 0 || not (sixteens (variable_widths t))

-- 42: more than 1,048,576 words
unfoldable pub breaks42 : List ℕ → Bool
breaks42 words = ltb 1048576 (length words)

-- The record of the call: all starts count as pieces, whatever the list can take.
unfoldable pub positions_record : List ℕ → List ℕ → Record
positions_record table words =
    stop_at
    ((not (is_accepted (first_fault table)), fault_record (first_fault table))
    ∷ (breaks41 (rows_of table), refusal 41 0)
    ∷ (breaks42 words, refusal 42 0)
    ∷ [])
    (completed (length (positions_of (rows_of table) words)) 0)

-- The list after the call: the starts, as many as it can take, and then what was there; what was there, if the call is refused.
unfoldable pub positions_after : List ℕ → List ℕ → List ℕ → List ℕ
positions_after table words old =
    cond (eqb (positions_record table words).outcome 0) (overwrite (positions_of (rows_of table) words) old) old
