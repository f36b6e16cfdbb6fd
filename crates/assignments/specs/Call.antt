-- What the pattern maker returns and writes, for every input (document 01, "Where a call stops").
use Rattle.std.specs.Prelude.{Bool, not, ◌||◌, cond, List, [], ◌∷◌, ℕ, eqb, ltb, length}
use Rattle.terms.specs.declared.Record.{Record}
use Rattle.terms.specs.Calls.{refusal, completed, stop_at}
use Rattle.laws.specs.Buffers.{overwrite}
use Rattle.laws.specs.Lists.{all_bits}
use Rattle.answers.specs.Answer.{free_bits, instantiate}
use Rattle.answers.specs.Answer.{answer_rows_of}
use Rattle.assignments.specs.Form.{pattern_bits, has_form}

-- 34: fresh bytes not as many as fresh bits, or one above 1
unfoldable pub wrong_fresh : List ℕ → List ℕ → Bool
wrong_fresh answer fresh = not (eqb (length fresh) (free_bits (answer_rows_of answer))) || not (all_bits fresh)

-- The record, where the output has room for so many bytes. 33: answer table not of the form above, or over 4,096 bits. 32: output
-- below the pattern's length
unfoldable pub pattern_record : List ℕ → List ℕ → ℕ → Record
pattern_record answer fresh room =
    stop_at
    ((not (has_form answer), refusal 33 0)
    ∷ (wrong_fresh answer fresh, refusal 34 0)
    ∷ (ltb room (pattern_bits (answer_rows_of answer)), refusal 32 0)
    ∷ [])
    (completed 0 (pattern_bits (answer_rows_of answer)))

-- The output after the call: the pattern and then what was there; what was there, if the call is refused.
unfoldable pub pattern_after : List ℕ → List ℕ → List ℕ → List ℕ
pattern_after answer fresh old =
    cond (eqb (pattern_record answer fresh (length old)).outcome 0) (overwrite (instantiate (answer_rows_of answer) fresh) old) old
