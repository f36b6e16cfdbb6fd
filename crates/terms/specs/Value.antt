-- What the value call returns and writes, for every input (document 01, "Where a call stops").
use Rattle.std.specs.Prelude.{Bool, not, ◌||◌, cond, List, [], ◌∷◌, ℕ, eqb, ltb, length}
use Rattle.terms.specs.declared.Record.{Record}
use Rattle.terms.specs.declared.Row.{Row}
use Rattle.terms.specs.Table.{rows_of, width_of, bits_of, value_of}
use Rattle.terms.specs.Faults.{absent, is_accepted, first_fault}
use Rattle.terms.specs.Calls.{refusal, completed, fault_record, stop_at}
use Rattle.laws.specs.Buffers.{overwrite}
use Rattle.laws.specs.Lists.{all_bits}

-- 31: pattern of another length, or a byte above 1
unfoldable pub wrong_pattern : List Row → List ℕ → Bool
wrong_pattern t p = not (eqb (length p) (bits_of t)) || not (all_bits p)

-- The record of the value call, where the output has room for so many bytes. 32: output below the row's width
unfoldable pub value_record : List ℕ → ℕ → List ℕ → ℕ → Record
value_record table row pattern room =
    stop_at
    ((not (is_accepted (first_fault table)), fault_record (first_fault table))
    ∷ (absent (rows_of table) row, refusal 30 0)
    ∷ (wrong_pattern (rows_of table) pattern, refusal 31 0)
    ∷ (ltb room (width_of (rows_of table) row), refusal 32 0)
    ∷ [])
    (completed 0 (width_of (rows_of table) row))

-- The output after the call: the row's value and then what was there; what was there, if the call is refused.
unfoldable pub value_after : List ℕ → ℕ → List ℕ → List ℕ → List ℕ
value_after table row pattern old =
    cond (eqb (value_record table row pattern (length old)).outcome 0)
    (overwrite (value_of (rows_of table) pattern row) old)
    old
