-- What the normal form call returns and writes, for every input (document 01, "Where a call stops").
use Rattle.std.specs.Prelude.{not, cond, List, [], ◌∷◌, ℕ, eqb, ltb, length}
use Rattle.terms.specs.declared.Record.{Record}
use Rattle.terms.specs.Table.{rows_of, width_of}
use Rattle.terms.specs.Faults.{absent, is_accepted, first_fault}
use Rattle.terms.specs.Calls.{refusal, completed, fault_record, stop_at}
use Rattle.laws.specs.Buffers.{overwrite}
use Rattle.forms.specs.Form.{form_of, numbers_of}

-- The record, where the output has room for so many numbers. 32: output below 4,096 numbers
unfoldable pub form_record : List ℕ → ℕ → ℕ → Record
form_record table row room =
    stop_at
    ((not (is_accepted (first_fault table)), fault_record (first_fault table))
    ∷ (absent (rows_of table) row, refusal 30 0)
    ∷ (ltb room 4096, refusal 32 0)
    ∷ [])
    (completed (length (form_of (rows_of table) row)) (width_of (rows_of table) row))

-- The output after the call: the form's numbers and then what was there; what was there, if the call is refused.
unfoldable pub form_after : List ℕ → ℕ → List ℕ → List ℕ
form_after table row old =
    cond (eqb (form_record table row (length old)).outcome 0) (overwrite (numbers_of (form_of (rows_of table) row)) old) old
