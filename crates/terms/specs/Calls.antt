-- What calls return and leave in buffers (document 01, "Where a call stops").
use Rattle.std.specs.Prelude.{Bool, false, ◌||◌, cond, List, [], ◌∷◌, ℕ, Ok, Err}
use Rattle.terms.specs.declared.Record.{Record}
use Rattle.terms.specs.declared.Fault.{Fault}
use Rattle.terms.specs.declared.Fault.TheVariants.{Shape, Kind, Unused, Named, Width, Value, Bounds, Count}
use Rattle.terms.specs.Faults.{Found}

-- A refusal's number stands as outcome; other fields are 0 but row.
abbrev pub refusal : ℕ → ℕ → Record
refusal number row = record { outcome = number; pieces = 0; fresh = 0; free = 0; ties = 0; row = row }

-- An accepted reading of a sheet, value, normal form or pattern: pieces, and the width as free.
abbrev pub completed : ℕ → ℕ → Record
completed pieces width = record { outcome = 0; pieces = pieces; fresh = 0; free = width; ties = 0; row = 0 }

-- The number and the row of each fault of a table.
abbrev pub rule_number : Fault → ℕ
rule_number Shape = 11
rule_number (Kind r) = 12
rule_number (Unused r) = 13
rule_number (Named r) = 14
rule_number (Width r) = 15
rule_number (Value r) = 40
rule_number (Bounds r) = 16
rule_number (Count r) = 17

abbrev pub rule_row : Fault → ℕ
rule_row Shape = 512
rule_row (Kind r) = r
rule_row (Unused r) = r
rule_row (Named r) = r
rule_row (Width r) = r
rule_row (Value r) = r
rule_row (Bounds r) = r
rule_row (Count r) = r

-- The same of what a check finds: 0 and 0 without a fault.
abbrev pub fault_number : Found → ℕ
fault_number (Ok x) = 0
fault_number (Err f) = rule_number f

abbrev pub fault_row : Found → ℕ
fault_row (Ok x) = 0
fault_row (Err f) = rule_row f

abbrev pub fault_record : Found → Record
fault_record f = refusal (fault_number f) (fault_row f)

-- The record of the first condition that is met, from the top down; a call that meets none is accepted.
unfoldable pub stop_at : List (Bool × Record) → Record → Record
stop_at [] accepted = accepted
stop_at (s ∷ stops) accepted = cond s.0 s.1 (stop_at stops accepted)

-- Whether a call stops at all: whether one of the conditions is met.
unfoldable pub stopped : List (Bool × Record) → Bool
stopped [] = false
stopped (s ∷ stops) = s.0 || stopped stops
