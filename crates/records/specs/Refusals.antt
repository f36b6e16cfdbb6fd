-- The number, the row and the record of each refusal of a call on a table (document 01, "Where a call stops").
use Rattle.std.specs.Prelude.{ℕ, Result, Ok, Err}
use Rattle.terms.specs.declared.Record.{Record}
use Rattle.terms.specs.Calls.{refusal, rule_number, rule_row}
use Rattle.records.specs.declared.Refusal.{Refusal}
use Rattle.records.specs.declared.Refusal.TheVariants.{Room, Table, NoTerm, Pattern, Output, Form, FreshBits, NotWords, LongRun, Lined, NoJob, Ended, OtherAnswer, Recordings, Counters, Variables}

abbrev pub refusal_number : Refusal → ℕ
refusal_number Room = 10
refusal_number (Table fault) = rule_number fault
refusal_number NoTerm = 30
refusal_number Pattern = 31
refusal_number Output = 32
refusal_number Form = 33
refusal_number FreshBits = 34
refusal_number NotWords = 41
refusal_number LongRun = 42
refusal_number Lined = 43
refusal_number NoJob = 44
refusal_number Ended = 45
refusal_number OtherAnswer = 46
refusal_number Recordings = 47
refusal_number Counters = 48
refusal_number Variables = 49

abbrev pub refusal_row : Refusal → ℕ
refusal_row Room = 0
refusal_row (Table fault) = rule_row fault
refusal_row NoTerm = 0
refusal_row Pattern = 0
refusal_row Output = 0
refusal_row Form = 0
refusal_row FreshBits = 0
refusal_row NotWords = 0
refusal_row LongRun = 0
refusal_row Lined = 0
refusal_row NoJob = 0
refusal_row Ended = 0
refusal_row OtherAnswer = 0
refusal_row Recordings = 0
refusal_row Counters = 0
refusal_row Variables = 0

abbrev pub refusal_record : Refusal → Record
refusal_record r = refusal (refusal_number r) (refusal_row r)

-- The record of a call that was tried: its own where it went, the refusal's where it stopped.
abbrev pub record_of : Result Record Refusal → Record
record_of (Ok r) = r
record_of (Err r) = refusal_record r
