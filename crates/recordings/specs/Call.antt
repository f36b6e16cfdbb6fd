-- What the call that compares two recordings returns, for every input (document 02, (xi)).
use Rattle.std.specs.Prelude.{Bool, not, ◌||◌, List, [], ◌∷◌, ℕ, suc, ◌+◌, ◌/◌, ◌%◌, eqb, ltb, length}
use Rattle.terms.specs.declared.Record.{Record}
use Rattle.terms.specs.declared.Row.{Row}
use Rattle.terms.specs.Table.{rows_of, count_kind}
use Rattle.terms.specs.Faults.{is_accepted, first_fault}
use Rattle.terms.specs.Calls.{refusal, fault_record, stop_at}
use Rattle.answers.specs.Answer.{variable_widths}
use Rattle.windows.specs.Words.{sixteens}
use Rattle.recordings.specs.Recordings.{Frame, frames_of, matched, alone, rising, differences, breaking, first_counter}

-- How many words a frame has: half as many as the sheet has variables.
unfoldable pub words_of : List Row → ℕ
words_of t = count_kind 0 t / 2

-- 47, of the variables: there is none,
-- or an odd number of them,
-- or one that is not 16 bits wide.
unfoldable pub wrong_variables : List Row → Bool
wrong_variables t =
    eqb (count_kind 0 t) 0
    || (eqb (count_kind 0 t % 2) 1
    || not (sixteens (variable_widths t)))

-- 47, of a recording: it is over 65,535 numbers,
-- or not whole records of k + 1.
unfoldable pub wrong_recording : ℕ → List ℕ → Bool
wrong_recording k numbers =
    ltb 65535 (length numbers)
    || not (eqb (length numbers % suc k) 0)

-- 48: its counters do not strictly rise.
unfoldable pub not_rising : ℕ → List ℕ → Bool
not_rising k numbers = not (rising (frames_of k numbers))

-- The record of two recordings that are accepted: the pairs; the records found on one side only, both sides added; the pairs that break the
-- sheet; the bits that differ, over all pairs; the counter of the first pair that breaks the sheet.
abbrev pub compared : List Row → List Frame → List Frame → Record
compared t sent received =
    record {
      outcome = 0;
      pieces = length (matched sent received);
      fresh = length (alone sent received) + length (alone received sent);
      free = length (breaking t (matched sent received));
      ties = differences (matched sent received);
      row = first_counter (breaking t (matched sent received));
    }

-- The record of the call.
unfoldable pub recordings_record : List ℕ → List ℕ → List ℕ → Record
recordings_record table sent received =
    stop_at
    ((not (is_accepted (first_fault table)), fault_record (first_fault table))
    ∷ (wrong_variables (rows_of table), refusal 47 0)
    ∷ (wrong_recording (words_of (rows_of table)) sent, refusal 47 0)
    ∷ (wrong_recording (words_of (rows_of table)) received, refusal 47 0)
    ∷ (not_rising (words_of (rows_of table)) sent, refusal 48 0)
    ∷ (not_rising (words_of (rows_of table)) received, refusal 48 0)
    ∷ [])
    (compared (rows_of table) (frames_of (words_of (rows_of table)) sent) (frames_of (words_of (rows_of table)) received))
