-- What the pattern call returns and leaves in the buffers lent to it, for every input (document 02, (x)): it is lent the term table too, and makes
-- patterns of the answer solved from that table alone. What filling an answer is stands in Form.antt and Call.antt.
use Rattle.std.specs.Prelude.{◌≡◌, Bool, true, not, ◌||◌, cond, List, [], ◌∷◌, ◌≢◌, ◌⊎◌, ℕ, ◌*◌, ◌≤◌, eqb, ltb, length, take, replicate}
use Rattle.laws.specs.Buffers.{overwrite}
use Rattle.terms.specs.declared.Record.{Record}
use Rattle.terms.specs.Calls.{refusal, completed, fault_record, stop_at, stopped}
use Rattle.terms.specs.Faults.{is_accepted, first_fault}
use Rattle.terms.specs.Assignments.{Assignment}
use Rattle.terms.specs.Table.{rows_of, row_numbers, bits_of, same_word, satisfies, counting}
use Rattle.answers.specs.Answer.{answer_row_length, answer_numbers, answer_rows_of, instantiate}
use Rattle.answers.specs.Solve.{solved_rows, answer_record, solve_record, answer_after}
use Rattle.assignments.specs.Form.{pattern_bits, has_form}
use Rattle.assignments.specs.Call.{wrong_fresh}

-- 46: a table whose outcome is not 2, or an answer other than the one solved from that table, number by number
unfoldable pub other_answer : List ℕ → List ℕ → Bool
other_answer table answer =
    not (eqb (answer_record (rows_of table)).outcome 2) || not (same_word (answer_numbers (solved_rows (rows_of table))) answer)

-- Where the call stops, with an output of so many bytes and a work area of so many numbers. 10: the work area below 16,384. 33: answer table not of
-- the form, or over 4,096 bits. 34: fresh bytes not as many as fresh bits, or one above 1. 32: output below the pattern's length
unfoldable pub make_stops : List ℕ → List ℕ → List ℕ → ℕ → ℕ → List (Bool × Record)
make_stops table answer fresh room work_room =
    (ltb work_room 16384, refusal 10 0)
    ∷ (not (is_accepted (first_fault table)), fault_record (first_fault table))
    ∷ (not (has_form answer), refusal 33 0)
    ∷ (other_answer table answer, refusal 46 0)
    ∷ (wrong_fresh answer fresh, refusal 34 0)
    ∷ (ltb room (pattern_bits (answer_rows_of answer)), refusal 32 0)
    ∷ []

-- The record.
unfoldable pub make_record : List ℕ → List ℕ → List ℕ → ℕ → ℕ → Record
make_record table answer fresh room work_room =
    stop_at (make_stops table answer fresh room work_room) (completed 0 (pattern_bits (answer_rows_of answer)))

-- The output after the call: the pattern and then what was there; what was there, if the call is refused.
unfoldable pub make_after : List ℕ → List ℕ → List ℕ → List ℕ → ℕ → List ℕ
make_after table answer fresh old work_room =
    cond (stopped (make_stops table answer fresh (length old) work_room)) old (overwrite (instantiate (answer_rows_of answer) fresh) old)

-- The work area after the call: what was there, if it stops at one of the first three, 10, the table's and 33; every number 0 past these, whether
-- the call is accepted or refused.
unfoldable pub make_work : List ℕ → List ℕ → List ℕ → ℕ → List ℕ → List ℕ
make_work table answer fresh room old = cond (stopped (take 3 (make_stops table answer fresh room (length old)))) old (replicate (length old) 0)

-- ---- What the theorems say of it (proofs/Matched.antt).

-- The answer solved from a table, as a solve writes it. The pattern that a call has made: as many bytes from the front of the output as its record
-- tells. And that a list is a pattern of a table: one bit for each of its variable bits, and they satisfy it.
abbrev pub own_answer : List ℕ → List ℕ
own_answer table = answer_numbers (solved_rows (rows_of table))

abbrev pub pattern_made : List ℕ → List ℕ → List ℕ → List ℕ → ℕ → List ℕ
pattern_made table answer fresh old work_room = take (make_record table answer fresh (length old) work_room).free (make_after table answer fresh old work_room)

abbrev pub Meets : List ℕ → List ℕ → Type 0
Meets table p = Assignment (bits_of (rows_of table)) p × (satisfies (rows_of table) p ≡ true)

-- (b) The only run of fresh bytes of which the call makes a pattern of a table, whatever the buffers hold.
pub record OnlyRun (table p : List ℕ) : Type 0 where
  pub bytes : List ℕ
  pub accepted : (old work : List ℕ) → bits_of (rows_of table) ≤ length old → 16384 ≤ length work
      → make_record table (own_answer table) bytes (length old) (length work) ≡ completed 0 (bits_of (rows_of table))
  pub makes : (old work : List ℕ) → bits_of (rows_of table) ≤ length old → 16384 ≤ length work → pattern_made table (own_answer table) bytes old (length work) ≡ p
  pub no_other : (f old work : List ℕ) → (make_record table (own_answer table) f (length old) (length work)).outcome ≡ 0
      → pattern_made table (own_answer table) f old (length work) ≡ p → f ≡ bytes

-- All patterns of a solved table are made from its answer: each run of as many bits as are free makes one, and each is made by exactly one run.
pub record AllMade (table : List ℕ) : Type 0 where
  pub every-run : (f old work : List ℕ) → Assignment (answer_record (rows_of table)).free f → bits_of (rows_of table) ≤ length old → 16384 ≤ length work
      → (make_record table (own_answer table) f (length old) (length work) ≡ completed 0 (bits_of (rows_of table)))
      × Meets table (pattern_made table (own_answer table) f old (length work))
  pub every_pattern : (p : List ℕ) → Meets table p → OnlyRun table p

-- (c) What a solve of the table leaves in an answer table of old content, cut to six numbers for each piece.
abbrev pub solved_answer : List ℕ → List ℕ → ℕ → List ℕ
solved_answer table old work_room = take ((solve_record table (length old) work_room).pieces * answer_row_length) (answer_after table old work_room)

-- (f) The work area, whatever its length: every number is 0 after an accepted call and after the
-- refusals 46, 34 and 32; it is as it was after every other refusal.
pub record WorkAfter (table answer fresh : List ℕ) (room : ℕ) (work : List ℕ) : Type 0 where
  pub accepted : (make_record table answer fresh room (length work)).outcome ≡ 0 → make_work table answer fresh room work ≡ replicate (length work) 0
  pub past_33 : ((make_record table answer fresh room (length work)).outcome ≡ 46)
      ⊎ (((make_record table answer fresh room (length work)).outcome ≡ 34) ⊎ ((make_record table answer fresh room (length work)).outcome ≡ 32))
      → make_work table answer fresh room work ≡ replicate (length work) 0
  pub kept : (make_record table answer fresh room (length work)).outcome ≢ 0 → (make_record table answer fresh room (length work)).outcome ≢ 46
      → (make_record table answer fresh room (length work)).outcome ≢ 34 → (make_record table answer fresh room (length work)).outcome ≢ 32
      → make_work table answer fresh room work ≡ work

-- (g) Tables that have not the same patterns: it is not so that an assignment of the one's variable bits satisfies it exactly if it satisfies the other.
abbrev pub NotSamePatterns : List ℕ → List ℕ → Type 0
NotSamePatterns table other = ((p : List ℕ) → Assignment (bits_of (rows_of table)) p → satisfies (rows_of table) p ≡ satisfies (rows_of other) p) → ⊥

-- No pattern of a table is made from another's answer: with room it is refused 46.
pub record NoneMade (table other : List ℕ) : Type 0 where
  pub not_made : (fresh : List ℕ) (room work_room : ℕ) → (make_record table (own_answer other) fresh room work_room).outcome ≢ 0
  pub refused : (fresh : List ℕ) (room work_room : ℕ) → 16384 ≤ work_room → make_record table (own_answer other) fresh room work_room ≡ refusal 46 0

-- (h) The call on a table and on what counts in it: the same record, the same output and the same work area.
pub record SameMade (table answer fresh old work : List ℕ) : Type 0 where
  pub same_record : make_record (row_numbers (counting (rows_of table))) answer fresh (length old) (length work) ≡ make_record table answer fresh (length old) (length work)
  pub same_output : make_after (row_numbers (counting (rows_of table))) answer fresh old (length work) ≡ make_after table answer fresh old (length work)
  pub same_area : make_work (row_numbers (counting (rows_of table))) answer fresh (length old) work ≡ make_work table answer fresh (length old) work
