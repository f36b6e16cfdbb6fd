-- What the theorems say of two tables compared (document 02, (xii); proofs/Theorems.antt and the files that it names). `found` is the outcome of the call.
use Rattle.std.specs.Prelude.{◌≡◌, ◌≢◌, true, false, List, [], ◌∷◌, ◌++◌, ℕ, zero, suc, ◌*◌, ◌≤◌, ◌<◌, length, replicate, take}
use Rattle.terms.specs.declared.Record.{Record}
use Rattle.terms.specs.declared.Row.{Row}
use Rattle.terms.specs.Assignments.{Assignment}
use Rattle.terms.specs.Acceptance.{Exactly}
use Rattle.terms.specs.Table.{rows_of, bits_of, value_of, evened, satisfies}
use Rattle.terms.specs.Faults.{Accepted, first_fault}
use Rattle.terms.specs.Calls.{refusal, fault_record}
use Rattle.answers.specs.Answer.{variable_widths, answer_numbers}
use Rattle.answers.specs.Solve.{solved_rows, answer_record, answer_after}
use Rattle.inclusion.specs.Call.{compared_record, compare_record, compare_work}

-- Two accepted tables with the same variables, and a work area with room.
pub record Comparable (first second : List ℕ) (room : ℕ) : Type 0 where
  pub first_accepted : first_fault first ≡ Accepted
  pub second_accepted : first_fault second ≡ Accepted
  pub same-variables : variable_widths (rows_of first) ≡ variable_widths (rows_of second)
  pub enough : 16384 ≤ room

-- Every pattern that meets t meets u; each meets both or neither.
abbrev pub Among : List Row → List Row → Type 0
Among t u = (p : List ℕ) → Assignment (bits_of t) p → satisfies t p ≡ true → satisfies u p ≡ true

abbrev pub SamePatterns : List Row → List Row → Type 0
SamePatterns t u = (p : List ℕ) → Assignment (bits_of t) p → satisfies t p ≡ satisfies u p

-- Some pattern meets t and not u.
pub record MeetsOnly (t u : List Row) : Type 0 where
  pub pattern : List ℕ
  pub bits : Assignment (bits_of t) pattern
  pub meets : satisfies t pattern ≡ true
  pub fails : satisfies u pattern ≡ false

-- (a) What each outcome says of the patterns.
pub record Compared (t u : List Row) (found : ℕ) : Type 0 where
  pub same : Exactly (found ≡ 0) (SamePatterns t u)
  pub stricter : Exactly (found ≡ 1) (Among t u × MeetsOnly u t)
  pub looser : Exactly (found ≡ 2) (Among u t × MeetsOnly t u)
  pub neither : Exactly (found ≡ 3) (MeetsOnly t u × MeetsOnly u t)

-- (b) Two solved tables compare as 0 exactly if their answer tables are equal, all six columns: as defined, and as two solves write them, each
-- with room.
pub record SameAnswers (first second : List ℕ) (found : ℕ) : Type 0 where
  pub same_numbers : Exactly (found ≡ 0) (answer_numbers (solved_rows (rows_of first)) ≡ answer_numbers (solved_rows (rows_of second)))
  pub as_written : (old work old' work' : List ℕ) → 24576 ≤ length old → 16384 ≤ length work → 24576 ≤ length old' → 16384 ≤ length work'
      → Exactly (found ≡ 0)
      (take ((answer_record (rows_of first)).pieces * 6) (answer_after first old (length work))
      ≡ take ((answer_record (rows_of second)).pieces * 6) (answer_after second old' (length work')))

-- (c) A never table is stricter than every table that is none; two of them are the same.
pub record NeverStrictest (t u : List Row) (found : ℕ) : Type 0 where
  pub first_never : (answer_record t).outcome ≡ 1 → (answer_record u).outcome ≢ 1 → found ≡ 1
  pub second_never : (answer_record t).outcome ≢ 1 → (answer_record u).outcome ≡ 1 → found ≡ 2
  pub both_never : (answer_record t).outcome ≡ 1 → (answer_record u).outcome ≡ 1 → found ≡ 0

-- (d) An outcome with 1 and 2 exchanged.
unfoldable pub turned : ℕ → ℕ
turned zero = 0
turned (suc zero) = 2
turned (suc (suc zero)) = 1
turned (suc (suc (suc n))) = suc (suc (suc n))

-- (e) Of three tables: the first and the second give tu, the second and the third uv, the first and the third tv.
pub record Chained (tu uv tv : ℕ) : Type 0 where
  pub passed_on : tv ≤ 1
  pub only_same : tv ≡ 0 → (tu ≡ 0) × (uv ≡ 0)

-- (f) A table is another with an equation more behind its rows, without a line number.
pub record OneMore (more table : List ℕ) (e : Row) : Type 0 where
  pub rows_are : rows_of more ≡ rows_of table ++ (e ∷ [])
  pub is_equation : e.kind ≡ 4
  pub no_line : e.c ≡ 0

-- The filled sides of the equation are equal in a pattern.
abbrev pub SidesMeet : List Row → Row → List ℕ → Type 0
SidesMeet t e p = evened (value_of t p e.a) (value_of t p e.b) ≡ evened (value_of t p e.b) (value_of t p e.a)

pub record OneStricter (t : List Row) (e : Row) (found : ℕ) : Type 0 where
  pub within : found ≤ 1
  pub adds_nothing : Exactly (found ≡ 0) ((p : List ℕ) → Assignment (bits_of t) p → satisfies t p ≡ true → SidesMeet t e p)

-- (g) Two tables give the same record against every third, whatever that is and on either side.
pub record SameAgainst (first second third : List ℕ) (room : ℕ) : Type 0 where
  pub as_first : compare_record first third room ≡ compare_record second third room
  pub as_second : compare_record third first room ≡ compare_record third second room

-- (i) The call stops with this record, and leaves the area as it was.
pub record StoppedWith (first second work : List ℕ) (found : Record) : Type 0 where
  pub record_is : compare_record first second (length work) ≡ found
  pub area_kept : compare_work first second work ≡ work

-- It does not stop: its record is 0 but for an outcome of 0 to 3, and every number of the area is 0.
pub record NotStopped (first second work : List ℕ) : Type 0 where
  pub outcome : ℕ
  pub one_of_four : outcome ≤ 3
  pub record_is : compare_record first second (length work) ≡ compared_record outcome
  pub area_cleared : compare_work first second work ≡ replicate (length work) 0

-- Where the call stops, for all inputs: without room 10; else the first table's fault if it has one, else the second's, else 49 exactly if the
-- lists of widths differ. Else it does not stop; and for each of the four outcomes every number of the area is 0.
pub record Stops (first second work : List ℕ) : Type 0 where
  pub no_room : length work < 16384 → StoppedWith first second work (refusal 10 0)
  pub first-fault : 16384 ≤ length work → first_fault first ≢ Accepted → StoppedWith first second work (fault_record (first_fault first))
  pub second_fault : 16384 ≤ length work → first_fault first ≡ Accepted → first_fault second ≢ Accepted
      → StoppedWith first second work (fault_record (first_fault second))
  pub other_variables : 16384 ≤ length work → first_fault first ≡ Accepted → first_fault second ≡ Accepted
      → variable_widths (rows_of first) ≢ variable_widths (rows_of second) → StoppedWith first second work (refusal 49 0)
  pub same-variables : Comparable first second (length work) → NotStopped first second work
  pub only_49 : (compare_record first second (length work)).outcome ≡ 49 → variable_widths (rows_of first) ≢ variable_widths (rows_of second)
  pub each_of_four : (compare_record first second (length work)).outcome ≤ 3 → compare_work first second work ≡ replicate (length work) 0
