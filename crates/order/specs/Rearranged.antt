-- Tables that differ only in which equation stands in which equation row, or in which side is left (document 02, (xiv)), and what is equal of
-- them: everything that calls yield, but for ties and row of a never.
use Rattle.std.specs.Prelude.{◌≡◌, ◌⊎◌, ◌≢◌, List, [], ◌∷◌, ℕ, ◌<◌, ◌≤◌, length}
use Rattle.terms.specs.declared.Record.{Record}
use Rattle.terms.specs.declared.Row.{Row}
use Rattle.terms.specs.Table.{rows_of, row_at}
use Rattle.terms.specs.Sound.{IsEquation}
use Rattle.answers.specs.Solve.{solved_rows, answer_record, solve_record, answer_after, work_after}
use Rattle.assignments.specs.Matching.{make_record, make_after, make_work}
use Rattle.windows.specs.Call.{positions_of, positions_record, positions_after}
use Rattle.recordings.specs.Call.{recordings_record}
use Rattle.inclusion.specs.Call.{compared_record, compare_record}
use Rattle.calls.specs.Calls.{lw-solve-pieces, record_of, left_by}
use Rattle.sheets.specs.Print.{record_text}
use Rattle.sheets.specs.Program.{program_text}

-- Row r is the equation of a and b, or of b and a.
abbrev pub EitherWay : List Row → ℕ → ℕ → ℕ → Type 0
EitherWay t r a b = IsEquation t r a b ⊎ IsEquation t r b a

-- There are as many rows, the same rows are equations, and each other row is the same, number by number. Each equation of the first table
-- stands in some row of the second, turned or not, and each equation of the second in some row of the first.
pub record Rearranged (t u : List Row) : Type 0 where
  pub as_many : length u ≡ length t
  pub kinds : (r : ℕ) → r < length t → (row_at u r).kind ≡ (row_at t r).kind
  pub others : (r : ℕ) → r < length t → ((row_at t r).kind ≡ 4 → ⊥) → row_at u r ≡ row_at t r
  pub forth : (r a b : ℕ) → IsEquation t r a b → (s : ℕ) × EitherWay u s a b
  pub back : (r a b : ℕ) → IsEquation u r a b → (s : ℕ) × EitherWay t s a b

-- Row by row the same, or the same equation with its sides exchanged.
pub data AllTurned : List Row → List Row → Type 0 where
  none : AllTurned [] []
  kept : {r : Row} {t u : List Row} → AllTurned t u → AllTurned (r ∷ t) (r ∷ u)
  turned : {a b c : ℕ} {t u : List Row} → AllTurned t u
      → AllTurned (record { kind = 4; a = a; b = b; c = c } ∷ t) (record { kind = 4; a = b; b = a; c = c } ∷ u)

-- Records with the same outcome, pieces, fresh and free, and the same ties and row if the outcome is not never.
pub record AlikeRecords (found other : Record) : Type 0 where
  pub outcome : found.outcome ≡ other.outcome
  pub pieces : found.pieces ≡ other.pieces
  pub fresh : found.fresh ≡ other.fresh
  pub free : found.free ≡ other.free
  pub ties : found.outcome ≢ 1 → found.ties ≡ other.ties
  pub row : found.outcome ≢ 1 → found.row ≡ other.row

-- (b) The answers of two tables: their records, and the rows of their answer tables.
pub record AlikeAnswers (t u : List Row) : Type 0 where
  pub records : AlikeRecords (answer_record t) (answer_record u)
  pub rows : solved_rows t ≡ solved_rows u

-- (c) A solve of either table over the same answer table and the same work area: its record, and every number that it leaves in them.
pub record AlikeCalls (first second answer work : List ℕ) : Type 0 where
  pub records : AlikeRecords (solve_record first (length answer) (length work)) (solve_record second (length answer) (length work))
  pub answer-left : answer_after first answer (length work) ≡ answer_after second answer (length work)
  pub work_left : work_after first (length answer) work ≡ work_after second (length answer) work

-- (f) A solve in whole pieces of either table, as crate calls has that call: its record, and all that it leaves in the answer table and the work area.
pub record AlikePieces (first second answer work : List ℕ) : Type 0 where
  pub records : AlikeRecords (record_of (lw-solve-pieces first answer work)) (record_of (lw-solve-pieces second answer work))
  pub left : left_by (lw-solve-pieces first answer work) ≡ left_by (lw-solve-pieces second answer work)

-- (f) The marker positions of either table in a run of words: the starts, the record of the call, and every number that it leaves in the list.
pub record AlikePositions (first second words : List ℕ) : Type 0 where
  pub starts : positions_of (rows_of first) words ≡ positions_of (rows_of second) words
  pub records : positions_record first words ≡ positions_record second words
  pub list_left : (list : List ℕ) → positions_after first words list ≡ positions_after second words list

-- (f) The two tables compared, with any work area that is enough: they compare as 0.
pub record AlikeCompared (first second : List ℕ) : Type 0 where
  pub compared : (room : ℕ) → 16384 ≤ room → compare_record first second room ≡ compared_record 0

-- (f) Two recordings compared by either table: the same record, whatever they hold.
pub record AlikeRecordings (first second : List ℕ) : Type 0 where
  pub records : (sent received : List ℕ) → recordings_record first sent received ≡ recordings_record second sent received

-- (f) A pattern made of either table, from the same answer table and fresh bytes over the same output and the same work area, whatever these hold:
-- the record, so the same refusals, and every number that is left in them.
pub record AlikePatterns (first second answer fresh output work : List ℕ) : Type 0 where
  pub records : make_record first answer fresh (length output) (length work) ≡ make_record second answer fresh (length output) (length work)
  pub output_left : make_after first answer fresh output (length work) ≡ make_after second answer fresh output (length work)
  pub work_left : make_work first answer fresh (length output) work ≡ make_work second answer fresh (length output) work

-- (g) What is printed of a sheet of the rows t and of one of the rows u: the same bytes, unless the outcome is never; then of either its record, a
-- never's, and no table.
pub record AlikePrints (one other : List ℕ) (t u : List Row) : Type 0 where
  pub bytes : (answer_record t).outcome ≢ 1 → program_text one ≡ program_text other
  pub never_one : (answer_record t).outcome ≡ 1 → program_text one ≡ record_text (answer_record t)
  pub never_other : (answer_record t).outcome ≡ 1 → ((answer_record u).outcome ≡ 1) × (program_text other ≡ record_text (answer_record u))
