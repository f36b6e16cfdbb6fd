-- Wrong solvers (document 01, "The strength of each statement", c), and of the traps of the trade the fixed bit that is passed on in one sweep),
-- each as a definition of its answer for every input, as somebody could have programmed it; and what it means that they are shut out.
-- Nothing is built on these. Each is as near to the right one as it can be: wrong in the one thing that its name says.
use Rattle.std.specs.Prelude.{◌≡◌, not, ◌&&◌, ◌||◌, cond, List, [], ◌∷◌, ◌++◌, map, ℕ, suc, ◌-◌, ◌*◌, ◌≤◌, ◌<◌, min, eqb, ltb, length, get_or, set, take, replicate}
use Rattle.laws.specs.Buffers.{overwrite}
use Rattle.laws.specs.Lists.{least}
use Rattle.terms.specs.declared.Record.{Record}
use Rattle.terms.specs.declared.Row.{Row}
use Rattle.terms.specs.Calls.{refusal, fault_record, stop_at}
use Rattle.terms.specs.Faults.{is_accepted, first_fault}
use Rattle.terms.specs.Table.{rows_of, row_at, if_equation, next_equation, bits_of}
use Rattle.answers.specs.declared.AnswerRow.{AnswerRow}
use Rattle.answers.specs.Answer.{variable_widths, answer_rows, answer_row_length, answer_numbers, answer_rows_of, free_bits}
use Rattle.answers.specs.Pairs.{Pair, equation_pairs}
use Rattle.answers.specs.Solve.{pairs_together, always_record, never_record, solved_record, solved_rows, answer_record, solve_record, answer_after}
use Rattle.answers.specs.Systems.{SolvedSystem}
use Rattle.answers.specs.Demands.{Filled, sides_of}
use Rattle.answers.specs.inner.Classes.{in_class, classes_of}
use Rattle.worked.specs.Cases.{row}

-- A solver by what it gives: the record that it returns and the answer table that it leaves, from the table, the answer table as it was lent, and
-- the room of the work area.
pub record Solver : Type 0 where
  pub found : List ℕ → List ℕ → ℕ → Record
  pub left : List ℕ → List ℕ → ℕ → List ℕ

-- The right one (answers/specs/Solve.antt).
abbrev pub right_solver : Solver
right_solver = record { found = λ table old work_room. solve_record table (length old) work_room; left = answer_after }

-- One that refuses as it should; of an accepted table's rows it has this record, and for outcome 2 it writes these answer rows.
unfoldable pub found_by : (List Row → Record) → List ℕ → List ℕ → ℕ → Record
found_by answer table old work_room =
    stop_at
    ((ltb (length old) 24576 || ltb work_room 16384, refusal 10 0)
    ∷ (not (is_accepted (first_fault table)), fault_record (first_fault table))
    ∷ [])
    (answer (rows_of table))

abbrev pub answering : (List Row → Record) → (List Row → List AnswerRow) → Solver
answering answer rows =
    record {
      found = found_by answer;
      left = λ table old work_room. cond (eqb (found_by answer table old work_room).outcome 2) (overwrite (answer_numbers (rows (rows_of table))) old) old;
    }

-- One that is right but for outcome 2, where it writes these rows and tells so many ties.
unfoldable pub solved_as : (List Row → List AnswerRow) → (List Row → ℕ) → List Row → Record
solved_as rows tied t = cond (eqb (answer_record t).outcome 2) (solved_record (rows t) (tied t)) (answer_record t)

abbrev pub solving : (List Row → List AnswerRow) → (List Row → ℕ) → Solver
solving rows tied = answering (solved_as rows tied) rows

-- 1. It works the first equation and copies its result for the rest: each equation is worked as if it were the first one.
unfoldable pub first_copied : List Row → List Row
first_copied t = map (λ r. if_equation r (row_at t (next_equation t 0 (length t))) r) t

abbrev pub first_equation_only : Solver
first_equation_only = answering (λ t. answer_record (first_copied t)) (λ t. solved_rows (first_copied t))

-- 2. It leaves every variable free: each is one fresh piece of its own width, and no bit is tied.
unfoldable pub whole_pieces : ℕ → List ℕ → List AnswerRow
whole_pieces v [] = []
whole_pieces v (w ∷ ws) = record { variable = v; kind = 2; width = w; fresh = v } ∷ whole_pieces (suc v) ws

abbrev pub every_variable_free : Solver
every_variable_free = solving (λ t. whole_pieces 0 (variable_widths t)) (λ t. 0)

-- 3. It answers never on the first row, be that row 0 or the first equation's.
abbrev pub never_on : (List Row → ℕ) → Solver
never_on first = answering (λ t. never_record 0 (first t)) (λ t. [])

abbrev pub never_at_first : Solver
never_at_first = never_on (λ t. 0)

abbrev pub never_at_first_equation : Solver
never_at_first_equation = never_on (λ t. next_equation t 0 (length t))

-- 4. It always answers always.
abbrev pub always_always : Solver
always_always = answering (λ t. always_record (bits_of t)) (λ t. [])

-- 5. It invents ties: every pair counts as one, also a pair that the pairs before it imply.
abbrev pub every_pair_aTie : Solver
every_pair_aTie = solving solved_rows (λ t. length (pairs_together (equation_pairs t)))

-- It invents a tie and keeps the sum: the first two bits are tied, though no equation says so, and there is a free bit less.
unfoldable pub invented_rows : List Row → List AnswerRow
invented_rows t =
    answer_rows (bits_of t) (variable_widths t)
    (in_class (classes_of (bits_of t) (record { left = 2; right = 3 } ∷ pairs_together (equation_pairs t))))

abbrev pub invented_tie : Solver
invented_tie = solving invented_rows (λ t. bits_of t - free_bits (invented_rows t))

-- 6. It writes no answer table, and has the record as it is.
abbrev pub no_answer_table : Solver
no_answer_table = record { found = λ table old work_room. solve_record table (length old) work_room; left = λ table old work_room. old }

-- 7. It refuses all, with one number and row.
abbrev pub all_refused : ℕ → ℕ → Solver
all_refused number r = record { found = λ table old work_room. refusal number r; left = λ table old work_room. old }

-- 8. It passes fixed bits along the pairs in one sweep only. What is known of each source, 2 for nothing: at first a fixed bit is itself. Each
-- pair in turn passes what is known of either side on to the other.
unfoldable pub passed : List ℕ → Pair → List ℕ
passed known q =
    let bit : ℕ = min (get_or known q.left 2) (get_or known q.right 2) in
    set (set known q.left bit) q.right bit

unfoldable pub sweep : List ℕ → List Pair → List ℕ
sweep known [] = known
sweep known (q ∷ qs) = sweep (passed known q) qs

unfoldable pub swept_once : ℕ → List Pair → List ℕ
swept_once n qs = sweep (0 ∷ 1 ∷ replicate n 2) qs

-- The pairs of two places; what a source goes by: its fixed bit where the sweep has come, else the lowest place that these pairs tie to it and that
-- the sweep has not come to either; and the rows by that.
unfoldable pub place_pairs : List Pair → List Pair
place_pairs [] = []
place_pairs (q ∷ qs) = cond (ltb q.left 2 || ltb q.right 2) (place_pairs qs) (q ∷ place_pairs qs)

unfoldable pub swept_label : ℕ → List ℕ → List ℕ → ℕ → ℕ
swept_label n known classes s =
    cond (ltb (get_or known s 2) 2) (get_or known s 2)
    (least (λ u. eqb (get_or known u 2) 2 && in_class classes u s) 2 n)

unfoldable pub swept_rows : List Row → List AnswerRow
swept_rows t =
    let qs : List Pair = pairs_together (equation_pairs t) in
    let label : ℕ → ℕ = swept_label (bits_of t) (swept_once (bits_of t) qs) (classes_of (bits_of t) (place_pairs qs)) in
    answer_rows (bits_of t) (variable_widths t) (λ s u. eqb (label s) (label u))

abbrev pub one_sweep : Solver
one_sweep = solving swept_rows (λ t. bits_of t - free_bits (swept_rows t))

-- At a table a solver's record is not the right one, whatever is lent with room.
abbrev pub WrongRecord : Solver → List ℕ → Type 0
WrongRecord solver table =
    (old : List ℕ) (work_room : ℕ) → 24576 ≤ length old → 16384 ≤ work_room
    → solver.found table old work_room ≡ solve_record table (length old) work_room → ⊥

-- At a table a solver's record and the answer table that it leaves are the right ones, whatever is lent with room.
abbrev pub RightAt : Solver → List ℕ → Type 0
RightAt solver table =
    (old : List ℕ) (work_room : ℕ) → 24576 ≤ length old → 16384 ≤ work_room
    → (solver.found table old work_room ≡ solve_record table (length old) work_room) × (solver.left table old work_room ≡ answer_after table old work_room)

-- The rows that a host has of a solver's answer: as many as the record says, from the beginning of the answer table.
abbrev pub rows_read : Solver → List ℕ → List ℕ → ℕ → List AnswerRow
rows_read solver table old work_room =
    answer_rows_of (take ((solver.found table old work_room).pieces * answer_row_length) (solver.left table old work_room))

-- At a table these rows break demand 2, whatever is lent with room.
abbrev pub Breaks2 : Solver → List ℕ → Type 0
Breaks2 solver table =
    (old : List ℕ) (work_room : ℕ) → 24576 ≤ length old → 16384 ≤ work_room → Filled (rows_of table) (rows_read solver table old work_room) → ⊥

-- The tables at which the solvers are told apart: case 1's; the same with its equation written twice;
abbrev pub overlap : List ℕ
overlap = row 0 8 0 0 ++ row 3 0 6 3 ++ row 3 0 4 1 ++ row 4 1 2 0

abbrev pub overlap_twice : List ℕ
overlap_twice = overlap ++ row 4 1 2 0

-- case 5's, u = v, v = 0, u = 1, and the same without its last row; case 4's; case 6's, which has no rows;
abbrev pub both_zero : List ℕ
both_zero = row 0 1 0 0 ++ row 0 1 0 0 ++ row 1 0 1 0 ++ row 1 1 1 0 ++ row 4 0 1 0 ++ row 4 1 2 0

abbrev pub zero_and_one : List ℕ
zero_and_one = both_zero ++ row 4 0 3 0

abbrev pub zero_is_one : List ℕ
zero_is_one = row 1 0 1 0 ++ row 1 1 1 0 ++ row 4 0 1 0

-- a chain of three words, u = v, v = w, the top half of w zeros, as in examples/chain.sheet: the fixed bits come last; and the same equations
-- in the other order, where they come first.
abbrev pub words : List ℕ
words = row 0 8 0 0 ++ row 0 8 0 0 ++ row 0 8 0 0 ++ row 3 2 7 4 ++ row 1 0 4 0

abbrev pub chain : List ℕ
chain = words ++ row 4 0 1 0 ++ row 4 1 2 0 ++ row 4 3 4 0

abbrev pub chain_back : List ℕ
chain_back = words ++ row 4 3 4 0 ++ row 4 1 2 0 ++ row 4 0 1 0

-- They are shut out, nearest first: each at a named table. The demand that refuses it stands before each, as in document 01's brackets.
pub record ShutOut : Type 0 where
  -- 1. Demand 3: case 5 is solved for it, and no pattern meets that. Demand 2: where u = v and v = 0 it leaves both free.
  pub first_equation_3 : WrongRecord first_equation_only zero_and_one
  pub first_equation_2 : Breaks2 first_equation_only both_zero
  -- 2. Demand 2: of case 1 a filling of the free word does not meet the table. Nothing else is wrong with its answer, whatever the table: for
  -- widths of at least 1 it is a solved system, and its free bits, with no tie, are the variable bits.
  pub variable_free : WrongRecord every_variable_free overlap
  pub variable_free_2 : Breaks2 every_variable_free overlap
  pub free_system : (ws : List ℕ) → ((v : ℕ) → v < length ws → 1 ≤ get_or ws v 0) → SolvedSystem ws (sides_of ws (whole_pieces 0 ws))
  pub free_sum : (t : List Row) → free_bits (whole_pieces 0 (variable_widths t)) ≡ bits_of t
  -- 3. Demand 3: 16 patterns meet case 1. And where none does, in cases 4 and 5, the row is another.
  pub never_first_3 : WrongRecord never_at_first overlap
  pub never_equation_3 : WrongRecord never_at_first_equation overlap
  pub never_first_row : WrongRecord never_at_first zero_is_one
  pub never_equation_row : WrongRecord never_at_first_equation zero_and_one
  -- 4. Demand 3: not every pattern meets case 1; and none meets case 4.
  pub always_3 : WrongRecord always_always overlap
  pub always_none : WrongRecord always_always zero_is_one
  -- 5. The sum: with eight ties no bit would be free, and 16 patterns meet the table. Demand 2, where the sum is kept: a pattern that meets
  -- case 1 comes from no filling.
  pub pair_a_tie : WrongRecord every_pair_aTie overlap_twice
  pub tie_invented : WrongRecord invented_tie overlap
  pub tie_invented_2 : Breaks2 invented_tie overlap
  -- 6. Demand 2: what stands in an answer table of zeros is no answer to case 1, though the record is right. It is left right only where the
  -- answer stood there before.
  pub no_table : (n work_room : ℕ) → 24576 ≤ n → 16384 ≤ work_room
      → no_answer_table.left overlap (replicate n 0) work_room ≡ answer_after overlap (replicate n 0) work_room → ⊥
  pub no_table_2 : (n work_room : ℕ) → 24576 ≤ n → 16384 ≤ work_room
      → Filled (rows_of overlap) (rows_read no_answer_table overlap (replicate n 0) work_room) → ⊥
  pub no_table_before : (old : List ℕ) (work_room : ℕ) → 24576 ≤ length old → 16384 ≤ work_room
      → no_answer_table.left overlap old work_room ≡ answer_after overlap old work_room → take 30 old ≡ answer_numbers (solved_rows (rows_of overlap))
  -- 7. The table of stops: a table without rows meets none of its conditions. Demand 3: a refusal is none of the three outcomes.
  pub all_refused_3 : (number r : ℕ) → 2 < number → WrongRecord (all_refused number r) []
  -- 8. Demand 2: in the chain the top halves of u and v are left free. One sweep it is, and not none: where the fixed bits come first it passes
  -- them along all three words, and gives the right answer.
  pub swept : WrongRecord one_sweep chain
  pub swept_2 : Breaks2 one_sweep chain
  pub swept_first : RightAt one_sweep chain_back
