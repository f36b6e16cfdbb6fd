-- What demands 2 and 3 say of a table's answer, and what else the theorems say of it (proofs/Demands.antt, OurSystem.antt). They speak of the
-- definitions that the solver's contract names.
use Rattle.std.specs.Prelude.{◌≡◌, ◌≢◌, true, cond, List, [], ◌∷◌, ℕ, zero, suc, ◌+◌, ◌^◌, ◌≤◌, eqb, length}
use Rattle.terms.specs.declared.Row.{Row}
use Rattle.terms.specs.Assignments.{Assignment, count}
use Rattle.terms.specs.Table.{bits_of, satisfies}
use Rattle.answers.specs.declared.AnswerRow.{AnswerRow}
use Rattle.answers.specs.Answer.{variable_widths, is_fresh, fresh_pieces, free_bits, instantiate}
use Rattle.answers.specs.Systems.{Part, fill, fresh, SolvedSystem, fresh_count, Gives}
use Rattle.answers.specs.Solve.{solved_rows, answer_record}

-- The one filling of the rows that gives an assignment.
pub record TheFilling (rows : List AnswerRow) (p : List ℕ) : Type 0 where
  pub filling : List ℕ
  pub bits : Assignment (free_bits rows) filling
  pub gives : instantiate rows filling ≡ p
  pub only : (g : List ℕ) → Assignment (free_bits rows) g → instantiate rows g ≡ p → g ≡ filling

-- Rows that give the assignments that satisfy a table: every filling gives one, and each comes from exactly one filling.
pub record Filled (t : List Row) (rows : List AnswerRow) : Type 0 where
  pub every_filling : (f : List ℕ) → Assignment (free_bits rows) f → Assignment (bits_of t) (instantiate rows f) × (satisfies t (instantiate rows f) ≡ true)
  pub one_filling : (p : List ℕ) → Assignment (bits_of t) p → satisfies t p ≡ true → TheFilling rows p

-- Demand 2: every filling of the fresh pieces gives an assignment that satisfies the table, and each that does comes from exactly one.
abbrev pub Demand2 : List Row → Type 0
Demand2 t = Filled t (solved_rows t)

-- Demand 3: the number of assignments that satisfy the table is zero exactly when the answer is never, all of them exactly when it is
-- always, and otherwise two to the power of free, the fresh pieces' summed widths, each piece once. Then fresh is the number of fresh
-- pieces in the answer's rows, and no solved system with the same patterns has fewer.
pub record Demand3 (t : List Row) : Type 0 where
  pub one_of_three : (answer_record t).outcome ≤ 2
  pub never_of : count (bits_of t) (satisfies t) ≡ 0 → (answer_record t).outcome ≡ 1
  pub never_to : (answer_record t).outcome ≡ 1 → count (bits_of t) (satisfies t) ≡ 0
  pub always_of : count (bits_of t) (satisfies t) ≡ 2 ^ bits_of t → (answer_record t).outcome ≡ 0
  pub always_to : (answer_record t).outcome ≡ 0 → count (bits_of t) (satisfies t) ≡ 2 ^ bits_of t
  pub solved_count : (answer_record t).outcome ≡ 2 → count (bits_of t) (satisfies t) ≡ 2 ^ (answer_record t).free
  pub solved_pieces : (answer_record t).outcome ≡ 2 → (answer_record t).pieces ≡ length (solved_rows t)
  pub solved_fresh : (answer_record t).outcome ≡ 2 → (answer_record t).fresh ≡ fresh_pieces (solved_rows t)
  pub solved_free : (answer_record t).outcome ≡ 2 → (answer_record t).free ≡ free_bits (solved_rows t)
  pub fewest : (answer_record t).outcome ≡ 2 → (sides : List (List Part)) → SolvedSystem (variable_widths t) sides → Gives (bits_of t) (satisfies t) sides
      → (answer_record t).fresh ≤ fresh_count sides
  pub free_and-ties : (answer_record t).outcome ≢ 1 → (answer_record t).free + (answer_record t).ties ≡ bits_of t

-- A row as a part of a right side, labelled by its fresh number.
unfoldable pub part_of : AnswerRow → Part
part_of r = cond (is_fresh r) (fresh r.fresh r.width) (fill r.kind r.width)

-- The right side of variable v; those of m variables from v on; and those of variables of the widths ws.
unfoldable pub side_of : ℕ → List AnswerRow → List Part
side_of v [] = []
side_of v (r ∷ rows) = cond (eqb r.variable v) (part_of r ∷ side_of v rows) (side_of v rows)

unfoldable pub sides_from : ℕ → ℕ → List AnswerRow → List (List Part)
sides_from v zero rows = []
sides_from v (suc m) rows = side_of v rows ∷ sides_from (suc v) m rows

unfoldable pub sides_of : List ℕ → List AnswerRow → List (List Part)
sides_of ws rows = sides_from 0 (length ws) rows

-- A table's answer as a solved system: its sides, its patterns, and its fresh pieces.
pub record AnswerSystem (t : List Row) : Type 0 where
  pub solves : SolvedSystem (variable_widths t) (sides_of (variable_widths t) (solved_rows t))
  pub gives : Gives (bits_of t) (satisfies t) (sides_of (variable_widths t) (solved_rows t))
  pub pieces : fresh_count (sides_of (variable_widths t) (solved_rows t)) ≡ (answer_record t).fresh

-- The answer depends on the assignments that satisfy the table alone: two tables with the same variables and the same satisfying
-- assignments have equal outcomes, answer rows, pieces, fresh and free.
pub record SameAnswer (t u : List Row) : Type 0 where
  pub same_outcome : (answer_record t).outcome ≡ (answer_record u).outcome
  pub same_rows : solved_rows t ≡ solved_rows u
  pub same_pieces : (answer_record t).pieces ≡ (answer_record u).pieces
  pub same_fresh : (answer_record t).fresh ≡ (answer_record u).fresh
  pub same_free : (answer_record t).free ≡ (answer_record u).free
