-- What the theorems say of a job (document 02, (viii)). They speak of the definitions that the calls' contracts name, and of patterns and equations.
use Rattle.std.specs.Prelude.{◌≡◌, List, ℕ, suc, ◌+◌, ◌<◌, ◌≤◌, eqb, length, get_or, take}
use Rattle.terms.specs.declared.Row.{Row}
use Rattle.terms.specs.Acceptance.{Exactly}
use Rattle.terms.specs.Assignments.{Assignment}
use Rattle.terms.specs.Counting.{MeetsBefore}
use Rattle.terms.specs.Table.{bits_of, count_kind}
use Rattle.laws.specs.Lists.{least, tally}
use Rattle.answers.specs.Solve.{unsat_row, ties_to}
use Rattle.answers.specs.Never.{SomeLeft}
use Rattle.jobs.specs.Prefix.{up_to, holders}
use Rattle.jobs.specs.State.{State, state_at, state_after, never_row}

-- The row of equation k of a table, the first being equation 0: the row up to which there are k + 1; the number of rows, if there are not so many.
unfoldable pub equation_row : List Row → ℕ → ℕ
equation_row t k = least (λ r. eqb (count_kind 4 (take (suc r) t)) (suc k)) 0 (length t)

-- The state after a never: ties and holders are those of the equations before the one at which no pattern is left.
abbrev pub never_state : List Row → State
never_state t = record { next = never_row; ties = ties_to t (unsat_row t); holders = holders (up_to (unsat_row t) t) }

-- (a) After k steps the state is that of equation k's row as long as a pattern meets the equations before it, and else that of a never.
pub record StateIs (t : List Row) (k : ℕ) : Type 0 where
  pub left : SomeLeft t (equation_row t k) → state_after t k ≡ state_at t (equation_row t k)
  pub never : (SomeLeft t (equation_row t k) → ⊥) → state_after t k ≡ never_state t

-- Place i is b in every pattern that meets the equations before row r; places i and j are equal in all of these.
abbrev pub FixedBefore : List Row → ℕ → ℕ → ℕ → Type 0
FixedBefore t r i b = (p : List ℕ) → Assignment (bits_of t) p → MeetsBefore t r p → get_or p i 0 ≡ b

abbrev pub EqualBefore : List Row → ℕ → ℕ → ℕ → Type 0
EqualBefore t r i j = (p : List ℕ) → Assignment (bits_of t) p → MeetsBefore t r p → get_or p i 0 ≡ get_or p j 0

-- (e) With the equations before row r taken, place i is held by 4,096 + b exactly if it is b in every pattern that meets them.
abbrev pub HeldFixed : List Row → ℕ → ℕ → ℕ → Type 0
HeldFixed t r i b = Exactly (get_or (holders (up_to r t)) i 0 ≡ 4096 + b) (FixedBefore t r i b)

-- And else by the lowest place that equals it in all of them.
pub record LowestEqual (t : List Row) (r i held : ℕ) : Type 0 where
  pub no_higher : held ≤ i
  pub equal : EqualBefore t r i held
  pub lowest : (j : ℕ) → j < held → EqualBefore t r i j → ⊥

abbrev pub HeldLowest : List Row → ℕ → ℕ → Type 0
HeldLowest t r i = (FixedBefore t r i 0 → ⊥) → (FixedBefore t r i 1 → ⊥) → LowestEqual t r i (get_or (holders (up_to r t)) i 0)

-- (f) The ties and the places that hold themselves add up to the variable bits.
abbrev pub TiesAndOwn : List Row → ℕ → Type 0
TiesAndOwn t r = ties_to t r + tally (bits_of t) (λ i. eqb (get_or (holders (up_to r t)) i 0) i) ≡ bits_of t
