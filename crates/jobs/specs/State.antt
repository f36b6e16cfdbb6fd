-- The states of a job (document 02, (viii)): what it is opened with, what a step makes of it, and which jobs and work areas are states.
use Rattle.std.specs.Prelude.{Bool, not, ◌&&◌, ◌||◌, cond, List, ◌++◌, ℕ, zero, suc, ◌-◌, eqb, leb, length, replicate}
use Rattle.terms.specs.declared.Row.{Row}
use Rattle.terms.specs.Table.{same_word}
use Rattle.laws.specs.Lists.{below}
use Rattle.answers.specs.Solve.{unsatisfiable, ties_to}
use Rattle.jobs.specs.Prefix.{up_to, equation_from, holders}

-- The next row, the ties so far, and what holds each place.
pub record State : Type 0 where
  pub next : ℕ
  pub ties : ℕ
  pub holders : List ℕ

-- The state in which the equations before row r are taken.
unfoldable pub state_at : List Row → ℕ → State
state_at t r = record { next = r; ties = ties_to t r; holders = holders (up_to r t) }

-- The next row after a never, which is no row of a table.
abbrev pub never_row : ℕ
never_row = 1000

-- No equation is taken.
unfoldable pub opened : List Row → State
opened t = state_at t (equation_from t 0)

-- One equation more is taken. After a never, and where no equation is left, nothing changes; where it leaves no pattern, the next row alone does.
unfoldable pub stepped : List Row → State → State
stepped t s =
    cond (eqb s.next never_row || leb (length t) s.next) s
    (cond (unsatisfiable (up_to (suc s.next) t))
    (record { next = never_row; ties = s.ties; holders = s.holders })
    (state_at t (equation_from t (suc s.next))))

-- The state after k steps.
unfoldable pub state_after : List Row → ℕ → State
state_after t zero = opened t
state_after t (suc k) = stepped t (state_after t k)

-- A work area of so many numbers: what holds each place, and 0 after the last.
unfoldable pub area_of : ℕ → List ℕ → List ℕ
area_of room held = held ++ replicate (room - length held) 0

-- Whether a job's two numbers and all of a work area are a state's.
unfoldable pub is_state : State → ℕ → ℕ → List ℕ → Bool
is_state s next ties work = eqb s.next next && (eqb s.ties ties && same_word (area_of (length work) s.holders) work)

-- Whether they are what some number of steps leaves, up to the number of rows.
unfoldable pub reachable : List Row → ℕ → ℕ → List ℕ → Bool
reachable t next ties work = not (below (suc (length t)) (λ k. not (is_state (state_after t k) next ties work)))
