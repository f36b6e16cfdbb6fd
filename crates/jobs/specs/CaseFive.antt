-- Document 01's case 5 as a job, all numbers: what each call returns and leaves, whatever job and work area were lent to the opening.
use Rattle.std.specs.Prelude.{◌≡◌, List, [], ◌∷◌, ℕ, ◌+◌, ◌-◌, length, replicate}
use Rattle.jobs.specs.Call.{open_record}
use Rattle.jobs.specs.Course.{Lent, step_told, after_steps}

-- Two variables of one bit, the bits 0 and 1; the variables are equal, the second is 0, the first is 1.
abbrev pub case_five : List ℕ
case_five =
    0 ∷ 1 ∷ 0 ∷ 0
    ∷ 0 ∷ 1 ∷ 0 ∷ 0
    ∷ 1 ∷ 0 ∷ 1 ∷ 0
    ∷ 1 ∷ 1 ∷ 1 ∷ 0
    ∷ 4 ∷ 0 ∷ 1 ∷ 0
    ∷ 4 ∷ 1 ∷ 2 ∷ 0
    ∷ 4 ∷ 0 ∷ 3 ∷ 0
    ∷ []

-- A job and a work area of so many numbers: the first two, and 0 after them.
abbrev pub leaves : ℕ → ℕ → ℕ → ℕ → ℕ → Lent
leaves room next ties first second = record { job = record { next = next; ties = ties }; work = first ∷ second ∷ replicate (room - 2) 0 }

-- (g)
pub record CaseFive (lent : Lent) : Type 0 where
  pub opening : open_record case_five (length lent.work) ≡ record { outcome = 0; pieces = 0; fresh = 0; free = 2; ties = 0; row = 0 }
  pub opened : after_steps case_five lent 0 ≡ leaves (length lent.work) 4 0 0 1
  pub step_1 : step_told case_five (after_steps case_five lent 0) ≡ record { outcome = 2; pieces = 2; fresh = 1; free = 1; ties = 1; row = 0 }
  pub after_1 : after_steps case_five lent 1 ≡ leaves (length lent.work) 5 1 0 0
  pub step_2 : step_told case_five (after_steps case_five lent 1) ≡ record { outcome = 2; pieces = 2; fresh = 0; free = 0; ties = 2; row = 0 }
  pub after_2 : after_steps case_five lent 2 ≡ leaves (length lent.work) 6 2 4096 4096
  pub step_3 : step_told case_five (after_steps case_five lent 2) ≡ record { outcome = 1; pieces = 0; fresh = 0; free = 0; ties = 2; row = 6 }
  pub never : (k : ℕ) → after_steps case_five lent (3 + k) ≡ leaves (length lent.work) 1000 2 4096 4096
  pub further : (k : ℕ) → step_told case_five (after_steps case_five lent (3 + k)) ≡ record { outcome = 1; pieces = 0; fresh = 0; free = 0; ties = 2; row = 6 }
