-- A preview tells what the step would (document 02, (ix)): by definition, and so each time. Assumes nothing.
use mathlib.Core.Path.{◌≡◌, refl}
use mathlib.Core.List.{List, [], ◌∷◌}
use Prim.Native.Nat.{ℕ}
use Rattle.jobs.specs.Call.{step_job, step_work}
use Rattle.calls.specs.Calls.{lw-job-step, lw-job-preview, record_of, left_by}

-- (a) The record of a preview is that of a step on the same numbers, refused or not, and a preview is lent nothing to write; a step on copies leaves `step_job` and
-- `step_work` there. So previews repeat: any number of them and then a step, each on the same numbers, tell the step's record.
pub preview_is_step : (table : List ℕ) (next ties : ℕ) (work : List ℕ)
    → (record_of (lw-job-preview table next ties work) ≡ record_of (lw-job-step table next ties work))
    × ((left_by (lw-job-preview table next ties work) ≡ [])
    × (left_by (lw-job-step table next ties work) ≡ ((step_job table next ties work).next ∷ (step_job table next ties work).ties ∷ []) ∷ step_work table next ties work ∷ []))
preview_is_step table next ties work = (refl, (refl, refl))
