-- What taking the pairs of a slice promises.
use Rattle.std.specs.Prelude.{◌≡◌, ◌≢◌, Bool, true, false, List, ℕ, ◌-◌, ◌<◌, length}
use Rattle.answers.specs.inner.Classes.{rep, run, links}
use Rattle.classes.specs.inner.Links.{roots_of}
use Rattle.slices.specs.Along.{along, run_pairs}
use Rattle.run_pairs.specs.inner.Taken.{State, RunTaken}

-- Pairs from that of a and b on were taken in steps, each of them such as `take_run` promises of all the pairs that are left: so a step ends only where a run
-- ends, where the slice ends or where roots meet (`Left`). The links and runs h', last' and first' are those behind the last step.
pub data InSteps (shut : ℕ → Bool) (h' last' first' : List ℕ) : ℕ → ℕ → ℕ → List ℕ → List ℕ → List ℕ → Type 0 where
  none_left : {a b : ℕ} → InSteps shut h' last' first' a b 0 h' last' first'
  step : {a b left : ℕ} {h last first h'' last'' first'' : List ℕ} (what n : ℕ) → what ≢ 2 → RunTaken shut a b left h last h'' last'' first'' what n
      → InSteps shut h' last' first' (along a n) (along b n) (left - n) h'' last'' first'' → InSteps shut h' last' first' a b left h last first

-- The pairs of a slice were taken, in steps, or two different fixed bits met.
pub record SliceTaken (shut : ℕ → Bool) (left right width : ℕ) (h last first h' last' first' : List ℕ) (conflict : Bool) (ties : ℕ) : Type 0 where
  pub state : conflict ≡ false → State shut h' last' first'
  pub in_steps : conflict ≡ false → InSteps shut h' last' first' left right width h last first
  pub next : conflict ≡ false → roots_of h' ≡ run (roots_of h) (run_pairs left right width)
  pub counted : conflict ≡ false → ties ≡ links (roots_of h) (run_pairs left right width)
  pub clash : conflict ≡ true → rep (run (roots_of h) (run_pairs left right width)) 1 ≡ 0

abbrev pub TakesSlice : ℕ → ℕ → ℕ → List ℕ → List ℕ → List ℕ → List ℕ → List ℕ → List ℕ → Bool → ℕ → Type 0
TakesSlice left right width h last first h' last' first' conflict ties =
    (shut : ℕ → Bool) → State shut h last first → ((k : ℕ) → k < width → along left k < length h) → ((k : ℕ) → k < width → along right k < length h)
    → SliceTaken shut left right width h last first h' last' first' conflict ties
