-- What the closing sweep in whole runs promises.
use Rattle.std.specs.Prelude.{◌≡◌, Bool, List, ℕ, ◌+◌, ◌≤◌, ◌<◌, length, get_or}
use Rattle.answers.specs.inner.Classes.{rep}
use Rattle.classes.specs.inner.Links.{roots_of}
use Rattle.runs.specs.inner.Runs.{Runs, Seated}
use Rattle.run_pairs.specs.inner.Taken.{State}

-- The sources below i link to their roots, those from i on as at first.
pub record Sweeping (shut : ℕ → Bool) (h₀ h last first : List ℕ) (i : ℕ) : Type 0 where
  pub runs : Runs shut (length h₀) h last first
  pub seated : Seated shut i h last
  pub done : (j : ℕ) → j < i → get_or h j 0 ≡ rep (roots_of h₀) j
  pub rest : (j : ℕ) → i ≤ j → get_or h j 0 ≡ get_or h₀ j 0

-- One run more.
pub record RunSettled (shut : ℕ → Bool) (h₀ h' last' first' : List ℕ) (x m : ℕ) : Type 0 where
  pub some : 1 ≤ m
  pub within : x + m ≤ length h₀
  pub sweeping : Sweeping shut h₀ h' last' first' (x + m)

abbrev pub SettlesRun : ℕ → List ℕ → List ℕ → List ℕ → List ℕ → List ℕ → List ℕ → ℕ → Type 0
SettlesRun x h last first h' last' first' m =
    (shut : ℕ → Bool) (h₀ last₀ first₀ : List ℕ) → State shut h₀ last₀ first₀ → length h ≡ length h₀ → length h ≤ length last → length h ≤ length first → 2 ≤ x → x < length h
    → Sweeping shut h₀ h last first x → RunSettled shut h₀ h' last' first' x m

-- All runs: each link is its source's root, and still the links of a run go side by side.
pub record Settled (shut : ℕ → Bool) (h h' last' first' : List ℕ) : Type 0 where
  pub roots : h' ≡ roots_of h
  pub runs : Runs shut (length h) h' last' first'
  pub seated : Seated shut (length h) h' last'

abbrev pub SettlesRuns : List ℕ → List ℕ → List ℕ → List ℕ → List ℕ → List ℕ → Type 0
SettlesRuns h last first h' last' first' = (shut : ℕ → Bool) → State shut h last first → Settled shut h h' last' first'
