-- What a search for roots promises.
use Rattle.std.specs.Prelude.{◌≡◌, Bool, List, ℕ, suc, ◌+◌, ◌≤◌, ◌<◌, length, get_or}
use Rattle.answers.specs.inner.Classes.{rep}
use Rattle.classes.specs.inner.Links.{Low, roots_of}
use Rattle.slices.specs.Along.{along}
use Rattle.runs.specs.inner.Runs.{Runs}

-- Why no more than len of count sources were passed: a run of the class of s ends there.
pub data Stop (h last : List ℕ) (s count len : ℕ) : Type 0 where
  whole : len ≡ count → Stop h last s count len
  ends : (x : ℕ) → 2 ≤ x → rep (roots_of h) x ≡ rep (roots_of h) s → x + len ≡ suc (get_or last x 0) → Stop h last s count len

-- The len sources from s on have the roots from `root` on, which are of one run.
pub record RunFound (h last : List ℕ) (s count root len : ℕ) : Type 0 where
  pub some : 1 ≤ len
  pub most : len ≤ count
  pub low : root ≤ s
  pub roots : (k : ℕ) → k < len → rep (roots_of h) (along s k) ≡ along root k
  pub fits : 2 ≤ root → root + len ≤ suc (get_or last root 0)
  pub stops : Stop h last s count len

abbrev pub FindsRun : List ℕ → List ℕ → ℕ → ℕ → ℕ → ℕ → Type 0
FindsRun h last s count root len =
    (shut : ℕ → Bool) (first : List ℕ) → Runs shut (length h) h last first → Low h → length h ≤ 65535 → rep (roots_of h) 1 ≡ 1 → s < length h → 1 ≤ count
    → RunFound h last s count root len
