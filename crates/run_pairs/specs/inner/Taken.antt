-- What the functions that take pairs in whole runs promise.
use Rattle.std.specs.Prelude.{◌≡◌, ◌⊎◌, ◌≢◌, Bool, cond, List, ℕ, suc, ◌+◌, ◌≤◌, ◌<◌, min, max, eqb, length, get_or}
use Rattle.answers.specs.inner.Classes.{rep, run, links}
use Rattle.classes.specs.inner.Links.{Low, roots_of, linked}
use Rattle.slices.specs.Along.{along, run_pairs}
use Rattle.runs.specs.inner.Runs.{Runs}

-- Links and runs of an accepted table's sources, where no conflict was met.
pub record State (shut : ℕ → Bool) (h last first : List ℕ) : Type 0 where
  pub runs : Runs shut (length h) h last first
  pub low : Low h
  pub few : length h ≤ 4098
  pub last_room : length h ≤ length last
  pub first_room : length h ≤ length first
  pub one : rep (roots_of h) 1 ≡ 1

-- Links changed, and not the classes.
pub record Same (shut : ℕ → Bool) (h h' last' first' : List ℕ) : Type 0 where
  pub state : State shut h' last' first'
  pub same : roots_of h' ≡ roots_of h

abbrev pub Shortens : ℕ → ℕ → ℕ → List ℕ → List ℕ → List ℕ → List ℕ → List ℕ → List ℕ → Type 0
Shortens x count root h last first h' last' first' =
    (shut : ℕ → Bool) → State shut h last first → x < length h → 1 ≤ count → ((k : ℕ) → k < count → rep (roots_of h) (along x k) ≡ along root k) → Same shut h h' last' first'

-- Why no more than len of count pairs were taken at once: a run of the class of a or of b ends there, or the higher roots would be among
-- those that they are linked to.
pub data Left (h last : List ℕ) (a b count len : ℕ) : Type 0 where
  taken_all : len ≡ count → Left h last a b count len
  at_end : (x : ℕ) → 2 ≤ x → (rep (roots_of h) x ≡ rep (roots_of h) a) ⊎ (rep (roots_of h) x ≡ rep (roots_of h) b) → x + len ≡ suc (get_or last x 0) → Left h last a b count len
  at_own : min (rep (roots_of h) a) (rep (roots_of h) b) + len ≡ max (rep (roots_of h) a) (rep (roots_of h) b) → Left h last a b count len

-- The pairs of len sources from a on and from b on were taken: they say nothing (0), are ties, each of them (1), or the first of them is of two
-- different fixed bits (2).
pub record RunTaken (shut : ℕ → Bool) (a b count : ℕ) (h last h' last' first' : List ℕ) (what len : ℕ) : Type 0 where
  pub some : 1 ≤ len
  pub most : len ≤ count
  pub left : what ≢ 2 → Left h last a b count len
  pub state : what ≢ 2 → State shut h' last' first'
  pub next : what ≢ 2 → roots_of h' ≡ run (roots_of h) (run_pairs a b len)
  pub ties : what ≢ 2 → links (roots_of h) (run_pairs a b len) ≡ cond (eqb what 1) len 0
  pub clash : what ≡ 2 → linked (rep (roots_of h) a) (rep (roots_of h) b) ≡ 2

abbrev pub TakesRun : ℕ → ℕ → ℕ → List ℕ → List ℕ → List ℕ → List ℕ → List ℕ → List ℕ → ℕ → ℕ → Type 0
TakesRun a b count h last first h' last' first' what len =
    (shut : ℕ → Bool) → State shut h last first → a < length h → b < length h → 1 ≤ count → RunTaken shut a b count h last h' last' first' what len

-- Two places that link to the same source.
pub record Alike (h : List ℕ) (a b : ℕ) : Type 0 where
  pub left : 2 ≤ a
  pub right : 2 ≤ b
  pub same : get_or h a 0 ≡ get_or h b 0
