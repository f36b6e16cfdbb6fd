-- What the functions that carve a run promise.
use Rattle.std.specs.Prelude.{◌≡◌, ◌≢◌, Bool, List, ℕ, suc, ◌+◌, ◌≤◌, ◌<◌, length, get_or}
use Rattle.slices.specs.Along.{along}
use Rattle.runs.specs.inner.Puts.{Put}
use Rattle.runs.specs.inner.Runs.{Runs, Carved}

abbrev pub LinksRun : ℕ → ℕ → ℕ → List ℕ → List ℕ → Type 0
LinksRun lo len g h h' = lo + len ≤ length h → g + len ≤ 65536 → Put lo len (along g) h h'

-- The sources from f to before lo are a run.
pub record LeftCut (f lo : ℕ) (last first last' first' : List ℕ) : Type 0 where
  pub last_in : (x : ℕ) → f ≤ x → x < lo → suc (get_or last' x 0) ≡ lo
  pub last_before : (x : ℕ) → x < f → get_or last' x 0 ≡ get_or last x 0
  pub last_behind : (x : ℕ) → lo ≤ x → get_or last' x 0 ≡ get_or last x 0
  pub first_at : (x : ℕ) → suc x ≡ lo → f ≤ x → get_or first' x 0 ≡ f
  pub first_other : (x : ℕ) → suc x ≢ lo → get_or first' x 0 ≡ get_or first x 0
  pub first_whole : (x : ℕ) → lo ≤ f → get_or first' x 0 ≡ get_or first x 0

abbrev pub CutsLeft : ℕ → ℕ → List ℕ → List ℕ → List ℕ → List ℕ → Type 0
CutsLeft f lo last first last' first' = lo ≤ length last → lo ≤ length first → LeftCut f lo last first last' first'

-- The sources from lo on end a run, if it went on to t.
pub record RightCut (lo len t : ℕ) (last first last' first' : List ℕ) : Type 0 where
  pub last_in : (x : ℕ) → lo + len ≤ t → lo ≤ x → x < lo + len → suc (get_or last' x 0) ≡ lo + len
  pub last_whole : (x : ℕ) → t < lo + len → get_or last' x 0 ≡ get_or last x 0
  pub last_before : (x : ℕ) → x < lo → get_or last' x 0 ≡ get_or last x 0
  pub last_behind : (x : ℕ) → lo + len ≤ x → get_or last' x 0 ≡ get_or last x 0
  pub first_at : lo + len ≤ t → get_or first' t 0 ≡ lo + len
  pub first_other : (x : ℕ) → x ≢ t → get_or first' x 0 ≡ get_or first x 0

abbrev pub CutsRight : ℕ → ℕ → ℕ → List ℕ → List ℕ → List ℕ → List ℕ → Type 0
CutsRight lo len t last first last' first' =
    lo + len ≤ 65535 → 1 ≤ len → lo + len ≤ length last → t < length first → RightCut lo len t last first last' first'

-- Sources of one run were carved out of it.
abbrev pub Carves : ℕ → ℕ → ℕ → List ℕ → List ℕ → List ℕ → List ℕ → List ℕ → List ℕ → Type 0
Carves lo len g h last first h' last' first' =
    (shut : ℕ → Bool) → Runs shut (length h) h last first → length h ≤ 65535 → length h ≤ length last → length h ≤ length first → 2 ≤ lo → lo < length h → 1 ≤ len
    → lo + len ≤ suc (get_or last lo 0) → g + len ≤ 65536 → Carved lo len g h last first h' last' first'
