-- Classes in whole runs: beside the links, the sources from 2 on are cut into runs, in which links go side by side.
use Rattle.std.specs.Prelude.{◌≡◌, Bool, false, List, ℕ, suc, ◌+◌, ◌≤◌, ◌<◌, get_or}
use Rattle.slices.specs.Along.{along}

-- The n sources with links h are cut into runs. `last` has for each source from 2 on the last one of its run, and `first` at that one the
-- first. Where a run goes on, the next source links to the one behind, and no variable begins there (`shut`).
pub record Runs (shut : ℕ → Bool) (n : ℕ) (h last first : List ℕ) : Type 0 where
  pub ends : (s : ℕ) → 2 ≤ s → s < n → (s ≤ get_or last s 0) × (get_or last s 0 < n)
  pub starts : (s : ℕ) → 2 ≤ s → s < n → (2 ≤ get_or first (get_or last s 0) 0) × (get_or first (get_or last s 0) 0 ≤ s)
  pub whole : (s x : ℕ) → 2 ≤ s → s < n → get_or first (get_or last s 0) 0 ≤ x → x ≤ get_or last s 0 → get_or last x 0 ≡ get_or last s 0
  pub side : (s : ℕ) → 2 ≤ s → s < get_or last s 0 → s < n → get_or h (suc s) 0 ≡ along (get_or h s 0) 1
  pub inside : (s : ℕ) → 2 ≤ s → s < get_or last s 0 → s < n → shut (suc s) ≡ false

-- The same of what the sources below i link to: where a run goes on, no variable begins there.
abbrev pub Seated : (ℕ → Bool) → ℕ → List ℕ → List ℕ → Type 0
Seated shut i h last = (s : ℕ) → 2 ≤ s → s < get_or last s 0 → s < i → 2 ≤ get_or h s 0 → shut (suc (get_or h s 0)) ≡ false

-- The len sources from lo on, of one run, became a run of their own that links from g on: three lists before and after.
pub record Carved (lo len g : ℕ) (h last first h' last' first' : List ℕ) : Type 0 where
  pub h_in : (k : ℕ) → k < len → get_or h' (lo + k) 0 ≡ along g k
  pub h_before : (x : ℕ) → x < lo → get_or h' x 0 ≡ get_or h x 0
  pub h_behind : (x : ℕ) → lo + len ≤ x → get_or h' x 0 ≡ get_or h x 0
  pub last_low : (x : ℕ) → x < lo → x < get_or first (get_or last lo 0) 0 → get_or last' x 0 ≡ get_or last x 0
  pub last_left : (x : ℕ) → x < lo → get_or first (get_or last lo 0) 0 ≤ x → suc (get_or last' x 0) ≡ lo
  pub last_in : (x : ℕ) → lo ≤ x → x < lo + len → suc (get_or last' x 0) ≡ lo + len
  pub last_behind : (x : ℕ) → lo + len ≤ x → get_or last' x 0 ≡ get_or last x 0
  pub first_left : (x : ℕ) → suc x ≡ lo → get_or first (get_or last lo 0) 0 ≤ x → get_or first' x 0 ≡ get_or first (get_or last lo 0) 0
  pub first-in : (x : ℕ) → suc x ≡ lo + len → get_or first' x 0 ≡ lo
  pub first_right : (x : ℕ) → x ≡ get_or last lo 0 → lo + len ≤ x → get_or first' x 0 ≡ lo + len
  pub first_low : (x : ℕ) → x < get_or first (get_or last lo 0) 0 → get_or first' x 0 ≡ get_or first x 0
  pub first_high : (x : ℕ) → get_or last lo 0 < x → get_or first' x 0 ≡ get_or first x 0
