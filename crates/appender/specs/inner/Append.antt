-- What the form functions promise: sources are appended to the form that a buffer has.
use Rattle.std.specs.Prelude.{◌≡◌, List, ◌++◌, ℕ, ◌+◌, ◌≤◌, length}
use Rattle.terms.specs.declared.Row.{Row}
use Rattle.laws.specs.Buffers.{overwrite}
use Rattle.forms.specs.Form.{form_from, numbers_of}

-- A buffer has the normal form of sources, of n pieces, in front of what was there before.
pub record Has (t : List Row) (sources base : List ℕ) (n : ℕ) (out : List ℕ) : Type 0 where
  pub pieces : n ≡ length (form_from t sources)
  pub numbers : out ≡ overwrite (numbers_of (form_from t sources)) base

-- Sources were appended: a buffer that had the form of some sources has the form of those and these.
abbrev pub Appended : List Row → List ℕ → ℕ → List ℕ → ℕ → List ℕ → Type 0
Appended t sources n out m out' =
    (earlier base : List ℕ) → length earlier + length sources ≤ 1024 → 4096 ≤ length base
    → Has t earlier base n out → Has t (earlier ++ sources) base m out'
