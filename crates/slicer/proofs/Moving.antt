-- A reader moved on by several bits, up to its piece's end or to the next piece: where it stands, and its source.
use mathlib.Core.Path.{◌≡◌, refl, sym, ap, ◌∙◌, subst}
use mathlib.Core.Logic.{◌⊎◌, inl, inr}
use mathlib.Core.Bool.{Bool, true, false, cond}
use mathlib.Core.List.{List}
use Prim.Native.Nat.{ℕ, zero, suc, ◌+◌, ◌-◌, ◌%◌, ◌≤◌, ◌<◌}
use native.Mathlib.Omega.{arith}
use lib.Dec.{eqb, ltb}
use borrow.Author.Tests.{eq-eqb, ne_eqb, lt-ltb, le-ltb}
use Rattle.laws.proofs.Numbers.{lt_or_le}
use Rattle.sides.specs.declared.Reader.{Reader}
use Rattle.sides.specs.inner.Reading.{first_in, next_in, Stands}
use Rattle.sides.proofs.Reading.{next_stands}
use Rattle.slices.specs.Along.{along}
use Rattle.slices.proofs.SideBySide.{along_fixed, along_place}
use Rattle.slicer.specs.inner.Cutting.{moved_by, passed_in}

-- a reader in a fill, or in a part of a variable
pub data Sort (at : Reader) : Type 0 where
  still : at.step ≡ 0 → at.source < 2 → Sort at
  rises : at.step ≡ 1 → 2 ≤ at.source → Sort at

pub moved_none : (at : Reader) → at.source < 65536 → moved_by 0 at ≡ at
unfolding moved_by
moved_none at l =
    let e : (at.source + 0) % 65536 ≡ at.source = omega arith in
    let z : at.left - 0 ≡ at.left = omega arith in
    rw (e, z) (go (eqb at.step 0))
  where
    go : (b : Bool) → record { piece = at.piece; source = cond b at.source at.source; step = at.step; left = at.left } ≡ at
    go true = refl
    go false = refl

pub moved_source : (at : Reader) (n : ℕ) → Sort at → at.source + n < 65536 → (moved_by n at).source ≡ along at.source n
unfolding moved_by
moved_source at n (still s l) m = rw (eq-eqb at.step 0 s) (sym (along_fixed at.source n l))
moved_source at n (rises s l) m =
    let e : (at.source + n) % 65536 ≡ at.source + n = omega arith in
    rw (ne_eqb at.step 0 (omega arith), e) (sym (along_place at.source n l))

pub moved_sort : (at : Reader) (n : ℕ) → Sort at → at.source + n < 65536 → Sort (moved_by n at)
unfolding moved_by
moved_sort at n (still s l) m = still s (rw (eq-eqb at.step 0 s) l)
moved_sort at n (rises s l) m =
    let e : (at.source + n) % 65536 ≡ at.source + n = omega arith in
    rises s (rw (ne_eqb at.step 0 (omega arith), e) (omega arith))

module _ (lows form : List ℕ) where
  moved_next : (at : Reader) (n : ℕ) → Sort at → n < at.left → next_in lows form (moved_by n at) ≡ moved_by (suc n) at
  unfolding moved_by next_in
  moved_next at n (still s l) m =
      let z : eqb (at.left - n) 0 ≡ false = ne_eqb (at.left - n) 0 (omega arith) in
      let e : (at.source + at.step) % 65536 ≡ at.source = omega arith in
      let f : at.left - n - 1 ≡ at.left - suc n = omega arith in
      rw (z, eq-eqb at.step 0 s, e, f)
  moved_next at n (rises s l) m =
      let z : eqb (at.left - n) 0 ≡ false = ne_eqb (at.left - n) 0 (omega arith) in
      let e : ((at.source + n) % 65536 + at.step) % 65536 ≡ (at.source + suc n) % 65536 = omega arith in
      let f : at.left - n - 1 ≡ at.left - suc n = omega arith in
      rw (z, ne_eqb at.step 0 (omega arith), e, f)

  pub moved_stands : (at : Reader) (k n : ℕ) → Sort at → at.source < 65536 → n ≤ at.left → k + n ≤ 65535 → Stands lows form k at → Stands lows form (k + n) (moved_by n at)
  moved_stands at k zero s l m f st =
      let e : k + 0 ≡ k = omega arith in
      rw (e, moved_none at l) st
  moved_stands at k (suc n) s l m f st =
      let e : k + n + 1 ≡ k + suc n = omega arith in
      subst (λ (j : ℕ). Stands lows form j (moved_by (suc n) at)) e
      (subst (Stands lows form (k + n + 1)) (moved_next at n s (omega arith))
      (next_stands lows form (moved_by n at) (k + n) (omega arith) (moved_stands at k n s l (omega arith) (omega arith) st)))

  -- behind the piece's last bit is the next piece's first
  moved_end : (at : Reader) → next_in lows form (moved_by at.left at) ≡ first_in lows form ((at.piece + 1) % 65536)
  unfolding moved_by next_in
  moved_end at = rw (eq-eqb (at.left - at.left) 0 (omega arith))

  pub passed_stands : (at : Reader) (k n : ℕ) → Sort at → at.source < 65536 → n ≤ suc at.left → k + n ≤ 65535 → Stands lows form k at → Stands lows form (k + n) (passed_in lows form at n)
  unfolding passed_in
  passed_stands at k n s l m f st = go (lt_or_le at.left n)
    where
      go : (at.left < n) ⊎ (n ≤ at.left) → Stands lows form (k + n) (cond (ltb at.left n) (first_in lows form ((at.piece + 1) % 65536)) (moved_by n at))
      go (inl a) =
          let e : k + at.left + 1 ≡ k + n = omega arith in
          rw (lt-ltb at.left n a)
          (subst (λ (j : ℕ). Stands lows form j (first_in lows form ((at.piece + 1) % 65536))) e
          (subst (Stands lows form (k + at.left + 1)) (moved_end at)
          (next_stands lows form (moved_by at.left at) (k + at.left) (omega arith) (moved_stands at k at.left s l (omega arith) (omega arith) st))))
      go (inr a) = rw (le-ltb at.left n a) (moved_stands at k n s l a f st)

-- what the functions make
module _ (at : Reader) (n : ℕ) where
  pub source_still : at.step ≡ 0 → at.source ≡ cond (eqb at.step 0) at.source ((at.source + n) % 65536)
  source_still e = rw (eq-eqb at.step 0 e)

  pub source_on : (at.step ≡ 0 → ⊥) → (x : ℕ) → x ≡ (at.source + n) % 65536 → x ≡ cond (eqb at.step 0) at.source ((at.source + n) % 65536)
  source_on o x e = rw (ne_eqb at.step 0 o) e

  module _ (lows form : List ℕ) where
    pub pass_next : at.left < n → (i : ℕ) → i ≡ (at.piece + 1) % 65536 → (on : Reader) → on ≡ first_in lows form i → on ≡ passed_in lows form at n
    unfolding passed_in
    pass_next l i e on f = rw (lt-ltb at.left n l) (f ∙ ap (first_in lows form) e)

    pub pass_within : n ≤ at.left → (x : ℕ) → x ≡ cond (eqb at.step 0) at.source ((at.source + n) % 65536)
        → record { piece = at.piece; source = x; step = at.step; left = at.left - n } ≡ passed_in lows form at n
    unfolding passed_in moved_by
    pass_within l x e = rw (le-ltb at.left n l, e)
