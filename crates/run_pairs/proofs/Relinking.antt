-- A run linked straight to its roots: the same classes.
use mathlib.Core.Path.{◌≡◌, sym, ap, ◌∙◌}
use mathlib.Core.Logic.{◌⊎◌, inl, inr}
use mathlib.Core.List.{List}
use Prim.Native.Nat.{ℕ, ◌+◌, ◌-◌, ◌≤◌, ◌<◌}
use native.Mathlib.Omega.{arith}
use lib.ListN.{length, get_or}
use Rattle.laws.proofs.Numbers.{lt_or_le}
use Rattle.answers.specs.inner.Classes.{rep}
use Rattle.classes.proofs.Links.{Stands}
use Rattle.slices.specs.Along.{along}

-- links that differ in the run of len sources from x on
module _ (h h' : List ℕ) (x len g : ℕ) (same_len : length h' ≡ length h) (in' : (k : ℕ) → k < len → get_or h' (x + k) 0 ≡ along g k)
    (before : (i : ℕ) → i < x → get_or h' i 0 ≡ get_or h i 0) (behind : (i : ℕ) → x + len ≤ i → get_or h' i 0 ≡ get_or h i 0) where
  data Part (i : ℕ) : Type 0 where
    out : get_or h' i 0 ≡ get_or h i 0 → Part i
    mid : (k : ℕ) → k < len → i ≡ x + k → get_or h' i 0 ≡ along g k → Part i

  part : (i : ℕ) → Part i
  part i = go (lt_or_le i x) (lt_or_le i (x + len))
    where
      go : (i < x) ⊎ (x ≤ i) → (i < x + len) ⊎ (x + len ≤ i) → Part i
      go (inl a) b = out (before i a)
      go (inr a) (inr b) = out (behind i b)
      go (inr a) (inl b) =
          let e : i ≡ x + (i - x) = omega arith in
          mid (i - x) (omega arith) e (ap (λ (y : ℕ). get_or h' y 0) e ∙ in' (i - x) (omega arith))

  -- to lower ones of their classes
  pub run_relinked : (c : List ℕ) → Stands h c → ((k : ℕ) → k < len → rep c (x + k) ≡ along g k) → ((k : ℕ) → k < len → along g k < x + k) → Stands h' c
  run_relinked c S roots lower = record {
    canon = S.canon;
    len = same_len ∙ S.len;
    low = λ i. low_at i (part i);
    keep = λ i. keep_at i (part i);
    top = λ i e. top_at i e (part i);
  }
    where
      low_at : (i : ℕ) → Part i → get_or h' i 0 ≤ i
      low_at i (out e) = omega (arith, S.low i)
      low_at i (mid k l e v) = omega (arith, lower k l)

      keep_at : (i : ℕ) → Part i → rep c (get_or h' i 0) ≡ rep c i
      keep_at i (out e) = ap (rep c) e ∙ S.keep i
      keep_at i (mid k l e v) =
          let w : rep c i ≡ along g k = ap (rep c) e ∙ roots k l in
          ap (rep c) (v ∙ sym w) ∙ S.canon.root i

      top_at : (i : ℕ) → get_or h' i 0 ≡ i → Part i → rep c i ≡ i
      top_at i f (out e) = S.top i (sym e ∙ f)
      top_at i f (mid k l e v) = absurd (omega (arith, lower k l))
