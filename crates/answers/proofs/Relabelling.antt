-- One pair taken, of classes as a function: the higher class goes to the lower.
use mathlib.Core.Path.{◌≡◌, sym, ap, ◌∙◌}
use mathlib.Core.Logic.{◌⊎◌, inl, inr, ◌≢◌}
use Prim.Native.Nat.{ℕ, ◌≤◌, min, max}
use native.Mathlib.Omega.{arith}
use borrow.Author.Tests.{eq-eqb, ne_eqb}
use Rattle.answers.specs.inner.Classes.{relabel}
use Rattle.laws.proofs.Numbers.{dec_eq}

pub relabel_hit : (hi lo v : ℕ) → v ≡ hi → relabel hi lo v ≡ lo
unfolding relabel
relabel_hit hi lo v e = rw (eq-eqb v hi e)

pub relabel_miss : (hi lo v : ℕ) → v ≢ hi → relabel hi lo v ≡ v
unfolding relabel
relabel_miss hi lo v e = rw (ne_eqb v hi e)

-- c gives each source its representative; the pair is of s and t
module _ (c : ℕ → ℕ) (low : (i : ℕ) → c i ≤ i) (root : (i : ℕ) → c (c i) ≡ c i) (s t : ℕ) where
  unfoldable pub hi : ℕ
  hi = max (c s) (c t)

  unfoldable pub lo : ℕ
  lo = min (c s) (c t)

  pub lo≤hi : lo ≤ hi
  unfolding hi lo
  lo≤hi = omega arith

  -- the two cases of the order
  sides : ((hi ≡ c s) × (lo ≡ c t)) ⊎ ((hi ≡ c t) × (lo ≡ c s))
  unfolding hi lo
  sides = go (dec_eq (max (c s) (c t)) (c s))
    where
      go : (max (c s) (c t) ≡ c s) ⊎ (max (c s) (c t) ≢ c s) → ((max (c s) (c t) ≡ c s) × (min (c s) (c t) ≡ c t)) ⊎ ((max (c s) (c t) ≡ c t) × (min (c s) (c t) ≡ c s))
      go (inl e) = inl (omega arith)
      go (inr e) = inr (omega arith)

  pub hi_root : c hi ≡ hi
  hi_root = go sides
    where
      go : ((hi ≡ c s) × (lo ≡ c t)) ⊎ ((hi ≡ c t) × (lo ≡ c s)) → c hi ≡ hi
      go (inl e) = cc (root s)
      go (inr e) = cc (root t)

  lo_root : c lo ≡ lo
  lo_root = go sides
    where
      go : ((hi ≡ c s) × (lo ≡ c t)) ⊎ ((hi ≡ c t) × (lo ≡ c s)) → c lo ≡ lo
      go (inl e) = cc (root t)
      go (inr e) = cc (root s)

  unfoldable pub next : ℕ → ℕ
  next i = relabel hi lo (c i)

  pub next_lo : next lo ≡ lo
  unfolding next
  next_lo = go (dec_eq (c lo) hi)
    where
      go : (c lo ≡ hi) ⊎ (c lo ≢ hi) → relabel hi lo (c lo) ≡ lo
      go (inl e) = relabel_hit hi lo (c lo) e
      go (inr e) = cc (relabel_miss hi lo (c lo) e, lo_root)

  pub next_hi : next hi ≡ lo
  unfolding next
  next_hi = relabel_hit hi lo (c hi) hi_root

  -- an entry is changed to lo, or stays
  pub next_cases : (i : ℕ) → ((c i ≡ hi) × (next i ≡ lo)) ⊎ ((c i ≢ hi) × (next i ≡ c i))
  unfolding next
  next_cases i = go (dec_eq (c i) hi)
    where
      go : (c i ≡ hi) ⊎ (c i ≢ hi) → ((c i ≡ hi) × (relabel hi lo (c i) ≡ lo)) ⊎ ((c i ≢ hi) × (relabel hi lo (c i) ≡ c i))
      go (inl e) = inl (e, relabel_hit hi lo (c i) e)
      go (inr e) = inr (e, relabel_miss hi lo (c i) e)

  pub next_low : (i : ℕ) → next i ≤ i
  next_low i = go (next_cases i)
    where
      go : ((c i ≡ hi) × (next i ≡ lo)) ⊎ ((c i ≢ hi) × (next i ≡ c i)) → next i ≤ i
      go (inl e) = omega (arith, lo≤hi, low i)
      go (inr e) = omega (arith, low i)

  pub next_root : (i : ℕ) → next (next i) ≡ next i
  next_root i = go (next_cases i)
    where
      go : ((c i ≡ hi) × (next i ≡ lo)) ⊎ ((c i ≢ hi) × (next i ≡ c i)) → next (next i) ≡ next i
      go (inl e) = cc next_lo
      go (inr e) = ap next e.1 ∙ again (next_cases (c i))
        where
          again : ((c (c i) ≡ hi) × (next (c i) ≡ lo)) ⊎ ((c (c i) ≢ hi) × (next (c i) ≡ c (c i))) → next (c i) ≡ next i
          again (inl f) = absurd (e.0 (sym (root i) ∙ f.0))
          again (inr f) = cc (root i)

  next_same : next s ≡ next t
  unfolding next
  next_same = go sides
    where
      at : (i : ℕ) → (c i ≡ hi) ⊎ (c i ≡ lo) → next i ≡ lo
      at i (inl e) = relabel_hit hi lo (c i) e
      at i (inr e) = (ap (relabel hi lo) (e ∙ sym lo_root)) ∙ next_lo

      go : ((hi ≡ c s) × (lo ≡ c t)) ⊎ ((hi ≡ c t) × (lo ≡ c s)) → next s ≡ next t
      go (inl e) = at s (inl (sym e.0)) ∙ sym (at t (inr (sym e.1)))
      go (inr e) = at s (inr (sym e.1)) ∙ sym (at t (inl (sym e.0)))

  -- b gives each source a bit: what the old classes and the pair say is what the new classes say
  module _ (b : ℕ → ℕ) where
    pub next_just : ((i : ℕ) → b i ≡ b (c i)) → b s ≡ b t → (i : ℕ) → b i ≡ b (next i)
    next_just h e i = go (next_cases i)
      where
        both : b lo ≡ b hi
        both = pick sides
          where
            pick : ((hi ≡ c s) × (lo ≡ c t)) ⊎ ((hi ≡ c t) × (lo ≡ c s)) → b lo ≡ b hi
            pick (inl f) = cc (h s, h t)
            pick (inr f) = cc (h s, h t)

        go : ((c i ≡ hi) × (next i ≡ lo)) ⊎ ((c i ≢ hi) × (next i ≡ c i)) → b i ≡ b (next i)
        go (inl f) = cc (h i, both)
        go (inr f) = cc (h i)

    pub next_pair : ((i : ℕ) → b i ≡ b (next i)) → b s ≡ b t
    next_pair h = cc (h s, h t, next_same)

    pub next_old : ((i : ℕ) → b i ≡ b (next i)) → (i : ℕ) → b i ≡ b (c i)
    next_old h i = go (next_cases i)
      where
        go : ((c i ≡ hi) × (next i ≡ lo)) ⊎ ((c i ≢ hi) × (next i ≡ c i)) → b i ≡ b (c i)
        go (inl f) = cc (h i, h hi, next_hi)
        go (inr f) = cc (h i)
