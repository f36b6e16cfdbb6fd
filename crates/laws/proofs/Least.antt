-- The least number that passes a test.
use mathlib.Core.Path.{◌≡◌, refl, sym, ◌∙◌, ap, ap₂}
use mathlib.Core.Bool.{Bool, true, false, cond}
use mathlib.Core.Logic.{◌⊎◌, inl, inr, ◌≢◌}
use Prim.Native.Nat.{ℕ, zero, suc, ◌+◌, ◌≤◌, ◌<◌}
use native.Mathlib.Omega.{arith}
use Rattle.laws.specs.Lists.{least}
use Rattle.laws.proofs.Numbers.{dec_eq}

pub least_ext : (f g : ℕ → Bool) → ((k : ℕ) → f k ≡ g k) → (k d : ℕ) → least f k d ≡ least g k d
unfolding least
least_ext f g h k zero = refl
least_ext f g h k (suc d) = ap₂ (λ (b : Bool) (x : ℕ). cond b k x) (h k) (least_ext f g h (suc k) d)

pub least_is : (f : ℕ → Bool) (d k m : ℕ) → k ≤ m → m ≤ k + d → f m ≡ true → ((j : ℕ) → j < m → f j ≡ false) → least f k d ≡ m
unfolding least
least_is f zero k m a b t h = omega arith
least_is f (suc d) k m a b t h = go (dec_eq k m) (λ (l : k < m). least_is f d (suc k) m l (omega arith) t h)
  where
    go : (k ≡ m) ⊎ (k ≢ m) → (k < m → least f (suc k) d ≡ m) → cond (f k) k (least f (suc k) d) ≡ m
    go (inl e) r = rw (e, t)
    go (inr e) r = rw (h k (omega arith)) (r (omega arith))

-- the lowest number that is not among some
pub least_at : (f : ℕ → Bool) (k d j : ℕ) → j ≤ d → (j < d → f (k + j) ≡ true) → ((m : ℕ) → k ≤ m → m < k + j → f m ≡ false) → least f k d ≡ k + j
unfolding least
least_at f k zero j l h g = omega arith
least_at f k (suc d) zero l h g = let e : k + 0 ≡ k = omega arith in rw (e, rw e at (h (omega arith)))
least_at f k (suc d) (suc j) l h g =
    let e : k + suc j ≡ suc k + j = omega arith in
    rw (g k (omega arith) (omega arith)) (least_at f (suc k) d j (omega arith) (λ q. ap f (sym e) ∙ h (omega arith)) (λ m a b. g m (omega arith) (omega arith)) ∙ sym e)

-- what is found is not below the first and not above the last; what is passed on the way fails
pub least_within : (f : ℕ → Bool) (k d : ℕ) → (k ≤ least f k d) × (least f k d ≤ k + d)
unfolding least
least_within f k zero = (omega arith, omega arith)
least_within f k (suc d) = go (f k) (least_within f (suc k) d)
  where
    go : (b : Bool) → (suc k ≤ least f (suc k) d) × (least f (suc k) d ≤ suc k + d)
        → (k ≤ cond b k (least f (suc k) d)) × (cond b k (least f (suc k) d) ≤ k + suc d)
    go true h = (omega arith, omega arith)
    go false h = (omega (arith, h.0), omega (arith, h.1))

pub least-passed : (f : ℕ → Bool) (k d m : ℕ) → k ≤ m → m < least f k d → f m ≡ false
unfolding least
least-passed f k zero m a b = absurd (omega arith)
least-passed f k (suc d) m a b = go (f k) refl (dec_eq k m) b (λ (l : suc k ≤ m). least-passed f (suc k) d m l)
  where
    go : (t : Bool) → f k ≡ t → (k ≡ m) ⊎ (k ≢ m) → m < cond t k (least f (suc k) d) → (suc k ≤ m → m < least f (suc k) d → f m ≡ false) → f m ≡ false
    go true e w l r = absurd (omega arith)
    go false e (inl w) l r = ap f (sym w) ∙ e
    go false e (inr w) l r = r (omega arith) l

-- what is found passes, where the last number does
pub least_found : (f : ℕ → Bool) (k d : ℕ) → f (k + d) ≡ true → f (least f k d) ≡ true
unfolding least
least_found f k zero t = let e : k + 0 ≡ k = omega arith in rw e at t
least_found f k (suc d) t = go (f k) refl (least_found f (suc k) d (let e : k + suc d ≡ suc k + d = omega arith in rw e at t))
  where
    go : (b : Bool) → f k ≡ b → f (least f (suc k) d) ≡ true → f (cond b k (least f (suc k) d)) ≡ true
    go true e h = e
    go false e h = h
