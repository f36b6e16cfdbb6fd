-- A run of numbers written one by one.
use mathlib.Core.Path.{◌≡◌, refl, sym, ap, ◌∙◌, subst}
use mathlib.Core.Logic.{◌⊎◌, inl, inr, ◌≢◌}
use mathlib.Core.List.{List}
use Prim.Native.Nat.{ℕ, zero, suc, ◌+◌, ◌-◌, ◌%◌, ◌≤◌, ◌<◌, min}
use native.Mathlib.Omega.{arith}
use lib.ListN.{length, get_or, set, length-set}
use lib.Seq.{get_or-set_same, get_or-set_other}
use Rattle.laws.proofs.Numbers.{dec_eq}
use Rattle.runs.specs.inner.Puts.{Put, paced, PutsRun}

pub paced_same : (x k : ℕ) → x < 65536 → paced x 0 k ≡ x
unfolding paced
paced_same x zero l = refl
paced_same x (suc k) l = omega (arith, paced_same x k l)

pub paced_up : (x k : ℕ) → x + k < 65536 → paced x 1 k ≡ x + k
unfolding paced
paced_up x zero l = omega arith
paced_up x (suc k) l = omega (arith, paced_up x k (omega arith))

put_more : (from k : ℕ) (f : ℕ → ℕ) (b b' : List ℕ) → from + k < length b' → Put from k f b b' → (y : ℕ) → y ≡ f k → Put from (suc k) f b (set b' (from + k) y)
put_more from k f b b' l p y e = record {
  in' = λ j i. at j i (dec_eq j k);
  before = λ i h. get_or-set_other b' (from + k) i y 0 (omega arith) ∙ p.before i h;
  behind = λ i h. get_or-set_other b' (from + k) i y 0 (omega arith) ∙ p.behind i (omega arith);
}
  where
    at : (j : ℕ) → j < suc k → (j ≡ k) ⊎ (j ≢ k) → get_or (set b' (from + k) y) (from + j) 0 ≡ f j
    at j i (inl z) = rw z (get_or-set_same b' (from + k) y 0 l ∙ e)
    at j i (inr z) = get_or-set_other b' (from + k) (from + j) y 0 (omega arith) ∙ p.in' j (omega arith)

-- the numbers of n places from `from` on are written up to place `at`; the next one is y
pub record Putting (from n x step : ℕ) (b₀ b : List ℕ) (at y : ℕ) : Type 0 where
  pub len : length b ≡ length b₀
  pub room : n ≤ length b₀ - from
  pub done : ℕ
  pub most : done ≤ n
  pub place : at ≡ from + done
  pub next : y ≡ paced x step done
  pub put : Put from done (paced x step) b₀ b

pub putting_first : (from count x step : ℕ) (b : List ℕ) (n r : ℕ) → r ≡ length b - from → n ≡ min count r → Putting from n x step b b from x
unfolding paced
putting_first from count x step b n r er en = record {
  len = refl;
  room = omega arith;
  done = 0;
  most = omega arith;
  place = omega arith;
  next = refl;
  put = record { in' = λ k l. absurd (omega arith); before = λ i l. refl; behind = λ i l. refl };
}

pub putting_more : (from n x step : ℕ) (b₀ b : List ℕ) (at y y' : ℕ) → Putting from n x step b₀ b at y → at < from + n → y' ≡ (y + step) % 65536
    → Putting from n x step b₀ (set b at y) (at + 1) y'
unfolding paced
putting_more from n x step b₀ b at y y' p l e = record {
  len = length-set b at y ∙ p.len;
  room = p.room;
  done = suc p.done;
  most = omega (arith, p.place);
  place = omega (arith, p.place);
  next = e ∙ ap (λ (z : ℕ). (z + step) % 65536) p.next;
  put = subst (λ (z : ℕ). Put from (suc p.done) (paced x step) b₀ (set b z y)) (sym p.place)
      (put_more from p.done (paced x step) b₀ b (omega (arith, p.room, p.place, p.len)) p.put y p.next);
}

-- the next number is there
pub putting_there : (from n x step : ℕ) (b₀ b : List ℕ) (at y : ℕ) → Putting from n x step b₀ b at y → at < from + n → at < length b
putting_there from n x step b₀ b at y p l = omega (arith, p.room, p.len, p.place)

pub putting_done : (from count x step : ℕ) (b₀ b : List ℕ) (n at y r : ℕ) → r ≡ length b₀ - from → n ≡ min count r → Putting from n x step b₀ b at y → at ≡ from + n
    → PutsRun from count x step b₀ b
putting_done from count x step b₀ b n at y r er en p l fits =
    let z : p.done ≡ count = omega (arith, p.place) in
    subst (λ (k : ℕ). Put from k (paced x step) b₀ b) z p.put
