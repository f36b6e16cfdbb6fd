-- The sweep that marks the representatives whose places have different neighbours.
use mathlib.Core.Path.{◌≡◌, refl, sym, ◌∙◌}
use mathlib.Core.Logic.{◌⊎◌, inl, inr, ◌≢◌}
use mathlib.Core.Bool.{Bool, ◌&&◌, cond}
use mathlib.Core.List.{List}
use Prim.Native.Nat.{ℕ, suc, ◌+◌, ◌-◌, ◌≤◌}
use native.Mathlib.Omega.{arith}
use native.Mathlib.Numerals.{add-one}
use lib.Dec.{eqb}
use lib.ListN.{length, get_or, set}
use lib.Seq.{get_or-set_same, get_or-set_other}
use borrow.Author.Tests.{eq-eqb, ne_eqb}
use Rattle.answers.specs.inner.Classes.{rep}
use Rattle.laws.specs.Lists.{below}
use Rattle.laws.specs.Bools.{implies}
use Rattle.laws.proofs.Numbers.{dec_eq}
use Rattle.borders.specs.inner.Borders.{beside_in, even_at, MarksUneven, uneven_with}
use Rattle.laws.proofs.Bools.{mark_next}

-- with k places passed, the marks are those of the first k
pub record Swept (m c : List ℕ) (side k : ℕ) (u₀ u : List ℕ) : Type 0 where
  pub len : length u ≡ length u₀
  pub marks : MarksUneven m c side k u₀ u

pub swept_first : (m c : List ℕ) (side : ℕ) (u : List ℕ) → Swept m c side 0 u u
unfolding even_at below
swept_first m c side u = record { len = refl; marks = λ r l. refl }

uneven_more : (m c : List ℕ) (side k : ℕ) (u₀ u u' : List ℕ) → length u ≡ length u₀ → MarksUneven m c side k u₀ u → u' ≡ uneven_with m c side k u
    → MarksUneven m c side (k + 1) u₀ u'
unfolding even_at below uneven_with
uneven_more m c side k u₀ u u' n h e r l = rw (add-one k, e) (go (dec_eq r (rep c (suc (suc k)))))
  where
    at : ℕ
    at = rep c (suc (suc k))

    same : Bool
    same = eqb (beside_in m c side k) (beside_in m c side (at - 2))

    go : (r ≡ rep c (suc (suc k))) ⊎ (r ≢ rep c (suc (suc k)))
        → get_or (set u (rep c (suc (suc k))) (cond (eqb (beside_in m c side k) (beside_in m c side (rep c (suc (suc k)) - 2))) (get_or u (rep c (suc (suc k))) 0) 1)) r 0
        ≡ cond (implies (eqb (rep c (suc (suc k))) r) (eqb (beside_in m c side k) (beside_in m c side (r - 2))) && even_at m c side r k) (get_or u₀ r 0) 1
    go (inl q) =
        rw (q, get_or-set_same u at (cond same (get_or u at 0) 1) 0 (omega arith), eq-eqb at at refl, ← q, h r l)
        (mark_next (eqb (beside_in m c side k) (beside_in m c side (r - 2))) (even_at m c side r k) (get_or u₀ r 0))
    go (inr q) = rw (get_or-set_other u at r (cond same (get_or u at 0) 1) 0 q, ne_eqb at r (λ (w : at ≡ r). q (sym w))) (h r l)

pub swept_more : (m c : List ℕ) (side k : ℕ) (u₀ u u' : List ℕ) → Swept m c side k u₀ u → length u' ≡ length u → u' ≡ uneven_with m c side k u
    → Swept m c side (k + 1) u₀ u'
swept_more m c side k u₀ u u' h l e = record { len = l ∙ h.len; marks = uneven_more m c side k u₀ u u' h.len h.marks e }

pub swept_done : (m c : List ℕ) (side k n : ℕ) (u₀ u : List ℕ) → Swept m c side k u₀ u → k ≤ n → n ≤ k → MarksUneven m c side n u₀ u
swept_done m c side k n u₀ u h a b = let e : n ≡ k = omega arith in rw e h.marks
