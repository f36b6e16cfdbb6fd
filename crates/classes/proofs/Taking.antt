-- A pair taken, and what it says of the assignments: a conflict is reported exactly if none is left, a tie exactly if the pairs
-- before do not imply it. Assumes nothing.
use mathlib.Core.Path.{◌≡◌, refl, sym, ap, ◌∙◌}
use mathlib.Core.Logic.{◌⊎◌, inl, inr, ◌≢◌}
use mathlib.Core.Bool.{Bool, true, cond}
use mathlib.Core.List.{List, [], ◌∷◌, ◌++◌, reverse}
use Prim.Native.Nat.{ℕ, suc, min, max}
use native.Mathlib.Omega.{arith}
use lib.Dec.{eqb}
use borrow.Author.Tests.{eq-eqb, ne_eqb}
use Rattle.laws.specs.Lists.{count_up}
use Rattle.answers.specs.Pairs.{Pair, equals}
use Rattle.answers.specs.Representatives.{none_satisfies, Satisfiable}
use Rattle.answers.specs.inner.Classes.{rep, merge, run, classes_of}
use Rattle.answers.proofs.Relabelling.{relabel_miss}
use Rattle.answers.proofs.Agreement.{classes_represent, satisfies-reverse}
use Rattle.answers.proofs.Exact.{equals_is}
use Rattle.answers.proofs.Order.{equals_same}
use Rattle.answers.proofs.Theorems.{conflict_exactly, apart}
use Rattle.classes.specs.inner.Links.{linked}
use Rattle.classes.proofs.Links.{Canon, linked-cases, merge_is, merge_hi, merge_same}

-- one pair, taken or in conflict
module _ (c : List ℕ) (k : Canon c) (q : Pair) where
  abbrev x : ℕ
  x = rep c q.left

  abbrev y : ℕ
  y = rep c q.right

  abbrev Cases : Type 0
  Cases = ((x ≡ y) × (linked x y ≡ 0)) ⊎ (((x ≢ y) × (max x y ≡ 1) × (linked x y ≡ 2)) ⊎ ((x ≢ y) × (max x y ≢ 1) × (linked x y ≡ 1)))

  pub tie_or-not : linked x y ≢ 2 → linked x y ≡ cond (eqb x y) 0 1
  tie_or-not n = go (linked-cases x y)
    where
      go : Cases → linked x y ≡ cond (eqb x y) 0 1
      go (inl e) = rw (eq-eqb x y e.0) e.1
      go (inr (inl e)) = absurd (n e.2)
      go (inr (inr e)) = rw (ne_eqb x y e.0) e.2

  pub no_conflict : linked x y ≢ 2 → rep c 1 ≡ 1 → rep (merge c q) 1 ≡ 1
  no_conflict n o = go (linked-cases x y)
    where
      go : Cases → rep (merge c q) 1 ≡ 1
      go (inl e) = ap (λ (v : List ℕ). rep v 1) (merge_same c q e.0) ∙ o
      go (inr (inl e)) = absurd (n e.2)
      go (inr (inr e)) = merge_is c k q 1 ∙ relabel_miss (max x y) (min x y) (rep c 1) (λ (z : rep c 1 ≡ max x y). e.1 (sym z ∙ o)) ∙ o

  pub a_conflict : linked x y ≡ 2 → rep (merge c q) 1 ≡ 0
  a_conflict n = go (linked-cases x y)
    where
      go : Cases → rep (merge c q) 1 ≡ 0
      go (inl e) = absurd (omega (arith, n, e.1))
      go (inr (inl e)) = ap (rep (merge c q)) (sym e.1) ∙ merge_hi c k q ∙ omega (arith, e.0, e.1)
      go (inr (inr e)) = absurd (omega (arith, n, e.2))

run_last : (c : List ℕ) (qs : List Pair) (q : Pair) → run c (qs ++ (q ∷ [])) ≡ merge (run c qs) q
unfolding run
run_last c [] q = refl
run_last c (p ∷ qs) q = run_last (merge c p) qs q

module _ (n : ℕ) (qs : List Pair) (h : Satisfiable n qs) (q : Pair) where
  abbrev c : List ℕ
  c = classes_of n qs

  canon : Canon c
  canon = record { low = (classes_represent n qs).low; root = (classes_represent n qs).root }

  last : classes_of n (qs ++ (q ∷ [])) ≡ merge c q
  unfolding classes_of
  last = run_last (count_up 0 (suc (suc n))) qs q

  none_left : none_satisfies n (qs ++ (q ∷ [])) ≡ eqb (rep (merge c q) 1) 0
  none_left = conflict_exactly n (qs ++ (q ∷ [])) ∙ ap (λ (v : List ℕ). eqb (rep v 1) 0) last

  -- A conflict is reported exactly if no assignment satisfies the pairs up to there.
  pub reported_at : linked (rep c q.left) (rep c q.right) ≡ 2 → none_satisfies n (qs ++ (q ∷ [])) ≡ true
  reported_at e = none_left ∙ eq-eqb (rep (merge c q) 1) 0 (a_conflict c canon q e)

  pub not_reported : linked (rep c q.left) (rep c q.right) ≢ 2 → Satisfiable n (qs ++ (q ∷ []))
  not_reported e =
      let o = no_conflict c canon q e (apart n qs h) in
      none_left ∙ ne_eqb (rep (merge c q) 1) 0 (λ (z : rep (merge c q) 1 ≡ 0). absurd (omega (arith, o, z)))

  -- A pair that is not in conflict counts as a tie exactly if the pairs before it do not imply it.
  pub counted_exactly : linked (rep c q.left) (rep c q.right) ≢ 2
      → linked (rep c q.left) (rep c q.right) ≡ cond (equals n qs q.left q.right) 0 1
  counted_exactly e =
      tie_or-not c canon q e
      ∙ ap (λ (b : Bool). cond b 0 1)
      (sym (equals_is n c (reverse qs) (classes_represent n qs) (apart n qs h) q.left q.right)
      ∙ equals_same n (reverse qs) qs (λ p. satisfies-reverse p qs) q.left q.right)
