-- The equations of a table one after the other, and their pairs in one list: where no assignment is left, and the ties before it.
use mathlib.Core.Path.{◌≡◌, refl, sym, ◌∙◌, ap}
use mathlib.Core.Bool.{Bool, true, false, not, ◌&&◌, cond}
use mathlib.Core.List.{List, [], ◌∷◌, ◌++◌, reverse_aux}
use Prim.Native.Nat.{ℕ, suc, ◌+◌, ◌≤◌, ◌<◌}
use native.Mathlib.Omega.{arith}
use lib.ListN.{length, take}
use borrow.Author.Tests.{not-true}
use Rattle.terms.proofs.Assignments.{every_at, every_of}
use Rattle.answers.specs.Pairs.{Pair, satisfies_pairs, ties}
use Rattle.answers.proofs.Conflicts.{unsat_at, ties_before}
use Rattle.answers.specs.Representatives.{satisfies_all, all_pairs, none_satisfies}
use Rattle.laws.specs.Lists.{least}
use Rattle.answers.specs.inner.Classes.{merge, run, run_all}
use Rattle.answers.specs.Solve.{pairs_together}
use Rattle.laws.proofs.Bools.{and_second}
use Rattle.answers.proofs.Equations.{all-pairs}
use Rattle.answers.proofs.Order.{satisfies-append}

-- classes
run-append : (c : List ℕ) (qs rs : List Pair) → run c (qs ++ rs) ≡ run (run c qs) rs
unfolding run
run-append c [] rs = refl
run-append c (q ∷ qs) rs = run-append (merge c q) qs rs

pub run_together : (c : List ℕ) (es : List (List Pair)) → run c (pairs_together es) ≡ run_all c es
unfolding pairs_together run_all
run_together c [] = unfold run in refl
run_together c (e ∷ es) = run-append c e (pairs_together es) ∙ run_together (run c e) es

-- assignments
pub satisfies_together : (p : List ℕ) (es : List (List Pair)) → satisfies_pairs p (pairs_together es) ≡ satisfies_all p es
unfolding pairs_together satisfies_all
satisfies_together p [] = unfold satisfies_pairs in refl
satisfies_together p (e ∷ es) = satisfies-append p e (pairs_together es) ∙ ap (λ (b : Bool). satisfies_pairs p e && b) (satisfies_together p es)

-- ties
pub ties-append : (n : ℕ) (seen qs rs : List Pair) → ties n seen (qs ++ rs) ≡ ties n seen qs + ties n (reverse_aux qs seen) rs
unfolding ties
ties-append n seen [] rs = omega arith
ties-append n seen (q ∷ qs) rs = omega (arith, ties-append n (q ∷ seen) qs rs)

pub ties_together : (n : ℕ) (seen : List Pair) (es : List (List Pair))
    → ties_before n seen es ≡ ties n seen (pairs_together (take (unsat_at n seen es) es))
unfolding ties_before unsat_at pairs_together
ties_together n seen [] = unfold ties in refl
ties_together n seen (e ∷ es) = go (none_satisfies n (reverse_aux e seen)) (ties_together n (reverse_aux e seen) es)
  where
    go : (b : Bool) → ties_before n (reverse_aux e seen) es ≡ ties n (reverse_aux e seen) (pairs_together (take (unsat_at n (reverse_aux e seen) es) es))
        → cond b 0 (ties n seen e + ties_before n (reverse_aux e seen) es)
        ≡ ties n seen (pairs_together (take (cond b 0 (suc (unsat_at n (reverse_aux e seen) es))) (e ∷ es)))
    go true r = unfold ties in refl
    go false r =
        ap (λ (x : ℕ). ties n seen e + x) r
        ∙ sym (ties-append n seen e (pairs_together (take (unsat_at n (reverse_aux e seen) es) es)))

-- the least row
pub unsat_least : (n : ℕ) (seen : List Pair) (es : List (List Pair)) (f : ℕ → Bool) (k : ℕ)
    → ((j : ℕ) → j < length es → f (k + j) ≡ none_satisfies n (all_pairs seen (take (suc j) es))) → least f k (length es) ≡ k + unsat_at n seen es
unfolding least unsat_at all_pairs
unsat_least n seen [] f k h = omega arith
unsat_least n seen (e ∷ es) f k h =
    let z : k + 0 ≡ k = omega arith in
    let a : f k ≡ none_satisfies n (reverse_aux e seen) = ap f (sym z) ∙ h 0 (omega arith) in
    go (none_satisfies n (reverse_aux e seen)) a
    (unsat_least n (reverse_aux e seen) es f (suc k) (λ j l. let s : suc k + j ≡ k + suc j = omega arith in ap f s ∙ h (suc j) (omega arith)))
  where
    go : (b : Bool) → f k ≡ b → least f (suc k) (length es) ≡ suc k + unsat_at n (reverse_aux e seen) es
        → cond (f k) k (least f (suc k) (length es)) ≡ k + cond b 0 (suc (unsat_at n (reverse_aux e seen) es))
    go true a r = rw a (omega arith)
    go false a r = rw a (omega arith)

-- whether one is left at the end
pub unsat_most : (n : ℕ) (seen : List Pair) (es : List (List Pair)) → unsat_at n seen es ≤ length es
unfolding unsat_at
unsat_most n seen [] = omega arith
unsat_most n seen (e ∷ es) = go (none_satisfies n (reverse_aux e seen)) (unsat_most n (reverse_aux e seen) es)
  where
    go : (b : Bool) → unsat_at n (reverse_aux e seen) es ≤ length es → cond b 0 (suc (unsat_at n (reverse_aux e seen) es)) ≤ suc (length es)
    go true l = omega arith
    go false l = omega arith

none_more : (n : ℕ) (seen : List Pair) (es : List (List Pair)) → none_satisfies n seen ≡ true → none_satisfies n (all_pairs seen es) ≡ true
unfolding none_satisfies
none_more n seen es h = every_of n (λ p. not (satisfies_pairs p (all_pairs seen es))) (λ p a. go p (satisfies_pairs p (all_pairs seen es)) refl (not-true (satisfies_pairs p seen) (every_at n (λ p. not (satisfies_pairs p seen)) h p a)))
  where
    go : (p : List ℕ) (b : Bool) → satisfies_pairs p (all_pairs seen es) ≡ b → satisfies_pairs p seen ≡ false → not b ≡ true
    go p false e k = refl
    go p true e k =
        let s = and_second (satisfies_all p es) (satisfies_pairs p seen) (sym (all-pairs p seen es) ∙ e) in
        let z : ◌≡◌ {A = ℕ} 0 1 = cc in
        absurd (omega arith)

pub none_below : (n : ℕ) (seen : List Pair) (es : List (List Pair)) → unsat_at n seen es < length es → none_satisfies n (all_pairs seen es) ≡ true
unfolding unsat_at all_pairs
none_below n seen [] l = absurd (omega arith)
none_below n seen (e ∷ es) l = go (none_satisfies n (reverse_aux e seen)) refl l (λ (q : unsat_at n (reverse_aux e seen) es < length es). none_below n (reverse_aux e seen) es q)
  where
    go : (b : Bool) → none_satisfies n (reverse_aux e seen) ≡ b → cond b 0 (suc (unsat_at n (reverse_aux e seen) es)) < suc (length es)
        → (unsat_at n (reverse_aux e seen) es < length es → none_satisfies n (all_pairs (reverse_aux e seen) es) ≡ true) → none_satisfies n (all_pairs (reverse_aux e seen) es) ≡ true
    go true h q r = none_more n (reverse_aux e seen) es h
    go false h q r = r (omega arith)

pub some_left : (n : ℕ) (seen : List Pair) (es : List (List Pair)) → none_satisfies n seen ≡ false → unsat_at n seen es ≡ length es → none_satisfies n (all_pairs seen es) ≡ false
unfolding unsat_at all_pairs
some_left n seen [] h l = h
some_left n seen (e ∷ es) h l = go (none_satisfies n (reverse_aux e seen)) refl l (λ (k : none_satisfies n (reverse_aux e seen) ≡ false) (q : unsat_at n (reverse_aux e seen) es ≡ length es). some_left n (reverse_aux e seen) es k q)
  where
    go : (b : Bool) → none_satisfies n (reverse_aux e seen) ≡ b → cond b 0 (suc (unsat_at n (reverse_aux e seen) es)) ≡ suc (length es)
        → (none_satisfies n (reverse_aux e seen) ≡ false → unsat_at n (reverse_aux e seen) es ≡ length es → none_satisfies n (all_pairs (reverse_aux e seen) es) ≡ false)
        → none_satisfies n (all_pairs (reverse_aux e seen) es) ≡ false
    go true k q r = absurd (omega arith)
    go false k q r = r k (omega arith)
