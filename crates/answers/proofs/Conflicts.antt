-- The first equation at which no assignment is left is the first at which the fixed bits fall into one class.
use mathlib.Core.Path.{◌≡◌, refl, sym, ◌∙◌}
use mathlib.Core.Logic.{◌⊎◌, inl, inr, ◌≢◌}
use mathlib.Core.Bool.{Bool, true, false, not, cond}
use mathlib.Core.List.{List, [], ◌∷◌, reverse_aux}
use Prim.Native.Nat.{ℕ, suc, ◌+◌}
use native.Mathlib.Omega.{arith}
use lib.Dec.{eqb}
use borrow.Author.Tests.{eq-eqb, ne_eqb, not-true}
use Rattle.terms.specs.Assignments.{Assignment, every}
use Rattle.terms.specs.Table.{bit_of}
use Rattle.terms.proofs.Assignments.{every_at, every_of}
use Rattle.answers.specs.Pairs.{Pair, satisfies_pairs, ties}
use Rattle.answers.specs.Representatives.{none_satisfies}
use Rattle.answers.specs.inner.Classes.{conflict_at, links, links_before, rep, run, Represents}
use Rattle.laws.proofs.Numbers.{dec_eq}
use Rattle.answers.proofs.Agreement.{run_represents}
use Rattle.answers.proofs.Exact.{witness, witness_bits, witness_satisfies, ties_are}

pub none_satisfies_is : (n : ℕ) (c : List ℕ) (seen : List Pair) → Represents n c seen → none_satisfies n seen ≡ eqb (rep c 1) 0
unfolding none_satisfies bit_of
none_satisfies_is n c seen inv = go (dec_eq (rep c 1) 0)
  where
    go : (rep c 1 ≡ 0) ⊎ (rep c 1 ≢ 0) → every n (λ p. not (satisfies_pairs p seen)) ≡ eqb (rep c 1) 0
    go (inl e) = every_of n (λ p. not (satisfies_pairs p seen)) (λ p h. at p h (satisfies_pairs p seen) refl) ∙ sym (eq-eqb (rep c 1) 0 e)
      where
        at : (p : List ℕ) → Assignment n p → (t : Bool) → satisfies_pairs p seen ≡ t → not t ≡ true
        at p h false m = refl
        at p h true m = let k = inv.just p h m 1 in let z : ◌≡◌ {A = ℕ} 1 0 = cc in absurd (omega arith)
    go (inr e) = at (every n (λ p. not (satisfies_pairs p seen))) refl ∙ sym (ne_eqb (rep c 1) 0 e)
      where
        one : rep c 1 ≡ 1
        one = omega (arith, inv.low 1)

        at : (t : Bool) → every n (λ p. not (satisfies_pairs p seen)) ≡ t → t ≡ false
        at false h = refl
        at true h =
            let a = not-true (satisfies_pairs (witness n c seen inv one 1) seen) (every_at n (λ p. not (satisfies_pairs p seen)) h (witness n c seen inv one 1) (witness_bits n c seen inv one 1 (omega arith))) in
            let b = witness_satisfies n c seen inv one 1 (omega arith) in
            cc

-- the same as a walk over the equations: the first at which no assignment is left, or their number if one always is; and the ties of those
-- before it. `unsat_row` and `ties_to` come to these (Tables.antt).
unfoldable pub unsat_at : ℕ → List Pair → List (List Pair) → ℕ
unsat_at n seen [] = 0
unsat_at n seen (e ∷ es) = cond (none_satisfies n (reverse_aux e seen)) 0 (suc (unsat_at n (reverse_aux e seen) es))

unfoldable pub ties_before : ℕ → List Pair → List (List Pair) → ℕ
ties_before n seen [] = 0
ties_before n seen (e ∷ es) = cond (none_satisfies n (reverse_aux e seen)) 0 (ties n seen e + ties_before n (reverse_aux e seen) es)

pub unsat_is : (n : ℕ) (c : List ℕ) (seen : List Pair) (es : List (List Pair)) → Represents n c seen → unsat_at n seen es ≡ conflict_at c es
unfolding unsat_at conflict_at
unsat_is n c seen [] inv = refl
unsat_is n c seen (e ∷ es) inv =
    let i2 = run_represents n c seen e inv in
    rw (none_satisfies_is n (run c e) (reverse_aux e seen) i2, unsat_is n (run c e) (reverse_aux e seen) es i2)

pub ties_before_are : (n : ℕ) (c : List ℕ) (seen : List Pair) (es : List (List Pair)) → Represents n c seen → ties_before n seen es ≡ links_before c es
unfolding ties_before links_before
ties_before_are n c seen [] inv = refl
ties_before_are n c seen (e ∷ es) inv =
    let i2 = run_represents n c seen e inv in
    rw (none_satisfies_is n (run c e) (reverse_aux e seen) i2, ties_before_are n (run c e) (reverse_aux e seen) es i2) (go (dec_eq (rep (run c e) 1) 0))
  where
    go : (rep (run c e) 1 ≡ 0) ⊎ (rep (run c e) 1 ≢ 0)
        → cond (eqb (rep (run c e) 1) 0) 0 (ties n seen e + links_before (run c e) es) ≡ cond (eqb (rep (run c e) 1) 0) 0 (links c e + links_before (run c e) es)
    go (inl k) = rw (eq-eqb (rep (run c e) 1) 0 k)
    go (inr k) = rw (ne_eqb (rep (run c e) 1) 0 k, ties_are n c seen e inv (omega (arith, (run_represents n c seen e inv).low 1)))
