-- Pairs and their classes (demands 2 and 3, for lists of pairs): the classes are the representatives, the links are the ties, a
-- conflict is reported exactly if nothing satisfies the pairs, and so many assignments satisfy them. Assumes nothing.
use mathlib.Core.Path.{◌≡◌, sym, ◌∙◌, ap}
use mathlib.Core.Bool.{true, not}
use mathlib.Core.List.{List, [], reverse}
use Prim.Native.Nat.{ℕ, suc, ◌+◌, ◌^◌}
use native.Mathlib.Omega.{arith}
use lib.Dec.{eqb}
use lib.ListN.{drop}
use borrow.Author.Tests.{eqb-false, not-true}
use Rattle.terms.specs.Assignments.{Assignment, count}
use Rattle.terms.specs.Table.{bit_of}
use Rattle.laws.specs.Lists.{count_up}
use Rattle.terms.proofs.Assignments.{every_at, count_none_of}
use Rattle.answers.specs.Pairs.{Pair, satisfies_pairs, ties}
use Rattle.answers.specs.Representatives.{representative, none_satisfies, SaySame, Satisfiable}
use Rattle.answers.specs.inner.Classes.{rep, classes_of, roots, links, conflict_at, links_before}
use Rattle.answers.proofs.Agreement.{classes_represent, satisfies-reverse, base}
use Rattle.answers.proofs.Counting.{count_satisfying}
use Rattle.answers.proofs.Exact.{representative_is, ties_are, free_ties}
use Rattle.answers.proofs.Conflicts.{none_satisfies_is, unsat_is, ties_before_are, unsat_at, ties_before}
use Rattle.answers.proofs.Order.{representative_same, every_ext}

none_same : (n : ℕ) (qs rs : List Pair) → SaySame qs rs → none_satisfies n qs ≡ none_satisfies n rs
unfolding none_satisfies
none_same n qs rs h = every_ext n (λ p. not (satisfies_pairs p qs)) (λ p. not (satisfies_pairs p rs)) (λ p. ap not (h p))

-- The fixed bits are in one class exactly if nothing satisfies the pairs.
pub conflict_exactly : (n : ℕ) (qs : List Pair) → none_satisfies n qs ≡ eqb (rep (classes_of n qs) 1) 0
conflict_exactly n qs = sym (none_same n (reverse qs) qs (λ p. satisfies-reverse p qs)) ∙ none_satisfies_is n (classes_of n qs) (reverse qs) (classes_represent n qs)

pub apart : (n : ℕ) (qs : List Pair) → Satisfiable n qs → rep (classes_of n qs) 1 ≡ 1
apart n qs h =
    let z = eqb-false (rep (classes_of n qs) 1) 0 (sym (conflict_exactly n qs) ∙ h) in
    omega (arith, z, (classes_represent n qs).low 1)

-- 1. An assignment satisfies the pairs exactly if each source has the bit of its representative.
pub agrees-at : (n : ℕ) (qs : List Pair) (p : List ℕ) → Assignment n p → satisfies_pairs p qs ≡ true
    → (s : ℕ) → bit_of p s ≡ bit_of p (rep (classes_of n qs) s)
agrees-at n qs p h m = (classes_represent n qs).just p h (satisfies-reverse p qs ∙ m)

pub agrees_of : (n : ℕ) (qs : List Pair) (p : List ℕ) → Assignment n p → ((s : ℕ) → bit_of p s ≡ bit_of p (rep (classes_of n qs) s))
    → satisfies_pairs p qs ≡ true
agrees_of n qs p h m = sym (satisfies-reverse p qs) ∙ (classes_represent n qs).full p h m

-- 2. The classes are the representatives.
pub classes_are : (n : ℕ) (qs : List Pair) → Satisfiable n qs → (s : ℕ) → rep (classes_of n qs) s ≡ representative n qs s
classes_are n qs h s =
    sym (representative_is n (classes_of n qs) (reverse qs) (classes_represent n qs) (apart n qs h) s)
    ∙ representative_same n (reverse qs) qs (λ p. satisfies-reverse p qs) s

-- 3. A pair links two classes exactly if the pairs before it do not imply it.
pub links_are_ties : (n : ℕ) (qs : List Pair) → Satisfiable n qs → links (count_up 0 (suc (suc n))) qs ≡ ties n [] qs
unfolding classes_of
links_are_ties n qs h = sym (ties_are n (count_up 0 (suc (suc n))) [] qs (base n) (apart n qs h))

-- 4. As many assignments satisfy the pairs as the places that represent themselves can be filled in; these and the ties are all
-- places.
pub satisfying_count : (n : ℕ) (qs : List Pair) → Satisfiable n qs → count n (λ p. satisfies_pairs p qs) ≡ 2 ^ roots 2 (drop 2 (classes_of n qs))
satisfying_count n qs h = count_satisfying n qs (apart n qs h)

pub free_and-ties : (n : ℕ) (qs : List Pair) → Satisfiable n qs → roots 2 (drop 2 (classes_of n qs)) + ties n [] qs ≡ n
free_and-ties n qs h = free_ties n qs (apart n qs h)

pub conflict_count : (n : ℕ) (qs : List Pair) → none_satisfies n qs ≡ true → count n (λ p. satisfies_pairs p qs) ≡ 0
unfolding none_satisfies
conflict_count n qs h = count_none_of n (λ p. satisfies_pairs p qs) (λ p a. not-true (satisfies_pairs p qs) (every_at n (λ p. not (satisfies_pairs p qs)) h p a))

-- 5. Several equations: the first at which nothing is left, and the ties of those before it.
pub conflict_place : (n : ℕ) (es : List (List Pair)) → conflict_at (count_up 0 (suc (suc n))) es ≡ unsat_at n [] es
conflict_place n es = sym (unsat_is n (count_up 0 (suc (suc n))) [] es (base n))

pub links-before : (n : ℕ) (es : List (List Pair)) → links_before (count_up 0 (suc (suc n))) es ≡ ties_before n [] es
links-before n es = sym (ties_before_are n (count_up 0 (suc (suc n))) [] es (base n))

-- 6. The order of pairs, and of the sides of a pair, does not change the classes.
pub classes_same : (n : ℕ) (qs rs : List Pair) → SaySame qs rs → Satisfiable n qs → (s : ℕ) → rep (classes_of n qs) s ≡ rep (classes_of n rs) s
classes_same n qs rs e h s = classes_are n qs h s ∙ representative_same n qs rs e s ∙ sym (classes_are n rs (sym (none_same n qs rs e) ∙ h) s)
