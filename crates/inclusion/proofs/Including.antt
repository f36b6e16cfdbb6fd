-- Which patterns are among which, from the classes of both tables: for two tables that some pattern meets, those of the first are among those of
-- the second exactly if each source and its representative in the second are of one class of the first. Assumes nothing.
use mathlib.Core.Path.{◌≡◌, sym, ◌∙◌, ap, subst}
use mathlib.Core.Bool.{Bool, true, false, not, ◌||◌}
use mathlib.Core.List.{List}
use mathlib.Core.Logic.{◌⊎◌, inl, inr}
use Prim.Native.Nat.{ℕ, suc, ◌<◌, ◌≤◌}
use native.Mathlib.Omega.{arith}
use lib.Dec.{eqb}
use lib.ListN.{length, get_or-eq_default}
use borrow.Author.Tests.{eqb-true, eq-eqb}
use Rattle.laws.specs.Lists.{below}
use Rattle.laws.proofs.Bools.{same_test}
use Rattle.laws.proofs.Numbers.{lt_or_le}
use Rattle.laws.proofs.Tallies.{below_of, below_at}
use Rattle.terms.specs.declared.Row.{Row}
use Rattle.terms.specs.Assignments.{Assignment}
use Rattle.terms.specs.Faults.{Accepted, first_fault}
use Rattle.terms.specs.Table.{rows_of, bits_of, bit_of, satisfies}
use Rattle.terms.proofs.Assignments.{every_of}
use Rattle.answers.specs.Pairs.{equal_under}
use Rattle.answers.specs.Solve.{unsatisfiable}
use Rattle.answers.specs.inner.Classes.{rep, in_class}
use Rattle.answers.proofs.Tables.{table_classes, represent, satisfies_seen, same_relation}
use Rattle.inclusion.specs.Call.{among}
use Rattle.inclusion.proofs.Patterns.{implies_of, among_at, among_of}

-- a pattern meets a table exactly if each source has the bit of its representative
module _ (table : List ℕ) (accepted : first_fault table ≡ Accepted) (p : List ℕ) (a : Assignment (bits_of (rows_of table)) p) where
  agrees : satisfies (rows_of table) p ≡ true → (s : ℕ) → bit_of p s ≡ bit_of p (rep (table_classes table accepted) s)
  agrees h s = (represent table accepted).just p a (sym (satisfies_seen table accepted p a) ∙ h) s

  agreeing : ((s : ℕ) → bit_of p s ≡ bit_of p (rep (table_classes table accepted) s)) → satisfies (rows_of table) p ≡ true
  agreeing h = satisfies_seen table accepted p a ∙ (represent table accepted).full p a h

module _ (first second : List ℕ) (af : first_fault first ≡ Accepted) (ag : first_fault second ≡ Accepted)
    (bits : bits_of (rows_of first) ≡ bits_of (rows_of second)) where
  abbrev t : List Row
  t = rows_of first

  abbrev u : List Row
  u = rows_of second

  abbrev h : List ℕ
  h = table_classes first af

  abbrev g : List ℕ
  g = table_classes second ag

  over : (p : List ℕ) → Assignment (bits_of (rows_of first)) p → Assignment (bits_of (rows_of second)) p
  over p a = subst (λ (m : ℕ). Assignment m p) bits a

  -- a source and its representative in the second are equal in every pattern of the second, so in every one of the first
  classes_to : unsatisfiable t ≡ false → among t u ≡ true → (s : ℕ) → rep h (rep g s) ≡ rep h s
  unfolding equal_under in_class
  classes_to some m s =
      sym (eqb-true (rep h s) (rep h (rep g s)) (sym (ap (λ (f : ℕ → ℕ → Bool). f s (rep g s)) (same_relation first af some)) ∙ equal))
    where
      equal : equal_under (bits_of t) (satisfies t) s (rep g s) ≡ true
      equal =
          every_of (bits_of t) (λ p. not (satisfies t p) || eqb (bit_of p s) (bit_of p (rep g s)))
          (λ p a. implies_of (satisfies t p) (eqb (bit_of p s) (bit_of p (rep g s)))
          (λ k. eq-eqb (bit_of p s) (bit_of p (rep g s)) (agrees second ag p (over p a) (among_at t u m p a k) s)))

  -- a pattern of the first has one bit at s, at h[s], which is h[g[s]], and at g[s]
  classes-of : ((s : ℕ) → rep h (rep g s) ≡ rep h s) → among t u ≡ true
  classes-of e =
      among_of t u
      (λ p a k. let f = agrees first af p a k in
      agreeing second ag p (over p a) (λ s. f s ∙ ap (bit_of p) (sym (e s)) ∙ sym (f (rep g s))))

  -- asked of the sources alone: past the end both reads are 0
  pub among_classes : unsatisfiable (rows_of first) ≡ false
      → among (rows_of first) (rows_of second) ≡ below (length (table_classes second ag)) (λ s. eqb (rep (table_classes first af) (rep (table_classes second ag) s)) (rep (table_classes first af) s))
  among_classes some =
      same_test (among t u) (below (length g) (λ s. eqb (rep h (rep g s)) (rep h s)))
      (λ m. below_of (length g) (λ s. eqb (rep h (rep g s)) (rep h s)) (λ s l. eq-eqb (rep h (rep g s)) (rep h s) (classes_to some m s)))
      (λ b. classes-of (λ s. go b s (lt_or_le s (length g))))
    where
      as_long : length h ≡ length g
      as_long = (represent first af).len ∙ ap (λ (n : ℕ). suc (suc n)) bits ∙ sym (represent second ag).len

      past : (c : List ℕ) (s : ℕ) → length c ≤ s → rep c s ≡ 0
      past c s l = get_or-eq_default c 0 l

      zero_first : rep h 0 ≡ 0
      zero_first = omega (arith, (represent first af).low 0)

      go : below (length g) (λ s. eqb (rep h (rep g s)) (rep h s)) ≡ true → (s : ℕ) → (s < length g) ⊎ (length g ≤ s) → rep h (rep g s) ≡ rep h s
      go b s (inl l) = eqb-true (rep h (rep g s)) (rep h s) (below_at (length g) (λ s. eqb (rep h (rep g s)) (rep h s)) b s l)
      go b s (inr l) = ap (rep h) (past g s l) ∙ zero_first ∙ sym (past h s (omega (arith, as_long)))
