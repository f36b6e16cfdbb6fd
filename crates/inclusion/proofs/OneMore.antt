-- A table with an equation more behind its rows, without a line number (document 02, (xii)): it is the same or stricter. Assumes nothing.
use mathlib.Core.Path.{◌≡◌, sym, ◌∙◌, ap, subst}
use mathlib.Core.Bool.{Bool, ◌&&◌}
use mathlib.Core.List.{List, [], ◌∷◌, ◌++◌}
use Prim.Native.Nat.{ℕ, ◌≤◌}
use native.Mathlib.Omega.{arith}
use Rattle.laws.proofs.Bools.{and_first, and_second, and_both, same_test}
use Rattle.terms.specs.declared.Row.{Row}
use Rattle.terms.specs.Assignments.{Assignment}
use Rattle.terms.specs.Faults.{Accepted, first_fault}
use Rattle.terms.specs.Table.{rows_of, bits_of, if_variable, values_of, sides_agree, satisfies}
use Rattle.terms.proofs.RowKinds.{of_other, bits_other}
use Rattle.terms.proofs.Revising.{plain_behind}
use Rattle.terms.proofs.Satisfies.{agree_at, agree_of}
use Rattle.terms.proofs.Widths.{bits_snoc}
use Rattle.answers.specs.Answer.{variable_widths}
use Rattle.inclusion.specs.Call.{comparison, compare_record}
use Rattle.inclusion.specs.Comparing.{Comparable, OneMore, OneStricter}
use Rattle.inclusion.proofs.Patterns.{among_of, within_of, patterns_compared}
use Rattle.inclusion.proofs.Stops.{outcome_is}

module _ (e : Row) (equation : e.kind ≡ 4) where
  no_variable : e.kind ≡ 0 → ⊥
  no_variable z = omega (arith, z, equation)

  widths_behind : (t : List Row) → variable_widths (t ++ (e ∷ [])) ≡ variable_widths t
  unfolding variable_widths
  widths_behind [] = of_other e (e.a ∷ []) [] no_variable
  widths_behind (r ∷ t) = ap (λ (ws : List ℕ). if_variable r (r.a ∷ ws) ws) (widths_behind t)

  bits_behind : (t : List Row) → bits_of (t ++ (e ∷ [])) ≡ bits_of t
  bits_behind t = omega (arith, bits_snoc t e, bits_other e no_variable)

  module _ (t : List Row) (plain : e.c ≡ 0) where
    abbrev u : List Row
    u = t ++ (e ∷ [])

    agree : List ℕ → Bool
    agree p = sides_agree (values_of t p) e

    meets : (p : List ℕ) → satisfies u p ≡ satisfies t p && agree p
    unfolding agree
    meets p = plain_behind t e p equation plain

    more_stricter : OneStricter t e (comparison (t ++ (e ∷ [])) t)
    unfolding agree
    more_stricter =
        let same = (patterns_compared u t (bits_behind t)).same in
        record {
          within = within_of u t (among_of u t (λ p a h. and_first (satisfies t p) (agree p) (sym (meets p) ∙ h)));
          adds_nothing = record {
            to = λ z p a h.
                let s = same.to z p (subst (λ (n : ℕ). Assignment n p) (sym (bits_behind t)) a) in
                agree_at (values_of t p) e equation (and_second (satisfies t p) (agree p) (sym (meets p) ∙ s ∙ h));
            of = λ k. same.of (λ p a.
                same_test (satisfies u p) (satisfies t p) (λ h. and_first (satisfies t p) (agree p) (sym (meets p) ∙ h))
                (λ h. meets p ∙ and_both (satisfies t p) (agree p) h (agree_of (values_of t p) e (λ q. k p (subst (λ (n : ℕ). Assignment n p) (bits_behind t) a) h))));
          };
        }

-- (f)
pub one_equation_more : (more table : List ℕ) (e : Row) (room : ℕ) → first_fault more ≡ Accepted → first_fault table ≡ Accepted → OneMore more table e → 16384 ≤ room
    → OneStricter (rows_of table) e (compare_record more table room).outcome
one_equation_more more table e room am at O enough =
    let c : Comparable more table room =
    record { first_accepted = am; second_accepted = at; same-variables = ap variable_widths O.rows_are ∙ widths_behind e O.is_equation (rows_of table); enough = enough } in
    rw (outcome_is more table room c, O.rows_are) (more_stricter e O.is_equation (rows_of table) O.no_line)
