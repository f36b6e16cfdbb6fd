-- A fresh piece that begins at a place appears at the lowest place that is tied to it. Assumes nothing.
use mathlib.Core.Path.{◌≡◌, sym, ap, ◌∙◌, subst}
use mathlib.Core.Bool.{Bool, true, false, not}
use mathlib.Core.List.{List, reverse}
use Prim.Native.Nat.{ℕ, suc, ◌-◌, ◌≤◌, ◌<◌}
use native.Mathlib.Omega.{arith}
use lib.Dec.{eqb}
use borrow.Author.Tests.{eq-eqb, leb-true}
use Rattle.terms.specs.Faults.{Accepted, first_fault}
use Rattle.terms.specs.Table.{rows_of, bits_of, satisfies}
use Rattle.laws.proofs.Bools.{and_both}
use Rattle.answers.specs.Pairs.{Pair, equation_pairs, equal_under}
use Rattle.answers.specs.Answer.{variable_widths, begins, unfixed, goes_on, lowest, appears}
use Rattle.answers.specs.Solve.{unsatisfiable, pairs_together}
use Rattle.answers.specs.inner.Classes.{rep, in_class, Represents}
use Rattle.answers.proofs.Slots.{heads}
use Rattle.answers.proofs.Gluing.{heads_class}
use Rattle.answers.proofs.OurPieces.{class_home}
use Rattle.answers.proofs.Relation.{unfixed_is, heads_are, lowest_is, appears_is}
use Rattle.answers.proofs.Variables.{begins_first, begins_last}
use Rattle.answers.proofs.Tables.{table_classes, represent, apart_one, same_relation}

-- where bits are equal as `same` says
abbrev pub LowestAppears : ℕ → List ℕ → (ℕ → ℕ → Bool) → Type 0
LowestAppears n ws same = (i : ℕ) → i < n → unfixed same i ≡ true → goes_on n ws same i ≡ false → appears n ws same (lowest same i) ≡ true

module _ (n : ℕ) (c : List ℕ) (seen : List Pair) (inv : Represents n c seen) (one : rep c 1 ≡ 1) (ws : List ℕ) (begin : begins ws 0 ≡ true) (last : begins ws n ≡ true) where
  abbrev C : ℕ → ℕ
  C i = rep c (suc (suc i))

  lowest-appears : LowestAppears n ws (in_class c)
  lowest-appears i l u g =
      let loose : 2 ≤ C i = leb-true 2 (C i) (sym (unfixed_is n c seen inv one ws i) ∙ u) in
      let q = C i - 2 in
      let same : C q ≡ C i = class_home n c seen inv one (begins ws) begin last i loose in
      let head : heads n (begins ws) C i ≡ true = sym (heads_are n c seen inv one ws i loose) ∙ ap not g in
      ap (appears n ws (in_class c)) (lowest_is n c seen inv one ws i loose)
      ∙ appears_is n c seen inv one ws q
      ∙ and_both (eqb (C q) (suc (suc q))) (heads n (begins ws) C q) (eq-eqb (C q) (suc (suc q)) (omega arith))
      (heads_class n (begins ws) C begin last i q l (omega (arith, inv.low (suc (suc i)))) (sym same) head)

-- in a table that some assignment satisfies
module _ (table : List ℕ) (accepted : first_fault table ≡ Accepted) (some : unsatisfiable (rows_of table) ≡ false) where
  pub table_lowest : LowestAppears (bits_of (rows_of table)) (variable_widths (rows_of table)) (equal_under (bits_of (rows_of table)) (satisfies (rows_of table)))
  table_lowest =
      let ws = variable_widths (rows_of table) in
      subst (LowestAppears (bits_of (rows_of table)) ws) (sym (same_relation table accepted some))
      (lowest-appears (bits_of (rows_of table)) (table_classes table accepted) (reverse (pairs_together (equation_pairs (rows_of table))))
      (represent table accepted) (apart_one table accepted some) ws (begins_first ws) (begins_last (rows_of table)))
