-- The equations taken from a copy of an accepted table, from unlinked sources, are those of the table that count.
use mathlib.Core.Path.{◌≡◌, sym, ◌∙◌, ap, subst}
use mathlib.Core.List.{List}
use Prim.Native.Nat.{ℕ, suc}
use native.Mathlib.Omega.{arith}
use lib.ListN.{length, take, drop}
use lib.Seq.{take_all}
use Rattle.terms.specs.declared.Row.{Row}
use Rattle.terms.specs.Table.{rows_of, bits_of}
use Rattle.terms.specs.Faults.{Accepted, first_fault}
use Rattle.laws.specs.Lists.{count_up}
use Rattle.laws.proofs.CountUp.{count_at, count-up}
use Rattle.answers.specs.Pairs.{pairs_in, equation_pairs}
use Rattle.answers.specs.inner.Classes.{rep}
use Rattle.answers.proofs.Agreement.{base}
use Rattle.answers.proofs.Tables.{pairs_length}
use Rattle.classes.specs.inner.Links.{roots_of}
use Rattle.classes.proofs.Links.{Canon}
use Rattle.classes.proofs.Roots.{roots_settled}
use Rattle.copies.specs.inner.Copies.{Copied}
use Rattle.copies.proofs.Copying.{copy_bits, copy_pairs}
use Rattle.taking.specs.inner.Equations.{Holding, EquationsTaken}
use Rattle.linking.specs.inner.Classes.{unlinked}

-- unlinked sources are classes of their own
module _ (t : List Row) where
  canon_alone : Canon (unlinked t)
  canon_alone = record { low = (base (bits_of t)).low; root = (base (bits_of t)).root }

  pub roots-alone : roots_of (unlinked t) ≡ unlinked t
  roots-alone = roots_settled (unlinked t) canon_alone

  pub held-alone : Holding t (unlinked t)
  held-alone =
      record {
        low = (base (bits_of t)).low;
        sources = count-up 0 (suc (suc (bits_of t)));
        apart = ap (λ (v : List ℕ). rep v 1) roots-alone ∙ count_at 0 (suc (suc (bits_of t))) 1 (omega arith);
      }

module _ (table copy : List ℕ) (accepted : first_fault table ≡ Accepted) (C : Copied table copy) where
  abbrev t : List Row
  t = rows_of table

  same_alone : unlinked (rows_of copy) ≡ unlinked t
  same_alone = ap (λ (n : ℕ). count_up 0 (suc (suc n))) (copy_bits table copy accepted C)

  pub copy-held : (links : List ℕ) → links ≡ unlinked (rows_of table) → Holding (rows_of copy) links
  copy-held links e = subst (Holding (rows_of copy)) (same_alone ∙ sym e) (held-alone (rows_of copy))

  held_table : (links : List ℕ) → Holding (rows_of copy) links → Holding t links
  held_table links h = record { low = h.low; sources = h.sources ∙ ap (λ (n : ℕ). suc (suc n)) (copy_bits table copy accepted C); apart = h.apart }

  all-pairs : (to : ℕ) → to ≡ length (rows_of table) → drop 0 (take to (pairs_in (rows_of copy) (rows_of copy))) ≡ equation_pairs (rows_of table)
  all-pairs to e = ap (take to) (copy_pairs table copy accepted C) ∙ take_all to (equation_pairs t) (omega (arith, pairs_length t))

  pub copy_taken : (links₀ : List ℕ) → links₀ ≡ unlinked (rows_of table) → (to : ℕ) → to ≡ length (rows_of table) → (links : List ℕ) (row ties : ℕ)
      → EquationsTaken (rows_of copy) (roots_of links₀) 0 to (drop 0 (take to (pairs_in (rows_of copy) (rows_of copy)))) links row ties
      → EquationsTaken (rows_of table) (unlinked (rows_of table)) 0 (length (rows_of table)) (equation_pairs (rows_of table)) links row ties
  copy_taken links₀ e to whole links row ties taken =
      let c : roots_of links₀ ≡ unlinked t = ap roots_of e ∙ roots-alone t in
      let es = all-pairs to whole in
      record {
        row_is = rw (c, es) at taken.row_is;
        ties_are = rw (c, es) at taken.ties_are;
        few = taken.few;
        held = λ l. held_table links (taken.held (l ∙ sym whole));
        classes_are = λ l. rw (c, es) at (taken.classes_are (l ∙ sym whole));
      }
