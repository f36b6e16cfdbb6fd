-- What is enough for a case to hold: of an accepted table its record and its answer's rows, of a refused one its fault, of a normal form
-- its pieces. How many patterns meet a table follows from its record. Assumes nothing.
use mathlib.Core.Path.{◌≡◌, refl, sym, ◌∙◌, ap, subst}
use mathlib.Core.Bool.{Bool, true, false, not, cond}
use mathlib.Core.List.{List, []}
use Prim.Native.Nat.{ℕ, ◌-◌, ◌^◌}
use native.Mathlib.Omega.{arith}
use lib.Dec.{eqb}
use lib.ListN.{length}
use borrow.Author.Tests.{le-ltb}
use Rattle.terms.specs.declared.Record.{Record}
use Rattle.terms.specs.Assignments.{Assignment, every, count}
use Rattle.terms.specs.Calls.{completed, fault_record, stop_at}
use Rattle.laws.specs.Buffers.{overwrite}
use Rattle.terms.specs.Faults.{Accepted, first_fault, is_accepted, absent}
use Rattle.terms.specs.Table.{rows_of, bits_of, width_of, satisfies}
use Rattle.terms.proofs.Assignments.{every_at, every_of}
use Rattle.forms.specs.declared.Piece.{Piece}
use Rattle.forms.specs.Call.{form_record, form_after}
use Rattle.forms.specs.Form.{form_of, numbers_of}
use Rattle.answers.specs.Answer.{answer_numbers, free_bits}
use Rattle.answers.specs.Solve.{valid, unsatisfiable, always_record, solved_record, solved_rows, answer_record, solve_record, answer_after}
use Rattle.answers.proofs.Demands.{demand_3, solved_sum}
use Rattle.answers.proofs.Lent.{call_record}
use Rattle.calls.specs.Calls.{RefusedByEach}
use Rattle.calls.proofs.Refusals.{refused_by_each}
use Rattle.worked.specs.Cases.{Solved, Refused, Form, Holds}

-- what a call leaves: the new numbers for one outcome, else what was there
pub written : (b : Bool) (new old : List ℕ) → cond b (overwrite new old) old ≡ overwrite (cond b new []) old
unfolding overwrite
written true new old = refl
written false new old = refl

-- what fails at one assignment
pub every_fails : (n : ℕ) (f : List ℕ → Bool) (p : List ℕ) → Assignment n p → f p ≡ false → every n f ≡ false
every_fails n f p a e = go (every n f) refl
  where
    go : (b : Bool) → every n f ≡ b → b ≡ false
    go false h = refl
    go true h = sym (every_at n f h p a) ∙ e

module _ (table : List ℕ) where
  -- A table that every pattern meets: always.
  pub met_by_all : ((p : List ℕ) → satisfies (rows_of table) p ≡ true) → answer_record (rows_of table) ≡ always_record (bits_of (rows_of table))
  unfolding answer_record valid
  met_by_all h = rw (every_of (bits_of (rows_of table)) (satisfies (rows_of table)) (λ p a. h p))

  -- A table that one pattern meets and another does not: solved. Free and ties together are the variable bits.
  pub met_by_some : first_fault table ≡ Accepted → (p q : List ℕ)
      → Assignment (bits_of (rows_of table)) p → Assignment (bits_of (rows_of table)) q
      → satisfies (rows_of table) p ≡ true → satisfies (rows_of table) q ≡ false
      → answer_record (rows_of table)
      ≡ solved_record (solved_rows (rows_of table)) (bits_of (rows_of table) - free_bits (solved_rows (rows_of table)))
  unfolding answer_record
  met_by_some accepted p q a b met other =
      rw (not-all, some_left)
      (ap (solved_record (solved_rows (rows_of table))) (omega (arith, solved_sum table accepted some_left)))
    where
      not-all : valid (rows_of table) ≡ false
      not-all = unfold valid in (every_fails (bits_of (rows_of table)) (satisfies (rows_of table)) q b other)

      some_left : unsatisfiable (rows_of table) ≡ false
      some_left = unfold unsatisfiable in (every_fails (bits_of (rows_of table)) (λ p. not (satisfies (rows_of table) p)) p a (ap not met))

  -- No pattern meets a table for outcome 1; else two to the power of free do.
  patterns_are : first_fault table ≡ Accepted
      → count (bits_of (rows_of table)) (satisfies (rows_of table))
      ≡ cond (eqb (answer_record (rows_of table)).outcome 1) 0 (2 ^ (answer_record (rows_of table)).free)
  unfolding answer_record
  patterns_are accepted = go (valid (rows_of table)) refl (unsatisfiable (rows_of table)) refl
    where
      go : (a : Bool) → valid (rows_of table) ≡ a → (b : Bool) → unsatisfiable (rows_of table) ≡ b
          → count (bits_of (rows_of table)) (satisfies (rows_of table))
          ≡ cond (eqb (answer_record (rows_of table)).outcome 1) 0 (2 ^ (answer_record (rows_of table)).free)
      go true h b k = rw h ((demand_3 table accepted).always_to (rw h refl))
      go false h true k = rw (h, k) ((demand_3 table accepted).never_to (rw (h, k) refl))
      go false h false k = (demand_3 table accepted).solved_count (rw (h, k) refl) ∙ rw (h, k) refl

  module _ (found : Record) where
    -- An accepted table: its record, and for outcome 2 its answer's rows.
    pub solved_case : first_fault table ≡ Accepted → answer_record (rows_of table) ≡ found → (answer : List ℕ)
        → cond (eqb found.outcome 2) (answer_numbers (solved_rows (rows_of table))) [] ≡ answer
        → Holds (Solved table found answer (cond (eqb found.outcome 1) 0 (2 ^ found.free)))
    unfolding answer_after
    solved_case accepted is answer e = (
      λ old work room memory.
          let r : solve_record table (length old) (length work) ≡ found = call_record table accepted old work room memory ∙ is in
          (r, rw (r, ← e) (written (eqb found.outcome 2) (answer_numbers (solved_rows (rows_of table))) old)),
      patterns_are accepted ∙ ap (λ (r : Record). cond (eqb r.outcome 1) 0 (2 ^ r.free)) is,
    )

    -- A refused table: its fault.
    pub refused_case : is_accepted (first_fault table) ≡ false → fault_record (first_fault table) ≡ found → Holds (Refused table found)
    refused_case h is = subst (RefusedByEach table) is (refused_by_each table h)

  -- A normal form: the row's pieces and its width.
  pub form_case : first_fault table ≡ Accepted → (r : ℕ) → absent (rows_of table) r ≡ false
      → (form : List Piece) → form_of (rows_of table) r ≡ form
      → (width : ℕ) → width_of (rows_of table) r ≡ width → Holds (Form table r (completed (length form) width) (numbers_of form))
  unfolding form_record form_after stop_at
  form_case accepted r here form is width wide old room =
      let found : form_record table r (length old) ≡ completed (length form) width =
      rw (accepted, here, le-ltb (length old) 4096 room, is, wide) refl in
      (found, rw (found, is) refl)
