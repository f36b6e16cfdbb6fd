-- The normal form call's record and output, for each way in which the call ends.
use mathlib.Core.Path.{◌≡◌, ◌∙◌}
use mathlib.Core.Bool.{true, false}
use mathlib.Core.List.{List}
use Prim.Native.Nat.{ℕ, ◌<◌, ◌≤◌}
use lib.Dec.{eqb}
use lib.ListN.{length}
use borrow.Author.Tests.{lt-ltb, le-ltb}
use Rattle.terms.specs.declared.Record.{Record}
use Rattle.terms.specs.declared.Row.{Row}
use Rattle.terms.specs.Table.{rows_of, width_of, source_of}
use Rattle.terms.specs.Faults.{absent, is_accepted, first_fault}
use Rattle.terms.specs.Calls.{refusal, completed, fault_record, stop_at}
use Rattle.laws.specs.Buffers.{overwrite}
use Rattle.terms.proofs.AcceptedTable.{fault_numbered}
use Rattle.forms.specs.Form.{form_of, numbers_of}
use Rattle.forms.specs.Call.{form_record, form_after}
use Rattle.forms.proofs.Units.{form_count}

module _ (table : List ℕ) (row : ℕ) (old : List ℕ) where
  abbrev rows : List Row
  rows = rows_of table

  abbrev pub Answer : Record → List ℕ → Type 0
  Answer r out = (r ≡ form_record table row (length old)) × (out ≡ form_after table row old)

  refused : (r : Record) → r ≡ form_record table row (length old) → eqb r.outcome 0 ≡ false → Answer r old
  unfolding form_after
  refused r e z = (e, rw (← e, z))

  pub stop_fault : is_accepted (first_fault table) ≡ false → (r : Record) → r ≡ fault_record (first_fault table) → Answer r old
  unfolding form_record stop_at
  stop_fault f r e = refused r (e ∙ rw f) (rw e (fault_numbered (first_fault table) f))

  module _ (f : is_accepted (first_fault table) ≡ true) where
    pub stop_absent : absent rows row ≡ true → (r : Record) → r ≡ refusal 30 0 → Answer r old
    unfolding form_record stop_at
    stop_absent a r e = refused r (e ∙ rw (f, a)) (rw e)

    module _ (a : absent rows row ≡ false) where
      pub stop_room : length old < 4096 → (r : Record) → r ≡ refusal 32 0 → Answer r old
      unfolding form_record stop_at
      stop_room l r e = refused r (e ∙ rw (f, a, lt-ltb (length old) 4096 l)) (rw e)

      pub written : 4096 ≤ length old → (r : Record) (out : List ℕ) → r ≡ completed (length (form_of rows row)) (width_of rows row)
          → out ≡ overwrite (numbers_of (form_of rows row)) old → Answer r out
      unfolding form_record stop_at form_after
      written l r out e o = let n = le-ltb (length old) 4096 l in (e ∙ rw (f, a, n), o ∙ rw (f, a, n))

pub form_few : (t : List Row) (row : ℕ) → length (form_of t row) ≤ length (source_of t row)
unfolding form_of
form_few t row = form_count t (source_of t row)
