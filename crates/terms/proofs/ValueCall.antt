-- The value call's record and output, for each way in which the call ends.
use mathlib.Core.Path.{◌≡◌, sym, ◌∙◌}
use mathlib.Core.Bool.{true, false, or-true}
use mathlib.Core.List.{List}
use Prim.Native.Nat.{ℕ, ◌<◌, ◌≤◌}
use lib.Dec.{eqb}
use lib.ListN.{length}
use borrow.Author.Tests.{lt-ltb, le-ltb, eq-eqb, ne_eqb}
use Rattle.terms.specs.declared.Record.{Record}
use Rattle.terms.specs.declared.Row.{Row}
use Rattle.terms.specs.Table.{rows_of, width_of, bits_of, value_of}
use Rattle.terms.specs.Faults.{absent, is_accepted, first_fault}
use Rattle.terms.specs.Calls.{refusal, completed, fault_record, stop_at}
use Rattle.laws.specs.Buffers.{overwrite}
use Rattle.terms.proofs.AcceptedTable.{fault_numbered}
use Rattle.laws.specs.Lists.{all_bits}
use Rattle.terms.specs.Value.{wrong_pattern, value_record, value_after}

module _ (table : List ℕ) (row : ℕ) (p old : List ℕ) where
  abbrev rows : List Row
  rows = rows_of table

  -- what the call promises of its record and its output
  abbrev pub Answer : Record → List ℕ → Type 0
  Answer r out = (r ≡ value_record table row p (length old)) × (out ≡ value_after table row p old)

  refused : (r : Record) → r ≡ value_record table row p (length old) → eqb r.outcome 0 ≡ false → Answer r old
  unfolding value_after
  refused r e z = (e, rw (← e, z))

  pub stop_fault : is_accepted (first_fault table) ≡ false → (r : Record) → r ≡ fault_record (first_fault table) → Answer r old
  unfolding value_record stop_at
  stop_fault f r e = refused r (e ∙ rw f) (rw e (fault_numbered (first_fault table) f))

  module _ (f : is_accepted (first_fault table) ≡ true) where
    pub stop_absent : absent rows row ≡ true → (r : Record) → r ≡ refusal 30 0 → Answer r old
    unfolding value_record stop_at
    stop_absent a r e = refused r (e ∙ rw (f, a)) (rw e)

    module _ (a : absent rows row ≡ false) where
      pub stop_pattern : wrong_pattern rows p ≡ true → (r : Record) → r ≡ refusal 31 0 → Answer r old
      unfolding value_record stop_at
      stop_pattern w r e = refused r (e ∙ rw (f, a, w)) (rw e)

      module _ (w : wrong_pattern rows p ≡ false) where
        pub stop_room : length old < width_of rows row → (r : Record) → r ≡ refusal 32 0 → Answer r old
        unfolding value_record stop_at
        stop_room l r e = refused r (e ∙ rw (f, a, w, lt-ltb (length old) (width_of rows row) l)) (rw e)

        pub written : width_of rows row ≤ length old → (r : Record) (out : List ℕ) → r ≡ completed 0 (width_of rows row) → out ≡ overwrite (value_of rows p row) old → Answer r out
        unfolding value_record stop_at value_after
        written l r out e o =
            let n = le-ltb (length old) (width_of rows row) l in
            (e ∙ rw (f, a, w, n), o ∙ rw (f, a, w, n))

-- a pattern's length and bytes
pub pattern_short : (t : List Row) (p : List ℕ) → (bits_of t ≡ length p → ⊥) → wrong_pattern t p ≡ true
unfolding wrong_pattern
pattern_short t p h = rw (ne_eqb (length p) (bits_of t) (λ e. h (sym e)))

pub pattern_broken : (t : List Row) (p : List ℕ) → all_bits p ≡ false → wrong_pattern t p ≡ true
unfolding wrong_pattern
pattern_broken t p h = rw (h, or-true)

pub pattern_right : (t : List Row) (p : List ℕ) → bits_of t ≡ length p → all_bits p ≡ true → wrong_pattern t p ≡ false
unfolding wrong_pattern
pattern_right t p e h = rw (eq-eqb (length p) (bits_of t) (sym e), h)
