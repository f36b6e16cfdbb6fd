-- What a check that accepts a table leaves in the two buffers. Assumes nothing.
use mathlib.Core.Path.{◌≡◌, sym, ap, ◌∙◌}
use mathlib.Core.List.{List}
use Prim.Native.Nat.{ℕ, ◌+◌, ◌%◌, ◌≤◌}
use native.Mathlib.Omega.{arith}
use lib.ListN.{length, get_or, set, length-set}
use lib.Seq.{get_or-set_same, get_or-set_other}
use Rattle.terms.specs.Table.{rows_of, bits_of, widths_of}
use Rattle.terms.specs.Faults.{Accepted, first_fault}
use Rattle.terms.specs.inner.Placed.{Numbered, Placed}
use Rattle.terms.proofs.AcceptedTable.{accepted_table, table_totals}
use Rattle.laws.specs.Buffers.{overwrite}
use Rattle.laws.proofs.Buffers.{overwrite-length}
use Rattle.checker.specs.inner.Check.{fault_in, rows_passed}
use Rattle.checker.proofs.Checking.{fault_found, room_found, widths_left}
use Rattle.checker.proofs.Placing.{Placing, placing_done, placing_variables, placing_sources}

module _ (table widths widths' places' places'' : List ℕ) (room bits v r x : ℕ) (a : fault_in (length widths) table ≡ Accepted)
    (ew : widths' ≡ overwrite (widths_of (rows_passed (length widths) table)) widths) (k : Placing table room places' bits v r) (h : length (rows_of table) ≤ r)
    (ex : x ≡ bits % 65536) (ep : places'' ≡ set places' 577 x) where
  many : 512 ≤ length widths
  many = room_found (length widths) table a

  accepted : first_fault table ≡ Accepted
  accepted = sym (fault_found (length widths) table many) ∙ a

  few : length (rows_of table) ≤ 512
  few = (accepted_table table accepted).few

  pub table_numbered : 512 ≤ room → Numbered table widths' places''
  table_numbered m =
      record {
        accepted = accepted;
        widths_are = λ i l. ap (λ (ws : List ℕ). get_or ws i 0) ew ∙ widths_left table widths many accepted i l;
        variables_are = λ i l. rw ep (get_or-set_other places' 577 i x 0 (λ e. omega (arith, few))) ∙ placing_variables table room places' bits v r k h accepted m i l;
      }

  pub table_placed : 578 ≤ room → Placed table widths' places''
  table_placed m =
      let all : bits ≡ bits_of (rows_of table) = placing_done table room places' bits v r k h in
      let small : x ≡ bits_of (rows_of table) = omega (arith, all, (table_totals table accepted).1) in
      let wide : length widths' ≡ length widths = ap length ew ∙ overwrite-length (widths_of (rows_passed (length widths) table)) widths in
      record {
        numbered = table_numbered (omega arith);
        sources_are = λ i l. rw ep (get_or-set_other places' 577 (512 + i) x 0 (λ e. omega (arith, (table_totals table accepted).0))) ∙ placing_sources table room places' bits v r k h accepted (omega arith) i l;
        bits_are = rw ep (get_or-set_same places' 577 x 0 (omega (arith, k.same_room)) ∙ small);
        widths_room = omega (arith, few, many, wide);
        places_room = omega (arith, k.same_room, ap length ep, length-set places' 577 x);
      }
