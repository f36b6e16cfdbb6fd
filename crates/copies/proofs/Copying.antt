-- The copy of a table, made in two passes over a buffer; and what holds of it: what is placed for the table is placed for the copy, and the
-- bit pairs of its rows are those of the table's equations that count.
use mathlib.Core.Path.{◌≡◌, sym, ◌∙◌, ap}
use mathlib.Core.List.{List, ◌++◌}
use Prim.Native.Nat.{ℕ, ◌+◌, ◌%◌, ◌≤◌}
use native.Mathlib.Omega.{arith}
use lib.ListN.{length, get_or, take, drop}
use lib.Seq.{length-take-le, take_at}
use Rattle.terms.specs.declared.Row.{Row}
use Rattle.terms.specs.Table.{rows_of, bits_of, widths_of, count_kind, counting}
use Rattle.terms.specs.Faults.{Accepted, first_fault}
use Rattle.terms.specs.Sound.{Sound}
use Rattle.terms.specs.inner.Places.{first_place}
use Rattle.terms.specs.inner.Placed.{Placed}
use Rattle.terms.proofs.AcceptedTable.{accepted_table, sound_accepted}
use Rattle.terms.proofs.LeavingOff.{alike_widths}
use Rattle.terms.proofs.Counting.{counting-alike, counting_sound}
use Rattle.terms.proofs.Alike.{Alike, alike-take, alike_bits, alike-count, alike_places}
use Rattle.answers.specs.Pairs.{pairs_in, equation_pairs}
use Rattle.copies.specs.inner.Shortened.{shortened}
use Rattle.copies.specs.inner.Copies.{Copied}
use Rattle.copies.proofs.ShortTable.{short_alike, short_widths, short_sound, short_pairs}

-- the first n numbers of a buffer, lent once more, come back as the numbers `left`: they stand before the others
module _ (buffer left : List ℕ) (n : ℕ) (fits : n ≤ length buffer) (kept : length left ≡ length (take n buffer)) where
  left_length : length left ≡ n
  left_length = kept ∙ length-take-le n buffer (omega arith)

  copy-part : take n (left ++ drop n buffer) ≡ left
  copy-part = take_at left (drop n buffer) n left_length

  -- such a copy, where the first n numbers are the shortened rows of an accepted table, and then its revised equations are left off
  module _ (table : List ℕ) (accepted : first_fault table ≡ Accepted) (whole : n ≡ length table) (shorts : rows_of (take n buffer) ≡ shortened (rows_of table))
      (off : length (rows_of (take n buffer)) ≤ 512 → rows_of left ≡ counting (rows_of (take n buffer))) where
    pub copied : Copied table (take n (left ++ drop n buffer))
    copied =
        let it = accepted_table table accepted in
        let few : length (rows_of (take n buffer)) ≤ 512 = omega (arith, ap length shorts, (short_alike (rows_of table) it.sound).count, it.few) in
        record { size = ap length copy-part ∙ left_length ∙ whole; rows = ap rows_of copy-part ∙ off few ∙ ap counting shorts }

-- a copy of an accepted table
module _ (table copy : List ℕ) (accepted : first_fault table ≡ Accepted) (C : Copied table copy) where
  abbrev t : List Row
  t = rows_of table

  abbrev s : List Row
  s = shortened (rows_of table)

  sound : Sound t
  sound = (accepted_table table accepted).sound

  -- the shortened rows differ from the table's in cuts, the copy's rows from those in revised equations
  cuts : Alike 3 s t
  cuts = short_alike t sound

  equations : Alike 4 (rows_of copy) s
  equations = rw C.rows (counting-alike s)

  pub copy-count : length (rows_of copy) ≡ length t
  copy-count = equations.count ∙ cuts.count

  pub copy_accepted : first_fault copy ≡ Accepted
  copy_accepted =
      let it = accepted_table table accepted in
      sound_accepted copy (ap (λ (n : ℕ). n % 4) C.size ∙ it.whole) (omega (arith, copy-count, it.few)) (rw C.rows (counting_sound s (short_sound t sound)))

  pub copy_bits : bits_of (rows_of copy) ≡ bits_of t
  copy_bits = alike_bits 4 (omega arith) (rows_of copy) s equations ∙ alike_bits 3 (omega arith) s t cuts

  copy_widths : widths_of (rows_of copy) ≡ widths_of t
  copy_widths = alike_widths (rows_of copy) s equations ∙ short_widths t sound

  copy_variables : (r : ℕ) → count_kind 0 (take r (rows_of copy)) ≡ count_kind 0 (take r t)
  copy_variables r =
      alike-count 4 0 (take r (rows_of copy)) (take r s) (alike-take 4 r (rows_of copy) s equations)
      ∙ alike-count 3 0 (take r s) (take r t) (alike-take 3 r s t cuts)

  copy_places : (v : ℕ) → first_place (rows_of copy) v ≡ first_place t v
  copy_places v = alike_places 4 (omega arith) (rows_of copy) s equations v ∙ alike_places 3 (omega arith) s t cuts v

  pub copy-placed : (widths places : List ℕ) → Placed table widths places → Placed copy widths places
  copy-placed widths places P =
      record {
        numbered = record {
          accepted = copy_accepted;
          widths_are = λ r h. P.numbered.widths_are r (omega (arith, copy-count)) ∙ ap (λ (l : List ℕ). get_or l r 0) (sym copy_widths);
          variables_are = λ r h. P.numbered.variables_are r (omega (arith, copy-count)) ∙ sym (copy_variables r);
        };
        sources_are =
            λ v h.
            P.sources_are v (omega (arith, alike-count 4 0 (rows_of copy) s equations, alike-count 3 0 s t cuts)) ∙ ap (λ (n : ℕ). n + 1) (sym (copy_places v));
        bits_are = P.bits_are ∙ sym copy_bits;
        widths_room = omega (arith, copy-count, P.widths_room);
        places_room = P.places_room;
      }

  pub copy_pairs : pairs_in (rows_of copy) (rows_of copy) ≡ equation_pairs t
  copy_pairs = ap (λ (u : List Row). pairs_in u u) C.rows ∙ short_pairs t sound
