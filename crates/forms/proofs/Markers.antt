-- The normal form of a value (document 02, (i)): its number's bits as fills, where neighbouring equal bits are one. Bits that are all alike are
-- one fill. Assumes nothing.
use mathlib.Core.Path.{◌≡◌, sym, ◌∙◌, ap, ap₂}
use mathlib.Core.Bool.{true, false}
use mathlib.Core.List.{List, [], ◌∷◌, map}
use mathlib.Core.Logic.{◌⊎◌, inl, inr, ◌≢◌}
use Prim.Native.Nat.{ℕ, suc, ◌+◌, ◌-◌, ◌^◌, ◌≤◌}
use native.Mathlib.Omega.{arith}
use lib.ListN.{replicate}
use borrow.Author.Tests.{eq-eqb, ne_eqb, lt-ltb}
use Rattle.laws.specs.Lists.{count_up, all_bits}
use Rattle.laws.specs.Binary.{binary}
use Rattle.laws.proofs.AllBits.{first_bit, bits_map}
use Rattle.laws.proofs.Binary.{binary_bits, binary_zeros, binary_ones}
use Rattle.laws.proofs.Lists.{map-replicate}
use Rattle.laws.proofs.Numbers.{dec_eq}
use Rattle.terms.specs.declared.Row.{Row}
use Rattle.terms.specs.Table.{rows_of, bits_of, sources_of}
use Rattle.terms.specs.Faults.{Accepted, first_fault}
use Rattle.terms.specs.Sound.{Sound, IsValue}
use Rattle.terms.proofs.AcceptedTable.{accepted_table}
use Rattle.terms.proofs.Markers.{marker}
use Rattle.forms.specs.declared.Piece.{Piece}
use Rattle.forms.specs.Form.{fill, piece_of, meets, merged, add_all, group, add, form_from, form_of}
use Rattle.forms.specs.Markers.{Fills, none, last, next, MarkerForm, FillForm}
use Rattle.forms.proofs.Grouping.{add_meets, add_apart}
use Rattle.forms.proofs.Places.{constant_piece, group_fills}
use Rattle.forms.proofs.Theorems.{value_of_form, form_fill}

-- fills of one bit meet, and are one fill; fills of two bits stay apart
alike_meet : (b n m : ℕ) → b ≤ 1 → meets (fill b n) (fill b m) ≡ true
unfolding meets
alike_meet b n m h = rw (eq-eqb b b, lt-ltb b 2 (omega arith))

apart_meet : (b n c m : ℕ) → b ≢ c → meets (fill b n) (fill c m) ≡ false
unfolding meets
apart_meet b n c m h = rw (ne_eqb b c h)

fills_merged : (b n c m : ℕ) → b ≤ 1 → merged (fill b n) (fill c m) ≡ fill b (n + m + 1)
unfolding merged
fills_merged b n c m h = rw (lt-ltb b 2 (omega arith))

-- a fill in front of such a form
add-fill : (b n : ℕ) (form : List Piece) → b ≤ 1 → Fills form → Fills (add (fill b n) form)
unfolding add
add-fill b n form h none = last b n h
add-fill b n form h (last c m k) = go (dec_eq b c)
  where
    go : (b ≡ c) ⊎ (b ≢ c) → Fills (add (fill b n) (fill c m ∷ []))
    go (inl e) = rw (add_meets (fill b n) (fill c m) [] (rw e (alike_meet c n m k)), fills_merged b n c m h) (last b (n + m + 1) h)
    go (inr d) = rw (add_apart (fill b n) (fill c m) [] (apart_meet b n c m d)) (next b n c m h d (last c m k))
add-fill b n form h (next c m x y {form = rest} k d f) = go (dec_eq b c)
  where
    go : (b ≡ c) ⊎ (b ≢ c) → Fills (add (fill b n) (fill c m ∷ fill x y ∷ rest))
    go (inl e) =
        rw (add_meets (fill b n) (fill c m) (fill x y ∷ rest) (rw e (alike_meet c n m k)), fills_merged b n c m h)
        (next b (n + m + 1) x y h (λ z. d (sym e ∙ z)) f)
    go (inr z) = rw (add_apart (fill b n) (fill c m) (fill x y ∷ rest) (apart_meet b n c m z)) (next b n c m h z (next c m x y k d f))

group_of_bits : (bits : List ℕ) → all_bits bits ≡ true → Fills (group (map (λ b. fill b 0) bits))
unfolding group add_all
group_of_bits [] h = none
group_of_bits (b ∷ bits) h = let k = first_bit b bits h in add-fill b 0 (group (map (λ b. fill b 0) bits)) k.0 (group_of_bits bits k.1)

module _ (table : List ℕ) (accepted : first_fault table ≡ Accepted) where
  abbrev t : List Row
  t = rows_of table

  sound : Sound t
  sound = (accepted_table table accepted).sound

  -- a value's form is that of its bits as fills
  form_of_bits : {r a w : ℕ} → IsValue t r a w → form_of t r ≡ group (map (λ b. fill b 0) (binary w a))
  unfolding form_of form_from sources_of
  form_of_bits {r} {a} {w} is =
      ap group
      (ap (map (piece_of t)) ((marker t sound is).value (count_up 2 (bits_of t)))
      ∙ bits_map (piece_of t) (λ b. fill b 0) (constant_piece t 0 (omega arith)) (constant_piece t 1 (omega arith)) (binary w a) (binary_bits w a))

  -- The form of a value is fills, no two neighbours alike, with the number's bits.
  pub marker_form : {r a w : ℕ} → IsValue t r a w → MarkerForm t r a w
  marker_form {r} {a} {w} is =
      record {
        fills = rw (form_of_bits is) (group_of_bits (binary w a) (binary_bits w a));
        value = λ p bits. value_of_form table accepted p bits r is.in_table ∙ (marker t sound is).value p;
      }

  -- A value whose bits are all alike has the form of the fill.
  pub fill_form : {r a w : ℕ} → IsValue t r a w → (x : ℕ) → binary w a ≡ replicate w x → FillForm t r x w
  fill_form {r} {a} {w} is x alike =
      let n : w ≡ suc (w - 1) = omega (arith, (marker t sound is).some) in
      let bits : all_bits (replicate (suc (w - 1)) x) ≡ true = rw (alike, n) at (binary_bits w a) in
      let x-bit = (first_bit x (replicate (w - 1) x) bits).0 in
      let piece : form_of t r ≡ fill x (w - 1) ∷ [] =
      form_of_bits is
      ∙ ap (λ (l : List ℕ). group (map (λ b. fill b 0) l)) (alike ∙ ap (λ (k : ℕ). replicate k x) n)
      ∙ ap group (map-replicate (λ b. fill b 0) (suc (w - 1)) x)
      ∙ group_fills x (w - 1) x-bit in
      record {
        one_piece = piece;
        same = λ {s} f. piece ∙ sym (form_fill table accepted s f.in_table f.is_fill ∙ ap₂ (λ (b k : ℕ). fill b (k - 1) ∷ []) f.bit_is f.width_is);
      }

  -- So the number 0 has the form of a fill of 0, and the highest number of a width that of a fill of 1.
  pub zero_form : {r w : ℕ} → IsValue t r 0 w → FillForm t r 0 w
  zero_form {w = w} is = fill_form is 0 (binary_zeros w)

  pub ones_form : {r w : ℕ} → IsValue t r (2 ^ w - 1) w → FillForm t r 1 w
  ones_form {w = w} is = fill_form is 1 (binary_ones w)
