-- The sources of a row, and of a cut of it, from those of the rows that it names (document 001, figure 3), the one piece that a
-- variable, a constant or a part of one is, and the bits of a value and of a part of one.
use mathlib.Core.Path.{◌≡◌, refl, sym, ◌∙◌, ap, ap₂}
use mathlib.Core.Bool.{false}
use mathlib.Core.List.{List, [], ◌∷◌, ◌++◌}
use mathlib.Core.Logic.{inl, inr, ⊎_elim}
use Prim.Native.Nat.{ℕ, zero, suc, ◌+◌, ◌-◌, ◌/◌, ◌%◌, ◌^◌, ◌<◌, ◌≤◌}
use native.Mathlib.Omega.{arith}
use lib.ListN.{length, get_or, take, drop, replicate}
use Rattle.terms.specs.declared.Row.{Row}
use Rattle.terms.specs.Table.{rows_of, row_at, width_of, bits_of, count_kind, extract, sources_of, source_of}
use Rattle.laws.specs.Lists.{count_up}
use Rattle.laws.specs.Binary.{binary}
use Rattle.terms.specs.Faults.{absent}
use Rattle.terms.proofs.AcceptedTable.{Table, accepted_table, term_there, term_present}
use Rattle.terms.proofs.Faults.{Term, Kept, kept, kept_names, kept_kind, kept_first, kept_bit, kept_fixed, kept_width, kept_bounds, concat_names, extract_names, widths_small}
use Rattle.laws.proofs.Lists.{map-take, map-drop}
use Rattle.terms.proofs.Sources.{source_length}
use Rattle.terms.proofs.Values.{value_fixed, value-word, value-concat, value-extract, width_variable, width_fixed, width_concat, width_extract}
use Rattle.terms.proofs.Words.{extract_right, extract_left, extract_across, extract_whole, extract-extract, extract-binary}
use Rattle.forms.specs.declared.Piece.{Piece}
use Rattle.forms.specs.Form.{fill, part, bits_up, piece_of, group, form_from}
use Rattle.terms.specs.inner.Placed.{Numbered}
use Rattle.forms.proofs.Places.{variable_pieces, constant_pieces, bits_take, bits_drop, group_bits, group_fills}

drop_copies : (n j : ℕ) (p : Piece) → drop j (replicate n p) ≡ replicate (n - j) p
drop_copies n zero p = let e : n ≡ n - 0 = omega arith in ap (λ (k : ℕ). replicate k p) e
drop_copies zero (suc j) p = let e : zero ≡ zero - suc j = omega arith in ap (λ (k : ℕ). replicate k p) e
drop_copies (suc n) (suc j) p = let e : n - j ≡ suc n - suc j = omega arith in drop_copies n j p ∙ ap (λ (k : ℕ). replicate k p) e

take_copies : (n i : ℕ) (p : Piece) → i ≤ n → take i (replicate n p) ≡ replicate i p
take_copies n zero p h = refl
take_copies zero (suc i) p h = absurd (omega arith)
take_copies (suc n) (suc i) p h = ap (λ (l : List Piece). p ∷ l) (take_copies n i p (omega arith))

module _ (table widths variables : List ℕ) (num : Numbered table widths variables) (row : ℕ) (there : absent (rows_of table) row ≡ false) where
  abbrev rows : List Row
  rows = rows_of table

  abbrev at : Row
  at = row_at (rows_of table) row

  sound : Table table
  sound = accepted_table table num.accepted

  inside : row < length rows
  inside = (term_there rows row there).earlier

  no_equation : at.kind ≡ 4 → ⊥
  no_equation = (term_there rows row there).no_equation

  row_kept : Kept rows row
  row_kept = kept rows row (sound.sound row inside)

  pub sources_wide : length (source_of rows row) ≡ width_of rows row
  sources_wide = source_length rows sound.sound row inside

  pub width_some : at.kind ≤ 2 → 1 ≤ width_of rows row
  width_some e = (kept_width rows row row_kept e).0

  pub width_value : at.kind ≡ 5 → 1 ≤ width_of rows row
  width_value e = (kept_fixed rows row row_kept (inr (omega arith))).0

  pub width_small : width_of rows row ≤ 1024
  width_small = widths_small rows (length rows) (omega arith) sound.sound row inside

  -- the cut that has all bits of the row
  pub whole_cut : (high low : ℕ) → high + 1 ≡ width_of rows row → low ≡ 0 → extract (source_of rows row) high low ≡ source_of rows row
  whole_cut high low h l =
      let n : high ≡ length (source_of rows row) - 1 = omega (arith, sources_wide) in
      ap₂ (extract (source_of rows row)) n l ∙ extract_whole (source_of rows row) (omega (arith, sources_wide))

  named : (x : ℕ) → Term rows row x → absent rows x ≡ false
  named x e = term_present rows x (omega (arith, inside, e.earlier)) e.no_equation

  wide_named : (x : ℕ) → Term rows row x → length (source_of rows x) ≡ width_of rows x
  wide_named x e = source_length rows sound.sound x (omega (arith, inside, e.earlier))

  pub width_read : (x : ℕ) → absent rows x ≡ false → get_or widths x 0 ≡ width_of rows x
  width_read x e = num.widths_are x (term_there rows x e).earlier

  number_read : get_or variables row 0 ≡ count_kind 0 (take row rows)
  number_read = num.variables_are row inside

  -- what is named first is earlier, where it is neither a variable nor a constant nor a value
  pub first_earlier : (at.kind ≡ 0 → ⊥) → (at.kind ≡ 1 → ⊥) → (at.kind ≡ 5 → ⊥) → at.a < row
  first_earlier h₀ h₁ h₅ =
      kept_first rows row row_kept h₀ (λ f. ⊎_elim (λ e. h₁ e) (λ l. h₅ (omega (arith, kept_kind rows row row_kept))) f)

  pub concat_left : (at.kind ≡ 0 → ⊥) → (at.kind ≡ 1 → ⊥) → (at.kind ≡ 5 → ⊥) → (at.kind ≡ 3 → ⊥) → at.kind ≡ 2
  concat_left h₀ h₁ h₅ h₃ = omega (arith, kept_kind rows row row_kept, no_equation)

  -- a variable
  module _ (e : at.kind ≡ 0) where
    pub variable_form : form_from rows (source_of rows row) ≡ part (get_or variables row 0) (at.a - 1) 0 ∷ []
    unfolding form_from
    variable_form =
        let w : 1 ≤ at.a = omega (arith, width_some (omega arith), width_variable rows row inside e) in
        let n : at.a ≡ suc (at.a - 1) = omega arith in
        let z : 0 + (at.a - 1) ≡ at.a - 1 = omega arith in
        ap group (variable_pieces rows row inside e ∙ ap (bits_up (count_kind 0 (take row rows)) 0) n)
        ∙ group_bits (count_kind 0 (take row rows)) 0 (at.a - 1)
        ∙ ap₂ (λ (v h : ℕ). part v h 0 ∷ []) (sym number_read) z

    pub variable_cut : (high low : ℕ) → low ≤ high → high < width_of rows row
        → form_from rows (extract (source_of rows row) high low) ≡ part (get_or variables row 0) high low ∷ []
    unfolding form_from extract
    variable_cut high low l h =
        let v = count_kind 0 (take row rows) in
        let w = width_variable rows row inside e in
        let n : length (source_of rows row) - (high + 1) ≡ at.a - (high + 1) = omega (arith, sources_wide) in
        let k : at.a - (at.a - (high + 1)) ≡ high + 1 = omega arith in
        let j : 0 + (high + 1 - (high + 1 - low)) ≡ low = omega arith in
        let i : high + 1 - low ≡ suc (high - low) = omega arith in
        let t : low + (high - low) ≡ high = omega arith in
        ap group
        (map-take (piece_of rows) (high + 1 - low) (drop (length (source_of rows row) - (high + 1)) (source_of rows row))
        ∙ ap (take (high + 1 - low))
        (map-drop (piece_of rows) (length (source_of rows row) - (high + 1)) (source_of rows row)
        ∙ ap₂ (λ (d : ℕ) (s : List Piece). drop d s) n (variable_pieces rows row inside e)
        ∙ bits_drop v 0 at.a (at.a - (high + 1)) ∙ ap (bits_up v 0) k)
        ∙ bits_take v 0 (high + 1) (high + 1 - low) (omega arith)
        ∙ ap₂ (bits_up v) j i)
        ∙ group_bits v low (high - low)
        ∙ ap₂ (λ (u x : ℕ). part u x low ∷ []) (sym number_read) t

  -- a constant
  module _ (e : at.kind ≡ 1) where
    bit : at.a ≤ 1
    bit = kept_bit rows row row_kept e

    pub constant_form : form_from rows (source_of rows row) ≡ fill at.a (at.b - 1) ∷ []
    unfolding form_from
    constant_form =
        let w : 1 ≤ at.b = omega (arith, width_some (omega arith), width_fixed rows row inside (inl e)) in
        let n : at.b ≡ suc (at.b - 1) = omega arith in
        ap group (constant_pieces rows row inside e bit ∙ ap (λ (k : ℕ). replicate k (fill at.a 0)) n) ∙ group_fills at.a (at.b - 1) bit

    pub constant_cut : (high low : ℕ) → low ≤ high → high < width_of rows row
        → form_from rows (extract (source_of rows row) high low) ≡ fill at.a (high - low) ∷ []
    unfolding form_from extract
    constant_cut high low l h =
        let w = width_fixed rows row inside (inl e) in
        let n : length (source_of rows row) - (high + 1) ≡ at.b - (high + 1) = omega (arith, sources_wide) in
        let i : high + 1 - low ≡ suc (high - low) = omega arith in
        ap group
        (map-take (piece_of rows) (high + 1 - low) (drop (length (source_of rows row) - (high + 1)) (source_of rows row))
        ∙ ap (take (high + 1 - low))
        (map-drop (piece_of rows) (length (source_of rows row) - (high + 1)) (source_of rows row)
        ∙ ap₂ (λ (d : ℕ) (s : List Piece). drop d s) n (constant_pieces rows row inside e bit)
        ∙ drop_copies at.b (at.b - (high + 1)) (fill at.a 0))
        ∙ take_copies (at.b - (at.b - (high + 1))) (high + 1 - low) (fill at.a 0) (omega arith)
        ∙ ap (λ (k : ℕ). replicate k (fill at.a 0)) i)
        ∙ group_fills at.a (high - low) bit

  -- a value
  module _ (e : at.kind ≡ 5) where
    pub value_bits : source_of rows row ≡ binary at.b at.a
    unfolding sources_of
    value_bits = value_fixed rows (count_up 2 (bits_of rows)) row inside (inr (omega arith)) ∙ value-word at (omega arith)

    pub value_cut : (high low : ℕ) → low ≤ high → high < width_of rows row → extract (source_of rows row) high low ≡ binary (high + 1 - low) (at.a / 2 ^ low)
    value_cut high low l h =
        ap (λ (s : List ℕ). extract s high low) value_bits
        ∙ extract-binary at.b at.a high low l (omega (arith, width_fixed rows row inside (inr (omega arith))))

  -- an extraction
  module _ (e : at.kind ≡ 3) where
    cut_named : Term rows row at.a
    cut_named = extract_names rows row at (kept_names rows row row_kept) e

    pub cut_there : absent rows at.a ≡ false
    cut_there = named at.a cut_named

    pub cut_bounds : (at.b < width_of rows at.a) × (at.c ≤ at.b)
    cut_bounds = kept_bounds rows row row_kept e

    pub cut_sources : extract (source_of rows at.a) at.b at.c ≡ source_of rows row
    unfolding sources_of
    cut_sources = sym (value-extract rows (count_up 2 (bits_of rows)) row inside row_kept e)

    module _ (high low : ℕ) (l : low ≤ high) (h : high < width_of rows row) where
      -- shifted bounds lie within the named row, and stay below 65,536
      pub shifted_within : high + at.c < width_of rows at.a
      shifted_within = omega (arith, width_extract rows row inside e, cut_bounds.0, cut_bounds.1)

      pub shifted_small : (k : ℕ) → k ≤ high → (k + at.c) % 65536 ≡ k + at.c
      shifted_small k m =
          omega (arith, shifted_within, widths_small rows (length rows) (omega arith) sound.sound at.a (term_there rows at.a cut_there).earlier)

      pub cut_cut : extract (source_of rows at.a) (high + at.c) (low + at.c) ≡ extract (source_of rows row) high low
      cut_cut =
          let w = wide_named at.a cut_named in
          sym
          (ap (λ (s : List ℕ). extract s high low) (sym cut_sources)
          ∙ extract-extract (source_of rows at.a) at.b at.c high low (omega (arith, cut_bounds.0)) cut_bounds.1
          (omega (arith, width_extract rows row inside e)) l)

  -- a concatenation
  module _ (e : at.kind ≡ 2) where
    names : Term rows row at.a × Term rows row at.b
    names = concat_names rows row at (kept_names rows row row_kept) e

    pub left_there : absent rows at.a ≡ false
    left_there = named at.a names.0

    pub right_there : absent rows at.b ≡ false
    right_there = named at.b names.1

    pub right_earlier : at.b < row
    right_earlier = names.1.earlier

    pub both_sources : source_of rows at.a ++ source_of rows at.b ≡ source_of rows row
    unfolding sources_of
    both_sources = sym (value-concat rows (count_up 2 (bits_of rows)) row inside row_kept e)

    left_wide : length (source_of rows at.a) ≡ width_of rows at.a
    left_wide = wide_named at.a names.0

    right_wide : length (source_of rows at.b) ≡ width_of rows at.b
    right_wide = wide_named at.b names.1

    together : width_of rows row ≡ width_of rows at.a + width_of rows at.b
    together = width_concat rows row inside row_kept e

    module _ (high low : ℕ) (l : low ≤ high) (h : high < width_of rows row) where
      -- within the right part
      pub right_cut : high < width_of rows at.b → extract (source_of rows at.b) high low ≡ extract (source_of rows row) high low
      right_cut r =
          sym
          (ap (λ (s : List ℕ). extract s high low) (sym both_sources)
          ∙ extract_right (source_of rows at.a) (source_of rows at.b) high low (omega (arith, right_wide)))

      -- within the left part
      pub left_cut : width_of rows at.b ≤ low
          → extract (source_of rows at.a) (high - width_of rows at.b) (low - width_of rows at.b) ≡ extract (source_of rows row) high low
      left_cut r =
          sym
          (ap (λ (s : List ℕ). extract s high low) (sym both_sources)
          ∙ extract_left (source_of rows at.a) (source_of rows at.b) high low (omega (arith, right_wide)) l (omega (arith, left_wide, right_wide, together))
          ∙ ap (λ (n : ℕ). extract (source_of rows at.a) (high - n) (low - n)) right_wide)

      pub left_within : width_of rows at.b ≤ high → high - width_of rows at.b < width_of rows at.a
      left_within r = omega (arith, together)

      -- across both parts
      module _ (r : low < width_of rows at.b) (s : width_of rows at.b ≤ high) where
        pub across : extract (source_of rows at.a) (high - width_of rows at.b) 0 ++ extract (source_of rows at.b) (width_of rows at.b - 1) low
            ≡ extract (source_of rows row) high low
        across =
            sym
            (ap (λ (w : List ℕ). extract w high low) (sym both_sources)
            ∙ extract_across (source_of rows at.a) (source_of rows at.b) high low (omega (arith, right_wide)) (omega (arith, right_wide)) (omega (arith, left_wide, right_wide, together))
            ∙ ap (λ (n : ℕ). extract (source_of rows at.a) (high - n) 0 ++ extract (source_of rows at.b) (n - 1) low) right_wide)
