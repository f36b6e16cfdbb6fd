-- The theorems of normal forms (document 01, "Normal form"; document 001, theorem 5.2 and figure 3), at every width, for
-- the rows of an accepted table.
use mathlib.Core.Path.{◌≡◌, refl, sym, ◌∙◌, ap, ap₂}
use mathlib.Core.List.{List, [], ◌∷◌, ◌++◌, map}
use Prim.Native.Nat.{ℕ, ◌+◌, ◌-◌, ◌<◌, ◌≤◌}
use native.Mathlib.Omega.{arith}
use lib.ListN.{length, take}
use Rattle.terms.specs.declared.Row.{Row}
use Rattle.terms.specs.Table.{rows_of, row_at, widths_of, width_of, bits_of, count_kind, extract, sources_of, source_of, value_of}
use Rattle.laws.specs.Lists.{count_up}
use Rattle.terms.specs.Faults.{Accepted, first_fault}
use Rattle.terms.specs.Assignments.{Assignment}
use Rattle.terms.proofs.AcceptedTable.{accepted_table, term_present}
use Rattle.terms.proofs.Assignments.{assignment_length}
use Rattle.terms.proofs.Equations.{equation_1, equation_2, equation_3, equation_4, equation_7}
use Rattle.terms.proofs.Faults.{kept, kept_bounds, widths_small}
use Rattle.laws.proofs.Lists.{map-append}
use Rattle.terms.proofs.Separation.{same_sources}
use Rattle.laws.proofs.CountUp.{count-up}
use Rattle.terms.proofs.Sources.{source_length}
use Rattle.terms.proofs.Values.{value-concat, value-extract, width_variable}
use Rattle.terms.specs.Sound.{Sound, IsConcat, IsExtract}
use Rattle.terms.proofs.Words.{extract_join, extract_whole}
use Rattle.forms.specs.Form.{fill, part, piece_of, add_all, group, form_from, form_of, numbers_of, form_width, form_value}
use Rattle.terms.specs.inner.Placed.{Numbered}
use Rattle.forms.proofs.FormNumbers.{numbers_length}
use Rattle.forms.proofs.FormValues.{form-value}
use Rattle.forms.proofs.Grouping.{group-append}
use Rattle.forms.proofs.Maximal.{group_maximal}
use Rattle.forms.specs.Proper.{Maximal, AllProper}
use Rattle.forms.proofs.Numbered.{variables_in, number_row}
use Rattle.forms.proofs.RowForms.{variable_form, constant_form, constant_cut}
use Rattle.forms.proofs.Units.{form_proper, form-width, form_count}

module _ (table : List ℕ) (accepted : first_fault table ≡ Accepted) where
  abbrev t : List Row
  t = rows_of table

  sound : Sound t
  sound = (accepted_table table accepted).sound

  -- the places, each with its own source
  places : List ℕ
  places = count_up 2 (bits_of t)

  whole : length places ≡ bits_of t
  unfolding places
  whole = count-up 2 (bits_of t)

  -- rows whose values agree where each place has its own source have one form
  same_form : (r s : ℕ) → value_of t places r ≡ value_of t places s → form_of t r ≡ form_of t s
  unfolding form_of sources_of places
  same_form r s e = ap (form_from t) e

  -- The value of a form's pieces under every pattern is the row's value.
  pub value_of_form : (p : List ℕ) → Assignment (bits_of t) p → (r : ℕ) → r < length t → form_value t p (form_of t r) ≡ value_of t p r
  value_of_form p a r h = form-value t p (assignment_length a) sound r h

  -- Two rows have the same value under every pattern exactly when their normal forms are the same.
  pub same_values : (r s : ℕ) → r < length t → s < length t → form_of t r ≡ form_of t s
      → (p : List ℕ) → Assignment (bits_of t) p → value_of t p r ≡ value_of t p s
  same_values r s hr hs e p a = sym (value_of_form p a r hr) ∙ ap (form_value t p) e ∙ value_of_form p a s hs

  pub same_forms : (r s : ℕ) → r < length t → s < length t
      → ((p : List ℕ) → Assignment (bits_of t) p → value_of t p r ≡ value_of t p s) → form_of t r ≡ form_of t s
  unfolding form_of
  same_forms r s hr hs f = ap (form_from t) (same_sources t sound r s hr hs f)

  -- Grouping the sources that a form spells out gives that form again (theorem 5.2 (3)).
  pub form_again : (r : ℕ) → r < length t → form_from t (form_value t (count_up 2 (bits_of t)) (form_of t r)) ≡ form_of t r
  unfolding form_of sources_of
  form_again r h = ap (form_from t) (form-value t (count_up 2 (bits_of t)) (count-up 2 (bits_of t)) sound r h)

  -- A form is maximally connected.
  pub form_maximal : (r : ℕ) → Maximal (form_of t r)
  unfolding form_of form_from
  form_maximal r = group_maximal (map (piece_of t) (source_of t r))

  -- Its pieces have widths of at least 1 (`proper_width`) that add up to the row's width.
  pub pieces_proper : (r : ℕ) → AllProper (form_of t r)
  unfolding form_of
  pieces_proper r = form_proper t (source_of t r)

  pub pieces_width : (r : ℕ) → r < length t → form_width (form_of t r) ≡ width_of t r
  unfolding form_of
  pieces_width r h = form-width t (source_of t r) ∙ source_length t sound r h

  -- No form has more pieces than bits, so 4,096 numbers are enough.
  pub pieces_few : (r : ℕ) → r < length t → length (form_of t r) ≤ width_of t r
  unfolding form_of
  pieces_few r h = omega (arith, form_count t (source_of t r), source_length t sound r h)

  pub numbers_enough : (r : ℕ) → r < length t → length (numbers_of (form_of t r)) ≤ 4096
  numbers_enough r h =
      omega (arith, numbers_length (form_of t r), pieces_few r h, widths_small t (length t) (omega arith) sound r h)

  -- The form of a join is the merge of the forms of its parts.
  pub form_concat : {j s u : ℕ} → IsConcat t j s u → form_of t j ≡ add_all (form_of t s) (form_of t u)
  unfolding form_of form_from sources_of
  form_concat {j} {s} {u} h =
      let k = kept t j (sound j h.in_table) in
      let both : value_of t (count_up 2 (bits_of t)) j ≡ value_of t (count_up 2 (bits_of t)) s ++ value_of t (count_up 2 (bits_of t)) u =
      value-concat t (count_up 2 (bits_of t)) j h.in_table k h.is_concat ∙ rw (h.left_is, h.right_is) in
      ap (λ (l : List ℕ). group (map (piece_of t) l)) both
      ∙ ap group (map-append (piece_of t) (value_of t (count_up 2 (bits_of t)) s) (value_of t (count_up 2 (bits_of t)) u))
      ∙ group-append (map (piece_of t) (value_of t (count_up 2 (bits_of t)) s)) (map (piece_of t) (value_of t (count_up 2 (bits_of t)) u))

  -- Figure 3: a cut through a join is cut from the right part, from the left part, or from both; a cut of the whole
  -- is the whole; a cut of a cut is one cut with shifted bounds.
  pub form_cut_right : {j s u x y i k : ℕ} → IsConcat t j s u → IsExtract t x j i k → IsExtract t y u i k → form_of t x ≡ form_of t y
  form_cut_right {x = x} {y = y} a b c = same_form x y (equation_1 t places sound whole a b c)

  pub form_cut_left : {j s u x y i k : ℕ} → IsConcat t j s u → IsExtract t x j i k → IsExtract t y s (i - width_of t u) (k - width_of t u) → width_of t u ≤ k
      → form_of t x ≡ form_of t y
  form_cut_left {x = x} {y = y} a b c d = same_form x y (equation_2 t places sound whole a b c d)

  pub form_cut_across : {j s u x y z w i k : ℕ} → IsConcat t j s u → IsExtract t x j i k → IsExtract t y s (i - width_of t u) 0 → IsExtract t z u (width_of t u - 1) k
      → IsConcat t w y z → width_of t u ≤ i → form_of t x ≡ add_all (form_of t y) (form_of t z)
  form_cut_across {x = x} {w = w} a b c d e f = same_form x w (equation_3 t places sound whole a b c d e f) ∙ form_concat e

  pub form_cut_whole : {x s : ℕ} → IsExtract t x s (width_of t s - 1) 0 → form_of t x ≡ form_of t s
  form_cut_whole {x} {s} a = same_form x s (equation_4 t places sound whole a)

  pub form_cut_cut : {x y z s i j k l : ℕ} → IsExtract t x s i j → IsExtract t y x k l → IsExtract t z s (k + j) (l + j) → form_of t y ≡ form_of t z
  form_cut_cut {y = y} {z = z} a b c = same_form y z (equation_7 t places sound whole a b c)

  numbered : Numbered table (widths_of t) (variables_in t)
  numbered = record { accepted = accepted; widths_are = λ r h. refl; variables_are = λ r h. number_row t r h }

  -- A variable is one piece, and so is a fill; a cut of a fill is a fill.
  pub form_variable : (r : ℕ) → r < length t → (row_at t r).kind ≡ 0 → form_of t r ≡ part (count_kind 0 (take r t)) (width_of t r - 1) 0 ∷ []
  unfolding form_of
  form_variable r h e =
      variable_form table (widths_of t) (variables_in t) numbered r (term_present t r h (λ k. omega arith)) e
      ∙ ap₂ (λ (v w : ℕ). part v (w - 1) 0 ∷ []) (number_row t r h) (sym (width_variable t r h e))

  pub form_fill : (r : ℕ) → r < length t → (row_at t r).kind ≡ 1 → form_of t r ≡ fill (row_at t r).a ((row_at t r).b - 1) ∷ []
  unfolding form_of
  form_fill r h e = constant_form table (widths_of t) (variables_in t) numbered r (term_present t r h (λ k. omega arith)) e

  pub form_cut_fill : (r : ℕ) → r < length t → (row_at t r).kind ≡ 1 → {x i k : ℕ} → IsExtract t x r i k → form_of t x ≡ fill (row_at t r).a (i - k) ∷ []
  unfolding form_of sources_of
  form_cut_fill r h e {x} {i} {k} c =
      let kp = kept t x (sound x c.in_table) in
      let bounds = kept_bounds t x kp c.is_extract in
      let cut : value_of t (count_up 2 (bits_of t)) x ≡ extract (value_of t (count_up 2 (bits_of t)) r) i k =
      value-extract t (count_up 2 (bits_of t)) x c.in_table kp c.is_extract ∙ rw (c.word_is, c.high_is, c.low_is) in
      ap (form_from t) cut
      ∙ constant_cut table (widths_of t) (variables_in t) numbered r (term_present t r h (λ z. omega arith)) e i k
      (rw (c.high_is, c.low_is) at bounds.1) (rw (c.word_is, c.high_is) at bounds.0)

  -- Worked case 9 at every width: a variable cut in two and joined again is one piece.
  pub cut_and-joined : (r : ℕ) → r < length t → (row_at t r).kind ≡ 0 → {x y z k : ℕ} → IsExtract t x r (width_of t r - 1) k → IsExtract t y r (k - 1) 0
      → IsConcat t z x y → 1 ≤ k → form_of t z ≡ part (count_kind 0 (take r t)) (width_of t r - 1) 0 ∷ []
  unfolding form_of sources_of
  cut_and-joined r h e {x} {y} {z} {k} a b c l =
      let q = count_up 2 (bits_of t) in
      let w = value_of t q r in
      let n : length w ≡ width_of t r = source_length t sound r h in
      let kx = kept t x (sound x a.in_table) in
      let ky = kept t y (sound y b.in_table) in
      let kz = kept t z (sound z c.in_table) in
      let bx : k ≤ width_of t r - 1 = rw (a.high_is, a.low_is) at (kept_bounds t x kx a.is_extract).1 in
      let below : width_of t r - 1 < width_of t r = rw (a.word_is, a.high_is) at (kept_bounds t x kx a.is_extract).0 in
      let vx : value_of t q x ≡ extract w (width_of t r - 1) k = value-extract t q x a.in_table kx a.is_extract ∙ rw (a.word_is, a.high_is, a.low_is) in
      let vy : value_of t q y ≡ extract w (k - 1) 0 = value-extract t q y b.in_table ky b.is_extract ∙ rw (b.word_is, b.high_is, b.low_is) in
      let vz : value_of t q z ≡ value_of t q x ++ value_of t q y = value-concat t q z c.in_table kz c.is_concat ∙ rw (c.left_is, c.right_is) in
      let top : width_of t r - 1 ≡ length w - 1 = omega arith in
      ap (form_from t)
      (vz ∙ ap₂ (λ (f g : List ℕ). f ++ g) vx vy
      ∙ extract_join w (width_of t r - 1) k 0 (omega arith) bx (omega arith)
      ∙ ap (λ (m : ℕ). extract w m 0) top ∙ extract_whole w (omega arith))
      ∙ form_variable r h e
