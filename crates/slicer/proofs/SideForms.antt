-- A filled side in a buffer, as its normal form: the sources that readers give, the widths of its pieces, and where these end.
use mathlib.Core.Path.{◌≡◌, refl, sym, ap, ap₂, ◌∙◌, subst}
use mathlib.Core.Logic.{⊎_elim}
use mathlib.Core.Bool.{Bool, true, false, cond}
use mathlib.Core.List.{List, [], ◌∷◌, ◌++◌, map}
use Prim.Native.Nat.{ℕ, zero, suc, ◌+◌, ◌-◌, ◌*◌, ◌≤◌, ◌<◌}
use native.Mathlib.Omega.{arith}
use lib.Dec.{ltb}
use lib.ListN.{length, get_or, take, length-append}
use lib.Seq.{take-suc, take-length}
use borrow.Author.Tests.{ltb-true}
use Rattle.laws.proofs.Numbers.{lt_or_le}
use Rattle.laws.specs.Buffers.{overwrite}
use Rattle.terms.specs.declared.Row.{Row}
use Rattle.terms.specs.Table.{rows_of, row_at, bits_of, source_of}
use Rattle.terms.proofs.AcceptedTable.{Table, accepted_table}
use Rattle.terms.proofs.RowKinds.{of_equation}
use Rattle.terms.proofs.Faults.{Term, kept, kept_names, equation_names}
use Rattle.terms.proofs.Filled.{evened-length}
use Rattle.answers.specs.Pairs.{paired, pairs_of}
use Rattle.answers.proofs.Filled.{paired-count}
use Rattle.forms.specs.declared.Piece.{Piece}
use Rattle.forms.specs.Form.{fill, form_from, piece_width, form_width, numbers_of}
use Rattle.forms.specs.Proper.{Proper, AllProper, none as proper-none, some as proper-some}
use Rattle.forms.proofs.PieceWidths.{proper_width}
use Rattle.forms.proofs.Units.{form_proper, form-width, form_count}
use Rattle.pieces.specs.inner.Pieces.{piece_at}
use Rattle.pieces.proofs.Buffer.{form_piece}
use Rattle.sides.specs.declared.Reader.{Reader}
use Rattle.sides.specs.inner.Reading.{stepped, sources_in, spelled, first_in, Stands}
use Rattle.sides.specs.inner.Sides.{left_side, right_side, side_written, SidesRead}
use Rattle.sides.proofs.Reading.{stepped-length, longer}
use Rattle.sides.proofs.Spelling.{Lies, AllLie, none as lie-none, some as lie-some, form_lies, AllBelow}
use Rattle.sides.proofs.FormSources.{filled_below}
use Rattle.sides.proofs.EquationPairs.{sides_read}
use Rattle.slices.specs.Borders.{ends_at, total, Some, none, some}
use Rattle.slices.specs.Cut.{left_widths, right_widths}
use Rattle.slices.proofs.Ends.{ends_within, ends-at}
use Rattle.slices.proofs.Cuts.{total_more}
use Rattle.slicer.specs.inner.Cutting.{SidesStand}
use Rattle.slicer.proofs.Moving.{Sort, still, rises}

-- a side of w bits with the sources l, whose form's pieces have the widths W
pub record SideForm (lows form l W : List ℕ) (w : ℕ) : Type 0 where
  pub read : (k : ℕ) (at : Reader) → k < w → Stands lows form k at → at.source ≡ get_or l k 0
  pub small : (i : ℕ) → i < w → get_or l i 0 < 4098
  pub some_each : Some W
  pub whole : total W ≡ w
  pub sums : (i : ℕ) → i ≤ length W → length (spelled lows form i) ≡ total (take i W)
  pub sorts : (i : ℕ) → i < length W → Sort (first_in lows form i)
  pub few : w ≤ 1024

-- a reader that stands before the end
module _ (lows form l W : List ℕ) (w : ℕ) (S : SideForm lows form l W w) (k : ℕ) (at : Reader) (h : k < w) (st : Stands lows form k at) where
  all-sum : length (spelled lows form (length W)) ≡ w
  all-sum = S.sums (length W) (omega arith) ∙ ap total (take-length W) ∙ S.whole

  pub piece_in : at.piece < length W
  piece_in = ⊎_elim (λ m. m) (λ m. absurd (omega (arith, longer lows form at.piece (length W) m, st.within, all-sum))) (lt_or_le at.piece (length W))

  up_to : length (spelled lows form (suc at.piece)) ≡ k + at.left + 1
  up_to =
      omega (arith, ap length st.spells, length-append st.before (stepped at.source at.step (suc at.left)), st.counted, stepped-length at.source at.step (suc at.left))

  behind : total (take (suc at.piece) W) ≡ k + at.left + 1
  behind = sym (S.sums (suc at.piece) piece_in) ∙ up_to

  pub side_ends : k + at.left < w
  side_ends = omega (arith, longer lows form (length W) (suc at.piece) piece_in, all-sum, up_to)

  -- no piece ends before its own does, and its own does
  pub none_within : (x : ℕ) → k < x → x ≤ k + at.left → ends_at W x ≡ false
  none_within x a b =
      ends_within W at.piece x (omega (arith, S.sums at.piece (omega (arith, piece_in)), st.within)) (omega (arith, behind))

  pub one_at : ends_at W (k + at.left + 1) ≡ true
  one_at = ap (ends_at W) (sym behind) ∙ ends-at W S.some_each at.piece piece_in

-- ---- a form in a buffer
source_count : (lows : List ℕ) (p : Piece) → Proper p → length (sources_in lows p) ≡ piece_width p
unfolding sources_in piece_width
source_count lows p k = go (ltb p.kind 2) refl
  where
    go : (b : Bool) → ltb p.kind 2 ≡ b → length (sources_in lows p) ≡ piece_width p
    go true e = rw e (stepped-length p.kind 0 (suc p.high) ∙ omega (arith, k.fill_low e))
    go false e = rw e (stepped-length (get_or lows p.variable 0 - p.high) 1 (suc (p.high - p.low)) ∙ omega (arith, k.in_order))

width-at : (f : List Piece) (i : ℕ) → i < length f → get_or (map piece_width f) i 0 ≡ piece_width (get_or f i (fill 0 0))
width-at [] i l = absurd (omega arith)
width-at (p ∷ f) zero l = refl
width-at (p ∷ f) (suc i) l = width-at f i (omega arith)

widths_count : (f : List Piece) → length (map piece_width f) ≡ length f
widths_count [] = refl
widths_count (p ∷ f) = ap suc (widths_count f)

proper_at : (f : List Piece) → AllProper f → (i : ℕ) → i < length f → Proper (get_or f i (fill 0 0))
proper_at f proper-none i l = absurd (omega arith)
proper_at f (proper-some k ks) zero l = k
proper_at f (proper-some {form = g} k ks) (suc i) l = proper_at g ks i (omega arith)

lies_at : (n : ℕ) (ls : List ℕ) (f : List Piece) → AllLie n ls f → (i : ℕ) → i < length f → Lies n ls (get_or f i (fill 0 0))
lies_at n ls f lie-none i l = absurd (omega arith)
lies_at n ls f (lie-some k ks) zero l = k
lies_at n ls f (lie-some {form = g} k ks) (suc i) l = lies_at n ls g ks i (omega arith)

each-some : (f : List Piece) → AllProper f → Some (map piece_width f)
each-some f proper-none = none
each-some f (proper-some {p = p} {form = g} k ks) = some (proper_width p k) (each-some g ks)

widths_sum : (f : List Piece) → total (map piece_width f) ≡ form_width f
unfolding total form_width
widths_sum [] = refl
widths_sum (p ∷ f) = ap (λ (n : ℕ). piece_width p + n) (widths_sum f)

module _ (n : ℕ) (lows base : List ℕ) (f : List Piece) (proper : AllProper f) (lie : AllLie n lows f) (room : length f * 4 ≤ length base) where
  form_sums : (i : ℕ) → i ≤ length f → length (spelled lows (overwrite (numbers_of f) base) i) ≡ total (take i (map piece_width f))
  unfolding spelled total
  form_sums zero l = refl
  form_sums (suc i) l =
      let b : List ℕ = overwrite (numbers_of f) base in
      let p : Piece = get_or f i (fill 0 0) in
      let e : length (sources_in lows (piece_at b i)) ≡ piece_width p = ap (λ (q : Piece). length (sources_in lows q)) (form_piece base f i (omega arith) room) ∙ source_count lows p (proper_at f proper i (omega arith)) in
      let g : take (suc i) (map piece_width f) ≡ take i (map piece_width f) ++ (get_or (map piece_width f) i 0 ∷ []) = take-suc (map piece_width f) i 0 (omega (arith, widths_count f)) in
      length-append (spelled lows b i) (sources_in lows (piece_at b i))
      ∙ ap₂ ◌+◌ (form_sums i (omega arith)) (e ∙ sym (width-at f i (omega arith)))
      ∙ sym (ap total g ∙ total_more (take i (map piece_width f)) (get_or (map piece_width f) i 0))

  form_sorts : (i : ℕ) → i < length f → Sort (first_in lows (overwrite (numbers_of f) base) i)
  unfolding first_in
  form_sorts i l = rw (form_piece base f i l room) (go (ltb (get_or f i (fill 0 0)).kind 2) refl)
    where
      p : Piece
      p = get_or f i (fill 0 0)

      go : (b : Bool) → ltb (get_or f i (fill 0 0)).kind 2 ≡ b
          → Sort (record {
            piece = i;
            source = cond (ltb (get_or f i (fill 0 0)).kind 2) (get_or f i (fill 0 0)).kind (get_or lows (get_or f i (fill 0 0)).variable 0 - (get_or f i (fill 0 0)).high);
            step = cond (ltb (get_or f i (fill 0 0)).kind 2) 0 1;
            left = cond (ltb (get_or f i (fill 0 0)).kind 2) (get_or f i (fill 0 0)).high ((get_or f i (fill 0 0)).high - (get_or f i (fill 0 0)).low);
          })
      go true e = rw e (still refl (ltb-true p.kind 2 e))
      go false e = rw e (rises refl (omega (arith, (lies_at n lows f lie i l).inside e)))

-- ---- the two sides of an equation
module _ (table widths variables lows left right : List ℕ) (r w : ℕ) (E : SidesStand table widths variables lows left right r w) where
  abbrev rows : List Row
  rows = rows_of table

  abbrev row : Row
  row = row_at (rows_of table) r

  whole_table : Table table
  whole_table = accepted_table table E.prepared.numbered.accepted

  names : Term rows r row.a × Term rows r row.b
  names = equation_names rows r row (kept_names rows r (kept rows r (whole_table.sound r E.inside))) E.equation

  pub both_read : SidesRead (rows_of table) r lows left right w
  both_read = sides_read table widths variables lows E.prepared r E.inside E.left₀ left E.right₀ right w E.left_room E.right_room E.written

  same_wide : length (left_side rows row) ≡ length (right_side rows row)
  same_wide = evened-length (source_of rows row.a) (source_of rows row.b)

  left_wide : w ≡ length (left_side rows row)
  unfolding pairs_of
  left_wide =
      E.written.count ∙ ap length (of_equation row (paired (left_side rows row) (right_side rows row)) [] E.equation)
      ∙ paired-count (left_side rows row) (right_side rows row) same_wide

  side-form : (l base form : List ℕ) → w ≡ length l → AllBelow (bits_of rows + 2) l → 4096 ≤ length base → form ≡ overwrite (numbers_of (form_from rows l)) base
      → ((k : ℕ) (at : Reader) → k < w → Stands lows form k at → at.source ≡ get_or l k 0) → ((i : ℕ) → i < w → get_or l i 0 < bits_of rows + 2)
      → SideForm lows form l (map piece_width (form_from rows l)) w
  side-form l base form ew below room ef reads smalls =
      let f : List Piece = form_from rows l in
      let fits : length f * 4 ≤ length base = omega (arith, form_count rows l, both_read.few, ew) in
      let lie : AllLie (bits_of rows + 1) lows f = form_lies rows lows E.prepared.lows_are l below in
      record {
        read = reads;
        small = λ i h. omega (arith, smalls i h, both_read.few_bits);
        some_each = each-some f (form_proper rows l);
        whole = widths_sum f ∙ form-width rows l ∙ sym ew;
        sums = λ i h. ap (λ (b : List ℕ). length (spelled lows b i)) ef ∙ form_sums (bits_of rows + 1) lows base f (form_proper rows l) lie fits i (omega (arith, widths_count f));
        sorts = λ i h. subst (λ (b : List ℕ). Sort (first_in lows b i)) (sym ef) (form_sorts (bits_of rows + 1) lows base f (form_proper rows l) lie fits i (omega (arith, widths_count f)));
        few = both_read.few;
      }

  pub left_form : SideForm lows left (left_side (rows_of table) (row_at (rows_of table) r)) (left_widths (rows_of table) (row_at (rows_of table) r)) w
  unfolding left_widths side_written
  left_form =
      side-form (left_side rows row) E.left₀ left left_wide (filled_below rows whole_table.sound row.a row.b (omega (arith, names.0.earlier, E.inside)))
      E.left_room (E.written.left_is ∙ of_equation row _ E.left₀ E.equation) both_read.left_read both_read.left_small

  pub right_form : SideForm lows right (right_side (rows_of table) (row_at (rows_of table) r)) (right_widths (rows_of table) (row_at (rows_of table) r)) w
  unfolding right_widths side_written
  right_form =
      side-form (right_side rows row) E.right₀ right (left_wide ∙ same_wide) (filled_below rows whole_table.sound row.b row.a (omega (arith, names.1.earlier, E.inside)))
      E.right_room (E.written.right_is ∙ of_equation row _ E.right₀ E.equation) both_read.right_read both_read.right_small
