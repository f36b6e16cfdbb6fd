-- The first cut, slice by slice: up to bit k the slices end where either form's pieces do, and they spell the pairs of the first k bits.
use mathlib.Core.Path.{◌≡◌, refl, sym, ap, ap₂, ◌∙◌, subst}
use mathlib.Core.Logic.{◌⊎◌, inl, inr, ◌≢◌}
use mathlib.Core.Bool.{Bool, true, false, cond, ◌||◌}
use mathlib.Core.List.{List, [], ◌∷◌, ◌++◌}
use Prim.Native.Nat.{ℕ, zero, suc, ◌+◌, ◌*◌, ◌%◌, ◌≤◌, ◌<◌, min, max}
use native.Mathlib.Omega.{arith}
use lib.Dec.{eqb, ltb}
use lib.ListN.{length, get_or, set, length-set}
use lib.Seq.{get_or-set_same, get_or-set_other}
use borrow.Author.Tests.{eq-eqb, ne_eqb, lt-ltb, le-ltb}
use Rattle.laws.proofs.Numbers.{lt_or_le, dec_eq}
use Rattle.terms.specs.Table.{rows_of, row_at}
use Rattle.answers.specs.Pairs.{Pair}
use Rattle.sides.specs.declared.Reader.{Reader}
use Rattle.sides.specs.inner.Reading.{first_in, Stands}
use Rattle.sides.specs.inner.Sides.{pairs_from, left_side, right_side, SidesRead}
use Rattle.slices.specs.Along.{along, run_pairs}
use Rattle.slices.specs.Borders.{ends_at, total, Some, none}
use Rattle.slices.specs.Cut.{Slice, slice_widths, spelled_pairs, left_widths, right_widths}
use Rattle.slices.proofs.SideBySide.{along_more, along_none}
use Rattle.slices.proofs.Ends.{ends_past, ends_none, ends_more}
use Rattle.slices.proofs.Cuts.{widths_more, spelled_more, total_more, some_more}
use Rattle.slicer.specs.inner.Cutting.{moved_by, passed_in, slice_at, slices_in, PutsSlice, SidesStand, SidesCut}
use Rattle.slicer.proofs.Moving.{Sort, moved_source, moved_sort, moved_stands, passed_stands}
use Rattle.slicer.proofs.SideForms.{SideForm, piece_in, side_ends, none_within, one_at, both_read, left_form, right_form}

-- ---- slices in a buffer
pub slice_put : (cuts cuts' : List ℕ) (i left right width : ℕ) → PutsSlice i left right width cuts cuts' → i * 3 + 3 ≤ length cuts
    → slice_at cuts' i ≡ record { left = left; right = right; width = width }
unfolding slice_at
slice_put cuts cuts' i left right width put room =
    let e = put room in
    let c₁ : List ℕ = set cuts (i * 3) left in
    let c₂ : List ℕ = set c₁ (i * 3 + 1) right in
    let n₁ : length c₁ ≡ length cuts = length-set cuts (i * 3) left in
    let n₂ : length c₂ ≡ length cuts = length-set c₁ (i * 3 + 1) right ∙ n₁ in
    let x : get_or cuts' (i * 3) 0 ≡ left =
    ap (λ (v : List ℕ). get_or v (i * 3) 0) e ∙ get_or-set_other c₂ (i * 3 + 2) (i * 3) width 0 (omega arith) ∙ get_or-set_other c₁ (i * 3 + 1) (i * 3) right 0 (omega arith) ∙ get_or-set_same cuts (i * 3) left 0 (omega arith) in
    let y : get_or cuts' (i * 3 + 1) 0 ≡ right =
    ap (λ (v : List ℕ). get_or v (i * 3 + 1) 0) e ∙ get_or-set_other c₂ (i * 3 + 2) (i * 3 + 1) width 0 (omega arith) ∙ get_or-set_same c₁ (i * 3 + 1) right 0 (omega arith) in
    let z : get_or cuts' (i * 3 + 2) 0 ≡ width = ap (λ (v : List ℕ). get_or v (i * 3 + 2) 0) e ∙ get_or-set_same c₂ (i * 3 + 2) width 0 (omega arith) in
    rw (x, y, z)

pub slice_kept : (cuts cuts' : List ℕ) (i left right width : ℕ) → PutsSlice i left right width cuts cuts' → i * 3 + 3 ≤ length cuts
    → (j : ℕ) → j < i → slice_at cuts' j ≡ slice_at cuts j
unfolding slice_at
slice_kept cuts cuts' i left right width put room j l =
    let c₁ : List ℕ = set cuts (i * 3) left in
    let c₂ : List ℕ = set c₁ (i * 3 + 1) right in
    let k : (x : ℕ) → x < i * 3 → get_or cuts' x 0 ≡ get_or cuts x 0 =
    λ x m.
    ap (λ (v : List ℕ). get_or v x 0) (put room) ∙ get_or-set_other c₂ (i * 3 + 2) x width 0 (omega arith) ∙ get_or-set_other c₁ (i * 3 + 1) x right 0 (omega arith) ∙ get_or-set_other cuts (i * 3) x left 0 (omega arith) in
    rw (k (j * 3) (omega arith), k (j * 3 + 1) (omega arith), k (j * 3 + 2) (omega arith))

-- three numbers stored one after the other
pub three_put : (a b c d : List ℕ) (at x y z : ℕ) → b ≡ set a at x → c ≡ set b (at + 1) y → d ≡ set c (at + 2) z
    → d ≡ set (set (set a at x) (at + 1) y) (at + 2) z
three_put a b c d at x y z e f g = g ∙ ap (λ (v : List ℕ). set v (at + 2) z) (f ∙ ap (λ (v : List ℕ). set v (at + 1) y) e)

slices_same : (cuts cuts' : List ℕ) (n : ℕ) → ((j : ℕ) → j < n → slice_at cuts' j ≡ slice_at cuts j) → slices_in cuts' n ≡ slices_in cuts n
unfolding slices_in
slices_same cuts cuts' zero same = refl
slices_same cuts cuts' (suc n) same =
    ap₂ (λ (c : List Slice) (s : Slice). c ++ (s ∷ [])) (slices_same cuts cuts' n (λ j l. same j (omega arith))) (same n (omega arith))

-- ---- pairs side by side
pairs_along : (l q : List ℕ) (s t k m : ℕ) → ((j : ℕ) → j < m → along s j ≡ get_or l (k + j) 0) → ((j : ℕ) → j < m → along t j ≡ get_or q (k + j) 0)
    → run_pairs s t m ≡ pairs_from l q k m
unfolding run_pairs pairs_from
pairs_along l q s t k zero a b = refl
pairs_along l q s t k (suc m) a b =
    let z : k + 0 ≡ k = omega arith in
    let x : s ≡ get_or l k 0 = sym (along_none s) ∙ a 0 (omega arith) ∙ ap (λ (i : ℕ). get_or l i 0) z in
    let y : t ≡ get_or q k 0 = sym (along_none t) ∙ b 0 (omega arith) ∙ ap (λ (i : ℕ). get_or q i 0) z in
    let on : (j : ℕ) → k + (1 + j) ≡ suc k + j = λ j. omega arith in
    ap₂ (λ (p : Pair) (ps : List Pair). p ∷ ps) (ap₂ (λ (u v : ℕ). record { left = u; right = v }) x y)
    (pairs_along l q (along s 1) (along t 1) (suc k) m
    (λ j h. along_more s 1 j ∙ a (1 + j) (omega arith) ∙ ap (λ (i : ℕ). get_or l i 0) (on j))
    (λ j h. along_more t 1 j ∙ b (1 + j) (omega arith) ∙ ap (λ (i : ℕ). get_or q i 0) (on j)))

pairs_append : (l q : List ℕ) (a k m : ℕ) → pairs_from l q a (k + m) ≡ pairs_from l q a k ++ pairs_from l q (a + k) m
unfolding pairs_from
pairs_append l q a zero m =
    let e : 0 + m ≡ m = omega arith in
    let z : a ≡ a + 0 = omega arith in
    ap₂ (pairs_from l q) z e
pairs_append l q a (suc k) m =
    let e : suc k + m ≡ suc (k + m) = omega arith in
    let z : suc a + k ≡ a + suc k = omega arith in
    ap (pairs_from l q a) e
    ∙ ap (λ (ps : List Pair). record { left = get_or l a 0; right = get_or q a 0 } ∷ ps)
    (pairs_append l q (suc a) k m ∙ ap (λ (i : ℕ). pairs_from l q (suc a) k ++ pairs_from l q i m) z)

-- ---- the sources of a reader's piece, from where it stands
module _ (lows form l W : List ℕ) (w : ℕ) (S : SideForm lows form l W w) (k : ℕ) (at : Reader) (h : k < w) (st : Stands lows form k at) (sort : Sort at) where
  here : at.source < 4098
  here = omega (arith, S.read k at h st, S.small k h)

  ends : k + at.left < w
  ends = side_ends lows form l W w S k at h st

  pub reads_along : (j : ℕ) → j ≤ at.left → along at.source j ≡ get_or l (k + j) 0
  reads_along j m =
      sym (moved_source at j sort (omega (arith, here, ends, S.few)))
      ∙ S.read (k + j) (moved_by j at) (omega (arith, ends)) (moved_stands lows form at k j sort (omega (arith, here)) m (omega (arith, ends, S.few)) st)

  pub reader_passes : (n : ℕ) → n ≤ suc at.left → Stands lows form (k + n) (passed_in lows form at n)
  reader_passes n m = passed_stands lows form at k n sort (omega (arith, here)) m (omega (arith, ends, S.few)) st

  pub sort_passes : (n : ℕ) → n ≤ suc at.left → k + n < w → Sort (passed_in lows form at n)
  unfolding passed_in
  sort_passes n m b = go (lt_or_le at.left n)
    where
      go : (at.left < n) ⊎ (n ≤ at.left) → Sort (cond (ltb at.left n) (first_in lows form ((at.piece + 1) % 65536)) (moved_by n at))
      go (inl a) =
          let p : (at.piece + 1) % 65536 ≡ suc at.piece = omega (arith, st.few, S.few) in
          let next : suc at.piece < length W = inside p in
          rw (lt-ltb at.left n a, p) (S.sorts (suc at.piece) next)
        where
          inside : (at.piece + 1) % 65536 ≡ suc at.piece → suc at.piece < length W
          inside p =
              let q = piece_in lows form l W w S (k + n) (passed_in lows form at n) b (reader_passes n m) in
              unfold passed_in first_in in (omega (arith, rw (lt-ltb at.left n a) at q, p))
      go (inr a) = rw (le-ltb at.left n a) (moved_sort at n sort (omega (arith, here, ends, S.few)))

-- ---- the invariant: where the readers stand and what the slices spell; and where the slices end
pub record Cutting (l q lows left right : List ℕ) (w : ℕ) (cuts : List ℕ) (n k : ℕ) (a b : Reader) : Type 0 where
  pub at_left : Stands lows left k a
  pub at_right : Stands lows right k b
  pub sort_left : k < w → Sort a
  pub sort_right : k < w → Sort b
  pub most : k ≤ w
  pub few : n ≤ k
  pub whole : total (slice_widths (slices_in cuts n)) ≡ k
  pub some_each : Some (slice_widths (slices_in cuts n))
  pub spells : spelled_pairs (slices_in cuts n) ≡ pairs_from l q 0 k
  pub left_in : (i : ℕ) → i < n → (j : ℕ) → j < (slice_at cuts i).width → (m : ℕ) × (m < w) × (along (slice_at cuts i).left j ≡ get_or l m 0)
  pub right_in : (i : ℕ) → i < n → (j : ℕ) → j < (slice_at cuts i).width → (m : ℕ) × (m < w) × (along (slice_at cuts i).right j ≡ get_or q m 0)

abbrev pub Bordered : List ℕ → List ℕ → List ℕ → ℕ → ℕ → Type 0
Bordered L R cuts n k = (x : ℕ) → x ≤ k → ends_at (slice_widths (slices_in cuts n)) x ≡ ends_at L x || ends_at R x

module _ (l q L R lows left right : List ℕ) (w : ℕ) (SL : SideForm lows left l L w) (SR : SideForm lows right q R w) where
  pub cutting_first : (cuts : List ℕ) (a b : Reader) → Stands lows left 0 a → Stands lows right 0 b → (0 < w → Sort a) → (0 < w → Sort b)
      → Cutting l q lows left right w cuts 0 0 a b
  unfolding slices_in slice_widths spelled_pairs pairs_from
  cutting_first cuts a b sa sb oa ob =
      record {
        at_left = sa;
        at_right = sb;
        sort_left = oa;
        sort_right = ob;
        most = omega arith;
        few = omega arith;
        whole = unfold total in refl;
        some_each = none;
        spells = refl;
        left_in = λ i m j o. absurd (omega arith);
        right_in = λ i m j o. absurd (omega arith);
      }

  pub borders_first : (cuts : List ℕ) → Bordered L R cuts 0 0
  unfolding slices_in slice_widths
  borders_first cuts x m =
      let z : x ≡ 0 = omega arith in
      rw z (unfold ends_at in (sym (ap₂ ◌||◌ (ends_none L SL.some_each) (ends_none R SR.some_each))))

  module _ (cuts : List ℕ) (n k : ℕ) (a b : Reader) (C : Cutting l q lows left right w cuts n k a b) (h : k < w) (s : ℕ) (some-s : 1 ≤ s) (most-s : s ≤ min a.left b.left + 1)
      (cuts' : List ℕ) (at_n : slice_at cuts' n ≡ record { left = a.source; right = b.source; width = s }) (kept : (j : ℕ) → j < n → slice_at cuts' j ≡ slice_at cuts j) where
    cut : List Slice
    cut = slices_in cuts n

    more : slices_in cuts' (suc n) ≡ slices_in cuts n ++ (record { left = a.source; right = b.source; width = s } ∷ [])
    unfolding slices_in
    more = ap₂ (λ (c : List Slice) (x : Slice). c ++ (x ∷ [])) (slices_same cuts cuts' n kept) at_n

    widths : slice_widths (slices_in cuts' (suc n)) ≡ slice_widths (slices_in cuts n) ++ (s ∷ [])
    widths = ap slice_widths more ∙ widths_more (slices_in cuts n) (record { left = a.source; right = b.source; width = s })

    ends_left : k + a.left < w
    ends_left = side_ends lows left l L w SL k a h C.at_left

    ends_right : k + b.left < w
    ends_right = side_ends lows right q R w SR k b h C.at_right

    -- a slice that goes up to the next border of either form
    pub borders_more : s ≡ min a.left b.left + 1 → Bordered L R cuts n k → Bordered L R cuts' (suc n) (k + s)
    borders_more es before x m = ap (λ (ws : List ℕ). ends_at ws x) widths ∙ ends_more (slice_widths (slices_in cuts n)) s x (omega arith) ∙ go (lt_or_le k x) (dec_eq x (k + s))
      where
        ws : List ℕ
        ws = slice_widths (slices_in cuts n)

        dull : (c : Bool) → c || false ≡ c
        dull true = refl
        dull false = refl

        full : (c : Bool) → c || true ≡ true
        full true = refl
        full false = refl

        go : (k < x) ⊎ (x ≤ k) → (x ≡ k + s) ⊎ (x ≢ k + s) → ends_at (slice_widths (slices_in cuts n)) x || eqb x (total (slice_widths (slices_in cuts n)) + s) ≡ ends_at L x || ends_at R x
        go (inr u) v = rw (ne_eqb x (total ws + s) (omega (arith, C.whole))) (dull (ends_at ws x) ∙ before x u)
        go (inl u) (inr v) =
            rw (ne_eqb x (total ws + s) (omega (arith, C.whole)), ends_past ws x (omega (arith, C.whole)), none_within lows left l L w SL k a h C.at_left x u (omega arith), none_within lows right q R w SR k b h C.at_right x u (omega arith))
        go (inl u) (inl v) = rw (eq-eqb x (total ws + s) (omega (arith, C.whole))) (full (ends_at ws x) ∙ sym (either (lt_or_le a.left b.left)))
          where
            either : (a.left < b.left) ⊎ (b.left ≤ a.left) → ends_at L x || ends_at R x ≡ true
            either (inl y) =
                let e : x ≡ k + a.left + 1 = omega arith in
                rw (e, one_at lows left l L w SL k a h C.at_left) refl
            either (inr y) =
                let e : x ≡ k + b.left + 1 = omega arith in
                rw (e, one_at lows right q R w SR k b h C.at_right) (full (ends_at L (k + b.left + 1)))

    left_along : (j : ℕ) → j < s → along a.source j ≡ get_or l (k + j) 0
    left_along j m = reads_along lows left l L w SL k a h C.at_left (C.sort_left h) j (omega arith)

    right_along : (j : ℕ) → j < s → along b.source j ≡ get_or q (k + j) 0
    right_along j m = reads_along lows right q R w SR k b h C.at_right (C.sort_right h) j (omega arith)

    new_spells : spelled_pairs (slices_in cuts' (suc n)) ≡ pairs_from l q 0 (k + s)
    new_spells =
        let z : 0 + k ≡ k = omega arith in
        ap spelled_pairs more ∙ spelled_more (slices_in cuts n) (record { left = a.source; right = b.source; width = s })
        ∙ ap₂ (λ (x y : List Pair). x ++ y) C.spells (pairs_along l q a.source b.source k s left_along right_along)
        ∙ ap (λ (i : ℕ). pairs_from l q 0 k ++ pairs_from l q i s) (sym z) ∙ sym (pairs_append l q 0 k s)

    new_left : (i : ℕ) → i < suc n → (j : ℕ) → j < (slice_at cuts' i).width → (m : ℕ) × (m < w) × (along (slice_at cuts' i).left j ≡ get_or l m 0)
    new_left i o j p = go (dec_eq i n)
      where
        go : (i ≡ n) ⊎ (i ≢ n) → (m : ℕ) × (m < w) × (along (slice_at cuts' i).left j ≡ get_or l m 0)
        go (inl e) =
            let t : j < s = rw (e, at_n) at p in
            rw (e, at_n) (k + j, omega (arith, ends_left), left_along j t)
        go (inr e) =
            let t : j < (slice_at cuts i).width = rw (kept i (omega arith)) at p in
            rw (kept i (omega arith)) (C.left_in i (omega arith) j t)

    new_right : (i : ℕ) → i < suc n → (j : ℕ) → j < (slice_at cuts' i).width → (m : ℕ) × (m < w) × (along (slice_at cuts' i).right j ≡ get_or q m 0)
    new_right i o j p = go (dec_eq i n)
      where
        go : (i ≡ n) ⊎ (i ≢ n) → (m : ℕ) × (m < w) × (along (slice_at cuts' i).right j ≡ get_or q m 0)
        go (inl e) =
            let t : j < s = rw (e, at_n) at p in
            rw (e, at_n) (k + j, omega (arith, ends_right), right_along j t)
        go (inr e) =
            let t : j < (slice_at cuts i).width = rw (kept i (omega arith)) at p in
            rw (kept i (omega arith)) (C.right_in i (omega arith) j t)

    pub cutting_more : Cutting l q lows left right w cuts' (suc n) (k + s) (passed_in lows left a s) (passed_in lows right b s)
    cutting_more =
        record {
          at_left = reader_passes lows left l L w SL k a h C.at_left (C.sort_left h) s (omega arith);
          at_right = reader_passes lows right q R w SR k b h C.at_right (C.sort_right h) s (omega arith);
          sort_left = λ m. sort_passes lows left l L w SL k a h C.at_left (C.sort_left h) s (omega arith) m;
          sort_right = λ m. sort_passes lows right q R w SR k b h C.at_right (C.sort_right h) s (omega arith) m;
          most = omega (arith, ends_left, ends_right);
          few = omega (arith, C.few);
          whole = ap total widths ∙ total_more (slice_widths (slices_in cuts n)) s ∙ ap (λ (x : ℕ). x + s) C.whole;
          some_each = subst Some (sym widths) (some_more (slice_widths (slices_in cuts n)) s C.some_each (omega arith));
          spells = new_spells;
          left_in = new_left;
          right_in = new_right;
        }

-- ---- by the numbers of the code, where the sides of an equation stand
module _ (table widths variables lows left right : List ℕ) (r width : ℕ) (E : SidesStand table widths variables lows left right r width) where
  abbrev l : List ℕ
  l = left_side (rows_of table) (row_at (rows_of table) r)

  abbrev q : List ℕ
  q = right_side (rows_of table) (row_at (rows_of table) r)

  abbrev L : List ℕ
  L = left_widths (rows_of table) (row_at (rows_of table) r)

  abbrev R : List ℕ
  R = right_widths (rows_of table) (row_at (rows_of table) r)

  SL : SideForm lows left (left_side (rows_of table) (row_at (rows_of table) r)) (left_widths (rows_of table) (row_at (rows_of table) r)) width
  SL = left_form table widths variables lows left right r width E

  SR : SideForm lows right (right_side (rows_of table) (row_at (rows_of table) r)) (right_widths (rows_of table) (row_at (rows_of table) r)) width
  SR = right_form table widths variables lows left right r width E

  pub equation_first : (cuts : List ℕ) (a b : Reader) → a ≡ first_in lows left 0 → b ≡ first_in lows right 0 → Stands lows left 0 a → Stands lows right 0 b
      → Cutting (left_side (rows_of table) (row_at (rows_of table) r)) (right_side (rows_of table) (row_at (rows_of table) r)) lows left right width cuts 0 0 a b
  equation_first cuts a b ea eb sa sb =
      cutting_first l q L R lows left right width SL SR cuts a b sa sb
      (λ h. subst Sort (sym ea) (SL.sorts 0 (omega (arith, piece_in lows left l L width SL 0 a h sa))))
      (λ h. subst Sort (sym eb) (SR.sorts 0 (omega (arith, piece_in lows right q R width SR 0 b h sb))))

  pub equation_borders_first : (cuts : List ℕ) → Bordered (left_widths (rows_of table) (row_at (rows_of table) r)) (right_widths (rows_of table) (row_at (rows_of table) r)) cuts 0 0
  equation_borders_first = borders_first l q L R lows left right width SL SR

  module _ (cuts₀ cuts : List ℕ) (n k : ℕ) (a b : Reader) (C : Cutting (left_side (rows_of table) (row_at (rows_of table) r)) (right_side (rows_of table) (row_at (rows_of table) r)) lows left right width cuts n k a b)
      (room : 3072 ≤ length cuts₀) (same : length cuts ≡ length cuts₀) (bits lo s : ℕ) (eb : bits ≡ min width 1024) (h : k < bits) (es : s ≡ (lo + 1) % 65536)
      (cuts' : List ℕ) (put : PutsSlice n a.source b.source s cuts cuts') (m v : ℕ) (em : m ≡ max s 1) (ev : v ≡ m) where
    there : k < width
    there = omega arith

    near : k + a.left < width
    near = side_ends lows left l L width SL k a there C.at_left

    fits : n * 3 + 3 ≤ length cuts
    fits = omega (arith, C.few, SL.few)

    at_n : slice_at cuts' n ≡ record { left = a.source; right = b.source; width = s }
    at_n = slice_put cuts cuts' n a.source b.source s put fits

    kept : (j : ℕ) → j < n → slice_at cuts' j ≡ slice_at cuts j
    kept = slice_kept cuts cuts' n a.source b.source s put fits

    -- a slice that goes past no border of either form
    pub equation_more : lo ≤ min a.left b.left → (a' b' : Reader) → a' ≡ passed_in lows left a s → b' ≡ passed_in lows right b s
        → Cutting (left_side (rows_of table) (row_at (rows_of table) r)) (right_side (rows_of table) (row_at (rows_of table) r)) lows left right width cuts' (n + 1) (k + v) a' b'
    equation_more low a' b' ea' eb' =
        let e : s ≡ lo + 1 = omega (arith, near, SL.few) in
        let x : k + s ≡ k + v = omega arith in
        let y : suc n ≡ n + 1 = omega arith in
        rw (ea', eb', ← x, ← y) (cutting_more l q L R lows left right width SL SR cuts n k a b C there s (omega arith) (omega arith) cuts' at_n kept)

    -- one that goes up to the next border
    pub equation_borders : lo ≡ min a.left b.left → Bordered (left_widths (rows_of table) (row_at (rows_of table) r)) (right_widths (rows_of table) (row_at (rows_of table) r)) cuts n k
        → Bordered (left_widths (rows_of table) (row_at (rows_of table) r)) (right_widths (rows_of table) (row_at (rows_of table) r)) cuts' (n + 1) (k + v)
    equation_borders el before =
        let e : s ≡ min a.left b.left + 1 = omega (arith, near, SL.few) in
        let x : k + s ≡ k + v = omega arith in
        let y : suc n ≡ n + 1 = omega arith in
        rw (← x, ← y) (borders_more l q L R lows left right width SL SR cuts n k a b C there s (omega arith) (omega arith) cuts' at_n kept e before)

  pub equation_cut : (cuts : List ℕ) (n k : ℕ) (a b : Reader)
      → Cutting (left_side (rows_of table) (row_at (rows_of table) r)) (right_side (rows_of table) (row_at (rows_of table) r)) lows left right width cuts n k a b
      → Bordered (left_widths (rows_of table) (row_at (rows_of table) r)) (right_widths (rows_of table) (row_at (rows_of table) r)) cuts n k
      → (bits : ℕ) → bits ≡ min width 1024 → bits ≤ k → SidesCut (rows_of table) r cuts n
  equation_cut cuts n k a b C borders bits eb h =
      record {
        cut = record {
          borders = λ x. go x (lt_or_le k x);
          some = C.some_each;
          spells = C.spells ∙ ap (pairs_from l q 0) e ∙ B.pairs;
        };
        few = omega (arith, C.few, SL.few);
        left_small = λ i m j o. let (x, d, z) = C.left_in i m j o in omega (arith, z, B.left_small x d);
        right_small = λ i m j o. let (x, d, z) = C.right_in i m j o in omega (arith, z, B.right_small x d);
      }
    where
      B : SidesRead (rows_of table) r lows left right width
      B = both_read table widths variables lows left right r width E

      e : k ≡ width
      e = omega (arith, C.most, SL.few)

      go : (x : ℕ) → (k < x) ⊎ (x ≤ k)
          → ends_at (slice_widths (slices_in cuts n)) x ≡ ends_at (left_widths (rows_of table) (row_at (rows_of table) r)) x || ends_at (right_widths (rows_of table) (row_at (rows_of table) r)) x
      go x (inr m) = borders x m
      go x (inl m) =
          rw (ends_past (slice_widths (slices_in cuts n)) x (omega (arith, C.whole)), ends_past L x (omega (arith, SL.whole, e)), ends_past R x (omega (arith, SR.whole, e)))
