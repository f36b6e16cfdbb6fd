-- Every solved system for a table's pairs, with any cuts and labels, has as many fresh pieces as the rule of the cuts gives, or more.
use mathlib.Core.Path.{◌≡◌, refl, sym, ap, ◌∙◌}
use mathlib.Core.Bool.{Bool, true, false, cond}
use mathlib.Core.List.{List, [], ◌∷◌, ◌++◌, map, map-append}
use Prim.Native.Nat.{ℕ, zero, suc, ◌+◌, ◌-◌, ◌≤◌, ◌<◌}
use native.Mathlib.Omega.{arith}
use native.Mathlib.Nat.{zero-add, suc-add, sub-zero}
use lib.Dec.{eqb, ltb}
use lib.ListN.{length, get_or, replicate, length-append, length-map, get_or-map, get_or-eq_default}
use borrow.Author.Tests.{ne_eqb, ltb-true, ltb-false}
use Rattle.answers.specs.Pairs.{Pair, satisfies_pairs}
use Rattle.answers.specs.inner.Classes.{rep, Represents}
use Rattle.answers.specs.Answer.{begins}
use Rattle.answers.specs.Systems.{Part, fill as fillPart, fresh as freshPart, part_width, side_width, FinePart, FineSide, FineSides, SolvedSystem, all_labels, fresh_count, piece_bits, part_bits, side_bits, system_bits, Gives}
use Rattle.laws.proofs.Lists.{tab, tab_at}
use Rattle.answers.proofs.Slots.{fill, value, System, fresh}
use Rattle.answers.proofs.Minimal.{minimal}
use Rattle.answers.proofs.Cells.{Cell, cell, mark_of, slot_of, at, fill_cells, fresh_cells, part_cells, side_cells, cells, none, Run, run_inside, run_bits, run_first, run_before, run_after, run_sides}

-- The sum of the widths.
unfoldable pub width_sum : List ℕ → ℕ
width_sum [] = 0
width_sum (w ∷ ws) = w + width_sum ws

-- The marks of one variable, and of all of them.
unfoldable marks : Bool → ℕ → List Bool
marks m zero = []
marks m (suc w) = m ∷ marks false w

unfoldable all_marks : List ℕ → List Bool
all_marks [] = []
all_marks (w ∷ ws) = marks true w ++ all_marks ws

marks_on : (v w : ℕ) → marks false v ++ marks false w ≡ marks false (v + w)
unfolding marks
marks_on zero w = rw zero-add
marks_on (suc v) w = rw (suc-add, ← marks_on v w)

marks-add : (m : Bool) (v w : ℕ) → 1 ≤ v → marks m v ++ marks false w ≡ marks m (v + w)
unfolding marks
marks-add m zero w h = absurd (omega arith)
marks-add m (suc v) w h = rw (suc-add, ← marks_on v w)

marks-length : (m : Bool) (w : ℕ) → length (marks m w) ≡ w
unfolding marks
marks-length m zero = refl
marks-length m (suc w) = ap suc (marks-length false w)

all-marks-length : (ws : List ℕ) → length (all_marks ws) ≡ width_sum ws
unfolding all_marks width_sum
all-marks-length [] = refl
all-marks-length (w ∷ ws) = rw (length-append, marks-length, all-marks-length ws)

-- a list of marks and more, read within the marks and past them
marks_within : (w i : ℕ) (rest : List Bool) → i < w → get_or (marks false w ++ rest) i true ≡ false
unfolding marks
marks_within zero i rest l = absurd (omega arith)
marks_within (suc w) zero rest l = refl
marks_within (suc w) (suc i) rest l = marks_within w i rest (omega arith)

marks_first : (w i : ℕ) (rest : List Bool) → i < w → get_or (marks true w ++ rest) i true ≡ eqb i 0
unfolding marks
marks_first zero i rest l = absurd (omega arith)
marks_first (suc w) zero rest l = refl
marks_first (suc w) (suc i) rest l = rw (ne_eqb (suc i) 0 (omega arith)) (marks_within w i rest (omega arith))

marks_past : (m : Bool) (w i : ℕ) (rest : List Bool) → w ≤ i → get_or (marks m w ++ rest) i true ≡ get_or rest (i - w) true
unfolding marks
marks_past m zero i rest l = rw (sub-zero i)
marks_past m (suc w) zero rest l = absurd (omega arith)
marks_past m (suc w) (suc i) rest l =
    let e : i - w ≡ suc i - suc w = omega arith in
    marks_past false w i rest (omega arith) ∙ ap (λ (j : ℕ). get_or rest j true) e

-- variables begin at the marks, and after the last one
begins-marks : (ws : List ℕ) (i : ℕ) → begins ws i ≡ get_or (all_marks ws) i true
unfolding begins all_marks
begins-marks [] i = refl
begins-marks (w ∷ ws) i = go (ltb i w) refl (begins-marks ws (i - w))
  where
    go : (t : Bool) → ltb i w ≡ t → begins ws (i - w) ≡ get_or (all_marks ws) (i - w) true
        → cond t (eqb i 0) (begins ws (i - w)) ≡ get_or (marks true w ++ all_marks ws) i true
    go true e k = sym (marks_first w i (all_marks ws) (ltb-true i w e))
    go false e k = k ∙ sym (marks_past true w i (all_marks ws) (ltb-false i w e))

pub begins_end : (ws : List ℕ) → begins ws (width_sum ws) ≡ true
begins_end ws = begins-marks ws (width_sum ws) ∙ get_or-eq_default (all_marks ws) true (omega (arith, all-marks-length ws))

-- the marks of the cells
fill-marks : (m : Bool) (b w : ℕ) → map mark_of (fill_cells m b w) ≡ marks m w
unfolding fill_cells marks
fill-marks m b zero = refl
fill-marks m b (suc w) = ap (λ (l : List Bool). m ∷ l) (fill-marks false b w)

fresh_marks : (m : Bool) (f o w : ℕ) → map mark_of (fresh_cells m f o w) ≡ marks m w
unfolding fresh_cells marks
fresh_marks m f o zero = refl
fresh_marks m f o (suc w) = ap (λ (l : List Bool). m ∷ l) (fresh_marks false f (suc o) w)

part-marks : (m : Bool) (x : Part) → map mark_of (part_cells m x) ≡ marks m (part_width x)
part-marks m (fillPart b w) = fill-marks m b w
part-marks m (freshPart f w) = fresh_marks m f 0 w

fine_width : (wide : ℕ → ℕ) (x : Part) → FinePart wide x → 1 ≤ part_width x
fine_width wide (fillPart b w) h = h.1
fine_width wide (freshPart f w) h = h.0

side_marks : (wide : ℕ → ℕ) (m : Bool) (side : List Part) → FineSide wide side → map mark_of (side_cells m side) ≡ marks m (side_width side)
unfolding side_cells side_width marks
side_marks wide m [] h = refl
side_marks wide m (x ∷ side) h =
    rw (map-append, part-marks, side_marks wide false side h.1) (marks-add m (part_width x) (side_width side) (fine_width wide x h.0))

cells_marks : (wide : ℕ → ℕ) (sides : List (List Part)) → FineSides wide sides → map mark_of (cells sides) ≡ all_marks (map side_width sides)
unfolding cells all_marks
cells_marks wide [] h = refl
cells_marks wide (side ∷ sides) h = rw (map-append, side_marks wide true side h.0, cells_marks wide sides h.1)

-- the bits of the cells
fill_bits : (φ : ℕ → ℕ → ℕ) (m : Bool) (b w : ℕ) → replicate w b ≡ map (λ x. value φ (slot_of x)) (fill_cells m b w)
unfolding fill_cells
fill_bits φ m b zero = refl
fill_bits φ m b (suc w) = ap (λ (l : List ℕ). b ∷ l) (fill_bits φ false b w)

fresh_bits : (φ : ℕ → ℕ → ℕ) (m : Bool) (f o w : ℕ) → piece_bits (φ f) o w ≡ map (λ x. value φ (slot_of x)) (fresh_cells m f o w)
unfolding piece_bits fresh_cells
fresh_bits φ m f o zero = refl
fresh_bits φ m f o (suc w) = ap (λ (l : List ℕ). φ f o ∷ l) (fresh_bits φ false f (suc o) w)

part-bits : (φ : ℕ → ℕ → ℕ) (m : Bool) (x : Part) → part_bits φ x ≡ map (λ x. value φ (slot_of x)) (part_cells m x)
part-bits φ m (fillPart b w) = fill_bits φ m b w
part-bits φ m (freshPart f w) = fresh_bits φ m f 0 w

side-bits : (φ : ℕ → ℕ → ℕ) (m : Bool) (side : List Part) → side_bits φ side ≡ map (λ x. value φ (slot_of x)) (side_cells m side)
unfolding side_bits side_cells
side-bits φ m [] = refl
side-bits φ m (x ∷ side) = rw (map-append, ← part-bits φ m x, ← side-bits φ false side)

system-bits : (φ : ℕ → ℕ → ℕ) (sides : List (List Part)) → system_bits φ sides ≡ map (λ x. value φ (slot_of x)) (cells sides)
unfolding system_bits cells
system-bits φ [] = refl
system-bits φ (side ∷ sides) = rw (map-append, ← side-bits φ true side, ← system-bits φ sides)

map_tab : (g : Cell → ℕ) (xs : List Cell) → map g xs ≡ tab (length xs) (λ i. g (at xs i))
unfolding tab at
map_tab g [] = refl
map_tab g (x ∷ xs) = ap (λ (l : List ℕ). g x ∷ l) (map_tab g xs)

module _ (n : ℕ) (seen : List Pair) (ws : List ℕ) (sum : width_sum ws ≡ n) (sides : List (List Part)) (solved : SolvedSystem ws sides) (given : Gives n (λ p. satisfies_pairs p seen) sides) where
  marks_of : map mark_of (cells sides) ≡ all_marks ws
  marks_of = cells_marks solved.wide sides solved.parts_fine ∙ ap all_marks solved.widths_are

  mark-at : (i : ℕ) → begins ws i ≡ mark_of (at (cells sides) i)
  unfolding at
  mark-at i = begins-marks ws i ∙ rw (← marks_of) (get_or-map mark_of (cells sides) i (cell true (fill 0)))

  cells_length : length (cells sides) ≡ n
  cells_length = sym (length-map (cells sides) mark_of) ∙ ap length marks_of ∙ all-marks-length ws ∙ sum

  bits-of : (φ : ℕ → ℕ → ℕ) → system_bits φ sides ≡ tab n (λ i. value φ (slot_of (at (cells sides) i)))
  bits-of φ = system-bits φ sides ∙ map_tab (λ x. value φ (slot_of x)) (cells sides) ∙ ap (λ (k : ℕ). tab k (λ i. value φ (slot_of (at (cells sides) i)))) cells_length

  -- the sides, place by place
  general : System n (begins ws) seen
  general =
      let L : List ℕ = all_labels sides in
      let R : Run L solved.wide none (cells sides) = run_sides L solved.wide sides solved.parts_fine (λ f q. q) in
      record {
        labels = all_labels sides;
        wide = solved.wide;
        slot = λ i. slot_of (at (cells sides) i);
        bits = run_bits L solved.wide R;
        inside = λ i f o l s. run_inside L solved.wide R i f o s;
        first = λ f o s. let w = run_first L solved.wide R f o s in let z : ◌≡◌ {A = ℕ} 0 1 = cc in omega arith;
        before = λ i f o l s. let w = run_before L solved.wide R i f o s in (mark-at (suc i) ∙ w.0, w.1);
        after = λ i f o l s q. let w = run_after L solved.wide R i f o s q in (mark-at (suc i) ∙ w.0, w.1);
        gives = λ φ h. rw (← bits-of φ) (given.passes φ h);
        takes =
            λ p a t.
            let k = given.reaches p a t in
            (k.0, λ i l. ap (λ (q : List ℕ). get_or q i 0) (sym k.2 ∙ bits-of k.0) ∙ tab_at n (λ j. value k.0 (slot_of (at (cells sides) j))) i l);
      }

-- No solved system for the same pairs has fewer fresh pieces than there are by the rule of the cuts.
pub minimal_system : (n : ℕ) (c : List ℕ) (seen : List Pair) → Represents n c seen → rep c 1 ≡ 1 → (ws : List ℕ) → width_sum ws ≡ n
    → (sides : List (List Part)) → SolvedSystem ws sides → Gives n (λ p. satisfies_pairs p seen) sides
    → fresh n (begins ws) (λ i. rep c (suc (suc i))) ≤ fresh_count sides
unfolding fresh_count general
minimal_system n c seen inv one ws sum sides solved given =
    minimal n c seen inv one (begins ws) (ap (begins ws) (sym sum) ∙ begins_end ws) (general n seen ws sum sides solved given)
