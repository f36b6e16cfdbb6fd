-- Solved systems in general, place by place: the cells of the sides, and their laws.
use mathlib.Core.Path.{◌≡◌, refl}
use mathlib.Core.Bool.{Bool, true, false, cond}
use mathlib.Core.List.{List, [], ◌∷◌, ◌++◌, append_assoc}
use Prim.Native.Nat.{ℕ, zero, suc, ◌+◌, ◌≤◌, ◌<◌}
use native.Mathlib.Omega.{arith}
use lib.Dec.{eqb}
use lib.ListN.{get_or}
use borrow.Author.Tests.{eq-eqb, ne_eqb}
use Rattle.laws.specs.Lists.{member}
use Rattle.answers.specs.Systems.{Part, fill as fillPart, fresh as freshPart, FineSide, FineSides, labels_of, all_labels}
use Rattle.answers.proofs.Slots.{Slot, fill, part}
use Rattle.laws.proofs.Bools.{or_right}
use Rattle.laws.proofs.Tallies.{member_left, member_right}

-- A place of a system: whether a variable begins there, and what stands there.
pub data Cell : Type 0 where
  cell : Bool → Slot → Cell

abbrev pub mark_of : Cell → Bool
mark_of (cell m s) = m

abbrev pub slot_of : Cell → Slot
slot_of (cell m s) = s

-- The cell at a place; past the end a variable would begin.
unfoldable pub at : List Cell → ℕ → Cell
at xs i = get_or xs i (cell true (fill 0))

-- The cells of a part: the first one marked m, the others not.
unfoldable pub fill_cells : Bool → ℕ → ℕ → List Cell
fill_cells m b zero = []
fill_cells m b (suc w) = cell m (fill b) ∷ fill_cells false b w

unfoldable pub fresh_cells : Bool → ℕ → ℕ → ℕ → List Cell
fresh_cells m f o zero = []
fresh_cells m f o (suc w) = cell m (part f o) ∷ fresh_cells false f (suc o) w

abbrev pub part_cells : Bool → Part → List Cell
part_cells m (fillPart b w) = fill_cells m b w
part_cells m (freshPart f w) = fresh_cells m f 0 w

-- The cells of one side, and of all sides.
unfoldable pub side_cells : Bool → List Part → List Cell
side_cells m [] = []
side_cells m (x ∷ side) = part_cells m x ++ side_cells false side

unfoldable pub cells : List (List Part) → List Cell
cells [] = []
cells (side ∷ sides) = side_cells true side ++ cells sides

-- What a list of cells has to begin with: nothing special, or a place within a fresh piece.
pub data Due : Type 0 where
  none : Due
  place : ℕ → ℕ → Due

-- Cells whose fresh pieces are whole and have labels of a list.
module _ (labels : List ℕ) (wide : ℕ → ℕ) where
  unfoldable pub next : ℕ → ℕ → Due
  next f o = cond (eqb (suc o) (wide f)) none (place f (suc o))

  pub data Run : Due → List Cell → Type 0 where
    end : Run none []
    lone : {m : Bool} {b : ℕ} {xs : List Cell} → b ≤ 1 → Run none xs → Run none (cell m (fill b) ∷ xs)
    begin : {m : Bool} {f : ℕ} {xs : List Cell} → member f labels ≡ true → 0 < wide f → Run (next f 0) xs → Run none (cell m (part f 0) ∷ xs)
    continue : {f o : ℕ} {xs : List Cell} → member f labels ≡ true → o < wide f → Run (next f o) xs → Run (place f o) (cell false (part f o) ∷ xs)

  pub run_inside : {s : Due} {xs : List Cell} → Run s xs → (i f o : ℕ) → slot_of (at xs i) ≡ part f o → (member f labels ≡ true) × (o < wide f)
  unfolding at
  run_inside end i f o e = let z : ◌≡◌ {A = ℕ} 0 1 = cc in absurd (omega arith)
  run_inside (lone h r) zero f o e = let z : ◌≡◌ {A = ℕ} 0 1 = cc in absurd (omega arith)
  run_inside (lone h r) (suc i) f o e = run_inside r i f o e
  run_inside (begin {f = g} h k r) zero f o e = let a : g ≡ f = cc in let b : 0 ≡ o = cc in ((rw (← a) h), (rw (← a, ← b) k))
  run_inside (begin h k r) (suc i) f o e = run_inside r i f o e
  run_inside (continue {f = g} {o = u} h k r) zero f o e = let a : g ≡ f = cc in let b : u ≡ o = cc in ((rw (← a) h), (rw (← a, ← b) k))
  run_inside (continue h k r) (suc i) f o e = run_inside r i f o e

  pub run_bits : {s : Due} {xs : List Cell} → Run s xs → (i b : ℕ) → slot_of (at xs i) ≡ fill b → b ≤ 1
  unfolding at
  run_bits end i b e = let a : 0 ≡ b = cc in omega arith
  run_bits (lone {b = u} h r) zero b e = let a : u ≡ b = cc in omega arith
  run_bits (lone h r) (suc i) b e = run_bits r i b e
  run_bits (begin h k r) zero b e = let z : ◌≡◌ {A = ℕ} 0 1 = cc in absurd (omega arith)
  run_bits (begin h k r) (suc i) b e = run_bits r i b e
  run_bits (continue h k r) zero b e = let z : ◌≡◌ {A = ℕ} 0 1 = cc in absurd (omega arith)
  run_bits (continue h k r) (suc i) b e = run_bits r i b e

  -- the first cell tells what was due
  pub run_first : {s : Due} {xs : List Cell} → Run s xs → (f o : ℕ) → slot_of (at xs 0) ≡ part f (suc o) → (s ≡ place f (suc o)) × (mark_of (at xs 0) ≡ false)
  unfolding at
  run_first end f o e = let z : ◌≡◌ {A = ℕ} 0 1 = cc in absurd (omega arith)
  run_first (lone h r) f o e = let z : ◌≡◌ {A = ℕ} 0 1 = cc in absurd (omega arith)
  run_first (begin h k r) f o e = let a : 0 ≡ suc o = cc in absurd (omega arith)
  run_first (continue {f = g} {o = u} h k r) f o e = ((cc), refl)

  -- what is due tells the first cell
  run_due : {s : Due} {xs : List Cell} → Run s xs → (f o : ℕ) → s ≡ place f o → (slot_of (at xs 0) ≡ part f o) × (mark_of (at xs 0) ≡ false)
  unfolding at
  run_due end f o e = let z : ◌≡◌ {A = ℕ} 0 1 = cc in absurd (omega arith)
  run_due (lone h r) f o e = let z : ◌≡◌ {A = ℕ} 0 1 = cc in absurd (omega arith)
  run_due (begin h k r) f o e = let z : ◌≡◌ {A = ℕ} 0 1 = cc in absurd (omega arith)
  run_due (continue h k r) f o e = ((cc), refl)

  next_back : (g u f o : ℕ) → next g u ≡ place f (suc o) → part g u ≡ part f o
  unfolding next
  next_back g u f o e = go (eqb (suc u) (wide g)) e
    where
      go : (t : Bool) → cond t none (place g (suc u)) ≡ place f (suc o) → part g u ≡ part f o
      go true k = cc
      go false k = let a : suc u ≡ suc o = cc in let b : g ≡ f = cc in let d : u ≡ o = omega arith in cc

  next_on : (f o : ℕ) → suc o < wide f → next f o ≡ place f (suc o)
  unfolding next
  next_on f o h = rw (ne_eqb (suc o) (wide f) (omega arith))

  pub run_before : {s : Due} {xs : List Cell} → Run s xs → (i f o : ℕ) → slot_of (at xs (suc i)) ≡ part f (suc o)
      → (mark_of (at xs (suc i)) ≡ false) × (slot_of (at xs i) ≡ part f o)
  unfolding at
  run_before end i f o e = let z : ◌≡◌ {A = ℕ} 0 1 = cc in absurd (omega arith)
  run_before (lone h r) zero f o e = let w = run_first r f o e in let z : ◌≡◌ {A = ℕ} 0 1 = cc in absurd (omega arith)
  run_before (lone h r) (suc i) f o e = run_before r i f o e
  run_before (begin {f = g} h k r) zero f o e = let w = run_first r f o e in (w.1, next_back g 0 f o w.0)
  run_before (begin h k r) (suc i) f o e = run_before r i f o e
  run_before (continue {f = g} {o = u} h k r) zero f o e = let w = run_first r f o e in (w.1, next_back g u f o w.0)
  run_before (continue h k r) (suc i) f o e = run_before r i f o e

  pub run_after : {s : Due} {xs : List Cell} → Run s xs → (i f o : ℕ) → slot_of (at xs i) ≡ part f o → suc o < wide f
      → (mark_of (at xs (suc i)) ≡ false) × (slot_of (at xs (suc i)) ≡ part f (suc o))
  unfolding at
  run_after end i f o e l = let z : ◌≡◌ {A = ℕ} 0 1 = cc in absurd (omega arith)
  run_after (lone h r) zero f o e l = let z : ◌≡◌ {A = ℕ} 0 1 = cc in absurd (omega arith)
  run_after (lone h r) (suc i) f o e l = run_after r i f o e l
  run_after (begin {f = g} h k r) zero f o e l =
      let q : next g 0 ≡ place f (suc o) = (cc (next_on f o l)) in
      let w = run_due r f (suc o) q in (w.1, w.0)
  run_after (begin h k r) (suc i) f o e l = run_after r i f o e l
  run_after (continue {f = g} {o = u} h k r) zero f o e l =
      let q : next g u ≡ place f (suc o) = (cc (next_on f o l)) in
      let w = run_due r f (suc o) q in (w.1, w.0)
  run_after (continue h k r) (suc i) f o e l = run_after r i f o e l

  -- the cells of fine parts are such a list
  run-fill : (m : Bool) (b w : ℕ) {ys : List Cell} → b ≤ 1 → Run none ys → Run none (fill_cells m b w ++ ys)
  unfolding fill_cells
  run-fill m b zero h r = r
  run-fill m b (suc w) h r = lone h (run-fill false b w h r)

  run_rest : (w f o : ℕ) {ys : List Cell} → member f labels ≡ true → suc o + w ≡ wide f → Run none ys → Run (next f o) (fresh_cells false f (suc o) w ++ ys)
  unfolding fresh_cells next
  run_rest zero f o h e r = rw (eq-eqb (suc o) (wide f) (omega arith)) r
  run_rest (suc w) f o {ys} h e r =
      rw (ne_eqb (suc o) (wide f) (omega arith)) (continue {o = suc o} h (omega arith) (run_rest w f (suc o) h (omega arith) r))

  run_fresh : (m : Bool) (f w : ℕ) {ys : List Cell} → member f labels ≡ true → 1 ≤ w → w ≡ wide f → Run none ys → Run none (fresh_cells m f 0 w ++ ys)
  unfolding fresh_cells
  run_fresh m f zero h l e r = r
  run_fresh m f (suc w) h l e r = begin h (omega arith) (run_rest w f 0 h (omega arith) r)

  run_side : (m : Bool) (side : List Part) {ys : List Cell} → FineSide wide side → ((f : ℕ) → member f (labels_of side) ≡ true → member f labels ≡ true)
      → Run none ys → Run none (side_cells m side ++ ys)
  unfolding side_cells labels_of member
  run_side m [] h k r = r
  run_side m (fillPart b w ∷ side) h k r = rw append_assoc (run-fill m b w h.0.0 (run_side false side h.1 k r))
  run_side m (freshPart f w ∷ side) h k r =
      rw append_assoc (run_fresh m f w (k f (rw (eq-eqb f f refl))) h.0.0 h.0.1 (run_side false side h.1 (λ g q. k g (or_right (eqb g f) (member g (labels_of side)) q)) r))

  pub run_sides : (sides : List (List Part)) → FineSides wide sides → ((f : ℕ) → member f (all_labels sides) ≡ true → member f labels ≡ true) → Run none (cells sides)
  unfolding cells all_labels
  run_sides [] h k = end
  run_sides (side ∷ sides) h k =
      run_side true side h.0 (λ f q. k f (member_left f (labels_of side) (all_labels sides) q))
      (run_sides sides h.1 (λ f q. k f (member_right f (labels_of side) (all_labels sides) q)))
