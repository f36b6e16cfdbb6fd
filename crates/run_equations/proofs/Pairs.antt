-- Pairs taken slice by slice, and equation by equation: what crate taking says of an equation's pairs holds of them in runs.
use mathlib.Core.Path.{◌≡◌, refl, sym, ap, ap₂, ◌∙◌}
use mathlib.Core.Bool.{Bool, true, false, cond}
use mathlib.Core.List.{List, [], ◌∷◌, ◌++◌, map}
use Prim.Native.Nat.{ℕ, zero, suc, ◌+◌, ◌-◌, ◌*◌, ◌≤◌, ◌<◌, min}
use native.Mathlib.Omega.{arith}
use lib.Dec.{eqb}
use lib.ListN.{length, get_or}
use borrow.Author.Tests.{eqb-true}
use Rattle.laws.specs.Lists.{least}
use Rattle.laws.proofs.Least.{least_within}
use Rattle.laws.proofs.Bools.{not_both}
use Rattle.terms.specs.declared.Row.{Row}
use Rattle.terms.specs.Table.{rows_of, row_at, bits_of, next_equation}
use Rattle.answers.specs.Pairs.{Pair, pairs_of}
use Rattle.answers.specs.inner.Classes.{rep, merge, run, links}
use Rattle.classes.specs.inner.Links.{roots_of}
use Rattle.classes.proofs.Links.{Canon}
use Rattle.classes.proofs.Roots.{stands_roots, roots-length}
use Rattle.sides.specs.inner.Sides.{pairs_from, Prepared, SidesWritten}
use Rattle.taking.specs.inner.Equations.{Holding}
use Rattle.taking.proofs.Taking.{Taking}
use Rattle.slices.specs.Along.{along, run_pairs}
use Rattle.slices.specs.Cut.{spelled_pairs}
use Rattle.slices.proofs.Cuts.{spelled_more}
use Rattle.slicer.specs.inner.Cutting.{slice_at, slices_in, SidesStand, SidesCut, CutsSides}
use Rattle.slicer.proofs.SideForms.{both_read}
use Rattle.run_pairs.specs.inner.Taken.{State}
use Rattle.run_pairs.proofs.Together.{run_both, links_both, canon_run, clash_stays}
use Rattle.run_slices.specs.inner.Slices.{SliceTaken, TakesSlice}
use Rattle.run_equations.specs.inner.Equations.{PairsTaken, TakesSlices}

-- ---- slice by slice
spelled_on : (cuts : List ℕ) (i : ℕ) → spelled_pairs (slices_in cuts (suc i)) ≡ spelled_pairs (slices_in cuts i) ++ run_pairs (slice_at cuts i).left (slice_at cuts i).right (slice_at cuts i).width
unfolding slices_in
spelled_on cuts i = spelled_more (slices_in cuts i) (slice_at cuts i)

-- a slice as its three numbers are read
pub slice_left : (cuts : List ℕ) (i at x : ℕ) → at ≡ i * 3 → x ≡ get_or cuts at 0 → x ≡ (slice_at cuts i).left
unfolding slice_at
slice_left cuts i at x e f = f ∙ ap (λ (k : ℕ). get_or cuts k 0) e

pub slice_right : (cuts : List ℕ) (i at x : ℕ) → at ≡ i * 3 → x ≡ get_or cuts (at + 1) 0 → x ≡ (slice_at cuts i).right
unfolding slice_at
slice_right cuts i at x e f = f ∙ ap (λ (k : ℕ). get_or cuts (k + 1) 0) e

pub slice_width : (cuts : List ℕ) (i at x : ℕ) → at ≡ i * 3 → x ≡ get_or cuts (at + 2) 0 → x ≡ (slice_at cuts i).width
unfolding slice_at
slice_width cuts i at x e f = f ∙ ap (λ (k : ℕ). get_or cuts (k + 2) 0) e

-- i slices were taken
pub record SlicesOn (shut : ℕ → Bool) (cuts : List ℕ) (i : ℕ) (h₀ h last first : List ℕ) (ties : ℕ) : Type 0 where
  pub state : State shut h last first
  pub roots : roots_of h ≡ run (roots_of h₀) (spelled_pairs (slices_in cuts i))
  pub counted : ties ≡ links (roots_of h₀) (spelled_pairs (slices_in cuts i))

pub slices_first : (shut : ℕ → Bool) (cuts h last first : List ℕ) → State shut h last first → SlicesOn shut cuts 0 h h last first 0
unfolding slices_in spelled_pairs run links
slices_first shut cuts h last first S = record { state = S; roots = refl; counted = refl }

module _ (shut : ℕ → Bool) (cuts h₀ last₀ first₀ : List ℕ) (S₀ : State shut h₀ last₀ first₀) (n : ℕ)
    (lefts : (i : ℕ) → i < n → (j : ℕ) → j < (slice_at cuts i).width → along (slice_at cuts i).left j < length h₀)
    (rights : (i : ℕ) → i < n → (j : ℕ) → j < (slice_at cuts i).width → along (slice_at cuts i).right j < length h₀)
    (i : ℕ) (l : i < n) (h last first : List ℕ) (ties : ℕ) (O : SlicesOn shut cuts i h₀ h last first ties) (same : length h ≡ length h₀)
    (x y w : ℕ) (ex : x ≡ (slice_at cuts i).left) (ey : y ≡ (slice_at cuts i).right) (ew : w ≡ (slice_at cuts i).width)
    (h' last' first' : List ℕ) (conflict : Bool) (got : ℕ) (T : TakesSlice x y w h last first h' last' first' conflict got) where
  abbrev qs : List Pair
  qs = run_pairs (slice_at cuts i).left (slice_at cuts i).right (slice_at cuts i).width

  taken : SliceTaken shut (slice_at cuts i).left (slice_at cuts i).right (slice_at cuts i).width h last first h' last' first' conflict got
  taken =
      rw (← ex, ← ey, ← ew)
      (T shut O.state (λ k m. omega (arith, same, rw (← ex) at (lefts i l k (omega arith)))) (λ k m. omega (arith, same, rw (← ey) at (rights i l k (omega arith)))))

  pub slices_more : conflict ≡ false → SlicesOn shut cuts (i + 1) h₀ h' last' first' (ties + got)
  slices_more e =
      let z : i + 1 ≡ suc i = omega arith in
      let c : List ℕ = roots_of h₀ in
      let ps : List Pair = spelled_pairs (slices_in cuts i) in
      rw z
      (record {
        state = taken.state e;
        roots = taken.next e ∙ ap (λ (v : List ℕ). run v qs) O.roots ∙ sym (run_both c ps qs) ∙ ap (run c) (sym (spelled_on cuts i));
        counted =
            ap₂ ◌+◌ O.counted (taken.counted e ∙ ap (λ (v : List ℕ). links v qs) O.roots) ∙ sym (links_both c ps qs) ∙ ap (links c) (sym (spelled_on cuts i));
      })

  canon₀ : Canon (roots_of h₀)
  canon₀ = (stands_roots h₀ S₀.low).canon

  clash_on : (d : ℕ) → rep (run (roots_of h₀) (spelled_pairs (slices_in cuts (suc i)))) 1 ≡ 0 → rep (run (roots_of h₀) (spelled_pairs (slices_in cuts (suc i + d)))) 1 ≡ 0
  clash_on zero e = let z : suc i + 0 ≡ suc i = omega arith in rw z e
  clash_on (suc d) e =
      let z : suc i + suc d ≡ suc (suc i + d) = omega arith in
      let c : List ℕ = run (roots_of h₀) (spelled_pairs (slices_in cuts (suc i + d))) in
      rw (z, spelled_on cuts (suc i + d), run_both (roots_of h₀) (spelled_pairs (slices_in cuts (suc i + d))) (run_pairs (slice_at cuts (suc i + d)).left (slice_at cuts (suc i + d)).right (slice_at cuts (suc i + d)).width))
      (clash_stays c (canon_run (roots_of h₀) canon₀ (spelled_pairs (slices_in cuts (suc i + d)))) (run_pairs (slice_at cuts (suc i + d)).left (slice_at cuts (suc i + d)).right (slice_at cuts (suc i + d)).width) (clash_on d e))

  pub slices_clash : conflict ≡ true → (t : ℕ) → PairsTaken shut (spelled_pairs (slices_in cuts n)) h₀ h' last' first' true t
  slices_clash e t =
      let z : suc i + (n - suc i) ≡ n = omega arith in
      let here : rep (run (roots_of h₀) (spelled_pairs (slices_in cuts (suc i)))) 1 ≡ 0 =
      ap (λ (v : List Pair). rep (run (roots_of h₀) v) 1) (spelled_on cuts i) ∙ ap (λ (v : List ℕ). rep v 1) (run_both (roots_of h₀) (spelled_pairs (slices_in cuts i)) qs ∙ ap (λ (v : List ℕ). run v qs) (sym O.roots)) ∙ taken.clash e in
      record {
        state = λ f. absurd (not_both refl f);
        next = λ f. absurd (not_both refl f);
        counted = λ f. absurd (not_both refl f);
        clash = λ f. ap (λ (k : ℕ). rep (run (roots_of h₀) (spelled_pairs (slices_in cuts k))) 1) (sym z) ∙ clash_on (n - suc i) here;
      }

pub slices_done : (shut : ℕ → Bool) (cuts h₀ h last first : List ℕ) (n i count ties : ℕ) → SlicesOn shut cuts i h₀ h last first ties → count ≡ min n 1024 → n ≤ 1024 → i ≤ count → count ≤ i
    → PairsTaken shut (spelled_pairs (slices_in cuts n)) h₀ h last first false ties
slices_done shut cuts h₀ h last first n i count ties O ec few a b =
    let e : i ≡ n = omega arith in
    record {
      state = λ f. O.state;
      next = λ f. O.roots ∙ ap (λ (k : ℕ). run (roots_of h₀) (spelled_pairs (slices_in cuts k))) e;
      counted = λ f. O.counted ∙ ap (λ (k : ℕ). links (roots_of h₀) (spelled_pairs (slices_in cuts k))) e;
      clash = λ f. absurd (not_both f refl);
    }

-- ---- an equation
links_most : (c : List ℕ) (qs : List Pair) → links c qs ≤ length qs
unfolding links
links_most c [] = omega arith
links_most c (q ∷ qs) = go (eqb (rep c q.left) (rep c q.right)) (links_most (merge c q) qs)
  where
    go : (b : Bool) → links (merge c q) qs ≤ length qs → cond {A = ℕ} b 0 1 + links (merge c q) qs ≤ suc (length qs)
    go true m = omega arith
    go false m = omega arith

-- pairs that a cut spells are those of the equation, and as many ties at the most
pub equation_taken : (shut : ℕ → Bool) (ps qs : List Pair) (h h' last' first' : List ℕ) (conflict : Bool) (s t : ℕ) → PairsTaken shut ps h h' last' first' conflict s → ps ≡ qs → length qs ≤ 1024
    → t ≡ min s 1024 → PairsTaken shut qs h h' last' first' conflict t
equation_taken shut ps qs h h' last' first' conflict s t P e few et = record {
  state = P.state;
  next = λ f. P.next f ∙ ap (run (roots_of h)) e;
  counted = λ f. let k : s ≡ links (roots_of h) qs = P.counted f ∙ ap (links (roots_of h)) e in omega (arith, k, links_most (roots_of h) qs);
  clash = λ f. ap (λ (v : List Pair). rep (run (roots_of h) v) 1) (sym e) ∙ P.clash f;
}

-- its sides written, cut, and the slices taken
pub equation_all : (table widths variables lows left₀ left right₀ right cuts₀ cuts : List ℕ) (r w n : ℕ) → Prepared table widths variables lows → r < length (rows_of table)
    → (row_at (rows_of table) r).kind ≡ 4 → 4096 ≤ length left₀ → 4096 ≤ length right₀ → SidesWritten (rows_of table) r left₀ left right₀ right w → CutsSides lows left right w cuts₀ cuts n
    → 3072 ≤ length cuts₀ → (shut : ℕ → Bool) (h last first h' last' first' : List ℕ) (conflict : Bool) (s t : ℕ) → State shut h last first → length h ≡ suc (suc (bits_of (rows_of table)))
    → TakesSlices cuts n h last first h' last' first' conflict s → t ≡ min s 1024 → PairsTaken shut (pairs_of (rows_of table) (row_at (rows_of table) r)) h h' last' first' conflict t
equation_all table widths variables lows left₀ left right₀ right cuts₀ cuts r w n P inside eq roomₗ roomᵣ written cut roomᵪ shut h last first h' last' first' conflict s t S len takes et =
    let E : SidesStand table widths variables lows left right r w = record { prepared = P; inside = inside; equation = eq; left₀ = left₀; right₀ = right₀; left_room = roomₗ; right_room = roomᵣ; written = written } in
    let C : SidesCut (rows_of table) r cuts n = cut table widths variables r E roomᵪ in
    let few = (both_read table widths variables lows left right r w E).few in
    equation_taken shut (spelled_pairs (slices_in cuts n)) (pairs_of (rows_of table) (row_at (rows_of table) r)) h h' last' first' conflict s t
    (takes shut S C.few (λ i l j m. omega (arith, C.left_small i l j m)) (λ i l j m. omega (arith, C.right_small i l j m))) C.cut.spells (omega (arith, written.count)) et

-- a list of pairs, as two lists of sources
pairs_later : (x y : ℕ) (l r : List ℕ) (k w : ℕ) → pairs_from (x ∷ l) (y ∷ r) (suc k) w ≡ pairs_from l r k w
unfolding pairs_from
pairs_later x y l r k zero = refl
pairs_later x y l r k (suc w) = ap (λ (ps : List Pair). record { left = get_or l k 0; right = get_or r k 0 } ∷ ps) (pairs_later x y l r (suc k) w)

pub pairs_again : (ps : List Pair) → pairs_from (map (λ (p : Pair). p.left) ps) (map (λ (p : Pair). p.right) ps) 0 (length ps) ≡ ps
unfolding pairs_from
pairs_again [] = refl
pairs_again (p ∷ ps) =
    ap (λ (qs : List Pair). p ∷ qs) (pairs_later p.left p.right (map (λ (q : Pair). q.left) ps) (map (λ (q : Pair). q.right) ps) 0 (length ps) ∙ pairs_again ps)

-- pairs taken in runs are pairs taken
pub runs_taking : (t : List Row) (shut : ℕ → Bool) (ps : List Pair) (h h' last' first' : List ℕ) (ties : ℕ) (conflict : Bool) → Holding t h → length h' ≡ length h → PairsTaken shut ps h h' last' first' conflict ties → conflict ≡ false
    → Taking (map (λ (p : Pair). p.left) ps) (map (λ (p : Pair). p.right) ps) (roots_of h) h' (length ps) ties
runs_taking t shut ps h h' last' first' ties conflict H same P f =
    let e = pairs_again ps in
    let r : roots_of h' ≡ run (roots_of h) ps = P.next f in
    record {
      canon = (stands_roots h H.low).canon;
      low = (P.state f).low;
      roots = r ∙ ap (run (roots_of h)) (sym e);
      one = ap (λ (v : List Pair). rep (run (roots_of h) v) 1) e ∙ ap (λ (v : List ℕ). rep v 1) (sym r) ∙ (P.state f).one;
      counted = P.counted f ∙ ap (links (roots_of h)) (sym e);
      len = same ∙ sym (roots-length h H.low);
    }

-- ---- the row that a search ends at is an equation
least-below : (f : ℕ → Bool) (k d : ℕ) → least f k d < k + d → f (least f k d) ≡ true
unfolding least
least-below f k zero l = absurd (omega arith)
least-below f k (suc d) l = go (f k) refl l (λ (m : least f (suc k) d < suc k + d). least-below f (suc k) d m)
  where
    go : (b : Bool) → f k ≡ b → cond b k (least f (suc k) d) < k + suc d → (least f (suc k) d < suc k + d → f (least f (suc k) d) ≡ true) → f (cond b k (least f (suc k) d)) ≡ true
    go true e m later = e
    go false e m later = later (omega arith)

pub next_is : (t : List Row) (from rows n : ℕ) → n ≡ next_equation t from rows → n < rows → (row_at t n).kind ≡ 4
unfolding next_equation
next_is t from rows n e l =
    let f : ℕ → Bool = λ r. eqb (row_at t r).kind 4 in
    let low : from ≤ least f from (rows - from) = (least_within f from (rows - from)).0 in
    eqb-true (row_at t n).kind 4 (ap f e ∙ least-below f from (rows - from) (omega (arith, e, low)))
