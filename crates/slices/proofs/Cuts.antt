-- Cuts: one slice more at the end; and an equation has one first cut.
use mathlib.Core.Path.{◌≡◌, refl, sym, ap, ap₂, ◌∙◌}
use mathlib.Core.List.{List, [], ◌∷◌, ◌++◌, append_assoc, append-nil}
use Prim.Native.Nat.{ℕ, zero, suc, ◌+◌, ◌≤◌}
use native.Mathlib.Omega.{arith}
use lib.ListN.{get_or, drop}
use Rattle.terms.specs.declared.Row.{Row}
use Rattle.answers.specs.Pairs.{Pair}
use Rattle.slices.specs.Along.{along, run_pairs}
use Rattle.slices.specs.Borders.{total, Some, none, some}
use Rattle.slices.specs.Cut.{Slice, slice_widths, spelled_pairs, FirstCut}
use Rattle.slices.proofs.Ends.{ends_same}

pub widths_more : (cut : List Slice) (s : Slice) → slice_widths (cut ++ (s ∷ [])) ≡ slice_widths cut ++ (s.width ∷ [])
unfolding slice_widths
widths_more [] s = refl
widths_more (x ∷ cut) s = ap (λ (ws : List ℕ). x.width ∷ ws) (widths_more cut s)

pub spelled_more : (cut : List Slice) (s : Slice) → spelled_pairs (cut ++ (s ∷ [])) ≡ spelled_pairs cut ++ run_pairs s.left s.right s.width
unfolding spelled_pairs
spelled_more [] s = append-nil (run_pairs s.left s.right s.width)
spelled_more (x ∷ cut) s =
    ap (λ (ps : List Pair). run_pairs x.left x.right x.width ++ ps) (spelled_more cut s)
    ∙ sym (append_assoc (run_pairs x.left x.right x.width) (spelled_pairs cut) (run_pairs s.left s.right s.width))

pub total_more : (ws : List ℕ) (w : ℕ) → total (ws ++ (w ∷ [])) ≡ total ws + w
unfolding total
total_more [] w = omega arith
total_more (x ∷ ws) w = omega (arith, total_more ws w)

pub some_more : (ws : List ℕ) (w : ℕ) → Some ws → 1 ≤ w → Some (ws ++ (w ∷ []))
some_more ws w none l = some l none
some_more ws w (some {ws = vs} m k) l = some m (some_more vs w k l)

-- slices of other widths have other borders
pub one-cut : (t : List Row) (r : Row) (cut other : List Slice) → FirstCut t r cut → FirstCut t r other → slice_widths cut ≡ slice_widths other
one-cut t r cut other a b = ends_same (slice_widths cut) (slice_widths other) a.some b.some (λ k. a.borders k ∙ sym (b.borders k))

-- pairs with others behind them: the first one, and those behind
front_same : (a b c d w : ℕ) (x y : List Pair) → 1 ≤ w → run_pairs a b w ++ x ≡ run_pairs c d w ++ y → (a ≡ c) × (b ≡ d)
unfolding run_pairs
front_same a b c d zero x y l e = absurd (omega arith)
front_same a b c d (suc w) x y l e =
    (ap (λ (ps : List Pair). (get_or ps 0 (record { left = 0; right = 0 })).left) e, ap (λ (ps : List Pair). (get_or ps 0 (record { left = 0; right = 0 })).right) e)

rest_same : (a b w : ℕ) (x y : List Pair) → run_pairs a b w ++ x ≡ run_pairs a b w ++ y → x ≡ y
unfolding run_pairs
rest_same a b zero x y e = e
rest_same a b (suc w) x y e = rest_same (along a 1) (along b 1) w x y (ap (drop 1) e)

-- slices are told by their widths and by the pairs that they spell
slices_told : (cut other : List Slice) → Some (slice_widths cut) → slice_widths cut ≡ slice_widths other → spelled_pairs cut ≡ spelled_pairs other → cut ≡ other
unfolding slice_widths spelled_pairs
slices_told [] [] k e f = refl
slices_told [] (o ∷ other) k e f = absurd (let z : ◌≡◌ {A = ℕ} 0 1 = cc in omega arith)
slices_told (s ∷ cut) [] k e f = absurd (let z : ◌≡◌ {A = ℕ} 0 1 = cc in omega arith)
slices_told (s ∷ cut) (o ∷ other) (some l k) e f =
    let ew : s.width ≡ o.width = ap (λ (ws : List ℕ). get_or ws 0 0) e in
    let g : run_pairs s.left s.right s.width ++ spelled_pairs cut ≡ run_pairs o.left o.right s.width ++ spelled_pairs other =
    f ∙ ap (λ (w : ℕ). run_pairs o.left o.right w ++ spelled_pairs other) (sym ew) in
    let p = front_same s.left s.right o.left o.right s.width (spelled_pairs cut) (spelled_pairs other) l g in
    let q : run_pairs s.left s.right s.width ++ spelled_pairs cut ≡ run_pairs s.left s.right s.width ++ spelled_pairs other =
    g ∙ ap₂ (λ (x y : ℕ). run_pairs x y s.width ++ spelled_pairs other) (sym p.0) (sym p.1) in
    let same : s ≡ o = ap₂ (λ (x y : ℕ). record { left = x; right = y; width = s.width }) p.0 p.1 ∙ ap (λ (w : ℕ). record { left = o.left; right = o.right; width = w }) ew in
    ap₂ (λ (x : Slice) (xs : List Slice). x ∷ xs) same
    (slices_told cut other k (ap (drop 1) e) (rest_same s.left s.right s.width (spelled_pairs cut) (spelled_pairs other) q))

-- an equation has one first cut
pub one_first_cut : (t : List Row) (r : Row) (cut other : List Slice) → FirstCut t r cut → FirstCut t r other → cut ≡ other
one_first_cut t r cut other a b = slices_told cut other a.some (one-cut t r cut other a b) (a.spells ∙ sym b.spells)
