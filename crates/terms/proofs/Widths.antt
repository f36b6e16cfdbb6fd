-- Widths and totals, row by row.
use mathlib.Core.Path.{◌≡◌, refl, ◌∙◌, ap}
use mathlib.Core.Bool.{cond}
use mathlib.Core.List.{List, [], ◌∷◌, ◌++◌}
use Prim.Native.Nat.{ℕ, suc, ◌+◌, ◌<◌, ◌≤◌}
use native.Mathlib.Omega.{arith}
use lib.Dec.{eqb}
use lib.ListN.{length, get_or, take}
use lib.Seq.{take-suc}
use Rattle.terms.specs.declared.Row.{Row}
use Rattle.terms.specs.Table.{row_at, no_row, width_in, widths_of, width_of, bits_in, bits_of, count_kind}
use Rattle.terms.proofs.RowKinds.{kind_same}
use Rattle.terms.proofs.ByRows.{rows_count, rows_early, rows_more, rows_at}

pub widths_count : (t : List Row) → length (widths_of t) ≡ length t
unfolding widths_of
widths_count t = rows_count (λ before ws r. width_in ws r) t

-- a row's width, from those of the rows before it
pub width_row : (t : List Row) (r : ℕ) → r < length t → width_of t r ≡ width_in (widths_of (take r t)) (row_at t r)
unfolding widths_of
width_row t r h = rows_at (λ before ws r. width_in ws r) t r 0 h

pub width_early : (t : List Row) (r i : ℕ) → r ≤ length t → i < r → get_or (widths_of (take r t)) i 0 ≡ width_of t i
unfolding widths_of
width_early t r i h l = rows_early (λ before ws r. width_in ws r) t r 0 i h l

pub widths_more : (t : List Row) (r : ℕ) → r < length t
    → widths_of (take (suc r) t) ≡ widths_of (take r t) ++ (width_in (widths_of (take r t)) (row_at t r) ∷ [])
unfolding widths_of
widths_more t r h = rows_more (λ before ws r. width_in ws r) t r h

-- only a concatenation asks for the widths before it
pub width_same : (ws vs : List ℕ) (row : Row)
    → (row.kind ≡ 2 → get_or ws row.a 0 + get_or ws row.b 0 ≡ get_or vs row.a 0 + get_or vs row.b 0)
    → width_in ws row ≡ width_in vs row
unfolding width_in
width_same ws vs row h = kind_same row.kind (λ e. refl) (λ e. refl) h (λ e. refl) (λ e. refl)

pub bits_snoc : (t : List Row) (r : Row) → bits_of (t ++ (r ∷ [])) ≡ bits_of t + bits_in r
unfolding bits_of
bits_snoc [] r = omega arith
bits_snoc (x ∷ t) r = omega (arith, bits_snoc t r)

pub bits_more : (t : List Row) (r : ℕ) → r < length t → bits_of (take (suc r) t) ≡ bits_of (take r t) + bits_in (row_at t r)
bits_more t r h = ap bits_of (take-suc t r no_row h) ∙ bits_snoc (take r t) (row_at t r)

count_snoc : (k : ℕ) (t : List Row) (r : Row) → count_kind k (t ++ (r ∷ [])) ≡ count_kind k t + cond (eqb r.kind k) 1 0
unfolding count_kind
count_snoc k [] r = omega arith
count_snoc k (x ∷ t) r = omega (arith, count_snoc k t r)

pub count_more : (k : ℕ) (t : List Row) (r : ℕ) → r < length t
    → count_kind k (take (suc r) t) ≡ count_kind k (take r t) + cond (eqb (row_at t r).kind k) 1 0
count_more k t r h = ap (count_kind k) (take-suc t r no_row h) ∙ count_snoc k (take r t) (row_at t r)
