-- A table that does not break 43 has no equation with a line number, and the other way round. Assumes nothing.
use mathlib.Core.Path.{◌≡◌, refl}
use mathlib.Core.Bool.{Bool, false, and-false}
use mathlib.Core.List.{List, [], ◌∷◌}
use mathlib.Core.Logic.{⊎_elim}
use Prim.Native.Nat.{ℕ, zero, suc, ◌<◌}
use native.Mathlib.Omega.{arith}
use lib.Dec.{eqb, ltb}
use lib.ListN.{length}
use borrow.Author.Tests.{eq-eqb, ne_eqb, le-ltb, ltb-false}
use Rattle.laws.proofs.Bools.{or_first, or_second}
use Rattle.laws.proofs.Numbers.{dec_eq}
use Rattle.terms.specs.declared.Row.{Row}
use Rattle.terms.specs.Table.{row_at, some_row}
use Rattle.terms.specs.Counting.{NoLines}
use Rattle.jobs.specs.Call.{has_line, breaks43}

row_none : (f : Row → Bool) (t : List Row) → ((r : ℕ) → r < length t → f (row_at t r) ≡ false) → some_row f t ≡ false
unfolding some_row
row_none f [] h = refl
row_none f (x ∷ t) h = rw (h 0 (omega arith)) (row_none f t (λ r l. h (suc r) (omega arith)))

pub lines_none : (t : List Row) → NoLines t → breaks43 t ≡ false
unfolding breaks43 has_line
lines_none t none =
    row_none has_line t
    (λ r l. ⊎_elim
    (λ e. let z = none (row_at t r).c r (record { in_table = l; is_equation = e; line_is = refl }) in rw (le-ltb 0 (row_at t r).c (omega arith)) (and-false (eqb (row_at t r).kind 4)))
    (λ n. rw (ne_eqb (row_at t r).kind 4 n))
    (dec_eq (row_at t r).kind 4))

none_row : (f : Row → Bool) (t : List Row) → some_row f t ≡ false → (r : ℕ) → r < length t → f (row_at t r) ≡ false
unfolding some_row
none_row f [] h r l = absurd (omega arith)
none_row f (x ∷ t) h zero l = or_first (f x) (some_row f t) h
none_row f (x ∷ t) h (suc r) l = none_row f t (or_second (f x) (some_row f t) h) r (omega arith)

pub no_lines : (t : List Row) → breaks43 t ≡ false → NoLines t
unfolding breaks43 has_line
no_lines t h n r it =
    let e : (row_at t r).kind ≡ 4 = it.is_equation in
    let b : ltb 0 (row_at t r).c ≡ false = rw (eq-eqb (row_at t r).kind 4 e) at (none_row has_line t h r it.in_table) in
    omega (arith, ltb-false 0 (row_at t r).c b, it.line_is)
