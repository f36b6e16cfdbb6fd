-- For each row, the variables before it.
use mathlib.Core.Path.{◌≡◌}
use mathlib.Core.List.{List, []}
use Prim.Native.Nat.{ℕ, ◌<◌}
use lib.ListN.{length, get_or, take}
use Rattle.terms.specs.declared.Row.{Row}
use Rattle.terms.specs.Table.{count_kind, by_rows}
use Rattle.terms.proofs.ByRows.{rows_at}

unfoldable pub variables_in : List Row → List ℕ
variables_in t = by_rows (λ before numbers r. count_kind 0 before) [] [] t

pub number_row : (t : List Row) (r : ℕ) → r < length t → get_or (variables_in t) r 0 ≡ count_kind 0 (take r t)
unfolding variables_in
number_row t r h = rows_at (λ before numbers r. count_kind 0 before) t r 0 h
