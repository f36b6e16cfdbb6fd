-- What the promises of `take_equations` ask for.
use mathlib.Core.Path.{◌≡◌}
use mathlib.Core.Bool.{Bool}
use mathlib.Core.List.{List}
use Prim.Native.Nat.{ℕ, ◌≤◌, min}
use native.Mathlib.Omega.{arith}
use lib.ListN.{length}
use Rattle.terms.specs.Table.{rows_of}
use Rattle.terms.proofs.AcceptedTable.{accepted_table}
use Rattle.sides.specs.inner.Sides.{Prepared}
use Rattle.taking.specs.inner.Equations.{Holding}
use Rattle.run_pairs.specs.inner.Taken.{State}

pub record Given (shut : ℕ → Bool) (table widths variables lows : List ℕ) (to : ℕ) (left right cuts links last first : List ℕ) : Type 0 where
  pub cut-room : 3072 ≤ length cuts
  pub state : State shut links last first
  pub prepared : Prepared table widths variables lows
  pub left_room : 4096 ≤ length left
  pub right_room : 4096 ≤ length right
  pub within : to ≤ length (rows_of table)
  pub held : Holding (rows_of table) links

-- all rows below `to` are searched
pub all-rows : (table : List ℕ) (to rows : ℕ) {widths variables lows : List ℕ} → Prepared table widths variables lows → to ≤ length (rows_of table) → rows ≡ min to 512 → rows ≡ to
all-rows table to rows p w e = omega (arith, (accepted_table table p.numbered.accepted).few)
