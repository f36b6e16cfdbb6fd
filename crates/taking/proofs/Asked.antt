-- What the promises of `take_equations` ask for.
use mathlib.Core.Path.{◌≡◌}
use mathlib.Core.List.{List}
use Prim.Native.Nat.{ℕ, ◌≤◌, min}
use native.Mathlib.Omega.{arith}
use lib.ListN.{length}
use Rattle.terms.specs.Table.{rows_of}
use Rattle.terms.specs.inner.Placed.{Numbered}
use Rattle.terms.proofs.AcceptedTable.{accepted_table}
use Rattle.sides.specs.inner.Sides.{Prepared}
use Rattle.taking.specs.inner.Equations.{Holding}

pub record Given (table widths variables lows : List ℕ) (from to : ℕ) (left right links : List ℕ) : Type 0 where
  pub prepared : Prepared table widths variables lows
  pub left_room : 4096 ≤ length left
  pub right_room : 4096 ≤ length right
  pub forth : from ≤ to
  pub within : to ≤ length (rows_of table)
  pub held : Holding (rows_of table) links

pub record Room (table widths variables : List ℕ) (from to : ℕ) (left right : List ℕ) : Type 0 where
  pub numbered : Numbered table widths variables
  pub left_room : 4096 ≤ length left
  pub right_room : 4096 ≤ length right
  pub forth : from ≤ to
  pub within : to ≤ length (rows_of table)

-- all rows below `to` are searched
pub all-rows : (table : List ℕ) (to rows : ℕ) {widths variables : List ℕ} → Numbered table widths variables → to ≤ length (rows_of table) → rows ≡ min to 512 → rows ≡ to
all-rows table to rows p w e = omega (arith, (accepted_table table p.accepted).few)
