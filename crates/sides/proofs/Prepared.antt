-- What is placed for a table is prepared for taking its equations: the low sources of its variables stand behind 513 numbers.
use mathlib.Core.Path.{◌≡◌, ◌∙◌, ap}
use mathlib.Core.List.{List}
use Prim.Native.Nat.{ℕ, suc, ◌+◌, ◌-◌, ◌<◌, ◌≤◌, min}
use native.Mathlib.Omega.{arith}
use lib.ListN.{length, get_or, take, drop}
use lib.Seq.{get_or-take, get_or-drop}
use Rattle.terms.specs.inner.Placed.{Placed}
use Rattle.terms.proofs.AcceptedTable.{table_totals}
use Rattle.sides.specs.inner.Sides.{Prepared}

-- behind 513 numbers stand the low sources
lows_part : (places : List ℕ) (l v : ℕ) → l ≡ min 513 (length places) → 578 ≤ length places → v < 64
    → get_or (take (length places - l) (drop l places)) v 0 ≡ get_or places (512 + suc v) 0
lows_part places l v e room h =
    let n : l + v ≡ 512 + suc v = omega arith in
    get_or-take (length places - l) (drop l places) v 0 (omega arith) ∙ get_or-drop l places v 0 ∙ ap (λ (k : ℕ). get_or places k 0) n

pub prepared_of : (table widths places : List ℕ) (l : ℕ) → Placed table widths places → l ≡ min 513 (length places)
    → Prepared table widths places (take (length places - l) (drop l places))
prepared_of table widths places l P e =
    record {
      numbered = P.numbered;
      lows_are = λ v h. lows_part places l v e P.places_room (omega (arith, (table_totals table P.numbered.accepted).0)) ∙ P.sources_are (suc v) h;
    }
