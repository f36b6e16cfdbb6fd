-- `open_area` meets its contract. Assumes nothing.
use mathlib.Core.Path.{◌≡◌, sym, ◌∙◌, ap, ap₂}
use Prim.Native.Nat.{ℕ}
use native.Mathlib.Omega.{arith}
use lib.ListN.{length, drop, replicate, length-replicate}
use lib.Seq.{length-take-le}
use mathlib.Core.List.{List, ◌++◌}
use Rattle.laws.specs.Lists.{count_up}
use Rattle.laws.proofs.Buffers.{overwrite-fits}
use Rattle.laws.proofs.CountUp.{count-up}
use Rattle.stepper.proofs.open_area.Goals as goal

pub returns : goal.returns
returns c =
    λ few fits.
    let clear = c.fill in
    let bits = c.args.bits in
    let n : c.min-n.result ≡ bits = omega (arith, c.min-n.ensures, clear.auto.self, fits) in
    let long = length-take-le c.min-n.result clear.new.self (omega (arith, n, clear.auto.self, fits)) in
    let first : c.unlink.new.links ≡ count_up 0 bits = c.unlink.ensures (omega (arith, long, n, few)) ∙ ap (count_up 0) (long ∙ n) in
    ap₂ (λ (x y : List ℕ). x ++ y) first (ap₂ drop (n ∙ sym (count-up 0 bits)) (clear.ensures.after (λ y e. e)))
    ∙ sym (overwrite-fits (count_up 0 bits) (replicate (length c.args.work.now) 0) (omega (arith, fits, count-up 0 bits, length-replicate {A = ℕ} (length c.args.work.now) 0)))
