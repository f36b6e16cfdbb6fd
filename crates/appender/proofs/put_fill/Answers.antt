-- `put_fill` meets its contract: copies of a bit are one piece. Assumes nothing.
use Prim.Native.Nat.{ℕ, ◌-◌}
use mathlib.Core.Path.{ap₂}
use Rattle.appender.proofs.Appending.{appended_fill}
use Rattle.appender.proofs.put_fill.Goals as goal

pub returns : goal.returns
returns c t bit =
    let a = c.args in
    let d = c.default.ensures in
    appended_fill t a.bit a.count bit c.if-count-eq0.false _
    (ap₂ (λ (v l : ℕ). record { kind = a.bit; variable = v; high = a.count - 1; low = l }) d.1.0 d.1.1.1)
    _ _ _ _ c.push.ensures.count c.push.ensures.numbers
