-- `read_lines` meets its contract: the invariant is `Reading`, of proofs/Reading.antt. Assumes nothing.
use Rattle.reader.proofs.Reading.{reading_first, reading_ends, reading_over, reading_wrong, reading_more}
use Rattle.std.specs.Prelude.{Ok}
use borrow.Author.Tests.{leb-true, leb-false}
use mathlib.Core.Path.{◌≡◌, sym, ◌∙◌, ap}
use Prim.Native.Nat.{ℕ}
use native.Mathlib.Omega.{arith}
use Rattle.cursor.specs.inner.Found.{line_found}
use Rattle.reader.proofs.read_lines.Goals as goal

pub loop-k-init : goal.loop-k-init
loop-k-init c = reading_first _ _ _ _

pub returns-then-ended : goal.returns-then-ended
returns-then-ended c =
    let whole = reading_ends _ _ _ _ _ _ _ c.loop-k.invariant (leb-true _ _ (sym c.ended.ensures ∙ c.if-ended.true)) in
    record { found = whole.0; rows = whole.1 }

pub returns-in_default : goal.returns-in_default
returns-in_default c =
    let whole = reading_wrong _ _ _ _ _ _ _ c.loop-k.invariant (omega (arith, c.loop-k-test.true)) (leb-false _ _ (sym c.ended.ensures ∙ c.if-ended.false))
    (sym c.line.ensures ∙ ap line_found c.in_default.is) in
    record { found = whole.0; rows = whole.1 }

pub loop-k-preserved : goal.loop-k-preserved
loop-k-preserved c =
    reading_more _ _ _ _ _ _ _ c.loop-k.invariant (omega (arith, c.loop-k-test.true)) (leb-false _ _ (sym c.ended.ensures ∙ c.if-ended.false)) _ _ _
    (sym c.line.ensures ∙ ap line_found c.in-Some.is) c.put_row.ensures

pub returns-then-ended-2 : goal.returns-then-ended-2
returns-then-ended-2 c =
    let all : 512 ≡ c.loop-k.k = omega (arith, c.loop-k.invariant.few, c.loop-k-test.false) in
    let whole = reading_ends _ _ _ _ _ _ _ c.loop-k.invariant (leb-true _ _ (sym c.ended-2.ensures ∙ c.if-ended-2.true)) in
    record { found = ap (λ (n : ℕ). Ok n) all ∙ whole.0; rows = whole.1 }

pub returns-else-ended-2 : goal.returns-else-ended-2
returns-else-ended-2 c =
    let whole = reading_over _ _ _ _ _ _ _ c.loop-k.invariant (omega (arith, c.loop-k-test.false)) (leb-false _ _ (sym c.ended-2.ensures ∙ c.if-ended-2.false)) in
    record { found = whole.0; rows = whole.1 }
