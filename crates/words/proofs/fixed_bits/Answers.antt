-- `fixed_bits` meets its contract: a bit more of the mask and of the value at each turn. Assumes nothing.
use mathlib.Core.Path.{◌≡◌, ◌∙◌, ap}
use Prim.Native.Nat.{ℕ, suc, ◌+◌, ◌*◌}
use lib.ListN.{get_or}
use lib.Dec.{eqb}
use native.Mathlib.Omega.{arith}
use Rattle.words.proofs.FixedRows.{byte_is, none_yet, bit_more, all-bits}
use Rattle.words.proofs.fixed_bits.Goals as goal

pub loop-q-init : goal.loop-q-init
loop-q-init c = none_yet c.args.links.now c.args.v

pub loop-q-preserved : goal.loop-q-preserved
loop-q-preserved c =
    let a = c.args in
    let two : 16 * a.v + c.loop-q.q + 2 ≡ suc (suc (16 * a.v + c.loop-q.q)) = omega arith in
    bit_more a.links.now a.v c.loop-q.q c.loop-q.mask c.loop-q.value c.load-link.result c.from-zero.result c.from-one.result
    c.loop-q-test.true (c.load-link.ensures ∙ ap (λ (i : ℕ). get_or a.links.now i 0) two) (c.from-zero.ensures ∙ byte_is (eqb c.load-link.result 0)) (c.from-one.ensures ∙ byte_is (eqb c.load-link.result 1)) c.loop-q.invariant

pub returns : goal.returns
returns c =
    let a = c.args in
    all-bits a.links.now a.v c.loop-q.q c.loop-q.mask c.loop-q.value _ _ (omega arith) c.loop-q-test.false c.loop-q.invariant c.narrow.ensures c.narrow-2.ensures
