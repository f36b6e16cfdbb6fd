-- `bad_value` meets its contract: rule 40. 1 shifted by a width of at most 16 is 2 to the width. Assumes nothing.
use mathlib.Core.Path.{◌≡◌, ◌∙◌, ap}
use Prim.Native.Nat.{ℕ, ◌*◌, ◌%◌, ◌^◌, ◌≤◌}
use native.Mathlib.Omega.{arith}
use native.Mathlib.Nat.{one-mul}
use mathlib.Core.Bool.{not}
use mathlib.Core.Logic.{⊎_elim}
use lib.Dec.{lit<, ltb, leb}
use Rattle.laws.proofs.Numbers.{lt_or_le}
use lib.Pow.{shl_exact}
use borrow.Author.Tests.{lt-ltb, le-ltb, le-leb, lt-leb, eq-eqb, ne_eqb}
use Rattle.terms.specs.Faults.{wrong_value}
use Rattle.rules.proofs.bad_value.Goals as goal

power : (w b : ℕ) → w ≡ b → w ≤ 16 → (1 * 2 ^ w) % 2 ^ 64 ≡ 2 ^ b
power w b e h = shl_exact {a = 1} 1 w 64 (lit< tt) (omega arith) ∙ one-mul (2 ^ w) ∙ ap (λ (k : ℕ). 2 ^ k) e

turned : (b a : ℕ) → leb b a ≡ not (ltb a b)
turned b a = ⊎_elim (λ l. rw (lt-leb b a l, lt-ltb a b l)) (λ l. rw (le-leb b a l, le-ltb a b l)) (lt_or_le a b)

pub returns-then-width-gt-MAX_VALUE_WIDTH : goal.returns-then-width-gt-MAX_VALUE_WIDTH
unfolding wrong_value
returns-then-width-gt-MAX_VALUE_WIDTH c = rw (eq-eqb _ _ c.if-row-eq-VALUE.true, c.from-width.ensures, lt-ltb 16 c.args.row.b (omega (arith, c.from-width.ensures, c.if-width-gt-MAX_VALUE_WIDTH.true)))

pub returns-else-width-gt-MAX_VALUE_WIDTH : goal.returns-else-width-gt-MAX_VALUE_WIDTH
unfolding wrong_value
returns-else-width-gt-MAX_VALUE_WIDTH c =
    let row = c.args.row in
    let limit = power _ _ c.from-width.ensures c.if-width-gt-MAX_VALUE_WIDTH.false in
    rw (eq-eqb _ _ c.if-row-eq-VALUE.true, le-ltb 16 row.b (omega (arith, c.from-width.ensures, c.if-width-gt-MAX_VALUE_WIDTH.false)), limit, c.from.ensures) (turned (2 ^ row.b) row.a)

pub returns-else-row-eq-VALUE : goal.returns-else-row-eq-VALUE
unfolding wrong_value
returns-else-row-eq-VALUE c = rw (ne_eqb _ _ c.if-row-eq-VALUE.false)
