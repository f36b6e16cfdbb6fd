-- A byte that is seen stands within the text.
use mathlib.Core.Path.{◌≡◌}
use mathlib.Core.Bool.{true, ◌&&◌}
use mathlib.Core.List.{List}
use Prim.Native.Nat.{ℕ, ◌+◌, ◌<◌}
use lib.Dec.{ltb, eqb}
use lib.ListN.{length, get_or}
use borrow.Author.Tests.{ltb-true, eqb-true}
use Rattle.laws.proofs.Bools.{and_first, and_second}
use Rattle.sheets.specs.Text.{sees, sees_kind}

pub seen_within : (text : List ℕ) (at byte : ℕ) → sees text at byte ≡ true → at < length text
unfolding sees
seen_within text at byte h = ltb-true at (length text) (and_first (ltb at (length text)) (eqb (get_or text at 0) byte) h)

pub seen_byte : (text : List ℕ) (at byte : ℕ) → sees text at byte ≡ true → get_or text at 0 ≡ byte
unfolding sees
seen_byte text at byte h = eqb-true (get_or text at 0) byte (and_second (ltb at (length text)) (eqb (get_or text at 0) byte) h)

-- the four bytes of "kind" stand within the text
pub kind_within : (text : List ℕ) (at : ℕ) → sees_kind text at ≡ true → at + 3 < length text
unfolding sees_kind
kind_within text at h =
    let s₀ = sees text at 107 in
    let s₁ = sees text (at + 1) 105 in
    let s₂ = sees text (at + 2) 110 in
    let s₃ = sees text (at + 3) 100 in
    seen_within text (at + 3) 100 (and_second s₂ s₃ (and_second s₁ (s₂ && s₃) (and_second s₀ (s₁ && (s₂ && s₃)) h)))
