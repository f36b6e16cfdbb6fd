-- Tables that have the same sources, and rows that differ at most in what a cut cuts, have the same bit pairs.
use mathlib.Core.Path.{◌≡◌, sym, ◌∙◌}
use mathlib.Core.List.{List, []}
use native.Mathlib.Omega.{arith}
use Rattle.terms.specs.declared.Row.{Row}
use Rattle.terms.specs.Table.{sources_of}
use Rattle.terms.proofs.RowKinds.{of_term}
use Rattle.terms.proofs.Alike.{AlikeRow, alike_use}
use Rattle.answers.specs.Pairs.{pairs_of}
use Rattle.answers.proofs.Revised.{same_pairs}

pairs_one : (t : List Row) (x y : Row) → x.kind ≡ 3 → y.kind ≡ 3 → pairs_of t x ≡ pairs_of t y
unfolding pairs_of
pairs_one t x y e f =
    of_term x _ [] (λ z. absurd (omega arith)) ∙ sym (of_term y _ [] (λ z. absurd (omega arith)))

-- bit pairs ask for the sources alone, and a cut has none
pub alike_pairs : (u t : List Row) (s r : Row) → AlikeRow 3 s r → sources_of u ≡ sources_of t → pairs_of u s ≡ pairs_of t r
alike_pairs u t s r a e = same_pairs u t s e ∙ alike_use 3 (pairs_of t) s r a (λ x i y j. pairs_one t x y i j)
