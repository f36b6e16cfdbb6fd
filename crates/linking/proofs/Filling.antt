-- Loops that write every number of a buffer.
use mathlib.Core.Path.{◌≡◌, sym, ap, ◌∙◌}
use mathlib.Core.List.{List, [], ◌∷◌, ◌++◌}
use Prim.Native.Nat.{ℕ, ◌+◌}
use native.Mathlib.Omega.{arith}
use native.Mathlib.Numerals.{add-one}
use lib.ListN.{length, set}
use Rattle.laws.specs.Lists.{count_up}
use Rattle.laws.specs.Buffers.{overwrite}
use Rattle.laws.proofs.Buffers.{overwrite_more, overwrite_whole}
use Rattle.laws.proofs.CountUp.{count-up, count_more}

pub unlink_more : (links₀ links : List ℕ) (i x : ℕ) → links ≡ overwrite (count_up 0 i) links₀ → x ≡ i → set links i x ≡ overwrite (count_up 0 (i + 1)) links₀
unlink_more links₀ links i x e q =
    let z : x ≡ 0 + i = q ∙ omega arith in
    ap (λ (w : List ℕ). set w i x) e ∙ overwrite_more (count_up 0 i) links₀ x i (count-up 0 i)
    ∙ ap (λ (l : List ℕ). overwrite l links₀) (ap (λ (v : ℕ). count_up 0 i ++ (v ∷ [])) z ∙ count_more 0 i ∙ ap (count_up 0) (sym (add-one i)))

pub unlink_all : (links₀ links : List ℕ) (i : ℕ) → links ≡ overwrite (count_up 0 i) links₀ → i ≡ length links₀ → links ≡ count_up 0 (length links₀)
unlink_all links₀ links i e l = e ∙ overwrite_whole (count_up 0 i) links₀ (count-up 0 i ∙ l) ∙ ap (count_up 0) l
