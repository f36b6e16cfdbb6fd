-- The bits of words: how many they are, each of them, and that they are an assignment. Assumes nothing.
use mathlib.Core.Path.{◌≡◌, refl, sym, ◌∙◌, ap}
use mathlib.Core.List.{List, [], ◌∷◌, ◌++◌}
use Prim.Native.Nat.{ℕ, zero, suc, ◌+◌, ◌-◌, ◌*◌, ◌/◌, ◌%◌, ◌^◌, ◌<◌}
use native.Mathlib.Omega.{arith}
use native.Mathlib.Nat.{zero-div}
use lib.ListN.{length, get_or, length-append, get_or-append}
use lib.Seq.{get_or-append-add}
use Rattle.laws.specs.Binary.{binary}
use Rattle.laws.proofs.Binary.{binary-length, binary_at}
use Rattle.terms.specs.Assignments.{Assignment}
use Rattle.terms.proofs.Assignments.{assignment_of}
use Rattle.windows.specs.Words.{words_bits}

pub words-length : (window : List ℕ) → length (words_bits window) ≡ 16 * length window
unfolding words_bits binary
words-length [] = refl
words-length (w ∷ ws) = simp length-append (omega (arith, words-length ws))

-- Place 16 v + q is bit 15 - q of word v; past the last word it is 0.
pub words-at : (window : List ℕ) (v q : ℕ) → q < 16 → get_or (words_bits window) (16 * v + q) 0 ≡ get_or window v 0 / 2 ^ (15 - q) % 2
unfolding words_bits
words-at [] v q h = sym (ap (λ (n : ℕ). n % 2) (zero-div (2 ^ (15 - q))))
words-at (w ∷ ws) zero q h =
    let e : 16 * 0 + q ≡ q = omega arith in
    ap (λ (i : ℕ). get_or (binary 16 w ++ words_bits ws) i 0) e
    ∙ get_or-append (binary 16 w) (words_bits ws) 0 q (omega (arith, binary-length 16 w)) ∙ binary_at 16 w q h
words-at (w ∷ ws) (suc v) q h =
    let e : 16 * suc v + q ≡ length (binary 16 w) + (16 * v + q) = omega (arith, binary-length 16 w) in
    ap (λ (i : ℕ). get_or (binary 16 w ++ words_bits ws) i 0) e ∙ get_or-append-add (binary 16 w) (words_bits ws) (16 * v + q) 0 ∙ words-at ws v q h

pub words_assignment : (window : List ℕ) → Assignment (16 * length window) (words_bits window)
words_assignment window =
    assignment_of (16 * length window) (words_bits window) (words-length window)
    (λ i l. let e : i ≡ 16 * (i / 16) + i % 16 = omega arith in
    rw e (omega (arith, words-at window (i / 16) (i % 16) (omega arith))))
