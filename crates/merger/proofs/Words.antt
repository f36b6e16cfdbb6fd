-- The words of a pair: the bits in which they differ, counted word by word, and the words laid side by side. Assumes nothing.
use mathlib.Core.Path.{◌≡◌, refl, sym, ◌∙◌, ap, ap₂}
use mathlib.Core.Bool.{Bool, cond}
use mathlib.Core.List.{List, [], ◌++◌, append-nil}
use Prim.Native.Nat.{ℕ, suc, ◌+◌, ◌<◌, ◌≤◌}
use native.Mathlib.Omega.{arith}
use native.Mathlib.Numerals.{add-one}
use lib.Bits.{bit_xor, xor_lt}
use lib.Count.{ones, ones-le}
use lib.Dec.{eqb}
use lib.ListN.{length, get_or, take, drop, set, drop_of_length-le, length-drop, length-append}
use lib.Seq.{drop-cons, paste, paste-zero, paste-suc, length-paste, length-take-le, set-append_left, take-set-lt, drop-set-lt, take-length, take-append_seam, drop-append-add}
use Rattle.words.specs.inner.Plan.{meets_plan}
use Rattle.recordings.specs.Recordings.{differing_words}
use Rattle.recordings.proofs.Differing.{ones_are}
use Rattle.merger.specs.declared.Pass.{Pass}
use Rattle.merger.specs.inner.Passing.{pair_taken}

-- a word more; its bits are few
module _ (xs ys : List ℕ) (i : ℕ) where
  pub words_more : i < length xs → i < length ys → get_or xs i 0 < 65536 → get_or ys i 0 < 65536 → (bits d : ℕ) → d ≡ ones (bit_xor (get_or xs i 0) (get_or ys i 0))
      → bits + differing_words (drop i xs) (drop i ys) ≡ (bits + d) + differing_words (drop (i + 1) xs) (drop (i + 1) ys)
  unfolding differing_words
  words_more l k a b bits d e =
      rw (drop-cons xs i 0 l, drop-cons ys i 0 k, add-one i)
      (omega (arith, e, ones_are 16 (get_or xs i 0) (get_or ys i 0) a b))

  pub words_end : length xs ≤ i → differing_words (drop i xs) (drop i ys) ≡ 0
  unfolding differing_words
  words_end l = rw (drop_of_length-le xs {i = i} l) refl

pub few_ones : (a b : ℕ) → a < 65536 → b < 65536 → ones (bit_xor a b) ≤ 16
few_ones a b l k = ones-le 16 (bit_xor a b) (xor_lt 16 a b l k)

-- ---- words laid side by side, a word more of either
paste_front : (d s : List ℕ) (at n i x : ℕ) → i < at → at ≤ length d → set (paste d at s n) i x ≡ paste (set d i x) at s n
paste_front d s at n i x l k =
    let few : i < length (take at d) = omega (arith, length-take-le at d k) in
    set-append_left (take at d ++ take n s) (drop (at + n) d) i x (omega (arith, length-append (take at d) (take n s)))
    ∙ ap (λ (p : List ℕ). p ++ drop (at + n) d) (set-append_left (take at d) (take n s) i x few ∙ ap (λ (p : List ℕ). p ++ take n s) (sym (take-set-lt at d i x l)))
    ∙ ap (λ (q : List ℕ). (take at (set d i x) ++ take n s) ++ q) (sym (drop-set-lt (at + n) d i x (omega arith)))

pub lay_more : (window₀ window a b : List ℕ) (i : ℕ) → i < length a → length b ≡ length a → length window₀ ≡ length a + length a
    → window ≡ paste (paste window₀ 0 a i) (length a) b i
    → set (set window i (get_or a i 0)) (length a + i) (get_or b i 0) ≡ paste (paste window₀ 0 a (i + 1)) (length a) b (i + 1)
lay_more window₀ window a b i l same room e =
    let first : set (paste window₀ 0 a i) i (get_or a i 0) ≡ paste window₀ 0 a (suc i) =
    ap (λ (n : ℕ). set (paste window₀ 0 a i) n (get_or a i 0)) (sym (zero_plus i)) ∙ paste-suc window₀ 0 a i 0 (omega arith) l in
    let long : length (paste window₀ 0 a i) ≡ length window₀ = length-paste window₀ 0 a i (omega arith) (omega arith) in
    let longer : length (paste window₀ 0 a (suc i)) ≡ length window₀ = length-paste window₀ 0 a (suc i) (omega arith) (omega arith) in
    ap (λ (w : List ℕ). set (set w i (get_or a i 0)) (length a + i) (get_or b i 0)) e
    ∙ ap (λ (w : List ℕ). set w (length a + i) (get_or b i 0)) (paste_front (paste window₀ 0 a i) b (length a) i i (get_or a i 0) l (omega arith) ∙ ap (λ (w : List ℕ). paste w (length a) b i) first)
    ∙ paste-suc (paste window₀ 0 a (suc i)) (length a) b i 0 (omega arith) (omega arith)
    ∙ ap (λ (n : ℕ). paste (paste window₀ 0 a n) (length a) b n) (sym (add-one i))
  where
    zero_plus : (n : ℕ) → 0 + n ≡ n
    zero_plus n = omega arith

pub lay_first : (window₀ a b : List ℕ) → window₀ ≡ paste (paste window₀ 0 a 0) (length a) b 0
lay_first window₀ a b = paste-zero window₀ 0 a ∙ paste-zero (paste window₀ 0 a 0) (length a) b

-- two runs of words, one behind the other, where they fill the window
pub side_by_side : (window a b : List ℕ) → length window ≡ length a + length b → paste (paste window 0 a (length a)) (length a) b (length b) ≡ a ++ b
side_by_side window a b l =
    let rest : List ℕ = drop (0 + length a) window in
    let none : drop (length b) rest ≡ [] = drop_of_length-le rest {i = length b} (omega (arith, length-drop (0 + length a) window)) in
    ap (λ (w : List ℕ). paste (w ++ rest) (length a) b (length b)) (take-length a)
    ∙ ap₂ (λ (x y : List ℕ). (x ++ take (length b) b) ++ y) (take-append_seam a rest) (drop-append-add a rest (length b) ∙ none)
    ∙ append-nil (a ++ take (length b) b) ∙ ap (λ (y : List ℕ). a ++ y) (take-length b)

-- A pair taken: what each part of it gives.
pub pair_made : (plan a b window : List ℕ) (counter : ℕ) (s : Pass) (meets : Bool) (broken first bits : ℕ)
    → window ≡ a ++ b → meets ≡ meets_plan plan window
    → bits ≡ differing_words a b → broken ≡ s.broken + cond meets 0 1 → first ≡ cond meets s.first (cond (eqb s.broken 0) counter s.first)
    → record { i = s.i + (length a + 1); j = s.j + (length b + 1); pairs = s.pairs + 1; broken = broken; first = first; ties = s.ties + bits } ≡ pair_taken plan a b counter s
unfolding pair_taken
pair_made plan a b window counter s meets broken first bits laid m d n f =
    let met : meets ≡ meets_plan plan (a ++ b) = m ∙ ap (meets_plan plan) laid in
    rw (n, f, d, met)
