-- The laws of extraction on words, at every width: equations 1 to 5 and 7 of definition 3.2 of document 001, and what
-- extraction does to a length, to a bit, to a `map`, to a constant and to the bits of a number. Equation 6 is `append_assoc` of the library.
use mathlib.Core.Path.{◌≡◌, sym, ◌∙◌, ap}
use mathlib.Core.List.{List, ◌++◌, map}
use Prim.Native.Nat.{ℕ, ◌+◌, ◌-◌, ◌/◌, ◌%◌, ◌^◌, ◌<◌, ◌≤◌}
use native.Mathlib.Omega.{arith}
use lib.ListN.{length, get_or, take, drop, replicate, length-append, length-take, length-drop, length-map, length-replicate, get_or-replicate}
use lib.Seq.{take_all, take-append-le, take-append-add, drop-append-add, take-add, take-take, drop-drop, get_or-take, get_or-drop, ext_get_or}
use lib.Pow.{shr-shr}
use Rattle.terms.specs.Table.{extract}
use Rattle.laws.specs.Binary.{binary}
use Rattle.laws.proofs.Binary.{binary-length, binary_at}
use Rattle.laws.proofs.Lists.{map-take, map-drop, drop_left, drop-take}

-- Bits high down to low of a word are high + 1 - low bits.
pub extract-length : (w : List ℕ) (high low : ℕ) → low ≤ high → high < length w → length (extract w high low) ≡ high + 1 - low
unfolding extract
extract-length w high low l h = simp (length-take, length-drop) (omega arith)

-- The bits of an extraction stand in the word from bit high on.
pub extract-bit : (w : List ℕ) (high low i : ℕ) → i < high + 1 - low → high < length w
    → get_or (extract w high low) i 0 ≡ get_or w (length w - (high + 1) + i) 0
unfolding extract
extract-bit w high low i l h = rw (get_or-take, get_or-drop)

-- Equation 1: what lies in the right part is extracted from the right part.
pub extract_right : (s u : List ℕ) (i j : ℕ) → i < length u → extract (s ++ u) i j ≡ extract u i j
unfolding extract
extract_right s u i j h =
    let from : length (s ++ u) - (i + 1) ≡ length s + (length u - (i + 1)) = omega (arith, length-append s u) in
    rw (from, drop-append-add)

-- Equation 2: what lies in the left part is extracted from the left part.
pub extract_left : (s u : List ℕ) (i j : ℕ) → length u ≤ j → j ≤ i → i < length s + length u
    → extract (s ++ u) i j ≡ extract s (i - length u) (j - length u)
unfolding extract
extract_left s u i j l m h =
    let n = length s - (i - length u + 1) in
    let size : i - length u + 1 - (j - length u) ≡ i + 1 - j = omega arith in
    rw (drop_left s u i (omega arith) h, size) (take-append-le (i + 1 - j) (drop n s) u (omega (arith, length-drop n s)))

-- Equation 3: what lies across both parts is extracted from each and joined.
pub extract_across : (s u : List ℕ) (i j : ℕ) → j < length u → length u ≤ i → i < length s + length u
    → extract (s ++ u) i j ≡ extract s (i - length u) 0 ++ extract u (length u - 1) j
unfolding extract
extract_across s u i j l m h =
    let left = drop (length s - (i - length u + 1)) s in
    let size : length left ≡ i - length u + 1 = length-drop (length s - (i - length u + 1)) s ∙ omega arith in
    let split : i + 1 - j ≡ length left + (length u - j) = omega arith in
    let whole : take (i - length u + 1 - 0) left ≡ left = take_all (i - length u + 1 - 0) left (omega arith) in
    let last : length u - 1 + 1 ≡ length u = omega arith in
    let first : length u - length u ≡ 0 = omega arith in
    rw (drop_left s u i m h, split, take-append-add, whole, last, first)

-- Equation 4: all bits of a word are the word.
pub extract_whole : (w : List ℕ) → 1 ≤ length w → extract w (length w - 1) 0 ≡ w
unfolding extract
extract_whole w h =
    let last : length w - 1 + 1 ≡ length w = omega arith in
    let first : length w - length w ≡ 0 = omega arith in
    rw (last, first) (take_all (length w - 0) w (omega arith))

-- Equation 5: neighbouring extractions of one word join to one.
pub extract_join : (w : List ℕ) (i j k : ℕ) → i < length w → j ≤ i → k < j → extract w i j ++ extract w (j - 1) k ≡ extract w i k
unfolding extract
extract_join w i j k h l m =
    let next : length w - (j - 1 + 1) ≡ length w - (i + 1) + (i + 1 - j) = omega arith in
    let split : i + 1 - k ≡ i + 1 - j + (j - 1 + 1 - k) = omega arith in
    rw (next, split, take-add, drop-drop)

extract_skip : (w : List ℕ) (i j k l skip : ℕ) → i < length w → i ≡ k + j + skip → l ≤ k
    → extract (extract w i j) k l ≡ extract w (k + j) (l + j)
unfolding extract
extract_skip w i j k l skip h e o =
    let from = length w - (i + 1) in
    let size : i + 1 - j ≡ k + 1 + skip = omega arith in
    let skipped : length (take (i + 1 - j) (drop from w)) - (k + 1) ≡ skip = omega (arith, extract-length w i j (omega arith) h) in
    let size' : k + j + 1 - (l + j) ≡ k + 1 - l = omega arith in
    let from' : length w - (k + j + 1) ≡ from + skip = omega arith in
    rw (skipped, size, drop-take, size', from', drop-drop) (take-take (k + 1 - l) (k + 1) (drop (from + skip) w) (omega arith))

-- Equation 7: an extraction of an extraction is one extraction.
pub extract-extract : (w : List ℕ) (i j k l : ℕ) → i < length w → j ≤ i → k ≤ i - j → l ≤ k
    → extract (extract w i j) k l ≡ extract w (k + j) (l + j)
extract-extract w i j k l h m n o = extract_skip w i j k l (i - j - k) h (omega arith) o

-- Bits may be changed one by one before an extraction or after it.
pub extract-map : (f : ℕ → ℕ) (w : List ℕ) (i j : ℕ) → extract (map f w) i j ≡ map f (extract w i j)
unfolding extract
extract-map f w i j = rw (length-map, ← map-drop f, ← map-take f)

-- An extraction of copies of one bit is fewer copies of it.
pub extract-replicate : (n b high low : ℕ) → low ≤ high → high < n → extract (replicate n b) high low ≡ replicate (high + 1 - low) b
extract-replicate n b high low l h =
    let all : length (replicate n b) ≡ n = length-replicate n b in
    let size : length (extract (replicate n b) high low) ≡ high + 1 - low = extract-length (replicate n b) high low l (omega arith) in
    ext_get_or 0 (extract (replicate n b) high low) (replicate (high + 1 - low) b) (size ∙ sym (length-replicate (high + 1 - low) b))
    (λ i m.
    extract-bit (replicate n b) high low i (omega arith) (omega arith)
    ∙ get_or-replicate n (length (replicate n b) - (high + 1) + i) b 0 (omega arith)
    ∙ sym (get_or-replicate (high + 1 - low) i b 0 (omega arith)))

-- An extraction of the bits of a number is the bits of the number without those below.
pub extract-binary : (w a high low : ℕ) → low ≤ high → high < w → extract (binary w a) high low ≡ binary (high + 1 - low) (a / 2 ^ low)
extract-binary w a high low l h =
    let n = high + 1 - low in
    let wide : length (binary w a) ≡ w = binary-length w a in
    let size : length (extract (binary w a) high low) ≡ n = extract-length (binary w a) high low l (omega arith) in
    ext_get_or 0 (extract (binary w a) high low) (binary n (a / 2 ^ low)) (size ∙ sym (binary-length n (a / 2 ^ low)))
    (λ i m.
    let from : w - 1 - (length (binary w a) - (high + 1) + i) ≡ low + (n - 1 - i) = omega arith in
    extract-bit (binary w a) high low i (omega arith) (omega arith)
    ∙ binary_at w a (length (binary w a) - (high + 1) + i) (omega arith)
    ∙ ap (λ (k : ℕ). a / 2 ^ k % 2) from
    ∙ ap (λ (k : ℕ). k % 2) (sym (shr-shr a low (n - 1 - i)))
    ∙ sym (binary_at n (a / 2 ^ low) i (omega arith)))
