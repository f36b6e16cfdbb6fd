-- Different sources are told apart by some assignment. So two rows with the same value under every assignment have
-- the same sources.
use mathlib.Core.Path.{◌≡◌, refl, sym, ◌∙◌, ap}
use mathlib.Core.Bool.{true}
use mathlib.Core.List.{List, [], ◌∷◌, ◌++◌, map}
use mathlib.Core.Logic.{⊎_elim}
use Prim.Native.Nat.{ℕ, zero, suc, ◌+◌, ◌-◌, ◌<◌, ◌≤◌}
use native.Mathlib.Omega.{arith}
use lib.ListN.{length, get_or, take, drop, replicate, set, length-replicate, length-set, get_or-replicate}
use lib.Seq.{get_or-set_same, get_or-set_other}
use Rattle.terms.specs.declared.Row.{Row}
use Rattle.terms.specs.Table.{row_at, bits_of, bit_of, extract, fixed_word, sources_of, source_of, value_of}
use Rattle.laws.specs.Lists.{count_up, all_bits}
use Rattle.terms.specs.Assignments.{Assignment}
use Rattle.terms.proofs.Assignments.{assignment_of, assignment_length}
use Rattle.terms.proofs.RowKinds.{KindOf, is_variable, is-fixed, is_concat, is_extract, is_equation, kind-of}
use Rattle.laws.proofs.Numbers.{by_strong, lt_or_le, dec_eq}
use Rattle.laws.proofs.AllBits.{first_bit}
use Rattle.terms.proofs.Faults.{Kept, kept, kept_names, concat_names, extract_names}
use Rattle.terms.proofs.Sources.{value_sources}
use Rattle.terms.proofs.Values.{value_variable, value_fixed, fixed-bits, value-concat, value-extract, value_equation}
use Rattle.terms.specs.Sound.{Sound}

-- every number of a list is below a bound
data AllBelow (n : ℕ) : List ℕ → Type 0 where
  none : AllBelow n []
  some : {x : ℕ} {xs : List ℕ} → x < n → AllBelow n xs → AllBelow n (x ∷ xs)

below-take : (n k : ℕ) (xs : List ℕ) → AllBelow n xs → AllBelow n (take k xs)
below-take n zero xs h = none
below-take n (suc k) xs none = none
below-take n (suc k) xs (some {xs = ys} l h) = some l (below-take n k ys h)

below-drop : (n k : ℕ) (xs : List ℕ) → AllBelow n xs → AllBelow n (drop k xs)
below-drop n zero xs h = h
below-drop n (suc k) xs none = none
below-drop n (suc k) xs (some {xs = ys} l h) = below-drop n k ys h

below-append : (n : ℕ) (xs ys : List ℕ) → AllBelow n xs → AllBelow n ys → AllBelow n (xs ++ ys)
below-append n xs ys none k = k
below-append n xs ys (some {xs = zs} l h) k = some l (below-append n zs ys h k)

below_bits : (n : ℕ) (bits : List ℕ) → 2 ≤ n → all_bits bits ≡ true → AllBelow n bits
below_bits n [] l h = none
below_bits n (b ∷ bits) l h = let k = first_bit b bits h in some {x = b} (omega (arith, k.0)) (below_bits n bits l k.1)

below_up : (n k m : ℕ) → k + m ≤ n → AllBelow n (count_up k m)
unfolding count_up
below_up n k zero h = none
below_up n k (suc m) h = some {x = k} (omega arith) (below_up n (suc k) m (omega arith))

-- the sources of a row of an accepted table are constants and places
sources_below : (t : List Row) → Sound t → (r : ℕ) → r < length t → AllBelow (bits_of t + 2) (source_of t r)
unfolding sources_of extract
sources_below t sound = by_strong (λ (r : ℕ). r < length t → AllBelow (bits_of t + 2) (value_of t places r)) step
  where
    places : List ℕ
    places = count_up 2 (bits_of t)

    all : AllBelow (bits_of t + 2) places
    all = below_up (bits_of t + 2) 2 (bits_of t) (omega arith)

    step : (r : ℕ) → ((i : ℕ) → i < r → i < length t → AllBelow (bits_of t + 2) (value_of t places i)) → r < length t → AllBelow (bits_of t + 2) (value_of t places r)
    step r before h = go (kind-of (row_at t r).kind)
      where
        k : Kept t r
        k = kept t r (sound r h)

        row : Row
        row = row_at t r

        go : KindOf (row_at t r).kind → AllBelow (bits_of t + 2) (value_of t places r)
        go (is_variable e) = rw (value_variable t places r h e) (below-take _ row.a _ (below-drop _ (bits_of (take r t)) places all))
        go (is-fixed e) = rw (value_fixed t places r h e) (below_bits _ (fixed_word row) (omega arith) (fixed-bits t r k e))
        go (is_concat e) =
            let names = concat_names t r (row_at t r) (kept_names t r k) e in
            rw (value-concat t places r h k e)
            (below-append _ _ _ (before row.a names.0.earlier (omega (arith, names.0.earlier))) (before row.b names.1.earlier (omega (arith, names.1.earlier))))
        go (is_extract e) =
            let named = extract_names t r (row_at t r) (kept_names t r k) e in
            rw (value-extract t places r h k e)
            (below-take _ (row.b + 1 - row.c) _ (below-drop _ (length (value_of t places row.a) - (row.b + 1)) _ (before row.a named.earlier (omega (arith, named.earlier)))))
        go (is_equation e) = rw (value_equation t places r h e) none

-- the assignment of 0 everywhere, and that of 1 at one place
abbrev blank : ℕ → List ℕ
blank n = replicate n 0

abbrev marked : ℕ → ℕ → List ℕ
marked n j = set (blank n) j 1

blank_bit : (n i : ℕ) → i < n → get_or (blank n) i 0 ≡ 0
blank_bit n i h = get_or-replicate {A = ℕ} n i 0 0 h

marked_there : (n j : ℕ) → j < n → get_or (marked n j) j 0 ≡ 1
marked_there n j h = get_or-set_same {A = ℕ} (blank n) j 1 0 (omega (arith, length-replicate {A = ℕ} n 0))

marked_else : (n j i : ℕ) → (i ≡ j → ⊥) → i < n → get_or (marked n j) i 0 ≡ 0
marked_else n j i d h = get_or-set_other {A = ℕ} (blank n) j i 1 0 d ∙ blank_bit n i h

zeros : (n : ℕ) → Assignment n (blank n)
zeros n = assignment_of n (blank n) (length-replicate n 0) (λ i h. omega (arith, blank_bit n i h))

at_place : (n j : ℕ) → j < n → Assignment n (marked n j)
at_place n j l =
    assignment_of n (marked n j) (length-set (blank n) j 1 ∙ length-replicate n 0)
    (λ i h. ⊎_elim (λ e. omega (arith, ap (λ (k : ℕ). get_or (marked n j) k 0) e, marked_there n j l)) (λ d. omega (arith, marked_else n j i d h)) (dec_eq i j))

-- two sources that every assignment gives one bit are one
lower_same : (n x y : ℕ) → x < y → y < n + 2 → ((p : List ℕ) → Assignment n p → bit_of p x ≡ bit_of p y) → ⊥
unfolding bit_of
lower_same n x zero l h f = omega arith
lower_same n zero (suc zero) l h f = let e : ◌≡◌ {A = ℕ} 0 1 = f (blank n) (zeros n) in omega arith
lower_same n (suc x) (suc zero) l h f = omega arith
lower_same n zero (suc (suc j)) l h f =
    let m : j < n = omega arith in
    let e : ◌≡◌ {A = ℕ} 0 (get_or (marked n j) j 0) = f (marked n j) (at_place n j m) in
    omega (arith, marked_there n j m)
lower_same n (suc zero) (suc (suc j)) l h f =
    let m : j < n = omega arith in
    let e : ◌≡◌ {A = ℕ} 1 (get_or (blank n) j 0) = f (blank n) (zeros n) in
    omega (arith, blank_bit n j m)
lower_same n (suc (suc i)) (suc (suc j)) l h f =
    let m : j < n = omega arith in
    let e : get_or (marked n j) i 0 ≡ get_or (marked n j) j 0 = f (marked n j) (at_place n j m) in
    omega (arith, marked_there n j m, marked_else n j i (λ d. omega arith) (omega arith))

pub same_source : (n x y : ℕ) → x < n + 2 → y < n + 2 → ((p : List ℕ) → Assignment n p → bit_of p x ≡ bit_of p y) → x ≡ y
same_source n x y hx hy f =
    ⊎_elim (λ l. absurd (lower_same n x y l hy f))
    (λ m. ⊎_elim (λ l. absurd (lower_same n y x l hx (λ p a. sym (f p a)))) (λ k. omega arith) (lt_or_le y x)) (lt_or_le x y)

same_lists : (n : ℕ) (xs ys : List ℕ) → AllBelow (n + 2) xs → AllBelow (n + 2) ys
    → ((p : List ℕ) → Assignment n p → map (bit_of p) xs ≡ map (bit_of p) ys) → xs ≡ ys
same_lists n xs ys none none f = refl
same_lists n xs ys none (some {x = y} {xs = zs} l k) f = absurd (let e = ap length (f (blank n) (zeros n)) in omega arith)
same_lists n xs ys (some {x = x} {xs = ws} l h) none f = absurd (let e = ap length (f (blank n) (zeros n)) in omega arith)
same_lists n xs ys (some {x = x} {xs = ws} l h) (some {x = y} {xs = zs} m k) f =
    let first : x ≡ y = same_source n x y l m (λ p a. let e = f p a in cc) in
    let rest : ws ≡ zs = same_lists n ws zs h k (λ p a. let e = f p a in cc) in cc

-- Two rows of an accepted table that have the same value under every assignment have the same sources.
pub same_sources : (t : List Row) → Sound t → (r s : ℕ) → r < length t → s < length t
    → ((p : List ℕ) → Assignment (bits_of t) p → value_of t p r ≡ value_of t p s) → source_of t r ≡ source_of t s
same_sources t sound r s hr hs f =
    same_lists (bits_of t) (source_of t r) (source_of t s) (sources_below t sound r hr) (sources_below t sound s hs)
    (λ p a.
    let n = assignment_length a in
    sym (value_sources t p sound n r hr) ∙ f p a ∙ value_sources t p sound n s hs)
