-- A row's value under an assignment is the bits of its sources.
use mathlib.Core.Path.{◌≡◌, refl, sym, ◌∙◌, ap, ap₂}
use mathlib.Core.Bool.{true}
use mathlib.Core.List.{List, [], ◌++◌, map}
use Prim.Native.Nat.{ℕ, ◌<◌}
use native.Mathlib.Omega.{arith}
use lib.ListN.{length, get_or, take, drop}
use Rattle.terms.specs.declared.Row.{Row}
use Rattle.terms.specs.Table.{row_at, bits_of, extract, fixed_word, value_of, bit_of, sources_of, source_of, width_of}
use Rattle.laws.specs.Lists.{count_up, all_bits}
use Rattle.terms.proofs.RowKinds.{KindOf, is_variable, is-fixed, is_concat, is_extract, is_equation, kind-of}
use Rattle.laws.proofs.Numbers.{by_strong}
use Rattle.terms.proofs.Faults.{Kept, kept, kept_names, concat_names, extract_names}
use Rattle.terms.proofs.Values.{value-length, value_variable, value_fixed, fixed-bits, value-concat, value-extract, value_equation}
use Rattle.terms.specs.Sound.{Sound}
use Rattle.laws.proofs.Lists.{map-append, map-take, map-drop, map_same, read_places}
use Rattle.laws.proofs.AllBits.{bits_map}
use Rattle.terms.proofs.Words.{extract-map}
use Rattle.laws.proofs.CountUp.{count-up}

-- the places of an assignment have its bits
pub all_places : (p : List ℕ) (n : ℕ) → length p ≡ n → map (bit_of p) (count_up 2 n) ≡ p
unfolding bit_of
all_places p n e = read_places 0 1 0 p n e

-- bits are their own sources
own-bits : (p bits : List ℕ) → all_bits bits ≡ true → map (bit_of p) bits ≡ bits
unfolding bit_of
own-bits p bits h = bits_map (bit_of p) (λ b. b) refl refl bits h ∙ map_same (λ b. b) (λ b. refl) bits

-- the value of a row of an accepted table is its sources' bits
pub value_sources : (t : List Row) (p : List ℕ) → Sound t → length p ≡ bits_of t → (r : ℕ) → r < length t
    → value_of t p r ≡ map (bit_of p) (get_or (sources_of t) r [])
unfolding sources_of
value_sources t p sound whole = by_strong (λ (r : ℕ). r < length t → value_of t p r ≡ map (bit_of p) (value_of t places r)) step
  where
    places : List ℕ
    places = count_up 2 (bits_of t)

    step : (r : ℕ) → ((i : ℕ) → i < r → i < length t → value_of t p i ≡ map (bit_of p) (value_of t places i)) → r < length t
        → value_of t p r ≡ map (bit_of p) (value_of t places r)
    step r before h = go (kind-of (row_at t r).kind)
      where
        k : Kept t r
        k = kept t r (sound r h)

        row : Row
        row = row_at t r

        start : ℕ
        start = bits_of (take r t)

        go : KindOf (row_at t r).kind → value_of t p r ≡ map (bit_of p) (value_of t places r)
        go (is_variable e) =
            value_variable t p r h e
            ∙ ap (λ (q : List ℕ). take row.a (drop start q)) (sym (all_places p (bits_of t) whole))
            ∙ ap (take row.a) (sym (map-drop (bit_of p) start places))
            ∙ sym (map-take (bit_of p) row.a (drop start places))
            ∙ ap (map (bit_of p)) (sym (value_variable t places r h e))
        go (is-fixed e) =
            value_fixed t p r h e
            ∙ sym (own-bits p (fixed_word row) (fixed-bits t r k e))
            ∙ ap (map (bit_of p)) (sym (value_fixed t places r h e))
        go (is_concat e) =
            let names = concat_names t r (row_at t r) (kept_names t r k) e in
            value-concat t p r h k e
            ∙ ap₂ (λ (x y : List ℕ). x ++ y)
            (before row.a names.0.earlier (omega (arith, names.0.earlier)))
            (before row.b names.1.earlier (omega (arith, names.1.earlier)))
            ∙ sym (map-append (bit_of p) (value_of t places row.a) (value_of t places row.b))
            ∙ ap (map (bit_of p)) (sym (value-concat t places r h k e))
        go (is_extract e) =
            let named = extract_names t r (row_at t r) (kept_names t r k) e in
            value-extract t p r h k e
            ∙ ap (λ (w : List ℕ). extract w row.b row.c) (before row.a named.earlier (omega (arith, named.earlier)))
            ∙ extract-map (bit_of p) (value_of t places row.a) row.b row.c
            ∙ ap (map (bit_of p)) (sym (value-extract t places r h k e))
        go (is_equation e) = value_equation t p r h e ∙ ap (map (bit_of p)) (sym (value_equation t places r h e))

-- a row of an accepted table has as many sources as it is wide
pub source_length : (t : List Row) → Sound t → (r : ℕ) → r < length t → length (source_of t r) ≡ width_of t r
unfolding sources_of
source_length t sound r h = value-length t (count_up 2 (bits_of t)) sound (count-up 2 (bits_of t)) r h
