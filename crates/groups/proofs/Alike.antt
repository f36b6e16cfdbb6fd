-- Places that stand alike: of them exactly one is counted, the first. Two small cases. Assumes nothing.
use mathlib.Core.Path.{◌≡◌, refl, sym, ◌∙◌}
use mathlib.Core.Bool.{Bool, true, false, not, ◌&&◌, cond}
use mathlib.Core.Logic.{◌⊎◌, inl, inr}
use Prim.Native.Nat.{ℕ, zero, suc, ◌+◌, ◌-◌, ◌/◌, ◌%◌, ◌≤◌, ◌<◌, min}
use native.Mathlib.Omega.{arith}
use lib.Dec.{ltb}
use borrow.Author.Tests.{not-true, not-false}
use Rattle.laws.specs.Lists.{below, tally}
use Rattle.laws.proofs.Bools.{and_first, and_second, and_both, clash}
use Rattle.laws.proofs.Numbers.{lt_or_le, by_strong}
use Rattle.laws.proofs.Tallies.{below_at}
use Rattle.groups.specs.inner.Counts.{represented, stand_in, alike, first_alike, equal_rows, CountedFor, OneForEach}
use Rattle.groups.specs.inner.Groups.{same_key}
use Rattle.groups.proofs.Keys.{Same, key_same, same-key}

-- a test that fails below a bound fails at a number
fails_at : (n : ℕ) (f : ℕ → Bool) → below n f ≡ false → (i : ℕ) × ((i < n) × (f i ≡ false))
unfolding below
fails_at zero f h = clash true refl h
fails_at (suc n) f h = go (f n) refl (fails_at n f)
  where
    go : (t : Bool) → f n ≡ t → (below n f ≡ false → (i : ℕ) × ((i < n) × (f i ≡ false))) → (i : ℕ) × ((i < suc n) × (f i ≡ false))
    go false e k = (n, (omega arith, e))
    go true e k =
        let w = k (rw e at h) in
        (w.0, (omega (arith, w.1.0), w.1.1))

module _ (r : ℕ → ℕ) where
  -- the words and the distance of both
  abbrev Alike : ℕ → ℕ → Type 0
  Alike i j = Same (i / 16) (stand_in r i / 16) (i + stand_in r j) (j / 16) (stand_in r j / 16) (j + stand_in r i)

  alike-has : (i j : ℕ) → alike r i j ≡ true → Alike i j
  unfolding alike same_key
  alike-has i j h = key_same (i / 16) (stand_in r i / 16) (i + stand_in r j) (j / 16) (stand_in r j / 16) (j + stand_in r i) h

  has-alike : (i j : ℕ) → Alike i j → alike r i j ≡ true
  unfolding alike same_key
  has-alike i j s = same-key (i / 16) (stand_in r i / 16) (i + stand_in r j) (j / 16) (stand_in r j / 16) (j + stand_in r i) s

  alike_self : (i : ℕ) → alike r i i ≡ true
  alike_self i = has-alike i i (record { first = refl; second = refl; by = refl })

  alike_turn : (i j : ℕ) → alike r i j ≡ true → alike r j i ≡ true
  alike_turn i j h = let s = alike-has i j h in has-alike j i (record { first = sym s.first; second = sym s.second; by = sym s.by })

  alike_on : (i j k : ℕ) → alike r i j ≡ true → alike r j k ≡ true → alike r i k ≡ true
  alike_on i j k h l =
      let s = alike-has i j h in
      let t = alike-has j k l in
      has-alike i k (record { first = s.first ∙ t.first; second = s.second ∙ t.second; by = omega (arith, s.by, t.by) })

  -- a place that does not stand as place i does
  before : ℕ → ℕ → Bool
  before i j = not (represented r j && alike r i j)

  one_counted : (i : ℕ) → represented r i ≡ true → CountedFor r i
  unfolding first_alike before
  one_counted = by_strong (λ i. represented r i ≡ true → CountedFor r i) step
    where
      step : (i : ℕ) → ((j : ℕ) → j < i → represented r j ≡ true → CountedFor r j) → represented r i ≡ true → CountedFor r i
      step i k h = go (below i (before i)) refl
        where
          go : (t : Bool) → below i (before i) ≡ t → CountedFor r i
          go true e = record { place = i; low = omega arith; counted = and_both (represented r i) (below i (before i)) h e; like = alike_self i }
          go false e =
              let w = fails_at i (before i) e in
              let both = not-false (represented r w.0 && alike r i w.0) w.1.1 in
              let c = k w.0 w.1.0 (and_first (represented r w.0) (alike r i w.0) both) in
              record {
                place = c.place;
                low = omega (arith, c.low, w.1.0);
                counted = c.counted;
                like = alike_on i w.0 c.place (and_second (represented r w.0) (alike r i w.0) both) c.like;
              }

  no_earlier : (i j : ℕ) → j < i → first_alike r i ≡ true → first_alike r j ≡ true → alike r i j ≡ true → ⊥
  unfolding first_alike before
  no_earlier i j l f g h =
      let none = below_at i (before i) (and_second (represented r i) (below i (before i)) f) j l in
      let both = and_both (represented r j) (alike r i j) (and_first (represented r j) (below j (before j)) g) h in
      clash (represented r j && alike r i j) both (not-true (represented r j && alike r i j) none)

  -- of all places that stand alike exactly one is counted
  pub one_for_each : OneForEach r
  one_for_each = record { some = one_counted; alone = λ i j f g h. go i j f g h (lt_or_le i j) (lt_or_le j i) }
    where
      go : (i j : ℕ) → first_alike r i ≡ true → first_alike r j ≡ true → alike r i j ≡ true → (i < j) ⊎ (j ≤ i) → (j < i) ⊎ (i ≤ j) → i ≡ j
      go i j f g h (inl l) m = absurd (no_earlier j i l g f (alike_turn i j h))
      go i j f g h (inr l) (inl m) = absurd (no_earlier i j m f g h)
      go i j f g h (inr l) (inr m) = omega arith

-- Three words that are equal have two rows, of 16 bits each; two words whose bits are all equal have 31 rows, of one bit each.
pub equal_words : equal_rows (λ s. cond (ltb s 2) s (2 + (s - 2) % 16)) 3 ≡ 2
unfolding equal_rows tally first_alike below represented alike
equal_words = refl

pub equal_bits : equal_rows (λ s. min s 2) 2 ≡ 31
unfolding equal_rows tally first_alike below represented alike
equal_bits = refl
