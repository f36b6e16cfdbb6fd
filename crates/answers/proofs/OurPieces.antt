-- The solver's answer, place by place, is a solved system.
use mathlib.Core.Path.{◌≡◌, refl, sym, ap, ap₂, ◌∙◌}
use mathlib.Core.Logic.{◌⊎◌, inl, inr}
use mathlib.Core.Bool.{Bool, true, false, not, ◌&&◌, cond}
use mathlib.Core.List.{List}
use Prim.Native.Nat.{ℕ, zero, suc, ◌+◌, ◌-◌, ◌≤◌, ◌<◌}
use native.Mathlib.Omega.{arith}
use lib.Dec.{eqb}
use lib.ListN.{get_or, get_or-eq_default}
use borrow.Author.Tests.{eqb-true, eq-eqb, le-leb, lt-leb, not-true}
use Rattle.terms.specs.Assignments.{Assignment}
use Rattle.terms.specs.Table.{bit_of}
use Rattle.answers.specs.Pairs.{Pair, satisfies_pairs}
use Rattle.answers.specs.inner.Classes.{rep, Represents}
use Rattle.laws.specs.Lists.{tally}
use Rattle.laws.proofs.Bools.{and_first, and_second, and_both}
use Rattle.answers.proofs.Agreement.{place_bit, fixed-bit, fixed_class, bit_past}
use Rattle.laws.proofs.Numbers.{lt_or_le}
use Rattle.laws.proofs.Tallies.{tally_mono, select, select_rank, select_mark}
use Rattle.laws.proofs.Lists.{tab}
use Rattle.answers.proofs.Slots.{slots_assignment, slots_at, Slot, fill, part, value, loose, glued, heads}
use Rattle.answers.proofs.Gluing.{glued_e, start_in, place, front, reach, front_place, place_class, reach_class, reach_pos, reach_front, reach_two, front_head, front_loose, heads_class}

module _ (n : ℕ) (c : List ℕ) (seen : List Pair) (inv : Represents n c seen) (one : rep c 1 ≡ 1) (start : ℕ → Bool) (begin : start 0 ≡ true) (last : start n ≡ true) where
  abbrev C : ℕ → ℕ
  C i = rep c (suc (suc i))

  unfoldable pub mark : ℕ → Bool
  mark i = eqb (C i) (suc (suc i)) && heads n start C i

  -- the first bit of the class of the first bit of the piece of bit i
  unfoldable pub home : ℕ → ℕ
  home i = C (front n start C i) - 2

  unfoldable pub number : ℕ → ℕ
  number i = tally (home i) mark

  unfoldable pub slot : ℕ → Slot
  slot i = cond (loose C i) (part (number i) (place n start C i)) (fill (C i))

  unfoldable pub wide : ℕ → ℕ
  wide f = reach n start C n (select n mark f)

  -- C at a class's own bit
  pub class_home : (i : ℕ) → 2 ≤ C i → C (C i - 2) ≡ C i
  class_home i h =
      let e : suc (suc (C i - 2)) ≡ C i = omega arith in
      ap (rep c) e ∙ inv.root (suc (suc i))

  pub front_le : (i : ℕ) → front n start C i ≤ i
  front_le i = omega (arith, front_place n start C begin last i)

  pub home_le : (i : ℕ) → home i ≤ front n start C i
  unfolding home
  home_le i = omega (arith, inv.low (suc (suc (front n start C i))))

  pub home_class : (i : ℕ) → 2 ≤ C i → C (home i) ≡ C (front n start C i)
  unfolding home
  home_class i h = class_home (front n start C i) (front_loose n start C begin last i h)

  pub home_mark : (i : ℕ) → i < n → 2 ≤ C i → mark (home i) ≡ true
  unfolding mark home
  home_mark i l h =
      let k : 2 ≤ C (front n start C i) = front_loose n start C begin last i h in
      let e : C (home i) ≡ C (front n start C i) = home_class i h in
      let a : home i < n = omega (arith, home_le i, front_le i) in
      let b : front n start C i < n = omega (arith, front_le i) in
      and_both (eqb (C (home i)) (suc (suc (home i)))) (heads n start C (home i)) (eq-eqb (C (home i)) (suc (suc (home i))) (e ∙ omega arith))
      (heads_class n start C begin last (front n start C i) (home i) b a (sym e) (front_head n start C begin last i k))

  pub wide_is : (i : ℕ) → i < n → 2 ≤ C i → wide (number i) ≡ place n start C i + reach n start C n i
  unfolding wide number
  wide_is i l h =
      let a : home i < n = omega (arith, home_le i, front_le i) in
      let b : front n start C i < n = omega (arith, front_le i) in
      ap (reach n start C n) (select_rank n mark (home i) a (home_mark i l h))
      ∙ reach_class n start C begin last n n (home i) (front n start C i) (omega arith) (omega arith) a b (home_class i h)
      ∙ reach_front n start C begin last i l

  -- the slots by cases
  pub slot_loose : (i : ℕ) → 2 ≤ C i → slot i ≡ part (number i) (place n start C i)
  unfolding slot
  slot_loose i h = rw (le-leb 2 (C i) h)

  pub slot_fixed : (i : ℕ) → C i < 2 → slot i ≡ fill (C i)
  unfolding slot
  slot_fixed i h = rw (lt-leb 2 (C i) h)

  pub slot_part : (i f o : ℕ) → slot i ≡ part f o → (2 ≤ C i) × (number i ≡ f) × (place n start C i ≡ o)
  slot_part i f o e = go (lt_or_le (C i) 2)
    where
      go : (C i < 2) ⊎ (2 ≤ C i) → (2 ≤ C i) × (number i ≡ f) × (place n start C i ≡ o)
      go (inl h) = let s = slot_fixed i h in let z : ◌≡◌ {A = ℕ} 0 1 = cc in absurd (omega arith)
      go (inr h) = let s = slot_loose i h in (h, (cc), (cc))

  -- the next bit of the piece
  pub slot_next : (i : ℕ) → i < n → glued n start C i ≡ true → slot (suc i) ≡ part (number i) (suc (place n start C i))
  unfolding number home place front
  slot_next i l h = let G = glued_e n start C i h in slot_loose (suc i) G.there ∙ rw h

  pub slot_bits : (i b : ℕ) → slot i ≡ fill b → b ≤ 1
  slot_bits i b e = go (lt_or_le (C i) 2)
    where
      go : (C i < 2) ⊎ (2 ≤ C i) → b ≤ 1
      go (inl h) = let s = slot_fixed i h in let q : C i ≡ b = cc in omega arith
      go (inr h) = let s = slot_loose i h in let z : ◌≡◌ {A = ℕ} 0 1 = cc in absurd (omega arith)

  pub slot_before : (i f o : ℕ) → suc i < n → slot (suc i) ≡ part f (suc o) → (start (suc i) ≡ false) × (slot i ≡ part f o)
  unfolding number home place front
  slot_before i f o l e = go (glued n start C i) refl
    where
      s : (2 ≤ C (suc i)) × (number (suc i) ≡ f) × (place n start C (suc i) ≡ suc o)
      s = slot_part (suc i) f (suc o) e

      go : (t : Bool) → glued n start C i ≡ t → (start (suc i) ≡ false) × (slot i ≡ part f o)
      go false h = let z : place n start C (suc i) ≡ 0 = rw h in absurd (omega (arith, s.2))
      go true h =
          let G = glued_e n start C i h in
          let q = slot_next i (omega arith) h in
          let k = slot_loose i G.here in
          let a : suc (place n start C i) ≡ suc o = cc in
          let b : place n start C i ≡ o = omega arith in
          (G.open', (cc))

  pub slot_after : (i f o : ℕ) → i < n → slot i ≡ part f o → suc o < wide f → (start (suc i) ≡ false) × (slot (suc i) ≡ part f (suc o))
  slot_after i f o l e w =
      let s = slot_part i f o e in
      let v : wide f ≡ place n start C i + reach n start C n i = ap wide (sym s.1) ∙ wide_is i l s.0 in
      let h = reach_two n start C begin last n i (omega (arith, s.2)) in
      let q = slot_next i l h in
      ((glued_e n start C i h).open', (cc (s.1, s.2)))

  pub slot_class : (i j : ℕ) → i < n → j < n → C i ≡ C j → slot i ≡ slot j
  unfolding slot number home
  slot_class i j a b e =
      let w = place_class n start C begin last i j a b e in
      rw (e, w.0, w.1)

  -- the bit of the home piece at the same place is of the same class
  pub home-place : (i : ℕ) → i < n → 2 ≤ C i → C (home i + place n start C i) ≡ C i
  unfolding home place front
  home-place zero l h = ap C (omega arith) ∙ class_home zero h
  home-place (suc i) l h = go (glued n start C i) refl (λ k. home-place i (omega arith) k)
    where
      go : (t : Bool) → glued n start C i ≡ t → (2 ≤ C i → C (home i + place n start C i) ≡ C i)
          → C (C (cond t (front n start C i) (suc i)) - 2 + cond t (suc (place n start C i)) 0) ≡ C (suc i)
      go false e r = ap C (omega arith) ∙ class_home (suc i) h
      go true e r =
          let G = glued_e n start C i e in
          let q : home i + suc (place n start C i) ≡ suc (home i + place n start C i) = omega arith in
          ap C q ∙ (G.onward (home i + place n start C i) (omega (arith, home_le i, front_place n start C begin last i)) (r G.here)).1

  pub slot_gives : (φ : ℕ → ℕ → ℕ) → ((f o : ℕ) → φ f o ≤ 1) → satisfies_pairs (tab n (λ i. value φ (slot i))) seen ≡ true
  slot_gives φ h = inv.full p pat at
    where
      p : List ℕ
      p = tab n (λ i. value φ (slot i))

      pat : Assignment n p
      pat = slots_assignment n slot slot_bits φ h

      here : (i : ℕ) → i < n → bit_of p (suc (suc i)) ≡ value φ (slot i)
      here = slots_at n slot φ

      at : (s : ℕ) → bit_of p s ≡ bit_of p (rep c s)
      at zero = ap (bit_of p) (sym (fixed_class n c seen inv one 0 (omega arith)))
      at (suc zero) = ap (bit_of p) (sym one)
      at (suc (suc i)) = go (lt_or_le i n) (lt_or_le (C i) 2)
        where
          go : (i < n) ⊎ (n ≤ i) → (C i < 2) ⊎ (2 ≤ C i) → bit_of p (suc (suc i)) ≡ bit_of p (C i)
          go (inl l) (inl k) = here i l ∙ ap (value φ) (slot_fixed i k) ∙ sym (fixed-bit p (C i) (omega arith))
          go (inl l) (inr k) =
              let e : suc (suc (C i - 2)) ≡ C i = omega arith in
              here i l ∙ ap (value φ) (slot_class i (C i - 2) l (omega (arith, inv.low (suc (suc i)))) (sym (class_home i k)))
              ∙ sym (here (C i - 2) (omega (arith, inv.low (suc (suc i))))) ∙ ap (bit_of p) e
          go (inr l) k =
              let z : C i ≡ 0 = get_or-eq_default c 0 {n = suc (suc i)} (omega (arith, inv.len)) in
              bit_past pat (suc (suc i)) (omega arith) ∙ sym (ap (bit_of p) z ∙ fixed-bit p 0 (omega arith))

  -- the filling that a pattern gives: the bits of each piece where it first appears
  unfoldable pub filled : List ℕ → ℕ → ℕ → ℕ
  filled p f o = get_or p (select n mark f + o) 0

  pub slot_reads : (p : List ℕ) → Assignment n p → satisfies_pairs p seen ≡ true → (i : ℕ) → i < n → get_or p i 0 ≡ value (filled p) (slot i)
  unfolding filled
  slot_reads p k m i l = go (lt_or_le (C i) 2)
    where
      go : (C i < 2) ⊎ (2 ≤ C i) → get_or p i 0 ≡ value (λ f o. get_or p (select n mark f + o) 0) (slot i)
      go (inl h) = rw (slot_fixed i h) (sym (place_bit p i) ∙ inv.just p k m (suc (suc i)) ∙ fixed-bit p (C i) (omega arith))
      go (inr h) =
          let s = slot_loose i h in
          let r : select n mark (number i) ≡ home i = unfold number in (select_rank n mark (home i) (omega (arith, home_le i, front_le i)) (home_mark i l h)) in
          let q = home-place i l h in
          rw (s, r) (sym (place_bit p i) ∙ inv.just p k m (suc (suc i)) ∙ ap (bit_of p) (sym q) ∙ sym (inv.just p k m (suc (suc (home i + place n start C i)))) ∙ place_bit p (home i + place n start C i))

  -- the first place of a piece that first appears there
  pub mark-place : (h : ℕ) → mark h ≡ true → (2 ≤ C h) × (C h ≡ suc (suc h)) × (place n start C h ≡ 0) × (front n start C h ≡ h)
  unfolding mark heads place front
  mark-place zero m =
      let e = eqb-true (C 0) 2 (and_first (eqb (C 0) 2) (loose C 0) m) in
      (omega arith, e, refl, refl)
  mark-place (suc h) m =
      let e : C (suc h) ≡ suc (suc (suc h)) = eqb-true (C (suc h)) (suc (suc (suc h))) (and_first (eqb (C (suc h)) (suc (suc (suc h)))) (loose C (suc h) && not (glued n start C h)) m) in
      let k = and_second (eqb (C (suc h)) (suc (suc (suc h)))) (loose C (suc h) && not (glued n start C h)) m in
      let g = not-true (glued n start C h) (and_second (loose C (suc h)) (not (glued n start C h)) k) in
      (omega arith, e, rw g, rw g)

  pub mark_slot : (h : ℕ) → mark h ≡ true → slot h ≡ part (tally h mark) 0
  unfolding number home
  mark_slot h m =
      let w = mark-place h m in
      let z : C (front n start C h) - 2 ≡ h = ap (λ (x : ℕ). C x - 2) w.3 ∙ omega (arith, w.1) in
      slot_loose h w.0 ∙ ap₂ part (ap (λ (x : ℕ). tally x mark) z) w.2

  -- every place of a fresh piece stands where the piece first appears
  pub slot_there : (k o : ℕ) → k < tally n mark → o < wide k → (select n mark k + o < n) × (slot (select n mark k + o) ≡ part k o)
  slot_there k zero l w =
      let s = select_mark n mark k l in
      let e : select n mark k + 0 ≡ select n mark k = omega arith in
      (omega (arith, s.0), ap slot e ∙ mark_slot (select n mark k) s.1 ∙ ap (λ (x : ℕ). part x 0) s.2)
  slot_there k (suc o) l w =
      let h = slot_there k o l (omega arith) in
      let a = slot_after (select n mark k + o) k o h.0 h.1 w in
      let e : select n mark k + suc o ≡ suc (select n mark k + o) = omega arith in
      let i : suc (select n mark k + o) < n = start_in n start C begin last (select n mark k + o) h.0 a.0 in
      (omega (arith, i), ap slot e ∙ a.1)

  -- a slot of a fresh piece is one of its places
  pub slot_inside : (i f o : ℕ) → i < n → slot i ≡ part f o → (f < tally n mark) × (o < wide f)
  unfolding number
  slot_inside i f o l e =
      let s = slot_part i f o e in
      let a : number i < tally n mark = tally_mono (home i) n mark (omega (arith, home_le i, front_le i)) (home_mark i l s.0) in
      let v : wide f ≡ place n start C i + reach n start C n i = ap wide (sym s.1) ∙ wide_is i l s.0 in
      (omega (arith, s.1), omega (arith, s.2, reach_pos n start C begin last n i))
