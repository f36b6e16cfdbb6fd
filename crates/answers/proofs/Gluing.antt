-- Neighbours in one piece, over the class C of each place: tied places stand at the same distance from the heads of their pieces, and
-- their pieces go on equally far.
use mathlib.Core.Path.{◌≡◌, refl, sym, ap, ◌∙◌}
use mathlib.Core.Logic.{◌⊎◌, inl, inr, ◌≢◌}
use mathlib.Core.Bool.{Bool, true, false, not, ◌&&◌, ◌||◌, cond}
use Prim.Native.Nat.{ℕ, zero, suc, ◌+◌, ◌≤◌, ◌<◌, pred}
use native.Mathlib.Omega.{arith}
use lib.Dec.{eqb}
use borrow.Author.Tests.{eqb-true, eq-eqb, leb-true, le-leb, not-true}
use Rattle.laws.specs.Lists.{below}
use Rattle.laws.proofs.Bools.{and_first, and_both, and_parts, same_test, clash}
use Rattle.laws.proofs.Numbers.{dec_eq}
use Rattle.laws.proofs.Tallies.{below_of, below_at, implied}
use Rattle.answers.proofs.Slots.{loose, glued, heads}

-- what the rule says, as facts
pub record Glue (n : ℕ) (start : ℕ → Bool) (C : ℕ → ℕ) (i : ℕ) : Type 0 where
  pub here : 2 ≤ C i
  pub there : 2 ≤ C (suc i)
  pub open' : start (suc i) ≡ false
  pub back : (k : ℕ) → k < n → C k ≡ C (suc i) → (start k ≡ false) × (C (pred k) ≡ C i)
  pub onward : (k : ℕ) → k < n → C k ≡ C i → (start (suc k) ≡ false) × (C (suc k) ≡ C (suc i))

module _ (n : ℕ) (start : ℕ → Bool) (C : ℕ → ℕ) where
  -- its two tests of place k
  abbrev bk : ℕ → ℕ → Bool
  bk i k = not (eqb (C k) (C (suc i))) || (not (start k) && eqb (C (pred k)) (C i))

  abbrev fw : ℕ → ℕ → Bool
  fw i k = not (eqb (C k) (C i)) || (not (start (suc k)) && eqb (C (suc k)) (C (suc i)))

  pub glued_e : (i : ℕ) → glued n start C i ≡ true → Glue n start C i
  unfolding glued
  glued_e i h =
      let p = and_parts (loose C i && loose C (suc i) && not (start (suc i)) && below n (bk i)) (below n (fw i)) h in
      let q = and_parts (loose C i && loose C (suc i) && not (start (suc i))) (below n (bk i)) p.0 in
      let r = and_parts (loose C i && loose C (suc i)) (not (start (suc i))) q.0 in
      let s = and_parts (loose C i) (loose C (suc i)) r.0 in
      record {
        here = leb-true 2 (C i) s.0;
        there = leb-true 2 (C (suc i)) s.1;
        open' = not-true (start (suc i)) r.1;
        back = λ k l e. both (start k) (C (pred k)) (C i) (implied (eqb (C k) (C (suc i))) _ (below_at n (bk i) q.1 k l) (eq-eqb (C k) (C (suc i)) e));
        onward = λ k l e. both (start (suc k)) (C (suc k)) (C (suc i)) (implied (eqb (C k) (C i)) _ (below_at n (fw i) p.1 k l) (eq-eqb (C k) (C i) e));
      }
    where
      both : (a : Bool) (x y : ℕ) → not a && eqb x y ≡ true → (a ≡ false) × (x ≡ y)
      both a x y t = let p = and_parts (not a) (eqb x y) t in (not-true a p.0, eqb-true x y p.1)

  pub glued_i : (i : ℕ) → Glue n start C i → glued n start C i ≡ true
  unfolding glued
  glued_i i G = rw (le-leb 2 (C i) G.here, le-leb 2 (C (suc i)) G.there, G.open', below_of n (bk i) bk1) (below_of n (fw i) fw1)
    where
      bk1 : (k : ℕ) → k < n → bk i k ≡ true
      bk1 k l = go (eqb (C k) (C (suc i))) refl
        where
          go : (t : Bool) → eqb (C k) (C (suc i)) ≡ t → not t || (not (start k) && eqb (C (pred k)) (C i)) ≡ true
          go false e = refl
          go true e = let g = G.back k l (eqb-true (C k) (C (suc i)) e) in rw g.0 (eq-eqb (C (pred k)) (C i) g.1)

      fw1 : (k : ℕ) → k < n → fw i k ≡ true
      fw1 k l = go (eqb (C k) (C i)) refl
        where
          go : (t : Bool) → eqb (C k) (C i) ≡ t → not t || (not (start (suc k)) && eqb (C (suc k)) (C (suc i))) ≡ true
          go false e = refl
          go true e = let g = G.onward k l (eqb-true (C k) (C i) e) in rw g.0 (eq-eqb (C (suc k)) (C (suc i)) g.1)

  -- where i and j are in one class, the piece goes on after i exactly when it goes on after j
  pub glue_over : (i j : ℕ) → i < n → j < n → C i ≡ C j → glued n start C i ≡ true → glued n start C j ≡ true
  glue_over i j a b e h =
      let G = glued_e i h in
      let u = G.onward j b (sym e) in
      glued_i j (record {
        here = omega (arith, G.here);
        there = omega (arith, G.there, u.1);
        open' = u.0;
        back = λ k l q. let w = G.back k l (q ∙ u.1) in (w.0, w.1 ∙ e);
        onward = λ k l q. let w = G.onward k l (q ∙ sym e) in (w.0, w.1 ∙ sym u.1);
      })

  pub glue_class : (i j : ℕ) → i < n → j < n → C i ≡ C j → glued n start C i ≡ glued n start C j
  glue_class i j a b e = same_test (glued n start C i) (glued n start C j) (glue_over i j a b e) (glue_over j i b a (sym e))

  -- the same from the second bit
  pub glue_under : (i j : ℕ) → suc i < n → suc j < n → C (suc i) ≡ C (suc j) → glued n start C i ≡ true → glued n start C j ≡ true
  glue_under i j a b e h = glue_over i j (omega arith) (omega arith) (sym ((glued_e i h).back (suc j) b (sym e)).1) h

  pub glue_both : (i j : ℕ) → suc i < n → suc j < n → C (suc i) ≡ C (suc j) → glued n start C i ≡ glued n start C j
  glue_both i j a b e = same_test (glued n start C i) (glued n start C j) (glue_under i j a b e) (glue_under j i b a (sym e))

-- the place in its piece, the piece's first bit, and how far the piece goes on
unfoldable pub place : ℕ → (ℕ → Bool) → (ℕ → ℕ) → ℕ → ℕ
place n start C zero = 0
place n start C (suc i) = cond (glued n start C i) (suc (place n start C i)) 0

unfoldable pub front : ℕ → (ℕ → Bool) → (ℕ → ℕ) → ℕ → ℕ
front n start C zero = 0
front n start C (suc i) = cond (glued n start C i) (front n start C i) (suc i)

unfoldable pub reach : ℕ → (ℕ → Bool) → (ℕ → ℕ) → ℕ → ℕ → ℕ
reach n start C zero i = 1
reach n start C (suc d) i = cond (glued n start C i) (suc (reach n start C d (suc i))) 1

module _ (n : ℕ) (start : ℕ → Bool) (C : ℕ → ℕ) (begin : start 0 ≡ true) (last : start n ≡ true) where
  g : ℕ → Bool
  g i = glued n start C i

  pub front_place : (i : ℕ) → front n start C i + place n start C i ≡ i
  unfolding front place
  front_place zero = refl
  front_place (suc i) = go (glued n start C i) (front_place i)
    where
      go : (t : Bool) → front n start C i + place n start C i ≡ i
          → cond t (front n start C i) (suc i) + cond t (suc (place n start C i)) 0 ≡ suc i
      go true e = omega arith
      go false e = omega arith

  -- a place with no start behind it is not the last, so a piece does not go on past the end
  pub start_in : (i : ℕ) → i < n → start (suc i) ≡ false → suc i < n
  start_in i l s = go (dec_eq (suc i) n)
    where
      go : (suc i ≡ n) ⊎ (suc i ≢ n) → suc i < n
      go (inl e) = clash (start (suc i)) (ap start e ∙ last) s
      go (inr e) = omega arith

  pub glue_in : (i : ℕ) → i < n → glued n start C i ≡ true → suc i < n
  glue_in i l h = start_in i l (glued_e n start C i h).open'

  pub glue_end : (j : ℕ) → n ≡ suc j → glued n start C j ≡ false
  glue_end j e = go (glued n start C j) refl
    where
      go : (t : Bool) → glued n start C j ≡ t → glued n start C j ≡ false
      go true h = absurd (omega (arith, glue_in j (omega arith) h))
      go false h = h

  -- both bits are glued to the one before them, or neither is
  pub place_class : (i j : ℕ) → i < n → j < n → C i ≡ C j → (place n start C i ≡ place n start C j) × (C (front n start C i) ≡ C (front n start C j))
  unfolding place front
  place_class zero zero a b e = (refl, refl)
  place_class (suc i) zero a b e = go (glued n start C i) refl
    where
      go : (t : Bool) → glued n start C i ≡ t → (cond t (suc (place n start C i)) 0 ≡ 0) × (C (cond t (front n start C i) (suc i)) ≡ C 0)
      go false h = (refl, e)
      go true h = clash (start 0) begin ((glued_e n start C i h).back 0 b (sym e)).0
  place_class zero (suc j) a b e = go (glued n start C j) refl
    where
      go : (t : Bool) → glued n start C j ≡ t → (0 ≡ cond t (suc (place n start C j)) 0) × (C 0 ≡ C (cond t (front n start C j) (suc j)))
      go false h = (refl, e)
      go true h = clash (start 0) begin ((glued_e n start C j h).back 0 a e).0
  place_class (suc i) (suc j) a b e = go (glued n start C i) (glued n start C j) refl refl (λ (q : C i ≡ C j). place_class i j (omega arith) (omega arith) q)
    where
      go : (s t : Bool) → glued n start C i ≡ s → glued n start C j ≡ t
          → (C i ≡ C j → (place n start C i ≡ place n start C j) × (C (front n start C i) ≡ C (front n start C j)))
          → (cond s (suc (place n start C i)) 0 ≡ cond t (suc (place n start C j)) 0)
          × (C (cond s (front n start C i) (suc i)) ≡ C (cond t (front n start C j) (suc j)))
      go false false h k r = (refl, e)
      go true true h k r = let w = r (sym ((glued_e n start C i h).back (suc j) b (sym e)).1) in (ap suc w.0, w.1)
      go true false h k r = clash (glued n start C j) (glue_under n start C i j a b e h) k
      go false true h k r = clash (glued n start C i) (glue_under n start C j i b a (sym e) k) h

  -- pieces of one class go on equally far
  pub reach_class : (d e i j : ℕ) → n ≤ d + i → n ≤ e + j → i < n → j < n → C i ≡ C j → reach n start C d i ≡ reach n start C e j
  unfolding reach
  reach_class zero e i j a b s t q = absurd (omega arith)
  reach_class (suc d) zero i j a b s t q = absurd (omega arith)
  reach_class (suc d) (suc e) i j a b s t q =
      go (glued n start C i) refl
      (λ (s1 : suc i < n) (t1 : suc j < n) (r : C (suc i) ≡ C (suc j)). reach_class d e (suc i) (suc j) (omega arith) (omega arith) s1 t1 r)
    where
      go : (x : Bool) → glued n start C i ≡ x
          → (suc i < n → suc j < n → C (suc i) ≡ C (suc j) → reach n start C d (suc i) ≡ reach n start C e (suc j))
          → cond x (suc (reach n start C d (suc i))) 1 ≡ cond (glued n start C j) (suc (reach n start C e (suc j))) 1
      go false h r = rw (← glue_class n start C i j s t q, h)
      go true h r =
          let k : glued n start C j ≡ true = glue_over n start C i j s t q h in
          rw k (ap suc (r (glue_in i s h) (glue_in j t k) (sym ((glued_e n start C i h).onward j t (sym q)).1)))

  pub reach_pos : (d i : ℕ) → 1 ≤ reach n start C d i
  unfolding reach
  reach_pos zero i = omega arith
  reach_pos (suc d) i = go (glued n start C i)
    where
      go : (t : Bool) → 1 ≤ cond t (suc (reach n start C d (suc i))) 1
      go true = omega arith
      go false = omega arith

  -- one step along a piece
  pub reach_step : (i : ℕ) → i < n → glued n start C i ≡ true → reach n start C n i ≡ suc (reach n start C n (suc i))
  unfolding reach
  reach_step i l h = go n refl
    where
      go : (m : ℕ) → n ≡ m → reach n start C n i ≡ suc (reach n start C n (suc i))
      go zero e = absurd (omega arith)
      go (suc m) e =
          let l1 = glue_in i l h in
          reach_class n (suc m) i i (omega arith) (omega arith) l l refl
          ∙ rw h (ap suc (reach_class m n (suc i) (suc i) (omega arith) (omega arith) l1 l1 refl))

  pub reach_front : (i : ℕ) → i < n → reach n start C n (front n start C i) ≡ place n start C i + reach n start C n i
  unfolding front place
  reach_front zero l = omega arith
  reach_front (suc i) l = go (glued n start C i) refl (reach_front i (omega arith))
    where
      go : (t : Bool) → glued n start C i ≡ t → reach n start C n (front n start C i) ≡ place n start C i + reach n start C n i
          → reach n start C n (cond t (front n start C i) (suc i)) ≡ cond t (suc (place n start C i)) 0 + reach n start C n (suc i)
      go true h e = omega (arith, reach_step i (omega arith) h)
      go false h e = omega arith

  pub reach_two : (d i : ℕ) → 1 < reach n start C d i → glued n start C i ≡ true
  unfolding reach
  reach_two zero i h = absurd (omega arith)
  reach_two (suc d) i h = go (glued n start C i) h
    where
      go : (t : Bool) → 1 < cond t (suc (reach n start C d (suc i))) 1 → t ≡ true
      go true k = refl
      go false k = absurd (omega arith)

  -- the first bit of a piece is glued to nothing before it
  pub front_head : (i : ℕ) → 2 ≤ C (front n start C i) → heads n start C (front n start C i) ≡ true
  unfolding front heads
  front_head zero h = le-leb 2 (C 0) h
  front_head (suc i) h = go (glued n start C i) refl h (λ k. front_head i k)
    where
      go : (t : Bool) → glued n start C i ≡ t → 2 ≤ C (cond t (front n start C i) (suc i)) → (2 ≤ C (front n start C i) → heads n start C (front n start C i) ≡ true)
          → heads n start C (cond t (front n start C i) (suc i)) ≡ true
      go true e k r = r k
      go false e k r = rw (le-leb 2 (C (suc i)) k, e)

  pub front_loose : (i : ℕ) → 2 ≤ C i → 2 ≤ C (front n start C i)
  unfolding front
  front_loose zero h = h
  front_loose (suc i) h = go (glued n start C i) refl (λ k. front_loose i k)
    where
      go : (t : Bool) → glued n start C i ≡ t → (2 ≤ C i → 2 ≤ C (front n start C i)) → 2 ≤ C (cond t (front n start C i) (suc i))
      go true e r = r (glued_e n start C i e).here
      go false e r = h

  -- heads go by classes
  pub heads_class : (i j : ℕ) → i < n → j < n → C i ≡ C j → heads n start C i ≡ true → heads n start C j ≡ true
  unfolding heads
  heads_class zero zero a b e h = h
  heads_class zero (suc j) a b e h = go (glued n start C j) refl
    where
      go : (t : Bool) → glued n start C j ≡ t → loose C (suc j) && not t ≡ true
      go false k = and_both (loose C (suc j)) true (rw (← e) h) refl
      go true k = clash (start 0) begin ((glued_e n start C j k).back 0 a e).0
  heads_class (suc i) zero a b e h = rw (← e) (and_first (loose C (suc i)) (not (glued n start C i)) h)
  heads_class (suc i) (suc j) a b e h = rw (← glue_both n start C i j a b e, ← e) h
