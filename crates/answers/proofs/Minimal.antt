-- Every solved system with the same patterns has as many fresh pieces, or more.
use mathlib.Core.Path.{◌≡◌, refl, sym, ap, ◌∙◌}
use mathlib.Core.Logic.{◌⊎◌, inl, inr, ◌≢◌}
use mathlib.Core.Bool.{Bool, true, false, not, ◌&&◌, cond}
use mathlib.Core.List.{List}
use Prim.Native.Nat.{ℕ, zero, suc, ◌≤◌, ◌<◌, pred}
use native.Mathlib.Omega.{arith}
use lib.Dec.{eqb}
use borrow.Author.Tests.{eqb-true, eq-eqb, leb-true, not-true}
use Rattle.terms.specs.Assignments.{Assignment}
use Rattle.terms.specs.Table.{bit_of}
use Rattle.answers.specs.Pairs.{Pair, satisfies_pairs}
use Rattle.answers.specs.inner.Classes.{rep, Represents}
use Rattle.laws.specs.Lists.{below, member, distinct}
use Rattle.laws.proofs.Bools.{and_first, and_second, one_most, clash}
use Rattle.laws.proofs.Numbers.{lt_or_le}
use Rattle.answers.proofs.Exact.{equals_to}
use Rattle.laws.proofs.Tallies.{pigeon}
use Rattle.answers.proofs.Agreement.{place_bit, fixed-bit, fixed_class}
use Rattle.answers.proofs.Gluing.{glued_i}
use Rattle.answers.proofs.Slots.{equals_from, slots_assignment, slots_at, Slot, fill, part, value, System, loose, glued, heads, fresh}
use Rattle.laws.proofs.Lists.{tab}

module _ (n : ℕ) (c : List ℕ) (seen : List Pair) (inv : Represents n c seen) (one : rep c 1 ≡ 1) (start : ℕ → Bool) (last : start n ≡ true) (S : System n start seen) where
  abbrev C : ℕ → ℕ
  C i = rep c (suc (suc i))

  -- what holds in every pattern is in the classes, and the other way round
  pub class_i : (s t : ℕ) → ((p : List ℕ) → Assignment n p → satisfies_pairs p seen ≡ true → bit_of p s ≡ bit_of p t) → rep c s ≡ rep c t
  class_i s t h = equals_to n c seen inv one s t (equals_from n seen s t h)

  pub class_e : (s t : ℕ) → rep c s ≡ rep c t → (p : List ℕ) → Assignment n p → satisfies_pairs p seen ≡ true → bit_of p s ≡ bit_of p t
  class_e s t e p h m = cc (inv.just p h m s, inv.just p h m t)

  -- one place of the system: one class
  slot_class : (i j f o : ℕ) → i < n → j < n → S.slot i ≡ part f o → S.slot j ≡ part f o → C i ≡ C j
  slot_class i j f o a b s t =
      class_i (suc (suc i)) (suc (suc j)) (λ p h m.
      let k = S.takes p h m in
      cc (k.1 i a, k.1 j b, place_bit p i, place_bit p j))

  -- the pattern of a filling
  given : (ℕ → ℕ → ℕ) → List ℕ
  given φ = tab n (λ i. value φ (S.slot i))

  given_assignment : (φ : ℕ → ℕ → ℕ) → ((f o : ℕ) → φ f o ≤ 1) → Assignment n (given φ)
  unfolding given
  given_assignment = slots_assignment n S.slot S.bits

  given_at : (φ : ℕ → ℕ → ℕ) (i : ℕ) → i < n → bit_of (given φ) (suc (suc i)) ≡ value φ (S.slot i)
  unfolding given
  given_at = slots_at n S.slot

  -- the filling with 1 at bit o of piece f alone
  mark : ℕ → ℕ → ℕ → ℕ → ℕ
  mark f o g u = cond (eqb g f && eqb u o) 1 0

  mark_le : (f o g u : ℕ) → mark f o g u ≤ 1
  unfolding mark
  mark_le f o g u = one_most (eqb g f && eqb u o)

  mark_self : (f o : ℕ) → mark f o f o ≡ 1
  unfolding mark
  mark_self f o = rw (eq-eqb f f refl, eq-eqb o o refl)

  mark_one : (f o g u : ℕ) → mark f o g u ≡ 1 → (g ≡ f) × (u ≡ o)
  unfolding mark
  mark_one f o g u e = go (eqb g f) (eqb u o) refl refl e
    where
      go : (a b : Bool) → eqb g f ≡ a → eqb u o ≡ b → cond {A = ℕ} (a && b) 1 0 ≡ 1 → (g ≡ f) × (u ≡ o)
      go true true s t k = (eqb-true g f s, eqb-true u o t)
      go true false s t k = absurd (omega arith)
      go false b s t k = absurd (omega arith)

  -- two bits of one class have one value under every filling
  class_value : (i j : ℕ) → i < n → j < n → C i ≡ C j → (φ : ℕ → ℕ → ℕ) → ((f o : ℕ) → φ f o ≤ 1) → value φ (S.slot i) ≡ value φ (S.slot j)
  unfolding given
  class_value i j a b e φ h = cc (class_e (suc (suc i)) (suc (suc j)) e (given φ) (given_assignment φ h) (S.gives φ h), given_at φ i a, given_at φ j b)

  class_slot : (i j f o : ℕ) → i < n → j < n → C i ≡ C j → S.slot i ≡ part f o → S.slot j ≡ part f o
  class_slot i j f o a b e s = go (S.slot j) refl
    where
      one_at : (φ : ℕ → ℕ → ℕ) → ((f o : ℕ) → φ f o ≤ 1) → φ f o ≡ value φ (S.slot j)
      one_at φ h = ap (value φ) (sym s) ∙ class_value i j a b e φ h

      go : (x : Slot) → S.slot j ≡ x → S.slot j ≡ part f o
      go (fill v) t =
          let k1 : mark f o f o ≡ v = one_at (mark f o) (mark_le f o) ∙ ap (value (mark f o)) t in
          let k0 : 0 ≡ v = one_at (λ g u. 0) (λ g u. omega arith) ∙ ap (value (λ g u. 0)) t in
          absurd (omega (arith, mark_self f o))
      go (part g u) t =
          let k : mark f o f o ≡ mark f o g u = one_at (mark f o) (mark_le f o) ∙ ap (value (mark f o)) t in
          let m = mark_one f o g u (sym k ∙ mark_self f o) in
          cc

  loose_slot : (i : ℕ) → i < n → 2 ≤ C i → (f : ℕ) × (o : ℕ) × (S.slot i ≡ part f o)
  loose_slot i l h = go (S.slot i) refl
    where
      go : (x : Slot) → S.slot i ≡ x → (f : ℕ) × (o : ℕ) × (S.slot i ≡ part f o)
      go (fill b) t =
          let s = S.bits i b t in
          let e = class_i (suc (suc i)) b (λ p k m. let w = S.takes p k m in cc (w.1 i l, place_bit p i, fixed-bit p b s)) in
          absurd (omega (arith, fixed_class n c seen inv one b s))
      go (part f o) t = (f, o, t)

  part_loose : (i f o : ℕ) → i < n → S.slot i ≡ part f o → 2 ≤ C i
  unfolding given
  part_loose i f o l t = go (lt_or_le (C i) 2)
    where
      go : (C i < 2) ⊎ (2 ≤ C i) → 2 ≤ C i
      go (inr h) = h
      go (inl h) =
          let b : ℕ = C i in
          let e : rep c (suc (suc i)) ≡ rep c b = sym (fixed_class n c seen inv one b (omega arith)) in
          let at : (φ : ℕ → ℕ → ℕ) → ((f o : ℕ) → φ f o ≤ 1) → φ f o ≡ b = λ φ k. cc (class_e (suc (suc i)) b e (given φ) (given_assignment φ k) (S.gives φ k), given_at φ i l, fixed-bit (given φ) b (omega arith)) in
          absurd (omega (arith, mark_self f o, at (mark f o) (mark_le f o), at (λ g u. 0) (λ g u. omega arith)))

  -- where the other system goes on with a piece, so does the rule
  glue : (i f o : ℕ) → suc i < n → S.slot (suc i) ≡ part f (suc o) → glued n start C i ≡ true
  glue i f o l t =
      glued_i n start C i (record {
        here = part_loose i f o (omega arith) low.1;
        there = part_loose (suc i) f (suc o) l t;
        open' = low.0;
        back = λ k m e. at k m (class_slot (suc i) k f (suc o) l m (sym e) t);
        onward = λ k m e.
            let u = S.after k f o m (class_slot i k f o (omega arith) m (sym e) low.1) (S.inside (suc i) f (suc o) l t).1 in
            let w : suc k ≢ n = λ q. clash (start (suc k)) (ap start q ∙ last) u.0 in
            (u.0, slot_class (suc k) (suc i) f (suc o) (omega arith) l u.1 t);
      })
    where
      low : (start (suc i) ≡ false) × (S.slot i ≡ part f o)
      low = S.before i f o l t

      at : (k : ℕ) → k < n → S.slot k ≡ part f (suc o) → (start k ≡ false) × (C (pred k) ≡ C i)
      at zero m s = absurd (S.first f o s)
      at (suc k) m s = let u = S.before k f o m s in (u.0, slot_class k i f o (omega arith) (omega arith) u.1 low.1)

  heads_loose : (i : ℕ) → heads n start C i ≡ true → 2 ≤ C i
  unfolding heads
  heads_loose zero h = leb-true 2 (C zero) h
  heads_loose (suc i) h = leb-true 2 (C (suc i)) (and_first (loose C (suc i)) (not (glued n start C i)) h)

  -- the head of a piece of ours is the head of a piece of the system
  head_zero : (i f o : ℕ) → i < n → heads n start C i ≡ true → S.slot i ≡ part f o → o ≡ 0
  unfolding heads
  head_zero i f zero l h t = refl
  head_zero zero f (suc o) l h t = absurd (S.first f o t)
  head_zero (suc i) f (suc o) l h t =
      let g = glue i f o l t in
      let k = not-true (glued n start C i) (and_second (loose C (suc i)) (not (glued n start C i)) h) in
      cc

  piece : Slot → ℕ
  piece (fill b) = 0
  piece (part f o) = f

  pub minimal : fresh n start C ≤ distinct S.labels
  unfolding fresh piece
  minimal = pigeon S.labels n (λ i. eqb (C i) (suc (suc i)) && heads n start C i) (λ i. piece (S.slot i)) below inj
    where
      root : (i : ℕ) → eqb (C i) (suc (suc i)) && heads n start C i ≡ true → C i ≡ suc (suc i)
      root i h = eqb-true (C i) (suc (suc i)) (and_first (eqb (C i) (suc (suc i))) (heads n start C i) h)

      at : (i : ℕ) → i < n → eqb (C i) (suc (suc i)) && heads n start C i ≡ true → (f : ℕ) × (S.slot i ≡ part f 0)
      at i l h =
          let k = and_second (eqb (C i) (suc (suc i))) (heads n start C i) h in
          let u = loose_slot i l (heads_loose i k) in
          (u.0, u.2 ∙ ap (part u.0) (head_zero i u.0 u.1 l k u.2))

      below : (i : ℕ) → i < n → eqb (C i) (suc (suc i)) && heads n start C i ≡ true → member (piece (S.slot i)) S.labels ≡ true
      below i l h = let u = at i l h in rw u.1 (S.inside i u.0 0 l u.1).0

      inj : (i j : ℕ) → i < n → j < n → eqb (C i) (suc (suc i)) && heads n start C i ≡ true → eqb (C j) (suc (suc j)) && heads n start C j ≡ true
          → piece (S.slot i) ≡ piece (S.slot j) → i ≡ j
      inj i j a b s t e =
          let u = at i a s in
          let w = at j b t in
          let f : u.0 ≡ w.0 = sym (ap piece u.1) ∙ e ∙ ap piece w.1 in
          let same = slot_class i j u.0 0 a b u.1 (w.1 ∙ ap (λ (x : ℕ). part x 0) (sym f)) in
          omega (arith, root i s, root j t)
