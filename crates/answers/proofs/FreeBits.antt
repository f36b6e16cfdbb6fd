-- How many free bits the answer has: the places that represent themselves are as many as the fresh pieces are wide, together.
use mathlib.Core.Path.{◌≡◌, refl, sym, ap, ◌∙◌}
use mathlib.Core.Bool.{Bool, true, false, not, ◌&&◌, cond, and-false}
use mathlib.Core.List.{List, [], ◌∷◌}
use Prim.Native.Nat.{ℕ, zero, suc, ◌+◌, ◌-◌, ◌≤◌, ◌<◌, pred}
use native.Mathlib.Omega.{arith}
use lib.Dec.{eqb}
use lib.ListN.{length, get_or, drop}
use borrow.Author.Tests.{eqb-true, eq-eqb, le-leb}
use Rattle.answers.specs.Pairs.{Pair}
use Rattle.answers.specs.inner.Classes.{rep, roots, Represents}
use Rattle.laws.specs.Lists.{tally}
use Rattle.laws.proofs.Bools.{same_test, clash}
use Rattle.laws.proofs.Lists.{tail_length, tail_at}
use Rattle.laws.proofs.Numbers.{two}
use Rattle.laws.proofs.Tallies.{select_rank, tally_front}
use Rattle.answers.proofs.Slots.{loose, glued, heads}
use Rattle.answers.proofs.Gluing.{Glue, glued_e, reach, glue_in, reach_step}
use Rattle.answers.proofs.OurPieces.{mark, wide, class_home}

pub roots-tally : (k : ℕ) (v : List ℕ) (f : ℕ → Bool) → ((i : ℕ) → f i ≡ eqb (get_or v i 0) (k + i)) → roots k v ≡ tally (length v) f
unfolding roots tally
roots-tally k [] f h = refl
roots-tally k (x ∷ v) f h =
    let e : f 0 ≡ eqb x k = h 0 ∙ ap (eqb x) (omega arith) in
    let r = roots-tally (suc k) v (λ i. f (suc i)) (λ i. h (suc i) ∙ ap (eqb (get_or v i 0)) (omega arith)) in
    let s : cond {A = ℕ} (f 0) 1 0 ≡ cond {A = ℕ} (eqb x k) 1 0 = rw e in
    omega (arith, tally_front (length v) f)

-- the sum of g over the numbers that pass
unfoldable sum_if : ℕ → (ℕ → Bool) → (ℕ → ℕ) → ℕ
sum_if zero f g = 0
sum_if (suc m) f g = cond (f m) (g m) 0 + sum_if m f g

module _ (n : ℕ) (c : List ℕ) (seen : List Pair) (inv : Represents n c seen) (one : rep c 1 ≡ 1) (start : ℕ → Bool) (begin : start 0 ≡ true) (last : start n ≡ true) where
  abbrev C : ℕ → ℕ
  C i = rep c (suc (suc i))

  -- whether place i represents itself
  abbrev own : ℕ → Bool
  own i = eqb (C i) (suc (suc i))

  abbrev first : ℕ → Bool
  first = mark n c seen inv one start begin last

  abbrev far : ℕ → ℕ
  far = reach n start C n

  -- the widths of the first k fresh pieces, together
  unfoldable pub widths_to : ℕ → ℕ
  widths_to zero = 0
  widths_to (suc k) = widths_to k + wide n c seen inv one start begin last k

  -- places of one piece represent themselves together
  own_next : (i : ℕ) → i < n → glued n start C i ≡ true → own i ≡ true → own (suc i) ≡ true
  own_next i l h t = go (C (suc i) - 2) refl
    where
      G : Glue n start C i
      G = glued_e n start C i h

      e : C i ≡ suc (suc i)
      e = eqb-true (C i) (suc (suc i)) t

      back : (j : ℕ) → C (suc i) - 2 ≡ j → (start j ≡ false) × (C (pred j) ≡ C i)
      back j q =
          G.back j (omega (arith, inv.low (suc (suc (suc i))), glue_in n start C begin last i l h))
          (ap C (sym q) ∙ class_home n c seen inv one start begin last (suc i) G.there)

      go : (j : ℕ) → C (suc i) - 2 ≡ j → own (suc i) ≡ true
      go zero q = clash (start 0) begin (back 0 q).0
      go (suc j) q =
          eq-eqb (C (suc i)) (suc (suc (suc i)))
          (omega (arith, e, (back (suc j) q).1, inv.low (suc (suc j)), inv.low (suc (suc (suc i))), G.there))

  own_before : (i : ℕ) → i < n → glued n start C i ≡ true → own (suc i) ≡ true → own i ≡ true
  own_before i l h t =
      let G = glued_e n start C i h in
      let e : C (suc i) ≡ suc (suc (suc i)) = eqb-true (C (suc i)) (suc (suc (suc i))) t in
      let w = G.onward (C i - 2) (omega (arith, inv.low (suc (suc i)))) (class_home n c seen inv one start begin last i G.here) in
      eq-eqb (C i) (suc (suc i)) (omega (arith, w.1, inv.low (suc (suc (suc (C i - 2)))), inv.low (suc (suc i)), G.here))

  own_along : (i : ℕ) → i < n → glued n start C i ≡ true → own i ≡ own (suc i)
  own_along i l h = same_test (own i) (own (suc i)) (own_next i l h) (own_before i l h)

  own_loose : (i : ℕ) → own i ≡ true → loose C i ≡ true
  own_loose i t = let e = eqb-true (C i) (suc (suc i)) t in le-leb 2 (C i) (omega arith)

  -- what is left at place m of a piece that represents itself and began before
  unfoldable rest : ℕ → ℕ
  rest zero = 0
  rest (suc m) = cond (glued n start C m && own m) (far (suc m)) 0

  reach_stop : (d i : ℕ) → glued n start C i ≡ false → reach n start C d i ≡ 1
  unfolding reach
  reach_stop zero i h = refl
  reach_stop (suc d) i h = rw h

  -- a place that represents itself begins its piece or goes on with it
  own_here : (m : ℕ) → m < n → own m ≡ true → cond {A = ℕ} (first m) (far m) 0 + rest m ≡ far m
  unfolding mark heads rest
  own_here zero l t = rw (t, own_loose 0 t) (omega arith)
  own_here (suc i) l t = go (glued n start C i) refl
    where
      go : (g : Bool) → glued n start C i ≡ g
          → cond {A = ℕ} (own (suc i) && (loose C (suc i) && not g)) (far (suc i)) 0 + cond {A = ℕ} (g && own i) (far (suc i)) 0 ≡ far (suc i)
      go true h = rw (own_along i (omega arith) h, t, own_loose (suc i) t) (omega arith)
      go false h = rw (t, own_loose (suc i) t) (omega arith)

  own_ahead : (m : ℕ) → m < n → own m ≡ true → far m ≡ 1 + rest (suc m)
  unfolding rest
  own_ahead m l t = go (glued n start C m) refl
    where
      go : (g : Bool) → glued n start C m ≡ g → far m ≡ 1 + cond {A = ℕ} (g && own m) (far (suc m)) 0
      go true h = rw t (omega (arith, reach_step n start C begin last m l h))
      go false h = omega (arith, reach_stop n m h)

  other_here : (m : ℕ) → m < n → own m ≡ false → cond {A = ℕ} (first m) (far m) 0 + rest m ≡ 0
  unfolding mark rest
  other_here zero l t = rw t
  other_here (suc i) l t = go (glued n start C i) refl
    where
      go : (g : Bool) → glued n start C i ≡ g
          → cond {A = ℕ} (own (suc i) && heads n start C (suc i)) (far (suc i)) 0 + cond {A = ℕ} (g && own i) (far (suc i)) 0 ≡ 0
      go true h = rw (own_along i (omega arith) h, t)
      go false h = rw t

  other_ahead : (m : ℕ) → own m ≡ false → rest (suc m) ≡ 0
  unfolding rest
  other_ahead m t = rw (t, and-false (glued n start C m))

  sum_own : (m : ℕ) → m ≤ n → sum_if m first far ≡ tally m own + rest m
  unfolding sum_if tally
  sum_own zero l = unfold rest in refl
  sum_own (suc m) l = go (own m) refl (sum_own m (omega arith))
    where
      go : (t : Bool) → own m ≡ t → sum_if m first far ≡ tally m own + rest m
          → cond {A = ℕ} (first m) (far m) 0 + sum_if m first far ≡ cond {A = ℕ} t 1 0 + tally m own + rest (suc m)
      go true e r = omega (arith, own_here m l e, own_ahead m l e)
      go false e r = omega (arith, other_here m l e, other_ahead m e)

  rest_none : rest n ≡ 0
  unfolding rest
  rest_none = go n refl
    where
      go : (m : ℕ) → n ≡ m → rest m ≡ 0
      go zero e = refl
      go (suc m) e = end (glued n start C m) refl
        where
          end : (g : Bool) → glued n start C m ≡ g → cond {A = ℕ} (g && own m) (far (suc m)) 0 ≡ 0
          end false h = refl
          end true h = absurd (omega (arith, glue_in n start C begin last m (omega arith) h))

  -- the k-th piece that appears is as wide as it reaches
  widths_sum : (m : ℕ) → m ≤ n → widths_to (tally m first) ≡ sum_if m first far
  unfolding widths_to tally sum_if
  widths_sum zero l = refl
  widths_sum (suc m) l = go (first m) refl (widths_sum m (omega arith))
    where
      go : (t : Bool) → first m ≡ t → widths_to (tally m first) ≡ sum_if m first far
          → widths_to (cond {A = ℕ} t 1 0 + tally m first) ≡ cond {A = ℕ} t (far m) 0 + sum_if m first far
      go true e r =
          let s : 1 + tally m first ≡ suc (tally m first) = omega arith in
          let w : wide n c seen inv one start begin last (tally m first) ≡ far m = unfold wide in ap far (select_rank n first m (omega arith) e) in
          ap widths_to s ∙ omega arith
      go false e r =
          let s : 0 + tally m first ≡ tally m first = omega arith in
          ap widths_to s ∙ omega arith

  own_roots : roots 2 (drop 2 c) ≡ tally n own
  own_roots =
      roots-tally 2 (drop 2 c) own (λ i. rw (tail_at c i, two i)) ∙ ap (λ (m : ℕ). tally m own) (tail_length c n inv.len)

  pub free_widths : roots 2 (drop 2 c) ≡ widths_to (tally n (mark n c seen inv one start begin last))
  free_widths = omega (arith, own_roots, sum_own n (omega arith), rest_none, widths_sum n (omega arith))
