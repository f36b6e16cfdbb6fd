-- The marks of different neighbours decide where places lie in one fresh piece: with the lowest place of a class as its measure, all of
-- its places have the same neighbour exactly if none is marked.
use mathlib.Core.Path.{◌≡◌, refl, sym, ap, ap₂, ◌∙◌}
use mathlib.Core.Logic.{◌⊎◌, inl, inr}
use mathlib.Core.Bool.{Bool, true, false, not, ◌&&◌, ◌||◌, cond}
use mathlib.Core.List.{List}
use Prim.Native.Nat.{ℕ, zero, suc, ◌+◌, ◌-◌, ◌≤◌, ◌<◌, pred}
use native.Mathlib.Omega.{arith}
use lib.Dec.{eqb, ltb}
use lib.ListN.{get_or}
use borrow.Author.Tests.{eqb-true, eq-eqb, lt-ltb, le-ltb, not-true, ltb-false}
use Rattle.laws.proofs.Bools.{not_both, open_mark, cond-not, cond_there, even_mark}
use Rattle.answers.specs.Pairs.{Pair}
use Rattle.answers.specs.inner.Classes.{rep, in_class}
use Rattle.laws.specs.Bools.{implies}
use Rattle.answers.specs.Answer.{begins, goes_on}
use Rattle.laws.proofs.Bools.{and_first, and_second, same_test}
use Rattle.laws.proofs.Numbers.{lt_or_le}
use Rattle.laws.proofs.Tallies.{below_of, below_at, implied}
use Rattle.answers.proofs.Slots.{glued}
use Rattle.answers.proofs.Gluing.{Glue, glued_e, glued_i}
use Rattle.answers.proofs.Relation.{goes_loose, goes_fixed}
use Rattle.borders.specs.inner.Borders.{beside_in, even_at, goes_in, Bordered}

-- neighbours that are all the same
module _ (m c : List ℕ) (side r n : ℕ) where
  abbrev f : ℕ → Bool
  f k = implies (eqb (rep c (suc (suc k))) r) (eqb (beside_in m c side k) (beside_in m c side (r - 2)))

  even_e : even_at m c side r n ≡ true → (k : ℕ) → k < n → rep c (suc (suc k)) ≡ r → beside_in m c side k ≡ beside_in m c side (r - 2)
  unfolding even_at
  even_e h k l e =
      eqb-true (beside_in m c side k) (beside_in m c side (r - 2))
      (implied (eqb (rep c (suc (suc k))) r) (eqb (beside_in m c side k) (beside_in m c side (r - 2))) (below_at n f h k l) (eq-eqb (rep c (suc (suc k))) r e))

  even_i : ((k : ℕ) → k < n → rep c (suc (suc k)) ≡ r → beside_in m c side k ≡ beside_in m c side (r - 2)) → even_at m c side r n ≡ true
  unfolding even_at
  even_i h = below_of n f (λ k l. go k l (eqb (rep c (suc (suc k))) r) refl)
    where
      go : (k : ℕ) → k < n → (t : Bool) → eqb (rep c (suc (suc k))) r ≡ t → not t || eqb (beside_in m c side k) (beside_in m c side (r - 2)) ≡ true
      go k l false e = refl
      go k l true e = eq-eqb (beside_in m c side k) (beside_in m c side (r - 2)) (h k l (eqb-true (rep c (suc (suc k))) r e))

module _ (n : ℕ) (ws c : List ℕ) (seen : List Pair) (m after before : List ℕ) (B : Bordered n ws c seen m after before) where
  abbrev C : ℕ → ℕ
  C i = rep c (suc (suc i))

  abbrev S : ℕ → Bool
  S = begins ws

  mark_is : (i : ℕ) → i ≤ n → eqb (get_or m i 0) 0 ≡ not (S i)
  mark_is i l = rw (B.marks_are i l) (open_mark (S i))

  next_is : (k : ℕ) → k < n → beside_in m c 1 k ≡ cond (S (suc k)) 0 (C (suc k))
  unfolding beside_in
  next_is k l =
      let e : k + 1 ≡ suc k = omega arith in
      let f : k + 1 + 1 + 1 ≡ suc (suc (suc k)) = omega arith in
      ap₂ (λ (i j : ℕ). cond (eqb (get_or m i 0) 0) (get_or c j 0) 0) e f
      ∙ ap (λ (t : Bool). cond t (C (suc k)) 0) (mark_is (suc k) (omega arith)) ∙ cond-not (S (suc k)) (C (suc k))

  previous_is : (k : ℕ) → k < n → beside_in m c 0 k ≡ cond (S k) 0 (rep c (suc k))
  unfolding beside_in
  previous_is k l =
      let e : k + 0 ≡ k = omega arith in
      let f : k + 0 + 0 + 1 ≡ suc k = omega arith in
      ap₂ (λ (i j : ℕ). cond (eqb (get_or m i 0) 0) (get_or c j 0) 0) e f
      ∙ ap (λ (t : Bool). cond t (rep c (suc k)) 0) (mark_is k (omega arith)) ∙ cond-not (S k) (rep c (suc k))

  next_open : (k : ℕ) → k < n → S (suc k) ≡ false → beside_in m c 1 k ≡ C (suc k)
  next_open k l h = next_is k l ∙ ap (λ (t : Bool). cond t 0 (C (suc k))) h

  next_of : (k y : ℕ) → k < n → beside_in m c 1 k ≡ y → 0 < y → (S (suc k) ≡ false) × (C (suc k) ≡ y)
  next_of k y l e p = cond_there (S (suc k)) (C (suc k)) y (sym (next_is k l) ∙ e) p

  -- the place before one where no variable begins is cond_there
  before_place : (k : ℕ) → S k ≡ false → rep c (suc k) ≡ C (pred k)
  before_place zero h = absurd (not_both B.from h)
  before_place (suc k) h = refl

  previous_open : (k : ℕ) → k < n → S k ≡ false → beside_in m c 0 k ≡ C (pred k)
  previous_open k l h = previous_is k l ∙ ap (λ (t : Bool). cond t 0 (rep c (suc k))) h ∙ before_place k h

  previous_of : (k y : ℕ) → k < n → beside_in m c 0 k ≡ y → 0 < y → (S k ≡ false) × (C (pred k) ≡ y)
  previous_of k y l e p =
      let g = cond_there (S k) (rep c (suc k)) y (sym (previous_is k l) ∙ e) p in
      (g.0, sym (before_place k g.0) ∙ g.1)

  -- the lowest place of a class
  lowest_in : (i : ℕ) → i < n → 2 ≤ C i → (C i - 2 < n) × (C (C i - 2) ≡ C i)
  lowest_in i l h =
      let e : suc (suc (C i - 2)) ≡ C i = omega arith in
      (omega (arith, B.classed.low (suc (suc i))), ap (rep c) e ∙ B.classed.root (suc (suc i)))

  within : (i : ℕ) → i < n → C i < n + 2
  within i l = omega (arith, B.classed.low (suc (suc i)))

  after_even : (i : ℕ) → i < n → eqb (get_or after (C i) 0) 0 ≡ even_at m c 1 (C i) n
  after_even i l = rw (B.after_is (C i) (within i l)) (even_mark (even_at m c 1 (C i) n))

  before_even : (i : ℕ) → i < n → eqb (get_or before (C i) 0) 0 ≡ even_at m c 0 (C i) n
  before_even i l = rw (B.before_is (C i) (within i l)) (even_mark (even_at m c 0 (C i) n))

  module _ (j : ℕ) (l : suc j < n) where
    -- what makes two neighbours one piece, in marks
    to_glue : 2 ≤ C j → 2 ≤ C (suc j) → S (suc j) ≡ false → even_at m c 1 (C j) n ≡ true → even_at m c 0 (C (suc j)) n ≡ true → Glue n S C j
    to_glue h t o a b =
        record {
          here = h;
          there = t;
          open' = o;
          back = λ k g e.
              previous_of k (C j) g (even_e m c 0 (C (suc j)) n b k g e ∙ sym (even_e m c 0 (C (suc j)) n b (suc j) l refl) ∙ previous_open (suc j) l o) (omega arith);
          onward = λ k g e.
              next_of k (C (suc j)) g (even_e m c 1 (C j) n a k g e ∙ sym (even_e m c 1 (C j) n a j (omega arith) refl) ∙ next_open j (omega arith) o) (omega arith);
        }

    from_after : Glue n S C j → even_at m c 1 (C j) n ≡ true
    from_after G = even_i m c 1 (C j) n (λ k g e. each k g e ∙ sym (each (C j - 2) low.0 low.1))
      where
        low : (C j - 2 < n) × (C (C j - 2) ≡ C j)
        low = lowest_in j (omega arith) G.here

        each : (k : ℕ) → k < n → C k ≡ C j → beside_in m c 1 k ≡ C (suc j)
        each k g e = let w = G.onward k g e in next_open k g w.0 ∙ w.1

    from_before : Glue n S C j → even_at m c 0 (C (suc j)) n ≡ true
    from_before G = even_i m c 0 (C (suc j)) n (λ k g e. each k g e ∙ sym (each (C (suc j) - 2) low.0 low.1))
      where
        low : (C (suc j) - 2 < n) × (C (C (suc j) - 2) ≡ C (suc j))
        low = lowest_in (suc j) l G.there

        each : (k : ℕ) → k < n → C k ≡ C (suc j) → beside_in m c 0 k ≡ C j
        each k g e = let w = G.back k g e in previous_open k g w.0 ∙ w.1

    abbrev free : Bool
    free = not (ltb (C j) 2)

    abbrev ends : Bool
    ends = eqb (get_or after (C j) 0) 0

    abbrev starts : Bool
    starts = eqb (get_or before (C (suc j)) 0) 0

    marks_glue : 2 ≤ C (suc j) → not (S (suc j)) && (not (ltb (C j) 2) && eqb (get_or after (C j) 0) 0 && eqb (get_or before (C (suc j)) 0) 0) ≡ true → glued n S C j ≡ true
    marks_glue t h =
        let o = not-true (S (suc j)) (and_first (not (S (suc j))) (free && ends && starts) h) in
        let r = and_second (not (S (suc j))) (free && ends && starts) h in
        let q = and_first (free && ends) starts r in
        glued_i n S C j
        (to_glue
        (ltb-false (C j) 2 (not-true (ltb (C j) 2) (and_first free ends q)))
        t
        o
        (sym (after_even j (omega arith)) ∙ and_second free ends q)
        (sym (before_even (suc j) l) ∙ and_second (free && ends) starts r))

    glue_marks : glued n S C j ≡ true → not (S (suc j)) && (not (ltb (C j) 2) && eqb (get_or after (C j) 0) 0 && eqb (get_or before (C (suc j)) 0) 0) ≡ true
    glue_marks h =
        let G = glued_e n S C j h in
        rw (G.open', le-ltb (C j) 2 G.here, after_even j (omega arith), before_even (suc j) l, from_after G) (from_before G)

  -- the test of the code is that of the answer
  pub goes_is : (i : ℕ) → i < n → goes_in m c after before i ≡ goes_on n ws (in_class c) i
  unfolding goes_in
  goes_is zero l = rw (mark_is 0 (omega arith), B.from) (unfold goes_on in refl)
  goes_is (suc j) l = rw (mark_is (suc j) (omega arith)) (go (lt_or_le (C (suc j)) 2))
    where
      go : (C (suc j) < 2) ⊎ (2 ≤ C (suc j))
          → not (S (suc j)) && cond (ltb (C (suc j)) 2) (eqb (C j) (C (suc j))) (not (ltb (C j) 2) && eqb (get_or after (C j) 0) 0 && eqb (get_or before (C (suc j)) 0) 0)
          ≡ goes_on n ws (in_class c) (suc j)
      go (inl k) = rw (lt-ltb (C (suc j)) 2 k) (sym (goes_fixed n c seen B.classed B.apart ws j k))
      go (inr k) =
          rw (le-ltb (C (suc j)) 2 k, goes_loose n c seen B.classed B.apart ws j k)
          (same_test (not (S (suc j)) && (not (ltb (C j) 2) && eqb (get_or after (C j) 0) 0 && eqb (get_or before (C (suc j)) 0) 0)) (glued n S C j) (marks_glue j l k) (glue_marks j l))
