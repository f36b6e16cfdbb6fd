-- Pairs that link alike: eight of them are counted, and pass at once.
use mathlib.Core.Path.{◌≡◌, refl, sym, ap, ◌∙◌}
use mathlib.Core.Logic.{⊎_elim}
use mathlib.Core.Bool.{Bool, true, false, cond}
use mathlib.Core.List.{List}
use Prim.Native.Nat.{ℕ, ◌+◌, ◌-◌, ◌%◌, ◌≤◌, ◌<◌, min}
use native.Mathlib.Omega.{arith}
use lib.Dec.{eqb}
use lib.ListN.{length, get_or, take, drop}
use lib.Seq.{get_or-take, get_or-drop}
use borrow.Author.Tests.{eqb-true, eqb-false, eq-eqb}
use Rattle.laws.proofs.Numbers.{lt_or_le}
use Rattle.terms.specs.declared.Row.{Row}
use Rattle.terms.specs.Table.{row_at}
use Rattle.sides.specs.declared.Reader.{Reader}
use Rattle.sides.specs.inner.Reading.{Stands, risen}
use Rattle.sides.specs.inner.Sides.{SidesRead, left_side, right_side}
use Rattle.sides.proofs.Reading.{risen_stands}
use Rattle.taking.specs.inner.Equations.{Alike, TellsAlike}

-- a test that says no, where they do not link alike
pub not_alike : (links : List ℕ) (a b : Reader) → (Alike links a b → ⊥) → TellsAlike links a b false
not_alike links a b apart =
    record { only_alike = λ z. let w : ◌≡◌ {A = ℕ} 0 1 = cc in absurd (omega arith); all_alike = λ al. absurd (apart al) }

-- as many of the first i pairs as are counted are equal: all of them, if it is i, and only then
pub record Counted (x y : List ℕ) (same i : ℕ) : Type 0 where
  pub few : same ≤ i
  pub only_all : same ≡ i → (j : ℕ) → j < i → get_or x j 0 ≡ get_or y j 0
  pub if_all : ((j : ℕ) → j < i → get_or x j 0 ≡ get_or y j 0) → same ≡ i

pub none_counted : (x y : List ℕ) → Counted x y 0 0
none_counted x y = record { few = omega arith; only_all = λ e j h. absurd (omega arith); if_all = λ all. refl }

pub one_more : (x y : List ℕ) (same i n : ℕ) → Counted x y same i → n ≡ cond (eqb (get_or x i 0) (get_or y i 0)) 1 0 → Counted x y (same + n) (i + 1)
one_more x y same i n c e = go (eqb (get_or x i 0) (get_or y i 0)) refl e
  where
    go : (b : Bool) → eqb (get_or x i 0) (get_or y i 0) ≡ b → n ≡ cond b 1 0 → Counted x y (same + n) (i + 1)
    go true t m = record {
      few = omega (arith, c.few);
      only_all =
          λ s j h.
          ⊎_elim (λ l. c.only_all (omega arith) j l)
          (λ l. let z : j ≡ i = omega arith in ap (λ (k : ℕ). get_or x k 0) z ∙ eqb-true (get_or x i 0) (get_or y i 0) t ∙ sym (ap (λ (k : ℕ). get_or y k 0) z)) (lt_or_le j i);
      if_all = λ all. let z : same ≡ i = c.if_all (λ j h. all j (omega arith)) in omega arith;
    }
    go false t m = record {
      few = omega (arith, c.few);
      only_all = λ s j h. absurd (omega (arith, c.few));
      if_all = λ all. absurd (eqb-false (get_or x i 0) (get_or y i 0) t (all i (omega arith)));
    }

-- a part of the links, read
part_read : (links : List ℕ) (s i : ℕ) → i < 8 → get_or (take (s + 8 - s) (drop s links)) i 0 ≡ get_or links (s + i) 0
part_read links s i h = get_or-take (s + 8 - s) (drop s links) i 0 (omega arith) ∙ get_or-drop s links i 0

-- all eight are counted exactly if they link alike
pub alike_told : (links : List ℕ) (a b : Reader) (s t same i : ℕ) → s ≡ a.source → t ≡ b.source → 8 ≤ a.left → 8 ≤ b.left
    → s + 8 ≤ length links → t + 8 ≤ length links → a.step ≡ 1 → b.step ≡ 1 → 8 ≤ i → i ≤ 8
    → Counted (take (s + 8 - s) (drop s links)) (take (t + 8 - t) (drop t links)) same i → TellsAlike links a b (eqb same 8)
alike_told links a b s t same i es et la lb ha hb oa ob most few c =
    record {
      only_alike =
          λ told.
          let z : same ≡ i = omega (arith, eqb-true same 8 told) in
          record {
            left_long = la;
            right_long = lb;
            left_there = omega arith;
            right_there = omega arith;
            left_rises = oa;
            right_rises = ob;
            same =
                λ j h.
                ap (λ (k : ℕ). get_or links (k + j) 0) (sym es)
                ∙ sym (part_read links s j h) ∙ c.only_all z j (omega arith) ∙ part_read links t j h
                ∙ ap (λ (k : ℕ). get_or links (k + j) 0) et;
          };
      all_alike =
          λ al.
          let z : same ≡ i =
          c.if_all λ j h.
          part_read links s j (omega arith) ∙ ap (λ (k : ℕ). get_or links (k + j) 0) es
          ∙ al.same j (omega arith)
          ∙ sym (part_read links t j (omega arith) ∙ ap (λ (k : ℕ). get_or links (k + j) 0) et)
          in eq-eqb same 8 (omega arith);
    }

-- two readers at bit k of an equation's sides, whose next eight sources link alike
module _ (t : List Row) (r : ℕ) (lows left right : List ℕ) (w : ℕ) (s : SidesRead t r lows left right w) (k : ℕ) (h : k < w) (a b : Reader)
    (at_left : Stands lows left k a) (at_right : Stands lows right k b) (links : List ℕ) (al : Alike links a b) where
  abbrev l : List ℕ
  l = left_side t (row_at t r)

  abbrev q : List ℕ
  q = right_side t (row_at t r)

  -- the pieces end behind them
  pub pairs_left : k + 8 ≤ w
  pairs_left = omega (arith, s.left_ends k a h at_left, al.left_long)

  left_source : a.source < 4098
  left_source = omega (arith, s.left_read k a h at_left, s.left_small k h, s.few_bits)

  right_source : b.source < 4098
  right_source = omega (arith, s.right_read k b h at_right, s.right_small k h, s.few_bits)

  left_on : (i : ℕ) → i ≤ 8 → Stands lows left (k + i) (risen i a)
  left_on i m = risen_stands lows left a k i al.left_rises (omega (arith, left_source)) (omega (arith, al.left_long)) (omega (arith, s.few)) at_left

  right_on : (i : ℕ) → i ≤ 8 → Stands lows right (k + i) (risen i b)
  right_on i m = risen_stands lows right b k i al.right_rises (omega (arith, right_source)) (omega (arith, al.right_long)) (omega (arith, s.few)) at_right

  left_at : (i : ℕ) → i < 8 → a.source + i ≡ get_or l (k + i) 0
  unfolding risen
  left_at i m =
      let e : a.source + i ≡ (a.source + i) % 65536 = omega (arith, left_source) in
      e ∙ s.left_read (k + i) (risen i a) (omega (arith, pairs_left)) (left_on i (omega arith))

  right_at : (i : ℕ) → i < 8 → b.source + i ≡ get_or q (k + i) 0
  unfolding risen
  right_at i m =
      let e : b.source + i ≡ (b.source + i) % 65536 = omega (arith, right_source) in
      e ∙ s.right_read (k + i) (risen i b) (omega (arith, pairs_left)) (right_on i (omega arith))

  pub eight_alike : (i : ℕ) → i < 8 → get_or links (get_or (left_side t (row_at t r)) (k + i) 0) 0 ≡ get_or links (get_or (right_side t (row_at t r)) (k + i) 0) 0
  eight_alike i m = ap (λ (j : ℕ). get_or links j 0) (sym (left_at i m)) ∙ al.same i m ∙ ap (λ (j : ℕ). get_or links j 0) (right_at i m)

  -- and the readers stand eight bits on
  module _ (k' : ℕ) (ek : k' ≡ min (k + 8) w) (a' b' : Reader) (ea : a' ≡ risen 8 a) (eb : b' ≡ risen 8 b) where
    pub eight_on : k' ≡ k + 8
    eight_on = omega (arith, pairs_left)

    pub eight_stand : Stands lows left k' a' × Stands lows right k' b'
    eight_stand = rw (eight_on, ea, eb) (left_on 8 (omega arith), right_on 8 (omega arith))
