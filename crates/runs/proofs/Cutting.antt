-- What the cuts of a run leave, from what the functions write.
use mathlib.Core.Path.{◌≡◌, refl, sym, ap, ◌∙◌}
use mathlib.Core.Logic.{◌⊎◌, inl, inr, ◌≢◌}
use mathlib.Core.Bool.{Bool, cond}
use mathlib.Core.List.{List}
use Prim.Native.Nat.{ℕ, suc, ◌+◌, ◌-◌, ◌%◌, ◌≤◌, ◌<◌}
use native.Mathlib.Omega.{arith}
use lib.Dec.{ltb}
use lib.ListN.{length, get_or, set}
use lib.Seq.{get_or-set_same, get_or-set_other}
use borrow.Author.Tests.{lt-ltb, le-ltb}
use Rattle.laws.proofs.Numbers.{lt_or_le}
use Rattle.slices.specs.Along.{along}
use Rattle.slices.proofs.SideBySide.{along_fixed, along_place}
use Rattle.runs.specs.inner.Puts.{Put, paced, PutsRun}
use Rattle.runs.specs.inner.Carves.{LinksRun, LeftCut, CutsLeft, RightCut, CutsRight, Carves}
use Rattle.runs.proofs.Putting.{paced_same, paced_up}

pub links-run : (lo len g a b s : ℕ) (h h' : List ℕ) → a ≡ lo → b ≡ len → s ≡ cond (ltb g 2) 0 1 → PutsRun a b g s h h' → LinksRun lo len g h h'
links-run lo len g a b s h h' ea eb es p room few =
    let q : Put lo len (paced g s) h h' = rw (ea, eb) at (p (omega arith)) in
    record { in' = λ k l. q.in' k l ∙ at k l (lt_or_le g 2); before = q.before; behind = q.behind }
  where
    at : (k : ℕ) → k < len → (g < 2) ⊎ (2 ≤ g) → paced g s k ≡ along g k
    at k l (inl i) = ap (λ (x : ℕ). paced g x k) (es ∙ ap (λ (t : Bool). cond {A = ℕ} t 0 1) (lt-ltb g 2 i)) ∙ paced_same g k (omega arith) ∙ sym (along_fixed g k i)
    at k l (inr i) = ap (λ (x : ℕ). paced g x k) (es ∙ ap (λ (t : Bool). cond {A = ℕ} t 0 1) (le-ltb g 2 i)) ∙ paced_up g k (omega arith) ∙ sym (along_place g k i)

pub left_none : (f lo : ℕ) (last first : List ℕ) → lo ≤ f → CutsLeft f lo last first last first
left_none f lo last first l a b = record {
  last_in = λ x i j. absurd (omega arith);
  last_before = λ x i. refl;
  last_behind = λ x i. refl;
  first_at = λ x i j. absurd (omega arith);
  first_other = λ x i. refl;
  first_whole = λ x i. refl;
}

pub left_cut : (f lo a b w : ℕ) (last first last' first' : List ℕ) → f < lo → lo ≤ 65535 → a ≡ f → b ≡ lo - f → PutsRun a b (lo - 1) 0 last last' → w ≡ lo - 1 → first' ≡ set first w f
    → CutsLeft f lo last first last' first'
left_cut f lo a b w last first last' first' l few ea eb p ew ef room₁ room₂ =
    let q : Put f (lo - f) (paced (lo - 1) 0) last last' = rw (ea, eb) at (p (omega arith)) in
    record {
      last_in = λ x i j.
          let e : f + (x - f) ≡ x = omega arith in
          omega (arith, sym (ap (λ (y : ℕ). get_or last' y 0) e) ∙ q.in' (x - f) (omega arith) ∙ paced_same (lo - 1) (x - f) (omega arith));
      last_before = λ x i. q.before x i;
      last_behind = λ x i. q.behind x (omega arith);
      first_at = λ x i j. let e : x ≡ w = omega arith in ap (λ (v : List ℕ). get_or v x 0) ef ∙ ap (λ (y : ℕ). get_or (set first w f) y 0) e ∙ get_or-set_same first w f 0 (omega arith);
      first_other = λ x i. ap (λ (v : List ℕ). get_or v x 0) ef ∙ get_or-set_other first w x f 0 (λ z. i (omega (arith, z)));
      first_whole = λ x i. absurd (omega arith);
    }

pub right_none : (lo len t : ℕ) (last first : List ℕ) → t < lo + len → CutsRight lo len t last first last first
right_none lo len t last first l a b d e = record {
  last_in = λ x i j k. absurd (omega arith);
  last_whole = λ x i. refl;
  last_before = λ x i. refl;
  last_behind = λ x i. refl;
  first_at = λ i. absurd (omega arith);
  first_other = λ x i. refl;
}

pub right_cut : (lo len t a b w hi end : ℕ) (last first last' first' : List ℕ) → lo + len ≤ t → a ≡ lo → b ≡ len → end ≡ (lo + len) % 65536 → hi ≡ end - 1 → PutsRun a b hi 0 last last'
    → w ≡ t → first' ≡ set first w end → CutsRight lo len t last first last' first'
right_cut lo len t a b w hi end last first last' first' l ea eb en eh p ew ef few some room₁ room₂ =
    let q : Put lo len (paced hi 0) last last' = rw (ea, eb) at (p (omega arith)) in
    let z : end ≡ lo + len = omega arith in
    record {
      last_in = λ x i j k.
          let e : lo + (x - lo) ≡ x = omega arith in
          omega (arith, sym (ap (λ (y : ℕ). get_or last' y 0) e) ∙ q.in' (x - lo) (omega arith) ∙ paced_same hi (x - lo) (omega arith));
      last_whole = λ x i. absurd (omega arith);
      last_before = λ x i. q.before x i;
      last_behind = λ x i. q.behind x i;
      first_at = λ i. ap (λ (v : List ℕ). get_or v t 0) ef ∙ ap (λ (y : ℕ). get_or (set first w end) y 0) (sym ew) ∙ get_or-set_same first w end 0 (omega arith) ∙ z;
      first_other = λ x i. ap (λ (v : List ℕ). get_or v x 0) ef ∙ get_or-set_other first w x end 0 (λ y. i (y ∙ ew));
    }

-- all together
module _ (lo len g : ℕ) (h last first h' last₁ first₁ last₂ first₂ first₃ : List ℕ) (t f w v hi u end : ℕ) (ew : w ≡ lo) (et : t ≡ get_or last w 0) (ev : v ≡ t) (ef : f ≡ get_or first v 0)
    (left : CutsLeft f lo last first last₁ first₁) (right : CutsRight lo len t last₁ first₁ last₂ first₂)
    (len₁ : length last₁ ≡ length last) (len₂ : length first₁ ≡ length first) (len₃ : length first₂ ≡ length first₁)
    (en : end ≡ (lo + len) % 65536) (eh : hi ≡ end - 1) (eu : u ≡ hi) (e₃ : first₃ ≡ set first₂ u lo) (links : LinksRun lo len g h h') where
  pub carve_all : Carves lo len g h last first h' last₂ first₃
  carve_all shut R few room₁ room₂ two small some fits fit =
      record {
        h_in = p.in';
        h_before = p.before;
        h_behind = p.behind;
        last_low = λ x a b. q.last_before x a ∙ L.last_before x (omega (arith, f_is));
        last_left = λ x a b. omega (arith, q.last_before x a, L.last_in x (omega (arith, f_is)) a);
        last_in = λ x a b. mid x a b (lt_or_le t (lo + len));
        last_behind = λ x a. q.last_behind x a ∙ L.last_behind x (omega arith);
        first_left = λ x a b. third x (omega arith) ∙ q.first_other x (omega (arith, ends, t_is)) ∙ L.first_at x a (omega (arith, f_is)) ∙ f_is;
        first-in = λ x a. ap (λ (y : ℕ). get_or first₃ y 0) (at_hi x a) ∙ third_at;
        first_right = λ x a b. let e : x ≡ t = a ∙ sym t_is in third x (omega arith) ∙ ap (λ (y : ℕ). get_or first₂ y 0) e ∙ q.first_at (omega arith);
        first_low = λ x a. third x (omega (arith, starts)) ∙ q.first_other x (omega (arith, starts, ends, t_is)) ∙ before x a (lt_or_le f lo);
        first_high = λ x a. third x (omega (arith, t_is)) ∙ q.first_other x (omega (arith, t_is)) ∙ L.first_other x (omega (arith, ends));
      }
    where
      ends : (lo ≤ get_or last lo 0) × (get_or last lo 0 < length h)
      ends = R.ends lo two small

      starts : (2 ≤ get_or first (get_or last lo 0) 0) × (get_or first (get_or last lo 0) 0 ≤ lo)
      starts = R.starts lo two small

      t_is : t ≡ get_or last lo 0
      t_is = et ∙ ap (λ (y : ℕ). get_or last y 0) ew

      f_is : f ≡ get_or first (get_or last lo 0) 0
      f_is = ef ∙ ap (λ (y : ℕ). get_or first y 0) (ev ∙ t_is)

      L : LeftCut f lo last first last₁ first₁
      L = left (omega (arith, ends)) (omega (arith, ends))

      q : RightCut lo len t last₁ first₁ last₂ first₂
      q = right (omega (arith, ends)) some (omega (arith, ends, len₁)) (omega (arith, ends, t_is, len₂))

      p : Put lo len (along g) h h'
      p = links (omega (arith, ends)) fit

      u_is : suc u ≡ lo + len
      u_is = omega (arith, ends)

      at_hi : (x : ℕ) → suc x ≡ lo + len → x ≡ u
      at_hi x a = omega (arith, u_is)

      third : (x : ℕ) → suc x ≢ lo + len → get_or first₃ x 0 ≡ get_or first₂ x 0
      third x a = ap (λ (y : List ℕ). get_or y x 0) e₃ ∙ get_or-set_other first₂ u x lo 0 (λ z. a (omega (arith, u_is, z)))

      third_at : get_or first₃ u 0 ≡ lo
      third_at = ap (λ (y : List ℕ). get_or y u 0) e₃ ∙ get_or-set_same first₂ u lo 0 (omega (arith, u_is, ends, len₂, len₃))

      before : (x : ℕ) → x < get_or first (get_or last lo 0) 0 → (f < lo) ⊎ (lo ≤ f) → get_or first₁ x 0 ≡ get_or first x 0
      before x a (inl c) = L.first_other x (omega (arith, f_is))
      before x a (inr c) = L.first_whole x c

      mid : (x : ℕ) → lo ≤ x → x < lo + len → (t < lo + len) ⊎ (lo + len ≤ t) → suc (get_or last₂ x 0) ≡ lo + len
      mid x a b (inr c) = q.last_in x c a b
      mid x a b (inl c) =
          let y : get_or last x 0 ≡ get_or last lo 0 = R.whole lo x two small (omega (arith, starts)) (omega (arith, t_is)) in
          omega (arith, q.last_whole x c, L.last_behind x a, y, t_is)
