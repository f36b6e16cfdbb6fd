-- Both parts of a plan together, and the plan that no window meets. Assumes nothing.
use mathlib.Core.Path.{◌≡◌, refl, ◌∙◌, ap, ap₂}
use mathlib.Core.Bool.{Bool, true, false, not, ◌&&◌}
use mathlib.Core.List.{List}
use mathlib.Core.Logic.{inl}
use Prim.Native.Nat.{ℕ, zero, suc, ◌+◌, ◌*◌, ◌%◌, ◌≤◌, ◌<◌}
use native.Mathlib.Omega.{arith}
use lib.Bits.{and_zero_r}
use lib.ListN.{length, get_or, set, length-set}
use lib.Seq.{get_or-set_same, get_or-set_other}
use Rattle.laws.specs.Buffers.{set_four}
use Rattle.laws.specs.Lists.{below}
use Rattle.laws.proofs.Buffers.{four-length}
use Rattle.laws.specs.Bools.{implies}
use Rattle.groups.specs.inner.Places.{fixed_place, agrees_at, equal_test, EqualPut, PutsEqual}
use Rattle.groups.proofs.Rows.{below_same, four_other, four_first, four_second, four_third}
use Rattle.groups.specs.inner.Counts.{linked, equal_rows}
use Rattle.words.specs.inner.Sizes.{fixed_rows, Sized}
use Rattle.words.specs.inner.Plan.{fixed_test, meets_plan, FixedPut, PutsFixed, PutsRows, PutsNever}
use Rattle.words.proofs.Testing.{plan_met}

-- what is tested where a place is fixed, and where it is not, is tested everywhere
split : (f a b c : Bool) → (implies f a && b) && (implies (not f) a && c) ≡ a && (b && c)
split true true b c = refl
split true false b c = refl
split false true true c = refl
split false true false c = refl
split false false true c = refl
split false false false c = refl

pub below_split : (n : ℕ) (f a : ℕ → Bool) → below n (λ i. implies (f i) (a i)) && below n (λ i. implies (not (f i)) (a i)) ≡ below n a
unfolding below
below_split zero f a = refl
below_split (suc n) f a =
    split (f n) (a n) (below n (λ i. implies (f i) (a i))) (below n (λ i. implies (not (f i)) (a i)))
    ∙ ap (λ (t : Bool). a n && t) (below_split n f a)

-- rows whose numbers are the same have the same tests
pub fixed_same : (plan plan' window : List ℕ) (j : ℕ) → j < 64 → ((i : ℕ) → 4 ≤ i → i < 260 → get_or plan' i 0 ≡ get_or plan i 0)
    → fixed_test plan' window j ≡ fixed_test plan window j
unfolding fixed_test
fixed_same plan plan' window j l h =
    rw (h (4 * j + 4) (omega arith) (omega arith), h (4 * j + 5) (omega arith) (omega arith), h (4 * j + 6) (omega arith) (omega arith))

pub equal_same : (plan plan' window : List ℕ) (g : ℕ) → ((i : ℕ) → 260 ≤ i → get_or plan' i 0 ≡ get_or plan i 0)
    → equal_test plan' window g ≡ equal_test plan window g
unfolding equal_test
equal_same plan plan' window g h =
    rw (h (4 * g + 260) (omega arith), h (4 * g + 261) (omega arith), h (4 * g + 262) (omega arith), h (4 * g + 263) (omega arith))

-- two counts stored in front
module _ (plan : List ℕ) (f e : ℕ) where
  abbrev counted : List ℕ
  counted = set (set plan 0 f) 1 e

  counted_other : (i : ℕ) → 2 ≤ i → get_or counted i 0 ≡ get_or plan i 0
  counted_other i l = get_or-set_other (set plan 0 f) 1 i e 0 (λ z. omega arith) ∙ get_or-set_other plan 0 i f 0 (λ z. omega arith)

  counted_first : 2 ≤ length plan → get_or counted 0 0 ≡ f
  counted_first l = get_or-set_other (set plan 0 f) 1 0 e 0 (λ z. omega arith) ∙ get_or-set_same plan 0 f 0 (omega arith)

  counted_second : 2 ≤ length plan → get_or counted 1 0 ≡ e
  counted_second l = get_or-set_same (set plan 0 f) 1 e 0 (simp length-set (omega arith))

module _ (links : List ℕ) (k : ℕ) (plan plan₁ plan₂ : List ℕ) (fixed equal : ℕ) (l : k ≤ 64) (h : 4352 ≤ length plan₂)
    (F : FixedPut links k plan plan₁ fixed) (E : EqualPut links k plan₁ plan₂ equal) where
  abbrev plan₃ : List ℕ
  plan₃ = set (set plan₂ 0 fixed) 1 equal

  fixed_kept : (window : List ℕ) → below fixed (fixed_test plan₃ window) ≡ below fixed (fixed_test plan₁ window)
  fixed_kept window =
      below_same fixed (fixed_test plan₃ window) (fixed_test plan₁ window)
      (λ j m. fixed_same plan₁ plan₃ window j (omega (arith, F.few)) (λ i a b. counted_other plan₂ fixed equal i (omega arith) ∙ E.others i b))

  equal_kept : (window : List ℕ) → below equal (equal_test plan₃ window) ≡ below equal (equal_test plan₂ window)
  equal_kept window =
      below_same equal (equal_test plan₃ window) (equal_test plan₂ window)
      (λ g m. equal_same plan₂ plan₃ window g (λ i a. counted_other plan₂ fixed equal i (omega arith)))

  rows_put : (window : List ℕ) → meets_plan plan₃ window ≡ below (16 * k) (agrees_at links window)
  rows_put window =
      let a = counted_first plan₂ fixed equal (omega arith) in
      let b = counted_second plan₂ fixed equal (omega arith) in
      plan_met plan₃ window (simp length-set h)
      ∙ ap₂ (λ (x y : ℕ). below x (fixed_test plan₃ window) && below y (equal_test plan₃ window)) (omega (arith, a, F.few)) (omega (arith, b, E.few))
      ∙ ap₂ ◌&&◌ (fixed_kept window ∙ F.tests window) (equal_kept window ∙ E.tests window)
      ∙ below_split (16 * k) (fixed_place links) (agrees_at links window)

  rows_sized : Sized plan₃ (fixed_rows (linked links) k) (equal_rows (linked links) k)
  rows_sized =
      record {
        fixed-rows = counted_first plan₂ fixed equal (omega arith) ∙ F.rows;
        equal-rows = counted_second plan₂ fixed equal (omega arith) ∙ E.rows;
        fixed_few = omega (arith, F.rows, F.few);
        equal_few = omega (arith, E.rows, E.few);
      }

-- as the code makes it
pub planned : (links : List ℕ) (k : ℕ) (plan plan₁ plan₂ plan₃ plan₄ : List ℕ) (fixed equal f : ℕ)
    → PutsFixed links k plan plan₁ fixed → PutsEqual links k plan₁ plan₂ equal → length plan₁ ≡ length plan → length plan₂ ≡ length plan₁
    → f ≡ fixed % 65536 → plan₃ ≡ set plan₂ 0 f → plan₄ ≡ set plan₃ 1 equal → PutsRows links k plan plan₄
planned links k plan plan₁ plan₂ plan₃ plan₄ fixed equal f F E n₁ n₂ m e₃ e₄ l h low =
    let F' : FixedPut links k plan plan₁ fixed = F l (omega arith) in
    let E' : EqualPut links k plan₁ plan₂ equal = E l (omega arith) low in
    let z : f ≡ fixed = omega (arith, F'.few) in
    let w : plan₄ ≡ set (set plan₂ 0 fixed) 1 equal =
    e₄ ∙ ap (λ (x : List ℕ). set x 1 equal) (e₃ ∙ ap (set plan₂ 0) z) in
    rw w
    (record {
      meets = rows_put links k plan plan₁ plan₂ fixed equal l (omega arith) F' E';
      sized = rows_sized links k plan plan₁ plan₂ fixed equal l (omega arith) F' E';
    })

-- the plan that no window meets
module _ (plan : List ℕ) (h : 4352 ≤ length plan) where
  abbrev plan' : List ℕ
  plan' = set_four plan 0 1 0 0 0

  abbrev plan'' : List ℕ
  plan'' = set_four (set_four plan 0 1 0 0 0) 4 0 0 1 0

  first_is : get_or plan'' 0 0 ≡ 1
  first_is = four_other plan' 4 0 0 1 0 0 (inl (omega arith)) ∙ four_first plan 0 1 0 0 0 (omega arith)

  second_is : get_or plan'' 1 0 ≡ 0
  second_is = four_other plan' 4 0 0 1 0 1 (inl (omega arith)) ∙ four_second plan 0 1 0 0 0 (omega arith)

  never_met : (window : List ℕ) → meets_plan plan'' window ≡ false
  unfolding below fixed_test
  never_met window =
      let n : length plan' ≡ length plan = four-length plan 0 1 0 0 0 in
      let m : get_or plan'' 5 0 ≡ 0 = four_second plan' 4 0 0 1 0 (omega arith) in
      let v : get_or plan'' 6 0 ≡ 1 = four_third plan' 4 0 0 1 0 (omega arith) in
      plan_met plan'' window (rw (four-length plan' 4 0 0 1 0, n) h)
      ∙ rw (first_is, m, v, and_zero_r (get_or window (get_or plan'' 4 0) 0))

pub never_put : (plan plan₁ plan₂ : List ℕ) → plan₁ ≡ set_four plan 0 1 0 0 0 → plan₂ ≡ set_four plan₁ 4 0 0 1 0 → PutsNever plan plan₂
never_put plan plan₁ plan₂ e₁ e₂ h =
    rw (e₂, e₁)
    (record {
      meets = never_met plan h;
      sized = record { fixed-rows = first_is plan h; equal-rows = second_is plan h; fixed_few = omega arith; equal_few = omega arith };
    })
