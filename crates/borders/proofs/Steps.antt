-- What the functions of one place compute, from what they read.
use mathlib.Core.Path.{◌≡◌, sym, ap, ap₂, ◌∙◌}
use mathlib.Core.Logic.{◌≢◌}
use mathlib.Core.Bool.{Bool, true, false, cond}
use mathlib.Core.List.{List}
use Prim.Native.Nat.{ℕ, suc, ◌+◌, ◌-◌, ◌%◌, ◌≤◌, ◌<◌, min}
use native.Mathlib.Omega.{arith}
use lib.Dec.{eqb}
use lib.ListN.{get_or, set}
use lib.Seq.{set-get_or}
use borrow.Author.Tests.{eq-eqb, ne_eqb, lt-ltb, le-ltb}
use Rattle.answers.specs.inner.Classes.{rep}
use Rattle.borders.specs.declared.Progress.{Progress}
use Rattle.borders.specs.inner.Borders.{beside_in, uneven_with, goes_in, number_in, step_in}

-- the neighbour of a place
module _ (m c : List ℕ) (side k a b x : ℕ) (ea : a ≡ k) (eb : b ≡ side) (ex : x ≡ get_or m (a + b) 0) where
  pub beside_open : x ≡ 0 → (s y : ℕ) → s ≡ side → y ≡ get_or c (a + b + s + 1) 0 → y ≡ beside_in m c side k
  unfolding beside_in
  beside_open o s y es ey =
      let f : get_or m (k + side) 0 ≡ 0 = ap₂ (λ (i j : ℕ). get_or m (i + j) 0) (sym ea) (sym eb) ∙ sym ex ∙ o in
      let e : a + b + s + 1 ≡ k + side + side + 1 = omega arith in
      rw (eq-eqb (get_or m (k + side) 0) 0 f) (ey ∙ ap (λ (i : ℕ). get_or c i 0) e)

  pub beside_shut : x ≢ 0 → 0 ≡ beside_in m c side k
  unfolding beside_in
  beside_shut o =
      let f : x ≡ get_or m (k + side) 0 = ex ∙ ap₂ (λ (i j : ℕ). get_or m (i + j) 0) ea eb in
      rw (ne_eqb (get_or m (k + side) 0) 0 (λ e. o (f ∙ e)))

-- a mark for the representative of a place, where its lowest place has another neighbour
module _ (m c u : List ℕ) (side k w r low : ℕ) (ew : w ≡ k) (er : r ≡ get_or c (w + 2) 0) (el : low ≡ r - 2) where
  read_r : rep c (suc (suc k)) ≡ r
  read_r = let e : suc (suc k) ≡ w + 2 = omega arith in ap (rep c) e ∙ sym er

  place_even : beside_in m c side k ≡ beside_in m c side low → u ≡ uneven_with m c side k u
  unfolding uneven_with
  place_even e = rw (read_r, ← el, eq-eqb (beside_in m c side k) (beside_in m c side low) e, set-get_or u r 0)

  pub place_lowest : low ≡ k → u ≡ uneven_with m c side k u
  place_lowest e = place_even (ap (beside_in m c side) (sym e))

  module _ (h l : ℕ) (eh : h ≡ beside_in m c side k) (es : l ≡ beside_in m c side low) where
    pub place_alike : h ≡ l → u ≡ uneven_with m c side k u
    place_alike e = place_even (sym eh ∙ e ∙ es)

    pub place_unlike : h ≢ l → (at : ℕ) (u' : List ℕ) → at ≡ r → u' ≡ set u at 1 → u' ≡ uneven_with m c side k u
    unfolding uneven_with
    place_unlike d at u' ea eu =
        rw (read_r, ← el, ne_eqb (beside_in m c side k) (beside_in m c side low) (λ e. d (eh ∙ e ∙ sym es)), ← ea) eu

-- whether a place goes on
module _ (m c af be : List ℕ) (i at x : ℕ) (et : at ≡ i) (ex : x ≡ get_or m at 0) where
  read_mark : get_or m i 0 ≡ x
  read_mark = ap (λ (j : ℕ). get_or m j 0) (sym et) ∙ sym ex

  pub goes_begin : x ≢ 0 → false ≡ goes_in m c af be i
  unfolding goes_in
  goes_begin o = rw (read_mark, ne_eqb x 0 o)

  module _ (o : x ≡ 0) (a b : ℕ) (ea : a ≡ get_or c (at + 1) 0) (eb : b ≡ get_or c (at + 2) 0) where
    read_a : rep c (suc i) ≡ a
    read_a = let e : suc i ≡ at + 1 = omega arith in ap (rep c) e ∙ sym ea

    read_b : rep c (suc (suc i)) ≡ b
    read_b = let e : suc (suc i) ≡ at + 2 = omega arith in ap (rep c) e ∙ sym eb

    pub goes_fixed : b < 2 → eqb a b ≡ goes_in m c af be i
    unfolding goes_in
    goes_fixed l = rw (read_mark, eq-eqb x 0 o, read_b, lt-ltb b 2 l, read_a)

    pub goes_low : 2 ≤ b → a < 2 → false ≡ goes_in m c af be i
    unfolding goes_in
    goes_low l h = rw (read_mark, eq-eqb x 0 o, read_b, le-ltb b 2 l, read_a, lt-ltb a 2 h)

    module _ (l : 2 ≤ b) (h : 2 ≤ a) (s y : ℕ) (es : s ≡ a) (ey : y ≡ get_or af s 0) where
      read_y : get_or af a 0 ≡ y
      read_y = ap (λ (j : ℕ). get_or af j 0) (sym es) ∙ sym ey

      pub goes_after : y ≢ 0 → false ≡ goes_in m c af be i
      unfolding goes_in
      goes_after n = rw (read_mark, eq-eqb x 0 o, read_b, le-ltb b 2 l, read_a, le-ltb a 2 h, read_y, ne_eqb y 0 n)

      module _ (n : y ≡ 0) (t z : ℕ) (e3 : t ≡ b) (ez : z ≡ get_or be t 0) where
        read_z : get_or be b 0 ≡ z
        read_z = ap (λ (j : ℕ). get_or be j 0) (sym e3) ∙ sym ez

        pub goes_tied : eqb z 0 ≡ goes_in m c af be i
        unfolding goes_in
        goes_tied = rw (read_mark, eq-eqb x 0 o, read_b, le-ltb b 2 l, read_a, le-ltb a 2 h, read_y, eq-eqb y 0 n, read_z)

-- one place more
module _ (m c numbers : List ℕ) (on : Bool) (p : Progress) (i at x begun : ℕ) (et : at ≡ i) (ex : x ≡ get_or m at 0) (eb : begun ≡ (p.begun + x) % 65536) where
  begun_is : begun ≡ (p.begun + get_or m i 0) % 65536
  begun_is = eb ∙ ap (λ (y : ℕ). (p.begun + y) % 65536) (ex ∙ ap (λ (j : ℕ). get_or m j 0) et)

  pub step_on : on ≡ true → (width : ℕ) → width ≡ (p.width + 1) % 65536
      → record { begun = begun; rows = p.rows; fresh = p.fresh; variable = p.variable; kind = p.kind; width = width; number = p.number } ≡ step_in m c numbers on p i
  unfolding step_in
  step_on g width ew = rw (g, ← begun_is, ← ew)

  pub step_new : on ≡ false → (r rows own fresh variable kind number : ℕ) → r ≡ get_or c (at + 2) 0 → rows ≡ (p.rows + 1) % 65536
      → own ≡ cond (eqb r (suc (suc i))) 1 0 → fresh ≡ (p.fresh + own) % 65536 → variable ≡ begun - 1 → kind ≡ min r 2 → number ≡ number_in numbers r
      → record { begun = begun; rows = rows; fresh = fresh; variable = variable; kind = kind; width = 1; number = number } ≡ step_in m c numbers on p i
  unfolding step_in
  step_new g r rows own fresh variable kind number er e1 e2 e3 e4 e5 e6 =
      let e : at + 2 ≡ suc (suc i) = omega arith in
      let f : rep c (suc (suc i)) ≡ r = ap (rep c) (sym e) ∙ sym er in
      rw (g, f, ← begun_is, ← e1, ← e2, ← e3, ← e4, ← e5, ← e6)
