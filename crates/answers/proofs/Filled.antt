-- The bit pairs of filled equations (document 02, (iii)): how many there are and in which order, that sides of one width are paired as they are,
-- and that zeros joined by hand give the same pairs. Assumes nothing.
use mathlib.Core.Path.{◌≡◌, refl, sym, ◌∙◌, ap, ap₂}
use mathlib.Core.List.{List, [], ◌∷◌, ◌++◌}
use Prim.Native.Nat.{ℕ, suc, ◌+◌, ◌<◌, max}
use native.Mathlib.Omega.{arith}
use lib.ListN.{length, take, drop, replicate, length-take, length-replicate, take-append-drop}
use Rattle.laws.specs.Lists.{count_up}
use Rattle.laws.proofs.CountUp.{count-up}
use Rattle.terms.specs.declared.Row.{Row}
use Rattle.terms.specs.Table.{row_at, bits_of, width_of, values_of, sources_of, source_of, evened}
use Rattle.terms.specs.Sound.{Sound, IsEquation}
use Rattle.terms.specs.Filled.{ByHand, equation_of}
use Rattle.terms.proofs.RowKinds.{kind_same, of_equation}
use Rattle.terms.proofs.Filled.{evened-word, evened_even, evened_by, evened-length}
use Rattle.terms.proofs.FilledSides.{agree_even, sides_in, SameFilled, by_hand, same_agree}
use Rattle.terms.proofs.Sources.{source_length}
use Rattle.terms.proofs.Values.{value-length}
use Rattle.answers.specs.Pairs.{Pair, paired, pairs_of}
use Rattle.answers.specs.Filled.{FilledPairs, Unfilled, AsJoined}

-- words of one length have so many pairs
pub paired-count : (xs ys : List ℕ) → length xs ≡ length ys → length (paired xs ys) ≡ length xs
unfolding paired
paired-count [] ys e = refl
paired-count (x ∷ xs) [] e = absurd (omega arith)
paired-count (x ∷ xs) (y ∷ ys) e = ap suc (paired-count xs ys (omega arith))

-- pairs of parts, the first of one length
paired-append : (xs ys xs' ys' : List ℕ) → length xs ≡ length ys → paired (xs ++ xs') (ys ++ ys') ≡ paired xs ys ++ paired xs' ys'
unfolding paired
paired-append [] [] xs' ys' e = refl
paired-append [] (y ∷ ys) xs' ys' e = absurd (omega arith)
paired-append (x ∷ xs) [] xs' ys' e = absurd (omega arith)
paired-append (x ∷ xs) (y ∷ ys) xs' ys' e = ap (λ (l : List Pair). record { left = x; right = y } ∷ l) (paired-append xs ys xs' ys' (omega arith))

-- a word that is g bits wider than another, and the other one filled
top_length : (g : ℕ) (x y : List ℕ) → length x ≡ length y + g → length (take g x) ≡ length {A = ℕ} (replicate g 0)
top_length g x y e = length-take g x ∙ omega (arith, length-replicate {A = ℕ} g 0)

wider_split : (g : ℕ) (x y : List ℕ) → length x ≡ length y + g → (evened x y ≡ take g x ++ drop g x) × (evened y x ≡ replicate g 0 ++ y)
wider_split g x y e = ((evened-word x y).same (omega arith) ∙ sym (take-append-drop g x), evened_by g y x e)

module _ (t : List Row) (sound : Sound t) where
  row_wide : (x : ℕ) → x < length t → length (source_of t x) ≡ width_of t x
  row_wide x h = source_length t sound x h

  row_pairs_are : {r a b : ℕ} → IsEquation t r a b → pairs_of t (row_at t r) ≡ paired (evened (source_of t a) (source_of t b)) (evened (source_of t b) (source_of t a))
  unfolding pairs_of
  row_pairs_are {r} {a} {b} is = of_equation (row_at t r) _ [] is.is_equation ∙ rw (is.left_is, is.right_is)

  -- The bit pairs of an equation: as many as its wider side has bits, those with zeros first.
  pub filled_pairs : {r a b : ℕ} → IsEquation t r a b → FilledPairs t r a b
  filled_pairs {r} {a} {b} is =
      let s = rw (is.left_is, is.right_is) at (sides_in t sound r is.in_table is.is_equation) in
      let x = source_of t a in
      let y = source_of t b in
      let wx = row_wide a s.0 in
      let wy = row_wide b s.1 in
      let pairs = row_pairs_are is in
      record {
        count = ap length pairs ∙ paired-count (evened x y) (evened y x) (evened-length x y) ∙ (evened-word x y).wide ∙ ap₂ max wx wy;
        left_wider = λ g e.
            let l : length x ≡ length y + g = wx ∙ e ∙ ap (λ (n : ℕ). n + g) (sym wy) in
            let w = wider_split g x y l in
            pairs ∙ ap₂ paired w.0 w.1 ∙ paired-append (take g x) (replicate g 0) (drop g x) y (top_length g x y l);
        right_wider = λ g e.
            let l : length y ≡ length x + g = wy ∙ e ∙ ap (λ (n : ℕ). n + g) (sym wx) in
            let w = wider_split g y x l in
            pairs ∙ ap₂ paired w.1 w.0 ∙ paired-append (replicate g 0) (take g y) x (drop g y) (sym (top_length g y x l));
      }

  -- With sides of one width nothing is filled.
  pub unfilled : (r : ℕ) → r < length t → ((row_at t r).kind ≡ 4 → width_of t (row_at t r).a ≡ width_of t (row_at t r).b) → Unfilled t (row_at t r)
  unfolding pairs_of
  unfilled r h even =
      let row = row_at t r in
      record {
        agree = λ p whole.
            agree_even (values_of t p) row
            (λ e.
            let s = sides_in t sound r h e in
            value-length t p sound whole row.a s.0 ∙ even e ∙ sym (value-length t p sound whole row.b s.1));
        pairs =
            kind_same row.kind (λ e. refl) (λ e. refl) (λ e. refl) (λ e. refl)
            (λ e.
            let s = sides_in t sound r h e in
            let l : length (source_of t row.a) ≡ length (source_of t row.b) = row_wide row.a s.0 ∙ even e ∙ sym (row_wide row.b s.1) in
            ap₂ paired (evened_even (source_of t row.a) (source_of t row.b) l) (evened_even (source_of t row.b) (source_of t row.a) (sym l)));
      }

  same_pairs : (n j m : ℕ) → SameFilled (sources_of t) n j m
      → (pairs_of t (equation_of n m) ≡ pairs_of t (equation_of j m)) × (pairs_of t (equation_of m n) ≡ pairs_of t (equation_of m j))
  unfolding pairs_of
  same_pairs n j m h = (rw (h.narrower, h.wider), rw (h.narrower, h.wider))

  -- Zeros joined by hand are the same.
  pub as_joined : {f n j m g : ℕ} → ByHand t f n j m g → AsJoined t n j m
  unfolding sources_of
  as_joined {f} {n} {j} {m} {g} h =
      let both = same_pairs n j m (by_hand t sound (count_up 2 (bits_of t)) (count-up 2 (bits_of t)) h) in
      record {
        pairs = both.0;
        pairs_turned = both.1;
        agree = λ p whole. (same_agree (values_of t p) n j m (by_hand t sound p whole h)).0;
        agree-turned = λ p whole. (same_agree (values_of t p) n j m (by_hand t sound p whole h)).1;
      }
