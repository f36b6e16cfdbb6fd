-- An equation is satisfied exactly if each of its bit pairs is, and a table exactly if all pairs of its equations are.
use mathlib.Core.Path.{◌≡◌, refl, sym, ◌∙◌, ap, ap₂}
use mathlib.Core.Bool.{Bool, true, ◌&&◌}
use mathlib.Core.List.{List, [], ◌∷◌, map, reverse_aux}
use mathlib.Core.Logic.{⊎_elim}
use Prim.Native.Nat.{ℕ, zero, suc, ◌<◌, ◌≤◌}
use native.Mathlib.Omega.{arith}
use lib.Dec.{eqb}
use lib.ListN.{length, take, drop}
use Rattle.terms.specs.declared.Row.{Row}
use Rattle.terms.specs.Table.{row_at, bits_of, if_equation, bit_of, values_of, value_of, source_of, same_word, evened, sides_agree, all_rows, silent_row, counting, satisfies}
use Rattle.terms.proofs.RowKinds.{Equation, equation_or-not, of_equation, of_term}
use Rattle.terms.proofs.Faults.{kept, kept_names, equation_names}
use Rattle.terms.specs.Sound.{Sound}
use Rattle.terms.proofs.Filled.{evened-length, evened-map}
use Rattle.terms.proofs.Sources.{value_sources}
use Rattle.terms.proofs.Satisfies.{word_same, silent_agrees}
use Rattle.terms.proofs.Counting.{counting_rows, revised-or-not}
use Rattle.answers.specs.Pairs.{Pair, paired, pairs_of, pairs_in, equation_pairs, satisfies_pairs}
use Rattle.answers.specs.Representatives.{satisfies_all, all_pairs}
use Rattle.answers.proofs.Agreement.{satisfies-turned}
use Rattle.laws.proofs.Bools.{and_move}

-- two words are equal exactly if their bits are in pairs
pair-words : (p xs ys : List ℕ) → length xs ≡ length ys → same_word (map (bit_of p) xs) (map (bit_of p) ys) ≡ satisfies_pairs p (paired xs ys)
unfolding same_word paired satisfies_pairs
pair-words p [] [] h = refl
pair-words p [] (y ∷ ys) h = absurd (omega arith)
pair-words p (x ∷ xs) [] h = absurd (omega arith)
pair-words p (x ∷ xs) (y ∷ ys) h = ap (λ (b : Bool). eqb (bit_of p x) (bit_of p y) && b) (pair-words p xs ys (omega arith))

-- source 0 is the fixed bit 0
zero_bit : (p : List ℕ) → bit_of p 0 ≡ 0
unfolding bit_of
zero_bit p = refl

module _ (t : List Row) (p : List ℕ) (sound : Sound t) (whole : length p ≡ bits_of t) where
  pub row_pairs : (r : ℕ) → r < length t → sides_agree (values_of t p) (row_at t r) ≡ satisfies_pairs p (pairs_of t (row_at t r))
  unfolding sides_agree pairs_of satisfies_pairs
  row_pairs r h = ⊎_elim equation term (equation_or-not (row_at t r))
    where
      row : Row
      row = row_at t r

      left : List ℕ
      left = source_of t row.a

      right : List ℕ
      right = source_of t row.b

      agree : Bool
      agree = same_word (evened (value_of t p row.a) (value_of t p row.b)) (evened (value_of t p row.b) (value_of t p row.a))

      bits : List Pair
      bits = paired (evened left right) (evened right left)

      term : (Equation row → ⊥) → if_equation row agree true ≡ satisfies_pairs p (if_equation row bits [])
      term l = of_term row agree true l ∙ sym (ap (satisfies_pairs p) (of_term row bits [] l))

      equation : Equation row → if_equation row agree true ≡ satisfies_pairs p (if_equation row bits [])
      equation e =
          let k = kept t r (sound r h) in
          let names = equation_names t r row (kept_names t r k) e in
          let a : row.a < length t = omega (arith, names.0.earlier, h) in
          let b : row.b < length t = omega (arith, names.1.earlier, h) in
          of_equation row agree true e
          ∙ ap₂ (λ (x y : List ℕ). same_word (evened x y) (evened y x)) (value_sources t p sound whole row.a a) (value_sources t p sound whole row.b b)
          ∙ ap₂ same_word (evened-map (bit_of p) (zero_bit p) left right) (evened-map (bit_of p) (zero_bit p) right left)
          ∙ pair-words p (evened left right) (evened right left) (evened-length left right)
          ∙ sym (ap (satisfies_pairs p) (of_equation row bits [] e))

  pub rows_pairs : (rs : List Row) → ((r : ℕ) → r < length rs → sides_agree (values_of t p) (row_at rs r) ≡ satisfies_pairs p (pairs_of t (row_at rs r)))
      → all_rows (sides_agree (values_of t p)) rs ≡ satisfies_all p (pairs_in t rs)
  unfolding all_rows satisfies_all pairs_in
  rows_pairs [] h = refl
  rows_pairs (r ∷ rs) h = ap₂ ◌&&◌ (h 0 (omega arith)) (rows_pairs rs (λ i l. h (suc i) (omega arith)))

  -- the row that says nothing has pairs of a bit with itself
  silent_pairs : satisfies_pairs p (pairs_of t silent_row) ≡ true
  unfolding pairs_of
  silent_pairs =
      let side = evened (source_of t 0) (source_of t 0) in
      ap (satisfies_pairs p) (of_equation silent_row (paired side side) [] refl) ∙ sym (pair-words p side side refl) ∙ word_same (map (bit_of p) side)

  -- each row of those that count
  pub counting_pairs : (r : ℕ) → r < length (counting t)
      → sides_agree (values_of t p) (row_at (counting t) r) ≡ satisfies_pairs p (pairs_of t (row_at (counting t) r))
  counting_pairs r h =
      let l : r < length t = omega (arith, h, (counting_rows t).as_many) in
      ⊎_elim (λ gone. rw ((counting_rows t).replaced r gone) (silent_agrees (values_of t p) ∙ sym silent_pairs))
      (λ still. rw ((counting_rows t).stays r still) (row_pairs r l))
      (revised-or-not t r l)

  pub table_pairs : satisfies t p ≡ satisfies_all p (equation_pairs t)
  unfolding satisfies
  table_pairs = rows_pairs (counting t) counting_pairs

-- of the bit pairs of n rows, those of row r stand at place r, and none behind the last
from_row : (t rs : List Row) (n r : ℕ) → r < n → r < length rs → drop r (take n (pairs_in t rs)) ≡ pairs_of t (row_at rs r) ∷ drop (suc r) (take n (pairs_in t rs))
unfolding pairs_in
from_row t rs zero r l h = absurd (omega arith)
from_row t [] (suc n) r l h = absurd (omega arith)
from_row t (x ∷ rs) (suc n) zero l h = refl
from_row t (x ∷ rs) (suc n) (suc r) l h = from_row t rs n r (omega arith) (omega arith)

past_rows : (n r : ℕ) (es : List (List Pair)) → n ≤ r → drop r (take n es) ≡ []
past_rows zero zero es l = refl
past_rows zero (suc r) es l = refl
past_rows (suc n) zero es l = absurd (omega arith)
past_rows (suc n) (suc r) [] l = refl
past_rows (suc n) (suc r) (x ∷ es) l = past_rows n r es (omega arith)

pub pairs-from : (t : List Row) (n r : ℕ) → r < n → r < length t → drop r (take n (pairs_in t t)) ≡ pairs_of t (row_at t r) ∷ drop (suc r) (take n (pairs_in t t))
pairs-from t = from_row t t

pub pairs_past : (t : List Row) (n r : ℕ) → n ≤ r → drop r (take n (pairs_in t t)) ≡ []
pairs_past t n r = past_rows n r (pairs_in t t)

-- rows have the same bit pairs if each row has
pub pairs_same : (u t us ts : List Row) → length us ≡ length ts → ((r : ℕ) → r < length ts → pairs_of u (row_at us r) ≡ pairs_of t (row_at ts r))
    → pairs_in u us ≡ pairs_in t ts
unfolding pairs_in
pairs_same u t [] [] n h = refl
pairs_same u t [] (y ∷ ts) n h = absurd (omega arith)
pairs_same u t (x ∷ us) [] n h = absurd (omega arith)
pairs_same u t (x ∷ us) (y ∷ ts) n h =
    ap₂ (λ (p : List Pair) (ps : List (List Pair)). p ∷ ps) (h 0 (omega arith)) (pairs_same u t us ts (omega arith) (λ r l. h (suc r) (omega arith)))

pub all-pairs : (p : List ℕ) (seen : List Pair) (es : List (List Pair)) → satisfies_pairs p (all_pairs seen es) ≡ satisfies_all p es && satisfies_pairs p seen
unfolding all_pairs satisfies_all
all-pairs p seen [] = refl
all-pairs p seen (e ∷ es) =
    all-pairs p (reverse_aux e seen) es
    ∙ ap (λ (b : Bool). satisfies_all p es && b) (satisfies-turned p e seen)
    ∙ and_move (satisfies_all p es) (satisfies_pairs p e) (satisfies_pairs p seen)
