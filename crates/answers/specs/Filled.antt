-- What the theorems say of the bit pairs of filled equations (document 02, (iii); proofs/Filled.antt).
use Rattle.std.specs.Prelude.{◌≡◌, true, List, [], ◌++◌, ℕ, ◌+◌, max, length, take, drop, replicate}
use Rattle.terms.specs.declared.Row.{Row}
use Rattle.terms.specs.Table.{row_at, bits_of, width_of, if_equation, values_of, value_of, source_of, same_word, sides_agree}
use Rattle.terms.specs.Filled.{equation_of}
use Rattle.answers.specs.Pairs.{paired, pairs_of}

-- The bit pairs of the equation of rows a and b, row r: as many as the wider side has bits. The pairs of that side's top bits with zeros come
-- first, then those of its other bits with the narrower side.
pub record FilledPairs (t : List Row) (r a b : ℕ) : Type 0 where
  pub count : length (pairs_of t (row_at t r)) ≡ max (width_of t a) (width_of t b)
  pub left_wider : (g : ℕ) → width_of t a ≡ width_of t b + g
      → pairs_of t (row_at t r) ≡ paired (take g (source_of t a)) (replicate g 0) ++ paired (drop g (source_of t a)) (source_of t b)
  pub right_wider : (g : ℕ) → width_of t b ≡ width_of t a + g
      → pairs_of t (row_at t r) ≡ paired (replicate g 0) (take g (source_of t b)) ++ paired (source_of t a) (drop g (source_of t b))

-- With sides of one width nothing is filled: a row agrees where the values of its sides do as they are, and its bit pairs are those of its sides as they are.
pub record Unfilled (t : List Row) (r : Row) : Type 0 where
  pub agree : (p : List ℕ) → length p ≡ bits_of t → sides_agree (values_of t p) r ≡ if_equation r (same_word (value_of t p r.a) (value_of t p r.b)) true
  pub pairs : pairs_of t r ≡ if_equation r (paired (source_of t r.a) (source_of t r.b)) []

-- Row m against row n is as row m against row j, either side first: the same bit pairs, and agreement under the same assignments.
pub record AsJoined (t : List Row) (n j m : ℕ) : Type 0 where
  pub pairs : pairs_of t (equation_of n m) ≡ pairs_of t (equation_of j m)
  pub pairs_turned : pairs_of t (equation_of m n) ≡ pairs_of t (equation_of m j)
  pub agree : (p : List ℕ) → length p ≡ bits_of t → sides_agree (values_of t p) (equation_of n m) ≡ sides_agree (values_of t p) (equation_of j m)
  pub agree-turned : (p : List ℕ) → length p ≡ bits_of t → sides_agree (values_of t p) (equation_of m n) ≡ sides_agree (values_of t p) (equation_of m j)
