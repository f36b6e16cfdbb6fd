-- What equations say of single bits (document 01, "The solver's answer"): bit pairs, which bits are equal, which pairs are ties. All of
-- it is by what holds at every assignment: there is no algorithm here. Bits are sources: 0 and 1 are the fixed bits, i + 2 is place i of
-- an assignment.
use Rattle.std.specs.Prelude.{Bool, true, not, ◌&&◌, ◌||◌, cond, List, [], ◌∷◌, ℕ, ◌+◌, eqb}
use Rattle.terms.specs.declared.Row.{Row}
use Rattle.terms.specs.Assignments.{every}
use Rattle.terms.specs.Table.{if_equation, bit_of, source_of, evened, counting}

pub record Pair : Type 0 where
  pub left : ℕ
  pub right : ℕ

-- Two words' bits, side by side.
unfoldable pub paired : List ℕ → List ℕ → List Pair
paired [] ys = []
paired (x ∷ xs) [] = []
paired (x ∷ xs) (y ∷ ys) = record { left = x; right = y } ∷ paired xs ys

-- The bit pairs of a row, high end first: none, if it is no equation. The narrower side is filled: a zero there is source 0, the fixed bit.
unfoldable pub pairs_of : List Row → Row → List Pair
pairs_of t r =
    if_equation r
    (paired (evened (source_of t r.a) (source_of t r.b)) (evened (source_of t r.b) (source_of t r.a)))
    []

-- The bit pairs of each row in turn.
unfoldable pub pairs_in : List Row → List Row → List (List Pair)
pairs_in t [] = []
pairs_in t (r ∷ rs) = pairs_of t r ∷ pairs_in t rs

-- The bit pairs of a table's equations that count: a list for each row, with nothing in it for a row that is no equation.
abbrev pub equation_pairs : List Row → List (List Pair)
equation_pairs t = pairs_in t (counting t)

-- Whether two sources have the same bit in every assignment of n bits that passes a test (are "tied bits", where it passes if it
-- satisfies the table).
unfoldable pub equal_under : ℕ → (List ℕ → Bool) → ℕ → ℕ → Bool
equal_under n test s t = every n (λ p. not (test p) || eqb (bit_of p s) (bit_of p t))

-- Whether an assignment satisfies (meets) each of the pairs.
unfoldable pub satisfies_pairs : List ℕ → List Pair → Bool
satisfies_pairs p [] = true
satisfies_pairs p (q ∷ qs) = eqb (bit_of p q.left) (bit_of p q.right) && satisfies_pairs p qs

-- Whether pairs imply that two sources are equal: they are in every assignment that satisfies the pairs.
abbrev pub equals : ℕ → List Pair → ℕ → ℕ → Bool
equals n qs = equal_under n (λ p. satisfies_pairs p qs)

-- How many pairs of a list are ties: not implied by the pairs before them, of which `seen` come first.
unfoldable pub ties : ℕ → List Pair → List Pair → ℕ
ties n seen [] = 0
ties n seen (q ∷ qs) = cond (equals n seen q.left q.right) 0 1 + ties n (q ∷ seen) qs
