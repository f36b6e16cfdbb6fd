-- The executable twin of Pairs.antt: a list that has for each source the lowest of its class, changed pair by pair. The theorems
-- of this crate say that it comes to the same.
use Rattle.std.specs.Prelude.{◌≡◌, Bool, true, cond, List, [], ◌∷◌, map, ℕ, suc, ◌+◌, ◌≤◌, min, max, eqb, length, get_or}
use Rattle.terms.specs.Assignments.{Assignment}
use Rattle.terms.specs.Table.{bit_of}
use Rattle.laws.specs.Lists.{count_up}
use Rattle.answers.specs.Pairs.{Pair, satisfies_pairs}

abbrev pub rep : List ℕ → ℕ → ℕ
rep c s = get_or c s 0

-- Whether two sources are of one class.
unfoldable pub in_class : List ℕ → ℕ → ℕ → Bool
in_class c s t = eqb (rep c s) (rep c t)

unfoldable pub relabel : ℕ → ℕ → ℕ → ℕ
relabel high low v = cond (eqb v high) low v

-- One pair taken: the higher of its classes goes to the lower.
unfoldable pub merge : List ℕ → Pair → List ℕ
merge c q = map (relabel (max (rep c q.left) (rep c q.right)) (min (rep c q.left) (rep c q.right))) c

unfoldable pub run : List ℕ → List Pair → List ℕ
run c [] = c
run c (q ∷ qs) = run (merge c q) qs

-- The classes of n places after some pairs: at first each source is its own.
unfoldable pub classes_of : ℕ → List Pair → List ℕ
classes_of n qs = run (count_up 0 (suc (suc n))) qs

-- How many places of a list that begins at k represent themselves.
unfoldable pub roots : ℕ → List ℕ → ℕ
roots k [] = 0
roots k (v ∷ c) = cond (eqb v k) 1 0 + roots (suc k) c

-- How many pairs join two classes.
unfoldable pub links : List ℕ → List Pair → ℕ
links c [] = 0
links c (q ∷ qs) = cond (eqb (rep c q.left) (rep c q.right)) 0 1 + links (merge c q) qs

-- The first equation after which the fixed bits are in one class, or the number of equations; and the links of those before it.
unfoldable pub conflict_at : List ℕ → List (List Pair) → ℕ
conflict_at c [] = 0
conflict_at c (e ∷ es) = cond (eqb (rep (run c e) 1) 0) 0 (suc (conflict_at (run c e) es))

unfoldable pub links_before : List ℕ → List (List Pair) → ℕ
links_before c [] = 0
links_before c (e ∷ es) = cond (eqb (rep (run c e) 1) 0) 0 (links c e + links_before (run c e) es)

-- Several equations taken one after the other.
unfoldable pub run_all : List ℕ → List (List Pair) → List ℕ
run_all c [] = c
run_all c (e ∷ es) = run_all (run c e) es

-- A list that has for each source the lowest of its class, where the classes are those of pairs: an assignment satisfies the pairs exactly
-- if each source has the bit of its representative.
pub record Represents (n : ℕ) (c : List ℕ) (seen : List Pair) : Type 0 where
  pub len : length c ≡ suc (suc n)
  pub low : (i : ℕ) → rep c i ≤ i
  pub root : (i : ℕ) → rep c (rep c i) ≡ rep c i
  pub just : (p : List ℕ) → Assignment n p → satisfies_pairs p seen ≡ true → (i : ℕ) → bit_of p i ≡ bit_of p (rep c i)
  pub full : (p : List ℕ) → Assignment n p → ((i : ℕ) → bit_of p i ≡ bit_of p (rep c i)) → satisfies_pairs p seen ≡ true
