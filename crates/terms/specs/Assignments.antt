-- All assignments (patterns) of n bits: whether a test holds at each, and at how many it does.
use Rattle.std.specs.Prelude.{Bool, ◌&&◌, cond, List, [], ◌∷◌, ℕ, zero, suc, ◌+◌}

-- p is an assignment of n bits, each 0 or 1.
pub data Assignment : ℕ → List ℕ → Type 0 where
  done : Assignment 0 []
  off : {n : ℕ} {p : List ℕ} → Assignment n p → Assignment (suc n) (0 ∷ p)
  on : {n : ℕ} {p : List ℕ} → Assignment n p → Assignment (suc n) (1 ∷ p)

-- Whether f holds at every assignment of n bits.
unfoldable pub every : ℕ → (List ℕ → Bool) → Bool
every zero f = f []
every (suc n) f = every n (λ p. f (0 ∷ p)) && every n (λ p. f (1 ∷ p))

-- At how many assignments of n bits f holds.
unfoldable pub count : ℕ → (List ℕ → Bool) → ℕ
count zero f = cond (f []) 1 0
count (suc n) f = count n (λ p. f (0 ∷ p)) + count n (λ p. f (1 ∷ p))
