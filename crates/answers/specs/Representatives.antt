-- What the theorems on pairs are stated with (proofs/Theorems.antt, Order.antt): pairs of several equations, the lowest source that equals
-- a source, pairs that say the same. No host's contract reaches these.
use Rattle.std.specs.Prelude.{◌≡◌, Bool, true, false, not, ◌&&◌, ℕ}
use mathlib.Core.List.{List, [], ◌∷◌, reverse_aux}
use Rattle.terms.specs.Assignments.{every}
use Rattle.laws.specs.Lists.{least}
use Rattle.answers.specs.Pairs.{Pair, satisfies_pairs, equals}

-- Whether an assignment satisfies the pairs of each of several equations.
unfoldable pub satisfies_all : List ℕ → List (List Pair) → Bool
satisfies_all p [] = true
satisfies_all p (e ∷ es) = satisfies_pairs p e && satisfies_all p es

-- The pairs of several equations in one list, the last first.
unfoldable pub all_pairs : List Pair → List (List Pair) → List Pair
all_pairs seen [] = seen
all_pairs seen (e ∷ es) = all_pairs (reverse_aux e seen) es

-- Whether no assignment satisfies the pairs; and that one does.
unfoldable pub none_satisfies : ℕ → List Pair → Bool
none_satisfies n qs = every n (λ p. not (satisfies_pairs p qs))

abbrev pub Satisfiable : ℕ → List Pair → Type 0
Satisfiable n qs = none_satisfies n qs ≡ false

-- The lowest source that equals s: the fixed bit where s is fixed, else the lowest place.
unfoldable pub representative : ℕ → List Pair → ℕ → ℕ
representative n qs s = least (equals n qs s) 0 s

-- Pairs that the same assignments satisfy.
abbrev pub SaySame : List Pair → List Pair → Type 0
SaySame qs rs = (p : List ℕ) → satisfies_pairs p qs ≡ satisfies_pairs p rs

-- The sides of a pair exchanged.
abbrev pub turned : Pair → Pair
turned q = record { left = q.right; right = q.left }

-- The same pairs in another order: neighbours exchanged, any number of times.
pub data Reordered : List Pair → List Pair → Type 0 where
  unchanged : {qs : List Pair} → Reordered qs qs
  exchanged : {q r : Pair} {qs : List Pair} → Reordered (q ∷ r ∷ qs) (r ∷ q ∷ qs)
  behind : {q : Pair} {qs rs : List Pair} → Reordered qs rs → Reordered (q ∷ qs) (q ∷ rs)
  again : {qs rs ss : List Pair} → Reordered qs rs → Reordered rs ss → Reordered qs ss
