-- Classes as links in a buffer (document 01, "The solver's answer": tied bits): each source links to a lower one of its class, or to
-- itself. The roots are the lists of classes of crate answers; a link that is shortened changes nothing of them.
use Rattle.std.specs.Prelude.{◌≡◌, cond, ◌≢◌, List, map, ℕ, zero, suc, ◌≤◌, ◌<◌, max, eqb, length, get_or}
use Rattle.laws.specs.Lists.{count_up}
use Rattle.answers.specs.Pairs.{Pair}
use Rattle.answers.specs.inner.Classes.{rep, merge}
use Rattle.classes.specs.declared.Pairing.{Pairing}
use Rattle.classes.specs.declared.Pairing.TheVariants.{Nothing, Tie, Conflict}

-- Links point down.
abbrev pub Low : List ℕ → Type 0
Low h = (i : ℕ) → get_or h i 0 ≤ i

-- The root of each source: its links followed as often as its number says. Links point down, so that is enough.
unfoldable pub climb : ℕ → List ℕ → ℕ → ℕ
climb zero h x = x
climb (suc n) h x = climb n h (get_or h x 0)

unfoldable pub roots_of : List ℕ → List ℕ
roots_of h = map (λ i. climb i h i) (count_up 0 (length h))

-- What a root that was found is, and the links after it: the same roots.
pub record RootFound (h h' : List ℕ) (s r : ℕ) : Type 0 where
  pub low : Low h'
  pub small : r < length h
  pub root : r ≡ rep (roots_of h) s
  pub same : roots_of h' ≡ roots_of h

abbrev pub pair : ℕ → ℕ → Pair
pair s t = record { left = s; right = t }

-- What a pair is whose roots are a and b: 0 nothing new, 1 a tie, 2 a conflict (two different fixed bits meet).
unfoldable pub linked : ℕ → ℕ → ℕ
linked a b = cond (eqb a b) 0 (cond (eqb (max a b) 1) 2 1)

-- These numbers for the enum.
abbrev pub number_of : Pairing → ℕ
number_of Nothing = 0
number_of Tie = 1
number_of Conflict = 2

-- What a pair that was taken is, and the links after it: the classes of the roots joined.
pub record PairTaken (h h' : List ℕ) (s t r : ℕ) : Type 0 where
  pub low : Low h'
  pub what : r ≡ linked (rep (roots_of h) s) (rep (roots_of h) t)
  pub next : r ≢ 2 → roots_of h' ≡ merge (roots_of h) (pair s t)

-- What the functions promise: all of it where links point down and the sources are there.
abbrev pub Finds : List ℕ → List ℕ → ℕ → ℕ → Type 0
Finds h h' s r = Low h → s < length h → RootFound h h' s r

abbrev pub Takes : List ℕ → List ℕ → ℕ → ℕ → ℕ → Type 0
Takes h h' s t r = Low h → s < length h → t < length h → PairTaken h h' s t r

abbrev pub Settles : List ℕ → List ℕ → Type 0
Settles h h' = Low h → h' ≡ roots_of h
