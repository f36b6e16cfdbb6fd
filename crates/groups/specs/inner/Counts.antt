-- How many equal rows the places of k words have (document 02, (ii)): one for each two words and each shift at which a place stands to its
-- representative. The representative of source s is r s; place i is source i + 2.
use Rattle.std.specs.Prelude.{◌≡◌, Bool, true, not, ◌&&◌, List, ℕ, suc, ◌+◌, ◌-◌, ◌*◌, ◌/◌, ◌≤◌, eqb, leb, ltb, get_or}
use Rattle.laws.specs.Lists.{below, tally}

-- Representatives as links have them.
abbrev pub linked : List ℕ → ℕ → ℕ
linked links s = get_or links s 0

-- Whether another place, a lower one, stands for place i: it is neither fixed nor its own representative. And that place.
unfoldable pub represented : (ℕ → ℕ) → ℕ → Bool
represented r i = leb 2 (r (suc (suc i))) && ltb (r (suc (suc i))) (suc (suc i))

abbrev pub stand_in : (ℕ → ℕ) → ℕ → ℕ
stand_in r i = r (suc (suc i)) - 2

-- Whether places i and i' stand alike to theirs: they are of one word, so are these, and the distance is the same.
unfoldable pub alike : (ℕ → ℕ) → ℕ → ℕ → Bool
alike r i i' = eqb (i / 16) (i' / 16) && (eqb (stand_in r i / 16) (stand_in r i' / 16) && eqb (i + stand_in r i') (i' + stand_in r i))

-- Whether place i has a lower place that stands for it, and no place before it stands alike.
unfoldable pub first_alike : (ℕ → ℕ) → ℕ → Bool
first_alike r i = represented r i && below i (λ i'. not (represented r i' && alike r i i'))

-- How many such places k words have: of all that stand alike one.
unfoldable pub equal_rows : (ℕ → ℕ) → ℕ → ℕ
equal_rows r k = tally (16 * k) (first_alike r)

-- What the theorem says of it (proofs/Alike.antt): each place that a lower one stands for stands alike to a counted one, and no two counted
-- ones stand alike.
pub record CountedFor (r : ℕ → ℕ) (i : ℕ) : Type 0 where
  pub place : ℕ
  pub low : place ≤ i
  pub counted : first_alike r place ≡ true
  pub like : alike r i place ≡ true

pub record OneForEach (r : ℕ → ℕ) : Type 0 where
  pub some : (i : ℕ) → represented r i ≡ true → CountedFor r i
  pub alone : (i j : ℕ) → first_alike r i ≡ true → first_alike r j ≡ true → alike r i j ≡ true → i ≡ j
