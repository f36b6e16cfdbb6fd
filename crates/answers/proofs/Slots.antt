-- Solved systems bit by bit: each place has a fixed bit, or a place in a fresh piece.
use mathlib.Core.Path.{◌≡◌, refl}
use mathlib.Core.Logic.{◌≢◌}
use mathlib.Core.Bool.{Bool, true, false, not, ◌&&◌, ◌||◌}
use mathlib.Core.List.{List}
use Prim.Native.Nat.{ℕ, zero, suc, ◌≤◌, ◌<◌, pred}
use lib.Dec.{eqb, leb}
use lib.ListN.{get_or}
use borrow.Author.Tests.{eq-eqb}
use Rattle.terms.specs.Assignments.{Assignment}
use Rattle.terms.specs.Table.{bit_of}
use Rattle.terms.proofs.Assignments.{every_of, assignment_of}
use Rattle.answers.specs.Pairs.{Pair, satisfies_pairs, equals, equal_under}
use Rattle.laws.specs.Lists.{below, tally, member}
use Rattle.laws.proofs.Lists.{tab, tab_length, tab_at}

-- what holds in every pattern, as a statement
pub equals_from : (n : ℕ) (seen : List Pair) (s t : ℕ) → ((p : List ℕ) → Assignment n p → satisfies_pairs p seen ≡ true → bit_of p s ≡ bit_of p t) → equals n seen s t ≡ true
unfolding equal_under
equals_from n seen s t h = every_of n (λ p. not (satisfies_pairs p seen) || eqb (bit_of p s) (bit_of p t)) (λ p k. go p k (satisfies_pairs p seen) refl)
  where
    go : (p : List ℕ) → Assignment n p → (b : Bool) → satisfies_pairs p seen ≡ b → not b || eqb (bit_of p s) (bit_of p t) ≡ true
    go p k true m = eq-eqb (bit_of p s) (bit_of p t) (h p k m)
    go p k false m = refl

-- what stands at a bit: a fill's bit, or bit o of fresh piece f
pub data Slot : Type 0 where
  fill : ℕ → Slot
  part : ℕ → ℕ → Slot

abbrev pub value : (ℕ → ℕ → ℕ) → Slot → ℕ
value φ (fill b) = b
value φ (part f o) = φ f o

-- slots give an assignment at each filling
pub slots_assignment : (n : ℕ) (slot : ℕ → Slot) → ((i b : ℕ) → slot i ≡ fill b → b ≤ 1) → (φ : ℕ → ℕ → ℕ) → ((f o : ℕ) → φ f o ≤ 1)
    → Assignment n (tab n (λ i. value φ (slot i)))
slots_assignment n slot bits φ h =
    assignment_of n (tab n (λ i. value φ (slot i))) (tab_length n (λ i. value φ (slot i))) (λ i l. rw (tab_at n (λ j. value φ (slot j)) i l) (go (slot i) (bits i)))
  where
    go : (x : Slot) → ((b : ℕ) → x ≡ fill b → b ≤ 1) → value φ x ≤ 1
    go (fill b) k = k b refl
    go (part f o) k = h f o

pub slots_at : (n : ℕ) (slot : ℕ → Slot) (φ : ℕ → ℕ → ℕ) (i : ℕ) → i < n → bit_of (tab n (λ j. value φ (slot j))) (suc (suc i)) ≡ value φ (slot i)
unfolding bit_of
slots_at n slot φ i l = tab_at n (λ j. value φ (slot j)) i l

pub record System (n : ℕ) (start : ℕ → Bool) (seen : List Pair) : Type 0 where
  pub labels : List ℕ
  pub wide : ℕ → ℕ
  pub slot : ℕ → Slot
  pub bits : (i b : ℕ) → slot i ≡ fill b → b ≤ 1
  pub inside : (i f o : ℕ) → i < n → slot i ≡ part f o → (member f labels ≡ true) × (o < wide f)
  pub first : (f o : ℕ) → slot 0 ≢ part f (suc o)
  pub before : (i f o : ℕ) → suc i < n → slot (suc i) ≡ part f (suc o) → (start (suc i) ≡ false) × (slot i ≡ part f o)
  pub after : (i f o : ℕ) → i < n → slot i ≡ part f o → suc o < wide f → (start (suc i) ≡ false) × (slot (suc i) ≡ part f (suc o))
  pub gives : (φ : ℕ → ℕ → ℕ) → ((f o : ℕ) → φ f o ≤ 1) → satisfies_pairs (tab n (λ i. value φ (slot i))) seen ≡ true
  pub takes : (p : List ℕ) → Assignment n p → satisfies_pairs p seen ≡ true → (φ : ℕ → ℕ → ℕ) × ((i : ℕ) → i < n → get_or p i 0 ≡ value φ (slot i))

-- The rule of the cuts, over the class C of each bit. A variable starts at each i with `start i`, and one would start at n.
abbrev pub loose : (ℕ → ℕ) → ℕ → Bool
loose C i = leb 2 (C i)

-- bit i + 1 goes on the piece of bit i
unfoldable pub glued : ℕ → (ℕ → Bool) → (ℕ → ℕ) → ℕ → Bool
glued n start C i = loose C i && loose C (suc i) && not (start (suc i))
    && below n (λ k. not (eqb (C k) (C (suc i))) || (not (start k) && eqb (C (pred k)) (C i)))
    && below n (λ k. not (eqb (C k) (C i)) || (not (start (suc k)) && eqb (C (suc k)) (C (suc i))))

unfoldable pub heads : ℕ → (ℕ → Bool) → (ℕ → ℕ) → ℕ → Bool
heads n start C zero = loose C zero
heads n start C (suc i) = loose C (suc i) && not (glued n start C i)

-- the fresh pieces: the classes whose least bit begins a piece
unfoldable pub fresh : ℕ → (ℕ → Bool) → (ℕ → ℕ) → ℕ
fresh n start C = tally n (λ i. eqb (C i) (suc (suc i)) && heads n start C i)
