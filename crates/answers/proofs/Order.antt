-- What pairs say depends on the assignments that satisfy them alone, so neither on their order nor on the order of their sides.
use mathlib.Core.Path.{◌≡◌, refl, sym, ◌∙◌, ap, ap₂}
use mathlib.Core.Bool.{Bool, not, ◌&&◌, ◌||◌, and_comm, and_assoc}
use mathlib.Core.List.{List, [], ◌∷◌, ◌++◌, map}
use Prim.Native.Nat.{ℕ, zero, suc, ◌+◌}
use lib.Dec.{eqb}
use Rattle.terms.specs.Assignments.{every}
use Rattle.terms.specs.Table.{bit_of}
use Rattle.answers.specs.Pairs.{Pair, satisfies_pairs, equals, equal_under}
use Rattle.answers.specs.Representatives.{representative, turned, Reordered, SaySame, again, behind, exchanged, unchanged}
use Rattle.laws.proofs.Least.{least_ext}
use Rattle.laws.proofs.Numbers.{eqb_turn}
use Rattle.laws.proofs.Bools.{and_past}

pub every_ext : (n : ℕ) (f g : List ℕ → Bool) → ((p : List ℕ) → f p ≡ g p) → every n f ≡ every n g
unfolding every
every_ext zero f g h = h []
every_ext (suc n) f g h =
    ap₂ ◌&&◌ (every_ext n (λ p. f (0 ∷ p)) (λ p. g (0 ∷ p)) (λ p. h (0 ∷ p))) (every_ext n (λ p. f (1 ∷ p)) (λ p. g (1 ∷ p)) (λ p. h (1 ∷ p)))

pub equals_same : (n : ℕ) (qs rs : List Pair) → SaySame qs rs → (s t : ℕ) → equals n qs s t ≡ equals n rs s t
unfolding equal_under
equals_same n qs rs h s t =
    every_ext n (λ p. not (satisfies_pairs p qs) || eqb (bit_of p s) (bit_of p t)) (λ p. not (satisfies_pairs p rs) || eqb (bit_of p s) (bit_of p t))
    (λ p. ap (λ (b : Bool). not b || eqb (bit_of p s) (bit_of p t)) (h p))

pub representative_same : (n : ℕ) (qs rs : List Pair) → SaySame qs rs → (s : ℕ) → representative n qs s ≡ representative n rs s
unfolding representative
representative_same n qs rs h s = least_ext (equals n qs s) (equals n rs s) (equals_same n qs rs h s) 0 s

pub satisfies-append : (p : List ℕ) (qs rs : List Pair) → satisfies_pairs p (qs ++ rs) ≡ satisfies_pairs p qs && satisfies_pairs p rs
unfolding satisfies_pairs
satisfies-append p [] rs = refl
satisfies-append p (q ∷ qs) rs =
    ap (λ (b : Bool). eqb (bit_of p q.left) (bit_of p q.right) && b) (satisfies-append p qs rs)
    ∙ sym (and_assoc (eqb (bit_of p q.left) (bit_of p q.right)) (satisfies_pairs p qs) (satisfies_pairs p rs))

pub parts_exchanged : (qs rs : List Pair) → SaySame (qs ++ rs) (rs ++ qs)
parts_exchanged qs rs p =
    satisfies-append p qs rs ∙ and_comm (satisfies_pairs p qs) (satisfies_pairs p rs) ∙ sym (satisfies-append p rs qs)

pub sides_exchanged : (qs : List Pair) → SaySame (map turned qs) qs
unfolding satisfies_pairs
sides_exchanged [] p = refl
sides_exchanged (q ∷ qs) p = ap₂ ◌&&◌ (eqb_turn (bit_of p q.right) (bit_of p q.left)) (sides_exchanged qs p)

pub order_free : {qs rs : List Pair} → Reordered qs rs → SaySame qs rs
unfolding satisfies_pairs
order_free unchanged p = refl
order_free (exchanged {q = q} {r = r} {qs = qs}) p =
    and_past (eqb (bit_of p q.left) (bit_of p q.right)) (eqb (bit_of p r.left) (bit_of p r.right)) (satisfies_pairs p qs)
order_free (behind {q = q} h) p = ap (λ (b : Bool). eqb (bit_of p q.left) (bit_of p q.right) && b) (order_free h p)
order_free (again h k) p = order_free h p ∙ order_free k p
