-- Assignments are the lists of so many bits; a test over all of them, and how often it holds, say what it says at
-- each.
use mathlib.Core.Path.{◌≡◌, refl, ap, ap₂}
use mathlib.Core.Bool.{Bool, true, false}
use mathlib.Core.List.{List, [], ◌∷◌}
use Prim.Native.Nat.{ℕ, zero, suc, ◌+◌, ◌^◌, ◌<◌, ◌≤◌}
use native.Mathlib.Omega.{arith}
use lib.ListN.{length, get_or}
use Rattle.terms.specs.Assignments.{Assignment, done, off, on, every, count}
use Rattle.laws.proofs.Bools.{and_first, and_both, one_most, zero_false, one_true, and_second}

-- An assignment of n bits has n elements.
pub assignment_length : {n : ℕ} {p : List ℕ} → Assignment n p → length p ≡ n
assignment_length done = refl
assignment_length (off h) = ap suc (assignment_length h)
assignment_length (on h) = ap suc (assignment_length h)

-- Each element of an assignment is a bit, and so is what is read past its end.
pub assignment_bit : {n : ℕ} {p : List ℕ} → Assignment n p → (i : ℕ) → get_or p i 0 ≤ 1
assignment_bit done i = omega arith
assignment_bit (off h) zero = omega arith
assignment_bit (off h) (suc i) = assignment_bit h i
assignment_bit (on h) zero = omega arith
assignment_bit (on h) (suc i) = assignment_bit h i

-- A list of n elements that are bits is an assignment of n bits.
pub assignment_of : (n : ℕ) (p : List ℕ) → length p ≡ n → ((i : ℕ) → i < n → get_or p i 0 ≤ 1) → Assignment n p
assignment_of zero [] e h = done
assignment_of zero (b ∷ p) e h = absurd (omega arith)
assignment_of (suc n) [] e h = absurd (omega arith)
assignment_of (suc n) (b ∷ p) e h = go b (h 0 (omega arith)) (assignment_of n p (omega arith) (λ i k. h (suc i) (omega arith)))
  where
    go : (b : ℕ) → b ≤ 1 → Assignment n p → Assignment (suc n) (b ∷ p)
    go zero l r = off r
    go (suc zero) l r = on r
    go (suc (suc b)) l r = absurd (omega arith)

-- What holds at every assignment holds at each.
pub every_at : (n : ℕ) (f : List ℕ → Bool) → every n f ≡ true → (p : List ℕ) → Assignment n p → f p ≡ true
unfolding every
every_at n f t p done = t
every_at n f t p (off {n = m} {p = q} h) = every_at m (λ r. f (0 ∷ r)) (search and_first) q h
every_at n f t p (on {n = m} {p = q} h) = every_at m (λ r. f (1 ∷ r)) (search and_second) q h

-- What holds at each assignment holds at every one.
pub every_of : (n : ℕ) (f : List ℕ → Bool) → ((p : List ℕ) → Assignment n p → f p ≡ true) → every n f ≡ true
unfolding every
every_of zero f h = h [] done
every_of (suc n) f h =
    let a = every_of n (λ p. f (0 ∷ p)) (λ p q. h (0 ∷ p) (off q)) in
    let b = every_of n (λ p. f (1 ∷ p)) (λ p q. h (1 ∷ p) (on q)) in
    search and_both

-- What does not hold at every assignment fails at one.
pub every_false : (n : ℕ) (f : List ℕ → Bool) → every n f ≡ false → (p : List ℕ) × (Assignment n p × (f p ≡ false))
unfolding every
every_false zero f e = ([], (done, e))
every_false (suc n) f e =
    go (every n (λ p. f (0 ∷ p))) refl (every_false n (λ p. f (0 ∷ p))) (every_false n (λ p. f (1 ∷ p)))
  where
    go : (b : Bool) → every n (λ p. f (0 ∷ p)) ≡ b
        → (every n (λ p. f (0 ∷ p)) ≡ false → (p : List ℕ) × (Assignment n p × (f (0 ∷ p) ≡ false)))
        → (every n (λ p. f (1 ∷ p)) ≡ false → (p : List ℕ) × (Assignment n p × (f (1 ∷ p) ≡ false)))
        → (p : List ℕ) × (Assignment (suc n) p × (f p ≡ false))
    go true t first second = let s = second (rw t at e) in (1 ∷ s.0, (on s.1.0, s.1.1))
    go false t first second = let s = first t in (0 ∷ s.0, (off s.1.0, s.1.1))

-- Tests that agree at each assignment hold equally often.
pub count_ext : (n : ℕ) (f g : List ℕ → Bool) → ((p : List ℕ) → Assignment n p → f p ≡ g p) → count n f ≡ count n g
unfolding count
count_ext zero f g h = rw (h [] done)
count_ext (suc n) f g h =
    ap₂ ◌+◌ (count_ext n (λ p. f (0 ∷ p)) (λ p. g (0 ∷ p)) (λ p q. h (0 ∷ p) (off q)))
    (count_ext n (λ p. f (1 ∷ p)) (λ p. g (1 ∷ p)) (λ p q. h (1 ∷ p) (on q)))

-- There are 2 ^ n assignments of n bits, and no test holds at more.
pub count_most : (n : ℕ) (f : List ℕ → Bool) → count n f ≤ 2 ^ n
unfolding count
count_most zero f = one_most (f [])
count_most (suc n) f = omega (arith, count_most n (λ p. f (0 ∷ p)), count_most n (λ p. f (1 ∷ p)))

-- A test that holds at no assignment is counted 0 times.
pub count_none_of : (n : ℕ) (f : List ℕ → Bool) → ((p : List ℕ) → Assignment n p → f p ≡ false) → count n f ≡ 0
unfolding count
count_none_of zero f h = rw (h [] done)
count_none_of (suc n) f h =
    omega (arith, count_none_of n (λ p. f (0 ∷ p)) (λ p q. h (0 ∷ p) (off q)), count_none_of n (λ p. f (1 ∷ p)) (λ p q. h (1 ∷ p) (on q)))

-- A test that is counted 0 times holds at no assignment.
pub count_none_at : (n : ℕ) (f : List ℕ → Bool) → count n f ≡ 0 → (p : List ℕ) → Assignment n p → f p ≡ false
unfolding count
count_none_at n f e p done = zero_false (f []) e
count_none_at n f e p (off {n = m} {p = q} h) = count_none_at m (λ r. f (0 ∷ r)) (omega arith) q h
count_none_at n f e p (on {n = m} {p = q} h) = count_none_at m (λ r. f (1 ∷ r)) (omega arith) q h

-- A test that holds at each assignment is counted 2 ^ n times.
pub count-all_of : (n : ℕ) (f : List ℕ → Bool) → ((p : List ℕ) → Assignment n p → f p ≡ true) → count n f ≡ 2 ^ n
unfolding count
count-all_of zero f h = rw (h [] done)
count-all_of (suc n) f h =
    omega (arith, count-all_of n (λ p. f (0 ∷ p)) (λ p q. h (0 ∷ p) (off q)), count-all_of n (λ p. f (1 ∷ p)) (λ p q. h (1 ∷ p) (on q)))

-- A test that is counted 2 ^ n times holds at each assignment.
pub count-all_at : (n : ℕ) (f : List ℕ → Bool) → count n f ≡ 2 ^ n → (p : List ℕ) → Assignment n p → f p ≡ true
unfolding count
count-all_at n f e p done = one_true (f []) e
count-all_at n f e p (off {n = m} {p = q} h) =
    count-all_at m (λ r. f (0 ∷ r)) (omega (arith, count_most m (λ r. f (0 ∷ r)), count_most m (λ r. f (1 ∷ r)))) q h
count-all_at n f e p (on {n = m} {p = q} h) =
    count-all_at m (λ r. f (1 ∷ r)) (omega (arith, count_most m (λ r. f (0 ∷ r)), count_most m (λ r. f (1 ∷ r)))) q h
