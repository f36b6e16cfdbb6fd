-- What filled equations say of a table none of whose rows breaks a rule (document 02, (iii)): they compare numbers, the top bits of a wider side are
-- 0, sides of one width are compared as they are, and zeros joined by hand are the same. Assumes nothing.
use mathlib.Core.Path.{◌≡◌, refl, sym, ◌∙◌, ap}
use mathlib.Core.Bool.{true}
use mathlib.Core.List.{List, [], ◌∷◌, ◌++◌, map}
use mathlib.Core.Logic.{◌⊎◌, inl, inr}
use Prim.Native.Nat.{ℕ, zero, suc, ◌+◌, ◌<◌, ◌≤◌}
use native.Mathlib.Omega.{arith}
use lib.ListN.{length, get_or, replicate, length-append, length-replicate}
use borrow.Author.Tests.{le-leb}
use Rattle.laws.specs.Lists.{all_bits}
use Rattle.terms.specs.declared.Row.{Row}
use Rattle.terms.specs.Table.{row_at, bits_of, bit_of, source_of, values_of, value_of, if_equation, evened, same_word, sides_agree, satisfies}
use Rattle.terms.specs.Assignments.{Assignment}
use Rattle.terms.specs.Acceptance.{Exactly}
use Rattle.terms.specs.Sound.{Sound, IsEquation}
use Rattle.terms.specs.Filled.{EqualNumbers, MeetsByNumbers, WiderBy, TopZero, ByHand, equation_of}
use Rattle.terms.proofs.Assignments.{assignment_length, assignment_bit}
use Rattle.terms.proofs.Faults.{kept, kept_names, equation_names, concat_names}
use Rattle.terms.proofs.Filled.{equal_numbers, evened-word, evened_even, same_even, evened_by, top_zero}
use Rattle.terms.proofs.RowKinds.{kind_same}
use Rattle.terms.specs.Counting.{Counts}
use Rattle.terms.proofs.Satisfies.{agree_at, agree_of, satisfies_at, satisfies_of}
use Rattle.terms.proofs.Sources.{value_sources}
use Rattle.terms.proofs.Values.{value-length, value-concat, value_fixed, fill-word}

-- what a source reads in an assignment is a bit
source-bit : {n : ℕ} {p : List ℕ} → Assignment n p → (s : ℕ) → bit_of p s ≤ 1
unfolding bit_of
source-bit h zero = omega arith
source-bit h (suc zero) = omega arith
source-bit h (suc (suc i)) = assignment_bit h i

read_bits : {n : ℕ} {p : List ℕ} → Assignment n p → (xs : List ℕ) → all_bits (map (bit_of p) xs) ≡ true
unfolding all_bits
read_bits h [] = refl
read_bits {n} {p} h (x ∷ xs) = rw (le-leb (bit_of p x) 1 (source-bit h x)) (read_bits h xs)

-- sides of one width are compared as they are
pub agree_even : (vs : List (List ℕ)) (r : Row) → (r.kind ≡ 4 → length (get_or vs r.a []) ≡ length (get_or vs r.b []))
    → sides_agree vs r ≡ if_equation r (same_word (get_or vs r.a []) (get_or vs r.b [])) true
unfolding sides_agree
agree_even vs r h =
    kind_same r.kind (λ e. refl) (λ e. refl) (λ e. refl) (λ e. refl)
    (λ e. same_even (get_or vs r.a []) (get_or vs r.b []) (h e))

-- an equation agrees exactly if its filled sides are equal
row_agrees : (vs : List (List ℕ)) (r : Row) → r.kind ≡ 4
    → Exactly (sides_agree vs r ≡ true) (evened (get_or vs r.a []) (get_or vs r.b []) ≡ evened (get_or vs r.b []) (get_or vs r.a []))
row_agrees vs r k = record { to = agree_at vs r k; of = λ h. agree_of vs r (λ e. h) }

-- one word is g bits wider than another
wider_even : (g : ℕ) (x y : List ℕ) → length x ≡ length y + g → Exactly (evened x y ≡ evened y x) (TopZero g x y)
wider_even g x y l =
    let z = top_zero g y x in
    let same = (evened-word x y).same (omega arith) in
    let by = evened_by g y x l in
    record { to = λ e. z.to (sym same ∙ e ∙ by); of = λ h. same ∙ z.of h ∙ sym by }

-- words that are the same once they are brought to the length of row m's, and row m's once it is brought to theirs
pub record SameFilled (vs : List (List ℕ)) (n j m : ℕ) : Type 0 where
  pub narrower : evened (get_or vs n []) (get_or vs m []) ≡ evened (get_or vs j []) (get_or vs m [])
  pub wider : evened (get_or vs m []) (get_or vs n []) ≡ evened (get_or vs m []) (get_or vs j [])

module _ (t : List Row) (sound : Sound t) where
  -- the sides of an equation are terms before it
  pub sides_in : (r : ℕ) → r < length t → (row_at t r).kind ≡ 4 → ((row_at t r).a < length t) × ((row_at t r).b < length t)
  sides_in r h k =
      let names = equation_names t r (row_at t r) (kept_names t r (kept t r (sound r h))) k in
      (omega (arith, names.0.earlier), omega (arith, names.1.earlier))

  -- the value of a row under an assignment is a word of bits
  value_bits : (p : List ℕ) → Assignment (bits_of t) p → (r : ℕ) → r < length t → all_bits (value_of t p r) ≡ true
  value_bits p h r l = rw (value_sources t p sound (assignment_length h) r l) (read_bits h (source_of t r))

  -- An assignment satisfies the table exactly if in each equation that counts both sides are equal as binary numbers.
  pub meets_by_numbers : (p : List ℕ) → Assignment (bits_of t) p → MeetsByNumbers t p
  meets_by_numbers p h =
      let same : (r : ℕ) → Counts t r → EqualNumbers (value_of t p (row_at t r).a) (value_of t p (row_at t r).b) =
      λ r c. let s = sides_in r c.in_table c.is_equation in equal_numbers _ _ (value_bits p h (row_at t r).a s.0) (value_bits p h (row_at t r).b s.1) in
      record {
        to = λ m r c. (same r c).to (satisfies_at t p m r c);
        of = λ e. satisfies_of t p (λ r c. (same r c).of (e r c));
      }

  module _ (p : List ℕ) (whole : length p ≡ bits_of t) where
    -- The equation of a side that is g bits wider agrees exactly if its top g bits are 0 and the others are those of the narrower side.
    pub wider_agrees : {r a b g : ℕ} → WiderBy t r a b g → Exactly (sides_agree (values_of t p) (row_at t r) ≡ true) (TopZero g (value_of t p a) (value_of t p b))
    wider_agrees {r} {a} {b} {g} w = go w.equation
      where
        va : List ℕ
        va = value_of t p a

        vb : List ℕ
        vb = value_of t p b

        wide : a < length t → b < length t → length va ≡ length vb + g
        wide i j = value-length t p sound whole a i ∙ w.wider ∙ ap (λ (n : ℕ). n + g) (sym (value-length t p sound whole b j))

        go : IsEquation t r a b ⊎ IsEquation t r b a → Exactly (sides_agree (values_of t p) (row_at t r) ≡ true) (TopZero g va vb)
        go (inl is) =
            let k = is.is_equation in
            let s = rw (is.left_is, is.right_is) at (sides_in r is.in_table k) in
            let e : Exactly (sides_agree (values_of t p) (row_at t r) ≡ true) (evened va vb ≡ evened vb va) =
            rw (is.left_is, is.right_is) at (row_agrees (values_of t p) (row_at t r) k) in
            let z = wider_even g va vb (wide s.0 s.1) in
            record { to = λ h. z.to (e.to h); of = λ h. e.of (z.of h) }
        go (inr is) =
            let k = is.is_equation in
            let s = rw (is.left_is, is.right_is) at (sides_in r is.in_table k) in
            let e : Exactly (sides_agree (values_of t p) (row_at t r) ≡ true) (evened vb va ≡ evened va vb) =
            rw (is.left_is, is.right_is) at (row_agrees (values_of t p) (row_at t r) k) in
            let z = wider_even g va vb (wide s.1 s.0) in
            record { to = λ h. z.to (sym (e.to h)); of = λ h. e.of (sym (z.of h)) }

    -- In every pattern that meets the table the top g bits of a side that is g bits wider are 0, where the equation counts.
    pub top_zeros : {r a b g : ℕ} → WiderBy t r a b g → Counts t r → satisfies t p ≡ true → TopZero g (value_of t p a) (value_of t p b)
    top_zeros {r} {a} {b} {g} w c h = (wider_agrees w).to (agree_of (values_of t p) (row_at t r) (λ k. satisfies_at t p h r c))

    -- a row that is filled by hand is the narrower row as it is filled
    pub by_hand : {f n j m g : ℕ} → ByHand t f n j m g → SameFilled (values_of t p) n j m
    by_hand {f} {n} {j} {m} {g} h =
        let join = h.join in
        let k = kept t j (sound j join.in_table) in
        let names = rw (join.left_is, join.right_is) at (concat_names t j (row_at t j) (kept_names t j k) join.is_concat) in
        let vn = value_of t p n in
        let vj = value_of t p j in
        let vm = value_of t p m in
        let zeros : value_of t p f ≡ replicate g 0 =
        value_fixed t p f h.zeros.in_table (inl h.zeros.is_fill) ∙ fill-word (row_at t f) h.zeros.is_fill ∙ rw (h.zeros.bit_is, h.zeros.width_is) in
        let joined : vj ≡ replicate g 0 ++ vn =
        value-concat t p j join.in_table k join.is_concat ∙ rw (join.left_is, join.right_is, zeros) in
        let ln = value-length t p sound whole n (omega (arith, names.1.earlier, join.in_table)) in
        let wide : length vm ≡ length vn + g =
        value-length t p sound whole m h.in_table ∙ h.wider ∙ ap (λ (i : ℕ). i + g) (sym ln) in
        let even : length vj ≡ length vm =
        ap length joined ∙ omega (arith, length-append (replicate g 0) vn, length-replicate {A = ℕ} g 0, wide) in
        record {
          narrower = evened_by g vn vm wide ∙ sym joined ∙ sym (evened_even vj vm even);
          wider = (evened-word vm vn).same (omega arith) ∙ sym (evened_even vm vj (sym even));
        }

-- so equations of either agree under the same assignments
pub same_agree : (vs : List (List ℕ)) (n j m : ℕ) → SameFilled vs n j m
    → (sides_agree vs (equation_of n m) ≡ sides_agree vs (equation_of j m)) × (sides_agree vs (equation_of m n) ≡ sides_agree vs (equation_of m j))
unfolding sides_agree
same_agree vs n j m h = (rw (h.narrower, h.wider), rw (h.narrower, h.wider))
