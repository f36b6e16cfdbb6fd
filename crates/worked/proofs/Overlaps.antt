-- A variable of w bits with bits w - 2 to 3 equal to bits w - 4 to 1, so that between its first and its last bit each is equal to the next
-- but one: case 1 where w is even, case 2 where it is odd. Its places get labels, and the patterns that meet the table are those whose
-- bits are equal wherever their places have one label. Assumes nothing.
use mathlib.Core.Path.{◌≡◌, refl, sym, ◌∙◌, ap}
use mathlib.Core.Bool.{true, cond, and-true}
use mathlib.Core.List.{List, ◌++◌}
use mathlib.Core.Logic.{◌⊎◌, inl, inr, ◌≢◌}
use Prim.Native.Nat.{ℕ, zero, suc, ◌+◌, ◌-◌, ◌%◌, ◌≤◌, ◌<◌}
use native.Mathlib.Omega.{arith}
use lib.Dec.{eqb}
use lib.ListN.{length, get_or, take}
use lib.Seq.{take_all, ext_get_or}
use borrow.Author.Tests.{le-ltb, lt-ltb, eq-eqb, ne_eqb}
use Rattle.terms.specs.Faults.{Accepted, first_fault}
use Rattle.terms.specs.Table.{rows_of, extract, evened, same_word, satisfies}
use Rattle.terms.proofs.Computed.{fault_computed, satisfies_computed}
use Rattle.terms.proofs.Filled.{same_even}
use Rattle.terms.proofs.Satisfies.{same-word, word_same}
use Rattle.terms.proofs.Words.{extract-length, extract-bit}
use Rattle.laws.proofs.Lists.{tab_at, tab_length}
use Rattle.laws.proofs.Numbers.{dec_eq}
use Rattle.worked.specs.Cases.{row}
use Rattle.worked.proofs.Labels.{labelled}

abbrev pub overlapped : ℕ → List ℕ
overlapped w = row 0 w 0 0 ++ row 3 0 (w - 2) 3 ++ row 3 0 (w - 4) 1 ++ row 4 1 2 0

-- The labels of the places: 0 of the first, 3 of the last, and 1 and 2 in turn of those between.
unfoldable pub label : ℕ → ℕ → ℕ
label w i = cond (eqb i 0) 0 (cond (eqb (suc i) w) 3 (2 - i % 2))

-- The first place with a label.
unfoldable pub home : ℕ → ℕ → ℕ
home w l = cond (eqb l 3) (w - 1) l

-- Where a place stands, and its label.
pub data Stands (w i : ℕ) : Type 0 where
  first : i ≡ 0 → label w i ≡ 0 → Stands w i
  last : suc i ≡ w → label w i ≡ 3 → Stands w i
  between : 1 ≤ i → suc i < w → label w i ≡ 2 - i % 2 → Stands w i

-- the label of each place
module _ (w : ℕ) (five : 5 ≤ w) where
  pub label_first : label w 0 ≡ 0
  unfolding label
  label_first = refl

  pub label_last : (i : ℕ) → suc i ≡ w → label w i ≡ 3
  unfolding label
  label_last i e = rw (ne_eqb i 0 (λ h. omega arith), eq-eqb (suc i) w e) refl

  pub label_between : (i : ℕ) → 1 ≤ i → suc i < w → label w i ≡ 2 - i % 2
  unfolding label
  label_between i l h = rw (ne_eqb i 0 (λ e. omega arith), ne_eqb (suc i) w (λ e. omega arith)) refl

  pub label_odd : (i : ℕ) → i % 2 ≡ 1 → suc i < w → label w i ≡ 1
  label_odd i e h = label_between i (omega arith) h ∙ omega arith

  pub label_even : (i : ℕ) → 1 ≤ i → i % 2 ≡ 0 → suc i < w → label w i ≡ 2
  label_even i l e h = label_between i l h ∙ omega arith

  pub stands : (i : ℕ) → i < w → Stands w i
  stands i l = go (dec_eq i 0) (dec_eq (suc i) w)
    where
      go : (i ≡ 0) ⊎ (i ≢ 0) → (suc i ≡ w) ⊎ (suc i ≢ w) → Stands w i
      go (inl e) k = first e (rw e label_first)
      go (inr d) (inl e) = last e (label_last i e)
      go (inr d) (inr k) = between (omega arith) (omega arith) (label_between i (omega arith) (omega arith))

  -- no place before the first one with a label has it, and that one has
  pub home_least : (i : ℕ) → i < w → home w (label w i) ≤ i
  unfolding home
  home_least i l = go (stands i l)
    where
      go : Stands w i → home w (label w i) ≤ i
      go (first e k) = rw k (omega arith)
      go (last e k) = rw k (omega arith)
      go (between a b k) = rw (k, ne_eqb (2 - i % 2) 3 (λ e. omega arith)) (omega arith)

  pub home_label : (i : ℕ) → i < w → label w (home w (label w i)) ≡ label w i
  unfolding home
  home_label i l = go (stands i l)
    where
      go : Stands w i → label w (home w (label w i)) ≡ label w i
      go (first e k) = rw k label_first
      go (last e k) = rw k (label_last (w - 1) (omega arith))
      go (between a b k) =
          let at : 2 - (2 - i % 2) % 2 ≡ 2 - i % 2 = omega arith in
          rw (k, ne_eqb (2 - i % 2) 3 (λ e. omega arith)) (label_between (2 - i % 2) (omega arith) (omega arith) ∙ at)

  -- The table breaks no rule.
  pub overlapped_accepted : w ≤ 1024 → first_fault (overlapped w) ≡ Accepted
  unfolding fault_computed
  overlapped_accepted most =
      rw (
        ne_eqb w 0 (λ e. omega arith),
        le-ltb 1024 w most,
        le-ltb 4096 (w + 0) (omega arith),
        lt-ltb (w - 2) w (omega arith),
        le-ltb (w - 2) 3 (omega arith),
        lt-ltb (w - 4) w (omega arith),
        le-ltb (w - 4) 1 (omega arith),
      )

  -- A pattern meets the table if each of its places from 1 on, up to the last but three, has the bit of the next place but one,
  module _ (p : List ℕ) (size : length p ≡ w) where
    overlapped_sides : satisfies (rows_of (overlapped w)) p ≡ same_word (extract p (w - 2) 3) (extract p (w - 4) 1)
    unfolding satisfies_computed
    overlapped_sides =
        let left : List ℕ → List ℕ = λ word. extract word (w - 2) 3 in
        let right : List ℕ → List ℕ = λ word. extract word (w - 4) 1 in
        and-true (same_word (evened (left (take w p)) (right (take w p))) (evened (right (take w p)) (left (take w p))))
        ∙ ap (λ (word : List ℕ). same_word (evened (left word) (right word)) (evened (right word) (left word))) (take_all w p (omega arith))
        ∙ same_even (left p) (right p)
        (extract-length p (w - 2) 3 (omega arith) (omega arith) ∙ omega (arith, extract-length p (w - 4) 1 (omega arith) (omega arith)))

    left_bit : (i : ℕ) → i + 4 < w → get_or (extract p (w - 2) 3) i 0 ≡ get_or p (suc i) 0
    left_bit i l =
        let at : length p - (w - 2 + 1) + i ≡ suc i = omega arith in
        extract-bit p (w - 2) 3 i (omega arith) (omega arith) ∙ rw at refl

    right_bit : (i : ℕ) → i + 4 < w → get_or (extract p (w - 4) 1) i 0 ≡ get_or p (suc (suc (suc i))) 0
    right_bit i l =
        let at : length p - (w - 4 + 1) + i ≡ suc (suc (suc i)) = omega arith in
        extract-bit p (w - 4) 1 i (omega arith) (omega arith) ∙ rw at refl

    sides-of : ((i : ℕ) → i + 4 < w → get_or p (suc i) 0 ≡ get_or p (suc (suc (suc i))) 0) → extract p (w - 2) 3 ≡ extract p (w - 4) 1
    sides-of h =
        let left : length (extract p (w - 2) 3) ≡ w - 2 + 1 - 3 = extract-length p (w - 2) 3 (omega arith) (omega arith) in
        let right : length (extract p (w - 4) 1) ≡ w - 4 + 1 - 1 = extract-length p (w - 4) 1 (omega arith) (omega arith) in
        ext_get_or 0 (extract p (w - 2) 3) (extract p (w - 4) 1) (omega arith)
        (λ i l. left_bit i (omega arith) ∙ h i (omega arith) ∙ sym (right_bit i (omega arith)))

    -- and only then,
    module _ (met : satisfies (rows_of (overlapped w)) p ≡ true) where
      next_but_one : (i : ℕ) → i + 4 < w → get_or p (suc (suc (suc i))) 0 ≡ get_or p (suc i) 0
      next_but_one i l =
          let sides : extract p (w - 2) 3 ≡ extract p (w - 4) 1 =
          same-word (extract p (w - 2) 3) (extract p (w - 4) 1) (sym overlapped_sides ∙ met) in
          sym (right_bit i l) ∙ ap (λ (word : List ℕ). get_or word i 0) (sym sides) ∙ left_bit i l

      -- so that each place between has the bit of place 1 or of place 2,
      one_or_two : (i : ℕ) → 1 ≤ i → suc i < w → get_or p i 0 ≡ get_or p (2 - i % 2) 0
      one_or_two zero l h = absurd (omega arith)
      one_or_two (suc zero) l h = refl
      one_or_two (suc (suc zero)) l h = refl
      one_or_two (suc (suc (suc i))) l h =
          let at : 2 - suc (suc (suc i)) % 2 ≡ 2 - suc i % 2 = omega arith in
          next_but_one i (omega arith) ∙ one_or_two (suc i) (omega arith) (omega arith) ∙ rw at refl

      -- and every place that of the first one with its label.
      at_home : (i : ℕ) → i < w → get_or p i 0 ≡ get_or p (home w (label w i)) 0
      unfolding home
      at_home i l = go (stands i l)
        where
          go : Stands w i → get_or p i 0 ≡ get_or p (home w (label w i)) 0
          go (first e k) = rw (k, e) refl
          go (last e k) = let at : w - 1 ≡ i = omega arith in rw (k, at) refl
          go (between a b k) = rw (k, ne_eqb (2 - i % 2) 3 (λ e. omega arith)) (one_or_two i a b)

      pub label_alike : (i j : ℕ) → i < w → j < w → label w i ≡ label w j → get_or p i 0 ≡ get_or p j 0
      label_alike i j l m e = at_home i l ∙ rw e refl ∙ sym (at_home j m)

  -- Bits given to the labels meet the table.
  pub label_meets : (f : ℕ → ℕ) → satisfies (rows_of (overlapped w)) (labelled w (label w) f) ≡ true
  label_meets f =
      overlapped_sides p size
      ∙ rw (sides-of p size (λ i l.
      let at : 2 - suc i % 2 ≡ 2 - suc (suc (suc i)) % 2 = omega arith in
      bit (suc i) (omega arith)
      ∙ rw (label_between (suc i) (omega arith) (omega arith), label_between (suc (suc (suc i))) (omega arith) (omega arith), at) refl
      ∙ sym (bit (suc (suc (suc i))) (omega arith))))
      (word_same (extract p (w - 4) 1))
    where
      p : List ℕ
      p = labelled w (label w) f

      size : length p ≡ w
      size = tab_length w (λ i. f (label w i))

      bit : (i : ℕ) → i < w → get_or p i 0 ≡ f (label w i)
      bit i l = tab_at w (λ i. f (label w i)) i l
