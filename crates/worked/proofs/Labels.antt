-- A test that is passed by the patterns whose bits are equal wherever their places have one label: places are tied exactly if they have
-- one label, and none is fixed. Assumes nothing.
use mathlib.Core.Path.{◌≡◌, refl, sym, ◌∙◌}
use mathlib.Core.Bool.{Bool, true, false, cond}
use mathlib.Core.List.{List}
use mathlib.Core.Logic.{◌⊎◌, inl, inr, ◌≢◌}
use Prim.Native.Nat.{ℕ, suc, ◌≤◌, ◌<◌}
use native.Mathlib.Omega.{arith}
use lib.Dec.{eqb}
use lib.ListN.{get_or}
use borrow.Author.Tests.{eq-eqb, ne_eqb}
use Rattle.terms.specs.Assignments.{Assignment}
use Rattle.terms.specs.Table.{bit_of}
use Rattle.terms.proofs.Assignments.{assignment_of}
use Rattle.laws.proofs.Bools.{one_most}
use Rattle.laws.proofs.Lists.{tab, tab_at, tab_length}
use Rattle.laws.proofs.Numbers.{dec_eq}
use Rattle.answers.specs.Answer.{tied, fixed_to}
use Rattle.answers.specs.Pairs.{equal_under}
use Rattle.worked.proofs.OneWord.{equal_in, unequal_at}

-- The bits that f gives to labels.
abbrev pub labelled : ℕ → (ℕ → ℕ) → (ℕ → ℕ) → List ℕ
labelled n label f = tab n (λ i. f (label i))

-- 1 for the label c and 0 for the others
abbrev pub mark : ℕ → ℕ → ℕ
mark c l = cond (eqb l c) 1 0

module _ (n : ℕ) (label : ℕ → ℕ) where
  pub labelled_bits : (f : ℕ → ℕ) → ((c : ℕ) → f c ≤ 1) → Assignment n (labelled n label f)
  labelled_bits f h =
      assignment_of n (labelled n label f) (tab_length n (λ i. f (label i))) (λ i l. rw (tab_at n (λ i. f (label i)) i l) (h (label i)))

  module _ (test : List ℕ → Bool)
      (only : (p : List ℕ) → Assignment n p → test p ≡ true → (i j : ℕ) → i < n → j < n → label i ≡ label j → get_or p i 0 ≡ get_or p j 0)
      (met : (f : ℕ → ℕ) → ((c : ℕ) → f c ≤ 1) → test (labelled n label f) ≡ true) where
    -- the pattern that has 1 at the places with the label c
    marks : ℕ → List ℕ
    marks c = labelled n label (mark c)

    mark_here : (c i : ℕ) → i < n → label i ≡ c → get_or (marks c) i 0 ≡ 1
    unfolding marks
    mark_here c i l e = tab_at n (λ i. mark c (label i)) i l ∙ rw (eq-eqb (label i) c e) refl

    mark_there : (c i : ℕ) → i < n → label i ≢ c → get_or (marks c) i 0 ≡ 0
    unfolding marks
    mark_there c i l d = tab_at n (λ i. mark c (label i)) i l ∙ rw (ne_eqb (label i) c d) refl

    apart : (c s u : ℕ) → bit_of (marks c) s ≢ bit_of (marks c) u → equal_under n test s u ≡ false
    unfolding marks
    apart c s u d =
        unequal_at n test s u (marks c) (labelled_bits (mark c) (λ l. one_most (eqb l c))) (met (mark c) (λ l. one_most (eqb l c))) d

    pub label_ties : (i j : ℕ) → i < n → j < n → tied (equal_under n test) i j ≡ eqb (label i) (label j)
    unfolding bit_of
    label_ties i j l m = go (dec_eq (label i) (label j))
      where
        go : (label i ≡ label j) ⊎ (label i ≢ label j) → tied (equal_under n test) i j ≡ eqb (label i) (label j)
        go (inl e) = equal_in n test (suc (suc i)) (suc (suc j)) (λ p a t. only p a t i j l m e) ∙ sym (eq-eqb (label i) (label j) e)
        go (inr d) =
            apart (label j) (suc (suc i)) (suc (suc j)) (λ e. omega (arith, e, mark_there (label j) i l d, mark_here (label j) j m refl))
            ∙ sym (ne_eqb (label i) (label j) d)

    pub label_open_0 : (i : ℕ) → i < n → fixed_to (equal_under n test) i 0 ≡ false
    unfolding bit_of
    label_open_0 i l = apart (label i) (suc (suc i)) 0 (λ e. omega (arith, e, mark_here (label i) i l refl))

    pub label_open_1 : (i : ℕ) → i < n → fixed_to (equal_under n test) i 1 ≡ false
    unfolding bit_of
    label_open_1 i l = apart (suc (label i)) (suc (suc i)) 1 (λ e. omega (arith, e, mark_there (suc (label i)) i l (λ h. omega arith)))
