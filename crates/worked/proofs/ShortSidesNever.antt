-- Short sides at every width (specs/ShortSidesEveryWidth.antt) that no pattern can make equal to the long side, or that every pattern does.
-- Assumes nothing.
use mathlib.Core.Path.{◌≡◌, refl, sym, ◌∙◌, ap}
use mathlib.Core.Bool.{Bool, true, false, and-true, and-false}
use mathlib.Core.List.{List, [], ◌∷◌, ◌++◌, append-nil}
use Prim.Native.Nat.{ℕ, zero, suc, ◌+◌, ◌≤◌, ◌<◌}
use native.Mathlib.Omega.{arith}
use lib.Dec.{eqb, ltb}
use lib.ListN.{length, get_or, take, drop, replicate, length-replicate, replicate-append-replicate}
use lib.Seq.{length-take-le}
use borrow.Author.Tests.{le-ltb, ne_eqb}
use Rattle.terms.specs.Assignments.{Assignment, done}
use Rattle.terms.specs.Faults.{Accepted, first_fault}
use Rattle.terms.specs.Table.{rows_of, bits_of, sources_of, evened, same_word, satisfies}
use Rattle.terms.proofs.Computed.{fault_computed, satisfies_computed}
use Rattle.terms.proofs.Filled.{same_even}
use Rattle.terms.proofs.Satisfies.{word_same}
use Rattle.laws.specs.Lists.{tally, least}
use Rattle.answers.specs.declared.AnswerRow.{AnswerRow}
use Rattle.answers.specs.Answer.{variable_widths, home_row}
use Rattle.answers.specs.Pairs.{ties, pairs_of, pairs_in}
use Rattle.answers.specs.Solve.{satisfies_to, ties_to, pairs_together}
use Rattle.worked.specs.Cases.{Holds, row, figures}
use Rattle.worked.specs.ShortSidesEveryWidth.{EitherSideLeft, long_ones, long_ones_later, zero_fills, one_fills}
use Rattle.worked.proofs.Holding.{met_by_all, solved_case}
use Rattle.worked.proofs.OneWord.{alike, false_of}
use Rattle.worked.proofs.PatternWords.{Sides, said, turned, Tells, tells, tells_turned, long_left, long_right, first_of_two, second_of_two, two_words}
use Rattle.worked.proofs.LaidRows.{line, none, last}
use Rattle.worked.proofs.LaidAnswer.{WellCut, Fine, fresh_piece, Apart, OneVariable}
use Rattle.worked.proofs.LaidPatterns.{Patterns, pattern_of, row_word, Sized}
use Rattle.worked.proofs.LaidCases.{laid_ties, numbers_computed}
use Rattle.worked.proofs.NeverAt.{never_at}

-- ones do not begin with a zero
one_first : (n g : ℕ) (x : List ℕ) → 1 ≤ n → 1 ≤ g → replicate n 1 ≡ replicate g 0 ++ x → ⊥
one_first zero g x l m e = omega arith
one_first (suc n) zero x l m e = omega arith
one_first (suc n) (suc g) x l m e = omega (arith, ap (λ (p : List ℕ). get_or p 0 0) e)

module _ (w g : ℕ) (one : 1 ≤ w) (some : 1 ≤ g) (most : w + g ≤ 1024) where
  abbrev long_ones_word : List ℕ
  long_ones_word = replicate (w + g) 1

  -- A variable against more ones than it has bits.
  abbrev ones_table : ℕ → ℕ → List ℕ
  ones_table a b = row 0 w 0 0 ++ row 1 1 (w + g) 0 ++ row 4 a b 0

  ones_accepted : (a b : ℕ) → Sides 0 1 a b → first_fault (ones_table a b) ≡ Accepted
  unfolding fault_computed
  ones_accepted a b side = go side
    where
      c : eqb (w + g) 0 ≡ false
      c = ne_eqb (w + g) 0 (λ e. omega arith)

      d : ltb 4096 (w + 0) ≡ false
      d = le-ltb 4096 (w + 0) (omega arith)

      go : {a b : ℕ} → Sides 0 1 a b → first_fault (ones_table a b) ≡ Accepted
      go said = rw (c, le-ltb 1024 (w + g) most, d, ne_eqb w 0 (λ z. omega arith), le-ltb 1024 w (omega arith)) refl
      go turned = rw (c, le-ltb 1024 (w + g) most, d, ne_eqb w 0 (λ z. omega arith), le-ltb 1024 w (omega arith)) refl

  -- a word of w bits, filled, is not that
  ones_differ : (x : List ℕ) → length x ≡ w
      → (same_word (evened x long_ones_word) (evened long_ones_word x) ≡ false) × (same_word (evened long_ones_word x) (evened x long_ones_word) ≡ false)
  ones_differ x n =
      let size : length long_ones_word ≡ length x + g = omega (arith, length-replicate {A = ℕ} (w + g) 1) in
      let no : replicate (w + g) 1 ≡ replicate g 0 ++ x → ⊥ = one_first (w + g) g x (omega arith) some in (
        false_of _ (λ e. no ((tells_turned _ long_ones_word (replicate g 0 ++ x) (long_right g long_ones_word x size)).equal e)),
        false_of _ (λ e. no ((tells _ long_ones_word (replicate g 0 ++ x) (long_left g long_ones_word x size)).equal e)),
      )

  ones_none : (a b : ℕ) → Sides 0 1 a b → (p : List ℕ) → length p ≡ bits_of (rows_of (ones_table a b)) → satisfies (rows_of (ones_table a b)) p ≡ false
  unfolding satisfies_computed
  ones_none a b said p n = rw (ones_differ (take w p) (length-take-le w p (omega arith))).0 refl
  ones_none a b turned p n = rw (ones_differ (take w p) (length-take-le w p (omega arith))).1 refl

  pub long_ones_any : EitherSideLeft (long_ones w g) 0 1
  unfolding satisfies_to ties_to pairs_together ties pairs_in pairs_of satisfies_computed
  long_ones_any = (holds 0 1 said, holds 1 0 turned)
    where
      before : (a b i : ℕ) → i < 2 → satisfies_to (rows_of (ones_table a b)) i (replicate w 0) ≡ true
      before a b zero l = refl
      before a b (suc zero) l = refl
      before a b (suc (suc i)) l = absurd (omega arith)

      zeros_bits : Assignment (w + 0) (replicate w 0)
      zeros_bits = let e : w + 0 ≡ w = omega arith in rw e (alike w 0 (omega arith))

      holds : (a b : ℕ) → Sides 0 1 a b → Holds (long_ones w g (row 4 a b 0))
      holds a b side =
          never_at (ones_table a b) (ones_accepted a b side) 2 refl (λ p. refl) (ones_none a b side) (replicate w 0) zeros_bits (before a b) 0 refl

  -- Ones against more ones.
  abbrev fills_table : ℕ → ℕ → List ℕ
  fills_table a b = row 1 1 (w + g) 0 ++ row 1 1 w 0 ++ row 4 a b 0

  fills_accepted : (a b : ℕ) → Sides 0 1 a b → first_fault (fills_table a b) ≡ Accepted
  unfolding fault_computed
  fills_accepted a b said = rw (ne_eqb (w + g) 0 (λ e. omega arith), le-ltb 1024 (w + g) most, ne_eqb w 0 (λ z. omega arith), le-ltb 1024 w (omega arith)) refl
  fills_accepted a b turned = rw (ne_eqb (w + g) 0 (λ e. omega arith), le-ltb 1024 (w + g) most, ne_eqb w 0 (λ z. omega arith), le-ltb 1024 w (omega arith)) refl

  fills_none : (a b : ℕ) → Sides 0 1 a b → (p : List ℕ) → length p ≡ bits_of (rows_of (fills_table a b)) → satisfies (rows_of (fills_table a b)) p ≡ false
  unfolding satisfies_computed
  fills_none a b said p n = rw (ones_differ (replicate w 1) (length-replicate w 1)).1 refl
  fills_none a b turned p n = rw (ones_differ (replicate w 1) (length-replicate w 1)).0 refl

  pub one_fills_any : EitherSideLeft (one_fills w g) 0 1
  unfolding satisfies_to ties_to pairs_together ties pairs_in pairs_of satisfies_computed
  one_fills_any = (holds 0 1 said, holds 1 0 turned)
    where
      before : (a b i : ℕ) → i < 2 → satisfies_to (rows_of (fills_table a b)) i [] ≡ true
      before a b zero l = refl
      before a b (suc zero) l = refl
      before a b (suc (suc i)) l = absurd (omega arith)

      holds : (a b : ℕ) → Sides 0 1 a b → Holds (one_fills w g (row 4 a b 0))
      holds a b side =
          never_at (fills_table a b) (fills_accepted a b side) 2 refl (λ p. refl) (fills_none a b side) [] done (before a b) 0 refl

  -- Two variables of w bits, equal to each other; the first against more ones than it has bits.
  abbrev equal_table : List ℕ
  equal_table = row 0 w 0 0 ++ row 0 w 0 0 ++ row 1 1 (w + g) 0 ++ row 4 0 1 0

  abbrev later_table : ℕ → ℕ → List ℕ
  later_table a b = row 0 w 0 0 ++ row 0 w 0 0 ++ row 1 1 (w + g) 0 ++ row 4 0 1 0 ++ row 4 a b 0

  equal_accepted : first_fault equal_table ≡ Accepted
  unfolding fault_computed
  equal_accepted =
      rw (
        ne_eqb (w + g) 0 (λ e. omega arith),
        le-ltb 1024 (w + g) most,
        le-ltb 4096 (w + 0) (omega arith),
        le-ltb 4096 (w + (w + 0)) (omega arith),
        ne_eqb w 0 (λ z. omega arith),
        le-ltb 1024 w (omega arith),
      )
      refl

  later_accepted : (a b : ℕ) → Sides 0 2 a b → first_fault (later_table a b) ≡ Accepted
  unfolding fault_computed
  later_accepted a b side = go side
    where
      c : eqb (w + g) 0 ≡ false
      c = ne_eqb (w + g) 0 (λ e. omega arith)

      d : ltb 4096 (w + 0) ≡ false
      d = le-ltb 4096 (w + 0) (omega arith)

      e : ltb 4096 (w + (w + 0)) ≡ false
      e = le-ltb 4096 (w + (w + 0)) (omega arith)

      go : {a b : ℕ} → Sides 0 2 a b → first_fault (later_table a b) ≡ Accepted
      go said = rw (c, le-ltb 1024 (w + g) most, d, e, ne_eqb w 0 (λ z. omega arith), le-ltb 1024 w (omega arith)) refl
      go turned = rw (c, le-ltb 1024 (w + g) most, d, e, ne_eqb w 0 (λ z. omega arith), le-ltb 1024 w (omega arith)) refl

  equal_says : (x y : List ℕ) → length x ≡ w → length y ≡ w → Tells (satisfies (rows_of equal_table) (x ++ y)) x y
  unfolding satisfies_computed
  equal_says x y m n =
      tells _ x y (rw (first_of_two w w x y m, second_of_two w w x y m n) (and-true _ ∙ same_even x y (m ∙ sym n)))

  equal_bits : bits_of (rows_of equal_table) ≡ w + (w + 0)
  unfolding satisfies_computed
  equal_bits = refl

  equal_widths : variable_widths (rows_of equal_table) ≡ w ∷ w ∷ []
  unfolding satisfies_computed variable_widths
  equal_widths = refl

  abbrev wide : ℕ → ℕ
  wide f = w

  abbrev equal_rows : List AnswerRow
  equal_rows = line 0 2 w 0 ∷ line 1 2 w 0 ∷ []

  equal_cut : WellCut equal_rows wide
  unfolding home_row least tally
  equal_cut = record { fine = fine; apart = apart }
    where
      fine : (k : ℕ) → k < 2 → Fine equal_rows wide k
      fine zero l = fresh_piece refl refl refl
      fine (suc zero) l = fresh_piece refl refl refl
      fine (suc (suc k)) l = absurd (omega arith)

      apart : (k : ℕ) → suc k < 2 → OneVariable equal_rows k → Apart equal_rows k
      apart zero l e = absurd (omega arith)
      apart (suc k) l e = absurd (omega arith)

  equal_patterns : Patterns (rows_of equal_table) equal_rows wide
  unfolding pattern_of row_word
  equal_patterns = record { passes = passes; reaches = reaches }
    where
      together : (x : List ℕ) → x ++ x ≡ x ++ (x ++ [])
      together x = ap (λ (z : List ℕ). x ++ z) (sym (append-nil x))

      passes : (word : ℕ → List ℕ) → Sized wide word → satisfies (rows_of equal_table) (word 0 ++ (word 0 ++ [])) ≡ true
      passes word h = ap (satisfies (rows_of equal_table)) (sym (together (word 0))) ∙ (equal_says (word 0) (word 0) (h 0) (h 0)).met refl

      reaches : (p : List ℕ) → length p ≡ bits_of (rows_of equal_table) → satisfies (rows_of equal_table) p ≡ true
          → (word : ℕ → List ℕ) × Sized wide word × (p ≡ word 0 ++ (word 0 ++ []))
      reaches p n e =
          let c = two_words w w p (n ∙ equal_bits) in
          let y : List ℕ = c.1 in
          let same : c.0 ≡ y = (equal_says c.0 y c.2 c.3).equal (ap (satisfies (rows_of equal_table)) (sym c.4) ∙ e) in
          (λ f. y, λ f. c.3, c.4 ∙ ap (λ (z : List ℕ). z ++ y) same ∙ together y)

  all-ties : ties_to (rows_of equal_table) (length (rows_of equal_table)) ≡ w
  unfolding numbers_computed
  all-ties =
      omega (
        arith,
        laid_ties equal_table equal_accepted equal_rows wide equal_cut (w ∷ w ∷ []) equal_widths
            (last refl one (omega arith) (last refl one (omega arith) none)) equal_patterns,
        equal_bits,
      )

  equal_ties : ties_to (rows_of equal_table) 4 ≡ w
  unfolding satisfies_computed
  equal_ties = all-ties

  -- the first equation's test
  abbrev first_two : List ℕ → Bool
  first_two p = same_word (evened (take w p) (take w (drop (w + 0) p))) (evened (take w (drop (w + 0) p)) (take w p))

  later_none : (a b : ℕ) → Sides 0 2 a b → (p : List ℕ) → length p ≡ bits_of (rows_of (later_table a b)) → satisfies (rows_of (later_table a b)) p ≡ false
  unfolding satisfies_computed
  later_none a b said p n = rw (ones_differ (take w p) (length-take-le w p (omega arith))).0 (and-false (first_two p))
  later_none a b turned p n = rw (ones_differ (take w p) (length-take-le w p (omega arith))).1 (and-false (first_two p))

  pub long_ones_later_any : EitherSideLeft (long_ones_later w g) 0 2
  unfolding satisfies_to ties_to pairs_together pairs_in pairs_of sources_of satisfies_computed
  long_ones_later_any = (holds 0 2 said, holds 2 0 turned)
    where
      zero_word : List ℕ
      zero_word = replicate w 0

      size : length zero_word ≡ w
      size = length-replicate w 0

      first_zeros : take w (zero_word ++ zero_word) ≡ zero_word
      first_zeros = first_of_two w w zero_word zero_word size

      second_zeros : take w (drop (w + 0) (zero_word ++ zero_word)) ≡ zero_word
      second_zeros = second_of_two w w zero_word zero_word size size

      before : (a b i : ℕ) → i < 4 → satisfies_to (rows_of (later_table a b)) i (zero_word ++ zero_word) ≡ true
      before a b zero l = refl
      before a b (suc zero) l = refl
      before a b (suc (suc zero)) l = refl
      before a b (suc (suc (suc zero))) l = rw (first_zeros, second_zeros, word_same (evened zero_word zero_word)) refl
      before a b (suc (suc (suc (suc i)))) l = absurd (omega arith)

      zeros_bits : Assignment (w + (w + 0)) (zero_word ++ zero_word)
      zeros_bits =
          let n : w + w ≡ w + (w + 0) = omega arith in
          let all : zero_word ++ zero_word ≡ replicate (w + (w + 0)) 0 = replicate-append-replicate w w 0 ∙ rw n refl in
          rw all (alike (w + (w + 0)) 0 (omega arith))

      holds : (a b : ℕ) → Sides 0 2 a b → Holds (long_ones_later w g (row 4 a b 0))
      holds a b side =
          never_at (later_table a b) (later_accepted a b side) 4 refl (λ p. refl) (later_none a b side) (zero_word ++ zero_word) zeros_bits (before a b)
          w equal_ties

-- Zeros against zeros, of any two widths.
module _ (w g : ℕ) (one : 1 ≤ w) (most : w + g ≤ 1024) where
  abbrev zeros_table : ℕ → ℕ → List ℕ
  zeros_table a b = row 1 0 (w + g) 0 ++ row 1 0 w 0 ++ row 4 a b 0

  zeros_accepted : (a b : ℕ) → Sides 0 1 a b → first_fault (zeros_table a b) ≡ Accepted
  unfolding fault_computed
  zeros_accepted a b said = rw (ne_eqb (w + g) 0 (λ e. omega arith), le-ltb 1024 (w + g) most, ne_eqb w 0 (λ z. omega arith), le-ltb 1024 w (omega arith)) refl
  zeros_accepted a b turned = rw (ne_eqb (w + g) 0 (λ e. omega arith), le-ltb 1024 (w + g) most, ne_eqb w 0 (λ z. omega arith), le-ltb 1024 w (omega arith)) refl

  abbrev long : List ℕ
  long = replicate (w + g) 0

  abbrev short : List ℕ
  short = replicate w 0

  zeros_are : long ≡ replicate g 0 ++ short
  zeros_are = let e : w + g ≡ g + w = omega arith in ap (λ (n : ℕ). replicate n 0) e ∙ sym (replicate-append-replicate g w 0)

  zeros_size : length long ≡ length short + g
  zeros_size = omega (arith, length-replicate {A = ℕ} (w + g) 0, length-replicate {A = ℕ} w 0)

  zeros_all : (a b : ℕ) → Sides 0 1 a b → (p : List ℕ) → satisfies (rows_of (zeros_table a b)) p ≡ true
  unfolding satisfies_computed
  zeros_all a b said p = (tells _ long (replicate g 0 ++ short) (and-true _ ∙ long_left g long short zeros_size)).met zeros_are
  zeros_all a b turned p = (tells_turned _ long (replicate g 0 ++ short) (and-true _ ∙ long_right g long short zeros_size)).met zeros_are

  pub zero_fills_any : EitherSideLeft (zero_fills w g) 0 1
  unfolding satisfies_computed
  zero_fills_any = (holds 0 1 said, holds 1 0 turned)
    where
      holds : (a b : ℕ) → Sides 0 1 a b → Holds (zero_fills w g (row 4 a b 0))
      holds a b side =
          solved_case (zeros_table a b) (figures 0 0 0 0 0 0) (zeros_accepted a b side) (met_by_all (zeros_table a b) (zeros_all a b side)) [] refl
