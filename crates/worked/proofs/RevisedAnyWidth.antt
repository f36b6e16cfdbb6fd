-- Revised equations at every width (specs/RevisedEveryWidth.antt). Assumes nothing.
use mathlib.Core.Path.{◌≡◌, refl, sym, ◌∙◌, ap}
use mathlib.Core.Bool.{true, false, ◌&&◌, ◌||◌, and-true, and-false}
use mathlib.Core.List.{List, [], ◌∷◌, ◌++◌, append-nil}
use mathlib.Core.Logic.{◌⊎◌, inl, inr, ◌≢◌}
use Prim.Native.Nat.{ℕ, zero, suc, ◌+◌, ◌-◌, ◌≤◌, ◌<◌}
use native.Mathlib.Omega.{arith}
use lib.Dec.{eqb, ltb}
use lib.ListN.{length, get_or, take, replicate, length-replicate}
use lib.Seq.{take_all}
use borrow.Author.Tests.{le-ltb, lt-ltb, eq-eqb, ne_eqb}
use Rattle.std.specs.Prelude.{Err}
use Rattle.terms.specs.declared.Fault.TheVariants.{Unused, Named}
use Rattle.terms.specs.Assignments.{Assignment}
use Rattle.terms.specs.Calls.{fault_record}
use Rattle.terms.specs.Faults.{Accepted, first_fault, is_accepted}
use Rattle.terms.specs.Table.{rows_of, bits_of, sources_of, evened, same_word, satisfies}
use Rattle.terms.proofs.Computed.{fault_computed, satisfies_computed}
use Rattle.terms.proofs.Filled.{same_even}
use Rattle.terms.proofs.Satisfies.{same-word, word_same}
use Rattle.laws.proofs.Bools.{and_parts}
use Rattle.answers.specs.declared.AnswerRow.{AnswerRow}
use Rattle.answers.specs.Answer.{variable_widths, fresh_pieces, free_bits, answer_numbers}
use Rattle.answers.specs.Pairs.{pairs_of, pairs_in}
use Rattle.answers.specs.Solve.{satisfies_to, ties_to, pairs_together}
use Rattle.worked.specs.Cases.{Solved, Refused, Holds, row, piece, figures}
use Rattle.worked.specs.RevisedEveryWidth.{zeros_and_ones, AllBits, NeverAtRow}
use Rattle.worked.proofs.Holding.{refused_case}
use Rattle.worked.proofs.OneWord.{alike, all_alike, false_of}
use Rattle.worked.proofs.PatternWords.{Tells, tells}
use Rattle.worked.proofs.LaidRows.{line, Laid, none, last}
use Rattle.worked.proofs.LaidAnswer.{WellCut, Fine, zeros, ones}
use Rattle.worked.proofs.LaidPatterns.{Patterns, pattern_of, row_word}
use Rattle.worked.proofs.LaidCases.{laid_holds, laid_ties, numbers_computed}
use Rattle.worked.proofs.NeverAt.{never_at}

module _ (w : ℕ) (one : 1 ≤ w) (most : w ≤ 1024) where
  abbrev wide : ℕ → ℕ
  wide f = w

  abbrev bits_word : ℕ → List ℕ
  bits_word b = replicate w b

  -- A table of one variable that one pattern meets, whose bits are alike.
  module _ (b : ℕ) (bit : b ≤ 1) (table : List ℕ) (accepted : first_fault table ≡ Accepted) (widths : variable_widths (rows_of table) ≡ w ∷ [])
      (bits : bits_of (rows_of table) ≡ w + 0) (says : (p : List ℕ) → length p ≡ w → Tells (satisfies (rows_of table) p) p (bits_word b)) where
    abbrev rows : List AnswerRow
    rows = line 0 b w 0 ∷ []

    cut : WellCut rows wide
    cut = record { fine = fine b bit; apart = λ k l e. absurd (omega arith) }
      where
        fine : (b : ℕ) → b ≤ 1 → (k : ℕ) → k < 1 → Fine (line 0 b w 0 ∷ []) wide k
        fine zero h zero l = zeros refl refl
        fine zero h (suc k) l = absurd (omega arith)
        fine (suc zero) h zero l = ones refl refl
        fine (suc zero) h (suc k) l = absurd (omega arith)
        fine (suc (suc b)) h k l = absurd (omega arith)

    pattern_is : (word : ℕ → List ℕ) → bits_word b ≡ pattern_of word rows
    unfolding pattern_of row_word
    pattern_is word = go b bit
      where
        go : (b : ℕ) → b ≤ 1 → bits_word b ≡ pattern_of word (line 0 b w 0 ∷ [])
        go zero h = sym (append-nil (bits_word 0))
        go (suc zero) h = sym (append-nil (bits_word 1))
        go (suc (suc b)) h = absurd (omega arith)

    patterns : Patterns (rows_of table) rows wide
    patterns =
        record {
          passes = λ word h. ap (satisfies (rows_of table)) (sym (pattern_is word)) ∙ (says (bits_word b) (length-replicate w b)).met refl;
          reaches = λ p n e. (λ f. bits_word 0, λ f. length-replicate w 0, (says p (omega (arith, n, bits))).equal e ∙ pattern_is (λ f. bits_word 0));
        }

    laid : Laid 0 0 rows (w ∷ [])
    laid = let e : 0 + w ≡ w = omega arith in last refl one e none

    -- no bit is free
    none_free : free_bits rows ≡ 0
    unfolding numbers_computed
    none_free = go b bit
      where
        go : (b : ℕ) → b ≤ 1 → free_bits (line 0 b w 0 ∷ []) ≡ 0
        go zero h = refl
        go (suc zero) h = refl
        go (suc (suc b)) h = absurd (omega arith)

    alike_holds : Holds (Solved table (figures 2 1 0 0 w 0) (piece 0 b w 0 0 (w - 1)) 1)
    unfolding numbers_computed
    alike_holds =
        laid_holds table accepted rows wide cut (w ∷ []) widths laid patterns
        1 0 0 w (piece 0 b w 0 0 (w - 1)) refl (go b bit) none_free (omega (arith, bits)) one (numbers b bit)
      where
        go : (b : ℕ) → b ≤ 1 → fresh_pieces (line 0 b w 0 ∷ []) ≡ 0
        go zero h = refl
        go (suc zero) h = refl
        go (suc (suc b)) h = absurd (omega arith)

        high : w + 0 - 1 ≡ w - 1
        high = omega arith

        numbers : (b : ℕ) → b ≤ 1 → answer_numbers (line 0 b w 0 ∷ []) ≡ piece 0 b w 0 0 (w - 1)
        numbers zero h = rw high refl
        numbers (suc zero) h = rw high refl
        numbers (suc (suc b)) h = absurd (omega arith)

    alike-ties : ties_to (rows_of table) (length (rows_of table)) ≡ w
    alike-ties = omega (arith, laid_ties table accepted rows wide cut (w ∷ []) widths laid patterns, none_free, bits)

  -- The variable against itself, and against w times the bit b.
  silent : (p : List ℕ) → same_word (evened (take w p) (take w p)) (evened (take w p) (take w p)) ≡ true
  silent p = word_same (evened (take w p) (take w p))

  test : (b : ℕ) (p : List ℕ) → length p ≡ w
      → same_word (evened (take w p) (bits_word b)) (evened (bits_word b) (take w p)) ≡ same_word p (bits_word b)
  test b p e =
      ap (λ (x : List ℕ). same_word (evened x (bits_word b)) (evened (bits_word b) x)) (take_all w p (omega arith))
      ∙ same_even p (bits_word b) (e ∙ sym (length-replicate w b))

  -- Tables of the variable, zeros and ones, with two equations or three.
  abbrev two : ℕ → ℕ → ℕ → ℕ → List ℕ
  two a n b m = zeros_and_ones w ++ row 4 0 a n ++ row 4 0 b m

  abbrev three : ℕ → ℕ → ℕ → ℕ → ℕ → ℕ → List ℕ
  three a n b m c l = zeros_and_ones w ++ row 4 0 a n ++ row 4 0 b m ++ row 4 0 c l

  bits_0 : ltb 4096 (w + 0) ≡ false
  bits_0 = le-ltb 4096 (w + 0) (omega arith)

  not_0 : eqb w 0 ≡ false
  not_0 = ne_eqb w 0 (λ e. omega arith)

  alike_bits : (b : ℕ) → b ≤ 1 → Assignment (w + 0) (bits_word b)
  alike_bits b h = let e : w + 0 ≡ w = omega arith in rw e (alike w b h)

  -- no word has all its bits 0 and all 1
  not_two : (p : List ℕ) (b c : ℕ) → b ≢ c → same_word p (bits_word b) && same_word p (bits_word c) ≡ false
  not_two p b c d =
      false_of (same_word p (bits_word b) && same_word p (bits_word c))
      (λ e.
      let h = and_parts (same_word p (bits_word b)) (same_word p (bits_word c)) e in
      let same : bits_word b ≡ bits_word c = sym (same-word p (bits_word b) h.0) ∙ same-word p (bits_word c) h.1 in
      d (sym (all_alike w b 0 one) ∙ ap (λ (x : List ℕ). get_or x 0 0) same ∙ all_alike w c 0 one))

  -- The ties of one equation that says zeros, and of one that says nothing with one that says ones.
  zero_ties : ties_to (rows_of (zeros_and_ones w ++ row 4 0 1 0)) 4 ≡ w
  unfolding fault_computed satisfies_computed variable_widths
  zero_ties =
      alike-ties 0 (omega arith) (zeros_and_ones w ++ row 4 0 1 0) (rw (not_0, le-ltb 1024 w most, bits_0) refl) refl refl
      (λ p e. tells _ p (bits_word 0) (rw (test 0 p e) (and-true _)))

  one_ties : ties_to (rows_of (two 0 0 2 0)) 5 ≡ w
  unfolding fault_computed satisfies_computed variable_widths
  one_ties =
      alike-ties 1 (omega arith) (two 0 0 2 0) (rw (not_0, le-ltb 1024 w most, bits_0) refl) refl refl
      (λ p e. tells _ p (bits_word 1) (rw (silent p, test 1 p e) (and-true _)))

  -- Zeros in line n, revised to ones.
  module _ (n : ℕ) (above : 1 ≤ n) where
    pub to_ones_any : AllBits w (row 4 0 1 n ++ row 4 0 2 n) 1
    unfolding fault_computed satisfies_computed variable_widths
    to_ones_any =
        alike_holds 1 (omega arith) (two 1 n 2 n) (rw (not_0, le-ltb 1024 w most, bits_0) refl) refl refl
        (λ p e. tells _ p (bits_word 1) (rw (lt-ltb 0 n above, eq-eqb n n refl, silent p, test 1 p e) (and-true _)))

    pub to_zeros_any : AllBits w (row 4 0 2 n ++ row 4 0 1 n) 0
    unfolding fault_computed satisfies_computed variable_widths
    to_zeros_any =
        alike_holds 0 (omega arith) (two 2 n 1 n) (rw (not_0, le-ltb 1024 w most, bits_0) refl) refl refl
        (λ p e. tells _ p (bits_word 0) (rw (lt-ltb 0 n above, eq-eqb n n refl, silent p, test 0 p e) (and-true _)))

    module _ (m : ℕ) (other : n ≢ m) where
      pub says_nothing_any : AllBits w (row 4 0 1 n ++ row 4 0 2 m ++ row 4 0 0 n) 1
      unfolding fault_computed satisfies_computed variable_widths
      says_nothing_any =
          alike_holds 1 (omega arith) (three 1 n 2 m 0 n) (rw (not_0, le-ltb 1024 w most, bits_0) refl) refl refl
          (λ p e.
          tells _ p (bits_word 1)
          (rw (lt-ltb 0 n above, eq-eqb n n refl, ne_eqb n m other, ne_eqb m n (λ h. other (sym h)), and-false (ltb 0 m), silent p, test 1 p e) (and-true _)))

      -- Never where the last of line n stands: it says nothing before, and the other line says ones.
      stands_none : (p : List ℕ) → length p ≡ bits_of (rows_of (three 1 n 2 m 1 n)) → satisfies (rows_of (three 1 n 2 m 1 n)) p ≡ false
      unfolding satisfies_computed
      stands_none p e =
          rw (
            lt-ltb 0 n above,
            eq-eqb n n refl,
            ne_eqb n m other,
            ne_eqb m n (λ h. other (sym h)),
            and-false (ltb 0 m),
            silent p,
            test 1 p (omega arith),
            test 0 p (omega arith),
            and-true (same_word p (bits_word 0)),
          )
          (not_two p 1 0 (λ h. omega arith))

      stands_ties : ties_to (rows_of (three 1 n 2 m 1 n)) 5 ≡ w
      unfolding ties_to pairs_in pairs_of pairs_together sources_of satisfies_computed
      stands_ties =
          rw (lt-ltb 0 n above, eq-eqb n n refl, ne_eqb n m other, ne_eqb m n (λ h. other (sym h)), and-false (ltb 0 m)) one_ties

      pub where_it_stands_any : NeverAtRow w (row 4 0 1 n ++ row 4 0 2 m ++ row 4 0 1 n) 5
      unfolding fault_computed satisfies_to satisfies_computed
      where_it_stands_any =
          never_at (three 1 n 2 m 1 n) (rw (not_0, le-ltb 1024 w most, bits_0) refl) 5 refl (λ p. refl) stands_none (bits_word 1) (alike_bits 1 (omega arith)) before w stands_ties
        where
          left : length (bits_word 1) ≡ w
          left = length-replicate w 1

          before : (i : ℕ) → i < 5 → satisfies_to (rows_of (three 1 n 2 m 1 n)) i (bits_word 1) ≡ true
          before zero l = refl
          before (suc zero) l = refl
          before (suc (suc zero)) l = refl
          before (suc (suc (suc zero))) l =
              rw (lt-ltb 0 n above, eq-eqb n n refl, ne_eqb m n (λ h. other (sym h)), silent (bits_word 1)) refl
          before (suc (suc (suc (suc zero)))) l =
              rw (
                lt-ltb 0 n above,
                eq-eqb n n refl,
                ne_eqb n m other,
                ne_eqb m n (λ h. other (sym h)),
                and-false (ltb 0 m),
                silent (bits_word 1),
                test 1 (bits_word 1) left,
                word_same (bits_word 1),
              )
              refl
          before (suc (suc (suc (suc (suc i))))) l = absurd (omega arith)

  -- Another line, or none: both equations count.
  module _ (n m : ℕ) (apart : (n ≡ 0) ⊎ (n ≢ m)) where
    first_counts : ltb 0 n && (eqb m n || false) ≡ false
    first_counts = go apart
      where
        go : (n ≡ 0) ⊎ (n ≢ m) → ltb 0 n && (eqb m n || false) ≡ false
        go (inl e) = rw e refl
        go (inr d) = rw (ne_eqb m n (λ h. d (sym h))) (and-false (ltb 0 n))

    both_none : (p : List ℕ) → length p ≡ bits_of (rows_of (two 1 n 2 m)) → satisfies (rows_of (two 1 n 2 m)) p ≡ false
    unfolding satisfies_computed
    both_none p e =
        rw (first_counts, and-false (ltb 0 m), test 0 p (omega arith), test 1 p (omega arith), and-true (same_word p (bits_word 1)))
        (not_two p 0 1 (λ h. omega arith))

    both_ties : ties_to (rows_of (two 1 n 2 m)) 4 ≡ w
    unfolding ties_to pairs_in pairs_of pairs_together sources_of satisfies_computed
    both_ties = rw first_counts zero_ties

    pub both_count-any : NeverAtRow w (row 4 0 1 n ++ row 4 0 2 m) 4
    unfolding fault_computed satisfies_to satisfies_computed
    both_count-any =
        never_at (two 1 n 2 m) (rw (not_0, le-ltb 1024 w most, bits_0) refl) 4 refl (λ p. refl) both_none (bits_word 0) (alike_bits 0 (omega arith)) before w both_ties
      where
        before : (i : ℕ) → i < 4 → satisfies_to (rows_of (two 1 n 2 m)) i (bits_word 0) ≡ true
        before zero l = refl
        before (suc zero) l = refl
        before (suc (suc zero)) l = refl
        before (suc (suc (suc zero))) l = rw (first_counts, test 0 (bits_word 0) (length-replicate w 0), word_same (bits_word 0)) refl
        before (suc (suc (suc (suc i)))) l = absurd (omega arith)

  -- A cut whose low bound is the line's number.
  pub cut_no_line-any : (b c : ℕ) → c ≤ b → b < w → AllBits w (row 4 0 1 c ++ row 3 0 b c) 0
  unfolding fault_computed satisfies_computed variable_widths
  cut_no_line-any b c l h =
      alike_holds 0 (omega arith) (zeros_and_ones w ++ row 4 0 1 c ++ row 3 0 b c)
      (rw (not_0, le-ltb 1024 w most, bits_0, lt-ltb b w h, le-ltb b c l) refl) refl refl
      (λ p e. tells _ p (bits_word 0) (rw (and-false (ltb 0 c), test 0 p e) (and-true _)))

  -- A row that is not earlier.
  pub checked_too_any : (n r : ℕ) → 3 ≤ r → Holds (Refused (zeros_and_ones w ++ row 4 0 r n ++ row 4 0 2 n) (figures 14 0 0 0 0 3))
  checked_too_any n r h =
      refused_case (zeros_and_ones w ++ row 4 0 r n ++ row 4 0 2 n) (figures 14 0 0 0 0 3) (ap is_accepted fault) (ap fault_record fault)
    where
      fault : first_fault (zeros_and_ones w ++ row 4 0 r n ++ row 4 0 2 n) ≡ Err (Named 3)
      fault = unfold fault_computed in (rw (not_0, le-ltb 1024 w most, bits_0, le-ltb r 3 h) refl)

-- Column c of a value.
pub value_unlined_any : (a b c : ℕ) → 1 ≤ c → Holds (Refused (row 5 a b c) (figures 13 0 0 0 0 0))
value_unlined_any a b c h = refused_case (row 5 a b c) (figures 13 0 0 0 0 0) (ap is_accepted fault) (ap fault_record fault)
  where
    fault : first_fault (row 5 a b c) ≡ Err (Unused 0)
    fault = unfold fault_computed in (rw (ne_eqb c 0 (λ e. omega arith)) refl)
