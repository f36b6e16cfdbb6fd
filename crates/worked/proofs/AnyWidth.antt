-- Cases 3, 4, 7, 8 and 9 at every width of 1 to 1,024, and two tables that are solved at every such width. Assumes nothing.
use mathlib.Core.Path.{◌≡◌, refl, sym, ◌∙◌, ap}
use mathlib.Core.Bool.{true, false, and-true}
use mathlib.Core.List.{List, [], ◌∷◌, ◌++◌}
use mathlib.Core.Logic.{◌⊎◌}
use Prim.Native.Nat.{ℕ, zero, suc, ◌+◌, ◌-◌, ◌^◌, ◌≤◌, ◌<◌}
use native.Mathlib.Omega.{arith}
use lib.ListN.{length, get_or, take, replicate, length-replicate}
use lib.Seq.{take_all}
use borrow.Author.Tests.{le-ltb, lt-ltb, ne_eqb}
use Rattle.terms.specs.Calls.{fault_record}
use Rattle.terms.specs.Faults.{Accepted, is_accepted, first_fault}
use Rattle.terms.specs.Table.{rows_of, extract, evened, same_word, satisfies}
use Rattle.terms.specs.Assignments.{every}
use Rattle.laws.specs.Lists.{least}
use Rattle.terms.proofs.Assignments.{assignment_length}
use Rattle.terms.proofs.Computed.{fault_computed, satisfies_computed}
use Rattle.terms.proofs.Bounds.{variable_accepted, variable_refused, cut_accepted, cut_refused}
use Rattle.terms.proofs.Filled.{same_even}
use Rattle.terms.proofs.Satisfies.{same-word, word_same}
use Rattle.terms.proofs.Words.{extract-length, extract-bit, extract-replicate}
use Rattle.forms.specs.Form.{part, form_of, numbers_of}
use Rattle.forms.proofs.Theorems.{cut_and-joined}
use Rattle.answers.specs.Answer.{variable_widths}
use Rattle.answers.specs.Pairs.{ties, pairs_of, pairs_in}
use Rattle.answers.specs.Solve.{valid, unsatisfiable, unsat_row, satisfies_to, ties_to, pairs_together, always_record, never_record, answer_record}
use Rattle.worked.specs.Cases.{Solved, Refused, Form, Holds, row, piece, times, figures}
use Rattle.worked.proofs.Holding.{met_by_all, solved_case, refused_case, form_case}
use Rattle.worked.proofs.OneWord.{all_alike, zeros_alone, alike-alone}

-- A variable equal to itself; a fill of zeros equal to one of ones; a variable equal to a fill of zeros; one whose bits but the lowest
-- are equal to its bits but the highest, so that each bit is equal to the next; one that is cut at bit k and joined again.
abbrev pub itself : ℕ → List ℕ
itself w = row 0 w 0 0 ++ row 4 0 0 0

abbrev pub fills : ℕ → List ℕ
fills w = row 1 0 w 0 ++ row 1 1 w 0 ++ row 4 0 1 0

abbrev pub filled : ℕ → List ℕ
filled w = row 0 w 0 0 ++ row 1 0 w 0 ++ row 4 0 1 0

abbrev pub chained : ℕ → List ℕ
chained w = row 0 w 0 0 ++ row 3 0 (w - 1) 1 ++ row 3 0 (w - 2) 0 ++ row 4 1 2 0

abbrev pub joined : ℕ → ℕ → List ℕ
joined w k = row 0 w 0 0 ++ row 3 0 (w - 1) k ++ row 3 0 (k - 1) 0 ++ row 2 1 2 0

-- Cases 3 and 4: every assignment satisfies the one table, none the other.
pub itself_always : (w : ℕ) → answer_record (rows_of (itself w)) ≡ always_record w
unfolding satisfies_computed
itself_always w =
    let bits : w + 0 ≡ w = omega arith in
    met_by_all (itself w) (λ p. rw (word_same (evened (take w p) (take w p))) refl) ∙ ap always_record bits

-- zeros and ones, where there is one of each at least
differ : (w : ℕ) → same_word (evened (replicate (suc w) 0) (replicate (suc w) 1)) (evened (replicate (suc w) 1) (replicate (suc w) 0)) ≡ false
unfolding same_word
differ w =
    same_even (replicate (suc w) 0) (replicate (suc w) 1) (length-replicate {A = ℕ} (suc w) 0 ∙ sym (length-replicate {A = ℕ} (suc w) 1))

pub fills_never : (w : ℕ) → 1 ≤ w → answer_record (rows_of (fills w)) ≡ never_record 0 2
unfolding answer_record valid unsatisfiable unsat_row satisfies_to ties_to pairs_together ties pairs_in pairs_of least every satisfies_computed
fills_never zero l = absurd (omega arith)
fills_never (suc w) l = rw (differ w) refl

module _ (w : ℕ) (one : 1 ≤ w) (most : w ≤ 1024) where
  -- these tables break no rule
  itself_accepted : first_fault (itself w) ≡ Accepted
  unfolding fault_computed
  itself_accepted = rw (ne_eqb w 0 (λ e. omega arith), le-ltb 1024 w most, le-ltb 4096 (w + 0) (omega arith))

  fills_accepted : first_fault (fills w) ≡ Accepted
  unfolding fault_computed
  fills_accepted = rw (ne_eqb w 0 (λ e. omega arith), le-ltb 1024 w most)

  filled_accepted : first_fault (filled w) ≡ Accepted
  unfolding fault_computed
  filled_accepted = rw (ne_eqb w 0 (λ e. omega arith), le-ltb 1024 w most, le-ltb 4096 (w + 0) (omega arith))

  bits_are : w + 0 ≡ w
  bits_are = omega arith

  -- Case 3: a variable equal to itself.
  pub itself_any : Holds (Solved (itself w) (figures 0 0 0 w 0 0) [] (2 ^ w))
  itself_any = solved_case (itself w) (figures 0 0 0 w 0 0) itself_accepted (itself_always w) [] refl

  -- Case 4: fill 0 equal to fill 1.
  pub fills_any : Holds (Solved (fills w) (figures 1 0 0 0 0 2) [] 0)
  fills_any = solved_case (fills w) (figures 1 0 0 0 0 2) fills_accepted (fills_never w one) [] refl

  -- Case 7: a variable.
  pub variable_any : Holds (Solved (row 0 w 0 0) (figures 0 0 0 w 0 0) [] (2 ^ w))
  unfolding satisfies_computed
  variable_any =
      solved_case (row 0 w 0 0) (figures 0 0 0 w 0 0) (variable_accepted w one most)
      (met_by_all (row 0 w 0 0) (λ p. refl) ∙ ap always_record bits_are) [] refl

  -- A variable equal to a fill of zeros: a pattern's bits against zeros.
  filled_sides : (p : List ℕ) → length p ≡ w → satisfies (rows_of (filled w)) p ≡ same_word p (replicate w 0)
  unfolding satisfies_computed
  filled_sides p e =
      and-true (same_word (evened (take w p) (replicate w 0)) (evened (replicate w 0) (take w p)))
      ∙ ap (λ (word : List ℕ). same_word (evened word (replicate w 0)) (evened (replicate w 0) word)) (take_all w p (omega (arith, e)))
      ∙ same_even p (replicate w 0) (e ∙ sym (length-replicate w 0))

  pub filled_any : Holds (Solved (filled w) (figures 2 1 0 0 w 0) (piece 0 0 w 0 0 (w - 1)) 1)
  unfolding satisfies_computed variable_widths
  filled_any =
      zeros_alone (filled w) w one filled_accepted bits_are refl
      (λ p a e i l.
      let zeros : p ≡ replicate w 0 = same-word p (replicate w 0) (sym (filled_sides p (assignment_length a)) ∙ e) in
      ap (λ (word : List ℕ). get_or word i 0) zeros ∙ all_alike w 0 i l)
      (filled_sides (replicate w 0) (length-replicate w 0) ∙ word_same (replicate w 0))

  -- A variable with each bit equal to the next: a pattern's bits but the last against its bits but the first.
  module _ (two : 2 ≤ w) where
    chained_accepted : first_fault (chained w) ≡ Accepted
    unfolding fault_computed
    chained_accepted =
        rw (
          ne_eqb w 0 (λ e. omega arith),
          le-ltb 1024 w most,
          le-ltb 4096 (w + 0) (omega arith),
          lt-ltb (w - 1) w (omega arith),
          le-ltb (w - 1) 1 (omega arith),
          lt-ltb (w - 2) w (omega arith),
          le-ltb (w - 2) 0 (omega arith),
        )

    chained_sides : (p : List ℕ) → length p ≡ w
        → satisfies (rows_of (chained w)) p ≡ same_word (extract p (w - 1) 1) (extract p (w - 2) 0)
    unfolding satisfies_computed
    chained_sides p e =
        let left : List ℕ → List ℕ = λ word. extract word (w - 1) 1 in
        let right : List ℕ → List ℕ = λ word. extract word (w - 2) 0 in
        and-true (same_word (evened (left (take w p)) (right (take w p))) (evened (right (take w p)) (left (take w p))))
        ∙ ap (λ (word : List ℕ). same_word (evened (left word) (right word)) (evened (right word) (left word))) (take_all w p (omega (arith, e)))
        ∙ same_even (left p) (right p)
        (extract-length p (w - 1) 1 (omega arith) (omega arith) ∙ omega (arith, extract-length p (w - 2) 0 (omega arith) (omega arith)))

    -- each bit is equal to the first
    first_bit : (p : List ℕ) → length p ≡ w → extract p (w - 1) 1 ≡ extract p (w - 2) 0 → (i : ℕ) → i < w → get_or p i 0 ≡ get_or p 0 0
    first_bit p e h zero l = refl
    first_bit p e h (suc i) l = next ∙ first_bit p e h i (omega arith)
      where
        next : get_or p (suc i) 0 ≡ get_or p i 0
        next =
            let a : length p - (w - 1 + 1) + i ≡ i = omega arith in
            let b : length p - (w - 2 + 1) + i ≡ suc i = omega arith in
            ap (λ (j : ℕ). get_or p j 0) (sym b)
            ∙ sym (extract-bit p (w - 2) 0 i (omega arith) (omega arith))
            ∙ sym (ap (λ (word : List ℕ). get_or word i 0) h)
            ∙ extract-bit p (w - 1) 1 i (omega arith) (omega arith)
            ∙ ap (λ (j : ℕ). get_or p j 0) a

    pub chained_any : Holds (Solved (chained w) (figures 2 w 1 1 (w - 1) 0) (times w (piece 0 2 1 0 0 (w - 1))) 2)
    unfolding satisfies_computed variable_widths
    chained_any =
        alike-alone (chained w) w one chained_accepted bits_are refl two
        (λ p a e.
        let n = assignment_length a in
        first_bit p n (same-word (extract p (w - 1) 1) (extract p (w - 2) 0) (sym (chained_sides p n) ∙ e)))
        (λ b h. chained_sides (replicate w b) (length-replicate w b) ∙ alike_sides b)
      where
        alike_sides : (b : ℕ) → same_word (extract (replicate w b) (w - 1) 1) (extract (replicate w b) (w - 2) 0) ≡ true
        alike_sides b =
            let n : w - 1 + 1 - 1 ≡ w - 2 + 1 - 0 = omega arith in
            rw (extract-replicate w b (w - 1) 1 (omega arith) (omega arith), extract-replicate w b (w - 2) 0 (omega arith) (omega arith), n)
            (word_same (replicate (w - 2 + 1 - 0) b))

  -- Case 8: a cut of a variable.
  pub cut_any : (b c : ℕ) → c ≤ b → b < w → Holds (Solved (row 0 w 0 0 ++ row 3 0 b c) (figures 0 0 0 w 0 0) [] (2 ^ w))
  unfolding satisfies_computed
  cut_any b c l m =
      solved_case (row 0 w 0 0 ++ row 3 0 b c) (figures 0 0 0 w 0 0) (cut_accepted w b c one most l m)
      (met_by_all (row 0 w 0 0 ++ row 3 0 b c) (λ p. refl) ∙ ap always_record bits_are) [] refl

  pub cut_refused_any : (b c : ℕ) → (w ≤ b) ⊎ (b < c) → Holds (Refused (row 0 w 0 0 ++ row 3 0 b c) (figures 16 0 0 0 0 1))
  cut_refused_any b c h =
      let e = cut_refused w b c one most h in
      refused_case (row 0 w 0 0 ++ row 3 0 b c) (figures 16 0 0 0 0 1) (ap is_accepted e) (ap fault_record e)

  -- Case 9: a variable cut in two and joined again.
  module _ (k : ℕ) (low : 1 ≤ k) (high : k < w) where
    joined_accepted : first_fault (joined w k) ≡ Accepted
    unfolding fault_computed
    joined_accepted =
        let all : w - 1 + 1 - k + (k - 1 + 1 - 0) ≡ w = omega arith in
        rw (
          ne_eqb w 0 (λ e. omega arith),
          le-ltb 1024 w most,
          le-ltb 4096 (w + 0) (omega arith),
          lt-ltb (w - 1) w (omega arith),
          le-ltb (w - 1) k (omega arith),
          lt-ltb (k - 1) w (omega arith),
          le-ltb (k - 1) 0 (omega arith),
          all,
          ne_eqb w 0 (λ e. omega arith),
          le-ltb 1024 w most,
        )

    pub joined-any : Holds (Form (joined w k) 3 (figures 0 1 0 w 0 0) (row 2 0 (w - 1) 0))
    unfolding fault_computed numbers_of
    joined-any =
        form_case (joined w k) joined_accepted 3 refl (part 0 (w - 1) 0 ∷ []) form w (omega arith)
      where
        form : form_of (rows_of (joined w k)) 3 ≡ part 0 (w - 1) 0 ∷ []
        form =
            cut_and-joined (joined w k) joined_accepted 0 (omega arith) refl
            {x = 1} {y = 2} {k = k}
            (record { in_table = omega arith; is_extract = refl; word_is = refl; high_is = refl; low_is = refl })
            (record { in_table = omega arith; is_extract = refl; word_is = refl; high_is = refl; low_is = refl })
            (record { in_table = omega arith; is_concat = refl; left_is = refl; right_is = refl })
            low

-- Case 7: a width outside 1 to 1,024.
pub variable_refused_any : (w : ℕ) → (w ≡ 0) ⊎ (1024 < w) → Holds (Refused (row 0 w 0 0) (figures 15 0 0 0 0 0))
variable_refused_any w h =
    let e = variable_refused w h in
    refused_case (row 0 w 0 0) (figures 15 0 0 0 0 0) (ap is_accepted e) (ap fault_record e)
