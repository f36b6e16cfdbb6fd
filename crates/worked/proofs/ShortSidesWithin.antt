-- More short sides at every width (specs/ShortSidesEveryWidth.antt): a variable against its own low bits, against ones, and against two
-- variables joined. Assumes nothing.
use mathlib.Core.Path.{◌≡◌, refl, sym, ◌∙◌, ap, ap₂}
use mathlib.Core.Bool.{Bool, true, false, ◌&&◌, cond, and-true}
use mathlib.Core.List.{List, [], ◌∷◌, ◌++◌, append-nil}
use mathlib.Core.Logic.{inr}
use Prim.Native.Nat.{ℕ, zero, suc, ◌+◌, ◌-◌, ◌^◌, ◌≤◌, ◌<◌}
use native.Mathlib.Omega.{arith}
use lib.Dec.{eqb, ltb}
use lib.ListN.{length, take, replicate, length-append, length-replicate}
use lib.Seq.{take_at, take_all}
use borrow.Author.Tests.{le-ltb, lt-ltb, ne_eqb}
use Rattle.terms.specs.Faults.{Accepted, first_fault}
use Rattle.terms.specs.Table.{rows_of, bits_of, extract, same_word, satisfies}
use Rattle.terms.proofs.Computed.{fault_computed, satisfies_computed}
use Rattle.terms.proofs.Filled.{same_even}
use Rattle.terms.proofs.Satisfies.{word_same}
use Rattle.terms.proofs.Words.{extract_right, extract_left, extract_whole}
use Rattle.laws.specs.Lists.{tally, least}
use Rattle.laws.proofs.Bools.{and_parts}
use Rattle.answers.specs.declared.AnswerRow.{AnswerRow}
use Rattle.answers.specs.Answer.{variable_widths, home_row}
use Rattle.worked.specs.Cases.{Solved, Holds, row, piece, figures}
use Rattle.worked.specs.ShortSidesEveryWidth.{EitherSideLeft, own_bits, own_bits_again, short_ones, short_join}
use Rattle.worked.proofs.PatternWords.{Sides, said, turned, Tells, tells, tells_turned, long_left, long_right, first_of_two, two_words, second_of_three, third_of_three, three_words}
use Rattle.worked.proofs.LaidRows.{line, none, more, last}
use Rattle.worked.proofs.LaidAnswer.{WellCut, Fine, zeros, ones, fresh_piece, Apart, kinds, ends, OneVariable}
use Rattle.worked.proofs.LaidPatterns.{Patterns, pattern_of, row_word, Sized}
use Rattle.worked.proofs.LaidCases.{laid_holds, numbers_computed}

module _ (w g : ℕ) (one : 1 ≤ w) (some : 1 ≤ g) (most : w + g ≤ 1024) where
  abbrev wide : ℕ → ℕ
  wide f = w

  abbrev zero_word : List ℕ
  zero_word = replicate g 0

  -- A variable against its own low bits.
  abbrev own_table : ℕ → ℕ → List ℕ
  own_table a b = row 0 (w + g) 0 0 ++ row 3 0 (w - 1) 0 ++ row 4 a b 0

  own_accepted : (a b : ℕ) → Sides 0 1 a b → first_fault (own_table a b) ≡ Accepted
  unfolding fault_computed
  own_accepted a b side = go side
    where
      c : eqb (w + g) 0 ≡ false
      c = ne_eqb (w + g) 0 (λ e. omega arith)

      d : ltb 4096 (w + g + 0) ≡ false
      d = le-ltb 4096 (w + g + 0) (omega arith)

      e : ltb (w - 1) (w + g) ≡ true
      e = lt-ltb (w - 1) (w + g) (omega arith)

      go : {a b : ℕ} → Sides 0 1 a b → first_fault (own_table a b) ≡ Accepted
      go said = rw (c, le-ltb 1024 (w + g) most, d, e, le-ltb (w - 1) 0 (omega arith)) refl
      go turned = rw (c, le-ltb 1024 (w + g) most, d, e, le-ltb (w - 1) 0 (omega arith)) refl

  own_word : (x y : List ℕ) → length x ≡ g → length y ≡ w → take (w + g) (x ++ y) ≡ x ++ y
  own_word x y a b = take_all (w + g) (x ++ y) (omega (arith, length-append x y))

  low_bits : (x y : List ℕ) → length y ≡ w → extract (x ++ y) (w - 1) 0 ≡ y
  low_bits x y b =
      let e : w - 1 ≡ length y - 1 = omega arith in
      extract_right x y (w - 1) 0 (omega arith) ∙ ap (λ (i : ℕ). extract y i 0) e ∙ extract_whole y (omega arith)

  own_says : (a b : ℕ) → Sides 0 1 a b → (x y : List ℕ) → length x ≡ g → length y ≡ w
      → Tells (satisfies (rows_of (own_table a b)) (x ++ y)) (x ++ y) (zero_word ++ y)
  unfolding satisfies_computed
  own_says a b said x y m n =
      tells _ (x ++ y) (zero_word ++ y)
      (rw (own_word x y m n, low_bits x y n) (and-true _ ∙ long_left g (x ++ y) y (omega (arith, length-append x y))))
  own_says a b turned x y m n =
      tells_turned _ (x ++ y) (zero_word ++ y)
      (rw (own_word x y m n, low_bits x y n) (and-true _ ∙ long_right g (x ++ y) y (omega (arith, length-append x y))))

  own-bits : (a b : ℕ) → bits_of (rows_of (own_table a b)) ≡ w + g + 0
  unfolding satisfies_computed
  own-bits a b = refl

  own_widths : (a b : ℕ) → variable_widths (rows_of (own_table a b)) ≡ (w + g) ∷ []
  unfolding satisfies_computed variable_widths
  own_widths a b = refl

  abbrev own_rows : List AnswerRow
  own_rows = line 0 0 g 0 ∷ line 0 2 w 0 ∷ []

  own_cut : WellCut own_rows wide
  unfolding home_row least tally
  own_cut = record { fine = fine; apart = apart }
    where
      fine : (k : ℕ) → k < 2 → Fine own_rows wide k
      fine zero l = zeros refl refl
      fine (suc zero) l = fresh_piece refl refl refl
      fine (suc (suc k)) l = absurd (omega arith)

      apart : (k : ℕ) → suc k < 2 → OneVariable own_rows k → Apart own_rows k
      apart zero l e = kinds (λ h. omega arith)
      apart (suc k) l e = absurd (omega arith)

  -- a table of one variable that says just that its top bits are 0
  module _ (table : List ℕ) (accepted : first_fault table ≡ Accepted) (bits : bits_of (rows_of table) ≡ w + g + 0)
      (widths : variable_widths (rows_of table) ≡ (w + g) ∷ [])
      (says : (x y : List ℕ) → length x ≡ g → length y ≡ w → Tells (satisfies (rows_of table) (x ++ y)) (x ++ y) (zero_word ++ y)) where
    own_patterns : Patterns (rows_of table) own_rows wide
    unfolding pattern_of row_word
    own_patterns = record { passes = passes; reaches = reaches }
      where
        together : (y : List ℕ) → zero_word ++ y ≡ zero_word ++ (y ++ [])
        together y = ap (λ (z : List ℕ). zero_word ++ z) (sym (append-nil y))

        passes : (word : ℕ → List ℕ) → Sized wide word → satisfies (rows_of table) (zero_word ++ (word 0 ++ [])) ≡ true
        passes word h = ap (satisfies (rows_of table)) (sym (together (word 0))) ∙ (says zero_word (word 0) (length-replicate g 0) (h 0)).met refl

        reaches : (p : List ℕ) → length p ≡ bits_of (rows_of table) → satisfies (rows_of table) p ≡ true
            → (word : ℕ → List ℕ) × Sized wide word × (p ≡ zero_word ++ (word 0 ++ []))
        reaches p n e =
            let c = two_words g w p (omega (arith, n, bits)) in
            let y : List ℕ = c.1 in
            (λ f. y, λ f. c.3, c.4 ∙ (says c.0 y c.2 c.3).equal (ap (satisfies (rows_of table)) (sym c.4) ∙ e) ∙ together y)

    zeros_and-piece : Holds (Solved table (figures 2 2 1 w g 0) (piece 0 0 g 0 0 (w + g - 1) ++ piece 0 2 w 0 0 (w - 1)) (2 ^ w))
    unfolding numbers_computed
    zeros_and-piece =
        laid_holds table accepted own_rows wide own_cut ((w + g) ∷ []) widths
        (more refl some (omega arith) (last refl one (omega arith) none))
        own_patterns
        2 1 w g (piece 0 0 g 0 0 (w + g - 1) ++ piece 0 2 w 0 0 (w - 1))
        refl refl (omega arith) (omega (arith, bits)) some
        (let c : g + (w + 0) - 1 ≡ w + g - 1 = omega arith in let d : w + 0 - 1 ≡ w - 1 = omega arith in rw (c, d) refl)

  pub own_any : EitherSideLeft (own_bits w g) 0 1
  own_any = (holds 0 1 said, holds 1 0 turned)
    where
      holds : (a b : ℕ) → Sides 0 1 a b → Holds (own_bits w g (row 4 a b 0))
      holds a b side = zeros_and-piece (own_table a b) (own_accepted a b side) (own-bits a b) (own_widths a b) (own_says a b side)

  -- The same where the top bits are 0 already.
  abbrev again_table : ℕ → ℕ → List ℕ
  again_table a b = row 0 (w + g) 0 0 ++ row 3 0 (w + g - 1) w ++ row 1 0 g 0 ++ row 4 1 2 0 ++ row 3 0 (w - 1) 0 ++ row 4 a b 0

  again_accepted : (a b : ℕ) → Sides 0 4 a b → first_fault (again_table a b) ≡ Accepted
  unfolding fault_computed
  again_accepted a b side = go side
    where
      c : eqb (w + g) 0 ≡ false
      c = ne_eqb (w + g) 0 (λ e. omega arith)

      d : ltb 4096 (w + g + 0) ≡ false
      d = le-ltb 4096 (w + g + 0) (omega arith)

      e : ltb (w - 1) (w + g) ≡ true
      e = lt-ltb (w - 1) (w + g) (omega arith)

      f : ltb (w + g - 1) (w + g) ≡ true
      f = lt-ltb (w + g - 1) (w + g) (omega arith)

      h : ltb (w + g - 1) w ≡ false
      h = le-ltb (w + g - 1) w (omega arith)

      i : eqb g 0 ≡ false
      i = ne_eqb g 0 (λ z. omega arith)

      go : {a b : ℕ} → Sides 0 4 a b → first_fault (again_table a b) ≡ Accepted
      go said = rw (c, le-ltb 1024 (w + g) most, d, e, f, h, i, le-ltb 1024 g (omega arith), le-ltb (w - 1) 0 (omega arith)) refl
      go turned = rw (c, le-ltb 1024 (w + g) most, d, e, f, h, i, le-ltb 1024 g (omega arith), le-ltb (w - 1) 0 (omega arith)) refl

  top_bits : (x y : List ℕ) → length x ≡ g → length y ≡ w → extract (x ++ y) (w + g - 1) w ≡ x
  top_bits x y m n =
      let e : w + g - 1 - length y ≡ length x - 1 = omega arith in
      let f : w - length y ≡ 0 = omega arith in
      extract_left x y (w + g - 1) w (omega arith) (omega arith) (omega arith) ∙ ap₂ (extract x) e f ∙ extract_whole x (omega arith)

  -- both equations say that the top bits are 0
  both_tell : (x y : List ℕ) → length x ≡ g → (t : Bool) → Tells t (x ++ y) (zero_word ++ y)
      → Tells (same_word x zero_word && (t && true)) (x ++ y) (zero_word ++ y)
  both_tell x y m t told =
      record {
        equal = λ e. told.equal (and_parts t true (and_parts (same_word x zero_word) (t && true) e).1).0;
        met = λ e.
            let first : x ≡ zero_word = sym (take_at x y g m) ∙ ap (take g) e ∙ take_at zero_word y g (length-replicate g 0) in
            rw (told.met e, ap (λ (z : List ℕ). same_word z zero_word) first ∙ word_same zero_word) refl;
      }

  again_says : (a b : ℕ) → Sides 0 4 a b → (x y : List ℕ) → length x ≡ g → length y ≡ w
      → Tells (satisfies (rows_of (again_table a b)) (x ++ y)) (x ++ y) (zero_word ++ y)
  unfolding satisfies_computed
  again_says a b said x y m n =
      rw (own_word x y m n, low_bits x y n, top_bits x y m n, same_even x zero_word (m ∙ sym (length-replicate g 0)))
      (both_tell x y m _ (tells _ (x ++ y) (zero_word ++ y) (long_left g (x ++ y) y (omega (arith, length-append x y)))))
  again_says a b turned x y m n =
      rw (own_word x y m n, low_bits x y n, top_bits x y m n, same_even x zero_word (m ∙ sym (length-replicate g 0)))
      (both_tell x y m _ (tells_turned _ (x ++ y) (zero_word ++ y) (long_right g (x ++ y) y (omega (arith, length-append x y)))))

  again_bits : (a b : ℕ) → bits_of (rows_of (again_table a b)) ≡ w + g + 0
  unfolding satisfies_computed
  again_bits a b = refl

  again_widths : (a b : ℕ) → variable_widths (rows_of (again_table a b)) ≡ (w + g) ∷ []
  unfolding satisfies_computed variable_widths
  again_widths a b = refl

  pub again_any : EitherSideLeft (own_bits_again w g) 0 4
  again_any = (holds 0 4 said, holds 4 0 turned)
    where
      holds : (a b : ℕ) → Sides 0 4 a b → Holds (own_bits_again w g (row 4 a b 0))
      holds a b side =
          zeros_and-piece (again_table a b) (again_accepted a b side) (again_bits a b) (again_widths a b) (again_says a b side)

  -- A variable against ones.
  abbrev ones_table : ℕ → ℕ → List ℕ
  ones_table a b = row 0 (w + g) 0 0 ++ row 1 1 w 0 ++ row 4 a b 0

  ones_accepted : (a b : ℕ) → Sides 0 1 a b → first_fault (ones_table a b) ≡ Accepted
  unfolding fault_computed
  ones_accepted a b side = go side
    where
      c : eqb (w + g) 0 ≡ false
      c = ne_eqb (w + g) 0 (λ e. omega arith)

      d : ltb 4096 (w + g + 0) ≡ false
      d = le-ltb 4096 (w + g + 0) (omega arith)

      go : {a b : ℕ} → Sides 0 1 a b → first_fault (ones_table a b) ≡ Accepted
      go said = rw (c, le-ltb 1024 (w + g) most, d, ne_eqb w 0 (λ z. omega arith), le-ltb 1024 w (omega arith)) refl
      go turned = rw (c, le-ltb 1024 (w + g) most, d, ne_eqb w 0 (λ z. omega arith), le-ltb 1024 w (omega arith)) refl

  abbrev one_word : List ℕ
  one_word = replicate w 1

  ones_says : (a b : ℕ) → Sides 0 1 a b → (p : List ℕ) → length p ≡ w + g → Tells (satisfies (rows_of (ones_table a b)) p) p (zero_word ++ one_word)
  unfolding satisfies_computed
  ones_says a b said p n =
      tells _ p (zero_word ++ one_word)
      (rw (take_all (w + g) p (omega arith)) (and-true _ ∙ long_left g p one_word (omega (arith, length-replicate {A = ℕ} w 1))))
  ones_says a b turned p n =
      tells_turned _ p (zero_word ++ one_word)
      (rw (take_all (w + g) p (omega arith)) (and-true _ ∙ long_right g p one_word (omega (arith, length-replicate {A = ℕ} w 1))))

  ones_bits : (a b : ℕ) → bits_of (rows_of (ones_table a b)) ≡ w + g + 0
  unfolding satisfies_computed
  ones_bits a b = refl

  ones_widths : (a b : ℕ) → variable_widths (rows_of (ones_table a b)) ≡ (w + g) ∷ []
  unfolding satisfies_computed variable_widths
  ones_widths a b = refl

  abbrev ones_rows : List AnswerRow
  ones_rows = line 0 0 g 0 ∷ line 0 1 w 0 ∷ []

  ones_cut : WellCut ones_rows wide
  ones_cut = record { fine = fine; apart = apart }
    where
      fine : (k : ℕ) → k < 2 → Fine ones_rows wide k
      fine zero l = zeros refl refl
      fine (suc zero) l = ones refl refl
      fine (suc (suc k)) l = absurd (omega arith)

      apart : (k : ℕ) → suc k < 2 → OneVariable ones_rows k → Apart ones_rows k
      apart zero l e = kinds (λ h. omega arith)
      apart (suc k) l e = absurd (omega arith)

  ones_patterns : (a b : ℕ) → Sides 0 1 a b → Patterns (rows_of (ones_table a b)) ones_rows wide
  unfolding pattern_of row_word
  ones_patterns a b side =
      record {
        passes = λ word h.
            ap (satisfies (rows_of (ones_table a b))) (sym together)
            ∙ (ones_says a b side (zero_word ++ one_word)
            (omega (arith, length-append zero_word one_word, length-replicate {A = ℕ} g 0, length-replicate {A = ℕ} w 1))).met refl;
        reaches = λ p n e.
            (λ f. zeros_of, λ f. length-replicate w 0, (ones_says a b side p (omega (arith, n, ones_bits a b))).equal e ∙ together);
      }
    where
      zeros_of : List ℕ
      zeros_of = replicate w 0

      together : zero_word ++ one_word ≡ zero_word ++ (one_word ++ [])
      together = ap (λ (z : List ℕ). zero_word ++ z) (sym (append-nil one_word))

  pub ones_any : EitherSideLeft (short_ones w g) 0 1
  unfolding numbers_computed
  ones_any = (holds 0 1 said, holds 1 0 turned)
    where
      holds : (a b : ℕ) → Sides 0 1 a b → Holds (short_ones w g (row 4 a b 0))
      holds a b side =
          laid_holds (ones_table a b) (ones_accepted a b side) ones_rows wide ones_cut ((w + g) ∷ []) (ones_widths a b)
          (more refl some (omega arith) (last refl one (omega arith) none))
          (ones_patterns a b side)
          2 0 0 (w + g) (piece 0 0 g 0 0 (w + g - 1) ++ piece 0 1 w 0 0 (w - 1))
          refl refl refl (omega (arith, ones_bits a b)) (omega arith)
          (let c : g + (w + 0) - 1 ≡ w + g - 1 = omega arith in let d : w + 0 - 1 ≡ w - 1 = omega arith in rw (c, d) refl)

-- Two variables joined.
module _ (u v g : ℕ) (one : 1 ≤ u) (two : 1 ≤ v) (some : 1 ≤ g) (most : u + v + g ≤ 1024) where
  abbrev wides : ℕ → ℕ
  wides f = cond (eqb f 0) u v

  abbrev top : List ℕ
  top = replicate g 0

  abbrev join_table : ℕ → ℕ → List ℕ
  join_table a b = row 0 u 0 0 ++ row 0 v 0 0 ++ row 0 (u + v + g) 0 0 ++ row 2 0 1 0 ++ row 4 a b 0

  join_accepted : (a b : ℕ) → Sides 3 2 a b → first_fault (join_table a b) ≡ Accepted
  unfolding fault_computed
  join_accepted a b side = go side
    where
      c : eqb (u + v + g) 0 ≡ false
      c = ne_eqb (u + v + g) 0 (λ e. omega arith)

      d : ltb 4096 (u + 0) ≡ false
      d = le-ltb 4096 (u + 0) (omega arith)

      e : ltb 4096 (u + (v + 0)) ≡ false
      e = le-ltb 4096 (u + (v + 0)) (omega arith)

      f : ltb 4096 (u + (v + (u + v + g + 0))) ≡ false
      f = le-ltb 4096 (u + (v + (u + v + g + 0))) (omega arith)

      h : eqb (u + v) 0 ≡ false
      h = ne_eqb (u + v) 0 (λ z. omega arith)

      i : eqb u 0 ≡ false
      i = ne_eqb u 0 (λ z. omega arith)

      j : eqb v 0 ≡ false
      j = ne_eqb v 0 (λ z. omega arith)

      go : {a b : ℕ} → Sides 3 2 a b → first_fault (join_table a b) ≡ Accepted
      go said =
          rw (c, d, e, f, h, i, j, le-ltb 1024 u (omega arith), le-ltb 1024 v (omega arith), le-ltb 1024 (u + v) (omega arith), le-ltb 1024 (u + v + g) most) refl
      go turned =
          rw (c, d, e, f, h, i, j, le-ltb 1024 u (omega arith), le-ltb 1024 v (omega arith), le-ltb 1024 (u + v) (omega arith), le-ltb 1024 (u + v + g) most) refl

  join_says : (a b : ℕ) → Sides 3 2 a b → (x y z : List ℕ) → length x ≡ u → length y ≡ v → length z ≡ u + v + g
      → Tells (satisfies (rows_of (join_table a b)) (x ++ (y ++ z))) z (top ++ (x ++ y))
  unfolding satisfies_computed
  join_says a b said x y z l m n =
      tells_turned _ z (top ++ (x ++ y))
      (rw (first_of_two u (v + (u + v + g + 0)) x (y ++ z) l, second_of_three u v (u + v + g) x y z l m, third_of_three u v (u + v + g) x y z l m n)
      (and-true _ ∙ long_right g z (x ++ y) (omega (arith, length-append x y))))
  join_says a b turned x y z l m n =
      tells _ z (top ++ (x ++ y))
      (rw (first_of_two u (v + (u + v + g + 0)) x (y ++ z) l, second_of_three u v (u + v + g) x y z l m, third_of_three u v (u + v + g) x y z l m n)
      (and-true _ ∙ long_left g z (x ++ y) (omega (arith, length-append x y))))

  join_bits : (a b : ℕ) → bits_of (rows_of (join_table a b)) ≡ u + (v + (u + v + g + 0))
  unfolding satisfies_computed
  join_bits a b = refl

  join_widths : (a b : ℕ) → variable_widths (rows_of (join_table a b)) ≡ u ∷ v ∷ (u + v + g) ∷ []
  unfolding satisfies_computed variable_widths
  join_widths a b = refl

  abbrev join_rows : List AnswerRow
  join_rows = line 0 2 u 0 ∷ line 1 2 v 1 ∷ line 2 0 g 0 ∷ line 2 2 u 0 ∷ line 2 2 v 1 ∷ []

  join_cut : WellCut join_rows wides
  unfolding home_row least tally
  join_cut = record { fine = fine; apart = apart }
    where
      fine : (k : ℕ) → k < 5 → Fine join_rows wides k
      fine zero l = fresh_piece refl refl refl
      fine (suc zero) l = fresh_piece refl refl refl
      fine (suc (suc zero)) l = zeros refl refl
      fine (suc (suc (suc zero))) l = fresh_piece refl refl refl
      fine (suc (suc (suc (suc zero)))) l = fresh_piece refl refl refl
      fine (suc (suc (suc (suc (suc k))))) l = absurd (omega arith)

      apart : (k : ℕ) → suc k < 5 → OneVariable join_rows k → Apart join_rows k
      apart zero l e = absurd (omega arith)
      apart (suc zero) l e = absurd (omega arith)
      apart (suc (suc zero)) l e = kinds (λ h. omega arith)
      apart (suc (suc (suc zero))) l e = ends 0 (omega arith) refl refl refl refl (inr (λ h. omega arith))
      apart (suc (suc (suc (suc k)))) l e = absurd (omega arith)

  join_patterns : (a b : ℕ) → Sides 3 2 a b → Patterns (rows_of (join_table a b)) join_rows wides
  unfolding pattern_of row_word
  join_patterns a b side = record { passes = passes; reaches = reaches }
    where
      together : (x y : List ℕ) → x ++ (y ++ (top ++ (x ++ y))) ≡ x ++ (y ++ (top ++ (x ++ (y ++ []))))
      together x y = ap (λ (z : List ℕ). x ++ (y ++ (top ++ (x ++ z)))) (sym (append-nil y))

      passes : (word : ℕ → List ℕ) → Sized wides word
          → satisfies (rows_of (join_table a b)) (word 0 ++ (word 1 ++ (top ++ (word 0 ++ (word 1 ++ []))))) ≡ true
      passes word h =
          ap (satisfies (rows_of (join_table a b))) (sym (together (word 0) (word 1)))
          ∙ (join_says a b side (word 0) (word 1) (top ++ (word 0 ++ word 1)) (h 0) (h 1)
          (omega (arith, length-append top (word 0 ++ word 1), length-append (word 0) (word 1), length-replicate {A = ℕ} g 0, h 0, h 1))).met refl

      reaches : (p : List ℕ) → length p ≡ bits_of (rows_of (join_table a b)) → satisfies (rows_of (join_table a b)) p ≡ true
          → (word : ℕ → List ℕ) × Sized wides word × (p ≡ word 0 ++ (word 1 ++ (top ++ (word 0 ++ (word 1 ++ [])))))
      reaches p n e =
          let c = three_words u v (u + v + g) p (n ∙ join_bits a b) in
          let x : List ℕ = c.0 in
          let y : List ℕ = c.1 in
          let zeroed : c.2 ≡ top ++ (x ++ y) =
          (join_says a b side x y c.2 c.3 c.4 c.5).equal (ap (satisfies (rows_of (join_table a b))) (sym c.6) ∙ e) in (
            λ f. cond (eqb f 0) x y,
            λ f. either (eqb f 0) x y c.3 c.4,
            c.6 ∙ ap (λ (z : List ℕ). x ++ (y ++ z)) zeroed ∙ together x y,
          )
        where
          either : (t : Bool) (x y : List ℕ) → length x ≡ u → length y ≡ v → length (cond t x y) ≡ cond t u v
          either true x y a b = a
          either false x y a b = b

  pub join_any : EitherSideLeft (short_join u v g) 3 2
  unfolding numbers_computed
  join_any = (holds 3 2 said, holds 2 3 turned)
    where
      holds : (a b : ℕ) → Sides 3 2 a b → Holds (short_join u v g (row 4 a b 0))
      holds a b side =
          laid_holds (join_table a b) (join_accepted a b side) join_rows wides join_cut (u ∷ v ∷ (u + v + g) ∷ []) (join_widths a b)
          (last refl one (omega arith) (last refl two (omega arith)
          (more refl some (omega arith) (more refl one (omega arith) (last refl two (omega arith) none)))))
          (join_patterns a b side)
          5 2 (u + v) (u + v + g)
          (piece 0 2 u 0 0 (u - 1) ++ piece 1 2 v 1 1 (v - 1) ++ piece 2 0 g 0 2 (u + v + g - 1) ++ piece 2 2 u 0 0 (u - 1) ++ piece 2 2 v 1 1 (v - 1))
          refl refl (omega arith) (omega (arith, join_bits a b)) (omega arith)
          (let c : g + (u + (v + 0)) - 1 ≡ u + v + g - 1 = omega arith in
          let d : u + 0 - 1 ≡ u - 1 = omega arith in
          let e : v + 0 - 1 ≡ v - 1 = omega arith in
          rw (c, d, e) refl)
