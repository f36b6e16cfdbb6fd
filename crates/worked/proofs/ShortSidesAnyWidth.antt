-- Short sides against long sides at every width (specs/ShortSidesEveryWidth.antt). Assumes nothing.
use mathlib.Core.Path.{◌≡◌, refl, sym, ◌∙◌, ap}
use mathlib.Core.Bool.{true, false, and-true}
use mathlib.Core.List.{List, [], ◌∷◌, ◌++◌, append_assoc, append-nil}
use Prim.Native.Nat.{ℕ, zero, suc, ◌+◌, ◌-◌, ◌≤◌, ◌<◌}
use native.Mathlib.Omega.{arith}
use lib.ListN.{length, replicate, length-append, length-replicate}
use lib.Dec.{eqb, ltb}
use borrow.Author.Tests.{le-ltb, ne_eqb}
use Rattle.terms.specs.Faults.{Accepted, first_fault}
use Rattle.terms.specs.Table.{rows_of, bits_of, satisfies}
use Rattle.terms.proofs.Computed.{fault_computed, satisfies_computed}
use Rattle.laws.specs.Lists.{tally, least}
use Rattle.answers.specs.declared.AnswerRow.{AnswerRow}
use Rattle.answers.specs.Answer.{variable_widths, home_row}
use Rattle.worked.specs.Cases.{Holds, row, piece}
use Rattle.worked.specs.ShortSidesEveryWidth.{EitherSideLeft, long_first, short_first}
use Rattle.worked.proofs.PatternWords.{Sides, said, turned, Tells, tells, tells_turned, long_left, long_right, first_of_two, second_of_two, two_words}
use Rattle.worked.proofs.LaidRows.{line, none, more, last}
use Rattle.worked.proofs.LaidAnswer.{WellCut, Fine, zeros, fresh_piece, Apart, kinds, OneVariable}
use Rattle.worked.proofs.LaidPatterns.{Patterns, pattern_of, row_word, Sized}
use Rattle.worked.proofs.LaidCases.{laid_holds, numbers_computed}

-- A long variable and a short one.
module _ (w g : ℕ) (one : 1 ≤ w) (some : 1 ≤ g) (most : w + g ≤ 1024) where
  abbrev wide : ℕ → ℕ
  wide f = w

  abbrev long_table : ℕ → ℕ → List ℕ
  long_table a b = row 0 (w + g) 0 0 ++ row 0 w 0 0 ++ row 4 a b 0

  long_accepted : (a b : ℕ) → Sides 0 1 a b → first_fault (long_table a b) ≡ Accepted
  unfolding fault_computed
  long_accepted a b side = go side
    where
      c : eqb (w + g) 0 ≡ false
      c = ne_eqb (w + g) 0 (λ e. omega arith)

      d : ltb 4096 (w + g + 0) ≡ false
      d = le-ltb 4096 (w + g + 0) (omega arith)

      e : ltb 4096 (w + g + (w + 0)) ≡ false
      e = le-ltb 4096 (w + g + (w + 0)) (omega arith)

      go : {a b : ℕ} → Sides 0 1 a b → first_fault (long_table a b) ≡ Accepted
      go said = rw (c, le-ltb 1024 (w + g) most, d, ne_eqb w 0 (λ z. omega arith), le-ltb 1024 w (omega arith), e) refl
      go turned = rw (c, le-ltb 1024 (w + g) most, d, ne_eqb w 0 (λ z. omega arith), le-ltb 1024 w (omega arith), e) refl

  -- the long one is zeros and the short one
  long_says : (a b : ℕ) → Sides 0 1 a b → (x y : List ℕ) → length x ≡ w + g → length y ≡ w
      → Tells (satisfies (rows_of (long_table a b)) (x ++ y)) x (replicate g 0 ++ y)
  unfolding satisfies_computed
  long_says a b said x y m n =
      tells _ x (replicate g 0 ++ y)
      (rw (first_of_two (w + g) w x y m, second_of_two (w + g) w x y m n) (and-true _ ∙ long_left g x y (omega arith)))
  long_says a b turned x y m n =
      tells_turned _ x (replicate g 0 ++ y)
      (rw (first_of_two (w + g) w x y m, second_of_two (w + g) w x y m n) (and-true _ ∙ long_right g x y (omega arith)))

  long_bits : (a b : ℕ) → bits_of (rows_of (long_table a b)) ≡ w + g + (w + 0)
  unfolding satisfies_computed
  long_bits a b = refl

  long_widths : (a b : ℕ) → variable_widths (rows_of (long_table a b)) ≡ (w + g) ∷ w ∷ []
  unfolding satisfies_computed variable_widths
  long_widths a b = refl

  abbrev long_rows : List AnswerRow
  long_rows = line 0 0 g 0 ∷ line 0 2 w 0 ∷ line 1 2 w 0 ∷ []

  long_cut : WellCut long_rows wide
  unfolding home_row least tally
  long_cut = record { fine = fine; apart = apart }
    where
      fine : (k : ℕ) → k < 3 → Fine long_rows wide k
      fine zero l = zeros refl refl
      fine (suc zero) l = fresh_piece refl refl refl
      fine (suc (suc zero)) l = fresh_piece refl refl refl
      fine (suc (suc (suc k))) l = absurd (omega arith)

      apart : (k : ℕ) → suc k < 3 → OneVariable long_rows k → Apart long_rows k
      apart zero l e = kinds (λ h. omega arith)
      apart (suc zero) l e = absurd (omega arith)
      apart (suc (suc k)) l e = absurd (omega arith)

  long_patterns : (a b : ℕ) → Sides 0 1 a b → Patterns (rows_of (long_table a b)) long_rows wide
  unfolding pattern_of row_word
  long_patterns a b side = record { passes = passes; reaches = reaches }
    where
      together : (y : List ℕ) → (replicate g 0 ++ y) ++ y ≡ replicate g 0 ++ (y ++ (y ++ []))
      together y = append_assoc (replicate g 0) y y ∙ ap (λ (z : List ℕ). replicate g 0 ++ (y ++ z)) (sym (append-nil y))

      passes : (word : ℕ → List ℕ) → Sized wide word → satisfies (rows_of (long_table a b)) (replicate g 0 ++ (word 0 ++ (word 0 ++ []))) ≡ true
      passes word h =
          ap (satisfies (rows_of (long_table a b))) (sym (together (word 0)))
          ∙ (long_says a b side (replicate g 0 ++ word 0) (word 0)
          (omega (arith, length-append (replicate g 0) (word 0), length-replicate {A = ℕ} g 0, h 0)) (h 0)).met refl

      reaches : (p : List ℕ) → length p ≡ bits_of (rows_of (long_table a b)) → satisfies (rows_of (long_table a b)) p ≡ true
          → (word : ℕ → List ℕ) × Sized wide word × (p ≡ replicate g 0 ++ (word 0 ++ (word 0 ++ [])))
      reaches p n e =
          let c = two_words (w + g) w p (n ∙ long_bits a b) in
          let x : List ℕ = c.0 in
          let y : List ℕ = c.1 in
          let zeroed : x ≡ replicate g 0 ++ y =
          (long_says a b side x y c.2 c.3).equal (ap (satisfies (rows_of (long_table a b))) (sym c.4) ∙ e) in
          (λ f. y, λ f. c.3, c.4 ∙ ap (λ (z : List ℕ). z ++ y) zeroed ∙ together y)

  pub long_any : EitherSideLeft (long_first w g) 0 1
  unfolding numbers_computed
  long_any = (holds 0 1 said, holds 1 0 turned)
    where
      holds : (a b : ℕ) → Sides 0 1 a b → Holds (long_first w g (row 4 a b 0))
      holds a b side =
          laid_holds (long_table a b) (long_accepted a b side) long_rows wide long_cut ((w + g) ∷ w ∷ []) (long_widths a b)
          (more refl some (omega arith) (last refl one (omega arith) (last refl one (omega arith) none)))
          (long_patterns a b side)
          3 1 w (w + g) (piece 0 0 g 0 0 (w + g - 1) ++ piece 0 2 w 0 0 (w - 1) ++ piece 1 2 w 0 0 (w - 1))
          refl refl (omega arith) (omega (arith, long_bits a b)) (omega arith)
          (let c : g + (w + 0) - 1 ≡ w + g - 1 = omega arith in let d : w + 0 - 1 ≡ w - 1 = omega arith in rw (c, d) refl)

  -- The short variable first.
  abbrev short_table : ℕ → ℕ → List ℕ
  short_table a b = row 0 w 0 0 ++ row 0 (w + g) 0 0 ++ row 4 a b 0

  short_accepted : (a b : ℕ) → Sides 0 1 a b → first_fault (short_table a b) ≡ Accepted
  unfolding fault_computed
  short_accepted a b side = go side
    where
      c : eqb (w + g) 0 ≡ false
      c = ne_eqb (w + g) 0 (λ e. omega arith)

      d : ltb 4096 (w + 0) ≡ false
      d = le-ltb 4096 (w + 0) (omega arith)

      e : ltb 4096 (w + (w + g + 0)) ≡ false
      e = le-ltb 4096 (w + (w + g + 0)) (omega arith)

      go : {a b : ℕ} → Sides 0 1 a b → first_fault (short_table a b) ≡ Accepted
      go said = rw (c, le-ltb 1024 (w + g) most, d, ne_eqb w 0 (λ z. omega arith), le-ltb 1024 w (omega arith), e) refl
      go turned = rw (c, le-ltb 1024 (w + g) most, d, ne_eqb w 0 (λ z. omega arith), le-ltb 1024 w (omega arith), e) refl

  short_says : (a b : ℕ) → Sides 0 1 a b → (x y : List ℕ) → length x ≡ w → length y ≡ w + g
      → Tells (satisfies (rows_of (short_table a b)) (x ++ y)) y (replicate g 0 ++ x)
  unfolding satisfies_computed
  short_says a b said x y m n =
      tells_turned _ y (replicate g 0 ++ x)
      (rw (first_of_two w (w + g) x y m, second_of_two w (w + g) x y m n) (and-true _ ∙ long_right g y x (omega arith)))
  short_says a b turned x y m n =
      tells _ y (replicate g 0 ++ x)
      (rw (first_of_two w (w + g) x y m, second_of_two w (w + g) x y m n) (and-true _ ∙ long_left g y x (omega arith)))

  short_bits : (a b : ℕ) → bits_of (rows_of (short_table a b)) ≡ w + (w + g + 0)
  unfolding satisfies_computed
  short_bits a b = refl

  short_widths : (a b : ℕ) → variable_widths (rows_of (short_table a b)) ≡ w ∷ (w + g) ∷ []
  unfolding satisfies_computed variable_widths
  short_widths a b = refl

  abbrev short_rows : List AnswerRow
  short_rows = line 0 2 w 0 ∷ line 1 0 g 0 ∷ line 1 2 w 0 ∷ []

  short_cut : WellCut short_rows wide
  unfolding home_row least tally
  short_cut = record { fine = fine; apart = apart }
    where
      fine : (k : ℕ) → k < 3 → Fine short_rows wide k
      fine zero l = fresh_piece refl refl refl
      fine (suc zero) l = zeros refl refl
      fine (suc (suc zero)) l = fresh_piece refl refl refl
      fine (suc (suc (suc k))) l = absurd (omega arith)

      apart : (k : ℕ) → suc k < 3 → OneVariable short_rows k → Apart short_rows k
      apart zero l e = absurd (omega arith)
      apart (suc zero) l e = kinds (λ h. omega arith)
      apart (suc (suc k)) l e = absurd (omega arith)

  short_patterns : (a b : ℕ) → Sides 0 1 a b → Patterns (rows_of (short_table a b)) short_rows wide
  unfolding pattern_of row_word
  short_patterns a b side = record { passes = passes; reaches = reaches }
    where
      together : (x : List ℕ) → x ++ (replicate g 0 ++ x) ≡ x ++ (replicate g 0 ++ (x ++ []))
      together x = ap (λ (z : List ℕ). x ++ (replicate g 0 ++ z)) (sym (append-nil x))

      passes : (word : ℕ → List ℕ) → Sized wide word → satisfies (rows_of (short_table a b)) (word 0 ++ (replicate g 0 ++ (word 0 ++ []))) ≡ true
      passes word h =
          ap (satisfies (rows_of (short_table a b))) (sym (together (word 0)))
          ∙ (short_says a b side (word 0) (replicate g 0 ++ word 0) (h 0)
          (omega (arith, length-append (replicate g 0) (word 0), length-replicate {A = ℕ} g 0, h 0))).met refl

      reaches : (p : List ℕ) → length p ≡ bits_of (rows_of (short_table a b)) → satisfies (rows_of (short_table a b)) p ≡ true
          → (word : ℕ → List ℕ) × Sized wide word × (p ≡ word 0 ++ (replicate g 0 ++ (word 0 ++ [])))
      reaches p n e =
          let c = two_words w (w + g) p (n ∙ short_bits a b) in
          let x : List ℕ = c.0 in
          let zeroed : c.1 ≡ replicate g 0 ++ x =
          (short_says a b side x c.1 c.2 c.3).equal (ap (satisfies (rows_of (short_table a b))) (sym c.4) ∙ e) in
          (λ f. x, λ f. c.2, c.4 ∙ ap (λ (z : List ℕ). x ++ z) zeroed ∙ together x)

  pub short_any : EitherSideLeft (short_first w g) 0 1
  unfolding numbers_computed
  short_any = (holds 0 1 said, holds 1 0 turned)
    where
      holds : (a b : ℕ) → Sides 0 1 a b → Holds (short_first w g (row 4 a b 0))
      holds a b side =
          laid_holds (short_table a b) (short_accepted a b side) short_rows wide short_cut (w ∷ (w + g) ∷ []) (short_widths a b)
          (last refl one (omega arith) (more refl some (omega arith) (last refl one (omega arith) none)))
          (short_patterns a b side)
          3 1 w (w + g) (piece 0 2 w 0 0 (w - 1) ++ piece 1 0 g 0 1 (w + g - 1) ++ piece 1 2 w 0 0 (w - 1))
          refl refl (omega arith) (omega (arith, short_bits a b)) (omega arith)
          (let c : g + (w + 0) - 1 ≡ w + g - 1 = omega arith in let d : w + 0 - 1 ≡ w - 1 = omega arith in rw (c, d) refl)
