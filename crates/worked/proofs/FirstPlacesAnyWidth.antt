-- Pieces that name their first place, at every width (specs/FirstPlacesEveryWidth.antt). Assumes nothing.
use mathlib.Core.Path.{◌≡◌, refl, sym, ◌∙◌, ap, ap₂}
use mathlib.Core.Bool.{Bool, true, false, ◌&&◌, cond, and-true}
use mathlib.Core.List.{List, [], ◌∷◌, ◌++◌, append_assoc, append-nil}
use mathlib.Core.Logic.{inl}
use Prim.Native.Nat.{ℕ, zero, suc, ◌+◌, ◌-◌, ◌≤◌, ◌<◌}
use native.Mathlib.Omega.{arith}
use lib.Dec.{eqb}
use lib.ListN.{length, replicate, length-append, length-replicate}
use lib.Seq.{take_all}
use borrow.Author.Tests.{le-ltb, lt-ltb, ne_eqb}
use Rattle.terms.specs.Faults.{Accepted, first_fault}
use Rattle.terms.specs.Table.{rows_of, bits_of, extract, same_word, satisfies}
use Rattle.terms.proofs.Computed.{fault_computed, satisfies_computed}
use Rattle.terms.proofs.Filled.{same_even}
use Rattle.terms.proofs.Satisfies.{same-word, word_same}
use Rattle.terms.proofs.Words.{extract_right, extract_left, extract_whole}
use Rattle.laws.specs.Lists.{tally, least}
use Rattle.laws.proofs.Bools.{and_parts}
use Rattle.answers.specs.declared.AnswerRow.{AnswerRow}
use Rattle.answers.specs.Answer.{variable_widths, home_row}
use Rattle.worked.specs.Cases.{Holds, row, piece}
use Rattle.worked.specs.FirstPlacesEveryWidth.{two_fills, home_before, fill_before}
use Rattle.worked.proofs.PatternWords.{Tells, tells, first_of_two, second_of_two, two_words, three_words}
use Rattle.worked.proofs.LaidRows.{line, none, more, last}
use Rattle.worked.proofs.LaidAnswer.{WellCut, Fine, zeros, ones, fresh_piece, Apart, kinds, ends, OneVariable}
use Rattle.worked.proofs.LaidPatterns.{Patterns, pattern_of, row_word, Sized}
use Rattle.worked.proofs.LaidCases.{laid_holds, numbers_computed}

-- a cut through three words that keeps the middle one
middle : (x y z : List ℕ) (i j : ℕ) → length z ≡ j → length y + j ≡ suc i → 1 ≤ length y → extract (x ++ (y ++ z)) i j ≡ y
middle x y z i j a b c =
    let e : i - length z ≡ length y - 1 = omega arith in
    let f : j - length z ≡ 0 = omega arith in
    extract_right x (y ++ z) i j (omega (arith, length-append y z))
    ∙ extract_left y z i j (omega arith) (omega arith) (omega arith)
    ∙ ap₂ (extract y) e f
    ∙ extract_whole y c

-- A variable equal to the top of one before it.
module _ (w v : ℕ) (one : 1 ≤ w) (two : 1 ≤ v) (most : w + v ≤ 1024) where
  abbrev home_table : List ℕ
  home_table = row 0 (w + v) 0 0 ++ row 0 w 0 0 ++ row 3 0 (w + v - 1) v ++ row 4 2 1 0

  abbrev wides : ℕ → ℕ
  wides f = cond (eqb f 0) w v

  home_accepted : first_fault home_table ≡ Accepted
  unfolding fault_computed
  home_accepted =
      rw (
        ne_eqb (w + v) 0 (λ e. omega arith),
        le-ltb 1024 (w + v) most,
        le-ltb 4096 (w + v + 0) (omega arith),
        ne_eqb w 0 (λ e. omega arith),
        le-ltb 1024 w (omega arith),
        le-ltb 4096 (w + v + (w + 0)) (omega arith),
        lt-ltb (w + v - 1) (w + v) (omega arith),
        le-ltb (w + v - 1) v (omega arith),
      )
      refl

  home_says : (x y z : List ℕ) → length x ≡ w → length y ≡ v → length z ≡ w → Tells (satisfies (rows_of home_table) ((x ++ y) ++ z)) x z
  unfolding satisfies_computed
  home_says x y z a b c =
      let size : length (x ++ y) ≡ w + v = omega (arith, length-append x y) in
      tells _ x z
      (rw (first_of_two (w + v) w (x ++ y) z size, second_of_two (w + v) w (x ++ y) z size c, middle [] x y (w + v - 1) v b (omega arith) (omega arith))
      (and-true _ ∙ same_even x z (a ∙ sym c)))

  abbrev home_rows : List AnswerRow
  home_rows = line 0 2 w 0 ∷ line 0 2 v 1 ∷ line 1 2 w 0 ∷ []

  home_cut : WellCut home_rows wides
  unfolding home_row least tally
  home_cut = record { fine = fine; apart = apart }
    where
      fine : (k : ℕ) → k < 3 → Fine home_rows wides k
      fine zero l = fresh_piece refl refl refl
      fine (suc zero) l = fresh_piece refl refl refl
      fine (suc (suc zero)) l = fresh_piece refl refl refl
      fine (suc (suc (suc k))) l = absurd (omega arith)

      apart : (k : ℕ) → suc k < 3 → OneVariable home_rows k → Apart home_rows k
      apart zero l e = ends 2 (omega arith) refl refl refl refl (inl refl)
      apart (suc zero) l e = absurd (omega arith)
      apart (suc (suc k)) l e = absurd (omega arith)

  home_bits : bits_of (rows_of home_table) ≡ w + v + (w + 0)
  unfolding satisfies_computed
  home_bits = refl

  home_widths : variable_widths (rows_of home_table) ≡ (w + v) ∷ w ∷ []
  unfolding satisfies_computed variable_widths
  home_widths = refl

  home_patterns : Patterns (rows_of home_table) home_rows wides
  unfolding pattern_of row_word
  home_patterns = record { passes = passes; reaches = reaches }
    where
      together : (x y : List ℕ) → (x ++ y) ++ x ≡ x ++ (y ++ (x ++ []))
      together x y = append_assoc x y x ∙ ap (λ (z : List ℕ). x ++ (y ++ z)) (sym (append-nil x))

      passes : (word : ℕ → List ℕ) → Sized wides word → satisfies (rows_of home_table) (word 0 ++ (word 1 ++ (word 0 ++ []))) ≡ true
      passes word h =
          ap (satisfies (rows_of home_table)) (sym (together (word 0) (word 1))) ∙ (home_says (word 0) (word 1) (word 0) (h 0) (h 1) (h 0)).met refl

      either : (t : Bool) (x y : List ℕ) → length x ≡ w → length y ≡ v → length (cond t x y) ≡ cond t w v
      either true x y a b = a
      either false x y a b = b

      reaches : (p : List ℕ) → length p ≡ bits_of (rows_of home_table) → satisfies (rows_of home_table) p ≡ true
          → (word : ℕ → List ℕ) × Sized wides word × (p ≡ word 0 ++ (word 1 ++ (word 0 ++ [])))
      reaches p n e =
          let c = three_words w v w p (omega (arith, n, home_bits)) in
          let x : List ℕ = c.0 in
          let y : List ℕ = c.1 in
          let whole : p ≡ (x ++ y) ++ c.2 = c.6 ∙ sym (append_assoc x y c.2) in
          let same : x ≡ c.2 = (home_says x y c.2 c.3 c.4 c.5).equal (ap (satisfies (rows_of home_table)) (sym whole) ∙ e) in (
            λ f. cond (eqb f 0) x y,
            λ f. either (eqb f 0) x y c.3 c.4,
            whole ∙ ap (λ (z : List ℕ). (x ++ y) ++ z) (sym same) ∙ together x y,
          )

  pub home_before_any : Holds (home_before w v)
  unfolding numbers_computed
  home_before_any =
      laid_holds home_table home_accepted home_rows wides home_cut ((w + v) ∷ w ∷ []) home_widths
      (more refl one (omega arith) (last refl two (omega arith) (last refl one (omega arith) none)))
      home_patterns
      3 2 (w + v) w (piece 0 2 w 0 0 (w + v - 1) ++ piece 0 2 v 1 0 (v - 1) ++ piece 1 2 w 0 0 (w + v - 1))
      refl refl (omega arith) (omega (arith, home_bits)) one
      (let c : w + (v + 0) - 1 ≡ w + v - 1 = omega arith in let d : v + 0 - 1 ≡ v - 1 = omega arith in rw (c, d) refl)

-- A fill in front of a piece that stands twice.
module _ (g w : ℕ) (some : 1 ≤ g) (one : 1 ≤ w) (most : g + w + w ≤ 1024) where
  abbrev fill_table : List ℕ
  fill_table =
      row 0 (g + w + w) 0 0 ++ row 1 1 g 0 ++ row 3 0 (g + w + w - 1) (w + w) ++ row 4 2 1 0 ++ row 3 0 (w + w - 1) w ++ row 3 0 (w - 1) 0 ++ row 4 4 5 0

  abbrev wide : ℕ → ℕ
  wide f = w

  abbrev one_word : List ℕ
  one_word = replicate g 1

  fill_accepted : first_fault fill_table ≡ Accepted
  unfolding fault_computed
  fill_accepted =
      rw (
        ne_eqb (g + w + w) 0 (λ e. omega arith),
        le-ltb 1024 (g + w + w) most,
        le-ltb 4096 (g + w + w + 0) (omega arith),
        ne_eqb g 0 (λ e. omega arith),
        le-ltb 1024 g (omega arith),
        lt-ltb (g + w + w - 1) (g + w + w) (omega arith),
        le-ltb (g + w + w - 1) (w + w) (omega arith),
        lt-ltb (w + w - 1) (g + w + w) (omega arith),
        le-ltb (w + w - 1) w (omega arith),
        lt-ltb (w - 1) (g + w + w) (omega arith),
        le-ltb (w - 1) 0 (omega arith),
      )
      refl

  module _ (x y z : List ℕ) (a : length x ≡ g) (b : length y ≡ w) (c : length z ≡ w) where
    fill_meets : satisfies (rows_of fill_table) (x ++ (y ++ z)) ≡ same_word x one_word && same_word y z
    unfolding satisfies_computed
    fill_meets =
        let all : length (x ++ (y ++ z)) ≡ g + w + w = omega (arith, length-append x (y ++ z), length-append y z) in
        let e : w - 1 ≡ length z - 1 = omega arith in
        let low : extract (x ++ (y ++ z)) (w - 1) 0 ≡ z =
        extract_right x (y ++ z) (w - 1) 0 (omega (arith, length-append y z))
        ∙ extract_right y z (w - 1) 0 (omega arith) ∙ ap (λ (i : ℕ). extract z i 0) e ∙ extract_whole z (omega arith) in
        rw (
          take_all (g + w + w) (x ++ (y ++ z)) (omega arith),
          middle [] x (y ++ z) (g + w + w - 1) (w + w) (omega (arith, length-append y z)) (omega arith) (omega arith),
          middle x y z (w + w - 1) w c (omega arith) (omega arith),
          low,
          same_even x one_word (a ∙ sym (length-replicate g 1)),
          same_even y z (b ∙ sym c),
          and-true (same_word y z),
        )
        refl

  abbrev fill_rows : List AnswerRow
  fill_rows = line 0 1 g 0 ∷ line 0 2 w 0 ∷ line 0 2 w 0 ∷ []

  fill_cut : WellCut fill_rows wide
  unfolding home_row least tally
  fill_cut = record { fine = fine; apart = apart }
    where
      fine : (k : ℕ) → k < 3 → Fine fill_rows wide k
      fine zero l = ones refl refl
      fine (suc zero) l = fresh_piece refl refl refl
      fine (suc (suc zero)) l = fresh_piece refl refl refl
      fine (suc (suc (suc k))) l = absurd (omega arith)

      apart : (k : ℕ) → suc k < 3 → OneVariable fill_rows k → Apart fill_rows k
      apart zero l e = kinds (λ h. omega arith)
      apart (suc zero) l e = ends 2 (omega arith) refl refl refl refl (inl refl)
      apart (suc (suc k)) l e = absurd (omega arith)

  fill_bits : bits_of (rows_of fill_table) ≡ g + w + w + 0
  unfolding satisfies_computed
  fill_bits = refl

  fill_widths : variable_widths (rows_of fill_table) ≡ (g + w + w) ∷ []
  unfolding satisfies_computed variable_widths
  fill_widths = refl

  fill_patterns : Patterns (rows_of fill_table) fill_rows wide
  unfolding pattern_of row_word
  fill_patterns = record { passes = passes; reaches = reaches }
    where
      together : (y : List ℕ) → one_word ++ (y ++ y) ≡ one_word ++ (y ++ (y ++ []))
      together y = ap (λ (z : List ℕ). one_word ++ (y ++ z)) (sym (append-nil y))

      passes : (word : ℕ → List ℕ) → Sized wide word → satisfies (rows_of fill_table) (one_word ++ (word 0 ++ (word 0 ++ []))) ≡ true
      passes word h =
          ap (satisfies (rows_of fill_table)) (sym (together (word 0)))
          ∙ fill_meets one_word (word 0) (word 0) (length-replicate g 1) (h 0) (h 0)
          ∙ rw (word_same one_word, word_same (word 0)) refl

      reaches : (p : List ℕ) → length p ≡ bits_of (rows_of fill_table) → satisfies (rows_of fill_table) p ≡ true
          → (word : ℕ → List ℕ) × Sized wide word × (p ≡ one_word ++ (word 0 ++ (word 0 ++ [])))
      reaches p n e =
          let c = three_words g w w p (omega (arith, n, fill_bits)) in
          let y : List ℕ = c.1 in
          let h = and_parts (same_word c.0 one_word) (same_word y c.2)
          (sym (fill_meets c.0 y c.2 c.3 c.4 c.5) ∙ ap (satisfies (rows_of fill_table)) (sym c.6) ∙ e) in (
            λ f. y,
            λ f. c.4,
            c.6 ∙ ap₂ (λ (a b : List ℕ). a ++ (y ++ b)) (same-word c.0 one_word h.0) (sym (same-word y c.2 h.1)) ∙ together y,
          )

  pub fill_before_any : Holds (fill_before g w)
  unfolding numbers_computed
  fill_before_any =
      laid_holds fill_table fill_accepted fill_rows wide fill_cut ((g + w + w) ∷ []) fill_widths
      (more refl some (omega arith) (more refl one (omega arith) (last refl one (omega arith) none)))
      fill_patterns
      3 1 w (g + w) (piece 0 1 g 0 0 (g + w + w - 1) ++ piece 0 2 w 0 0 (w + w - 1) ++ piece 0 2 w 0 0 (w + w - 1))
      refl refl (omega arith) (omega (arith, fill_bits)) (omega arith)
      (let c : g + (w + (w + 0)) - 1 ≡ g + w + w - 1 = omega arith in let d : w + (w + 0) - 1 ≡ w + w - 1 = omega arith in rw (c, d) refl)

-- A fill in each of two variables.
module _ (u g v x : ℕ) (a : 1 ≤ u) (b : 1 ≤ g) (c : 1 ≤ v) (d : 1 ≤ x) (most : u + g + v ≤ 1024) (most' : g + x ≤ 1024) where
  abbrev fills_table : List ℕ
  fills_table =
      row 0 (u + g + v) 0 0 ++ row 0 (g + x) 0 0 ++ row 1 0 g 0 ++ row 3 0 (g + v - 1) v ++ row 4 3 2 0 ++ row 3 1 (g + x - 1) x ++ row 4 5 2 0

  abbrev three : ℕ → ℕ
  three f = cond (eqb f 0) u (cond (eqb f 1) v x)

  abbrev zero_word : List ℕ
  zero_word = replicate g 0

  fills_accepted : first_fault fills_table ≡ Accepted
  unfolding fault_computed
  fills_accepted =
      rw (
        ne_eqb (u + g + v) 0 (λ e. omega arith),
        le-ltb 1024 (u + g + v) most,
        le-ltb 4096 (u + g + v + 0) (omega arith),
        ne_eqb (g + x) 0 (λ e. omega arith),
        le-ltb 1024 (g + x) most',
        le-ltb 4096 (u + g + v + (g + x + 0)) (omega arith),
        ne_eqb g 0 (λ e. omega arith),
        le-ltb 1024 g (omega arith),
        lt-ltb (g + v - 1) (u + g + v) (omega arith),
        le-ltb (g + v - 1) v (omega arith),
        lt-ltb (g + x - 1) (g + x) (omega arith),
        le-ltb (g + x - 1) x (omega arith),
      )
      refl

  module _ (o p q r s : List ℕ) (h : length o ≡ u) (i : length p ≡ g) (j : length q ≡ v) (k : length r ≡ g) (l : length s ≡ x) where
    fills_meets : satisfies (rows_of fills_table) ((o ++ (p ++ q)) ++ (r ++ s)) ≡ same_word p zero_word && same_word r zero_word
    unfolding satisfies_computed
    fills_meets =
        let first : length (o ++ (p ++ q)) ≡ u + g + v = omega (arith, length-append o (p ++ q), length-append p q) in
        let second : length (r ++ s) ≡ g + x = omega (arith, length-append r s) in
        rw (
          first_of_two (u + g + v) (g + x) (o ++ (p ++ q)) (r ++ s) first,
          second_of_two (u + g + v) (g + x) (o ++ (p ++ q)) (r ++ s) first second,
          middle o p q (g + v - 1) v j (omega arith) (omega arith),
          middle [] r s (g + x - 1) x l (omega arith) (omega arith),
          same_even p zero_word (i ∙ sym (length-replicate g 0)),
          same_even r zero_word (k ∙ sym (length-replicate g 0)),
          and-true (same_word r zero_word),
        )
        refl

  abbrev fills_rows : List AnswerRow
  fills_rows = line 0 2 u 0 ∷ line 0 0 g 0 ∷ line 0 2 v 1 ∷ line 1 0 g 0 ∷ line 1 2 x 2 ∷ []

  fills_cut : WellCut fills_rows three
  unfolding home_row least tally
  fills_cut = record { fine = fine; apart = apart }
    where
      fine : (k : ℕ) → k < 5 → Fine fills_rows three k
      fine zero l = fresh_piece refl refl refl
      fine (suc zero) l = zeros refl refl
      fine (suc (suc zero)) l = fresh_piece refl refl refl
      fine (suc (suc (suc zero))) l = zeros refl refl
      fine (suc (suc (suc (suc zero)))) l = fresh_piece refl refl refl
      fine (suc (suc (suc (suc (suc k))))) l = absurd (omega arith)

      apart : (k : ℕ) → suc k < 5 → OneVariable fills_rows k → Apart fills_rows k
      apart zero l e = kinds (λ h. omega arith)
      apart (suc zero) l e = kinds (λ h. omega arith)
      apart (suc (suc zero)) l e = absurd (omega arith)
      apart (suc (suc (suc zero))) l e = kinds (λ h. omega arith)
      apart (suc (suc (suc (suc k)))) l e = absurd (omega arith)

  fills_bits : bits_of (rows_of fills_table) ≡ u + g + v + (g + x + 0)
  unfolding satisfies_computed
  fills_bits = refl

  fills_widths : variable_widths (rows_of fills_table) ≡ (u + g + v) ∷ (g + x) ∷ []
  unfolding satisfies_computed variable_widths
  fills_widths = refl

  fills_patterns : Patterns (rows_of fills_table) fills_rows three
  unfolding pattern_of row_word
  fills_patterns = record { passes = passes; reaches = reaches }
    where
      together : (o q s : List ℕ) → (o ++ (zero_word ++ q)) ++ (zero_word ++ s) ≡ o ++ (zero_word ++ (q ++ (zero_word ++ (s ++ []))))
      together o q s =
          append_assoc o (zero_word ++ q) (zero_word ++ s)
          ∙ ap (λ (z : List ℕ). o ++ z) (append_assoc zero_word q (zero_word ++ s))
          ∙ ap (λ (z : List ℕ). o ++ (zero_word ++ (q ++ (zero_word ++ z)))) (sym (append-nil s))

      passes : (word : ℕ → List ℕ) → Sized three word
          → satisfies (rows_of fills_table) (word 0 ++ (zero_word ++ (word 1 ++ (zero_word ++ (word 2 ++ []))))) ≡ true
      passes word h =
          ap (satisfies (rows_of fills_table)) (sym (together (word 0) (word 1) (word 2)))
          ∙ fills_meets (word 0) zero_word (word 1) zero_word (word 2) (h 0) (length-replicate g 0) (h 1) (length-replicate g 0) (h 2)
          ∙ rw (word_same zero_word) refl

      sizes : (s t : Bool) (o q r : List ℕ) → length o ≡ u → length q ≡ v → length r ≡ x → length (cond s o (cond t q r)) ≡ cond s u (cond t v x)
      sizes true t o q r e f h = e
      sizes false true o q r e f h = f
      sizes false false o q r e f h = h

      reaches : (p : List ℕ) → length p ≡ bits_of (rows_of fills_table) → satisfies (rows_of fills_table) p ≡ true
          → (word : ℕ → List ℕ) × Sized three word × (p ≡ word 0 ++ (zero_word ++ (word 1 ++ (zero_word ++ (word 2 ++ [])))))
      reaches p n e =
          let w = two_words (u + g + v) (g + x) p (n ∙ fills_bits) in
          let f = three_words u g v w.0 (omega (arith, w.2)) in
          let s = two_words g x w.1 (omega (arith, w.3)) in
          let whole : p ≡ (f.0 ++ (f.1 ++ f.2)) ++ (s.0 ++ s.1) = w.4 ∙ ap₂ (λ (y z : List ℕ). y ++ z) f.6 s.4 in
          let h = and_parts (same_word f.1 zero_word) (same_word s.0 zero_word)
          (sym (fills_meets f.0 f.1 f.2 s.0 s.1 f.3 f.4 f.5 s.2 s.3) ∙ ap (satisfies (rows_of fills_table)) (sym whole) ∙ e) in (
            λ i. cond (eqb i 0) f.0 (cond (eqb i 1) f.2 s.1),
            λ i. sizes (eqb i 0) (eqb i 1) f.0 f.2 s.1 f.3 f.5 s.3,
            whole
                ∙ ap₂ (λ (y z : List ℕ). (f.0 ++ (y ++ f.2)) ++ (z ++ s.1)) (same-word f.1 zero_word h.0) (same-word s.0 zero_word h.1)
                ∙ together f.0 f.2 s.1,
          )

  pub two_fills_any : Holds (two_fills u g v x)
  unfolding numbers_computed
  two_fills_any =
      laid_holds fills_table fills_accepted fills_rows three fills_cut ((u + g + v) ∷ (g + x) ∷ []) fills_widths
      (more refl a (omega arith) (more refl b (omega arith) (last refl c (omega arith) (more refl b (omega arith) (last refl d (omega arith) none)))))
      fills_patterns
      5 3 (u + v + x) (g + g)
      (piece 0 2 u 0 0 (u + g + v - 1) ++ piece 0 0 g 0 0 (g + v - 1) ++ piece 0 2 v 1 0 (v - 1)
      ++ piece 1 0 g 0 1 (g + x - 1) ++ piece 1 2 x 2 1 (x - 1))
      refl refl (omega arith) (omega (arith, fills_bits)) (omega arith)
      (rw (e, f, h, i, j) refl)
    where
      e : u + (g + (v + 0)) - 1 ≡ u + g + v - 1
      e = omega arith

      f : g + (v + 0) - 1 ≡ g + v - 1
      f = omega arith

      h : v + 0 - 1 ≡ v - 1
      h = omega arith

      i : g + (x + 0) - 1 ≡ g + x - 1
      i = omega arith

      j : x + 0 - 1 ≡ x - 1
      j = omega arith
