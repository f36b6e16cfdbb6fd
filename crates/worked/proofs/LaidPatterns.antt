-- Rows that give just the patterns that meet a table, a word for each fresh piece: what they say of ties and of fixed bits is what the
-- table says. So if they are cut and numbered by the rules they are its answer's rows. Assumes nothing.
use mathlib.Core.Path.{◌≡◌, refl, sym, ◌∙◌, ap, ap₂}
use mathlib.Core.Bool.{Bool, true, false, not, ◌&&◌, ◌||◌, cond, and-false}
use mathlib.Core.List.{List, [], ◌∷◌, ◌++◌}
use mathlib.Core.Logic.{◌⊎◌, inl, inr, ◌≢◌}
use Prim.Native.Nat.{ℕ, zero, suc, ◌+◌, ◌-◌, ◌≤◌, ◌<◌}
use native.Mathlib.Omega.{arith}
use lib.Dec.{eqb}
use lib.ListN.{length, get_or, replicate, length-append, length-replicate, get_or-replicate, get_or-append}
use lib.Seq.{get_or-append-add}
use borrow.Author.Tests.{eq-eqb, ne_eqb}
use Rattle.terms.specs.declared.Row.{Row}
use Rattle.terms.specs.Assignments.{Assignment}
use Rattle.terms.specs.Table.{bits_of, bit_of, satisfies}
use Rattle.terms.proofs.Assignments.{assignment_of, assignment_length}
use Rattle.laws.proofs.Bools.{one_most}
use Rattle.laws.proofs.Lists.{tab, tab_at, tab_length}
use Rattle.laws.proofs.Numbers.{dec_eq, eqb_turn}
use Rattle.answers.specs.declared.AnswerRow.{AnswerRow}
use Rattle.answers.specs.Answer.{variable_widths, tied, fixed_to, answer_row_at, is_fresh}
use Rattle.answers.specs.Pairs.{equal_under}
use Rattle.answers.specs.Solve.{solved_rows}
use Rattle.answers.proofs.Agreement.{place_bit, fixed-bit}
use Rattle.answers.proofs.Homes.{of_piece}
use Rattle.answers.proofs.Tables.{every_same}
use Rattle.worked.proofs.OneWord.{equal_in, unequal_at}
use Rattle.worked.proofs.LaidRows.{start_of, stands, Laid}
use Rattle.worked.proofs.LaidAnswer.{Fine, zeros, ones, fresh_piece, WellCut, SaidBy, laid_answer}

-- The bits of a row, where each fresh piece has a word; and of all rows.
unfoldable pub row_word : (ℕ → List ℕ) → AnswerRow → List ℕ
row_word word r = cond (is_fresh r) (word r.fresh) (replicate r.width r.kind)

unfoldable pub pattern_of : (ℕ → List ℕ) → List AnswerRow → List ℕ
pattern_of word [] = []
pattern_of word (r ∷ rows) = row_word word r ++ pattern_of word rows

-- Words of the widths of the fresh pieces.
abbrev pub Sized : (ℕ → ℕ) → (ℕ → List ℕ) → Type 0
Sized wide word = (f : ℕ) → length (word f) ≡ wide f

-- The patterns of the rows are those that meet a table.
pub record Patterns (t : List Row) (rows : List AnswerRow) (wide : ℕ → ℕ) : Type 0 where
  pub passes : (word : ℕ → List ℕ) → Sized wide word → satisfies t (pattern_of word rows) ≡ true
  pub reaches : (p : List ℕ) → length p ≡ bits_of t → satisfies t p ≡ true → (word : ℕ → List ℕ) × Sized wide word × (p ≡ pattern_of word rows)

-- a bit of the pattern is one of its row's
module _ (word : ℕ → List ℕ) where
  pattern_bit : (rows : List AnswerRow) → ((k : ℕ) → k < length rows → length (row_word word (answer_row_at rows k)) ≡ (answer_row_at rows k).width)
      → (k o : ℕ) → k < length rows → o < (answer_row_at rows k).width
      → get_or (pattern_of word rows) (start_of rows k + o) 0 ≡ get_or (row_word word (answer_row_at rows k)) o 0
  unfolding pattern_of start_of
  pattern_bit [] w k o l h = absurd (omega arith)
  pattern_bit (r ∷ rows) w zero o l h =
      let e : 0 + o ≡ o = omega arith in
      ap (λ (i : ℕ). get_or (row_word word r ++ pattern_of word rows) i 0) e
      ∙ get_or-append (row_word word r) (pattern_of word rows) 0 o (omega (arith, w 0 l))
  pattern_bit (r ∷ rows) w (suc k) o l h =
      let e : r.width + start_of rows k + o ≡ length (row_word word r) + (start_of rows k + o) = omega (arith, w 0 (omega arith)) in
      ap (λ (i : ℕ). get_or (row_word word r ++ pattern_of word rows) i 0) e
      ∙ get_or-append-add (row_word word r) (pattern_of word rows) (start_of rows k + o) 0
      ∙ pattern_bit rows (λ i q. w (suc i) (omega arith)) k o (omega arith) h

  pattern_length : (rows : List AnswerRow) → ((k : ℕ) → k < length rows → length (row_word word (answer_row_at rows k)) ≡ (answer_row_at rows k).width)
      → length (pattern_of word rows) ≡ start_of rows (length rows)
  unfolding pattern_of start_of
  pattern_length [] w = refl
  pattern_length (r ∷ rows) w =
      omega (
        arith,
        length-append (row_word word r) (pattern_of word rows),
        w 0 (omega arith),
        pattern_length rows (λ i q. w (suc i) (omega arith)),
      )

module _ (rows : List AnswerRow) (wide : ℕ → ℕ) (cut : WellCut rows wide) where
  abbrev at : ℕ → AnswerRow
  at k = answer_row_at rows k

  abbrev s : ℕ → ℕ
  s k = start_of rows k

  abbrev m : ℕ
  m = length rows

  word-length : (word : ℕ → List ℕ) → Sized wide word → (k : ℕ) → k < m → length (row_word word (at k)) ≡ (at k).width
  unfolding row_word
  word-length word h k l = go (cut.fine k l)
    where
      go : Fine rows wide k → length (cond (is_fresh (at k)) (word (at k).fresh) (replicate (at k).width (at k).kind)) ≡ (at k).width
      go (zeros e f) = rw e (length-replicate (at k).width 0)
      go (ones e f) = rw e (length-replicate (at k).width 1)
      go (fresh_piece e w f) = rw e (h (at k).fresh ∙ sym w)

  bit_is : (word : ℕ → List ℕ) → Sized wide word → (k o : ℕ) → k < m → o < (at k).width
      → get_or (pattern_of word rows) (s k + o) 0 ≡ cond (is_fresh (at k)) (get_or (word (at k).fresh) o 0) (at k).kind
  bit_is word h k o l q = pattern_bit word rows (word-length word h) k o l q ∙ unfold row_word in (go (is_fresh (at k)))
    where
      go : (b : Bool)
          → get_or (cond b (word (at k).fresh) (replicate (at k).width (at k).kind)) o 0 ≡ cond b (get_or (word (at k).fresh) o 0) (at k).kind
      go true = refl
      go false = get_or-replicate (at k).width o (at k).kind 0 q

  -- The pattern in which bit o of fresh piece f is φ f o.
  abbrev pub words : (ℕ → ℕ → ℕ) → ℕ → List ℕ
  words φ f = tab (wide f) (φ f)

  pub sized : (φ : ℕ → ℕ → ℕ) → Sized wide (words φ)
  sized φ f = tab_length (wide f) (φ f)

  given : (φ : ℕ → ℕ → ℕ) (k o : ℕ) → k < m → o < (at k).width
      → get_or (pattern_of (words φ) rows) (s k + o) 0 ≡ cond (is_fresh (at k)) (φ (at k).fresh o) (at k).kind
  given φ k o l h = bit_is (words φ) (sized φ) k o l h ∙ go (cut.fine k l)
    where
      go : Fine rows wide k → cond (is_fresh (at k)) (get_or (words φ (at k).fresh) o 0) (at k).kind ≡ cond (is_fresh (at k)) (φ (at k).fresh o) (at k).kind
      go (zeros e f) = rw e refl
      go (ones e f) = rw e refl
      go (fresh_piece e w f) = rw e (tab_at (wide (at k).fresh) (φ (at k).fresh) o (omega (arith, w)))

  pub given_bits : (φ : ℕ → ℕ → ℕ) → ((f o : ℕ) → φ f o ≤ 1) → Assignment (s m) (pattern_of (words φ) rows)
  given_bits φ h =
      assignment_of (s m) (pattern_of (words φ) rows) (pattern_length (words φ) rows (word-length (words φ) (sized φ)))
      (λ i l. let st = stands rows m i (omega arith) l in rw (st.place, given φ st.row st.offset st.below st.within) (go st.row st.offset (cut.fine st.row st.below)))
    where
      go : (k o : ℕ) → Fine rows wide k → cond (is_fresh (at k)) (φ (at k).fresh o) (at k).kind ≤ 1
      go k o (zeros e f) = rw e (omega arith)
      go k o (ones e f) = rw e (omega arith)
      go k o (fresh_piece e w f) = rw e (h (at k).fresh o)

  module _ (t : List Row) (bits : s m ≡ bits_of t) (patterns : Patterns t rows wide) where
    abbrev n : ℕ
    n = bits_of t

    abbrev same : ℕ → ℕ → Bool
    same = equal_under n (satisfies t)

    -- the bits of a pattern that meets the table
    read : (p : List ℕ) → Assignment n p → satisfies t p ≡ true
        → (word : ℕ → List ℕ) × ((k o : ℕ) → k < m → o < (at k).width → get_or p (s k + o) 0 ≡ cond (is_fresh (at k)) (get_or (word (at k).fresh) o 0) (at k).kind)
    read p a e =
        let r = patterns.reaches p (assignment_length a) e in
        (r.0, λ k o l h. ap (λ (q : List ℕ). get_or q (s k + o) 0) r.2 ∙ bit_is r.0 r.1 k o l h)

    -- places are unequal by a pattern of the rows
    unequal : (φ : ℕ → ℕ → ℕ) → ((f o : ℕ) → φ f o ≤ 1) → (x y : ℕ)
        → bit_of (pattern_of (words φ) rows) x ≢ bit_of (pattern_of (words φ) rows) y → same x y ≡ false
    unequal φ h x y d =
        unequal_at n (satisfies t) x y (pattern_of (words φ) rows) (rw (← bits) (given_bits φ h)) (patterns.passes (words φ) (sized φ)) d

    fixed : (k o b : ℕ) → k < m → o < (at k).width → b ≤ 1 → fixed_to same (s k + o) b ≡ eqb (at k).kind b
    unfolding bit_of
    fixed k o b l h q = go (cut.fine k l)
      where
        i : ℕ
        i = s k + o

        shown : (φ : ℕ → ℕ → ℕ) (x : ℕ) → cond (is_fresh (at k)) (φ (at k).fresh o) (at k).kind ≡ x → x ≢ b
            → bit_of (pattern_of (words φ) rows) (suc (suc i)) ≢ bit_of (pattern_of (words φ) rows) b
        shown φ x e d c = d (sym (place_bit (pattern_of (words φ) rows) i ∙ given φ k o l h ∙ e) ∙ c ∙ fixed-bit (pattern_of (words φ) rows) b q)

        fill : is_fresh (at k) ≡ false → ((at k).kind ≡ b) ⊎ ((at k).kind ≢ b) → fixed_to same i b ≡ eqb (at k).kind b
        fill f (inl e) =
            equal_in n (satisfies t) (suc (suc i)) b (λ p a met. place_bit p i ∙ (read p a met).1 k o l h ∙ rw f e ∙ sym (fixed-bit p b q))
            ∙ sym (eq-eqb (at k).kind b e)
        fill f (inr d) =
            unequal (λ f o. 0) (λ f o. omega arith) (suc (suc i)) b (shown (λ f o. 0) (at k).kind (rw f refl) d) ∙ sym (ne_eqb (at k).kind b d)

        go : Fine rows wide k → fixed_to same i b ≡ eqb (at k).kind b
        go (zeros e f) = fill (rw e refl) (dec_eq (at k).kind b)
        go (ones e f) = fill (rw e refl) (dec_eq (at k).kind b)
        go (fresh_piece e w f) =
            unequal (λ f o. 1 - b) (λ f o. omega arith) (suc (suc i)) b (shown (λ f o. 1 - b) (1 - b) (rw e refl) (λ c. omega arith))
            ∙ sym (ne_eqb (at k).kind b (λ c. omega arith))

    joint : (k o j q : ℕ) → k < m → o < (at k).width → j < m → q < (at j).width → is_fresh (at k) ≡ true
        → tied same (s k + o) (s j + q) ≡ of_piece rows k j && eqb q o
    unfolding bit_of
    joint k o j q l h lj hq f = go (is_fresh (at j)) refl (dec_eq (at j).fresh (at k).fresh) (dec_eq q o)
      where
        x : ℕ
        x = s k + o

        y : ℕ
        y = s j + q

        -- 1 at bit o of the piece of row k alone
        φ : ℕ → ℕ → ℕ
        φ g u = cond (eqb g (at k).fresh && eqb u o) 1 0

        φ-bit : (g u : ℕ) → φ g u ≤ 1
        φ-bit g u = one_most (eqb g (at k).fresh && eqb u o)

        shown : (φ : ℕ → ℕ → ℕ) (c d : ℕ) → φ (at k).fresh o ≡ c → cond (is_fresh (at j)) (φ (at j).fresh q) (at j).kind ≡ d → c ≢ d
            → bit_of (pattern_of (words φ) rows) (suc (suc x)) ≢ bit_of (pattern_of (words φ) rows) (suc (suc y))
        shown φ c d a b e z =
            e (sym (place_bit (pattern_of (words φ) rows) x ∙ given φ k o l h ∙ rw f a) ∙ z ∙ place_bit (pattern_of (words φ) rows) y ∙ given φ j q lj hq ∙ b)

        here : φ (at k).fresh o ≡ 1
        here = rw (eq-eqb (at k).fresh (at k).fresh refl, eq-eqb o o refl) refl

        go : (b : Bool) → is_fresh (at j) ≡ b → ((at j).fresh ≡ (at k).fresh) ⊎ ((at j).fresh ≢ (at k).fresh) → (q ≡ o) ⊎ (q ≢ o)
            → tied same x y ≡ b && eqb (at j).fresh (at k).fresh && eqb q o
        go true g (inl e) (inl d) =
            equal_in n (satisfies t) (suc (suc x)) (suc (suc y))
            (λ p a met.
            let r = read p a met in
            let left : get_or p x 0 ≡ get_or (r.0 (at k).fresh) o 0 = r.1 k o l h ∙ rw f refl in
            let right : get_or p y 0 ≡ get_or (r.0 (at j).fresh) q 0 = r.1 j q lj hq ∙ rw g refl in
            place_bit p x ∙ left ∙ ap₂ (λ (u v : ℕ). get_or (r.0 u) v 0) (sym e) (sym d) ∙ sym right ∙ sym (place_bit p y))
            ∙ rw (eq-eqb (at j).fresh (at k).fresh e, eq-eqb q o d) refl
        go true g (inl e) (inr d) =
            unequal φ φ-bit (suc (suc x)) (suc (suc y))
            (shown φ 1 0 here (rw (g, ne_eqb q o d) (ap (λ (b : Bool). cond {A = ℕ} b 1 0) (and-false (eqb (at j).fresh (at k).fresh)))) (λ z. omega arith))
            ∙ rw (ne_eqb q o d) (sym (and-false (eqb (at j).fresh (at k).fresh)))
        go true g (inr e) d =
            unequal φ φ-bit (suc (suc x)) (suc (suc y)) (shown φ 1 0 here (rw (g, ne_eqb (at j).fresh (at k).fresh e) refl) (λ z. omega arith))
            ∙ rw (ne_eqb (at j).fresh (at k).fresh e) refl
        go false g e d =
            unequal (λ g u. 1 - (at j).kind) (λ g u. omega arith) (suc (suc x)) (suc (suc y))
            (shown (λ g u. 1 - (at j).kind) (1 - (at j).kind) (at j).kind refl (rw g refl) (λ z. omega (arith, z)))

    turned : (i j : ℕ) → tied same i j ≡ tied same j i
    unfolding equal_under
    turned i j =
        every_same n (λ p. not (satisfies t p) || eqb (bit_of p (suc (suc i))) (bit_of p (suc (suc j))))
        (λ p. not (satisfies t p) || eqb (bit_of p (suc (suc j))) (bit_of p (suc (suc i))))
        (λ p a. ap (λ (b : Bool). not (satisfies t p) || b) (eqb_turn (bit_of p (suc (suc i))) (bit_of p (suc (suc j)))))

    said : SaidBy rows same
    said = record { fixed = fixed; joint = joint; turned = turned }

    -- The rows are the answer's.
    pub answer_is : Laid 0 0 rows (variable_widths t) → solved_rows t ≡ rows
    unfolding solved_rows
    answer_is laid = laid_answer rows wide cut (variable_widths t) laid n bits same said
