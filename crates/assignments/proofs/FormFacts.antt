-- What the form says of the rows of a table, by their numbers: their variables do not fall, they are at most 4,096 and so are their bits, their
-- fresh numbers are those below a bound and each is at most the next, and a fresh piece has one width. So they are orderly. Assumes nothing.
use mathlib.Core.Path.{◌≡◌, refl, sym, ap, ◌∙◌, subst}
use mathlib.Core.Logic.{◌⊎◌, inl, inr}
use mathlib.Core.Bool.{Bool, true, false, ◌&&◌, ◌||◌, cond}
use mathlib.Core.List.{List, [], ◌∷◌, ◌++◌, append-nil}
use Prim.Native.Nat.{ℕ, suc, ◌+◌, ◌%◌, ◌≤◌, ◌<◌}
use native.Mathlib.Omega.{arith}
use lib.Dec.{eqb, ltb}
use lib.ListN.{length, drop, length-append, get_or-append}
use lib.Seq.{get_or-append_seam, append_snoc}
use borrow.Author.Tests.{eqb-true, ltb-true}
use Rattle.laws.proofs.Bools.{and_first, and_parts, clash}
use Rattle.laws.proofs.Numbers.{lt_or_le, below-or_at}
use Rattle.terms.proofs.Satisfies.{same-word}
use Rattle.answers.specs.declared.AnswerRow.{AnswerRow}
use Rattle.answers.specs.Answer.{no_answer_row, answer_row_at, is_fresh, fresh_width, fresh_start, free_bits, width_in_rows, answer_numbers, answer_rows_of}
use Rattle.answers.specs.inner.Orderly.{Ordered, Orderly}
use Rattle.answers.proofs.AnswerNumbers.{rows_back}
use Rattle.assignments.specs.Form.{variable_fine, kind_fine, width_fine, variable_wide, pattern_bits, pattern_wide, fill_fine, neighbours_fine, fresh_fine, row_fine, rows_fine, homes_fine, has_form}
use Rattle.assignments.proofs.FreshPieces.{number_in, number_of_row, starts_rise, Below, none_below, pieces_below, number_most, below_more, kept_width, own_width}
use Rattle.assignments.proofs.Turning.{variable_after}
use Rattle.assignments.proofs.VariableBits.{bits_append, bits_parts, in_variable}

-- what is said of each row before and of the next is said of each of them
module _ (P : AnswerRow → Type 0) (before : List AnswerRow) (r : AnswerRow) where
  each_more : ((j : ℕ) → j < length before → P (answer_row_at before j)) → P r → (j : ℕ) → j < length (before ++ (r ∷ [])) → P (answer_row_at (before ++ (r ∷ [])) j)
  each_more h q j l = go (below-or_at j (length before) (omega (arith, length-append before (r ∷ []))))
    where
      go : (j < length before) ⊎ (j ≡ length before) → P (answer_row_at (before ++ (r ∷ [])) j)
      go (inl k) = subst P (sym (get_or-append before (r ∷ []) no_answer_row j k)) (h j k)
      go (inr e) = subst P (sym (ap (answer_row_at (before ++ (r ∷ []))) e ∙ get_or-append_seam before r [] no_answer_row)) q

-- What is known of rows that have the form so far.
pub record Formed (rows : List AnswerRow) : Type 0 where
  pub seen : ℕ
  pub numbers : Below seen rows
  pub widths : (j : ℕ) → j < length rows → is_fresh (answer_row_at rows j) ≡ true → fresh_width rows (answer_row_at rows j).fresh ≡ (answer_row_at rows j).width
  pub wide : (j : ℕ) → j < length rows → 1 ≤ (answer_row_at rows j).width
  pub few_rows : length rows ≤ pattern_bits rows
  pub few_bits : pattern_bits rows ≤ 4096
  pub top : ℕ
  pub under : (j : ℕ) → j < length rows → (answer_row_at rows j).variable ≤ top
  pub over : (r : AnswerRow) → variable_fine rows r ≡ true → top ≤ r.variable
  pub ordered : Ordered rows
  pub numbered : (j n : ℕ) → j < length rows → is_fresh (answer_row_at rows j) ≡ true
      → ((i : ℕ) → i < j → is_fresh (answer_row_at rows i) ≡ true → (answer_row_at rows i).fresh < n) → (answer_row_at rows j).fresh ≤ n

pub formed_none : Formed []
unfolding pattern_bits
formed_none =
    record {
      seen = 0;
      numbers = none_below;
      widths = λ j l f. absurd (omega arith);
      wide = λ j l. absurd (omega arith);
      few_rows = omega arith;
      few_bits = omega arith;
      top = 0;
      under = λ j l. absurd (omega arith);
      over = λ r q. omega arith;
      ordered = λ i j a b. absurd (omega arith);
      numbered = λ j n l f h. absurd (omega arith);
    }

-- The clauses that are used of a fine row.
pub record Clauses (before : List AnswerRow) (r : AnswerRow) : Type 0 where
  pub variable-fine : variable_fine before r ≡ true
  pub wide : 1 ≤ r.width
  pub in_variable : width_in_rows before r.variable + r.width ≤ 1024
  pub in_pattern : pattern_bits before + r.width ≤ 4096
  pub fresh-fine : fresh_fine before r ≡ true

pub clauses : (before : List AnswerRow) (r : AnswerRow) → row_fine before r ≡ true → Clauses before r
unfolding row_fine width_fine variable_wide pattern_wide
clauses before r h =
    let a = and_parts _ (fresh_fine before r) h in
    let b = and_parts _ (neighbours_fine before r) a.0 in
    let c = and_parts _ (fill_fine r) b.0 in
    let d = and_parts _ (ltb (pattern_bits before + r.width) 4097) c.0 in
    let e = and_parts _ (ltb (width_in_rows before r.variable + r.width) 1025) d.0 in
    let f = and_parts _ (ltb 0 r.width) e.0 in
    let g = and_parts (variable_fine before r) (kind_fine r) f.0 in
    record {
      variable-fine = g.0;
      wide = ltb-true 0 r.width f.1;
      in_variable = omega (arith, ltb-true (width_in_rows before r.variable + r.width) 1025 e.1);
      in_pattern = omega (arith, ltb-true (pattern_bits before + r.width) 4097 d.1);
      fresh-fine = a.1;
    }

-- A fine row more.
module _ (before : List AnswerRow) (r : AnswerRow) (fine : row_fine before r ≡ true) (F : Formed before) where
  abbrev more : List AnswerRow
  more = before ++ (r ∷ [])

  C : Clauses before r
  C = clauses before r fine

  long : length more ≡ suc (length before)
  long = length-append before (r ∷ []) ∙ omega arith

  bits_are : pattern_bits more ≡ pattern_bits before + r.width
  bits_are = bits_append before (r ∷ []) ∙ unfold pattern_bits in omega arith

  old : (j : ℕ) → j < length before → answer_row_at more j ≡ answer_row_at before j
  old j l = get_or-append before (r ∷ []) no_answer_row j l

  last : (j : ℕ) → j ≡ length before → answer_row_at more j ≡ r
  last j e = ap (answer_row_at more) e ∙ get_or-append_seam before r [] no_answer_row

  pub formed_more : Formed (before ++ (r ∷ []))
  formed_more =
      record {
        seen = F.seen + cond (is_fresh r && eqb r.fresh F.seen) 1 0;
        numbers = below_more F.seen before F.numbers r C.fresh-fine;
        widths = each_more (λ (x : AnswerRow). is_fresh x ≡ true → fresh_width more x.fresh ≡ x.width) before r kept_widths
            (own_width F.seen before F.numbers r C.fresh-fine);
        wide = each_more (λ (x : AnswerRow). 1 ≤ x.width) before r F.wide C.wide;
        few_rows = omega (arith, F.few_rows, C.wide, long, bits_are);
        few_bits = omega (arith, C.in_pattern, bits_are);
        top = r.variable;
        under = under_more;
        over = λ s h. follows s (and_first _ (ltb s.variable 64) (sym (variable_after before r s) ∙ h));
        ordered = λ i j a b. in_order i j a (below-or_at j (length before) (omega (arith, long)));
        numbered = λ j n l f h. number_at j n f h (below-or_at j (length before) (omega (arith, long)));
      }
    where
      kept_widths : (j : ℕ) → j < length before → is_fresh (answer_row_at before j) ≡ true → fresh_width more (answer_row_at before j).fresh ≡ (answer_row_at before j).width
      kept_widths j l f =
          kept_width F.seen before F.numbers r C.fresh-fine (answer_row_at before j).fresh (F.numbers.only (answer_row_at before j).fresh (number_in before j l f))
          ∙ F.widths j l f

      last_over : F.top ≤ r.variable
      last_over = F.over r C.variable-fine

      under_more : (j : ℕ) → j < length more → (answer_row_at more j).variable ≤ r.variable
      under_more = each_more (λ (x : AnswerRow). x.variable ≤ r.variable) before r (λ j l. omega (arith, F.under j l, last_over)) (omega arith)

      follows : (s : AnswerRow) → eqb s.variable r.variable || eqb s.variable (suc r.variable) ≡ true → r.variable ≤ s.variable
      follows s h = go (eqb s.variable r.variable) (eqb s.variable (suc r.variable)) refl refl h
        where
          go : (a b : Bool) → eqb s.variable r.variable ≡ a → eqb s.variable (suc r.variable) ≡ b → a || b ≡ true → r.variable ≤ s.variable
          go true b p q e = omega (arith, eqb-true s.variable r.variable p)
          go false true p q e = omega (arith, eqb-true s.variable (suc r.variable) q)
          go false false p q e = clash false e refl

      in_order : (i j : ℕ) → i ≤ j → (j < length before) ⊎ (j ≡ length before) → (answer_row_at more i).variable ≤ (answer_row_at more j).variable
      in_order i j a (inl k) = rw (old i (omega arith), old j k) (F.ordered i j a k)
      in_order i j a (inr e) = rw (last j e) (under_more i (omega (arith, long)))

      -- the numbers before the row are below n, so the bound of these is at most n
      bound : (n : ℕ) → ((i : ℕ) → i < length before → is_fresh (answer_row_at before i) ≡ true → (answer_row_at before i).fresh < n) → F.seen ≤ n
      bound n h = go (lt_or_le n F.seen)
        where
          go : (n < F.seen) ⊎ (F.seen ≤ n) → F.seen ≤ n
          go (inl l) = let z : n < n = number_of_row before (λ (k : ℕ). k < n) h n (F.numbers.there n l) in absurd (omega arith)
          go (inr l) = l

      number_at : (j n : ℕ) → is_fresh (answer_row_at more j) ≡ true → ((i : ℕ) → i < j → is_fresh (answer_row_at more i) ≡ true → (answer_row_at more i).fresh < n)
          → (j < length before) ⊎ (j ≡ length before) → (answer_row_at more j).fresh ≤ n
      number_at j n f h (inl k) =
          rw (old j k)
          (F.numbered j n k (rw (old j k) at f) (λ i l g. rw (old i (omega arith)) at (h i l (rw (old i (omega arith)) g))))
      number_at j n f h (inr e) =
          rw (last j e)
          (omega (
            arith,
            number_most F.seen before F.numbers r C.fresh-fine (rw (last j e) at f),
            bound n (λ i l g. rw (old i l) at (h i (omega arith) (rw (old i l) g))),
          ))

-- Rows of the form.
formed_on : (rows before : List AnswerRow) → Formed before → rows_fine before rows ≡ true → Formed (before ++ rows)
unfolding rows_fine
formed_on [] before F h = rw (append-nil before) F
formed_on (r ∷ rows) before F h =
    let p = and_parts (row_fine before r) (rows_fine (before ++ (r ∷ [])) rows) h in
    rw (append_snoc before r rows) at (formed_on rows (before ++ (r ∷ [])) (formed_more before r p.0 F) p.1)

pub formed_rows : (rows : List AnswerRow) → rows_fine [] rows ≡ true → Formed rows
formed_rows rows h = formed_on rows [] formed_none h

module _ (rows : List AnswerRow) (F : Formed rows) where
  -- the bits of a fresh piece are among the fresh bits
  pub free_are : free_bits rows ≡ fresh_start rows F.seen
  unfolding free_bits
  free_are = ap (fresh_start rows) (pieces_below F.seen rows F.numbers)

  pub piece_within : (j : ℕ) → j < length rows → is_fresh (answer_row_at rows j) ≡ true
      → fresh_start rows (answer_row_at rows j).fresh + (answer_row_at rows j).width ≤ free_bits rows
  piece_within j l e =
      let n = (answer_row_at rows j).fresh in
      omega (arith, starts_rise rows n F.seen (F.numbers.only n (number_in rows j l e)), F.widths j l e, free_are)

  -- They are orderly.
  pub orderly : Orderly rows
  orderly =
      record {
        few = omega (arith, F.few_rows, F.few_bits);
        rising = F.ordered;
        short = λ j v. omega (arith, in_variable (drop j rows) v, bits_parts j rows, F.few_bits);
        numbered = F.numbered;
      }

-- What the form says of the numbers.
pub record Parts (t : List ℕ) : Type 0 where
  pub rows-fine : rows_fine [] (answer_rows_of t) ≡ true
  pub numbers_are : answer_numbers (answer_rows_of t) ≡ t

pub parts : (t : List ℕ) → has_form t ≡ true → Parts t
unfolding has_form homes_fine
parts t h =
    let a = and_parts (eqb (length t % 6) 0 && rows_fine [] (answer_rows_of t)) (homes_fine t) h in
    let b = and_parts (eqb (length t % 6) 0) (rows_fine [] (answer_rows_of t)) a.0 in
    record { rows-fine = b.1; numbers_are = same-word (answer_numbers (answer_rows_of t)) t a.1 }

-- Rows whose numbers have the form are orderly.
pub orderly_written : (rows : List AnswerRow) → has_form (answer_numbers rows) ≡ true → Orderly rows
orderly_written rows h = orderly rows (formed_rows rows (ap (rows_fine []) (sym (rows_back rows)) ∙ (parts (answer_numbers rows) h).rows-fine))
