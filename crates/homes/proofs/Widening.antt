-- Rows of four numbers widened to six from the last one back: those before row i stand as they stood, those from it on have six numbers.
use mathlib.Core.Path.{◌≡◌, refl, sym, ◌∙◌, ap, subst}
use mathlib.Core.Logic.{◌⊎◌, inl, inr}
use mathlib.Core.List.{List}
use Prim.Native.Nat.{ℕ, suc, ◌+◌, ◌-◌, ◌*◌, ◌≤◌, ◌<◌}
use native.Mathlib.Omega.{arith}
use lib.ListN.{length, get_or, drop}
use Rattle.laws.proofs.Numbers.{at_or_after}
use Rattle.answers.specs.declared.AnswerRow.{AnswerRow}
use Rattle.answers.specs.Answer.{answer_row_at, width_in_rows, high_bit}
use Rattle.answers.specs.inner.Orderly.{Orderly}
use Rattle.answers.specs.inner.FourNumbers.{answer_columns}
use Rattle.homes.specs.inner.Homes.{width_on, row_put, Widens}
use Rattle.homes.proofs.Stores.{same_columns, kept_columns, put_kept, put_columns, put_home, put_high}
use Rattle.homes.proofs.Widths.{width_next, high_next, none_passed}

-- What is known of rows with i of them still to be widened.
pub record Wide (rows : List AnswerRow) (t₀ t : List ℕ) (passed variable i : ℕ) : Type 0 where
  pub unread : (x : ℕ) → x < i * 4 → get_or t x 0 ≡ get_or t₀ x 0
  pub rows_are : (j : ℕ) → i ≤ j → j < length rows → answer_columns t (j * 6) ≡ answer_row_at rows j
  pub homes_are : (j : ℕ) → i ≤ j → j < length rows → get_or t (j * 6 + 4) 0 ≡ (answer_row_at rows j).variable
  pub highs_are : (j : ℕ) → i ≤ j → j < length rows → get_or t (j * 6 + 5) 0 ≡ high_bit rows j
  pub behind : (x : ℕ) → length rows * 6 ≤ x → get_or t x 0 ≡ get_or t₀ x 0
  pub width_is : passed ≡ width_in_rows (drop i rows) variable
  pub variable_is : i < length rows → variable ≡ (answer_row_at rows i).variable

pub record Widening (n : ℕ) (t₀ t : List ℕ) (passed variable i : ℕ) : Type 0 where
  pub within : i ≤ n
  pub len : length t ≡ length t₀
  pub going : (rows : List AnswerRow) → n ≡ length rows → Orderly rows → n * 6 ≤ length t₀
      → ((j : ℕ) → j < n → answer_columns t₀ (j * 4) ≡ answer_row_at rows j) → Wide rows t₀ t passed variable i

pub widening_first : (n : ℕ) (t : List ℕ) → Widening n t t 0 0 n
widening_first n t =
    record {
      within = omega arith;
      len = refl;
      going = λ rows e o room four.
          record {
            unread = λ x l. refl;
            rows_are = λ j l h. absurd (omega arith);
            homes_are = λ j l h. absurd (omega arith);
            highs_are = λ j l h. absurd (omega arith);
            behind = λ x l. refl;
            width_is = none_passed rows n 0 e;
            variable_is = λ l. absurd (omega arith);
          };
    }

-- one row more
module _ (rows : List AnswerRow) (o : Orderly rows) (t₀ t : List ℕ) (passed variable i : ℕ) (k : Wide rows t₀ t passed variable (suc i)) (l : i < length rows)
    (room : length rows * 6 ≤ length t) (four : answer_columns t₀ (i * 4) ≡ answer_row_at rows i) where
  row_read : answer_columns t (i * 4) ≡ answer_row_at rows i
  row_read =
      same_columns t (i * 4) (answer_columns t₀ (i * 4)) (k.unread (i * 4) (omega arith)) (k.unread (i * 4 + 1) (omega arith)) (k.unread (i * 4 + 2) (omega arith))
      (k.unread (i * 4 + 3) (omega arith))
      ∙ four

  pub wide_more : (r : AnswerRow) → r ≡ answer_columns t (i * 4) → (passed' : ℕ) → passed' ≡ width_on passed variable r → (high : ℕ) → high ≡ passed' - 1
      → Wide rows t₀ (row_put t i r high) passed' r.variable i
  wide_more r er passed' ep high eh =
      record {
        unread = λ x q. put_kept t i r high x (inl (omega arith)) ∙ k.unread x (omega arith);
        rows_are = λ j q h. rows_at j h (at_or_after i j q);
        homes_are = λ j q h. homes_at j h (at_or_after i j q);
        highs_are = λ j q h. highs_at j h (at_or_after i j q);
        behind = λ x q. put_kept t i r high x (inr (omega arith)) ∙ k.behind x q;
        width_is = width ∙ ap (λ (x : AnswerRow). width_in_rows (drop i rows) x.variable) (sym row);
        variable_is = λ q. ap (λ (x : AnswerRow). x.variable) row;
      }
    where
      row : r ≡ answer_row_at rows i
      row = er ∙ row_read

      width : passed' ≡ width_in_rows (drop i rows) (answer_row_at rows i).variable
      width = ep ∙ ap (width_on passed variable) row ∙ width_next rows o i l passed variable k.width_is k.variable_is

      fits : i * 6 + 6 ≤ length t
      fits = omega arith

      rows_at : (j : ℕ) → j < length rows → (j ≡ i) ⊎ (suc i ≤ j) → answer_columns (row_put t i r high) (j * 6) ≡ answer_row_at rows j
      rows_at j h (inl e) = rw e (put_columns t i r high fits ∙ row)
      rows_at j h (inr q) = kept_columns t (row_put t i r high) (i * 6) 6 (j * 6) (put_kept t i r high) (inr (omega arith)) ∙ k.rows_are j q h

      homes_at : (j : ℕ) → j < length rows → (j ≡ i) ⊎ (suc i ≤ j) → get_or (row_put t i r high) (j * 6 + 4) 0 ≡ (answer_row_at rows j).variable
      homes_at j h (inl e) = rw e (put_home t i r high fits ∙ ap (λ (x : AnswerRow). x.variable) row)
      homes_at j h (inr q) = put_kept t i r high (j * 6 + 4) (inr (omega arith)) ∙ k.homes_are j q h

      highs_at : (j : ℕ) → j < length rows → (j ≡ i) ⊎ (suc i ≤ j) → get_or (row_put t i r high) (j * 6 + 5) 0 ≡ high_bit rows j
      highs_at j h (inl e) = rw e (put_high t i r high fits ∙ high_next rows o i l passed' width high eh)
      highs_at j h (inr q) = put_kept t i r high (j * 6 + 5) (inr (omega arith)) ∙ k.highs_are j q h

module _ (n : ℕ) (t₀ t : List ℕ) (passed variable i : ℕ) (k : Widening n t₀ t passed variable i) where
  pub widening_more : 0 < i → (r : AnswerRow) → r ≡ answer_columns t ((i - 1) * 4) → (passed' : ℕ) → passed' ≡ width_on passed variable r
      → (high : ℕ) → high ≡ passed' - 1 → (t' : List ℕ) → length t' ≡ length t → t' ≡ row_put t (i - 1) r high
      → Widening n t₀ t' passed' r.variable (i - 1)
  widening_more pos r er passed' ep high eh t' lt et =
      record {
        within = omega (arith, k.within);
        len = lt ∙ k.len;
        going = λ rows e o room four.
            let s : i ≡ suc (i - 1) = omega arith in
            let w : Wide rows t₀ t passed variable (suc (i - 1)) = subst (λ (x : ℕ). Wide rows t₀ t passed variable x) s (k.going rows e o room four) in
            rw et
            (wide_more rows o t₀ t passed variable (i - 1) w (omega (arith, k.within)) (omega (arith, k.len)) (four (i - 1) (omega (arith, k.within))) r er passed' ep high eh);
      }

  pub widening_done : i ≤ 0 → Widens n t₀ t
  widening_done l rows e o room four =
      let w = k.going rows e o room four in
      record {
        len = k.len;
        rows_are = λ j h. w.rows_are j (omega arith) h;
        homes_are = λ j h. w.homes_are j (omega arith) h;
        highs_are = λ j h. w.highs_are j (omega arith) h;
        behind = w.behind;
      }
