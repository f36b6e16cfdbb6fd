-- The test of homes is the form's: home and high bit of every row are right exactly if the numbers are those with which the rows are written.
use mathlib.Core.Path.{◌≡◌, refl, sym, ◌∙◌, ap}
use mathlib.Core.Bool.{Bool, true, ◌&&◌}
use mathlib.Core.List.{List, []}
use Prim.Native.Nat.{ℕ, ◌+◌, ◌*◌, ◌%◌, ◌≤◌}
use native.Mathlib.Omega.{arith}
use lib.Dec.{eqb}
use lib.ListN.{length, get_or}
use borrow.Author.Tests.{eqb-true}
use Rattle.laws.proofs.Bools.{and_parts, same_test}
use Rattle.laws.proofs.Buffers.{overwrite_whole}
use Rattle.terms.proofs.Satisfies.{same-word, word_same}
use Rattle.answers.specs.Answer.{answer_rows_of, answer_numbers, answer_row_numbers, home_row}
use Rattle.answers.proofs.AnswerNumbers.{answer_length, answer-columns, numbers_length, number_at}
use Rattle.assignments.specs.Form.{rows_fine, homes_fine}
use Rattle.assignments.proofs.FormFacts.{formed_rows, orderly}
use Rattle.homes.specs.inner.Homes.{Standing, Right, TellsRight, TestsHomes}
use Rattle.homes.proofs.Tables.{standing_written}

module _ (t : List ℕ) (whole : length t % 6 ≡ 0) where
  rows_long : length (answer_rows_of t) * 6 ≡ length t
  rows_long = omega (arith, answer_length t)

  right_written : Right (answer_rows_of t) t → answer_numbers (answer_rows_of t) ≡ t
  right_written R =
      let s : Standing (answer_rows_of t) (home_row (answer_rows_of t)) t t =
      record {
        len = refl;
        rows_are = λ j l. answer-columns t j (omega (arith, answer_length t));
        homes_are = R.homes_are;
        highs_are = R.highs_are;
        behind = λ x l. refl;
      } in
      sym (standing_written (answer_rows_of t) t t s (omega (arith, rows_long)) ∙ overwrite_whole (answer_numbers (answer_rows_of t)) t (numbers_length (answer_rows_of t) ∙ rows_long))

  written_right : answer_numbers (answer_rows_of t) ≡ t → Right (answer_rows_of t) t
  unfolding answer_row_numbers
  written_right e =
      record {
        homes_are = λ j l. ap (λ (x : List ℕ). get_or x (j * 6 + 4) 0) (sym e) ∙ number_at (answer_rows_of t) j 4 l (omega arith);
        highs_are = λ j l. ap (λ (x : List ℕ). get_or x (j * 6 + 5) 0) (sym e) ∙ number_at (answer_rows_of t) j 5 l (omega arith);
      }

-- For whole rows that are fine, the test tells whether their homes are.
pub homes_tested : (t : List ℕ) (room : ℕ) (b : Bool) → eqb (length t % 6) 0 && rows_fine [] (answer_rows_of t) ≡ true → TestsHomes t room b → 4096 ≤ room
    → homes_fine t ≡ b
unfolding homes_fine
homes_tested t room b f k l =
    let p = and_parts (eqb (length t % 6) 0) (rows_fine [] (answer_rows_of t)) f in
    let whole : length t % 6 ≡ 0 = eqb-true (length t % 6) 0 p.0 in
    let R : TellsRight (answer_rows_of t) t b = k (orderly (answer_rows_of t) (formed_rows (answer_rows_of t) p.1)) l in
    same_test _ b (λ h. R.all_right (written_right t whole (same-word (answer_numbers (answer_rows_of t)) t h)))
    (λ h. rw (right_written t whole (R.only_right h)) (word_same t))
