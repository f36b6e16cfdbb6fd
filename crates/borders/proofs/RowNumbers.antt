-- The rows of an answer in a buffer, four numbers each: the row behind the others written.
use mathlib.Core.Path.{◌≡◌, sym, ap, ◌∙◌}
use mathlib.Core.List.{List, [], ◌∷◌, ◌++◌, reverse, reverse-cons}
use Prim.Native.Nat.{ℕ, suc, ◌-◌, ◌*◌}
use native.Mathlib.Omega.{arith}
use lib.ListN.{length, length-reverse}
use borrow.Author.Tests.{eq-eqb, ne_eqb}
use Rattle.laws.specs.Buffers.{overwrite}
use Rattle.laws.proofs.Buffers.{four_more}
use Rattle.answers.proofs.AnswerNumbers.{four_append, four-length}
use Rattle.answer_table.specs.inner.Rows.{four_put}
use Rattle.answers.specs.declared.AnswerRow.{AnswerRow}
use Rattle.answers.specs.inner.FourNumbers.{four_numbers}
use Rattle.borders.specs.declared.Progress.{Progress}
use Rattle.borders.specs.inner.Borders.{row_written, row_of}

module _ (old : List ℕ) (p : Progress) (rest : List AnswerRow) (n : p.rows ≡ suc (length rest)) where
  abbrev s : List ℕ
  s = four_numbers (reverse rest)

  at_row : length (four_numbers (reverse rest)) ≡ (p.rows - 1) * 4
  at_row = four-length (reverse rest) ∙ omega (arith, length-reverse rest)

  rows_next : (r : AnswerRow) → four_numbers (reverse (r ∷ rest)) ≡ s ++ (r.variable ∷ r.kind ∷ r.width ∷ r.fresh ∷ [])
  unfolding four_numbers
  rows_next r = ap four_numbers (reverse-cons r rest) ∙ four_append (reverse rest) (r ∷ [])

  pub row_next : row_written (overwrite (four_numbers (reverse rest)) old) p ≡ overwrite (four_numbers (reverse (row_of p ∷ rest))) old
  unfolding row_written four_put
  row_next =
      rw (ne_eqb p.rows 0 (omega arith))
      (four_more s old ((p.rows - 1) * 4) p.variable p.kind p.width p.number at_row ∙ ap (λ (l : List ℕ). overwrite l old) (sym (rows_next (row_of p))))

pub row_none : (answer : List ℕ) (p : Progress) → p.rows ≡ 0 → row_written answer p ≡ answer
unfolding row_written
row_none answer p e = rw (eq-eqb p.rows 0 e)
