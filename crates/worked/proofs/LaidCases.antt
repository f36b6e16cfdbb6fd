-- The record and the answer of an accepted table from rows told in advance, where these give the patterns that meet it and are cut and
-- numbered by the rules. Assumes nothing.
use mathlib.Core.Path.{◌≡◌, refl, sym, ◌∙◌, ap}
use mathlib.Core.Bool.{Bool, true, false, not}
use mathlib.Core.List.{List}
use Prim.Native.Nat.{ℕ, ◌+◌, ◌^◌, ◌≤◌}
use native.Mathlib.Omega.{arith}
use lib.ListN.{length}
use Rattle.terms.specs.declared.Row.{Row}
use Rattle.terms.specs.Faults.{Accepted, first_fault}
use Rattle.terms.specs.Table.{rows_of, bits_of, satisfies}
use Rattle.answers.specs.declared.AnswerRow.{AnswerRow}
use Rattle.laws.specs.Lists.{distinct, least, member}
use Rattle.answers.specs.Answer.{variable_widths, fresh_pieces, fresh_numbers, fresh_start, fresh_width, free_bits, home_row, high_bit, width_in_rows, answer_row_numbers, numbers_from, answer_numbers}
use Rattle.answers.specs.Solve.{valid, unsatisfiable, ties_to, solved_rows, answer_record}
use Rattle.answers.proofs.Demands.{solved_sum}
use Rattle.answers.proofs.Tables.{valid_to}
use Rattle.answers.proofs.GeneralSystems.{width_sum}
use Rattle.answers.proofs.Variables.{widths_sum}
use Rattle.worked.specs.Cases.{Solved, Holds, figures}
use Rattle.worked.proofs.Holding.{every_fails, solved_case}
use Rattle.worked.proofs.LaidRows.{start_of, Laid, laid_all}
use Rattle.worked.proofs.LaidAnswer.{WellCut}
use Rattle.worked.proofs.LaidPatterns.{Patterns, pattern_of, words, sized, given_bits, answer_is}

module _ (table : List ℕ) (accepted : first_fault table ≡ Accepted) (rows : List AnswerRow) (wide : ℕ → ℕ) (cut : WellCut rows wide)
    (ws : List ℕ) (widths : variable_widths (rows_of table) ≡ ws) (laid : Laid 0 0 rows ws) (patterns : Patterns (rows_of table) rows wide) where
  abbrev t : List Row
  t = rows_of table

  bits : start_of rows (length rows) ≡ bits_of t
  bits = omega (arith, laid_all laid, ap width_sum widths, widths_sum t)

  pub laid_rows : solved_rows (rows_of table) ≡ rows
  laid_rows = answer_is rows wide cut t bits patterns (rw widths laid)

  -- the pattern in which each fresh bit is 0 meets the table
  pub laid_left : unsatisfiable (rows_of table) ≡ false
  unfolding unsatisfiable
  laid_left =
      every_fails (bits_of t) (λ p. not (satisfies t p)) (pattern_of (words rows wide cut (λ f o. 0)) rows)
      (rw (← bits) (given_bits rows wide cut (λ f o. 0) (λ f o. omega arith)))
      (ap not (patterns.passes (words rows wide cut (λ f o. 0)) (sized rows wide cut (λ f o. 0))))

  -- its ties are the bits that are not free
  pub laid_ties : free_bits rows + ties_to (rows_of table) (length (rows_of table)) ≡ bits_of (rows_of table)
  laid_ties = ap (λ (l : List AnswerRow). free_bits l + ties_to t (length t)) (sym laid_rows) ∙ solved_sum table accepted laid_left

  pub laid_holds : (pieces fresh free ties : ℕ) (answer : List ℕ) → length rows ≡ pieces → fresh_pieces rows ≡ fresh → free_bits rows ≡ free
      → free + ties ≡ bits_of (rows_of table) → 1 ≤ ties → answer_numbers rows ≡ answer
      → Holds (Solved table (figures 2 pieces fresh free ties 0) answer (2 ^ free))
  unfolding answer_record
  laid_holds pieces fresh free ties answer a b c d e f =
      solved_case table (figures 2 pieces fresh free ties 0) accepted is answer (ap answer_numbers laid_rows ∙ f)
    where
      not-all : (v : Bool) → valid t ≡ v → v ≡ false
      not-all false h = refl
      not-all true h = absurd (omega (arith, laid_ties, valid_to table accepted laid_left h, c, d, e))

      is : answer_record t ≡ figures 2 pieces fresh free ties 0
      is =
          let tied : ties_to t (length t) ≡ ties = omega (arith, laid_ties) in
          rw (not-all (valid t) refl, laid_left, laid_rows, tied, a, b, c) refl

-- Whoever unfolds this unfolds all that the numbers of an answer's rows are computed from.
unfoldable pub numbers_computed : List AnswerRow → List ℕ
unfolding fresh_pieces fresh_numbers distinct member free_bits fresh_start fresh_width answer_numbers numbers_from answer_row_numbers home_row high_bit width_in_rows least
numbers_computed rows = answer_numbers rows
