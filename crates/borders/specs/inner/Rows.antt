-- What the functions promise of the answer's rows.
use Rattle.std.specs.Prelude.{◌≡◌, List, ℕ, length}
use Rattle.terms.specs.Table.{rows_of, bits_of}
use Rattle.terms.specs.Faults.{Accepted, first_fault}
use Rattle.laws.specs.Buffers.{overwrite}
use Rattle.answers.specs.Pairs.{Pair}
use Rattle.answers.specs.inner.Classes.{rep, in_class, Represents}
use Rattle.laws.specs.Lists.{tally}
use Rattle.answers.specs.Answer.{variable_widths, appears, answer_rows}
use Rattle.answers.specs.inner.FourNumbers.{four_numbers}

-- The rows of an accepted table whose classes are these were written: how many, how many fresh pieces, and the answer table.
pub record RowsPut (table classes answer answer' : List ℕ) (pieces fresh : ℕ) : Type 0 where
  pub pieces_are : pieces ≡ length (answer_rows (bits_of (rows_of table)) (variable_widths (rows_of table)) (in_class classes))
  pub fresh_are : fresh ≡ tally (bits_of (rows_of table)) (appears (bits_of (rows_of table)) (variable_widths (rows_of table)) (in_class classes))
  pub answer_is : answer' ≡ overwrite (four_numbers (answer_rows (bits_of (rows_of table)) (variable_widths (rows_of table)) (in_class classes))) answer

-- What the writing of these rows promises, as far as the answer table reaches.
abbrev pub PutsRows : List ℕ → List ℕ → List ℕ → List ℕ → ℕ → ℕ → Type 0
PutsRows table classes answer answer' pieces fresh =
    (seen : List Pair) → first_fault table ≡ Accepted → Represents (bits_of (rows_of table)) classes seen → rep classes 1 ≡ 1
    → RowsPut table classes answer answer' pieces fresh
