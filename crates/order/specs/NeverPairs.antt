-- Named tables that are rearranged and that no pattern meets, whose ties and row differ, both or either one alone (document 02, (xiv)): the
-- exception is no slip of the proof.
use Rattle.std.specs.Prelude.{◌≡◌, List, [], ◌∷◌, ◌++◌, ℕ}
use Rattle.terms.specs.declared.Record.{Record}
use Rattle.terms.specs.Faults.{Accepted, first_fault}
use Rattle.terms.specs.Counting.{NoLines}
use Rattle.terms.specs.Table.{rows_of}
use Rattle.answers.specs.Solve.{answer_record}
use Rattle.order.specs.Rearranged.{Rearranged}

-- Accepted tables without line numbers that are rearranged, and their records.
pub record NeverPair (first second : List ℕ) (found other : Record) : Type 0 where
  pub first_accepted : first_fault first ≡ Accepted
  pub second_accepted : first_fault second ≡ Accepted
  pub first_no_lines : NoLines (rows_of first)
  pub second_no_lines : NoLines (rows_of second)
  pub rearranged : Rearranged (rows_of first) (rows_of second)
  pub first_is : answer_record (rows_of first) ≡ found
  pub second_is : answer_record (rows_of second) ≡ other

abbrev row : ℕ → ℕ → ℕ → ℕ → List ℕ
row kind a b c = kind ∷ a ∷ b ∷ c ∷ []

-- One bit, and both fills.
abbrev bit : List ℕ
bit = row 0 1 0 0 ++ row 1 0 1 0 ++ row 1 1 1 0

-- The bit is 0, 0 is 1; and exchanged.
abbrev pub both_first : List ℕ
both_first = bit ++ row 4 0 1 0 ++ row 4 1 2 0

abbrev pub both_second : List ℕ
both_second = bit ++ row 4 1 2 0 ++ row 4 0 1 0

-- Words of two bits and of one, and both fills.
abbrev words : List ℕ
words = row 0 2 0 0 ++ row 0 1 0 0 ++ row 1 0 1 0 ++ row 1 1 1 0

-- The one is 0, 0 is 1, the two are 0; and the first and the last exchanged.
abbrev pub ties_first : List ℕ
ties_first = words ++ row 4 1 2 0 ++ row 4 2 3 0 ++ row 4 0 2 0

abbrev pub ties_second : List ℕ
ties_second = words ++ row 4 0 2 0 ++ row 4 2 3 0 ++ row 4 1 2 0

-- The bit is itself, 0 is 1; and exchanged.
abbrev pub row_first : List ℕ
row_first = bit ++ row 4 0 0 0 ++ row 4 1 2 0

abbrev pub row_second : List ℕ
row_second = bit ++ row 4 1 2 0 ++ row 4 0 0 0
