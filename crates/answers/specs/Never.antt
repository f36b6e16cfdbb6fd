-- What the theorem says of the row of a never (document 01, "The solver's answer"; proofs/Never.antt): by the equations that count and the values
-- of their sides, without a search.
use Rattle.std.specs.Prelude.{◌≡◌, List, ℕ, suc}
use Rattle.terms.specs.declared.Row.{Row}
use Rattle.terms.specs.Assignments.{Assignment}
use Rattle.terms.specs.Counting.{Counts, MeetsBefore}
use Rattle.terms.specs.Table.{bits_of}
use Rattle.answers.specs.Solve.{ties_to, never_record, answer_record}

-- Some assignment meets the equations that count in the rows before row n.
pub record SomeLeft (t : List Row) (n : ℕ) : Type 0 where
  pub pattern : List ℕ
  pub bits : Assignment (bits_of t) pattern
  pub meets : MeetsBefore t n pattern

-- Row r is the lowest equation row at which no assignment is left: it is an equation that counts, some assignment meets all that count before it, and
-- none meets these and it.
pub record NoneLeftAt (t : List Row) (r : ℕ) : Type 0 where
  pub counts : Counts t r
  pub some_before : SomeLeft t r
  pub none_with : SomeLeft t (suc r) → ⊥

-- The answer is a never of row r exactly if r is that row; and then its ties are those of the equations before r, and its other numbers are 0.
pub record NeverRow (t : List Row) (r : ℕ) : Type 0 where
  pub to : (answer_record t).outcome ≡ 1 → (answer_record t).row ≡ r → NoneLeftAt t r
  pub of : NoneLeftAt t r → answer_record t ≡ never_record (ties_to t r) r
