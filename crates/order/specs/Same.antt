-- What the theorems say of two tables that compare as 0, in other calls (document 02, (xii)).
use Rattle.std.specs.Prelude.{◌≡◌, List, ℕ}
use Rattle.windows.specs.Call.{positions_record, positions_after}

-- (g) The same marker positions in a run: the record, and what is written to a list.
pub record SameStarts (first second words : List ℕ) : Type 0 where
  pub same_record : positions_record first words ≡ positions_record second words
  pub same_list : (list : List ℕ) → positions_after first words list ≡ positions_after second words list
