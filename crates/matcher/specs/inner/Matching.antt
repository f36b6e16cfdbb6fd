-- What the comparison of an answer with a table promises.
use Rattle.std.specs.Prelude.{◌≡◌, Bool, List, ℕ, ◌≤◌}
use Rattle.terms.specs.Table.{rows_of, bits_of}
use Rattle.terms.specs.inner.Placed.{Placed}
use Rattle.assignments.specs.Matching.{other_answer}

-- A table that was placed was solved, with room for a normal form, and its answer compared with the one lent.
abbrev pub ComparesPlaced : List ℕ → List ℕ → List ℕ → ℕ → List ℕ → ℕ → Bool → Type 0
ComparesPlaced table widths places bits answer formRoom other =
    Placed table widths places → bits ≡ bits_of (rows_of table) → 4096 ≤ formRoom → other ≡ other_answer table answer
