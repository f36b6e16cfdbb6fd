-- What only the inner functions of pages promise.
use Rattle.std.specs.Prelude.{cond, List, [], ◌∷◌, ◌++◌, ℕ, ◌+◌, ◌-◌, ◌/◌, min, eqb}
use Rattle.terms.specs.declared.Record.{Record}
use Rattle.result_sheets.specs.Page.{on_page}

-- A line of four columns.
unfoldable pub four_cells : List ℕ → List ℕ → List ℕ → List ℕ → List ℕ
four_cells a b c d = a ++ (b ++ (c ++ (d ++ (10 ∷ []))))

-- How many lines there are below the names, of all pages together, where so many whole rows are lent.
unfoldable pub listed_count : Record → ℕ → ℕ
listed_count found rows = cond (eqb found.outcome 2) (min found.pieces rows) 1

-- How many pages there are for so many lines.
unfoldable pub pages_of : ℕ → ℕ
pages_of listed = 1 + (listed - 1) / on_page
