-- The rules of a row, as the code asks them.
use Rattle.std.specs.Prelude.{Bool, List, [], ◌∷◌, ℕ, ◌%◌, ltb, get_or}
use Rattle.terms.specs.declared.Row.{Row}
use Rattle.terms.specs.declared.Fault.{Fault}
use Rattle.terms.specs.declared.Fault.TheVariants.{Kind, Unused, Named, Width, Value, Bounds, Count}
use Rattle.terms.specs.Table.{width_in}
use Rattle.terms.specs.Faults.{unused_column, misnamed, wrong_width, wrong_value, wrong_bounds, too_many}

-- The rules of row r as they are asked of it: ws has the widths of the rows before it, and the totals count it too.
unfoldable pub rules_in : List Row → List ℕ → ℕ → Row → ℕ → ℕ → ℕ → List (Bool × Fault)
rules_in t ws r row variables bits equations =
    (ltb 5 row.kind, Kind (r % 65536))
    ∷ (unused_column row, Unused (r % 65536))
    ∷ (misnamed t r row, Named (r % 65536))
    ∷ (wrong_width row (width_in ws row), Width (r % 65536))
    ∷ (wrong_value row, Value (r % 65536))
    ∷ (wrong_bounds row (get_or ws row.a 0), Bounds (r % 65536))
    ∷ (too_many variables bits equations, Count (r % 65536))
    ∷ []
