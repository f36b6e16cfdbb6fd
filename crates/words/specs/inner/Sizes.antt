-- How many rows a plan has: one fixed row for each word with fixed bits, and one equal row for each two words and each shift at which a
-- place stands to its representative.
use Rattle.std.specs.Prelude.{◌≡◌, Bool, not, cond, List, ℕ, suc, ◌+◌, ◌*◌, ◌≤◌, ltb, get_or}
use Rattle.terms.specs.declared.Row.{Row}
use Rattle.terms.specs.Table.{bits_of, count_kind, satisfies}
use Rattle.laws.specs.Lists.{least, below, tally}
use Rattle.answers.specs.Pairs.{equal_under}
use Rattle.answers.specs.Solve.{unsatisfiable}
use Rattle.groups.specs.inner.Counts.{equal_rows}

-- Whether word v has a fixed place: one whose representative is a fixed bit, where that of source s is r s. How many of k words have.
unfoldable pub has_fixed : (ℕ → ℕ) → ℕ → Bool
has_fixed r v = not (below 16 (λ q. not (ltb (r (suc (suc (16 * v + q)))) 2)))

unfoldable pub fixed_rows : (ℕ → ℕ) → ℕ → ℕ
fixed_rows r k = tally k (has_fixed r)

-- A plan has so many fixed rows and so many equal rows, and each is tested.
pub record Sized (plan : List ℕ) (fixed equal : ℕ) : Type 0 where
  pub fixed-rows : get_or plan 0 0 ≡ fixed
  pub equal-rows : get_or plan 1 0 ≡ equal
  pub fixed_few : fixed ≤ 64
  pub equal_few : equal ≤ 1023

-- The lowest source that has the bit of source s in every assignment that satisfies a table: the fixed bit where s is fixed, else the
-- lowest place.
unfoldable pub lowest_equal : List Row → ℕ → ℕ
lowest_equal t s = least (equal_under (bits_of t) (satisfies t) s) 0 s

-- The rows of a table's plan: those of these representatives; one fixed row, which no window passes, if nothing satisfies the table.
unfoldable pub fixed_rows_of : List Row → ℕ
fixed_rows_of t = cond (unsatisfiable t) 1 (fixed_rows (lowest_equal t) (count_kind 0 t))

unfoldable pub equal_rows_of : List Row → ℕ
equal_rows_of t = cond (unsatisfiable t) 0 (equal_rows (lowest_equal t) (count_kind 0 t))
