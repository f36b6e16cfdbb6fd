-- What the inner functions promise of the equations of a table, taken one after the other.
use Rattle.std.specs.Prelude.{◌≡◌, Bool, true, List, ℕ, zero, suc, ◌+◌, ◌-◌, ◌≤◌, ◌<◌, min, length, get_or, take, drop}
use Rattle.terms.specs.declared.Row.{Row}
use Rattle.terms.specs.Table.{rows_of, bits_of}
use Rattle.answers.specs.Pairs.{Pair, pairs_in}
use Rattle.answers.specs.inner.Classes.{rep, run_all, conflict_at, links_before}
use Rattle.classes.specs.inner.Links.{Low, roots_of}
use Rattle.terms.specs.inner.Placed.{Numbered}
use Rattle.sides.specs.declared.Reader.{Reader}
use Rattle.sides.specs.inner.Sides.{Prepared, left_side, right_side, side_written}

-- Links that hold the classes of a table's sources: they point down, and the two fixed bits are apart.
pub record Holding (t : List Row) (links : List ℕ) : Type 0 where
  pub low : Low links
  pub sources : length links ≡ suc (suc (bits_of t))
  pub apart : rep (roots_of links) 1 ≡ 1

-- The bit pairs es of the rows from `from` on and below `to` were taken, from the classes c, up to a row: the first at which two different
-- fixed bits met, or `to`. `ties` are those of the rows before it; if there was none, the links hold the classes of all these pairs.
pub record EquationsTaken (t : List Row) (c : List ℕ) (from to : ℕ) (es : List (List Pair)) (links : List ℕ) (row ties : ℕ) : Type 0 where
  pub row_is : row ≡ from + conflict_at c es
  pub ties_are : ties ≡ links_before c es
  pub few : ties ≤ 1000000
  pub held : row ≡ to → Holding t links
  pub classes_are : row ≡ to → roots_of links ≡ run_all c es

-- The next eight sources of two readers, each in a part of a variable that goes on so far, are there and link alike: their pairs say nothing.
pub record Alike (links : List ℕ) (a b : Reader) : Type 0 where
  pub left_long : 8 ≤ a.left
  pub right_long : 8 ≤ b.left
  pub left_there : a.source + 8 ≤ length links
  pub right_there : b.source + 8 ≤ length links
  pub left_rises : a.step ≡ 1
  pub right_rises : b.step ≡ 1
  pub same : (i : ℕ) → i < 8 → get_or links (a.source + i) 0 ≡ get_or links (b.source + i) 0

-- A test tells whether they do.
pub record TellsAlike (links : List ℕ) (a b : Reader) (r : Bool) : Type 0 where
  pub only_alike : r ≡ true → Alike links a b
  pub all_alike : Alike links a b → r ≡ true

-- What taking the equations of these rows promises, from the classes that the links hold and with room for the forms of two sides.
abbrev pub TakesEquations : List ℕ → List ℕ → List ℕ → List ℕ → ℕ → ℕ → ℕ → ℕ → List ℕ → List ℕ → ℕ → ℕ → Type 0
TakesEquations table widths variables lows from to leftRoom rightRoom links links' row ties =
    Prepared table widths variables lows → 4096 ≤ leftRoom → 4096 ≤ rightRoom → from ≤ to → to ≤ length (rows_of table) → Holding (rows_of table) links
    → EquationsTaken (rows_of table) (roots_of links) from to (drop from (take to (pairs_in (rows_of table) (rows_of table)))) links' row ties

-- A buffer after n rows from row `from` on: for each equation among them, in order, the normal form of one of its filled sides was written
-- to the beginning, and nothing else.
unfoldable pub forms_written : (List Row → Row → List ℕ) → List Row → ℕ → ℕ → List ℕ → List ℕ
forms_written side t from zero old = old
forms_written side t from (suc n) old = side_written side t (from + n) (forms_written side t from n old)

-- The forms of the rows from `from` on and below `to`, up to the one at which taking ended, stand as they were written, in every number of
-- both buffers.
pub record FormsLeft (t : List Row) (from to : ℕ) (left left' right right' : List ℕ) (row : ℕ) : Type 0 where
  pub left_is : left' ≡ forms_written left_side t from (min (suc row) to - from) left
  pub right_is : right' ≡ forms_written right_side t from (min (suc row) to - from) right

-- What taking them promises of the two buffers, whatever the links are.
abbrev pub LeavesForms : List ℕ → List ℕ → List ℕ → ℕ → ℕ → List ℕ → List ℕ → List ℕ → List ℕ → ℕ → Type 0
LeavesForms table widths variables from to left left' right right' row =
    Numbered table widths variables → 4096 ≤ length left → 4096 ≤ length right → from ≤ to → to ≤ length (rows_of table)
    → FormsLeft (rows_of table) from to left left' right right' row
