-- What the theorems say of the equations that count (document 02, (vii); proofs/Counting.antt).
use Rattle.std.specs.Prelude.{◌≡◌, true, List, [], ◌∷◌, ◌++◌, ℕ, ◌<◌, ◌≤◌, length}
use Rattle.terms.specs.declared.Row.{Row}
use Rattle.terms.specs.Table.{rows_of, row_numbers, row_at, widths_of, count_kind, value_of, evened, satisfies, silent_row, leaving_off, of_line, counting}
use Rattle.terms.specs.Faults.{Accepted, first_fault}
use Rattle.terms.specs.Acceptance.{Exactly}

-- Row r is an equation of line n.
pub record IsLine (t : List Row) (r n : ℕ) : Type 0 where
  pub in_table : r < length t
  pub is_equation : (row_at t r).kind ≡ 4
  pub line_is : (row_at t r).c ≡ n

-- Row r is an equation with a line number above 0 that a later equation has too.
pub record Revised (t : List Row) (r : ℕ) : Type 0 where
  pub line : ℕ
  pub above_0 : 0 < line
  pub here : IsLine t r line
  pub later : ℕ
  pub behind : r < later
  pub there : IsLine t later line

-- Row r is an equation that counts.
pub record Counts (t : List Row) (r : ℕ) : Type 0 where
  pub in_table : r < length t
  pub is_equation : (row_at t r).kind ≡ 4
  pub unrevised : Revised t r → ⊥

-- (a) A revised equation is the row that says nothing, and each other row is as it was, word for word; there are as many rows as before.
pub record CountingRows (t : List Row) : Type 0 where
  pub replaced : (r : ℕ) → Revised t r → row_at (counting t) r ≡ silent_row
  pub stays : (r : ℕ) → (Revised t r → ⊥) → row_at (counting t) r ≡ row_at t r
  pub as_many : length (counting t) ≡ length t

-- (b) The last equation of line n stays, and no other of that line.
pub record OneOfLine (t : List Row) (n : ℕ) : Type 0 where
  pub row : ℕ
  pub is_line : IsLine t row n
  pub last : (r : ℕ) → row < r → IsLine t r n → ⊥
  pub stays : row_at (counting t) row ≡ row_at t row
  pub only : (r : ℕ) → IsLine (counting t) r n → r ≡ row

-- The filled sides of the equation of row r have the same value.
abbrev pub SidesEqual : List Row → List ℕ → ℕ → Type 0
SidesEqual t p r = evened (value_of t p (row_at t r).a) (value_of t p (row_at t r).b) ≡ evened (value_of t p (row_at t r).b) (value_of t p (row_at t r).a)

-- An assignment meets the equations that count in the rows before row n: their filled sides are equal.
abbrev pub MeetsBefore : List Row → ℕ → List ℕ → Type 0
MeetsBefore t n p = (r : ℕ) → r < n → Counts t r → SidesEqual t p r

-- (c) An assignment satisfies a table exactly if both filled sides are equal in each equation that counts.
abbrev pub MeetsCounting : List Row → List ℕ → Type 0
MeetsCounting t p = Exactly (satisfies t p ≡ true) ((r : ℕ) → Counts t r → SidesEqual t p r)

-- No two equations have one line number above 0; and no equation has one.
abbrev pub DistinctLines : List Row → Type 0
DistinctLines t = (n i j : ℕ) → 0 < n → i < j → IsLine t i n → IsLine t j n → ⊥

abbrev pub NoLines : List Row → Type 0
NoLines t = (n r : ℕ) → IsLine t r n → n ≡ 0

-- (d) An accepted table with its revised equations left off is accepted, all its equations count, and the same assignments satisfy it.
pub record LeftOff (table : List ℕ) : Type 0 where
  pub accepted : first_fault (row_numbers (counting (rows_of table))) ≡ Accepted
  pub distinct : DistinctLines (counting (rows_of table))
  pub once : counting (counting (rows_of table)) ≡ counting (rows_of table)
  pub same_patterns : (p : List ℕ) → satisfies (counting (rows_of table)) p ≡ satisfies (rows_of table) p

-- (e) Where no two equations have one line number above 0, nothing moves; so too where none has one.
pub record Unmoved (t : List Row) : Type 0 where
  pub distinct_lines : DistinctLines t → counting t ≡ t
  pub no_lines : NoLines t → counting t ≡ t

-- A table's rows with the equations of line n left off.
unfoldable pub without_line : ℕ → List Row → List Row
without_line n t = leaving_off (λ r behind. of_line n r) t

-- (f) The assignments that satisfy t with an equation of line n behind it are those that satisfy what counts in t without its equation of line n, and
-- under which the filled sides of the new equation are equal.
abbrev pub TakesItsPlace : List Row → Row → List ℕ → Type 0
TakesItsPlace t e p =
    Exactly (satisfies (t ++ (e ∷ [])) p ≡ true)
    ((satisfies (without_line e.c (counting t)) p ≡ true)
    × (evened (value_of t p e.a) (value_of t p e.b) ≡ evened (value_of t p e.b) (value_of t p e.a)))

-- (g) The equations that a table is refused 17 for are all of them: an accepted table has at most 64, counting or not.
abbrev pub FewEquations : List ℕ → Type 0
FewEquations table = count_kind 4 (rows_of table) ≤ 64

-- Two rows are the same, but for the line number if they are equations; and tables of as many numbers, all of whose rows are so.
pub record SameButLine (s r : Row) : Type 0 where
  pub kind_is : s.kind ≡ r.kind
  pub a_is : s.a ≡ r.a
  pub b_is : s.b ≡ r.b
  pub c_is : (r.kind ≡ 4 → ⊥) → s.c ≡ r.c

pub record OtherLines (other table : List ℕ) : Type 0 where
  pub as_many : length other ≡ length table
  pub each : (r : ℕ) → r < length (rows_of table) → SameButLine (row_at (rows_of other) r) (row_at (rows_of table) r)

-- (i) No rule asks for a line number: with others, whatever they are, a table is accepted where it was, and else has the fault that it had; its rows
-- have the widths that they had.
pub record LinesFree (other table : List ℕ) : Type 0 where
  pub same_fault : first_fault other ≡ first_fault table
  pub same_widths : widths_of (rows_of other) ≡ widths_of (rows_of table)
