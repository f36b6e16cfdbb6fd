-- Row records lent as a run, and the numbers of those that a buffer holds.
use Rattle.std.specs.Prelude.{cond, List, ℕ, ◌*◌, ◌/◌, ltb, length, take}
use Rattle.laws.specs.Buffers.{set_four}
use Rattle.terms.specs.declared.Row.{Row}
use Rattle.terms.specs.Table.{row_numbers}

-- The numbers of the first rows of a run, as many whole rows as a buffer of so many numbers holds.
unfoldable pub held : List Row → ℕ → List ℕ
held rows room = row_numbers (take (room / 4) rows)

-- How many of n rows those are.
unfoldable pub fitting : ℕ → ℕ → ℕ
fitting n room = cond (ltb n (room / 4)) n (room / 4)

-- A table with row k written, as far as it reaches.
unfoldable pub put_row : List ℕ → ℕ → Row → List ℕ
put_row table k r = set_four table (k * 4) r.kind r.a r.b r.c

-- A buffer with row k written, where it holds row k whole.
unfoldable pub put_whole : List ℕ → ℕ → Row → List ℕ
put_whole buffer k r = cond (ltb k (length buffer / 4)) (put_row buffer k r) buffer

-- The numbers of the area to which calls copy rows: 513 rows, one more than a table may have.
abbrev pub area_numbers : ℕ
area_numbers = 2052
