-- Where the variables of a table stand in an assignment.
use Rattle.std.specs.Prelude.{List, [], ◌∷◌, ℕ, zero, suc, ◌+◌}
use Rattle.terms.specs.declared.Row.{Row}
use Rattle.terms.specs.Table.{if_variable}

-- The first place of variable v in an assignment: how many bits the variables before it have.
unfoldable pub first_place : List Row → ℕ → ℕ
first_place [] v = 0
first_place (r ∷ rs) zero = 0
first_place (r ∷ rs) (suc v) = if_variable r (r.a + first_place rs v) (first_place rs (suc v))

-- The source before that of its first place.
abbrev pub source_before : List Row → ℕ → ℕ
source_before t v = first_place t v + 1

-- The source of variable v's low bit: the one before the next variable.
abbrev pub low_source : List Row → ℕ → ℕ
low_source t v = source_before t (suc v)
