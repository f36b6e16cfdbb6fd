-- A table with its later equations left off, and what holds each of its variable bits (document 02, (viii)).
use Rattle.std.specs.Prelude.{Bool, ◌&&◌, cond, List, map, ℕ, ◌+◌, ◌-◌, eqb, ltb, length}
use Rattle.terms.specs.declared.Row.{Row}
use Rattle.terms.specs.Table.{bits_of, leaving_off, next_equation, satisfies}
use Rattle.laws.specs.Lists.{count_up, least}
use Rattle.answers.specs.Pairs.{equal_under}

-- Whether a row is an equation behind which fewer than n rows stand: one of the last n rows.
unfoldable pub equation_among : ℕ → Row → List Row → Bool
equation_among n row behind = eqb row.kind 4 && ltb (length behind) n

-- A table with each equation in row r or behind it left off: the other rows stay, and rows keep their numbers.
unfoldable pub up_to : ℕ → List Row → List Row
up_to r t = leaving_off (equation_among (length t - r)) t

-- The lowest row of an equation from row r on, or the number of rows where none is left.
abbrev pub equation_from : List Row → ℕ → ℕ
equation_from t r = next_equation t r (length t)

-- The lowest source that has the same bit as source s in every assignment that satisfies a table: a fixed bit, else the lowest place.
unfoldable pub holder : List Row → ℕ → ℕ
holder t s = least (equal_under (bits_of t) (satisfies t) s) 0 s

-- A source as a host reads it: 4,096 and 4,097 are the fixed bits, any other number is a place.
unfoldable pub host_number : ℕ → ℕ
host_number s = cond (ltb s 2) (4096 + s) (s - 2)

-- What holds each place, as a host reads it. A place that is tied to nothing holds itself.
unfoldable pub holders : List Row → List ℕ
holders t = map (λ s. host_number (holder t s)) (count_up 2 (bits_of t))
