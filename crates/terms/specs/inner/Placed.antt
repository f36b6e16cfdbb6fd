-- An accepted table and what a pass over it leaves for those who work with it: the width of each row, and in one run of numbers how many
-- variables stand before each row, from number 512 on the source before each variable, and at number 577 how many variable bits there are.
use Rattle.std.specs.Prelude.{◌≡◌, List, ℕ, ◌+◌, ◌≤◌, ◌<◌, length, get_or, take}
use Rattle.terms.specs.declared.Row.{Row}
use Rattle.terms.specs.Table.{rows_of, bits_of, width_of, count_kind}
use Rattle.terms.specs.Faults.{Accepted, first_fault}
use Rattle.terms.specs.inner.Places.{source_before}

-- The numbers are the widths of the rows.
abbrev pub WidthsAre : List Row → List ℕ → Type 0
WidthsAre t widths = (r : ℕ) → r < length t → get_or widths r 0 ≡ width_of t r

-- At each row's number stands how many variables come before the row.
abbrev pub VariablesAre : List Row → List ℕ → Type 0
VariablesAre t places = (r : ℕ) → r < length t → get_or places r 0 ≡ count_kind 0 (take r t)

-- From number 512 on stands, at each variable's number, the source before it, and last the low source of the last variable.
abbrev pub SourcesAre : List Row → List ℕ → Type 0
SourcesAre t places = (v : ℕ) → v ≤ count_kind 0 t → get_or places (512 + v) 0 ≡ source_before t v

-- An accepted table, its widths, and for each row how many variables stand before it.
pub record Numbered (table widths variables : List ℕ) : Type 0 where
  pub accepted : first_fault table ≡ Accepted
  pub widths_are : WidthsAre (rows_of table) widths
  pub variables_are : VariablesAre (rows_of table) variables

-- The same with the source before each variable and the number of variable bits, and room for all of them.
pub record Placed (table widths places : List ℕ) : Type 0 where
  pub numbered : Numbered table widths places
  pub sources_are : SourcesAre (rows_of table) places
  pub bits_are : get_or places 577 0 ≡ bits_of (rows_of table)
  pub widths_room : length (rows_of table) ≤ length widths
  pub places_room : 578 ≤ length places
