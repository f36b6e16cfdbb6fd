-- Tables that are written out are decided by computing. Each definition here is another's value under a name of its own, and whoever
-- unfolds it unfolds all that the value is computed from. Assumes nothing.
use mathlib.Core.Bool.{Bool}
use mathlib.Core.List.{List}
use Prim.Native.Nat.{ℕ}
use Rattle.terms.specs.declared.Row.{Row}
use Rattle.terms.specs.Table.{rows_of, by_kind, by_rows, width_in, widths_of, bits_in, bits_of, count_kind, fixed_word, value_in, values_of, sides_agree, all_rows, leaving_off, of_line, some_row, revised, counting, satisfies}
use Rattle.laws.specs.Binary.{binary}
use Rattle.terms.specs.Faults.{Found, breaks11, breaks12, breaks13, breaks14, breaks15, breaks40, breaks16, breaks17, unused_column, not_term, misnamed, outside, wrong_width, wrong_value, wrong_bounds, too_many, first_rule, rules_at, fault_at, lowest_fault, first_fault, absent}

-- The first fault of a table, and whether a row is absent: the rows, their widths and the rules.
unfoldable pub fault_computed : List ℕ → Found
unfolding rows_of by_kind by_rows width_in widths_of bits_in bits_of count_kind breaks11 breaks12 breaks13 breaks14 breaks15 breaks40 breaks16 breaks17 unused_column not_term misnamed outside wrong_width wrong_value wrong_bounds too_many first_rule rules_at fault_at lowest_fault first_fault absent
fault_computed numbers = first_fault numbers

-- Whether an assignment satisfies a table: the rows, their values and the equations that count, up to the bits of the values.
unfoldable pub satisfies_computed : List Row → List ℕ → Bool
unfolding rows_of by_kind by_rows bits_in bits_of binary fixed_word value_in values_of sides_agree all_rows leaving_off of_line some_row revised counting satisfies
satisfies_computed t p = satisfies t p
