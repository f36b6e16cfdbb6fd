-- Which rule of document 01's table ("Where a call stops", numbers 11 to 17), and of document 02's (40), a term table breaks first.
-- Each number is one definition, over the rows t of the table and the number r of a row.
use Rattle.std.specs.Prelude.{Bool, true, false, not, ◌&&◌, ◌||◌, cond, List, [], ◌∷◌, ℕ, zero, suc, ◌%◌, ◌^◌, eqb, ltb, length, take, Result, Ok, Err, ⊤}
use Rattle.terms.specs.declared.Row.{Row}
use Rattle.terms.specs.declared.Fault.{Fault}
use Rattle.terms.specs.declared.Fault.TheVariants.{Shape, Kind, Unused, Named, Width, Value, Bounds, Count}
use Rattle.terms.specs.Table.{rows_of, row_at, by_kind, width_of, count_kind, bits_of}

abbrev pub nonzero : ℕ → Bool
nonzero n = not (eqb n 0)

-- 11: over 512 rows, or lent as numbers that are not whole rows
unfoldable pub breaks11 : List ℕ → Bool
breaks11 numbers = nonzero (length numbers % 4) || ltb 512 (length (rows_of numbers))

-- 12: kind above 5
unfoldable pub breaks12 : List Row → ℕ → Bool
breaks12 t r = ltb 5 (row_at t r).kind

-- 13: unused column not 0
unfoldable pub unused_column : Row → Bool
unused_column row =
    by_kind row.kind
    (nonzero row.b || nonzero row.c)
    (nonzero row.c)
    (nonzero row.c)
    false
    false

unfoldable pub breaks13 : List Row → ℕ → Bool
breaks13 t r = unused_column (row_at t r)

-- 14: a named row is not earlier, or is an equation
unfoldable pub not_term : List Row → ℕ → ℕ → Bool
not_term t r x = not (ltb x r) || eqb (row_at t x).kind 4

unfoldable pub misnamed : List Row → ℕ → Row → Bool
misnamed t r row =
    by_kind row.kind
    false
    false
    (not_term t r row.a || not_term t r row.b)
    (not_term t r row.a)
    (not_term t r row.a || not_term t r row.b)

unfoldable pub breaks14 : List Row → ℕ → Bool
breaks14 t r = misnamed t r (row_at t r)

-- 15: width of any row but a cut outside 1 to 1,024, or a fill's bit above 1
unfoldable pub outside : ℕ → Bool
outside width = eqb width 0 || ltb 1024 width

unfoldable pub wrong_width : Row → ℕ → Bool
wrong_width row width =
    by_kind row.kind
    (outside width)
    (outside width || (eqb row.kind 1 && ltb 1 row.a))
    (outside width)
    false
    false

unfoldable pub breaks15 : List Row → ℕ → Bool
breaks15 t r = wrong_width (row_at t r) (width_of t r)

-- 40: value: width above 16, or a number that does not fit the width
unfoldable pub wrong_value : Row → Bool
wrong_value row = eqb row.kind 5 && (ltb 16 row.b || not (ltb row.a (2 ^ row.b)))

unfoldable pub breaks40 : List Row → ℕ → Bool
breaks40 t r = wrong_value (row_at t r)

-- 16: cut: high not below the width, or low above high
unfoldable pub wrong_bounds : Row → ℕ → Bool
wrong_bounds row width =
    by_kind row.kind
    false
    false
    false
    (not (ltb row.b width) || ltb row.b row.c)
    false

unfoldable pub breaks16 : List Row → ℕ → Bool
breaks16 t r = wrong_bounds (row_at t r) (width_of t (row_at t r).a)

-- 17: variable or equation beyond its maximum, revised equations too, or variable bits beyond 4,096, in the rows up to r
unfoldable pub too_many : ℕ → ℕ → ℕ → Bool
too_many variables bits equations = ltb 64 variables || ltb 4096 bits || ltb 64 equations

unfoldable pub breaks17 : List Row → ℕ → Bool
breaks17 t r = too_many (count_kind 0 (take (suc r) t)) (bits_of (take (suc r) t)) (count_kind 4 (take (suc r) t))

-- What the check of a table or of a row finds: no fault, or the first.
abbrev pub Found : Type 0
Found = Result ⊤ Fault

abbrev pub Accepted : Found
Accepted = Ok tt

-- The fault of the first rule that is broken, where each test says whether its rule is; without one, the row is accepted.
unfoldable pub first_rule : List (Bool × Fault) → Found
first_rule [] = Accepted
first_rule (s ∷ rules) = cond s.0 (Err s.1) (first_rule rules)

-- The rules of row r, in the documents' order, each with its fault.
unfoldable pub rules_at : List Row → ℕ → List (Bool × Fault)
rules_at t r =
    (breaks12 t r, Kind r)
    ∷ (breaks13 t r, Unused r)
    ∷ (breaks14 t r, Named r)
    ∷ (breaks15 t r, Width r)
    ∷ (breaks40 t r, Value r)
    ∷ (breaks16 t r, Bounds r)
    ∷ (breaks17 t r, Count r)
    ∷ []

unfoldable pub fault_at : List Row → ℕ → Found
fault_at t r = first_rule (rules_at t r)

abbrev pub is_accepted : Found → Bool
is_accepted (Ok x) = true
is_accepted (Err f) = false

-- The fault of the lowest row that breaks a rule, of n rows from row r on.
unfoldable pub lowest_fault : List Row → ℕ → ℕ → Found
lowest_fault t r zero = Accepted
lowest_fault t r (suc n) = cond (is_accepted (fault_at t r)) (lowest_fault t (suc r) n) (fault_at t r)

-- The first fault of a table: 11, else that of the lowest row that breaks a rule.
unfoldable pub first_fault : List ℕ → Found
first_fault numbers = cond (breaks11 numbers) (Err Shape) (lowest_fault (rows_of numbers) 0 (length (rows_of numbers)))

-- 30: row absent or an equation
unfoldable pub absent : List Row → ℕ → Bool
absent t row = not_term t (length t) row
