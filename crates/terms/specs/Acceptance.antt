-- What it says of a table that it is accepted, and what each of its refusals says (document 01, "Where a call stops", 11 to 17; document 02, 40): by the
-- rules alone, without a search for the first. `acceptance` and `fault_exactly` (proofs/Acceptance.antt) are the theorems.
use Rattle.std.specs.Prelude.{◌≡◌, true, false, List, ℕ, ◌%◌, ◌<◌, ◌≤◌, length, Ok, Err}
use Rattle.terms.specs.declared.Row.{Row}
use Rattle.terms.specs.declared.Fault.TheVariants.{Shape, Kind, Unused, Named, Width, Value, Bounds, Count}
use Rattle.terms.specs.Table.{rows_of}
use Rattle.terms.specs.Calls.{fault_number, fault_row}
use Rattle.terms.specs.Faults.{Found, Accepted, breaks12, breaks13, breaks14, breaks15, breaks40, breaks16, breaks17, first_fault}

-- A holds exactly if B does.
pub record Exactly (A B : Type 0) : Type 0 where
  pub to : A → B
  pub of : B → A

-- At most 512 whole rows.
pub record WholeRows (numbers : List ℕ) : Type 0 where
  pub whole : length numbers % 4 ≡ 0
  pub few : length (rows_of numbers) ≤ 512

-- Row r keeps the rules of a row down to this one, in the documents' order.
abbrev pub Keeps12 : List Row → ℕ → Type 0
Keeps12 t r = breaks12 t r ≡ false

abbrev pub Keeps13 : List Row → ℕ → Type 0
Keeps13 t r = Keeps12 t r × (breaks13 t r ≡ false)

abbrev pub Keeps14 : List Row → ℕ → Type 0
Keeps14 t r = Keeps13 t r × (breaks14 t r ≡ false)

abbrev pub Keeps15 : List Row → ℕ → Type 0
Keeps15 t r = Keeps14 t r × (breaks15 t r ≡ false)

abbrev pub Keeps40 : List Row → ℕ → Type 0
Keeps40 t r = Keeps15 t r × (breaks40 t r ≡ false)

abbrev pub Keeps16 : List Row → ℕ → Type 0
Keeps16 t r = Keeps40 t r × (breaks16 t r ≡ false)

-- All rules of a row.
abbrev pub KeepsAll : List Row → ℕ → Type 0
KeepsAll t r = Keeps16 t r × (breaks17 t r ≡ false)

-- Of at most 512 whole rows, row r is there and no row before it breaks a rule.
pub record Reaches (numbers : List ℕ) (r : ℕ) : Type 0 where
  pub rows : WholeRows numbers
  pub there : r < length (rows_of numbers)
  pub before : (i : ℕ) → i < r → KeepsAll (rows_of numbers) i

-- What each fault says of a table. Accepted: it is at most 512 whole rows, and none of them breaks a rule. Shape: it is not at most 512
-- whole rows. A fault of row r: no row before r breaks a rule, and the fault's rule is the first, in the documents' order, that r breaks.
abbrev pub Says : Found → List ℕ → Type 0
Says (Ok x) numbers = WholeRows numbers × ((r : ℕ) → r < length (rows_of numbers) → KeepsAll (rows_of numbers) r)
Says (Err Shape) numbers = WholeRows numbers → ⊥
Says (Err (Kind r)) numbers = Reaches numbers r × (breaks12 (rows_of numbers) r ≡ true)
Says (Err (Unused r)) numbers = Reaches numbers r × Keeps12 (rows_of numbers) r × (breaks13 (rows_of numbers) r ≡ true)
Says (Err (Named r)) numbers = Reaches numbers r × Keeps13 (rows_of numbers) r × (breaks14 (rows_of numbers) r ≡ true)
Says (Err (Width r)) numbers = Reaches numbers r × Keeps14 (rows_of numbers) r × (breaks15 (rows_of numbers) r ≡ true)
Says (Err (Value r)) numbers = Reaches numbers r × Keeps15 (rows_of numbers) r × (breaks40 (rows_of numbers) r ≡ true)
Says (Err (Bounds r)) numbers = Reaches numbers r × Keeps40 (rows_of numbers) r × (breaks16 (rows_of numbers) r ≡ true)
Says (Err (Count r)) numbers = Reaches numbers r × Keeps16 (rows_of numbers) r × (breaks17 (rows_of numbers) r ≡ true)

-- A table is refused with this number and this row.
abbrev pub Refused : List ℕ → ℕ → ℕ → Type 0
Refused numbers number row = (fault_number (first_fault numbers) ≡ number) × (fault_row (first_fault numbers) ≡ row)

-- Acceptance and each number of a table's refusals, both ways. No table is refused 18: document 02, (iii), took that number away.
pub record Acceptance (numbers : List ℕ) : Type 0 where
  pub accepted : Exactly (first_fault numbers ≡ Accepted) (Says Accepted numbers)
  pub refused_11 : Exactly (Refused numbers 11 512) (Says (Err Shape) numbers)
  pub refused_12 : (r : ℕ) → Exactly (Refused numbers 12 r) (Says (Err (Kind r)) numbers)
  pub refused_13 : (r : ℕ) → Exactly (Refused numbers 13 r) (Says (Err (Unused r)) numbers)
  pub refused_14 : (r : ℕ) → Exactly (Refused numbers 14 r) (Says (Err (Named r)) numbers)
  pub refused_15 : (r : ℕ) → Exactly (Refused numbers 15 r) (Says (Err (Width r)) numbers)
  pub refused_40 : (r : ℕ) → Exactly (Refused numbers 40 r) (Says (Err (Value r)) numbers)
  pub refused_16 : (r : ℕ) → Exactly (Refused numbers 16 r) (Says (Err (Bounds r)) numbers)
  pub refused_17 : (r : ℕ) → Exactly (Refused numbers 17 r) (Says (Err (Count r)) numbers)
  pub never_18 : (r : ℕ) → Refused numbers 18 r → ⊥
