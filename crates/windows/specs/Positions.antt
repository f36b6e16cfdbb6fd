-- What the theorems say of marker positions (document 02, (ii); proofs/Positions.antt). k is the number of the table's variables.
use Rattle.std.specs.Prelude.{◌≡◌, ◌≢◌, true, cond, List, [], ◌∷◌, ◌++◌, ℕ, suc, ◌+◌, ◌-◌, ◌≤◌, ◌<◌, leb, length, get_or, take, drop}
use Rattle.terms.specs.declared.Row.{Row}
use Rattle.terms.specs.Assignments.{Assignment}
use Rattle.terms.specs.Acceptance.{Exactly}
use Rattle.terms.specs.Calls.{refusal, completed, fault_record}
use Rattle.terms.specs.Faults.{Accepted, first_fault}
use Rattle.terms.specs.Table.{rows_of, row_numbers, row_at, bits_of, count_kind, counting, value_of, satisfies}
use Rattle.laws.specs.Binary.{binary}
use Rattle.laws.specs.Lists.{count_up, member, distinct}
use Rattle.answers.specs.Answer.{variable_widths}
use Rattle.answers.specs.Solve.{valid, unsatisfiable}
use Rattle.windows.specs.Words.{words_bits}
use Rattle.windows.specs.Call.{positions_of, positions_record, positions_after}

-- (a) Number i is one of them exactly if a window that starts there lies in the run and its pattern meets the table.
abbrev pub Found : List Row → List ℕ → ℕ → Type 0
Found t words i =
    Exactly (member i (positions_of t words) ≡ true)
    ((i + count_kind 0 t ≤ length words) × (satisfies t (words_bits (take (count_kind 0 t) (drop i words))) ≡ true))

-- (b) They rise strictly, so each stands once.
pub record Rising (starts : List ℕ) : Type 0 where
  pub rises : (j : ℕ) → suc j < length starts → get_or starts j 0 < get_or starts (suc j) 0
  pub once : distinct starts ≡ length starts

-- (c) An accepted call counts all of them as pieces, and each other number of the record is 0; the list gets the first of them, and what
-- follows is kept.
pub record Counted (table words : List ℕ) : Type 0 where
  pub record_is : positions_record table words ≡ completed (length (positions_of (rows_of table) words)) 0
  pub list_is : (list : List ℕ)
      → positions_after table words list
      ≡ take (length list) (positions_of (rows_of table) words) ++ drop (length (positions_of (rows_of table) words)) list

-- The refusals in their order, each with nothing written: those of the table; then 41, for no variable or one that is not 16 bits,
-- wherever it stands; then 42.
abbrev pub EachSixteen : List Row → Type 0
EachSixteen t = (v : ℕ) → v < length (variable_widths t) → get_or (variable_widths t) v 0 ≡ 16

pub record Refused (table words : List ℕ) : Type 0 where
  pub table_first : first_fault table ≢ Accepted → positions_record table words ≡ fault_record (first_fault table)
  pub no_variable : first_fault table ≡ Accepted → count_kind 0 (rows_of table) ≡ 0 → positions_record table words ≡ refusal 41 0
  pub other_width : first_fault table ≡ Accepted → (v : ℕ) → v < length (variable_widths (rows_of table)) → get_or (variable_widths (rows_of table)) v 0 ≢ 16
      → positions_record table words ≡ refusal 41 0
  pub long_run : first_fault table ≡ Accepted → 1 ≤ count_kind 0 (rows_of table) → EachSixteen (rows_of table) → 1048576 < length words
      → positions_record table words ≡ refusal 42 0
  pub kept : (list : List ℕ) → (positions_record table words).outcome ≢ 0 → positions_after table words list ≡ list

-- (d) Fewer words than a window has give none; so does a table that no pattern meets; one that every pattern meets gives all of 0 to
-- length - k.
pub record Ends (t : List Row) (words : List ℕ) : Type 0 where
  pub short_none : length words < count_kind 0 t → positions_of t words ≡ []
  pub never_none : unsatisfiable t ≡ true → positions_of t words ≡ []
  pub always_all : valid t ≡ true → positions_of t words ≡ count_up 0 (length words + 1 - count_kind 0 t)

-- (f) Tables with the same variables and the same patterns have the same positions, in every run.
abbrev pub SamePatterns : List Row → List Row → Type 0
SamePatterns t u = (p : List ℕ) → Assignment (bits_of t) p → satisfies t p ≡ satisfies u p

-- (g) Those of some starts whose window of k words ends by place n: those of a longer run that end inside the run are the run's.
unfoldable pub ending_by : ℕ → ℕ → List ℕ → List ℕ
ending_by k n [] = []
ending_by k n (i ∷ starts) = cond (leb (i + k) n) (i ∷ ending_by k n starts) (ending_by k n starts)

abbrev pub Overlap : List Row → List ℕ → List ℕ → Type 0
Overlap t words more = ending_by (count_kind 0 t) (length words) (positions_of t (words ++ more)) ≡ positions_of t words

-- (h) A table and the table with its revised equations left off have the same positions in every run, and the calls that are lent the one or the other
-- have the same record and the same list.
pub record SamePositions (table words : List ℕ) : Type 0 where
  pub same_starts : positions_of (counting (rows_of table)) words ≡ positions_of (rows_of table) words
  pub same_record : positions_record (row_numbers (counting (rows_of table))) words ≡ positions_record table words
  pub same_list : (list : List ℕ) → positions_after (row_numbers (counting (rows_of table))) words list ≡ positions_after table words list

-- (i) The first word of a window is variable 0: in the window that starts at word i, the value of variable j is word i + j, by its 16 bits.
-- Row r is variable j if j variables stand before it.
abbrev pub WordOfVariable : List Row → List ℕ → ℕ → Type 0
WordOfVariable t words i =
    (r j : ℕ) → r < length t → (row_at t r).kind ≡ 0 → count_kind 0 (take r t) ≡ j
    → value_of t (words_bits (take (count_kind 0 t) (drop i words))) r ≡ binary 16 (get_or words (i + j) 0)
