-- How many rows an accepted sheet has; the reading call's record and table, for each way in which it ends.
use mathlib.Core.Path.{◌≡◌, refl, sym, ◌∙◌, ap}
use mathlib.Core.Bool.{Bool, true, false, cond}
use mathlib.Core.List.{List, [], ◌∷◌}
use Prim.Native.Nat.{ℕ, zero, suc, ◌*◌, ◌<◌, ◌≤◌}
use native.Mathlib.Omega.{arith}
use lib.Dec.{eqb, ltb}
use lib.ListN.{length, take, drop}
use lib.Seq.{take_at}
use borrow.Author.Tests.{lt-ltb, le-ltb, eq-eqb, ne_eqb, eqb-true}
use Rattle.std.specs.Prelude.{Result, Ok, Err}
use Rattle.terms.specs.declared.Record.{Record}
use Rattle.laws.specs.Buffers.{overwrite}
use Rattle.terms.specs.Calls.{refusal, completed}
use Rattle.laws.proofs.Buffers.{overwrite-fits}
use Rattle.sheets.specs.declared.Order.{Order}
use Rattle.sheets.specs.declared.SheetError.{SheetError}
use Rattle.sheets.specs.declared.SheetError.TheVariants.{TooLong, WrongNames, TooMany, WrongLine}
use Rattle.sheets.specs.Text.{LineFound, Values, NoLine, NamesFound, InOrder, NoNames, line_at, names_at}
use Rattle.terms.specs.Table.{row_numbers}
use Rattle.sheets.specs.Sheet.{by_line, by_names, rows_from, sheet_found, sheet_rows}
use Rattle.sheets.specs.Call.{sheet_number, sheet_row, row_count, sheet_record, table_after}
use Rattle.terms.proofs.RowNumbers.{row_numbers_length}
use Rattle.sheets.proofs.Written.{sheet-found}

-- an answer by its number, and by the line or the count of rows that it has with it
abbrev pub carried : Result ℕ SheetError → ℕ
carried (Err TooLong) = 0
carried (Err WrongNames) = 0
carried (Err TooMany) = 0
carried (Err (WrongLine k)) = k
carried (Ok n) = n

abbrev pub answer_of : ℕ → ℕ → Result ℕ SheetError
answer_of number k =
    cond (eqb number 20) (Err TooLong) (cond (eqb number 21) (Err WrongNames) (cond (eqb number 22) (Err (WrongLine k)) (cond (eqb number 23) (Err TooMany) (Ok k))))

answer_is : (s : Result ℕ SheetError) → s ≡ answer_of (sheet_number s) (carried s)
answer_is (Err TooLong) = refl
answer_is (Err WrongNames) = refl
answer_is (Err TooMany) = refl
answer_is (Err (WrongLine k)) = refl
answer_is (Ok n) = refl

pub found_numbered : (text : List ℕ) (n : ℕ) → sheet_number (sheet_found text) ≡ n → sheet_found text ≡ answer_of n (carried (sheet_found text))
found_numbered text n e = answer_is (sheet_found text) ∙ rw e

-- the number in the record is the answer's, unless it is 32
pub number_told : (text : List ℕ) (room n : ℕ) → (n ≡ 32 → ⊥) → (sheet_record text room).outcome ≡ n → sheet_number (sheet_found text) ≡ n
unfolding sheet_record
number_told text room n h e = go (eqb (sheet_number (sheet_found text)) 0) (ltb room 2048) refl e
  where
    go : (t u : Bool) → eqb (sheet_number (sheet_found text)) 0 ≡ t
        → (cond t (cond u (refusal 32 0) (completed (row_count (sheet_found text)) 0)) (refusal (sheet_number (sheet_found text)) (sheet_row (sheet_found text)))).outcome ≡ n
        → sheet_number (sheet_found text) ≡ n
    go true true p e = absurd (h (sym e))
    go true false p e = eqb-true (sheet_number (sheet_found text)) 0 p ∙ e
    go false u p e = e

-- as many rows as were found
sheet_counted : (text : List ℕ) → sheet_number (sheet_found text) ≡ 0 → row_count (sheet_found text) ≡ length (sheet_rows text)
sheet_counted text h =
    let n = carried (sheet_found text) in
    let f : sheet_found text ≡ Ok n = found_numbered text 0 h in
    ap row_count f ∙ sym (sheet-found text n f).1

-- at most 512 rows
rows_few : (m : ℕ) (text : List ℕ) (order : Order) (at : ℕ) → length (rows_from m text order at) ≤ m
unfolding rows_from
rows_few zero text order at = omega arith
rows_few (suc m) text order at = go (ltb at (length text)) (line_at text order at) (rows_few m text order)
  where
    go : (b : Bool) (line : LineFound) → ((next : ℕ) → length (rows_from m text order next) ≤ m)
        → length (cond b (by_line line (λ row next. row ∷ rows_from m text order next) []) []) ≤ suc m
    go true (Values row next) later = omega (arith, later next)
    go true NoLine later = omega arith
    go false line later = omega arith

pub sheet_few : (text : List ℕ) → length (sheet_rows text) ≤ 512
unfolding sheet_rows
sheet_few text = go (ltb 16384 (length text)) (names_at text 0)
  where
    go : (b : Bool) (names : NamesFound) → length (cond b [] (by_names names (λ order at. rows_from 512 text order at) [])) ≤ 512
    go true names = omega arith
    go false (InOrder order at) = rows_few 512 text order at
    go false NoNames = omega arith

-- the call's record and table, for each way in which it ends
module _ (text old : List ℕ) where
  abbrev pub Answer : Record → List ℕ → Type 0
  Answer r out = (r ≡ sheet_record text (length old)) × (out ≡ table_after text old)

  refused : (r : Record) → r ≡ sheet_record text (length old) → eqb r.outcome 0 ≡ false → Answer r old
  unfolding table_after
  refused r e z = (e, rw (← e, z))

  pub stop_sheet : (sheet_number (sheet_found text) ≡ 0 → ⊥) → (r : Record) → r ≡ refusal (sheet_number (sheet_found text)) (sheet_row (sheet_found text)) → Answer r old
  unfolding sheet_record
  stop_sheet h r e = let n = ne_eqb (sheet_number (sheet_found text)) 0 h in refused r (e ∙ rw n) (rw e n)

  module _ (h : sheet_number (sheet_found text) ≡ 0) where
    pub stop_room : length old < 2048 → (r : Record) → r ≡ refusal 32 0 → Answer r old
    unfolding sheet_record
    stop_room l r e = refused r (e ∙ rw (eq-eqb (sheet_number (sheet_found text)) 0 h, lt-ltb (length old) 2048 l)) (rw e)

    taken : (base : List ℕ) → length base ≡ 2048
        → take (row_count (sheet_found text) * 4) (overwrite (row_numbers (sheet_rows text)) base) ≡ row_numbers (sheet_rows text)
    taken base n =
        let rows = sheet_rows text in
        let c = sheet_counted text h in
        ap (take (row_count (sheet_found text) * 4)) (overwrite-fits (row_numbers rows) base (omega (arith, row_numbers_length rows, sheet_few text)))
        ∙ take_at (row_numbers rows) (drop (length (row_numbers rows)) base) (row_count (sheet_found text) * 4) (omega (arith, row_numbers_length rows))

    pub sheet_read : 2048 ≤ length old → (base : List ℕ) → length base ≡ 2048 → (r : Record) (out : List ℕ) → r ≡ completed (row_count (sheet_found text)) 0
        → out ≡ overwrite (take (row_count (sheet_found text) * 4) (overwrite (row_numbers (sheet_rows text)) base)) old → Answer r out
    unfolding sheet_record table_after
    sheet_read l base n r out e o =
        let z = eq-eqb (sheet_number (sheet_found text)) 0 h in
        let m = le-ltb (length old) 2048 l in
        (e ∙ rw (z, m), o ∙ ap (λ (k : List ℕ). overwrite k old) (taken base n) ∙ rw (z, m))
