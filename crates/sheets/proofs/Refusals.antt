-- The call's refusals of a sheet by the writing alone (document 01, "Where a call stops"): 20 to 23, each with its row, whatever room the table has, and
-- then 32. The number alone tells what the text is, and what the text is tells the whole record. Assumes nothing.
use mathlib.Core.Path.{◌≡◌, refl, ap}
use mathlib.Core.Bool.{Bool, true, false, cond}
use mathlib.Core.List.{List}
use Prim.Native.Nat.{ℕ, ◌<◌, ◌≤◌}
use native.Mathlib.Omega.{arith}
use lib.Dec.{eqb, ltb}
use lib.ListN.{length}
use borrow.Author.Tests.{ne_eqb, lt-ltb, ltb-true}
use Rattle.std.specs.Prelude.{Result, Ok, Err}
use Rattle.terms.specs.declared.Record.{Record}
use Rattle.terms.specs.declared.Row.{Row}
use Rattle.terms.specs.Calls.{refusal, completed}
use Rattle.sheets.specs.declared.SheetError.{SheetError}
use Rattle.sheets.specs.declared.SheetError.TheVariants.{TooLong, WrongNames, TooMany, WrongLine}
use Rattle.sheets.specs.Sheet.{sheet_found, sheet_rows}
use Rattle.sheets.specs.Call.{sheet_number, sheet_row, row_count, sheet_record}
use Rattle.sheets.specs.Writing.{SheetOf}
use Rattle.sheets.specs.Refused.{NamesOtherwise, WrongLineAt, LinesOver}
use Rattle.sheets.proofs.Written.{found_exactly, read_exactly, sheet-found}
use Rattle.sheets.proofs.SheetCall.{carried, answer_of, found_numbered, number_told}

module _ (text : List ℕ) (room : ℕ) where
  -- the record of an answer, and the answer of a record's number
  record-of : (s : Result ℕ SheetError) → sheet_found text ≡ s → (sheet_number s ≡ 0 → ⊥) → sheet_record text room ≡ refusal (sheet_number s) (sheet_row s)
  unfolding sheet_record
  record-of s e h = rw (e, ne_eqb (sheet_number s) 0 h)

  answered : (n : ℕ) → (n ≡ 32 → ⊥) → (sheet_record text room).outcome ≡ n → sheet_found text ≡ answer_of n (carried (sheet_found text))
  answered n h e = found_numbered text n (number_told text room n h e)

  pub refused_20 : ((sheet_record text room).outcome ≡ 20 → 16384 < length text) × (16384 < length text → sheet_record text room ≡ refusal 20 0)
  refused_20 = (
    λ e. (found_exactly text (Err TooLong)).0 (answered 20 (omega arith) e),
    λ h. record-of (Err TooLong) ((found_exactly text (Err TooLong)).1 h) (omega arith),
  )

  pub refused_21 : length text ≤ 16384
      → ((sheet_record text room).outcome ≡ 21 → NamesOtherwise text) × (NamesOtherwise text → sheet_record text room ≡ refusal 21 0)
  refused_21 short = (
    λ e. ((found_exactly text (Err WrongNames)).0 (answered 21 (omega arith) e)).1,
    λ h. record-of (Err WrongNames) ((found_exactly text (Err WrongNames)).1 (short, h)) (omega arith),
  )

  pub refused_22 : length text ≤ 16384
      → ((sheet_record text room).outcome ≡ 22 → WrongLineAt (sheet_record text room).row text)
      × ((k : ℕ) → WrongLineAt k text → sheet_record text room ≡ refusal 22 k)
  refused_22 short = (
    λ e.
        let k = carried (sheet_found text) in
        let f : sheet_found text ≡ Err (WrongLine k) = answered 22 (omega arith) e in
        let same : (sheet_record text room).row ≡ k = ap (λ (r : Record). r.row) (record-of (Err (WrongLine k)) f (omega arith)) in
        rw same ((found_exactly text (Err (WrongLine k))).0 f).1,
    λ k h. record-of (Err (WrongLine k)) ((found_exactly text (Err (WrongLine k))).1 (short, h)) (omega arith),
  )

  pub refused_23 : length text ≤ 16384
      → ((sheet_record text room).outcome ≡ 23 → LinesOver text) × (LinesOver text → sheet_record text room ≡ refusal 23 512)
  refused_23 short = (
    λ e. ((found_exactly text (Err TooMany)).0 (answered 23 (omega arith) e)).1,
    λ h. record-of (Err TooMany) ((found_exactly text (Err TooMany)).1 (short, h)) (omega arith),
  )

  -- 32 comes after these: it is for sheets alone, where the table has no room for 512 rows
  pub refused_32 : ((sheet_record text room).outcome ≡ 32 → (room < 2048) × SheetOf text (sheet_rows text))
      × ((rows : List Row) → SheetOf text rows → room < 2048 → sheet_record text room ≡ refusal 32 0)
  unfolding sheet_record
  refused_32 = (λ e. go (sheet_found text) (ltb room 2048) refl refl e, λ rows s h. rw (((read_exactly text rows).0 s).0, lt-ltb room 2048 h))
    where
      go : (s : Result ℕ SheetError) (t : Bool) → sheet_found text ≡ s → ltb room 2048 ≡ t
          → (cond (eqb (sheet_number s) 0) (cond t (refusal 32 0) (completed (row_count s) 0)) (refusal (sheet_number s) (sheet_row s))).outcome ≡ 32
          → (room < 2048) × SheetOf text (sheet_rows text)
      go (Err TooLong) t f p e = absurd (omega (arith, e))
      go (Err WrongNames) t f p e = absurd (omega (arith, e))
      go (Err TooMany) t f p e = absurd (omega (arith, e))
      go (Err (WrongLine k)) t f p e = absurd (omega (arith, e))
      go (Ok n) true f p e = (ltb-true room 2048 p, (sheet-found text n f).0)
      go (Ok n) false f p e = absurd (omega (arith, e))
