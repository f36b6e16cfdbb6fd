-- The call's record and table for each way in which it ends, by what reading the rows gave. Assumes nothing.
use mathlib.Core.Path.{◌≡◌, sym, ◌∙◌, ap}
use mathlib.Core.List.{List}
use Prim.Native.Nat.{ℕ, ◌*◌, ◌<◌, ◌≤◌}
use native.Mathlib.Omega.{arith}
use lib.ListN.{length, take}
use Rattle.std.specs.Prelude.{Result, Ok, Err}
use Rattle.laws.specs.Buffers.{overwrite}
use Rattle.terms.specs.declared.Record.{Record}
use Rattle.terms.specs.Calls.{refusal, completed}
use Rattle.terms.specs.Table.{row_numbers}
use Rattle.sheets.specs.declared.SheetError.{SheetError}
use Rattle.sheets.specs.declared.SheetError.TheVariants.{TooLong, WrongNames, TooMany, WrongLine}
use Rattle.sheets.specs.Sheet.{sheet_found, sheet_rows}
use Rattle.sheets.specs.Call.{sheet_number, sheet_row, row_count}
use Rattle.sheets.proofs.SheetCall.{Answer, stop_sheet, stop_room, sheet_read}

-- the number of a refusal is not 0
numbered : (e : SheetError) → sheet_number (Err e) ≡ 0 → ⊥
numbered TooLong z = omega (arith, z)
numbered WrongNames z = omega (arith, z)
numbered TooMany z = omega (arith, z)
numbered (WrongLine k) z = omega (arith, z)

module _ (text old : List ℕ) where
  pub told : (e : SheetError) → Err e ≡ sheet_found text → (r : Record) → r ≡ refusal (sheet_number (Err e)) (sheet_row (Err e)) → Answer text old r old
  told e f r h =
      stop_sheet text old (λ z. numbered e (ap sheet_number f ∙ z)) r (h ∙ ap (λ (s : Result ℕ SheetError). refusal (sheet_number s) (sheet_row s)) f)

  module _ (n : ℕ) (f : Ok n ≡ sheet_found text) where
    pub no_room : length old < 2048 → (r : Record) → r ≡ refusal 32 0 → Answer text old r old
    no_room l r h = stop_room text old (sym (ap sheet_number f)) l r h

    pub all_read : 2048 ≤ length old → (base : List ℕ) → length base ≡ 2048 → (r : Record) (out : List ℕ) → r ≡ completed n 0
        → out ≡ overwrite (take (n * 4) (overwrite (row_numbers (sheet_rows text)) base)) old → Answer text old r out
    all_read l base b r out h o =
        let count : n ≡ row_count (sheet_found text) = ap row_count f in
        sheet_read text old (sym (ap sheet_number f)) l base b r out (h ∙ ap (λ (k : ℕ). completed k 0) count)
        (o ∙ ap (λ (k : ℕ). overwrite (take (k * 4) (overwrite (row_numbers (sheet_rows text)) base)) old) count)
