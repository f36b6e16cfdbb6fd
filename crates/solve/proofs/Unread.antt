-- What follows the first 16,385 bytes of an input changes nothing that is printed: the sheet is too long by then. So the print of what was
-- read is that of the whole input. Assumes nothing.
use mathlib.Core.Path.{◌≡◌, refl, sym, ◌∙◌, ap}
use mathlib.Core.Logic.{⊎_elim}
use mathlib.Core.Bool.{Bool, true, false}
use mathlib.Core.List.{List, []}
use Prim.Native.Nat.{ℕ}
use native.Mathlib.Omega.{arith}
use lib.Dec.{ltb}
use lib.ListN.{length, take}
use lib.Seq.{length-take-le, take_all}
use borrow.Author.Tests.{ltb-true, ltb-false, lt-ltb}
use Rattle.std.specs.Prelude.{Err}
use Rattle.input.specs.declared.Input.{Input}
use Rattle.input.specs.Reading.{text_of, Whole, ReadFrom}
use Rattle.input.proofs.Reading.{whole_or_first}
use Rattle.sheets.specs.declared.SheetError.TheVariants.{TooLong}
use Rattle.sheets.specs.Sheet.{sheet_found, sheet_rows}
use Rattle.sheets.specs.Call.{sheet_record}
use Rattle.sheets.specs.Program.{text_record, program_record, program_text}

too_long : (text : List ℕ) → ltb 16384 (length text) ≡ true → (sheet_found text ≡ Err TooLong) × (sheet_rows text ≡ [])
unfolding sheet_found sheet_rows
too_long text e = (rw e, rw e)

-- what is printed depends on what is found and on the rows
same_print : (s t : List ℕ) → sheet_found s ≡ sheet_found t → sheet_rows s ≡ sheet_rows t → program_text s ≡ program_text t
unfolding program_text program_record text_record sheet_record
same_print s t f r = rw (f, r)

pub rest_unread : (input : List ℕ) → program_text (take 16385 input) ≡ program_text input
rest_unread input = go (ltb 16384 (length input)) refl
  where
    go : (t : Bool) → ltb 16384 (length input) ≡ t → program_text (take 16385 input) ≡ program_text input
    go true e =
        let long = length-take-le 16385 input (omega (arith, ltb-true 16384 (length input) e)) in
        let cut = too_long (take 16385 input) (lt-ltb 16384 (length (take 16385 input)) (omega (arith, long))) in
        let all = too_long input e in
        same_print (take 16385 input) input (cut.0 ∙ sym all.0) (cut.1 ∙ sym all.1)
    go false e = ap program_text (take_all 16385 input (omega (arith, ltb-false 16384 (length input) e)))

pub whole_print : (input : List ℕ) (i : Input) → Whole i → ReadFrom input i → program_text (text_of i) ≡ program_text input
whole_print input i w r =
    ⊎_elim (λ e. ap program_text e) (λ e. ap program_text e ∙ rest_unread input) (whole_or_first input i w r)
