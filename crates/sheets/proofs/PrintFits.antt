-- The longest print fits into its room, and a buffer that was written so begins with the print. Assumes nothing.
use mathlib.Core.Path.{◌≡◌, refl, ◌∙◌, ap, ap₂}
use mathlib.Core.Bool.{Bool, true, false, cond}
use mathlib.Core.List.{List, [], ◌++◌}
use Prim.Native.Nat.{ℕ, ◌*◌, ◌≤◌}
use native.Mathlib.Omega.{arith}
use lib.Dec.{eqb}
use lib.ListN.{length, take, drop, replicate, length-append, length-take, length-replicate}
use lib.Seq.{take_at}
use borrow.Author.Tests.{eqb-true, le-ltb}
use Rattle.laws.specs.Buffers.{overwrite}
use Rattle.laws.proofs.Buffers.{overwrite-fits}
use Rattle.sheets.specs.Sheet.{sheet_rows}
use Rattle.sheets.specs.Print.{record_text, answer_text}
use Rattle.answers.specs.Answer.{answer_numbers}
use Rattle.answers.specs.Solve.{solved_rows}
use Rattle.sheets.specs.Program.{text_answer, program_record, program_text, print_length, print_after}
use Rattle.sheets.proofs.Lengths.{record_few, answer-few}
use Rattle.sheets.proofs.Solving.{pieces_fit, answer-taken}

-- What the writing of a whole print promises.
abbrev pub PrintIs : List ℕ → List ℕ → List ℕ → ℕ → Type 0
PrintIs text out out' len = (len ≡ print_length text (length out)) × (out' ≡ print_after text out)

numbers_few : (text : List ℕ) → (program_record text).outcome ≡ 2 → length (answer_numbers (solved_rows (sheet_rows text))) ≤ 24576
numbers_few text two =
    let old : List ℕ = replicate 24576 0 in
    let room : length old ≡ 24576 = length-replicate {A = ℕ} 24576 0 in
    omega (
      arith,
      ap length (answer-taken text old room two),
      length-take ((program_record text).pieces * 6) (text_answer text old),
      pieces_fit text old room two,
    )

-- Three lines and at most 4,096 more, of at most 80 bytes each.
pub print_fits : (text : List ℕ) → length (program_text text) ≤ 327920
unfolding program_text
print_fits text = go (eqb (program_record text).outcome 2) (λ z. numbers_few text (eqb-true (program_record text).outcome 2 z))
  where
    go : (b : Bool) → (b ≡ true → length (answer_numbers (solved_rows (sheet_rows text))) ≤ 24576)
        → length (record_text (program_record text) ++ cond b (answer_text (answer_numbers (solved_rows (sheet_rows text)))) []) ≤ 327920
    go true few =
        omega (
          arith,
          few refl,
          record_few (program_record text),
          length-append (record_text (program_record text)) (answer_text (answer_numbers (solved_rows (sheet_rows text)))),
          answer-few (answer_numbers (solved_rows (sheet_rows text))),
        )
    go false few = omega (arith, record_few (program_record text), length-append {A = ℕ} (record_text (program_record text)) [])

-- So a buffer with room for them begins with the print.
pub print_taken : (text out out' : List ℕ) (len : ℕ) → PrintIs text out out' len → 327920 ≤ length out
    → (len ≤ length out) × (take len out' ≡ program_text text)
unfolding print_length print_after
print_taken text out out' len p room =
    let f = le-ltb (length out) 327920 room in
    let is : len ≡ length (program_text text) = p.0 ∙ rw f refl in
    let after : out' ≡ overwrite (program_text text) out = p.1 ∙ rw f refl in (
      omega (arith, is, print_fits text),
      ap₂ (λ (n : ℕ) (l : List ℕ). take n l) is (after ∙ overwrite-fits (program_text text) out (omega (arith, print_fits text)))
          ∙ take_at (program_text text) (drop (length (program_text text)) out) (length (program_text text)) refl,
    )
