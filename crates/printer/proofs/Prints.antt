-- The record's text, and for outcome 2 the answer table's text behind it, are what the program prints. Assumes nothing.
use mathlib.Core.Path.{◌≡◌, refl, sym, ◌∙◌, ap, ap₂}
use mathlib.Core.Bool.{false}
use mathlib.Core.List.{List, ◌++◌, append-nil}
use Prim.Native.Nat.{ℕ, ◌+◌, ◌*◌, ◌/◌, ◌<◌, ◌≤◌}
use native.Mathlib.Omega.{arith}
use lib.Dec.{eqb}
use lib.ListN.{length, take, length-take}
use borrow.Author.Tests.{ne_eqb, lt-ltb, le-ltb}
use Rattle.terms.specs.declared.Record.{Record}
use Rattle.sheets.specs.Sheet.{sheet_rows}
use Rattle.sheets.specs.Print.{record_text, answer_text}
use Rattle.answers.specs.Answer.{answer_numbers}
use Rattle.answers.specs.Solve.{solved_rows}
use Rattle.sheets.specs.inner.Printed.{written}
use Rattle.sheets.specs.Program.{text_record, text_answer, program_record, program_text, print_length, print_after}
use Rattle.sheets.proofs.Printed.{Put, PutIn, put_there, put_kept, both_put}
use Rattle.sheets.proofs.Lengths.{record_few}
use Rattle.sheets.proofs.PrintFits.{PrintIs}
use Rattle.sheets.proofs.Solving.{program_is, pieces_fit, answer-taken}

-- too little room
pub prints_none : (text out : List ℕ) → length out < 327920 → PrintIs text out out 0
unfolding print_length print_after
prints_none text out h = let t = lt-ltb (length out) 327920 h in (rw t refl, rw t refl)

-- room for the longest print
module _ (text out : List ℕ) (room : 327920 ≤ length out) where
  whole : (l out' : List ℕ) (len : ℕ) → program_text text ≡ l → Put out 0 l out' len → PrintIs text out out' len
  unfolding written print_length print_after
  whole l out' len e p = rw (le-ltb (length out) 327920 room, e) (omega (arith, p.place), p.content)

  -- the record of the text, and the answer table that was lent for it
  module _ (old : List ℕ) (lent : length old ≡ 24576) (r : Record) (found : r ≡ text_record text (length old)) where
    is : r ≡ program_record text
    is = found ∙ program_is text old lent

    outcome_is : (n : ℕ) → r.outcome ≡ n → (program_record text).outcome ≡ n
    outcome_is n e = ap (λ (x : Record). x.outcome) (sym is) ∙ e

    -- any other outcome: the record alone
    pub prints_record : (out' : List ℕ) (len : ℕ) → (r.outcome ≡ 2 → ⊥) → PutIn 160 out 0 (record_text r) out' len
        → PrintIs text out out' len
    unfolding program_text
    prints_record out' len h p =
        let f : eqb (program_record text).outcome 2 ≡ false =
        ne_eqb (program_record text).outcome 2 (λ e. h (ap (λ (x : Record). x.outcome) is ∙ e)) in
        whole (record_text r) out' len (rw (f, append-nil) (ap record_text (sym is)))
        (put_there 160 out 0 (record_text r) out' len (omega arith) p)

    -- outcome 2: as many rows as its pieces, and they have room
    pub rows_fit : r.outcome ≡ 2 → r.pieces * 6 ≤ 24576
    rows_fit two = omega (arith, ap (λ (x : Record). x.pieces) is, pieces_fit text old lent (outcome_is 2 two))

    pub prints_answer : (answer out₁ out₂ : List ℕ) (b₁ b₂ : ℕ) → r.outcome ≡ 2 → answer ≡ text_answer text old
        → PutIn 160 out 0 (record_text r) out₁ b₁
        → PutIn ((length (take (r.pieces * 6) answer) / 6 + 1) * 80) out₁ b₁ (answer_text (take (r.pieces * 6) answer)) out₂ b₂
        → PrintIs text out out₂ b₂
    unfolding program_text
    prints_answer answer out₁ out₂ b₁ b₂ two after p q =
        let rows = take (r.pieces * 6) answer in
        let taken : rows ≡ answer_numbers (solved_rows (sheet_rows text)) =
        ap₂ (λ (x : Record) (l : List ℕ). take (x.pieces * 6) l) is after ∙ answer-taken text old lent (outcome_is 2 two) in
        let first : Put out 0 (record_text r) out₁ b₁ = put_there 160 out 0 (record_text r) out₁ b₁ (omega arith) p in
        let kept : length out₁ ≡ length out = put_kept out out₁ 0 b₁ (record_text r) first in
        let few = record_few r in
        let second : Put out₁ b₁ (answer_text rows) out₂ b₂ =
        put_there ((length rows / 6 + 1) * 80) out₁ b₁ (answer_text rows) out₂ b₂
        (omega (arith, first.place, rows_fit two, length-take (r.pieces * 6) answer)) q in
        whole (record_text r ++ answer_text rows) out₂ b₂ (rw (← is, two, taken) refl)
        (both_put out out₁ out₂ 0 b₁ b₂ (record_text r) (answer_text rows) (omega arith) first second)
