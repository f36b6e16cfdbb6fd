-- What the one function that writes to standard output asks for: the record that is printed is that of the program in calls. By computation.
-- Assumes nothing.
use mathlib.Core.Path.{◌≡◌, refl}
use mathlib.Core.Bool.{cond}
use mathlib.Core.List.{List, [], ◌++◌}
use Prim.Native.Nat.{ℕ}
use lib.Dec.{eqb}
use seplogic.Ra.Ura.{Ura}
use base.Logic.{SProp}
use prog.Memory.{Memory}
use prog.Routine.{Routine}
use types.Logic.{Logic}
use contract.Lifetimes.{Lfts}
use contract.Monad.{Fun}
use contract.Notation.{connectives}
use denote.Triple.Entry.{Args}
use Rattle.input.specs.Reading.{text_of, Whole}
use Rattle.answers.specs.Answer.{answer_numbers}
use Rattle.answers.specs.Solve.{solved_rows}
use Rattle.sheets.specs.Print.{record_text, answer_text}
use Rattle.sheets.specs.Program.{program_text}
use Rattle.sheets.specs.Sheet.{sheet_rows}
use Rattle.calls.specs.Calls.{program, record_of}
use Rattle.solve.specs.contracts.write_print as write-print

-- The text of the program's record for a text, and behind it the answer table for outcome 2.
abbrev pub printed : List ℕ → List ℕ
printed text =
    record_text (record_of (program text)) ++ cond (eqb (record_of (program text)).outcome 2) (answer_text (answer_numbers (solved_rows (sheet_rows text)))) []

pub print_asked : {M : Type 1} {𝓤 : Ura M} (𝓛 : Logic 𝓤) (mem : Memory → SProp 𝓤) (run : Routine → Fun 𝓤)
    → (κs : Lfts 1) (a : Args write-print.signature κs)
    → (write-print.clauses 𝓛 mem run κs a).requires tt
    ≡ (connectives 𝓤).◌∗◌ ((connectives 𝓤).⌜◌⌝ (Whole a.0)) ((connectives 𝓤).⌜◌⌝ (a.1.0.now ≡ printed (text_of a.0)))
unfolding program_text
print_asked 𝓛 mem run κs a = refl
