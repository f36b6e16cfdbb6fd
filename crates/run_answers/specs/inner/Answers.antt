-- What the functions promise that answer from equations taken in whole runs.
use Rattle.std.specs.Prelude.{◌≡◌, List, ℕ, ◌*◌, ◌≤◌, length}
use Rattle.terms.specs.declared.Record.{Record}
use Rattle.terms.specs.Table.{rows_of, bits_of}
use Rattle.terms.specs.Faults.{Accepted, first_fault}
use Rattle.solver.specs.inner.Call.{Concluded, Answered}
use Rattle.run_classes.specs.inner.Classes.{TakenInRuns}

-- What is made of equations taken in runs, whatever room the answer table has.
abbrev pub ConcludesInRuns : List ℕ → ℕ → ℕ → ℕ → List ℕ → List ℕ → List ℕ → List ℕ → List ℕ → Record → Type 0
ConcludesInRuns table bits row ties links last first answer answer' found =
    first_fault table ≡ Accepted → bits ≡ bits_of (rows_of table) → TakenInRuns (rows_of table) links last first row ties → Concluded (rows_of table) answer answer' found

-- The same with the homes, with room for the first row of each fresh piece and for the answer, six numbers for each variable bit.
abbrev pub AnswersInRuns : List ℕ → ℕ → ℕ → ℕ → List ℕ → List ℕ → List ℕ → ℕ → List ℕ → List ℕ → Record → Type 0
AnswersInRuns table bits row ties links last first firstsRoom answer answer' found =
    first_fault table ≡ Accepted → bits ≡ bits_of (rows_of table) → 4096 ≤ firstsRoom → bits * 6 ≤ length answer → TakenInRuns (rows_of table) links last first row ties
    → Answered (rows_of table) answer answer' found
