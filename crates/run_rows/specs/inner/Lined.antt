-- What the functions that write an answer's rows from runs promise.
use Rattle.std.specs.Prelude.{◌≡◌, ◌⊎◌, Bool, true, cond, List, ℕ, suc, ◌+◌, ◌-◌, ◌≤◌, ◌<◌, length, get_or}
use Rattle.terms.specs.Table.{rows_of, bits_of}
use Rattle.answers.specs.Answer.{variable_widths, begins}
use Rattle.answers.specs.inner.Classes.{rep}
use Rattle.borders.specs.inner.Rows.{PutsRows}
use Rattle.borders.specs.inner.Borders.{goes_in, MarksUneven, PutsPlaces, PutsWith}
use Rattle.runs.specs.inner.Runs.{Runs, Seated}

-- The classes c of n places in runs, each link a source's representative, and what they link to in runs too; S says where a variable begins.
pub record Settled (n : ℕ) (S : ℕ → Bool) (c last first : List ℕ) : Type 0 where
  pub few : n ≤ 4096
  pub low : (i : ℕ) → rep c i ≤ i
  pub root : (i : ℕ) → rep c (rep c i) ≡ rep c i
  pub runs : Runs (λ x. S (x - 2)) (n + 2) c last first
  pub seated : Seated (λ x. S (x - 2)) (n + 2) c last

-- The marks say where a variable begins, the end of the last one among these.
abbrev pub MarksAre : ℕ → (ℕ → Bool) → List ℕ → Type 0
MarksAre n S marks = (i : ℕ) → i ≤ n → get_or marks i 0 ≡ cond (S i) 1 0

-- The marks of the first k places, one run more: that of the places k to t.
abbrev pub MarksRun : List ℕ → List ℕ → ℕ → ℕ → ℕ → List ℕ → List ℕ → Type 0
MarksRun marks c side k t u u' =
    (n : ℕ) (S : ℕ → Bool) (last first u₀ : List ℕ) → MarksAre n S marks → Settled n S c last first → (side ≡ 0) ⊎ (side ≡ 1) → n + 2 ≤ length u₀ → k ≤ t → t < n
    → ((j : ℕ) → k ≤ j → j < t → suc (suc j) < get_or last (suc (suc j)) 0) → length u ≡ length u₀ → MarksUneven marks c side k u₀ u → MarksUneven marks c side (t + 1) u₀ u'

-- All runs: the marks that a sweep over all places makes.
abbrev pub MarksRuns : List ℕ → List ℕ → List ℕ → ℕ → ℕ → List ℕ → List ℕ → Type 0
MarksRuns marks c last side n old new =
    (S : ℕ → Bool) (first : List ℕ) → MarksAre n S marks → Settled n S c last first → (side ≡ 0) ⊎ (side ≡ 1) → n + 2 ≤ length old → MarksUneven marks c side n old new

-- No mark stands between a representative and the next; nor between those of k from r on.
abbrev pub IsClear : List ℕ → List ℕ → ℕ → Type 0
IsClear after before r = (get_or after r 0 ≡ 0) × (get_or before (r + 1) 0 ≡ 0)

abbrev pub AllClear : List ℕ → List ℕ → ℕ → ℕ → Type 0
AllClear after before r k = (j : ℕ) → j < k → IsClear after before (r + j)

-- The m places from place i on go on with the row of the place before.
abbrev pub Stretches : List ℕ → List ℕ → List ℕ → List ℕ → ℕ → ℕ → Type 0
Stretches c last after before i m =
    (n : ℕ) (S : ℕ → Bool) (marks first : List ℕ) → MarksAre n S marks → Settled n S c last first → 1 ≤ i → (j : ℕ) → j < m → i + j < n → goes_in marks c after before (i + j) ≡ true

-- What crate borders promises of a pass over the places, of the lists that help, and of a table's rows, where the classes are in runs.
abbrev pub PutsInRuns : ℕ → List ℕ → List ℕ → List ℕ → List ℕ → List ℕ → List ℕ → List ℕ → List ℕ → ℕ → ℕ → Type 0
PutsInRuns n marks c last after before numbers answer answer' pieces fresh =
    (S : ℕ → Bool) (first : List ℕ) → MarksAre n S marks → Settled n S c last first → PutsPlaces n marks c after before numbers answer answer' pieces fresh

abbrev pub SettledRows : List ℕ → List ℕ → List ℕ → List ℕ → Type 0
SettledRows table c last first = Settled (bits_of (rows_of table)) (begins (variable_widths (rows_of table))) c last first

abbrev pub PutsWithRuns : List ℕ → List ℕ → List ℕ → List ℕ → List ℕ → List ℕ → ℕ → List ℕ → List ℕ → ℕ → ℕ → Type 0
PutsWithRuns table c last marks after before numbersRoom answer answer' pieces fresh =
    (first : List ℕ) → SettledRows table c last first → PutsWith table c marks after before numbersRoom answer answer' pieces fresh

abbrev pub PutsRowsInRuns : List ℕ → List ℕ → List ℕ → List ℕ → List ℕ → ℕ → ℕ → Type 0
PutsRowsInRuns table c last answer answer' pieces fresh = (first : List ℕ) → SettledRows table c last first → PutsRows table c answer answer' pieces fresh
