-- What the inner functions promise of two tables compared by the classes of their bits, h those of the first and g those of the second.
use Rattle.std.specs.Prelude.{◌≡◌, Bool, false, not, ◌&&◌, ◌||◌, List, ℕ, suc, ◌+◌, ◌≤◌, eqb, length, get_or, Result, Ok, Err, ⊤}
use Rattle.records.specs.declared.Refusal.{Refusal}
use Rattle.records.specs.Refusals.{refusal_record}
use Rattle.terms.specs.declared.Row.{Row}
use Rattle.terms.specs.Faults.{Accepted, first_fault}
use Rattle.terms.specs.Table.{rows_of, bits_of}
use Rattle.terms.specs.inner.Placed.{Placed}
use Rattle.laws.specs.Lists.{below}
use Rattle.answers.specs.Answer.{variable_widths}
use Rattle.answers.specs.Pairs.{equation_pairs}
use Rattle.answers.specs.Solve.{unsatisfiable}
use Rattle.answers.specs.inner.Classes.{run_all}
use Rattle.linking.specs.inner.Classes.{unlinked}
use Rattle.inclusion.specs.Call.{outcome_of, comparison}
use Rattle.inclusion.specs.Comparing.{StoppedWith}

-- Whether each source of so many bits and its representative in g are of one class of h.
unfoldable pub included : List ℕ → List ℕ → ℕ → Bool
included h g bits = below (bits + 2) (λ s. eqb (get_or h (get_or g s 0) 0) (get_or h s 0))

-- Whether the first's patterns are among the second's, where `never` and `none` tell whether each has none.
unfoldable pub among_links : Bool → Bool → List ℕ → List ℕ → ℕ → Bool
among_links never none h g bits = never || (not none && included h g bits)

-- The outcome, from both directions.
unfoldable pub links_outcome : Bool → Bool → List ℕ → List ℕ → ℕ → ℕ
links_outcome never none h g bits = outcome_of (among_links never none h g bits) (among_links none never g h bits)

-- A table has no patterns, or each link is its source's representative.
pub record Linked (t : List Row) (links : List ℕ) (never : Bool) : Type 0 where
  pub never_is : never ≡ unsatisfiable t
  pub classes_are : never ≡ false → links ≡ run_all (unlinked t) (equation_pairs t)

-- The links of a table that was placed, with room for the normal form of a side, one for each source.
abbrev pub Links : List ℕ → List ℕ → List ℕ → ℕ → List ℕ → List ℕ → Bool → Type 0
Links table widths places formRoom links links' never =
    Placed table widths places → 4096 ≤ formRoom → length links ≡ suc (suc (bits_of (rows_of table))) → Linked (rows_of table) links' never

-- The outcome for two accepted tables with so many variable bits each, of which the first was placed, where there is room for the second's places.
abbrev pub Compares : List ℕ → List ℕ → List ℕ → List ℕ → ℕ → ℕ → Type 0
Compares first second widths places bits found =
    Placed first widths places → 512 ≤ length widths → first_fault second ≡ Accepted → bits ≡ bits_of (rows_of first) → bits ≡ bits_of (rows_of second)
    → found ≡ comparison (rows_of first) (rows_of second)

-- Whether a comparison with a first table that is accepted goes on: then the second is accepted and has the same variables. Or where it stops,
-- with room for the work: at the second's fault or at other variables, with its record.
abbrev pub SecondStop : List ℕ → List ℕ → Result ⊤ Refusal → Type 0
SecondStop first second (Err r) = first_fault first ≡ Accepted → (work : List ℕ) → 16384 ≤ length work → StoppedWith first second work (refusal_record r)
SecondStop first second (Ok _) = (first_fault second ≡ Accepted) × (variable_widths (rows_of first) ≡ variable_widths (rows_of second))
