-- What the writer of the answer's rows computes place by place, over the lists that it reads: where variables begin, the classes, and
-- where tied bits have different neighbours.
use Rattle.std.specs.Prelude.{◌≡◌, Bool, true, not, ◌&&◌, cond, List, ℕ, suc, ◌+◌, ◌-◌, ◌%◌, ◌≤◌, ◌<◌, min, eqb, ltb, length, get_or, set}
use Rattle.terms.specs.Table.{rows_of, bits_of}
use Rattle.terms.specs.Faults.{Accepted, first_fault}
use Rattle.laws.specs.Buffers.{overwrite}
use Rattle.answers.specs.Pairs.{Pair}
use Rattle.answers.specs.inner.Classes.{rep, in_class, Represents}
use Rattle.laws.specs.Bools.{implies}
use Rattle.answers.specs.Answer.{begins, variable_at, variable_widths, appears, answer_rows}
use Rattle.answers.specs.inner.FourNumbers.{four_numbers}
use Rattle.laws.specs.Lists.{below, tally}
use Rattle.answers.specs.declared.AnswerRow.{AnswerRow}
use Rattle.answer_table.specs.inner.Rows.{four_put}
use Rattle.borders.specs.declared.Progress.{Progress}
use Rattle.borders.specs.inner.Rows.{PutsRows}

-- A list of zeros.
abbrev pub Zeros : List ℕ → Type 0
Zeros marks = (i : ℕ) → get_or marks i 0 ≡ 0

-- The table's variable bits were counted, and each place where a variable begins is marked, as is the end of the last variable.
pub record BeginsMarked (table marks : List ℕ) (n : ℕ) : Type 0 where
  pub bits : n ≡ bits_of (rows_of table)
  pub marks_are : (i : ℕ) → i ≤ n → get_or marks i 0 ≡ cond (begins (variable_widths (rows_of table)) i) 1 0

-- What the marking of an accepted table promises.
abbrev pub MarksBegins : List ℕ → List ℕ → List ℕ → ℕ → Type 0
MarksBegins table old marks n = first_fault table ≡ Accepted → Zeros old → bits_of (rows_of table) < length old → BeginsMarked table marks n

-- The representative of the neighbour of place k: side 0 the place before it, side 1 the place after it; 0 where a variable begins
-- between the two.
unfoldable pub beside_in : List ℕ → List ℕ → ℕ → ℕ → ℕ
beside_in marks classes side k = cond (eqb (get_or marks (k + side) 0) 0) (get_or classes (k + side + side + 1) 0) 0

-- Whether each of the first n places that representative r stands for has the same neighbour as its lowest place.
unfoldable pub even_at : List ℕ → List ℕ → ℕ → ℕ → ℕ → Bool
even_at marks classes side r n =
    below n (λ k. implies (eqb (rep classes (suc (suc k))) r) (eqb (beside_in marks classes side k) (beside_in marks classes side (r - 2))))

-- What the sweep over n places promises: a mark for each representative whose places have different neighbours; other numbers stay.
abbrev pub MarksUneven : List ℕ → List ℕ → ℕ → ℕ → List ℕ → List ℕ → Type 0
MarksUneven marks classes side n old new = (r : ℕ) → r < length old → get_or new r 0 ≡ cond (even_at marks classes side r n) (get_or old r 0) 1

-- The marks with place k taken.
unfoldable pub uneven_with : List ℕ → List ℕ → ℕ → ℕ → List ℕ → List ℕ
uneven_with marks classes side k old =
    set old (rep classes (suc (suc k)))
    (cond (eqb (beside_in marks classes side k) (beside_in marks classes side (rep classes (suc (suc k)) - 2))) (get_or old (rep classes (suc (suc k))) 0) 1)

-- Whether place i goes on with the row of the place before it.
unfoldable pub goes_in : List ℕ → List ℕ → List ℕ → List ℕ → ℕ → Bool
goes_in marks classes after before i =
    eqb (get_or marks i 0) 0
    && cond (ltb (rep classes (suc (suc i))) 2)
    (eqb (rep classes (suc i)) (rep classes (suc (suc i))))
    (not (ltb (rep classes (suc i)) 2) && eqb (get_or after (rep classes (suc i)) 0) 0 && eqb (get_or before (rep classes (suc (suc i))) 0) 0)

-- The number of the fresh piece that begins at a place with representative r, from the fresh pieces before each place.
unfoldable pub number_in : List ℕ → ℕ → ℕ
number_in numbers r = cond (ltb r 2) 0 (get_or numbers (r - 2) 0)

-- One place more: the last row goes on, or a row begins.
unfoldable pub step_in : List ℕ → List ℕ → List ℕ → Bool → Progress → ℕ → Progress
step_in marks classes numbers on p i =
    cond on
    (record {
      begun = (p.begun + get_or marks i 0) % 65536;
      rows = p.rows;
      fresh = p.fresh;
      variable = p.variable;
      kind = p.kind;
      width = (p.width + 1) % 65536;
      number = p.number;
    })
    (record {
      begun = (p.begun + get_or marks i 0) % 65536;
      rows = (p.rows + 1) % 65536;
      fresh = (p.fresh + cond (eqb (rep classes (suc (suc i))) (suc (suc i))) 1 0) % 65536;
      variable = (p.begun + get_or marks i 0) % 65536 - 1;
      kind = min (rep classes (suc (suc i))) 2;
      width = 1;
      number = number_in numbers (rep classes (suc (suc i)));
    })

-- The last row of the places passed, and the answer table with it written; no place has none.
abbrev pub row_of : Progress → AnswerRow
row_of p = record { variable = p.variable; kind = p.kind; width = p.width; fresh = p.number }

unfoldable pub row_written : List ℕ → Progress → List ℕ
row_written answer p = cond (eqb p.rows 0) answer (four_put answer (p.rows - 1) (row_of p))

-- The lists that the pass over the places reads: the n places of the variables ws, their classes, the places where a variable begins,
-- and the representatives whose places have different neighbours after or before them.
pub record Bordered (n : ℕ) (ws classes : List ℕ) (seen : List Pair) (marks after before : List ℕ) : Type 0 where
  pub few : n ≤ 4096
  pub classed : Represents n classes seen
  pub apart : rep classes 1 ≡ 1
  pub from : begins ws 0 ≡ true
  pub counted : (i : ℕ) → i < n → suc (variable_at ws i) ≡ tally (suc i) (begins ws)
  pub marks_are : (i : ℕ) → i ≤ n → get_or marks i 0 ≡ cond (begins ws i) 1 0
  pub after_is : (r : ℕ) → r < n + 2 → get_or after r 0 ≡ cond (even_at marks classes 1 r n) 0 1
  pub before_is : (r : ℕ) → r < n + 2 → get_or before r 0 ≡ cond (even_at marks classes 0 r n) 0 1

-- The rows of n places were written: how many, how many fresh pieces, and the answer table.
pub record PlacesPut (n : ℕ) (ws classes answer answer' : List ℕ) (pieces fresh : ℕ) : Type 0 where
  pub pieces_are : pieces ≡ length (answer_rows n ws (in_class classes))
  pub fresh_are : fresh ≡ tally n (appears n ws (in_class classes))
  pub answer_is : answer' ≡ overwrite (four_numbers (answer_rows n ws (in_class classes))) answer

-- What the pass over the places promises, where `numbers` has room for a number for each place.
abbrev pub PutsPlaces : ℕ → List ℕ → List ℕ → List ℕ → List ℕ → List ℕ → List ℕ → List ℕ → ℕ → ℕ → Type 0
PutsPlaces n marks classes after before numbers answer answer' pieces fresh =
    (ws : List ℕ) (seen : List Pair) → Bordered n ws classes seen marks after before → n ≤ length numbers
    → PlacesPut n ws classes answer answer' pieces fresh

-- What the writing of a table's rows promises, where the lists that help have a number for each source, and those of marks are 0.
abbrev pub PutsWith : List ℕ → List ℕ → List ℕ → List ℕ → List ℕ → ℕ → List ℕ → List ℕ → ℕ → ℕ → Type 0
PutsWith table classes marks after before numbersRoom answer answer' pieces fresh =
    Zeros marks → Zeros after → Zeros before → length classes ≤ length marks → length classes ≤ length after → length classes ≤ length before
    → length classes ≤ numbersRoom → PutsRows table classes answer answer' pieces fresh
