-- The lines of a page by their places: the names, and below them the listed lines. Assumes nothing.
use mathlib.Core.Path.{◌≡◌, refl, ◌∙◌, ap}
use mathlib.Core.Bool.{Bool, true, false, cond}
use mathlib.Core.List.{List, [], ◌∷◌, map}
use mathlib.Core.Logic.{◌≢◌}
use Prim.Native.Nat.{ℕ, zero, suc, ◌/◌, ◌<◌, ◌≤◌, min}
use native.Mathlib.Omega.{arith}
use lib.Dec.{ltb}
use lib.ListN.{length, get_or, replicate, length-map, length-take, length-replicate, get_or-replicate, get_or-eq_default}
use lib.Seq.{get_or-take}
use borrow.Author.Tests.{lt-ltb, le-ltb, eq-eqb, ne_eqb}
use Rattle.laws.specs.Lists.{count_up}
use Rattle.laws.proofs.CountUp.{count-up, count_read}
use Rattle.terms.specs.declared.Record.{Record}
use Rattle.answers.specs.declared.AnswerRow.{AnswerRow}
use Rattle.answers.specs.Answer.{answer_rows_of, answer_row_at, no_answer_row}
use Rattle.answers.proofs.AnswerNumbers.{answer_length}
use Rattle.result_sheets.specs.Page.{piece_line, outcome_line, blank_line, page_pieces, listed, page_count, page_line, page_lines}

module _ (found : Record) (answer : List ℕ) where
  pub pieces_length : length (page_pieces found answer) ≡ min found.pieces (length answer / 6)
  unfolding page_pieces
  pieces_length = length-take found.pieces (answer_rows_of answer) ∙ ap (min found.pieces) (answer_length answer)

  pub listed_solved : found.outcome ≡ 2 → listed found answer ≡ map piece_line (page_pieces found answer)
  unfolding listed
  listed_solved e = rw (eq-eqb found.outcome 2 e)

  pub listed_other : found.outcome ≢ 2 → listed found answer ≡ outcome_line found.outcome ∷ []
  unfolding listed
  listed_other e = rw (ne_eqb found.outcome 2 e)

  -- a line of a page that is there, and of one that is not
  module _ (k l : ℕ) (h : l < 60) where
    pub line_there : k < page_count found answer → get_or (page_lines found answer k) l [] ≡ page_line found answer k l
    unfolding page_lines
    line_there p = rw (lt-ltb k (page_count found answer) p) (count_read (page_line found answer k) 0 60 l [] h ∙ ap (page_line found answer k) (omega arith))

    pub line_past : page_count found answer ≤ k → get_or (page_lines found answer k) l [] ≡ blank_line
    unfolding page_lines
    line_past p = rw (le-ltb k (page_count found answer) p) (get_or-replicate 60 l blank_line [] h)

  -- the lines below the names
  pub listed_past : (i : ℕ) → length (listed found answer) ≤ i → get_or (listed found answer) i blank_line ≡ blank_line
  listed_past i h = get_or-eq_default (listed found answer) blank_line h

  pub listed_outcome : (i : ℕ) → found.outcome ≢ 2 → i < length (listed found answer) → get_or (listed found answer) i blank_line ≡ outcome_line found.outcome
  listed_outcome i e h =
      let w = listed_other e in
      let z : i ≡ 0 = omega (arith, ap length w) in
      rw (w, z)

  pub listed-piece : (i : ℕ) → found.outcome ≡ 2 → i < length (listed found answer)
      → get_or (listed found answer) i blank_line ≡ piece_line (answer_row_at (page_pieces found answer) i)
  listed-piece i e h =
      let w = listed_solved e in
      rw w (mapped (page_pieces found answer) i (omega (arith, ap length w, length-map (page_pieces found answer) piece_line)))
    where
      mapped : (rows : List AnswerRow) (i : ℕ) → i < length rows → get_or (map piece_line rows) i blank_line ≡ piece_line (answer_row_at rows i)
      mapped [] i h = absurd (omega arith)
      mapped (r ∷ rows) zero h = refl
      mapped (r ∷ rows) (suc i) h = mapped rows i (omega arith)

  pub piece-row : (i : ℕ) → i < length (page_pieces found answer) → answer_row_at (page_pieces found answer) i ≡ answer_row_at (answer_rows_of answer) i
  unfolding page_pieces
  piece-row i h = get_or-take found.pieces (answer_rows_of answer) i no_answer_row (omega (arith, pieces_length))

  pub sixty : (k : ℕ) → length (page_lines found answer k) ≡ 60
  unfolding page_lines
  sixty k = go (ltb k (page_count found answer))
    where
      go : (b : Bool) → length (cond b (map (page_line found answer k) (count_up 0 60)) (replicate 60 blank_line)) ≡ 60
      go true = length-map (count_up 0 60) (page_line found answer k) ∙ count-up 0 60
      go false = length-replicate 60 blank_line
