-- What stands on which page and line, and which pages are there. Assumes nothing.
use mathlib.Core.Path.{◌≡◌, refl, sym, ◌∙◌, ap, ap₂}
use mathlib.Core.Bool.{Bool, true, false, cond}
use mathlib.Core.List.{List, [], ◌∷◌, ◌++◌, map}
use mathlib.Core.Logic.{◌≢◌}
use Prim.Native.Nat.{ℕ, zero, suc, ◌+◌, ◌*◌, ◌-◌, ◌/◌, ◌%◌, ◌<◌, ◌≤◌, min}
use native.Mathlib.Omega.{arith}
use lib.Dec.{ltb, eqb}
use lib.ListN.{length, get_or, take, drop, replicate, length-append, length-map, length-take, length-drop, get_or-append}
use lib.Seq.{get_or-take, get_or-drop, get_or-append-add, ext_get_or}
use borrow.Author.Tests.{lt-ltb, le-ltb, ltb-true, ltb-false}
use Rattle.laws.specs.Lists.{count_up}
use Rattle.terms.specs.declared.Record.{Record}
use Rattle.answers.specs.declared.AnswerRow.{AnswerRow}
use Rattle.answers.specs.Answer.{answer_rows_of, answer_row_at, no_answer_row}
use Rattle.result_sheets.specs.Page.{cell, line_of, names_line, piece_line, outcome_line, blank_line, page_pieces, listed, page_count, page_line, page_lines, joined, page_text}
use Rattle.result_sheets.specs.AllPages.{blank_page, below_names}
use Rattle.result_sheets.proofs.Listing.{listed_solved, listed_other, line_there, line_past, listed_past, listed-piece, piece-row, sixty}

module _ (found : Record) (answer : List ℕ) where
  -- how many lines are listed below the names: as many as pieces, and one for any outcome but 2
  pub listed_pieces : found.outcome ≡ 2 → length (listed found answer) ≡ length (page_pieces found answer)
  listed_pieces e = ap length (listed_solved found answer e) ∙ length-map (page_pieces found answer) piece_line

  pub listed_one : found.outcome ≢ 2 → length (listed found answer) ≡ 1
  listed_one e = ap length (listed_other found answer e)

  -- (c) piece i stands on page i / 59, line 1 + i % 59
  pub piece_place : (i : ℕ) → found.outcome ≡ 2 → i < length (page_pieces found answer)
      → get_or (page_lines found answer (i / 59)) (1 + i % 59) [] ≡ piece_line (answer_row_at (answer_rows_of answer) i)
  unfolding page_count page_line
  piece_place i e h =
      let l : i < length (listed found answer) = omega (arith, listed_pieces e) in
      let there : i / 59 < page_count found answer = omega arith in
      let place : i / 59 * 59 + i % 59 ≡ i = omega arith in
      let n : 1 + i % 59 ≡ suc (i % 59) = omega arith in
      rw n (line_there found answer (i / 59) (suc (i % 59)) (omega arith) there)
      ∙ ap (λ (j : ℕ). get_or (listed found answer) j blank_line) place
      ∙ listed-piece found answer i e l
      ∙ ap piece_line (piece-row found answer i h)

  below_length : (n : ℕ) → length (below_names found answer n) ≡ 59 * n
  unfolding below_names
  below_length zero = refl
  below_length (suc n) =
      omega (
        arith,
        length-append (below_names found answer n) (drop 1 (page_lines found answer n)),
        below_length n,
        length-drop 1 (page_lines found answer n),
        sixty found answer n,
      )

  below_at : (n i : ℕ) → i < 59 * n → get_or (below_names found answer n) i [] ≡ get_or (page_lines found answer (i / 59)) (1 + i % 59) []
  unfolding below_names
  below_at zero i h = absurd (omega arith)
  below_at (suc n) i h = go (ltb i (59 * n)) refl (below_at n i)
    where
      before : List (List ℕ)
      before = below_names found answer n

      last : List (List ℕ)
      last = drop 1 (page_lines found answer n)

      go : (b : Bool) → ltb i (59 * n) ≡ b → (i < 59 * n → get_or before i [] ≡ get_or (page_lines found answer (i / 59)) (1 + i % 59) [])
          → get_or (before ++ last) i [] ≡ get_or (page_lines found answer (i / 59)) (1 + i % 59) []
      go true e earlier =
          let l : i < 59 * n = ltb-true i (59 * n) e in
          get_or-append before last [] i (omega (arith, below_length n)) ∙ earlier l
      go false e earlier =
          let l : 59 * n ≤ i = ltb-false i (59 * n) e in
          let j : ℕ = i - 59 * n in
          let at : i ≡ length before + j = omega (arith, below_length n) in
          let page : n ≡ i / 59 = omega arith in
          let line : 1 + j ≡ 1 + i % 59 = omega arith in
          ap (λ (x : ℕ). get_or (before ++ last) x []) at
          ∙ get_or-append-add before last j []
          ∙ get_or-drop 1 (page_lines found answer n) j []
          ∙ ap₂ (λ (p x : ℕ). get_or (page_lines found answer p) x []) page line

  -- the lines below the names of all pages, in order, begin with the lines of all pieces
  pub all_pieces : found.outcome ≡ 2
      → take (length (page_pieces found answer)) (below_names found answer (page_count found answer)) ≡ map piece_line (page_pieces found answer)
  unfolding page_count
  all_pieces e =
      let pieces : List AnswerRow = page_pieces found answer in
      let all : List (List ℕ) = below_names found answer (page_count found answer) in
      let n : length (map piece_line pieces) ≡ length pieces = length-map pieces piece_line in
      let m = listed_pieces e in
      let long : length (take (length pieces) all) ≡ length pieces =
      length-take (length pieces) all ∙ omega (arith, below_length (page_count found answer)) in
      ext_get_or [] (take (length pieces) all) (map piece_line pieces) (long ∙ sym n)
      (λ i h.
      let l : i < length pieces = omega arith in
      get_or-take (length pieces) all i [] l
      ∙ below_at (page_count found answer) i (omega arith)
      ∙ piece_place i e l
      ∙ ap piece_line (sym (piece-row found answer i l))
      ∙ sym (mapped pieces i l))
    where
      mapped : (rows : List AnswerRow) (i : ℕ) → i < length rows → get_or (map piece_line rows) i [] ≡ piece_line (answer_row_at rows i)
      mapped [] i h = absurd (omega arith)
      mapped (r ∷ rows) zero h = refl
      mapped (r ∷ rows) (suc i) h = mapped rows i (omega arith)

  -- (d) every page that is there begins with the names, page 0 for every input
  pub begins_with_names : (k : ℕ) → k < page_count found answer → take 41 (page_text found answer k) ≡ names_line
  unfolding page_text page_lines page_line count_up joined names_line line_of cell
  begins_with_names k h = rw (lt-ltb k (page_count found answer) h) refl

  pub first_begins_with_names : take 41 (page_text found answer 0) ≡ names_line
  unfolding page_count
  first_begins_with_names = begins_with_names 0 (omega arith)

  -- (e) a number above 0 gives the blank page exactly if 59 times it is at least the number of listed lines
  pub past_blank : (k : ℕ) → 1 ≤ k → length (listed found answer) ≤ 59 * k → page_text found answer k ≡ blank_page
  unfolding page_text page_lines page_count blank_page
  past_blank k l h =
      let past : page_count found answer ≤ k = omega arith in
      rw (le-ltb k (page_count found answer) past)

  pub blank_past : (k : ℕ) → page_text found answer k ≡ blank_page → length (listed found answer) ≤ 59 * k
  unfolding page_count blank_page joined blank_line names_line line_of cell
  blank_past k e = go (ltb (59 * k) (length (listed found answer))) refl
    where
      go : (b : Bool) → ltb (59 * k) (length (listed found answer)) ≡ b → length (listed found answer) ≤ 59 * k
      go true t =
          let left : 59 * k < length (listed found answer) = ltb-true (59 * k) (length (listed found answer)) t in
          let same : names_line ≡ blank_line = sym (begins_with_names k (omega arith)) ∙ ap (take 41) e in
          let z : get_or names_line 5 0 ≡ 32 = ap (λ (l : List ℕ). get_or l 5 0) same in
          absurd (omega arith)
      go false t = ltb-false (59 * k) (length (listed found answer)) t

  -- the lines behind the last piece are blank
  pub rest_blank : (k l : ℕ) → l < 59 → length (listed found answer) ≤ 59 * k + l → get_or (page_lines found answer k) (1 + l) [] ≡ blank_line
  unfolding page_line
  rest_blank k l h p = go (ltb k (page_count found answer)) refl
    where
      n : 1 + l ≡ suc l
      n = omega arith

      go : (b : Bool) → ltb k (page_count found answer) ≡ b → get_or (page_lines found answer k) (1 + l) [] ≡ blank_line
      go true e =
          rw n (line_there found answer k (suc l) (omega arith) (ltb-true k (page_count found answer) e))
          ∙ listed_past found answer (k * 59 + l) (omega arith)
      go false e = line_past found answer k (1 + l) (omega arith) (ltb-false k (page_count found answer) e)

  -- (f) any outcome but 2: page 0 is the names, the number, and blanks, whatever else
  pub outcome_page : found.outcome ≢ 2 → page_text found answer 0 ≡ joined (names_line ∷ outcome_line found.outcome ∷ replicate 58 blank_line)
  unfolding page_text page_lines page_line page_count count_up
  outcome_page e = rw (listed_other found answer e) refl

-- (g) a page depends on the outcome, on the pieces limited to the rows lent, and on these rows alone
unfoldable line_from : List (List ℕ) → ℕ → ℕ → List ℕ
line_from lines k zero = names_line
line_from lines k (suc l) = get_or lines (k * 59 + l) blank_line

unfoldable text_from : List (List ℕ) → ℕ → List ℕ
text_from lines k = joined (cond (ltb k (1 + (length lines - 1) / 59)) (map (line_from lines k) (count_up 0 60)) (replicate 60 blank_line))

by_listed : (found : Record) (answer : List ℕ) (k : ℕ) → page_text found answer k ≡ text_from (listed found answer) k
unfolding page_text page_lines page_line page_count count_up line_from text_from
by_listed found answer k = refl

pub same_page : (found found' : Record) (answer answer' : List ℕ) (k : ℕ) → found.outcome ≡ found'.outcome
    → min found.pieces (length (answer_rows_of answer)) ≡ min found'.pieces (length (answer_rows_of answer'))
    → ((i : ℕ) → i < min found.pieces (length (answer_rows_of answer)) → answer_row_at (answer_rows_of answer) i ≡ answer_row_at (answer_rows_of answer') i)
    → page_text found answer k ≡ page_text found' answer' k
unfolding listed page_pieces
same_page found found' answer answer' k o n rows =
    by_listed found answer k
    ∙ ap (λ (lines : List (List ℕ)). text_from lines k)
    (ap₂ (λ (x : ℕ) (pieces : List AnswerRow). cond (eqb x 2) (map piece_line pieces) (outcome_line x ∷ [])) o same)
    ∙ sym (by_listed found' answer' k)
  where
    same : take found.pieces (answer_rows_of answer) ≡ take found'.pieces (answer_rows_of answer')
    same =
        let l = length-take found.pieces (answer_rows_of answer) in
        let l' = length-take found'.pieces (answer_rows_of answer') in
        ext_get_or no_answer_row (take found.pieces (answer_rows_of answer)) (take found'.pieces (answer_rows_of answer')) (l ∙ n ∙ sym l')
        (λ i h.
        let m : i < min found.pieces (length (answer_rows_of answer)) = omega arith in
        get_or-take found.pieces (answer_rows_of answer) i no_answer_row (omega arith)
        ∙ rows i m
        ∙ sym (get_or-take found'.pieces (answer_rows_of answer') i no_answer_row (omega arith)))
