-- A page as it is made: a line found by its place, and one line put behind another. Assumes nothing.
use mathlib.Core.Path.{◌≡◌, refl, sym, ◌∙◌, ap, subst}
use mathlib.Core.List.{List, [], ◌∷◌, ◌++◌, append-nil, map}
use mathlib.Core.Logic.{◌≢◌}
use Prim.Native.Nat.{ℕ, suc, ◌+◌, ◌*◌, ◌-◌, ◌/◌, ◌<◌, ◌≤◌, min}
use native.Mathlib.Omega.{arith}
use native.Mathlib.Numerals.{add-one}
use lib.Dec.{eqb}
use lib.ListN.{length, get_or, take, length-map}
use lib.Seq.{take-suc, take_all}
use mathlib.Core.Bool.{Bool, true, false, cond}
use Rattle.laws.proofs.Buffers.{overwrite_whole}
use Rattle.terms.specs.declared.Record.{Record}
use Rattle.answers.specs.Answer.{answer_rows_of, answer_row_at}
use Rattle.sheets.specs.inner.Printed.{written, printed_in}
use Rattle.sheets.proofs.Printed.{Put, PutIn, put_kept, put_none, put_in, put_there, both_put, written_none}
use Rattle.result_sheets.specs.Page.{names_line, piece_line, outcome_line, blank_line, page_pieces, listed, on_page, page_count, page_line, page_lines, joined, page_text}
use Rattle.pages.specs.inner.Lines.{listed_count, pages_of}
use Rattle.result_sheets.proofs.Listing.{pieces_length, listed_solved, line_there, line_past, listed_past, listed_outcome, listed-piece, piece-row, sixty}
use Rattle.result_sheets.proofs.Bytes.{joined-append, lines_long, page_length}

-- how many lines there are below the names, and how many pages
module _ (found : Record) (answer : List ℕ) where
  listed-length : length (listed found answer) ≡ listed_count found (length answer / 6)
  unfolding listed listed_count
  listed-length = go (eqb found.outcome 2)
    where
      go : (b : Bool) → length (cond b (map piece_line (page_pieces found answer)) (outcome_line found.outcome ∷ [])) ≡ cond b (min found.pieces (length answer / 6)) 1
      go true = length-map (page_pieces found answer) piece_line ∙ pieces_length found answer
      go false = refl

  pages_counted : page_count found answer ≡ pages_of (listed_count found (length answer / 6))
  unfolding page_count pages_of
  pages_counted = ap (λ (n : ℕ). 1 + (n - 1) / on_page) listed-length

listed_small : (found : Record) (rows : ℕ) → found.pieces ≤ 4294967295 → listed_count found rows ≤ 4294967295
unfolding listed_count
listed_small found rows h = go (eqb found.outcome 2)
  where
    go : (b : Bool) → cond b (min found.pieces rows) 1 ≤ 4294967295
    go true = omega arith
    go false = omega arith

-- line `line` of page k, where n lines are listed
module _ (found : Record) (answer : List ℕ) (k line n pages : ℕ) (few : line < 60) (counted : n ≡ listed_count found (length answer / 6))
    (there : pages ≡ pages_of n) where
  all_pages : pages ≡ page_count found answer
  all_pages = there ∙ ap pages_of counted ∙ sym (pages_counted found answer)

  all_lines : n ≡ length (listed found answer)
  all_lines = counted ∙ sym (listed-length found answer)

  -- the place of a line below the names does not wrap
  pub place_fits : found.pieces ≤ 4294967295 → k < pages → k * 59 + (line - 1) < 4294967400
  unfolding pages_of
  place_fits h p = omega (arith, there, counted, listed_small found (length answer / 6) h)

  pub at_past : pages ≤ k → blank_line ≡ get_or (page_lines found answer k) line []
  at_past p = sym (line_past found answer k line few (omega (arith, all_pages)))

  pub at_names : k < pages → line ≡ 0 → names_line ≡ get_or (page_lines found answer k) line []
  unfolding page_line
  at_names p z = sym (line_there found answer k line few (omega (arith, all_pages)) ∙ ap (page_line found answer k) z)

  at_listed : k < pages → line ≢ 0 → get_or (listed found answer) (k * 59 + (line - 1)) blank_line ≡ get_or (page_lines found answer k) line []
  unfolding page_line
  at_listed p z =
      let e : line ≡ suc (line - 1) = omega arith in
      sym (line_there found answer k line few (omega (arith, all_pages)) ∙ ap (page_line found answer k) e)

  pub at_blank : k < pages → line ≢ 0 → n ≤ k * 59 + (line - 1) → blank_line ≡ get_or (page_lines found answer k) line []
  at_blank p z h = sym (listed_past found answer (k * 59 + (line - 1)) (omega (arith, all_lines))) ∙ at_listed p z

  pub at_outcome : k < pages → line ≢ 0 → k * 59 + (line - 1) < n → found.outcome ≢ 2
      → outcome_line found.outcome ≡ get_or (page_lines found answer k) line []
  at_outcome p z h o = sym (listed_outcome found answer (k * 59 + (line - 1)) o (omega (arith, all_lines))) ∙ at_listed p z

  pub at_piece : k < pages → line ≢ 0 → k * 59 + (line - 1) < n → found.outcome ≡ 2
      → piece_line (answer_row_at (answer_rows_of answer) (k * 59 + (line - 1))) ≡ get_or (page_lines found answer k) line []
  at_piece p z h o =
      let i : ℕ = k * 59 + (line - 1) in
      let here : i < length (listed found answer) = omega (arith, all_lines) in
      let piece : i < length (page_pieces found answer) =
      omega (arith, ap length (listed_solved found answer o), length-map (page_pieces found answer) piece_line) in
      ap piece_line (sym (piece-row found answer i piece)) ∙ sym (listed-piece found answer i o here) ∙ at_listed p z

-- The first lines of a page are written.
pub record LinesPut (found : Record) (answer : List ℕ) (k : ℕ) (out₀ out : List ℕ) (at line : ℕ) : Type 0 where
  pub room : 2460 ≤ length out₀
  pub within : line ≤ 60
  pub place : at ≡ 41 * line
  pub put : Put out₀ 0 (joined (take line (page_lines found answer k))) out at

module _ (found : Record) (answer : List ℕ) (k : ℕ) (out₀ : List ℕ) where
  pub lines_first : 2460 ≤ length out₀ → LinesPut found answer k out₀ out₀ 0 0
  unfolding joined
  lines_first h = record { room = h; within = omega arith; place = refl; put = record { place = refl; content = sym (written_none out₀ 0) } }

  pub lines_kept : (out : List ℕ) (at line : ℕ) → LinesPut found answer k out₀ out at line → length out ≡ length out₀
  lines_kept out at line p = put_kept out₀ out 0 at (joined (take line (page_lines found answer k))) p.put

  pub lines_more : (out out' bytes : List ℕ) (at at' line : ℕ) → LinesPut found answer k out₀ out at line → line < 60
      → bytes ≡ get_or (page_lines found answer k) line [] → PutIn (length bytes) out at bytes out' at'
      → LinesPut found answer k out₀ out' at' (line + 1)
  unfolding joined
  lines_more out out' bytes at at' line p h e q =
      let lines : List (List ℕ) = page_lines found answer k in
      let there : line < length lines = omega (arith, sixty found answer k) in
      let n : length bytes ≡ 41 = ap length e ∙ lines_long found answer k line there in
      let r = put_there (length bytes) out at bytes out' at' (omega (arith, p.place, p.room, lines_kept out at line p)) q in
      let b = both_put out₀ out out' 0 at at' (joined (take line lines)) bytes (omega (arith, p.place, p.room, p.put.place)) p.put r in
      let w : joined (take line lines) ++ bytes ≡ joined (take (line + 1) lines) =
      ap (λ (x : List ℕ). joined (take line lines) ++ x) (sym (append-nil bytes) ∙ ap (λ (x : List ℕ). joined (x ∷ [])) e)
      ∙ sym (joined-append (take line lines) (get_or lines line [] ∷ []))
      ∙ ap joined (sym (take-suc lines line [] there) ∙ ap (λ (m : ℕ). take m lines) (sym (add-one line))) in
      record {
        room = p.room;
        within = omega arith;
        place = omega (arith, p.place, r.place);
        put = subst (λ (x : List ℕ). Put out₀ 0 x out' at') w b;
      }

  pub lines_done : (out : List ℕ) (at line : ℕ) → LinesPut found answer k out₀ out at line → 60 ≤ line → out ≡ printed_in 2460 out₀ 0 (page_text found answer k)
  unfolding page_text
  lines_done out at line p h =
      let lines : List (List ℕ) = page_lines found answer k in
      let w : joined (take line lines) ≡ joined lines = ap joined (take_all line lines (omega (arith, sixty found answer k))) in
      (put_in 2460 out₀ 0 (joined lines) out at p.room (subst (λ (x : List ℕ). Put out₀ 0 x out at) w p.put)).1

  pub lines_none : length out₀ < 2460 → out₀ ≡ printed_in 2460 out₀ 0 (page_text found answer k)
  lines_none h = (put_none 2460 out₀ 0 (page_text found answer k) h).1

-- a page written over as many bytes
pub whole_page : (found : Record) (answer : List ℕ) (k : ℕ) (base out : List ℕ) → length base ≡ 2460
    → out ≡ printed_in 2460 base 0 (page_text found answer k) → out ≡ page_text found answer k
unfolding written
whole_page found answer k base out n e =
    let text : List ℕ = page_text found answer k in
    let p = put_there 2460 base 0 text out _ (omega arith) (refl, e) in
    p.content ∙ overwrite_whole text base (page_length found answer k ∙ sym n)
