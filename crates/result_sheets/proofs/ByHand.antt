-- Pages worked by hand, byte for byte. Assumes nothing.
use mathlib.Core.Path.{◌≡◌, refl}
use mathlib.Core.List.{List, ◌∷◌}
use Prim.Native.Nat.{ℕ}
use lib.ListN.{replicate}
use Rattle.laws.specs.Lists.{count_up}
use Rattle.terms.specs.Calls.{refusal}
use Rattle.answers.specs.Answer.{answer_rows_of}
use Rattle.sheets.specs.Writing.{digits}
use Rattle.result_sheets.specs.Page.{cell, line_of, names_line, piece_line, outcome_line, blank_line, page_pieces, listed, page_count, page_line, page_lines, joined, page_text}
use Rattle.result_sheets.specs.AllPages.{line}

-- document 01's sheet, whatever stands in the answer table behind its five rows
pub worked_page : (rest : List ℕ)
    → page_text (record { outcome = 2; pieces = 5; fresh = 3; free = 4; ties = 4; row = 0 })
    (0 ∷ 2 ∷ 1 ∷ 0 ∷ 0 ∷ 7 ∷ 0 ∷ 2 ∷ 2 ∷ 1 ∷ 0 ∷ 6 ∷ 0 ∷ 2 ∷ 2 ∷ 1 ∷ 0 ∷ 6 ∷ 0 ∷ 2 ∷ 2 ∷ 1 ∷ 0 ∷ 6 ∷ 0 ∷ 2 ∷ 1 ∷ 2 ∷ 0 ∷ 0 ∷ rest) 0
    ≡ joined
    (line "  variable      kind     width     fresh"
    ∷ line "         0         2         1         0"
    ∷ line "         0         2         2         1"
    ∷ line "         0         2         2         1"
    ∷ line "         0         2         2         1"
    ∷ line "         0         2         1         2"
    ∷ replicate 54 (line "                                        "))
unfolding page_text page_lines page_line page_count listed page_pieces piece_line names_line blank_line line_of cell digits answer_rows_of count_up
worked_page rest = refl

-- a refused sheet
pub worked_refusal : (answer : List ℕ)
    → page_text (refusal 22 3) answer 0
    ≡ joined
    (line "  variable      kind     width     fresh"
    ∷ line "        22                              "
    ∷ replicate 58 (line "                                        "))
unfolding page_text page_lines page_line page_count listed outcome_line names_line blank_line line_of cell digits count_up
worked_refusal answer = refl

-- the greatest numbers: one fills its column, and none is cut
pub worked_widest : (outcome_line 4294967295 ≡ line "4294967295                              ")
    × (piece_line (record { variable = 65535; kind = 65535; width = 65535; fresh = 65535 }) ≡ line "     65535     65535     65535     65535")
unfolding outcome_line piece_line line_of cell digits
worked_widest = (refl, refl)
