-- The bytes of a page: each line has 40 characters and a byte 10. Assumes nothing.
use mathlib.Core.Path.{◌≡◌, refl, sym, ◌∙◌, ap}
use mathlib.Core.Bool.{Bool, true, false, cond}
use mathlib.Core.List.{List, [], ◌∷◌, ◌++◌, map, append_assoc}
use Prim.Native.Nat.{ℕ, zero, suc, ◌+◌, ◌*◌, ◌/◌, ◌%◌, ◌<◌}
use mathlib.Core.Logic.{◌≢◌}
use native.Mathlib.Omega.{arith}
use lib.Dec.{ltb, eqb}
use lib.ListN.{length, get_or, replicate, length-append, get_or-replicate, get_or-append}
use lib.Seq.{get_or-append-add, get_or_at}
use Rattle.laws.specs.Lists.{count_up}
use Rattle.laws.proofs.CountUp.{count_read}
use Rattle.terms.specs.declared.Record.{Record}
use Rattle.answers.specs.declared.AnswerRow.{AnswerRow}
use Rattle.result_sheets.specs.AllPages.{is_character}
use Rattle.result_sheets.specs.Page.{piece_line, outcome_line, blank_line, page_pieces, listed, on_page, page_count, page_line, page_lines, joined, page_text}
use Rattle.result_sheets.proofs.Characters.{IsLine, character_at, names_is, piece_is, outcome_is, blank_is, line_long}
use Rattle.result_sheets.proofs.Listing.{sixty}

module _ (found : Record) (answer : List ℕ) where
  -- each is a line
  listed_is : (i : ℕ) → IsLine (get_or (listed found answer) i blank_line)
  unfolding listed
  listed_is i = go (eqb found.outcome 2)
    where
      pieces : (rows : List AnswerRow) (i : ℕ) → IsLine (get_or (map piece_line rows) i blank_line)
      pieces [] i = blank_is
      pieces (r ∷ rows) zero = piece_is r
      pieces (r ∷ rows) (suc i) = pieces rows i

      other : (i : ℕ) → IsLine (get_or (outcome_line found.outcome ∷ []) i blank_line)
      other zero = outcome_is found.outcome
      other (suc i) = blank_is

      go : (b : Bool) → IsLine (get_or (cond b (map piece_line (page_pieces found answer)) (outcome_line found.outcome ∷ [])) i blank_line)
      go true = pieces (page_pieces found answer) i
      go false = other i

  page_line_is : (k l : ℕ) → IsLine (page_line found answer k l)
  unfolding page_line
  page_line_is k zero = names_is
  page_line_is k (suc l) = listed_is (k * on_page + l)

  pub lines_are : (k l : ℕ) → l < 60 → IsLine (get_or (page_lines found answer k) l [])
  unfolding page_lines
  lines_are k l h = go (ltb k (page_count found answer))
    where
      go : (b : Bool) → IsLine (get_or (cond b (map (page_line found answer k) (count_up 0 60)) (replicate 60 blank_line)) l [])
      go true = rw (count_read (page_line found answer k) 0 60 l [] h) (page_line_is k (0 + l))
      go false = rw (get_or-replicate 60 l blank_line [] h) blank_is

-- lines one after the other
pub joined-append : (xs ys : List (List ℕ)) → joined (xs ++ ys) ≡ joined xs ++ joined ys
unfolding joined
joined-append [] ys = refl
joined-append (x ∷ xs) ys = ap (λ (l : List ℕ). x ++ l) (joined-append xs ys) ∙ sym (append_assoc x (joined xs) (joined ys))

-- Each of these lines has 41 bytes.
abbrev pub AllLong : List (List ℕ) → Type 0
AllLong lines = (l : ℕ) → l < length lines → length (get_or lines l []) ≡ 41

pub joined_length : (lines : List (List ℕ)) → AllLong lines → length (joined lines) ≡ 41 * length lines
unfolding joined
joined_length [] all = refl
joined_length (line ∷ lines) all =
    omega (arith, length-append line (joined lines), all 0 (omega arith), joined_length lines (λ l h. all (suc l) (omega arith)))

-- byte i of line l
pub joined_at : (lines : List (List ℕ)) → AllLong lines → (l i : ℕ) → l < length lines → i < 41
    → get_or (joined lines) (41 * l + i) 0 ≡ get_or (get_or lines l []) i 0
unfolding joined
joined_at [] all l i h k = absurd (omega arith)
joined_at (line ∷ lines) all zero i h k =
    let n : 41 * 0 + i ≡ i = omega arith in
    rw n (get_or-append line (joined lines) 0 i (omega (arith, all 0 (omega arith))))
joined_at (line ∷ lines) all (suc l) i h k =
    let n : 41 * suc l + i ≡ length line + (41 * l + i) = omega (arith, all 0 (omega arith)) in
    rw n (get_or-append-add line (joined lines) (41 * l + i) 0) ∙ joined_at lines (λ l h. all (suc l) (omega arith)) l i (omega arith) k

pub lines_long : (found : Record) (answer : List ℕ) (k : ℕ) → AllLong (page_lines found answer k)
lines_long found answer k l h = line_long (get_or (page_lines found answer k) l []) (lines_are found answer k l (omega (arith, sixty found answer k)))

-- (a) a page has 2,460 bytes
pub page_length : (found : Record) (answer : List ℕ) (k : ℕ) → length (page_text found answer k) ≡ 2460
unfolding page_text
page_length found answer k = omega (arith, joined_length (page_lines found answer k) (lines_long found answer k), sixty found answer k)

-- (b) byte 41 l + 40 is 10 for each line l, and every other byte is a blank, a digit or a small letter
pub line_ends : (found : Record) (answer : List ℕ) (k l : ℕ) → l < 60 → get_or (page_text found answer k) (41 * l + 40) 0 ≡ 10
unfolding page_text
line_ends found answer k l h =
    let w = lines_are found answer k l h in
    joined_at (page_lines found answer k) (lines_long found answer k) l 40 (omega (arith, sixty found answer k)) (omega arith)
    ∙ ap (λ (x : List ℕ). get_or x 40 0) w.whole
    ∙ get_or_at w.front 10 [] 0 40 w.long

pub all_characters : (found : Record) (answer : List ℕ) (k i : ℕ) → i < 2460 → i % 41 ≢ 40 → is_character (get_or (page_text found answer k) i 0) ≡ true
unfolding page_text
all_characters found answer k i h e =
    let l : ℕ = i / 41 in
    let j : ℕ = i % 41 in
    let at : 41 * l + j ≡ i = omega arith in
    let w = lines_are found answer k l (omega arith) in
    let m : j < length w.front = omega (arith, w.long) in
    let same : get_or (joined (page_lines found answer k)) i 0 ≡ get_or w.front j 0 =
    ap (λ (x : ℕ). get_or (joined (page_lines found answer k)) x 0) (sym at)
    ∙ joined_at (page_lines found answer k) (lines_long found answer k) l j (omega (arith, sixty found answer k)) (omega arith)
    ∙ ap (λ (x : List ℕ). get_or x j 0) w.whole
    ∙ get_or-append w.front (10 ∷ []) 0 j m in
    rw same (character_at w.front j w.characters m)
