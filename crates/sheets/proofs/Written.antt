-- Every text is one of five by the writing alone: over 16,384 bytes, names otherwise, a line otherwise, a line too many, or a sheet; and reading
-- finds just that. So a text is read as rows exactly if it is a sheet of them. Assumes nothing.
use mathlib.Core.Path.{◌≡◌, refl, sym, ◌∙◌, ap, subst}
use mathlib.Core.Bool.{Bool, true, false}
use mathlib.Core.List.{List, [], ◌∷◌, ◌++◌, append_assoc, append-nil}
use Prim.Native.Nat.{ℕ, zero, suc, ◌+◌, ◌<◌, ◌≤◌, ◌-◌}
use native.Mathlib.Omega.{arith}
use lib.Dec.{ltb}
use lib.ListN.{length, drop, length-append, length-drop}
use borrow.Author.Tests.{lt-ltb, le-ltb, ltb-true, ltb-false}
use Rattle.std.specs.Prelude.{Result, Ok, Err}
use Rattle.terms.specs.declared.Row.{Row}
use Rattle.sheets.specs.declared.Order.{Order}
use Rattle.sheets.specs.declared.SheetError.{SheetError}
use Rattle.sheets.specs.declared.SheetError.TheVariants.{TooLong, WrongNames, TooMany, WrongLine}
use Rattle.sheets.specs.Text.{NamesFound, InOrder, NoNames, LineFound, Values, NoLine, line_at, names_at}
use Rattle.sheets.specs.Sheet.{found_from, sheet_found, sheet_rows, ReadAs}
use Rattle.sheets.specs.Writing.{Spelling, names_line, line_in, IsOrder, SmallRow, LinesOf, no_lines, one_line, SheetOf}
use Rattle.sheets.specs.Refused.{NamesOtherwise, LineOtherwise, GoodLines, WrongLineAt, LinesOver, FoundAs, OneAnswer}
use Rattle.sheets.proofs.Writing.{names_read, line_read, lines_end, read_to}
use Rattle.sheets.proofs.Standing.{line_there, names_there}

module _ (text : List ℕ) where
  -- the reader sees no names, and no line, where none begins
  unseen_names : names_at text 0 ≡ NoNames → NamesOtherwise text
  unseen_names e order is b =
      let r = names_read text order 0 b.rest is b.split in
      let z : ◌≡◌ {A = ℕ} 0 1 = cc in
      absurd (omega arith)

  unseen_line : (order : Order) → IsOrder order → (at : ℕ) → line_at text order at ≡ NoLine → LineOtherwise order (drop at text)
  unseen_line order is at e spelling row small b =
      let r = line_read text order spelling row at b.rest is small b.split in
      let z : ◌≡◌ {A = ℕ} 0 1 = cc in
      absurd (omega arith)

  -- something is left
  within : (at : ℕ) → 1 ≤ length (drop at text) → ltb at (length text) ≡ true
  within at h = lt-ltb at (length text) (omega (arith, length-drop at text))

  -- where no further line may stand, what is left is a line too many, whatever it is
  over_told : (order : Order) (k at : ℕ) → 1 ≤ length (drop at text) → found_from 0 text order k at ≡ Err TooMany
  unfolding found_from
  over_told order k at h = rw (within at h)

  -- where one may stand, what is left is a wrong line, if no good line begins it
  otherwise_told : (order : Order) → IsOrder order → (m k at : ℕ) → 1 ≤ length (drop at text) → LineOtherwise order (drop at text)
      → found_from (suc m) text order k at ≡ Err (WrongLine k)
  unfolding found_from
  otherwise_told order is m k at h wrong = go (line_at text order at) refl
    where
      go : (line : LineFound) → line_at text order at ≡ line → found_from (suc m) text order k at ≡ Err (WrongLine k)
      go (Values row to) l =
          let t = line_there text order is at row to l in
          absurd (wrong t.spelling row t.small (record { rest = drop to text; split = t.there }))
      go NoLine l = rw (within at h, l)

-- Each answer is found of the texts that it is given for.
long_found : (text : List ℕ) → 16384 < length text → sheet_found text ≡ Err TooLong
unfolding sheet_found
long_found text h = rw (lt-ltb 16384 (length text) h)

names-found : (text : List ℕ) → length text ≤ 16384 → NamesOtherwise text → sheet_found text ≡ Err WrongNames
unfolding sheet_found
names-found text short wrong = go (names_at text 0) refl
  where
    go : (names : NamesFound) → names_at text 0 ≡ names → sheet_found text ≡ Err WrongNames
    go (InOrder order to) n =
        let t = names_there text 0 order to n in
        absurd (wrong order t.order_is (record { rest = drop to text; split = t.there }))
    go NoNames n = rw (le-ltb 16384 (length text) short, n)

line-found : (text : List ℕ) (k : ℕ) → length text ≤ 16384 → WrongLineAt k text → sheet_found text ≡ Err (WrongLine k)
line-found text k short w =
    let g = w.lines in
    let all : 512 ≡ length g.rows + suc (511 - k) = omega (arith, g.count, w.below) in
    let r = read_to text w.order g.rows g.lines (suc (511 - k)) w.left g.order_is g.lines_of all short g.written in
    r.found
    ∙ otherwise_told text w.order g.order_is (511 - k) (length g.rows) r.to (rw r.there g.more) (rw r.there w.otherwise)
    ∙ ap (λ (n : ℕ). Err (WrongLine n)) g.count

over_found : (text : List ℕ) → length text ≤ 16384 → LinesOver text → sheet_found text ≡ Err TooMany
over_found text short w =
    let g = w.lines in
    let r = read_to text w.order g.rows g.lines 0 w.left g.order_is g.lines_of (omega (arith, g.count)) short g.written in
    r.found ∙ over_told text w.order (length g.rows) r.to (rw r.there g.more)

rows_found : (text : List ℕ) (rows : List Row) → SheetOf text rows → ReadAs text rows
rows_found text rows s =
    let left = 512 - length rows in
    let whole : text ≡ names_line s.order ++ s.lines ++ [] = s.written ∙ sym (append-nil (names_line s.order ++ s.lines)) in
    let r = read_to text s.order rows s.lines left [] s.order_is s.lines_of (omega (arith, s.few)) s.short whole in
    let e = lines_end text s.order left (length rows) r.to r.there in
    (r.found ∙ e.0, r.read ∙ ap (λ (l : List Row). rows ++ l) e.1 ∙ append-nil rows)

given_found : (text : List ℕ) (s : Result ℕ SheetError) → FoundAs s text → sheet_found text ≡ s
given_found text (Err TooLong) g = long_found text g
given_found text (Err WrongNames) g = names-found text g.0 g.1
given_found text (Err (WrongLine k)) g = line-found text k g.0 g.1
given_found text (Err TooMany) g = over_found text g.0 g.1
given_found text (Ok n) g = (rows_found text g.rows g.sheet).0 ∙ ap Ok g.count

-- one good line more
lines_last : (order : Order) {rows : List Row} {lines : List ℕ} (spelling : Spelling) (last : Row) → LinesOf order rows lines → SmallRow last
    → LinesOf order (rows ++ (last ∷ [])) (lines ++ line_in order spelling last)
lines_last order spelling last no_lines s = subst (LinesOf order (last ∷ [])) (append-nil (line_in order spelling last)) (one_line spelling s no_lines)
lines_last order spelling last (one_line {row} {rows} {lines} sp r more) s =
    rw (append_assoc (line_in order sp row) lines (line_in order spelling last)) (one_line sp r (lines_last order spelling last more s))

-- An answer is given for every text: the lines are gone through from the first to the last.
record Given (text : List ℕ) : Type 0 where
  answer : Result ℕ SheetError
  given : FoundAs answer text

module _ (text : List ℕ) (short : length text ≤ 16384) (order : Order) (is : IsOrder order) where
  -- at a place before which the names and lines of these rows are written
  module _ (rows : List Row) (lines : List ℕ) (of : LinesOf order rows lines) (at : ℕ) (written : text ≡ names_line order ++ lines ++ drop at text) where
    -- nothing is left; a line too many; a line otherwise; a good line
    ended : length rows ≤ 512 → drop at text ≡ [] → Given text
    ended few e =
        let sheet = names_line order ++ lines in
        let whole : text ≡ sheet = written ∙ ap (λ (l : List ℕ). sheet ++ l) e ∙ append-nil sheet in
        let s : SheetOf text rows = record { order = order; order_is = is; lines = lines; lines_of = of; few = few; short = short; written = whole } in
        record { answer = Ok (length rows); given = record { rows = rows; count = refl; sheet = s } }

    good : (k : ℕ) → length rows ≡ k → 1 ≤ length (drop at text) → GoodLines k order (drop at text) text
    good k c h = record { order_is = is; rows = rows; lines = lines; lines_of = of; count = c; more = h; written = written }

    over : length rows ≡ 512 → 1 ≤ length (drop at text) → Given text
    over all h = record { answer = Err TooMany; given = (short, record { order = order; left = drop at text; lines = good 512 all h }) }

    otherwise : length rows < 512 → 1 ≤ length (drop at text) → line_at text order at ≡ NoLine → Given text
    otherwise few h l =
        let w : WrongLineAt (length rows) text =
        record { order = order; left = drop at text; lines = good (length rows) refl h; below = few; otherwise = unseen_line text order is at l } in
        record { answer = Err (WrongLine (length rows)); given = (short, w) }

    longer : (line : List ℕ) (to : ℕ) → drop at text ≡ line ++ drop to text → text ≡ names_line order ++ (lines ++ line) ++ drop to text
    longer line to there = written ∙ rw there (simp append_assoc)

  -- the lines from there on, where m more may stand
  abbrev LinesGiven : ℕ → Type 0
  LinesGiven m =
      (rows : List Row) (lines : List ℕ) → LinesOf order rows lines → length rows + m ≡ 512 → (at : ℕ) → text ≡ names_line order ++ lines ++ drop at text
      → Given text

  lines_given : (m : ℕ) → LinesGiven m
  lines_given zero rows lines of all at written = go (drop at text) refl
    where
      go : (left : List ℕ) → drop at text ≡ left → Given text
      go [] e = ended rows lines of at written (omega arith) e
      go (x ∷ left) e = let l : length (drop at text) ≡ suc (length left) = ap length e in over rows lines of at written (omega arith) (omega arith)
  lines_given (suc m) rows lines of all at written = go (drop at text) refl (line_at text order at) refl (lines_given m)
    where
      go : (left : List ℕ) → drop at text ≡ left → (line : LineFound) → line_at text order at ≡ line → LinesGiven m → Given text
      go [] e line l later = ended rows lines of at written (omega arith) e
      go (x ∷ left) e NoLine l later =
          let n : length (drop at text) ≡ suc (length left) = ap length e in otherwise rows lines of at written (omega arith) (omega arith) l
      go (x ∷ left) e (Values row to) l later =
          let t = line_there text order is at row to l in
          let next = line_in order t.spelling row in
          later (rows ++ (row ∷ [])) (lines ++ next) (lines_last order t.spelling row of t.small) (omega (arith, length-append rows (row ∷ []))) to
          (longer rows lines of at written next to t.there)

given : (text : List ℕ) → Given text
given text = go (ltb 16384 (length text)) (names_at text 0) refl refl
  where
    go : (t : Bool) (names : NamesFound) → ltb 16384 (length text) ≡ t → names_at text 0 ≡ names → Given text
    go true names p n = record { answer = Err TooLong; given = ltb-true 16384 (length text) p }
    go false NoNames p n = record { answer = Err WrongNames; given = (ltb-false 16384 (length text) p, unseen_names text n) }
    go false (InOrder order to) p n =
        let t = names_there text 0 order to n in
        lines_given text (ltb-false 16384 (length text) p) order t.order_is 512 [] [] no_lines (omega arith) to
        (t.there ∙ ap (λ (l : List ℕ). l ++ drop to text) (sym (append-nil (names_line order))))

-- Every text is one of the five, and only one.
pub one_answer : (text : List ℕ) → OneAnswer text
one_answer text =
    let g = given text in
    record { answer = g.answer; given = g.given; only = λ other o. sym (given_found text other o) ∙ given_found text g.answer g.given }

-- Reading finds an answer exactly of the texts that it is given for.
pub found_exactly : (text : List ℕ) (s : Result ℕ SheetError) → (sheet_found text ≡ s → FoundAs s text) × (FoundAs s text → sheet_found text ≡ s)
found_exactly text s = (there, given_found text s)
  where
    there : sheet_found text ≡ s → FoundAs s text
    there e =
        let g = given text in
        let same : g.answer ≡ s = sym (given_found text g.answer g.given) ∙ e in
        rw same at g.given

-- A text is accepted, and read as these rows, exactly if it is a sheet of these rows.
pub read_exactly : (text : List ℕ) (rows : List Row) → (SheetOf text rows → ReadAs text rows) × (ReadAs text rows → SheetOf text rows)
read_exactly text rows = (rows_found text rows, back)
  where
    back : ReadAs text rows → SheetOf text rows
    back r =
        let f = (found_exactly text (Ok (length rows))).0 r.0 in
        let same : f.rows ≡ rows = sym (rows_found text f.rows f.sheet).1 ∙ r.1 in
        rw same at f.sheet

-- The rows that were read are those of a sheet, and as many as were found.
pub sheet-found : (text : List ℕ) (n : ℕ) → sheet_found text ≡ Ok n → (SheetOf text (sheet_rows text)) × (length (sheet_rows text) ≡ n)
sheet-found text n e =
    let f = (found_exactly text (Ok n)).0 e in
    let same : sheet_rows text ≡ f.rows = (rows_found text f.rows f.sheet).1 in
    (rw same f.sheet, rw same f.count)
