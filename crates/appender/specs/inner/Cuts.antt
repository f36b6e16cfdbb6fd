-- Cuts of rows, what a cut of a join has of each part, and what the form functions promise of them.
use Rattle.std.specs.Prelude.{◌≡◌, Bool, false, ◌||◌, cond, List, [], ◌∷◌, ◌++◌, ℕ, ◌+◌, ◌-◌, ◌/◌, ◌^◌, ◌<◌, ◌≤◌, eqb, ltb, replicate}
use Rattle.laws.specs.Binary.{binary}
use Rattle.terms.specs.declared.Row.{Row}
use Rattle.terms.specs.Table.{rows_of, width_of, source_of, extract}
use Rattle.terms.specs.Faults.{absent}
use Rattle.forms.specs.declared.Piece.{Piece}
use Rattle.forms.specs.Form.{fill, part, form_from}
use Rattle.terms.specs.inner.Placed.{Numbered}
use Rattle.appender.specs.declared.Cut.{Cut}
use Rattle.appender.specs.declared.Part.{Part}
use Rattle.appender.specs.inner.Append.{Appended}

-- Whether a row of this kind names no other row: a variable, a constant or a value.
unfoldable pub is_leaf : ℕ → Bool
is_leaf kind = eqb kind 0 || eqb kind 1 || eqb kind 5

-- The piece that bits high to low of a variable or a constant are, where v is a variable's number.
unfoldable pub leaf_piece : Row → ℕ → ℕ → ℕ → Piece
leaf_piece r v high low = cond (eqb r.kind 0) (part v high low) (fill r.a (high - low))

-- Copies of a bit were appended.
abbrev pub AppendsFill : ℕ → ℕ → ℕ → List ℕ → ℕ → List ℕ → Type 0
AppendsFill bit count n out m out' = (t : List Row) → bit ≤ 1 → Appended t (replicate count bit) n out m out'

-- Bits high to low of a number were appended.
abbrev pub AppendsBits : ℕ → ℕ → ℕ → ℕ → List ℕ → ℕ → List ℕ → Type 0
AppendsBits number high low n out m out' = (t : List Row) → low ≤ high → Appended t (binary (high + 1 - low) (number / 2 ^ low)) n out m out'

-- Bits high to low of a leaf were appended: those of a value's number, or those that are its piece.
abbrev pub AppendsLeaf : Row → ℕ → ℕ → ℕ → ℕ → List ℕ → ℕ → List ℕ → Type 0
AppendsLeaf r v high low n out m out' =
    (t : List Row) (sources : List ℕ) → low ≤ high
    → (r.kind ≡ 5 → sources ≡ binary (high + 1 - low) (r.a / 2 ^ low))
    → ((r.kind ≡ 5 → ⊥) → form_from t sources ≡ leaf_piece r v high low ∷ [])
    → Appended t sources n out m out'

-- The normal form of a row was appended, for a table that is accepted and a row that is there.
abbrev pub AppendsForm : List ℕ → List ℕ → List ℕ → ℕ → ℕ → List ℕ → ℕ → List ℕ → Type 0
AppendsForm table widths variables row n out m out' =
    Numbered table widths variables → absent (rows_of table) row ≡ false → Appended (rows_of table) (source_of (rows_of table) row) n out m out'

-- The same of bits high to low of a row that has them.
abbrev pub AppendsCut : List ℕ → List ℕ → List ℕ → Cut → ℕ → List ℕ → ℕ → List ℕ → Type 0
AppendsCut table widths variables cut n out m out' =
    Numbered table widths variables → absent (rows_of table) cut.row ≡ false → cut.low ≤ cut.high → cut.high < width_of (rows_of table) cut.row
    → Appended (rows_of table) (extract (source_of (rows_of table) cut.row) cut.high cut.low) n out m out'

-- What a cut of a join has of the left part, where the parts are so wide: the bits above the right part.
unfoldable pub left_bits : ℕ → ℕ → ℕ → Cut → Part
left_bits row left right cut =
    cond (ltb cut.high right)
    (record { row = row; width = 0; high = 0; low = 0 })
    (record { row = row; width = left; high = cut.high - right; low = cut.low - right })

-- What it has of the right part: the bits below that part's width.
unfoldable pub right_bits : ℕ → ℕ → Cut → Part
right_bits row right cut =
    cond (ltb cut.low right)
    (record { row = row; width = right; high = cond (ltb cut.high right) cut.high (right - 1); low = cut.low })
    (record { row = row; width = 0; high = 0; low = 0 })

-- The sources of such bits, and that the row has them.
unfoldable pub part_sources : List Row → Part → List ℕ
part_sources t part = cond (eqb part.width 0) [] (extract (source_of t part.row) part.high part.low)

pub record Within (t : List Row) (part : Part) : Type 0 where
  pub there : absent t part.row ≡ false
  pub wide : part.width ≡ width_of t part.row
  pub in_order : part.low ≤ part.high
  pub inside : part.high < width_of t part.row

-- The normal form of such bits was appended, and of those of both parts.
abbrev pub AppendsPart : List ℕ → List ℕ → List ℕ → Part → ℕ → List ℕ → ℕ → List ℕ → Type 0
AppendsPart table widths variables part n out m out' =
    Numbered table widths variables → (0 < part.width → Within (rows_of table) part) → Appended (rows_of table) (part_sources (rows_of table) part) n out m out'

abbrev pub AppendsParts : List ℕ → List ℕ → List ℕ → Part → Part → ℕ → List ℕ → ℕ → List ℕ → Type 0
AppendsParts table widths variables left right n out m out' =
    Numbered table widths variables → (0 < left.width → Within (rows_of table) left) → (0 < right.width → Within (rows_of table) right)
    → Appended (rows_of table) (part_sources (rows_of table) left ++ part_sources (rows_of table) right) n out m out'
