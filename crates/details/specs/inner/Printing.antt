-- What the program cases prints of a table, as far as it stands in a buffer before it is written: the bits of a pattern, and the lines of a
-- form's pieces.
use Rattle.std.specs.Prelude.{cond, List, [], ◌∷◌, ◌++◌, ℕ, zero, suc, ◌%◌, eqb, length}
use Rattle.forms.specs.declared.Piece.{Piece}
use Rattle.pieces.specs.inner.Pieces.{piece_at}
use Rattle.sheets.specs.declared.Text.{Text}
use Rattle.sheets.specs.Print.{field, line_of, shown}
use Rattle.sheets.specs.inner.Printed.{printed, behind}

-- 1 for each step-th number from the first on, 0 for the others; and the first n of these.
unfoldable pub mark_at : ℕ → ℕ → ℕ → ℕ
mark_at first step i = cond (eqb step 0) 0 (cond (eqb (i % step) first) 1 0)

unfoldable pub marks : ℕ → ℕ → ℕ → List ℕ
marks first step zero = []
marks first step (suc n) = marks first step n ++ (mark_at first step n ∷ [])

-- A line of four values, and the line of a piece.
unfoldable pub four_line : ℕ → ℕ → ℕ → ℕ → Text
four_line a b c d = line_of (field a 32 ++ (field b 32 ++ (field c 32 ++ field d 10)))

unfoldable pub piece_line : Piece → List ℕ
piece_line p = shown (four_line p.kind p.variable p.high p.low)

-- The lines of the first n pieces of a form in a buffer, from a place on, each where it fits: the place behind them, and the buffer.
unfoldable pub pieces_behind : ℕ → ℕ → List ℕ → ℕ → ℕ
pieces_behind room at form zero = at
pieces_behind room at form (suc n) = behind room (pieces_behind room at form n) (piece_line (piece_at form n))

unfoldable pub pieces_put : List ℕ → ℕ → List ℕ → ℕ → List ℕ
pieces_put out at form zero = out
pieces_put out at form (suc n) = printed (pieces_put out at form n) (pieces_behind (length out) at form n) (piece_line (piece_at form n))
