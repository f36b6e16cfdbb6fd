-- The pieces of a normal form in a buffer: four numbers for each, kind, variable, high and low.
use Rattle.std.specs.Prelude.{Bool, ◌&&◌, cond, List, ℕ, ◌+◌, ◌-◌, ◌*◌, ◌/◌, ◌%◌, ltb, length, get_or}
use Rattle.laws.specs.Buffers.{set_four}
use Rattle.forms.specs.declared.Piece.{Piece}
use Rattle.forms.specs.Form.{fill, meets}

-- Piece i of a buffer, all 0 past its end.
unfoldable pub piece_at : List ℕ → ℕ → Piece
piece_at out i =
    cond (ltb i (length out / 4))
    (record { kind = get_or out (i * 4) 0; variable = get_or out (i * 4 + 1) 0; high = get_or out (i * 4 + 2) 0; low = get_or out (i * 4 + 3) 0 })
    (fill 0 0)

-- A buffer with piece i written, if it is there.
unfoldable pub put_piece : List ℕ → ℕ → Piece → List ℕ
put_piece out i p =
    cond (ltb i (length out / 4))
    (set_four out (i * 4) p.kind p.variable p.high p.low)
    out

-- Two pieces merged, in 16 bits.
unfoldable pub merged_in : Piece → Piece → Piece
merged_in p q =
    record {
      kind = p.kind;
      variable = p.variable;
      high = cond (ltb p.kind 2) (((p.high + q.high) % 65536 + 1) % 65536) p.high;
      low = q.low;
    }

-- Whether a piece meets the last of n pieces of a buffer.
unfoldable pub meets_last : List ℕ → ℕ → Piece → Bool
meets_last out n q = ltb 0 n && meets (piece_at out (n - 1)) q

-- How many pieces there are, and the buffer, once a piece was appended to n pieces. A full buffer stays as it is.
unfoldable pub pushed_count : List ℕ → ℕ → Piece → ℕ
pushed_count out n q = cond (ltb n (length out / 4)) (cond (meets_last out n q) n (n + 1)) n

unfoldable pub pushed_numbers : List ℕ → ℕ → Piece → List ℕ
pushed_numbers out n q =
    cond (ltb n (length out / 4))
    (cond (meets_last out n q) (put_piece out (n - 1) (merged_in (piece_at out (n - 1)) q)) (put_piece out n q))
    out
