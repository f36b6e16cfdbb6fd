-- A form read bit by bit: the sources that its pieces spell, and the reader that stands at one of them.
use Rattle.std.specs.Prelude.{◌≡◌, cond, List, [], ◌∷◌, ◌++◌, ℕ, zero, suc, ◌+◌, ◌-◌, ◌%◌, ◌≤◌, ◌<◌, eqb, ltb, length, get_or}
use Rattle.forms.specs.declared.Piece.{Piece}
use Rattle.pieces.specs.inner.Pieces.{piece_at}
use Rattle.sides.specs.declared.Reader.{Reader}

-- x, x + step, x + 2 · step and so on, n numbers in 16 bits.
unfoldable pub stepped : ℕ → ℕ → ℕ → List ℕ
stepped x step zero = []
stepped x step (suc n) = x ∷ stepped ((x + step) % 65536) step n

-- The sources of one piece, which has a bit at least: a fill's stand still, those of a part of a variable rise.
unfoldable pub sources_in : List ℕ → Piece → List ℕ
sources_in lows p =
    cond (ltb p.kind 2)
    (stepped p.kind 0 (suc p.high))
    (stepped (get_or lows p.variable 0 - p.high) 1 (suc (p.high - p.low)))

-- The sources of the first n pieces of a form.
unfoldable pub spelled : List ℕ → List ℕ → ℕ → List ℕ
spelled lows form zero = []
spelled lows form (suc n) = spelled lows form n ++ sources_in lows (piece_at form n)

-- The reader at the first bit of piece i. A piece past the buffer's end is one bit 0.
unfoldable pub first_in : List ℕ → List ℕ → ℕ → Reader
first_in lows form i =
    record {
      piece = i;
      source = cond (ltb (piece_at form i).kind 2) (piece_at form i).kind (get_or lows (piece_at form i).variable 0 - (piece_at form i).high);
      step = cond (ltb (piece_at form i).kind 2) 0 1;
      left = cond (ltb (piece_at form i).kind 2) (piece_at form i).high ((piece_at form i).high - (piece_at form i).low);
    }

-- The reader one bit on: in its piece, or at the first bit of the next one. Behind piece 65,535 is piece 0.
unfoldable pub next_in : List ℕ → List ℕ → Reader → Reader
next_in lows form at =
    cond (eqb at.left 0)
    (first_in lows form ((at.piece + 1) % 65536))
    (record { piece = at.piece; source = (at.source + at.step) % 65536; step = at.step; left = at.left - 1 })

-- A reader stands at bit k of a form: up to its piece's end the pieces spell k sources, and then its own with those left in the piece.
pub record Stands (lows form : List ℕ) (k : ℕ) (at : Reader) : Type 0 where
  pub before : List ℕ
  pub counted : length before ≡ k
  pub spells : spelled lows form (suc at.piece) ≡ before ++ stepped at.source at.step (suc at.left)
  pub within : length (spelled lows form at.piece) ≤ k
  pub few : at.piece ≤ k

-- A reader that stood at bit k stands at bit k + 1.
abbrev pub StepsOn : List ℕ → List ℕ → Reader → Reader → Type 0
StepsOn lows form at on = (k : ℕ) → k < 65535 → Stands lows form k at → Stands lows form (k + 1) on

-- The reader n bits on, in a part of a variable that goes on so far.
unfoldable pub risen : ℕ → Reader → Reader
risen n at = record { piece = at.piece; source = (at.source + n) % 65536; step = at.step; left = at.left - n }
