-- What the inner functions ask of their caller: a table that was accepted, with its widths and the places of its variables, a pattern of
-- its length, and a term of it; and what they ask of a kind.
use Rattle.std.specs.Prelude.{◌≡◌, Bool, ◌||◌, List, ℕ, ◌<◌, eqb, length}
use Rattle.terms.specs.Table.{rows_of, row_at, bits_of}
use Rattle.terms.specs.inner.Placed.{Placed}

pub record Ready (table widths places pattern : List ℕ) : Type 0 where
  pub placed : Placed table widths places
  pub whole : length pattern ≡ bits_of (rows_of table)

pub record IsTerm (table : List ℕ) (row : ℕ) : Type 0 where
  pub there : row < length (rows_of table)
  pub no_equation : (row_at (rows_of table) row).kind ≡ 4 → ⊥

-- Whether a row of this kind is a fixed word: a constant (fill) or a value.
unfoldable pub is_fixed : ℕ → Bool
is_fixed kind = eqb kind 1 || eqb kind 5
