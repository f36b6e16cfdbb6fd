-- What a normal form is (document 01, "Normal form"): a row's sources, grouped. Each source is first a piece of one bit;
-- then neighbouring pieces that meet are made one.
use Rattle.std.specs.Prelude.{Bool, ◌&&◌, ◌||◌, cond, List, [], ◌∷◌, ◌++◌, map, ℕ, zero, suc, ◌+◌, ◌-◌, eqb, ltb, get_or, take, drop, replicate}
use Rattle.terms.specs.declared.Row.{Row}
use Rattle.terms.specs.Table.{if_variable, extract, source_of}
use Rattle.forms.specs.declared.Piece.{Piece}

-- A fill (constant) of the bit b that is n + 1 wide.
abbrev pub fill : ℕ → ℕ → Piece
fill b n = record { kind = b; variable = 0; high = n; low = 0 }

-- Bits high down to low of variable v.
abbrev pub part : ℕ → ℕ → ℕ → Piece
part v high low = record { kind = 2; variable = v; high = high; low = low }

-- The n bits from low up of variable v, each a piece of its own, high end first.
unfoldable pub bits_up : ℕ → ℕ → ℕ → List Piece
bits_up v low zero = []
bits_up v low (suc n) = part v (low + n) (low + n) ∷ bits_up v low n

-- The places of an assignment as pieces of one bit: rows of which v variables stand before.
unfoldable pub place_pieces : ℕ → List Row → List Piece
place_pieces v [] = []
place_pieces v (r ∷ rs) = if_variable r (bits_up v 0 r.a) [] ++ place_pieces (v + cond (eqb r.kind 0) 1 0) rs

-- One source as a piece.
unfoldable pub piece_of : List Row → ℕ → Piece
piece_of t s = get_or (fill 0 0 ∷ fill 1 0 ∷ place_pieces 0 t) s (fill 0 0)

-- Whether two neighbours are one piece: fills of one bit, or bits i to j and j - 1 to k of one variable.
unfoldable pub meets : Piece → Piece → Bool
meets p q = eqb p.kind q.kind && (ltb p.kind 2 || (eqb p.variable q.variable && eqb p.low (q.high + 1)))

-- That one piece.
unfoldable pub merged : Piece → Piece → Piece
merged p q =
    record {
      kind = p.kind;
      variable = p.variable;
      high = cond (ltb p.kind 2) (p.high + q.high + 1) p.high;
      low = q.low;
    }

-- A piece in front of a form.
unfoldable pub add : Piece → List Piece → List Piece
add p [] = p ∷ []
add p (q ∷ form) = cond (meets p q) (merged p q ∷ form) (p ∷ q ∷ form)

-- Pieces in front of a form, merged where they meet.
unfoldable pub add_all : List Piece → List Piece → List Piece
add_all [] form = form
add_all (p ∷ pieces) form = add p (add_all pieces form)

-- Pieces grouped.
unfoldable pub group : List Piece → List Piece
group pieces = add_all pieces []

-- The normal form of sources, and of a row.
unfoldable pub form_from : List Row → List ℕ → List Piece
form_from t sources = group (map (piece_of t) sources)

unfoldable pub form_of : List Row → ℕ → List Piece
form_of t r = form_from t (source_of t r)

-- The bits of each variable under the assignment p, variable 0 first.
unfoldable pub variable_bits : List Row → List ℕ → List (List ℕ)
variable_bits [] p = []
variable_bits (r ∷ rs) p = if_variable r (take r.a p ∷ variable_bits rs (drop r.a p)) (variable_bits rs p)

-- The value of a piece, where vs are the variables' bits: a fill's copies, or bits high to low of its variable.
unfoldable pub piece_value : List (List ℕ) → Piece → List ℕ
piece_value vs p =
    cond (ltb p.kind 2) (replicate (p.high + 1) p.kind) (extract (get_or vs p.variable []) p.high p.low)

-- The value of a form under the assignment p: its pieces side by side.
unfoldable pub pieces_value : List (List ℕ) → List Piece → List ℕ
pieces_value vs [] = []
pieces_value vs (p ∷ form) = piece_value vs p ++ pieces_value vs form

unfoldable pub form_value : List Row → List ℕ → List Piece → List ℕ
form_value t p form = pieces_value (variable_bits t p) form

-- How many bits a piece has, and a form.
unfoldable pub piece_width : Piece → ℕ
piece_width p = p.high + 1 - p.low

unfoldable pub form_width : List Piece → ℕ
form_width [] = 0
form_width (p ∷ form) = piece_width p + form_width form

-- A form as it is written: four numbers for each piece.
unfoldable pub numbers_of : List Piece → List ℕ
numbers_of [] = []
numbers_of (p ∷ form) = p.kind ∷ p.variable ∷ p.high ∷ p.low ∷ numbers_of form
