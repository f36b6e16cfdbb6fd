-- The sources of a filled side, as a reader gives them from its normal form in a buffer.
use mathlib.Core.Path.{◌≡◌, refl, sym, ◌∙◌, ap, ap₂}
use mathlib.Core.Bool.{Bool, true, false}
use mathlib.Core.List.{List, [], ◌∷◌, ◌++◌, map, append_assoc, append-nil}
use Prim.Native.Nat.{ℕ, zero, suc, ◌+◌, ◌-◌, ◌*◌, ◌%◌, ◌<◌, ◌≤◌}
use native.Mathlib.Omega.{arith}
use lib.Dec.{ltb}
use lib.ListN.{length, get_or, take, replicate}
use lib.Seq.{take-suc, take-length}
use borrow.Author.Tests.{ltb-true}
use Rattle.terms.specs.declared.Row.{Row}
use Rattle.terms.specs.Table.{rows_of, bits_of, count_kind, bit_of, sources_of, source_of, evened}
use Rattle.laws.specs.Lists.{count_up}
use Rattle.laws.specs.Buffers.{overwrite}
use Rattle.terms.specs.Faults.{absent}
use Rattle.terms.proofs.AcceptedTable.{Table, accepted_table, table_bits, term_there}
use Rattle.terms.proofs.Filled.{evened-word}
use Rattle.terms.proofs.Sources.{value_sources}
use Rattle.laws.proofs.CountUp.{count-up}
use Rattle.terms.specs.Sound.{Sound}
use Rattle.forms.specs.declared.Piece.{Piece}
use Rattle.forms.specs.Form.{fill, form_from, numbers_of}
use Rattle.terms.specs.inner.Placed.{Numbered}
use Rattle.pieces.proofs.Buffer.{form_piece}
use Rattle.appender.specs.inner.Append.{Appended}
use Rattle.forms.proofs.RowForms.{sources_wide, width_small, width_read}
use Rattle.appender.proofs.Appending.{appended_both, appended_same, appended_first}
use Rattle.forms.proofs.Units.{form_count}
use Rattle.terms.specs.inner.Places.{low_source}
use Rattle.sides.specs.declared.Reader.{Reader}
use Rattle.sides.specs.inner.Reading.{stepped, sources_in, spelled, Stands}
use Rattle.sides.proofs.Reading.{reader_source, reader_ends}
use Rattle.sides.proofs.Spelling.{named, named_all, Lies, AllLie, form_lies, form_named, AllBelow, none, some}

-- a run that stands still, and one that rises
stepped_still : (x n : ℕ) → x < 65536 → stepped x 0 n ≡ replicate n x
unfolding stepped
stepped_still x zero h = refl
stepped_still x (suc n) h = let e : (x + 0) % 65536 ≡ x = omega arith in ap (λ (k : ℕ). x ∷ stepped k 0 n) e ∙ ap (λ (l : List ℕ). x ∷ l) (stepped_still x n h)

stepped_up : (x n : ℕ) → x + n < 65536 → stepped x 1 n ≡ count_up x n
unfolding stepped count_up
stepped_up x zero h = refl
stepped_up x (suc n) h =
    let e : (x + 1) % 65536 ≡ suc x = omega arith in
    ap (λ (k : ℕ). x ∷ stepped k 1 n) e ∙ ap (λ (l : List ℕ). x ∷ l) (stepped_up (suc x) n (omega arith))

-- the sources of the pieces in turn
unfoldable in_turn : List ℕ → List Piece → List ℕ
in_turn lows [] = []
in_turn lows (p ∷ ps) = sources_in lows p ++ in_turn lows ps

turn_snoc : (lows : List ℕ) (ps : List Piece) (p : Piece) → in_turn lows (ps ++ (p ∷ [])) ≡ in_turn lows ps ++ sources_in lows p
unfolding in_turn
turn_snoc lows [] p = append-nil (sources_in lows p)
turn_snoc lows (q ∷ ps) p =
    ap (λ (l : List ℕ). sources_in lows q ++ l) (turn_snoc lows ps p) ∙ sym (append_assoc (sources_in lows q) (in_turn lows ps) (sources_in lows p))

spelled_turn : (lows base : List ℕ) (f : List Piece) → length f * 4 ≤ length base
    → (n : ℕ) → n ≤ length f → spelled lows (overwrite (numbers_of f) base) n ≡ in_turn lows (take n f)
unfolding spelled in_turn
spelled_turn lows base f room zero h = refl
spelled_turn lows base f room (suc n) h =
    let p = get_or f n (fill 0 0) in
    ap₂ (λ (l : List ℕ) (q : Piece). l ++ sources_in lows q) (spelled_turn lows base f room n (omega arith)) (form_piece base f n h room)
    ∙ sym (turn_snoc lows (take n f) p) ∙ ap (in_turn lows) (sym (take-suc f n (fill 0 0) h))

module _ (n : ℕ) (lows : List ℕ) (fit : n < 65535) where
  -- what is read of a piece are its sources
  piece_read : (p : Piece) → Lies n lows p → sources_in lows p ≡ named lows p
  unfolding sources_in named
  piece_read p k = go (ltb p.kind 2) refl
    where
      go : (b : Bool) → ltb p.kind 2 ≡ b → sources_in lows p ≡ named lows p
      go true e =
          let w : suc p.high ≡ p.high + 1 = omega arith in
          rw (e, w) (stepped_still p.kind (p.high + 1) (omega (arith, ltb-true p.kind 2 e)))
      go false e =
          let low = get_or lows p.variable 0 in
          let w : suc (p.high - p.low) ≡ p.high + 1 - p.low = omega (arith, k.in_order) in
          rw (e, w) (stepped_up (low - p.high) (p.high + 1 - p.low) (omega (arith, k.inside e, k.small e)))

  pieces_read : (f : List Piece) → AllLie n lows f → in_turn lows f ≡ named_all lows f
  unfolding in_turn named_all
  pieces_read f none = refl
  pieces_read f (some {p = p} {form = rest} k ks) = ap₂ (λ (a b : List ℕ). a ++ b) (piece_read p k) (pieces_read rest ks)

  form_read : (f : List Piece) (base : List ℕ) → AllLie n lows f → length f * 4 ≤ length base
      → spelled lows (overwrite (numbers_of f) base) (length f) ≡ named_all lows f
  form_read f base k h = spelled_turn lows base f h (length f) (omega arith) ∙ ap (in_turn lows) (take-length f) ∙ pieces_read f k

-- sources of a row are fixed bits and places
up_below : (k m i : ℕ) → 0 < k + m → get_or (count_up k m) i 0 < k + m
unfolding count_up
up_below k zero i h = omega arith
up_below k (suc m) zero h = omega arith
up_below k (suc m) (suc i) h = omega (arith, up_below (suc k) m i (omega arith))

bit_below : (n s : ℕ) → bit_of (count_up 2 n) s < n + 2
unfolding bit_of
bit_below n zero = omega arith
bit_below n (suc zero) = omega arith
bit_below n (suc (suc i)) = omega (arith, up_below 2 n i (omega arith))

bits_below : (n : ℕ) (xs : List ℕ) → AllBelow (n + 2) (map (bit_of (count_up 2 n)) xs)
bits_below n [] = none
bits_below n (x ∷ xs) = some (bit_below n x) (bits_below n xs)

pub sources_below : (t : List Row) → Sound t → (r : ℕ) → r < length t → AllBelow (bits_of t + 2) (source_of t r)
unfolding sources_of
sources_below t sound r h =
    rw (value_sources t (count_up 2 (bits_of t)) sound (count-up 2 (bits_of t)) r h) (bits_below (bits_of t) (source_of t r))

pub below_read : (n : ℕ) (xs : List ℕ) → AllBelow n xs → (i : ℕ) → i < length xs → get_or xs i 0 < n
below_read n xs none i h = absurd (omega arith)
below_read n xs (some l k) zero h = l
below_read n xs (some {xs = ys} l k) (suc i) h = below_read n ys k i (omega arith)

-- and so are those of a filled side
zeros_below : (n k : ℕ) (xs : List ℕ) → 0 < n → AllBelow n xs → AllBelow n (replicate k 0 ++ xs)
zeros_below n zero xs h b = b
zeros_below n (suc k) xs h b = some h (zeros_below n k xs h b)

pub filled_below : (t : List Row) → Sound t → (r s : ℕ) → r < length t → AllBelow (bits_of t + 2) (evened (source_of t r) (source_of t s))
unfolding evened
filled_below t sound r s h = zeros_below (bits_of t + 2) (length (source_of t s) - length (source_of t r)) (source_of t r) (omega arith) (sources_below t sound r h)

-- one side: its form in a buffer, and what a reader gives of it
module _ (table widths variables : List ℕ) (ready : Numbered table widths variables)
    (row : ℕ) (there : absent (rows_of table) row ≡ false) (other : ℕ) (there' : absent (rows_of table) other ≡ false) where
  abbrev rows : List Row
  rows = rows_of table

  -- the filled side
  abbrev side : List ℕ
  side = evened (source_of rows row) (source_of rows other)

  whole : Table table
  whole = accepted_table table ready.accepted

  few_bits : bits_of rows ≤ 4096
  few_bits = table_bits table ready.accepted

  below : AllBelow (bits_of rows + 2) side
  below = filled_below rows whole.sound row other (term_there rows row there).earlier

  small : length side ≤ 1024
  small =
      omega (
        arith,
        (evened-word (source_of rows row) (source_of rows other)).wide,
        sources_wide table widths variables ready row there,
        width_small table widths variables ready row there,
        sources_wide table widths variables ready other there',
        width_small table widths variables ready other there',
      )

  -- as many zeros as the side lacks
  lacks : get_or widths other 0 - get_or widths row 0 ≡ length (source_of rows other) - length (source_of rows row)
  lacks =
      ap₂ ◌-◌ (width_read table widths variables ready other there' other there' ∙ sym (sources_wide table widths variables ready other there'))
      (width_read table widths variables ready row there row there ∙ sym (sources_wide table widths variables ready row there))

  -- a fill of zeros and the row's form behind it are the normal form of the filled side
  pub side-written : (form form₁ form' : List ℕ) (lacking m n : ℕ) → lacking ≡ get_or widths other 0 - get_or widths row 0
      → Appended rows (replicate lacking 0) 0 form m form₁ → Appended rows (source_of rows row) m form₁ n form'
      → 4096 ≤ length form → form' ≡ overwrite (numbers_of (form_from rows side)) form
  unfolding evened
  side-written form form₁ form' lacking m n el fill put room =
      let both = appended_both rows (replicate lacking 0) (source_of rows row) 0 m n form form₁ form' fill put in
      let filled = appended_same rows (replicate lacking 0 ++ source_of rows row) side 0 n form form'
      (ap (λ (k : ℕ). replicate k 0 ++ source_of rows row) (el ∙ lacks)) both in
      (appended_first rows side form n form' small room filled).numbers

  -- the pieces of a written form spell the filled side's sources
  module _ (lows : List ℕ) (lows_are : (v : ℕ) → v < count_kind 0 (rows_of table) → get_or lows v 0 ≡ low_source (rows_of table) v)
      (form form' : List ℕ) (room : 4096 ≤ length form)
      (e : form' ≡ overwrite (numbers_of (form_from (rows_of table) (evened (source_of (rows_of table) row) (source_of (rows_of table) other)))) form) where
    all : spelled lows form' (length (form_from rows side)) ≡ side
    all =
        ap (λ (f : List ℕ). spelled lows f (length (form_from rows side))) e
        ∙ form_read (bits_of rows + 1) lows (omega (arith, few_bits)) (form_from rows side) form (form_lies rows lows lows_are side below)
        (omega (arith, form_count rows side, small))
        ∙ form_named rows lows lows_are side below

    -- from its first bit to its last a reader gives them, and none of its pieces goes on past the last
    pub side_read : (k : ℕ) (at : Reader) → k < length (evened (source_of (rows_of table) row) (source_of (rows_of table) other)) → Stands lows form' k at
        → at.source ≡ get_or (evened (source_of (rows_of table) row) (source_of (rows_of table) other)) k 0
    side_read k at l s = reader_source lows form' at (length (form_from rows side)) k (rw all l) s ∙ ap (λ (q : List ℕ). get_or q k 0) all

    pub side_ends : (k : ℕ) (at : Reader) → k < length (evened (source_of (rows_of table) row) (source_of (rows_of table) other)) → Stands lows form' k at
        → k + at.left < length (evened (source_of (rows_of table) row) (source_of (rows_of table) other))
    side_ends k at l s = omega (arith, ap length all, reader_ends lows form' at (length (form_from rows side)) k (rw all l) s)
