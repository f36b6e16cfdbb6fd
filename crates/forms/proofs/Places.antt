-- A row's sources as pieces of one bit: a variable's are its bits, a constant's are fills; grouped, each is one piece.
use mathlib.Core.Path.{◌≡◌, refl, sym, ◌∙◌, ap, ap₂}
use mathlib.Core.Bool.{cond}
use mathlib.Core.List.{List, [], ◌∷◌, ◌++◌, map, append_assoc}
use mathlib.Core.Logic.{inl}
use Prim.Native.Nat.{ℕ, zero, suc, ◌+◌, ◌-◌, ◌<◌, ◌≤◌}
use native.Mathlib.Omega.{arith}
use lib.Dec.{eqb}
use lib.ListN.{length, get_or, take, drop, replicate, length-append}
use lib.Seq.{split_at, take_at, drop_at}
use borrow.Author.Tests.{eq-eqb, ne_eqb, lt-ltb}
use Rattle.terms.specs.declared.Row.{Row}
use Rattle.terms.specs.Table.{row_at, no_row, if_variable, bits_in, bits_of, count_kind, sources_of, source_of}
use Rattle.laws.specs.Lists.{count_up}
use Rattle.terms.proofs.RowKinds.{of_variable, of_other, by_variable, bits_variable, bits_other}
use Rattle.laws.proofs.Lists.{map-take, map-drop, map-replicate, read_places}
use Rattle.terms.proofs.Values.{fill-word, value_variable, value_fixed}
use Rattle.forms.specs.declared.Piece.{Piece}
use Rattle.forms.specs.Form.{fill, part, bits_up, place_pieces, piece_of, meets, merged, add, add_all, group}

pub bits_count : (v low n : ℕ) → length (bits_up v low n) ≡ n
unfolding bits_up
bits_count v low zero = refl
bits_count v low (suc n) = ap suc (bits_count v low n)

pub bits_at : (v low n i : ℕ) (d : Piece) → i < n → get_or (bits_up v low n) i d ≡ part v (low + (n - 1 - i)) (low + (n - 1 - i))
unfolding bits_up
bits_at v low zero i d h = absurd (omega arith)
bits_at v low (suc n) zero d h = let e : low + n ≡ low + (suc n - 1 - 0) = omega arith in ap (λ (k : ℕ). part v k k) e
bits_at v low (suc n) (suc i) d h = let e : low + (n - 1 - i) ≡ low + (suc n - 1 - suc i) = omega arith in bits_at v low n i d (omega arith) ∙ ap (λ (k : ℕ). part v k k) e

-- the pieces that a row adds
pub pieces_variable : (v : ℕ) (r : Row) (t : List Row) → r.kind ≡ 0 → place_pieces v (r ∷ t) ≡ bits_up v 0 r.a ++ place_pieces (suc v) t
unfolding place_pieces
pieces_variable v r t e =
    let n : v + cond (eqb r.kind 0) 1 0 ≡ suc v = rw (eq-eqb r.kind 0 e) (omega arith) in
    rw (n, of_variable r (bits_up v 0 r.a) [] e)

pub pieces_other : (v : ℕ) (r : Row) (t : List Row) → (r.kind ≡ 0 → ⊥) → place_pieces v (r ∷ t) ≡ place_pieces v t
unfolding place_pieces
pieces_other v r t h =
    let same : v + cond (eqb r.kind 0) 1 0 ≡ v = rw (ne_eqb r.kind 0 h) (omega arith) in
    rw (same, of_other r (bits_up v 0 r.a) [] h)

row_pieces : ℕ → Row → List Piece
row_pieces v r = if_variable r (bits_up v 0 r.a) []

row-count : (v : ℕ) (r : Row) → length (row_pieces v r) ≡ bits_in r
unfolding row_pieces
row-count v r =
    by_variable r (bits_up v 0 r.a) [] (λ (ps : List Piece). length ps ≡ bits_in r)
    (λ e. bits_count v 0 r.a ∙ sym (bits_variable r e))
    (λ h. sym (bits_other r h))

pub places_count : (v : ℕ) (t : List Row) → length (place_pieces v t) ≡ bits_of t
unfolding place_pieces bits_of row_pieces
places_count v [] = refl
places_count v (r ∷ t) =
    length-append (row_pieces v r) (place_pieces (v + cond (eqb r.kind 0) 1 0) t)
    ∙ ap₂ ◌+◌ (row-count v r) (places_count (v + cond (eqb r.kind 0) 1 0) t)

places_append : (v : ℕ) (xs ys : List Row) → place_pieces v (xs ++ ys) ≡ place_pieces v xs ++ place_pieces (v + count_kind 0 xs) ys
unfolding place_pieces count_kind
places_append v [] ys = let e : v ≡ v + 0 = omega arith in ap (λ (n : ℕ). place_pieces n ys) e
places_append v (r ∷ xs) ys =
    let n : ℕ = cond (eqb r.kind 0) 1 0 in
    let e : v + n + count_kind 0 xs ≡ v + (n + count_kind 0 xs) = omega arith in
    let here = if_variable r (bits_up v 0 r.a) [] in
    ap (λ (l : List Piece). here ++ l) (places_append (v + n) xs ys ∙ ap (λ (k : ℕ). place_pieces (v + n) xs ++ place_pieces k ys) e)
    ∙ sym (append_assoc here (place_pieces (v + n) xs) (place_pieces (v + (n + count_kind 0 xs)) ys))

-- a variable's bits stand at its start
variable_places : (t : List Row) (r : ℕ) → r < length t → (row_at t r).kind ≡ 0
    → take (row_at t r).a (drop (bits_of (take r t)) (place_pieces 0 t)) ≡ bits_up (count_kind 0 (take r t)) 0 (row_at t r).a
unfolding place_pieces
variable_places t r h e =
    let row = row_at t r in
    let v = count_kind 0 (take r t) in
    let rest = drop (suc r) t in
    let more = place_pieces (0 + v + cond (eqb row.kind 0) 1 0) rest in
    let front = place_pieces 0 (take r t) in
    let here : place_pieces (0 + v) (row ∷ rest) ≡ bits_up (0 + v) 0 row.a ++ more = ap (λ (l : List Piece). l ++ more) (of_variable row (bits_up (0 + v) 0 row.a) [] e) in
    let all : place_pieces 0 t ≡ front ++ (bits_up (0 + v) 0 row.a ++ more) =
    ap (place_pieces 0) (split_at t r no_row h) ∙ places_append 0 (take r t) (row ∷ rest) ∙ ap (λ (l : List Piece). front ++ l) here in
    let v₀ : 0 + v ≡ v = omega arith in
    ap (λ (l : List Piece). take row.a (drop (bits_of (take r t)) l)) all
    ∙ ap (take row.a) (drop_at front (bits_up (0 + v) 0 row.a ++ more) (bits_of (take r t)) (places_count 0 (take r t)))
    ∙ take_at (bits_up (0 + v) 0 row.a) more row.a (bits_count (0 + v) 0 row.a)
    ∙ ap (λ (k : ℕ). bits_up k 0 row.a) v₀

all_places : (t : List Row) → map (piece_of t) (count_up 2 (bits_of t)) ≡ place_pieces 0 t
unfolding piece_of
all_places t = read_places (fill 0 0) (fill 1 0) (fill 0 0) (place_pieces 0 t) (bits_of t) (places_count 0 t)

pub variable_pieces : (t : List Row) (r : ℕ) → r < length t → (row_at t r).kind ≡ 0
    → map (piece_of t) (source_of t r) ≡ bits_up (count_kind 0 (take r t)) 0 (row_at t r).a
unfolding sources_of
variable_pieces t r h e =
    let places = count_up 2 (bits_of t) in
    let start = bits_of (take r t) in
    ap (map (piece_of t)) (value_variable t places r h e)
    ∙ map-take (piece_of t) (row_at t r).a (drop start places)
    ∙ ap (take (row_at t r).a) (map-drop (piece_of t) start places ∙ ap (drop start) (all_places t))
    ∙ variable_places t r h e

pub constant_piece : (t : List Row) (b : ℕ) → b ≤ 1 → piece_of t b ≡ fill b 0
unfolding piece_of
constant_piece t zero h = refl
constant_piece t (suc zero) h = refl
constant_piece t (suc (suc b)) h = absurd (omega arith)

pub constant_pieces : (t : List Row) (r : ℕ) → r < length t → (row_at t r).kind ≡ 1 → (row_at t r).a ≤ 1
    → map (piece_of t) (source_of t r) ≡ replicate (row_at t r).b (fill (row_at t r).a 0)
unfolding sources_of
constant_pieces t r h e l =
    ap (map (piece_of t)) (value_fixed t (count_up 2 (bits_of t)) r h (inl e) ∙ fill-word (row_at t r) e)
    ∙ map-replicate (piece_of t) (row_at t r).b (row_at t r).a
    ∙ ap (replicate (row_at t r).b) (constant_piece t (row_at t r).a l)

-- parts of a variable's bits
pub bits_drop : (v low n j : ℕ) → drop j (bits_up v low n) ≡ bits_up v low (n - j)
unfolding bits_up
bits_drop v low n zero = let e : n ≡ n - 0 = omega arith in ap (bits_up v low) e
bits_drop v low zero (suc j) = let e : zero ≡ zero - suc j = omega arith in ap (bits_up v low) e
bits_drop v low (suc n) (suc j) = let e : n - j ≡ suc n - suc j = omega arith in bits_drop v low n j ∙ ap (bits_up v low) e

pub bits_take : (v low n i : ℕ) → i ≤ n → take i (bits_up v low n) ≡ bits_up v (low + (n - i)) i
unfolding bits_up
bits_take v low n zero h = refl
bits_take v low zero (suc i) h = absurd (omega arith)
bits_take v low (suc n) (suc i) h =
    let e : low + n ≡ low + (suc n - suc i) + i = omega arith in
    let f : low + (n - i) ≡ low + (suc n - suc i) = omega arith in
    ap₂ (λ (k : ℕ) (l : List Piece). part v k k ∷ l) e (bits_take v low n i (omega arith) ∙ ap (λ (k : ℕ). bits_up v k i) f)

-- grouped, a variable's bits are one part, and fills of one bit one fill
pub group_bits : (v low n : ℕ) → group (bits_up v low (suc n)) ≡ part v (low + n) low ∷ []
unfolding group add_all add bits_up meets merged
group_bits v low zero = let e : low + 0 ≡ low = omega arith in rw e
group_bits v low (suc n) =
    let e : low + suc n ≡ low + n + 1 = omega arith in
    ap (add (part v (low + suc n) (low + suc n))) (group_bits v low n)
    ∙ rw (eq-eqb v v refl, eq-eqb (low + suc n) (low + n + 1) e)

pub group_fills : (b n : ℕ) → b ≤ 1 → group (replicate (suc n) (fill b 0)) ≡ fill b n ∷ []
unfolding group add_all add meets merged
group_fills b zero h = refl
group_fills b (suc n) h =
    let e : 0 + n + 1 ≡ suc n = omega arith in
    ap (add (fill b 0)) (group_fills b n h) ∙ rw (eq-eqb b b refl, lt-ltb b 2 (omega arith), e)
