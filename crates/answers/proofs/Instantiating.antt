-- The answer's rows at fresh bits: each filling gives one assignment that satisfies the pairs, and each that does is given by exactly
-- one filling.
use mathlib.Core.Path.{◌≡◌, refl, sym, ap, ap₂, ◌∙◌, subst}
use mathlib.Core.Logic.{◌⊎◌, inl, inr, ◌≢◌}
use mathlib.Core.Bool.{Bool, true, false, ◌&&◌, ◌||◌, cond}
use mathlib.Core.List.{List, [], ◌∷◌, ◌++◌, map, reverse_aux, append_assoc, append-nil, map-append}
use Prim.Native.Nat.{ℕ, zero, suc, ◌+◌, ◌-◌, ◌≤◌, ◌<◌}
use native.Mathlib.Omega.{arith}
use lib.Dec.{eqb}
use lib.ListN.{length, get_or, take, drop, replicate, length-append, get_or-append}
use lib.Seq.{ext_get_or, get_or-append-add}
use borrow.Author.Tests.{eqb-true, eq-eqb, ne_eqb}
use Rattle.terms.specs.Assignments.{Assignment}
use Rattle.terms.proofs.Assignments.{assignment_length, assignment_bit, assignment_of}
use Rattle.answers.specs.Pairs.{Pair, satisfies_pairs}
use Rattle.answers.specs.inner.Classes.{rep, in_class, Represents}
use Rattle.laws.specs.Lists.{tally, member}
use Rattle.answers.specs.Answer.{begins, rows_to, answer_rows, is_fresh, fresh_numbers, fresh_pieces, fresh_width, fresh_start, free_bits, row_bits, bits_of_rows, instantiate}
use Rattle.answers.specs.declared.AnswerRow.{AnswerRow}
use Rattle.laws.proofs.Numbers.{dec_eq}
use Rattle.laws.proofs.Numbers.{lt_or_le}
use Rattle.laws.proofs.Tallies.{select, member_more, distinct_is}
use Rattle.answers.proofs.Slots.{slots_assignment, Slot, fill, part, value}
use Rattle.laws.proofs.Lists.{tab, tab_at, tab_length, tab_more}
use Rattle.answers.proofs.Gluing.{glue_end}
use Rattle.answers.proofs.OurPieces.{mark, slot, wide, slot_gives, slot_bits, filled, slot_reads, slot_there, slot_inside}
use Rattle.answers.proofs.AnswerRows.{parts_from, row_slots, slots_to, Each, slots_below, Whole, Rows, rows_are, ended}
use Rattle.answers.proofs.FreeBits.{widths_to}

-- rows turned round
pub each_turn : (P : AnswerRow → Type 0) (xs ys : List AnswerRow) → Each P xs → Each P ys → Each P (reverse_aux xs ys)
each_turn P [] ys h k = k
each_turn P (x ∷ xs) ys h k = each_turn P xs (x ∷ ys) h.1 (h.0, k)

numbers_later : (k : ℕ) (xs ys : List AnswerRow) → member k (fresh_numbers ys) ≡ true → member k (fresh_numbers (reverse_aux xs ys)) ≡ true
unfolding fresh_numbers
numbers_later k [] ys h = h
numbers_later k (x ∷ xs) ys h = numbers_later k xs (x ∷ ys) (member_more (is_fresh x) x.fresh k (fresh_numbers ys) h)

numbers_turn : (k : ℕ) (xs ys : List AnswerRow) → member k (fresh_numbers xs) ≡ true → member k (fresh_numbers (reverse_aux xs ys)) ≡ true
unfolding fresh_numbers member
numbers_turn k [] ys h = let z : ◌≡◌ {A = ℕ} 0 1 = cc in absurd (omega arith)
numbers_turn k (x ∷ xs) ys h = go (is_fresh x) refl h (λ (q : member k (fresh_numbers xs) ≡ true). numbers_turn k xs (x ∷ ys) q)
  where
    here : is_fresh x ≡ true → eqb k x.fresh ≡ true → member k (fresh_numbers (reverse_aux xs (x ∷ ys))) ≡ true
    here f e = numbers_later k xs (x ∷ ys) (rw (f, e))

    go : (b : Bool) → is_fresh x ≡ b → member k (cond b (x.fresh ∷ fresh_numbers xs) (fresh_numbers xs)) ≡ true
        → (member k (fresh_numbers xs) ≡ true → member k (fresh_numbers (reverse_aux xs (x ∷ ys))) ≡ true)
        → member k (fresh_numbers (reverse_aux xs (x ∷ ys))) ≡ true
    go false e q r = r q
    go true e q r = two (eqb k x.fresh) refl q
      where
        two : (t : Bool) → eqb k x.fresh ≡ t → t || member k (fresh_numbers xs) ≡ true → member k (fresh_numbers (reverse_aux xs (x ∷ ys))) ≡ true
        two true d w = here e d
        two false d w = r w

-- a part of a list, by reads
reads : (ℕ → ℕ) → ℕ → ℕ → List ℕ
reads g o zero = []
reads g o (suc w) = g o ∷ reads g (suc o) w

reads_drop : (x w : ℕ) (f : List ℕ) (o : ℕ) → x + o + w ≤ length f → take w (drop (x + o) f) ≡ reads (λ i. get_or f (x + i) 0) o w
unfolding reads
reads_drop x zero f o l = refl
reads_drop x (suc w) f o l =
    first (x + o) f (omega arith)
    ∙ ap (λ (t : List ℕ). get_or f (x + o) 0 ∷ t) (ap (λ (y : ℕ). take w (drop y f)) next ∙ reads_drop x w f (suc o) (omega arith))
  where
    next : suc (x + o) ≡ x + suc o
    next = omega arith

    first : (y : ℕ) (g : List ℕ) → y < length g → take (suc w) (drop y g) ≡ get_or g y 0 ∷ take w (drop (suc y) g)
    first zero (z ∷ g) q = refl
    first zero [] q = absurd (omega arith)
    first (suc y) (z ∷ g) q = first y g (omega arith)
    first (suc y) [] q = absurd (omega arith)

parts_value : (φ : ℕ → ℕ → ℕ) (k o w : ℕ) → map (value φ) (parts_from k o w) ≡ reads (φ k) o w
unfolding parts_from reads
parts_value φ k o zero = refl
parts_value φ k o (suc w) = ap (λ (t : List ℕ). φ k o ∷ t) (parts_value φ k (suc o) w)

pub fills_value : (φ : ℕ → ℕ → ℕ) (b w : ℕ) → map (value φ) (replicate w (fill b)) ≡ replicate w b
fills_value φ b zero = refl
fills_value φ b (suc w) = ap (λ (t : List ℕ). b ∷ t) (fills_value φ b w)

module _ (n : ℕ) (c : List ℕ) (seen : List Pair) (inv : Represents n c seen) (one : rep c 1 ≡ 1) (ws : List ℕ) (begin : begins ws 0 ≡ true) (last : begins ws n ≡ true) where
  abbrev C : ℕ → ℕ
  C i = rep c (suc (suc i))

  abbrev answer : List AnswerRow
  answer = answer_rows n ws (in_class c)

  abbrev slot_of : ℕ → Slot
  slot_of i = slot n c seen inv one (begins ws) begin last i

  abbrev wide_of : ℕ → ℕ
  wide_of k = wide n c seen inv one (begins ws) begin last k

  abbrev pieces : ℕ
  pieces = tally n (mark n c seen inv one (begins ws) begin last)

  abbrev WholeRow : AnswerRow → Type 0
  WholeRow r = Whole n c seen inv one ws begin last r

  abbrev widths_below : ℕ → ℕ
  widths_below k = widths_to n c seen inv one (begins ws) begin last k

  -- what is known of the rows, last first
  record Known (rows : List AnswerRow) : Type 0 where
    whole : Each (Whole n c seen inv one ws begin last) rows
    slots : slots_to rows ≡ slots_below n c seen inv one ws begin last n
    numbers : (k : ℕ) → k < tally n (mark n c seen inv one (begins ws) begin last) → member k (fresh_numbers rows) ≡ true

  known : Known (rows_to n ws (in_class c) n)
  unfolding rows_to slots_to slots_below tally
  known = go n refl
    where
      of_rows : (j : ℕ) → n ≡ suc j → (rows : List AnswerRow) → Rows n c seen inv one ws begin last j rows → Known rows
      of_rows j e rows R =
          let w : Each WholeRow (R.row ∷ R.rest) = (ended n c seen inv one ws begin last j R.row (omega arith) R.reaching (λ q. glue_end n (begins ws) C begin last j e), R.whole) in
          subst Known (sym R.are) (record { whole = w; slots = R.slots ∙ ap (slots_below n c seen inv one ws begin last) (sym e); numbers = λ k l. R.numbers k (subst (λ (m : ℕ). k < tally m (mark n c seen inv one (begins ws) begin last)) e l) })

      none : (k : ℕ) → k < tally 0 (mark n c seen inv one (begins ws) begin last) → ⊥
      none k l = omega arith

      empty : n ≡ 0 → Known (rows_to n ws (in_class c) 0)
      empty e = record { whole = tt; slots = ap (slots_below n c seen inv one ws begin last) (sym e); numbers = λ k l. absurd (none k (subst (λ (m : ℕ). k < tally m (mark n c seen inv one (begins ws) begin last)) e l)) }

      go : (m : ℕ) → n ≡ m → Known (rows_to n ws (in_class c) m)
      go zero e = empty e
      go (suc j) e = of_rows j e (rows_to n ws (in_class c) (suc j)) (rows_are n c seen inv one ws begin last j (omega arith))

  numbers_low : (rows : List AnswerRow) → Each WholeRow rows → (k : ℕ) → member k (fresh_numbers rows) ≡ true → k < pieces
  unfolding fresh_numbers member
  numbers_low [] h k m = let z : ◌≡◌ {A = ℕ} 0 1 = cc in absurd (omega arith)
  numbers_low (r ∷ rows) h k m = go (is_fresh r) refl m (λ (q : member k (fresh_numbers rows) ≡ true). numbers_low rows h.1 k q)
    where
      go : (b : Bool) → is_fresh r ≡ b → member k (cond b (r.fresh ∷ fresh_numbers rows) (fresh_numbers rows)) ≡ true
          → (member k (fresh_numbers rows) ≡ true → k < pieces) → k < pieces
      go false e q f = f q
      go true e q f = two (eqb k r.fresh) refl q
        where
          two : (t : Bool) → eqb k r.fresh ≡ t → t || member k (fresh_numbers rows) ≡ true → k < pieces
          two true d w = omega (arith, eqb-true k r.fresh d, (h.0.is_piece e).0)
          two false d w = f w

  pub width_found : (rows : List AnswerRow) → Each WholeRow rows → (k : ℕ) → member k (fresh_numbers rows) ≡ true → fresh_width rows k ≡ wide_of k
  unfolding fresh_numbers member fresh_width
  width_found [] h k m = let z : ◌≡◌ {A = ℕ} 0 1 = cc in absurd (omega arith)
  width_found (r ∷ rows) h k m = go (is_fresh r) refl m (λ (q : member k (fresh_numbers rows) ≡ true). width_found rows h.1 k q)
    where
      go : (b : Bool) → is_fresh r ≡ b → member k (cond b (r.fresh ∷ fresh_numbers rows) (fresh_numbers rows)) ≡ true
          → (member k (fresh_numbers rows) ≡ true → fresh_width rows k ≡ wide_of k) → cond (b && eqb r.fresh k) r.width (fresh_width rows k) ≡ wide_of k
      go false e q f = f q
      go true e q f = two (dec_eq r.fresh k) q
        where
          two : (r.fresh ≡ k) ⊎ (r.fresh ≢ k) → eqb k r.fresh || member k (fresh_numbers rows) ≡ true → cond (eqb r.fresh k) r.width (fresh_width rows k) ≡ wide_of k
          two (inl d) w = rw (eq-eqb r.fresh k d) ((h.0.is_piece e).1 ∙ ap wide_of d)
          two (inr d) w = rw (ne_eqb r.fresh k d) (f (rw (ne_eqb k r.fresh (λ x. d (sym x))) at w))

  pub answer_whole : Each WholeRow answer
  unfolding answer_rows
  answer_whole = each_turn WholeRow (rows_to n ws (in_class c) n) [] known.whole tt

  answer-numbers : (k : ℕ) → k < pieces → member k (fresh_numbers answer) ≡ true
  unfolding answer_rows
  answer-numbers k l = numbers_turn k (rows_to n ws (in_class c) n) [] (known.numbers k l)

  -- The fresh pieces of the answer are those that appear.
  pub fresh-pieces : fresh_pieces answer ≡ pieces
  unfolding fresh_pieces
  fresh-pieces = distinct_is pieces (fresh_numbers answer) (numbers_low answer answer_whole) answer-numbers

  pub fresh-width : (k : ℕ) → k < pieces → fresh_width answer k ≡ wide_of k
  fresh-width k l = width_found answer answer_whole k (answer-numbers k l)

  fresh-start : (k : ℕ) → k ≤ pieces → fresh_start answer k ≡ widths_below k
  unfolding fresh_start widths_to
  fresh-start zero l = refl
  fresh-start (suc k) l = ap₂ ◌+◌ (fresh-start k (omega arith)) (fresh-width k (omega arith))

  pub free-bits : free_bits answer ≡ widths_below pieces
  unfolding free_bits
  free-bits = ap (fresh_start answer) fresh-pieces ∙ fresh-start pieces (omega arith)

  widths_up : (k m : ℕ) → k < m → widths_below k + wide_of k ≤ widths_below m
  unfolding widths_to
  widths_up k zero l = absurd (omega arith)
  widths_up k (suc m) l = go (dec_eq k m) (λ (q : k < m). widths_up k m q)
    where
      go : (k ≡ m) ⊎ (k ≢ m) → (k < m → widths_below k + wide_of k ≤ widths_below m) → widths_below k + wide_of k ≤ widths_below m + wide_of m
      go (inl e) r = rw e (omega arith)
      go (inr e) r = omega (arith, r (omega arith))

  -- the bits of a filling by piece and place
  bit_of_piece : List ℕ → ℕ → ℕ → ℕ
  bit_of_piece f k o = get_or f (widths_below k + o) 0

  module _ (f : List ℕ) (len : length f ≡ widths_below pieces) where
    row-value : (r : AnswerRow) → WholeRow r → row_bits answer f r ≡ map (value (bit_of_piece f)) (row_slots r)
    unfolding row_bits row_slots bit_of_piece
    row-value r h = go (is_fresh r) refl
      where
        zero_more : (x : ℕ) → x + 0 ≡ x
        zero_more x = omega arith

        go : (b : Bool) → is_fresh r ≡ b
            → cond b (take r.width (drop (fresh_start answer r.fresh) f)) (replicate r.width r.kind)
            ≡ map (value (bit_of_piece f)) (cond b (parts_from r.fresh 0 r.width) (replicate r.width (fill r.kind)))
        go false e = sym (fills_value (bit_of_piece f) r.kind r.width)
        go true e =
            let p = h.is_piece e in
            let l : widths_below r.fresh + 0 + r.width ≤ length f = omega (arith, widths_up r.fresh pieces p.0, p.1, len) in
            ap (λ (x : ℕ). take r.width (drop x f)) (fresh-start r.fresh (omega (arith, p.0)) ∙ sym (zero_more (widths_below r.fresh)))
            ∙ reads_drop (widths_below r.fresh) r.width f 0 l ∙ sym (parts_value (bit_of_piece f) r.fresh 0 r.width)

    bits_turn : (xs ys : List AnswerRow) → Each WholeRow xs → bits_of_rows answer f (reverse_aux xs ys) ≡ map (value (bit_of_piece f)) (slots_to xs) ++ bits_of_rows answer f ys
    unfolding bits_of_rows slots_to
    bits_turn [] ys h = refl
    bits_turn (x ∷ xs) ys h =
        bits_turn xs (x ∷ ys) h.1
        ∙ ap (λ (t : List ℕ). map (value (bit_of_piece f)) (slots_to xs) ++ (t ++ bits_of_rows answer f ys)) (row-value x h.0)
        ∙ sym (append_assoc (map (value (bit_of_piece f)) (slots_to xs)) (map (value (bit_of_piece f)) (row_slots x)) (bits_of_rows answer f ys))
        ∙ ap (λ (t : List ℕ). t ++ bits_of_rows answer f ys) (sym (map-append (value (bit_of_piece f)) (slots_to xs) (row_slots x)))

    below_tab : (m : ℕ) → map (value (bit_of_piece f)) (slots_below n c seen inv one ws begin last m) ≡ tab m (λ i. value (bit_of_piece f) (slot_of i))
    unfolding slots_below
    below_tab zero = unfold tab in refl
    below_tab (suc m) =
        map-append (value (bit_of_piece f)) (slots_below n c seen inv one ws begin last m) (slot_of m ∷ [])
        ∙ ap (λ (t : List ℕ). t ++ (value (bit_of_piece f) (slot_of m) ∷ [])) (below_tab m)
        ∙ sym (tab_more m (λ i. value (bit_of_piece f) (slot_of i)))

    instantiate_is : instantiate answer f ≡ tab n (λ i. value (bit_of_piece f) (slot_of i))
    unfolding instantiate
    instantiate_is =
        turned_bits ∙ ap (map (value (bit_of_piece f))) known.slots ∙ below_tab n
      where
        turned_bits : bits_of_rows answer f answer ≡ map (value (bit_of_piece f)) (slots_to (rows_to n ws (in_class c) n))
        turned_bits =
            ap (bits_of_rows answer f) by_turning ∙ bits_turn (rows_to n ws (in_class c) n) [] known.whole ∙ nothing (map (value (bit_of_piece f)) (slots_to (rows_to n ws (in_class c) n)))
          where
            by_turning : answer ≡ reverse_aux (rows_to n ws (in_class c) n) []
            by_turning = unfold answer_rows in refl

            nothing : (l : List ℕ) → l ++ bits_of_rows answer f [] ≡ l
            nothing l = unfold bits_of_rows in (append-nil l)

  -- Every filling gives an assignment that satisfies the pairs.
  pub filling_satisfies : (f : List ℕ) → Assignment (free_bits answer) f → Assignment n (instantiate answer f) × (satisfies_pairs (instantiate answer f) seen ≡ true)
  unfolding bit_of_piece
  filling_satisfies f a =
      let len : length f ≡ widths_below pieces = assignment_length a ∙ free-bits in
      let small : (k o : ℕ) → bit_of_piece f k o ≤ 1 = λ k o. assignment_bit a (widths_below k + o) in
      rw (instantiate_is f len) (
        slots_assignment n slot_of (slot_bits n c seen inv one (begins ws) begin last) (bit_of_piece f) small,
        slot_gives n c seen inv one (begins ws) begin last (bit_of_piece f) small,
      )

  -- the filling of an assignment: the bits of each piece in turn
  fill_to : (ℕ → ℕ → ℕ) → ℕ → List ℕ
  fill_to φ zero = []
  fill_to φ (suc k) = fill_to φ k ++ tab (wide_of k) (φ k)

  fill-length : (φ : ℕ → ℕ → ℕ) (k : ℕ) → length (fill_to φ k) ≡ widths_below k
  unfolding fill_to widths_to
  fill-length φ zero = refl
  fill-length φ (suc k) = length-append (fill_to φ k) (tab (wide_of k) (φ k)) ∙ ap₂ ◌+◌ (fill-length φ k) (tab_length (wide_of k) (φ k))

  fill_read : (φ : ℕ → ℕ → ℕ) (m k o : ℕ) → k < m → o < wide_of k → get_or (fill_to φ m) (widths_below k + o) 0 ≡ φ k o
  unfolding fill_to
  fill_read φ zero k o l w = absurd (omega arith)
  fill_read φ (suc m) k o l w = go (dec_eq k m) (λ (q : k < m). fill_read φ m k o q w)
    where
      go : (k ≡ m) ⊎ (k ≢ m) → (k < m → get_or (fill_to φ m) (widths_below k + o) 0 ≡ φ k o) → get_or (fill_to φ m ++ tab (wide_of m) (φ m)) (widths_below k + o) 0 ≡ φ k o
      go (inl e) r =
          ap (λ (x : ℕ). get_or (fill_to φ m ++ tab (wide_of m) (φ m)) (x + o) 0) (ap widths_below e ∙ sym (fill-length φ m))
          ∙ get_or-append-add (fill_to φ m) (tab (wide_of m) (φ m)) o 0
          ∙ tab_at (wide_of m) (φ m) o (subst (λ (x : ℕ). o < wide_of x) e w)
          ∙ ap (λ (x : ℕ). φ x o) (sym e)
      go (inr e) r =
          get_or-append (fill_to φ m) (tab (wide_of m) (φ m)) 0 (widths_below k + o) (omega (arith, fill-length φ m, widths_up k m (omega arith)))
          ∙ r (omega arith)

  -- a fresh bit's piece and place
  record Placed (m i : ℕ) : Type 0 where
    piece : ℕ
    place : ℕ
    known_piece : piece < m
    in_piece : place < wide n c seen inv one (begins ws) begin last piece
    position : i ≡ widths_to n c seen inv one (begins ws) begin last piece + place

  find_place : (m i : ℕ) → i < widths_below m → Placed m i
  unfolding widths_to
  find_place zero i l = absurd (omega arith)
  find_place (suc m) i l = go (lt_or_le i (widths_below m)) (λ (q : i < widths_below m). find_place m i q)
    where
      go : (i < widths_below m) ⊎ (widths_below m ≤ i) → (i < widths_below m → Placed m i) → Placed (suc m) i
      go (inl q) r = let P = r q in record { piece = P.piece; place = P.place; known_piece = omega (arith, P.known_piece); in_piece = P.in_piece; position = P.position }
      go (inr q) r = record { piece = m; place = i - widths_below m; known_piece = omega arith; in_piece = omega arith; position = omega arith }

  fill_bits : (φ : ℕ → ℕ → ℕ) → ((k o : ℕ) → φ k o ≤ 1) → (m i : ℕ) → i < widths_below m → get_or (fill_to φ m) i 0 ≤ 1
  fill_bits φ h m i l =
      let P = find_place m i l in
      rw P.position (rw (fill_read φ m P.piece P.place P.known_piece P.in_piece) (h P.piece P.place))

  module _ (p : List ℕ) (a : Assignment n p) (s : satisfies_pairs p seen ≡ true) where
    bits_of : ℕ → ℕ → ℕ
    bits_of k o = filled n c seen inv one (begins ws) begin last p k o

    -- The filling that gives an assignment.
    pub filling_of : List ℕ
    filling_of = fill_to bits_of pieces

    pub filling_bits : Assignment (free_bits answer) filling_of
    unfolding filling_of bits_of filled
    filling_bits =
        rw free-bits
        (assignment_of (widths_below pieces) (fill_to bits_of pieces) (fill-length bits_of pieces)
        (λ i l. fill_bits bits_of (λ k o. assignment_bit a (select n (mark n c seen inv one (begins ws) begin last) k + o)) pieces i l))

    same_value : (x : Slot) → ((k o : ℕ) → x ≡ part k o → (k < pieces) × (o < wide_of k)) → value (bit_of_piece filling_of) x ≡ value bits_of x
    unfolding bit_of_piece filling_of
    same_value (fill b) h = refl
    same_value (part k o) h = let w = h k o refl in fill_read bits_of pieces k o w.0 w.1

    pub filling_gives : instantiate answer filling_of ≡ p
    unfolding bits_of
    filling_gives =
        instantiate_is filling_of (assignment_length filling_bits ∙ free-bits)
        ∙ ext_get_or 0 (tab n (λ i. value (bit_of_piece filling_of) (slot_of i))) p (tab_length n (λ i. value (bit_of_piece filling_of) (slot_of i)) ∙ sym (assignment_length a))
        (λ i l.
        let b : i < n = omega (arith, tab_length n (λ i. value (bit_of_piece filling_of) (slot_of i)), l) in
        tab_at n (λ i. value (bit_of_piece filling_of) (slot_of i)) i b
        ∙ same_value (slot_of i) (λ k o e. slot_inside n c seen inv one (begins ws) begin last i k o b e)
        ∙ sym (slot_reads n c seen inv one (begins ws) begin last p a s i b))

  -- Two fillings that give one assignment are one.
  pub filling_unique : (f g : List ℕ) → Assignment (free_bits answer) f → Assignment (free_bits answer) g → instantiate answer f ≡ instantiate answer g → f ≡ g
  unfolding bit_of_piece
  filling_unique f g a b e =
      ext_get_or 0 f g (assignment_length a ∙ sym (assignment_length b)) (λ i l.
      let P = find_place pieces i (omega (arith, assignment_length a, free-bits, l)) in
      rw P.position (read f a P.piece P.place P.known_piece P.in_piece ∙ ap (λ (q : List ℕ). get_or q (select n (mark n c seen inv one (begins ws) begin last) P.piece + P.place) 0) e ∙ sym (read g b P.piece P.place P.known_piece P.in_piece)))
    where
      read : (f : List ℕ) → Assignment (free_bits answer) f → (k o : ℕ) → k < pieces → o < wide_of k
          → get_or f (widths_below k + o) 0 ≡ get_or (instantiate answer f) (select n (mark n c seen inv one (begins ws) begin last) k + o) 0
      read f a k o l w =
          let t = slot_there n c seen inv one (begins ws) begin last k o l w in
          sym (ap (λ (q : List ℕ). get_or q (select n (mark n c seen inv one (begins ws) begin last) k + o) 0) (instantiate_is f (assignment_length a ∙ free-bits))
          ∙ tab_at n (λ i. value (bit_of_piece f) (slot_of i)) (select n (mark n c seen inv one (begins ws) begin last) k + o) t.0
          ∙ ap (value (bit_of_piece f)) t.1)
