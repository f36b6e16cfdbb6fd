-- The answer's rows have the slots of the places: what stands in them, how wide the fresh pieces are, and which there are.
use mathlib.Core.Path.{◌≡◌, refl, sym, ap, ap₂, ◌∙◌, subst}
use mathlib.Core.Logic.{◌⊎◌, inl, inr}
use mathlib.Core.Bool.{Bool, true, false, not, ◌&&◌, cond}
use mathlib.Core.List.{List, [], ◌∷◌, ◌++◌, append_assoc}
use Prim.Native.Nat.{ℕ, zero, suc, ◌+◌, ◌-◌, ◌≤◌, ◌<◌}
use native.Mathlib.Omega.{arith}
use lib.Dec.{eqb, ltb}
use lib.ListN.{replicate}
use borrow.Author.Tests.{eqb-true, eq-eqb, ne_eqb, le-leb, not-true}
use Rattle.answers.specs.Pairs.{Pair}
use Rattle.answers.specs.inner.Classes.{rep, in_class, Represents}
use Rattle.laws.specs.Lists.{tally, member}
use Rattle.answers.specs.Answer.{begins, unfixed, goes_on, lowest, appears, place_row, widened, placed, rows_to, is_fresh, fresh_numbers}
use Rattle.answers.specs.declared.AnswerRow.{AnswerRow}
use Rattle.laws.proofs.Bools.{and_second}
use Rattle.laws.proofs.Lists.{copies_snoc}
use Rattle.laws.proofs.Numbers.{lt_or_le}
use Rattle.laws.proofs.Tallies.{tally_mono, member_more}
use Rattle.answers.proofs.Slots.{Slot, fill, part, glued}
use Rattle.answers.proofs.Gluing.{glued_e, place, front, reach}
use Rattle.answers.proofs.OurPieces.{mark-place, mark, home, number, slot, wide, slot_loose, slot_fixed, slot_next, wide_is, home_le, front_le, home_mark}
use Rattle.answers.proofs.Relation.{fixed_is, unfixed_is, goes_loose, goes_fixed, lowest_is, appears_is}

-- a row that begins stands before the others
pub placed_new : (r : AnswerRow) (rows : List AnswerRow) → placed false r rows ≡ r ∷ rows
unfolding placed
placed_new r [] = refl
placed_new r (s ∷ rows) = refl

-- the slots of a row
unfoldable pub parts_from : ℕ → ℕ → ℕ → List Slot
parts_from f o zero = []
parts_from f o (suc w) = part f o ∷ parts_from f (suc o) w

unfoldable pub row_slots : AnswerRow → List Slot
row_slots r = cond (is_fresh r) (parts_from r.fresh 0 r.width) (replicate r.width (fill r.kind))

-- the slots of rows that stand last first
unfoldable pub slots_to : List AnswerRow → List Slot
slots_to [] = []
slots_to (r ∷ rows) = slots_to rows ++ row_slots r

parts_more : (f o w : ℕ) → parts_from f o (suc w) ≡ parts_from f o w ++ (part f (o + w) ∷ [])
unfolding parts_from
parts_more f o zero = ap (λ (x : ℕ). part f x ∷ []) (omega arith)
parts_more f o (suc w) = ap (λ (l : List Slot). part f o ∷ l) (parts_more f (suc o) w ∙ ap (λ (x : ℕ). parts_from f (suc o) w ++ (part f x ∷ [])) (omega arith))

-- the slot behind a row
unfoldable pub following : AnswerRow → Slot
following r = cond (is_fresh r) (part r.fresh r.width) (fill r.kind)

wider_slots : (r : AnswerRow) → row_slots (widened r) ≡ row_slots r ++ (following r ∷ [])
unfolding row_slots following
wider_slots r = go (is_fresh r)
  where
    go : (b : Bool) → cond b (parts_from r.fresh 0 (suc r.width)) (replicate (suc r.width) (fill r.kind))
        ≡ cond b (parts_from r.fresh 0 r.width) (replicate r.width (fill r.kind)) ++ (cond b (part r.fresh r.width) (fill r.kind) ∷ [])
    go true = parts_more r.fresh 0 r.width ∙ ap (λ (x : ℕ). parts_from r.fresh 0 r.width ++ (part r.fresh x ∷ [])) (omega arith)
    go false = sym (copies_snoc r.width (fill r.kind))

-- something of every row
abbrev pub Each : (AnswerRow → Type 0) → List AnswerRow → Type 0
Each P [] = Unit {0}
Each P (r ∷ rows) = P r × Each P rows

module _ (n : ℕ) (c : List ℕ) (seen : List Pair) (inv : Represents n c seen) (one : rep c 1 ≡ 1) (ws : List ℕ) (begin : begins ws 0 ≡ true) (last : begins ws n ≡ true) where
  abbrev C : ℕ → ℕ
  C i = rep c (suc (suc i))

  abbrev start : ℕ → Bool
  start = begins ws

  abbrev pub slot_at : ℕ → Slot
  slot_at i = slot n c seen inv one (begins ws) begin last i

  abbrev marked : ℕ → Bool
  marked i = mark n c seen inv one (begins ws) begin last i

  abbrev numbered : ℕ → ℕ
  numbered i = number n c seen inv one (begins ws) begin last i

  abbrev wide_at : ℕ → ℕ
  wide_at k = wide n c seen inv one (begins ws) begin last k

  unfoldable pub slots_below : ℕ → List Slot
  slots_below zero = []
  slots_below (suc i) = slots_below i ++ (slot_at i ∷ [])

  -- a row that is whole
  pub record Whole (r : AnswerRow) : Type 0 where
    pub is_piece : is_fresh r ≡ true → (r.fresh < tally n (mark n c seen inv one (begins ws) begin last)) × (r.width ≡ wide n c seen inv one (begins ws) begin last r.fresh)
    pub is_bit : is_fresh r ≡ false → r.kind ≤ 1

  -- the row that place j stands in, so far
  pub record Reaching (j : ℕ) (r : AnswerRow) : Type 0 where
    pub piece : 2 ≤ rep c (suc (suc j)) → (is_fresh r ≡ true) × (r.fresh ≡ number n c seen inv one (begins ws) begin last j) × (r.width ≡ suc (place n (begins ws) (λ i. rep c (suc (suc i))) j))
    pub fixed : rep c (suc (suc j)) < 2 → (is_fresh r ≡ false) × (r.kind ≡ rep c (suc (suc j)))

  pub record Rows (j : ℕ) (rows : List AnswerRow) : Type 0 where
    pub row : AnswerRow
    pub rest : List AnswerRow
    pub are : rows ≡ row ∷ rest
    pub reaching : Reaching j row
    pub whole : Each Whole rest
    pub slots : slots_to (row ∷ rest) ≡ slots_below (suc j)
    pub numbers : (k : ℕ) → k < tally (suc j) (mark n c seen inv one (begins ws) begin last) → member k (fresh_numbers (row ∷ rest)) ≡ true

  -- the kind of a place's row
  kind_loose : (j : ℕ) → 2 ≤ C j → is_fresh (place_row n ws (in_class c) j) ≡ true
  unfolding place_row
  kind_loose j l = rw (fixed_is n c seen inv one ws j 0 (omega arith), fixed_is n c seen inv one ws j 1 (omega arith), ne_eqb (C j) 0 (omega arith), ne_eqb (C j) 1 (omega arith))

  kind_fixed : (j : ℕ) → C j < 2 → (is_fresh (place_row n ws (in_class c) j) ≡ false) × ((place_row n ws (in_class c) j).kind ≡ C j)
  unfolding place_row
  kind_fixed j l = rw (fixed_is n c seen inv one ws j 0 (omega arith), fixed_is n c seen inv one ws j 1 (omega arith)) (go (C j) l)
    where
      go : (x : ℕ) → x < 2 → (not (ltb (cond (eqb x 0) 0 (cond (eqb x 1) 1 2)) 2) ≡ false) × (cond (eqb x 0) 0 (cond (eqb x 1) 1 2) ≡ x)
      go zero k = (refl, refl)
      go (suc zero) k = (refl, refl)
      go (suc (suc x)) k = absurd (omega arith)

  unit_wide : (j : ℕ) → (place_row n ws (in_class c) j).width ≡ 1
  unfolding place_row
  unit_wide j = refl

  pub tally_same : (m : ℕ) → tally m (appears n ws (in_class c)) ≡ tally m marked
  unfolding tally mark
  tally_same zero = refl
  tally_same (suc m) = ap₂ (λ (b : Bool) (x : ℕ). cond b 1 0 + x) (appears_is n c seen inv one ws m) (tally_same m)

  number_fresh : (j : ℕ) → 2 ≤ C j → (place_row n ws (in_class c) j).fresh ≡ tally (C j - 2) marked
  unfolding place_row
  number_fresh j l = rw (unfixed_is n c seen inv one ws j, le-leb 2 (C j) l) (tally_same (lowest (in_class c) j) ∙ ap (λ (x : ℕ). tally x marked) (lowest_is n c seen inv one ws j l))

  -- a row that begins at place j
  module _ (j : ℕ) (h : goes_on n ws (in_class c) j ≡ false) where
    alone : 2 ≤ C j → (place n start C j ≡ 0) × (front n start C j ≡ j)
    unfolding place front
    alone l = go j refl
      where
        go : (i : ℕ) → j ≡ i → (place n start C j ≡ 0) × (front n start C j ≡ j)
        go zero e = rw e (refl, refl)
        go (suc i) e =
            let g : glued n start C i ≡ false = sym (goes_loose n c seen inv one ws i (subst (λ (x : ℕ). 2 ≤ C x) e l)) ∙ subst (λ (x : ℕ). goes_on n ws (in_class c) x ≡ false) e h in
            rw (e, g) (refl, refl)

    number-here : 2 ≤ C j → numbered j ≡ (place_row n ws (in_class c) j).fresh
    unfolding number home
    number-here l = ap (λ (x : ℕ). tally (C x - 2) marked) (alone l).1 ∙ sym (number_fresh j l)

    begin_reaching : Reaching j (place_row n ws (in_class c) j)
    unfolding place_row
    begin_reaching = record {
      piece = λ l. (kind_loose j l, sym (number-here l), ap suc (sym (alone l).0));
      fixed = kind_fixed j;
    }

    begin_slots : row_slots (place_row n ws (in_class c) j) ≡ slot_at j ∷ []
    unfolding row_slots parts_from
    begin_slots = go (lt_or_le (C j) 2)
      where
        go : (C j < 2) ⊎ (2 ≤ C j) → row_slots (place_row n ws (in_class c) j) ≡ slot_at j ∷ []
        go (inl l) = let k = kind_fixed j l in rw (k.0, unit_wide j, slot_fixed n c seen inv one start begin last j l) (ap (λ (x : ℕ). fill x ∷ []) k.1)
        go (inr l) = rw (kind_loose j l, unit_wide j, slot_loose n c seen inv one start begin last j l) (ap₂ (λ (x y : ℕ). part x y ∷ []) (sym (number-here l)) (sym (alone l).0))

  -- the row of place j ends there
  pub ended : (j : ℕ) (r : AnswerRow) → j < n → Reaching j r → (2 ≤ C j → glued n start C j ≡ false) → Whole r
  unfolding reach
  ended j r b h g = record {
    is_piece = λ f. go (lt_or_le (C j) 2) f;
    is_bit = λ f. bit (lt_or_le (C j) 2) f;
  }
    where
      reach_one : glued n start C j ≡ false → reach n start C n j ≡ 1
      reach_one e = two n refl
        where
          two : (m : ℕ) → n ≡ m → reach n start C m j ≡ 1
          two zero q = refl
          two (suc m) q = rw e

      go : (C j < 2) ⊎ (2 ≤ C j) → is_fresh r ≡ true → (r.fresh < tally n marked) × (r.width ≡ wide_at r.fresh)
      go (inl l) f = let z : false ≡ true = sym (h.fixed l).0 ∙ f in let y : ◌≡◌ {A = ℕ} 0 1 = cc in absurd (omega arith)
      go (inr l) f =
          let k = h.piece l in
          let a : numbered j < tally n marked = unfold number in (tally_mono (home n c seen inv one start begin last j) n marked (omega (arith, home_le n c seen inv one start begin last j, front_le n c seen inv one start begin last j)) (home_mark n c seen inv one start begin last j b l)) in
          (omega (arith, a, k.1), k.2 ∙ omega (arith, reach_one (g l)) ∙ sym (wide_is n c seen inv one start begin last j b l) ∙ ap wide_at (sym k.1))

      bit : (C j < 2) ⊎ (2 ≤ C j) → is_fresh r ≡ false → r.kind ≤ 1
      bit (inl l) f = omega (arith, (h.fixed l).1)
      bit (inr l) f = let z : false ≡ true = sym f ∙ (h.piece l).0 in let y : ◌≡◌ {A = ℕ} 0 1 = cc in absurd (omega arith)

  -- a new number appears exactly where a fresh piece does
  module _ (j : ℕ) (rows : List AnswerRow) (before : (k : ℕ) → k < tally j marked → member k (fresh_numbers rows) ≡ true) where
    new_numbers : goes_on n ws (in_class c) j ≡ false → (k : ℕ) → k < tally (suc j) marked → member k (fresh_numbers (place_row n ws (in_class c) j ∷ rows)) ≡ true
    unfolding fresh_numbers tally member
    new_numbers h k l = go (marked j) refl (lt_or_le k (tally j marked))
      where
        go : (b : Bool) → marked j ≡ b → (k < tally j marked) ⊎ (tally j marked ≤ k)
            → member k (cond (is_fresh (place_row n ws (in_class c) j)) ((place_row n ws (in_class c) j).fresh ∷ fresh_numbers rows) (fresh_numbers rows)) ≡ true
        go b e (inl q) = member_more (is_fresh (place_row n ws (in_class c) j)) (place_row n ws (in_class c) j).fresh k (fresh_numbers rows) (before k q)
        go false e (inr q) = absurd (omega (arith, rw e at l))
        go true e (inr q) =
            let m = mark-place n c seen inv one start begin last j e in
            let d : k ≡ tally j marked = omega (arith, rw e at l) in
            let z : C j - 2 ≡ j = omega (arith, m.1) in
            let f : (place_row n ws (in_class c) j).fresh ≡ tally j marked = number_fresh j m.0 ∙ ap (λ (x : ℕ). tally x marked) z in
            rw (kind_loose j m.0, eq-eqb k (place_row n ws (in_class c) j).fresh (d ∙ sym f))

    old_numbers : goes_on n ws (in_class c) j ≡ true → (k : ℕ) → k < tally (suc j) marked → member k (fresh_numbers rows) ≡ true
    unfolding tally mark
    old_numbers h k l = go (marked j) refl
      where
        go : (b : Bool) → marked j ≡ b → member k (fresh_numbers rows) ≡ true
        go false e = before k (omega (arith, rw e at l))
        go true e =
            let a : appears n ws (in_class c) j ≡ true = appears_is n c seen inv one ws j ∙ e in
            absurd (clash a)
          where
            clash : appears n ws (in_class c) j ≡ true → ⊥
            clash a =
                let b : unfixed (in_class c) j && not (goes_on n ws (in_class c) j) ≡ true = unfold appears in (and_second (eqb (lowest (in_class c) j) j) (unfixed (in_class c) j && not (goes_on n ws (in_class c) j)) a) in
                let d = not-true (goes_on n ws (in_class c) j) (and_second (unfixed (in_class c) j) (not (goes_on n ws (in_class c) j)) b) in
                let z : ◌≡◌ {A = ℕ} 0 1 = cc in
                omega arith

  -- the slot behind the row of place j, where place j + 1 goes on with it
  module _ (j : ℕ) (b : suc j < n) (h : goes_on n ws (in_class c) (suc j) ≡ true) (r : AnswerRow) (R : Reaching j r) where
    goes_glued : 2 ≤ C (suc j) → glued n start C j ≡ true
    goes_glued l = sym (goes_loose n c seen inv one ws j l) ∙ h

    goes_alike : C (suc j) < 2 → C j ≡ C (suc j)
    goes_alike l = eqb-true (C j) (C (suc j)) (and_second (not (begins ws (suc j))) (eqb (C j) (C (suc j))) (sym (goes_fixed n c seen inv one ws j l) ∙ h))

    next_slot : following r ≡ slot_at (suc j)
    unfolding following
    next_slot = go (lt_or_le (C (suc j)) 2)
      where
        go : (C (suc j) < 2) ⊎ (2 ≤ C (suc j)) → following r ≡ slot_at (suc j)
        go (inl l) =
            let e = goes_alike l in
            let k = R.fixed (omega arith) in
            rw (k.0, slot_fixed n c seen inv one start begin last (suc j) l) (ap fill (k.1 ∙ e))
        go (inr l) =
            let g = goes_glued l in
            let k = R.piece (glued_e n start C j g).here in
            rw (k.0, slot_next n c seen inv one start begin last j (omega arith) g) (ap₂ part k.1 k.2)

    next_reaching : Reaching (suc j) (widened r)
    unfolding number home place front
    next_reaching = record {
      piece = λ l.
          let g = goes_glued l in
          let k = R.piece (glued_e n start C j g).here in
          rw g (k.0, k.1, ap suc k.2);
      fixed = λ l. let e = goes_alike l in let k = R.fixed (omega arith) in (k.0, k.1 ∙ e);
    }

  open_next : (j : ℕ) → goes_on n ws (in_class c) (suc j) ≡ false → 2 ≤ C j → glued n start C j ≡ false
  open_next j h l = go (glued n start C j) refl
    where
      go : (b : Bool) → glued n start C j ≡ b → b ≡ false
      go false e = refl
      go true e =
          let z : true ≡ false = sym e ∙ sym (goes_loose n c seen inv one ws j (glued_e n start C j e).there) ∙ h in
          cc

  -- the rows of the places up to j
  pub rows_are : (j : ℕ) → j < n → Rows j (rows_to n ws (in_class c) (suc j))
  unfolding rows_to placed slots_to slots_below fresh_numbers
  rows_are zero l = record {
    row = place_row n ws (in_class c) 0;
    rest = [];
    are = refl;
    reaching = begin_reaching 0 (unfold goes_on in refl);
    whole = tt;
    slots = begin_slots 0 (unfold goes_on in refl);
    numbers = new_numbers 0 [] (λ k q. absurd (unfold tally in (omega arith))) (unfold goes_on in refl);
  }
  rows_are (suc j) l = go (rows_are j (omega arith)) (goes_on n ws (in_class c) (suc j)) refl
    where
      goes : (R : Rows j (rows_to n ws (in_class c) (suc j))) → goes_on n ws (in_class c) (suc j) ≡ true → Rows (suc j) (widened R.row ∷ R.rest)
      goes R h = record {
        row = widened R.row;
        rest = R.rest;
        are = refl;
        reaching = next_reaching j l h R.row R.reaching;
        whole = R.whole;
        slots =
            ap (λ (x : List Slot). slots_to R.rest ++ x) (wider_slots R.row)
            ∙ sym (append_assoc (slots_to R.rest) (row_slots R.row) (following R.row ∷ []))
            ∙ ap₂ (λ (x : List Slot) (y : Slot). x ++ (y ∷ [])) R.slots (next_slot j l h R.row R.reaching);
        numbers = old_numbers (suc j) (R.row ∷ R.rest) R.numbers h;
      }

      begins-row : (R : Rows j (rows_to n ws (in_class c) (suc j))) → goes_on n ws (in_class c) (suc j) ≡ false → Rows (suc j) (place_row n ws (in_class c) (suc j) ∷ R.row ∷ R.rest)
      begins-row R h = record {
        row = place_row n ws (in_class c) (suc j);
        rest = R.row ∷ R.rest;
        are = refl;
        reaching = begin_reaching (suc j) h;
        whole = (ended j R.row (omega arith) R.reaching (open_next j h), R.whole);
        slots = ap₂ (λ (x y : List Slot). x ++ y) R.slots (begin_slots (suc j) h);
        numbers = new_numbers (suc j) (R.row ∷ R.rest) R.numbers h;
      }

      go : Rows j (rows_to n ws (in_class c) (suc j)) → (b : Bool) → goes_on n ws (in_class c) (suc j) ≡ b
          → Rows (suc j) (placed b (place_row n ws (in_class c) (suc j)) (rows_to n ws (in_class c) (suc j)))
      go R true h = subst (λ (rows : List AnswerRow). Rows (suc j) (placed true (place_row n ws (in_class c) (suc j)) rows)) (sym R.are) (goes R h)
      go R false h = subst (λ (rows : List AnswerRow). Rows (suc j) (placed false (place_row n ws (in_class c) (suc j)) rows)) (sym R.are) (begins-row R h)
