-- The rows of an answer have the form that the pattern maker asks for: place by place, what is known of the last row and of those
-- before it.
use mathlib.Core.Path.{◌≡◌, refl, sym, ap, ap₂, ◌∙◌, subst}
use mathlib.Core.Logic.{◌⊎◌, inl, inr, ◌≢◌}
use mathlib.Core.Bool.{Bool, true, false, not, ◌&&◌, cond}
use mathlib.Core.List.{List, [], ◌∷◌, reverse}
use Prim.Native.Nat.{ℕ, zero, suc, ◌+◌, ◌≤◌, ◌<◌}
use native.Mathlib.Omega.{arith}
use lib.Dec.{eqb}
use lib.ListN.{length}
use borrow.Author.Tests.{eq-eqb, ne_eqb, lt-leb}
use Rattle.answers.specs.Pairs.{Pair}
use Rattle.answers.specs.inner.Classes.{rep, in_class, Represents}
use Rattle.laws.specs.Lists.{tally, member}
use Rattle.answers.specs.Answer.{begins, variable_at, fixed_to, unfixed, goes_on, place_row, widened, placed, rows_to, answer_rows, is_fresh, fresh_numbers, width_in_rows}
use Rattle.answers.specs.declared.AnswerRow.{AnswerRow}
use Rattle.laws.proofs.Numbers.{lt_or_le}
use Rattle.laws.proofs.Tallies.{tally_mono, tally_up}
use Rattle.answers.proofs.Gluing.{glue_end}
use Rattle.answers.proofs.GeneralSystems.{width_sum}
use Rattle.answers.proofs.OurPieces.{mark, home, number, wide, home_le, front_le, home_mark}
use Rattle.answers.proofs.Relation.{unfixed_is, goes_open, goes_fixed}
use Rattle.answers.proofs.AnswerRows.{Each, Whole, Reaching, rows_are, ended}
use Rattle.answers.proofs.Instantiating.{each_turn, width_found}
use Rattle.answers.proofs.RowSides.{variable_low}
use Rattle.assignments.specs.Form.{pattern_bits, rows_fine}
use Rattle.assignments.proofs.Places.{Sized, place_in, variable_first, place_first, Next, next_place, place_small}
use Rattle.assignments.proofs.FreshPieces.{number-here, Below, none_below}
use Rattle.assignments.proofs.Turning.{FineBack, fine_rows, numbers_reverse, Follows, Differs, Behind, behind_fine}
use Rattle.laws.proofs.Bools.{clash}

module _ (n : ℕ) (c : List ℕ) (seen : List Pair) (inv : Represents n c seen) (one : rep c 1 ≡ 1) (ws : List ℕ) (begin : begins ws 0 ≡ true) (last : begins ws n ≡ true)
    (sized : Sized ws) (sum : width_sum ws ≡ n) (few : length ws ≤ 64) (short : n ≤ 4096) where
  abbrev C : ℕ → ℕ
  C i = rep c (suc (suc i))

  abbrev marked : ℕ → Bool
  marked i = mark n c seen inv one (begins ws) begin last i

  abbrev at : ℕ → AnswerRow
  at j = place_row n ws (in_class c) j

  abbrev WholeRow : AnswerRow → Type 0
  WholeRow r = Whole n c seen inv one ws begin last r

  abbrev Reaches : ℕ → AnswerRow → Type 0
  Reaches j r = Reaching n c seen inv one ws begin last j r

  abbrev rows_on : ℕ → List AnswerRow
  rows_on j = rows_to n ws (in_class c) (suc j)

  -- what the rows of the places up to j are known to be
  record Known (j : ℕ) (row : AnswerRow) (rest : List AnswerRow) : Type 0 where
    reaching : Reaches j row
    whole : Each WholeRow rest
    numbers : (k : ℕ) → k < tally (suc j) marked → member k (fresh_numbers (row ∷ rest)) ≡ true

  known : (j : ℕ) → j < n → (row : AnswerRow) (rest : List AnswerRow) → rows_on j ≡ row ∷ rest → Known j row rest
  known j l row rest e =
      let R = rows_are n c seen inv one ws begin last j l in
      let a : R.row ≡ row = cc in
      let b : R.rest ≡ rest = cc in
      rw (← a, ← b) (record { reaching = R.reaching; whole = R.whole; numbers = R.numbers })

  -- and, besides, what makes the last row fine once it ends
  record Last (j : ℕ) (row : AnswerRow) (rest : List AnswerRow) : Type 0 where
    variable_is : row.variable ≡ variable_at ws j
    follows : Follows rest row.variable
    low_kind : row.kind < 3
    wide_row : 1 ≤ row.width
    in_variable : width_in_rows rest row.variable + row.width ≡ suc (place_in ws j)
    none_later : (v : ℕ) → row.variable < v → width_in_rows rest v ≡ 0
    in_all : pattern_bits rest + row.width ≡ suc j
    fill_number : is_fresh row ≡ false → row.fresh ≡ 0
    differs : Differs rest row
    seen_before : ℕ
    seen_are : Below seen_before rest
    at_most : is_fresh row ≡ true → row.fresh ≤ seen_before
    numbers : Below (tally (suc j) marked) (row ∷ rest)

  -- a row that has ended is fine
  row-behind : (j : ℕ) → j < n → (row : AnswerRow) (rest : List AnswerRow) → Last j row rest → WholeRow row → Each WholeRow rest → Behind rest row
  row-behind j l row rest L W E =
      record {
        follows = L.follows;
        low_variable = omega (arith, L.variable_is, variable_low ws j (omega arith));
        low_kind = L.low_kind;
        wide = L.wide_row;
        in_variable = omega (arith, L.in_variable, place_small ws sized j (omega arith));
        in_all = omega (arith, L.in_all);
        fill_number = L.fill_number;
        differs = L.differs;
        seen = L.seen_before;
        seen_are = L.seen_are;
        at_most = L.at_most;
        same_width = λ f q.
            width_found n c seen inv one ws begin last (reverse rest) (each_turn WholeRow rest [] E tt) row.fresh (numbers_reverse row.fresh rest ∙ L.seen_are.there row.fresh q)
            ∙ sym (W.is_piece f).1;
      }

  -- a row that begins at place j
  module _ (j : ℕ) (l : j < n) (R : Reaching n c seen inv one ws begin last j (place_row n ws (in_class c) j)) where
    begun_kind : (at j).kind < 3
    unfolding place_row
    begun_kind = go (fixed_to (in_class c) j 0) (fixed_to (in_class c) j 1)
      where
        go : (a b : Bool) → cond {A = ℕ} a 0 (cond b 1 2) < 3
        go true b = omega arith
        go false true = omega arith
        go false false = omega arith

    loose_begun : is_fresh (at j) ≡ true → 2 ≤ C j
    loose_begun f = go (lt_or_le (C j) 2)
      where
        go : (C j < 2) ⊎ (2 ≤ C j) → 2 ≤ C j
        go (inl q) = clash (is_fresh (at j)) f (R.fixed q).0
        go (inr q) = q

    fixed_begun : is_fresh (at j) ≡ false → C j < 2
    fixed_begun f = go (lt_or_le (C j) 2)
      where
        go : (C j < 2) ⊎ (2 ≤ C j) → C j < 2
        go (inl q) = q
        go (inr q) = clash (is_fresh (at j)) (R.piece q).0 f

    begun_fill : is_fresh (at j) ≡ false → (at j).fresh ≡ 0
    begun_fill f = zero_of (unfixed_is n c seen inv one ws j ∙ lt-leb 2 (C j) (fixed_begun f))
      where
        zero_of : unfixed (in_class c) j ≡ false → (at j).fresh ≡ 0
        zero_of e = unfold place_row in rw e

    begun_most : is_fresh (at j) ≡ true → (at j).fresh ≤ tally j marked
    begun_most f =
        let q : (at j).fresh ≡ tally (home n c seen inv one (begins ws) begin last j) marked = (R.piece (loose_begun f)).1 ∙ unfold number in refl in
        omega (arith, tally_up (home n c seen inv one (begins ws) begin last j) j marked (omega (arith, home_le n c seen inv one (begins ws) begin last j, front_le n c seen inv one (begins ws) begin last j)))

    begun_less : is_fresh (at j) ≡ true → (at j).fresh < tally (suc j) marked
    begun_less f =
        let q : (at j).fresh ≡ tally (home n c seen inv one (begins ws) begin last j) marked = (R.piece (loose_begun f)).1 ∙ unfold number in refl in
        omega (arith, tally_mono (home n c seen inv one (begins ws) begin last j) (suc j) marked (omega (arith, home_le n c seen inv one (begins ws) begin last j, front_le n c seen inv one (begins ws) begin last j)) (home_mark n c seen inv one (begins ws) begin last j l (loose_begun f)))

    begun_numbers : (rows : List AnswerRow) → Below (tally j marked) rows → ((k : ℕ) → k < tally (suc j) marked → member k (fresh_numbers (at j ∷ rows)) ≡ true) → Below (tally (suc j) marked) (at j ∷ rows)
    begun_numbers rows B h = record { there = h; only = λ k m. go k (number-here k (at j) rows m) }
      where
        go : (k : ℕ) → ((is_fresh (at j) ≡ true) × (k ≡ (at j).fresh)) ⊎ (member k (fresh_numbers rows) ≡ true) → k < tally (suc j) marked
        go k (inl (f, e)) = omega (arith, begun_less f)
        go k (inr m) = omega (arith, B.only k m, tally_up j (suc j) marked (omega arith))

  -- the first place
  first_last : (l : 0 < n) → Reaches 0 (at 0) → ((k : ℕ) → k < tally 1 marked → member k (fresh_numbers (at 0 ∷ [])) ≡ true) → Last 0 (at 0) []
  first_last l R h =
      record {
        variable_is = variable_here;
        follows = variable_here ∙ variable_first ws sized;
        low_kind = begun_kind 0 l R;
        wide_row = omega (arith, width_here);
        in_variable = ap₂ ◌+◌ nothing width_here ∙ ap suc (sym (place_first ws));
        none_later = λ v q. unfold width_in_rows in refl;
        in_all = unfold pattern_bits in omega (arith, width_here);
        fill_number = begun_fill 0 l R;
        differs = tt;
        seen_before = tally 0 marked;
        seen_are = none;
        at_most = begun_most 0 l R;
        numbers = begun_numbers 0 l R [] none h;
      }
    where
      variable_here : (at 0).variable ≡ variable_at ws 0
      variable_here = unfold place_row in refl

      width_here : (at 0).width ≡ 1
      width_here = unfold place_row in refl

      nothing : width_in_rows [] (at 0).variable ≡ 0
      nothing = unfold width_in_rows in refl

      none : Below (tally 0 marked) []
      none = unfold tally in none_below

  -- the next place
  module _ (j : ℕ) (l : suc j < n) (row : AnswerRow) (rest : List AnswerRow) (K : Known j row rest) (L : Last j row rest) where
    after : Next ws j
    after = next_place ws sized j (omega arith)

    -- it goes on with the last row
    goes_last : goes_on n ws (in_class c) (suc j) ≡ true → Known (suc j) (widened row) rest → Last (suc j) (widened row) rest
    unfolding fresh_numbers
    goes_last h K' =
        let w = after.within (goes_open n c seen inv one ws j h) in
        record {
          variable_is = L.variable_is ∙ sym w.0;
          follows = L.follows;
          low_kind = L.low_kind;
          wide_row = omega arith;
          in_variable = omega (arith, L.in_variable, w.1);
          none_later = L.none_later;
          in_all = omega (arith, L.in_all);
          fill_number = L.fill_number;
          differs = same_differs rest L.differs;
          seen_before = L.seen_before;
          seen_are = L.seen_are;
          at_most = L.at_most;
          numbers = record { there = K'.numbers; only = λ k m. omega (arith, L.numbers.only k m, tally_up (suc j) (suc (suc j)) marked (omega arith)) };
        }
      where
        same_differs : (before : List AnswerRow) → Differs before row → Differs before (widened row)
        same_differs [] d = tt
        same_differs (s ∷ before) d = d

    -- it begins a row
    new_last : goes_on n ws (in_class c) (suc j) ≡ false → Known (suc j) (at (suc j)) (row ∷ rest) → Last (suc j) (at (suc j)) (row ∷ rest)
    new_last h K' =
        record {
          variable_is = variable_here;
          follows = follow (begins ws (suc j)) refl;
          low_kind = begun_kind (suc j) l K'.reaching;
          wide_row = omega (arith, width_here);
          in_variable = ap₂ ◌+◌ (in_this (begins ws (suc j)) refl) width_here ∙ omega arith;
          none_later = later;
          in_all = unfold pattern_bits in omega (arith, width_here, L.in_all);
          fill_number = begun_fill (suc j) l K'.reaching;
          differs = other;
          seen_before = tally (suc j) marked;
          seen_are = L.numbers;
          at_most = begun_most (suc j) l K'.reaching;
          numbers = begun_numbers (suc j) l K'.reaching (row ∷ rest) L.numbers K'.numbers;
        }
      where
        variable_here : (at (suc j)).variable ≡ variable_at ws (suc j)
        variable_here = unfold place_row in refl

        width_here : (at (suc j)).width ≡ 1
        width_here = unfold place_row in refl

        follow : (b : Bool) → begins ws (suc j) ≡ b → ((at (suc j)).variable ≡ row.variable) ⊎ ((at (suc j)).variable ≡ suc row.variable)
        follow true e = inr (variable_here ∙ (after.at_begin e).0 ∙ ap suc (sym L.variable_is))
        follow false e = inl (variable_here ∙ (after.within e).0 ∙ sym L.variable_is)

        not_less : row.variable ≤ (at (suc j)).variable
        not_less = go (follow (begins ws (suc j)) refl)
          where
            go : ((at (suc j)).variable ≡ row.variable) ⊎ ((at (suc j)).variable ≡ suc row.variable) → row.variable ≤ (at (suc j)).variable
            go (inl e) = omega arith
            go (inr e) = omega arith

        later_of : (v : ℕ) → row.variable < v → width_in_rows (row ∷ rest) v ≡ 0
        later_of v q = unfold width_in_rows in rw (ne_eqb row.variable v (omega arith)) (omega (arith, L.none_later v q))

        later : (v : ℕ) → (at (suc j)).variable < v → width_in_rows (row ∷ rest) v ≡ 0
        later v q = later_of v (omega (arith, not_less))

        in_this : (b : Bool) → begins ws (suc j) ≡ b → width_in_rows (row ∷ rest) (at (suc j)).variable ≡ place_in ws (suc j)
        in_this true e =
            let w = after.at_begin e in
            later_of (at (suc j)).variable (omega (arith, variable_here, w.0, L.variable_is)) ∙ sym w.1
        in_this false e =
            let w = after.within e in
            let q : (at (suc j)).variable ≡ row.variable = variable_here ∙ w.0 ∙ sym L.variable_is in
            ap (width_in_rows (row ∷ rest)) q ∙ same ∙ sym w.1
          where
            same : width_in_rows (row ∷ rest) row.variable ≡ suc (place_in ws j)
            same = unfold width_in_rows in rw (eq-eqb row.variable row.variable refl) (omega (arith, L.in_variable))

        other : is_fresh (at (suc j)) ≡ false → is_fresh row ≡ false → row.variable ≡ (at (suc j)).variable → row.kind ≢ (at (suc j)).kind
        other f g v k =
            let a : C (suc j) < 2 = fixed_begun (suc j) l K'.reaching f in
            let b : C j < 2 = low (lt_or_le (C j) 2) in
            let d : C j ≡ C (suc j) = sym (K.reaching.fixed b).1 ∙ k ∙ (K'.reaching.fixed a).1 in
            clash (goes_on n ws (in_class c) (suc j)) (goes_fixed n c seen inv one ws j a ∙ both (begins ws (suc j)) refl d) h
          where
            low : (C j < 2) ⊎ (2 ≤ C j) → C j < 2
            low (inl q) = q
            low (inr q) = clash (is_fresh row) (K.reaching.piece q).0 g

            both : (b : Bool) → begins ws (suc j) ≡ b → C j ≡ C (suc j) → not b && eqb (C j) (C (suc j)) ≡ true
            both false e d = eq-eqb (C j) (C (suc j)) d
            both true e d = absurd (omega (arith, variable_here, (after.at_begin e).0, L.variable_is))

  -- the rows of the places up to j
  record Formed (j : ℕ) : Type 0 where
    row : AnswerRow
    rest : List AnswerRow
    are : rows_to n ws (in_class c) (suc j) ≡ row ∷ rest
    last-row : Last j row rest
    fine : FineBack rest

  formed : (j : ℕ) → j < n → Formed j
  unfolding rows_to placed
  formed zero l =
      let K = known 0 l (at 0) [] refl in
      record { row = at 0; rest = []; are = refl; last-row = first_last l K.reaching K.numbers; fine = tt }
  formed (suc j) l = go (formed j (omega arith)) (goes_on n ws (in_class c) (suc j)) refl
    where
      go : Formed j → (b : Bool) → goes_on n ws (in_class c) (suc j) ≡ b → Formed (suc j)
      go F true h =
          let e : rows_on (suc j) ≡ widened F.row ∷ F.rest = rw (h, F.are) in
          let K = known j (omega arith) F.row F.rest F.are in
          record {
            row = widened F.row;
            rest = F.rest;
            are = e;
            last-row = goes_last j l F.row F.rest K F.last-row h (known (suc j) l (widened F.row) F.rest e);
            fine = F.fine;
          }
      go F false h =
          let e : rows_on (suc j) ≡ at (suc j) ∷ F.row ∷ F.rest = rw (h, F.are) in
          let K = known j (omega arith) F.row F.rest F.are in
          let K' = known (suc j) l (at (suc j)) (F.row ∷ F.rest) e in
          record {
            row = at (suc j);
            rest = F.row ∷ F.rest;
            are = e;
            last-row = new_last j l F.row F.rest K F.last-row h K';
            fine = (behind_fine F.rest F.row (row-behind j (omega arith) F.row F.rest F.last-row K'.whole.0 K'.whole.1), F.fine);
          }

  -- Each row of the answer is fine behind those before it.
  pub answer_fine : rows_fine [] (answer_rows n ws (in_class c)) ≡ true
  unfolding answer_rows
  answer_fine = fine_rows (rows_to n ws (in_class c) n) (go n refl)
    where
      go : (m : ℕ) → n ≡ m → FineBack (rows_to n ws (in_class c) m)
      go zero e = unfold rows_to in tt
      go (suc j) e =
          let l : j < n = omega arith in
          let F = formed j l in
          let K = known j l F.row F.rest F.are in
          let W = ended n c seen inv one ws begin last j F.row l K.reaching (λ q. glue_end n (begins ws) C begin last j e) in
          subst FineBack (sym F.are) (behind_fine F.rest F.row (row-behind j l F.row F.rest F.last-row W K.whole), F.fine)
