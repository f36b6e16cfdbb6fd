-- The answer's rows, where it is known which places are tied and which are fixed: rows that lie side by side in the variables, of which
-- the ties say just what they say, and which are cut and numbered by document 01's rules, are the answer's. Assumes nothing.
use mathlib.Core.Path.{◌≡◌, refl, sym, ◌∙◌, ap, ap₂}
use mathlib.Core.Bool.{Bool, true, false, not, ◌&&◌, ◌||◌, cond, and-false, or-true}
use mathlib.Core.List.{List, ◌∷◌, reverse, reverse_aux}
use mathlib.Core.Logic.{◌⊎◌, inl, inr, ◌≢◌}
use Prim.Native.Nat.{ℕ, zero, suc, ◌+◌, ◌-◌, ◌≤◌, ◌<◌, pred}
use native.Mathlib.Omega.{arith}
use lib.Dec.{eqb}
use lib.ListN.{length}
use lib.Seq.{drop-length}
use borrow.Author.Tests.{eq-eqb, ne_eqb, eqb-true}
use Rattle.laws.specs.Bools.{implies}
use Rattle.laws.specs.Lists.{below, tally}
use Rattle.laws.proofs.Bools.{and_parts, clash}
use Rattle.laws.proofs.Least.{least_is}
use Rattle.laws.proofs.Numbers.{dec_eq}
use Rattle.laws.proofs.Tallies.{below_of, below_fails, tally_none, tally_apart, tally_front}
use Rattle.answers.specs.declared.AnswerRow.{AnswerRow}
use Rattle.answers.specs.Answer.{begins, variable_at, tied, fixed_to, unfixed, contiguous, fixed_alike, goes_on, lowest, appears, place_row, placed, rows_to, answer_rows, answer_row_at, is_fresh, home_row}
use Rattle.answers.proofs.AnswerRows.{placed_new}
use Rattle.answers.proofs.Variables.{begins_first}
use Rattle.answers.proofs.Homes.{of_piece, home_of, before_not, home_le}
use Rattle.worked.proofs.LaidRows.{start_of, start_next, Stands, stands, start_up, Laid, Ends, laid_wide, laid_variable, laid_inside, laid_ends, last_first, turned_rows}

-- Rows k and k + 1 are of one variable.
abbrev pub OneVariable : List AnswerRow → ℕ → Type 0
OneVariable rows k = (answer_row_at rows k).variable ≡ (answer_row_at rows (suc k)).variable

-- Whether a variable begins with row l.
abbrev pub Starts : List AnswerRow → ℕ → Type 0
Starts rows zero = Unit {0}
Starts rows (suc l) = (answer_row_at rows l).variable ≢ (answer_row_at rows (suc l)).variable

-- Why rows k and k + 1 of one variable are two rows: they are of different kinds; or both are fresh, and somewhere a row of either one's
-- piece has none of the other's beside it: at the end of its variable, before another row, at the beginning, or behind another row.
pub data Apart (rows : List AnswerRow) (k : ℕ) : Type 0 where
  kinds : (answer_row_at rows k).kind ≢ (answer_row_at rows (suc k)).kind → Apart rows k
  ends : (l : ℕ) → l < length rows → (answer_row_at rows k).kind ≡ 2 → (answer_row_at rows (suc k)).kind ≡ 2 → (answer_row_at rows l).kind ≡ 2
      → (answer_row_at rows l).fresh ≡ (answer_row_at rows k).fresh → Ends rows l → Apart rows k
  before : (l : ℕ) → suc l < length rows → (answer_row_at rows k).kind ≡ 2 → (answer_row_at rows (suc k)).kind ≡ 2 → (answer_row_at rows l).kind ≡ 2
      → (answer_row_at rows l).fresh ≡ (answer_row_at rows k).fresh → of_piece rows (suc k) (suc l) ≡ false → Apart rows k
  starts : (l : ℕ) → l < length rows → (answer_row_at rows k).kind ≡ 2 → (answer_row_at rows (suc k)).kind ≡ 2 → (answer_row_at rows l).kind ≡ 2
      → (answer_row_at rows l).fresh ≡ (answer_row_at rows (suc k)).fresh → Starts rows l → Apart rows k
  behind : (l : ℕ) → suc l < length rows → (answer_row_at rows k).kind ≡ 2 → (answer_row_at rows (suc k)).kind ≡ 2 → (answer_row_at rows (suc l)).kind ≡ 2
      → (answer_row_at rows (suc l)).fresh ≡ (answer_row_at rows (suc k)).fresh → of_piece rows k l ≡ false → Apart rows k

-- Whether a fresh piece first appears with row k.
abbrev pub first_row : List AnswerRow → ℕ → Bool
first_row rows k = is_fresh (answer_row_at rows k) && eqb (home_row rows k) k

-- A row's kind: a fill of 0 or of 1, without a fresh number, or a fresh piece of the width that `wide` has for it, whose number is how many
-- appear before it does.
pub data Fine (rows : List AnswerRow) (wide : ℕ → ℕ) (k : ℕ) : Type 0 where
  zeros : (answer_row_at rows k).kind ≡ 0 → (answer_row_at rows k).fresh ≡ 0 → Fine rows wide k
  ones : (answer_row_at rows k).kind ≡ 1 → (answer_row_at rows k).fresh ≡ 0 → Fine rows wide k
  fresh_piece : (answer_row_at rows k).kind ≡ 2 → (answer_row_at rows k).width ≡ wide (answer_row_at rows k).fresh
      → (answer_row_at rows k).fresh ≡ tally (home_row rows k) (first_row rows) → Fine rows wide k

-- Rows that are cut and numbered by the rules.
pub record WellCut (rows : List AnswerRow) (wide : ℕ → ℕ) : Type 0 where
  pub fine : (k : ℕ) → k < length rows → Fine rows wide k
  pub apart : (k : ℕ) → suc k < length rows → OneVariable rows k → Apart rows k

-- What ties and fixed bits say of places at offsets o and q of rows k and l.
pub record SaidBy (rows : List AnswerRow) (same : ℕ → ℕ → Bool) : Type 0 where
  pub fixed : (k o b : ℕ) → k < length rows → o < (answer_row_at rows k).width → b ≤ 1
      → fixed_to same (start_of rows k + o) b ≡ eqb (answer_row_at rows k).kind b
  pub joint : (k o l q : ℕ) → k < length rows → o < (answer_row_at rows k).width → l < length rows → q < (answer_row_at rows l).width
      → is_fresh (answer_row_at rows k) ≡ true
      → tied same (start_of rows k + o) (start_of rows l + q)
      ≡ of_piece rows k l && eqb q o
  pub turned : (i j : ℕ) → tied same i j ≡ tied same j i

-- tests of kinds
fresh_2 : (r : AnswerRow) → r.kind ≡ 2 → is_fresh r ≡ true
fresh_2 r e = rw e refl

unlike : (a b : ℕ) → a ≢ b → (eqb a 0 && eqb b 0) || (eqb a 1 && eqb b 1) ≡ false
unlike a b d = go (dec_eq a 0) (dec_eq a 1)
  where
    go : (a ≡ 0) ⊎ (a ≢ 0) → (a ≡ 1) ⊎ (a ≢ 1) → (eqb a 0 && eqb b 0) || (eqb a 1 && eqb b 1) ≡ false
    go (inl e) h = rw (e, ne_eqb b 0 (λ k. d (e ∙ sym k))) refl
    go (inr e) (inl h) = rw (h, ne_eqb b 1 (λ k. d (h ∙ sym k))) refl
    go (inr e) (inr h) = rw (ne_eqb a 0 e, ne_eqb a 1 h) refl

-- one of two kinds is no fresh piece
one_closed : (a b : ℕ) → a ≤ 2 → b ≤ 2 → a ≢ b → (not (eqb a 0) && not (eqb a 1)) && (not (eqb b 0) && not (eqb b 1)) ≡ false
one_closed a b l m d = go (dec_eq a 2) (dec_eq b 2)
  where
    closed : (c : ℕ) → c ≤ 2 → c ≢ 2 → not (eqb c 0) && not (eqb c 1) ≡ false
    closed zero k e = refl
    closed (suc zero) k e = refl
    closed (suc (suc c)) k e = absurd (omega arith)

    go : (a ≡ 2) ⊎ (a ≢ 2) → (b ≡ 2) ⊎ (b ≢ 2) → (not (eqb a 0) && not (eqb a 1)) && (not (eqb b 0) && not (eqb b 1)) ≡ false
    go (inl e) (inl h) = absurd (d (e ∙ sym h))
    go (inl e) (inr h) = rw (closed b m h) (and-false (not (eqb a 0) && not (eqb a 1)))
    go (inr e) h = rw (closed a l e) refl

module _ (rows : List AnswerRow) (wide : ℕ → ℕ) (cut : WellCut rows wide) (ws : List ℕ) (laid : Laid 0 0 rows ws)
    (n : ℕ) (all : start_of rows (length rows) ≡ n) (same : ℕ → ℕ → Bool) (said : SaidBy rows same) where
  abbrev at : ℕ → AnswerRow
  at k = answer_row_at rows k

  abbrev s : ℕ → ℕ
  s k = start_of rows k

  abbrev m : ℕ
  m = length rows

  -- a row's kind is at most 2
  kind_most : (k : ℕ) → k < m → (at k).kind ≤ 2
  kind_most k l = go (cut.fine k l)
    where
      go : Fine rows wide k → (at k).kind ≤ 2
      go (zeros e f) = omega arith
      go (ones e f) = omega arith
      go (fresh_piece e w f) = omega arith

  kind_2 : (k : ℕ) → k < m → is_fresh (at k) ≡ true → (at k).kind ≡ 2
  kind_2 k l h = go (cut.fine k l)
    where
      go : Fine rows wide k → (at k).kind ≡ 2
      go (zeros e f) = absurd (no (rw e at h))
        where
          no : false ≡ true → ⊥
          no z = let y : ◌≡◌ {A = ℕ} 0 1 = cc in omega arith
      go (ones e f) = absurd (no (rw e at h))
        where
          no : false ≡ true → ⊥
          no z = let y : ◌≡◌ {A = ℕ} 0 1 = cc in omega arith
      go (fresh_piece e w f) = e

  width_is : (k : ℕ) → k < m → is_fresh (at k) ≡ true → (at k).width ≡ wide (at k).fresh
  width_is k l h = go (cut.fine k l)
    where
      go : Fine rows wide k → (at k).width ≡ wide (at k).fresh
      go (zeros e f) = absurd (omega (arith, kind_2 k l h))
      go (ones e f) = absurd (omega (arith, kind_2 k l h))
      go (fresh_piece e w f) = w

  -- places lie in the table
  inside : (k o : ℕ) → k < m → o < (at k).width → s k + o < n
  inside k o l h = omega (arith, all, start_next rows k l, start_up rows (suc k) m l (omega arith))

  at_0 : (k : ℕ) → s k + 0 ≡ s k
  at_0 k = omega arith

  at_suc : (k o : ℕ) → s k + suc o ≡ suc (s k + o)
  at_suc k o = omega arith

  wide_1 : (k : ℕ) → k < m → 1 ≤ (at k).width
  wide_1 k l = laid_wide laid k l

  -- which variable a place is of; where none begins, and where one does
  variable_is : (k o : ℕ) → k < m → o < (at k).width → variable_at ws (s k + o) ≡ (at k).variable
  variable_is k o l h = let e : s k + o ≡ 0 + (s k + o) = omega arith in ap (variable_at ws) e ∙ omega (arith, laid_variable laid k o l h)

  none_begins : (k o : ℕ) → k < m → suc o < (at k).width → begins ws (s k + suc o) ≡ false
  none_begins k o l h = let e : s k + suc o ≡ 0 + (s k + suc o) = omega arith in ap (begins ws) e ∙ laid_inside laid k o l h

  one_begins : (k : ℕ) → k < m → Ends rows k → begins ws (s (suc k)) ≡ true
  one_begins k l h = let e : s (suc k) ≡ 0 + s (suc k) = omega arith in ap (begins ws) e ∙ laid_ends laid k l h

  begins-row : (k : ℕ) → k < m → Starts rows k → begins ws (s k) ≡ true
  unfolding start_of
  begins-row zero l h = begins_first ws
  begins-row (suc k) l h = one_begins k (omega arith) (inr h)

  -- an unfixed place
  loose : (k o : ℕ) → k < m → o < (at k).width → is_fresh (at k) ≡ true → unfixed same (s k + o) ≡ true
  loose k o l h f = rw (said.fixed k o 0 l h (omega arith), said.fixed k o 1 l h (omega arith), kind_2 k l f) refl

  closed : (k o : ℕ) → k < m → o < (at k).width → is_fresh (at k) ≡ false → unfixed same (s k + o) ≡ false
  closed k o l h f = rw (said.fixed k o 0 l h (omega arith), said.fixed k o 1 l h (omega arith)) (go (cut.fine k l))
    where
      go : Fine rows wide k → not (eqb (at k).kind 0) && not (eqb (at k).kind 1) ≡ false
      go (zeros e g) = rw e refl
      go (ones e g) = rw e refl
      go (fresh_piece e w g) = clash (is_fresh (at k)) (fresh_2 (at k) e) f

  -- what is tied to a fresh place
  tied_at : (k o l q : ℕ) → k < m → o < (at k).width → l < m → q < (at l).width → is_fresh (at k) ≡ true → tied same (s l + q) (s k + o) ≡ true
      → (is_fresh (at l) ≡ true) × ((at l).fresh ≡ (at k).fresh) × (q ≡ o)
  tied_at k o l q lk ho ll hq f e =
      let t : of_piece rows k l && eqb q o ≡ true = sym (said.joint k o l q lk ho ll hq f) ∙ said.turned (s k + o) (s l + q) ∙ e in
      let a = and_parts (of_piece rows k l) (eqb q o) t in
      let b = and_parts (is_fresh (at l)) (eqb (at l).fresh (at k).fresh) a.0 in
      (b.0, eqb-true (at l).fresh (at k).fresh b.1, eqb-true q o a.1)

  tied_of : (k o l : ℕ) → k < m → o < (at k).width → l < m → is_fresh (at k) ≡ true → is_fresh (at l) ≡ true → (at l).fresh ≡ (at k).fresh
      → tied same (s l + o) (s k + o) ≡ true
  tied_of k o l lk ho ll f g e =
      let w : (at l).width ≡ (at k).width = width_is l ll g ∙ ap wide e ∙ sym (width_is k lk f) in
      said.turned (s l + o) (s k + o)
      ∙ said.joint k o l o lk ho ll (omega arith) f
      ∙ rw (g, eq-eqb (at l).fresh (at k).fresh e, eq-eqb o o refl) refl

  -- Inside a row the next place goes on.
  module _ (k o : ℕ) (l : k < m) (h : suc o < (at k).width) (f : is_fresh (at k) ≡ true) where
    abbrev all_asked_before : ℕ → Bool
    all_asked_before p = implies (tied same p (suc (s k + o))) (not (begins ws p) && tied same (pred p) (s k + o))

    abbrev all_asked_behind : ℕ → Bool
    all_asked_behind p = implies (tied same p (s k + o)) (not (begins ws (suc p)) && tied same (suc p) (suc (s k + o)))

    all_before : (p : ℕ) → p < n → all_asked_before p ≡ true
    all_before p q = go (tied same p (suc (s k + o))) refl (stands rows m p (omega arith) (omega arith))
      where
        go : (b : Bool) → tied same p (suc (s k + o)) ≡ b → Stands rows m p → not b || (not (begins ws p) && tied same (pred p) (s k + o)) ≡ true
        go false e st = refl
        go true e st =
            let t : tied same (s st.row + st.offset) (s k + suc o) ≡ true = ap₂ (tied same) (sym st.place) (at_suc k o) ∙ e in
            let a = tied_at k (suc o) st.row st.offset l h st.below st.within f t in
            let place : p ≡ s st.row + suc o = st.place ∙ ap (λ (x : ℕ). s st.row + x) a.2 in
            let less : pred p ≡ s st.row + o = ap pred (place ∙ at_suc st.row o) in
            let in_row : suc o < (at st.row).width = omega (arith, a.2, st.within) in
            rw (place, none_begins st.row o st.below in_row, at_suc st.row o)
            (tied_of k o st.row l (omega arith) st.below f a.0 a.1)

    all-behind : (p : ℕ) → p < n → all_asked_behind p ≡ true
    all-behind p q = go (tied same p (s k + o)) refl (stands rows m p (omega arith) (omega arith))
      where
        go : (b : Bool) → tied same p (s k + o) ≡ b → Stands rows m p → not b || (not (begins ws (suc p)) && tied same (suc p) (suc (s k + o))) ≡ true
        go false e st = refl
        go true e st =
            let t : tied same (s st.row + st.offset) (s k + o) ≡ true = ap (λ (x : ℕ). tied same x (s k + o)) (sym st.place) ∙ e in
            let a = tied_at k o st.row st.offset l (omega arith) st.below st.within f t in
            let more : suc p ≡ s st.row + suc o = omega (arith, st.place, a.2) in
            let w : (at st.row).width ≡ (at k).width = width_is st.row st.below a.0 ∙ ap wide a.1 ∙ sym (width_is k l f) in
            rw (more, none_begins st.row o st.below (omega arith), ← at_suc k o)
            (tied_of k (suc o) st.row l h st.below f a.0 a.1)

    together : contiguous n ws same (s k + o) ≡ true
    unfolding contiguous
    together =
        let next : unfixed same (suc (s k + o)) ≡ true = ap (unfixed same) (sym (at_suc k o)) ∙ loose k (suc o) l h f in
        let open' : begins ws (suc (s k + o)) ≡ false = ap (begins ws) (sym (at_suc k o)) ∙ none_begins k o l h in
        rw (loose k o l (omega arith) f, next, open', below_of n all_asked_before all_before, below_of n all_asked_behind all-behind) refl

  -- In one row the next place goes on.
  on : (k o : ℕ) → k < m → suc o < (at k).width → goes_on n ws same (suc (s k + o)) ≡ true
  unfolding goes_on fixed_alike
  on k o l h = rw open' (go (cut.fine k l))
    where
      open' : begins ws (suc (s k + o)) ≡ false
      open' = ap (begins ws) (sym (at_suc k o)) ∙ none_begins k o l h

      next : (b : ℕ) → b ≤ 1 → fixed_to same (suc (s k + o)) b ≡ eqb (at k).kind b
      next b q = ap (λ (x : ℕ). fixed_to same x b) (sym (at_suc k o)) ∙ said.fixed k (suc o) b l h q

      go : Fine rows wide k
          → (fixed_to same (s k + o) 0 && fixed_to same (suc (s k + o)) 0 || fixed_to same (s k + o) 1 && fixed_to same (suc (s k + o)) 1)
          || contiguous n ws same (s k + o) ≡ true
      go (zeros e f) = rw (said.fixed k o 0 l (omega arith) (omega arith), next 0 (omega arith), e) refl
      go (ones e f) =
          rw (said.fixed k o 0 l (omega arith) (omega arith), next 0 (omega arith), said.fixed k o 1 l (omega arith) (omega arith), next 1 (omega arith), e) refl
      go (fresh_piece e w f) =
          rw (together k o l h (fresh_2 (at k) e))
          (or-true (fixed_to same (s k + o) 0 && fixed_to same (suc (s k + o)) 0 || fixed_to same (s k + o) 1 && fixed_to same (suc (s k + o)) 1))

  -- A row begins where the one before it ends, at its last place.
  module _ (k : ℕ) (l : suc k < m) where
    abbrev o : ℕ
    o = (at k).width - 1

    in_row : o < (at k).width
    in_row = omega (arith, wide_1 k (omega arith))

    at_end : s (suc k) ≡ suc (s k + o)
    at_end = omega (arith, start_next rows k (omega arith), wide_1 k (omega arith))

    here : (b : ℕ) → b ≤ 1 → fixed_to same (s k + o) b ≡ eqb (at k).kind b
    here b q = said.fixed k o b (omega arith) in_row q

    next : (b : ℕ) → b ≤ 1 → fixed_to same (suc (s k + o)) b ≡ eqb (at (suc k)).kind b
    next b q =
        let e : suc (s k + o) ≡ s (suc k) + 0 = omega (arith, at_end) in
        ap (λ (x : ℕ). fixed_to same x b) e ∙ said.fixed (suc k) 0 b l (wide_1 (suc k) l) q

    unlike_rows : (at k).kind ≢ (at (suc k)).kind → fixed_alike same (s k + o) || contiguous n ws same (s k + o) ≡ false
    unfolding fixed_alike contiguous
    unlike_rows d =
        rw (
          here 0 (omega arith),
          next 0 (omega arith),
          here 1 (omega arith),
          next 1 (omega arith),
          unlike (at k).kind (at (suc k)).kind d,
          one_closed (at k).kind (at (suc k)).kind (kind_most k (omega arith)) (kind_most (suc k) l) d,
        )
        refl

    abbrev ask_behind : ℕ → Bool
    ask_behind p = implies (tied same p (s k + o)) (not (begins ws (suc p)) && tied same (suc p) (suc (s k + o)))

    abbrev ask_before : ℕ → Bool
    ask_before p = implies (tied same p (suc (s k + o))) (not (begins ws p) && tied same (pred p) (s k + o))

    -- behind a row j of the piece of row k no place is tied to the next row's first
    not_behind : (j : ℕ) → j < m → (at k).kind ≡ 2 → (at (suc k)).kind ≡ 2 → (at j).kind ≡ 2 → (at j).fresh ≡ (at k).fresh
        → not (begins ws (s (suc j))) && tied same (s (suc j)) (suc (s k + o)) ≡ false
        → fixed_alike same (s k + o) || contiguous n ws same (s k + o) ≡ false
    unfolding fixed_alike contiguous
    not_behind j lj a b c e h =
        rw (below_fails n ask_behind (s j + o) (inside j o lj (omega (arith, width, in_row)))
        (rw (tied_of k o j (omega arith) in_row lj (fresh_2 (at k) a) (fresh_2 (at j) c) e, place) h))
        (rw (here 0 (omega arith), next 0 (omega arith), here 1 (omega arith), next 1 (omega arith), a, b)
        (and-false (not (begins ws (suc (s k + o))) && below n ask_before)))
      where
        width : (at j).width ≡ (at k).width
        width = width_is j lj (fresh_2 (at j) c) ∙ ap wide e ∙ sym (width_is k (omega arith) (fresh_2 (at k) a))

        place : suc (s j + o) ≡ s (suc j)
        place = omega (arith, start_next rows j lj, width, wide_1 k (omega arith))

    -- before a row j of the piece of row k + 1 no place is tied to the last of row k
    not_before : (j : ℕ) → j < m → (at k).kind ≡ 2 → (at (suc k)).kind ≡ 2 → (at j).kind ≡ 2 → (at j).fresh ≡ (at (suc k)).fresh
        → not (begins ws (s j)) && tied same (pred (s j)) (s k + o) ≡ false
        → fixed_alike same (s k + o) || contiguous n ws same (s k + o) ≡ false
    unfolding fixed_alike contiguous
    not_before j lj a b c e h =
        rw (below_fails n ask_before (s j) (omega (arith, inside j 0 lj (wide_1 j lj))) (rw first h))
        (rw (here 0 (omega arith), next 0 (omega arith), here 1 (omega arith), next 1 (omega arith), a, b, and-false (not (begins ws (suc (s k + o))))) refl)
      where
        first : tied same (s j) (suc (s k + o)) ≡ true
        first =
            let q : suc (s k + o) ≡ s (suc k) + 0 = omega (arith, at_end) in
            ap₂ (tied same) (sym (at_0 j)) q ∙ tied_of (suc k) 0 j l (wide_1 (suc k) l) lj (fresh_2 (at (suc k)) b) (fresh_2 (at j) c) e

    two : Apart rows k → fixed_alike same (s k + o) || contiguous n ws same (s k + o) ≡ false
    two (kinds d) = unlike_rows d
    two (ends j lj a b c e h) = not_behind j lj a b c e (rw (one_begins j lj h) refl)
    two (before j lj a b c e h) =
        not_behind j (omega arith) a b c e
        (rw (
        ap₂ (tied same) (sym (at_0 (suc j))) (sym at_end ∙ sym (at_0 (suc k)))
        ∙ said.turned (s (suc j) + 0) (s (suc k) + 0)
        ∙ said.joint (suc k) 0 (suc j) 0 l (wide_1 (suc k) l) lj (wide_1 (suc j) lj) (fresh_2 (at (suc k)) b)
        ∙ ap (λ (t : Bool). t && eqb 0 0) h
        )
        (and-false (not (begins ws (s (suc j))))))
    two (starts j lj a b c e h) = not_before j lj a b c e (rw (begins-row j lj h) refl)
    two (behind j lj a b c e h) =
        let w = wide_1 j (omega arith) in
        let place : pred (s (suc j)) ≡ s j + ((at j).width - 1) = omega (arith, start_next rows j (omega arith)) in
        not_before (suc j) lj a b c e
        (rw (
        ap (λ (x : ℕ). tied same x (s k + o)) place
        ∙ said.turned (s j + ((at j).width - 1)) (s k + o)
        ∙ said.joint k o j ((at j).width - 1) (omega arith) in_row (omega arith) (omega arith) (fresh_2 (at k) a)
        ∙ ap (λ (t : Bool). t && eqb ((at j).width - 1) o) h
        )
        (and-false (not (begins ws (s (suc j))))))

    off_next : goes_on n ws same (s (suc k)) ≡ false
    unfolding goes_on
    off_next = rw at_end (go (dec_eq (at k).variable (at (suc k)).variable))
      where
        go : ((at k).variable ≡ (at (suc k)).variable) ⊎ ((at k).variable ≢ (at (suc k)).variable)
            → not (begins ws (suc (s k + o))) && (fixed_alike same (s k + o) || contiguous n ws same (s k + o)) ≡ false
        go (inr d) = rw (ap (begins ws) (sym at_end) ∙ one_begins k (omega arith) (inr d)) refl
        go (inl e) = rw (two (cut.apart k l e)) (and-false (not (begins ws (suc (s k + o)))))

  off : (k : ℕ) → k < m → goes_on n ws same (s k) ≡ false
  unfolding goes_on start_of
  off zero l = refl
  off (suc k) l = off_next k l

  -- The lowest place that is tied to the first of a fresh row is the first of its home row,
  low : (k : ℕ) → k < m → is_fresh (at k) ≡ true → lowest same (s k) ≡ s (home_row rows k)
  unfolding lowest
  low k l f =
      least_is (tied same (s k)) (s k) 0 (s h) (omega arith) (omega (arith, start_up rows h k (home_le rows k) (omega arith))) found none_before
    where
      h : ℕ
      h = home_row rows k

      below_m : h < m
      below_m = omega (arith, home_le rows k)

      is_of : (is_fresh (at h) ≡ true) × (eqb (at h).fresh (at k).fresh ≡ true)
      is_of = and_parts (is_fresh (at h)) (eqb (at h).fresh (at k).fresh) (home_of rows k f)

      found : tied same (s k) (s h) ≡ true
      found =
          ap₂ (tied same) (sym (at_0 k)) (sym (at_0 h))
          ∙ said.joint k 0 h 0 l (wide_1 k l) below_m (wide_1 h below_m) f
          ∙ rw (home_of rows k f) refl

      none_before : (j : ℕ) → j < s h → tied same (s k) j ≡ false
      none_before j q =
          let st = stands rows h j (omega (arith, below_m)) q in
          ap₂ (tied same) (sym (at_0 k)) st.place
          ∙ said.joint k 0 st.row st.offset l (wide_1 k l) (omega (arith, below_m, st.below)) st.within f
          ∙ rw (before_not rows k st.row f st.below) refl

  -- so that a fresh piece appears where a row is its own home, and nowhere else,
  appears_at : (k : ℕ) → k < m → appears n ws same (s k) ≡ first_row rows k
  unfolding appears
  appears_at k l = rw (off k l) (go (is_fresh (at k)) refl)
    where
      go : (b : Bool) → is_fresh (at k) ≡ b → eqb (lowest same (s k)) (s k) && (unfixed same (s k) && true) ≡ b && eqb (home_row rows k) k
      go true f =
          rw (ap (unfixed same) (sym (at_0 k)) ∙ loose k 0 l (wide_1 k l) f, low k l f) (number (dec_eq (home_row rows k) k))
        where
          number : (home_row rows k ≡ k) ⊎ (home_row rows k ≢ k) → eqb (s (home_row rows k)) (s k) && true ≡ true && eqb (home_row rows k) k
          number (inl e) = rw (e, eq-eqb (s k) (s k) refl, eq-eqb k k refl) refl
          number (inr d) =
              let h = home_le rows k in
              let below_m : home_row rows k < m = omega arith in
              let up : s (suc (home_row rows k)) ≤ s k = start_up rows (suc (home_row rows k)) k (omega arith) (omega arith) in
              let wider : s (home_row rows k) < s k = omega (arith, start_next rows (home_row rows k) below_m, wide_1 (home_row rows k) below_m) in
              rw (ne_eqb (home_row rows k) k d, ne_eqb (s (home_row rows k)) (s k) (λ e. omega arith)) refl
      go false f = rw (ap (unfixed same) (sym (at_0 k)) ∙ closed k 0 l (wide_1 k l) f) (and-false (eqb (lowest same (s k)) (s k)))

  appears-not : (k o : ℕ) → k < m → suc o < (at k).width → appears n ws same (s k + suc o) ≡ false
  unfolding appears
  appears-not k o l h =
      rw (ap (goes_on n ws same) (at_suc k o) ∙ on k o l h, and-false (unfixed same (s k + suc o))) (and-false (eqb (lowest same (s k + suc o)) (s k + suc o)))

  -- and as many appear before a row as rows before it are their own home.
  counts : (k : ℕ) → k ≤ m → tally (s k) (appears n ws same) ≡ tally k (first_row rows)
  unfolding start_of tally
  counts zero l = refl
  counts (suc k) l =
      let e : s (suc k) ≡ s k + suc ((at k).width - 1) = omega (arith, start_next rows k l, wide_1 k l) in
      let rest : tally ((at k).width - 1) (λ o. appears n ws same (s k + suc o)) ≡ 0 =
      tally_none ((at k).width - 1) (λ o. appears n ws same (s k + suc o)) (λ o h. appears-not k o l (omega arith)) in
      ap (λ (x : ℕ). tally x (appears n ws same)) e
      ∙ tally_apart (s k) (suc ((at k).width - 1)) (appears n ws same)
      ∙ omega (
        arith,
        tally_front ((at k).width - 1) (λ o. appears n ws same (s k + o)),
        rest,
        counts k (omega arith),
        ap (λ (b : Bool). cond {A = ℕ} b 1 0) (ap (appears n ws same) (at_0 k) ∙ appears_at k l),
      )

  -- The row of a row's first place, and of the places up to one in it.
  abbrev cut_to : ℕ → ℕ → AnswerRow
  cut_to k o = record { variable = (at k).variable; kind = (at k).kind; width = suc o; fresh = (at k).fresh }

  place-row : (k : ℕ) → k < m → place_row n ws same (s k) ≡ cut_to k 0
  unfolding place_row
  place-row k l =
      rw (ap (variable_at ws) (sym (at_0 k)) ∙ variable_is k 0 l (wide_1 k l), fixed' 0 (omega arith), fixed' 1 (omega arith)) (go (cut.fine k l))
    where
      fixed' : (b : ℕ) → b ≤ 1 → fixed_to same (s k) b ≡ eqb (at k).kind b
      fixed' b h = ap (λ (x : ℕ). fixed_to same x b) (sym (at_0 k)) ∙ said.fixed k 0 b l (wide_1 k l) h

      go : Fine rows wide k
          → record {
            variable = (at k).variable;
            kind = cond (eqb (at k).kind 0) 0 (cond (eqb (at k).kind 1) 1 2);
            width = 1;
            fresh = cond (not (eqb (at k).kind 0) && not (eqb (at k).kind 1)) (tally (lowest same (s k)) (appears n ws same)) 0;
          } ≡ cut_to k 0
      go (zeros e f) = rw (e, f) refl
      go (ones e f) = rw (e, f) refl
      go (fresh_piece e w f) =
          let number : tally (lowest same (s k)) (appears n ws same) ≡ (at k).fresh =
          ap (λ (x : ℕ). tally x (appears n ws same)) (low k l (fresh_2 (at k) e)) ∙ counts (home_row rows k) (omega (arith, home_le rows k)) ∙ sym f in
          rw (e, number) refl

  one_more : (k o : ℕ) → k < m → suc o < (at k).width → (rest : List AnswerRow) → rows_to n ws same (suc (s k + o)) ≡ cut_to k o ∷ rest
      → rows_to n ws same (suc (suc (s k + o))) ≡ cut_to k (suc o) ∷ rest
  one_more k o l h rest e = unfold rows_to placed in (rw (on k o l h, e) refl)

  span : (k o : ℕ) → k < m → o < (at k).width → rows_to n ws same (suc (s k + o)) ≡ cut_to k o ∷ rows_to n ws same (s k)
  span k zero l h =
      ap (λ (x : ℕ). rows_to n ws same (suc x)) (at_0 k)
      ∙ unfold rows_to in (rw (off k l, place-row k l) (placed_new (cut_to k 0) (rows_to n ws same (s k))))
  span k (suc o) l h = ap (λ (x : ℕ). rows_to n ws same (suc x)) (at_suc k o) ∙ one_more k o l h (rows_to n ws same (s k)) (span k o l (omega arith))

  to_row : (k : ℕ) → k ≤ m → rows_to n ws same (s k) ≡ last_first rows k
  unfolding start_of last_first
  to_row zero l = unfold rows_to in refl
  to_row (suc k) l =
      let e : s (suc k) ≡ suc (s k + ((at k).width - 1)) = omega (arith, start_next rows k l, wide_1 k l) in
      let w : suc ((at k).width - 1) ≡ (at k).width = omega (arith, wide_1 k l) in
      ap (rows_to n ws same) e
      ∙ span k ((at k).width - 1) l (omega (arith, wide_1 k l))
      ∙ rw (w, to_row k (omega arith)) refl

  -- The rows are the answer's.
  pub laid_answer : answer_rows n ws same ≡ rows
  unfolding answer_rows
  laid_answer =
      ap (λ (x : ℕ). reverse (rows_to n ws same x)) (sym all)
      ∙ ap reverse (to_row m (omega arith))
      ∙ ap (reverse_aux (last_first rows m)) (sym (drop-length rows))
      ∙ turned_rows rows m (omega arith)
