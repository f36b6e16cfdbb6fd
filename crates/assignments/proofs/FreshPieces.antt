-- The fresh pieces of rows: the numbers of rows in two parts, the width of a piece and where its bits begin; and with a fine row more
-- behind rows whose fresh numbers are those below a bound. Assumes nothing.
use mathlib.Core.Path.{◌≡◌, refl, sym, ap, ap₂, ◌∙◌}
use mathlib.Core.Logic.{◌⊎◌, inl, inr, ◌≢◌}
use mathlib.Core.Bool.{Bool, true, false, not, ◌&&◌, ◌||◌, cond, or-true, or-false, or_assoc}
use mathlib.Core.List.{List, [], ◌∷◌, ◌++◌}
use Prim.Native.Nat.{ℕ, zero, suc, ◌+◌, ◌≤◌, ◌<◌}
use native.Mathlib.Omega.{arith}
use lib.Dec.{eqb}
use lib.ListN.{length}
use borrow.Author.Tests.{eqb-true, eq-eqb}
use Rattle.laws.specs.Lists.{member}
use Rattle.laws.proofs.Bools.{clash}
use Rattle.laws.proofs.Least.{least_at}
use Rattle.laws.proofs.Numbers.{below-or_at, eqb_turn}
use Rattle.laws.proofs.Tallies.{member_more, distinct_is, distinct_most}
use Rattle.answers.specs.declared.AnswerRow.{AnswerRow}
use Rattle.answers.specs.Answer.{answer_row_at, is_fresh, fresh_numbers, fresh_pieces, fresh_width, fresh_start}
use Rattle.assignments.specs.Form.{lowest_unseen, fresh_fine}

-- a number among those of the rows: a row has it
abbrev pub has : ℕ → AnswerRow → Bool
has k r = is_fresh r && eqb k r.fresh

pub has_more : (k : ℕ) (r : AnswerRow) (xs : List AnswerRow) → member k (fresh_numbers (r ∷ xs)) ≡ has k r || member k (fresh_numbers xs)
unfolding fresh_numbers member
has_more k r xs = go (is_fresh r)
  where
    go : (b : Bool) → member k (cond b (r.fresh ∷ fresh_numbers xs) (fresh_numbers xs)) ≡ (b && eqb k r.fresh) || member k (fresh_numbers xs)
    go true = refl
    go false = refl

has_is : (k : ℕ) (r : AnswerRow) → has k r ≡ true → (is_fresh r ≡ true) × (k ≡ r.fresh)
has_is k r h = go (is_fresh r) (eqb k r.fresh) refl refl h
  where
    go : (a b : Bool) → is_fresh r ≡ a → eqb k r.fresh ≡ b → a && b ≡ true → (is_fresh r ≡ true) × (k ≡ r.fresh)
    go true true e d q = (e, eqb-true k r.fresh d)
    go true false e d q = clash false q refl
    go false b e d q = clash false q refl

pub number-here : (k : ℕ) (r : AnswerRow) (xs : List AnswerRow) → member k (fresh_numbers (r ∷ xs)) ≡ true
    → ((is_fresh r ≡ true) × (k ≡ r.fresh)) ⊎ (member k (fresh_numbers xs) ≡ true)
number-here k r xs h = go (has k r) refl (sym (has_more k r xs) ∙ h)
  where
    go : (b : Bool) → has k r ≡ b → b || member k (fresh_numbers xs) ≡ true → ((is_fresh r ≡ true) × (k ≡ r.fresh)) ⊎ (member k (fresh_numbers xs) ≡ true)
    go true e q = inl (has_is k r e)
    go false e q = inr q

pub number_in : (xs : List AnswerRow) (j : ℕ) → j < length xs → is_fresh (answer_row_at xs j) ≡ true → member (answer_row_at xs j).fresh (fresh_numbers xs) ≡ true
unfolding fresh_numbers
number_in [] j l f = absurd (omega arith)
number_in (x ∷ xs) zero l f = has_more x.fresh x xs ∙ rw (f, eq-eqb x.fresh x.fresh refl)
number_in (x ∷ xs) (suc j) l f = member_more (is_fresh x) x.fresh (answer_row_at xs j).fresh (fresh_numbers xs) (number_in xs j (omega arith) f)

-- what is said of the number of each row is said of each number
pub number_of_row : (xs : List AnswerRow) (P : ℕ → Type 0) → ((i : ℕ) → i < length xs → is_fresh (answer_row_at xs i) ≡ true → P (answer_row_at xs i).fresh)
    → (k : ℕ) → member k (fresh_numbers xs) ≡ true → P k
number_of_row [] P h k m = unfold fresh_numbers member in clash false m refl
number_of_row (x ∷ xs) P h k m = go (number-here k x xs m) (λ q. number_of_row xs P (λ i l f. h (suc i) (omega arith) f) k q)
  where
    go : ((is_fresh x ≡ true) × (k ≡ x.fresh)) ⊎ (member k (fresh_numbers xs) ≡ true) → (member k (fresh_numbers xs) ≡ true → P k) → P k
    go (inl (f, e)) r = rw e (h 0 (omega arith) f)
    go (inr q) r = r q

-- the numbers of two parts of the rows, and the width of a piece in them
pub numbers_append : (k : ℕ) (xs ys : List AnswerRow) → member k (fresh_numbers (xs ++ ys)) ≡ member k (fresh_numbers xs) || member k (fresh_numbers ys)
numbers_append k [] ys = unfold fresh_numbers member in refl
numbers_append k (x ∷ xs) ys =
    has_more k x (xs ++ ys)
    ∙ ap (λ (b : Bool). has k x || b) (numbers_append k xs ys)
    ∙ sym (or_assoc (has k x) (member k (fresh_numbers xs)) (member k (fresh_numbers ys)))
    ∙ ap (λ (b : Bool). b || member k (fresh_numbers ys)) (sym (has_more k x xs))

piece-append : (k : ℕ) (xs ys : List AnswerRow) → fresh_width (xs ++ ys) k ≡ cond (member k (fresh_numbers xs)) (fresh_width xs k) (fresh_width ys k)
unfolding fresh_numbers member fresh_width
piece-append k [] ys = refl
piece-append k (x ∷ xs) ys = go (is_fresh x) (piece-append k xs ys)
  where
    go : (b : Bool) → fresh_width (xs ++ ys) k ≡ cond (member k (fresh_numbers xs)) (fresh_width xs k) (fresh_width ys k)
        → cond (b && eqb x.fresh k) x.width (fresh_width (xs ++ ys) k)
        ≡ cond (member k (cond b (x.fresh ∷ fresh_numbers xs) (fresh_numbers xs))) (cond (b && eqb x.fresh k) x.width (fresh_width xs k)) (fresh_width ys k)
    go false e = e
    go true e = two (eqb x.fresh k) (eqb_turn k x.fresh)
      where
        two : (c : Bool) → eqb k x.fresh ≡ c
            → cond c x.width (fresh_width (xs ++ ys) k) ≡ cond (eqb k x.fresh || member k (fresh_numbers xs)) (cond c x.width (fresh_width xs k)) (fresh_width ys k)
        two true q = rw q
        two false q = rw q e

-- the bits of a piece begin behind those of the pieces before it
pub starts_same : (xs ys : List AnswerRow) (m : ℕ) → ((k : ℕ) → k < m → fresh_width xs k ≡ fresh_width ys k) → fresh_start xs m ≡ fresh_start ys m
unfolding fresh_start
starts_same xs ys zero h = refl
starts_same xs ys (suc m) h = ap₂ ◌+◌ (starts_same xs ys m (λ k l. h k (omega arith))) (h m (omega arith))

pub starts_rise : (rows : List AnswerRow) (k m : ℕ) → k < m → fresh_start rows k + fresh_width rows k ≤ fresh_start rows m
unfolding fresh_start
starts_rise rows k zero l = absurd (omega arith)
starts_rise rows k (suc m) l = go (below-or_at k m l) (λ (q : k < m). starts_rise rows k m q)
  where
    go : (k < m) ⊎ (k ≡ m) → (k < m → fresh_start rows k + fresh_width rows k ≤ fresh_start rows m) → fresh_start rows k + fresh_width rows k ≤ fresh_start rows m + fresh_width rows m
    go (inl q) h = omega (arith, h q)
    go (inr e) h = rw e (omega arith)

numbers_most : (xs : List AnswerRow) → length (fresh_numbers xs) ≤ length xs
unfolding fresh_numbers
numbers_most [] = omega arith
numbers_most (x ∷ xs) = go (is_fresh x) (numbers_most xs)
  where
    go : (b : Bool) → length (fresh_numbers xs) ≤ length xs → length (cond b (x.fresh ∷ fresh_numbers xs) (fresh_numbers xs)) ≤ suc (length xs)
    go true l = omega arith
    go false l = omega arith

-- The fresh numbers of some rows are those below a bound.
pub record Below (m : ℕ) (rows : List AnswerRow) : Type 0 where
  pub there : (k : ℕ) → k < m → member k (fresh_numbers rows) ≡ true
  pub only : (k : ℕ) → member k (fresh_numbers rows) ≡ true → k < m

pub none_below : Below 0 []
unfolding fresh_numbers member
none_below = record { there = λ k l. absurd (omega arith); only = λ k q. clash false q refl }

-- the bound is the number of pieces and not above that of the rows; from it on numbers are unseen, and it is the lowest of these
module _ (m : ℕ) (rows : List AnswerRow) (b : Below m rows) where
  pub pieces_below : fresh_pieces rows ≡ m
  unfolding fresh_pieces
  pieces_below = distinct_is m (fresh_numbers rows) b.only b.there

  pub below_most : m ≤ length rows
  unfolding fresh_pieces
  below_most = omega (arith, numbers_most rows, distinct_most (fresh_numbers rows), pieces_below)

  pub unseen : (k : ℕ) → m ≤ k → member k (fresh_numbers rows) ≡ false
  unseen k l = go (member k (fresh_numbers rows)) refl
    where
      go : (t : Bool) → member k (fresh_numbers rows) ≡ t → t ≡ false
      go false e = refl
      go true e = absurd (omega (arith, b.only k e))

  pub lowest_is : lowest_unseen rows ≡ m
  unfolding lowest_unseen
  lowest_is =
      least_at (λ k. not (member k (fresh_numbers rows))) 0 (length rows) m below_most
      (λ l. let z : 0 + m ≡ m = omega arith in ap (λ (k : ℕ). not (member k (fresh_numbers rows))) z ∙ ap not (unseen m (omega arith)))
      (λ k a l. ap not (b.there k (omega arith)))
      ∙ omega arith

-- A row whose fresh number is fine, behind such rows.
module _ (m : ℕ) (before : List AnswerRow) (b : Below m before) (r : AnswerRow) (fine : fresh_fine before r ≡ true) where
  abbrev more : List AnswerRow
  more = before ++ (r ∷ [])

  -- whether it begins a new piece
  abbrev new : Bool
  new = is_fresh r && eqb r.fresh m

  -- its number was seen with its width, or is the next
  pub number_of : is_fresh r ≡ true → ((r.fresh < m) × (fresh_width before r.fresh ≡ r.width)) ⊎ (r.fresh ≡ m)
  unfolding fresh_fine
  number_of f =
      go (member r.fresh (fresh_numbers before)) (eqb (fresh_width before r.fresh) r.width) (eqb r.fresh (lowest_unseen before)) refl refl refl
      (rw f at fine)
    where
      next : eqb r.fresh (lowest_unseen before) ≡ true → r.fresh ≡ m
      next e = eqb-true r.fresh (lowest_unseen before) e ∙ lowest_is m before b

      go : (x y z : Bool) → member r.fresh (fresh_numbers before) ≡ x → eqb (fresh_width before r.fresh) r.width ≡ y → eqb r.fresh (lowest_unseen before) ≡ z
          → (x && y) || z ≡ true → ((r.fresh < m) × (fresh_width before r.fresh ≡ r.width)) ⊎ (r.fresh ≡ m)
      go true true z p q s h = inl (b.only r.fresh p, eqb-true (fresh_width before r.fresh) r.width q)
      go true false true p q s h = inr (next s)
      go true false false p q s h = clash false h refl
      go false y true p q s h = inr (next s)
      go false y false p q s h = clash false h refl

  pub number_most : is_fresh r ≡ true → r.fresh ≤ m
  number_most f = go (number_of f)
    where
      go : ((r.fresh < m) × (fresh_width before r.fresh ≡ r.width)) ⊎ (r.fresh ≡ m) → r.fresh ≤ m
      go (inl p) = omega (arith, p.0)
      go (inr e) = omega arith

  -- the numbers with it
  more_numbers : (k : ℕ) → member k (fresh_numbers (before ++ (r ∷ []))) ≡ member k (fresh_numbers before) || has k r
  more_numbers k =
      numbers_append k before (r ∷ [])
      ∙ ap (λ (t : Bool). member k (fresh_numbers before) || t) (has_more k r [] ∙ unfold fresh_numbers member in or-false (has k r))

  kept_number : (k : ℕ) → member k (fresh_numbers before) ≡ true → member k (fresh_numbers (before ++ (r ∷ []))) ≡ true
  kept_number k h = more_numbers k ∙ rw h

  own_number : is_fresh r ≡ true → member r.fresh (fresh_numbers (before ++ (r ∷ []))) ≡ true
  own_number f = more_numbers r.fresh ∙ rw (f, eq-eqb r.fresh r.fresh refl) (or-true (member r.fresh (fresh_numbers before)))

  number_back : (k : ℕ) → member k (fresh_numbers (before ++ (r ∷ []))) ≡ true → (k < m) ⊎ ((is_fresh r ≡ true) × (k ≡ r.fresh))
  number_back k h = go (member k (fresh_numbers before)) refl (sym (more_numbers k) ∙ h)
    where
      go : (t : Bool) → member k (fresh_numbers before) ≡ t → t || has k r ≡ true → (k < m) ⊎ ((is_fresh r ≡ true) × (k ≡ r.fresh))
      go true e q = inl (b.only k e)
      go false e q = inr (has_is k r q)

  pub below_more : Below (m + cond (is_fresh r && eqb r.fresh m) 1 0) (before ++ (r ∷ []))
  below_more = go (is_fresh r) refl
    where
      known : new ≡ false → Below (m + 0) more
      known e = record { there = λ k l. kept_number k (b.there k (omega arith)); only = λ k h. seen k (number_back k h) }
        where
          other : is_fresh r ≡ true → r.fresh ≢ m
          other f d = clash new (rw (f, eq-eqb r.fresh m d)) e

          seen : (k : ℕ) → (k < m) ⊎ ((is_fresh r ≡ true) × (k ≡ r.fresh)) → k < m + 0
          seen k (inl l) = omega arith
          seen k (inr (f, q)) = omega (arith, number_most f, other f)

      next : is_fresh r ≡ true → r.fresh ≡ m → Below (m + 1) more
      next f e = record { there = λ k l. there k (below-or_at k m (omega arith)); only = λ k h. seen k (number_back k h) }
        where
          there : (k : ℕ) → (k < m) ⊎ (k ≡ m) → member k (fresh_numbers more) ≡ true
          there k (inl l) = kept_number k (b.there k l)
          there k (inr q) = ap (λ (x : ℕ). member x (fresh_numbers more)) (q ∙ sym e) ∙ own_number f

          seen : (k : ℕ) → (k < m) ⊎ ((is_fresh r ≡ true) × (k ≡ r.fresh)) → k < m + 1
          seen k (inl l) = omega arith
          seen k (inr (g, q)) = omega arith

      two : is_fresh r ≡ true → (t : Bool) → eqb r.fresh m ≡ t → Below (m + cond t 1 0) more
      two f true e = next f (eqb-true r.fresh m e)
      two f false e = known (rw (f, e))

      go : (t : Bool) → is_fresh r ≡ t → Below (m + cond (t && eqb r.fresh m) 1 0) more
      go false f = known (rw f)
      go true f = two f (eqb r.fresh m) refl

  -- the width of a piece that was seen, and of the row's own
  pub kept_width : (k : ℕ) → k < m → fresh_width (before ++ (r ∷ [])) k ≡ fresh_width before k
  kept_width k l = piece-append k before (r ∷ []) ∙ rw (b.there k l)

  pub own_width : is_fresh r ≡ true → fresh_width (before ++ (r ∷ [])) r.fresh ≡ r.width
  own_width f = go (number_of f)
    where
      go : ((r.fresh < m) × (fresh_width before r.fresh ≡ r.width)) ⊎ (r.fresh ≡ m) → fresh_width more r.fresh ≡ r.width
      go (inl (l, e)) = kept_width r.fresh l ∙ e
      go (inr e) =
          piece-append r.fresh before (r ∷ []) ∙ rw (unseen m before b r.fresh (omega arith))
          (unfold fresh_width in rw (f, eq-eqb r.fresh r.fresh refl))
