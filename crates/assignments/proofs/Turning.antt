-- The rows of an answer read last first: what is asked of a row behind those before it.
use mathlib.Core.Path.{◌≡◌, refl, sym, ap, ◌∙◌}
use mathlib.Core.Logic.{◌⊎◌, inl, inr, ◌≢◌}
use mathlib.Core.Bool.{Bool, true, false, not, ◌&&◌, ◌||◌, or-true, or-false}
use mathlib.Core.List.{List, [], ◌∷◌, ◌++◌, reverse, reverse_aux, reverse-cons}
use Prim.Native.Nat.{ℕ, suc, ◌+◌, ◌≤◌, ◌<◌}
use native.Mathlib.Omega.{arith}
use lib.Dec.{eqb, ltb}
use borrow.Author.Tests.{eqb-true, eq-eqb, lt-ltb}
use Rattle.answers.specs.declared.AnswerRow.{AnswerRow}
use Rattle.answers.specs.Answer.{is_fresh, fresh_numbers, fresh_width, width_in_rows}
use Rattle.laws.specs.Lists.{member}
use Rattle.laws.proofs.Bools.{and_both, or_shared}
use Rattle.laws.proofs.Numbers.{lt_or_le}
use Rattle.assignments.specs.Form.{variable_fine, kind_fine, width_fine, variable_wide, pattern_bits, pattern_wide, fill_fine, neighbours_fine, lowest_unseen, fresh_fine, row_fine, rows_fine}
use Rattle.assignments.proofs.FreshPieces.{has, has_more, Below, lowest_is}

-- Rows that stand last first, each fine behind those before it.
abbrev pub FineBack : List AnswerRow → Type 0
FineBack [] = Unit {0}
FineBack (r ∷ before) = (row_fine (reverse before) r ≡ true) × FineBack before

fine_turned : (xs ys : List AnswerRow) → FineBack xs → rows_fine (reverse xs) ys ≡ true → rows_fine [] (reverse_aux xs ys) ≡ true
unfolding rows_fine
fine_turned [] ys h k = k
fine_turned (x ∷ xs) ys h k =
    fine_turned xs (x ∷ ys) h.1
    (and_both (row_fine (reverse xs) x) (rows_fine (reverse xs ++ (x ∷ [])) ys) h.0 (ap (λ (l : List AnswerRow). rows_fine l ys) (sym (reverse-cons x xs)) ∙ k))

pub fine_rows : (xs : List AnswerRow) → FineBack xs → rows_fine [] (reverse xs) ≡ true
unfolding rows_fine
fine_rows xs h = fine_turned xs [] h refl

-- sums and numbers of rows that are turned round
in_turned : (v : ℕ) (xs ys : List AnswerRow) → width_in_rows (reverse_aux xs ys) v ≡ width_in_rows xs v + width_in_rows ys v
unfolding width_in_rows
in_turned v [] ys = omega arith
in_turned v (x ∷ xs) ys = in_turned v xs (x ∷ ys) ∙ omega arith

bits_turned : (xs ys : List AnswerRow) → pattern_bits (reverse_aux xs ys) ≡ pattern_bits xs + pattern_bits ys
unfolding pattern_bits
bits_turned [] ys = omega arith
bits_turned (x ∷ xs) ys = bits_turned xs (x ∷ ys) ∙ omega arith

in_reverse : (v : ℕ) (xs : List AnswerRow) → width_in_rows (reverse xs) v ≡ width_in_rows xs v
in_reverse v xs = in_turned v xs [] ∙ unfold width_in_rows in omega arith

pub bits_reverse : (xs : List AnswerRow) → pattern_bits (reverse xs) ≡ pattern_bits xs
bits_reverse xs = bits_turned xs [] ∙ unfold pattern_bits in omega arith

numbers_turned : (k : ℕ) (xs ys : List AnswerRow) → member k (fresh_numbers (reverse_aux xs ys)) ≡ member k (fresh_numbers xs) || member k (fresh_numbers ys)
numbers_turned k [] ys = unfold fresh_numbers member in refl
numbers_turned k (x ∷ xs) ys =
    numbers_turned k xs (x ∷ ys)
    ∙ ap (λ (b : Bool). member k (fresh_numbers xs) || b) (has_more k x ys)
    ∙ sym (or_shared (has k x) (member k (fresh_numbers xs)) (member k (fresh_numbers ys)))
    ∙ ap (λ (b : Bool). b || member k (fresh_numbers ys)) (sym (has_more k x xs))

pub numbers_reverse : (k : ℕ) (xs : List AnswerRow) → member k (fresh_numbers (reverse xs)) ≡ member k (fresh_numbers xs)
numbers_reverse k xs = numbers_turned k xs [] ∙ unfold fresh_numbers member in or-false (member k (fresh_numbers xs))

-- the row before
pub variable_after : (xs : List AnswerRow) (s r : AnswerRow)
    → variable_fine (xs ++ (s ∷ [])) r ≡ (eqb r.variable s.variable || eqb r.variable (suc s.variable)) && ltb r.variable 64
unfolding variable_fine
variable_after [] s r = refl
variable_after (x ∷ []) s r = refl
variable_after (x ∷ y ∷ xs) s r = variable_after (y ∷ xs) s r

pub neighbours_after : (xs : List AnswerRow) (s r : AnswerRow)
    → neighbours_fine (xs ++ (s ∷ [])) r ≡ is_fresh r || is_fresh s || not (eqb s.variable r.variable) || not (eqb s.kind r.kind)
unfolding neighbours_fine
neighbours_after [] s r = refl
neighbours_after (x ∷ []) s r = refl
neighbours_after (x ∷ y ∷ xs) s r = neighbours_after (y ∷ xs) s r

-- Variable v may follow the rows; a row of this variable, kind and freshness may stand behind them.
abbrev pub Follows : List AnswerRow → ℕ → Type 0
Follows [] v = v ≡ 0
Follows (s ∷ before) v = (v ≡ s.variable) ⊎ (v ≡ suc s.variable)

abbrev pub Differs : List AnswerRow → AnswerRow → Type 0
Differs [] r = Unit {0}
Differs (s ∷ before) r = is_fresh r ≡ false → is_fresh s ≡ false → s.variable ≡ r.variable → s.kind ≢ r.kind

variable-fine : (before : List AnswerRow) (r : AnswerRow) → Follows before r.variable → r.variable < 64 → variable_fine (reverse before) r ≡ true
variable-fine [] r f l = unfold variable_fine in eq-eqb r.variable 0 f
variable-fine (s ∷ before) r f l =
    ap (λ (b : List AnswerRow). variable_fine b r) (reverse-cons s before) ∙ variable_after (reverse before) s r
    ∙ and_both (eqb r.variable s.variable || eqb r.variable (suc s.variable)) (ltb r.variable 64) (go f) (lt-ltb r.variable 64 l)
  where
    go : (r.variable ≡ s.variable) ⊎ (r.variable ≡ suc s.variable) → eqb r.variable s.variable || eqb r.variable (suc s.variable) ≡ true
    go (inl e) = rw (eq-eqb r.variable s.variable e)
    go (inr e) = rw (eq-eqb r.variable (suc s.variable) e) (or-true (eqb r.variable s.variable))

neighbours-fine : (before : List AnswerRow) (r : AnswerRow) → Differs before r → neighbours_fine (reverse before) r ≡ true
neighbours-fine [] r d = unfold neighbours_fine in refl
neighbours-fine (s ∷ before) r d =
    ap (λ (b : List AnswerRow). neighbours_fine b r) (reverse-cons s before) ∙ neighbours_after (reverse before) s r
    ∙ go (is_fresh r) (is_fresh s) (eqb s.variable r.variable) (eqb s.kind r.kind) refl refl refl refl
  where
    go : (a b c e : Bool) → is_fresh r ≡ a → is_fresh s ≡ b → eqb s.variable r.variable ≡ c → eqb s.kind r.kind ≡ e → a || b || not c || not e ≡ true
    go true b c e p q u v = refl
    go false true c e p q u v = refl
    go false false false e p q u v = refl
    go false false true false p q u v = refl
    go false false true true p q u v = absurd (d p q (eqb-true s.variable r.variable u) (eqb-true s.kind r.kind v))

lowest-unseen : (m : ℕ) (before : List AnswerRow) → Below m before → lowest_unseen (reverse before) ≡ m
lowest-unseen m before b =
    lowest_is m (reverse before)
    (record { there = λ k l. numbers_reverse k before ∙ b.there k l; only = λ k h. b.only k (sym (numbers_reverse k before) ∙ h) })

-- What makes a row fine behind those before it, which stand last first.
pub record Behind (before : List AnswerRow) (r : AnswerRow) : Type 0 where
  pub follows : Follows before r.variable
  pub low_variable : r.variable < 64
  pub low_kind : r.kind < 3
  pub wide : 1 ≤ r.width
  pub in_variable : width_in_rows before r.variable + r.width ≤ 1024
  pub in_all : pattern_bits before + r.width ≤ 4096
  pub fill_number : is_fresh r ≡ false → r.fresh ≡ 0
  pub differs : Differs before r
  pub seen : ℕ
  pub seen_are : Below seen before
  pub at_most : is_fresh r ≡ true → r.fresh ≤ seen
  pub same_width : is_fresh r ≡ true → r.fresh < seen → fresh_width (reverse before) r.fresh ≡ r.width

fill-fine : (r : AnswerRow) → (is_fresh r ≡ false → r.fresh ≡ 0) → fill_fine r ≡ true
unfolding fill_fine
fill-fine r h = go (is_fresh r) refl
  where
    go : (t : Bool) → is_fresh r ≡ t → t || eqb r.fresh 0 ≡ true
    go true e = refl
    go false e = eq-eqb r.fresh 0 (h e)

fresh-fine : (before : List AnswerRow) (r : AnswerRow) → Behind before r → fresh_fine (reverse before) r ≡ true
unfolding fresh_fine
fresh-fine before r b = go (is_fresh r) refl (lt_or_le r.fresh b.seen)
  where
    go : (t : Bool) → is_fresh r ≡ t → (r.fresh < b.seen) ⊎ (b.seen ≤ r.fresh)
        → not t || (member r.fresh (fresh_numbers (reverse before)) && eqb (fresh_width (reverse before) r.fresh) r.width) || eqb r.fresh (lowest_unseen (reverse before)) ≡ true
    go false e d = refl
    go true e (inl d) = rw (numbers_reverse r.fresh before, b.seen_are.there r.fresh d, eq-eqb (fresh_width (reverse before) r.fresh) r.width (b.same_width e d))
    go true e (inr d) =
        let q : r.fresh ≡ lowest_unseen (reverse before) = omega (arith, b.at_most e, lowest-unseen b.seen before b.seen_are) in
        rw (eq-eqb r.fresh (lowest_unseen (reverse before)) q) (or-true (member r.fresh (fresh_numbers (reverse before)) && eqb (fresh_width (reverse before) r.fresh) r.width))

pub behind_fine : (before : List AnswerRow) (r : AnswerRow) → Behind before r → row_fine (reverse before) r ≡ true
unfolding row_fine kind_fine width_fine variable_wide pattern_wide
behind_fine before r b =
    rw (
      variable-fine before r b.follows b.low_variable,
      lt-ltb r.kind 3 b.low_kind,
      lt-ltb 0 r.width b.wide,
      lt-ltb (width_in_rows (reverse before) r.variable + r.width) 1025 (omega (arith, in_reverse r.variable before, b.in_variable)),
      lt-ltb (pattern_bits (reverse before) + r.width) 4097 (omega (arith, bits_reverse before, b.in_all)),
      fill-fine r b.fill_number,
      neighbours-fine before r b.differs,
    ) (fresh-fine before r b)
