-- Where the bits of a variable and of a row begin in a pattern, for rows whose variables do not fall. Assumes nothing.
use mathlib.Core.Path.{◌≡◌, refl, sym, ap, ◌∙◌}
use mathlib.Core.Bool.{Bool, cond}
use mathlib.Core.Logic.{◌⊎◌, inl, inr, ◌≢◌}
use mathlib.Core.List.{List, [], ◌∷◌, ◌++◌}
use Prim.Native.Nat.{ℕ, zero, suc, ◌+◌, ◌≤◌, ◌<◌}
use native.Mathlib.Omega.{arith}
use lib.Dec.{eqb, ltb}
use lib.ListN.{length, take, drop, take-append-drop, length-take, length-drop}
use lib.Seq.{get_or-take, get_or-drop, take-suc, drop-cons}
use borrow.Author.Tests.{eq-eqb, ne_eqb, lt-ltb, le-ltb}
use Rattle.laws.proofs.Bools.{cond_most}
use Rattle.laws.proofs.Numbers.{lt_or_le, dec_eq}
use Rattle.answers.specs.declared.AnswerRow.{AnswerRow}
use Rattle.answers.specs.Answer.{no_answer_row, answer_row_at, width_in_rows}
use Rattle.answers.specs.inner.Orderly.{Ordered}
use Rattle.assignments.specs.Form.{pattern_bits}
use Rattle.assignments.specs.Homes.{variable_start}

-- sums over two parts of the rows
pub bits_append : (xs ys : List AnswerRow) → pattern_bits (xs ++ ys) ≡ pattern_bits xs + pattern_bits ys
unfolding pattern_bits
bits_append [] ys = omega arith
bits_append (x ∷ xs) ys = omega (arith, bits_append xs ys)

pub bits_parts : (j : ℕ) (rows : List AnswerRow) → pattern_bits rows ≡ pattern_bits (take j rows) + pattern_bits (drop j rows)
bits_parts j rows = ap pattern_bits (sym (take-append-drop j rows)) ∙ bits_append (take j rows) (drop j rows)

pub bits_next : (rows : List AnswerRow) (j : ℕ) → j < length rows → pattern_bits (take (suc j) rows) ≡ pattern_bits (take j rows) + (answer_row_at rows j).width
unfolding pattern_bits
bits_next rows j l = ap pattern_bits (take-suc rows j no_answer_row l) ∙ bits_append (take j rows) (answer_row_at rows j ∷ []) ∙ omega arith

-- a variable has no more bits than all
pub in_variable : (rows : List AnswerRow) (v : ℕ) → width_in_rows rows v ≤ pattern_bits rows
unfolding width_in_rows pattern_bits
in_variable [] v = omega arith
in_variable (r ∷ rows) v = omega (arith, in_variable rows v, cond_most (eqb r.variable v) r.width)

pub width_append : (xs ys : List AnswerRow) (v : ℕ) → width_in_rows (xs ++ ys) v ≡ width_in_rows xs v + width_in_rows ys v
unfolding width_in_rows
width_append [] ys v = omega arith
width_append (x ∷ xs) ys v = omega (arith, width_append xs ys v)

start_append : (xs ys : List AnswerRow) (v : ℕ) → variable_start (xs ++ ys) v ≡ variable_start xs v + variable_start ys v
unfolding variable_start
start_append xs ys zero = refl
start_append xs ys (suc v) = omega (arith, start_append xs ys v, width_append xs ys v)

-- one row before others
step : (a m w : ℕ) → cond (ltb a (suc m)) w 0 ≡ cond (ltb a m) w 0 + cond (eqb a m) w 0
step a m w = go (lt_or_le a m) (dec_eq a m)
  where
    go : (a < m) ⊎ (m ≤ a) → (a ≡ m) ⊎ (a ≢ m) → cond (ltb a (suc m)) w 0 ≡ cond (ltb a m) w 0 + cond (eqb a m) w 0
    go (inl l) d = rw (lt-ltb a (suc m) (omega arith), lt-ltb a m l, ne_eqb a m (omega arith)) (omega arith)
    go (inr l) (inl e) = rw (lt-ltb a (suc m) (omega arith), le-ltb a m l, eq-eqb a m e) (omega arith)
    go (inr l) (inr n) = rw (le-ltb a (suc m) (omega arith), le-ltb a m l, ne_eqb a m n) (omega arith)

start_cons : (r : AnswerRow) (xs : List AnswerRow) (m : ℕ) → variable_start (r ∷ xs) m ≡ cond (ltb r.variable m) r.width 0 + variable_start xs m
unfolding variable_start width_in_rows
start_cons r xs zero = rw (le-ltb r.variable 0 (omega arith)) refl
start_cons r xs (suc m) = omega (arith, start_cons r xs m, step r.variable m r.width)

start_empty : (m : ℕ) → variable_start [] m ≡ 0
unfolding variable_start width_in_rows
start_empty zero = refl
start_empty (suc m) = omega (arith, start_empty m)

-- the widths of the variables below m: of all the rows, of none of them, or of some
start_all : (m : ℕ) (xs : List AnswerRow) → ((i : ℕ) → i < length xs → (answer_row_at xs i).variable < m) → variable_start xs m ≡ pattern_bits xs
unfolding pattern_bits
start_all m [] h = start_empty m
start_all m (x ∷ xs) h =
    start_cons x xs m
    ∙ ap (λ (b : Bool). cond b x.width 0 + variable_start xs m) (lt-ltb x.variable m (h 0 (omega arith)))
    ∙ ap (λ (n : ℕ). x.width + n) (start_all m xs (λ i l. h (suc i) (omega arith)))

start_none : (m : ℕ) (xs : List AnswerRow) → ((i : ℕ) → i < length xs → m ≤ (answer_row_at xs i).variable) → variable_start xs m ≡ 0
start_none m [] h = start_empty m
start_none m (x ∷ xs) h =
    start_cons x xs m
    ∙ ap (λ (b : Bool). cond b x.width 0 + variable_start xs m) (le-ltb x.variable m (h 0 (omega arith)))
    ∙ omega (arith, start_none m xs (λ i l. h (suc i) (omega arith)))

pub start_most : (m : ℕ) (xs : List AnswerRow) → variable_start xs m ≤ pattern_bits xs
unfolding pattern_bits
start_most m [] = omega (arith, start_empty m)
start_most m (x ∷ xs) = omega (arith, start_cons x xs m, cond_most (ltb x.variable m) x.width, start_most m xs)

module _ (rows : List AnswerRow) (ordered : Ordered rows) (h : ℕ) (l : h < length rows) where
  abbrev v : ℕ
  v = (answer_row_at rows h).variable

  -- the widths of row h's variable before it and from it on
  pub width_parts : width_in_rows rows (answer_row_at rows h).variable
      ≡ width_in_rows (take h rows) (answer_row_at rows h).variable + width_in_rows (drop h rows) (answer_row_at rows h).variable
  width_parts = ap (λ (xs : List AnswerRow). width_in_rows xs v) (sym (take-append-drop h rows)) ∙ width_append (take h rows) (drop h rows) v

  -- from it on at least its own
  pub on_wide : (answer_row_at rows h).width ≤ width_in_rows (drop h rows) (answer_row_at rows h).variable
  on_wide =
      let e : width_in_rows (drop h rows) v ≡ width_in_rows (answer_row_at rows h ∷ drop (suc h) rows) v = ap (λ (xs : List AnswerRow). width_in_rows xs v) (drop-cons rows h no_answer_row l) in
      let g : width_in_rows (answer_row_at rows h ∷ drop (suc h) rows) v ≡ (answer_row_at rows h).width + width_in_rows (drop (suc h) rows) v = unfold width_in_rows in rw (eq-eqb v v refl) in
      omega (arith, e, g)

  taken : (i : ℕ) → i < length (take h rows) → (answer_row_at (take h rows) i).variable < suc v
  taken i q =
      let k : i < h = omega (arith, length-take h rows) in
      omega (arith, ap (λ (r : AnswerRow). r.variable) (get_or-take h rows i no_answer_row k), ordered i h (omega arith) l)

  left : (i : ℕ) → i < length (drop h rows) → v ≤ (answer_row_at (drop h rows) i).variable
  left i q =
      omega (arith, ap (λ (r : AnswerRow). r.variable) (get_or-drop h rows i no_answer_row), ordered h (h + i) (omega arith) (omega (arith, length-drop h rows)))

  -- the bits of its variable begin so much before its own
  pub row_start : pattern_bits (take h rows) ≡ variable_start rows (answer_row_at rows h).variable + width_in_rows (take h rows) (answer_row_at rows h).variable
  row_start =
      let e : variable_start (take h rows) (suc v) ≡ variable_start (take h rows) v + width_in_rows (take h rows) v = unfold variable_start in refl in
      let f : variable_start rows v ≡ variable_start (take h rows) v + variable_start (drop h rows) v =
      ap (λ (xs : List AnswerRow). variable_start xs v) (sym (take-append-drop h rows)) ∙ start_append (take h rows) (drop h rows) v in
      omega (arith, start_all (suc v) (take h rows) taken, start_none v (drop h rows) left)

  pub variable_within : variable_start rows (answer_row_at rows h).variable + width_in_rows rows (answer_row_at rows h).variable ≤ pattern_bits rows
  variable_within =
      let e : variable_start rows (suc v) ≡ variable_start rows v + width_in_rows rows v = unfold variable_start in refl in
      omega (arith, start_most (suc v) rows)
