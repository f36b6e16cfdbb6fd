-- The home of a piece: where its first row stands, and what is read back from what was written. Assumes nothing.
use mathlib.Core.Path.{◌≡◌, refl, sym, ◌∙◌, ap, ap₂}
use mathlib.Core.Bool.{Bool, true, false, ◌&&◌, cond}
use mathlib.Core.List.{List, [], ◌∷◌, ◌++◌, append_assoc}
use mathlib.Core.Logic.{◌⊎◌, inl, inr}
use Prim.Native.Nat.{ℕ, suc, ◌+◌, ◌-◌, ◌≤◌, ◌<◌}
use native.Mathlib.Omega.{arith}
use lib.Dec.{eqb}
use lib.ListN.{length, take, drop, length-append, length-drop}
use lib.Seq.{take_at, drop_at, drop-cons, split_at, get_or-drop}
use borrow.Author.Tests.{eqb-true, eq-eqb}
use Rattle.terms.specs.Table.{extract}
use Rattle.laws.specs.Lists.{least}
use Rattle.laws.proofs.Bools.{and_first, and_second, and_both, clash}
use Rattle.laws.proofs.Numbers.{lt_or_le}
use Rattle.laws.proofs.Least.{least_is, least_within, least-passed, least_found}
use Rattle.answers.specs.declared.AnswerRow.{AnswerRow}
use Rattle.answers.specs.Answer.{no_answer_row, answer_row_at, is_fresh, fresh_pieces, fresh_width, free_bits, row_bits, instantiate, width_in_rows, high_bit, home_row}
use Rattle.answers.specs.Homes.{FirstPlaces, WholePieces, side_bits_of, HomeHasBits, Untouched}
use Rattle.answers.proofs.AnswerNumbers.{rows_back}

module _ (rows : List AnswerRow) where
  abbrev at : ℕ → AnswerRow
  at = answer_row_at rows

  -- whether row i is of the fresh piece of row j
  abbrev pub of_piece : ℕ → ℕ → Bool
  of_piece j i = is_fresh (answer_row_at rows i) && eqb (answer_row_at rows i).fresh (answer_row_at rows j).fresh

  -- a fill is its own home
  pub home_fill : (j : ℕ) → is_fresh (answer_row_at rows j) ≡ false → home_row rows j ≡ j
  unfolding home_row
  home_fill j f = rw f

  -- the home row of a fresh row is of its piece, and no row before it is
  pub home_of : (j : ℕ) → is_fresh (answer_row_at rows j) ≡ true → of_piece j (home_row rows j) ≡ true
  unfolding home_row
  home_of j f = rw f (least_found (of_piece j) 0 j (let e : 0 + j ≡ j = omega arith in rw (e, f, eq-eqb (at j).fresh (at j).fresh refl)))

  pub before_not : (j i : ℕ) → is_fresh (answer_row_at rows j) ≡ true → i < home_row rows j → of_piece j i ≡ false
  unfolding home_row
  before_not j i f l = least-passed (of_piece j) 0 j i (omega arith) (rw f at l)

  -- it is not behind the row; and it is the row for which this holds
  pub home_le : (j : ℕ) → home_row rows j ≤ j
  unfolding home_row
  home_le j = go (is_fresh (at j))
    where
      go : (b : Bool) → cond b (least (of_piece j) 0 j) j ≤ j
      go true = omega (arith, (least_within (of_piece j) 0 j).1)
      go false = omega arith

  pub home_is : (j m : ℕ) → is_fresh (answer_row_at rows j) ≡ true → m ≤ j → of_piece j m ≡ true → ((i : ℕ) → i < m → of_piece j i ≡ false) → home_row rows j ≡ m
  unfolding home_row
  home_is j m f l t h = rw f (least_is (of_piece j) j 0 m (omega arith) (omega arith) t h)

  home_fresh : (j : ℕ) → is_fresh (at j) ≡ true → is_fresh (at (home_row rows j)) ≡ true
  home_fresh j f = and_first (is_fresh (at (home_row rows j))) _ (home_of j f)

  home_number : (j : ℕ) → is_fresh (at j) ≡ true → (at (home_row rows j)).fresh ≡ (at j).fresh
  home_number j f = eqb-true (at (home_row rows j)).fresh (at j).fresh (and_second (is_fresh (at (home_row rows j))) _ (home_of j f))

  -- The home row of a row.
  pub first-places : FirstPlaces rows
  first-places =
      record {
        home_fresh = home_fresh;
        home_number = home_number;
        none_before = λ j i f l g e.
            clash (of_piece j i) (and_both (is_fresh (at i)) (eqb (at i).fresh (at j).fresh) g (eq-eqb (at i).fresh (at j).fresh e)) (before_not j i f l);
        first_own = λ j f h. first j f h (lt_or_le (home_row rows j) j);
        fill_own = home_fill;
      }
    where
      first : (j : ℕ) → is_fresh (at j) ≡ true → ((i : ℕ) → i < j → is_fresh (at i) ≡ true → (at i).fresh ≡ (at j).fresh → ⊥)
          → (home_row rows j < j) ⊎ (j ≤ home_row rows j) → home_row rows j ≡ j
      first j f h (inl l) = absurd (h (home_row rows j) l (home_fresh j f) (home_number j f))
      first j f h (inr l) = omega (arith, home_le j)

-- The bits of a variable's rows are as many as these are wide.
module _ (rows : List AnswerRow) (f : List ℕ) (v : ℕ) where
  side_length : (rs : List AnswerRow) → ((j : ℕ) → j < length rs → length (row_bits rows f (answer_row_at rs j)) ≡ (answer_row_at rs j).width)
      → length (side_bits_of rows f v rs) ≡ width_in_rows rs v
  unfolding side_bits_of width_in_rows
  side_length [] h = refl
  side_length (r ∷ rs) h = go (eqb r.variable v) (side_length rs (λ j l. h (suc j) (omega arith)))
    where
      go : (b : Bool) → length (side_bits_of rows f v rs) ≡ width_in_rows rs v → length (cond b (row_bits rows f r) [] ++ side_bits_of rows f v rs) ≡ cond b r.width 0 + width_in_rows rs v
      go true e = omega (arith, length-append (row_bits rows f r) (side_bits_of rows f v rs), h 0 (omega arith))
      go false e = omega arith

  side_append : (xs ys : List AnswerRow) → side_bits_of rows f v (xs ++ ys) ≡ side_bits_of rows f v xs ++ side_bits_of rows f v ys
  unfolding side_bits_of
  side_append [] ys = refl
  side_append (x ∷ xs) ys =
      ap (λ (l : List ℕ). cond (eqb x.variable v) (row_bits rows f x) [] ++ l) (side_append xs ys)
      ∙ sym (append_assoc (cond (eqb x.variable v) (row_bits rows f x) []) (side_bits_of rows f v xs) (side_bits_of rows f v ys))

-- A row's home row has its bits, and these stand in their variable from bit high on.
module _ (rows : List AnswerRow) (f : List ℕ) (W : WholePieces rows f) (j : ℕ) (l : j < length rows) where
  abbrev h : ℕ
  h = home_row rows j

  abbrev row : AnswerRow
  row = answer_row_at rows (home_row rows j)

  home-in : h < length rows
  home-in = omega (arith, home_le rows j)

  pub same_width : (answer_row_at rows (home_row rows j)).width ≡ (answer_row_at rows j).width
  same_width = go (is_fresh (answer_row_at rows j)) refl
    where
      go : (b : Bool) → is_fresh (answer_row_at rows j) ≡ b → row.width ≡ (answer_row_at rows j).width
      go true e =
          sym (W.one_width h home-in ((first-places rows).home_fresh j e))
          ∙ ap (fresh_width rows) ((first-places rows).home_number j e)
          ∙ W.one_width j l e
      go false e = ap (λ (i : ℕ). (answer_row_at rows i).width) (home_fill rows j e)

  pub same_bits : row_bits rows f (answer_row_at rows j) ≡ row_bits rows f (answer_row_at rows (home_row rows j))
  same_bits = go (is_fresh (answer_row_at rows j)) refl
    where
      go : (b : Bool) → is_fresh (answer_row_at rows j) ≡ b → row_bits rows f (answer_row_at rows j) ≡ row_bits rows f row
      go true e = unfold row_bits in rw (e, (first-places rows).home_fresh j e, same_width, (first-places rows).home_number j e)
      go false e = ap (λ (i : ℕ). row_bits rows f (answer_row_at rows i)) (sym (home_fill rows j e))

  abbrev v : ℕ
  v = (answer_row_at rows (home_row rows j)).variable

  abbrev later : List AnswerRow
  later = drop (suc (home_row rows j)) rows

  -- the rows before the home row, itself, and those behind it
  parts : side_bits_of rows f v rows ≡ side_bits_of rows f v (take h rows) ++ (row_bits rows f row ++ side_bits_of rows f v later)
  parts =
      ap (side_bits_of rows f v) (split_at rows h no_answer_row home-in)
      ∙ side_append rows f v (take h rows) (row ∷ later)
      ∙ ap (λ (x : List ℕ). side_bits_of rows f v (take h rows) ++ x) (unfold side_bits_of in rw (eq-eqb v v refl))

  sized_later : (i : ℕ) → i < length later → length (row_bits rows f (answer_row_at later i)) ≡ (answer_row_at later i).width
  sized_later i q = rw (get_or-drop (suc h) rows i no_answer_row) (W.enough (suc h + i) (omega (arith, length-drop (suc h) rows)))

  -- the home row's highest bit: its own bits and those behind it
  high_is : high_bit rows h + 1 ≡ row.width + width_in_rows later v
  unfolding high_bit
  high_is =
      let d : width_in_rows (drop h rows) v ≡ width_in_rows (row ∷ later) v = ap (λ (xs : List AnswerRow). width_in_rows xs v) (drop-cons rows h no_answer_row home-in) in
      let g : width_in_rows (row ∷ later) v ≡ row.width + width_in_rows later v = unfold width_in_rows in rw (eq-eqb v v refl) in
      omega (arith, W.wide h home-in)

  -- The home has the piece.
  pub home_has_bits : HomeHasBits rows f j
  unfolding extract
  home_has_bits =
      same_bits
      ∙ sym (take_at (row_bits rows f row) (side_bits_of rows f v later) (answer_row_at rows j).width (W.enough h home-in ∙ same_width))
      ∙ ap (take (answer_row_at rows j).width) (sym (drop_at (side_bits_of rows f v (take h rows)) (row_bits rows f row ++ side_bits_of rows f v later) skip skip_is))
      ∙ ap (λ (x : List ℕ). take (answer_row_at rows j).width (drop skip x)) (sym parts)
      ∙ ap (λ (w : ℕ). take w (drop skip (side_bits_of rows f v rows))) (sym wide_is)
    where
      skip : ℕ
      skip = length (side_bits_of rows f v rows) - (high_bit rows h + 1)

      all : length (side_bits_of rows f v rows) ≡ length (side_bits_of rows f v (take h rows)) + (row.width + width_in_rows later v)
      all =
          ap length parts
          ∙ length-append (side_bits_of rows f v (take h rows)) (row_bits rows f row ++ side_bits_of rows f v later)
          ∙ ap (λ (n : ℕ). length (side_bits_of rows f v (take h rows)) + n)
          (length-append (row_bits rows f row) (side_bits_of rows f v later) ∙ ap₂ ◌+◌ (W.enough h home-in) (side_length rows f v later sized_later))

      skip_is : length (side_bits_of rows f v (take h rows)) ≡ skip
      skip_is = omega (arith, all, high_is)

      wide_is : high_bit rows h + 1 - (high_bit rows h + 1 - (answer_row_at rows j).width) ≡ (answer_row_at rows j).width
      wide_is = omega (arith, high_is, same_width)

-- Solutions are untouched.
pub untouched : (rows : List AnswerRow) → Untouched rows
untouched rows =
    record {
      patterns = λ f. ap (λ (l : List AnswerRow). instantiate l f) (rows_back rows);
      bits = ap free_bits (rows_back rows);
      pieces = ap fresh_pieces (rows_back rows);
    }
