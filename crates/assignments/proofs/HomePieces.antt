-- In a table of the form the home of a row has its piece, and the first four numbers of each row decide the others. Assumes nothing.
use mathlib.Core.Path.{◌≡◌, refl, sym, ap, ap₂, ◌∙◌}
use mathlib.Core.Bool.{Bool, true, false, cond}
use mathlib.Core.List.{List, [], ◌∷◌, ◌++◌}
use Prim.Native.Nat.{ℕ, zero, suc, ◌+◌, ◌-◌, ◌*◌, ◌≤◌, ◌<◌}
use native.Mathlib.Omega.{arith}
use lib.ListN.{length, get_or, take, drop, replicate, length-append, length-drop, length-replicate}
use lib.Seq.{length-take-le, take_at, take-take, drop-drop, drop-append-add}
use Rattle.laws.proofs.Lists.{drop-take}
use Rattle.terms.specs.Table.{extract}
use Rattle.answers.specs.declared.AnswerRow.{AnswerRow}
use Rattle.answers.specs.Answer.{answer_row_at, is_fresh, fresh_start, free_bits, row_bits, bits_of_rows, instantiate, width_in_rows, high_bit, home_row, answer_row_numbers, answer_numbers, answer_rows_of}
use Rattle.answers.proofs.AnswerNumbers.{number_at}
use Rattle.answers.specs.Homes.{WholePieces}
use Rattle.answers.proofs.Homes.{home_le, same_width, same_bits}
use Rattle.assignments.specs.Form.{pattern_bits}
use Rattle.assignments.specs.Homes.{variable_start, variable_bits, bits_at, home_at, high_at, HomeHasPiece, FourDecide}
use Rattle.assignments.proofs.VariableBits.{width_parts, on_wide, row_start, variable_within}
use Rattle.assignments.proofs.FormFacts.{Formed, formed_rows, piece_within, parts}

-- The bits of rows, where each row has as many as it is wide.
module _ (rows : List AnswerRow) (f : List ℕ) where
  abbrev Sized : List AnswerRow → Type 0
  Sized rs = (j : ℕ) → j < length rs → length (row_bits rows f (answer_row_at rs j)) ≡ (answer_row_at rs j).width

  bits_length : (rs : List AnswerRow) → Sized rs → length (bits_of_rows rows f rs) ≡ pattern_bits rs
  unfolding bits_of_rows pattern_bits
  bits_length [] h = refl
  bits_length (r ∷ rs) h =
      length-append (row_bits rows f r) (bits_of_rows rows f rs) ∙ omega (arith, h 0 (omega arith), bits_length rs (λ j l. h (suc j) (omega arith)))

  bits-of : (rs : List AnswerRow) → Sized rs → (j : ℕ) → j < length rs
      → take (answer_row_at rs j).width (drop (pattern_bits (take j rs)) (bits_of_rows rows f rs)) ≡ row_bits rows f (answer_row_at rs j)
  unfolding bits_of_rows pattern_bits
  bits-of [] h j l = absurd (omega arith)
  bits-of (r ∷ rs) h zero l = take_at (row_bits rows f r) (bits_of_rows rows f rs) r.width (h 0 (omega arith))
  bits-of (r ∷ rs) h (suc j) l =
      let e : r.width + pattern_bits (take j rs) ≡ length (row_bits rows f r) + pattern_bits (take j rs) = omega (arith, h 0 (omega arith)) in
      ap (λ (n : ℕ). take (answer_row_at rs j).width (drop n (row_bits rows f r ++ bits_of_rows rows f rs))) e
      ∙ ap (take (answer_row_at rs j).width) (drop-append-add (row_bits rows f r) (bits_of_rows rows f rs) (pattern_bits (take j rs)))
      ∙ bits-of rs (λ i q. h (suc i) (omega arith)) j (omega arith)

-- Rows of the form.
module _ (rows : List AnswerRow) (F : Formed rows) (f : List ℕ) (enough : length f ≡ free_bits rows) where
  abbrev at : ℕ → AnswerRow
  at = answer_row_at rows

  abbrev p : List ℕ
  p = instantiate rows f

  -- each row has as many bits as it is wide: those of a fresh piece are among the fresh bits
  row_sized : Sized rows f rows
  unfolding row_bits
  row_sized j l = go (is_fresh (at j)) refl
    where
      go : (b : Bool) → is_fresh (at j) ≡ b
          → length (cond b (take (at j).width (drop (fresh_start rows (at j).fresh) f)) (replicate (at j).width (at j).kind)) ≡ (at j).width
      go true e =
          length-take-le (at j).width (drop (fresh_start rows (at j).fresh) f)
          (omega (arith, length-drop (fresh_start rows (at j).fresh) f, piece_within rows F j l e))
      go false e = length-replicate (at j).width (at j).kind

  whole : WholePieces rows f
  whole = record { one_width = F.widths; enough = row_sized; wide = F.wide }

  pattern_length : length p ≡ pattern_bits rows
  unfolding instantiate
  pattern_length = bits_length rows f rows row_sized

  row-bits : (j : ℕ) → j < length rows → bits_at rows j p ≡ row_bits rows f (at j)
  unfolding instantiate bits_at
  row-bits j l = bits-of rows f rows row_sized j l

  module _ (j : ℕ) (l : j < length rows) where
    abbrev h : ℕ
    h = home_row rows j

    home-in : h < length rows
    home-in = omega (arith, home_le rows j)

    -- the row and its home row have the same bits
    width_same : (at h).width ≡ (at j).width
    width_same = same_width rows f whole j l

    bits_same : row_bits rows f (at j) ≡ row_bits rows f (at h)
    bits_same = same_bits rows f whole j l

    -- the home row within its variable: so many bits before it, and from it on
    abbrev v : ℕ
    v = (at h).variable

    abbrev before : ℕ
    before = width_in_rows (take h rows) v

    abbrev on : ℕ
    on = width_in_rows (drop h rows) v

    on_here : (at h).width ≤ on
    on_here = on_wide rows F.ordered h home-in

    high_on : high_bit rows h + 1 ≡ on
    high_on = let e : high_bit rows h ≡ on - 1 = unfold high_bit in refl in omega (arith, on_here, F.wide h home-in)

    variable_is : variable_bits rows v p ≡ take (on + before) (drop (variable_start rows v) p)
    unfolding variable_bits
    variable_is = let e : width_in_rows rows v ≡ on + before = omega (arith, width_parts rows F.ordered h home-in) in ap (λ (n : ℕ). take n (drop (variable_start rows v) p)) e

    variable_length : length (variable_bits rows v p) ≡ on + before
    variable_length =
        ap length variable_is
        ∙ length-take-le (on + before) (drop (variable_start rows v) p)
        (omega (
          arith,
          length-drop (variable_start rows v) p,
          pattern_length,
          variable_within rows F.ordered h home-in,
          width_parts rows F.ordered h home-in,
        ))

    -- The bits of the row are those of its variable home from bit high on.
    home_bits : bits_at rows j p ≡ extract (variable_bits rows v p) (high_bit rows h) (high_bit rows h + 1 - (at j).width)
    home_bits =
        row-bits j l ∙ bits_same ∙ sym (row-bits h home-in) ∙ found ∙ sym cut
      where
        found : bits_at rows h p ≡ take (at j).width (drop (variable_start rows v + before) p)
        found = unfold bits_at in ap₂ (λ (w n : ℕ). take w (drop n p)) width_same (row_start rows F.ordered h home-in)

        wide : high_bit rows h + 1 - (high_bit rows h + 1 - (at j).width) ≡ (at j).width
        wide = omega (arith, high_on, on_here, width_same)

        skip : length (variable_bits rows v p) - (high_bit rows h + 1) ≡ before
        skip = omega (arith, variable_length, high_on)

        cut : extract (variable_bits rows v p) (high_bit rows h) (high_bit rows h + 1 - (at j).width) ≡ take (at j).width (drop (variable_start rows v + before) p)
        cut =
            unfold extract in (ap₂ (λ (w n : ℕ). take w (drop n (variable_bits rows v p))) wide skip
            ∙ ap (λ (x : List ℕ). take (at j).width (drop before x)) variable_is
            ∙ ap (take (at j).width) (drop-take before on (drop (variable_start rows v) p))
            ∙ take-take (at j).width on (drop before (drop (variable_start rows v) p)) (omega (arith, on_here, width_same))
            ∙ ap (take (at j).width) (drop-drop before (variable_start rows v) p))

-- The home has the piece.
pub home_has-piece : HomeHasPiece
home_has-piece t h f enough j l =
    rw (home, high) (home_bits (answer_rows_of t) (formed_rows (answer_rows_of t) (parts t h).rows-fine) f enough j l)
  where
    number : (i : ℕ) → i < 6 → get_or t (j * 6 + i) 0 ≡ get_or (answer_row_numbers (answer_rows_of t) j) i 0
    number i q = ap (λ (x : List ℕ). get_or x (j * 6 + i) 0) (sym (parts t h).numbers_are) ∙ number_at (answer_rows_of t) j i l q

    home : home_at t j ≡ (answer_row_at (answer_rows_of t) (home_row (answer_rows_of t) j)).variable
    home = number 4 (omega arith) ∙ (unfold answer_row_numbers in refl)

    high : high_at t j ≡ high_bit (answer_rows_of t) (home_row (answer_rows_of t) j)
    high = number 5 (omega arith) ∙ (unfold answer_row_numbers in refl)

-- The first four numbers of each row decide the others.
pub four_decide : FourDecide
four_decide t u h k e = sym (parts t h).numbers_are ∙ ap answer_numbers e ∙ (parts u k).numbers_are
