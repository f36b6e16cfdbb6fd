-- The rows of a run that a buffer holds, put one after the other, are their numbers at its beginning; and a table of more
-- than 512 rows has the same fault however many rows of it are read. Assumes nothing.
use mathlib.Core.Path.{◌≡◌, refl, sym, ◌∙◌, ap}
use mathlib.Core.Bool.{Bool, true, false, cond}
use mathlib.Core.List.{List, [], ◌∷◌, ◌++◌}
use mathlib.Core.Logic.{◌⊎◌, inl, inr}
use Prim.Native.Nat.{ℕ, ◌+◌, ◌*◌, ◌/◌, ◌%◌, ◌<◌, ◌≤◌}
use native.Mathlib.Omega.{arith}
use native.Mathlib.Numerals.{add-one}
use lib.Dec.{ltb}
use lib.ListN.{length, get_or, take, drop}
use lib.Seq.{take-suc, take_at, length-take-le, take_all}
use borrow.Author.Tests.{lt-ltb, ltb-true, ltb-false}
use Rattle.terms.specs.declared.Row.{Row}
use Rattle.std.specs.Prelude.{Err}
use Rattle.terms.specs.declared.Fault.TheVariants.{Shape}
use Rattle.terms.specs.Table.{no_row, rows_of}
use Rattle.laws.specs.Buffers.{overwrite}
use Rattle.terms.specs.Faults.{breaks11, first_fault}
use Rattle.laws.proofs.Numbers.{lt_or_le}
use Rattle.laws.proofs.Buffers.{overwrite-length, overwrite-fits, four_more}
use Rattle.terms.specs.Table.{row_numbers}
use Rattle.rows.specs.inner.Held.{put_row}
use Rattle.terms.proofs.RowNumbers.{row_numbers_append, row_numbers_length}
use Rattle.terms.proofs.RowNumbers.{rows_written}
use Rattle.rows.specs.inner.Held.{held, fitting, put_whole, area_numbers}

-- ---- how many rows a buffer holds
pub fitting_rows : (n room : ℕ) → fitting n room ≤ n
unfolding fitting
fitting_rows n room = by_test (ltb n (room / 4)) refl
  where
    by_test : (t : Bool) → ltb n (room / 4) ≡ t → cond t n (room / 4) ≤ n
    by_test true h = omega arith
    by_test false h = omega (arith, ltb-false n (room / 4) h)

pub fitting_room : (n room : ℕ) → fitting n room ≤ room / 4
unfolding fitting
fitting_room n room = by_test (ltb n (room / 4)) refl
  where
    by_test : (t : Bool) → ltb n (room / 4) ≡ t → cond t n (room / 4) ≤ room / 4
    by_test true h = omega (arith, ltb-true n (room / 4) h)
    by_test false h = omega arith

-- those rows, and no more
pub held-fitting : (rows : List Row) (room : ℕ) → row_numbers (take (fitting (length rows) room) rows) ≡ held rows room
unfolding fitting held
held-fitting rows room = by_test (ltb (length rows) (room / 4)) refl
  where
    by_test : (t : Bool) → ltb (length rows) (room / 4) ≡ t → row_numbers (take (cond t (length rows) (room / 4)) rows) ≡ row_numbers (take (room / 4) rows)
    by_test true h = ap row_numbers (take_all (length rows) rows (omega arith) ∙ sym (take_all (room / 4) rows (omega (arith, ltb-true (length rows) (room / 4) h))))
    by_test false h = refl

pub held-length : (rows : List Row) (room : ℕ) → length (held rows room) ≡ fitting (length rows) room * 4
held-length rows room =
    ap length (sym (held-fitting rows room)) ∙ row_numbers_length (take (fitting (length rows) room) rows)
    ∙ ap (λ (n : ℕ). n * 4) (length-take-le (fitting (length rows) room) rows (fitting_rows (length rows) room))

pub held_room : (rows : List Row) (room : ℕ) → length (held rows room) ≤ room
held_room rows room = omega (arith, held-length rows room, fitting_room (length rows) room)

-- ---- the rows put so far
-- one more row is written behind those that are there
pub row-put : (rs : List Row) (base : List ℕ) (r : Row) (k : ℕ) → length rs ≡ k
    → put_row (overwrite (row_numbers rs) base) k r ≡ overwrite (row_numbers (rs ++ (r ∷ []))) base
unfolding put_row row_numbers
row-put rs base r k e =
    four_more (row_numbers rs) base (k * 4) r.kind r.a r.b r.c (omega (arith, row_numbers_length rs))
    ∙ ap (λ (l : List ℕ). overwrite l base) (sym (row_numbers_append rs (r ∷ [])))

pub put_first : (rows : List Row) (base : List ℕ) → base ≡ overwrite (row_numbers (take 0 rows)) base
unfolding overwrite row_numbers
put_first rows base = refl

pub put_next : (rows : List Row) (base zs zs' : List ℕ) (i : ℕ) → i < length rows → i < length base / 4
    → zs ≡ overwrite (row_numbers (take i rows)) base → zs' ≡ put_whole zs i (get_or rows i no_row) → zs' ≡ overwrite (row_numbers (take (i + 1) rows)) base
unfolding put_whole
put_next rows base zs zs' i h room e e' =
    let len : length zs ≡ length base = ap length e ∙ overwrite-length (row_numbers (take i rows)) base in
    let there : ltb i (length zs / 4) ≡ true = lt-ltb i (length zs / 4) (omega (arith, room, len)) in
    let one : take i rows ++ (get_or rows i no_row ∷ []) ≡ take (i + 1) rows = sym (take-suc rows i no_row h) ∙ ap (λ (n : ℕ). take n rows) (sym (add-one i)) in
    e' ∙ ap (λ (t : Bool). cond t (put_row zs i (get_or rows i no_row)) zs) there ∙ ap (λ (l : List ℕ). put_row l i (get_or rows i no_row)) e
    ∙ row-put (take i rows) base (get_or rows i no_row) i (length-take-le i rows (omega (arith, h)))
    ∙ ap (λ (l : List Row). overwrite (row_numbers l) base) one

-- the numbers that were put, read back
pub held_read : (rows : List Row) (base zs : List ℕ) → zs ≡ overwrite (held rows (length base)) base → take (length (held rows (length base))) zs ≡ held rows (length base)
held_read rows base zs e =
    let new = held rows (length base) in
    ap (take (length new)) (e ∙ overwrite-fits new base (held_room rows (length base))) ∙ take_at new (drop (length new) base) (length new) refl

-- ---- more than 512 rows
pub over_512 : (rows : List Row) → 512 < length rows → first_fault (row_numbers rows) ≡ Err Shape
unfolding first_fault breaks11
over_512 rows h =
    let whole : length (row_numbers rows) % 4 ≡ 0 = omega (arith, row_numbers_length rows) in
    let over : ltb 512 (length (rows_of (row_numbers rows))) ≡ true = lt-ltb 512 (length (rows_of (row_numbers rows))) (omega (arith, h, ap length (rows_written rows))) in
    rw (whole, over) refl

-- The area holds 513 rows, and so either all rows or too many of them. So what a call says of the rows held it says of all rows, if it
-- says one and the same of every table of the wrong shape.
pub all-or_over : {X : Type 0} (call : List ℕ → X) (refused : X) → ((t : List ℕ) → first_fault t ≡ Err Shape → call t ≡ refused)
    → (rows : List Row) → call (held rows area_numbers) ≡ call (row_numbers rows)
unfolding held
all-or_over call refused stops rows = by_count (lt_or_le (area_numbers / 4) (length rows))
  where
    by_count : (area_numbers / 4 < length rows) ⊎ (length rows ≤ area_numbers / 4) → call (row_numbers (take (area_numbers / 4) rows)) ≡ call (row_numbers rows)
    by_count (inl h) =
        let n : length (take (area_numbers / 4) rows) ≡ area_numbers / 4 = length-take-le (area_numbers / 4) rows (omega (arith, h)) in
        stops (row_numbers (take (area_numbers / 4) rows)) (over_512 (take (area_numbers / 4) rows) (omega (arith, n)))
        ∙ sym (stops (row_numbers rows) (over_512 rows (omega (arith, h))))
    by_count (inr h) = ap (λ (l : List Row). call (row_numbers l)) (take_all (area_numbers / 4) rows h)
