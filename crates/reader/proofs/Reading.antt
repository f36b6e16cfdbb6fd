-- The lines read so far: their rows stand at the beginning of the table, and what is found from here on is what is found
-- of all lines.
use mathlib.Core.Path.{◌≡◌, refl, sym, ◌∙◌, ap}
use mathlib.Core.List.{List, [], ◌∷◌, ◌++◌, append_assoc, append-nil}
use Prim.Native.Nat.{ℕ, zero, suc, ◌+◌, ◌-◌, ◌<◌, ◌≤◌}
use native.Mathlib.Omega.{arith}
use lib.ListN.{length, length-append}
use borrow.Author.Tests.{lt-ltb, le-ltb}
use Rattle.std.specs.Prelude.{Ok, Err}
use Rattle.terms.specs.declared.Row.{Row}
use Rattle.laws.specs.Buffers.{overwrite}
use Rattle.laws.proofs.Buffers.{overwrite-length}
use Rattle.sheets.specs.declared.Order.{Order}
use Rattle.sheets.specs.declared.SheetError.TheVariants.{TooMany, WrongLine}
use Rattle.sheets.specs.Text.{Values, NoLine, line_at}
use Rattle.terms.specs.Table.{row_numbers}
use Rattle.rows.specs.inner.Held.{put_row}
use Rattle.sheets.specs.Sheet.{found_from, rows_from}
use Rattle.rows.proofs.Held.{row-put}

pub record Reading (text : List ℕ) (order : Order) (start : ℕ) (base table : List ℕ) (at k : ℕ) : Type 0 where
  pub rows : List Row
  pub few : k ≤ 512
  pub count : length rows ≡ k
  pub written : table ≡ overwrite (row_numbers rows) base
  pub left : found_from (512 - k) text order k at ≡ found_from 512 text order 0 start
  pub all : rows ++ rows_from (512 - k) text order at ≡ rows_from 512 text order start

pub reading_first : (text : List ℕ) (order : Order) (start : ℕ) (base : List ℕ) → Reading text order start base base start 0
unfolding overwrite row_numbers
reading_first text order start base = record { rows = []; few = omega arith; count = refl; written = refl; left = refl; all = refl }

module _ (text : List ℕ) (order : Order) (start : ℕ) (base table : List ℕ) (at k : ℕ) (r : Reading text order start base table at k) where
  pub reading_length : length table ≡ length base
  reading_length = ap length r.written ∙ overwrite-length (row_numbers r.rows) base

  whole : rows_from (512 - k) text order at ≡ [] → table ≡ overwrite (row_numbers (rows_from 512 text order start)) base
  whole e = r.written ∙ ap (λ (l : List Row). overwrite (row_numbers l) base) (sym (append-nil r.rows) ∙ ap (λ (l : List Row). r.rows ++ l) (sym e) ∙ r.all)

  -- nothing is left
  found_end : (n : ℕ) → length text ≤ at → (Ok k ≡ found_from n text order k at) × (rows_from n text order at ≡ [])
  unfolding found_from rows_from
  found_end zero l = (rw (le-ltb at (length text) l), refl)
  found_end (suc n) l = let e = le-ltb at (length text) l in (rw e, rw e)

  pub reading_ends : length text ≤ at → (Ok k ≡ found_from 512 text order 0 start) × (table ≡ overwrite (row_numbers (rows_from 512 text order start)) base)
  reading_ends l = let e = found_end (512 - k) l in (e.0 ∙ r.left, whole e.1)

  -- a line too many
  pub reading_over : 512 ≤ k → at < length text → (Err TooMany ≡ found_from 512 text order 0 start) × (table ≡ overwrite (row_numbers (rows_from 512 text order start)) base)
  unfolding found_from rows_from
  reading_over h l =
      let z : 512 - k ≡ 0 = omega arith in
      let f : Err TooMany ≡ found_from 0 text order k at = rw (lt-ltb at (length text) l) in
      (f ∙ ap (λ (n : ℕ). found_from n text order k at) (sym z) ∙ r.left, whole (ap (λ (n : ℕ). rows_from n text order at) z))

  module _ (h : k < 512) (l : at < length text) where
    step : 512 - k ≡ suc (512 - (k + 1))
    step = omega arith

    -- a wrong line
    pub reading_wrong : line_at text order at ≡ NoLine
        → (Err (WrongLine k) ≡ found_from 512 text order 0 start) × (table ≡ overwrite (row_numbers (rows_from 512 text order start)) base)
    unfolding found_from rows_from
    reading_wrong e =
        let f : Err (WrongLine k) ≡ found_from (suc (512 - (k + 1))) text order k at = rw (lt-ltb at (length text) l, e) in
        let g : rows_from (suc (512 - (k + 1))) text order at ≡ [] = rw (lt-ltb at (length text) l, e) in
        (f ∙ ap (λ (n : ℕ). found_from n text order k at) (sym step) ∙ r.left, whole (ap (λ (n : ℕ). rows_from n text order at) step ∙ g))

    -- one more line
    pub reading_more : (row : Row) (next : ℕ) (table' : List ℕ) → line_at text order at ≡ Values row next → table' ≡ put_row table k row
        → Reading text order start base table' next (k + 1)
    unfolding found_from rows_from
    reading_more row next table' e w =
        let f : found_from (suc (512 - (k + 1))) text order k at ≡ found_from (512 - (k + 1)) text order (k + 1) next = rw (lt-ltb at (length text) l, e) in
        let g : rows_from (suc (512 - (k + 1))) text order at ≡ row ∷ rows_from (512 - (k + 1)) text order next = rw (lt-ltb at (length text) l, e) in
        record {
          rows = r.rows ++ (row ∷ []);
          few = omega arith;
          count = omega (arith, length-append r.rows (row ∷ []), r.count);
          written = w ∙ ap (λ (o : List ℕ). put_row o k row) r.written ∙ row-put r.rows base row k r.count;
          left = sym f ∙ ap (λ (n : ℕ). found_from n text order k at) (sym step) ∙ r.left;
          all =
              append_assoc r.rows (row ∷ []) (rows_from (512 - (k + 1)) text order next)
              ∙ ap (λ (s : List Row). r.rows ++ s) (sym g ∙ ap (λ (n : ℕ). rows_from n text order at) (sym step)) ∙ r.all;
        }
