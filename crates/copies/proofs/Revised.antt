-- The revised equations of a table left off one after the other, from the first row on: a row is looked at with the rows behind it, which
-- stand as they were. Assumes nothing.
use mathlib.Core.Path.{◌≡◌, refl, sym, ◌∙◌, ap}
use mathlib.Core.Bool.{Bool, true, false, cond, and-false}
use mathlib.Core.List.{List, [], ◌∷◌}
use mathlib.Core.Logic.{◌≢◌, ⊎_elim}
use Prim.Native.Nat.{ℕ, zero, suc, ◌+◌, ◌*◌, ◌/◌, ◌<◌, ◌≤◌, min}
use native.Mathlib.Omega.{arith}
use native.Mathlib.Numerals.{add-one}
use lib.Dec.{eqb}
use lib.ListN.{length, drop, set, get_or-eq_default}
use borrow.Author.Tests.{eq-eqb, ne_eqb, lt-ltb, le-ltb}
use Rattle.laws.specs.Buffers.{set_four}
use Rattle.laws.proofs.Numbers.{lt_or_le}
use Rattle.terms.specs.declared.Row.{Row}
use Rattle.terms.specs.Table.{rows_of, row_at, no_row, silent_row, leaving_off, of_line, some_row, revised, counting}
use Rattle.terms.proofs.Counting.{revised_equation}
use Rattle.terms.proofs.Rows.{rows_length}
use Rattle.copies.specs.inner.Shortened.{stored_row}
use Rattle.copies.specs.inner.Revised.{left_off}

-- ---- the search for an equation of a line
drop-row : (t : List Row) (r : ℕ) → r < length t → drop r t ≡ row_at t r ∷ drop (suc r) t
drop-row [] r l = absurd (omega arith)
drop-row (x ∷ t) zero l = refl
drop-row (x ∷ t) (suc r) l = drop-row t r (omega arith)

drop_past : (t : List Row) (r : ℕ) → length t ≤ r → drop r t ≡ []
drop_past [] zero l = refl
drop_past [] (suc r) l = refl
drop_past (x ∷ t) zero l = absurd (omega arith)
drop_past (x ∷ t) (suc r) l = drop_past t r (omega arith)

module _ (line : ℕ) (row : Row) where
  pub term_no_line : row.kind ≢ 4 → false ≡ of_line line row
  unfolding of_line
  term_no_line k = rw (ne_eqb row.kind 4 k) refl

  pub equation_line : row.kind ≡ 4 → eqb row.c line ≡ of_line line row
  unfolding of_line
  equation_line k = rw (eq-eqb row.kind 4 k) refl

-- the search for a row that passes a test: what is left to look through, from row r on
module _ (f : Row → Bool) (table : List ℕ) (r : ℕ) where
  here : r < length table / 4 → drop r (rows_of table) ≡ row_at (rows_of table) r ∷ drop (suc r) (rows_of table)
  here l = drop-row (rows_of table) r (omega (arith, l, rows_length table))

  pub some_here : r < length table / 4 → true ≡ f (row_at (rows_of table) r) → true ≡ some_row f (drop r (rows_of table))
  unfolding some_row
  some_here l h = rw (here l, sym h) refl

  pub some_passed : r < length table / 4 → false ≡ f (row_at (rows_of table) r) → some_row f (drop (r + 1) (rows_of table)) ≡ some_row f (drop r (rows_of table))
  unfolding some_row
  some_passed l h = rw (add-one r, here l, sym h) refl

  pub some_end : length table / 4 ≤ r → false ≡ some_row f (drop r (rows_of table))
  unfolding some_row
  some_end l = rw (drop_past (rows_of table) r (omega (arith, l, rows_length table))) refl

-- an equation stands in the table
equation_inside : (t : List Row) (r : ℕ) → (row_at t r).kind ≡ 4 → r < length t
equation_inside t r e =
    ⊎_elim (λ l. l)
    (λ l. let z : (row_at t r).kind ≡ 0 = ap (λ (x : Row). x.kind) (get_or-eq_default t no_row l) in absurd (omega arith))
    (lt_or_le r (length t))

-- ---- whether row r is revised
module _ (table : List ℕ) (r : ℕ) (row : Row) (is : row ≡ row_at (rows_of table) r) where
  pub term_stays : row.kind ≢ 4 → false ≡ revised (row_at (rows_of table) r) (drop (suc r) (rows_of table))
  unfolding revised
  term_stays k = rw (← is) (rw (ne_eqb row.kind 4 k) refl)

  pub no_line_stays : row.c ≡ 0 → false ≡ revised (row_at (rows_of table) r) (drop (suc r) (rows_of table))
  unfolding revised
  no_line_stays e = rw (← is) (rw (le-ltb 0 row.c (omega arith)) (sym (and-false (eqb row.kind 4))))

  pub row_inside : row.kind ≡ 4 → r < length table / 4
  row_inside k = omega (arith, rows_length table, equation_inside (rows_of table) r (sym (ap (λ (x : Row). x.kind) is) ∙ k))

  pub line-revised : row.kind ≡ 4 → row.c ≢ 0 → (b : Bool) → b ≡ some_row (of_line row.c) (drop (r + 1) (rows_of table))
      → b ≡ revised (row_at (rows_of table) r) (drop (suc r) (rows_of table))
  unfolding revised
  line-revised k e b h = h ∙ rw (← is) (rw (add-one r, eq-eqb row.kind 4 k, lt-ltb 0 row.c (omega arith)) refl)

-- ---- one row stored
rows_stored : (s : List ℕ) (r : ℕ) (row : Row) → r < length (rows_of s) → rows_of (stored_row s r row) ≡ set (rows_of s) r row
unfolding rows_of stored_row set_four
rows_stored [] r row l = absurd (omega arith)
rows_stored (k ∷ []) r row l = absurd (omega arith)
rows_stored (k ∷ a ∷ []) r row l = absurd (omega arith)
rows_stored (k ∷ a ∷ b ∷ []) r row l = absurd (omega arith)
rows_stored (k ∷ a ∷ b ∷ c ∷ s) zero row l = refl
rows_stored (k ∷ a ∷ b ∷ c ∷ s) (suc r) row l =
    let e₀ : suc r * 4 ≡ suc (suc (suc (suc (r * 4)))) = omega arith in
    let e₁ : suc r * 4 + 1 ≡ suc (suc (suc (suc (r * 4 + 1)))) = omega arith in
    let e₂ : suc r * 4 + 2 ≡ suc (suc (suc (suc (r * 4 + 2)))) = omega arith in
    let e₃ : suc r * 4 + 3 ≡ suc (suc (suc (suc (r * 4 + 3)))) = omega arith in
    rw (e₁, e₂, e₃, e₀) (ap (λ (l : List Row). record { kind = k; a = a; b = b; c = c } ∷ l) (rows_stored s r row (omega arith)))

module _ (table : List ℕ) (r : ℕ) where
  abbrev t : List Row
  t = rows_of table

  pub off_stored : revised (row_at (rows_of table) r) (drop (suc r) (rows_of table)) ≡ true → length (rows_of table) ≤ 512
      → (table' : List ℕ) → table' ≡ stored_row table (min r 512) silent_row → rows_of table' ≡ left_off (rows_of table) r
  unfolding left_off
  off_stored h few table' e =
      let l : r < length t = equation_inside t r (revised_equation (row_at t r) (drop (suc r) t) h) in
      let m : min r 512 ≡ r = omega arith in
      ap rows_of (rw m at e) ∙ rw h (rows_stored table r silent_row l)

  pub off_not : revised (row_at (rows_of table) r) (drop (suc r) (rows_of table)) ≡ false → rows_of table ≡ left_off (rows_of table) r
  unfolding left_off
  off_not h = rw h refl

-- ---- all rows

-- the first r rows as they count, and the others as they are
unfoldable pub counted_to : ℕ → List Row → List Row
counted_to zero t = t
counted_to (suc r) [] = []
counted_to (suc r) (x ∷ t) = cond (revised x t) silent_row x ∷ counted_to r t

counted_length : (r : ℕ) (t : List Row) → length (counted_to r t) ≡ length t
unfolding counted_to
counted_length zero t = refl
counted_length (suc r) [] = refl
counted_length (suc r) (x ∷ t) = ap suc (counted_length r t)

counted_row : (r : ℕ) (t : List Row) → row_at (counted_to r t) r ≡ row_at t r
unfolding counted_to
counted_row zero t = refl
counted_row (suc r) [] = refl
counted_row (suc r) (x ∷ t) = counted_row r t

counted_behind : (r : ℕ) (t : List Row) → drop (suc r) (counted_to r t) ≡ drop (suc r) t
unfolding counted_to
counted_behind zero t = refl
counted_behind (suc r) [] = refl
counted_behind (suc r) (x ∷ t) = counted_behind r t

counted_set : (r : ℕ) (t : List Row) → r < length t
    → cond (revised (row_at t r) (drop (suc r) t)) (set (counted_to r t) r silent_row) (counted_to r t) ≡ counted_to (suc r) t
unfolding counted_to
counted_set r [] l = absurd (omega arith)
counted_set zero (x ∷ t) l = under (revised x t)
  where
    under : (b : Bool) → cond b (silent_row ∷ t) (x ∷ t) ≡ cond b silent_row x ∷ t
    under true = refl
    under false = refl
counted_set (suc r) (x ∷ t) l =
    under (revised (row_at t r) (drop (suc r) t)) ∙ ap (λ (s : List Row). cond (revised x t) silent_row x ∷ s) (counted_set r t (omega arith))
  where
    under : (b : Bool) → cond b (cond (revised x t) silent_row x ∷ set (counted_to r t) r silent_row) (cond (revised x t) silent_row x ∷ counted_to r t)
        ≡ cond (revised x t) silent_row x ∷ cond b (set (counted_to r t) r silent_row) (counted_to r t)
    under true = refl
    under false = refl

counted_all : (r : ℕ) (t : List Row) → length t ≤ r → counted_to r t ≡ counting t
unfolding counted_to counting leaving_off
counted_all zero [] l = refl
counted_all zero (x ∷ t) l = absurd (omega arith)
counted_all (suc r) [] l = refl
counted_all (suc r) (x ∷ t) l = ap (λ (s : List Row). cond (revised x t) silent_row x ∷ s) (counted_all r t (omega arith))

-- r rows were passed
pub record Counted (table₀ table : List ℕ) (r : ℕ) : Type 0 where
  pub same_room : length table ≡ length table₀
  pub rows_are : length (rows_of table₀) ≤ 512 → rows_of table ≡ counted_to r (rows_of table₀)

pub counted_first : (table₀ : List ℕ) → Counted table₀ table₀ 0
unfolding counted_to
counted_first table₀ = record { same_room = refl; rows_are = λ few. refl }

module _ (table₀ table : List ℕ) (r : ℕ) (k : Counted table₀ table r) where
  abbrev t₀ : List Row
  t₀ = rows_of table₀

  pub counted_more : (rows : ℕ) → rows ≡ min (length table₀ / 4) 512 → r < rows → (table' : List ℕ) → length table' ≡ length table
      → (length (rows_of table) ≤ 512 → rows_of table' ≡ left_off (rows_of table) r) → Counted table₀ table' (r + 1)
  unfolding left_off
  counted_more rows m l table' n h =
      record {
        same_room = n ∙ k.same_room;
        rows_are = λ few.
            let e = k.rows_are few in
            let small : length (rows_of table) ≤ 512 = omega (arith, ap length e, counted_length r t₀) in
            rw (add-one r) (h small ∙ rw (e, counted_row r t₀, counted_behind r t₀) (counted_set r t₀ (omega (arith, rows_length table₀))));
      }

  pub counted_done : (rows : ℕ) → rows ≡ min (length table₀ / 4) 512 → length (rows_of table₀) ≤ 512 → rows ≤ r → rows_of table ≡ counting (rows_of table₀)
  counted_done rows m few l = k.rows_are few ∙ counted_all r t₀ (omega (arith, rows_length table₀))
