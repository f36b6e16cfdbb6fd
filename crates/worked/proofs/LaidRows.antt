-- Rows that lie side by side, as the answer of a table does: where each begins, and which variable begins where. Assumes nothing.
use mathlib.Core.Path.{◌≡◌, refl, sym, ◌∙◌, ap}
use mathlib.Core.Bool.{true, false}
use mathlib.Core.List.{List, [], ◌∷◌, reverse_aux}
use mathlib.Core.Logic.{◌⊎◌, inl, inr, ◌≢◌}
use Prim.Native.Nat.{ℕ, zero, suc, ◌+◌, ◌-◌, ◌≤◌, ◌<◌}
use native.Mathlib.Omega.{arith}
use lib.ListN.{length, drop}
use lib.Seq.{drop-cons}
use borrow.Author.Tests.{lt-ltb, le-ltb, ne_eqb}
use Rattle.laws.proofs.Numbers.{lt_or_le}
use Rattle.answers.specs.declared.AnswerRow.{AnswerRow}
use Rattle.answers.specs.Answer.{begins, variable_at, no_answer_row, answer_row_at}
use Rattle.answers.proofs.GeneralSystems.{width_sum}
use Rattle.answers.proofs.Variables.{begins_first}

-- A row of an answer.
abbrev pub line : ℕ → ℕ → ℕ → ℕ → AnswerRow
line variable kind width number = record { variable = variable; kind = kind; width = width; fresh = number }

-- The place at which row k begins.
unfoldable pub start_of : List AnswerRow → ℕ → ℕ
start_of rows zero = 0
start_of [] (suc k) = 0
start_of (r ∷ rows) (suc k) = r.width + start_of rows k

pub start_next : (rows : List AnswerRow) (k : ℕ) → k < length rows → start_of rows (suc k) ≡ start_of rows k + (answer_row_at rows k).width
unfolding start_of
start_next [] k l = absurd (omega arith)
start_next (r ∷ rows) zero l = omega arith
start_next (r ∷ rows) (suc k) l = omega (arith, start_next rows k (omega arith))

-- The row and the offset in it at which a place below row m stands.
pub record Stands (rows : List AnswerRow) (m i : ℕ) : Type 0 where
  pub row : ℕ
  pub offset : ℕ
  pub below : row < m
  pub within : offset < (answer_row_at rows row).width
  pub place : i ≡ start_of rows row + offset

pub stands : (rows : List AnswerRow) (m i : ℕ) → m ≤ length rows → i < start_of rows m → Stands rows m i
unfolding start_of
stands rows zero i l h = absurd (omega arith)
stands rows (suc m) i l h = go (lt_or_le i (start_of rows m)) (stands rows m i (omega arith))
  where
    go : (i < start_of rows m) ⊎ (start_of rows m ≤ i) → (i < start_of rows m → Stands rows m i) → Stands rows (suc m) i
    go (inl q) before =
        let s = before q in
        record { row = s.row; offset = s.offset; below = omega (arith, s.below); within = s.within; place = s.place }
    go (inr q) before =
        let e = start_next rows m (omega arith) in
        record { row = m; offset = i - start_of rows m; below = omega arith; within = omega arith; place = omega arith }

-- a row begins behind where those before it do
pub start_up : (rows : List AnswerRow) (j k : ℕ) → j ≤ k → k ≤ length rows → start_of rows j ≤ start_of rows k
unfolding start_of
start_up rows j zero l h = let e : j ≡ 0 = omega arith in rw e (omega arith)
start_up rows j (suc k) l h = go (lt_or_le k j) (λ q. start_up rows j k q (omega arith))
  where
    go : (k < j) ⊎ (j ≤ k) → (j ≤ k → start_of rows j ≤ start_of rows k) → start_of rows j ≤ start_of rows (suc k)
    go (inl q) before = let e : j ≡ suc k = omega arith in rw e (omega arith)
    go (inr q) before = omega (arith, start_next rows k (omega arith), before q)

-- Rows that lie in variables of the widths ws, from variable v on, of which u bits are laid.
pub data Laid : ℕ → ℕ → List AnswerRow → List ℕ → Type 0 where
  none : {v : ℕ} → Laid v 0 [] []
  more : {v u w : ℕ} {r : AnswerRow} {rows : List AnswerRow} {ws : List ℕ}
      → r.variable ≡ v → 1 ≤ r.width → u + r.width < w → Laid v (u + r.width) rows (w ∷ ws) → Laid v u (r ∷ rows) (w ∷ ws)
  last : {v u w : ℕ} {r : AnswerRow} {rows : List AnswerRow} {ws : List ℕ}
      → r.variable ≡ v → 1 ≤ r.width → u + r.width ≡ w → Laid (suc v) 0 rows ws → Laid v u (r ∷ rows) (w ∷ ws)

-- each row has a bit
pub laid_wide : {v u : ℕ} {rows : List AnswerRow} {ws : List ℕ} → Laid v u rows ws → (k : ℕ) → k < length rows → 1 ≤ (answer_row_at rows k).width
laid_wide none k l = absurd (omega arith)
laid_wide (more e p h y) zero l = p
laid_wide (more e p h y) (suc k) l = laid_wide y k (omega arith)
laid_wide (last e p h y) zero l = p
laid_wide (last e p h y) (suc k) l = laid_wide y k (omega arith)

-- all of them are as wide as the variables
pub laid_all : {v u : ℕ} {rows : List AnswerRow} {ws : List ℕ} → Laid v u rows ws → u + start_of rows (length rows) ≡ width_sum ws
unfolding start_of width_sum
laid_all none = refl
laid_all (more e p h y) = omega (arith, laid_all y)
laid_all (last e p h y) = omega (arith, laid_all y)

-- past the first variable
begins_past : (w : ℕ) (ws : List ℕ) (i j : ℕ) → i ≡ w + j → begins (w ∷ ws) i ≡ begins ws j
unfolding begins
begins_past w ws i j e = let at : i - w ≡ j = omega arith in rw (le-ltb i w (omega arith), at) refl

variable_past : (w : ℕ) (ws : List ℕ) (i j : ℕ) → i ≡ w + j → variable_at (w ∷ ws) i ≡ suc (variable_at ws j)
unfolding variable_at
variable_past w ws i j e = let at : i - w ≡ j = omega arith in rw (le-ltb i w (omega arith), at) refl

-- The variable of each place; no variable begins inside a row, and one does behind a row whose next is of another variable.
pub laid_variable : {v u : ℕ} {rows : List AnswerRow} {ws : List ℕ} → Laid v u rows ws → (k o : ℕ) → k < length rows → o < (answer_row_at rows k).width
    → v + variable_at ws (u + (start_of rows k + o)) ≡ (answer_row_at rows k).variable
unfolding start_of
laid_variable none k o l h = absurd (omega arith)
laid_variable {v} {u} (more {w = w} e p q y) zero o l h = unfold variable_at in rw (lt-ltb (u + (0 + o)) w (omega arith)) (omega arith)
laid_variable {v} {u} (more {w = w} {r = r} {rows = rows} {ws = ws} e p q y) (suc k) o l h =
    let at : u + (r.width + start_of rows k + o) ≡ u + r.width + (start_of rows k + o) = omega arith in
    rw at (laid_variable y k o (omega arith) h)
laid_variable {v} {u} (last {w = w} e p q y) zero o l h = unfold variable_at in rw (lt-ltb (u + (0 + o)) w (omega arith)) (omega arith)
laid_variable {v} {u} (last {w = w} {r = r} {rows = rows} {ws = ws} e p q y) (suc k) o l h =
    omega (
      arith,
      variable_past w ws (u + (r.width + start_of rows k + o)) (0 + (start_of rows k + o)) (omega arith),
      laid_variable y k o (omega arith) h,
    )

pub laid_inside : {v u : ℕ} {rows : List AnswerRow} {ws : List ℕ} → Laid v u rows ws → (k o : ℕ) → k < length rows → suc o < (answer_row_at rows k).width
    → begins ws (u + (start_of rows k + suc o)) ≡ false
unfolding start_of
laid_inside none k o l h = absurd (omega arith)
laid_inside {v} {u} (more {w = w} e p q y) zero o l h =
    unfold begins in rw (lt-ltb (u + (0 + suc o)) w (omega arith)) (ne_eqb (u + (0 + suc o)) 0 (λ z. omega arith))
laid_inside {v} {u} (more {w = w} {r = r} {rows = rows} {ws = ws} e p q y) (suc k) o l h =
    let at : u + (r.width + start_of rows k + suc o) ≡ u + r.width + (start_of rows k + suc o) = omega arith in
    rw at (laid_inside y k o (omega arith) h)
laid_inside {v} {u} (last {w = w} e p q y) zero o l h =
    unfold begins in rw (lt-ltb (u + (0 + suc o)) w (omega arith)) (ne_eqb (u + (0 + suc o)) 0 (λ z. omega arith))
laid_inside {v} {u} (last {w = w} {r = r} {rows = rows} {ws = ws} e p q y) (suc k) o l h =
    begins_past w ws (u + (r.width + start_of rows k + suc o)) (0 + (start_of rows k + suc o)) (omega arith) ∙ laid_inside y k o (omega arith) h

-- Whether a variable ends with row k.
abbrev pub Ends : List AnswerRow → ℕ → Type 0
Ends rows k = (suc k ≡ length rows) ⊎ ((answer_row_at rows k).variable ≢ (answer_row_at rows (suc k)).variable)

first_of : {v u w : ℕ} (r : AnswerRow) {rows : List AnswerRow} {ws : List ℕ} → r.variable ≡ v → Laid v u rows (w ∷ ws) → Ends (r ∷ rows) 0 → ⊥
first_of r e (more f p q y) (inl h) = omega arith
first_of r e (more f p q y) (inr h) = h (e ∙ sym f)
first_of r e (last f p q y) (inl h) = omega arith
first_of r e (last f p q y) (inr h) = h (e ∙ sym f)

next_ends : (r : AnswerRow) (rows : List AnswerRow) (k : ℕ) → Ends (r ∷ rows) (suc k) → Ends rows k
next_ends r rows k (inl h) = inl (omega arith)
next_ends r rows k (inr h) = inr h

pub laid_ends : {v u : ℕ} {rows : List AnswerRow} {ws : List ℕ} → Laid v u rows ws → (k : ℕ) → k < length rows → Ends rows k
    → begins ws (u + start_of rows (suc k)) ≡ true
unfolding start_of
laid_ends none k l h = absurd (omega arith)
laid_ends (more {r = r} e p q y) zero l h = absurd (first_of r e y h)
laid_ends {v} {u} (more {w = w} {r = r} {rows = rows} {ws = ws} e p q y) (suc k) l h =
    let at : u + (r.width + start_of rows (suc k)) ≡ u + r.width + start_of rows (suc k) = omega arith in
    rw at (laid_ends y k (omega arith) (next_ends r rows k h))
laid_ends {v} {u} (last {w = w} {r = r} {rows = rows} {ws = ws} e p q y) zero l h =
    begins_past w ws (u + (r.width + 0)) 0 (omega arith) ∙ begins_first ws
laid_ends {v} {u} (last {w = w} {r = r} {rows = rows} {ws = ws} e p q y) (suc k) l h =
    begins_past w ws (u + (r.width + start_of rows (suc k))) (0 + start_of rows (suc k)) (omega arith) ∙ laid_ends y k (omega arith) (next_ends r rows k h)

-- The rows below row k, the last first; turned, all of them are the rows.
unfoldable pub last_first : List AnswerRow → ℕ → List AnswerRow
last_first rows zero = []
last_first rows (suc k) = answer_row_at rows k ∷ last_first rows k

pub turned_rows : (rows : List AnswerRow) (k : ℕ) → k ≤ length rows → reverse_aux (last_first rows k) (drop k rows) ≡ rows
unfolding last_first
turned_rows rows zero l = refl
turned_rows rows (suc k) l =
    ap (reverse_aux (last_first rows k)) (sym (drop-cons rows k no_answer_row l)) ∙ turned_rows rows k (omega arith)
