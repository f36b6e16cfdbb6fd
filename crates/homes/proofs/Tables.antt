-- Rows that stand in a table, as numbers written to its beginning.
use mathlib.Core.Path.{◌≡◌, sym, ◌∙◌, ap}
use mathlib.Core.Logic.{◌⊎◌, inl, inr}
use mathlib.Core.List.{List}
use Prim.Native.Nat.{ℕ, zero, suc, ◌+◌, ◌*◌, ◌/◌, ◌%◌, ◌≤◌, ◌<◌}
use native.Mathlib.Omega.{arith}
use lib.ListN.{length, get_or}
use lib.Seq.{ext_get_or}
use Rattle.laws.specs.Buffers.{overwrite}
use Rattle.laws.proofs.Buffers.{overwrite-length, overwrite_read, overwrite_past}
use Rattle.laws.proofs.Numbers.{lt_or_le}
use Rattle.answers.specs.declared.AnswerRow.{AnswerRow}
use Rattle.answers.specs.Answer.{answer_row_at, home_row, answer_row_numbers, answer_numbers}
use Rattle.answers.specs.inner.FourNumbers.{four_numbers, answer_columns}
use Rattle.answers.proofs.AnswerNumbers.{four-length, four_columns, numbers_length, number_at}
use Rattle.homes.specs.inner.Homes.{Standing, Widens, SetsHomes, PutsHomes}
use Rattle.homes.proofs.Stores.{same_columns}

-- the rows' own four numbers
four_stand : (rows : List AnswerRow) (old : List ℕ) (j : ℕ) → j < length rows → length rows * 6 ≤ length old
    → answer_columns (overwrite (four_numbers rows) old) (j * 4) ≡ answer_row_at rows j
four_stand rows old j l room =
    same_columns (overwrite (four_numbers rows) old) (j * 4) (answer_columns (four_numbers rows) (j * 4)) (read (j * 4) (omega arith)) (read (j * 4 + 1) (omega arith)) (read (j * 4 + 2) (omega arith))
    (read (j * 4 + 3) (omega arith))
    ∙ four_columns rows j l
  where
    read : (x : ℕ) → x < length rows * 4 → get_or (overwrite (four_numbers rows) old) x 0 ≡ get_or (four_numbers rows) x 0
    read x h = overwrite_read (four_numbers rows) old x (omega (arith, four-length rows)) (omega arith)

-- the six numbers of row j
module _ (rows : List AnswerRow) (old t : List ℕ) (s : Standing rows (home_row rows) old t) (j : ℕ) (l : j < length rows) where
  number_stands : (k : ℕ) → k < 6 → get_or t (j * 6 + k) 0 ≡ get_or (answer_row_numbers rows j) k 0
  unfolding answer_row_numbers
  number_stands zero h =
      let e : j * 6 + 0 ≡ j * 6 = omega arith in ap (λ (x : ℕ). get_or t x 0) e ∙ ap (λ (r : AnswerRow). r.variable) (s.rows_are j l)
  number_stands (suc zero) h = ap (λ (r : AnswerRow). r.kind) (s.rows_are j l)
  number_stands (suc (suc zero)) h = ap (λ (r : AnswerRow). r.width) (s.rows_are j l)
  number_stands (suc (suc (suc zero))) h = ap (λ (r : AnswerRow). r.fresh) (s.rows_are j l)
  number_stands (suc (suc (suc (suc zero)))) h = s.homes_are j l
  number_stands (suc (suc (suc (suc (suc zero))))) h = s.highs_are j l
  number_stands (suc (suc (suc (suc (suc (suc k)))))) h = absurd (omega arith)

-- Rows that stand in a table with their homes are written to its beginning.
pub standing_written : (rows : List AnswerRow) (old t : List ℕ) → Standing rows (home_row rows) old t → length rows * 6 ≤ length old → t ≡ overwrite (answer_numbers rows) old
standing_written rows old t s room =
    ext_get_or 0 t (overwrite (answer_numbers rows) old) (s.len ∙ sym (overwrite-length (answer_numbers rows) old)) (λ x l. go x l (lt_or_le x (length rows * 6)))
  where
    go : (x : ℕ) → x < length t → (x < length rows * 6) ⊎ (length rows * 6 ≤ x) → get_or t x 0 ≡ get_or (overwrite (answer_numbers rows) old) x 0
    go x l (inr h) = s.behind x h ∙ sym (overwrite_past (answer_numbers rows) old x (omega (arith, numbers_length rows)))
    go x l (inl h) =
        let e : x / 6 * 6 + x % 6 ≡ x = omega arith in
        let q : x / 6 < length rows = omega arith in
        let d : x % 6 < 6 = omega arith in
        ap (λ (y : ℕ). get_or t y 0) (sym e)
        ∙ number_stands rows old t s (x / 6) q (x % 6) d
        ∙ sym (number_at rows (x / 6) (x % 6) q d)
        ∙ ap (λ (y : ℕ). get_or (answer_numbers rows) y 0) e
        ∙ sym (overwrite_read (answer_numbers rows) old x (omega (arith, numbers_length rows)) (omega arith))

-- both passes together
pub puts_homes : (n m room : ℕ) (t t₁ t₂ : List ℕ) → m ≡ n % 65536 → Widens m t t₁ → SetsHomes m t₁ t₂ room → PutsHomes n t t₂ room
puts_homes n m room t t₁ t₂ em w k rows old e o fits space et =
    let d : m ≡ n = omega (arith, o.few) in
    let c : m ≡ length rows = d ∙ e in
    let lt : length t ≡ length old = ap length et ∙ overwrite-length (four_numbers rows) old in
    let s₁ : Standing rows (λ j. j) t t₁ = w rows c o (omega arith) (λ j l. ap (λ (x : List ℕ). answer_columns x (j * 4)) et ∙ four_stand rows old j (omega arith) (omega arith)) in
    let s₂ : Standing rows (home_row rows) t t₂ = k rows t c o (omega (arith, s₁.len)) (omega arith) s₁ in
    standing_written rows old t₂
    (record {
      len = s₂.len ∙ lt;
      rows_are = s₂.rows_are;
      homes_are = s₂.homes_are;
      highs_are = s₂.highs_are;
      behind = λ x l. s₂.behind x l ∙ ap (λ (y : List ℕ). get_or y x 0) et ∙ overwrite_past (four_numbers rows) old x (omega (arith, four-length rows));
    }) (omega arith)
