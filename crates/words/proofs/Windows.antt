-- A window's words counted row by row: what is counted and what the rest of the rows will give is what all give. And what rule 41 says of
-- them. Assumes nothing.
use mathlib.Core.Path.{◌≡◌, refl, sym, ◌∙◌}
use mathlib.Core.Bool.{Bool, true, false, not, ◌||◌, cond, or-true, or-false}
use mathlib.Core.Logic.{◌≢◌, ◌⊎◌, inl, inr}
use mathlib.Core.List.{List, ◌∷◌}
use Prim.Native.Nat.{ℕ, suc, ◌+◌, ◌≤◌, ◌<◌}
use native.Mathlib.Omega.{arith}
use native.Mathlib.Numerals.{add-one}
use lib.ListN.{length, drop, drop_of_length-le}
use lib.Seq.{drop-cons}
use lib.Dec.{eqb}
use borrow.Author.Tests.{eq-eqb, ne_eqb}
use Rattle.laws.proofs.Numbers.{dec_eq}
use Rattle.std.specs.Prelude.{Some, None}
use Rattle.terms.specs.declared.Row.{Row}
use Rattle.terms.specs.Table.{no_row, row_at, count_kind}
use Rattle.terms.proofs.RowKinds.{of_variable, of_other}
use Rattle.answers.specs.Answer.{variable_widths}
use Rattle.windows.specs.Words.{sixteens}
use Rattle.windows.specs.Call.{breaks41}
use Rattle.words.specs.inner.Windows.{window_of, some_window}

-- What all give, where n words are counted before these rows.
unfoldable pub window_from : ℕ → List Row → ℕ
window_from n t = cond (sixteens (variable_widths t)) (n + count_kind 0 t) 0

pub window_first : (t : List Row) → window_from 0 (drop 0 t) ≡ window_of t
unfolding window_from window_of
window_first t = let e : 0 + count_kind 0 t ≡ count_kind 0 t = omega arith in rw e refl

pub window_end : (n : ℕ) (t : List Row) (r : ℕ) → length t ≤ r → window_from n (drop r t) ≡ n
unfolding window_from sixteens variable_widths count_kind
window_end n t r l = rw (drop_of_length-le t {i = r} l) (omega arith)

-- a row more
module _ (n : ℕ) (t : List Row) (r : ℕ) (l : r < length t) where
  abbrev row : Row
  row = row_at t r

  pub window_other : row.kind ≢ 0 → window_from n (drop r t) ≡ window_from n (drop (r + 1) t)
  unfolding window_from sixteens variable_widths count_kind
  window_other h =
      let e : 0 + count_kind 0 (drop (suc r) t) ≡ count_kind 0 (drop (suc r) t) = omega arith in
      rw (drop-cons t r no_row l, add-one r, of_other row (row.a ∷ variable_widths (drop (suc r) t)) (variable_widths (drop (suc r) t)) h, ne_eqb row.kind 0 h, e) refl

  pub window_more : row.kind ≡ 0 → row.a ≡ 16 → window_from n (drop r t) ≡ window_from (n + 1) (drop (r + 1) t)
  unfolding window_from sixteens variable_widths count_kind
  window_more h w =
      let e : n + (1 + count_kind 0 (drop (suc r) t)) ≡ n + 1 + count_kind 0 (drop (suc r) t) = omega arith in
      rw (drop-cons t r no_row l, add-one r, of_variable row (row.a ∷ variable_widths (drop (suc r) t)) (variable_widths (drop (suc r) t)) h, eq-eqb row.kind 0 h, eq-eqb row.a 16 w, e) refl

  pub window_broken : row.kind ≡ 0 → row.a ≢ 16 → window_from n (drop r t) ≡ 0
  unfolding window_from sixteens variable_widths
  window_broken h w =
      rw (drop-cons t r no_row l, of_variable row (row.a ∷ variable_widths (drop (suc r) t)) (variable_widths (drop (suc r) t)) h, ne_eqb row.a 16 w) refl

-- ---- rule 41 by a window's words
pub window_rule : (t : List Row) → breaks41 t ≡ eqb (window_of t) 0
unfolding breaks41 window_of
window_rule t = go (sixteens (variable_widths t))
  where
    go : (b : Bool) → eqb (count_kind 0 t) 0 || not b ≡ eqb (cond b (count_kind 0 t) 0) 0
    go true = or-false (eqb (count_kind 0 t) 0)
    go false = or-true (eqb (count_kind 0 t) 0)

-- a window that has words has one for each variable, of 16 bits each
pub window_there : (t : List Row) (k : ℕ) → k ≡ window_of t → k ≢ 0 → (sixteens (variable_widths t) ≡ true) × (k ≡ count_kind 0 t)
unfolding window_of
window_there t k e n = go (sixteens (variable_widths t)) refl e
  where
    go : (b : Bool) → sixteens (variable_widths t) ≡ b → k ≡ cond b (count_kind 0 t) 0 → (b ≡ true) × (k ≡ count_kind 0 t)
    go true h q = (refl, q)
    go false h q = absurd (n q)

-- ---- the same as an option
pub some_here : (t : List Row) (k : ℕ) → k ≢ 0 → k ≡ window_of t → Some k ≡ some_window t
unfolding some_window
some_here t k n e = rw (← e, ne_eqb k 0 n)

pub none_here : (t : List Row) → window_of t ≡ 0 → None ≡ some_window t
unfolding some_window
none_here t e = rw (eq-eqb (window_of t) 0 e)

pub some_words : (t : List Row) (k : ℕ) → Some k ≡ some_window t → (k ≡ window_of t) × (k ≢ 0)
unfolding some_window
some_words t k e = go (dec_eq (window_of t) 0)
  where
    go : (window_of t ≡ 0) ⊎ (window_of t ≡ 0 → ⊥) → (k ≡ window_of t) × (k ≢ 0)
    go (inl z) = cc (e, eq-eqb (window_of t) 0 z)
    go (inr z) =
        let same : k ≡ window_of t = cc (e, ne_eqb (window_of t) 0 z) in
        (same, λ n. z (sym same ∙ n))

pub no_words : (t : List Row) → None ≡ some_window t → window_of t ≡ 0
unfolding some_window
no_words t e = go (dec_eq (window_of t) 0)
  where
    go : (window_of t ≡ 0) ⊎ (window_of t ≡ 0 → ⊥) → window_of t ≡ 0
    go (inl z) = z
    go (inr z) = cc (e, ne_eqb (window_of t) 0 z)
