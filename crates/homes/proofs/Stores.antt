-- Stores to one row of an answer table: its numbers afterwards, and that all others stay.
use mathlib.Core.Path.{◌≡◌, sym, ◌∙◌, ap}
use mathlib.Core.Logic.{◌⊎◌, inl, inr, ◌≢◌}
use mathlib.Core.List.{List}
use Prim.Native.Nat.{ℕ, ◌+◌, ◌*◌, ◌≤◌, ◌<◌}
use native.Mathlib.Omega.{arith}
use lib.Dec.{eqb}
use lib.ListN.{length, get_or, set, length-set}
use lib.Seq.{get_or-set_same, get_or-set_other}
use borrow.Author.Tests.{eq-eqb, ne_eqb}
use Rattle.laws.specs.Buffers.{set_four}
use Rattle.laws.proofs.Buffers.{four-length}
use Rattle.answers.specs.declared.AnswerRow.{AnswerRow}
use Rattle.answers.specs.inner.FourNumbers.{answer_columns}
use Rattle.homes.specs.inner.Homes.{row_put, home_copied, home_fine}

-- All numbers stay but the n from a place on.
abbrev pub Kept : List ℕ → List ℕ → ℕ → ℕ → Type 0
Kept t t' at n = (x : ℕ) → (x < at) ⊎ (at + n ≤ x) → get_or t' x 0 ≡ get_or t x 0

-- a row by its columns
pub same_columns : (t : List ℕ) (at : ℕ) (r : AnswerRow) → get_or t at 0 ≡ r.variable → get_or t (at + 1) 0 ≡ r.kind → get_or t (at + 2) 0 ≡ r.width
    → get_or t (at + 3) 0 ≡ r.fresh → answer_columns t at ≡ r
same_columns t at r a b c d = rw (a, b, c, d)

-- one store
kept_one : (t : List ℕ) (at v : ℕ) → Kept t (set t at v) at 1
kept_one t at v x (inl l) = get_or-set_other t at x v 0 (λ e. omega arith)
kept_one t at v x (inr l) = get_or-set_other t at x v 0 (λ e. omega arith)

-- stores to places within a part keep what is outside it
pub kept_within : (t t' : List ℕ) (at n lo m : ℕ) → Kept t t' at n → lo ≤ at → at + n ≤ lo + m → Kept t t' lo m
kept_within t t' at n lo m k a b x (inl l) = k x (inl (omega arith))
kept_within t t' at n lo m k a b x (inr l) = k x (inr (omega arith))

kept_then : (t t' t'' : List ℕ) (at n : ℕ) → Kept t t' at n → Kept t' t'' at n → Kept t t'' at n
kept_then t t' t'' at n j k x o = k x o ∙ j x o

module _ (t : List ℕ) (at a b c d : ℕ) where
  abbrev t₁ : List ℕ
  t₁ = set t at a

  abbrev t₂ : List ℕ
  t₂ = set t₁ (at + 1) b

  abbrev t₃ : List ℕ
  t₃ = set t₂ (at + 2) c

  kept_four : Kept t (set_four t at a b c d) at 4
  unfolding set_four
  kept_four =
      kept_then t t₃ (set t₃ (at + 3) d) at 4
      (kept_then t t₂ t₃ at 4
      (kept_then t t₁ t₂ at 4 (kept_within t t₁ at 1 at 4 (kept_one t at a) (omega arith) (omega arith))
      (kept_within t₁ t₂ (at + 1) 1 at 4 (kept_one t₁ (at + 1) b) (omega arith) (omega arith)))
      (kept_within t₂ t₃ (at + 2) 1 at 4 (kept_one t₂ (at + 2) c) (omega arith) (omega arith)))
      (kept_within t₃ (set t₃ (at + 3) d) (at + 3) 1 at 4 (kept_one t₃ (at + 3) d) (omega arith) (omega arith))

  columns_four : at + 4 ≤ length t → answer_columns (set_four t at a b c d) at ≡ record { variable = a; kind = b; width = c; fresh = d }
  unfolding set_four
  columns_four l =
      let n₁ : length t₁ ≡ length t = length-set t at a in
      let n₂ : length t₂ ≡ length t = length-set t₁ (at + 1) b ∙ n₁ in
      let n₃ : length t₃ ≡ length t = length-set t₂ (at + 2) c ∙ n₂ in
      same_columns (set t₃ (at + 3) d) at (record { variable = a; kind = b; width = c; fresh = d })
      (kept_one t₃ (at + 3) d at (inl (omega arith)) ∙ kept_one t₂ (at + 2) c at (inl (omega arith)) ∙ kept_one t₁ (at + 1) b at (inl (omega arith))
      ∙ get_or-set_same t at a 0 (omega arith))
      (kept_one t₃ (at + 3) d (at + 1) (inl (omega arith)) ∙ kept_one t₂ (at + 2) c (at + 1) (inl (omega arith)) ∙ get_or-set_same t₁ (at + 1) b 0 (omega arith))
      (kept_one t₃ (at + 3) d (at + 2) (inl (omega arith)) ∙ get_or-set_same t₂ (at + 2) c 0 (omega arith))
      (get_or-set_same t₃ (at + 3) d 0 (omega arith))

-- the columns of a place are kept where its four numbers are
pub kept_columns : (t t' : List ℕ) (at n x : ℕ) → Kept t t' at n → (x + 4 ≤ at) ⊎ (at + n ≤ x) → answer_columns t' x ≡ answer_columns t x
kept_columns t t' at n x k (inl l) =
    same_columns t' x (answer_columns t x) (k x (inl (omega arith))) (k (x + 1) (inl (omega arith))) (k (x + 2) (inl (omega arith))) (k (x + 3) (inl (omega arith)))
kept_columns t t' at n x k (inr l) =
    same_columns t' x (answer_columns t x) (k x (inr (omega arith))) (k (x + 1) (inr (omega arith))) (k (x + 2) (inr (omega arith))) (k (x + 3) (inr (omega arith)))

-- a row with its own place
module _ (t : List ℕ) (i : ℕ) (r : AnswerRow) (high : ℕ) where
  abbrev four : List ℕ
  four = set_four t (i * 6) r.variable r.kind r.width r.fresh

  abbrev five : List ℕ
  five = set four (i * 6 + 4) r.variable

  pub put_length : length (row_put t i r high) ≡ length t
  unfolding row_put
  put_length = length-set five (i * 6 + 5) high ∙ length-set four (i * 6 + 4) r.variable ∙ four-length t (i * 6) r.variable r.kind r.width r.fresh

  pub put_kept : Kept t (row_put t i r high) (i * 6) 6
  unfolding row_put
  put_kept =
      kept_then t five (set five (i * 6 + 5) high) (i * 6) 6
      (kept_then t four five (i * 6) 6
      (kept_within t four (i * 6) 4 (i * 6) 6 (kept_four t (i * 6) r.variable r.kind r.width r.fresh) (omega arith) (omega arith))
      (kept_within four five (i * 6 + 4) 1 (i * 6) 6 (kept_one four (i * 6 + 4) r.variable) (omega arith) (omega arith)))
      (kept_within five (set five (i * 6 + 5) high) (i * 6 + 5) 1 (i * 6) 6 (kept_one five (i * 6 + 5) high) (omega arith) (omega arith))

  module _ (l : i * 6 + 6 ≤ length t) where
    four_long : length four ≡ length t
    four_long = four-length t (i * 6) r.variable r.kind r.width r.fresh

    five_long : length five ≡ length t
    five_long = length-set four (i * 6 + 4) r.variable ∙ four_long

    pub put_columns : answer_columns (row_put t i r high) (i * 6) ≡ r
    unfolding row_put
    put_columns =
        kept_columns five (set five (i * 6 + 5) high) (i * 6 + 5) 1 (i * 6) (kept_one five (i * 6 + 5) high) (inl (omega arith))
        ∙ kept_columns four five (i * 6 + 4) 1 (i * 6) (kept_one four (i * 6 + 4) r.variable) (inl (omega arith))
        ∙ columns_four t (i * 6) r.variable r.kind r.width r.fresh (omega arith)

    pub put_home : get_or (row_put t i r high) (i * 6 + 4) 0 ≡ r.variable
    unfolding row_put
    put_home = kept_one five (i * 6 + 5) high (i * 6 + 4) (inl (omega arith)) ∙ get_or-set_same four (i * 6 + 4) r.variable 0 (omega (arith, four_long))

    pub put_high : get_or (row_put t i r high) (i * 6 + 5) 0 ≡ high
    unfolding row_put
    put_high = get_or-set_same five (i * 6 + 5) high 0 (omega (arith, five_long))

-- home and high bit copied
module _ (t : List ℕ) (from to : ℕ) where
  abbrev one : List ℕ
  one = set t (to * 6 + 4) (get_or t (from * 6 + 4) 0)

  pub copy-length : length (home_copied t from to) ≡ length t
  unfolding home_copied
  copy-length = length-set one (to * 6 + 5) (get_or t (from * 6 + 5) 0) ∙ length-set t (to * 6 + 4) (get_or t (from * 6 + 4) 0)

  pub copy_kept : Kept t (home_copied t from to) (to * 6 + 4) 2
  unfolding home_copied
  copy_kept =
      kept_then t one (set one (to * 6 + 5) (get_or t (from * 6 + 5) 0)) (to * 6 + 4) 2
      (kept_within t one (to * 6 + 4) 1 (to * 6 + 4) 2 (kept_one t (to * 6 + 4) (get_or t (from * 6 + 4) 0)) (omega arith) (omega arith))
      (kept_within one (set one (to * 6 + 5) (get_or t (from * 6 + 5) 0)) (to * 6 + 5) 1 (to * 6 + 4) 2 (kept_one one (to * 6 + 5) (get_or t (from * 6 + 5) 0)) (omega arith) (omega arith))

  pub copy-home : to * 6 + 6 ≤ length t → get_or (home_copied t from to) (to * 6 + 4) 0 ≡ get_or t (from * 6 + 4) 0
  unfolding home_copied
  copy-home l = kept_one one (to * 6 + 5) (get_or t (from * 6 + 5) 0) (to * 6 + 4) (inl (omega arith)) ∙ get_or-set_same t (to * 6 + 4) (get_or t (from * 6 + 4) 0) 0 (omega arith)

  pub copy_high : to * 6 + 6 ≤ length t → get_or (home_copied t from to) (to * 6 + 5) 0 ≡ get_or t (from * 6 + 5) 0
  unfolding home_copied
  copy_high l = get_or-set_same one (to * 6 + 5) (get_or t (from * 6 + 5) 0) 0 (omega (arith, length-set t (to * 6 + 4) (get_or t (from * 6 + 4) 0)))

-- home and high bit compared, with their own or with those of another row
module _ (t : List ℕ) (w i u from home bit variable high : ℕ) (ew : w ≡ i) (eu : u ≡ from) (eh : home ≡ get_or t (w * 6 + 4) 0) (eb : bit ≡ get_or t (w * 6 + 5) 0) where
  home_here : get_or t (i * 6 + 4) 0 ≡ home
  home_here = ap (λ (x : ℕ). get_or t (x * 6 + 4) 0) (sym ew) ∙ sym eh

  bit_here : get_or t (i * 6 + 5) 0 ≡ bit
  bit_here = ap (λ (x : ℕ). get_or t (x * 6 + 5) 0) (sym ew) ∙ sym eb

  pub own_fine : from ≡ i → home ≡ variable → eqb bit high ≡ home_fine t variable high from i
  unfolding home_fine
  own_fine e h = rw (eq-eqb from i e, home_here, bit_here, eq-eqb home variable h)

  pub own_wrong : from ≡ i → home ≢ variable → eqb home variable ≡ home_fine t variable high from i
  unfolding home_fine
  own_wrong e h = rw (eq-eqb from i e, home_here, bit_here, ne_eqb home variable h)

  pub other_fine : from ≢ i → (home' bit' : ℕ) → home' ≡ get_or t (u * 6 + 4) 0 → bit' ≡ get_or t (u * 6 + 5) 0 → home ≡ home' → eqb bit bit' ≡ home_fine t variable high from i
  unfolding home_fine
  other_fine e home' bit' a b h =
      rw (ne_eqb from i e, home_here, bit_here, ← eu, ← a, ← b, eq-eqb home home' h)

  pub other_wrong : from ≢ i → (home' : ℕ) → home' ≡ get_or t (u * 6 + 4) 0 → home ≢ home' → eqb home home' ≡ home_fine t variable high from i
  unfolding home_fine
  other_wrong e home' a h = rw (ne_eqb from i e, home_here, bit_here, ← eu, ← a, ne_eqb home home' h)
