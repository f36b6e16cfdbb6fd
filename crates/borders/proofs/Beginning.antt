-- Where variables begin, from the rows of a table, and which variable a place belongs to.
use mathlib.Core.Path.{◌≡◌, refl, ap, ◌∙◌}
use mathlib.Core.Logic.{◌⊎◌, inl, inr}
use mathlib.Core.Bool.{true, cond}
use mathlib.Core.List.{List, [], ◌∷◌, ◌++◌}
use Prim.Native.Nat.{ℕ, zero, suc, ◌+◌, ◌-◌, ◌≤◌, ◌<◌}
use native.Mathlib.Omega.{arith}
use lib.Dec.{eqb, ltb}
use lib.ListN.{length}
use borrow.Author.Tests.{ne_eqb, lt-ltb, le-ltb}
use Rattle.terms.specs.declared.Row.{Row}
use Rattle.terms.specs.Table.{row_at, bits_in}
use Rattle.terms.proofs.RowKinds.{of_variable, of_other, by_variable, bits_variable, bits_other}
use Rattle.answers.specs.Answer.{variable_widths, begins, variable_at}
use Rattle.laws.specs.Lists.{tally}
use Rattle.laws.proofs.Numbers.{lt_or_le}
use Rattle.answers.proofs.GeneralSystems.{width_sum}
use Rattle.answers.proofs.Variables.{begins_first}

-- a list of widths before another
pub begins_low : (ws vs : List ℕ) (i : ℕ) → i < width_sum ws → begins (ws ++ vs) i ≡ begins ws i
unfolding begins width_sum
begins_low [] vs i l = absurd (omega arith)
begins_low (w ∷ ws) vs i l = go (lt_or_le i w) (λ (k : i - w < width_sum ws). begins_low ws vs (i - w) k)
  where
    go : (i < w) ⊎ (w ≤ i) → (i - w < width_sum ws → begins (ws ++ vs) (i - w) ≡ begins ws (i - w))
        → cond (ltb i w) (eqb i 0) (begins (ws ++ vs) (i - w)) ≡ cond (ltb i w) (eqb i 0) (begins ws (i - w))
    go (inl k) r = rw (lt-ltb i w k)
    go (inr k) r = rw (le-ltb i w k) (r (omega arith))

pub begins_high : (ws vs : List ℕ) (i : ℕ) → width_sum ws ≤ i → begins (ws ++ vs) i ≡ begins vs (i - width_sum ws)
unfolding begins width_sum
begins_high [] vs i l = let e : i ≡ i - 0 = omega arith in ap (begins vs) e
begins_high (w ∷ ws) vs i l =
    let e : i - w - width_sum ws ≡ i - (w + width_sum ws) = omega arith in
    rw (le-ltb i w (omega arith)) (begins_high ws vs (i - w) (omega arith) ∙ ap (begins vs) e)

pub begins_past : (ws : List ℕ) (i : ℕ) → width_sum ws ≤ i → begins ws i ≡ true
unfolding begins width_sum
begins_past [] i l = refl
begins_past (w ∷ ws) i l = rw (le-ltb i w (omega arith)) (begins_past ws (i - w) (omega arith))

-- the widths of rows
pub widths_append : (t s : List Row) → variable_widths (t ++ s) ≡ variable_widths t ++ variable_widths s
unfolding variable_widths
widths_append [] s = refl
widths_append (r ∷ t) s =
    let later = widths_append t s in
    by_variable r (r.a ∷ variable_widths t) (variable_widths t) (λ (ws : List ℕ). variable_widths (r ∷ (t ++ s)) ≡ ws ++ variable_widths s)
    (λ e. of_variable r (r.a ∷ variable_widths (t ++ s)) (variable_widths (t ++ s)) e ∙ ap (λ (l : List ℕ). r.a ∷ l) later)
    (λ h. of_other r (r.a ∷ variable_widths (t ++ s)) (variable_widths (t ++ s)) h ∙ later)

-- within one row a variable begins at its high bit only
pub begins-row : (r : Row) (j : ℕ) → j < bits_in r → begins (variable_widths (r ∷ [])) j ≡ eqb j 0
unfolding variable_widths begins
begins-row r j l =
    by_variable r (r.a ∷ []) [] (λ (ws : List ℕ). begins ws j ≡ eqb j 0)
    (λ e. rw (lt-ltb j r.a (omega (arith, bits_variable r e))))
    (λ h. absurd (omega (arith, bits_other r h)))

-- the variable of a place: one less than how many began up to it
abbrev pub Positive : List ℕ → Type 0
Positive [] = Unit {0}
Positive (w ∷ ws) = (1 ≤ w) × Positive ws

pub widths_positive : (t : List Row) → ((r : ℕ) → r < length t → (row_at t r).kind ≡ 0 → 1 ≤ (row_at t r).a) → Positive (variable_widths t)
unfolding variable_widths
widths_positive [] h = tt
widths_positive (r ∷ t) h =
    let later = widths_positive t (λ i l. h (suc i) (omega arith)) in
    by_variable r (r.a ∷ variable_widths t) (variable_widths t) Positive (λ e. (h 0 (omega arith) e, later)) (λ n. later)

variable_zero : (ws : List ℕ) → Positive ws → variable_at ws 0 ≡ 0
unfolding variable_at
variable_zero [] p = refl
variable_zero (w ∷ ws) p = rw (lt-ltb 0 w p.0)

variable_more : (ws : List ℕ) → Positive ws → (i : ℕ) → suc i < width_sum ws → variable_at ws (suc i) ≡ cond (begins ws (suc i)) 1 0 + variable_at ws i
unfolding variable_at begins width_sum
variable_more [] p i l = absurd (omega arith)
variable_more (w ∷ ws) p i l = go (lt_or_le (suc i) w) (lt_or_le i w) (λ (k : suc (i - w) < width_sum ws). variable_more ws p.1 (i - w) k)
  where
    go : (suc i < w) ⊎ (w ≤ suc i) → (i < w) ⊎ (w ≤ i)
        → (suc (i - w) < width_sum ws → variable_at ws (suc (i - w)) ≡ cond (begins ws (suc (i - w))) 1 0 + variable_at ws (i - w))
        → cond (ltb (suc i) w) 0 (suc (variable_at ws (suc i - w)))
        ≡ cond (cond (ltb (suc i) w) (eqb (suc i) 0) (begins ws (suc i - w))) 1 0 + cond (ltb i w) 0 (suc (variable_at ws (i - w)))
    go (inl a) b r = rw (lt-ltb (suc i) w a, lt-ltb i w (omega arith), ne_eqb (suc i) 0 (omega arith))
    go (inr a) (inl b) r =
        let e : suc i - w ≡ 0 = omega arith in
        rw (le-ltb (suc i) w a, lt-ltb i w b, e, begins_first ws, variable_zero ws p.1)
    go (inr a) (inr b) r =
        let e : suc i - w ≡ suc (i - w) = omega arith in
        rw (le-ltb (suc i) w a, le-ltb i w b, e) (omega (arith, r (omega arith)))

pub variable_tally : (ws : List ℕ) → Positive ws → (i : ℕ) → i < width_sum ws → suc (variable_at ws i) ≡ tally (suc i) (begins ws)
unfolding tally
variable_tally ws p zero l = rw (begins_first ws, variable_zero ws p)
variable_tally ws p (suc i) l = omega (arith, variable_more ws p i l, variable_tally ws p i (omega arith))
