-- Which variable a place belongs to, and where it stands within it; the widths of an accepted table's variables.
use mathlib.Core.Path.{◌≡◌, refl, sym, ap, ◌∙◌}
use mathlib.Core.Logic.{◌⊎◌, inl, inr}
use mathlib.Core.Bool.{Bool, true, false, cond}
use mathlib.Core.List.{List, [], ◌∷◌}
use Prim.Native.Nat.{ℕ, suc, ◌-◌, ◌≤◌, ◌<◌}
use native.Mathlib.Omega.{arith}
use lib.Dec.{ltb}
use lib.ListN.{length}
use borrow.Author.Tests.{ne_eqb, lt-ltb, le-ltb}
use Rattle.terms.specs.declared.Row.{Row}
use Rattle.terms.specs.Faults.{Accepted, first_fault}
use Rattle.terms.specs.Table.{rows_of, row_at}
use Rattle.terms.proofs.RowKinds.{by_variable}
use Rattle.terms.proofs.AcceptedTable.{accepted_table, table_totals}
use Rattle.terms.proofs.Faults.{kept, kept_width}
use Rattle.terms.proofs.Values.{width_variable}
use Rattle.answers.specs.Answer.{variable_widths, begins, variable_at}
use Rattle.laws.proofs.Numbers.{lt_or_le}
use Rattle.answers.proofs.GeneralSystems.{width_sum}
use Rattle.answers.proofs.Variables.{widths_count, begins_first}
use Rattle.laws.proofs.Bools.{clash}

-- widths of variables: from 1 to 1,024
abbrev pub Sized : List ℕ → Type 0
Sized [] = Unit {0}
Sized (w ∷ ws) = (1 ≤ w) × (w ≤ 1024) × Sized ws

-- the place of a bit within its variable
unfoldable pub place_in : List ℕ → ℕ → ℕ
place_in [] i = 0
place_in (w ∷ ws) i = cond (ltb i w) i (place_in ws (i - w))

pub variable_first : (ws : List ℕ) → Sized ws → variable_at ws 0 ≡ 0
unfolding variable_at
variable_first [] p = refl
variable_first (w ∷ ws) p = rw (lt-ltb 0 w p.0)

pub place_first : (ws : List ℕ) → place_in ws 0 ≡ 0
unfolding place_in
place_first [] = refl
place_first (w ∷ ws) = go (ltb 0 w) (place_first ws)
  where
    go : (b : Bool) → place_in ws 0 ≡ 0 → cond b 0 (place_in ws (0 - w)) ≡ 0
    go true h = refl
    go false h = let e : 0 - w ≡ 0 = omega arith in ap (place_in ws) e ∙ h

-- the next place begins a variable, or goes on with the one before
pub record Next (ws : List ℕ) (i : ℕ) : Type 0 where
  pub at_begin : begins ws (suc i) ≡ true → (variable_at ws (suc i) ≡ suc (variable_at ws i)) × (place_in ws (suc i) ≡ 0)
  pub within : begins ws (suc i) ≡ false → (variable_at ws (suc i) ≡ variable_at ws i) × (place_in ws (suc i) ≡ suc (place_in ws i))

pub next_place : (ws : List ℕ) → Sized ws → (i : ℕ) → suc i < width_sum ws → Next ws i
unfolding variable_at begins place_in width_sum
next_place [] p i l = absurd (omega arith)
next_place (w ∷ ws) p i l = go (lt_or_le (suc i) w) (lt_or_le i w) (λ (k : suc (i - w) < width_sum ws). next_place ws p.2 (i - w) k)
  where
    go : (suc i < w) ⊎ (w ≤ suc i) → (i < w) ⊎ (w ≤ i) → (suc (i - w) < width_sum ws → Next ws (i - w)) → Next (w ∷ ws) i
    go (inl a) b r =
        record {
          at_begin = rw (lt-ltb (suc i) w a, ne_eqb (suc i) 0 (omega arith)) (λ h. clash true refl (sym h));
          within = rw (lt-ltb (suc i) w a, lt-ltb i w (omega arith)) (λ h. (refl, refl));
        }
    go (inr a) (inl b) r =
        let e : suc i - w ≡ 0 = omega arith in
        record {
          at_begin = rw (le-ltb (suc i) w a, lt-ltb i w b, e) (λ h. (ap suc (variable_first ws p.2), place_first ws));
          within = rw (le-ltb (suc i) w a, lt-ltb i w b, e, begins_first ws) (λ h. clash true refl h);
        }
    go (inr a) (inr b) r =
        let e : suc i - w ≡ suc (i - w) = omega arith in
        let N = r (omega arith) in
        record {
          at_begin = rw (le-ltb (suc i) w a, le-ltb i w b, e) (λ h. let k = N.at_begin h in (ap suc k.0, k.1));
          within = rw (le-ltb (suc i) w a, le-ltb i w b, e) (λ h. let k = N.within h in (ap suc k.0, k.1));
        }

pub place_small : (ws : List ℕ) → Sized ws → (i : ℕ) → i < width_sum ws → place_in ws i < 1024
unfolding place_in width_sum
place_small [] p i l = absurd (omega arith)
place_small (w ∷ ws) p i l = go (lt_or_le i w) (λ (k : i - w < width_sum ws). place_small ws p.2 (i - w) k)
  where
    go : (i < w) ⊎ (w ≤ i) → (i - w < width_sum ws → place_in ws (i - w) < 1024) → cond (ltb i w) i (place_in ws (i - w)) < 1024
    go (inl a) r = rw (lt-ltb i w a) (omega (arith, p.1))
    go (inr a) r = rw (le-ltb i w a) (r (omega arith))

-- the widths in a table
widths_sized : (t : List Row) → ((r : ℕ) → r < length t → (row_at t r).kind ≡ 0 → (1 ≤ (row_at t r).a) × ((row_at t r).a ≤ 1024)) → Sized (variable_widths t)
unfolding variable_widths
widths_sized [] h = tt
widths_sized (r ∷ t) h =
    let later = widths_sized t (λ i l. h (suc i) (omega arith)) in
    by_variable r (r.a ∷ variable_widths t) (variable_widths t) Sized
    (λ e. let k = h 0 (omega arith) e in (k.0, k.1, later))
    (λ n. later)

module _ (table : List ℕ) (accepted : first_fault table ≡ Accepted) where
  pub table_sized : Sized (variable_widths (rows_of table))
  table_sized =
      widths_sized (rows_of table) (λ r l e.
      let w = width_variable (rows_of table) r l e in
      let k = kept_width (rows_of table) r (kept (rows_of table) r ((accepted_table table accepted).sound r l)) (omega arith) in
      (omega (arith, k.0), omega (arith, k.1)))

  pub table_variables : length (variable_widths (rows_of table)) ≤ 64
  table_variables = omega (arith, widths_count (rows_of table), (table_totals table accepted).0)
