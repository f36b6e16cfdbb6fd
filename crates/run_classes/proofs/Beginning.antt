-- The runs of a table's variables at first, from what was placed for the table.
use mathlib.Core.Path.{◌≡◌, refl, sym, ap, ◌∙◌, subst}
use mathlib.Core.Bool.{Bool, true, false}
use mathlib.Core.List.{List, [], ◌∷◌}
use Prim.Native.Nat.{ℕ, zero, suc, ◌+◌, ◌-◌, ◌%◌, ◌≤◌, ◌<◌, min}
use native.Mathlib.Omega.{arith}
use lib.Dec.{eqb}
use lib.ListN.{length, get_or, take, drop}
use lib.Seq.{get_or-take, get_or-drop}
use borrow.Author.Tests.{eqb-true, eqb-false}
use Rattle.laws.specs.Lists.{count_up}
use Rattle.terms.specs.declared.Row.{Row}
use Rattle.terms.specs.Faults.{Accepted, first_fault}
use Rattle.terms.specs.Table.{rows_of, row_at, bits_of}
use Rattle.terms.specs.inner.Places.{first_place}
use Rattle.terms.specs.inner.Placed.{Placed}
use Rattle.terms.proofs.AcceptedTable.{accepted_table, table_bits, table_totals}
use Rattle.terms.proofs.Faults.{kept, kept_width}
use Rattle.terms.proofs.Places.{place_variable, place_other}
use Rattle.terms.proofs.RowKinds.{of_variable, of_other, by_variable}
use Rattle.terms.proofs.Values.{width_variable}
use Rattle.answers.specs.Answer.{variable_widths}
use Rattle.answers.proofs.GeneralSystems.{width_sum}
use Rattle.answers.proofs.Variables.{widths_sum, widths_count}
use Rattle.linking.specs.inner.Classes.{unlinked, Unlinks}
use Rattle.linking.proofs.FromCopy.{held-alone}
use Rattle.slices.specs.Borders.{total, Some, none, some}
use Rattle.runs.specs.inner.Runs.{Runs}
use Rattle.runs.specs.inner.Starts.{StartsRuns}
use Rattle.run_classes.specs.inner.Classes.{shut_at, RunsBegun}

total-sum : (ws : List ℕ) → total ws ≡ width_sum ws
unfolding total width_sum
total-sum [] = refl
total-sum (w ∷ ws) = ap (λ (n : ℕ). w + n) (total-sum ws)

-- where a variable begins
place_total : (t : List Row) (v : ℕ) → first_place t v ≡ total (take v (variable_widths t))
unfolding variable_widths total first_place
place_total [] zero = refl
place_total [] (suc v) = refl
place_total (r ∷ t) zero = refl
place_total (r ∷ t) (suc v) = go (eqb r.kind 0) refl (place_total t)
  where
    go : (b : Bool) → eqb r.kind 0 ≡ b → ((u : ℕ) → first_place t u ≡ total (take u (variable_widths t))) → first_place (r ∷ t) (suc v) ≡ total (take (suc v) (variable_widths (r ∷ t)))
    go true e later =
        let k = eqb-true r.kind 0 e in
        place_variable r t v k ∙ ap (λ (n : ℕ). r.a + n) (later v) ∙ sym (ap (λ (ws : List ℕ). total (take (suc v) ws)) (of_variable r (r.a ∷ variable_widths t) (variable_widths t) k))
    go false e later =
        let k = eqb-false r.kind 0 e in
        place_other r t (suc v) k ∙ later (suc v) ∙ sym (ap (λ (ws : List ℕ). total (take (suc v) ws)) (of_other r (r.a ∷ variable_widths t) (variable_widths t) k))

-- each variable has a bit
widths_some : (t : List Row) → ((r : ℕ) → r < length t → (row_at t r).kind ≡ 0 → 1 ≤ (row_at t r).a) → Some (variable_widths t)
unfolding variable_widths
widths_some [] h = none
widths_some (r ∷ t) h =
    let later = widths_some t (λ i l. h (suc i) (omega arith)) in
    by_variable r (r.a ∷ variable_widths t) (variable_widths t) Some (λ e. some (h 0 (omega arith) e) later) (λ n. later)

table_some : (table : List ℕ) → first_fault table ≡ Accepted → Some (variable_widths (rows_of table))
table_some table a =
    widths_some rows (λ r l e.
    omega (arith, width_variable rows r l e, (kept_width rows r (kept rows r ((accepted_table table a).sound r l)) (omega arith)).0))
  where
    rows : List Row
    rows = rows_of table

pub runs_begun : (table widths places links last first links₁ last' first' : List ℕ) (from n : ℕ) → Placed table widths places → length links ≡ suc (suc (bits_of (rows_of table)))
    → 4098 ≤ length last → 4098 ≤ length first → from ≡ min 512 (length places) → Unlinks links links₁ → length links₁ ≡ length links → n ≡ length links₁ % 65536
    → StartsRuns (take (length places - from) (drop from places)) n last first last' first' → length last' ≡ length last → length first' ≡ length first
    → RunsBegun (rows_of table) links₁ last' first'
runs_begun table widths places links last first links₁ last' first' from n P len r₁ r₂ ef un same en start same₁ same₂ =
    let t : List Row = rows_of table in
    let few : bits_of t ≤ 4096 = table_bits table P.numbered.accepted in
    let alone : links₁ ≡ unlinked t = un (omega arith) ∙ ap (count_up 0) len in
    let m : n ≡ suc (suc (bits_of t)) = omega arith in
    let whole : n ≡ length links₁ = omega arith in
    let ws : List ℕ = variable_widths t in
    let sum : total ws ≡ bits_of t = total-sum ws ∙ widths_sum t in
    let R = start ws (table_some table P.numbered.accepted) (omega arith) (omega arith) (omega arith) (omega arith)
    (λ v l.
    let j : from + v ≡ 512 + v = omega (arith, P.places_room) in
    get_or-take (length places - from) (drop from places) v 0 (omega (arith, P.places_room, widths_count t, few_variables v l)) ∙ get_or-drop from places v 0 ∙ ap (λ (i : ℕ). get_or places i 0) j
    ∙ P.sources_are v (omega (arith, widths_count t)) ∙ ap (λ (i : ℕ). i + 1) (place_total t v)) in
    record {
      alone = alone;
      state = record {
        runs = subst (λ (k : ℕ). Runs (shut_at t) k links₁ last' first') whole (subst (λ (h : List ℕ). Runs (shut_at t) n h last' first') (ap (count_up 0) m ∙ sym alone) R);
        low = rw alone (held-alone t).low;
        few = omega arith;
        last_room = omega arith;
        first_room = omega arith;
        one = rw alone (held-alone t).apart;
      };
    }
  where
    few_variables : (v : ℕ) → v ≤ length (variable_widths (rows_of table)) → v ≤ 64
    few_variables v l = omega (arith, widths_count (rows_of table), (table_totals table P.numbered.accepted).0)
