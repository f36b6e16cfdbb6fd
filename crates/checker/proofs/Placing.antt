-- The places of a table's variables: with r rows passed, the buffer has the variables before each of them, and behind 512 numbers the
-- source before each variable up to the next one.
use mathlib.Core.Path.{◌≡◌, refl, sym, ◌∙◌, ap}
use mathlib.Core.List.{List}
use mathlib.Core.Logic.{⊎_elim}
use mathlib.Core.Bool.{cond}
use Prim.Native.Nat.{ℕ, suc, ◌+◌, ◌-◌, ◌*◌, ◌%◌, ◌<◌, ◌≤◌}
use lib.Dec.{eqb}
use native.Mathlib.Omega.{arith}
use native.Mathlib.Numerals.{add-one}
use lib.ListN.{length, get_or, take, set, length-set}
use lib.Seq.{take_all, get_or-set_same, get_or-set_other}
use borrow.Author.Tests.{eq-eqb, ne_eqb}
use Rattle.terms.specs.declared.Row.{Row}
use Rattle.terms.specs.Table.{rows_of, row_at, bits_in, bits_of, count_kind}
use Rattle.terms.specs.Faults.{Accepted, first_fault}
use Rattle.terms.specs.inner.Places.{source_before}
use Rattle.terms.specs.inner.Placed.{VariablesAre, SourcesAre}
use Rattle.checker.specs.inner.Check.{row_placed}
use Rattle.laws.proofs.Numbers.{dec_eq, lt_or_le}
use Rattle.terms.proofs.AcceptedTable.{accepted_table}
use Rattle.terms.proofs.Faults.{totals_small}
use Rattle.terms.proofs.Places.{place_first, place-row}
use Rattle.terms.proofs.RowKinds.{bits_variable, bits_other}
use Rattle.terms.proofs.Widths.{bits_more, count_more}

-- a row that is placed, by its kind
module _ (ps : List ℕ) (r : ℕ) (row : Row) (v b : ℕ) where
  pub placed_variable : row.kind ≡ 0 → set (set ps r ((v - 1) % 65536)) (512 + v) ((b + 1) % 65536) ≡ row_placed ps r row v b
  unfolding row_placed
  placed_variable z = rw (eq-eqb row.kind 0 z) refl

  pub placed_other : (row.kind ≡ 0 → ⊥) → set ps r (v % 65536) ≡ row_placed ps r row v b
  unfolding row_placed
  placed_other z = rw (ne_eqb row.kind 0 z) refl

pub record Placing (table : List ℕ) (room : ℕ) (ps : List ℕ) (bits v r : ℕ) : Type 0 where
  pub within : r ≤ length (rows_of table)
  pub n_bits : bits ≡ bits_of (take r (rows_of table))
  pub few : bits ≤ r * 65535
  pub counted : v ≡ count_kind 0 (take r (rows_of table))
  pub few_counted : v ≤ r
  pub same_room : length ps ≡ room
  pub variables_are : first_fault table ≡ Accepted → 512 ≤ room → (j : ℕ) → j < r → get_or ps j 0 ≡ count_kind 0 (take j (rows_of table))
  pub sources_are : first_fault table ≡ Accepted → 577 ≤ room → (j : ℕ) → j ≤ v → get_or ps (512 + j) 0 ≡ source_before (rows_of table) j

pub placing_first : (table old ps : List ℕ) → ps ≡ set old 512 1 → Placing table (length ps) ps 0 0 0
unfolding bits_of count_kind
placing_first table old ps e =
    record {
      within = omega arith;
      n_bits = refl;
      few = omega arith;
      counted = refl;
      few_counted = omega arith;
      same_room = refl;
      variables_are = λ f m j h. absurd (omega arith);
      sources_are =
          λ f m j h.
          let z : j ≡ 0 = omega arith in
          rw (e, z) (get_or-set_same old 512 1 0 (omega (arith, ap length e, length-set old 512 1)) ∙ omega (arith, place_first (rows_of table)));
    }

module _ (table : List ℕ) (room : ℕ) (ps : List ℕ) (bits v r : ℕ) (k : Placing table room ps bits v r) where
  abbrev rows : List Row
  rows = rows_of table

  -- one row more: its number is stored
  module _ (l : r < length rows) (x : ℕ) (ex : x ≡ v % 65536) (ps' : List ℕ) (e' : ps' ≡ set ps r x) where
    few_rows : first_fault table ≡ Accepted → r < 512
    few_rows f = omega (arith, (accepted_table table f).few)

    same_length : length ps' ≡ room
    same_length = ap length e' ∙ length-set ps r x ∙ k.same_room

    variable_read : first_fault table ≡ Accepted → 512 ≤ room → (j : ℕ) → j < suc r → get_or ps' j 0 ≡ count_kind 0 (take j rows)
    variable_read f fits j h =
        ⊎_elim (λ m. rw e' (get_or-set_other ps r j x 0 (λ z. omega arith)) ∙ k.variables_are f fits j m)
        (λ m.
        let ej : j ≡ r = omega arith in
        let n : x ≡ count_kind 0 (take r rows) = omega (arith, few_rows f, k.counted, k.few_counted) in
        rw (e', ej) (get_or-set_same ps r x 0 (omega (arith, few_rows f, k.same_room)) ∙ n))
        (lt_or_le j r)

    source_read : first_fault table ≡ Accepted → 577 ≤ room → (j : ℕ) → j ≤ v → get_or ps' (512 + j) 0 ≡ source_before rows j
    source_read f fits j h = rw e' (get_or-set_other ps r (512 + j) x 0 (λ z. omega (arith, few_rows f))) ∙ k.sources_are f fits j h

    pub placing_other : ((row_at rows r).kind ≡ 0 → ⊥) → Placing table room ps' bits v (r + 1)
    placing_other n =
        rw (add-one r)
        (record {
          within = l;
          n_bits = omega (arith, bits_more rows r l, bits_other (row_at rows r) n, k.n_bits);
          few = omega (arith, k.few);
          counted = k.counted ∙ sym (count_more 0 rows r l ∙ rw (ne_eqb (row_at rows r).kind 0 n) (omega arith));
          few_counted = omega (arith, k.few_counted);
          same_room = same_length;
          variables_are = variable_read;
          sources_are = source_read;
        })

    pub placing_variable : (row_at rows r).kind ≡ 0 → (wide y : ℕ) (ps'' : List ℕ) → wide ≡ (row_at rows r).a → wide ≤ 65535 → y ≡ (bits + wide + 1) % 65536
        → ps'' ≡ set ps' (512 + (v + 1)) y → Placing table room ps'' (bits + wide) (v + 1) (r + 1)
    placing_variable n wide y ps'' ew small ey e'' =
        rw (add-one r)
        (record {
          within = l;
          n_bits = all;
          few = omega (arith, k.few);
          counted = count;
          few_counted = omega (arith, k.few_counted);
          same_room = ap length e'' ∙ length-set ps' (512 + (v + 1)) y ∙ same_length;
          variables_are = λ f fits j h. rw e'' (get_or-set_other ps' (512 + (v + 1)) j y 0 (λ z. omega (arith, few_rows f))) ∙ variable_read f fits j h;
          sources_are = next;
        })
      where
        all : bits + wide ≡ bits_of (take (suc r) rows)
        all = omega (arith, bits_more rows r l, bits_variable (row_at rows r) n, k.n_bits)

        count : v + 1 ≡ count_kind 0 (take (suc r) rows)
        count = ap (λ (m : ℕ). m + 1) k.counted ∙ sym (count_more 0 rows r l ∙ rw (eq-eqb (row_at rows r).kind 0 n))

        next : first_fault table ≡ Accepted → 577 ≤ room → (j : ℕ) → j ≤ v + 1 → get_or ps'' (512 + j) 0 ≡ source_before rows j
        next f fits j h =
            let totals = totals_small rows (suc r) (λ i m. (accepted_table table f).sound i (omega arith)) in
            ⊎_elim
            (λ m. rw e'' (get_or-set_other ps' (512 + (v + 1)) (512 + j) y 0 (λ z. omega arith)) ∙ source_read f fits j (omega arith))
            (λ m.
            let ej : j ≡ v + 1 = omega arith in
            let y_is : y ≡ source_before rows (count_kind 0 (take (suc r) rows)) = omega (arith, all, place-row rows (suc r), totals.1) in
            rw (e'', ej)
            (get_or-set_same ps' (512 + (v + 1)) y 0 (omega (arith, same_length, count, totals.0)) ∙ y_is ∙ ap (source_before rows) (sym count)))
            (lt_or_le j (v + 1))

  -- one row more, whatever its kind
  pub placing_row : r < length rows → (row : Row) → row ≡ row_at rows r → (v' b' n : ℕ) → v' ≡ v + cond (eqb row.kind 0) 1 0 → b' ≡ bits + n
      → (n ≡ bits_in row) × (n ≤ 65535) → (ps' : List ℕ) → ps' ≡ row_placed ps r row v' b' → Placing table room ps' b' v' (r + 1)
  unfolding row_placed
  placing_row l row er v' b' n ev eb en ps' e =
      ⊎_elim
      (λ z.
      let kind : (row_at rows r).kind ≡ 0 = ap (λ (x : Row). x.kind) (sym er) ∙ z in
      let test = eq-eqb row.kind 0 z in
      let more : v' ≡ v + 1 = rw test at ev in
      let wide : n ≡ (row_at rows r).a = en.0 ∙ ap bits_in er ∙ bits_variable (row_at rows r) kind in
      let x : ℕ = (v' - 1) % 65536 in
      let there : ps' ≡ set (set ps r x) (512 + (v + 1)) ((b' + 1) % 65536) = rw test at e ∙ ap (λ (i : ℕ). set (set ps r x) (512 + i) ((b' + 1) % 65536)) more in
      rw (more, eb)
      (placing_variable l x (ap (λ (i : ℕ). i % 65536) (omega arith)) (set ps r x) refl kind n _ ps' wide en.1 (ap (λ (i : ℕ). (i + 1) % 65536) eb) there))
      (λ z.
      let kind : (row_at rows r).kind ≡ 0 → ⊥ = λ k. z (ap (λ (x : Row). x.kind) er ∙ k) in
      let test = ne_eqb row.kind 0 z in
      let same : v' ≡ v = omega (arith, rw test at ev) in
      let none : b' ≡ bits = omega (arith, eb, en.0 ∙ ap bits_in er ∙ bits_other (row_at rows r) kind) in
      rw (same, none)
      (placing_other l (v' % 65536) (ap (λ (i : ℕ). i % 65536) same) ps' (rw test at e) kind))
      (dec_eq row.kind 0)

  -- all rows are passed: what is left of an accepted table
  pub placing_done : length rows ≤ r → bits ≡ bits_of rows
  placing_done h = k.n_bits ∙ ap bits_of (take_all r rows h)

  pub placing_variables : length rows ≤ r → first_fault table ≡ Accepted → 512 ≤ room → VariablesAre rows ps
  placing_variables h f m j i = k.variables_are f m j (omega arith)

  pub placing_sources : length rows ≤ r → first_fault table ≡ Accepted → 577 ≤ room → SourcesAre rows ps
  placing_sources h f m j i = k.sources_are f m j (omega (arith, k.counted, ap (count_kind 0) (take_all r rows h)))
