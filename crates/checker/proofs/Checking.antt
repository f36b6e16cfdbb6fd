-- The one pass of the check: with r rows passed, the widths' buffer has their widths, the totals count them, none of
-- them breaks a rule, and the lowest fault of the rows left is that of the table.
use mathlib.Core.Path.{◌≡◌, refl, sym, ◌∙◌, ap, ap₂}
use mathlib.Core.Bool.{Bool, true, false, not, ◌||◌, cond, or-true}
use mathlib.Core.List.{List, [], ◌∷◌}
use Prim.Native.Nat.{ℕ, suc, ◌+◌, ◌-◌, ◌%◌, ◌<◌, ◌≤◌}
use native.Mathlib.Omega.{arith}
use native.Mathlib.Numerals.{add-one}
use borrow.Author.Tests.{lt-ltb, le-ltb, ltb-false, ne_eqb, eqb-true, eqb-false}
use borrow.Author.Count.{below_more}
use lib.Dec.{eqb, ltb}
use lib.ListN.{length, get_or, take, set}
use lib.Seq.{length-take-le, take_all}
use Rattle.terms.specs.declared.Row.{Row}
use Rattle.terms.specs.declared.Fault.{Fault}
use Rattle.std.specs.Prelude.{Err}
use Rattle.terms.specs.declared.Fault.TheVariants.{Shape}
use Rattle.terms.specs.Table.{rows_of, row_at, width_in, widths_of, width_of, bits_in, bits_of, count_kind}
use Rattle.terms.specs.Faults.{Found, Accepted, breaks11, breaks12, breaks13, breaks14, breaks15, breaks40, breaks16, breaks17, misnamed, wrong_width, wrong_bounds, too_many, first_rule, rules_at, fault_at, is_accepted, lowest_fault, first_fault}
use Rattle.checker.specs.inner.Check.{fault_in, rows_before, rows_passed}
use Rattle.rules.specs.inner.Rules.{rules_in}
use Rattle.laws.specs.Buffers.{overwrite}
use Rattle.terms.proofs.RowKinds.{kind_same}
use Rattle.laws.proofs.Bools.{not_both}
use Rattle.terms.proofs.Rows.{rows_length}
use Rattle.laws.proofs.Buffers.{overwrite-length, overwrite_read, overwrite_more}
use Rattle.terms.proofs.Widths.{widths_count, width_row, width_early, widths_more, width_same, bits_more, count_more}
use Rattle.terms.proofs.Faults.{kept, kept_names, rule_same, concat_names, extract_names, widths_small, totals_small, lowest_past, lowest_here}
use Rattle.terms.specs.Sound.{Passed}
use Rattle.terms.proofs.AcceptedTable.{accepted_table}

-- a table of the wrong shape, or too little room: nothing is written
pub wrong_shape : (room : ℕ) (table ws : List ℕ) → fault_in room table ≡ Err Shape → ws ≡ overwrite (widths_of (rows_passed room table)) ws
unfolding rows_passed overwrite widths_of Rattle.terms.specs.Table.by_rows
wrong_shape room table ws e = rw e

pub no_room : (room : ℕ) (table : List ℕ) → room < 512 → Err Shape ≡ fault_in room table
unfolding fault_in
no_room room table h = rw (lt-ltb room 512 h)

pub not_whole : (room : ℕ) (table : List ℕ) → 512 ≤ room → (length table % 4 ≡ 0 → ⊥) → Err Shape ≡ fault_in room table
unfolding fault_in first_fault breaks11
not_whole room table h l = rw (le-ltb room 512 h, ne_eqb (length table % 4) 0 l)

pub too_long : (room : ℕ) (table : List ℕ) → 512 ≤ room → 2048 < length table → Err Shape ≡ fault_in room table
unfolding fault_in first_fault breaks11
too_long room table h l = go (eqb (length table % 4) 0) refl
  where
    go : (b : Bool) → eqb (length table % 4) 0 ≡ b → Err Shape ≡ fault_in room table
    go true e =
        let n : 512 < length (rows_of table) = omega (arith, rows_length table, eqb-true (length table % 4) 0 e) in
        rw (le-ltb room 512 h, lt-ltb 512 (length (rows_of table)) n, or-true)
    go false e = not_whole room table h (eqb-false (length table % 4) 0 e)

pub whole : (room : ℕ) (table : List ℕ) → 512 ≤ room → length table ≤ 2048 → length table % 4 ≡ 0
    → fault_in room table ≡ lowest_fault (rows_of table) 0 (length (rows_of table))
unfolding fault_in first_fault breaks11
whole room table h l m = let n : length (rows_of table) ≤ 512 = omega (arith, rows_length table) in rw (le-ltb room 512 h, m, le-ltb 512 (length (rows_of table)) n)

-- a fault's row: each rule of a row has a fault at it
abbrev AllAt : ℕ → ℕ → List (Bool × Fault) → Type 0
AllAt r n [] = Unit {0}
AllAt r n (s ∷ rules) = (rows_before (Err s.1) n ≡ r) × AllAt r n rules

first-row : (r n : ℕ) (rules : List (Bool × Fault)) → AllAt r n rules → is_accepted (first_rule rules) ≡ false → rows_before (first_rule rules) n ≡ r
unfolding first_rule
first-row r n [] all h = absurd (not_both refl h)
first-row r n (s ∷ rules) all h = go s.0 (first-row r n rules all.1) h
  where
    go : (b : Bool) → (is_accepted (first_rule rules) ≡ false → rows_before (first_rule rules) n ≡ r)
        → is_accepted (cond b (Err s.1) (first_rule rules)) ≡ false → rows_before (cond b (Err s.1) (first_rule rules)) n ≡ r
    go true rest h = all.0
    go false rest h = rest h

fault-row : (t : List Row) (r n : ℕ) → is_accepted (fault_at t r) ≡ false → rows_before (fault_at t r) n ≡ r
unfolding fault_at rules_at
fault-row t r n h = first-row r n (rules_at t r) (refl, (refl, (refl, (refl, (refl, (refl, (refl, tt))))))) h

pub record Checking (table ws₀ ws : List ℕ) (variables bits equations r : ℕ) : Type 0 where
  pub within : r ≤ length (rows_of table)
  pub widths : ws ≡ overwrite (widths_of (take r (rows_of table))) ws₀
  pub n_variables : variables ≡ count_kind 0 (take r (rows_of table))
  pub n_bits : bits ≡ bits_of (take r (rows_of table))
  pub n_equations : equations ≡ count_kind 4 (take r (rows_of table))
  pub passed : Passed (rows_of table) r
  pub rest : lowest_fault (rows_of table) r (length (rows_of table) - r) ≡ lowest_fault (rows_of table) 0 (length (rows_of table))

pub checking_first : (table ws₀ : List ℕ) → Checking table ws₀ ws₀ 0 0 0 0
unfolding overwrite widths_of Rattle.terms.specs.Table.by_rows count_kind bits_of
checking_first table ws₀ =
    record {
      within = omega arith;
      widths = refl;
      n_variables = refl;
      n_bits = refl;
      n_equations = refl;
      passed = λ i h. absurd (omega arith);
      rest = ap (lowest_fault (rows_of table) 0) (omega arith);
    }

module _ (table ws₀ ws : List ℕ) (variables bits equations r : ℕ) (k : Checking table ws₀ ws variables bits equations r)
    (room : 512 ≤ length ws₀) (size : length table ≤ 2048) where
  abbrev rows : List Row
  rows = rows_of table

  few : length rows ≤ 512
  few = omega (arith, rows_length table)

  pub checking_length : length ws ≡ length ws₀
  checking_length = ap length k.widths ∙ overwrite-length (widths_of (take r rows)) ws₀

  done_count : length (widths_of (take r rows)) ≡ r
  done_count = widths_count (take r rows) ∙ length-take-le r rows k.within

  -- the buffer has the widths of the rows passed
  pub checking_read : (i : ℕ) → i < r → get_or ws i 0 ≡ width_of rows i
  checking_read i h =
      ap (λ (l : List ℕ). get_or l i 0) k.widths
      ∙ overwrite_read (widths_of (take r rows)) ws₀ i (omega (arith, done_count)) (omega (arith, few, k.within))
      ∙ width_early rows r i k.within h

  pub checking_totals : (variables ≤ 64) × (bits ≤ 4096) × (equations ≤ 64)
  checking_totals = let s = totals_small rows r k.passed in (omega (arith, s.0, k.n_variables), omega (arith, s.1, k.n_bits), omega (arith, s.2, k.n_equations))

  module _ (l : r < length rows) where
    -- a row's width from the buffer
    width_read : misnamed rows r (row_at rows r) ≡ false → width_in ws (row_at rows r) ≡ width_of rows r
    width_read m =
        let row = row_at rows r in
        width_same ws (widths_of (take r rows)) row
        (λ e.
        let names = concat_names rows r row m e in
        ap₂ ◌+◌ (checking_read row.a names.0.earlier ∙ sym (width_early rows r row.a k.within names.0.earlier))
        (checking_read row.b names.1.earlier ∙ sym (width_early rows r row.b k.within names.1.earlier)))
        ∙ sym (width_row rows r l)

    bounds_read : misnamed rows r (row_at rows r) ≡ false
        → wrong_bounds (row_at rows r) (get_or ws (row_at rows r).a 0) ≡ wrong_bounds (row_at rows r) (width_of rows (row_at rows r).a)
    unfolding wrong_bounds
    bounds_read m =
        let row = row_at rows r in
        kind_same row.kind (λ e. refl) (λ e. refl) (λ e. refl)
        (λ e. ap (λ (w : ℕ). not (ltb row.b w) || ltb row.b row.c) (checking_read row.a (extract_names rows r row m e).earlier))
        (λ e. refl)

    totals_are : too_many (variables + cond (eqb (row_at rows r).kind 0) 1 0) (bits + bits_in (row_at rows r)) (equations + cond (eqb (row_at rows r).kind 4) 1 0) ≡ breaks17 rows r
    unfolding breaks17
    totals_are = rw (k.n_variables, k.n_bits, k.n_equations, count_more 0 rows r l, bits_more rows r l, count_more 4 rows r l)

    -- what the code asks of row r is the row's fault
    pub checking_fault : first_rule (rules_in rows ws r (row_at rows r) (variables + cond (eqb (row_at rows r).kind 0) 1 0) (bits + bits_in (row_at rows r)) (equations + cond (eqb (row_at rows r).kind 4) 1 0))
        ≡ fault_at rows r
    unfolding rules_in fault_at rules_at breaks12 breaks13 breaks14 breaks15 breaks40 breaks16
    checking_fault =
        let small : r % 65536 ≡ r = omega (arith, few) in
        rw small
        (rule_same _ _ _ _ _ refl (λ _.
        rule_same _ _ _ _ _ refl (λ _.
        rule_same _ _ _ _ _ refl (λ m.
        rule_same _ _ _ _ _ (ap (wrong_width (row_at rows r)) (width_read m)) (λ _.
        rule_same _ _ _ _ _ refl (λ _.
        rule_same _ _ _ _ _ (bounds_read m) (λ _.
        rule_same _ _ _ _ _ totals_are (λ _. refl))))))))

    pub checking_answer : (row : Row) (v b e : ℕ) (f : Found) → row ≡ row_at rows r
        → v ≡ variables + cond (eqb row.kind 0) 1 0 → b ≡ bits + bits_in row → e ≡ equations + cond (eqb row.kind 4) 1 0
        → f ≡ first_rule (rules_in rows ws r row v b e) → f ≡ fault_at rows r
    checking_answer row v b e f er ev eb ee ef = ef ∙ rw (ev, eb, ee, er) checking_fault

    -- one more row passed
    pub checking_more : is_accepted (fault_at rows r) ≡ true → (row : Row) (v b e w : ℕ) → row ≡ row_at rows r
        → v ≡ variables + cond (eqb row.kind 0) 1 0 → b ≡ bits + bits_in row → e ≡ equations + cond (eqb row.kind 4) 1 0
        → w ≡ width_in ws row % 65536
        → Checking table ws₀ (set ws r w) v b e (r + 1)
    checking_more a row v b e w er ev eb ee ew =
        let ev' = rw er at ev in
        let eb' = rw er at eb in
        let ee' = rw er at ee in
        let ew' = rw er at ew in
        let now-passed : Passed rows (suc r) = λ i h. below_more (λ (j : ℕ). is_accepted (fault_at rows j) ≡ true) r k.passed a i (omega arith) in
        let m = kept_names rows r (kept rows r a) in
        let w-is : w ≡ width_of rows r = omega (arith, widths_small rows (suc r) l now-passed r (omega arith), width_read m) in
        rw add-one
        (record {
          within = l;
          widths =
              ap₂ (λ (o : List ℕ) (x : ℕ). set o r x) k.widths (w-is ∙ width_row rows r l)
              ∙ overwrite_more (widths_of (take r rows)) ws₀ (width_in (widths_of (take r rows)) (row_at rows r)) r done_count
              ∙ ap (λ (n : List ℕ). overwrite n ws₀) (sym (widths_more rows r l));
          n_variables = omega (arith, count_more 0 rows r l, k.n_variables);
          n_bits = omega (arith, bits_more rows r l, k.n_bits);
          n_equations = omega (arith, count_more 4 rows r l, k.n_equations);
          passed = now-passed;
          rest = sym (ap (lowest_fault rows r) (omega arith) ∙ lowest_past rows r (length rows - suc r) a) ∙ k.rest;
        })

    -- a row that breaks a rule ends the check
    pub checking_ends : is_accepted (fault_at rows r) ≡ false → lowest_fault rows 0 (length rows) ≡ fault_at rows r
    checking_ends a = sym k.rest ∙ ap (lowest_fault rows r) {x = length rows - r} {y = suc (length rows - suc r)} (omega arith) ∙ lowest_here rows r (length rows - suc r) a

    pub checking_written : is_accepted (fault_at rows r) ≡ false → fault_in (length ws₀) table ≡ fault_at rows r
        → ws ≡ overwrite (widths_of (rows_passed (length ws₀) table)) ws₀
    unfolding rows_passed
    checking_written a e =
        k.widths
        ∙ ap (λ (n : ℕ). overwrite (widths_of (take n rows)) ws₀)
        (sym (ap (λ (f : Found). rows_before f (length rows)) e
        ∙ fault-row rows r (length rows) a))

  -- no row left
  pub checking_accepts : length rows ≤ r → lowest_fault rows 0 (length rows) ≡ Accepted
  unfolding lowest_fault
  checking_accepts h = sym k.rest ∙ ap (lowest_fault rows r) {x = length rows - r} {y = 0} (omega arith)

  pub checking_all : length rows ≤ r → fault_in (length ws₀) table ≡ Accepted → ws ≡ overwrite (widths_of (rows_passed (length ws₀) table)) ws₀
  unfolding rows_passed
  checking_all h e =
      k.widths
      ∙ ap (λ (n : ℕ). overwrite (widths_of (take n rows)) ws₀) (let same : r ≡ length rows = omega (arith, k.within) in same ∙ sym (ap (λ (f : Found). rows_before f (length rows)) e))

-- the check with room for 512 widths
pub fault_found : (room : ℕ) (table : List ℕ) → 512 ≤ room → fault_in room table ≡ first_fault table
unfolding fault_in
fault_found room table h = rw (le-ltb room 512 h) refl

pub room_found : (room : ℕ) (table : List ℕ) → fault_in room table ≡ Accepted → 512 ≤ room
unfolding fault_in
room_found room table e = go (ltb room 512) refl e
  where
    go : (b : Bool) → ltb room 512 ≡ b → cond b (Err Shape) (first_fault table) ≡ Accepted → 512 ≤ room
    go true t z = let w : ◌≡◌ {A = ℕ} 0 1 = cc in absurd (omega arith)
    go false t z = omega (arith, ltb-false room 512 t)

-- the widths that an accepted table leaves
pub widths_left : (table old : List ℕ) → 512 ≤ length old → first_fault table ≡ Accepted → (r : ℕ) → r < length (rows_of table)
    → get_or (overwrite (widths_of (rows_passed (length old) table)) old) r 0 ≡ width_of (rows_of table) r
unfolding rows_passed
widths_left table old n f r h =
    let t = accepted_table table f in
    let all : take (rows_before (fault_in (length old) table) (length (rows_of table))) (rows_of table) ≡ rows_of table =
    ap (λ (g : Found). take (rows_before g (length (rows_of table))) (rows_of table)) (fault_found (length old) table n ∙ f)
    ∙ take_all (length (rows_of table)) (rows_of table) (omega arith) in
    ap (λ (l : List Row). get_or (overwrite (widths_of l) old) r 0) all
    ∙ overwrite_read (widths_of (rows_of table)) old r (omega (arith, widths_count (rows_of table))) (omega (arith, t.few))
