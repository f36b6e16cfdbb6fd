-- What a window's bits say of a table: they satisfy it exactly if each place agrees with its representative. Assumes nothing.
use mathlib.Core.Path.{◌≡◌, refl, sym, ◌∙◌, ap, ap₂, fun_ext}
use mathlib.Core.Bool.{Bool, true, false, not}
use mathlib.Core.List.{List, reverse}
use mathlib.Core.Logic.{◌⊎◌, inl, inr}
use Prim.Native.Nat.{ℕ, zero, suc, ◌+◌, ◌*◌, ◌/◌, ◌%◌, ◌≤◌, ◌<◌}
use native.Mathlib.Omega.{arith}
use lib.Dec.{eqb}
use lib.ListN.{length, get_or, get_or-eq_default}
use borrow.Author.Tests.{eqb-true, eq-eqb, not-true}
use Rattle.terms.specs.declared.Row.{Row}
use Rattle.terms.specs.Assignments.{Assignment}
use Rattle.terms.specs.Faults.{Accepted, first_fault}
use Rattle.terms.specs.Table.{rows_of, bits_of, bit_of, count_kind, satisfies}
use Rattle.terms.proofs.AcceptedTable.{table_totals}
use Rattle.terms.proofs.Assignments.{every_at}
use Rattle.terms.proofs.Rows.{rows_length}
use Rattle.linking.specs.inner.Classes.{ClassesTaken}
use Rattle.laws.specs.Lists.{count_up, below, least}
use Rattle.laws.proofs.Bools.{same_test}
use Rattle.laws.proofs.Numbers.{lt_or_le}
use Rattle.laws.proofs.Tallies.{below_of, below_at}
use Rattle.answers.specs.Answer.{variable_widths}
use Rattle.answers.specs.Pairs.{Pair, equation_pairs, satisfies_pairs}
use Rattle.answers.specs.Representatives.{representative}
use Rattle.answers.specs.Solve.{valid, unsatisfiable, pairs_together}
use Rattle.answers.specs.inner.Classes.{rep, run_all, conflict_at}
use Rattle.answers.proofs.Agreement.{bit_past}
use Rattle.answers.proofs.Tables.{table_classes, classes_run, represent, equal_same, satisfies_is, satisfies_seen, apart_one, is_left, is_never, conflict_most}
use Rattle.answers.proofs.Exact.{representative_is}
use Rattle.answers.proofs.Theorems.{agrees-at, agrees_of}
use Rattle.groups.specs.inner.Places.{source_bit, agrees_at}
use Rattle.groups.specs.inner.Counts.{linked}
use Rattle.windows.specs.Words.{words_bits, sixteens}
use Rattle.words.specs.inner.Sizes.{lowest_equal, fixed_rows_of, equal_rows_of}
use Rattle.words.specs.inner.Plan.{meets_plan, RowsPut, PutsRows, PutsNever, Tells, Planned}
use Rattle.windows.proofs.WordsBits.{words-at}
use Rattle.windows.proofs.Sixteens.{sixteen_bits, window_bits}

-- ---- the bits of a window

-- The bit of a source is that of the window's bits.
source-bit : (window : List ℕ) (s : ℕ) → bit_of (words_bits window) s ≡ source_bit window s
unfolding bit_of source_bit
source-bit window zero = refl
source-bit window (suc zero) = refl
source-bit window (suc (suc i)) =
    let e : i ≡ 16 * (i / 16) + i % 16 = omega arith in
    ap (λ (n : ℕ). get_or (words_bits window) n 0) e ∙ words-at window (i / 16) (i % 16) (omega arith)

module _ (table : List ℕ) (accepted : first_fault table ≡ Accepted) where
  abbrev t : List Row
  t = rows_of table

  abbrev n : ℕ
  n = bits_of (rows_of table)

  abbrev qs : List Pair
  qs = pairs_together (equation_pairs (rows_of table))

  -- the links are the table's classes, and none points up
  module _ (links : List ℕ) (settled : links ≡ run_all (count_up 0 (suc (suc (bits_of (rows_of table))))) (equation_pairs (rows_of table))) where
    pub links_are : links ≡ table_classes table accepted
    links_are = settled ∙ sym (classes_run table accepted)

    pub links_low : (s : ℕ) → get_or links s 0 ≤ s
    links_low s = rw links_are ((represent table accepted).low s)

  module _ (window : List ℕ) (bits : Assignment (bits_of (rows_of table)) (words_bits window)) where
    -- where two different fixed bits met, none satisfies the table
    pub never_satisfied : conflict_at (count_up 0 (suc (suc n))) (equation_pairs t) < length t → satisfies t (words_bits window) ≡ false
    unfolding unsatisfiable
    never_satisfied l = not-true (satisfies t (words_bits window)) (every_at n (λ p. not (satisfies t p)) (is_never table accepted l) (words_bits window) bits)

    -- else each place has the bit of its representative
    module _ (left : conflict_at (count_up 0 (suc (suc (bits_of (rows_of table))))) (equation_pairs (rows_of table)) ≡ length (rows_of table))
        (links : List ℕ) (settled : links ≡ run_all (count_up 0 (suc (suc (bits_of (rows_of table))))) (equation_pairs (rows_of table))) where
      abbrev p : List ℕ
      p = words_bits window

      same_classes : links ≡ table_classes table accepted
      same_classes = links_are links settled

      -- the bits of two sources, as a plan has them and as an assignment does
      same_bits : (s u : ℕ) → eqb (source_bit window s) (source_bit window u) ≡ eqb (bit_of p s) (bit_of p u)
      same_bits s u = sym (ap₂ eqb (source-bit window s) (source-bit window u))

      satisfied_to : satisfies t p ≡ true → below n (agrees_at links window) ≡ true
      unfolding agrees_at table_classes
      satisfied_to h =
          below_of n (agrees_at links window) (λ i l.
          same_bits (suc (suc i)) (get_or links (suc (suc i)) 0)
          ∙ eq-eqb (bit_of p (suc (suc i))) (bit_of p (get_or links (suc (suc i)) 0))
          (agrees-at n qs p bits (sym (satisfies_is table accepted p bits) ∙ h) (suc (suc i)) ∙ ap (λ (c : List ℕ). bit_of p (get_or c (suc (suc i)) 0)) (sym same_classes)))

      -- a source past the last place has bit 0, and so has its representative
      past : (i : ℕ) → n ≤ i → bit_of p (suc (suc i)) ≡ bit_of p (rep (table_classes table accepted) (suc (suc i)))
      unfolding bit_of
      past i l =
          bit_past bits (suc (suc i)) (omega arith)
          ∙ ap (bit_of p) (sym (get_or-eq_default (table_classes table accepted) 0 {n = suc (suc i)} (omega (arith, (represent table accepted).len))))

      each : below n (agrees_at links window) ≡ true → (s : ℕ) → bit_of p s ≡ bit_of p (rep (table_classes table accepted) s)
      unfolding agrees_at
      each h zero = let e : 0 ≡ rep (table_classes table accepted) 0 = omega (arith, (represent table accepted).low 0) in ap (bit_of p) e
      each h (suc zero) = ap (bit_of p) (sym (apart_one table accepted (is_left table accepted left)))
      each h (suc (suc i)) = go (lt_or_le i n)
        where
          go : (i < n) ⊎ (n ≤ i) → bit_of p (suc (suc i)) ≡ bit_of p (rep (table_classes table accepted) (suc (suc i)))
          go (inl l) =
              eqb-true (bit_of p (suc (suc i))) (bit_of p (get_or links (suc (suc i)) 0)) (sym (same_bits (suc (suc i)) (get_or links (suc (suc i)) 0)) ∙ below_at n (agrees_at links window) h i l)
              ∙ ap (λ (c : List ℕ). bit_of p (get_or c (suc (suc i)) 0)) same_classes
          go (inr l) = past i l

      satisfied_of : below n (agrees_at links window) ≡ true → satisfies t p ≡ true
      unfolding table_classes
      satisfied_of h = satisfies_is table accepted p bits ∙ agrees_of n qs p bits (each h)

      pub satisfied : below n (agrees_at links window) ≡ satisfies t (words_bits window)
      satisfied = same_test (below n (agrees_at links window)) (satisfies t (words_bits window)) satisfied_of satisfied_to

-- ---- the representatives of a table

-- The links have for each source the lowest that equals it under the table.
pub lowest-links : (table : List ℕ) (accepted : first_fault table ≡ Accepted)
    → conflict_at (count_up 0 (suc (suc (bits_of (rows_of table))))) (equation_pairs (rows_of table)) ≡ length (rows_of table) → (links : List ℕ)
    → links ≡ run_all (count_up 0 (suc (suc (bits_of (rows_of table))))) (equation_pairs (rows_of table)) → linked links ≡ lowest_equal (rows_of table)
unfolding lowest_equal representative
lowest-links table accepted left links settled =
    fun_ext (λ s.
    ap (λ (c : List ℕ). get_or c s 0) (links_are table accepted links settled)
    ∙ sym (representative_is (n table accepted) (table_classes table accepted) (reverse (qs table accepted)) (represent table accepted) (apart_one table accepted (is_left table accepted left)) s)
    ∙ ap (λ (same : ℕ → ℕ → Bool). least (same s) 0 s)
    (sym (equal_same (n table accepted) (satisfies (t table accepted)) (λ p. satisfies_pairs p (reverse (qs table accepted))) (satisfies_seen table accepted))))

-- ---- the plan of a table

module _ (table links : List ℕ) (row ties k : ℕ) (plan plan' : List ℕ) (accepted : first_fault table ≡ Accepted)
    (taken : ClassesTaken (rows_of table) links row ties) (sixteen : sixteens (variable_widths (rows_of table)) ≡ true) (room : 4352 ≤ length plan) where
  -- two different fixed bits met
  module _ (l : row < length table / 4) (put : PutsNever plan plan') where
    met : conflict_at (count_up 0 (suc (suc (bits_of (rows_of table))))) (equation_pairs (rows_of table)) < length (rows_of table)
    met = omega (arith, taken.row_is, rows_length table)

    pub tells_never : Tells table plan'
    tells_never window w = (put room).meets window ∙ sym (never_satisfied table accepted window (window_bits (rows_of table) sixteen window w) met)

    pub planned_never : Planned table plan'
    unfolding fixed_rows_of equal_rows_of
    planned_never = (tells_never, rw (is_never table accepted met) (put room).sized)

  -- none did
  module _ (l : length table / 4 ≤ row) (e : k ≡ count_kind 0 (rows_of table)) (put : PutsRows links k plan plan') where
    whole : row ≡ length (rows_of table)
    whole = omega (arith, taken.row_is, conflict_most table accepted, rows_length table)

    left : conflict_at (count_up 0 (suc (suc (bits_of (rows_of table))))) (equation_pairs (rows_of table)) ≡ length (rows_of table)
    left = sym taken.row_is ∙ whole

    rows : RowsPut links k plan'
    rows = put (omega (arith, (table_totals table accepted).0)) room (links_low table accepted links (taken.settled whole))

    pub tells_rows : Tells table plan'
    tells_rows window w =
        let n : 16 * k ≡ bits_of (rows_of table) = omega (arith, sixteen_bits (rows_of table) sixteen) in
        rows.meets window
        ∙ ap (λ (m : ℕ). below m (agrees_at links window)) n
        ∙ satisfied table accepted window (window_bits (rows_of table) sixteen window w) left links (taken.settled whole)

    pub planned_rows : Planned table plan'
    unfolding fixed_rows_of equal_rows_of
    planned_rows =
        (tells_rows, rw (is_left table accepted left, ← lowest-links table accepted left links (taken.settled whole), ← e) rows.sized)

-- ---- (e): what a plan tells of a never table and of an always table

module _ (table plan : List ℕ) (accepted : first_fault table ≡ Accepted) (sixteen : sixteens (variable_widths (rows_of table)) ≡ true) (tells : Tells table plan) where
  pub never_none : unsatisfiable (rows_of table) ≡ true → (window : List ℕ) → length window ≡ count_kind 0 (rows_of table) → meets_plan plan window ≡ false
  unfolding unsatisfiable
  never_none u window w =
      tells window w
      ∙ not-true (satisfies (rows_of table) (words_bits window)) (every_at (bits_of (rows_of table)) (λ p. not (satisfies (rows_of table) p)) u (words_bits window) (window_bits (rows_of table) sixteen window w))

  pub always_all : valid (rows_of table) ≡ true → (window : List ℕ) → length window ≡ count_kind 0 (rows_of table) → meets_plan plan window ≡ true
  unfolding valid
  always_all u window w =
      tells window w ∙ every_at (bits_of (rows_of table)) (satisfies (rows_of table)) u (words_bits window) (window_bits (rows_of table) sixteen window w)
