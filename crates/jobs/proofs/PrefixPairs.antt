-- The bit pairs of a table up to a row: those of the rows before it, and then pairs of a source with itself. So its ties, its classes and its conflict are those
-- of the table's first equations. Assumes nothing.
use mathlib.Core.Path.{◌≡◌, refl, sym, ◌∙◌, ap, ap₂, subst}
use mathlib.Core.Bool.{true, false}
use mathlib.Core.List.{List, [], ◌∷◌, ◌++◌}
use mathlib.Core.Logic.{◌≢◌, ⊎_elim}
use Prim.Native.Nat.{ℕ, zero, suc, ◌+◌, ◌-◌, ◌<◌, ◌≤◌}
use native.Mathlib.Omega.{arith}
use lib.ListN.{length, take, drop, length-take, length-drop, take-append-drop}
use lib.Seq.{take-add, take-take}
use Rattle.laws.specs.Lists.{count_up}
use Rattle.laws.proofs.Bools.{not_both}
use Rattle.laws.proofs.Numbers.{lt_or_le}
use Rattle.laws.proofs.CountUp.{count_at}
use Rattle.terms.specs.declared.Row.{Row}
use Rattle.terms.specs.Table.{rows_of, row_numbers, row_at, silent_row, bits_of, source_of, evened}
use Rattle.terms.specs.Faults.{Accepted, first_fault}
use Rattle.terms.specs.Counting.{NoLines}
use Rattle.terms.proofs.Alike.{alike_bits}
use Rattle.terms.proofs.LeavingOff.{alike_sources}
use Rattle.terms.proofs.RowKinds.{of_equation, of_term}
use Rattle.terms.proofs.RowNumbers.{rows_written}
use Rattle.answers.specs.Pairs.{Pair, paired, pairs_of, pairs_in, equation_pairs, ties}
use Rattle.answers.specs.Answer.{variable_widths}
use Rattle.answers.specs.Solve.{unsatisfiable, pairs_together, ties_to}
use Rattle.answers.specs.inner.Classes.{rep, run_all, conflict_at, links_before}
use Rattle.answers.proofs.Revised.{same_pairs, alike_variables}
use Rattle.answers.proofs.Tables.{pairs_length, is_never, is_left, all-ties}
use Rattle.answers.proofs.Theorems.{links-before}
use Rattle.jobs.specs.Prefix.{up_to, equation_from}
use Rattle.jobs.proofs.Prefix.{up_count, up_alike, up_before, up_behind, up_past, up_next, up_accepted, up_counting, no_counting}
use Rattle.jobs.proofs.Silent.{Silent, nothing, AllSilent, ended, further, silent_paired, silent_take, silent_together, ties_silent, together_append, all_silent_run, all_silent_conflict, all_silent_links, run_parts, conflict_within, conflict_parts, links_parts, conflict_first, links_first, apart_still}

-- ---- lists of pairs, row by row
front : (r : ℕ) (u t us ts : List Row) → length us ≡ length ts → ((i : ℕ) → i < r → i < length ts → pairs_of u (row_at us i) ≡ pairs_of t (row_at ts i))
    → take r (pairs_in u us) ≡ take r (pairs_in t ts)
unfolding pairs_in
front zero u t us ts n h = refl
front (suc r) u t [] [] n h = refl
front (suc r) u t [] (y ∷ ts) n h = absurd (omega arith)
front (suc r) u t (x ∷ us) [] n h = absurd (omega arith)
front (suc r) u t (x ∷ us) (y ∷ ts) n h =
    ap₂ (λ (p : List Pair) (ps : List (List Pair)). p ∷ ps) (h 0 (omega arith) (omega arith))
    (front r u t us ts (omega arith) (λ i l k. h (suc i) (omega arith) (omega arith)))

back : (r : ℕ) (u us : List Row) → ((i : ℕ) → r ≤ i → i < length us → Silent (pairs_of u (row_at us i))) → AllSilent (drop r (pairs_in u us))
unfolding pairs_in
back zero u [] h = ended
back zero u (x ∷ us) h = further (h 0 (omega arith) (omega arith)) (back zero u us (λ i l k. h (suc i) (omega arith) (omega arith)))
back (suc r) u [] h = ended
back (suc r) u (x ∷ us) h = back r u us (λ i l k. h (suc i) (omega arith) (omega arith))

silent-row : (t : List Row) → Silent (pairs_of t silent_row)
unfolding pairs_of
silent-row t =
    let side = evened (source_of t 0) (source_of t 0) in
    subst Silent (sym (of_equation silent_row (paired side side) [] refl)) (silent_paired side)

term_row : (t : List Row) (row : Row) → row.kind ≢ 4 → Silent (pairs_of t row)
unfolding pairs_of
term_row t row n =
    let left = evened (source_of t row.a) (source_of t row.b) in
    let right = evened (source_of t row.b) (source_of t row.a) in
    subst Silent (sym (of_term row (paired left right) [] n)) nothing

-- ---- of a table without line numbers
pub pairs_plain : (t : List Row) → NoLines t → equation_pairs t ≡ pairs_in t t
pairs_plain t none = ap (pairs_in t) (no_counting t none)

pub up_bits : (r : ℕ) (t : List Row) → bits_of (up_to r t) ≡ bits_of t
up_bits r t = alike_bits 4 (omega arith) (up_to r t) t (up_alike r t)

pub up_variables : (r : ℕ) (t : List Row) → variable_widths (up_to r t) ≡ variable_widths t
up_variables r t = alike_variables (up_to r t) t (up_alike r t)

module _ (r : ℕ) (t : List Row) (none : NoLines t) where
  up_plain : equation_pairs (up_to r t) ≡ pairs_in (up_to r t) (up_to r t)
  up_plain = ap (pairs_in (up_to r t)) (up_counting r t none)

  pub up_front : take r (equation_pairs (up_to r t)) ≡ take r (equation_pairs t)
  up_front =
      ap (take r) up_plain
      ∙ front r (up_to r t) t (up_to r t) t (up_count r t)
      (λ i l h. same_pairs (up_to r t) t (row_at (up_to r t) i) (alike_sources (up_to r t) t (up_alike r t)) ∙ ap (pairs_of t) (up_before r t i l))
      ∙ sym (ap (take r) (pairs_plain t none))

  pub up_back : AllSilent (drop r (equation_pairs (up_to r t)))
  up_back =
      subst (λ (l : List (List Pair)). AllSilent (drop r l)) (sym up_plain)
      (back r (up_to r t) (up_to r t)
      (λ i l h. ⊎_elim (λ e. subst (λ (x : Row). Silent (pairs_of (up_to r t) x)) (sym e) (silent-row (up_to r t)))
      (λ n. term_row (up_to r t) (row_at (up_to r t) i) n)
      (up_behind r t i l (omega (arith, up_count r t)))))

  -- the first r lists of the table's, and then lists that say nothing
  pub up_pairs : equation_pairs (up_to r t) ≡ take r (equation_pairs t) ++ drop r (equation_pairs (up_to r t))
  up_pairs = sym (take-append-drop r (equation_pairs (up_to r t))) ∙ ap (λ (l : List (List Pair)). l ++ drop r (equation_pairs (up_to r t))) up_front

  -- ---- ties
  pub up_ties : (k : ℕ) → r ≤ k → ties_to (up_to r t) k ≡ ties_to t r
  unfolding ties_to
  up_ties k l =
      let e : k ≡ r + (k - r) = omega arith in
      let rest = take (k - r) (drop r (equation_pairs (up_to r t))) in
      ap (λ (m : ℕ). ties m [] (pairs_together (take k (equation_pairs (up_to r t))))) (up_bits r t)
      ∙ ap (λ (qs : List Pair). ties (bits_of t) [] qs)
      (ap pairs_together (ap (λ (m : ℕ). take m (equation_pairs (up_to r t))) e ∙ take-add r (k - r) (equation_pairs (up_to r t)) ∙ ap (λ (l : List (List Pair)). l ++ rest) up_front)
      ∙ together_append (take r (equation_pairs t)) rest)
      ∙ ties_silent (bits_of t) [] (pairs_together (take r (equation_pairs t))) (silent_together (silent_take (k - r) up_back))

  pub up_ties_before : (k : ℕ) → k ≤ r → ties_to (up_to r t) k ≡ ties_to t k
  unfolding ties_to
  up_ties_before k l =
      ap (λ (m : ℕ). ties m [] (pairs_together (take k (equation_pairs (up_to r t))))) (up_bits r t)
      ∙ ap (λ (l : List (List Pair)). ties (bits_of t) [] (pairs_together l))
      (sym (take-take k r (equation_pairs (up_to r t)) l) ∙ ap (take k) up_front ∙ take-take k r (equation_pairs t) l)

-- all ties of it
pub up_ties-all : (r : ℕ) (t : List Row) → NoLines t → ties_to (up_to r t) (length t) ≡ ties_to t r
up_ties-all r t none =
    ⊎_elim (λ l. up_ties r t none (length t) (omega arith))
    (λ l.
    up_ties_before r t none (length t) l
    ∙ sym (ap (λ (s : List Row). ties_to s r) (sym (up_past (length t) t (omega arith))) ∙ up_ties (length t) t none r l))
    (lt_or_le r (length t))

-- the ties up to the next equation are those up to here
pub ties_next : (t : List Row) → NoLines t → (r : ℕ) → r ≤ length t → ties_to t (equation_from t r) ≡ ties_to t r
ties_next t none r l =
    let n = equation_from t r in
    sym (up_ties n t none (n + r) (omega arith)) ∙ ap (λ (s : List Row). ties_to s (n + r)) (up_next t r l) ∙ up_ties r t none (n + r) (omega arith)

-- ---- classes, of sources that are each its own class at first
abbrev pub alone : List Row → List ℕ
alone t = count_up 0 (suc (suc (bits_of t)))

alone_apart : (t : List Row) → rep (alone t) 1 ≢ 0
alone_apart t e = absurd (omega (arith, count_at 0 (suc (suc (bits_of t))) 1 (omega arith)))

module _ (r : ℕ) (t : List Row) (none : NoLines t) (l : r ≤ length t) where
  front_length : length (take r (equation_pairs t)) ≡ r
  front_length = omega (arith, length-take r (equation_pairs t), pairs_length t)

  pub up_run : run_all (alone (up_to r t)) (equation_pairs (up_to r t)) ≡ run_all (alone t) (take r (equation_pairs t))
  up_run =
      ap₂ (λ (m : ℕ) (es : List (List Pair)). run_all (count_up 0 (suc (suc m))) es) (up_bits r t) (up_pairs r t none)
      ∙ run_parts (alone t) (take r (equation_pairs t)) (drop r (equation_pairs (up_to r t)))
      ∙ all_silent_run (run_all (alone t) (take r (equation_pairs t))) (up_back r t none)

  pub conflict_most : conflict_at (alone t) (take r (equation_pairs t)) ≤ r
  conflict_most = omega (arith, conflict_within (alone t) (take r (equation_pairs t)), front_length)

  -- no conflict before row r
  module _ (left : conflict_at (alone t) (take r (equation_pairs t)) ≡ r) where
    whole : conflict_at (alone t) (take r (equation_pairs t)) ≡ length (take r (equation_pairs t))
    whole = left ∙ sym front_length

    pub up_conflict : conflict_at (alone (up_to r t)) (equation_pairs (up_to r t)) ≡ length t
    up_conflict =
        let rest = drop r (equation_pairs (up_to r t)) in
        let c = run_all (alone t) (take r (equation_pairs t)) in
        ap₂ (λ (m : ℕ) (es : List (List Pair)). conflict_at (count_up 0 (suc (suc m))) es) (up_bits r t) (up_pairs r t none)
        ∙ conflict_parts (alone t) (take r (equation_pairs t)) rest whole
        ∙ omega (
          arith,
          all_silent_conflict c (apart_still (alone t) (take r (equation_pairs t)) (alone_apart t) whole) (up_back r t none),
          front_length,
          length-drop r (equation_pairs (up_to r t)),
          pairs_length (up_to r t),
          up_count r t,
        )

    pub up_links : links_before (alone (up_to r t)) (equation_pairs (up_to r t)) ≡ links_before (alone t) (take r (equation_pairs t))
    up_links =
        let rest = drop r (equation_pairs (up_to r t)) in
        let c = run_all (alone t) (take r (equation_pairs t)) in
        ap₂ (λ (m : ℕ) (es : List (List Pair)). links_before (count_up 0 (suc (suc m))) es) (up_bits r t) (up_pairs r t none)
        ∙ links_parts (alone t) (take r (equation_pairs t)) rest whole
        ∙ omega (arith, all_silent_links c (up_back r t none))

  -- a conflict before row r
  module _ (met : conflict_at (alone t) (take r (equation_pairs t)) < r) where
    inside : conflict_at (alone t) (take r (equation_pairs t)) < length (take r (equation_pairs t))
    inside = omega (arith, front_length)

    pub up_conflict_met : conflict_at (alone (up_to r t)) (equation_pairs (up_to r t)) ≡ conflict_at (alone t) (take r (equation_pairs t))
    up_conflict_met =
        ap₂ (λ (m : ℕ) (es : List (List Pair)). conflict_at (count_up 0 (suc (suc m))) es) (up_bits r t) (up_pairs r t none)
        ∙ conflict_first (alone t) (take r (equation_pairs t)) (drop r (equation_pairs (up_to r t))) inside

    pub up_links_met : links_before (alone (up_to r t)) (equation_pairs (up_to r t)) ≡ links_before (alone t) (take r (equation_pairs t))
    up_links_met =
        ap₂ (λ (m : ℕ) (es : List (List Pair)). links_before (count_up 0 (suc (suc m))) es) (up_bits r t) (up_pairs r t none)
        ∙ links_first (alone t) (take r (equation_pairs t)) (drop r (equation_pairs (up_to r t))) inside

-- ---- of an accepted table
module _ (table : List ℕ) (accepted : first_fault table ≡ Accepted) (none : NoLines (rows_of table)) (r : ℕ) (l : r ≤ length (rows_of table)) where
  abbrev t : List Row
  t = rows_of table

  abbrev es : List (List Pair)
  es = equation_pairs (rows_of table)

  -- it written as numbers
  abbrev numbers : List ℕ
  numbers = row_numbers (up_to r (rows_of table))

  read : rows_of numbers ≡ up_to r t
  read = rows_written (up_to r t)

  ok : first_fault numbers ≡ Accepted
  ok = up_accepted r table accepted

  pub up_left : conflict_at (alone (rows_of table)) (take r (equation_pairs (rows_of table))) ≡ r → unsatisfiable (up_to r (rows_of table)) ≡ false
  up_left e = rw read at (is_left numbers ok (rw read (up_conflict r t none l e ∙ sym (up_count r t))))

  pub up_never : conflict_at (alone (rows_of table)) (take r (equation_pairs (rows_of table))) < r → unsatisfiable (up_to r (rows_of table)) ≡ true
  up_never m = rw read at (is_never numbers ok (rw read (omega (arith, up_conflict_met r t none l m, up_count r t))))

  pub left_up : unsatisfiable (up_to r (rows_of table)) ≡ false → conflict_at (alone (rows_of table)) (take r (equation_pairs (rows_of table))) ≡ r
  left_up h = ⊎_elim (λ m. absurd (not_both (up_never m) h)) (λ m. omega (arith, conflict_most r t none l)) (lt_or_le (conflict_at (alone t) (take r es)) r)

  -- the links are the ties
  pub links-ties : unsatisfiable (up_to r (rows_of table)) ≡ false → links_before (alone (rows_of table)) (take r (equation_pairs (rows_of table))) ≡ ties_to (rows_of table) r
  links-ties h =
      sym (up_links r t none l (left_up h))
      ∙ links-before (bits_of (up_to r t)) (equation_pairs (up_to r t))
      ∙ sym (rw read at (all-ties numbers ok (rw read h)))
      ∙ ap (ties_to (up_to r t)) (up_count r t)
      ∙ up_ties-all r t none

-- ---- the rows from one row on, from the classes of those before it
module _ (t : List Row) (r s : ℕ) (first : r ≤ s) (l : s ≤ length t) where
  abbrev so_far : List (List Pair)
  so_far = take r (equation_pairs t)

  abbrev more : List (List Pair)
  more = drop r (take s (equation_pairs t))

  parts : take s (equation_pairs t) ≡ so_far ++ more
  parts = sym (take-append-drop r (take s (equation_pairs t))) ∙ ap (λ (es : List (List Pair)). es ++ more) (take-take r s (equation_pairs t) first)

  pub further_run : run_all (alone t) (take s (equation_pairs t)) ≡ run_all (run_all (alone t) (take r (equation_pairs t))) (drop r (take s (equation_pairs t)))
  further_run = ap (run_all (alone t)) parts ∙ run_parts (alone t) so_far more

  module _ (left : conflict_at (alone t) (take r (equation_pairs t)) ≡ r) where
    to_here : conflict_at (alone t) so_far ≡ length so_far
    to_here = omega (arith, left, length-take r (equation_pairs t), pairs_length t)

    pub further_conflict : conflict_at (alone t) (take s (equation_pairs t)) ≡ r + conflict_at (run_all (alone t) (take r (equation_pairs t))) (drop r (take s (equation_pairs t)))
    further_conflict = ap (conflict_at (alone t)) parts ∙ conflict_parts (alone t) so_far more to_here ∙ omega (arith, length-take r (equation_pairs t), pairs_length t)

    pub further_links : links_before (alone t) (take s (equation_pairs t))
        ≡ links_before (alone t) (take r (equation_pairs t)) + links_before (run_all (alone t) (take r (equation_pairs t))) (drop r (take s (equation_pairs t)))
    further_links = ap (links_before (alone t)) parts ∙ links_parts (alone t) so_far more to_here
