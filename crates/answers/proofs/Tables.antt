-- The answer of an accepted table, through its classes: the three outcomes, each with its record.
use mathlib.Core.Path.{◌≡◌, refl, sym, ◌∙◌, ap, ap₂, fun_ext}
use mathlib.Core.Logic.{◌⊎◌, inl, inr, ◌≢◌}
use mathlib.Core.Bool.{Bool, true, false, not, ◌||◌, and-true}
use mathlib.Core.List.{List, [], ◌∷◌, reverse, reverse_aux}
use Prim.Native.Nat.{ℕ, zero, suc, ◌+◌, ◌^◌, ◌≤◌, ◌<◌}
use native.Mathlib.Omega.{arith}
use lib.Dec.{eqb}
use lib.ListN.{length, take, drop}
use lib.Seq.{take_all}
use borrow.Author.Tests.{not-true}
use Rattle.terms.specs.declared.Row.{Row}
use Rattle.terms.specs.Assignments.{Assignment, every, count}
use Rattle.terms.specs.Faults.{Accepted, first_fault}
use Rattle.terms.specs.Table.{rows_of, row_at, bits_of, bit_of, counting, satisfies}
use Rattle.laws.specs.Lists.{count_up}
use Rattle.terms.proofs.AcceptedTable.{accepted_table}
use Rattle.terms.proofs.Counting.{counting_rows}
use Rattle.terms.proofs.Assignments.{assignment_length, every_at, every_of, count_ext, count_none_of, count-all_of, count-all_at}
use Rattle.terms.specs.Sound.{Sound}
use Rattle.answers.specs.Pairs.{Pair, pairs_of, pairs_in, equation_pairs, satisfies_pairs, ties, equal_under}
use Rattle.answers.proofs.Conflicts.{unsat_at, ties_before}
use Rattle.answers.specs.Representatives.{satisfies_all, all_pairs, none_satisfies, Satisfiable}
use Rattle.laws.specs.Lists.{least}
use Rattle.answers.specs.inner.Classes.{rep, in_class, classes_of, run_all, roots, conflict_at, links_before, Represents}
use Rattle.answers.specs.Answer.{placed, place_row, goes_on, rows_to, variable_widths, answer_rows}
use Rattle.answers.specs.declared.AnswerRow.{AnswerRow}
use Rattle.answers.specs.Solve.{valid, unsatisfiable, satisfies_to, unsat_row, pairs_together, ties_to, solved_rows, always_record, never_record, solved_record, answer_record}
use Rattle.answers.proofs.Agreement.{classes_represent, satisfies-reverse}
use Rattle.laws.proofs.Bools.{same_test}
use Rattle.laws.proofs.Numbers.{lt_or_le, power_same, power_pos}
use Rattle.answers.proofs.Exact.{equals_is}
use Rattle.answers.proofs.Equations.{table_pairs, rows_pairs, counting_pairs, all-pairs}
use Rattle.answers.proofs.Theorems.{apart, satisfying_count, free_and-ties, conflict_place, links-before}
use Rattle.answers.proofs.Together.{run_together, satisfies_together, ties_together, unsat_least, unsat_most, none_below, some_left}

-- a test that agrees at every assignment
pub every_same : (n : ℕ) (f g : List ℕ → Bool) → ((p : List ℕ) → Assignment n p → f p ≡ g p) → every n f ≡ every n g
every_same n f g h =
    same_test (every n f) (every n g)
    (λ e. every_of n g (λ p a. sym (h p a) ∙ every_at n f e p a))
    (λ e. every_of n f (λ p a. h p a ∙ every_at n g e p a))

pub equal_same : (n : ℕ) (f g : List ℕ → Bool) → ((p : List ℕ) → Assignment n p → f p ≡ g p) → equal_under n f ≡ equal_under n g
unfolding equal_under
equal_same n f g h =
    fun_ext (λ s. fun_ext (λ t.
    every_same n (λ p. not (f p) || eqb (bit_of p s) (bit_of p t)) (λ p. not (g p) || eqb (bit_of p s) (bit_of p t))
    (λ p a. ap (λ (b : Bool). not b || eqb (bit_of p s) (bit_of p t)) (h p a))))

rows_length : (t rs : List Row) → length (pairs_in t rs) ≡ length rs
unfolding pairs_in
rows_length t [] = refl
rows_length t (r ∷ rs) = ap suc (rows_length t rs)

-- a list of pairs for each row
pub pairs_length : (t : List Row) → length (equation_pairs t) ≡ length t
pairs_length t = rows_length t (counting t) ∙ (counting_rows t).as_many

pairs_take : (t : List Row) (k : ℕ) (rs : List Row) → pairs_in t (take k rs) ≡ take k (pairs_in t rs)
unfolding pairs_in
pairs_take t zero rs = refl
pairs_take t (suc k) [] = refl
pairs_take t (suc k) (r ∷ rs) = ap (λ (l : List (List Pair)). pairs_of t r ∷ l) (pairs_take t k rs)

take_rows : (k i : ℕ) (rs : List Row) → i < k → row_at (take k rs) i ≡ row_at rs i
take_rows zero i rs l = absurd (omega arith)
take_rows (suc k) i [] l = refl
take_rows (suc k) zero (r ∷ rs) l = refl
take_rows (suc k) (suc i) (r ∷ rs) l = take_rows k i rs (omega arith)

take_most : (k : ℕ) (rs : List Row) → (length (take k rs) ≤ k) × (length (take k rs) ≤ length rs)
take_most zero rs = (omega arith, omega arith)
take_most (suc k) [] = (omega arith, omega arith)
take_most (suc k) (r ∷ rs) = let h = take_most k rs in (omega (arith, h.0), omega (arith, h.1))

module _ (table : List ℕ) (accepted : first_fault table ≡ Accepted) where
  abbrev t : List Row
  t = rows_of table

  abbrev n : ℕ
  n = bits_of (rows_of table)

  abbrev es : List (List Pair)
  es = equation_pairs (rows_of table)

  abbrev qs : List Pair
  qs = pairs_together (equation_pairs (rows_of table))

  -- the classes of the table
  unfoldable pub table_classes : List ℕ
  table_classes = classes_of n qs

  pub classes_run : table_classes ≡ run_all (count_up 0 (suc (suc n))) es
  unfolding table_classes classes_of
  classes_run = run_together (count_up 0 (suc (suc n))) es

  pub represent : Represents n table_classes (reverse qs)
  unfolding table_classes
  represent = classes_represent n qs

  sound : Sound t
  sound = (accepted_table table accepted).sound

  -- an assignment satisfies the table exactly if it satisfies its pairs
  pub satisfies_is : (p : List ℕ) → Assignment n p → satisfies t p ≡ satisfies_pairs p qs
  satisfies_is p a = table_pairs t p sound (assignment_length a) ∙ sym (satisfies_together p es)

  pub satisfies_seen : (p : List ℕ) → Assignment n p → satisfies t p ≡ satisfies_pairs p (reverse qs)
  satisfies_seen p a = satisfies_is p a ∙ sym (satisfies-reverse p qs)

  none_is : unsatisfiable t ≡ none_satisfies n qs
  unfolding unsatisfiable none_satisfies
  none_is = every_same n (λ p. not (satisfies t p)) (λ p. not (satisfies_pairs p qs)) (λ p a. ap not (satisfies_is p a))

  none_together : none_satisfies n qs ≡ none_satisfies n (all_pairs [] es)
  unfolding none_satisfies satisfies_pairs
  none_together =
      every_same n (λ p. not (satisfies_pairs p qs)) (λ p. not (satisfies_pairs p (all_pairs [] es)))
      (λ p a. ap not (satisfies_together p es ∙ sym (and-true (satisfies_all p es)) ∙ sym (all-pairs p [] es)))

  -- the row at which none is left
  to_row : (r : ℕ) (p : List ℕ) → Assignment n p → satisfies_to t r p ≡ satisfies_pairs p (all_pairs [] (take (suc r) es))
  unfolding satisfies_to satisfies_pairs
  to_row r p a =
      rows_pairs t p sound (assignment_length a) (take (suc r) (counting t))
      (λ i l. let e = take_rows (suc r) i (counting t) (omega (arith, (take_most (suc r) (counting t)).0)) in
      rw e (counting_pairs t p sound (assignment_length a) i (omega (arith, (take_most (suc r) (counting t)).1))))
      ∙ ap (satisfies_all p) (pairs_take t (suc r) (counting t))
      ∙ sym (and-true (satisfies_all p (take (suc r) es)))
      ∙ sym (all-pairs p [] (take (suc r) es))

  pub unsat-row : unsat_row t ≡ unsat_at n [] es
  unfolding unsat_row
  unsat-row =
      ap (least (λ r. every n (λ p. not (satisfies_to t r p))) 0) (sym (pairs_length t))
      ∙ unsat_least n [] es (λ r. every n (λ p. not (satisfies_to t r p))) 0 at_row
      ∙ omega arith
    where
      at_row : (j : ℕ) → j < length es → every n (λ p. not (satisfies_to t (0 + j) p)) ≡ none_satisfies n (all_pairs [] (take (suc j) es))
      at_row j l =
          let z : 0 + j ≡ j = omega arith in
          rw z (unfold none_satisfies in (every_same n (λ p. not (satisfies_to t j p)) (λ p. not (satisfies_pairs p (all_pairs [] (take (suc j) es)))) (λ p a. ap not (to_row j p a))))

  pub ties-row : ties_to t (unsat_row t) ≡ ties_before n [] es
  unfolding ties_to
  ties-row = ap (λ (r : ℕ). ties n [] (pairs_together (take r es))) unsat-row ∙ sym (ties_together n [] es)

  -- where the fixed bits fall into one class no assignment is left, and the links before it are the ties
  pub conflict-row : conflict_at (count_up 0 (suc (suc n))) es ≡ unsat_row t
  conflict-row = conflict_place n es ∙ sym unsat-row

  pub links-row : links_before (count_up 0 (suc (suc n))) es ≡ ties_to t (unsat_row t)
  links-row = links-before n es ∙ sym ties-row

  pub ties-all : ties_to t (length t) ≡ ties n [] qs
  unfolding ties_to
  ties-all = ap (λ (l : List (List Pair)). ties n [] (pairs_together l)) (take_all (length t) es (omega (arith, pairs_length t)))

  -- the answer's rows are those of the classes
  module _ (some : unsatisfiable (rows_of table) ≡ false) where
    satisfiable : Satisfiable n qs
    satisfiable = sym none_is ∙ some

    pub apart_one : rep table_classes 1 ≡ 1
    unfolding table_classes
    apart_one = apart n qs satisfiable

    pub same_relation : equal_under n (satisfies t) ≡ in_class table_classes
    unfolding in_class
    same_relation =
        equal_same n (satisfies t) (λ p. satisfies_pairs p (reverse qs)) satisfies_seen
        ∙ fun_ext (λ s. fun_ext (λ u. equals_is n table_classes (reverse qs) represent apart_one s u))

    pub rows_by_classes : answer_rows n (variable_widths t) (equal_under n (satisfies t)) ≡ answer_rows n (variable_widths t) (in_class table_classes)
    rows_by_classes = ap (answer_rows n (variable_widths t)) same_relation

    pub solved-rows : solved_rows t ≡ answer_rows n (variable_widths t) (in_class table_classes)
    unfolding solved_rows
    solved-rows = rows_by_classes

    pub table_count : count n (satisfies t) ≡ 2 ^ roots 2 (drop 2 table_classes)
    unfolding table_classes
    table_count = count_ext n (satisfies t) (λ p. satisfies_pairs p qs) satisfies_is ∙ satisfying_count n qs satisfiable

    pub roots-ties : roots 2 (drop 2 table_classes) + ties_to t (length t) ≡ n
    unfolding table_classes
    roots-ties = ap (λ (x : ℕ). roots 2 (drop 2 (classes_of n qs)) + x) ties-all ∙ free_and-ties n qs satisfiable

    -- every assignment satisfies the table exactly if there are no ties
    pub valid_to : valid t ≡ true → ties_to t (length t) ≡ 0
    unfolding valid
    valid_to h =
        let a = count-all_of n (satisfies t) (every_at n (satisfies t) h) in
        let b = power_same (roots 2 (drop 2 table_classes)) n (sym table_count ∙ a) in
        omega (arith, roots-ties)

    pub valid_of : ties_to t (length t) ≡ 0 → valid t ≡ true
    unfolding valid
    valid_of h =
        let b : roots 2 (drop 2 table_classes) ≡ n = omega (arith, roots-ties) in
        every_of n (satisfies t) (count-all_at n (satisfies t) (table_count ∙ ap (λ (x : ℕ). 2 ^ x) b))

    never_left : unsat_at n [] es ≡ length es
    never_left = go (lt_or_le (unsat_at n [] es) (length es))
      where
        go : (unsat_at n [] es < length es) ⊎ (length es ≤ unsat_at n [] es) → unsat_at n [] es ≡ length es
        go (inl l) =
            let z : false ≡ true = sym (sym none_together ∙ satisfiable) ∙ none_below n [] es l in
            let y : ◌≡◌ {A = ℕ} 0 1 = cc in
            absurd (omega arith)
        go (inr l) = omega (arith, unsat_most n [] es)

    pub all-ties : ties_to t (length t) ≡ ties_before n [] es
    unfolding ties_to
    all-ties =
        sym (ties_together n [] es ∙ ap (λ (r : ℕ). ties n [] (pairs_together (take r es))) (never_left ∙ pairs_length t))

  not_both : valid t ≡ true → unsatisfiable t ≡ true → ⊥
  unfolding valid unsatisfiable
  not_both h k =
      omega (
        arith,
        power_pos n,
        count-all_of n (satisfies t) (every_at n (satisfies t) h),
        count_none_of n (satisfies t) (λ p a. not-true (satisfies t p) (every_at n (λ p. not (satisfies t p)) k p a)),
      )

  pub not_valid : unsatisfiable t ≡ true → valid t ≡ false
  not_valid k = go (valid t) refl
    where
      go : (b : Bool) → valid t ≡ b → b ≡ false
      go false h = refl
      go true h = absurd (not_both h k)

  -- which of the three: the row at which the fixed bits fall into one class tells
  empty_left : none_satisfies n [] ≡ false
  unfolding none_satisfies satisfies_pairs
  empty_left = go (every n (λ p. false)) refl
    where
      go : (b : Bool) → every n (λ p. false) ≡ b → b ≡ false
      go false e = refl
      go true e = absurd (omega (arith, power_pos n, count-all_of n (λ p. false) (every_at n (λ p. false) e), count_none_of n (λ p. false) (λ p a. refl)))

  pub is_never : conflict_at (count_up 0 (suc (suc n))) es < length t → unsatisfiable t ≡ true
  is_never l = none_is ∙ none_together ∙ none_below n [] es (omega (arith, conflict_place n es, pairs_length t))

  pub is_left : conflict_at (count_up 0 (suc (suc n))) es ≡ length t → unsatisfiable t ≡ false
  is_left e = none_is ∙ none_together ∙ some_left n [] es empty_left (sym (conflict_place n es) ∙ e ∙ sym (pairs_length t))

  pub conflict_most : conflict_at (count_up 0 (suc (suc n))) es ≤ length t
  conflict_most = omega (arith, conflict_place n es, unsat_most n [] es, pairs_length t)

  -- the record for each
  pub never-record : conflict_at (count_up 0 (suc (suc n))) es < length t
      → answer_record t ≡ never_record (links_before (count_up 0 (suc (suc n))) es) (conflict_at (count_up 0 (suc (suc n))) es)
  unfolding answer_record
  never-record l =
      let u = is_never l in
      rw (not_valid u, u) (ap₂ never_record (sym links-row) (sym conflict-row))

  pub always-record : conflict_at (count_up 0 (suc (suc n))) es ≡ length t → links_before (count_up 0 (suc (suc n))) es ≡ 0 → answer_record t ≡ always_record n
  unfolding answer_record
  always-record l e = rw (valid_of (is_left l) (all-ties (is_left l) ∙ sym (links-before n es) ∙ e))

  pub solved-record : conflict_at (count_up 0 (suc (suc n))) es ≡ length t → links_before (count_up 0 (suc (suc n))) es ≢ 0
      → answer_record t ≡ solved_record (solved_rows t) (links_before (count_up 0 (suc (suc n))) es)
  unfolding answer_record
  solved-record l e =
      let s = is_left l in
      let k : ties_to t (length t) ≡ links_before (count_up 0 (suc (suc n))) es = all-ties s ∙ sym (links-before n es) in
      rw (open_valid s k, s) (ap (solved_record (solved_rows t)) k)
    where
      open_valid : unsatisfiable t ≡ false → ties_to t (length t) ≡ links_before (count_up 0 (suc (suc n))) es → valid t ≡ false
      open_valid s k = go (valid t) refl
        where
          go : (b : Bool) → valid t ≡ b → b ≡ false
          go false h = refl
          go true h = absurd (e (sym k ∙ valid_to s h))

-- no more rows than places
placed_most : (b : Bool) (r : AnswerRow) (rows : List AnswerRow) → length (placed b r rows) ≤ suc (length rows)
unfolding placed
placed_most b r [] = omega arith
placed_most true r (s ∷ rows) = omega arith
placed_most false r (s ∷ rows) = omega arith

rows-to : (n : ℕ) (ws : List ℕ) (same : ℕ → ℕ → Bool) (i : ℕ) → length (rows_to n ws same i) ≤ i
unfolding rows_to
rows-to n ws same zero = omega arith
rows-to n ws same (suc i) = omega (arith, placed_most (goes_on n ws same i) (place_row n ws same i) (rows_to n ws same i), rows-to n ws same i)

pub rows_few : (n : ℕ) (ws : List ℕ) (same : ℕ → ℕ → Bool) → length (answer_rows n ws same) ≤ n
unfolding answer_rows
rows_few n ws same = omega (arith, reverse-length (rows_to n ws same n) [], rows-to n ws same n)
  where
    reverse-length : (xs ys : List AnswerRow) → length (reverse_aux xs ys) ≡ length xs + length ys
    reverse-length [] ys = omega arith
    reverse-length (x ∷ xs) ys = reverse-length xs (x ∷ ys) ∙ omega arith
