-- A table with its revised equations left off has the answer of the table (document 02, (vii)): what the answer asks of a table are its
-- variables and the bit pairs of what counts in it, and those stay. Assumes nothing.
use mathlib.Core.Path.{◌≡◌, refl, sym, ◌∙◌, ap, ap₂, fun_ext}
use mathlib.Core.Bool.{true, not, ◌||◌}
use mathlib.Core.List.{List, [], ◌∷◌, reverse_aux}
use mathlib.Core.Logic.{⊎_elim}
use Prim.Native.Nat.{ℕ, zero, suc, ◌+◌}
use native.Mathlib.Omega.{arith}
use lib.Dec.{eqb}
use lib.ListN.{length, get_or, take, get_or-eq_default}
use borrow.Author.Tests.{eq-eqb}
use Rattle.laws.proofs.Bools.{or_right}
use Rattle.laws.proofs.Numbers.{lt_or_le}
use Rattle.terms.specs.declared.Row.{Row}
use Rattle.terms.specs.Counting.{Revised, Counts}
use Rattle.terms.specs.Table.{rows_of, row_numbers, row_at, no_row, if_variable, bits_of, bit_of, sources_of, source_of, evened, silent_row, counting, satisfies}
use Rattle.terms.specs.Faults.{Accepted, first_fault}
use Rattle.terms.proofs.Assignments.{every_of}
use Rattle.terms.proofs.RowKinds.{Equation, of_other, of_equation, of_term}
use Rattle.terms.proofs.RowNumbers.{rows_written}
use Rattle.terms.proofs.Alike.{Alike, head_alike, tail_alike, alike_use, alike_bits}
use Rattle.terms.proofs.LeavingOff.{alike_values, alike_sources}
use Rattle.terms.proofs.Counting.{counting_rows, revised-or-not, counting-alike, counting_once, counting_accepted}
use Rattle.terms.proofs.Revising.{counting-satisfies}
use Rattle.answers.specs.Pairs.{Pair, paired, pairs_of, pairs_in, equation_pairs, equal_under, satisfies_pairs, equals, ties}
use Rattle.answers.specs.Answer.{variable_widths}
use Rattle.answers.specs.Solve.{valid, unsatisfiable, satisfies_to, unsat_row, pairs_together, ties_to, solved_rows, answer_record, solve_record, answer_after, work_after}
use Rattle.answers.specs.Revised.{SameCounting, SaysNothing}
use Rattle.answers.proofs.Never.{never-row}
use Rattle.answers.proofs.Together.{ties-append}

-- tables that differ at most in what their equations say have the same variables
pub alike_variables : (ss rs : List Row) → Alike 4 ss rs → variable_widths ss ≡ variable_widths rs
unfolding variable_widths
alike_variables [] [] a = refl
alike_variables [] (r ∷ rs) a = absurd (omega (arith, a.count))
alike_variables (s ∷ ss) [] a = absurd (omega (arith, a.count))
alike_variables (s ∷ ss) (r ∷ rs) a =
    ap (λ (ws : List ℕ). if_variable s (s.a ∷ ws) ws) (alike_variables ss rs (tail_alike 4 s r ss rs a))
    ∙ alike_use 4 (λ (x : Row). if_variable x (x.a ∷ variable_widths rs) (variable_widths rs)) s r (head_alike 4 s r ss rs a)
    (λ x e y f. of_other x _ (variable_widths rs) (λ z. absurd (omega arith)) ∙ sym (of_other y _ (variable_widths rs) (λ z. absurd (omega arith))))

-- bit pairs ask for the sources alone
pub same_pairs : (u t : List Row) (r : Row) → sources_of u ≡ sources_of t → pairs_of u r ≡ pairs_of t r
unfolding pairs_of
same_pairs u t r e = rw e

sources_pairs : (u t rs : List Row) → sources_of u ≡ sources_of t → pairs_in u rs ≡ pairs_in t rs
unfolding pairs_in
sources_pairs u t [] e = refl
sources_pairs u t (r ∷ rs) e = ap₂ (λ (p : List Pair) (ps : List (List Pair)). p ∷ ps) (same_pairs u t r e) (sources_pairs u t rs e)

module _ (t : List Row) where
  bits : bits_of (counting t) ≡ bits_of t
  bits = alike_bits 4 (omega arith) (counting t) t (counting-alike t)

  satisfies_same : satisfies (counting t) ≡ satisfies t
  satisfies_same = fun_ext (λ p. counting-satisfies t p)

  satisfies_to_same : satisfies_to (counting t) ≡ satisfies_to t
  unfolding satisfies_to
  satisfies_to_same = fun_ext (λ r. fun_ext (λ p. rw (counting_once t, alike_values (counting t) t (counting-alike t) p)))

  pairs_same : equation_pairs (counting t) ≡ equation_pairs t
  pairs_same = ap (pairs_in (counting t)) (counting_once t) ∙ sources_pairs (counting t) t (counting t) (alike_sources (counting t) t (counting-alike t))

  rows_same : solved_rows (counting t) ≡ solved_rows t
  unfolding solved_rows
  rows_same = rw (bits, satisfies_same, alike_variables (counting t) t (counting-alike t))

  row_same : unsat_row (counting t) ≡ unsat_row t
  unfolding unsat_row
  row_same = rw (bits, satisfies_to_same, (counting_rows t).as_many)

  ties_same : (r : ℕ) → ties_to (counting t) r ≡ ties_to t r
  unfolding ties_to
  ties_same r = rw (bits, pairs_same)

  record_same : answer_record (counting t) ≡ answer_record t
  unfolding answer_record valid unsatisfiable
  record_same = rw (rows_same, row_same, bits, satisfies_same, (counting_rows t).as_many, ties_same (unsat_row t), ties_same (length t))

-- (d) the table and what counts in it have the same record and the same answer rows
pub same_counting : (table : List ℕ) → first_fault table ≡ Accepted → SameCounting table
same_counting table accepted =
    record {
      same_record = record_same t;
      same_rows = rows_same t;
      same_call = call;
      same_table = λ old room. unfold answer_after in (rw (call (length old) room, read, rows_same t));
      same_work = λ room old. unfold work_after in (rw (call room (length old)));
    }
  where
    t : List Row
    t = rows_of table

    read : rows_of (row_numbers (counting (rows_of table))) ≡ counting (rows_of table)
    read = rows_written (counting (rows_of table))

    call : (answerRoom work_room : ℕ) → solve_record (row_numbers (counting (rows_of table))) answerRoom work_room ≡ solve_record table answerRoom work_room
    call answerRoom work_room = unfold solve_record in (rw (read, record_same (rows_of table), counting_accepted table accepted, accepted))

-- ---- (h) the rows that say nothing

-- a list of pairs that gives no tie, whatever came before it, may be left out
ties_without : (n : ℕ) (seen : List Pair) (es : List (List Pair)) (r : ℕ) → ((s : List Pair) → ties n s (get_or es r []) ≡ 0)
    → ties n seen (pairs_together (take (suc r) es)) ≡ ties n seen (pairs_together (take r es))
unfolding pairs_together ties
ties_without n seen [] zero none = refl
ties_without n seen [] (suc r) none = refl
ties_without n seen (e ∷ es) zero none = ties-append n seen e [] ∙ rw (none seen) refl
ties_without n seen (e ∷ es) (suc r) none =
    ties-append n seen e (pairs_together (take (suc r) es))
    ∙ ap (λ (x : ℕ). ties n seen e + x) (ties_without n (reverse_aux e seen) es r none)
    ∙ sym (ties-append n seen e (pairs_together (take r es)))

-- a bit's pair with itself is implied, so a side's pairs with itself give no tie
itself_implied : (n : ℕ) (seen : List Pair) (s : ℕ) → equals n seen s s ≡ true
unfolding equal_under
itself_implied n seen s =
    every_of n (λ p. not (satisfies_pairs p seen) || eqb (bit_of p s) (bit_of p s))
    (λ p a. or_right (not (satisfies_pairs p seen)) (eqb (bit_of p s) (bit_of p s)) (eq-eqb (bit_of p s) (bit_of p s) refl))

itself_ties : (n : ℕ) (xs : List ℕ) (seen : List Pair) → ties n seen (paired xs xs) ≡ 0
unfolding paired ties
itself_ties n [] seen = refl
itself_ties n (x ∷ xs) seen = rw (itself_implied n seen x) (omega (arith, itself_ties n xs (record { left = x; right = x } ∷ seen)))

-- the pairs of each row, and of what is read past the end
pairs_at : (t rs : List Row) (r : ℕ) → get_or (pairs_in t rs) r [] ≡ pairs_of t (row_at rs r)
unfolding pairs_in
pairs_at t [] r = sym (unfold pairs_of in (of_term (row_at [] r) _ [] (λ e. absurd (omega (arith, e)))))
pairs_at t (x ∷ rs) zero = refl
pairs_at t (x ∷ rs) (suc r) = pairs_at t rs r

module _ (t : List Row) (r : ℕ) (none : Counts t r → ⊥) where
  silent_ties : (seen : List Pair) → ties (bits_of t) seen (pairs_of t silent_row) ≡ 0
  unfolding pairs_of
  silent_ties seen =
      let side = evened (source_of t 0) (source_of t 0) in
      ap (ties (bits_of t) seen) (of_equation silent_row (paired side side) [] refl) ∙ itself_ties (bits_of t) side seen

  no_equation : (Revised t r → ⊥) → Equation (row_at t r) → ⊥
  no_equation still e = ⊎_elim
      (λ l. none (record { in_table = l; is_equation = e; unrevised = still }))
      (λ l. absurd (omega (arith, e, ap (λ (x : Row). x.kind) (get_or-eq_default t no_row l))))
      (lt_or_le r (length t))

  row-ties : (seen : List Pair) → ties (bits_of t) seen (pairs_of t (row_at (counting t) r)) ≡ 0
  row-ties seen = ⊎_elim
      (λ l. ⊎_elim (λ gone. rw ((counting_rows t).replaced r gone) (silent_ties seen)) stays (revised-or-not t r l))
      (λ l. stays (λ h. absurd (omega (arith, l, h.here.in_table))))
      (lt_or_le r (length t))
    where
      stays : (Revised t r → ⊥) → ties (bits_of t) seen (pairs_of t (row_at (counting t) r)) ≡ 0
      stays still =
          rw ((counting_rows t).stays r still)
          (unfold pairs_of ties in ap (ties (bits_of t) seen) (of_term (row_at t r) _ [] (no_equation still)))

  -- a row that is no equation, or an equation that does not count, gives no tie and is not the row of a never
  pub says_nothing : SaysNothing t r
  unfolding ties_to
  says_nothing =
      record {
        no_tie = ties_without (bits_of t) [] (equation_pairs t) r (λ seen. rw (pairs_at t (counting t) r) (row-ties seen));
        no_never = λ o e. none ((never-row t r).to o e).counts;
      }
