-- Demands 2 and 3, for every accepted table. They speak of the definitions in specs/ alone; the solver's contract is an equation with
-- the same definitions. Assumes nothing.
use mathlib.Core.Path.{◌≡◌, refl, sym, ◌∙◌, ap, ap₂, subst}
use mathlib.Core.Bool.{Bool, true, false, not, cond}
use mathlib.Core.List.{List, reverse}
use Prim.Native.Nat.{ℕ, suc, ◌+◌, ◌^◌, ◌≤◌}
use native.Mathlib.Omega.{arith}
use lib.ListN.{length, drop}
use borrow.Author.Tests.{not-true}
use Rattle.terms.specs.declared.Row.{Row}
use Rattle.terms.specs.declared.Record.{Record}
use Rattle.terms.specs.Assignments.{Assignment, every, count}
use Rattle.terms.specs.Faults.{Accepted, first_fault}
use Rattle.terms.specs.Table.{rows_of, bits_of, satisfies}
use Rattle.terms.proofs.Assignments.{every_at, every_of, count_none_of, count_none_at, count-all_of, count-all_at}
use Rattle.answers.specs.Pairs.{Pair, equation_pairs, satisfies_pairs, equal_under}
use Rattle.answers.specs.inner.Classes.{rep, in_class, roots, Represents}
use Rattle.answers.specs.declared.AnswerRow.{AnswerRow}
use Rattle.answers.specs.Answer.{variable_widths, begins, appears, answer_rows, fresh_pieces, free_bits, instantiate}
use Rattle.laws.proofs.Bools.{clash}
use Rattle.laws.specs.Lists.{tally}
use Rattle.answers.specs.Systems.{Part, SolvedSystem, fresh_count, system_bits, Gives}
use Rattle.answers.specs.Solve.{valid, unsatisfiable, unsat_row, pairs_together, ties_to, solved_rows, always_record, never_record, solved_record, answer_record}
use Rattle.answers.proofs.Slots.{fresh}
use Rattle.answers.proofs.OurPieces.{mark}
use Rattle.answers.proofs.FreeBits.{free_widths}
use Rattle.answers.proofs.AnswerRows.{tally_same}
use Rattle.answers.proofs.GeneralSystems.{width_sum, minimal_system}
use Rattle.answers.proofs.Instantiating.{fresh-pieces, free-bits, filling_satisfies, filling_of, filling_bits, filling_gives, filling_unique}
use Rattle.answers.proofs.Variables.{widths_sum, begins_first, begins_last, system-bits}
use Rattle.answers.proofs.Tables.{table_classes, represent, satisfies_seen, apart_one, rows_by_classes, table_count, roots-ties, every_same, equal_same, not_valid}
use Rattle.answers.specs.Demands.{Demand2, Demand3, Filled, SameAnswer, TheFilling}

module _ (table : List ℕ) (accepted : first_fault table ≡ Accepted) where
  abbrev t : List Row
  t = rows_of table

  abbrev n : ℕ
  n = bits_of (rows_of table)

  abbrev ws : List ℕ
  ws = variable_widths (rows_of table)

  abbrev c : List ℕ
  c = table_classes table accepted

  abbrev seen : List Pair
  seen = reverse (pairs_together (equation_pairs (rows_of table)))

  abbrev inv : Represents n c seen
  inv = represent table accepted

  begin : begins ws 0 ≡ true
  begin = begins_first ws

  last : begins ws n ≡ true
  last = begins_last t

  module _ (some : unsatisfiable (rows_of table) ≡ false) where
    abbrev one : rep c 1 ≡ 1
    one = apart_one table accepted some

    -- the rows by what holds in every satisfying assignment are those by classes
    abbrev by : List AnswerRow
    by = answer_rows n ws (equal_under n (satisfies t))

    rows_are : by ≡ answer_rows n ws (in_class c)
    rows_are = rows_by_classes table accepted some

    -- the fresh bits are the places that represent themselves
    free_are : free_bits by ≡ roots 2 (drop 2 c)
    free_are = ap free_bits rows_are ∙ free-bits n c seen inv one ws begin last ∙ sym (free_widths n c seen inv one (begins ws) begin last)

    fresh_are : fresh_pieces by ≡ fresh n (begins ws) (λ i. rep c (suc (suc i)))
    unfolding fresh mark
    fresh_are = ap fresh_pieces rows_are ∙ fresh-pieces n c seen inv one ws begin last

    fresh_appear : fresh_pieces by ≡ tally n (appears n ws (in_class c))
    fresh_appear = ap fresh_pieces rows_are ∙ fresh-pieces n c seen inv one ws begin last ∙ sym (tally_same n c seen inv one ws begin last n)

    filled_2 : Filled t by
    filled_2 =
        record {
          every_filling = λ f a.
              let h = filling_satisfies n c seen inv one ws begin last f (subst (λ (rows : List AnswerRow). Assignment (free_bits rows) f) rows_are a) in
              rw rows_are (h.0, satisfies_seen table accepted (instantiate (answer_rows n ws (in_class c)) f) h.0 ∙ h.1);
          one_filling = λ p a s. rw rows_are (the_one p a (sym (satisfies_seen table accepted p a) ∙ s));
        }
      where
        the_one : (p : List ℕ) → Assignment n p → satisfies_pairs p seen ≡ true → TheFilling (answer_rows n ws (in_class c)) p
        the_one p a s =
            let f = filling_of n c seen inv one ws begin last p a s in
            let b = filling_bits n c seen inv one ws begin last p a s in
            let g = filling_gives n c seen inv one ws begin last p a s in
            record {
              filling = f;
              bits = b;
              gives = g;
              only = λ h d e. filling_unique n c seen inv one ws begin last h f d b (e ∙ sym g);
            }

    counted : count n (satisfies t) ≡ 2 ^ free_bits by
    counted = table_count table accepted some ∙ ap (λ (x : ℕ). 2 ^ x) (sym free_are)

    summed : free_bits by + ties_to t (length t) ≡ n
    summed = ap (λ (x : ℕ). x + ties_to t (length t)) free_are ∙ roots-ties table accepted some

    least_many : (sides : List (List Part)) → SolvedSystem ws sides → Gives n (satisfies t) sides → fresh_pieces by ≤ fresh_count sides
    least_many sides S G =
        omega (
          arith,
          fresh_are,
          minimal_system n c seen inv one ws (widths_sum t) sides S (record {
            passes = λ φ h. let a : Assignment n (system_bits φ sides) = subst (λ (x : ℕ). Assignment x (system_bits φ sides)) (widths_sum t) (system-bits ws sides S φ h) in
                sym (satisfies_seen table accepted (system_bits φ sides) a) ∙ G.passes φ h;
            reaches = λ p a s. G.reaches p a (satisfies_seen table accepted p a ∙ s);
          }),
        )

  -- Demand 2.
  pub demand_2 : (answer_record t).outcome ≡ 2 → Demand2 t
  unfolding answer_record solved_rows
  demand_2 e = go (valid t) refl (unsatisfiable t) refl
    where
      go : (a : Bool) → valid t ≡ a → (b : Bool) → unsatisfiable t ≡ b → Demand2 t
      go true h b k = let o : (answer_record t).outcome ≡ 0 = rw h refl in absurd (omega (arith, e, o))
      go false h true k = let o : (answer_record t).outcome ≡ 1 = rw (h, k) refl in absurd (omega (arith, e, o))
      go false h false k = filled_2 k

  zero_none : unsatisfiable t ≡ true → count n (satisfies t) ≡ 0
  unfolding unsatisfiable
  zero_none k = count_none_of n (satisfies t) (λ p a. not-true (satisfies t p) (every_at n (λ p. not (satisfies t p)) k p a))

  none_zero : count n (satisfies t) ≡ 0 → unsatisfiable t ≡ true
  unfolding unsatisfiable
  none_zero e = every_of n (λ p. not (satisfies t p)) (λ p a. ap not (count_none_at n (satisfies t) e p a))

  all_whole : valid t ≡ true → count n (satisfies t) ≡ 2 ^ n
  unfolding valid
  all_whole h = count-all_of n (satisfies t) (every_at n (satisfies t) h)

  whole_all : count n (satisfies t) ≡ 2 ^ n → valid t ≡ true
  unfolding valid
  whole_all e = every_of n (satisfies t) (count-all_at n (satisfies t) e)

  -- Demand 3.
  pub demand_3 : Demand3 t
  unfolding answer_record solved_rows
  demand_3 = go (valid t) refl (unsatisfiable t) refl
    where
      go : (a : Bool) → valid t ≡ a → (b : Bool) → unsatisfiable t ≡ b → Demand3 t
      go true h b k =
          let o : (answer_record t).outcome ≡ 0 = rw h refl in
          record {
            one_of_three = omega (arith, o);
            never_of = λ e. clash (valid t) h (not_valid table accepted (none_zero e));
            never_to = λ e. absurd (omega (arith, o, e));
            always_of = λ e. o;
            always_to = λ e. all_whole h;
            solved_count = λ e. absurd (omega (arith, o, e));
            solved_pieces = λ e. absurd (omega (arith, o, e));
            solved_fresh = λ e. absurd (omega (arith, o, e));
            solved_free = λ e. absurd (omega (arith, o, e));
            fewest = λ e. absurd (omega (arith, o, e));
            free_and-ties = λ e. rw h (omega arith);
          }
      go false h true k =
          let o : (answer_record t).outcome ≡ 1 = rw (h, k) refl in
          record {
            one_of_three = omega (arith, o);
            never_of = λ e. o;
            never_to = λ e. zero_none k;
            always_of = λ e. clash (valid t) (whole_all e) (not_valid table accepted k);
            always_to = λ e. absurd (omega (arith, o, e));
            solved_count = λ e. absurd (omega (arith, o, e));
            solved_pieces = λ e. absurd (omega (arith, o, e));
            solved_fresh = λ e. absurd (omega (arith, o, e));
            solved_free = λ e. absurd (omega (arith, o, e));
            fewest = λ e. absurd (omega (arith, o, e));
            free_and-ties = λ e. absurd (e o);
          }
      go false h false k =
          let o : (answer_record t).outcome ≡ 2 = rw (h, k) refl in
          record {
            one_of_three = omega (arith, o);
            never_of = λ e. clash (unsatisfiable t) (none_zero e) k;
            never_to = λ e. absurd (omega (arith, o, e));
            always_of = λ e. clash (valid t) (whole_all e) h;
            always_to = λ e. absurd (omega (arith, o, e));
            solved_count = λ e. rw (h, k) (counted k);
            solved_pieces = λ e. rw (h, k) refl;
            solved_fresh = λ e. rw (h, k) refl;
            solved_free = λ e. rw (h, k) refl;
            fewest = λ e sides S G. rw (h, k) (least_many k sides S G);
            free_and-ties = λ e. rw (h, k) (summed k);
          }

-- The same for a solver that has the classes: fresh pieces that appear, and free bits that the ties leave.
module _ (table : List ℕ) (accepted : first_fault table ≡ Accepted) (some : unsatisfiable (rows_of table) ≡ false) where
  pub solved_appear : fresh_pieces (solved_rows (rows_of table))
      ≡ tally (bits_of (rows_of table)) (appears (bits_of (rows_of table)) (variable_widths (rows_of table)) (in_class (table_classes table accepted)))
  unfolding solved_rows
  solved_appear = fresh_appear table accepted some

  pub solved_sum : free_bits (solved_rows (rows_of table)) + ties_to (rows_of table) (length (rows_of table)) ≡ bits_of (rows_of table)
  unfolding solved_rows
  solved_sum = summed table accepted some

-- a field of one of three records
field_of : (f : Record → ℕ) (a b : Bool) (x y z : Record) → f (cond a x (cond b y z)) ≡ cond a (f x) (cond b (f y) (f z))
field_of f true b x y z = refl
field_of f false true x y z = refl
field_of f false false x y z = refl

pub same_answer : (t u : List Row) → variable_widths t ≡ variable_widths u
    → ((p : List ℕ) → Assignment (bits_of t) p → satisfies t p ≡ satisfies u p) → SameAnswer t u
unfolding answer_record valid unsatisfiable solved_rows
same_answer t u w h =
    record {
      same_outcome = field (λ r. r.outcome) refl refl refl;
      same_rows = rows;
      same_pieces = field (λ r. r.pieces) refl refl (ap length rows);
      same_fresh = field (λ r. r.fresh) refl refl (ap fresh_pieces rows);
      same_free = field (λ r. r.free) bits refl (ap free_bits rows);
    }
  where
    bits : bits_of t ≡ bits_of u
    bits = sym (widths_sum t) ∙ ap width_sum w ∙ widths_sum u

    all_same : valid t ≡ valid u
    all_same = every_same (bits_of t) (satisfies t) (satisfies u) h ∙ ap (λ (n : ℕ). every n (satisfies u)) bits

    none_same : unsatisfiable t ≡ unsatisfiable u
    none_same =
        every_same (bits_of t) (λ p. not (satisfies t p)) (λ p. not (satisfies u p)) (λ p a. ap not (h p a))
        ∙ ap (λ (n : ℕ). every n (λ p. not (satisfies u p))) bits

    rows : solved_rows t ≡ solved_rows u
    rows =
        ap (answer_rows (bits_of t) (variable_widths t)) (equal_same (bits_of t) (satisfies t) (satisfies u) h)
        ∙ ap₂ (λ (n : ℕ) (ws : List ℕ). answer_rows n ws (equal_under n (satisfies u))) bits w

    field : (f : Record → ℕ) → f (always_record (bits_of t)) ≡ f (always_record (bits_of u))
        → f (never_record (ties_to t (unsat_row t)) (unsat_row t)) ≡ f (never_record (ties_to u (unsat_row u)) (unsat_row u))
        → f (solved_record (solved_rows t) (ties_to t (length t))) ≡ f (solved_record (solved_rows u) (ties_to u (length u)))
        → f (answer_record t) ≡ f (answer_record u)
    field f a b c =
        field_of f (valid t) (unsatisfiable t) (always_record (bits_of t)) (never_record (ties_to t (unsat_row t)) (unsat_row t)) (solved_record (solved_rows t) (ties_to t (length t)))
        ∙ three (valid t) (valid u) (unsatisfiable t) (unsatisfiable u) all_same none_same a b c
        ∙ sym (field_of f (valid u) (unsatisfiable u) (always_record (bits_of u)) (never_record (ties_to u (unsat_row u)) (unsat_row u)) (solved_record (solved_rows u) (ties_to u (length u))))
      where
        three : (v v' n n' : Bool) {x x' y y' z z' : ℕ} → v ≡ v' → n ≡ n' → x ≡ x' → y ≡ y' → z ≡ z' → cond v x (cond n y z) ≡ cond v' x' (cond n' y' z')
        three v v' n n' a b c d e = rw (a, b, c, d, e) refl
