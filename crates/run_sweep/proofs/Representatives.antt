-- Theorem `settled`. Assumes nothing.
use mathlib.Core.Path.{◌≡◌, refl, sym, ap, ◌∙◌, subst}
use mathlib.Core.Bool.{Bool, true, false, not, ◌||◌}
use mathlib.Core.List.{List, reverse}
use Prim.Native.Nat.{ℕ, suc, ◌≤◌}
use native.Mathlib.Omega.{arith}
use lib.Dec.{eqb}
use lib.ListN.{length, get_or}
use borrow.Author.Tests.{eq-eqb}
use Rattle.laws.specs.Lists.{count_up, least}
use Rattle.terms.specs.declared.Row.{Row}
use Rattle.terms.specs.Assignments.{Assignment}
use Rattle.terms.specs.Faults.{Accepted, first_fault}
use Rattle.terms.specs.Table.{rows_of, bits_of, bit_of, satisfies}
use Rattle.terms.proofs.Assignments.{every_of}
use Rattle.answers.specs.Pairs.{Pair, equation_pairs, satisfies_pairs, equal_under, equals}
use Rattle.answers.specs.Representatives.{representative}
use Rattle.answers.specs.Solve.{pairs_together}
use Rattle.answers.specs.inner.Classes.{rep, run_all, Represents}
use Rattle.answers.proofs.Agreement.{fixed-bit, fixed_class, place_bit}
use Rattle.answers.proofs.Exact.{equals_to, representative_is}
use Rattle.answers.proofs.Tables.{table_classes, classes_run, represent, satisfies_seen, equal_same}
use Rattle.classes.specs.inner.Links.{roots_of}
use Rattle.classes.proofs.Links.{Canon}
use Rattle.classes.proofs.Roots.{stands_roots, roots_settled, roots-length}
use Rattle.taking.specs.inner.Equations.{EquationsTaken}
use Rattle.run_pairs.specs.inner.Taken.{State}
use Rattle.run_sweep.specs.inner.Settled.{Settled, SettlesRuns}
use Rattle.run_sweep.specs.Representatives.{LinksSettled}

implied : (a b : Bool) → (a ≡ true → b ≡ true) → not a || b ≡ true
implied true b h = h refl
implied false b h = refl

-- the classes of a table, where the fixed bits are apart
module _ (table : List ℕ) (accepted : first_fault table ≡ Accepted) (one : rep (table_classes table accepted) 1 ≡ 1) where
  abbrev t : List Row
  t = rows_of table

  abbrev n : ℕ
  n = bits_of (rows_of table)

  abbrev c : List ℕ
  c = table_classes table accepted

  abbrev seen : List Pair
  seen = reverse (pairs_together (equation_pairs (rows_of table)))

  R : Represents n (table_classes table accepted) (reverse (pairs_together (equation_pairs (rows_of table))))
  R = represent table accepted

  lowest_is : (s : ℕ) → rep c s ≡ least (equal_under n (satisfies t) s) 0 s
  unfolding representative
  lowest_is s =
      sym (representative_is n c seen R one s)
      ∙ ap (λ (same : ℕ → ℕ → Bool). least (same s) 0 s) (sym (equal_same n (satisfies t) (λ p. satisfies_pairs p seen) (satisfies_seen table accepted)))

  in_all : (i b : ℕ) → b ≤ 1 → rep c (suc (suc i)) ≡ b → (p : List ℕ) → Assignment n p → satisfies t p ≡ true → get_or p i 0 ≡ b
  in_all i b l e p a m =
      sym (place_bit p i) ∙ R.just p a (sym (satisfies_seen table accepted p a) ∙ m) (suc (suc i)) ∙ ap (bit_of p) e ∙ fixed-bit p b l

  from_all : (i b : ℕ) → b ≤ 1 → ((p : List ℕ) → Assignment n p → satisfies t p ≡ true → get_or p i 0 ≡ b) → rep c (suc (suc i)) ≡ b
  from_all i b l h = equals_to n c seen R one (suc (suc i)) b same ∙ fixed_class n c seen R one b l
    where
      same : equals n seen (suc (suc i)) b ≡ true
      same =
          unfold equal_under in
          (every_of n (λ p. not (satisfies_pairs p seen) || eqb (bit_of p (suc (suc i))) (bit_of p b))
          (λ p a. implied (satisfies_pairs p seen) (eqb (bit_of p (suc (suc i))) (bit_of p b))
          (λ m. eq-eqb (bit_of p (suc (suc i))) (bit_of p b) (place_bit p i ∙ h p a (satisfies_seen table accepted p a ∙ m) ∙ sym (fixed-bit p b l)))))

-- For every accepted table whose equations that count were taken from sources that link to themselves, and none of them met a conflict: the links behind
-- the sweep are the representatives of these equations, they are their own roots, and a place links to the fixed bit b exactly if it is b in every pattern that
-- meets the equations that count.
pub settled : (table : List ℕ) → first_fault table ≡ Accepted → (shut : ℕ → Bool) (h last first h' last' first' : List ℕ) (row ties : ℕ)
    → EquationsTaken (rows_of table) (count_up 0 (suc (suc (bits_of (rows_of table))))) 0 (length (rows_of table)) (equation_pairs (rows_of table)) h row ties
    → row ≡ length (rows_of table) → State shut h last first → SettlesRuns h last first h' last' first' → LinksSettled table h'
settled table accepted shut h last first h' last' first' row ties E none S promised =
    let all : h' ≡ run_all (count_up 0 (suc (suc (bits_of (rows_of table))))) (equation_pairs (rows_of table)) = (promised shut S).roots ∙ E.classes_are none in
    let e : h' ≡ table_classes table accepted = all ∙ sym (classes_run table accepted) in
    let one : rep (table_classes table accepted) 1 ≡ 1 =
    ap (λ (v : List ℕ). rep v 1) (classes_run table accepted ∙ sym (E.classes_are none)) ∙ S.one in
    record {
      classes = all;
      lowest = λ s. ap (λ (v : List ℕ). get_or v s 0) e ∙ lowest_is table accepted one s;
      own_root = λ s. subst (λ (v : List ℕ). get_or v (get_or v s 0) 0 ≡ get_or v s 0) (sym e) ((represent table accepted).root s);
      fixed_in_all = λ i b l z. in_all table accepted one i b l (ap (λ (v : List ℕ). get_or v (suc (suc i)) 0) (sym e) ∙ z);
      in_all_fixed = λ i b l z. ap (λ (v : List ℕ). get_or v (suc (suc i)) 0) e ∙ from_all table accepted one i b l z;
    }

-- Links that were swept are swept again, with the runs as the sweep left them: no link changes.
pub swept_again : (shut : ℕ → Bool) (h last first h' last' first' h'' last'' first'' : List ℕ) → State shut h last first → length last' ≡ length last → length first' ≡ length first
    → SettlesRuns h last first h' last' first' → SettlesRuns h' last' first' h'' last'' first'' → h'' ≡ h'
swept_again shut h last first h' last' first' h'' last'' first'' S same₁ same₂ once twice =
    let D : Settled shut h h' last' first' = once shut S in
    let K : Canon h' = subst Canon (sym D.roots) (stands_roots h S.low).canon in
    let own : roots_of h' ≡ h' = roots_settled h' K in
    let len : length h' ≡ length h = ap length D.roots ∙ roots-length h S.low in
    let T : State shut h' last' first' = record {
      runs = rw len D.runs;
      low = K.low;
      few = omega (arith, S.few);
      last_room = omega (arith, S.last_room);
      first_room = omega (arith, S.first_room);
      one = ap (λ (v : List ℕ). rep v 1) (own ∙ D.roots) ∙ S.one;
    } in
    (twice shut T).roots ∙ own
