-- What holds each place, by classes: the representatives of a table's bits, as a host reads them. And (f): ties and places that hold themselves add up to the
-- variable bits. Assumes nothing.
use mathlib.Core.Path.{◌≡◌, refl, sym, ◌∙◌, ap, fun_ext}
use mathlib.Core.Bool.{Bool, true, false}
use mathlib.Core.List.{List, [], ◌∷◌, map, reverse}
use mathlib.Core.Logic.{⊎_elim}
use Prim.Native.Nat.{ℕ, suc, ◌+◌, ◌-◌, ◌<◌, ◌≤◌}
use native.Mathlib.Omega.{arith}
use lib.Dec.{eqb}
use lib.ListN.{length, get_or, take, drop}
use borrow.Author.Tests.{eqb-true, eq-eqb, ne_eqb, lt-ltb, le-ltb}
use Rattle.laws.specs.Lists.{count_up, least, tally}
use Rattle.laws.proofs.Bools.{same_test}
use Rattle.laws.proofs.Least.{least_is}
use Rattle.laws.proofs.Lists.{read_places, tail_length, tail_at}
use Rattle.laws.proofs.Numbers.{lt_or_le}
use Rattle.laws.proofs.Tallies.{tally_ext}
use Rattle.terms.specs.declared.Row.{Row}
use Rattle.terms.specs.Table.{rows_of, row_numbers, bits_of}
use Rattle.terms.specs.Faults.{Accepted, first_fault}
use Rattle.terms.specs.Counting.{NoLines}
use Rattle.terms.proofs.AcceptedTable.{table_bits}
use Rattle.terms.proofs.RowNumbers.{rows_written}
use Rattle.answers.specs.Pairs.{equation_pairs}
use Rattle.answers.specs.Solve.{unsatisfiable, pairs_together, ties_to}
use Rattle.answers.specs.Never.{SomeLeft}
use Rattle.answers.specs.inner.Classes.{rep, in_class, run_all, roots, Represents}
use Rattle.answers.proofs.FreeBits.{roots-tally}
use Rattle.answers.proofs.Tables.{table_classes, classes_run, represent, same_relation, roots-ties}
use Rattle.jobs.specs.Prefix.{up_to, holder, host_number, holders}
use Rattle.jobs.specs.Claims.{TiesAndOwn}
use Rattle.jobs.proofs.Prefix.{up_count, up_accepted}
use Rattle.jobs.proofs.PrefixPairs.{alone, up_bits, up_run, up_ties-all}
use Rattle.jobs.proofs.Meeting.{some_left}
use Rattle.jobs.proofs.Held.{holders_at}

-- ---- by the classes of an accepted table that some pattern satisfies
module _ (table : List ℕ) (accepted : first_fault table ≡ Accepted) (some : unsatisfiable (rows_of table) ≡ false) where
  abbrev t : List Row
  t = rows_of table

  abbrev c : List ℕ
  c = table_classes table accepted

  inv : Represents (bits_of t) c (reverse (pairs_together (equation_pairs t)))
  inv = represent table accepted

  pub holder_is : (s : ℕ) → holder (rows_of table) s ≡ rep (table_classes table accepted) s
  unfolding holder in_class
  holder_is s =
      ap (λ (same : ℕ → ℕ → Bool). least (same s) 0 s) (same_relation table accepted some)
      ∙ least_is (λ u. eqb (rep c s) (rep c u)) s 0 (rep c s) (omega arith) (omega (arith, inv.low s))
      (eq-eqb (rep c s) (rep c (rep c s)) (sym (inv.root s)))
      (λ j l. ne_eqb (rep c s) (rep c j) (λ e. absurd (omega (arith, inv.low j, e))))

  -- the places behind the two fixed bits
  places : (f : ℕ → ℕ) (n : ℕ) (d : List ℕ) → length d ≡ suc (suc n) → map (λ s. f (rep d s)) (count_up 2 n) ≡ map f (drop 2 d)
  places f n [] e = absurd (omega arith)
  places f n (x ∷ []) e = absurd (omega arith)
  places f n (x ∷ y ∷ p) e = sym (map-map f (λ s. get_or (x ∷ y ∷ p) s 0) (count_up 2 n)) ∙ ap (map f) (read_places x y 0 p n (omega arith))
    where
      map-map : (f g : ℕ → ℕ) (xs : List ℕ) → map f (map g xs) ≡ map (λ s. f (g s)) xs
      map-map f g [] = refl
      map-map f g (x ∷ xs) = ap (λ (l : List ℕ). f (g x) ∷ l) (map-map f g xs)

  pub holders_classes : holders (rows_of table) ≡ map host_number (drop 2 (table_classes table accepted))
  unfolding holders
  holders_classes =
      ap (λ (h : ℕ → ℕ). map (λ s. host_number (h s)) (count_up 2 (bits_of t))) (fun_ext (λ s. holder_is s))
      ∙ places host_number (bits_of t) c inv.len

-- ---- of a table up to a row: the classes of its first equations
pub up_holders : (table : List ℕ) → first_fault table ≡ Accepted → NoLines (rows_of table) → (r : ℕ) → r ≤ length (rows_of table) → unsatisfiable (up_to r (rows_of table)) ≡ false
    → holders (up_to r (rows_of table)) ≡ map host_number (drop 2 (run_all (alone (rows_of table)) (take r (equation_pairs (rows_of table)))))
up_holders table accepted none r l some =
    let t = rows_of table in
    let read = rows_written (up_to r t) in
    let ok = up_accepted r table accepted in
    let by = holders_classes (row_numbers (up_to r t)) ok (rw read some) in
    let run : table_classes (row_numbers (up_to r t)) ok ≡ run_all (alone t) (take r (equation_pairs t)) = classes_run (row_numbers (up_to r t)) ok ∙ rw read (up_run r t none l) in
    ap holders (sym read) ∙ by ∙ ap (λ (d : List ℕ). map host_number (drop 2 d)) run

-- a source as a host reads it
pub host_fixed : (s : ℕ) → s < 2 → host_number s ≡ 4096 + s
unfolding host_number
host_fixed s l = rw (lt-ltb s 2 l)

pub host_place : (s : ℕ) → 2 ≤ s → host_number s ≡ s - 2
unfolding host_number
host_place s l = rw (le-ltb s 2 l)

-- ---- (f)
own : (i x : ℕ) → i < 4096 → eqb x (2 + i) ≡ eqb (host_number x) i
own i x l = same_test (eqb x (2 + i)) (eqb (host_number x) i) to of
  where
    to : eqb x (2 + i) ≡ true → eqb (host_number x) i ≡ true
    to h = let e = eqb-true x (2 + i) h in eq-eqb (host_number x) i (host_place x (omega arith) ∙ omega arith)

    of : eqb (host_number x) i ≡ true → eqb x (2 + i) ≡ true
    of h =
        let e = eqb-true (host_number x) i h in
        ⊎_elim (λ m. absurd (omega (arith, host_fixed x m))) (λ m. eq-eqb x (2 + i) (omega (arith, host_place x m))) (lt_or_le x 2)

module _ (table : List ℕ) (accepted : first_fault table ≡ Accepted) (none : NoLines (rows_of table)) (r : ℕ) (some : SomeLeft (rows_of table) r) where
  abbrev u : List Row
  u = up_to r (rows_of table)

  pub ties-and_own : TiesAndOwn (rows_of table) r
  ties-and_own =
      let t = rows_of table in
      let read = rows_written u in
      let ok = up_accepted r table accepted in
      let left : unsatisfiable (rows_of (row_numbers u)) ≡ false = rw read (some_left t none r some) in
      let c = table_classes (row_numbers u) ok in
      let len : length (drop 2 c) ≡ bits_of (rows_of table) = tail_length c (bits_of t) ((represent (row_numbers u) ok).len ∙ rw (read, up_bits r t)) in
      let all : roots 2 (drop 2 c) + ties_to u (length u) ≡ bits_of (rows_of table) = rw (read, up_bits r t) at (roots-ties (row_numbers u) ok left) in
      let ties : ties_to u (length u) ≡ ties_to t r = ap (ties_to u) (up_count r t) ∙ up_ties-all r t none in
      let count : roots 2 (drop 2 c) ≡ tally (bits_of t) (λ i. eqb (get_or (drop 2 c) i 0) (2 + i)) =
      roots-tally 2 (drop 2 c) (λ i. eqb (get_or (drop 2 c) i 0) (2 + i)) (λ i. refl) ∙ ap (λ (n : ℕ). tally n (λ i. eqb (get_or (drop 2 c) i 0) (2 + i))) len in
      let mine : tally (bits_of t) (λ i. eqb (get_or (drop 2 c) i 0) (2 + i)) ≡ tally (bits_of t) (λ i. eqb (get_or (holders u) i 0) i) =
      tally_ext (bits_of t) (λ i. eqb (get_or (drop 2 c) i 0) (2 + i)) (λ i. eqb (get_or (holders u) i 0) i)
      (λ i l.
      let h : get_or (drop 2 c) i 0 ≡ holder u (suc (suc i)) = tail_at c i ∙ sym (holder_is (row_numbers u) ok left (suc (suc i))) ∙ ap (λ (s : List Row). holder s (suc (suc i))) read in
      own i (get_or (drop 2 c) i 0) (omega (arith, table_bits table accepted)) ∙ ap (λ (x : ℕ). eqb x i) (ap host_number h ∙ sym (holders_at u i (omega (arith, up_bits r t))))) in
      omega arith
