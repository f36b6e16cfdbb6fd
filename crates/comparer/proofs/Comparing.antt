-- Two tables compared by the links of their sources: a turn of the loop over the sources, the links of a table, one direction, and the outcome.
use mathlib.Core.Path.{◌≡◌, refl, sym, ◌∙◌, ap}
use mathlib.Core.Bool.{Bool, true, false, not, ◌&&◌, ◌||◌}
use mathlib.Core.Logic.{◌⊎◌, inl, inr, ◌≢◌}
use mathlib.Core.List.{List, ◌++◌}
use Prim.Native.Nat.{ℕ, ◌+◌, ◌-◌, ◌/◌, ◌≤◌, ◌<◌}
use native.Mathlib.Omega.{arith}
use native.Mathlib.Numerals.{add-one}
use lib.Dec.{eqb, ltb}
use lib.ListN.{length, get_or, take, drop, length-append, length-drop}
use lib.Seq.{length-take-le, take-append_seam}
use borrow.Rule.Slice.PartMut.{mid_of, put_mid, mid_len, take_put}
use borrow.Author.Tests.{eq-eqb, ne_eqb, lt-ltb, le-ltb}
use Rattle.laws.specs.Buffers.{overwrite}
use Rattle.laws.specs.Lists.{below}
use Rattle.laws.proofs.Bools.{not_both}
use Rattle.laws.proofs.Buffers.{overwrite-length, overwrite-fits}
use Rattle.laws.proofs.Numbers.{lt_or_le}
use Rattle.laws.proofs.Tallies.{below_fails}
use Rattle.terms.specs.Faults.{Accepted, first_fault}
use Rattle.terms.specs.Table.{rows_of, bits_of}
use Rattle.terms.proofs.Rows.{rows_length}
use Rattle.answers.proofs.Tables.{table_classes, classes_run, represent, is_never, is_left, conflict_most}
use Rattle.inclusion.specs.Call.{among, outcome_of, comparison}
use Rattle.inclusion.proofs.Patterns.{never_among, among_never}
use Rattle.inclusion.proofs.Including.{among_classes}
use Rattle.linking.specs.inner.Classes.{ClassesTaken}
use Rattle.comparer.specs.inner.Comparing.{included, among_links, links_outcome, Linked}

-- ---- the loop over the sources
abbrev pub at : List ℕ → List ℕ → ℕ → Bool
at h g s = eqb (get_or h (get_or g s 0) 0) (get_or h s 0)

module _ (h g : List ℕ) (bits s : ℕ) (l : s < bits + 2) where
  pub source_differs : get_or h (get_or g s 0) 0 ≢ get_or h s 0 → included h g bits ≡ false
  unfolding included
  source_differs e = below_fails (bits + 2) (at h g) s l (ne_eqb (get_or h (get_or g s 0) 0) (get_or h s 0) e)

  pub source_agrees : below s (at h g) ≡ true → get_or h (get_or g s 0) 0 ≡ get_or h s 0 → below (s + 1) (at h g) ≡ true
  unfolding below
  source_agrees b e = rw (add-one s, eq-eqb (get_or h (get_or g s 0) 0) (get_or h s 0) e) b

pub sources_agree : (h g : List ℕ) (bits s : ℕ) → s ≡ bits + 2 → below s (at h g) ≡ true → included h g bits ≡ true
unfolding included
sources_agree h g bits s e b = rw (← e) b

-- ---- the links of a table
pub linked : (table : List ℕ) → first_fault table ≡ Accepted → (links : List ℕ) (row ties : ℕ) → ClassesTaken (rows_of table) links row ties
    → Linked (rows_of table) links (ltb row (length table / 4))
linked table accepted links row ties C = go (lt_or_le row (length table / 4))
  where
    go : (row < length table / 4) ⊎ (length table / 4 ≤ row) → Linked (rows_of table) links (ltb row (length table / 4))
    go (inl l) =
        let b = lt-ltb row (length table / 4) l in
        record {
          never_is = b ∙ sym (is_never table accepted (omega (arith, C.row_is, rows_length table)));
          classes_are = λ n. absurd (not_both b n);
        }
    go (inr l) =
        let whole : row ≡ length (rows_of table) = omega (arith, C.row_is, conflict_most table accepted, rows_length table) in
        record {
          never_is = le-ltb row (length table / 4) l ∙ sym (is_left table accepted (sym C.row_is ∙ whole));
          classes_are = λ n. C.settled whole;
        }

-- ---- one direction
module _ (never none : Bool) (h g : List ℕ) (bits : ℕ) where
  pub first_none : never ≡ true → true ≡ among_links never none h g bits
  unfolding among_links
  first_none e = rw e refl

  pub second_none : never ≡ false → none ≡ true → false ≡ among_links never none h g bits
  unfolding among_links
  second_none e f = rw (e, f) refl

  pub both_some : never ≡ false → none ≡ false → included h g bits ≡ among_links never none h g bits
  unfolding among_links
  both_some e f = rw (e, f) refl

module _ (first second : List ℕ) (af : first_fault first ≡ Accepted) (ag : first_fault second ≡ Accepted) (h g : List ℕ) (never none : Bool)
    (L : Linked (rows_of first) h never) (M : Linked (rows_of second) g none) (bits : ℕ) (b : bits ≡ bits_of (rows_of first)) (d : bits ≡ bits_of (rows_of second)) where
  pub one_direction : among_links never none h g bits ≡ among (rows_of first) (rows_of second)
  unfolding among_links included
  one_direction = go never refl none refl
    where
      go : (x : Bool) → never ≡ x → (y : Bool) → none ≡ y → x || (not y && included h g bits) ≡ among (rows_of first) (rows_of second)
      go true n y m = sym (never_among (rows_of first) (rows_of second) (sym L.never_is ∙ n))
      go false n true m = sym (among_never (rows_of first) (rows_of second) (sym b ∙ d) (sym L.never_is ∙ n) (sym M.never_is ∙ m))
      go false n false m =
          let e : h ≡ table_classes first af = L.classes_are n ∙ sym (classes_run first af) in
          let f : g ≡ table_classes second ag = M.classes_are m ∙ sym (classes_run second ag) in
          let k : bits + 2 ≡ length (table_classes second ag) = omega (arith, d, (represent second ag).len) in
          rw (e, f, k) (sym (among_classes first second af ag (sym b ∙ d) (sym L.never_is ∙ n)))

-- ---- both
module _ (first second : List ℕ) (af : first_fault first ≡ Accepted) (ag : first_fault second ≡ Accepted) (h g : List ℕ) (never none : Bool)
    (L : Linked (rows_of first) h never) (M : Linked (rows_of second) g none) (bits : ℕ) (b : bits ≡ bits_of (rows_of first)) (d : bits ≡ bits_of (rows_of second)) where
  pub links-compared : links_outcome never none h g bits ≡ comparison (rows_of first) (rows_of second)
  unfolding links_outcome comparison
  links-compared =
      rw (one_direction first second af ag h g never none L M bits b d, one_direction second first ag af g h none never M L bits d b) refl

pub outcome_found : (never none to back : Bool) (h g : List ℕ) (bits found : ℕ) → to ≡ among_links never none h g bits → back ≡ among_links none never g h bits
    → found ≡ outcome_of to back → found ≡ links_outcome never none h g bits
unfolding links_outcome
outcome_found never none to back h g bits found e f o = o ∙ rw (e, f) refl

-- ---- links that were written to the front of a longer run are what is read there, also after the rest was written to
module _ (n : ℕ) (run links : List ℕ) (room : n ≤ length run) (same : length links ≡ length (take n run)) where
  pub front_length : length links ≡ n
  front_length = same ∙ length-take-le n run room

  pub front_room : n ≤ length (links ++ drop n run)
  front_room = simp length-append (omega (arith, front_length))

  pub whole_length : length (links ++ drop n run) ≡ length run
  whole_length = simp (length-append, length-drop) (omega (arith, front_length))

  pub front : take n (links ++ drop n run) ≡ links
  front = ap (λ (k : ℕ). take k (links ++ drop n run)) (sym front_length) ∙ take-append_seam links (drop n run)

  pub front_kept : (k : ℕ) (rest : List ℕ) → take n (put_mid n k (links ++ drop n run) rest) ≡ links
  front_kept k rest = take_put n k (links ++ drop n run) rest front_room ∙ front

  pub front_copied : (work work' : List ℕ) → n ≤ length work → work' ≡ overwrite (take n (links ++ drop n run)) work → (k : ℕ) (rest : List ℕ)
      → take n (put_mid n k work' rest) ≡ links
  front_copied work work' l e k rest =
      let f : work' ≡ links ++ drop (length links) work = e ∙ ap (λ (x : List ℕ). overwrite x work) front ∙ overwrite-fits links work (omega (arith, front_length)) in
      let m : length work' ≡ length work = ap length e ∙ overwrite-length (take n (links ++ drop n run)) work in
      take_put n k work' rest (omega (arith, m)) ∙ ap (take n) f ∙ ap (λ (i : ℕ). take i (links ++ drop (length links) work)) (sym front_length)
      ∙ take-append_seam links (drop (length links) work)

-- what is left behind the front
pub rest_room : (n : ℕ) (run : List ℕ) → length (mid_of n (length run - n) run) ≡ length run - n
rest_room n run = mid_len n (length run) run (omega arith)

pub from_fronts : (never none : Bool) (h g h' g' : List ℕ) (bits found wanted : ℕ) → h' ≡ h → g' ≡ g → found ≡ links_outcome never none h' g' bits
    → links_outcome never none h g bits ≡ wanted → found ≡ wanted
from_fronts never none h g h' g' bits found wanted e f o w = o ∙ rw (e, f) w
