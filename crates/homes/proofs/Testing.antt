-- Home and high bit tested row by row, from the last one back; and the first rows marked for it.
use mathlib.Core.Path.{◌≡◌, refl, sym, ◌∙◌, ap, subst}
use mathlib.Core.Logic.{◌⊎◌, inl, inr, ◌≢◌}
use mathlib.Core.Bool.{Bool, true, false, ◌&&◌, cond}
use mathlib.Core.List.{List}
use Prim.Native.Nat.{ℕ, suc, ◌+◌, ◌-◌, ◌*◌, ◌/◌, ◌%◌, ◌≤◌, ◌<◌}
use native.Mathlib.Omega.{arith}
use native.Mathlib.Numerals.{add-one}
use lib.Dec.{eqb}
use lib.ListN.{length, get_or, set, drop}
use borrow.Author.Tests.{eq-eqb, ne_eqb, eqb-true}
use Rattle.laws.proofs.Bools.{clash, and_first, and_second, and_both}
use Rattle.laws.proofs.Numbers.{dec_eq, at_or_after}
use Rattle.answers.specs.declared.AnswerRow.{AnswerRow}
use Rattle.answers.specs.Answer.{answer_row_at, answer_rows_of, is_fresh, width_in_rows, high_bit, home_row}
use Rattle.answers.proofs.AnswerNumbers.{answer_length}
use Rattle.answers.specs.inner.Orderly.{Orderly}
use Rattle.homes.specs.inner.Homes.{width_on, home_in, Seen, home_fine, MarksFirst, MarksFirsts, Right, TestsRows, TestsHomes}
use Rattle.homes.proofs.Widths.{width_next, high_next, none_passed}
use Rattle.answers.proofs.Homes.{home_le}
use Rattle.homes.proofs.Firsts.{none_seen, kind_fresh, kind_fill, seen_kept, more_seen, home_known, home_home}

-- the first rows marked, row by row
pub record Marking (n : ℕ) (t firsts₀ firsts : List ℕ) (seen i : ℕ) : Type 0 where
  pub within : i ≤ n
  pub room_len : length firsts ≡ length firsts₀
  pub going : n ≡ length (answer_rows_of t) → Orderly (answer_rows_of t) → n ≤ length firsts₀ → Seen (answer_rows_of t) firsts seen i

module _ (r : AnswerRow) (i seen : ℕ) (firsts : List ℕ) where
  pub mark_of_fill : r.kind < 2 → MarksFirst r i seen firsts firsts seen
  mark_of_fill f rows o e l space g =
      let fill : is_fresh (answer_row_at rows i) ≡ false = ap is_fresh (sym e) ∙ kind_fill rows r f in
      rw add-one (seen_kept rows o firsts seen i g l space (λ h. clash (is_fresh (answer_row_at rows i)) h fill))

  pub mark_of_later : r.fresh ≢ seen → MarksFirst r i seen firsts firsts seen
  mark_of_later q rows o e l space g = rw add-one (seen_kept rows o firsts seen i g l space (λ h d. q (ap (λ (x : AnswerRow). x.fresh) e ∙ d)))

  pub mark_of_first : 2 ≤ r.kind → r.fresh ≡ seen → (w : ℕ) → w ≡ seen → (firsts' : List ℕ) → firsts' ≡ set firsts w i → (seen' : ℕ) → seen' ≡ (seen + 1) % 65536
      → MarksFirst r i seen firsts firsts' seen'
  mark_of_first f q w ew firsts' ef seen' es rows o e l space g =
      let fresh : is_fresh (answer_row_at rows i) ≡ true = ap is_fresh (sym e) ∙ kind_fresh rows r f in
      let number : (answer_row_at rows i).fresh ≡ seen = ap (λ (x : AnswerRow). x.fresh) (sym e) ∙ q in
      let d : seen' ≡ suc seen = es ∙ omega (arith, g.most, o.few) in
      rw (add-one, ef, ew, d) (more_seen rows o firsts seen i g l space fresh number)

pub marking_first : (n : ℕ) (t firsts : List ℕ) → Marking n t firsts firsts 0 0
marking_first n t firsts = record { within = omega arith; room_len = refl; going = λ e o room. none_seen (answer_rows_of t) firsts }

module _ (n : ℕ) (t firsts₀ firsts : List ℕ) (seen i : ℕ) (k : Marking n t firsts₀ firsts seen i) where
  pub marking_more : i < n → (w : ℕ) → w ≡ i → (r : AnswerRow) → r ≡ answer_row_at (answer_rows_of t) w → (firsts' : List ℕ) → length firsts' ≡ length firsts
      → (seen' : ℕ) → MarksFirst r i seen firsts firsts' seen' → Marking n t firsts₀ firsts' seen' (i + 1)
  marking_more l w ew r er firsts' lf seen' h =
      record {
        within = omega arith;
        room_len = lf ∙ k.room_len;
        going = λ e o room.
            h (answer_rows_of t) o (er ∙ ap (answer_row_at (answer_rows_of t)) ew) (omega arith) (omega (arith, k.room_len)) (k.going e o room);
      }

  pub marking_done : n ≤ i → MarksFirsts n t (length firsts₀) firsts
  marking_done l e o room j q =
      let m : i ≡ n = omega (arith, k.within) in
      home_known (answer_rows_of t) firsts seen n j (subst (λ (x : ℕ). Seen (answer_rows_of t) firsts seen x) m (k.going e o room)) q

-- the tests of all rows say that home and high bit of each are right
module _ (rows : List AnswerRow) (t : List ℕ) where
  abbrev at : ℕ → AnswerRow
  at j = answer_row_at rows j

  abbrev fine : ℕ → Bool
  fine j = home_fine t (answer_row_at rows j).variable (high_bit rows j) (home_row rows j) j

  test_own : (j : ℕ) → home_row rows j ≡ j → fine j ≡ true → (get_or t (j * 6 + 4) 0 ≡ (answer_row_at rows j).variable) × (get_or t (j * 6 + 5) 0 ≡ high_bit rows j)
  unfolding home_fine
  test_own j e h =
      let q : eqb (get_or t (j * 6 + 4) 0) (at j).variable && eqb (get_or t (j * 6 + 5) 0) (high_bit rows j) ≡ true = rw (eq-eqb (home_row rows j) j e) at h in (
        eqb-true (get_or t (j * 6 + 4) 0) (at j).variable (and_first (eqb (get_or t (j * 6 + 4) 0) (at j).variable) (eqb (get_or t (j * 6 + 5) 0) (high_bit rows j)) q),
        eqb-true (get_or t (j * 6 + 5) 0) (high_bit rows j) (and_second (eqb (get_or t (j * 6 + 4) 0) (at j).variable) (eqb (get_or t (j * 6 + 5) 0) (high_bit rows j)) q),
      )

  test_other : (j : ℕ) → home_row rows j ≢ j → fine j ≡ true
      → (get_or t (j * 6 + 4) 0 ≡ get_or t (home_row rows j * 6 + 4) 0) × (get_or t (j * 6 + 5) 0 ≡ get_or t (home_row rows j * 6 + 5) 0)
  unfolding home_fine
  test_other j e h =
      let a : Bool = eqb (get_or t (j * 6 + 4) 0) (get_or t (home_row rows j * 6 + 4) 0) in
      let b : Bool = eqb (get_or t (j * 6 + 5) 0) (get_or t (home_row rows j * 6 + 5) 0) in
      let q : a && b ≡ true = rw (ne_eqb (home_row rows j) j e) at h in
      (eqb-true (get_or t (j * 6 + 4) 0) (get_or t (home_row rows j * 6 + 4) 0) (and_first a b q), eqb-true (get_or t (j * 6 + 5) 0) (get_or t (home_row rows j * 6 + 5) 0) (and_second a b q))

  right_tested : ((j : ℕ) → j < length rows → fine j ≡ true) → (j : ℕ) → j < length rows
      → (get_or t (j * 6 + 4) 0 ≡ (answer_row_at rows (home_row rows j)).variable) × (get_or t (j * 6 + 5) 0 ≡ high_bit rows (home_row rows j))
  right_tested f j l = go (dec_eq (home_row rows j) j)
    where
      go : (home_row rows j ≡ j) ⊎ (home_row rows j ≢ j)
          → (get_or t (j * 6 + 4) 0 ≡ (answer_row_at rows (home_row rows j)).variable) × (get_or t (j * 6 + 5) 0 ≡ high_bit rows (home_row rows j))
      go (inl e) = let q = test_own j e (f j l) in (q.0 ∙ ap (λ (x : ℕ). (at x).variable) (sym e), q.1 ∙ ap (high_bit rows) (sym e))
      go (inr e) =
          let q = test_other j e (f j l) in
          let p = test_own (home_row rows j) (home_home rows j) (f (home_row rows j) (omega (arith, home_le rows j))) in
          (q.0 ∙ p.0, q.1 ∙ p.1)

  pub all_tested : ((j : ℕ) → j < length rows → home_fine t (answer_row_at rows j).variable (high_bit rows j) (home_row rows j) j ≡ true) → Right rows t
  all_tested f = record { homes_are = λ j l. (right_tested f j l).0; highs_are = λ j l. (right_tested f j l).1 }

  pub right_fine : Right rows t → (j : ℕ) → j < length rows → home_fine t (answer_row_at rows j).variable (high_bit rows j) (home_row rows j) j ≡ true
  unfolding home_fine
  right_fine R j l = go (dec_eq (home_row rows j) j)
    where
      h : ℕ
      h = home_row rows j

      go : (home_row rows j ≡ j) ⊎ (home_row rows j ≢ j)
          → cond (eqb (home_row rows j) j)
          (eqb (get_or t (j * 6 + 4) 0) (at j).variable && eqb (get_or t (j * 6 + 5) 0) (high_bit rows j))
          (eqb (get_or t (j * 6 + 4) 0) (get_or t (home_row rows j * 6 + 4) 0) && eqb (get_or t (j * 6 + 5) 0) (get_or t (home_row rows j * 6 + 5) 0))
          ≡ true
      go (inl e) =
          rw (eq-eqb (home_row rows j) j e)
          (and_both (eqb (get_or t (j * 6 + 4) 0) (at j).variable) (eqb (get_or t (j * 6 + 5) 0) (high_bit rows j))
          (eq-eqb (get_or t (j * 6 + 4) 0) (at j).variable (R.homes_are j l ∙ ap (λ (x : ℕ). (at x).variable) e))
          (eq-eqb (get_or t (j * 6 + 5) 0) (high_bit rows j) (R.highs_are j l ∙ ap (high_bit rows) e)))
      go (inr e) =
          let q : home_row rows j < length rows = omega (arith, home_le rows j) in
          let a : get_or t (j * 6 + 4) 0 ≡ get_or t (home_row rows j * 6 + 4) 0 =
          R.homes_are j l ∙ ap (λ (x : ℕ). (at x).variable) (sym (home_home rows j)) ∙ sym (R.homes_are (home_row rows j) q) in
          let b : get_or t (j * 6 + 5) 0 ≡ get_or t (home_row rows j * 6 + 5) 0 =
          R.highs_are j l ∙ ap (high_bit rows) (sym (home_home rows j)) ∙ sym (R.highs_are (home_row rows j) q) in
          rw (ne_eqb (home_row rows j) j e)
          (and_both (eqb (get_or t (j * 6 + 4) 0) (get_or t (home_row rows j * 6 + 4) 0)) (eqb (get_or t (j * 6 + 5) 0) (get_or t (home_row rows j * 6 + 5) 0))
          (eq-eqb (get_or t (j * 6 + 4) 0) (get_or t (home_row rows j * 6 + 4) 0) a) (eq-eqb (get_or t (j * 6 + 5) 0) (get_or t (home_row rows j * 6 + 5) 0) b))

-- What is known with i rows still to be tested.
pub record Tested (rows : List AnswerRow) (t : List ℕ) (passed variable i : ℕ) : Type 0 where
  pub width_is : passed ≡ width_in_rows (drop i rows) variable
  pub variable_is : i < length rows → variable ≡ (answer_row_at rows i).variable
  pub tests : (j : ℕ) → i ≤ j → j < length rows → home_fine t (answer_row_at rows j).variable (high_bit rows j) (home_row rows j) j ≡ true

pub record Testing (n : ℕ) (t firsts : List ℕ) (passed variable i : ℕ) : Type 0 where
  pub within : i ≤ n
  pub going : n ≡ length (answer_rows_of t) → Orderly (answer_rows_of t)
      → ((j : ℕ) → j < n → home_in firsts (answer_row_at (answer_rows_of t) j) j ≡ home_row (answer_rows_of t) j) → Tested (answer_rows_of t) t passed variable i

pub testing_first : (n : ℕ) (t firsts : List ℕ) → Testing n t firsts 0 0 n
testing_first n t firsts =
    record {
      within = omega arith;
      going = λ e o f. record { width_is = none_passed (answer_rows_of t) n 0 e; variable_is = λ l. absurd (omega arith); tests = λ j l q. absurd (omega arith) };
    }

module _ (n : ℕ) (t firsts : List ℕ) (passed variable i : ℕ) (k : Testing n t firsts passed variable i) where
  abbrev rows : List AnswerRow
  rows = answer_rows_of t

  module _ (pos : 0 < i) (w : ℕ) (ew : w ≡ i - 1) (r : AnswerRow) (er : r ≡ answer_row_at (answer_rows_of t) w) (passed' : ℕ) (ep : passed' ≡ width_on passed variable r)
      (from : ℕ) (eh : from ≡ home_in firsts r (i - 1)) (high : ℕ) (eb : high ≡ passed' - 1) where
    abbrev j : ℕ
    j = i - 1

    row : r ≡ answer_row_at (answer_rows_of t) (i - 1)
    row = er ∙ ap (answer_row_at (answer_rows_of t)) ew

    module _ (e : n ≡ length (answer_rows_of t)) (o : Orderly (answer_rows_of t)) (f : (j : ℕ) → j < n → home_in firsts (answer_row_at (answer_rows_of t) j) j ≡ home_row (answer_rows_of t) j) where
      there : i - 1 < length (answer_rows_of t)
      there = omega (arith, k.within)

      back : Tested (answer_rows_of t) t passed variable (suc (i - 1))
      back = let s : i ≡ suc (i - 1) = omega arith in subst (λ (x : ℕ). Tested (answer_rows_of t) t passed variable x) s (k.going e o f)

      width : passed' ≡ width_in_rows (drop (i - 1) (answer_rows_of t)) (answer_row_at (answer_rows_of t) (i - 1)).variable
      width = ep ∙ ap (width_on passed variable) row ∙ width_next rows o j there passed variable back.width_is back.variable_is

      test_is : home_fine t r.variable high from (i - 1) ≡ home_fine t (answer_row_at (answer_rows_of t) (i - 1)).variable (high_bit (answer_rows_of t) (i - 1)) (home_row (answer_rows_of t) (i - 1)) (i - 1)
      test_is =
          let a : from ≡ home_row rows j = eh ∙ ap (λ (x : AnswerRow). home_in firsts x j) row ∙ f j (omega arith) in
          let b : high ≡ high_bit rows j = high_next rows o j there passed' width high eb in
          rw (a, b, row)

    pub testing_more : home_fine t r.variable high from (i - 1) ≡ true → Testing n t firsts passed' r.variable (i - 1)
    testing_more h =
        record {
          within = omega (arith, k.within);
          going = λ e o f.
              record {
                width_is = width e o f ∙ ap (λ (x : AnswerRow). width_in_rows (drop (i - 1) (answer_rows_of t)) x.variable) (sym row);
                variable_is = λ l. ap (λ (x : AnswerRow). x.variable) row;
                tests = λ m l q. go e o f m q (at_or_after j m l);
              };
        }
      where
        go : (e : n ≡ length (answer_rows_of t)) (o : Orderly (answer_rows_of t))
            (f : (j : ℕ) → j < n → home_in firsts (answer_row_at (answer_rows_of t) j) j ≡ home_row (answer_rows_of t) j) (m : ℕ) → m < length (answer_rows_of t) → (m ≡ i - 1) ⊎ (suc (i - 1) ≤ m)
            → home_fine t (answer_row_at (answer_rows_of t) m).variable (high_bit (answer_rows_of t) m) (home_row (answer_rows_of t) m) m ≡ true
        go e o f m q (inl d) = rw d (sym (test_is e o f) ∙ h)
        go e o f m q (inr l) = (back e o f).tests m l q

    pub testing_bad : home_fine t r.variable high from (i - 1) ≡ false → TestsRows n t firsts false
    testing_bad h e o f =
        record { only_right = λ b. clash false b refl; all_right = λ R. clash false (sym h ∙ test_is e o f ∙ right_fine (answer_rows_of t) t R j (there e o f)) refl }

  pub testing_done : i ≤ 0 → TestsRows n t firsts true
  testing_done l e o f = record { only_right = λ b. all_tested (answer_rows_of t) t (λ j q. (k.going e o f).tests j (omega arith) q); all_right = λ R. refl }

-- both passes together
pub tests_homes : (t : List ℕ) (n room : ℕ) (firsts : List ℕ) (b : Bool) → n ≡ length t / 6 % 65536 → MarksFirsts n t room firsts → TestsRows n t firsts b → TestsHomes t room b
tests_homes t n room firsts b e m k o l =
    let d : n ≡ length (answer_rows_of t) = omega (arith, e, answer_length t, o.few) in
    k d o (m d o (omega (arith, o.few)))
