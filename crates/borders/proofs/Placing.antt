-- The pass of `put_places`: with i places passed, the buffer has their rows but the last, and the counts are those of these places.
use mathlib.Core.Path.{◌≡◌, refl, sym, ap, ap₂, ◌∙◌, subst}
use mathlib.Core.Logic.{◌⊎◌, inl, inr, ◌≢◌}
use mathlib.Core.Bool.{Bool, true, false, ◌&&◌, cond, and-false, and-true}
use mathlib.Core.List.{List, [], ◌∷◌, reverse}
use Prim.Native.Nat.{ℕ, zero, suc, ◌+◌, ◌-◌, ◌%◌, ◌≤◌, ◌<◌, min}
use native.Mathlib.Omega.{arith}
use native.Mathlib.Numerals.{add-one}
use lib.Dec.{eqb, ltb, leb}
use lib.ListN.{length, get_or, set, length-reverse}
use lib.Seq.{get_or-set_same, get_or-set_other}
use borrow.Author.Tests.{eqb-true, eq-eqb, ne_eqb, lt-ltb, le-ltb, le-leb, lt-leb}
use Rattle.laws.specs.Buffers.{overwrite}
use Rattle.laws.proofs.Bools.{not_both, one_most}
use Rattle.answers.specs.Pairs.{Pair}
use Rattle.answers.specs.inner.Classes.{rep, in_class}
use Rattle.laws.specs.Lists.{tally}
use Rattle.answers.specs.Answer.{begins, variable_at, fixed_to, unfixed, goes_on, lowest, appears, place_row, widened, placed, rows_to, answer_rows}
use Rattle.answers.specs.inner.FourNumbers.{four_numbers}
use Rattle.answers.specs.declared.AnswerRow.{AnswerRow}
use Rattle.laws.proofs.Bools.{same_test}
use Rattle.laws.proofs.Numbers.{dec_eq}
use Rattle.laws.proofs.Numbers.{lt_or_le}
use Rattle.answers.proofs.AnswerRows.{placed_new}
use Rattle.answers.proofs.Relation.{fixed_is, unfixed_is, lowest_is}
use Rattle.borders.specs.declared.Progress.{Progress}
use Rattle.borders.specs.inner.Borders.{goes_in, number_in, step_in, row_written, Bordered, PutsPlaces}
use Rattle.borders.proofs.Neighbours.{goes_is}
use Rattle.borders.specs.inner.Borders.{row_of}
use Rattle.borders.proofs.RowNumbers.{row_next, row_none}
use Rattle.laws.proofs.Tallies.{tally_most}

-- the state after the first i places: the last row, which may go on, is not written yet
pub record Going (n : ℕ) (ws c numbers old answer : List ℕ) (p : Progress) (i : ℕ) : Type 0 where
  pub begun : p.begun ≡ tally i (begins ws)
  pub rows : p.rows ≡ length (rows_to n ws (in_class c) i)
  pub few : p.rows ≤ i
  pub fresh : p.fresh ≡ tally i (appears n ws (in_class c))
  pub numbered : (j : ℕ) → j < i → get_or numbers j 0 ≡ tally j (appears n ws (in_class c))
  pub rest : List AnswerRow
  pub none : i ≡ 0 → rest ≡ []
  pub last : 0 < i → rows_to n ws (in_class c) i ≡ row_of p ∷ rest
  pub written : answer ≡ overwrite (four_numbers (reverse rest)) old
  pub narrow : p.width ≤ i

-- with the last row written, the buffer has all of them
row_ended : (n : ℕ) (ws c numbers old answer : List ℕ) (p : Progress) (i : ℕ) → Going n ws c numbers old answer p i
    → row_written answer p ≡ overwrite (four_numbers (reverse (rows_to n ws (in_class c) i))) old
unfolding rows_to
row_ended n ws c numbers old answer p zero k =
    row_none answer p k.rows ∙ k.written ∙ ap (λ (r : List AnswerRow). overwrite (four_numbers (reverse r)) old) (k.none refl)
row_ended n ws c numbers old answer p (suc i) k =
    let e = k.last (omega arith) in
    ap (λ (o : List ℕ). row_written o p) k.written ∙ row_next old p k.rest (k.rows ∙ ap length e)
    ∙ ap (λ (r : List AnswerRow). overwrite (four_numbers (reverse r)) old) (sym e)

module _ (n : ℕ) (ws c : List ℕ) (seen : List Pair) (m after before : List ℕ) (B : Bordered n ws c seen m after before) (i : ℕ) (l : i < n) where
  abbrev C : ℕ → ℕ
  C k = rep c (suc (suc k))

  abbrev A : ℕ → Bool
  A = appears n ws (in_class c)

  abbrev on : Bool
  on = goes_on n ws (in_class c) i

  begun_next : (x : ℕ) → x ≡ tally i (begins ws) → (x + get_or m i 0) % 65536 ≡ tally (suc i) (begins ws)
  unfolding tally
  begun_next x e = omega (arith, B.marks_are i (omega arith), tally_most i (begins ws), one_most (begins ws i), B.few)

  -- a fresh piece appears only where a row begins
  appears_on : on ≡ true → A i ≡ false
  unfolding appears
  appears_on h = rw (h, and-false (unfixed (in_class c) i)) (and-false (eqb (lowest (in_class c) i) i))

  appears_new : on ≡ false → A i ≡ eqb (C i) (suc (suc i))
  unfolding appears
  appears_new h = rw (h, unfixed_is n c seen B.classed B.apart ws i) (go (lt_or_le (C i) 2))
    where
      go : (C i < 2) ⊎ (2 ≤ C i) → eqb (lowest (in_class c) i) i && (leb 2 (C i) && true) ≡ eqb (C i) (suc (suc i))
      go (inl k) = rw (lt-leb 2 (C i) k, ne_eqb (C i) (suc (suc i)) (omega arith)) (and-false (eqb (lowest (in_class c) i) i))
      go (inr k) =
          rw (le-leb 2 (C i) k, lowest_is n c seen B.classed B.apart ws i k, and-true (eqb (C i - 2) i))
          (same_test (eqb (C i - 2) i) (eqb (C i) (suc (suc i))) (λ e. eq-eqb (C i) (suc (suc i)) (omega (arith, eqb-true (C i - 2) i e))) (λ e. eq-eqb (C i - 2) i (omega (arith, eqb-true (C i) (suc (suc i)) e))))

  kind_is : min (C i) 2 ≡ cond (fixed_to (in_class c) i 0) 0 (cond (fixed_to (in_class c) i 1) 1 2)
  kind_is = rw (fixed_is n c seen B.classed B.apart ws i 0 (omega arith), fixed_is n c seen B.classed B.apart ws i 1 (omega arith)) (go (C i))
    where
      go : (x : ℕ) → min x 2 ≡ cond (eqb x 0) 0 (cond (eqb x 1) 1 2)
      go zero = refl
      go (suc zero) = refl
      go (suc (suc x)) = rw (ne_eqb (suc (suc x)) 0 (omega arith), ne_eqb (suc (suc x)) 1 (omega arith)) (omega arith)

  number_is : (numbers : List ℕ) → ((j : ℕ) → j < suc i → get_or numbers j 0 ≡ tally j (appears n ws (in_class c)))
      → number_in numbers (C i) ≡ cond (unfixed (in_class c) i) (tally (lowest (in_class c) i) (appears n ws (in_class c))) 0
  unfolding number_in
  number_is numbers h = rw (unfixed_is n c seen B.classed B.apart ws i) (go (lt_or_le (C i) 2))
    where
      go : (C i < 2) ⊎ (2 ≤ C i) → cond (ltb (C i) 2) 0 (get_or numbers (C i - 2) 0) ≡ cond (leb 2 (C i)) (tally (lowest (in_class c) i) A) 0
      go (inl k) = rw (lt-ltb (C i) 2 k, lt-leb 2 (C i) k)
      go (inr k) =
          rw (le-ltb (C i) 2 k, le-leb 2 (C i) k)
          (h (C i - 2) (omega (arith, B.classed.low (suc (suc i)))) ∙ ap (λ (x : ℕ). tally x A) (sym (lowest_is n c seen B.classed B.apart ws i k)))

  module _ (numbers old answer : List ℕ) (p : Progress) (k : Going n ws c numbers old answer p i) (room : i < length numbers) where
    abbrev new : List ℕ
    new = set numbers i p.fresh

    numbers_next : (j : ℕ) → j < suc i → get_or (set numbers i p.fresh) j 0 ≡ tally j (appears n ws (in_class c))
    numbers_next j h = go (dec_eq j i)
      where
        go : (j ≡ i) ⊎ (j ≢ i) → get_or new j 0 ≡ tally j A
        go (inl e) = rw e (get_or-set_same numbers i p.fresh 0 room ∙ k.fresh)
        go (inr e) = get_or-set_other numbers i j p.fresh 0 e ∙ k.numbered j (omega arith)

    -- the last row goes on
    abbrev wider : Progress
    wider = record { begun = (p.begun + get_or m i 0) % 65536; rows = p.rows; fresh = p.fresh; variable = p.variable; kind = p.kind; width = (p.width + 1) % 65536; number = p.number }

    going_on : on ≡ true → Going n ws c (set numbers i p.fresh) old answer wider (suc i)
    unfolding tally
    going_on h = record {
      begun = unfold tally in (begun_next p.begun k.begun);
      rows = k.rows ∙ ap length before_is ∙ sym (ap length after_is);
      few = omega (arith, k.few);
      fresh = rw (appears_on h) (omega (arith, k.fresh));
      numbered = numbers_next;
      rest = k.rest;
      none = λ z. absurd (omega arith);
      last = λ z. after_wider;
      written = k.written;
      narrow = omega (arith, k.narrow, B.few);
    }
      where
        some : (x : ℕ) → i ≡ x → 0 < i
        some zero e = absurd (not_both h (ap (goes_on n ws (in_class c)) e ∙ (unfold goes_on in refl)))
        some (suc x) e = omega arith

        before_is : rows_to n ws (in_class c) i ≡ row_of p ∷ k.rest
        before_is = k.last (some i refl)

        after_is : rows_to n ws (in_class c) (suc i) ≡ widened (row_of p) ∷ k.rest
        after_is = unfold rows_to placed in rw (h, before_is)

        width_is : suc p.width ≡ (p.width + 1) % 65536
        width_is = omega (arith, k.narrow, B.few)

        after_wider : rows_to n ws (in_class c) (suc i) ≡ row_of wider ∷ k.rest
        after_wider = after_is ∙ ap (λ (w : ℕ). record { variable = p.variable; kind = p.kind; width = w; fresh = p.number } ∷ k.rest) width_is

    -- a row begins
    abbrev begin : Progress
    begin = record {
      begun = (p.begun + get_or m i 0) % 65536;
      rows = (p.rows + 1) % 65536;
      fresh = (p.fresh + cond (eqb (C i) (suc (suc i))) 1 0) % 65536;
      variable = (p.begun + get_or m i 0) % 65536 - 1;
      kind = min (C i) 2;
      width = 1;
      number = number_in new (C i);
    }

    going_new : on ≡ false → Going n ws c (set numbers i p.fresh) old (row_written answer p) begin (suc i)
    going_new h = record {
      begun = begun_next p.begun k.begun;
      rows = rows_is ∙ sym (ap length after_is);
      few = omega (arith, k.few);
      fresh = fresh_is;
      numbered = numbers_next;
      rest = rows_to n ws (in_class c) i;
      none = λ z. absurd (omega arith);
      last = λ z. after_begin;
      written = row_ended n ws c numbers old answer p i k;
      narrow = omega arith;
    }
      where
        after_is : rows_to n ws (in_class c) (suc i) ≡ place_row n ws (in_class c) i ∷ rows_to n ws (in_class c) i
        after_is = unfold rows_to in (rw h (placed_new (place_row n ws (in_class c) i) (rows_to n ws (in_class c) i)))

        rows_is : (p.rows + 1) % 65536 ≡ suc (length (rows_to n ws (in_class c) i))
        rows_is = omega (arith, k.rows, k.few, B.few)

        fresh_is : (p.fresh + cond (eqb (C i) (suc (suc i))) 1 0) % 65536 ≡ tally (suc i) (appears n ws (in_class c))
        fresh_is = unfold tally in (rw (appears_new h) (omega (arith, k.fresh, tally_most i A, one_most (eqb (C i) (suc (suc i))), B.few)))

        variable_is : (p.begun + get_or m i 0) % 65536 - 1 ≡ variable_at ws i
        variable_is = omega (arith, begun_next p.begun k.begun, B.counted i l)

        row_is : row_of begin ≡ place_row n ws (in_class c) i
        row_is = unfold place_row in rw (variable_is, kind_is, number_is new numbers_next)

        after_begin : rows_to n ws (in_class c) (suc i) ≡ row_of begin ∷ rows_to n ws (in_class c) i
        after_begin = after_is ∙ ap (λ (r : AnswerRow). r ∷ rows_to n ws (in_class c) i) (sym row_is)

    pub going_more : (t : Bool) → t ≡ goes_in m c after before i
        → Going n ws c (set numbers i p.fresh) old (cond t answer (row_written answer p)) (step_in m c (set numbers i p.fresh) t p i) (suc i)
    unfolding step_in
    going_more true e = going_on (sym (e ∙ goes_is n ws c seen m after before B i l))
    going_more false e = going_new (sym (e ∙ goes_is n ws c seen m after before B i l))

-- the pass over the places, whatever it reads; where borders are marked, the state is that of the places passed
pub record Putting (n : ℕ) (m c after before numbers₀ old numbers answer : List ℕ) (p : Progress) (i : ℕ) : Type 0 where
  pub within : i ≤ n
  pub numbers_len : length numbers ≡ length numbers₀
  pub answer_len : length answer ≡ length old
  pub going : (ws : List ℕ) (seen : List Pair) → Bordered n ws c seen m after before → n ≤ length numbers₀ → Going n ws c numbers old answer p i

abbrev pub no_place : Progress
no_place = record { begun = 0; rows = 0; fresh = 0; variable = 0; kind = 0; width = 0; number = 0 }

pub first_place : (p : Progress)
    → (p.begun ≡ 0) × ((p.rows ≡ 0) × ((p.fresh ≡ 0) × ((p.variable ≡ 0) × ((p.kind ≡ 0) × ((p.width ≡ 0) × (p.number ≡ 0)))))) → p ≡ no_place
first_place p e =
    ap₂ (λ (x y : ℕ). record { begun = x; rows = y; fresh = p.fresh; variable = p.variable; kind = p.kind; width = p.width; number = p.number }) e.0 e.1.0
    ∙ ap₂ (λ (x y : ℕ). record { begun = 0; rows = 0; fresh = x; variable = y; kind = p.kind; width = p.width; number = p.number }) e.1.1.0 e.1.1.1.0
    ∙ ap₂ (λ (x y : ℕ). record { begun = 0; rows = 0; fresh = 0; variable = 0; kind = x; width = y; number = p.number }) e.1.1.1.1.0 e.1.1.1.1.1.0
    ∙ ap (λ (x : ℕ). record { begun = 0; rows = 0; fresh = 0; variable = 0; kind = 0; width = 0; number = x }) e.1.1.1.1.1.1

pub putting_first : (n : ℕ) (m c after before numbers old : List ℕ) → Putting n m c after before numbers old numbers old no_place 0
unfolding tally rows_to four_numbers overwrite
putting_first n m c after before numbers old = record {
  within = omega arith;
  numbers_len = refl;
  answer_len = refl;
  going = λ ws seen B room. record {
    begun = refl;
    rows = refl;
    few = omega arith;
    fresh = refl;
    numbered = λ j l. absurd (omega arith);
    rest = [];
    none = λ z. refl;
    last = λ z. absurd (omega arith);
    written = refl;
    narrow = omega arith;
  };
}

module _ (n : ℕ) (m c after before numbers₀ old numbers answer : List ℕ) (p : Progress) (i : ℕ) (k : Putting n m c after before numbers₀ old numbers answer p i) where
  pub putting_more : i < n → (at : ℕ) (numbers' answer' : List ℕ) (on : Bool) (q : Progress) → at ≡ i → numbers' ≡ set numbers at p.fresh
      → length numbers' ≡ length numbers → on ≡ goes_in m c after before i → answer' ≡ cond on answer (row_written answer p) → length answer' ≡ length answer
      → q ≡ step_in m c numbers' on p i → Putting n m c after before numbers₀ old numbers' answer' q (i + 1)
  putting_more l at numbers' answer' on q et en ln eo ea la eq =
      let e : numbers' ≡ set numbers i p.fresh = en ∙ ap (λ (x : ℕ). set numbers x p.fresh) et in
      rw add-one
      (record {
        within = l;
        numbers_len = ln ∙ k.numbers_len;
        answer_len = la ∙ k.answer_len;
        going = λ ws seen B room.
            rw (eq, ea, e)
            (going_more n ws c seen m after before B i l numbers old answer p (k.going ws seen B room) (omega (arith, k.numbers_len)) on eo);
      })

  pub putting_done : n ≤ i → (pieces fresh : ℕ) (answer' : List ℕ) → answer' ≡ row_written answer p → pieces ≡ p.rows → fresh ≡ p.fresh
      → PutsPlaces n m c after before numbers₀ old answer' pieces fresh
  unfolding answer_rows
  putting_done h pieces fresh answer' ea ep ef ws seen B room =
      let e : i ≡ n = omega (arith, k.within) in
      let g : Going n ws c numbers old answer p n = subst (λ (x : ℕ). Going n ws c numbers old answer p x) e (k.going ws seen B room) in
      record {
        pieces_are = ep ∙ g.rows ∙ sym (length-reverse (rows_to n ws (in_class c) n));
        fresh_are = ef ∙ g.fresh;
        answer_is = ea ∙ row_ended n ws c numbers old answer p n g;
      }
