-- Which patterns a table up to a row leaves: those that meet the equations before that row. And the row at which none is left. Assumes nothing.
use mathlib.Core.Path.{◌≡◌, refl, sym, ◌∙◌, ap, subst}
use mathlib.Core.Bool.{Bool, true, false, not}
use mathlib.Core.List.{List}
use mathlib.Core.Logic.{⊎_elim}
use Prim.Native.Nat.{ℕ, suc, ◌<◌, ◌≤◌}
use native.Mathlib.Omega.{arith}
use lib.ListN.{length, take}
use borrow.Author.Tests.{not-true, not-false}
use Rattle.laws.proofs.Bools.{not_both}
use Rattle.laws.proofs.Numbers.{lt_or_le}
use Rattle.terms.specs.declared.Row.{Row}
use Rattle.terms.specs.Assignments.{Assignment}
use Rattle.terms.specs.Acceptance.{Exactly}
use Rattle.terms.specs.Table.{row_at, bits_of, values_of, sides_agree, all_rows, satisfies}
use Rattle.terms.specs.Counting.{Counts, MeetsBefore, NoLines}
use Rattle.terms.proofs.Assignments.{every_at, every_false}
use Rattle.terms.proofs.Satisfies.{before_at, before_of}
use Rattle.answers.specs.Solve.{unsatisfiable, unsat_row, never_record, answer_record}
use Rattle.answers.specs.Never.{SomeLeft, NoneLeftAt}
use Rattle.answers.proofs.Never.{none_left_at, never-row}
use Rattle.jobs.specs.Prefix.{up_to}
use Rattle.jobs.proofs.Prefix.{up_count, up_before, up_past, up_up, up_lines, up_satisfies, no_counting}
use Rattle.jobs.proofs.PrefixPairs.{up_bits, up_ties_before}

-- without line numbers each equation counts
pub plain_counts : (t : List Row) → NoLines t → (r : ℕ) → r < length t → (row_at t r).kind ≡ 4 → Counts t r
plain_counts t none r l e = record { in_table = l; is_equation = e; unrevised = λ h. absurd (omega (arith, h.above_0, none h.line r h.here)) }

-- an assignment satisfies the table up to row r exactly if it meets the equations before r
pub up_meets : (t : List Row) → NoLines t → (r : ℕ) (p : List ℕ) → Exactly (satisfies (up_to r t) p ≡ true) (MeetsBefore t r p)
up_meets t none r p =
    let same : all_rows (sides_agree (values_of t p)) (take r t) ≡ satisfies (up_to r t) p = sym (up_satisfies r t none p) in
    record {
      to = λ h. before_at t p r (rw (no_counting t none, same) h);
      of = λ m. sym same ∙ (rw (no_counting t none) at (before_of t p r m));
    }

module _ (t : List Row) (none : NoLines t) where
  -- it leaves a pattern exactly if one meets these
  pub left_some : (r : ℕ) → unsatisfiable (up_to r t) ≡ false → SomeLeft t r
  unfolding unsatisfiable
  left_some r h =
      let s = every_false (bits_of (up_to r t)) (λ p. not (satisfies (up_to r t) p)) h in
      record { pattern = s.0; bits = subst (λ (n : ℕ). Assignment n s.0) (up_bits r t) s.1.0; meets = (up_meets t none r s.0).to (not-false (satisfies (up_to r t) s.0) s.1.1) }

  pub never_none : (r : ℕ) → unsatisfiable (up_to r t) ≡ true → SomeLeft t r → ⊥
  unfolding unsatisfiable
  never_none r h some =
      not_both ((up_meets t none r some.pattern).of some.meets)
      (not-true (satisfies (up_to r t) some.pattern) (every_at (bits_of (up_to r t)) (λ p. not (satisfies (up_to r t) p)) h some.pattern (rw (up_bits r t) some.bits)))

  pub some_left : (r : ℕ) → SomeLeft t r → unsatisfiable (up_to r t) ≡ false
  some_left r some = go (unsatisfiable (up_to r t)) refl
    where
      go : (b : Bool) → unsatisfiable (up_to r t) ≡ b → b ≡ false
      go true e = absurd (never_none r e some)
      go false e = refl

  pub none_never : (r : ℕ) → (SomeLeft t r → ⊥) → unsatisfiable (up_to r t) ≡ true
  none_never r lacks = go (unsatisfiable (up_to r t)) refl
    where
      go : (b : Bool) → unsatisfiable (up_to r t) ≡ b → b ≡ true
      go true e = refl
      go false e = absurd (lacks (left_some r e))

  -- fewer equations leave no fewer patterns
  pub some_before : (a b : ℕ) → a ≤ b → SomeLeft t b → SomeLeft t a
  some_before a b l some = record { pattern = some.pattern; bits = some.bits; meets = λ i m c. some.meets i (omega arith) c }

  pub left_before : (a b : ℕ) → a ≤ b → unsatisfiable (up_to b t) ≡ false → unsatisfiable (up_to a t) ≡ false
  left_before a b l h = some_left a (some_before a b l (left_some b h))

  pub never_behind : (a b : ℕ) → a ≤ b → unsatisfiable (up_to a t) ≡ true → unsatisfiable (up_to b t) ≡ true
  never_behind a b l h = none_never b (λ some. never_none a h (some_before a b l some))

  -- ---- the row at which none is left
  pub lost_at : (r : ℕ) → r < length t → (row_at t r).kind ≡ 4 → unsatisfiable (up_to r t) ≡ false → unsatisfiable (up_to (suc r) t) ≡ true → NoneLeftAt t r
  lost_at r l e before with' = record { counts = plain_counts t none r l e; some_before = left_some r before; none_with = never_none (suc r) with' }

  one-row : (a b : ℕ) → NoneLeftAt t a → NoneLeftAt t b → a ≡ b
  one-row a b x y =
      ⊎_elim (λ l. absurd (x.none_with (some_before (suc a) b (omega arith) y.some_before)))
      (λ l. ⊎_elim (λ m. absurd (y.none_with (some_before (suc b) a (omega arith) x.some_before))) (λ m. omega arith) (lt_or_le b a))
      (lt_or_le a b)

  pub whole_never : (r : ℕ) → unsatisfiable (up_to r t) ≡ true → unsatisfiable t ≡ true
  whole_never r h =
      ⊎_elim (λ l. ap unsatisfiable (sym (up_past (length t) t (omega arith))) ∙ never_behind r (length t) (omega arith) h)
      (λ l. ap unsatisfiable (sym (up_past r t l)) ∙ h)
      (lt_or_le r (length t))

  pub never_at : unsatisfiable t ≡ true → NoneLeftAt t (unsat_row t)
  never_at h = none_left_at t h

  pub unsat_row_is : (r : ℕ) → NoneLeftAt t r → unsat_row t ≡ r
  unsat_row_is r at = one-row (unsat_row t) r (none_left_at t (whole_never (suc r) (none_never (suc r) at.none_with))) at

  -- the record of a table up to the equation at which none is left is that of the whole table
  up_lost : (r : ℕ) → NoneLeftAt t r → NoneLeftAt (up_to (suc r) t) r
  up_lost r at =
      let row = up_before (suc r) t r (omega arith) in
      let inside : r < length (up_to (suc r) t) = omega (arith, at.counts.in_table, up_count (suc r) t) in
      record {
        counts = plain_counts (up_to (suc r) t) (up_lines (suc r) t none) r inside (rw row at.counts.is_equation);
        some_before =
            record {
              pattern = at.some_before.pattern;
              bits = rw (up_bits (suc r) t) at.some_before.bits;
              meets = (across r (omega arith) at.some_before.pattern).of at.some_before.meets;
            };
        none_with = λ some.
            at.none_with
            (record {
              pattern = some.pattern;
              bits = rw (up_bits (suc r) t) at some.bits;
              meets = (across (suc r) (omega arith) some.pattern).to some.meets;
            });
      }
    where
      across : (n : ℕ) → n ≤ suc r → (p : List ℕ) → Exactly (MeetsBefore (up_to (suc r) t) n p) (MeetsBefore t n p)
      across n l p =
          let same : satisfies (up_to n (up_to (suc r) t)) p ≡ satisfies (up_to n t) p = ap (λ (s : List Row). satisfies s p) (up_up n (suc r) t l) in
          let above = up_meets (up_to (suc r) t) (up_lines (suc r) t none) n p in
          record { to = λ m. (up_meets t none n p).to (sym same ∙ above.of m); of = λ m. above.to (same ∙ (up_meets t none n p).of m) }

  pub lost_record : (r : ℕ) → NoneLeftAt t r → answer_record (up_to (suc r) t) ≡ answer_record t
  lost_record r at =
      (never-row (up_to (suc r) t) r).of (up_lost r at)
      ∙ ap (λ (n : ℕ). never_record n r) (up_ties_before (suc r) t none r (omega arith))
      ∙ sym ((never-row t r).of at)
