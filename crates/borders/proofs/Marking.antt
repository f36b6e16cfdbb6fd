-- The pass of `mark_begins`: with r rows passed, each place of their bits has its mark, and none stands past them.
use mathlib.Core.Path.{◌≡◌, refl, sym, ap, ◌∙◌}
use mathlib.Core.Logic.{◌⊎◌, inl, inr, ◌≢◌, ⊎_elim}
use mathlib.Core.Bool.{Bool, cond}
use mathlib.Core.List.{List, [], ◌∷◌, ◌++◌}
use Prim.Native.Nat.{ℕ, suc, ◌+◌, ◌-◌, ◌*◌, ◌%◌, ◌≤◌, ◌<◌}
use native.Mathlib.Omega.{arith}
use native.Mathlib.Numerals.{add-one}
use lib.Dec.{eqb}
use lib.ListN.{length, get_or, take, set}
use lib.Seq.{get_or-set_same, get_or-set_other, take-suc, take_all}
use borrow.Author.Tests.{eq-eqb, ne_eqb}
use Rattle.terms.specs.declared.Row.{Row}
use Rattle.terms.specs.Table.{rows_of, row_at, no_row, bits_in, bits_of}
use Rattle.terms.specs.Faults.{Accepted, first_fault}
use Rattle.terms.proofs.AcceptedTable.{accepted_table}
use Rattle.terms.proofs.Faults.{totals_small}
use Rattle.terms.proofs.Values.{bits_part}
use Rattle.terms.proofs.Widths.{bits_more}
use Rattle.answers.specs.Answer.{variable_widths, begins}
use Rattle.laws.proofs.Numbers.{dec_eq}
use Rattle.laws.proofs.Numbers.{lt_or_le}
use Rattle.answers.proofs.GeneralSystems.{width_sum}
use Rattle.borders.specs.inner.Borders.{Zeros, MarksBegins}
use Rattle.answers.proofs.Variables.{widths_sum}
use Rattle.borders.proofs.Beginning.{begins_low, begins_high, begins_past, widths_append, begins-row}

-- the places of the first r rows are marked; the one behind them may be
pub record MarkedTo (t : List Row) (r : ℕ) (marks : List ℕ) : Type 0 where
  pub low : (i : ℕ) → i < bits_of (take r t) → get_or marks i 0 ≡ cond (begins (variable_widths (take r t)) i) 1 0
  pub high : (i : ℕ) → bits_of (take r t) < i → get_or marks i 0 ≡ 0

module _ (t : List Row) (r : ℕ) (l : r < length t) (marks : List ℕ) (h : MarkedTo t r marks) (room : bits_of (take r t) < length marks) where
  abbrev b : ℕ
  b = bits_of (take r t)

  abbrev old_widths : List ℕ
  old_widths = variable_widths (take r t)

  abbrev new_widths : List ℕ
  new_widths = variable_widths (row_at t r ∷ [])

  sum : width_sum old_widths ≡ b
  sum = widths_sum (take r t)

  widths_next : variable_widths (take (suc r) t) ≡ old_widths ++ new_widths
  widths_next = ap variable_widths (take-suc t r no_row l) ∙ widths_append (take r t) (row_at t r ∷ [])

  marked_more : MarkedTo t (suc r) (set marks (bits_of (take r t)) 1)
  marked_more = record {
    low = λ i k. rw widths_next (at i (omega (arith, bits_more t r l)) (lt_or_le i b) (dec_eq i b));
    high = λ i k. get_or-set_other marks b i 1 0 (omega (arith, bits_more t r l)) ∙ h.high i (omega (arith, bits_more t r l));
  }
    where
      behind : (i : ℕ) → b ≤ i → i < b + bits_in (row_at t r) → begins (old_widths ++ new_widths) i ≡ eqb (i - b) 0
      behind i k m = begins_high old_widths new_widths i (omega (arith, sum)) ∙ ap (λ (x : ℕ). begins new_widths (i - x)) sum ∙ begins-row (row_at t r) (i - b) (omega arith)

      at : (i : ℕ) → i < b + bits_in (row_at t r) → (i < b) ⊎ (b ≤ i) → (i ≡ b) ⊎ (i ≢ b) → get_or (set marks b 1) i 0 ≡ cond (begins (old_widths ++ new_widths) i) 1 0
      at i m (inl k) d = get_or-set_other marks b i 1 0 (omega arith) ∙ h.low i k ∙ ap (λ (x : Bool). cond {A = ℕ} x 1 0) (sym (begins_low old_widths new_widths i (omega (arith, sum))))
      at i m (inr k) (inl d) =
          ap (λ (x : ℕ). get_or (set marks b 1) x 0) d ∙ get_or-set_same marks b 1 0 room
          ∙ ap (λ (x : Bool). cond {A = ℕ} x 1 0) (sym (behind i k m ∙ eq-eqb (i - b) 0 (omega arith)))
      at i m (inr k) (inr d) =
          get_or-set_other marks b i 1 0 d ∙ h.high i (omega arith)
          ∙ ap (λ (x : Bool). cond {A = ℕ} x 1 0) (sym (behind i k m ∙ ne_eqb (i - b) 0 (omega arith)))

pub record Marking (table old marks : List ℕ) (bits r : ℕ) : Type 0 where
  pub within : r ≤ length (rows_of table)
  pub n_bits : bits ≡ bits_of (take r (rows_of table))
  pub few : bits ≤ r * 65535
  pub len : length marks ≡ length old
  pub done : first_fault table ≡ Accepted → Zeros old → bits_of (rows_of table) < length old → MarkedTo (rows_of table) r marks

pub marking_first : (table old : List ℕ) → Marking table old old 0 0
unfolding bits_of
marking_first table old = record {
  within = omega arith;
  n_bits = refl;
  few = omega arith;
  len = refl;
  done = λ a z l. record { low = λ i k. absurd (omega arith); high = λ i k. z i };
}

module _ (table old marks : List ℕ) (bits r : ℕ) (k : Marking table old marks bits r) where
  abbrev rows : List Row
  rows = rows_of table

  small : first_fault table ≡ Accepted → bits_of (take r (rows_of table)) ≤ 4096
  small a = (totals_small rows r (λ i m. (accepted_table table a).sound i (omega (arith, k.within)))).1

  pub marking_more : r < length rows → (row : Row) (more : ℕ) (marks' : List ℕ) → row ≡ row_at rows r → more ≡ bits_in row → more ≤ 65535
      → marks' ≡ set marks bits 1 → length marks' ≡ length marks → Marking table old marks' (bits + more) (r + 1)
  marking_more l row more marks' er em few es el =
      rw add-one
      (record {
        within = l;
        n_bits = omega (arith, bits_more rows r l, k.n_bits, rw er at em);
        few = omega (arith, k.few);
        len = el ∙ k.len;
        done = λ a z n. rw (es, k.n_bits) (marked_more rows r l marks (k.done a z n) (omega (arith, bits_part rows r, k.len)));
      })

  pub marking_done : r ≤ 512 → (512 ≤ r) ⊎ (length rows ≤ r) → (marks' : List ℕ) (n : ℕ) → marks' ≡ set marks bits 1 → n ≡ bits % 65536
      → MarksBegins table old marks' n
  marking_done h e marks' n es en a z m = record {
    bits = n_is;
    marks_are = λ i l. rw (es, k.n_bits) (at i (omega arith) (dec_eq i (bits_of (take r rows))));
  }
    where
      all : take r rows ≡ rows
      all = take_all r rows (⊎_elim (λ g. omega (arith, (accepted_table table a).few)) (λ g. g) e)

      n_is : n ≡ bits_of rows
      n_is = en ∙ omega (arith, small a, k.n_bits, ap bits_of all)

      ws : List ℕ
      ws = variable_widths rows

      total : bits_of (take r rows) ≡ width_sum ws
      total = ap bits_of all ∙ sym (widths_sum rows)

      at : (i : ℕ) → i ≤ n → (i ≡ bits_of (take r rows)) ⊎ (i ≢ bits_of (take r rows)) → get_or (set marks (bits_of (take r rows)) 1) i 0 ≡ cond (begins ws i) 1 0
      at i l (inl d) =
          ap (λ (x : ℕ). get_or (set marks (bits_of (take r rows)) 1) x 0) d ∙ get_or-set_same marks (bits_of (take r rows)) 1 0 (omega (arith, bits_part rows r, k.len))
          ∙ ap (λ (x : Bool). cond {A = ℕ} x 1 0) (sym (begins_past ws i (omega (arith, total))))
      at i l (inr d) =
          get_or-set_other marks (bits_of (take r rows)) i 1 0 d ∙ (k.done a z m).low i (omega (arith, n_is, ap bits_of all))
          ∙ ap (λ (x : List Row). cond {A = ℕ} (begins (variable_widths x) i) 1 0) all
