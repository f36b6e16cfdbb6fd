-- No rule asks for the line number of an equation (document 02, (vii)): tables that differ in line numbers alone have the same widths, and the same
-- first fault or none. Assumes nothing.
use mathlib.Core.Path.{◌≡◌, refl, ◌∙◌}
use mathlib.Core.Logic.{⊎_elim}
use mathlib.Core.List.{List}
use Prim.Native.Nat.{ℕ, zero, suc, ◌<◌}
use native.Mathlib.Omega.{arith}
use lib.ListN.{length, get_or-eq_default}
use Rattle.terms.specs.declared.Row.{Row}
use Rattle.terms.specs.Table.{rows_of, row_at, no_row, by_kind, widths_of, width_of}
use Rattle.terms.specs.Faults.{breaks11, breaks13, breaks14, breaks15, breaks40, breaks16, unused_column, misnamed, wrong_width, wrong_value, wrong_bounds, rules_at, fault_at, lowest_fault, first_fault}
use Rattle.terms.specs.Counting.{SameButLine, OtherLines, LinesFree}
use Rattle.terms.proofs.Rows.{rows_length}
use Rattle.terms.proofs.Alike.{AlikeRow, Alike, alike_use, names_same, totals_same, kinds_same}
use Rattle.terms.proofs.LeavingOff.{alike_widths}
use Rattle.laws.proofs.Numbers.{lt_or_le}

-- rows with the same numbers are the same
same_row : (s r : Row) → s.kind ≡ r.kind → s.a ≡ r.a → s.b ≡ r.b → s.c ≡ r.c → s ≡ r
same_row s r k a b c =
    let fields : ◌≡◌ {A = Row} (record { kind = s.kind; a = s.a; b = s.b; c = s.c }) (record { kind = r.kind; a = r.a; b = r.b; c = r.c }) = rw (k, a, b, c) in
    fields

line-alike : (s r : Row) → SameButLine s r → AlikeRow 4 s r
line-alike s r h = record { kind_is = h.kind_is; same = λ n. same_row s r h.kind_is h.a_is h.b_is (h.c_is n) }

module _ (s t : List Row) (count : length s ≡ length t) (each : (r : ℕ) → r < length t → SameButLine (row_at s r) (row_at t r)) where
  alike : Alike 4 s t
  alike = record { count = count; each = λ r l. line-alike (row_at s r) (row_at t r) (each r l) }

  -- past the end too
  row_lines : (r : ℕ) → SameButLine (row_at s r) (row_at t r)
  row_lines r =
      ⊎_elim (each r)
      (λ l.
      let here : row_at s r ≡ no_row = get_or-eq_default s no_row (omega (arith, count)) in
      let there : row_at t r ≡ no_row = get_or-eq_default t no_row l in
      rw (here, there) (record { kind_is = refl; a_is = refl; b_is = refl; c_is = λ n. refl }))
      (lt_or_le r (length t))

  row-alike : (r : ℕ) → AlikeRow 4 (row_at s r) (row_at t r)
  row-alike r = line-alike (row_at s r) (row_at t r) (row_lines r)

  pub widths_lines : widths_of s ≡ widths_of t
  widths_lines = alike_widths s t alike

  -- the rules, one by one
  lines_13 : (r : ℕ) → breaks13 s r ≡ breaks13 t r
  unfolding breaks13 unused_column by_kind
  lines_13 r = alike_use 4 unused_column (row_at s r) (row_at t r) (row-alike r) (λ x e y f. rw (e, f))

  lines_14 : (r : ℕ) → breaks14 s r ≡ breaks14 t r
  unfolding breaks14 misnamed by_kind
  lines_14 r =
      names_same 4 (omega arith) s t alike r (row_at s r)
      ∙ rw ((row_lines r).kind_is, (row_lines r).a_is, (row_lines r).b_is)

  lines_15 : (r : ℕ) → breaks15 s r ≡ breaks15 t r
  unfolding breaks15 wrong_width by_kind
  lines_15 r = rw widths_lines (alike_use 4 (λ row. wrong_width row (width_of t r)) (row_at s r) (row_at t r) (row-alike r) (λ x e y f. rw (e, f)))

  lines_40 : (r : ℕ) → breaks40 s r ≡ breaks40 t r
  unfolding breaks40 wrong_value
  lines_40 r = alike_use 4 wrong_value (row_at s r) (row_at t r) (row-alike r) (λ x e y f. rw (e, f))

  lines_16 : (r : ℕ) → breaks16 s r ≡ breaks16 t r
  unfolding breaks16 wrong_bounds by_kind
  lines_16 r =
      rw widths_lines (alike_use 4 (λ row. wrong_bounds row (width_of t row.a)) (row_at s r) (row_at t r) (row-alike r) (λ x e y f. rw (e, f)))

  row-fault : (r : ℕ) → fault_at s r ≡ fault_at t r
  unfolding fault_at rules_at
  row-fault r =
      rw (
        kinds_same 4 (omega arith) s t alike r,
        lines_13 r,
        lines_14 r,
        lines_15 r,
        lines_40 r,
        lines_16 r,
        totals_same 4 (omega arith) s t alike r,
      )

  pub lowest_lines : (r n : ℕ) → lowest_fault s r n ≡ lowest_fault t r n
  unfolding lowest_fault
  lowest_lines r zero = refl
  lowest_lines r (suc n) = rw (row-fault r, lowest_lines (suc r) n)

-- with other line numbers a table has the same fault or none, and the same widths
pub lines_free : (other table : List ℕ) → OtherLines other table → LinesFree other table
unfolding first_fault breaks11
lines_free other table h =
    record {
      same_fault = rw (h.as_many, count, lowest_lines (rows_of other) (rows_of table) count h.each 0 (length (rows_of table)));
      same_widths = widths_lines (rows_of other) (rows_of table) count h.each;
    }
  where
    count : length (rows_of other) ≡ length (rows_of table)
    count = omega (arith, rows_length other, rows_length table, h.as_many)
