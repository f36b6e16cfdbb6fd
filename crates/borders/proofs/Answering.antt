-- The parts of `put_rows` together.
use mathlib.Core.Path.{◌≡◌, refl, sym, ap, ◌∙◌, subst}
use mathlib.Core.Bool.{cond}
use mathlib.Core.List.{List}
use Prim.Native.Nat.{ℕ, zero, suc, ◌+◌, ◌≤◌, ◌<◌}
use native.Mathlib.Omega.{arith}
use lib.ListN.{length, get_or, replicate, length-replicate}
use Rattle.terms.specs.declared.Row.{Row}
use Rattle.terms.specs.Table.{rows_of, bits_of}
use Rattle.terms.specs.Faults.{Accepted, first_fault}
use Rattle.terms.proofs.AcceptedTable.{accepted_table, table_bits}
use Rattle.terms.proofs.Faults.{kept, kept_width}
use Rattle.terms.proofs.Values.{width_variable}
use Rattle.answers.specs.Answer.{variable_widths}
use Rattle.answers.specs.inner.Classes.{Represents}
use Rattle.borders.specs.inner.Rows.{PutsRows}
use Rattle.borders.specs.inner.Borders.{Zeros, MarksBegins, BeginsMarked, even_at, MarksUneven, PutsPlaces, PlacesPut, PutsWith}
use Rattle.answers.proofs.Variables.{widths_sum, begins_first}
use Rattle.borders.proofs.Beginning.{Positive, widths_positive, variable_tally}

zeros_at : (k : ℕ) → Zeros (replicate k 0)
zeros_at zero i = refl
zeros_at (suc k) zero = refl
zeros_at (suc k) (suc i) = zeros_at k i

-- each variable of an accepted table has a bit
positive : (table : List ℕ) → first_fault table ≡ Accepted → Positive (variable_widths (rows_of table))
positive table a =
    widths_positive rows (λ r l e.
    omega (arith, width_variable rows r l e, (kept_width rows r (kept rows r ((accepted_table table a).sound r l)) (omega arith)).0))
  where
    rows : List Row
    rows = rows_of table

pub rows_put : (table c answer answer' marks₀ marks after₀ after before₀ before numbers : List ℕ) (n pieces fresh : ℕ)
    → MarksBegins table marks₀ marks n → MarksUneven marks c 1 n after₀ after → MarksUneven marks c 0 n before₀ before
    → PutsPlaces n marks c after before numbers answer answer' pieces fresh
    → PutsWith table c marks₀ after₀ before₀ (length numbers) answer answer' pieces fresh
rows_put table c answer answer' marks₀ marks after₀ after before₀ before numbers n pieces fresh b a e p zm za ze lm la le ln seen f inv one =
    let small = table_bits table f in
    let k : BeginsMarked table marks n = b f zm (omega (arith, inv.len)) in
    let marked : (side : ℕ) (u₀ u : List ℕ) → Zeros u₀ → length c ≤ length u₀ → MarksUneven marks c side n u₀ u → (r : ℕ) → r < n + 2 → get_or u r 0 ≡ cond (even_at marks c side r n) 0 1 =
    λ side u₀ u z h s r l. s r (omega (arith, inv.len, k.bits)) ∙ ap (λ (x : ℕ). cond (even_at marks c side r n) x 1) (z r) in
    let q : PlacesPut n ws c answer answer' pieces fresh =
    p ws seen
    (record {
      few = omega (arith, k.bits);
      classed = subst (λ (x : ℕ). Represents x c seen) (sym k.bits) inv;
      apart = one;
      from = begins_first ws;
      counted = λ i l. variable_tally ws (positive table f) i (omega (arith, k.bits, widths_sum (rows_of table)));
      marks_are = k.marks_are;
      after_is = marked 1 after₀ after za la a;
      before_is = marked 0 before₀ before ze le e;
    }) (omega (arith, inv.len, k.bits)) in
    let m : n ≡ bits_of (rows_of table) = k.bits in
    record { pieces_are = rw (← m) q.pieces_are; fresh_are = rw (← m) q.fresh_are; answer_is = rw (← m) q.answer_is }
  where
    ws : List ℕ
    ws = variable_widths (rows_of table)

-- no table has more sources than 4,098
pub few_sources : (table c answer answer' : List ℕ) (pieces fresh : ℕ)
    → (length c ≤ 4098 → PutsRows table c answer answer' pieces fresh) → PutsRows table c answer answer' pieces fresh
few_sources table c answer answer' pieces fresh p seen f inv = p (omega (arith, table_bits table f, inv.len)) seen f inv

-- the lists that help are all 0 at first, and of one length: one that no table exceeds is enough
module _ (table c answer answer' : List ℕ) (room pieces fresh : ℕ) (p : PutsWith table c (replicate room 0) (replicate room 0) (replicate room 0) (length (replicate {A = ℕ} room 0)) answer answer' pieces fresh) where
  pub put-few : length c ≤ room → PutsRows table c answer answer' pieces fresh
  put-few h =
      let l : length c ≤ length (replicate {A = ℕ} room 0) = omega (arith, length-replicate {A = ℕ} room 0) in
      p (zeros_at room) (zeros_at room) (zeros_at room) l l l l

  pub put-many : 4098 ≤ room → PutsRows table c answer answer' pieces fresh
  put-many h = few_sources table c answer answer' pieces fresh (λ l. put-few (omega arith))
