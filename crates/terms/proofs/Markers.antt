-- A value (document 02, (i)): under every pattern its bits are those of its number, and the table of its row alone is accepted exactly if c is
-- 0, the width is 1 to 16 and the width's bits hold the number. Assumes nothing.
use mathlib.Core.Path.{◌≡◌, sym, ◌∙◌, ap}
use mathlib.Core.Bool.{or-true}
use mathlib.Core.List.{List}
use mathlib.Core.Logic.{◌⊎◌, inl, inr, ⊎_elim}
use Prim.Native.Nat.{ℕ, ◌^◌, ◌<◌, ◌≤◌}
use native.Mathlib.Omega.{arith}
use borrow.Author.Tests.{lt-ltb, le-ltb, ne_eqb}
use Rattle.laws.specs.Binary.{binary, bits_number}
use Rattle.laws.proofs.Binary.{written}
use Rattle.laws.proofs.Numbers.{dec_eq, lt_or_le}
use Rattle.terms.specs.declared.Row.{Row}
use Rattle.std.specs.Prelude.{Err}
use Rattle.terms.specs.declared.Fault.TheVariants.{Unused, Width, Value}
use Rattle.terms.specs.Table.{row_at, width_of, value_of}
use Rattle.terms.specs.Calls.{fault_number, fault_row}
use Rattle.terms.specs.Faults.{Found, Accepted, first_fault}
use Rattle.terms.specs.Acceptance.{Refused}
use Rattle.terms.specs.Sound.{Sound, IsValue}
use Rattle.terms.specs.Markers.{Marker, one_value, OneValue}
use Rattle.terms.proofs.Computed.{fault_computed}
use Rattle.terms.proofs.Faults.{kept, kept_value, kept_fixed}
use Rattle.terms.proofs.Values.{value_fixed, value-word, width_fixed}

-- A row of kind 5 of a table none of whose rows breaks a rule is a marker.
pub marker : (t : List Row) → Sound t → {r a w : ℕ} → IsValue t r a w → Marker t r a w
marker t sound {r} {a} {w} is =
    let k = kept t r (sound r is.in_table) in
    let l : 5 ≤ (row_at t r).kind = omega (arith, is.is_value) in
    let kv = kept_value t r k l in
    let fits : a < 2 ^ w = rw (is.number_is, is.width_is) at kv.2 in
    let width : width_of t r ≡ w = width_fixed t r is.in_table (inr l) ∙ is.width_is in
    let value : (p : List ℕ) → value_of t p r ≡ binary w a =
    λ p. value_fixed t p r is.in_table (inr l) ∙ value-word (row_at t r) l ∙ rw (is.number_is, is.width_is) in
    record {
      some = omega (arith, (kept_fixed t r k (inr l)).0);
      few = omega (arith, kv.1, is.width_is);
      fits = fits;
      width = width;
      value = value;
      number = λ p. ap bits_number (value p) ∙ (written w a fits).number;
    }

-- ---- one row alone

module _ (a b c : ℕ) where
  abbrev first : Found
  first = first_fault (one_value a b c)

  is_unused : (c ≡ 0 → ⊥) → first ≡ Err (Unused 0)
  unfolding fault_computed
  is_unused h = rw (ne_eqb c 0 h)

  is_wide : c ≡ 0 → (b ≡ 0) ⊎ (1024 < b) → first ≡ Err (Width 0)
  unfolding fault_computed
  is_wide e (inl h) = rw (e, h)
  is_wide e (inr h) = rw (e, lt-ltb 1024 b h, or-true)

  is_misfit : c ≡ 0 → 1 ≤ b → b ≤ 1024 → (16 < b) ⊎ (2 ^ b ≤ a) → first ≡ Err (Value 0)
  unfolding fault_computed
  is_misfit e l m (inl h) = rw (e, ne_eqb b 0 (λ z. omega arith), le-ltb 1024 b m, lt-ltb 16 b h)
  is_misfit e l m (inr h) = rw (e, ne_eqb b 0 (λ z. omega arith), le-ltb 1024 b m, le-ltb a (2 ^ b) h, or-true)

  is_marker : c ≡ 0 → 1 ≤ b → b ≤ 16 → a < 2 ^ b → first ≡ Accepted
  unfolding fault_computed
  is_marker e l m h = rw (e, ne_eqb b 0 (λ z. omega arith), le-ltb 1024 b (omega arith), le-ltb 16 b m, lt-ltb a (2 ^ b) h)

  -- one of the four is so
  data Verdict : Type 0 where
    unused : (c ≡ 0 → ⊥) → Verdict
    wide : c ≡ 0 → (b ≡ 0) ⊎ (1024 < b) → Verdict
    misfit : c ≡ 0 → 1 ≤ b → b ≤ 1024 → (16 < b) ⊎ (2 ^ b ≤ a) → Verdict
    fine : c ≡ 0 → 1 ≤ b → b ≤ 16 → a < 2 ^ b → Verdict

  verdict : Verdict
  verdict =
      ⊎_elim (λ e.
      ⊎_elim (λ z. wide e (inl (omega arith))) (λ l.
      ⊎_elim (λ z. wide e (inr z)) (λ m.
      ⊎_elim (λ z. misfit e l m (inl z)) (λ n.
      ⊎_elim (λ z. fine e l n z) (λ z. misfit e l m (inr z))
      (lt_or_le a (2 ^ b))) (lt_or_le 16 b)) (lt_or_le 1024 b)) (lt_or_le b 1)) (λ h. unused h) (dec_eq c 0)

  told : Verdict → ℕ
  told (unused h) = 13
  told (wide e h) = 15
  told (misfit e l m h) = 40
  told (fine e l m h) = 0

  number_is : (v : Verdict) → fault_number first ≡ told v
  unfolding told
  number_is (unused h) = ap fault_number (is_unused h)
  number_is (wide e h) = ap fault_number (is_wide e h)
  number_is (misfit e l m h) = ap fault_number (is_misfit e l m h)
  number_is (fine e l m h) = ap fault_number (is_marker e l m h)

  -- what each number says
  said_0 : (v : Verdict) → told v ≡ 0 → (c ≡ 0) × (1 ≤ b) × (b ≤ 16) × (a < 2 ^ b)
  unfolding told
  said_0 (unused h) n = absurd (omega arith)
  said_0 (wide e h) n = absurd (omega arith)
  said_0 (misfit e l m h) n = absurd (omega arith)
  said_0 (fine e l m h) n = (e, l, m, h)

  said_13 : (v : Verdict) → told v ≡ 13 → c ≡ 0 → ⊥
  unfolding told
  said_13 (unused h) n = h
  said_13 (wide e h) n = absurd (omega arith)
  said_13 (misfit e l m h) n = absurd (omega arith)
  said_13 (fine e l m h) n = absurd (omega arith)

  said_15 : (v : Verdict) → told v ≡ 15 → (c ≡ 0) × ((b ≡ 0) ⊎ (1024 < b))
  unfolding told
  said_15 (unused h) n = absurd (omega arith)
  said_15 (wide e h) n = (e, h)
  said_15 (misfit e l m h) n = absurd (omega arith)
  said_15 (fine e l m h) n = absurd (omega arith)

  said_40 : (v : Verdict) → told v ≡ 40 → (c ≡ 0) × (1 ≤ b) × (b ≤ 1024) × ((16 < b) ⊎ (2 ^ b ≤ a))
  unfolding told
  said_40 (unused h) n = absurd (omega arith)
  said_40 (wide e h) n = absurd (omega arith)
  said_40 (misfit e l m h) n = (e, l, m, h)
  said_40 (fine e l m h) n = absurd (omega arith)

  verdict_is : {n : ℕ} → fault_number first ≡ n → told verdict ≡ n
  verdict_is e = sym (number_is verdict) ∙ e

  tells : {f : Found} → first ≡ f → Refused (one_value a b c) (fault_number f) (fault_row f)
  tells e = (ap fault_number e, ap fault_row e)

  -- The table of one value's row: accepted, or refused 13, 15 or 40.
  pub one-value : OneValue a b c
  one-value =
      record {
        accepted = record { to = λ e. said_0 verdict (verdict_is (ap fault_number e)); of = λ h. is_marker h.0 h.1 h.2 h.3 };
        told_13 = record { to = λ e. said_13 verdict (verdict_is e.0); of = λ h. tells (is_unused h) };
        told_15 = record { to = λ e. said_15 verdict (verdict_is e.0); of = λ h. tells (is_wide h.0 h.1) };
        told_40 = record { to = λ e. said_40 verdict (verdict_is e.0); of = λ h. tells (is_misfit h.0 h.1 h.2 h.3) };
      }
