-- What holds of a row that breaks no rule, and of a table in which no row breaks one.
use mathlib.Core.Path.{◌≡◌, refl, sym, ◌∙◌, ap}
use mathlib.Core.Bool.{Bool, true, false, not, ◌&&◌, ◌||◌}
use mathlib.Core.List.{List, ◌∷◌}
use mathlib.Core.Logic.{⊎_elim}
use Prim.Native.Nat.{ℕ, zero, suc, ◌+◌, ◌-◌, ◌^◌, ◌<◌, ◌≤◌}
use native.Mathlib.Omega.{arith}
use lib.Dec.{eqb, ltb}
use lib.ListN.{length, take}
use borrow.Author.Tests.{ltb-true, ltb-false, eqb-false, not-false, lt-ltb, le-ltb, ne_eqb}
use Rattle.terms.specs.declared.Row.{Row}
use Rattle.terms.specs.declared.Fault.{Fault}
use Rattle.std.specs.Prelude.{Err}
use Rattle.terms.specs.declared.Fault.TheVariants.{Kind, Unused, Named, Width, Value, Bounds, Count}
use Rattle.terms.specs.Table.{row_at, by_kind, width_in, width_of, bits_of, count_kind}
use Rattle.terms.specs.Faults.{breaks12, breaks13, breaks14, breaks15, breaks40, breaks16, breaks17, unused_column, not_term, misnamed, outside, wrong_width, wrong_value, wrong_bounds, too_many, first_rule, rules_at, fault_at, is_accepted, lowest_fault}
use Rattle.terms.specs.Acceptance.{KeepsAll}
use Rattle.terms.proofs.RuleOrder.{told_none}
use Rattle.terms.proofs.RowKinds.{Fixed, fixed_kind, KindOf, is_variable, is-fixed, is_concat, is_extract, is_equation, kind-of}
use Rattle.laws.proofs.Bools.{not_both, or_first, or_second}
use Rattle.terms.proofs.Widths.{width_row}
use Rattle.laws.proofs.Numbers.{below-or_at}
use Rattle.terms.specs.Sound.{Passed}

-- ---- rules read from the top

-- a rule that is kept, and those behind it
pub rule_kept : (b : Bool) (f : Fault) (rules : List (Bool × Fault)) → is_accepted (Err f) ≡ false → is_accepted (first_rule ((b, f) ∷ rules)) ≡ true
    → (b ≡ false) × (is_accepted (first_rule rules) ≡ true)
unfolding first_rule
rule_kept true f rules n h = absurd (not_both h n)
rule_kept false f rules n h = (refl, h)

-- what is asked behind a rule matters only where that one is kept
pub rule_same : (b c : Bool) (f : Fault) (rules others : List (Bool × Fault)) → b ≡ c → (b ≡ false → first_rule rules ≡ first_rule others)
    → first_rule ((b, f) ∷ rules) ≡ first_rule ((c, f) ∷ others)
unfolding first_rule
rule_same true c f rules others e h = rw (← e)
rule_same false c f rules others e h = rw (← e) (h refl)

-- x names a term before row r
pub record Term (t : List Row) (r x : ℕ) : Type 0 where
  pub earlier : x < r
  pub no_equation : (row_at t x).kind ≡ 4 → ⊥

pub term : (t : List Row) (r x : ℕ) → not_term t r x ≡ false → Term t r x
unfolding not_term
term t r x h =
    record {
      earlier = ltb-true x r (not-false (ltb x r) (or_first (not (ltb x r)) (eqb (row_at t x).kind 4) h));
      no_equation = eqb-false (row_at t x).kind 4 (or_second (not (ltb x r)) (eqb (row_at t x).kind 4) h);
    }

both_terms : (t : List Row) (r x y : ℕ) → not_term t r x || not_term t r y ≡ false → Term t r x × Term t r y
both_terms t r x y h =
    (term t r x (or_first (not_term t r x) (not_term t r y) h), term t r y (or_second (not_term t r x) (not_term t r y) h))

pub concat_names : (t : List Row) (r : ℕ) (row : Row) → misnamed t r row ≡ false → row.kind ≡ 2 → Term t r row.a × Term t r row.b
unfolding misnamed by_kind
concat_names t r row h k = both_terms t r row.a row.b (rw k at h)

pub extract_names : (t : List Row) (r : ℕ) (row : Row) → misnamed t r row ≡ false → row.kind ≡ 3 → Term t r row.a
unfolding misnamed by_kind
extract_names t r row h k = term t r row.a (rw k at h)

pub equation_names : (t : List Row) (r : ℕ) (row : Row) → misnamed t r row ≡ false → row.kind ≡ 4 → Term t r row.a × Term t r row.b
unfolding misnamed by_kind
equation_names t r row h k = both_terms t r row.a row.b (rw k at h)

-- a row that names a term there names none wrongly
pub term_named : (t : List Row) (r x : ℕ) → Term t r x → not_term t r x ≡ false
unfolding not_term
term_named t r x k = rw (lt-ltb x r k.earlier, ne_eqb (row_at t x).kind 4 k.no_equation)

-- what a cut must be so that it breaks no rule of its own
module _ (t : List Row) (r : ℕ) (e : (row_at t r).kind ≡ 3) where
  pub cut_keeps_13 : breaks13 t r ≡ false
  unfolding breaks13 unused_column by_kind
  cut_keeps_13 = rw e

  pub cut_keeps_14 : Term t r (row_at t r).a → breaks14 t r ≡ false
  unfolding breaks14 misnamed by_kind
  cut_keeps_14 k = rw e (term_named t r (row_at t r).a k)

  pub cut_keeps_15 : breaks15 t r ≡ false
  unfolding breaks15 wrong_width by_kind
  cut_keeps_15 = rw e

  pub cut_keeps_40 : breaks40 t r ≡ false
  unfolding breaks40 wrong_value
  cut_keeps_40 = rw e

  pub cut_keeps_16 : (row_at t r).b < width_of t (row_at t r).a → (row_at t r).c ≤ (row_at t r).b → breaks16 t r ≡ false
  unfolding breaks16 wrong_bounds by_kind
  cut_keeps_16 h l = rw (e, lt-ltb (row_at t r).b (width_of t (row_at t r).a) h, le-ltb (row_at t r).b (row_at t r).c l)

pub inside : (w : ℕ) → outside w ≡ false → (1 ≤ w) × (w ≤ 1024)
unfolding outside
inside w h =
    (omega (arith, eqb-false w 0 (or_first (eqb w 0) (ltb 1024 w) h)), ltb-false 1024 w (or_second (eqb w 0) (ltb 1024 w) h))

-- row r breaks no rule
pub record Kept (t : List Row) (r : ℕ) : Type 0 where
  pub kept12 : breaks12 t r ≡ false
  pub kept13 : breaks13 t r ≡ false
  pub kept14 : breaks14 t r ≡ false
  pub kept15 : breaks15 t r ≡ false
  pub kept40 : breaks40 t r ≡ false
  pub kept16 : breaks16 t r ≡ false
  pub kept17 : breaks17 t r ≡ false

-- the same as one product
pub all_kept : (t : List Row) (r : ℕ) → Kept t r → KeepsAll t r
all_kept t r k = ((((((k.kept12, k.kept13), k.kept14), k.kept15), k.kept40), k.kept16), k.kept17)

pub kept : (t : List Row) (r : ℕ) → is_accepted (fault_at t r) ≡ true → Kept t r
unfolding fault_at rules_at
kept t r h =
    let k12 = rule_kept (breaks12 t r) (Kind r) _ refl h in
    let k13 = rule_kept (breaks13 t r) (Unused r) _ refl k12.1 in
    let k14 = rule_kept (breaks14 t r) (Named r) _ refl k13.1 in
    let k15 = rule_kept (breaks15 t r) (Width r) _ refl k14.1 in
    let k40 = rule_kept (breaks40 t r) (Value r) _ refl k15.1 in
    let k16 = rule_kept (breaks16 t r) (Bounds r) _ refl k40.1 in
    let k17 = rule_kept (breaks17 t r) (Count r) _ refl k16.1 in
    record { kept12 = k12.0; kept13 = k13.0; kept14 = k14.0; kept15 = k15.0; kept40 = k40.0; kept16 = k16.0; kept17 = k17.0 }

-- and a row that breaks none is accepted
pub unbroken : (t : List Row) (r : ℕ) → Kept t r → is_accepted (fault_at t r) ≡ true
unbroken t r k = ap is_accepted (told_none t r (all_kept t r k))

module _ (t : List Row) (r : ℕ) (k : Kept t r) where
  pub kept_kind : (row_at t r).kind ≤ 5
  unfolding breaks12
  kept_kind = ltb-false 5 (row_at t r).kind k.kept12

  pub kept_names : misnamed t r (row_at t r) ≡ false
  unfolding breaks14
  kept_names = k.kept14

  -- what is named first is earlier, where the row is neither a variable nor a fixed word
  pub kept_first : ((row_at t r).kind ≡ 0 → ⊥) → (Fixed (row_at t r).kind → ⊥) → (row_at t r).a < r
  kept_first h₀ h₁ = go (kind-of (row_at t r).kind)
    where
      go : KindOf (row_at t r).kind → (row_at t r).a < r
      go (is_variable e) = absurd (h₀ e)
      go (is-fixed e) = absurd (h₁ e)
      go (is_concat e) = (concat_names t r (row_at t r) kept_names e).0.earlier
      go (is_extract e) = (extract_names t r (row_at t r) kept_names e).earlier
      go (is_equation e) = (equation_names t r (row_at t r) kept_names e).0.earlier

  pub kept_bit : (row_at t r).kind ≡ 1 → (row_at t r).a ≤ 1
  unfolding breaks15 wrong_width by_kind
  kept_bit e = ltb-false 1 (row_at t r).a (or_second (outside (width_of t r)) (ltb 1 (row_at t r).a) (rw e at k.kept15))

  pub kept_fixed : Fixed (row_at t r).kind → (1 ≤ width_of t r) × (width_of t r ≤ 1024)
  unfolding breaks15 wrong_width
  kept_fixed e =
      inside (width_of t r) (or_first (outside (width_of t r)) (eqb (row_at t r).kind 1 && ltb 1 (row_at t r).a) (sym (fixed_kind (row_at t r).kind _ _ _ _ _ e) ∙ k.kept15))

  pub kept_width : (row_at t r).kind ≤ 2 → (1 ≤ width_of t r) × (width_of t r ≤ 1024)
  unfolding breaks15 wrong_width by_kind
  kept_width l = go (kind-of (row_at t r).kind)
    where
      go : KindOf (row_at t r).kind → (1 ≤ width_of t r) × (width_of t r ≤ 1024)
      go (is_variable e) = inside (width_of t r) (rw e at k.kept15)
      go (is-fixed e) = kept_fixed e
      go (is_concat e) = inside (width_of t r) (rw e at k.kept15)
      go (is_extract e) = absurd (omega arith)
      go (is_equation e) = absurd (omega arith)

  -- what a value is: at most 16 bits, which its number fits
  pub kept_value : 5 ≤ (row_at t r).kind → ((row_at t r).kind ≡ 5) × ((row_at t r).b ≤ 16) × ((row_at t r).a < 2 ^ (row_at t r).b)
  unfolding breaks40 wrong_value
  kept_value l =
      let row = row_at t r in
      let e : row.kind ≡ 5 = omega (arith, kept_kind) in
      let h : ltb 16 row.b || not (ltb row.a (2 ^ row.b)) ≡ false = rw e at k.kept40 in (
        e,
        ltb-false 16 row.b (or_first (ltb 16 row.b) (not (ltb row.a (2 ^ row.b))) h),
        ltb-true row.a (2 ^ row.b) (not-false (ltb row.a (2 ^ row.b)) (or_second (ltb 16 row.b) (not (ltb row.a (2 ^ row.b))) h)),
      )

  pub kept_bounds : (row_at t r).kind ≡ 3 → ((row_at t r).b < width_of t (row_at t r).a) × ((row_at t r).c ≤ (row_at t r).b)
  unfolding breaks16 wrong_bounds by_kind
  kept_bounds e =
      let row = row_at t r in
      let h : not (ltb row.b (width_of t row.a)) || ltb row.b row.c ≡ false = rw e at k.kept16 in (
        ltb-true row.b (width_of t row.a) (not-false (ltb row.b (width_of t row.a)) (or_first (not (ltb row.b (width_of t row.a))) (ltb row.b row.c) h)),
        ltb-false row.b row.c (or_second (not (ltb row.b (width_of t row.a))) (ltb row.b row.c) h),
      )

  pub kept_totals : (count_kind 0 (take (suc r) t) ≤ 64) × (bits_of (take (suc r) t) ≤ 4096) × (count_kind 4 (take (suc r) t) ≤ 64)
  unfolding breaks17 too_many
  kept_totals =
      let v = ltb 64 (count_kind 0 (take (suc r) t)) in
      let b = ltb 4096 (bits_of (take (suc r) t)) in
      let e = ltb 64 (count_kind 4 (take (suc r) t)) in
      let h : v || b || e ≡ false = k.kept17 in
      let vb : v || b ≡ false = or_first (v || b) e h in (
        ltb-false 64 (count_kind 0 (take (suc r) t)) (or_first v b vb),
        ltb-false 4096 (bits_of (take (suc r) t)) (or_second v b vb),
        ltb-false 64 (count_kind 4 (take (suc r) t)) (or_second (v || b) e h),
      )

-- a row that breaks no rule has a width of at most 1,024, where the rows before it have
width_next : (t : List Row) (r : ℕ) → r < length t → Kept t r → ((i : ℕ) → i < r → width_of t i ≤ 1024) → width_of t r ≤ 1024
unfolding width_in by_kind
width_next t r h k small = go (kind-of (row_at t r).kind)
  where
    low : (row_at t r).kind ≤ 2 → width_of t r ≤ 1024
    low l = (kept_width t r k l).1

    go : KindOf (row_at t r).kind → width_of t r ≤ 1024
    go (is_variable e) = low (omega arith)
    go (is-fixed e) = (kept_fixed t r k e).1
    go (is_concat e) = low (omega arith)
    go (is_extract e) =
        let named = extract_names t r (row_at t r) (kept_names t r k) e in
        let w : width_of t r ≡ (row_at t r).b + 1 - (row_at t r).c = rw e at (width_row t r h) in
        omega (arith, (kept_bounds t r k e).0, small (row_at t r).a named.earlier)
    go (is_equation e) = let w : width_of t r ≡ 0 = rw e at (width_row t r h) in omega arith

pub widths_small : (t : List Row) (r : ℕ) → r ≤ length t → Passed t r → (i : ℕ) → i < r → width_of t i ≤ 1024
widths_small t zero h p i l = absurd (omega arith)
widths_small t (suc r) h p i l =
    let before = widths_small t r (omega arith) (λ j m. p j (omega arith)) in
    ⊎_elim (λ m. before i m) (λ e. rw e (width_next t r h (kept t r (p r (omega arith))) before)) (below-or_at i r l)

-- what the rows before r add up to
pub totals_small : (t : List Row) (r : ℕ) → Passed t r → (count_kind 0 (take r t) ≤ 64) × (bits_of (take r t) ≤ 4096) × (count_kind 4 (take r t) ≤ 64)
unfolding count_kind bits_of
totals_small t zero p = (omega arith, omega arith, omega arith)
totals_small t (suc r) p = kept_totals t r (kept t r (p r (omega arith)))

-- the search for the lowest fault ends at a row that breaks a rule, and goes on past one that breaks none
pub lowest_here : (t : List Row) (r n : ℕ) → is_accepted (fault_at t r) ≡ false → lowest_fault t r (suc n) ≡ fault_at t r
unfolding lowest_fault
lowest_here t r n h = rw h

pub lowest_past : (t : List Row) (r n : ℕ) → is_accepted (fault_at t r) ≡ true → lowest_fault t r (suc n) ≡ lowest_fault t (suc r) n
unfolding lowest_fault
lowest_past t r n h = rw h
