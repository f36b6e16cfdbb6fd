-- (c) The pairs of an accepted call that break the sheet, and the first of them. Assumes nothing.
use mathlib.Core.Path.{◌≡◌, refl, sym, ◌∙◌, ap}
use mathlib.Core.Bool.{Bool, true, false, cond}
use mathlib.Core.List.{List, [], ◌∷◌}
use mathlib.Core.Logic.{◌⊎◌, inl, inr, ◌≢◌}
use Prim.Native.Nat.{ℕ, zero, suc, ◌+◌, ◌≤◌, ◌<◌}
use native.Mathlib.Omega.{arith}
use lib.ListN.{length}
use Rattle.terms.specs.declared.Record.{Record}
use Rattle.terms.specs.declared.Row.{Row}
use Rattle.terms.specs.Table.{rows_of}
use Rattle.laws.specs.Lists.{tally}
use Rattle.laws.proofs.Bools.{not_both}
use Rattle.laws.proofs.Numbers.{lt_or_le}
use Rattle.laws.proofs.Tallies.{tally_front}
use Rattle.recordings.specs.Recordings.{Match, matched, broken, breaking, first_counter}
use Rattle.recordings.specs.Call.{recordings_record}
use Rattle.recordings.specs.Compared.{frames_by, Accepts, pair_at, BrokenFirst}
use Rattle.recordings.proofs.Counted.{pairs_rise}
use Rattle.recordings.proofs.Stops.{Parts, parts}

module _ (t : List Row) where
  tallied : (ms : List Match) → length (breaking t ms) ≡ tally (length ms) (λ i. broken t (pair_at ms i))
  unfolding breaking tally
  tallied [] = refl
  tallied (m ∷ ms) =
      go (broken t m) (tallied ms) ∙ sym (tally_front (length ms) (λ i. broken t (pair_at (m ∷ ms) i)))
    where
      go : (b : Bool) → length (breaking t ms) ≡ tally (length ms) (λ i. broken t (pair_at ms i))
          → length (cond b (m ∷ breaking t ms) (breaking t ms)) ≡ cond {A = ℕ} b 1 0 + tally (length ms) (λ i. broken t (pair_at ms i))
      go true e = omega (arith, e)
      go false e = omega (arith, e)

  breaking_most : (ms : List Match) → length (breaking t ms) ≤ length ms
  unfolding breaking
  breaking_most [] = omega arith
  breaking_most (m ∷ ms) = go (broken t m) (breaking_most ms)
    where
      go : (b : Bool) → length (breaking t ms) ≤ length ms → length (cond b (m ∷ breaking t ms) (breaking t ms)) ≤ suc (length ms)
      go true l = omega arith
      go false l = omega arith

  -- none breaks it, or the first that does
  none_breaks : (ms : List Match) → length (breaking t ms) ≡ 0 → (i : ℕ) → i < length ms → broken t (pair_at ms i) ≡ false
  unfolding breaking
  none_breaks [] e i l = absurd (omega arith)
  none_breaks (m ∷ ms) e i l = go (broken t m) refl e i l (none_breaks ms)
    where
      go : (b : Bool) → broken t m ≡ b → length (cond b (m ∷ breaking t ms) (breaking t ms)) ≡ 0 → (i : ℕ) → i < length (m ∷ ms)
          → (length (breaking t ms) ≡ 0 → (i : ℕ) → i < length ms → broken t (pair_at ms i) ≡ false) → broken t (pair_at (m ∷ ms) i) ≡ false
      go true h z i l rest = absurd (omega arith)
      go false h z zero l rest = h
      go false h z (suc i) l rest = rest z i (omega arith)

  no_breaks : (ms : List Match) → ((i : ℕ) → i < length ms → broken t (pair_at ms i) ≡ false) → breaking t ms ≡ []
  unfolding breaking
  no_breaks [] h = refl
  no_breaks (m ∷ ms) h = rw (h 0 (omega arith)) (no_breaks ms (λ i l. h (suc i) (omega arith)))

  abbrev FirstBroken : List Match → Type 0
  FirstBroken ms =
      (i : ℕ) × (i < length ms) × (broken t (pair_at ms i) ≡ true) × (first_counter (breaking t ms) ≡ (pair_at ms i).counter)
      × ((j : ℕ) → j < i → broken t (pair_at ms j) ≡ false)

  first_broken : (ms : List Match) → length (breaking t ms) ≢ 0 → FirstBroken ms
  unfolding breaking first_counter
  first_broken [] n = absurd (n refl)
  first_broken (m ∷ ms) n = go (broken t m) refl n (first_broken ms)
    where
      go : (b : Bool) → broken t m ≡ b → length (cond b (m ∷ breaking t ms) (breaking t ms)) ≢ 0 → (length (breaking t ms) ≢ 0 → FirstBroken ms)
          → (i : ℕ) × (i < length (m ∷ ms)) × (broken t (pair_at (m ∷ ms) i) ≡ true) × (first_counter (cond b (m ∷ breaking t ms) (breaking t ms)) ≡ (pair_at (m ∷ ms) i).counter)
          × ((j : ℕ) → j < i → broken t (pair_at (m ∷ ms) j) ≡ false)
      go true h k rest = (0, omega arith, h, refl, λ j l. absurd (omega arith))
      go false h k rest =
          let f = rest k in
          (suc f.0, omega (arith, f.1), f.2, f.3, before f.0 f.4)
        where
          before : (i : ℕ) → ((j : ℕ) → j < i → broken t (pair_at ms j) ≡ false) → (j : ℕ) → j < suc i → broken t (pair_at (m ∷ ms) j) ≡ false
          before i g zero l = h
          before i g (suc j) l = g j (omega arith)

pub broken_first : (table sent received : List ℕ) → Accepts table sent received
    → BrokenFirst (rows_of table) (matched (frames_by table sent) (frames_by table received)) (recordings_record table sent received)
unfolding first_counter
broken_first table sent received a =
    record {
      number = free ∙ tallied t ms;
      most = omega (arith, free, breaking_most t ms, ap (λ (r : Record). r.pieces) p.is);
      none = record { to = λ z. none_breaks t ms (sym free ∙ z); of = λ h. free ∙ ap length (no_breaks t ms h) };
      no_row = λ z. row ∙ ap first_counter (no_breaks t ms (none_breaks t ms (sym free ∙ z)));
      first = λ n. first (first_broken t ms (λ z. n (free ∙ z)));
    }
  where
    t : List Row
    t = rows_of table

    ms : List Match
    ms = matched (frames_by table sent) (frames_by table received)

    p : Parts table sent received
    p = parts table sent received a

    free : (recordings_record table sent received).free ≡ length (breaking t ms)
    free = ap (λ (r : Record). r.free) p.is

    row : (recordings_record table sent received).row ≡ first_counter (breaking t ms)
    row = ap (λ (r : Record). r.row) p.is

    first : FirstBroken t ms
        → (i : ℕ) × (i < length ms) × (broken t (pair_at ms i) ≡ true) × ((recordings_record table sent received).row ≡ (pair_at ms i).counter)
        × ((j : ℕ) → j < length ms → broken t (pair_at ms j) ≡ true → (recordings_record table sent received).row ≤ (pair_at ms j).counter)
    first f = (f.0, f.1, f.2, row ∙ f.3, λ j l h. lowest j l h (lt_or_le j f.0) (lt_or_le f.0 j))
      where
        lowest : (j : ℕ) → j < length ms → broken t (pair_at ms j) ≡ true → (j < f.0) ⊎ (f.0 ≤ j) → (f.0 < j) ⊎ (j ≤ f.0)
            → (recordings_record table sent received).row ≤ (pair_at ms j).counter
        lowest j l h (inl b) c = absurd (not_both h (f.4 j b))
        lowest j l h (inr b) (inl c) =
            omega (arith, row ∙ f.3, pairs_rise (frames_by table sent) (frames_by table received) p.sent_rises p.received_rises f.0 j c l)
        lowest j l h (inr b) (inr c) =
            let e : f.0 ≡ j = omega arith in
            omega (arith, row ∙ f.3, ap (λ (i : ℕ). (pair_at ms i).counter) e)
