-- (g) Tables with the same variables and the same patterns give the same record, for all recordings. Assumes nothing.
use mathlib.Core.Path.{◌≡◌, refl, sym, ◌∙◌, ap}
use mathlib.Core.Bool.{Bool, true, false, not, ◌||◌}
use mathlib.Core.List.{List}
use Prim.Native.Nat.{ℕ, ◌+◌, ◌/◌, ◌%◌}
use native.Mathlib.Omega.{arith}
use lib.Dec.{eqb}
use lib.ListN.{length, length-append}
use borrow.Author.Tests.{eqb-false, not-false}
use Rattle.terms.specs.declared.Row.{Row}
use Rattle.terms.specs.Calls.{stop_at}
use Rattle.terms.specs.Faults.{Accepted, first_fault}
use Rattle.terms.specs.Table.{rows_of, count_kind}
use Rattle.laws.proofs.Bools.{or_first, or_second}
use Rattle.answers.specs.Answer.{variable_widths}
use Rattle.answers.proofs.Variables.{widths_count}
use Rattle.windows.specs.Words.{sixteens}
use Rattle.windows.specs.Positions.{SamePatterns}
use Rattle.windows.proofs.Sixteens.{window_bits}
use Rattle.recordings.specs.Recordings.{Match, matched, broken, breaking}
use Rattle.recordings.specs.Call.{words_of, wrong_variables, recordings_record}
use Rattle.recordings.specs.Compared.{frames_by}
use Rattle.recordings.proofs.Each.{EachPair, none, more, Wide, pairs_wide}

module _ (t u : List Row) (same_widths : variable_widths t ≡ variable_widths u) (same : SamePatterns t u) where
  variables : count_kind 0 t ≡ count_kind 0 u
  variables = sym (widths_count t) ∙ ap length same_widths ∙ widths_count u

  pub words-alike : words_of t ≡ words_of u
  unfolding words_of
  words-alike = ap (λ (n : ℕ). n / 2) variables

  pub variables_alike : wrong_variables t ≡ wrong_variables u
  unfolding wrong_variables
  variables_alike = rw (variables, same_widths) refl

  module _ (good : wrong_variables t ≡ false) where
    abbrev late : Bool
    late = eqb (count_kind 0 t % 2) 1 || not (sixteens (variable_widths t))

    sixteen : sixteens (variable_widths t) ≡ true
    unfolding wrong_variables
    sixteen =
        let r = or_second (eqb (count_kind 0 t) 0) late good in
        not-false (sixteens (variable_widths t)) (or_second (eqb (count_kind 0 t % 2) 1) (not (sixteens (variable_widths t))) r)

    halves : words_of t + words_of t ≡ count_kind 0 t
    unfolding wrong_variables words_of
    halves =
        let r = or_second (eqb (count_kind 0 t) 0) late good in
        let even = eqb-false (count_kind 0 t % 2) 1 (or_first (eqb (count_kind 0 t % 2) 1) (not (sixteens (variable_widths t))) r) in
        omega (arith, even)

    broken-alike : (m : Match) → length m.sent ≡ words_of t → length m.received ≡ words_of t → broken t m ≡ broken u m
    unfolding broken
    broken-alike m a b = ap not (same _ (window_bits t sixteen _ (simp length-append (omega (arith, halves)))))

    pub breaking-alike : (ms : List Match) → EachPair (Wide (words_of t)) ms → breaking t ms ≡ breaking u ms
    unfolding breaking
    breaking-alike ms none = refl
    breaking-alike ms (more {m = m} {ms = rest} a b e) = rw (broken-alike m a b, breaking-alike rest e) refl

pub same_sheet : (table other : List ℕ) → first_fault table ≡ Accepted → first_fault other ≡ Accepted
    → variable_widths (rows_of table) ≡ variable_widths (rows_of other) → SamePatterns (rows_of table) (rows_of other)
    → (sent received : List ℕ) → recordings_record table sent received ≡ recordings_record other sent received
unfolding recordings_record stop_at
same_sheet table other a b w s sent received = go (wrong_variables t) refl
  where
    t : List Row
    t = rows_of table

    u : List Row
    u = rows_of other

    go : (v : Bool) → wrong_variables t ≡ v → recordings_record table sent received ≡ recordings_record other sent received
    go true h = rw (a, b, h, sym (variables_alike t u w s) ∙ h) refl
    go false h =
        let ms : List Match = matched (frames_by table sent) (frames_by table received) in
        let e = breaking-alike t u w s h ms (pairs_wide (words_of t) sent received) in
        rw (a, b, ← variables_alike t u w s, ← words-alike t u w s, e) refl
