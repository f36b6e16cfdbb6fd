-- The widths of the variables of a table, from a row on: what the next row makes of them. And those of two tables, from a row on in each: what
-- the rests say is what all say.
use mathlib.Core.Path.{◌≡◌, refl, sym}
use mathlib.Core.Bool.{Bool, true, false, not}
use mathlib.Core.Logic.{◌≢◌}
use mathlib.Core.List.{List, [], ◌∷◌}
use Prim.Native.Nat.{ℕ, suc, ◌+◌, ◌≤◌, ◌<◌}
use native.Mathlib.Numerals.{add-one}
use lib.ListN.{length, drop, drop_of_length-le}
use lib.Seq.{drop-cons}
use borrow.Author.Tests.{eq-eqb, ne_eqb}
use Rattle.std.specs.Prelude.{Option, None, Some, is_some}
use Rattle.laws.proofs.Bools.{clash}
use Rattle.terms.specs.declared.Row.{Row}
use Rattle.terms.specs.Table.{no_row, row_at, same_word}
use Rattle.terms.proofs.RowKinds.{of_variable, of_other}
use Rattle.answers.specs.Answer.{variable_widths}
use Rattle.comparer.specs.inner.Variables.{NextVariable}

pub widths_end : (t : List Row) (r : ℕ) → length t ≤ r → variable_widths (drop r t) ≡ []
unfolding variable_widths
widths_end t r l = rw (drop_of_length-le t {i = r} l) refl

module _ (t : List Row) (r : ℕ) (l : r < length t) where
  pub widths_other : (row_at t r).kind ≢ 0 → variable_widths (drop r t) ≡ variable_widths (drop (r + 1) t)
  unfolding variable_widths
  widths_other h = rw (drop-cons t r no_row l, add-one r, of_other (row_at t r) ((row_at t r).a ∷ variable_widths (drop (suc r) t)) (variable_widths (drop (suc r) t)) h) refl

  pub widths_variable : (row_at t r).kind ≡ 0 → variable_widths (drop r t) ≡ (row_at t r).a ∷ variable_widths (drop (r + 1) t)
  unfolding variable_widths
  widths_variable h = rw (drop-cons t r no_row l, add-one r, of_variable (row_at t r) ((row_at t r).a ∷ variable_widths (drop (suc r) t)) (variable_widths (drop (suc r) t)) h) refl

-- ---- the rests of two tables
abbrev pub rests_same : List Row → List Row → ℕ → ℕ → Bool
rests_same t u r q = same_word (variable_widths (drop r t)) (variable_widths (drop q u))

-- the next variable of the second is at row `at`
module _ (t u : List Row) (r q : ℕ) where
  -- the first is at its end: so is the second, or not
  pub rests_none : length t ≤ r → variable_widths (drop q u) ≡ [] → rests_same t u r q ≡ true
  unfolding same_word
  rests_none a e = rw (widths_end t r a, e) refl

  pub rests_more : length t ≤ r → (at : ℕ) → at < length u → (row_at u at).kind ≡ 0 → variable_widths (drop q u) ≡ variable_widths (drop at u) → rests_same t u r q ≡ false
  unfolding same_word
  rests_more a at m j e = rw (widths_end t r a, e, widths_variable u at m j) refl

  pub rests_end : length t ≤ r → (found : Option ℕ) → NextVariable u q found → (b : Bool) → is_some found ≡ not b → b ≡ rests_same t u r q
  rests_end a None e true h = sym (rests_none a e)
  rests_end a None e false h = clash false h refl
  rests_end a (Some at) e true h = clash true refl h
  rests_end a (Some at) e false h = sym (rests_more a at e.0 e.1 e.2)

  module _ (l : r < length t) where
    -- another row
    pub rests_other : (row_at t r).kind ≢ 0 → rests_same t u (r + 1) q ≡ rests_same t u r q
    rests_other k = rw (widths_other t r l k) refl

    module _ (k : (row_at t r).kind ≡ 0) where
      pub rests_fewer : variable_widths (drop q u) ≡ [] → rests_same t u r q ≡ false
      unfolding same_word
      rests_fewer e = rw (e, widths_variable t r l k) refl

      module _ (at : ℕ) (m : at < length u) (j : (row_at u at).kind ≡ 0) (e : variable_widths (drop q u) ≡ variable_widths (drop at u)) where
        pub rests_differ : (row_at t r).a ≢ (row_at u at).a → rests_same t u r q ≡ false
        unfolding same_word
        rests_differ h = rw (widths_variable t r l k, e, widths_variable u at m j, ne_eqb (row_at t r).a (row_at u at).a h) refl

        pub rests_go_on : (row_at t r).a ≡ (row_at u at).a → rests_same t u (r + 1) (at + 1) ≡ rests_same t u r q
        unfolding same_word
        rests_go_on h = rw (widths_variable t r l k, e, widths_variable u at m j, eq-eqb (row_at t r).a (row_at u at).a h) refl
