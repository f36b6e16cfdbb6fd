-- Two tables that compare as 0 have the same marker positions in every run (document 02, (xii) and (ii)). Assumes nothing.
use mathlib.Core.Path.{◌≡◌, refl, sym, ◌∙◌, ap}
use mathlib.Core.Bool.{Bool, true, false, or-true}
use mathlib.Core.List.{List}
use Prim.Native.Nat.{ℕ}
use lib.Dec.{eqb}
use lib.ListN.{length}
use Rattle.terms.specs.declared.Row.{Row}
use Rattle.terms.specs.Table.{rows_of, count_kind}
use Rattle.terms.specs.Calls.{stop_at}
use Rattle.answers.specs.Answer.{variable_widths}
use Rattle.answers.proofs.Variables.{widths_count}
use Rattle.windows.specs.Words.{sixteens}
use Rattle.windows.specs.Call.{positions_of, breaks41, positions_record, positions_after}
use Rattle.windows.proofs.Sixteens.{sixteens_at}
use Rattle.windows.proofs.Positions.{positions_same}
use Rattle.inclusion.specs.Call.{compare_record}
use Rattle.inclusion.specs.Comparing.{Comparable}
use Rattle.inclusion.proofs.Theorems.{gives_0}
use Rattle.order.specs.Same.{SameStarts}

module _ (first second : List ℕ) (room : ℕ) (z : (compare_record first second room).outcome ≡ 0) (words : List ℕ) where
  abbrev t : List Row
  t = rows_of first

  abbrev u : List Row
  u = rows_of second

  c : Comparable first second room
  c = (gives_0 first second room z).0

  same_41 : breaks41 t ≡ breaks41 u
  unfolding breaks41
  same_41 =
      let k : count_kind 0 t ≡ count_kind 0 u = sym (widths_count t) ∙ ap length c.same-variables ∙ widths_count u in
      rw (k, c.same-variables) refl

  -- each variable has 16 bits, or both are refused
  both : sixteens (variable_widths t) ≡ true → positions_of t words ≡ positions_of u words
  both h = positions_same t u (λ v l. sixteens_at (variable_widths t) h v l) c.same-variables (gives_0 first second room z).1 words

  broken : sixteens (variable_widths t) ≡ false → breaks41 u ≡ true
  unfolding breaks41
  broken h = rw (← c.same-variables, h) (or-true (eqb (count_kind 0 u) 0))

  -- (g)
  pub same_positions : SameStarts first second words
  unfolding positions_record positions_after stop_at
  same_positions = go (sixteens (variable_widths t)) refl
    where
      go : (b : Bool) → sixteens (variable_widths t) ≡ b → SameStarts first second words
      go true h =
          record {
            same_record = rw (c.first_accepted, c.second_accepted, same_41, both h) refl;
            same_list = λ list. rw (c.first_accepted, c.second_accepted, same_41, both h) refl;
          }
      go false h =
          record {
            same_record = rw (c.first_accepted, c.second_accepted, same_41, broken h) refl;
            same_list = λ list. rw (c.first_accepted, c.second_accepted, same_41, broken h) refl;
          }
