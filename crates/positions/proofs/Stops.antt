-- The record and the list of the call, for each way in which it ends.
use mathlib.Core.Path.{◌≡◌, refl, sym, ◌∙◌, ap, fun_ext}
use mathlib.Core.Bool.{Bool, true, false, ◌&&◌}
use mathlib.Core.Logic.{◌⊎◌, inl, inr, ◌≢◌}
use mathlib.Core.List.{List}
use Prim.Native.Nat.{ℕ, ◌≤◌, ◌<◌}
use lib.Dec.{eqb, leb}
use lib.ListN.{length, take}
use lib.Seq.{length-take-le}
use borrow.Author.Tests.{eq-eqb, ne_eqb, lt-ltb, le-ltb, lt-leb}
use Rattle.terms.specs.declared.Record.{Record}
use Rattle.terms.specs.declared.Row.{Row}
use Rattle.terms.specs.Calls.{refusal, completed, fault_record, stop_at}
use Rattle.terms.specs.Faults.{is_accepted, first_fault}
use Rattle.terms.specs.Table.{rows_of, count_kind, satisfies}
use Rattle.terms.proofs.AcceptedTable.{fault_numbered}
use Rattle.laws.specs.Buffers.{overwrite}
use Rattle.laws.proofs.Numbers.{lt_or_le}
use Rattle.windows.specs.Words.{words_bits}
use Rattle.words.specs.inner.Plan.{meets_plan}
use Rattle.windows.specs.Call.{meets_front, starts_from, positions_of, breaks41, breaks42, positions_record, positions_after}
use Rattle.words.specs.inner.Windows.{window_of}
use Rattle.words.proofs.Windows.{window_rule, window_there}
use Rattle.positions.specs.inner.Starts.{meets_ahead}

module _ (table words old : List ℕ) where
  abbrev t : List Row
  t = rows_of table

  -- what the call promises of its record and its list
  abbrev pub Ends : Record → List ℕ → Type 0
  Ends r list = (r ≡ positions_record table words) × (list ≡ positions_after table words old)

  refused : (r : Record) → r ≡ positions_record table words → eqb r.outcome 0 ≡ false → Ends r old
  unfolding positions_after
  refused r e z = (e, rw (← e, z))

  pub stop_fault : is_accepted (first_fault table) ≡ false → (r : Record) → r ≡ fault_record (first_fault table) → Ends r old
  unfolding positions_record stop_at
  stop_fault f r e = refused r (e ∙ rw f) (rw e (fault_numbered (first_fault table) f))

  module _ (f : is_accepted (first_fault table) ≡ true) (k : ℕ) (is : k ≡ window_of (rows_of table)) where
    pub stop_41 : k ≡ 0 → (r : Record) → r ≡ refusal 41 0 → Ends r old
    unfolding positions_record stop_at
    stop_41 z r e = refused r (e ∙ rw (f, window_rule t, eq-eqb (window_of t) 0 (sym is ∙ z))) (rw e)

    module _ (some : k ≢ 0) where
      kept : breaks41 t ≡ false
      kept = window_rule t ∙ ne_eqb (window_of t) 0 (λ z. some (is ∙ z))

      pub stop_42 : 1048576 < length words → (r : Record) → r ≡ refusal 42 0 → Ends r old
      unfolding positions_record stop_at breaks42
      stop_42 l r e = refused r (e ∙ rw (f, kept, lt-ltb 1048576 (length words) l)) (rw e)

      -- accepted: a plan whose windows are those that satisfy the table
      module _ (plan : List ℕ) (tells : (window : List ℕ) → length window ≡ count_kind 0 (rows_of table) → meets_plan plan window ≡ satisfies (rows_of table) (words_bits window)) where
        ahead_front : (rest : List ℕ) → meets_ahead plan k rest ≡ meets_front t rest
        unfolding meets_ahead meets_front
        ahead_front rest = rw (window_there t k is some).1 (go (lt_or_le (length rest) (count_kind 0 t)))
          where
            go : (length rest < count_kind 0 t) ⊎ (count_kind 0 t ≤ length rest)
                → leb (count_kind 0 t) (length rest) && meets_plan plan (take (count_kind 0 t) rest) ≡ leb (count_kind 0 t) (length rest) && satisfies t (words_bits (take (count_kind 0 t) rest))
            go (inl l) = rw (lt-leb (count_kind 0 t) (length rest) l) refl
            go (inr l) = rw (tells (take (count_kind 0 t) rest) (length-take-le (count_kind 0 t) rest l)) refl

        starts_found : starts_from (meets_ahead plan k) 0 words ≡ positions_of t words
        unfolding positions_of
        starts_found = ap (λ (g : List ℕ → Bool). starts_from g 0 words) (fun_ext ahead_front)

        pub found_all : length words ≤ 1048576 → (r : Record) (list : List ℕ) (found : ℕ) → found ≡ length (starts_from (meets_ahead plan k) 0 words)
            → list ≡ overwrite (starts_from (meets_ahead plan k) 0 words) old → r ≡ completed found 0 → Ends r list
        unfolding positions_record positions_after stop_at breaks42
        found_all l r list found c w e =
            let n = le-ltb 1048576 (length words) l in (
              e ∙ ap (λ (x : ℕ). completed x 0) (c ∙ ap length starts_found) ∙ rw (f, kept, n) refl,
              w ∙ ap (λ (s : List ℕ). overwrite s old) starts_found ∙ rw (f, kept, n) refl,
            )
