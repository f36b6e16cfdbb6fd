-- (h) Where the call stops: each clause is told by its test, and the tests stand in the order of the text. Assumes nothing.
use mathlib.Core.Path.{◌≡◌, refl, sym, ◌∙◌, ap}
use mathlib.Core.Bool.{Bool, true, false, not, ◌||◌, cond, or-true}
use mathlib.Core.List.{List, [], ◌∷◌}
use mathlib.Core.Logic.{◌⊎◌, inl, inr, ◌≢◌}
use Prim.Native.Nat.{ℕ, suc, ◌%◌, ◌≤◌, ◌<◌}
use native.Mathlib.Omega.{arith}
use lib.Dec.{eqb, ltb}
use lib.ListN.{length, get_or}
use borrow.Author.Tests.{eq-eqb, ne_eqb, lt-ltb, le-ltb, not-true, not-false}
use Rattle.terms.specs.declared.Record.{Record}
use Rattle.terms.specs.declared.Row.{Row}
use Rattle.terms.specs.Calls.{refusal, fault_record, stop_at}
use Rattle.terms.specs.Faults.{Accepted, is_accepted, first_fault}
use Rattle.terms.specs.Table.{rows_of, count_kind}
use Rattle.terms.proofs.AcceptedTable.{fault_none, fault_high}
use Rattle.laws.proofs.Bools.{not_both}
use Rattle.laws.proofs.Numbers.{dec_eq, lt_or_le}
use Rattle.answers.specs.Answer.{variable_widths}
use Rattle.windows.specs.Words.{sixteens}
use Rattle.windows.proofs.Sixteens.{sixteens_at}
use Rattle.recordings.specs.Recordings.{frames_of, rising}
use Rattle.recordings.specs.Call.{words_of, wrong_variables, wrong_recording, not_rising, compared, recordings_record}
use Rattle.recordings.specs.Compared.{frames_by, Accepts, Wrong, no_variable, odd_variables, other_width, sent_long, sent_in_part, received_long, received_in_part, Rises, Stops}
use Rattle.recordings.proofs.Rising.{rises_at, rises_of}

-- ---- a recording by its test
module _ (k : ℕ) (numbers : List ℕ) where
  long_or-part : wrong_recording k numbers ≡ true → (65535 < length numbers) ⊎ (length numbers % suc k ≢ 0)
  unfolding wrong_recording
  long_or-part h = go (lt_or_le 65535 (length numbers)) (dec_eq (length numbers % suc k) 0)
    where
      go : (65535 < length numbers) ⊎ (length numbers ≤ 65535) → (length numbers % suc k ≡ 0) ⊎ (length numbers % suc k ≢ 0)
          → (65535 < length numbers) ⊎ (length numbers % suc k ≢ 0)
      go (inl l) e = inl l
      go (inr l) (inr n) = inr n
      go (inr l) (inl e) = absurd (not_both h (rw (le-ltb 65535 (length numbers) l, eq-eqb (length numbers % suc k) 0 e) refl))

  pub is_long : 65535 < length numbers → wrong_recording k numbers ≡ true
  unfolding wrong_recording
  is_long l = rw (lt-ltb 65535 (length numbers) l) refl

  pub is_part : length numbers % suc k ≢ 0 → wrong_recording k numbers ≡ true
  unfolding wrong_recording
  is_part n = rw (ne_eqb (length numbers % suc k) 0 n) (or-true (ltb 65535 (length numbers)))

-- ---- the variables by theirs
some_other : (ws : List ℕ) → sixteens ws ≡ false → (v : ℕ) × (v < length ws) × (get_or ws v 0 ≢ 16)
unfolding sixteens
some_other [] h = absurd (not_both refl h)
some_other (w ∷ ws) h = go (dec_eq w 16) (some_other ws)
  where
    go : (w ≡ 16) ⊎ (w ≢ 16) → (sixteens ws ≡ false → (v : ℕ) × (v < length ws) × (get_or ws v 0 ≢ 16)) → (v : ℕ) × (v < length (w ∷ ws)) × (get_or (w ∷ ws) v 0 ≢ 16)
    go (inl e) rest = let s = rest (rw (eq-eqb w 16 e) at h) in (suc s.0, omega (arith, s.1), s.2)
    go (inr n) rest = (0, omega arith, n)

module _ (t : List Row) where
  abbrev n : ℕ
  n = count_kind 0 t

  pub none_wrong : count_kind 0 t ≡ 0 → wrong_variables t ≡ true
  unfolding wrong_variables
  none_wrong e = rw (eq-eqb n 0 e) refl

  pub odd_wrong : count_kind 0 t % 2 ≡ 1 → wrong_variables t ≡ true
  unfolding wrong_variables
  odd_wrong e = rw (eq-eqb (n % 2) 1 e) (or-true (eqb n 0))

  pub other_wrong : (v : ℕ) → v < length (variable_widths t) → get_or (variable_widths t) v 0 ≢ 16 → wrong_variables t ≡ true
  unfolding wrong_variables
  other_wrong v l e = go (sixteens (variable_widths t)) refl
    where
      go : (b : Bool) → sixteens (variable_widths t) ≡ b → eqb n 0 || (eqb (n % 2) 1 || not b) ≡ true
      go true h = absurd (e (sixteens_at (variable_widths t) h v l))
      go false h = rw (or-true (eqb (n % 2) 1)) (or-true (eqb n 0))

  -- the other way round
  pub data WrongVariables : Type 0 where
    none : count_kind 0 t ≡ 0 → WrongVariables
    odd : count_kind 0 t % 2 ≡ 1 → WrongVariables
    other : (v : ℕ) → v < length (variable_widths t) → get_or (variable_widths t) v 0 ≢ 16 → WrongVariables

  wrong_some : wrong_variables t ≡ true → WrongVariables
  unfolding wrong_variables
  wrong_some h = go (dec_eq n 0) (dec_eq (n % 2) 1) (sixteens (variable_widths t)) refl
    where
      go : (n ≡ 0) ⊎ (n ≢ 0) → (n % 2 ≡ 1) ⊎ (n % 2 ≢ 1) → (b : Bool) → sixteens (variable_widths t) ≡ b → WrongVariables
      go (inl e) o b s = none e
      go (inr e) (inl o) b s = odd o
      go (inr e) (inr o) false s = let x = some_other (variable_widths t) s in other x.0 x.1 x.2
      go (inr e) (inr o) true s = absurd (not_both h (rw (ne_eqb n 0 e, ne_eqb (n % 2) 1 o, s) refl))

-- ---- the tests in their order
abbrev chosen : Bool → Bool → Bool → Bool → Bool → Record → Record
chosen a b c d e x = cond a (refusal 47 0) (cond b (refusal 47 0) (cond c (refusal 47 0) (cond d (refusal 48 0) (cond e (refusal 48 0) x))))

same : (b : Bool) (r : Record) → cond b r r ≡ r
same true r = refl
same false r = refl

no : (b : Bool) → (b ≡ true → ⊥) → b ≡ false
no true h = absurd (h refl)
no false h = refl

abbrev number : Record → ℕ
number r = r.outcome

choice_47 : (a b c d e : Bool) (x : Record) → x.outcome ≡ 0 → chosen a b c d e x ≡ refusal 47 0 → (a ≡ true) ⊎ ((b ≡ true) ⊎ (c ≡ true))
choice_47 true b c d e x z h = inl refl
choice_47 false true c d e x z h = inr (inl refl)
choice_47 false false true d e x z h = inr (inr refl)
choice_47 false false false true e x z h = absurd (omega (arith, ap number h))
choice_47 false false false false true x z h = absurd (omega (arith, ap number h))
choice_47 false false false false false x z h = absurd (omega (arith, ap number h))

choice_48 : (d e : Bool) (x : Record) → x.outcome ≡ 0 → chosen false false false d e x ≡ refusal 48 0 → (d ≡ true) ⊎ (e ≡ true)
choice_48 true e x z h = inl refl
choice_48 false true x z h = inr refl
choice_48 false false x z h = absurd (omega (arith, ap number h))

choice_0 : (a b c d e : Bool) (x : Record) → (chosen a b c d e x).outcome ≡ 0
    → (a ≡ false) × (b ≡ false) × (c ≡ false) × (d ≡ false) × (e ≡ false)
choice_0 true b c d e x h = absurd (omega arith)
choice_0 false true c d e x h = absurd (omega arith)
choice_0 false false true d e x h = absurd (omega arith)
choice_0 false false false true e x h = absurd (omega arith)
choice_0 false false false false true x h = absurd (omega arith)
choice_0 false false false false false x h = (refl, refl, refl, refl, refl)

module _ (table sent received : List ℕ) where
  abbrev t : List Row
  t = rows_of table

  abbrev k : ℕ
  k = words_of (rows_of table)

  abbrev found : Record
  found = compared (rows_of table) (frames_by table sent) (frames_by table received)

  -- the record of a table that is accepted
  told : first_fault table ≡ Accepted
      → recordings_record table sent received ≡ chosen (wrong_variables t) (wrong_recording k sent) (wrong_recording k received) (not_rising k sent) (not_rising k received) found
  unfolding recordings_record stop_at
  told a = rw a refl

  at_47 : first_fault table ≡ Accepted → Wrong table sent received → recordings_record table sent received ≡ refusal 47 0
  at_47 a (no_variable e) = told a ∙ rw (none_wrong t e)
  at_47 a (odd_variables e) = told a ∙ rw (odd_wrong t e)
  at_47 a (other_width v l e) = told a ∙ rw (other_wrong t v l e)
  at_47 a (sent_long l) = told a ∙ rw (is_long k sent l) (same (wrong_variables t) (refusal 47 0))
  at_47 a (sent_in_part e) = told a ∙ rw (is_part k sent e) (same (wrong_variables t) (refusal 47 0))
  at_47 a (received_long l) = told a ∙ rw (is_long k received l, same (wrong_recording k sent) (refusal 47 0)) (same (wrong_variables t) (refusal 47 0))
  at_47 a (received_in_part e) = told a ∙ rw (is_part k received e, same (wrong_recording k sent) (refusal 47 0)) (same (wrong_variables t) (refusal 47 0))

  -- what the tests tell
  of_variables : WrongVariables t → Wrong table sent received
  of_variables (none e) = no_variable e
  of_variables (odd e) = odd_variables e
  of_variables (other v l e) = other_width v l e

  of_sent : (65535 < length sent) ⊎ (length sent % suc k ≢ 0) → Wrong table sent received
  of_sent (inl l) = sent_long l
  of_sent (inr e) = sent_in_part e

  of_received : (65535 < length received) ⊎ (length received % suc k ≢ 0) → Wrong table sent received
  of_received (inl l) = received_long l
  of_received (inr e) = received_in_part e

  from_47 : first_fault table ≡ Accepted → recordings_record table sent received ≡ refusal 47 0 → Wrong table sent received
  from_47 a h =
      go (choice_47 (wrong_variables t) (wrong_recording k sent) (wrong_recording k received) (not_rising k sent) (not_rising k received) found refl (sym (told a) ∙ h))
    where
      go : (wrong_variables t ≡ true) ⊎ ((wrong_recording k sent ≡ true) ⊎ (wrong_recording k received ≡ true)) → Wrong table sent received
      go (inl e) = of_variables (wrong_some t e)
      go (inr (inl e)) = of_sent (long_or-part k sent e)
      go (inr (inr e)) = of_received (long_or-part k received e)

  -- no clause holds
  clear : (Wrong table sent received → ⊥) → (wrong_variables t ≡ false) × (wrong_recording k sent ≡ false) × (wrong_recording k received ≡ false)
  clear h = (
    no (wrong_variables t) (λ e. h (of_variables (wrong_some t e))),
    no (wrong_recording k sent) (λ e. h (of_sent (long_or-part k sent e))),
    no (wrong_recording k received) (λ e. h (of_received (long_or-part k received e))),
  )

  later : first_fault table ≡ Accepted → (Wrong table sent received → ⊥)
      → recordings_record table sent received ≡ chosen false false false (not_rising k sent) (not_rising k received) found
  later a h = let c = clear h in told a ∙ rw (c.0, c.1, c.2) refl

  at_48 : first_fault table ≡ Accepted → (Wrong table sent received → ⊥) → (Rises k sent × Rises k received → ⊥) → recordings_record table sent received ≡ refusal 48 0
  unfolding not_rising
  at_48 a h f = later a h ∙ go (rising (frames_of k sent)) refl (rising (frames_of k received)) refl
    where
      go : (d : Bool) → rising (frames_of k sent) ≡ d → (e : Bool) → rising (frames_of k received) ≡ e
          → cond (not d) (refusal 48 0) (cond (not e) (refusal 48 0) found) ≡ refusal 48 0
      go false p e q = refl
      go true p false q = refl
      go true p true q = absurd (f (rises_at k sent p, rises_at k received q))

  from_48 : first_fault table ≡ Accepted → (Wrong table sent received → ⊥) → recordings_record table sent received ≡ refusal 48 0 → Rises k sent × Rises k received → ⊥
  unfolding not_rising
  from_48 a h e r = go (choice_48 (not (rising (frames_of k sent))) (not (rising (frames_of k received))) found refl (sym (later a h) ∙ e))
    where
      go : (not (rising (frames_of k sent)) ≡ true) ⊎ (not (rising (frames_of k received)) ≡ true) → ⊥
      go (inl n) = not_both (rises_of k sent r.0) (not-true (rising (frames_of k sent)) n)
      go (inr n) = not_both (rises_of k received r.1) (not-true (rising (frames_of k received)) n)

  goes : first_fault table ≡ Accepted → (Wrong table sent received → ⊥) → Rises k sent → Rises k received → (recordings_record table sent received).outcome ≡ 0
  unfolding not_rising
  goes a h s r = ap number (later a h) ∙ rw (rises_of k sent s, rises_of k received r) refl

  pub stops : Stops table sent received
  unfolding recordings_record stop_at
  stops =
      record {
        of_table = λ n. rw (no (is_accepted (first_fault table)) (λ e. n (fault_none (first_fault table) e))) refl;
        of_47 = λ a. record { to = from_47 a; of = at_47 a };
        of_48 = λ a h. record { to = from_48 a h; of = at_48 a h };
        otherwise = goes;
      }

  -- ---- what is known of an accepted call
  pub record Parts : Type 0 where
    pub accepted : first_fault table ≡ Accepted
    pub variables : wrong_variables (rows_of table) ≡ false
    pub sent_good : wrong_recording (words_of (rows_of table)) sent ≡ false
    pub received_good : wrong_recording (words_of (rows_of table)) received ≡ false
    pub sent_rises : rising (frames_by table sent) ≡ true
    pub received_rises : rising (frames_by table received) ≡ true
    pub is : recordings_record table sent received ≡ compared (rows_of table) (frames_by table sent) (frames_by table received)

  pub record-of : first_fault table ≡ Accepted → wrong_variables (rows_of table) ≡ false → wrong_recording (words_of (rows_of table)) sent ≡ false
      → wrong_recording (words_of (rows_of table)) received ≡ false → rising (frames_by table sent) ≡ true → rising (frames_by table received) ≡ true
      → recordings_record table sent received ≡ compared (rows_of table) (frames_by table sent) (frames_by table received)
  unfolding not_rising
  record-of a v s r x y = told a ∙ rw (v, s, r, x, y) refl

  pub parts : Accepts table sent received → Parts
  unfolding recordings_record stop_at not_rising
  parts h = go (is_accepted (first_fault table)) refl
    where
      known : first_fault table ≡ Accepted → Parts
      known a =
          let c = choice_0 (wrong_variables t) (wrong_recording k sent) (wrong_recording k received) (not_rising k sent) (not_rising k received) found (sym (ap number (told a)) ∙ h) in
          let x = not-false (rising (frames_of k sent)) c.3 in
          let y = not-false (rising (frames_of k received)) c.4 in
          record {
            accepted = a;
            variables = c.0;
            sent_good = c.1;
            received_good = c.2;
            sent_rises = x;
            received_rises = y;
            is = record-of a c.0 c.1 c.2 x y;
          }

      go : (b : Bool) → is_accepted (first_fault table) ≡ b → Parts
      go true e = known (fault_none (first_fault table) e)
      go false e =
          let r : recordings_record table sent received ≡ fault_record (first_fault table) = rw e refl in
          absurd (omega (arith, h, ap number r, fault_high (first_fault table) e))
