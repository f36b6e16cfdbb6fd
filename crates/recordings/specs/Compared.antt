-- What the theorems say of two recordings that are compared (document 02, (xi); proofs/). r is the record of the call, ss the sent frames, rs the
-- received ones, ms the pairs, k the number of words of a frame.
use Rattle.std.specs.Prelude.{◌≡◌, Bool, true, false, cond, List, [], ◌∷◌, ◌++◌, ◌≢◌, ℕ, suc, ◌+◌, ◌*◌, ◌/◌, ◌%◌, ◌≤◌, ◌<◌, length, get_or}
use Rattle.terms.specs.declared.Record.{Record}
use Rattle.terms.specs.declared.Row.{Row}
use Rattle.terms.specs.Acceptance.{Exactly}
use Rattle.terms.specs.Assignments.{Assignment}
use Rattle.terms.specs.Calls.{refusal, fault_record}
use Rattle.terms.specs.Faults.{Accepted, first_fault}
use Rattle.terms.specs.Table.{rows_of, count_kind, satisfies}
use Rattle.laws.specs.Lists.{tally}
use Rattle.answers.specs.Answer.{variable_widths}
use Rattle.recordings.specs.Recordings.{Frame, Match, frames_of, matched, alone, broken}
use Rattle.recordings.specs.Call.{words_of, recordings_record}

-- The frames of a recording, by a table's number of words.
abbrev pub frames_by : List ℕ → List ℕ → List Frame
frames_by table numbers = frames_of (words_of (rows_of table)) numbers

-- The call is accepted.
abbrev pub Accepts : List ℕ → List ℕ → List ℕ → Type 0
Accepts table sent received = (recordings_record table sent received).outcome ≡ 0

-- Pair i of some pairs.
abbrev pub pair_at : List Match → ℕ → Match
pair_at ms i = get_or ms i (record { counter = 0; sent = []; received = [] })

-- How many of some frames pass a test.
unfoldable pub how_many : (Frame → Bool) → List Frame → ℕ
how_many test [] = 0
how_many test (f ∷ fs) = cond (test f) 1 0 + how_many test fs

-- The sent frames of pairs, and the received ones.
unfoldable pub sent_of : List Match → List Frame
sent_of [] = []
sent_of (m ∷ ms) = record { counter = m.counter; words = m.sent } ∷ sent_of ms

unfoldable pub received_of : List Match → List Frame
received_of [] = []
received_of (m ∷ ms) = record { counter = m.counter; words = m.received } ∷ received_of ms

-- (a) Those alone and those in pairs together are the records, on either side: of either kind as many pass a test, whatever it is, as of all. The
-- pairs' counters rise, so each record is in at most one. So twice pieces plus fresh is the number of records of both.
pub record AllCounted (ss rs : List Frame) (r : Record) : Type 0 where
  pub sent : (test : Frame → Bool) → how_many test (alone ss rs) + how_many test (sent_of (matched ss rs)) ≡ how_many test ss
  pub received : (test : Frame → Bool) → how_many test (alone rs ss) + how_many test (received_of (matched ss rs)) ≡ how_many test rs
  pub once : (i j : ℕ) → i < j → j < length (matched ss rs) → (pair_at (matched ss rs) i).counter < (pair_at (matched ss rs) j).counter
  pub both : 2 * r.pieces + r.fresh ≡ length ss + length rs

-- (b) With the recordings exchanged pairs, single records and differing bits are the same.
pub record Exchanged (r s : Record) : Type 0 where
  pub outcome_same : s.outcome ≡ 0
  pub pieces_same : s.pieces ≡ r.pieces
  pub fresh_same : s.fresh ≡ r.fresh
  pub ties_same : s.ties ≡ r.ties

-- (c) Free is the number of pairs that break the sheet. It is 0 exactly if none does, and then row is 0; else row is the counter of one that
-- does, and no lower one does.
pub record BrokenFirst (t : List Row) (ms : List Match) (r : Record) : Type 0 where
  pub number : r.free ≡ tally (length ms) (λ i. broken t (pair_at ms i))
  pub most : r.free ≤ r.pieces
  pub none : Exactly (r.free ≡ 0) ((i : ℕ) → i < length ms → broken t (pair_at ms i) ≡ false)
  pub no_row : r.free ≡ 0 → r.row ≡ 0
  pub first : r.free ≢ 0
      → (i : ℕ) × (i < length ms) × (broken t (pair_at ms i) ≡ true) × (r.row ≡ (pair_at ms i).counter)
      × ((j : ℕ) → j < length ms → broken t (pair_at ms j) ≡ true → r.row ≤ (pair_at ms j).counter)

-- Numbers of 16 bits.
abbrev pub Sixteen : List ℕ → Type 0
Sixteen numbers = (i : ℕ) → get_or numbers i 0 < 65536

-- (d) No bit differs exactly if in every pair all words are equal; at most all 16 k bits of each pair do, so that nothing wraps.
pub record BitsDiffer (k : ℕ) (ms : List Match) (r : Record) : Type 0 where
  pub none : Exactly (r.ties ≡ 0) ((i : ℕ) → i < length ms → (pair_at ms i).sent ≡ (pair_at ms i).received)
  pub most : r.ties ≤ 16 * k * r.pieces
  pub fits : r.ties ≤ 1048560

-- (f) A sheet that every pattern with equal halves meets; the record of so many pairs and nothing else.
abbrev pub EqualHalves : List Row → Type 0
EqualHalves t = (p : List ℕ) → Assignment (16 * words_of t) p → satisfies t (p ++ p) ≡ true

abbrev pub only_pairs : ℕ → Record
only_pairs n = record { outcome = 0; pieces = n; fresh = 0; free = 0; ties = 0; row = 0 }

-- (h) The clauses of 47: no variable, an odd number of them, one that is not 16 bits wide, wherever it stands; either recording too long, or not
-- whole records.
pub data Wrong (table sent received : List ℕ) : Type 0 where
  no_variable : count_kind 0 (rows_of table) ≡ 0 → Wrong table sent received
  odd_variables : count_kind 0 (rows_of table) % 2 ≡ 1 → Wrong table sent received
  other_width : (v : ℕ) → v < length (variable_widths (rows_of table)) → get_or (variable_widths (rows_of table)) v 0 ≢ 16 → Wrong table sent received
  sent_long : 65535 < length sent → Wrong table sent received
  sent_in_part : length sent % suc (words_of (rows_of table)) ≢ 0 → Wrong table sent received
  received_long : 65535 < length received → Wrong table sent received
  received_in_part : length received % suc (words_of (rows_of table)) ≢ 0 → Wrong table sent received

-- Counters that strictly rise: each is above the one before it. Counter j is number j (k + 1).
abbrev pub Rises : ℕ → List ℕ → Type 0
Rises k numbers = (j : ℕ) → suc j < length numbers / suc k → get_or numbers (j * suc k) 0 < get_or numbers (suc j * suc k) 0

-- The table's fault; else 47 exactly if a clause of it holds; else 48 exactly if either recording does not rise; else it is accepted.
pub record Stops (table sent received : List ℕ) : Type 0 where
  pub of_table : first_fault table ≢ Accepted → recordings_record table sent received ≡ fault_record (first_fault table)
  pub of_47 : first_fault table ≡ Accepted → Exactly (recordings_record table sent received ≡ refusal 47 0) (Wrong table sent received)
  pub of_48 : first_fault table ≡ Accepted → (Wrong table sent received → ⊥)
      → Exactly (recordings_record table sent received ≡ refusal 48 0)
      (Rises (words_of (rows_of table)) sent × Rises (words_of (rows_of table)) received → ⊥)
  pub otherwise : first_fault table ≡ Accepted → (Wrong table sent received → ⊥) → Rises (words_of (rows_of table)) sent
      → Rises (words_of (rows_of table)) received → (recordings_record table sent received).outcome ≡ 0
