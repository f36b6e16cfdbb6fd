-- What the inner functions of the call promise: a pass over two recordings, from offset to offset.
use Rattle.std.specs.Prelude.{◌≡◌, Bool, true, false, ◌||◌, cond, List, [], ◌∷◌, ◌++◌, ◌⊎◌, Option, MatchOption, ℕ, suc, ◌+◌, ◌-◌, ◌*◌, ◌/◌, ◌%◌, ◌≤◌, ◌<◌, eqb, ltb, length, get_or, take, drop}
use Rattle.terms.specs.declared.Record.{Record}
use Rattle.words.specs.inner.Plan.{meets_plan}
use Rattle.recordings.specs.Recordings.{Match, frames_of, matched, rising, differing_words, differences, first_counter}
use Rattle.recordings.specs.Call.{wrong_recording}
use Rattle.merger.specs.declared.Pass.{Pass}

-- What has been found stays within its widths.
pub record Countable (s : Pass) : Type 0 where
  pub sent_in : s.i ≤ 65535
  pub received_in : s.j ≤ 65535
  pub few : s.pairs ≤ 65535
  pub lost : s.broken ≤ s.pairs
  pub bits : s.ties ≤ 512 * s.pairs

-- A state after a pair with the words a and b and a counter.
unfoldable pub pair_taken : List ℕ → List ℕ → List ℕ → ℕ → Pass → Pass
pair_taken plan a b counter s =
    record {
      i = s.i + (length a + 1);
      j = s.j + (length b + 1);
      pairs = s.pairs + 1;
      broken = s.broken + cond (meets_plan plan (a ++ b)) 0 1;
      first = cond (meets_plan plan (a ++ b)) s.first (cond (eqb s.broken 0) counter s.first);
      ties = s.ties + differing_words a b;
    }

-- The words of the record at an offset; a state after the pair at its offsets.
abbrev pub words_at : ℕ → List ℕ → ℕ → List ℕ
words_at k numbers i = take k (drop (i + 1) numbers)

abbrev pub pair_at : List ℕ → ℕ → List ℕ → List ℕ → Pass → Pass
pair_at plan k sent received s = pair_taken plan (words_at k sent s.i) (words_at k received s.j) (get_or sent s.i 0) s

-- A state with other offsets.
abbrev pub moved_to : Pass → ℕ → ℕ → Pass
moved_to s i j = record { i = i; j = j; pairs = s.pairs; broken = s.broken; first = s.first; ties = s.ties }

-- Whether the counter at an offset is above c, where there is one.
unfoldable pub climbs_at : List ℕ → ℕ → ℕ → Bool
climbs_at numbers i c = cond (ltb i (length numbers)) (ltb c (get_or numbers i 0)) true

-- From an offset on a recording is whole records, and up to it its counters rise: all do exactly if those from it on do.
pub record Tested (k : ℕ) (numbers : List ℕ) (i : ℕ) : Type 0 where
  pub inside : i ≤ length numbers
  pub whole : length (drop i numbers) % suc k ≡ 0
  pub same : rising (frames_of k (drop i numbers)) ≡ rising (frames_of k numbers)

-- The counters of both recordings rise; those of one do not.
abbrev pub Rise : ℕ → List ℕ → List ℕ → Type 0
Rise k sent received = (rising (frames_of k sent) ≡ true) × (rising (frames_of k received) ≡ true)

abbrev pub Falls : ℕ → List ℕ → List ℕ → Type 0
Falls k sent received = (rising (frames_of k sent) ≡ false) ⊎ (rising (frames_of k received) ≡ false)

-- The pairs that are left.
abbrev pub left_of : ℕ → List ℕ → List ℕ → Pass → List Match
left_of k sent received s = matched (frames_of k (drop s.i sent)) (frames_of k (drop s.j received))

-- A state r further on than s, past records that are in no pair: as much was found, and where both recordings rise the same pairs are left.
pub record Passed (k : ℕ) (sent received : List ℕ) (s r : Pass) : Type 0 where
  pub sent_tested : Tested k sent r.i
  pub received_tested : Tested k received r.j
  pub same_found : r ≡ moved_to s r.i r.j
  pub same_left : Rise k sent received → left_of k sent received r ≡ left_of k sent received s

-- One recording has ended, or the records at the offsets are a pair.
abbrev pub Stands : List ℕ → List ℕ → Pass → Type 0
Stands sent received s = (length sent ≤ s.i) ⊎ ((length received ≤ s.j) ⊎ (get_or received s.j 0 ≡ get_or sent s.i 0))

-- A state r to which a search from s has come: it stands at a pair or at an end. A search that has come to none: a counter fell.
pub record Sought (k : ℕ) (sent received : List ℕ) (s r : Pass) : Type 0 where
  pub on : s.i ≤ r.i
  pub received_on : s.j ≤ r.j
  pub passed : Passed k sent received s r
  pub stands : Stands sent received r

abbrev pub Seeks : ℕ → List ℕ → List ℕ → Pass → Option Pass → Type 0
Seeks k sent received s r = MatchOption r (Falls k sent received) (λ r. Sought k sent received s r)

-- A state at which a pair can be taken.
pub record Stepping (k : ℕ) (sent received : List ℕ) (s : Pass) : Type 0 where
  pub countable : Countable s
  pub few_words : k ≤ 32
  pub sent_short : length sent ≤ 65535
  pub received_short : length received ≤ 65535
  pub sent_tested : Tested k sent s.i
  pub received_tested : Tested k received s.j
  pub sent_more : s.i < length sent
  pub received_more : s.j < length received
  pub equal : get_or received s.j 0 ≡ get_or sent s.i 0

-- Recordings over which a pass can go: whole records of k words, not too many.
pub record Comparable (k : ℕ) (numbers : List ℕ) : Type 0 where
  pub short : length numbers ≤ 65535
  pub whole : length numbers % suc k ≡ 0

-- The pairs that do not meet a plan.
unfoldable pub failing : List ℕ → List Match → List Match
failing plan [] = []
failing plan (m ∷ ms) = cond (meets_plan plan (m.sent ++ m.received)) (failing plan ms) (m ∷ failing plan ms)

-- What a whole pass has found.
pub record Merges (plan : List ℕ) (ms : List Match) (s : Pass) : Type 0 where
  pub pairs_are : s.pairs ≡ length ms
  pub broken_are : s.broken ≡ length (failing plan ms)
  pub first_is : s.first ≡ first_counter (failing plan ms)
  pub ties_are : s.ties ≡ differences ms

-- A pass that has ended: one recording has ended, the counters rise so far, and where both rise all was found. A pass that has not: a counter
-- fell.
pub record Merged (plan : List ℕ) (k : ℕ) (sent received : List ℕ) (s : Pass) : Type 0 where
  pub sent_tested : Tested k sent s.i
  pub received_tested : Tested k received s.j
  pub found : Rise k sent received → Merges plan (matched (frames_of k sent) (frames_of k received)) s

abbrev pub MergesAll : List ℕ → ℕ → List ℕ → List ℕ → Option Pass → Type 0
MergesAll plan k sent received r = MatchOption r (Falls k sent received) (λ s. Merged plan k sent received s)

-- Whether a call with n variables of 16 bits stops before its pass.
unfoldable pub stops : ℕ → List ℕ → List ℕ → Bool
stops n sent received = eqb n 0 || (eqb (n % 2) 1 || (wrong_recording (n / 2) sent || wrong_recording (n / 2) received))

-- The record of a pass over two recordings of so many records.
unfoldable pub concluded : ℕ → ℕ → Pass → Record
concluded sent received s =
    record {
      outcome = 0;
      pieces = s.pairs;
      fresh = sent + received - 2 * s.pairs;
      free = s.broken;
      ties = s.ties;
      row = s.first;
    }
