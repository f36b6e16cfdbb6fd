-- A case worked by hand (document 02, (ii)): two pixels, the first of which is the sync marker and the second of which has the same low
-- four bits. Assumes nothing.
use mathlib.Core.Path.{◌≡◌, refl}
use mathlib.Core.List.{List, [], ◌∷◌, ◌++◌}
use Prim.Native.Nat.{ℕ}
use Rattle.terms.specs.Calls.{completed, stop_at}
use Rattle.terms.specs.Table.{rows_of, count_kind, evened, extract, same_word}
use Rattle.terms.proofs.Computed.{fault_computed, satisfies_computed}
use Rattle.laws.specs.Binary.{binary}
use Rattle.laws.specs.Buffers.{overwrite}
use Rattle.answers.specs.Answer.{variable_widths}
use Rattle.windows.specs.Words.{words_bits, sixteens}
use Rattle.windows.specs.Call.{meets_front, starts_from, positions_of, breaks41, breaks42, positions_record, positions_after}

abbrev row : ℕ → ℕ → ℕ → ℕ → List ℕ
row kind a b c = kind ∷ a ∷ b ∷ c ∷ []

-- The sheet's table; hace1 is 44257.
abbrev pub sync_table : List ℕ
sync_table = row 0 16 0 0 ++ row 0 16 0 0 ++ row 5 44257 16 0 ++ row 4 0 2 0 ++ row 3 0 3 0 ++ row 3 1 3 0 ++ row 4 4 5 0

-- The words ace1 0001 ace1 ace1 1231.
abbrev pub sync_words : List ℕ
sync_words = 44257 ∷ 1 ∷ 44257 ∷ 44257 ∷ 4657 ∷ []

-- Its starts are 0, 2 and 3; the windows at 2 and 3 overlap.
pub sync_positions : positions_of (rows_of sync_table) sync_words ≡ 0 ∷ 2 ∷ 3 ∷ []
unfolding positions_of starts_from meets_front words_bits satisfies_computed evened same_word extract count_kind binary
sync_positions = refl

pub sync_record : positions_record sync_table sync_words ≡ completed 3 0
unfolding positions_record stop_at breaks41 breaks42 sixteens variable_widths fault_computed
sync_record = rw sync_positions refl

-- The list gets as many of them as it can take: with room for one the first.
pub sync_list : (list : List ℕ) → positions_after sync_table sync_words list ≡ overwrite (0 ∷ 2 ∷ 3 ∷ []) list
unfolding positions_after
sync_list list = rw (sync_record, sync_positions) refl

pub sync_one : (x : ℕ) → positions_after sync_table sync_words (x ∷ []) ≡ 0 ∷ []
unfolding overwrite
sync_one x = sync_list (x ∷ [])
