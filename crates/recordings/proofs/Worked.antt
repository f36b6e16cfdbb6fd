-- Two cases worked by hand (document 02, (xi)), by computation: a sheet of equal words, and one that is not symmetric. Assumes nothing.
use mathlib.Core.Path.{◌≡◌, refl}
use mathlib.Core.List.{List, [], ◌∷◌, ◌++◌}
use Prim.Native.Nat.{ℕ}
use Rattle.terms.specs.Calls.{stop_at}
use Rattle.terms.specs.Table.{count_kind, evened, extract, same_word}
use Rattle.terms.proofs.Computed.{fault_computed, satisfies_computed}
use Rattle.laws.specs.Binary.{binary}
use Rattle.answers.specs.Answer.{variable_widths}
use Rattle.windows.specs.Words.{words_bits, sixteens}
use Rattle.recordings.specs.Recordings.{frames_in, frames_of, pairs_with, matched, has, alone, above, rising, differing_in, differing_bits, differing_words, differences, broken, breaking, first_counter}
use Rattle.recordings.specs.Call.{words_of, wrong_variables, wrong_recording, not_rising, recordings_record}

abbrev row : ℕ → ℕ → ℕ → ℕ → List ℕ
row kind a b c = kind ∷ a ∷ b ∷ c ∷ []

-- The received word is the sent one.
abbrev pub equal_table : List ℕ
equal_table = row 0 16 0 0 ++ row 0 16 0 0 ++ row 4 0 1 0

-- Sent 1 5, 2 7, 4 9 and received 1 5, 3 1, 4 8: frames 1 and 4 are pairs, 4 breaks the sheet, and 9 and 8 differ in one bit.
pub equal_record : recordings_record equal_table (1 ∷ 5 ∷ 2 ∷ 7 ∷ 4 ∷ 9 ∷ []) (1 ∷ 5 ∷ 3 ∷ 1 ∷ 4 ∷ 8 ∷ [])
    ≡ record { outcome = 0; pieces = 2; fresh = 2; free = 1; ties = 1; row = 4 }
unfolding recordings_record stop_at words_of wrong_variables wrong_recording not_rising frames_of frames_in rising above matched pairs_with alone has breaking broken first_counter differences differing_words differing_bits differing_in words_bits sixteens variable_widths fault_computed satisfies_computed evened same_word extract count_kind binary
equal_record = refl

-- The low byte of the sent word comes back as the high byte of the received one.
abbrev pub shifted_table : List ℕ
shifted_table = row 0 16 0 0 ++ row 0 16 0 0 ++ row 3 0 7 0 ++ row 3 1 15 8 ++ row 4 2 3 0

-- Sent 0 h1234, 7 habcd and received 0 h3400, 7 hab00: frame 7 breaks the sheet.
pub shifted_record : recordings_record shifted_table (0 ∷ 4660 ∷ 7 ∷ 43981 ∷ []) (0 ∷ 13312 ∷ 7 ∷ 43776 ∷ [])
    ≡ record { outcome = 0; pieces = 2; fresh = 0; free = 1; ties = 11; row = 7 }
unfolding recordings_record stop_at words_of wrong_variables wrong_recording not_rising frames_of frames_in rising above matched pairs_with alone has breaking broken first_counter differences differing_words differing_bits differing_in words_bits sixteens variable_widths fault_computed satisfies_computed evened same_word extract count_kind binary
shifted_record = refl
