-- No line is longer than 80 bytes; how long the text of a record and of an answer table is at the most.
use mathlib.Core.Bool.{Bool, true, false, cond}
use mathlib.Core.List.{List, [], ◌∷◌, ◌++◌}
use Prim.Native.Nat.{ℕ, zero, suc, ◌+◌, ◌*◌, ◌/◌, ◌%◌, ◌≤◌}
use native.Mathlib.Omega.{arith}
use lib.Dec.{ltb}
use lib.ListN.{length, length-append}
use Rattle.terms.specs.declared.Record.{Record}
use Rattle.sheets.specs.Writing.{digits}
use Rattle.sheets.specs.Print.{field, record_names, record_values, record_text, answer_names, answer_values, answer_lines, answer_text}

pub digits_few : (most n : ℕ) → length (digits most n) ≤ most
unfolding digits
digits_few zero n = omega arith
digits_few (suc most) n = go (ltb n 10) (digits_few most (n / 10))
  where
    go : (b : Bool) → length (digits most (n / 10)) ≤ most → length (cond b ((48 + n) ∷ []) (digits most (n / 10) ++ ((48 + n % 10) ∷ []))) ≤ suc most
    go true l = omega arith
    go false l = omega (arith, length-append (digits most (n / 10)) ((48 + n % 10) ∷ []))

pub field_few : (n byte : ℕ) → length (field n byte) ≤ 11
unfolding field
field_few n byte = omega (arith, length-append (digits 10 n) (byte ∷ []), digits_few 10 n)

-- a number before so many bytes
pub field_more : (n byte k : ℕ) (ys : List ℕ) → length ys ≤ k → length (field n byte ++ ys) ≤ 11 + k
field_more n byte k ys h = omega (arith, h, length-append (field n byte) ys, field_few n byte)

pub answer_values_few : (v k w f h b : ℕ) → length (answer_values v k w f h b) ≤ 80
unfolding answer_values
answer_values_few v k w f h b =
    let l : length (field v 32 ++ (field k 32 ++ (field w 32 ++ (field f 32 ++ (field h 32 ++ field b 10))))) ≤ 66
    = field_more _ _ 55 _ (field_more _ _ 44 _ (field_more _ _ 33 _ (field_more _ _ 22 _ (field_more _ _ 11 _ (field_few _ _))))) in
    omega (arith, l)

pub record_values_few : (r : Record) → length (record_values r) ≤ 80
unfolding record_values
record_values_few r =
    let l : length (field r.outcome 32 ++ (field r.pieces 32 ++ (field r.fresh 32 ++ (field r.free 32 ++ (field r.ties 32 ++ field r.row 10))))) ≤ 66
    = field_more _ _ 55 _ (field_more _ _ 44 _ (field_more _ _ 33 _ (field_more _ _ 22 _ (field_more _ _ 11 _ (field_few _ _))))) in
    omega (arith, l)

-- 80 bytes for each line are enough, so that no bytes are cut: for a record, for the rows of an answer table, and for the table
pub record_few : (r : Record) → length (record_text r) ≤ 160
unfolding record_text
record_few r = omega (arith, length-append record_names (record_values r), record_values_few r)

pub rows_few : (answer : List ℕ) → length (answer_lines answer) ≤ length answer / 6 * 80
unfolding answer_lines
rows_few [] = omega arith
rows_few (v ∷ []) = omega arith
rows_few (v ∷ k ∷ []) = omega arith
rows_few (v ∷ k ∷ w ∷ []) = omega arith
rows_few (v ∷ k ∷ w ∷ f ∷ []) = omega arith
rows_few (v ∷ k ∷ w ∷ f ∷ h ∷ []) = omega arith
rows_few (v ∷ k ∷ w ∷ f ∷ h ∷ b ∷ answer) = omega (arith, length-append (answer_values v k w f h b) (answer_lines answer), answer_values_few v k w f h b, rows_few answer)

pub answer-few : (answer : List ℕ) → length (answer_text answer) ≤ (length answer / 6 + 1) * 80
unfolding answer_text
answer-few answer = omega (arith, length-append answer_names (answer_lines answer), rows_few answer)
