-- The lines, one behind the other, are the texts of a record and of an answer table. Assumes nothing.
use mathlib.Core.Path.{◌≡◌, refl, sym, ◌∙◌, ap, ap₂}
use mathlib.Core.List.{List, [], ◌∷◌, ◌++◌}
use Prim.Native.Nat.{ℕ, zero, suc, ◌+◌, ◌*◌, ◌/◌, ◌<◌, ◌≤◌}
use native.Mathlib.Omega.{arith}
use lib.ListN.{length, get_or, replicate, take, drop, length-drop}
use lib.Seq.{take_at}
use Rattle.terms.specs.declared.Record.{Record}
use Rattle.laws.proofs.Buffers.{overwrite-fits}
use Rattle.sheets.specs.Print.{line_of, shown, record_names, record_values, record_text, answer_names, answer_values, answer_lines, answer_text}
use Rattle.sheets.proofs.Lengths.{record_values_few, answer_values_few}

pub line-shown : (l : List ℕ) → length l ≤ 80 → shown (line_of l) ≡ l
unfolding shown line_of
line-shown l h =
    ap (take (length l)) (overwrite-fits l (replicate 80 0) (omega (arith, h)))
    ∙ take_at l (drop (length l) (replicate 80 0)) (length l) refl

pub record-text : (r : Record) → shown (line_of record_names) ++ shown (line_of (record_values r)) ≡ record_text r
unfolding record_text
record-text r = rw (line-shown record_names (omega arith), line-shown (record_values r) (record_values_few r)) refl

-- the table: the names, and each row's line before those of the others
pub answer-text : (numbers : List ℕ) → shown (line_of answer_names) ++ answer_lines numbers ≡ answer_text numbers
unfolding answer_text
answer-text numbers = rw (line-shown answer_names (omega arith)) refl

pub answer-row : (v k w f h b : ℕ) (numbers : List ℕ)
    → shown (line_of (answer_values v k w f h b)) ++ answer_lines numbers ≡ answer_lines (v ∷ k ∷ w ∷ f ∷ h ∷ b ∷ numbers)
unfolding answer_lines
answer-row v k w f h b numbers = rw (line-shown (answer_values v k w f h b) (answer_values_few v k w f h b)) refl

-- the line of the row whose numbers begin at place i
abbrev pub line_at : List ℕ → ℕ → List ℕ
line_at t i = answer_values (get_or t i 0) (get_or t (i + 1) 0) (get_or t (i + 2) 0) (get_or t (i + 3) 0) (get_or t (i + 4) 0) (get_or t (i + 5) 0)

line_skip : (v k w f h b : ℕ) (t : List ℕ) (r : ℕ) → line_at t (r * 6) ≡ line_at (v ∷ k ∷ w ∷ f ∷ h ∷ b ∷ t) (suc r * 6)
line_skip v k w f h b t r =
    let e₀ : suc r * 6 ≡ suc (suc (suc (suc (suc (suc (r * 6)))))) = omega arith in
    let e₁ : suc r * 6 + 1 ≡ suc (suc (suc (suc (suc (suc (r * 6 + 1)))))) = omega arith in
    let e₂ : suc r * 6 + 2 ≡ suc (suc (suc (suc (suc (suc (r * 6 + 2)))))) = omega arith in
    let e₃ : suc r * 6 + 3 ≡ suc (suc (suc (suc (suc (suc (r * 6 + 3)))))) = omega arith in
    let e₄ : suc r * 6 + 4 ≡ suc (suc (suc (suc (suc (suc (r * 6 + 4)))))) = omega arith in
    let e₅ : suc r * 6 + 5 ≡ suc (suc (suc (suc (suc (suc (r * 6 + 5)))))) = omega arith in
    rw (e₁, e₂, e₃, e₄, e₅, e₀)

drop_skip : (v k w f h b : ℕ) (t : List ℕ) (r : ℕ) → drop (suc r * 6) (v ∷ k ∷ w ∷ f ∷ h ∷ b ∷ t) ≡ drop (r * 6) t
drop_skip v k w f h b t r = let e : suc r * 6 ≡ suc (suc (suc (suc (suc (suc (r * 6)))))) = omega arith in rw e

-- the lines from row r on: its own, and those from the next on; none behind the last
pub lines_next : (t : List ℕ) (r : ℕ) → r < length t / 6 → answer_lines (drop (r * 6) t) ≡ line_at t (r * 6) ++ answer_lines (drop (suc r * 6) t)
unfolding answer_lines
lines_next [] r l = absurd (omega arith)
lines_next (v ∷ []) r l = absurd (omega arith)
lines_next (v ∷ k ∷ []) r l = absurd (omega arith)
lines_next (v ∷ k ∷ w ∷ []) r l = absurd (omega arith)
lines_next (v ∷ k ∷ w ∷ f ∷ []) r l = absurd (omega arith)
lines_next (v ∷ k ∷ w ∷ f ∷ h ∷ []) r l = absurd (omega arith)
lines_next (v ∷ k ∷ w ∷ f ∷ h ∷ b ∷ t) zero l = refl
lines_next (v ∷ k ∷ w ∷ f ∷ h ∷ b ∷ t) (suc r) l =
    ap answer_lines (drop_skip v k w f h b t r)
    ∙ lines_next t r (omega arith)
    ∙ ap₂ (λ (x y : List ℕ). x ++ answer_lines y) (line_skip v k w f h b t r) (sym (drop_skip v k w f h b t (suc r)))

pub lines_end : (t : List ℕ) (r : ℕ) → length t / 6 ≤ r → answer_lines (drop (r * 6) t) ≡ []
unfolding answer_lines
lines_end t r l = go (drop (r * 6) t) (omega (arith, length-drop (r * 6) t))
  where
    go : (s : List ℕ) → length s < 6 → answer_lines s ≡ []
    go [] m = refl
    go (v ∷ []) m = refl
    go (v ∷ k ∷ []) m = refl
    go (v ∷ k ∷ w ∷ []) m = refl
    go (v ∷ k ∷ w ∷ f ∷ []) m = refl
    go (v ∷ k ∷ w ∷ f ∷ h ∷ []) m = refl
    go (v ∷ k ∷ w ∷ f ∷ h ∷ b ∷ s) m = absurd (omega arith)
