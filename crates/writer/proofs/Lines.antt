-- Lines of text put behind one another. Assumes nothing.
use mathlib.Core.Path.{◌≡◌, refl, sym, ◌∙◌, ap, ap₂, subst}
use mathlib.Core.List.{List, [], ◌++◌, append_assoc}
use borrow.Rule.Slice.PartMut.{put_mid}
use Rattle.laws.proofs.Buffers.{overwrite-fits}
use Prim.Native.Nat.{ℕ, ◌+◌, ◌*◌, ◌-◌, ◌/◌, min, ◌<◌, ◌≤◌}
use native.Mathlib.Omega.{arith}
use native.Mathlib.Numerals.{add-one}
use lib.ListN.{length, get_or, take, drop, length-append}
use lib.Seq.{length-take-le}
use Rattle.std.proofs.lemmas.List.{drop-drop, take_min}
use Rattle.terms.specs.declared.Record.{Record}
use Rattle.sheets.specs.declared.Text.{Text}
use Rattle.sheets.specs.Print.{line_of, shown, record_names, record_values, record_text}
use Rattle.sheets.specs.Print.{answer_names, answer_values, answer_lines, answer_text}
use Rattle.sheets.proofs.PrintedText.{line-shown, line_at, lines_next, lines_end}
use Rattle.sheets.proofs.Lengths.{record_values_few, answer_values_few}
use Rattle.sheets.specs.inner.Printed.{written}
use Rattle.sheets.proofs.Printed.{written_none, written_more, Put, PutIn, put_kept, put_in, put_there, both_put}

-- bytes copied to a part of a buffer
pub copied : (out bytes : List ℕ) (at k : ℕ) → k ≡ length bytes → at + length bytes ≤ length out → put_mid at k out bytes ≡ written out at bytes
unfolding written
copied out bytes at k e room =
    let n : length (take at out ++ bytes) ≡ at + k = omega (arith, length-append (take at out) bytes, length-take-le at out (omega arith), e) in
    let d : drop k (drop at out) ≡ drop (length (take at out ++ bytes)) out = drop-drop k at out ∙ ap (λ (x : ℕ). drop x out) (sym n) in
    sym
    (overwrite-fits (take at out ++ bytes) out (omega (arith, n, e))
    ∙ append_assoc (take at out) bytes (drop (length (take at out ++ bytes)) out)
    ∙ ap (λ (l : List ℕ). take at out ++ (bytes ++ l)) (sym d))

-- the bytes of a line, as far as its array reaches
pub taken : (t : Text) (n : ℕ) → length t.bytes ≡ 80 → n ≡ min t.len 80 → take n t.bytes ≡ shown t
unfolding shown
taken t n l e =
    let m : n ≡ min t.len (length t.bytes) = omega (arith, e, ap (λ (x : ℕ). min t.len x) l) in
    ap (λ (x : ℕ). take x t.bytes) m ∙ take_min t.len t.bytes

-- a line that was put, where it fits
pub line_put : (t : Text) (l out out' : List ℕ) (at b : ℕ) → t ≡ line_of l → length l ≤ 80 → at + length l ≤ length out
    → PutIn (length (shown t)) out at (shown t) out' b → Put out at l out' b
line_put t l out out' at b e few room p =
    put_there (length l) out at l out' b room (subst (λ (x : List ℕ). PutIn (length x) out at x out' b) (ap shown e ∙ line-shown l few) p)

-- the two lines of a record
pub record_put : (found : Record) (names values : Text) (out out₁ out₂ : List ℕ) (at b₁ b₂ : ℕ) → at + 160 ≤ length out
    → names ≡ line_of record_names → PutIn (length (shown names)) out at (shown names) out₁ b₁
    → values ≡ line_of (record_values found) → PutIn (length (shown values)) out₁ b₁ (shown values) out₂ b₂
    → PutIn 160 out at (record_text found) out₂ b₂
unfolding record_text
record_put found names values out out₁ out₂ at b₁ b₂ room n p v q =
    let few = record_values_few found in
    let first = line_put names record_names out out₁ at b₁ n (omega arith) (omega arith) p in
    let kept = put_kept out out₁ at b₁ record_names first in
    let second = line_put values (record_values found) out₁ out₂ b₁ b₂ v few (omega (arith, first.place, kept)) q in
    put_in 160 out at (record_names ++ record_values found) out₂ b₂ room
    (both_put out out₁ out₂ at b₁ b₂ record_names (record_values found) (omega arith) first second)

-- the names of an answer table, and the lines of its rows
pub answer_put : (answer : List ℕ) (names : Text) (out out₁ out₂ : List ℕ) (at b₁ b₂ : ℕ) → at + (length answer / 6 + 1) * 80 ≤ length out
    → names ≡ line_of answer_names → PutIn (length (shown names)) out at (shown names) out₁ b₁
    → PutIn (length answer / 6 * 80) out₁ b₁ (answer_lines answer) out₂ b₂
    → PutIn ((length answer / 6 + 1) * 80) out at (answer_text answer) out₂ b₂
unfolding answer_text
answer_put answer names out out₁ out₂ at b₁ b₂ room n p q =
    let first = line_put names answer_names out out₁ at b₁ n (omega arith) (omega arith) p in
    let kept = put_kept out out₁ at b₁ answer_names first in
    let rows = put_there (length answer / 6 * 80) out₁ b₁ (answer_lines answer) out₂ b₂ (omega (arith, first.place, kept)) q in
    put_in ((length answer / 6 + 1) * 80) out at (answer_names ++ answer_lines answer) out₂ b₂ room
    (both_put out out₁ out₂ at b₁ b₂ answer_names (answer_lines answer) (omega arith) first rows)

-- the line of a row has at most 80 bytes
pub line_few : (answer : List ℕ) (at : ℕ) → length (line_at answer at) ≤ 80
line_few answer at = answer_values_few _ _ _ _ _ _

-- The lines of the first i rows are written: what is left to write completes the answer's lines.
pub record RowsPut (answer out₀ : List ℕ) (at : ℕ) (out : List ℕ) (b i : ℕ) : Type 0 where
  pub within : i ≤ length answer / 6
  pub kept : length out ≡ length out₀
  pub room : b + (length answer / 6 - i) * 80 ≤ length out₀
  pub place : b + length (answer_lines (drop (i * 6) answer)) ≡ at + length (answer_lines answer)
  pub content : written out b (answer_lines (drop (i * 6) answer)) ≡ written out₀ at (answer_lines answer)

pub rows_first : (answer out : List ℕ) (at : ℕ) → at + length answer / 6 * 80 ≤ length out → RowsPut answer out at out at 0
rows_first answer out at h = record { within = omega arith; kept = refl; room = omega arith; place = refl; content = refl }

pub rows_more : (answer out₀ : List ℕ) (at : ℕ) (out : List ℕ) (b i : ℕ) (out' : List ℕ) (b' : ℕ) → RowsPut answer out₀ at out b i → i < length answer / 6
    → Put out b (line_at answer (i * 6)) out' b' → RowsPut answer out₀ at out' b' (i + 1)
rows_more answer out₀ at out b i out' b' p h q =
    let l : List ℕ = line_at answer (i * 6) in
    let m : List ℕ = answer_lines (drop ((i + 1) * 6) answer) in
    let next : answer_lines (drop (i * 6) answer) ≡ l ++ m =
    lines_next answer i h ∙ ap (λ (n : ℕ). line_at answer (i * 6) ++ answer_lines (drop (n * 6) answer)) (sym (add-one i)) in
    let few : length l ≤ 80 = line_few answer (i * 6) in
    record {
      within = omega arith;
      kept = put_kept out out' b b' l q ∙ p.kept;
      room = omega (arith, p.room, q.place);
      place = omega (arith, p.place, q.place, ap length next, length-append l m);
      content =
          ap₂ (λ (x : List ℕ) (n : ℕ). written x n m) q.content q.place
          ∙ written_more out b l m (omega (arith, p.room, p.kept))
          ∙ ap (written out b) (sym next)
          ∙ p.content;
    }

pub rows_done : (answer out₀ : List ℕ) (at : ℕ) (out : List ℕ) (b i : ℕ) → RowsPut answer out₀ at out b i → length answer / 6 ≤ i
    → Put out₀ at (answer_lines answer) out b
rows_done answer out₀ at out b i p h =
    let e : answer_lines (drop (i * 6) answer) ≡ [] = lines_end answer i h in
    record {
      place = omega (arith, p.place, ap length e);
      content = sym (written_none out b) ∙ ap (written out b) (sym e) ∙ p.content;
    }

-- the six numbers of a row
pub line_loaded : (answer : List ℕ) (at v k w f h b : ℕ) (t : Text) → v ≡ get_or answer at 0 → k ≡ get_or answer (at + 1) 0 → w ≡ get_or answer (at + 2) 0 → f ≡ get_or answer (at + 3) 0
    → h ≡ get_or answer (at + 4) 0 → b ≡ get_or answer (at + 5) 0 → t ≡ line_of (answer_values v k w f h b) → t ≡ line_of (line_at answer at)
line_loaded answer at v k w f h b t e₀ e₁ e₂ e₃ e₄ e₅ e = e ∙ rw (e₀, e₁, e₂, e₃, e₄, e₅)
