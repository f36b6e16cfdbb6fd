-- What was written is read back: a field, a line, the names, and all lines up to what is left behind them. At each place the text is what is
-- written there and then the rest. Assumes nothing.
use mathlib.Core.Path.{◌≡◌, refl, sym, ◌∙◌, ap}
use mathlib.Core.Bool.{false}
use mathlib.Core.List.{List, [], ◌∷◌, ◌++◌, append_assoc}
use Prim.Native.Nat.{ℕ, zero, suc, ◌+◌, ◌<◌, ◌≤◌}
use native.Mathlib.Omega.{arith}
use native.Mathlib.Nat.{add-zero}
use lib.Dec.{ltb, eqb}
use lib.ListN.{length, get_or, drop, length-append, length-drop}
use lib.Seq.{drop-drop, drop-append_seam, get_or-drop}
use borrow.Author.Tests.{lt-ltb, le-ltb, eq-eqb}
use Rattle.std.specs.Prelude.{Ok}
use Rattle.terms.specs.declared.Row.{Row}
use Rattle.sheets.specs.declared.Order.{Order}
use Rattle.sheets.specs.Text.{Value, Column, InOrder, Values, digit_of, hex_digit_of, number_here, sees, field_at, row_of_values, line_at, sees_kind, column_at, name_at, names_at}
use Rattle.sheets.specs.Sheet.{found_from, rows_from, sheet_found, sheet_rows}
use Rattle.sheets.specs.Writing.{spelled, Spelling, name_bytes, column, name, value_in, names_line, line_in, IsOrder, SmallRow, LinesOf, no_lines, one_line}
use Rattle.sheets.proofs.Spelled.{number_read}
use Rattle.sheets.proofs.Orders.{row-placed, column_small}

module _ (text : List ℕ) where
  -- what stands behind something
  pub behind : (at : ℕ) (xs rest : List ℕ) → drop at text ≡ xs ++ rest → drop (at + length xs) text ≡ rest
  behind at xs rest e = sym (drop-drop (length xs) at text) ∙ ap (drop (length xs)) e ∙ drop-append_seam xs rest

  within : (at x : ℕ) (rest : List ℕ) → drop at text ≡ x ∷ rest → at < length text
  within at x rest e = let l : length (drop at text) ≡ suc (length rest) = ap length e in omega (arith, length-drop at text)

  -- a byte that stands there is seen, and no other
  sees-byte : (at x byte : ℕ) (rest : List ℕ) → drop at text ≡ x ∷ rest → sees text at byte ≡ eqb x byte
  unfolding sees
  sees-byte at x byte rest e =
      let g : get_or text at 0 ≡ x =
      ap (λ (i : ℕ). get_or text i 0) (sym (add-zero at)) ∙ sym (get_or-drop at text 0 0) ∙ ap (λ (l : List ℕ). get_or l 0 0) e in
      rw (lt-ltb at (length text) (within at x rest e), g)

  -- a value with the byte behind it
  value_read : (at spelling v byte : ℕ) (rest : List ℕ) → v ≤ 65535 → 15 < hex_digit_of byte → drop at text ≡ value_in spelling v byte ++ rest
      → field_at text at byte ≡ Value v (at + length (value_in spelling v byte))
  unfolding field_at value_in
  value_read at spelling v byte rest h d e =
      let x = spelled spelling v in
      let split : drop at text ≡ x ++ (byte ∷ rest) = e ∙ append_assoc x (byte ∷ []) rest in
      let n : number_here at (drop at text) ≡ Value v (at + length x) = ap (number_here at) split ∙ number_read spelling v at byte rest h d in
      let s = sees-byte (at + length x) byte byte rest (behind at x (byte ∷ rest) split) in
      rw (n, s, eq-eqb byte byte refl) (ap (λ (i : ℕ). Value v i) (omega (arith, length-append x (byte ∷ []))))

  -- a line of four values
  four_read : (order : Order) (sp : Spelling) (at v₁ v₂ v₃ v₄ : ℕ) (rest : List ℕ) → v₁ ≤ 65535 → v₂ ≤ 65535 → v₃ ≤ 65535 → v₄ ≤ 65535
      → drop at text ≡ (value_in sp.first v₁ 32 ++ value_in sp.second v₂ 32 ++ value_in sp.third v₃ 32 ++ value_in sp.fourth v₄ 10) ++ rest
      → line_at text order at
      ≡ Values (row_of_values order v₁ v₂ v₃ v₄)
      (at + length (value_in sp.first v₁ 32 ++ value_in sp.second v₂ 32 ++ value_in sp.third v₃ 32 ++ value_in sp.fourth v₄ 10))
  unfolding line_at digit_of hex_digit_of
  four_read order sp at v₁ v₂ v₃ v₄ rest h₁ h₂ h₃ h₄ e =
      let x₁ = value_in sp.first v₁ 32 in
      let x₂ = value_in sp.second v₂ 32 in
      let x₃ = value_in sp.third v₃ 32 in
      let x₄ = value_in sp.fourth v₄ 10 in
      let at₁ = at + length x₁ in
      let at₂ = at₁ + length x₂ in
      let at₃ = at₂ + length x₃ in
      let e₁ : drop at text ≡ x₁ ++ (x₂ ++ (x₃ ++ (x₄ ++ rest))) = e ∙ simp append_assoc in
      let e₂ : drop at₁ text ≡ x₂ ++ (x₃ ++ (x₄ ++ rest)) = behind at x₁ (x₂ ++ (x₃ ++ (x₄ ++ rest))) e₁ in
      let e₃ : drop at₂ text ≡ x₃ ++ (x₄ ++ rest) = behind at₁ x₂ (x₃ ++ (x₄ ++ rest)) e₂ in
      let e₄ : drop at₃ text ≡ x₄ ++ rest = behind at₂ x₃ (x₄ ++ rest) e₃ in
      let f₁ = value_read at sp.first v₁ 32 (x₂ ++ (x₃ ++ (x₄ ++ rest))) h₁ (omega arith) e₁ in
      let f₂ = value_read at₁ sp.second v₂ 32 (x₃ ++ (x₄ ++ rest)) h₂ (omega arith) e₂ in
      let f₃ = value_read at₂ sp.third v₃ 32 (x₄ ++ rest) h₃ (omega arith) e₃ in
      let f₄ = value_read at₃ sp.fourth v₄ 10 rest h₄ (omega arith) e₄ in
      let l : at₃ + length x₄ ≡ at + length (x₁ ++ x₂ ++ x₃ ++ x₄) =
      omega (arith, length-append (x₁ ++ x₂ ++ x₃) x₄, length-append (x₁ ++ x₂) x₃, length-append x₁ x₂) in
      rw (f₁, f₂, f₃, f₄) (ap (λ (i : ℕ). Values (row_of_values order v₁ v₂ v₃ v₄) i) l)

  pub line_read : (order : Order) (sp : Spelling) (row : Row) (at : ℕ) (rest : List ℕ) → IsOrder order → SmallRow row
      → drop at text ≡ line_in order sp row ++ rest
      → line_at text order at ≡ Values row (at + length (line_in order sp row))
  unfolding line_in
  line_read order sp row at rest is small e =
      let s : (n : ℕ) → column row n ≤ 65535 = λ n. column_small row n small in
      four_read order sp at (column row order.first) (column row order.second) (column row order.third) (column row order.fourth) rest
      (s order.first) (s order.second) (s order.third) (s order.fourth) e
      ∙ ap (λ (r : Row). Values r (at + length (line_in order sp row))) (row-placed order is row)

  -- a name, and with the byte behind it
  column_read : (at n : ℕ) (rest : List ℕ) → n < 4 → drop at text ≡ name_bytes n ++ rest → column_at text at ≡ Column n (at + length (name_bytes n))
  unfolding column_at name_bytes sees_kind
  column_read at zero rest h e =
      let e₁ = behind at (107 ∷ []) (105 ∷ 110 ∷ 100 ∷ rest) e in
      let e₂ = behind at (107 ∷ 105 ∷ []) (110 ∷ 100 ∷ rest) e in
      let e₃ = behind at (107 ∷ 105 ∷ 110 ∷ []) (100 ∷ rest) e in
      let t : List ℕ = 105 ∷ 110 ∷ 100 ∷ rest in
      rw (
        sees-byte at 107 97 t e,
        sees-byte at 107 98 t e,
        sees-byte at 107 99 t e,
        sees-byte at 107 107 t e,
        sees-byte (at + 1) 105 105 (110 ∷ 100 ∷ rest) e₁,
        sees-byte (at + 2) 110 110 (100 ∷ rest) e₂,
        sees-byte (at + 3) 100 100 rest e₃,
      )
  column_read at (suc zero) rest h e = rw (sees-byte at 97 97 rest e)
  column_read at (suc (suc zero)) rest h e = rw (sees-byte at 98 97 rest e, sees-byte at 98 98 rest e)
  column_read at (suc (suc (suc zero))) rest h e = rw (sees-byte at 99 97 rest e, sees-byte at 99 98 rest e, sees-byte at 99 99 rest e)
  column_read at (suc (suc (suc (suc n)))) rest h e = absurd (omega arith)

  name_read : (at n byte : ℕ) (rest : List ℕ) → n < 4 → drop at text ≡ name n byte ++ rest → name_at text at byte ≡ Column n (at + length (name n byte))
  unfolding name_at name
  name_read at n byte rest h e =
      let split : drop at text ≡ name_bytes n ++ (byte ∷ rest) = e ∙ append_assoc (name_bytes n) (byte ∷ []) rest in
      let s = sees-byte (at + length (name_bytes n)) byte byte rest (behind at (name_bytes n) (byte ∷ rest) split) in
      rw (column_read at n (byte ∷ rest) h split, s, eq-eqb byte byte refl) (ap (λ (i : ℕ). Column n i) (omega (arith, length-append (name_bytes n) (byte ∷ []))))

  pub names_read : (order : Order) (at : ℕ) (rest : List ℕ) → IsOrder order → drop at text ≡ names_line order ++ rest
      → names_at text at ≡ InOrder order (at + length (names_line order))
  unfolding names_at names_line
  names_read order at rest is e =
      let x₁ = name order.first 32 in
      let x₂ = name order.second 32 in
      let x₃ = name order.third 32 in
      let x₄ = name order.fourth 10 in
      let at₁ = at + length x₁ in
      let at₂ = at₁ + length x₂ in
      let at₃ = at₂ + length x₃ in
      let e₁ : drop at text ≡ x₁ ++ (x₂ ++ (x₃ ++ (x₄ ++ rest))) = e ∙ simp append_assoc in
      let e₂ : drop at₁ text ≡ x₂ ++ (x₃ ++ (x₄ ++ rest)) = behind at x₁ (x₂ ++ (x₃ ++ (x₄ ++ rest))) e₁ in
      let e₃ : drop at₂ text ≡ x₃ ++ (x₄ ++ rest) = behind at₁ x₂ (x₃ ++ (x₄ ++ rest)) e₂ in
      let e₄ : drop at₃ text ≡ x₄ ++ rest = behind at₂ x₃ (x₄ ++ rest) e₃ in
      let f₁ = name_read at order.first 32 (x₂ ++ (x₃ ++ (x₄ ++ rest))) is.first_is e₁ in
      let f₂ = name_read at₁ order.second 32 (x₃ ++ (x₄ ++ rest)) is.second_is e₂ in
      let f₃ = name_read at₂ order.third 32 (x₄ ++ rest) is.third_is e₃ in
      let f₄ = name_read at₃ order.fourth 10 rest is.fourth_is e₄ in
      let l : at₃ + length x₄ ≡ at + length (x₁ ++ x₂ ++ x₃ ++ x₄) =
      omega (arith, length-append (x₁ ++ x₂ ++ x₃) x₄, length-append (x₁ ++ x₂) x₃, length-append x₁ x₂) in
      rw (f₁, f₂, f₃, f₄, is.different) (ap (λ (i : ℕ). InOrder order i) l)

  -- a line is not empty
  line_long : (order : Order) (sp : Spelling) (row : Row) → 1 ≤ length (line_in order sp row)
  unfolding line_in value_in
  line_long order sp row =
      let x =
      value_in sp.first (column row order.first) 32 ++ value_in sp.second (column row order.second) 32
      ++ value_in sp.third (column row order.third) 32 in
      let d = spelled sp.fourth (column row order.fourth) in
      omega (arith, length-append x (d ++ (10 ∷ [])), length-append d (10 ∷ []))

  -- nothing is left: the lines read are all
  pub lines_end : (order : Order) (m k at : ℕ) → drop at text ≡ [] → (found_from m text order k at ≡ Ok k) × (rows_from m text order at ≡ [])
  unfolding found_from rows_from
  lines_end order m k at e =
      let l : length (drop at text) ≡ 0 = ap length e in
      let p : length text ≤ at = omega (arith, length-drop at text) in
      go m (le-ltb at (length text) p)
    where
      go : (m : ℕ) → ltb at (length text) ≡ false → (found_from m text order k at ≡ Ok k) × (rows_from m text order at ≡ [])
      go zero q = (rw q, refl)
      go (suc m) q = (rw q, rw q)

  -- good lines are read, and then what stands behind them
  lines_read : (order : Order) (is : IsOrder order) {rows : List Row} {lines : List ℕ} → LinesOf order rows lines → (n m k at : ℕ) (rest : List ℕ)
      → n ≡ length rows + m → drop at text ≡ lines ++ rest
      → (found_from n text order k at ≡ found_from m text order (k + length rows) (at + length lines))
      × (rows_from n text order at ≡ rows ++ rows_from m text order (at + length lines))
  unfolding found_from rows_from
  lines_read order is no_lines n m k at rest h e = let i : n ≡ m = omega arith in (rw (i, add-zero k, add-zero at), rw (i, add-zero at))
  lines_read order is (one_line {row} {rows} {lines} sp s more) zero m k at rest h e = absurd (omega arith)
  lines_read order is (one_line {row} {rows} {lines} sp s more) (suc n) m k at rest h e =
      let x = line_in order sp row in
      let t = lines ++ rest in
      let split : drop at text ≡ x ++ t = e ∙ append_assoc x lines rest in
      let l : length (drop at text) ≡ length (x ++ t) = ap length split in
      let p : at < length text = omega (arith, length-drop at text, length-append x t, line_long order sp row) in
      let q = lt-ltb at (length text) p in
      let r = line_read order sp row at t is s split in
      let later = lines_read order is more n m (k + 1) (at + length x) rest (omega arith) (behind at x t split) in
      let i : k + 1 + length rows ≡ k + suc (length rows) = omega arith in
      let j : at + length x + length lines ≡ at + length (x ++ lines) = omega (arith, length-append x lines) in
      (rw (q, r) (later.0 ∙ rw (i, j)), rw (q, r) (ap (λ (l : List Row). row ∷ l) (later.1 ∙ rw j)))

-- The names and the lines of these rows are read, and then what is left, where m more lines may stand.
pub record ReadTo (text : List ℕ) (order : Order) (rows : List Row) (m : ℕ) (left : List ℕ) : Type 0 where
  pub to : ℕ
  pub there : drop to text ≡ left
  pub found : sheet_found text ≡ found_from m text order (length rows) to
  pub read : sheet_rows text ≡ rows ++ rows_from m text order to

pub read_to : (text : List ℕ) (order : Order) (rows : List Row) (lines : List ℕ) (m : ℕ) (left : List ℕ) → IsOrder order → LinesOf order rows lines
    → 512 ≡ length rows + m → length text ≤ 16384 → text ≡ names_line order ++ lines ++ left → ReadTo text order rows m left
unfolding sheet_found sheet_rows
read_to text order rows lines m left is lines_of all short written =
    let q = le-ltb 16384 (length text) short in
    let x = names_line order in
    let whole : drop 0 text ≡ x ++ (lines ++ left) = written ∙ append_assoc x lines left in
    let n = names_read text order 0 (lines ++ left) is whole in
    let at = 0 + length x in
    let there : drop at text ≡ lines ++ left = behind text 0 x (lines ++ left) whole in
    let r = lines_read text order is lines_of 512 m 0 at left all there in
    record {
      to = at + length lines;
      there = behind text at lines left there;
      found = rw (q, n) (r.0 ∙ ap (λ (k : ℕ). found_from m text order k (at + length lines)) (omega arith));
      read = rw (q, n) r.1;
    }
