-- Lines of 40 characters and a byte 10: the names, a piece, an outcome, blanks. Assumes nothing.
use mathlib.Core.Path.{◌≡◌, refl, sym, ◌∙◌, ap}
use mathlib.Core.Bool.{Bool, true, false, cond}
use mathlib.Core.List.{List, [], ◌∷◌, ◌++◌}
use Prim.Native.Nat.{ℕ, zero, suc, ◌+◌, ◌-◌, ◌/◌, ◌%◌, ◌<◌, ◌≤◌}
use native.Mathlib.Omega.{arith}
use lib.Dec.{ltb}
use lib.ListN.{length, get_or, replicate, length-append, length-replicate}
use borrow.Author.Tests.{le-leb, ne_eqb}
use Rattle.answers.specs.declared.AnswerRow.{AnswerRow}
use Rattle.sheets.specs.Writing.{digits}
use Rattle.sheets.proofs.Lengths.{digits_few}
use Rattle.result_sheets.specs.Page.{word, cell, line_of, names_line, piece_line, outcome_line, blank_line}
use Rattle.result_sheets.specs.AllPages.{is_character}

-- Bytes each of which is a character.
pub data Characters : List ℕ → Type 0 where
  none : Characters []
  one : {byte : ℕ} {bytes : List ℕ} → is_character byte ≡ true → Characters bytes → Characters (byte ∷ bytes)

both : (xs ys : List ℕ) → Characters xs → Characters ys → Characters (xs ++ ys)
both [] ys none q = q
both (x ∷ xs) ys (one e p) q = one e (both xs ys p q)

pub character_at : (bytes : List ℕ) (i : ℕ) → Characters bytes → i < length bytes → is_character (get_or bytes i 0) ≡ true
character_at [] i none h = absurd (omega arith)
character_at (x ∷ bytes) zero (one e p) h = e
character_at (x ∷ bytes) (suc i) (one e p) h = character_at bytes i p (omega arith)

blanks : (n : ℕ) → Characters (replicate n 32)
unfolding is_character
blanks zero = none
blanks (suc n) = one refl (blanks n)

-- digits
digit : (d : ℕ) → d < 10 → is_character (48 + d) ≡ true
unfolding is_character
digit d h = rw (ne_eqb (48 + d) 32 (λ e. omega arith), le-leb 48 (48 + d) (omega arith), le-leb (48 + d) 57 (omega arith))

digits_characters : (most n : ℕ) → Characters (digits most n)
unfolding digits
digits_characters zero n = none
digits_characters (suc most) n = go (ltb n 10) refl (digits_characters most (n / 10))
  where
    go : (b : Bool) → ltb n 10 ≡ b → Characters (digits most (n / 10)) → Characters (cond b ((48 + n) ∷ []) (digits most (n / 10) ++ ((48 + n % 10) ∷ [])))
    go true e p = one (digit n (borrow.Author.Tests.ltb-true n 10 e)) none
    go false e p = both (digits most (n / 10)) ((48 + n % 10) ∷ []) p (one (digit (n % 10) (omega arith)) none)

-- A text that fits into a column.
pub record Short (bytes : List ℕ) : Type 0 where
  pub few : length bytes ≤ 10
  pub characters : Characters bytes

pub cell-length : (bytes : List ℕ) → length bytes ≤ 10 → length (cell bytes) ≡ 10
unfolding cell
cell-length bytes h = omega (arith, length-append (replicate (10 - length bytes) 32) bytes, length-replicate {A = ℕ} (10 - length bytes) 32)

cell_characters : (bytes : List ℕ) → Characters bytes → Characters (cell bytes)
unfolding cell
cell_characters bytes p = both (replicate (10 - length bytes) 32) bytes (blanks (10 - length bytes)) p

-- A line: 40 characters and a byte 10.
pub record IsLine (line : List ℕ) : Type 0 where
  pub front : List ℕ
  pub long : length front ≡ 40
  pub characters : Characters front
  pub whole : line ≡ front ++ (10 ∷ [])

is_line : (a b c d : List ℕ) → Short a → Short b → Short c → Short d → IsLine (line_of a b c d)
unfolding line_of
is_line a b c d p q r s =
    let front : List ℕ = cell a ++ (cell b ++ (cell c ++ cell d)) in
    record {
      front = front;
      long =
          omega (
            arith,
            length-append (cell a) (cell b ++ (cell c ++ cell d)),
            length-append (cell b) (cell c ++ cell d),
            length-append (cell c) (cell d),
            cell-length a p.few,
            cell-length b q.few,
            cell-length c r.few,
            cell-length d s.few,
          );
      characters =
          both (cell a) (cell b ++ (cell c ++ cell d)) (cell_characters a p.characters)
          (both (cell b) (cell c ++ cell d) (cell_characters b q.characters)
          (both (cell c) (cell d) (cell_characters c r.characters) (cell_characters d s.characters)));
      whole = sym (simp mathlib.Core.List.append_assoc);
    }

short_number : (n : ℕ) → Short (digits 10 n)
short_number n = record { few = digits_few 10 n; characters = digits_characters 10 n }

short_none : Short []
short_none = record { few = omega arith; characters = none }

pub names_is : IsLine names_line
unfolding names_line is_character
names_is =
    is_line (word "variable") (word "kind") (word "width") (word "fresh")
    (record { few = omega arith; characters = one refl (one refl (one refl (one refl (one refl (one refl (one refl (one refl none))))))) })
    (record { few = omega arith; characters = one refl (one refl (one refl (one refl none))) })
    (record { few = omega arith; characters = one refl (one refl (one refl (one refl (one refl none)))) })
    (record { few = omega arith; characters = one refl (one refl (one refl (one refl (one refl none)))) })

pub piece_is : (r : AnswerRow) → IsLine (piece_line r)
unfolding piece_line
piece_is r = is_line _ _ _ _ (short_number r.variable) (short_number r.kind) (short_number r.width) (short_number r.fresh)

pub outcome_is : (n : ℕ) → IsLine (outcome_line n)
unfolding outcome_line
outcome_is n = is_line _ _ _ _ (short_number n) short_none short_none short_none

pub blank_is : IsLine blank_line
unfolding blank_line
blank_is = is_line _ _ _ _ short_none short_none short_none short_none

pub line_long : (line : List ℕ) → IsLine line → length line ≡ 41
line_long line p = ap length p.whole ∙ omega (arith, p.long, length-append p.front (10 ∷ []))
