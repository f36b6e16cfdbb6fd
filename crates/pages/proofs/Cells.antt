-- A number in a column, its digits written from the last on; the bytes of cells and of lines. Assumes nothing.
use mathlib.Core.Path.{◌≡◌, refl, sym, ◌∙◌, ap, ap₂}
use mathlib.Core.List.{List, [], ◌∷◌, ◌++◌, append_assoc}
use Prim.Native.Nat.{ℕ, zero, suc, ◌+◌, ◌*◌, ◌-◌, ◌/◌, ◌%◌, ◌<◌, ◌≤◌}
use native.Mathlib.Omega.{arith}
use lib.ListN.{length, set, replicate, length-replicate}
use lib.Seq.{set_at}
use Rattle.sheets.specs.Writing.{digits}
use Rattle.sheets.proofs.Decimal.{digits_one, digits_last}
use Rattle.result_sheets.specs.Page.{cell}

-- the numbers of at most so many digits
unfoldable pub tens : ℕ → ℕ
tens zero = 1
tens (suc f) = 10 * tens f

-- the last of several blanks
last_blank : (k : ℕ) (t : List ℕ) → replicate (suc k) 32 ++ t ≡ replicate k 32 ++ (32 ∷ t)
last_blank zero t = refl
last_blank (suc k) t = ap (λ (l : List ℕ). 32 ∷ l) (last_blank k t)

store_last : (k x : ℕ) (bytes t : List ℕ) → bytes ≡ replicate (suc k) 32 ++ t → set bytes k x ≡ replicate k 32 ++ (x ∷ t)
store_last k x bytes t e =
    ap (λ (l : List ℕ). set l k x) (e ∙ last_blank k t) ∙ set_at (replicate k 32) 32 t x k (length-replicate k 32)

-- The last digits of n are written: blanks up to place `at`, and what is left are the digits of `rest`.
pub record Filling (n : ℕ) (bytes : List ℕ) (at rest : ℕ) : Type 0 where
  pub few : rest < tens (suc at)
  pub tail : List ℕ
  pub long : suc at + length tail ≡ 10
  pub blank : bytes ≡ replicate (suc at) 32 ++ tail
  pub left : digits (suc at) rest ++ tail ≡ digits 10 n

pub filling_first : (n : ℕ) → n < 4294967296 → Filling n (replicate 10 32) 9 n
unfolding tens
filling_first n h =
    record { few = omega arith; tail = []; long = refl; blank = refl; left = mathlib.Core.List.append-nil (digits 10 n) }

pub filling_above : (n : ℕ) (bytes : List ℕ) (at rest : ℕ) → Filling n bytes at rest → 10 ≤ rest → 1 ≤ at
unfolding tens
filling_above n bytes zero rest f h = absurd (omega (arith, f.few))
filling_above n bytes (suc at) rest f h = omega arith

pub filling_more : (n : ℕ) (bytes : List ℕ) (at rest : ℕ) → Filling n bytes at rest → 10 ≤ rest
    → Filling n (set bytes at (48 + rest % 10)) (at - 1) (rest / 10)
unfolding tens
filling_more n bytes zero rest f h = absurd (omega (arith, f.few))
filling_more n bytes (suc at) rest f h =
    let e : suc at - 1 ≡ at = omega arith in
    rw e
    (record {
      few = omega (arith, f.few);
      tail = (48 + rest % 10) ∷ f.tail;
      long = omega (arith, f.long);
      blank = store_last (suc at) (48 + rest % 10) bytes f.tail f.blank;
      left =
          sym (append_assoc (digits (suc at) (rest / 10)) ((48 + rest % 10) ∷ []) f.tail)
          ∙ ap (λ (l : List ℕ). l ++ f.tail) (sym (digits_last (suc at) rest h))
          ∙ f.left;
    })

filling_done : (n : ℕ) (bytes : List ℕ) (at rest : ℕ) → Filling n bytes at rest → rest < 10 → set bytes at (48 + rest) ≡ cell (digits 10 n)
unfolding cell
filling_done n bytes at rest f h =
    let w : digits 10 n ≡ (48 + rest) ∷ f.tail = sym f.left ∙ ap (λ (l : List ℕ). l ++ f.tail) (digits_one at rest h) in
    let k : 10 - length (digits 10 n) ≡ at = omega (arith, ap length w, f.long) in
    store_last at (48 + rest) bytes f.tail f.blank ∙ ap₂ (λ (m : ℕ) (l : List ℕ). replicate m 32 ++ l) (sym k) (sym w)

pub filling_last : (n : ℕ) (bytes : List ℕ) (at rest : ℕ) → Filling n bytes at rest → rest / 10 ≡ 0 → set bytes at (48 + rest % 10) ≡ cell (digits 10 n)
filling_last n bytes at rest f h =
    let e : rest % 10 ≡ rest = omega arith in
    rw e (filling_done n bytes at rest f (omega arith))
