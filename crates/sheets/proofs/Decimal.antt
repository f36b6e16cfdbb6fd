-- Reading back a number that was written in decimal, and what a number that was read so was written as. The invariant of reading: the
-- digits read so far are those of the value so far, which is not 0. Assumes nothing.
use mathlib.Core.Path.{◌≡◌, refl, sym, ◌∙◌, ap}
use mathlib.Core.Bool.{Bool, true, false, cond}
use mathlib.Core.List.{List, [], ◌∷◌, ◌++◌, append_assoc, append-nil}
use Prim.Native.Nat.{ℕ, zero, suc, ◌+◌, ◌*◌, ◌/◌, ◌%◌, ◌<◌, ◌≤◌}
use native.Mathlib.Omega.{arith}
use lib.Dec.{ltb, eqb}
use lib.ListN.{length, length-append}
use borrow.Author.Tests.{lt-ltb, le-ltb, ne_eqb, ltb-true, ltb-false, eqb-true, eqb-false}
use Rattle.sheets.specs.Text.{Value, NoNumber, digit_of, more_digits, after_zero, decimal_here}
use Rattle.sheets.specs.Writing.{digits, decimal}

-- the byte of a digit, and the digit of a byte
pub digit-of : (d : ℕ) → d < 10 → digit_of (48 + d) ≡ d
unfolding digit_of
digit-of d h = rw (le-ltb (48 + d) 48 (omega arith), le-ltb 57 (48 + d) (omega arith)) (omega arith)

pub byte_of : (byte : ℕ) → digit_of byte ≤ 9 → byte ≡ 48 + digit_of byte
unfolding digit_of
byte_of byte h = go (ltb byte 48) (ltb 57 byte) refl refl
  where
    go : (s t : Bool) → ltb byte 48 ≡ s → ltb 57 byte ≡ t → byte ≡ 48 + digit_of byte
    go true t e f = let z : 10 ≤ 9 = rw e at h in absurd (omega arith)
    go false true e f = let z : 10 ≤ 9 = rw (e, f) at h in absurd (omega arith)
    go false false e f = let l : 48 ≤ byte = ltb-false byte 48 e in rw (e, f) (omega arith)

-- the numbers of at most so many digits
unfoldable power : ℕ → ℕ
power zero = 1
power (suc f) = 10 * power f

-- one digit, and a last one
pub digits_one : (f n : ℕ) → n < 10 → digits (suc f) n ≡ (48 + n) ∷ []
unfolding digits
digits_one f n h = rw (lt-ltb n 10 h)

pub digits_last : (f n : ℕ) → 10 ≤ n → digits (suc f) n ≡ digits f (n / 10) ++ ((48 + n % 10) ∷ [])
unfolding digits
digits_last f n h = rw (le-ltb n 10 h)

-- one more digit is read
digit_read : (v d at : ℕ) (s : List ℕ) → d < 10 → v * 10 + d ≤ 65535 → more_digits v at ((48 + d) ∷ s) ≡ more_digits (v * 10 + d) (at + 1) s
unfolding more_digits
digit_read v d at s h k = rw (digit-of d h, le-ltb 9 d (omega arith), le-ltb 65535 (v * 10 + d) k)

-- what follows the digits of a number is read on from its value
digits_read : (f n at : ℕ) (s : List ℕ) → 1 ≤ n → n ≤ 65535 → n < power f
    → decimal_here at (digits f n ++ s) ≡ more_digits n (at + length (digits f n)) s
unfolding decimal_here more_digits digits power
digits_read zero n at s l h p = absurd (omega arith)
digits_read (suc f) n at s l h p = go (ltb n 10) refl (digits_read f (n / 10) at ((48 + n % 10) ∷ s))
  where
    go : (b : Bool) → ltb n 10 ≡ b
        → (1 ≤ n / 10 → n / 10 ≤ 65535 → n / 10 < power f
        → decimal_here at (digits f (n / 10) ++ ((48 + n % 10) ∷ s)) ≡ more_digits (n / 10) (at + length (digits f (n / 10))) ((48 + n % 10) ∷ s))
        → decimal_here at (digits (suc f) n ++ s) ≡ more_digits n (at + length (digits (suc f) n)) s
    go true e later =
        let k : n < 10 = ltb-true n 10 e in
        let d : digits (suc f) n ≡ (48 + n) ∷ [] = digits_one f n k in
        rw (d, digit-of n k, le-ltb 9 n (omega arith), ne_eqb n 0 (omega arith))
    go false e later =
        let k : 10 ≤ n = ltb-false n 10 e in
        let w : digits (suc f) n ≡ digits f (n / 10) ++ ((48 + n % 10) ∷ []) = digits_last f n k in
        let same : n / 10 * 10 + n % 10 ≡ n = omega arith in
        ap (λ (x : List ℕ). decimal_here at (x ++ s)) w
        ∙ ap (decimal_here at) (append_assoc (digits f (n / 10)) ((48 + n % 10) ∷ []) s)
        ∙ later (omega arith) (omega arith) (omega arith)
        ∙ digit_read (n / 10) (n % 10) (at + length (digits f (n / 10))) s (omega arith) (omega arith)
        ∙ ap (λ (m : ℕ). more_digits m (at + length (digits f (n / 10)) + 1) s) same
        ∙ ap (λ (i : ℕ). more_digits n i s) (rw w (omega (arith, length-append (digits f (n / 10)) ((48 + n % 10) ∷ []))))

-- a byte that is no digit ends a number
more_ends : (v at byte : ℕ) (s : List ℕ) → 9 < digit_of byte → more_digits v at (byte ∷ s) ≡ Value v at
unfolding more_digits
more_ends v at byte s h = rw (lt-ltb 9 (digit_of byte) h)

zero_ends : (at byte : ℕ) (s : List ℕ) → 9 < digit_of byte → after_zero at (byte ∷ s) ≡ Value 0 at
unfolding after_zero
zero_ends at byte s h = rw (lt-ltb 9 (digit_of byte) h)

-- a number that was written is read back
pub decimal_read : (n at byte : ℕ) (rest : List ℕ) → n ≤ 65535 → 9 < digit_of byte
    → decimal_here at (decimal n ++ (byte ∷ rest)) ≡ Value n (at + length (decimal n))
unfolding decimal digits power decimal_here digit_of
decimal_read zero at byte rest h e = zero_ends (at + 1) byte rest e
decimal_read (suc n) at byte rest h e =
    digits_read 5 (suc n) at (byte ∷ rest) (omega arith) h (omega arith) ∙ more_ends (suc n) (at + length (digits 5 (suc n))) byte rest e

-- more digits than are needed change nothing
digits_enough : (f n : ℕ) → 1 ≤ n → n < power f → digits (suc f) n ≡ digits f n
unfolding power
digits_enough zero n l h = absurd (omega arith)
digits_enough (suc f) n l h = go (ltb n 10) refl (digits_enough f (n / 10))
  where
    go : (b : Bool) → ltb n 10 ≡ b → (1 ≤ n / 10 → n / 10 < power f → digits (suc f) (n / 10) ≡ digits f (n / 10))
        → digits (suc (suc f)) n ≡ digits (suc f) n
    go true e later = let k : n < 10 = ltb-true n 10 e in digits_one (suc f) n k ∙ sym (digits_one f n k)
    go false e later =
        let k : 10 ≤ n = ltb-false n 10 e in
        digits_last (suc f) n k ∙ ap (λ (x : List ℕ). x ++ ((48 + n % 10) ∷ [])) (later (omega arith) (omega arith)) ∙ sym (digits_last f n k)

-- one more digit is written
digit_written : (v d : ℕ) → 1 ≤ v → d < 10 → v * 10 + d ≤ 65535 → decimal (v * 10 + d) ≡ decimal v ++ ((48 + d) ∷ [])
unfolding decimal power
digit_written v d l h k =
    let q : (v * 10 + d) / 10 ≡ v = omega arith in
    let r : (v * 10 + d) % 10 ≡ d = omega arith in
    digits_last 4 (v * 10 + d) (omega arith)
    ∙ ap (λ (m : ℕ). digits 4 m ++ ((48 + (v * 10 + d) % 10) ∷ [])) q
    ∙ ap (λ (m : ℕ). digits 4 v ++ ((48 + m) ∷ [])) r
    ∙ ap (λ (x : List ℕ). x ++ ((48 + d) ∷ [])) (sym (digits_enough 4 v l (omega arith)))

-- what was read of a number behind its first digits
record More (v at : ℕ) (s : List ℕ) (n to : ℕ) : Type 0 where
  small : n ≤ 65535
  more : List ℕ
  rest : List ℕ
  split : s ≡ more ++ rest
  whole : decimal n ≡ decimal v ++ more
  behind : to ≡ at + length more

more_none : (v at : ℕ) (s : List ℕ) (n to : ℕ) → v ≤ 65535 → Value v at ≡ Value n to → More v at s n to
more_none v at s n to h e =
    let same : v ≡ n = cc in
    let there : at ≡ to = cc in
    record { small = omega arith; more = []; rest = s; split = refl; whole = ap decimal (sym same) ∙ sym (append-nil (decimal v)); behind = sym there ∙ omega arith }

more_written : (v at : ℕ) (s : List ℕ) (n to : ℕ) → 1 ≤ v → v ≤ 65535 → more_digits v at s ≡ Value n to → More v at s n to
unfolding more_digits
more_written v at [] n to l h e = more_none v at [] n to h e
more_written v at (byte ∷ s) n to l h e =
    go (ltb 9 (digit_of byte)) (ltb 65535 (v * 10 + digit_of byte)) refl refl e (more_written (v * 10 + digit_of byte) (at + 1) s n to)
  where
    go : (t u : Bool) → ltb 9 (digit_of byte) ≡ t → ltb 65535 (v * 10 + digit_of byte) ≡ u
        → cond t (Value v at) (cond u NoNumber (more_digits (v * 10 + digit_of byte) (at + 1) s)) ≡ Value n to
        → (1 ≤ v * 10 + digit_of byte → v * 10 + digit_of byte ≤ 65535 → more_digits (v * 10 + digit_of byte) (at + 1) s ≡ Value n to
        → More (v * 10 + digit_of byte) (at + 1) s n to)
        → More v at (byte ∷ s) n to
    go true u p q e later = more_none v at (byte ∷ s) n to h e
    go false true p q e later = let z : ◌≡◌ {A = ℕ} 0 1 = cc in absurd (omega arith)
    go false false p q e later =
        let d : digit_of byte ≤ 9 = ltb-false 9 (digit_of byte) p in
        let k : v * 10 + digit_of byte ≤ 65535 = ltb-false 65535 (v * 10 + digit_of byte) q in
        let m = later (omega arith) k e in
        record {
          small = m.small;
          more = byte ∷ m.more;
          rest = m.rest;
          split = ap (λ (x : List ℕ). byte ∷ x) m.split;
          whole =
              m.whole ∙ ap (λ (x : List ℕ). x ++ m.more) (digit_written v (digit_of byte) l (omega arith) k)
              ∙ append_assoc (decimal v) ((48 + digit_of byte) ∷ []) m.more
              ∙ ap (λ (b : ℕ). decimal v ++ (b ∷ m.more)) (sym (byte_of byte d));
          behind = omega (arith, m.behind);
        }

-- a number that was read stands there as it is written
pub record InDecimal (n at : ℕ) (s : List ℕ) (to : ℕ) : Type 0 where
  pub small : n ≤ 65535
  pub rest : List ℕ
  pub split : s ≡ decimal n ++ rest
  pub behind : to ≡ at + length (decimal n)

digit_alone : (d : ℕ) → d < 10 → decimal d ≡ (48 + d) ∷ []
unfolding decimal
digit_alone d h = digits_one 4 d h

zero_written : (at : ℕ) (s : List ℕ) (n to : ℕ) → after_zero at s ≡ Value n to → (n ≡ 0) × (to ≡ at)
unfolding after_zero
zero_written at [] n to e = let same : 0 ≡ n = cc in let there : at ≡ to = cc in (sym same, sym there)
zero_written at (byte ∷ s) n to e = go (ltb 9 (digit_of byte)) e
  where
    go : (t : Bool) → cond t (Value 0 at) NoNumber ≡ Value n to → (n ≡ 0) × (to ≡ at)
    go true e = let same : 0 ≡ n = cc in let there : at ≡ to = cc in (sym same, sym there)
    go false e = let z : ◌≡◌ {A = ℕ} 0 1 = cc in absurd (omega arith)

pub decimal-written : (at : ℕ) (s : List ℕ) (n to : ℕ) → decimal_here at s ≡ Value n to → InDecimal n at s to
unfolding decimal_here
decimal-written at [] n to e = let z : ◌≡◌ {A = ℕ} 0 1 = cc in absurd (omega arith)
decimal-written at (byte ∷ s) n to e = go (ltb 9 (digit_of byte)) (eqb (digit_of byte) 0) refl refl e
  where
    go : (t u : Bool) → ltb 9 (digit_of byte) ≡ t → eqb (digit_of byte) 0 ≡ u
        → cond t NoNumber (cond u (after_zero (at + 1) s) (more_digits (digit_of byte) (at + 1) s)) ≡ Value n to → InDecimal n at (byte ∷ s) to
    go true u p q e = let z : ◌≡◌ {A = ℕ} 0 1 = cc in absurd (omega arith)
    go false true p q e =
        let d : digit_of byte ≡ 0 = eqb-true (digit_of byte) 0 q in
        let b : byte ≡ 48 + digit_of byte = byte_of byte (omega arith) in
        let is : byte ≡ 48 = omega arith in
        let f = zero_written (at + 1) s n to e in
        let w : decimal n ≡ 48 ∷ [] = ap decimal f.0 ∙ digit_alone 0 (omega arith) in
        record { small = omega (arith, f.0); rest = s; split = rw (w, is); behind = rw w (omega (arith, f.1)) }
    go false false p q e =
        let d : digit_of byte ≤ 9 = ltb-false 9 (digit_of byte) p in
        let z : digit_of byte ≡ 0 → ⊥ = eqb-false (digit_of byte) 0 q in
        let b : byte ≡ 48 + digit_of byte = byte_of byte d in
        let m = more_written (digit_of byte) (at + 1) s n to (omega arith) (omega arith) e in
        let w : decimal n ≡ byte ∷ m.more =
        m.whole ∙ ap (λ (x : List ℕ). x ++ m.more) (digit_alone (digit_of byte) (omega arith)) ∙ ap (λ (x : ℕ). x ∷ m.more) (sym b) in
        record {
          small = m.small;
          rest = m.rest;
          split = rw w (ap (λ (x : List ℕ). byte ∷ x) m.split);
          behind = rw w (omega (arith, m.behind));
        }
