-- Lines made byte by byte.
use mathlib.Core.Path.{◌≡◌, refl, sym, ◌∙◌, ap}
use mathlib.Core.List.{List, [], ◌∷◌, ◌++◌, append_assoc}
use Prim.Native.Nat.{ℕ, zero, suc, ◌+◌, ◌-◌, ◌/◌, ◌%◌, ◌<◌, ◌≤◌}
use native.Mathlib.Omega.{arith}
use lib.ListN.{length, length-append, length-drop, get_or, drop, drop_of_length-le}
use Rattle.sheets.proofs.Numbers.{at_byte}
use borrow.Author.Tests.{lt-ltb, le-ltb}
use Rattle.laws.proofs.Buffers.{overwrite_more}
use Rattle.sheets.specs.declared.Text.{Text}
use Rattle.lines.specs.inner.Push.{pushed, push_all, fields}
use Rattle.sheets.specs.Print.{line_of, field}
use Rattle.sheets.specs.Writing.{digits}

pub push_append : (t : Text) (xs ys : List ℕ) → push_all t (xs ++ ys) ≡ push_all (push_all t xs) ys
unfolding push_all
push_append t [] ys = refl
push_append t (x ∷ xs) ys = push_append (pushed t x) xs ys

push_last : (t : Text) (bytes : List ℕ) (byte : ℕ) → pushed (push_all t bytes) byte ≡ push_all t (bytes ++ (byte ∷ []))
unfolding push_all
push_last t [] byte = refl
push_last t (x ∷ bytes) byte = push_last (pushed t x) bytes byte

push_line : (l : List ℕ) (byte : ℕ) → length l < 80 → pushed (line_of l) byte ≡ line_of (l ++ (byte ∷ []))
unfolding pushed line_of
push_line l byte h = rw (lt-ltb (length l) 80 h, overwrite_more l _ byte (length l) refl, length-append l (byte ∷ []))

-- what is pushed to a line stands behind it
pub push-all : (l bytes : List ℕ) → length l + length bytes ≤ 80 → push_all (line_of l) bytes ≡ line_of (l ++ bytes)
unfolding push_all
push-all l [] h = ap line_of (sym (mathlib.Core.List.append-nil l))
push-all l (x ∷ bytes) h =
    ap (λ (t : Text). push_all t bytes) (push_line l x (omega arith))
    ∙ push-all (l ++ (x ∷ [])) bytes (omega (arith, length-append l (x ∷ [])))
    ∙ ap line_of (append_assoc l (x ∷ []) bytes)

pub push_digits_none : (t : Text) (most n : ℕ) → most ≡ 0 → t ≡ push_all t (digits most n)
unfolding push_all digits
push_digits_none t zero n e = refl
push_digits_none t (suc most) n e = absurd (omega (arith, e))

pub push_digits_one : (t : Text) (most n : ℕ) → (most ≡ 0 → ⊥) → n < 10 → pushed t (48 + n) ≡ push_all t (digits most n)
unfolding push_all digits
push_digits_one t zero n nz h = absurd (nz refl)
push_digits_one t (suc most) n nz h = rw (lt-ltb n 10 h)

pub push_digits_more : (t rest : Text) (most n : ℕ) → (most ≡ 0 → ⊥) → 10 ≤ n → rest ≡ push_all t (digits (most - 1) (n / 10))
    → pushed rest (48 + n % 10) ≡ push_all t (digits most n)
unfolding digits
push_digits_more t rest zero n nz h e = absurd (nz refl)
push_digits_more t rest (suc most) n nz h e =
    let f : suc most - 1 ≡ most = omega arith in
    rw (le-ltb n 10 h) (ap (λ (x : Text). pushed x (48 + n % 10)) (e ∙ ap (λ (m : ℕ). push_all t (digits m (n / 10))) f) ∙ push_last t (digits most (n / 10)) (48 + n % 10))

-- a number and the byte behind it
pub push_field : (t rest r : Text) (n byte : ℕ) → rest ≡ push_all t (digits 10 n) → r ≡ pushed rest byte → r ≡ push_all t (field n byte)
unfolding field
push_field t rest r n byte e f = f ∙ ap (λ (x : Text). pushed x byte) e ∙ push_last t (digits 10 n) byte

-- one byte more of the rest
pub push_next : (t r : Text) (bytes : List ℕ) (i : ℕ) → i < length bytes → r ≡ pushed t (get_or bytes i 0)
    → push_all r (drop (i + 1) bytes) ≡ push_all t (drop i bytes)
unfolding push_all
push_next t r bytes i h e = rw (at_byte bytes i h) (ap (λ (x : Text). push_all x (drop (i + 1) bytes)) e)

pub push_none : (t : Text) (bytes : List ℕ) (i : ℕ) → length bytes ≤ i → t ≡ push_all t (drop i bytes)
unfolding push_all
push_none t bytes i h = rw (drop_of_length-le bytes h) refl

-- a number before others, or the last
fields_cons : (n end : ℕ) (rest : List ℕ) → (length rest ≡ 0 → end ≡ 10) → ((length rest ≡ 0 → ⊥) → end ≡ 32) → fields (n ∷ rest) ≡ field n end ++ fields rest
unfolding fields
fields_cons n end [] is other = rw (is refl) (sym (mathlib.Core.List.append-nil (field n 10)))
fields_cons n end (m ∷ rest) is other = rw (other (λ e. omega (arith, e)))

-- one number more of the rest, which is the last or not
pub values_next : (t r : Text) (numbers : List ℕ) (i end : ℕ) → i < length numbers → (i + 1 ≡ length numbers → end ≡ 10) → ((i + 1 ≡ length numbers → ⊥) → end ≡ 32)
    → r ≡ push_all t (field (get_or numbers i 0) end) → push_all r (fields (drop (i + 1) numbers)) ≡ push_all t (fields (drop i numbers))
values_next t r numbers i end h is other e =
    let rest = drop (i + 1) numbers in
    let d = length-drop (i + 1) numbers in
    rw (at_byte numbers i h, fields_cons (get_or numbers i 0) end rest (λ z. is (omega (arith, d, z))) (λ n. other (λ z. n (omega (arith, d, z)))))
    (ap (λ (x : Text). push_all x (fields rest)) e ∙ sym (push_append t (field (get_or numbers i 0) end) (fields rest)))

pub values_none : (t : Text) (numbers : List ℕ) (i : ℕ) → length numbers ≤ i → t ≡ push_all t (fields (drop i numbers))
unfolding push_all fields
values_none t numbers i h = rw (drop_of_length-le numbers h) refl

-- a line of names
pub whole_line : (e r : Text) (bytes : List ℕ) → length bytes ≤ 80 → e ≡ line_of [] → r ≡ push_all e bytes → r ≡ line_of bytes
whole_line e r bytes h f g = g ∙ ap (λ (t : Text). push_all t bytes) f ∙ push-all [] bytes (omega (arith, h))

-- two steps are one
pub push_both : (t m r : Text) (xs ys : List ℕ) → m ≡ push_all t xs → r ≡ push_all m ys → r ≡ push_all t (xs ++ ys)
push_both t m r xs ys e f = f ∙ ap (λ (x : Text). push_all x ys) e ∙ sym (push_append t xs ys)
