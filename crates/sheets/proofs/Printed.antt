-- Bytes written behind those that are there (`written`): none, one more, and one run behind another; the same where they are written
-- only if there is room. Assumes nothing.
use mathlib.Core.Path.{◌≡◌, refl, sym, ◌∙◌, ap, ap₂}
use mathlib.Core.Bool.{Bool, true, false}
use mathlib.Core.List.{List, [], ◌∷◌, ◌++◌, append_assoc, append-nil}
use Prim.Native.Nat.{ℕ, zero, suc, ◌+◌, ◌*◌, ◌-◌, ◌/◌, ◌<◌, ◌≤◌}
use native.Mathlib.Omega.{arith}
use native.Mathlib.Numerals.{add-one}
use lib.Dec.{leb}
use lib.ListN.{length, get_or, set, take, drop, length-append}
use lib.Seq.{take-suc, take_at, length-take-le}
use borrow.Author.Tests.{leb-true, leb-false, le-leb, lt-leb}
use Rattle.laws.specs.Buffers.{overwrite}
use Rattle.laws.proofs.Buffers.{overwrite-length, overwrite-fits, overwrite_more}
use Rattle.sheets.specs.inner.Printed.{fits, written, printed_in, behind_in}

pub written-length : (out : List ℕ) (at : ℕ) (l : List ℕ) → length (written out at l) ≡ length out
unfolding written
written-length out at l = overwrite-length (take at out ++ l) out

own_front : (out : List ℕ) (at : ℕ) → overwrite (take at out) out ≡ out
unfolding overwrite
own_front out zero = refl
own_front [] (suc at) = refl
own_front (x ∷ out) (suc at) = ap (λ (l : List ℕ). x ∷ l) (own_front out at)

pub written_none : (out : List ℕ) (at : ℕ) → written out at [] ≡ out
unfolding written
written_none out at = rw append-nil (own_front out at)

-- one byte more is a store behind the bytes that are there
pub written_byte : (out : List ℕ) (at : ℕ) (bytes : List ℕ) (i : ℕ) → at + length bytes ≤ length out → i < length bytes
    → set (written out at (take i bytes)) (at + i) (get_or bytes i 0) ≡ written out at (take (i + 1) bytes)
unfolding written
written_byte out at bytes i room h =
    let n : length (take at out ++ take i bytes) ≡ at + i =
    omega (arith, length-append (take at out) (take i bytes), length-take-le at out (omega arith), length-take-le i bytes (omega arith)) in
    overwrite_more (take at out ++ take i bytes) out (get_or bytes i 0) (at + i) n
    ∙ rw (add-one, take-suc bytes i 0 h, append_assoc) refl

twice : (x m out : List ℕ) → overwrite (x ++ m) (overwrite x out) ≡ overwrite (x ++ m) out
unfolding overwrite
twice [] m out = refl
twice (y ∷ x) m [] = refl
twice (y ∷ x) m (z ∷ out) = ap (λ (l : List ℕ). y ∷ l) (twice x m out)

-- a run of bytes, and another behind it
pub written_more : (out : List ℕ) (at : ℕ) (l m : List ℕ) → at + length l ≤ length out
    → written (written out at l) (at + length l) m ≡ written out at (l ++ m)
unfolding written
written_more out at l m room =
    let n : length (take at out ++ l) ≡ at + length l = omega (arith, length-append (take at out) l, length-take-le at out (omega arith)) in
    let front : take (at + length l) (overwrite (take at out ++ l) out) ≡ take at out ++ l =
    ap (take (at + length l)) (overwrite-fits (take at out ++ l) out (omega arith))
    ∙ take_at (take at out ++ l) (drop (length (take at out ++ l)) out) (at + length l) n in
    rw front (twice (take at out ++ l) m out) ∙ ap (λ (x : List ℕ). overwrite x out) (append_assoc (take at out) l m)

-- whether there is room
pub room_there : (n room at : ℕ) → fits n room at ≡ true → at + n ≤ room
unfolding fits
room_there n room at e = leb-true (at + n) room e

pub room_not_there : (n room at : ℕ) → fits n room at ≡ false → room < at + n
unfolding fits
room_not_there n room at e = leb-false (at + n) room e

pub place_past : (n room at : ℕ) → room < at → false ≡ fits n room at
unfolding fits
place_past n room at h = sym (lt-leb (at + n) room (omega arith))

pub lines_there : (n room at : ℕ) → at ≤ room → leb n ((room - at) / 80) ≡ fits (n * 80) room at
unfolding fits
lines_there n room at h = go (leb n ((room - at) / 80)) refl
  where
    go : (b : Bool) → leb n ((room - at) / 80) ≡ b → leb n ((room - at) / 80) ≡ leb (at + n * 80) room
    go true e = e ∙ sym (le-leb (at + n * 80) room (omega (arith, leb-true n ((room - at) / 80) e)))
    go false e = e ∙ sym (lt-leb (at + n * 80) room (omega (arith, leb-false n ((room - at) / 80) e)))

-- A buffer and the place behind the bytes that were written from a place on.
pub record Put (out : List ℕ) (at : ℕ) (bytes out' : List ℕ) (b : ℕ) : Type 0 where
  pub place : b ≡ at + length bytes
  pub content : out' ≡ written out at bytes

pub put_kept : (out out' : List ℕ) (at b : ℕ) (l : List ℕ) → Put out at l out' b → length out' ≡ length out
put_kept out out' at b l p = ap length p.content ∙ written-length out at l

-- What a function promises that writes bytes if there is room for n.
abbrev pub PutIn : ℕ → List ℕ → ℕ → List ℕ → List ℕ → ℕ → Type 0
PutIn n out at bytes out' b = (b ≡ behind_in n (length out) at bytes) × (out' ≡ printed_in n out at bytes)

module _ (n : ℕ) (out : List ℕ) (at : ℕ) (bytes : List ℕ) where
  pub put_none : length out < at + n → PutIn n out at bytes out at
  unfolding fits printed_in behind_in
  put_none h = let f = lt-leb (at + n) (length out) h in (rw f refl, rw f refl)

  pub put_in : (out' : List ℕ) (b : ℕ) → at + n ≤ length out → Put out at bytes out' b → PutIn n out at bytes out' b
  unfolding fits printed_in behind_in
  put_in out' b h p = let t = le-leb (at + n) (length out) h in (p.place ∙ rw t refl, p.content ∙ rw t refl)

  pub put_there : (out' : List ℕ) (b : ℕ) → at + n ≤ length out → PutIn n out at bytes out' b → Put out at bytes out' b
  unfolding fits printed_in behind_in
  put_there out' b h p = let t = le-leb (at + n) (length out) h in record { place = p.0 ∙ rw t refl; content = p.1 ∙ rw t refl }

-- one run behind another
pub both_put : (out out₁ out₂ : List ℕ) (at b₁ b₂ : ℕ) (l m : List ℕ) → at + length l ≤ length out
    → Put out at l out₁ b₁ → Put out₁ b₁ m out₂ b₂ → Put out at (l ++ m) out₂ b₂
both_put out out₁ out₂ at b₁ b₂ l m room p q =
    record {
      place = omega (arith, p.place, q.place, length-append l m);
      content = q.content ∙ ap₂ (λ (x : List ℕ) (n : ℕ). written x n m) p.content p.place ∙ written_more out at l m room;
    }
