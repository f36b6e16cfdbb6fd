-- A buffer that begins with a form's numbers: one piece read, written anew, or appended.
use mathlib.Core.Path.{◌≡◌, sym, ◌∙◌, ap, ap₂}
use mathlib.Core.Bool.{true}
use mathlib.Core.List.{List, [], ◌∷◌, ◌++◌, append_assoc}
use Prim.Native.Nat.{ℕ, suc, ◌+◌, ◌*◌, ◌/◌, ◌<◌, ◌≤◌}
use native.Mathlib.Omega.{arith}
use lib.Dec.{ltb}
use lib.ListN.{length, get_or, take, drop, length-append}
use lib.Seq.{drop-cons, split_at, length-take-le, get_or-append-add}
use borrow.Author.Tests.{lt-ltb}
use Rattle.laws.specs.Buffers.{overwrite, set_four}
use Rattle.laws.proofs.Buffers.{overwrite-fits, set-behind}
use Rattle.forms.specs.declared.Piece.{Piece}
use Rattle.forms.specs.Form.{fill, numbers_of}
use Rattle.pieces.specs.inner.Pieces.{piece_at, put_piece}
use Rattle.forms.proofs.FormNumbers.{numbers_append, numbers_length}

module _ (f : List Piece) (w x y z : ℕ) (rest : List ℕ) where
  abbrev out : List ℕ
  out = numbers_of f ++ (w ∷ x ∷ y ∷ z ∷ rest)

  at_piece : (j : ℕ) → length f * 4 + j ≡ length (numbers_of f) + j
  at_piece j = omega (arith, numbers_length f)

  there : ltb (length f) (length out / 4) ≡ true
  there = lt-ltb (length f) (length out / 4) (omega (arith, length-append (numbers_of f) (w ∷ x ∷ y ∷ z ∷ rest), numbers_length f))

  pub piece_read : piece_at out (length f) ≡ record { kind = w; variable = x; high = y; low = z }
  unfolding piece_at
  piece_read =
      let e₀ : length f * 4 ≡ length (numbers_of f) + 0 = omega (arith, numbers_length f) in
      let g : (j : ℕ) → get_or out (length (numbers_of f) + j) 0 ≡ get_or (w ∷ x ∷ y ∷ z ∷ rest) j 0 = λ j. get_or-append-add (numbers_of f) (w ∷ x ∷ y ∷ z ∷ rest) j 0 in
      rw (there, at_piece 1, at_piece 2, at_piece 3, e₀, g 0, g 1, g 2, g 3)

  pub piece_put : (q : Piece) → put_piece out (length f) q ≡ numbers_of f ++ (q.kind ∷ q.variable ∷ q.high ∷ q.low ∷ rest)
  unfolding put_piece set_four
  piece_put q =
      let e₀ : length f * 4 ≡ length (numbers_of f) + 0 = omega (arith, numbers_length f) in
      rw (
        there,
        at_piece 1,
        at_piece 2,
        at_piece 3,
        e₀,
        set-behind (numbers_of f) (w ∷ x ∷ y ∷ z ∷ rest) 0 q.kind,
        set-behind (numbers_of f) (q.kind ∷ x ∷ y ∷ z ∷ rest) 1 q.variable,
        set-behind (numbers_of f) (q.kind ∷ q.variable ∷ y ∷ z ∷ rest) 2 q.high,
        set-behind (numbers_of f) (q.kind ∷ q.variable ∷ q.high ∷ z ∷ rest) 3 q.low,
      )

drop_four : (base : List ℕ) (n : ℕ) → n + 4 ≤ length base
    → drop n base ≡ get_or base n 0 ∷ get_or base (suc n) 0 ∷ get_or base (suc (suc n)) 0 ∷ get_or base (suc (suc (suc n))) 0 ∷ drop (suc (suc (suc (suc n)))) base
drop_four base n h =
    rw (
      drop-cons base n 0 (omega arith),
      drop-cons base (suc n) 0 (omega arith),
      drop-cons base (suc (suc n)) 0 (omega arith),
      drop-cons base (suc (suc (suc n))) 0 (omega arith),
    )

module _ (base : List ℕ) where
  -- the numbers of a form apart at one of its pieces, with what follows the form
  apart_at : (f : List Piece) (p : Piece) (g : List Piece) → (length f + 1 + length g) * 4 ≤ length base
      → overwrite (numbers_of (f ++ (p ∷ g))) base
      ≡ numbers_of f ++ (p.kind ∷ p.variable ∷ p.high ∷ p.low ∷ (numbers_of g ++ drop ((length f + 1 + length g) * 4) base))
  unfolding numbers_of
  apart_at f p g h =
      let n : length (numbers_of (f ++ (p ∷ g))) ≡ (length f + 1 + length g) * 4 = omega (arith, numbers_length (f ++ (p ∷ g)), length-append f (p ∷ g)) in
      overwrite-fits (numbers_of (f ++ (p ∷ g))) base (omega arith)
      ∙ ap₂ (λ (k : ℕ) (s : List ℕ). s ++ drop k base) n (numbers_append f (p ∷ g))
      ∙ append_assoc (numbers_of f) (numbers_of (p ∷ g)) (drop ((length f + 1 + length g) * 4) base)

  pub piece_between : (f : List Piece) (p : Piece) (g : List Piece) → (length f + 1 + length g) * 4 ≤ length base
      → piece_at (overwrite (numbers_of (f ++ (p ∷ g))) base) (length f) ≡ p
  piece_between f p g h =
      ap (λ (o : List ℕ). piece_at o (length f)) (apart_at f p g h)
      ∙ piece_read f p.kind p.variable p.high p.low (numbers_of g ++ drop ((length f + 1 + length g) * 4) base)

  -- each piece of a form, and its last
  pub form_piece : (f : List Piece) (i : ℕ) → i < length f → length f * 4 ≤ length base → piece_at (overwrite (numbers_of f) base) i ≡ get_or f i (fill 0 0)
  form_piece f i l h =
      let apart = split_at f i (fill 0 0) l in
      let n = length-take-le i f (omega arith) in
      ap₂ (λ (g : List Piece) (k : ℕ). piece_at (overwrite (numbers_of g) base) k) apart (sym n)
      ∙ piece_between (take i f) (get_or f i (fill 0 0)) (drop (suc i) f) (omega (arith, n, ap length apart, length-append (take i f) (get_or f i (fill 0 0) ∷ drop (suc i) f)))

  pub last_read : (f : List Piece) (l : Piece) → (length f + 1) * 4 ≤ length base → piece_at (overwrite (numbers_of (f ++ (l ∷ []))) base) (length f) ≡ l
  last_read f l h = piece_between f l [] (omega arith)

  -- the last piece written anew
  pub last_put : (f : List Piece) (l q : Piece) → (length f + 1) * 4 ≤ length base
      → put_piece (overwrite (numbers_of (f ++ (l ∷ []))) base) (length f) q ≡ overwrite (numbers_of (f ++ (q ∷ []))) base
  unfolding numbers_of
  last_put f l q h =
      ap (λ (o : List ℕ). put_piece o (length f) q) (apart_at f l [] (omega arith))
      ∙ piece_put f l.kind l.variable l.high l.low (drop ((length f + 1 + 0) * 4) base) q ∙ sym (apart_at f q [] (omega arith))

  -- a piece appended
  pub next_put : (f : List Piece) (q : Piece) → (length f + 1) * 4 ≤ length base
      → put_piece (overwrite (numbers_of f) base) (length f) q ≡ overwrite (numbers_of (f ++ (q ∷ []))) base
  unfolding numbers_of
  next_put f q h =
      let n : ℕ = length f * 4 in
      let e : suc (suc (suc (suc n))) ≡ (length f + 1 + 0) * 4 = omega arith in
      let old = overwrite-fits (numbers_of f) base (omega (arith, numbers_length f)) ∙ ap (λ (k : ℕ). numbers_of f ++ drop k base) (numbers_length f) ∙ ap (λ (r : List ℕ). numbers_of f ++ r) (drop_four base n (omega arith)) in
      ap (λ (o : List ℕ). put_piece o (length f) q) old
      ∙ piece_put f (get_or base n 0) (get_or base (suc n) 0) (get_or base (suc (suc n)) 0) (get_or base (suc (suc (suc n))) 0) (drop (suc (suc (suc (suc n)))) base) q
      ∙ ap (λ (k : ℕ). numbers_of f ++ (q.kind ∷ q.variable ∷ q.high ∷ q.low ∷ drop k base)) e
      ∙ sym (apart_at f q [] (omega arith))
