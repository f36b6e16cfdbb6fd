-- A piece pushed to a buffer that has a form: the buffer then has the form with that piece.
use mathlib.Core.Path.{◌≡◌, refl, sym, ◌∙◌, ap, ap₂}
use mathlib.Core.Bool.{Bool, true, false}
use mathlib.Core.List.{List, [], ◌∷◌, ◌++◌, append_assoc}
use Prim.Native.Nat.{ℕ, ◌+◌, ◌-◌, ◌*◌, ◌/◌, ◌%◌, ◌<◌, ◌≤◌}
use native.Mathlib.Omega.{arith}
use lib.Dec.{ltb}
use lib.ListN.{length, length-append}
use borrow.Author.Tests.{lt-ltb}
use Rattle.laws.specs.Buffers.{overwrite}
use Rattle.laws.proofs.Buffers.{overwrite-length}
use Rattle.forms.specs.declared.Piece.{Piece}
use Rattle.forms.specs.Form.{meets, merged, add, numbers_of, piece_width, form_width}
use Rattle.forms.proofs.Grouping.{Meeting, meeting}
use Rattle.forms.proofs.Maximal.{pushed, pushed_last}
use Rattle.forms.proofs.PieceWidths.{last_width, last_proper}
use Rattle.forms.specs.Proper.{Proper, AllProper}
use Rattle.pieces.specs.inner.Pieces.{piece_at, put_piece, merged_in, meets_last, pushed_count, pushed_numbers}
use Rattle.pieces.proofs.Buffer.{last_read, last_put, next_put}

-- what a push leaves is the form with the piece pushed to it
abbrev pub Pushes : List Piece → Piece → List ℕ → ℕ → List ℕ → Type 0
Pushes f q base n out = (pushed_count out n q ≡ length (pushed f q)) × (pushed_numbers out n q ≡ overwrite (numbers_of (pushed f q)) base)

-- in 16 bits, where the pieces are no wider than 1,024 together
narrow_merged : (p q : Piece) → Proper p → Proper q → meets p q ≡ true → piece_width p + piece_width q ≤ 1024 → merged_in p q ≡ merged p q
unfolding merged_in merged piece_width
narrow_merged p q kp kq h small = go (ltb p.kind 2) refl
  where
    m : Meeting p q
    m = meeting p q h

    go : (b : Bool) → ltb p.kind 2 ≡ b → merged_in p q ≡ merged p q
    go true f =
        let e : ((p.high + q.high) % 65536 + 1) % 65536 ≡ p.high + q.high + 1 =
        omega (arith, kp.fill_low f, kq.fill_low (rw m.same_kind at f)) in
        rw (f, e)
    go false f = rw f

-- a form is empty, or has a last piece
data Ended : List Piece → Type 0 where
  empty : Ended []
  last : (front : List Piece) (l : Piece) → Ended (front ++ (l ∷ []))

ended : (f : List Piece) → Ended f
ended [] = empty
ended (p ∷ f) = go (ended f)
  where
    go : {g : List Piece} → Ended g → Ended (p ∷ g)
    go empty = last [] p
    go (last front l) = last (p ∷ front) l

-- a piece pushed to a buffer that has no piece
push_first : (q : Piece) (base : List ℕ) (n : ℕ) (out : List ℕ) → 4096 ≤ length base → n ≡ 0 → out ≡ overwrite (numbers_of []) base
    → Pushes [] q base n out
unfolding pushed_count pushed_numbers meets_last pushed
push_first q base n out room en eo =
    let size : length out ≡ length base = ap length eo ∙ overwrite-length (numbers_of []) base in
    let free = lt-ltb 0 (length out / 4) (omega arith) in
    (rw (en, free), rw (en, free) (ap (λ (o : List ℕ). put_piece o 0 q) eo ∙ next_put base [] q (omega arith)))

-- a piece pushed to one that has a last piece
push_behind : (front : List Piece) (l q : Piece) (base : List ℕ) (n : ℕ) (out : List ℕ) → Proper l → Proper q
    → piece_width l + piece_width q ≤ 1024 → (length front + 2) * 4 ≤ length base → n ≡ length (front ++ (l ∷ []))
    → out ≡ overwrite (numbers_of (front ++ (l ∷ []))) base → Pushes (front ++ (l ∷ [])) q base n out
unfolding pushed_count pushed_numbers meets_last add
push_behind front l q base n out kl kq small room en eo = go (meets l q) refl
  where
    count : n ≡ length front + 1
    count = en ∙ length-append front (l ∷ [])

    size : length out ≡ length base
    size = ap length eo ∙ overwrite-length (numbers_of (front ++ (l ∷ []))) base

    before : n - 1 ≡ length front
    before = omega (arith, count)

    free : ltb n (length out / 4) ≡ true
    free = lt-ltb n (length out / 4) (omega (arith, count, size))

    any : ltb 0 n ≡ true
    any = lt-ltb 0 n (omega (arith, count))

    found : piece_at out (n - 1) ≡ l
    found = ap₂ piece_at eo before ∙ last_read base front l (omega (arith, count))

    go : (b : Bool) → meets l q ≡ b → Pushes (front ++ (l ∷ [])) q base n out
    go true h =
        let now-is : pushed (front ++ (l ∷ [])) q ≡ front ++ (merged l q ∷ []) = pushed_last front l q ∙ rw h in (
          rw (free, any, found, h, now-is, length-append front (merged l q ∷ [])) count,
          rw (free, any, found, h, now-is, narrow_merged l q kl kq h small)
              (ap₂ (λ (o : List ℕ) (i : ℕ). put_piece o i (merged l q)) eo before ∙ last_put base front l (merged l q) (omega (arith, count))),
        )
    go false h =
        let now-is : pushed (front ++ (l ∷ [])) q ≡ (front ++ (l ∷ [])) ++ (q ∷ []) = pushed_last front l q ∙ rw h (sym (append_assoc front (l ∷ []) (q ∷ []))) in (
          rw (free, any, found, h, now-is, length-append (front ++ (l ∷ [])) (q ∷ [])) (ap (λ (k : ℕ). k + 1) en),
          rw (free, any, found, h, now-is)
              (ap₂ (λ (o : List ℕ) (i : ℕ). put_piece o i q) eo en ∙ next_put base (front ++ (l ∷ [])) q (omega (arith, length-append front (l ∷ [])))),
        )

-- a piece pushed to a form that the buffer has, where all is no wider than 1,024
pub pushed_form : (f : List Piece) (q : Piece) (base : List ℕ) (n : ℕ) (out : List ℕ) → AllProper f → Proper q → form_width f + piece_width q ≤ 1024
    → length f < 1024 → 4096 ≤ length base → n ≡ length f → out ≡ overwrite (numbers_of f) base → Pushes f q base n out
pushed_form f q base n out proper kq small few room en eo = go (ended f) proper small few en eo
  where
    go : {f : List Piece} → Ended f → AllProper f → form_width f + piece_width q ≤ 1024 → length f < 1024 → n ≡ length f → out ≡ overwrite (numbers_of f) base
        → Pushes f q base n out
    go empty proper small few en eo = push_first q base n out room en eo
    go (last front l) proper small few en eo =
        push_behind front l q base n out (last_proper front l proper) kq (omega (arith, last_width front l)) (omega (arith, length-append front (l ∷ []))) en eo
