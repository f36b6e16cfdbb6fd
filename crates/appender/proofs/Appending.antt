-- What was appended to a buffer's form: sources one after the other, the sources of one piece, copies of a bit, and the bits of a number.
use mathlib.Core.Path.{◌≡◌, refl, sym, ◌∙◌, ap, ap₂}
use mathlib.Core.List.{List, [], ◌∷◌, ◌++◌, map, append_assoc, append-nil}
use Prim.Native.Nat.{ℕ, suc, ◌+◌, ◌-◌, ◌/◌, ◌%◌, ◌^◌, ◌≤◌}
use native.Mathlib.Omega.{arith}
use lib.ListN.{length, replicate, length-append}
use Rattle.terms.specs.declared.Row.{Row}
use Rattle.laws.specs.Binary.{binary}
use Rattle.laws.specs.Buffers.{overwrite}
use Rattle.laws.proofs.Binary.{bit_half}
use Rattle.laws.proofs.Buffers.{overwrite-length}
use Rattle.laws.proofs.Lists.{map-append, map-replicate}
use Rattle.forms.specs.declared.Piece.{Piece}
use Rattle.forms.specs.Form.{fill, add, group, piece_of, form_from, numbers_of, piece_width, form_width, form_of, add_all}
use Rattle.appender.specs.inner.Append.{Has, Appended}
use Rattle.pieces.specs.inner.Pieces.{pushed_count, pushed_numbers}
use Rattle.forms.proofs.Places.{constant_piece, group_fills}
use Rattle.forms.proofs.Maximal.{pushed, group_push}
use Rattle.forms.specs.Proper.{Proper, AllProper, some}
use Rattle.pieces.proofs.Pushing.{pushed_form}
use Rattle.forms.proofs.Units.{form_proper, form-width, form_count}
use Rattle.terms.specs.Table.{source_of}

-- nothing, and one after the other
pub appended_none : (t : List Row) (n : ℕ) (out : List ℕ) → Appended t [] n out n out
appended_none t n out earlier base small room has = rw append-nil has

pub appended_both : (t : List Row) (xs ys : List ℕ) (n m k : ℕ) (out out₁ out₂ : List ℕ)
    → Appended t xs n out m out₁ → Appended t ys m out₁ k out₂ → Appended t (xs ++ ys) n out k out₂
appended_both t xs ys n m k out out₁ out₂ f g earlier base small room has =
    let l = length-append xs ys in
    let both = g (earlier ++ xs) base (omega (arith, length-append earlier xs)) room (f earlier base (omega arith) room has) in
    rw (append_assoc earlier xs ys) at both

pub appended_same : (t : List Row) (xs ys : List ℕ) (n m : ℕ) (out out₁ : List ℕ) → xs ≡ ys → Appended t xs n out m out₁ → Appended t ys n out m out₁
appended_same t xs ys n m out out₁ e f = rw e at f

pub has-length : (t : List Row) (xs base : List ℕ) (n : ℕ) (out : List ℕ) → Has t xs base n out → length out ≡ length base
has-length t xs base n out has = ap length has.numbers ∙ overwrite-length (numbers_of (form_from t xs)) base

-- the sources of one piece
module _ (t : List Row) (xs : List ℕ) (q : Piece) (single : form_from t xs ≡ q ∷ []) where
  one_wide : piece_width q ≡ length xs
  unfolding form_width
  one_wide = let w : form_width (q ∷ []) ≡ length xs = rw single at (form-width t xs) in omega arith

  one_proper : Proper q
  one_proper = go (rw single at (form_proper t xs))
    where
      go : AllProper (q ∷ []) → Proper q
      go (some k ks) = k

  some_source : 1 ≤ length xs
  some_source = let c : 1 ≤ length xs = omega (arith, ap length single, form_count t xs) in c

  grown : (ys : List ℕ) → form_from t (ys ++ xs) ≡ pushed (form_from t ys) q
  unfolding form_from
  grown ys = ap group (map-append (piece_of t) ys xs) ∙ group_push (map (piece_of t) ys) (map (piece_of t) xs) q single

  -- the sources of one piece are appended by pushing it
  pub appended_piece : (n : ℕ) (out : List ℕ) → Appended t xs n out (pushed_count out n q) (pushed_numbers out n q)
  appended_piece n out earlier base small room has =
      let done = pushed_form (form_from t earlier) q base n out (form_proper t earlier) one_proper
      (omega (arith, form-width t earlier, one_wide)) (omega (arith, form_count t earlier, some_source)) room has.pieces has.numbers in
      record {
        pieces = done.0 ∙ ap length (sym (grown earlier));
        numbers = done.1 ∙ ap (λ (g : List Piece). overwrite (numbers_of g) base) (sym (grown earlier));
      }

  pub appended_push : (n : ℕ) (out : List ℕ) (m : ℕ) (out' : List ℕ) → m ≡ pushed_count out n q → out' ≡ pushed_numbers out n q → Appended t xs n out m out'
  appended_push n out m out' em eo = rw (em, eo) (appended_piece n out)

-- copies of a bit are one piece
copies_form : (t : List Row) (b n : ℕ) → b ≤ 1 → form_from t (replicate (suc n) b) ≡ fill b n ∷ []
unfolding form_from
copies_form t b n h =
    ap group (map-replicate (piece_of t) (suc n) b ∙ ap (replicate (suc n)) (constant_piece t b h)) ∙ group_fills b n h

pub appended_fill : (t : List Row) (b count : ℕ) → b ≤ 1 → (count ≡ 0 → ⊥) → (q : Piece) → q ≡ fill b (count - 1) → (n : ℕ) (out : List ℕ) (m : ℕ) (out' : List ℕ)
    → m ≡ pushed_count out n q → out' ≡ pushed_numbers out n q → Appended t (replicate count b) n out m out'
appended_fill t b count h any q eq n out m out' em eo =
    let more : count ≡ suc (count - 1) = omega arith in
    appended_push t (replicate count b) q
    (ap (λ (k : ℕ). form_from t (replicate k b)) more ∙ copies_form t b (count - 1) h ∙ ap (λ (p : Piece). p ∷ []) (sym eq)) n out m out' em eo

-- one bit
single_bit : (t : List Row) (b : ℕ) → b ≤ 1 → form_from t (b ∷ []) ≡ fill b 0 ∷ []
unfolding form_from group add_all add
single_bit t b h = ap (λ (p : Piece). p ∷ []) (constant_piece t b h)

-- one bit more of bits top down of a number, behind those from bit k on: bit i, where k is i + 1
pub appended_bit : (t : List Row) (a top k i n m : ℕ) (out out₁ : List ℕ) → k ≡ suc i → i ≤ top → Appended t (binary (top + 1 - k) (a / 2 ^ k)) n out m out₁
    → (b : ℕ) → b ≡ a / 2 ^ i % 2 → (q : Piece) → q ≡ fill b 0 → (m' : ℕ) (out₂ : List ℕ) → m' ≡ pushed_count out₁ m q → out₂ ≡ pushed_numbers out₁ m q
    → Appended t (binary (top + 1 - i) (a / 2 ^ i)) n out m' out₂
unfolding binary
appended_bit t a top k i n m out out₁ ek l f b eb q eq m' out₂ em eo =
    let more : top + 1 - i ≡ suc (top - i) = omega arith in
    let before : top + 1 - k ≡ top - i = omega arith in
    let f' : Appended t (binary (top - i) (a / 2 ^ suc i)) n out m out₁ = rw (before, ek) at f in
    rw more
    (appended_same t (binary (top - i) (a / 2 ^ suc i) ++ (b ∷ [])) (binary (suc (top - i)) (a / 2 ^ i)) n m' out out₂
    (ap₂ (λ (h x : ℕ). binary (top - i) h ++ (x ∷ [])) (sym (bit_half a i)) eb)
    (appended_both t (binary (top - i) (a / 2 ^ suc i)) (b ∷ []) n m m' out out₁ out₂ f'
    (appended_push t (b ∷ []) q (single_bit t b (omega arith) ∙ ap (λ (p : Piece). p ∷ []) (sym eq)) m out₁ m' out₂ em eo)))

-- what was appended to nothing is the form of the sources; of a row, where they are the row's
pub appended_first : (t : List Row) (xs base : List ℕ) (n : ℕ) (out : List ℕ) → length xs ≤ 1024 → 4096 ≤ length base → Appended t xs 0 base n out
    → Has t xs base n out
unfolding form_from group add_all overwrite numbers_of
appended_first t xs base n out small room f = f [] base (omega arith) room (record { pieces = refl; numbers = refl })

pub appended_form : (t : List Row) (row : ℕ) (base : List ℕ) (n : ℕ) (out : List ℕ) → length (source_of t row) ≤ 1024 → 4096 ≤ length base
    → Appended t (source_of t row) 0 base n out → (n ≡ length (form_of t row)) × (out ≡ overwrite (numbers_of (form_of t row)) base)
unfolding form_of
appended_form t row base n out small room f =
    let done = appended_first t (source_of t row) base n out small room f in (done.pieces, done.numbers)
