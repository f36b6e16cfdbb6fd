-- The marks of a pattern and the lines of a form's pieces, one more of each. Assumes nothing.
use mathlib.Core.Path.{◌≡◌, refl, ◌∙◌, ap}
use mathlib.Core.List.{List, [], ◌∷◌, ◌++◌}
use Prim.Native.Nat.{ℕ, zero, suc, ◌+◌}
use native.Mathlib.Numerals.{add-one}
use lib.ListN.{length, set}
use Rattle.laws.specs.Buffers.{overwrite}
use Rattle.laws.proofs.Lists.{snoc_length}
use Rattle.laws.proofs.Buffers.{overwrite_none, overwrite_more, overwrite_whole}
use Rattle.forms.specs.declared.Piece.{Piece}
use Rattle.pieces.specs.inner.Pieces.{piece_at}
use Rattle.sheets.specs.declared.Text.{Text}
use Rattle.sheets.specs.Print.{shown}
use Rattle.sheets.specs.inner.Printed.{printed, behind}
use Rattle.details.specs.inner.Printing.{mark_at, marks, four_line, piece_line, pieces_behind, pieces_put}

marks-length : (first step n : ℕ) → length (marks first step n) ≡ n
unfolding marks
marks-length first step zero = refl
marks-length first step (suc n) = snoc_length (marks first step n) (mark_at first step n) ∙ ap suc (marks-length first step n)

marks_next : (first step i : ℕ) → marks first step i ++ (mark_at first step i ∷ []) ≡ marks first step (i + 1)
unfolding marks
marks_next first step i = rw (add-one i)

pub no_marks : (first step : ℕ) (bits : List ℕ) → bits ≡ overwrite (marks first step 0) bits
unfolding marks
no_marks first step bits = overwrite_none bits

pub marks_more : (first step : ℕ) (bits₀ bits : List ℕ) (i r : ℕ) → r ≡ mark_at first step i → bits ≡ overwrite (marks first step i) bits₀
    → set bits i r ≡ overwrite (marks first step (i + 1)) bits₀
marks_more first step bits₀ bits i r e b =
    ap (λ (w : List ℕ). set w i r) b ∙ overwrite_more (marks first step i) bits₀ r i (marks-length first step i)
    ∙ ap (λ (x : ℕ). overwrite (marks first step i ++ (x ∷ [])) bits₀) e ∙ ap (λ (l : List ℕ). overwrite l bits₀) (marks_next first step i)

pub marks-all : (first step : ℕ) (bits₀ bits : List ℕ) (i : ℕ) → bits ≡ overwrite (marks first step i) bits₀ → i ≡ length bits₀
    → bits ≡ marks first step (length bits₀)
marks-all first step bits₀ bits i b l =
    b ∙ overwrite_whole (marks first step i) bits₀ (marks-length first step i ∙ l) ∙ ap (marks first step) l

pub no_pieces : (out : List ℕ) (at : ℕ) (form : List ℕ) → (at ≡ pieces_behind (length out) at form 0) × (out ≡ pieces_put out at form 0)
unfolding pieces_behind pieces_put
no_pieces out at form = (refl, refl)

-- the line of the next piece, put behind those before
module _ (out₀ : List ℕ) (at : ℕ) (form : List ℕ) (i : ℕ) where
  next_behind : behind (length out₀) (pieces_behind (length out₀) at form i) (piece_line (piece_at form i)) ≡ pieces_behind (length out₀) at form (i + 1)
  unfolding pieces_behind
  next_behind = rw (add-one i)

  next_put : printed (pieces_put out₀ at form i) (pieces_behind (length out₀) at form i) (piece_line (piece_at form i)) ≡ pieces_put out₀ at form (i + 1)
  unfolding pieces_put
  next_put = rw (add-one i)

  pub one_piece_more : (out : List ℕ) (b : ℕ) (p : Piece) (line : Text) (out' : List ℕ) (b' : ℕ) → length out ≡ length out₀
      → b ≡ pieces_behind (length out₀) at form i → out ≡ pieces_put out₀ at form i
      → p ≡ piece_at form i → line ≡ four_line p.kind p.variable p.high p.low
      → b' ≡ behind (length out) b (shown line) → out' ≡ printed out b (shown line)
      → (b' ≡ pieces_behind (length out₀) at form (i + 1)) × (out' ≡ pieces_put out₀ at form (i + 1))
  unfolding piece_line
  one_piece_more out b p line out' b' le be oe pe line_is b_is out-is =
      let text : shown line ≡ piece_line (piece_at form i) =
      ap shown line_is ∙ ap (λ (q : Piece). shown (four_line q.kind q.variable q.high q.low)) pe in (
        b_is ∙ ap (λ (r : ℕ). behind r b (shown line)) le ∙ ap (λ (x : ℕ). behind (length out₀) x (shown line)) be
            ∙ ap (λ (l : List ℕ). behind (length out₀) (pieces_behind (length out₀) at form i) l) text ∙ next_behind,
        out-is ∙ ap (λ (o : List ℕ). printed o b (shown line)) oe ∙ ap (λ (x : ℕ). printed (pieces_put out₀ at form i) x (shown line)) be
            ∙ ap (λ (l : List ℕ). printed (pieces_put out₀ at form i) (pieces_behind (length out₀) at form i) l) text ∙ next_put,
      )
