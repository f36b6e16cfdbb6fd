-- A form is maximally connected (document 001, section 3): no two neighbours meet. So a piece that is appended can only
-- meet the last one.
use mathlib.Core.Path.{◌≡◌, refl, ◌∙◌, ap}
use mathlib.Core.Bool.{Bool, true, false}
use mathlib.Core.List.{List, [], ◌∷◌, ◌++◌}
use Prim.Native.Nat.{◌+◌}
use Rattle.forms.specs.declared.Piece.{Piece}
use Rattle.forms.specs.Form.{meets, merged, add, add_all, group}
use Rattle.forms.proofs.Grouping.{meets_right, meets_left, group-append}
use Rattle.forms.specs.Proper.{Maximal, empty, one, more}

merged_front : (p q : Piece) (form : List Piece) → meets p q ≡ true → Maximal (q ∷ form) → Maximal (merged p q ∷ form)
merged_front p q form h one = one
merged_front p q form h (more {q = r} e m) = more (meets_right p q r h ∙ e) m

add_front : (p : Piece) (form : List Piece) → Maximal form → Maximal (add p form)
unfolding add
add_front p [] m = one
add_front p (q ∷ form) m = go (meets p q) refl
  where
    go : (b : Bool) → meets p q ≡ b → Maximal (add p (q ∷ form))
    go true e = rw e (merged_front p q form e m)
    go false e = rw e (more e m)

-- a grouped list is maximally connected
pub group_maximal : (ps : List Piece) → Maximal (group ps)
unfolding group add_all
group_maximal [] = empty
group_maximal (p ∷ ps) = add_front p (group ps) (group_maximal ps)

-- a piece behind a form, merged with the last one where they meet
unfoldable pub pushed : List Piece → Piece → List Piece
pushed [] q = q ∷ []
pushed (p ∷ []) q = add p (q ∷ [])
pushed (p ∷ r ∷ form) q = p ∷ pushed (r ∷ form) q

-- in front of a pushed form stands what stood there, or what it was merged to
apart_pushed : (p r : Piece) (form : List Piece) (q : Piece) → meets p r ≡ false → add p (pushed (r ∷ form) q) ≡ p ∷ pushed (r ∷ form) q
unfolding pushed add
apart_pushed p r [] q e = go (meets r q) refl
  where
    go : (b : Bool) → meets r q ≡ b → add p (add r (q ∷ [])) ≡ p ∷ add r (q ∷ [])
    go true f = rw (f, meets_left p r q f, e)
    go false f = rw (f, e)
apart_pushed p r (x ∷ form) q e = rw e

pub push-all : (form : List Piece) (q : Piece) → Maximal form → add_all form (q ∷ []) ≡ pushed form q
unfolding add_all pushed
push-all form q empty = refl
push-all form q one = refl
push-all form q (more {p = p} {q = r} {form = rest} e m) = ap (add p) (push-all (r ∷ rest) q m) ∙ apart_pushed p r rest q e

-- only the last piece is touched
pub pushed_last : (front : List Piece) (l q : Piece) → pushed (front ++ (l ∷ [])) q ≡ front ++ add l (q ∷ [])
unfolding pushed
pushed_last [] l q = refl
pushed_last (x ∷ []) l q = refl
pushed_last (x ∷ y ∷ front) l q = ap (λ (f : List Piece). x ∷ f) (pushed_last (y ∷ front) l q)

-- one more piece, grouped: it is pushed to the form
pub group_push : (ps qs : List Piece) (q : Piece) → group qs ≡ q ∷ [] → group (ps ++ qs) ≡ pushed (group ps) q
group_push ps qs q e = group-append ps qs ∙ ap (add_all (group ps)) e ∙ push-all (group ps) q (group_maximal ps)
