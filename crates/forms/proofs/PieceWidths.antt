-- The widths of a form's pieces: each is at least 1, and they add up to the number of bits that were grouped.
use mathlib.Core.Path.{◌≡◌, refl, ◌∙◌, ap}
use mathlib.Core.Bool.{Bool, true, false}
use mathlib.Core.List.{List, [], ◌∷◌, ◌++◌}
use Prim.Native.Nat.{ℕ, suc, ◌+◌, ◌-◌, ◌≤◌}
use native.Mathlib.Omega.{arith}
use lib.Dec.{ltb}
use lib.ListN.{length}
use Rattle.laws.proofs.Bools.{not_both}
use Rattle.forms.specs.declared.Piece.{Piece}
use Rattle.forms.specs.Form.{meets, merged, add, add_all, group, piece_width, form_width}
use Rattle.forms.proofs.Grouping.{Meeting, meeting}
use Rattle.forms.specs.Proper.{Proper, AllProper, none, some}

pub proper_width : (p : Piece) → Proper p → 1 ≤ piece_width p
unfolding piece_width
proper_width p h = omega (arith, h.in_order)

merged_proper : (p q : Piece) → meets p q ≡ true → Proper p → Proper q → Proper (merged p q)
unfolding merged
merged_proper p q h kp kq = go (ltb p.kind 2) refl
  where
    m : Meeting p q
    m = meeting p q h

    go : (b : Bool) → ltb p.kind 2 ≡ b → Proper (merged p q)
    go true f =
        let low : q.low ≡ 0 = kq.fill_low (rw m.same_kind at f) in
        record { fill_low = λ e. low; in_order = omega arith }
    go false f =
        record { fill_low = λ e. absurd (not_both e f); in_order = rw f (omega (arith, kp.in_order, kq.in_order, (m.beside f).1)) }

merged_width : (p q : Piece) → meets p q ≡ true → Proper p → Proper q → piece_width (merged p q) ≡ piece_width p + piece_width q
unfolding piece_width merged
merged_width p q h kp kq = go (ltb p.kind 2) refl
  where
    m : Meeting p q
    m = meeting p q h

    go : (b : Bool) → ltb p.kind 2 ≡ b → piece_width (merged p q) ≡ piece_width p + piece_width q
    go true f = rw f (omega (arith, kp.fill_low f, kq.fill_low (rw m.same_kind at f)))
    go false f = rw f (omega (arith, kp.in_order, kq.in_order, (m.beside f).1))

add_proper : (p : Piece) (form : List Piece) → Proper p → AllProper form → AllProper (add p form)
unfolding add
add_proper p form kp none = some kp none
add_proper p form kp (some {p = q} {form = rest} kq ks) = go (meets p q) refl
  where
    go : (b : Bool) → meets p q ≡ b → AllProper (add p (q ∷ rest))
    go true e = rw e (some (merged_proper p q e kp kq) ks)
    go false e = rw e (some kp (some kq ks))

add_width : (p : Piece) (form : List Piece) → Proper p → AllProper form → form_width (add p form) ≡ piece_width p + form_width form
unfolding add form_width
add_width p form kp none = refl
add_width p form kp (some {p = q} {form = rest} kq ks) = go (meets p q) refl
  where
    go : (b : Bool) → meets p q ≡ b → form_width (add p (q ∷ rest)) ≡ piece_width p + form_width (q ∷ rest)
    go true e = rw e (omega (arith, merged_width p q e kp kq))
    go false e = rw e

pub group_proper : (ps : List Piece) → AllProper ps → AllProper (group ps)
unfolding group add_all
group_proper ps none = none
group_proper ps (some {p = p} {form = rest} k ks) = add_proper p (group rest) k (group_proper rest ks)

-- the widths add up
pub group_width : (ps : List Piece) → AllProper ps → form_width (group ps) ≡ form_width ps
unfolding group add_all form_width
group_width ps none = refl
group_width ps (some {p = p} {form = rest} k ks) =
    add_width p (group rest) k (group_proper rest ks) ∙ ap (λ (n : ℕ). piece_width p + n) (group_width rest ks)

add-count : (p : Piece) (form : List Piece) → length (add p form) ≤ suc (length form)
unfolding add
add-count p [] = omega arith
add-count p (q ∷ form) = go (meets p q) refl
  where
    go : (b : Bool) → meets p q ≡ b → length (add p (q ∷ form)) ≤ suc (length (q ∷ form))
    go true e = rw e (omega arith)
    go false e = rw e (omega arith)

-- no more pieces than were grouped
pub group-count : (ps : List Piece) → length (group ps) ≤ length ps
unfolding group add_all
group-count [] = omega arith
group-count (p ∷ ps) = omega (arith, add-count p (group ps), group-count ps)

pub width_append : (f g : List Piece) → form_width (f ++ g) ≡ form_width f + form_width g
unfolding form_width
width_append [] g = omega arith
width_append (p ∷ f) g = omega (arith, width_append f g)

-- a piece that is no wider than a form of proper pieces: the last one
pub last_width : (front : List Piece) (l : Piece) → piece_width l ≤ form_width (front ++ (l ∷ []))
unfolding form_width
last_width front l = omega (arith, width_append front (l ∷ []))

pub last_proper : (front : List Piece) (l : Piece) → AllProper (front ++ (l ∷ [])) → Proper l
last_proper [] l (some k ks) = k
last_proper (x ∷ front) l (some k ks) = last_proper front l ks
