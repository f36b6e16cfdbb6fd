-- Grouping: merging neighbours is associative, so pieces may be grouped in parts, and a form is grouped already.
use mathlib.Core.Path.{◌≡◌, refl, sym, ◌∙◌, ap}
use mathlib.Core.Bool.{Bool, true, false, ◌&&◌, ◌||◌}
use mathlib.Core.List.{List, [], ◌∷◌, ◌++◌}
use Prim.Native.Nat.{◌+◌, ◌-◌}
use native.Mathlib.Omega.{arith}
use lib.Dec.{eqb, ltb}
use borrow.Author.Tests.{eqb-true}
use Rattle.forms.specs.declared.Piece.{Piece}
use Rattle.laws.proofs.Bools.{and_first, and_second}
use Rattle.forms.specs.Form.{meets, merged, add, add_all, group}

-- what it is to meet: one kind, and beside each other where it is a variable's
pub record Meeting (p q : Piece) : Type 0 where
  pub same_kind : p.kind ≡ q.kind
  pub beside : ltb p.kind 2 ≡ false → (p.variable ≡ q.variable) × (p.low ≡ q.high + 1)

pub meeting : (p q : Piece) → meets p q ≡ true → Meeting p q
unfolding meets
meeting p q h =
    let k = eqb p.kind q.kind in
    let v = eqb p.variable q.variable in
    let l = eqb p.low (q.high + 1) in
    let rest : ltb p.kind 2 || (v && l) ≡ true = and_second k (ltb p.kind 2 || (v && l)) h in
    record {
      same_kind = eqb-true p.kind q.kind (and_first k (ltb p.kind 2 || (v && l)) h);
      beside =
          λ f.
          let vl : v && l ≡ true = rw f at rest in
          (eqb-true p.variable q.variable (and_first v l vl), eqb-true p.low (q.high + 1) (and_second v l vl));
    }

-- what meets the right one meets the merged piece, and the other way round
pub meets_right : (p q r : Piece) → meets p q ≡ true → meets (merged p q) r ≡ meets q r
unfolding meets merged
meets_right p q r h = go (ltb p.kind 2) refl
  where
    m : Meeting p q
    m = meeting p q h

    go : (b : Bool) → ltb p.kind 2 ≡ b → meets (merged p q) r ≡ meets q r
    go true f = let g : ltb q.kind 2 ≡ true = rw m.same_kind at f in rw (m.same_kind, g)
    go false f = rw (m.same_kind, (m.beside f).0)

pub meets_left : (p q r : Piece) → meets q r ≡ true → meets p (merged q r) ≡ meets p q
unfolding meets merged
meets_left p q r h = go (eqb p.kind q.kind) refl (ltb q.kind 2) refl
  where
    go : (a : Bool) → eqb p.kind q.kind ≡ a → (b : Bool) → ltb q.kind 2 ≡ b → meets p (merged q r) ≡ meets p q
    go false e b f = rw e
    go true e true f =
        let k = eqb-true p.kind q.kind e in
        let g : ltb p.kind 2 ≡ true = rw (← k) at f in rw g
    go true e false f = rw f

pub merged-all : (p q r : Piece) → meets p q ≡ true → meets q r ≡ true → merged p (merged q r) ≡ merged (merged p q) r
unfolding merged
merged-all p q r h k = go (ltb p.kind 2) refl
  where
    m : Meeting p q
    m = meeting p q h

    go : (b : Bool) → ltb p.kind 2 ≡ b → merged p (merged q r) ≡ merged (merged p q) r
    go true f =
        let g : ltb q.kind 2 ≡ true = rw m.same_kind at f in
        let e : p.high + (q.high + r.high + 1) + 1 ≡ p.high + q.high + 1 + r.high + 1 = omega arith in
        rw (f, g, e)
    go false f = rw f

-- a piece in front, and what it meets
pub add_meets : (p q : Piece) (form : List Piece) → meets p q ≡ true → add p (q ∷ form) ≡ merged p q ∷ form
unfolding add
add_meets p q form h = rw h

pub add_apart : (p q : Piece) (form : List Piece) → meets p q ≡ false → add p (q ∷ form) ≡ p ∷ q ∷ form
unfolding add
add_apart p q form h = rw h

pub add-merged : (p q : Piece) (form : List Piece) → meets p q ≡ true → add p (add q form) ≡ add (merged p q) form
unfolding add
add-merged p q [] h = rw h
add-merged p q (r ∷ form) h = go (meets q r) refl
  where
    go : (b : Bool) → meets q r ≡ b → add p (add q (r ∷ form)) ≡ add (merged p q) (r ∷ form)
    go true e = rw (e, meets_left p q r e, h, meets_right p q r h, e) (ap (λ (x : Piece). x ∷ form) (merged-all p q r h e))
    go false e = rw (e, h, meets_right p q r h, e)

-- pieces in front of a form, in two steps
pub add_all-append : (ps qs form : List Piece) → add_all (ps ++ qs) form ≡ add_all ps (add_all qs form)
unfolding add_all
add_all-append [] qs form = refl
add_all-append (p ∷ ps) qs form = ap (add p) (add_all-append ps qs form)

add_all-add : (p : Piece) (f form : List Piece) → add_all (add p f) form ≡ add p (add_all f form)
unfolding add_all add
add_all-add p [] form = refl
add_all-add p (q ∷ f) form = go (meets p q) refl
  where
    go : (b : Bool) → meets p q ≡ b → add_all (add p (q ∷ f)) form ≡ add p (add_all (q ∷ f) form)
    go true e = rw e (sym (add-merged p q (add_all f form) e))
    go false e = rw e

add_all-group : (ps form : List Piece) → add_all (add_all ps []) form ≡ add_all ps form
unfolding add_all
add_all-group [] form = refl
add_all-group (p ∷ ps) form = add_all-add p (add_all ps []) form ∙ ap (add p) (add_all-group ps form)

-- grouping in parts: the form of pieces side by side is the merge of their forms
pub group-append : (ps qs : List Piece) → group (ps ++ qs) ≡ add_all (group ps) (group qs)
unfolding group
group-append ps qs = add_all-append ps qs [] ∙ sym (add_all-group ps (add_all qs []))

-- a form is grouped already
pub group_again : (ps : List Piece) → group (group ps) ≡ group ps
unfolding group
group_again ps = add_all-group ps []
