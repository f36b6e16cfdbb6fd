-- The sources that a normal form spells out are those that it was made of: a piece of one bit has its source, and merging keeps
-- sources.
use mathlib.Core.Path.{◌≡◌, refl, sym, ◌∙◌, ap, ap₂}
use mathlib.Core.Bool.{Bool, true, false, cond}
use mathlib.Core.List.{List, [], ◌∷◌, ◌++◌, map, append_assoc}
use mathlib.Core.Logic.{◌⊎◌, inl, inr}
use Prim.Native.Nat.{ℕ, zero, suc, ◌+◌, ◌-◌, ◌<◌, ◌≤◌}
use native.Mathlib.Omega.{arith}
use lib.Dec.{eqb, ltb}
use lib.ListN.{length, get_or, replicate, replicate-append-replicate, get_or-append}
use lib.Seq.{get_or-append-add}
use borrow.Author.Tests.{eqb-true, eqb-false}
use Rattle.terms.specs.declared.Row.{Row}
use Rattle.terms.specs.Table.{bits_of, count_kind}
use Rattle.laws.specs.Lists.{count_up}
use Rattle.terms.specs.inner.Places.{first_place, low_source}
use Rattle.terms.proofs.RowKinds.{bits_variable, bits_other}
use Rattle.terms.proofs.Places.{count_variable, count_other, place_variable, place_one, place_other}
use Rattle.laws.proofs.Bools.{not_both}
use Rattle.laws.proofs.Numbers.{lt_or_le}
use Rattle.forms.specs.declared.Piece.{Piece}
use Rattle.forms.specs.Form.{fill, part, bits_up, place_pieces, piece_of, meets, merged, add, add_all, group, form_from}
use Rattle.forms.proofs.Grouping.{Meeting, meeting}
use Rattle.forms.proofs.Places.{bits_count, bits_at, pieces_variable, pieces_other}

-- the sources of a piece, where ls are the variables' low sources
unfoldable pub named : List ℕ → Piece → List ℕ
named ls p =
    cond (ltb p.kind 2) (replicate (p.high + 1) p.kind) (count_up (get_or ls p.variable 0 - p.high) (p.high + 1 - p.low))

unfoldable pub named_all : List ℕ → List Piece → List ℕ
named_all ls [] = []
named_all ls (p ∷ form) = named ls p ++ named_all ls form

-- a piece that is a fill or lies within a variable, whose sources are 2 at least; no low source is above n
pub record Lies (n : ℕ) (ls : List ℕ) (p : Piece) : Type 0 where
  pub in_order : p.low ≤ p.high
  pub inside : ltb p.kind 2 ≡ false → p.high + 2 ≤ get_or ls p.variable 0
  pub small : ltb p.kind 2 ≡ false → get_or ls p.variable 0 ≤ n

pub data AllLie (n : ℕ) (ls : List ℕ) : List Piece → Type 0 where
  none : AllLie n ls []
  some : {p : Piece} {form : List Piece} → Lies n ls p → AllLie n ls form → AllLie n ls (p ∷ form)

up_append : (k m n : ℕ) → count_up k m ++ count_up (k + m) n ≡ count_up k (m + n)
unfolding count_up
up_append k zero n =
    let e : k + 0 ≡ k = omega arith in
    let f : n ≡ 0 + n = omega arith in
    ap₂ count_up e f
up_append k (suc m) n =
    let e : k + suc m ≡ suc k + m = omega arith in
    let f : suc (m + n) ≡ suc m + n = omega arith in
    ap (λ (j : ℕ). k ∷ (count_up (suc k) m ++ count_up j n)) e ∙ ap (λ (l : List ℕ). k ∷ l) (up_append (suc k) m n) ∙ ap (count_up k) f

module _ (n : ℕ) (ls : List ℕ) where
  merged_lies : (p q : Piece) → meets p q ≡ true → Lies n ls p → Lies n ls q → Lies n ls (merged p q)
  unfolding merged
  merged_lies p q h kp kq = go (ltb p.kind 2) refl
    where
      m : Meeting p q
      m = meeting p q h

      go : (b : Bool) → ltb p.kind 2 ≡ b → Lies n ls (merged p q)
      go true f =
          record {
            in_order = rw f (omega (arith, kq.in_order));
            inside = λ e. absurd (not_both f e);
            small = λ e. absurd (not_both f e);
          }
      go false f =
          record {
            in_order = rw f (omega (arith, kp.in_order, kq.in_order, (m.beside f).1));
            inside = λ e. rw f (kp.inside f);
            small = λ e. kp.small f;
          }

  merged_named : (p q : Piece) → meets p q ≡ true → Lies n ls p → Lies n ls q → named ls (merged p q) ≡ named ls p ++ named ls q
  unfolding named merged
  merged_named p q h kp kq = go (ltb p.kind 2) refl
    where
      m : Meeting p q
      m = meeting p q h

      go : (b : Bool) → ltb p.kind 2 ≡ b → named ls (merged p q) ≡ named ls p ++ named ls q
      go true f =
          let g : ltb q.kind 2 ≡ true = rw m.same_kind at f in
          let e : p.high + 1 + (q.high + 1) ≡ p.high + q.high + 1 + 1 = omega arith in
          rw (f, g, ← m.same_kind, replicate-append-replicate, e)
      go false f =
          let g : ltb q.kind 2 ≡ false = rw m.same_kind at f in
          let low = get_or ls p.variable 0 in
          let k : low - p.high + (p.high + 1 - p.low) ≡ low - q.high = omega (arith, kp.inside f, kp.in_order, (m.beside f).1) in
          let w : p.high + 1 - p.low + (q.high + 1 - q.low) ≡ p.high + 1 - q.low = omega (arith, kp.in_order, kq.in_order, (m.beside f).1) in
          let joined : count_up (low - p.high) (p.high + 1 - p.low) ++ count_up (low - q.high) (q.high + 1 - q.low) ≡ count_up (low - p.high) (p.high + 1 - q.low) =
          ap (λ (j : ℕ). count_up (low - p.high) (p.high + 1 - p.low) ++ count_up j (q.high + 1 - q.low)) (sym k)
          ∙ up_append (low - p.high) (p.high + 1 - p.low) (q.high + 1 - q.low) ∙ ap (count_up (low - p.high)) w in
          rw (f, g, ← (m.beside f).0) (sym joined)

  add_lies : (p : Piece) (form : List Piece) → Lies n ls p → AllLie n ls form → AllLie n ls (add p form)
  unfolding add
  add_lies p form kp none = some kp none
  add_lies p form kp (some {p = q} {form = rest} kq ks) = go (meets p q) refl
    where
      go : (b : Bool) → meets p q ≡ b → AllLie n ls (add p (q ∷ rest))
      go true e = rw e (some (merged_lies p q e kp kq) ks)
      go false e = rw e (some kp (some kq ks))

  add_named : (p : Piece) (form : List Piece) → Lies n ls p → AllLie n ls form → named_all ls (add p form) ≡ named ls p ++ named_all ls form
  unfolding add named_all
  add_named p form kp none = refl
  add_named p form kp (some {p = q} {form = rest} kq ks) = go (meets p q) refl
    where
      go : (b : Bool) → meets p q ≡ b → named_all ls (add p (q ∷ rest)) ≡ named ls p ++ named_all ls (q ∷ rest)
      go true e = rw (e, merged_named p q e kp kq) (append_assoc (named ls p) (named ls q) (named_all ls rest))
      go false e = rw e

  group_lies : (ps : List Piece) → AllLie n ls ps → AllLie n ls (group ps)
  unfolding group add_all
  group_lies ps none = none
  group_lies ps (some {p = p} {form = rest} k ks) = add_lies p (group rest) k (group_lies rest ks)

  -- grouping keeps the sources
  group_named : (ps : List Piece) → AllLie n ls ps → named_all ls (group ps) ≡ named_all ls ps
  unfolding group add_all named_all
  group_named ps none = refl
  group_named ps (some {p = p} {form = rest} k ks) =
      add_named p (group rest) k (group_lies rest ks) ∙ ap (λ (l : List ℕ). named ls p ++ l) (group_named rest ks)

-- place i of rows, with v variables before them: which bit of which variable it is, and where the next variable begins
record Place (t : List Row) (v i : ℕ) : Type 0 where
  which : ℕ
  bit : ℕ
  piece : get_or (place_pieces v t) i (fill 0 0) ≡ part (v + which) bit bit
  there : which < count_kind 0 t
  next : first_place t (suc which) ≡ i + bit + 1
  few : i + bit < bits_of t

place : (t : List Row) (v i : ℕ) → i < bits_of t → Place t v i
unfolding bits_of
place [] v i h = absurd (omega arith)
place (r ∷ t) v i h = go (eqb r.kind 0) refl (place t)
  where
    Later : Type 0
    Later = (v i : ℕ) → i < bits_of t → Place t v i

    among : r.kind ≡ 0 → Later → (i < r.a) ⊎ (r.a ≤ i) → Place (r ∷ t) v i
    among e later (inl l) =
        let b : ℕ = 0 + (r.a - 1 - i) in
        let z : v ≡ v + 0 = omega arith in
        record {
          which = 0;
          bit = b;
          piece =
              ap (λ (ps : List Piece). get_or ps i (fill 0 0)) (pieces_variable v r t e)
              ∙ get_or-append (bits_up v 0 r.a) (place_pieces (suc v) t) (fill 0 0) i (omega (arith, bits_count v 0 r.a))
              ∙ bits_at v 0 r.a i (fill 0 0) l ∙ ap (λ (u : ℕ). part u b b) z;
          there = omega (arith, count_variable r t e);
          next = place_one r t e ∙ omega arith;
          few = omega (arith, bits_variable r e);
        }
    among e later (inr l) =
        let p = later (suc v) (i - r.a) (omega (arith, bits_variable r e)) in
        let j : i ≡ length (bits_up v 0 r.a) + (i - r.a) = omega (arith, bits_count v 0 r.a) in
        let z : suc v + p.which ≡ v + suc p.which = omega arith in
        record {
          which = suc p.which;
          bit = p.bit;
          piece =
              ap₂ (λ (ps : List Piece) (n : ℕ). get_or ps n (fill 0 0)) (pieces_variable v r t e) j
              ∙ get_or-append-add (bits_up v 0 r.a) (place_pieces (suc v) t) (i - r.a) (fill 0 0)
              ∙ p.piece ∙ ap (λ (u : ℕ). part u p.bit p.bit) z;
          there = omega (arith, count_variable r t e, p.there);
          next = place_variable r t (suc p.which) e ∙ omega (arith, p.next);
          few = omega (arith, bits_variable r e, p.few);
        }

    go : (b : Bool) → eqb r.kind 0 ≡ b → Later → Place (r ∷ t) v i
    go true e later = among (eqb-true r.kind 0 e) later (lt_or_le i r.a)
    go false e later =
        let other = eqb-false r.kind 0 e in
        let p = later v i (omega (arith, bits_other r other)) in
        record {
          which = p.which;
          bit = p.bit;
          piece = ap (λ (ps : List Piece). get_or ps i (fill 0 0)) (pieces_other v r t other) ∙ p.piece;
          there = omega (arith, count_other r t other, p.there);
          next = place_other r t (suc p.which) other ∙ p.next;
          few = omega (arith, bits_other r other, p.few);
        }

-- a source's piece names the source
record Names (n : ℕ) (ls : List ℕ) (p : Piece) (s : ℕ) : Type 0 where
  sources : named ls p ≡ s ∷ []
  lies : Lies n ls p

fill_names : (n : ℕ) (ls : List ℕ) (b : ℕ) → b ≤ 1 → Names n ls (fill b 0) b
unfolding named
fill_names n ls zero h =
    record {
      sources = refl;
      lies = record { in_order = omega arith; inside = λ e. absurd (not_both refl e); small = λ e. absurd (not_both refl e) };
    }
fill_names n ls (suc zero) h =
    record {
      sources = refl;
      lies = record { in_order = omega arith; inside = λ e. absurd (not_both refl e); small = λ e. absurd (not_both refl e) };
    }
fill_names n ls (suc (suc b)) h = absurd (omega arith)

part_names : (n : ℕ) (ls : List ℕ) (v b i : ℕ) → get_or ls v 0 ≡ i + b + 2 → i + b + 2 ≤ n → Names n ls (part v b b) (suc (suc i))
unfolding named count_up
part_names n ls v b i l s =
    let w : b + 1 - b ≡ 1 = omega arith in
    let k : get_or ls v 0 - b ≡ suc (suc i) = omega arith in
    record {
      sources = rw (w, k);
      lies = record { in_order = omega arith; inside = λ e. omega arith; small = λ e. omega arith };
    }

-- every number of a list is below a bound
pub data AllBelow (n : ℕ) : List ℕ → Type 0 where
  none : AllBelow n []
  some : {x : ℕ} {xs : List ℕ} → x < n → AllBelow n xs → AllBelow n (x ∷ xs)

module _ (t : List Row) (ls : List ℕ) (lows : (v : ℕ) → v < count_kind 0 t → get_or ls v 0 ≡ low_source t v) where
  source_names : (s : ℕ) → s < bits_of t + 2 → Names (bits_of t + 1) ls (piece_of t s) s
  unfolding piece_of
  source_names zero h = fill_names (bits_of t + 1) ls 0 (omega arith)
  source_names (suc zero) h = fill_names (bits_of t + 1) ls 1 (omega arith)
  source_names (suc (suc i)) h =
      let p = place t 0 i (omega arith) in
      let z : 0 + p.which ≡ p.which = omega arith in
      rw (p.piece, z)
      (part_names (bits_of t + 1) ls p.which p.bit i (lows p.which p.there ∙ omega (arith, p.next)) (omega (arith, p.few)))

  sources_lie : (xs : List ℕ) → AllBelow (bits_of t + 2) xs → AllLie (bits_of t + 1) ls (map (piece_of t) xs)
  sources_lie xs none = none
  sources_lie xs (some {x = x} {xs = ys} l h) = some (source_names x l).lies (sources_lie ys h)

  sources_named : (xs : List ℕ) → AllBelow (bits_of t + 2) xs → named_all ls (map (piece_of t) xs) ≡ xs
  unfolding named_all
  sources_named xs none = refl
  sources_named xs (some {x = x} {xs = ys} l h) = ap₂ (λ (a b : List ℕ). a ++ b) (source_names x l).sources (sources_named ys h)

  -- the pieces of a form lie within variables, and name the sources that it was made of
  pub form_lies : (xs : List ℕ) → AllBelow (bits_of t + 2) xs → AllLie (bits_of t + 1) ls (form_from t xs)
  unfolding form_from
  form_lies xs h = group_lies (bits_of t + 1) ls (map (piece_of t) xs) (sources_lie xs h)

  pub form_named : (xs : List ℕ) → AllBelow (bits_of t + 2) xs → named_all ls (form_from t xs) ≡ xs
  unfolding form_from
  form_named xs h = group_named (bits_of t + 1) ls (map (piece_of t) xs) (sources_lie xs h) ∙ sources_named xs h
