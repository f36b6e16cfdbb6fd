-- The roots of links that point down are the only classes that they stand for.
use mathlib.Core.Path.{◌≡◌, refl, sym, ap, ◌∙◌, subst}
use mathlib.Core.Logic.{◌⊎◌, inl, inr, ◌≢◌}
use mathlib.Core.List.{List}
use Prim.Native.Nat.{ℕ, zero, suc, ◌≤◌, ◌<◌, min, max}
use native.Mathlib.Omega.{arith}
use lib.ListN.{length, get_or, set, length-map, get_or-eq_default}
use lib.Seq.{ext_get_or}
use Rattle.laws.specs.Lists.{count_up}
use Rattle.answers.specs.inner.Classes.{rep, merge}
use Rattle.laws.proofs.Numbers.{dec_eq}
use Rattle.laws.proofs.Lists.{map_read}
use Rattle.laws.proofs.CountUp.{count_at, count_past, count-up}
use Rattle.laws.proofs.Numbers.{lt_or_le}
use Rattle.classes.specs.inner.Links.{Low, climb, roots_of, RootFound, pair, linked, PairTaken}
use Rattle.classes.proofs.Links.{Canon, start, Stands, Found, Linked, set_low, link_alike, link_tie}

module _ (h : List ℕ) (low : Low h) where
  climb_stay : (n x : ℕ) → get_or h x 0 ≡ x → climb n h x ≡ x
  unfolding climb
  climb_stay zero x e = refl
  climb_stay (suc n) x e = ap (climb n h) e ∙ climb_stay n x e

  climb_low : (n x : ℕ) → climb n h x ≤ x
  unfolding climb
  climb_low zero x = omega arith
  climb_low (suc n) x = omega (arith, climb_low n (get_or h x 0), low x)

  -- after n steps from n or below nothing moves any more
  climb_top : (n x : ℕ) → x ≤ n → get_or h (climb n h x) 0 ≡ climb n h x
  unfolding climb
  climb_top zero x l =
      let z : x ≡ 0 = omega arith in
      omega (arith, low x)
  climb_top (suc n) x l = go (dec_eq (get_or h x 0) x) (λ (k : get_or h x 0 ≤ n). climb_top n (get_or h x 0) k)
    where
      go : (get_or h x 0 ≡ x) ⊎ (get_or h x 0 ≢ x) → (get_or h x 0 ≤ n → get_or h (climb n h (get_or h x 0)) 0 ≡ climb n h (get_or h x 0)) → get_or h (climb n h (get_or h x 0)) 0 ≡ climb n h (get_or h x 0)
      go (inl e) f =
          let s : climb n h (get_or h x 0) ≡ x = ap (climb n h) e ∙ climb_stay n x e in
          ap (λ (v : ℕ). get_or h v 0) s ∙ e ∙ sym s
      go (inr e) f = f (omega (arith, low x))

  -- what stands for c has its roots
  climb_class : (c : List ℕ) → Stands h c → (n x : ℕ) → rep c (climb n h x) ≡ rep c x
  unfolding climb
  climb_class c s zero x = refl
  climb_class c s (suc n) x = climb_class c s n (get_or h x 0) ∙ s.keep x

  climb_is : (c : List ℕ) → Stands h c → (n x : ℕ) → x ≤ n → climb n h x ≡ rep c x
  climb_is c s n x l = sym (s.top (climb n h x) (climb_top n x l)) ∙ climb_class c s n x

  root_at : (i : ℕ) → rep (roots_of h) i ≡ climb i h i
  unfolding roots_of climb
  root_at i = map_read (λ j. climb j h j) refl (count_up 0 (length h)) i ∙ go (lt_or_le i (length h))
    where
      go : (i < length h) ⊎ (length h ≤ i) → climb (rep (count_up 0 (length h)) i) h (rep (count_up 0 (length h)) i) ≡ climb i h i
      go (inl l) =
          let z : rep (count_up 0 (length h)) i ≡ i = omega (arith, count_at 0 (length h) i l) in
          ap (λ (j : ℕ). climb j h j) z
      go (inr l) = ap (λ (j : ℕ). climb j h j) (count_past 0 (length h) i l) ∙ sym (out i l)
        where
          out : (k : ℕ) → length h ≤ k → climb k h k ≡ 0
          out zero m = refl
          out (suc k) m = ap (climb k h) (get_or-eq_default h 0 {n = suc k} m) ∙ climb_stay k 0 (omega (arith, low 0))

  pub roots-length : length (roots_of h) ≡ length h
  unfolding roots_of
  roots-length = length-map (count_up 0 (length h)) _ ∙ count-up 0 (length h)

  -- one step more or less is the same
  climb_more : (n x : ℕ) → climb (suc n) h x ≡ get_or h (climb n h x) 0
  unfolding climb
  climb_more zero x = refl
  climb_more (suc n) x = climb_more n (get_or h x 0)

  climb_again : (n x : ℕ) → x ≤ n → climb (suc n) h x ≡ climb n h x
  climb_again n x l = climb_more n x ∙ climb_top n x l

  climb-any : (n x : ℕ) → x ≤ n → climb n h x ≡ climb x h x
  climb-any zero x l = ap (λ (k : ℕ). climb k h x) (omega arith)
  climb-any (suc n) x l = go (dec_eq x (suc n)) (λ (k : x ≤ n). climb_again n x k ∙ climb-any n x k)
    where
      go : (x ≡ suc n) ⊎ (x ≢ suc n) → (x ≤ n → climb (suc n) h x ≡ climb x h x) → climb (suc n) h x ≡ climb x h x
      go (inl e) f = ap (λ (k : ℕ). climb k h x) (sym e)
      go (inr e) f = f (omega arith)

  climb_more_front : (i : ℕ) → climb (suc i) h i ≡ climb i h (get_or h i 0)
  unfolding climb
  climb_more_front i = refl

  pub stands_roots : Stands h (roots_of h)
  stands_roots = record {
    canon = record {
      low = λ i. rw (root_at i) (climb_low i i);
      root = λ i. ap (rep (roots_of h)) (root_at i) ∙ root_at (climb i h i) ∙ climb_stay (climb i h i) (climb i h i) (climb_top i i (omega arith)) ∙ sym (root_at i);
    };
    len = sym roots-length;
    low = low;
    keep = λ i. root_at (get_or h i 0) ∙ sym (climb-any i (get_or h i 0) (low i)) ∙ sym (climb_more_front i) ∙ climb_again i i (omega arith) ∙ sym (root_at i);
    top = λ i e. root_at i ∙ climb_stay i i e;
  }

  pub roots_are : (c : List ℕ) → Stands h c → roots_of h ≡ c
  roots_are c s = ext_get_or 0 (roots_of h) c (roots-length ∙ s.len) (λ i l. root_at i ∙ climb_is c s i i (omega arith))

pub stands_of : (h c : List ℕ) → Low h → roots_of h ≡ c → Stands h c
stands_of h c k e = subst (Stands h) e (stands_roots h k)

pub found_is : (h h' : List ℕ) (s r : ℕ) → Low h → Found h h' s r → RootFound h h' s r
found_is h h' s r k f = record {
  low = f.low;
  small = f.small;
  root = f.root (roots_of h) (stands_roots h k);
  same = roots_are h' f.low (roots_of h) (f.same (roots_of h) (stands_roots h k));
}

pub found_rel : (h h' : List ℕ) (s r : ℕ) → RootFound h h' s r → Found h h' s r
found_rel h h' s r f = record {
  low = f.low;
  small = f.small;
  root = λ c w. f.root ∙ ap (λ (v : List ℕ). rep v s) (roots_are h w.low c w);
  same = λ c w. stands_of h' c f.low (f.same ∙ roots_are h w.low c w);
}

pub taken_is : (h h' : List ℕ) (s t r : ℕ) → Low h → Low h' → Linked h h' s t r → PairTaken h h' s t r
taken_is h h' s t r k l w = record {
  low = l;
  what = w.what (roots_of h) (stands_roots h k);
  next = λ n. roots_are h' l (merge (roots_of h) (pair s t)) (w.next (roots_of h) (stands_roots h k) n);
}

pub taken_rel : (h h' : List ℕ) (s t r : ℕ) → PairTaken h h' s t r → Linked h h' s t r
taken_rel h h' s t r f = record {
  what = λ c w. f.what ∙ ap (λ (v : List ℕ). linked (rep v s) (rep v t)) (roots_are h w.low c w);
  next = λ c w n. stands_of h' (merge c (pair s t)) f.low (f.next n ∙ ap (λ (v : List ℕ). merge v (pair s t)) (roots_are h w.low c w));
}

-- a pair of two that link to the same source
pub taken_alike : (h : List ℕ) (s t a b p q : ℕ) → a ≡ s → p ≡ get_or h a 0 → b ≡ t → q ≡ get_or h b 0 → p ≡ q → Low h → PairTaken h h s t 0
taken_alike h s t a b p q ea ep eb eq e k =
    taken_is h h s t 0 k k (link_alike h s t (ap (λ (i : ℕ). get_or h i 0) (sym ea) ∙ sym ep ∙ e ∙ eq ∙ ap (λ (i : ℕ). get_or h i 0) eb))

pub taken_tie : (h h1 h2 : List ℕ) (s t a b : ℕ) → Low h → Found h h1 s a → Found h1 h2 t b → length h1 ≡ length h → length h2 ≡ length h1 → a ≢ b → max a b ≢ 1
    → PairTaken h (set h2 (max a b) (min a b)) s t 1
taken_tie h h1 h2 s t a b k f g d e m n =
    taken_is h (set h2 (max a b) (min a b)) s t 1 k (set_low h2 (max a b) (min a b) g.low (omega (arith, f.small, g.small)) (omega arith))
    (link_tie h h1 h2 s t a b f g d e m n)

-- a list of classes is its own roots: so the closing sweep leaves it as it is, and links may begin with it
pub roots_settled : (c : List ℕ) → Canon c → roots_of c ≡ c
roots_settled c k = roots_are c k.low c (start c k)
