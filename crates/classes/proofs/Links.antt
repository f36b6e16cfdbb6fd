-- Links h stand for classes c. A halving changes nothing of c; a tie joins two of them; the sweep makes h the same as c.
use mathlib.Core.Path.{◌≡◌, refl, sym, ap, ◌∙◌}
use mathlib.Core.Logic.{◌⊎◌, inl, inr, ◌≢◌}
use mathlib.Core.List.{List}
use Prim.Native.Nat.{ℕ, ◌+◌, ◌≤◌, ◌<◌, min, max}
use native.Mathlib.Omega.{arith}
use lib.ListN.{length, get_or, set, length-set, length-map}
use lib.Seq.{get_or-set_other, ext_get_or}
use borrow.Author.Tests.{eq-eqb, ne_eqb}
use Rattle.answers.specs.Pairs.{Pair}
use Rattle.answers.specs.inner.Classes.{rep, relabel, merge}
use Rattle.laws.proofs.Numbers.{dec_eq}
use Rattle.answers.proofs.Relabelling.{relabel_miss, hi, lo, next, next_low, next_root, next_lo, next_hi}
use Rattle.laws.proofs.Lists.{map_read, set_cases}
use Rattle.answers.proofs.Agreement.{relabel_zero}
use Rattle.answers.proofs.Exact.{relabel_same}
use Rattle.laws.proofs.Lists.{map_same}
use Rattle.classes.specs.inner.Links.{Low, pair, linked}

-- a class list: each entry is the lowest source of its class
pub record Canon (c : List ℕ) : Type 0 where
  pub low : (i : ℕ) → rep c i ≤ i
  pub root : (i : ℕ) → rep c (rep c i) ≡ rep c i

-- a link stays in its class, and who links to itself is the lowest of its class
pub record Stands (h c : List ℕ) : Type 0 where
  pub canon : Canon c
  pub len : length h ≡ length c
  pub low : (i : ℕ) → get_or h i 0 ≤ i
  pub keep : (i : ℕ) → rep c (get_or h i 0) ≡ rep c i
  pub top : (i : ℕ) → get_or h i 0 ≡ i → rep c i ≡ i

-- what a find gives: the root of s, and links for the same classes
pub record Found (h h' : List ℕ) (s r : ℕ) : Type 0 where
  pub low : Low h'
  pub small : r < length h
  pub root : (c : List ℕ) → Stands h c → r ≡ rep c s
  pub same : (c : List ℕ) → Stands h c → Stands h' c

pub record Linked (h h' : List ℕ) (s t r : ℕ) : Type 0 where
  pub what : (c : List ℕ) → Stands h c → r ≡ linked (rep c s) (rep c t)
  pub next : (c : List ℕ) → Stands h c → r ≢ 2 → Stands h' (merge c (pair s t))

pub start : (c : List ℕ) → Canon c → Stands c c
start c k = record { canon = k; len = refl; low = k.low; keep = k.root; top = λ i e. e }

pub set_low : (h : List ℕ) (x v : ℕ) → Low h → x < length h → v ≤ x → Low (set h x v)
set_low h x v k l a i = go (set_cases h x v i l)
  where
    go : ((i ≡ x) × (get_or (set h x v) i 0 ≡ v)) ⊎ ((i ≢ x) × (get_or (set h x v) i 0 ≡ get_or h i 0)) → get_or (set h x v) i 0 ≤ i
    go (inl e) = omega arith
    go (inr e) = omega (arith, k i)

-- a link of x to a lower one of its class
module _ (h c : List ℕ) (s : Stands h c) (x v : ℕ) (l : x < length h) (a : v ≤ x) (e : rep c v ≡ rep c x) (t : v ≡ x → rep c x ≡ x) where
  pub relink : Stands (set h x v) c
  relink = record {
    canon = s.canon;
    len = length-set h x v ∙ s.len;
    low = set_low h x v s.low l a;
    keep = λ i. keep_at i (set_cases h x v i l);
    top = λ i f. top_at i f (set_cases h x v i l);
  }
    where
      keep_at : (i : ℕ) → ((i ≡ x) × (get_or (set h x v) i 0 ≡ v)) ⊎ ((i ≢ x) × (get_or (set h x v) i 0 ≡ get_or h i 0)) → rep c (get_or (set h x v) i 0) ≡ rep c i
      keep_at i (inl f) = cc
      keep_at i (inr f) = cc (s.keep i)

      top_at : (i : ℕ) → get_or (set h x v) i 0 ≡ i → ((i ≡ x) × (get_or (set h x v) i 0 ≡ v)) ⊎ ((i ≢ x) × (get_or (set h x v) i 0 ≡ get_or h i 0)) → rep c i ≡ i
      top_at i g (inl f) = rw f.0 (t (omega arith))
      top_at i g (inr f) = s.top i (sym f.1 ∙ g)

pub halve : (h c : List ℕ) → Stands h c → (x : ℕ) → x < length h → Stands (set h x (get_or h (get_or h x 0) 0)) c
halve h c s x l =
    relink h c s x (get_or h (get_or h x 0) 0) l (omega (arith, s.low (get_or h x 0), s.low x)) (s.keep (get_or h x 0) ∙ s.keep x)
    (λ e. s.top x (omega (arith, s.low (get_or h x 0), s.low x, e)))

-- a merge, entry by entry
module _ (c : List ℕ) (k : Canon c) (q : Pair) where
  pub merge_at : (i : ℕ) → rep (merge c q) i ≡ next (rep c) k.low k.root q.left q.right i
  unfolding merge next hi lo
  merge_at i = map_read _ (relabel_zero (rep c q.left) (rep c q.right)) c i

  pub merge_len : length (merge c q) ≡ length c
  unfolding merge
  merge_len = length-map c _

  pub canon_merge : Canon (merge c q)
  canon_merge = record {
    low = λ i. rw (merge_at i) (next_low (rep c) k.low k.root q.left q.right i);
    root = λ i. simp merge_at (next_root (rep c) k.low k.root q.left q.right i);
  }

  -- the entry, by the classes' numbers
  pub merge_is : (i : ℕ) → rep (merge c q) i ≡ relabel (max (rep c q.left) (rep c q.right)) (min (rep c q.left) (rep c q.right)) (rep c i)
  unfolding merge
  merge_is i = map_read _ (relabel_zero (rep c q.left) (rep c q.right)) c i

  pub merge_hi : rep (merge c q) (max (rep c q.left) (rep c q.right)) ≡ min (rep c q.left) (rep c q.right)
  unfolding hi lo
  merge_hi = merge_at (max (rep c q.left) (rep c q.right)) ∙ next_hi (rep c) k.low k.root q.left q.right

  pub merge_lo : rep (merge c q) (min (rep c q.left) (rep c q.right)) ≡ min (rep c q.left) (rep c q.right)
  unfolding hi lo
  merge_lo = merge_at (min (rep c q.left) (rep c q.right)) ∙ next_lo (rep c) k.low k.root q.left q.right

-- nothing new
pub merge_same : (c : List ℕ) (q : Pair) → rep c q.left ≡ rep c q.right → merge c q ≡ c
unfolding merge
merge_same c q e =
    let m : max (rep c q.left) (rep c q.right) ≡ min (rep c q.left) (rep c q.right) = omega arith in
    rw m (map_same (relabel (min (rep c q.left) (rep c q.right)) (min (rep c q.left) (rep c q.right))) (relabel_same (min (rep c q.left) (rep c q.right))) c)

-- a tie: the higher root is linked to the lower
module _ (h c : List ℕ) (s : Stands h c) (q : Pair) (d : rep c q.left ≢ rep c q.right) where
  abbrev top_of : ℕ
  top_of = max (rep c q.left) (rep c q.right)

  abbrev low_of : ℕ
  low_of = min (rep c q.left) (rep c q.right)

  pub join : max (rep c q.left) (rep c q.right) < length h → Stands (set h (max (rep c q.left) (rep c q.right)) (min (rep c q.left) (rep c q.right))) (merge c q)
  join l = record {
    canon = canon_merge c s.canon q;
    len = length-set h top_of low_of ∙ s.len ∙ sym (merge_len c s.canon q);
    low = set_low h top_of low_of s.low l (omega arith);
    keep = λ i. keep_at i (set_cases h top_of low_of i l);
    top = λ i f. top_at i f (set_cases h top_of low_of i l);
  }
    where
      keep_at : (i : ℕ) → ((i ≡ top_of) × (get_or (set h top_of low_of) i 0 ≡ low_of)) ⊎ ((i ≢ top_of) × (get_or (set h top_of low_of) i 0 ≡ get_or h i 0)) → rep (merge c q) (get_or (set h top_of low_of) i 0) ≡ rep (merge c q) i
      keep_at i (inl f) = cc (merge_hi c s.canon q, merge_lo c s.canon q)
      keep_at i (inr f) = cc (s.keep i, merge_is c s.canon q i, merge_is c s.canon q (get_or h i 0))

      top_at : (i : ℕ) → get_or (set h top_of low_of) i 0 ≡ i → ((i ≡ top_of) × (get_or (set h top_of low_of) i 0 ≡ low_of)) ⊎ ((i ≢ top_of) × (get_or (set h top_of low_of) i 0 ≡ get_or h i 0)) → rep (merge c q) i ≡ i
      top_at i g (inl f) = absurd (d (omega arith))
      top_at i g (inr f) =
          let t : rep c i ≡ i = s.top i (sym f.1 ∙ g) in
          merge_is c s.canon q i ∙ relabel_miss top_of low_of (rep c i) (λ (w : rep c i ≡ top_of). f.0 (sym t ∙ w)) ∙ t

-- what `linked` says

pub linked_same : (a b : ℕ) → a ≡ b → linked a b ≡ 0
unfolding linked
linked_same a b e = rw (eq-eqb a b e)

pub linked_conflict : (a b : ℕ) → a ≢ b → max a b ≡ 1 → linked a b ≡ 2
unfolding linked
linked_conflict a b d e = rw (ne_eqb a b d, eq-eqb (max a b) 1 e)

pub linked_tie : (a b : ℕ) → a ≢ b → max a b ≢ 1 → linked a b ≡ 1
unfolding linked
linked_tie a b d e = rw (ne_eqb a b d, ne_eqb (max a b) 1 e)

-- the sweep: below i each entry is its root, from i on nothing has changed
pub record Swept (h₀ h : List ℕ) (i : ℕ) : Type 0 where
  pub done : (c : List ℕ) → Stands h₀ c → (j : ℕ) → j < i → get_or h j 0 ≡ rep c j
  pub rest : (j : ℕ) → i ≤ j → get_or h j 0 ≡ get_or h₀ j 0

pub swept_none : (h : List ℕ) → Swept h h 0
swept_none h = record { done = λ c s j l. absurd (omega arith); rest = λ j l. refl }

pub swept_more : (h₀ h : List ℕ) (i : ℕ) → i < length h → Low h₀ → Swept h₀ h i → Swept h₀ (set h i (get_or h (get_or h i 0) 0)) (i + 1)
swept_more h₀ h i l k w = record {
  done = λ c s j m. done_at c s j m (set_cases h i (get_or h (get_or h i 0) 0) j l);
  rest = λ j m. get_or-set_other h i j (get_or h (get_or h i 0) 0) 0 (omega arith) ∙ w.rest j (omega arith);
}
  where
    root_at : (c : List ℕ) → Stands h₀ c → (get_or h i 0 ≡ i) ⊎ (get_or h i 0 ≢ i) → get_or h (get_or h i 0) 0 ≡ rep c i
    root_at c s (inl e) = ap (λ (n : ℕ). get_or h n 0) e ∙ e ∙ sym (s.top i (sym (w.rest i (omega arith)) ∙ e))
    root_at c s (inr e) = w.done c s (get_or h i 0) (omega (arith, w.rest i (omega arith), k i)) ∙ ap (rep c) (w.rest i (omega arith)) ∙ s.keep i

    done_at : (c : List ℕ) → Stands h₀ c → (j : ℕ) → j < i + 1 → ((j ≡ i) × (get_or (set h i (get_or h (get_or h i 0) 0)) j 0 ≡ get_or h (get_or h i 0) 0)) ⊎ ((j ≢ i) × (get_or (set h i (get_or h (get_or h i 0) 0)) j 0 ≡ get_or h j 0)) → get_or (set h i (get_or h (get_or h i 0) 0)) j 0 ≡ rep c j
    done_at c s j m (inl e) = e.1 ∙ root_at c s (dec_eq (get_or h i 0) i) ∙ ap (rep c) (sym e.0)
    done_at c s j m (inr e) = e.1 ∙ w.done c s j (omega arith)

pub swept_all : (h₀ h : List ℕ) (i : ℕ) → length h ≡ length h₀ → length h ≤ i → Swept h₀ h i → (c : List ℕ) → Stands h₀ c → h ≡ c
swept_all h₀ h i e l w c s = ext_get_or 0 h c (e ∙ s.len) (λ j m. w.done c s j (omega arith))

-- a find on its way: at x, whose link is p
pub record Finding (h₀ h : List ℕ) (s x p : ℕ) : Type 0 where
  pub len : length h ≡ length h₀
  pub low : Low h
  pub small : x < length h
  pub link : p ≡ get_or h x 0
  pub near : p ≤ x
  pub root : (c : List ℕ) → Stands h₀ c → rep c x ≡ rep c s
  pub same : (c : List ℕ) → Stands h₀ c → Stands h c

pub finding_first : (h : List ℕ) (s p : ℕ) → Low h → s < length h → p ≡ get_or h s 0 → Finding h h s s p
finding_first h s p k l e = record { len = refl; low = k; small = l; link = e; near = omega (arith, k s); root = λ c w. refl; same = λ c w. w }

pub finding_more : (h₀ h : List ℕ) (s x p g : ℕ) → Finding h₀ h s x p → g ≡ get_or h p 0 → Finding h₀ (set h x g) s g (get_or (set h x g) g 0)
finding_more h₀ h s x p g f e =
    let a : g ≤ x = omega (arith, f.low p, f.link, f.low x) in
    let b : g ≡ get_or h (get_or h x 0) 0 = e ∙ ap (λ (n : ℕ). get_or h n 0) f.link in
    record {
      len = length-set h x g ∙ f.len;
      low = set_low h x g f.low f.small a;
      small = simp length-set (omega (arith, f.small));
      link = refl;
      near = set_low h x g f.low f.small a g;
      root = λ c w. ap (rep c) b ∙ (f.same c w).keep (get_or h x 0) ∙ (f.same c w).keep x ∙ f.root c w;
      same = λ c w. rw b (halve h c (f.same c w) x f.small);
    }

pub finding_done : (h₀ h : List ℕ) (s x p : ℕ) → Finding h₀ h s x p → p ≡ x → Found h₀ h s x
finding_done h₀ h s x p f e = record {
  low = f.low;
  small = omega (arith, f.small, f.len);
  root = λ c w. sym ((f.same c w).top x (sym f.link ∙ e)) ∙ f.root c w;
  same = f.same;
}

-- a find ends where the link of x is a root
pub finding_near : (h₀ h : List ℕ) (s x p : ℕ) → Finding h₀ h s x p → get_or h p 0 ≡ p → Found h₀ h s p
finding_near h₀ h s x p f e = record {
  low = f.low;
  small = omega (arith, f.near, f.small, f.len);
  root = λ c w. sym ((f.same c w).top p e) ∙ ap (rep c) f.link ∙ (f.same c w).keep x ∙ f.root c w;
  same = f.same;
}

-- two that link to the same source are of one class
pub link_alike : (h : List ℕ) (s t : ℕ) → get_or h s 0 ≡ get_or h t 0 → Linked h h s t 0
link_alike h s t e = record {
  what = λ c w. sym (linked_same (rep c s) (rep c t) (at c w));
  next = λ c w n. rw (merge_same c (pair s t) (at c w)) w;
}
  where
    at : (c : List ℕ) → Stands h c → rep c s ≡ rep c t
    at c w = sym (w.keep s) ∙ ap (rep c) e ∙ w.keep t

-- a pair taken, after its two finds
module _ (h h1 h2 : List ℕ) (s t a b : ℕ) (f : Found h h1 s a) (g : Found h1 h2 t b) where
  pub link_same : a ≡ b → Linked h h2 s t 0
  link_same e = record {
    what = λ c w. sym (linked_same (rep c s) (rep c t) (at c w));
    next = λ c w n. rw (merge_same c (pair s t) (at c w)) (g.same c (f.same c w));
  }
    where
      at : (c : List ℕ) → Stands h c → rep c s ≡ rep c t
      at c w = sym (f.root c w) ∙ e ∙ g.root c (f.same c w)

  pub link_conflict : a ≢ b → max a b ≡ 1 → Linked h h2 s t 2
  link_conflict d e = record {
    what = λ c w. sym (linked_conflict (rep c s) (rep c t) (omega (arith, f.root c w, g.root c (f.same c w))) (omega (arith, f.root c w, g.root c (f.same c w))));
    next = λ c w n. absurd (n refl);
  }

  pub link_tie : length h1 ≡ length h → length h2 ≡ length h1 → a ≢ b → max a b ≢ 1 → Linked h (set h2 (max a b) (min a b)) s t 1
  link_tie k l d e = record {
    what = λ c w. sym (linked_tie (rep c s) (rep c t) (omega (arith, f.root c w, g.root c (f.same c w))) (omega (arith, f.root c w, g.root c (f.same c w))));
    next = λ c w n.
        rw (f.root c w, g.root c (f.same c w))
        (join h2 c (g.same c (f.same c w)) (pair s t) (omega (arith, f.root c w, g.root c (f.same c w)))
        (omega (arith, f.root c w, g.root c (f.same c w), f.small, g.small)));
  }

pub linked-cases : (a b : ℕ) → ((a ≡ b) × (linked a b ≡ 0)) ⊎ (((a ≢ b) × (max a b ≡ 1) × (linked a b ≡ 2)) ⊎ ((a ≢ b) × (max a b ≢ 1) × (linked a b ≡ 1)))
linked-cases a b = go (dec_eq a b) (dec_eq (max a b) 1)
  where
    go : (a ≡ b) ⊎ (a ≢ b) → (max a b ≡ 1) ⊎ (max a b ≢ 1) → ((a ≡ b) × (linked a b ≡ 0)) ⊎ (((a ≢ b) × (max a b ≡ 1) × (linked a b ≡ 2)) ⊎ ((a ≢ b) × (max a b ≢ 1) × (linked a b ≡ 1)))
    go (inl e) m = inl (e, linked_same a b e)
    go (inr d) (inl m) = inr (inl (d, m, linked_conflict a b d m))
    go (inr d) (inr m) = inr (inr (d, m, linked_tie a b d m))
