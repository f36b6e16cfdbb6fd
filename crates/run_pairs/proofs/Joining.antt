-- A run of roots linked to a run of lower ones: as many ties as sources, and the classes are those of the pairs taken one by one.
use mathlib.Core.Path.{◌≡◌, refl, sym, ap, ap₂, ◌∙◌, subst}
use mathlib.Core.Logic.{◌⊎◌, inl, inr, ◌≢◌}
use mathlib.Core.Bool.{cond}
use mathlib.Core.List.{List, [], ◌∷◌, ◌++◌}
use Prim.Native.Nat.{ℕ, zero, suc, ◌+◌, ◌-◌, ◌≤◌, ◌<◌, min, max}
use native.Mathlib.Omega.{arith}
use lib.Dec.{eqb}
use lib.ListN.{length, get_or, set, length-set}
use lib.Seq.{ext_get_or, get_or-set_same, get_or-set_other}
use borrow.Author.Tests.{eq-eqb, ne_eqb}
use Rattle.laws.proofs.Numbers.{lt_or_le, dec_eq}
use Rattle.answers.specs.Pairs.{Pair}
use Rattle.answers.specs.inner.Classes.{rep, relabel, merge, run, links}
use Rattle.answers.proofs.Relabelling.{relabel_hit, relabel_miss}
use Rattle.classes.specs.inner.Links.{pair}
use Rattle.classes.proofs.Links.{Stands, merge_is, merge_same, join}
use Rattle.slices.specs.Along.{along, run_pairs}
use Rattle.slices.proofs.SideBySide.{along_fixed, along_place, along_more, along_none, pairs_more}

run_more : (c : List ℕ) (qs : List Pair) (q : Pair) → run c (qs ++ (q ∷ [])) ≡ merge (run c qs) q
unfolding run
run_more c [] q = refl
run_more c (p ∷ qs) q = run_more (merge c p) qs q

links_more : (c : List ℕ) (qs : List Pair) (q : Pair) → links c (qs ++ (q ∷ [])) ≡ links c qs + cond (eqb (rep (run c qs) q.left) (rep (run c qs) q.right)) 0 1
unfolding links run
links_more c [] q = omega arith
links_more c (p ∷ qs) q = omega (arith, links_more (merge c p) qs q)

-- the links of a run, set one by one
unfoldable link_run : List ℕ → ℕ → ℕ → ℕ → List ℕ
link_run h hi lo zero = h
link_run h hi lo (suc k) = set (link_run h hi lo k) (hi + k) (along lo k)

linked-length : (h : List ℕ) (hi lo k : ℕ) → length (link_run h hi lo k) ≡ length h
unfolding link_run
linked-length h hi lo zero = refl
linked-length h hi lo (suc k) = length-set (link_run h hi lo k) (hi + k) (along lo k) ∙ linked-length h hi lo k

module _ (h c : List ℕ) (S : Stands h c) (a b hi lo m : ℕ) (higher : lo < hi) (fits : hi + m ≤ length h) (apart : (lo < 2) ⊎ (lo + m ≤ hi)) (place : 2 ≤ hi)
    (tops : (k : ℕ) → k < m → max (rep c (along a k)) (rep c (along b k)) ≡ hi + k)
    (lows : (k : ℕ) → k < m → min (rep c (along a k)) (rep c (along b k)) ≡ along lo k) where
  abbrev cs : ℕ → List ℕ
  cs k = run c (run_pairs a b k)

  below : (k : ℕ) → k < m → along lo k < hi
  below k l = go apart (lt_or_le lo 2)
    where
      go : (lo < 2) ⊎ (lo + m ≤ hi) → (lo < 2) ⊎ (2 ≤ lo) → along lo k < hi
      go x (inl i) = omega (arith, along_fixed lo k i)
      go (inl x) (inr i) = absurd (omega arith)
      go (inr x) (inr i) = omega (arith, along_place lo k i)

  record Done (k : ℕ) : Type 0 where
    stands : Stands (link_run h hi lo k) (run c (run_pairs a b k))
    counted : links c (run_pairs a b k) ≡ k
    kept : (x : ℕ) → ((j : ℕ) → j < k → rep c x ≢ hi + j) → rep (run c (run_pairs a b k)) x ≡ rep c x
    moved : (x j : ℕ) → j < k → rep c x ≡ hi + j → rep (run c (run_pairs a b k)) x ≡ along lo j

  done : (k : ℕ) → k ≤ m → Done k
  unfolding link_run run_pairs run links
  done zero l = record { stands = S; counted = refl; kept = λ x f. refl; moved = λ x j i e. absurd (omega arith) }
  done (suc k) l = step (done k (omega arith))
    where
      q : Pair
      q = pair (along a k) (along b k)

      -- the roots of the two sources are those from the start
      ends : (x : ℕ) → (rep c x ≡ hi + k) ⊎ (rep c x ≡ along lo k) → (j : ℕ) → j < k → rep c x ≢ hi + j
      ends x (inl e) j i = λ f. absurd (omega (arith, e, f))
      ends x (inr e) j i = λ f. absurd (omega (arith, e, f, below k (omega arith)))

      one_of : ((rep c (along a k) ≡ hi + k) × (rep c (along b k) ≡ along lo k)) ⊎ ((rep c (along a k) ≡ along lo k) × (rep c (along b k) ≡ hi + k))
      one_of = go (lt_or_le (rep c (along a k)) (rep c (along b k)))
        where
          go : (rep c (along a k) < rep c (along b k)) ⊎ (rep c (along b k) ≤ rep c (along a k))
              → ((rep c (along a k) ≡ hi + k) × (rep c (along b k) ≡ along lo k)) ⊎ ((rep c (along a k) ≡ along lo k) × (rep c (along b k) ≡ hi + k))
          go (inl i) = inr (omega (arith, tops k (omega arith), lows k (omega arith)))
          go (inr i) = inl (omega (arith, tops k (omega arith), lows k (omega arith)))

      step : Done k → Done (suc k)
      step D = record {
        stands = subst (λ (d : List ℕ). Stands (set (link_run h hi lo k) (hi + k) (along lo k)) d) (sym more) joined;
        counted = ap (links c) (pairs_more a b k) ∙ links_more c (run_pairs a b k) q ∙ counts;
        kept = λ x f. ap (λ (d : List ℕ). rep d x) more ∙ merge_is (cs k) D.stands.canon q x ∙ miss x f;
        moved = λ x j i e. ap (λ (d : List ℕ). rep d x) more ∙ merge_is (cs k) D.stands.canon q x ∙ hit x j i e (dec_eq j k);
      }
        where
          more : run c (run_pairs a b (suc k)) ≡ merge (cs k) q
          more = ap (run c) (pairs_more a b k) ∙ run_more c (run_pairs a b k) q

          left_is : rep (cs k) (along a k) ≡ rep c (along a k)
          left_is = D.kept (along a k) (ends (along a k) (go one_of))
            where
              go : ((rep c (along a k) ≡ hi + k) × (rep c (along b k) ≡ along lo k)) ⊎ ((rep c (along a k) ≡ along lo k) × (rep c (along b k) ≡ hi + k))
                  → (rep c (along a k) ≡ hi + k) ⊎ (rep c (along a k) ≡ along lo k)
              go (inl e) = inl e.0
              go (inr e) = inr e.0

          right_is : rep (cs k) (along b k) ≡ rep c (along b k)
          right_is = D.kept (along b k) (ends (along b k) (go one_of))
            where
              go : ((rep c (along a k) ≡ hi + k) × (rep c (along b k) ≡ along lo k)) ⊎ ((rep c (along a k) ≡ along lo k) × (rep c (along b k) ≡ hi + k))
                  → (rep c (along b k) ≡ hi + k) ⊎ (rep c (along b k) ≡ along lo k)
              go (inl e) = inr e.1
              go (inr e) = inl e.1

          top_is : max (rep (cs k) (along a k)) (rep (cs k) (along b k)) ≡ hi + k
          top_is = ap₂ max left_is right_is ∙ tops k (omega arith)

          low_is : min (rep (cs k) (along a k)) (rep (cs k) (along b k)) ≡ along lo k
          low_is = ap₂ min left_is right_is ∙ lows k (omega arith)

          differ : rep (cs k) (along a k) ≢ rep (cs k) (along b k)
          differ = λ e. absurd (omega (arith, e, top_is, low_is, below k (omega arith)))

          joined : Stands (set (link_run h hi lo k) (hi + k) (along lo k)) (merge (cs k) q)
          joined = rw (top_is, low_is) at (join (link_run h hi lo k) (cs k) D.stands q differ (omega (arith, top_is, linked-length h hi lo k)))

          counts : links c (run_pairs a b k) + cond (eqb (rep (cs k) (along a k)) (rep (cs k) (along b k))) 0 1 ≡ suc k
          counts = rw (ne_eqb (rep (cs k) (along a k)) (rep (cs k) (along b k)) differ) (omega (arith, D.counted))

          hit : (x j : ℕ) → j < suc k → rep c x ≡ hi + j → (j ≡ k) ⊎ (j ≢ k)
              → relabel (max (rep (cs k) (along a k)) (rep (cs k) (along b k))) (min (rep (cs k) (along a k)) (rep (cs k) (along b k))) (rep (cs k) x) ≡ along lo j
          hit x j i e (inl z) =
              let y : rep (cs k) x ≡ hi + k = D.kept x (λ m n f. absurd (omega (arith, e, f))) ∙ e ∙ ap (λ (w : ℕ). hi + w) z in
              rw (top_is, low_is) (relabel_hit (hi + k) (along lo k) (rep (cs k) x) y ∙ ap (along lo) (sym z))
          hit x j i e (inr z) =
              let y : rep (cs k) x ≡ along lo j = D.moved x j (omega arith) e in
              rw top_is (relabel_miss (hi + k) _ (rep (cs k) x) (λ w. absurd (omega (arith, y, w, below j (omega arith)))) ∙ y)

          miss : (x : ℕ) → ((j : ℕ) → j < suc k → rep c x ≢ hi + j)
              → relabel (max (rep (cs k) (along a k)) (rep (cs k) (along b k))) (min (rep (cs k) (along a k)) (rep (cs k) (along b k))) (rep (cs k) x) ≡ rep c x
          miss x f =
              let e : rep (cs k) x ≡ rep c x = D.kept x (λ j i. f j (omega arith)) in
              rw top_is (relabel_miss (hi + k) _ (rep (cs k) x) (λ z. f k (omega arith) (sym e ∙ z)) ∙ e)

module _ (h : List ℕ) (hi lo : ℕ) where
  linked_before : (m x : ℕ) → x < hi → get_or (link_run h hi lo m) x 0 ≡ get_or h x 0
  unfolding link_run
  linked_before zero x l = refl
  linked_before (suc m) x l = get_or-set_other (link_run h hi lo m) (hi + m) x (along lo m) 0 (omega arith) ∙ linked_before m x l

  linked-behind : (m x : ℕ) → hi + m ≤ x → get_or (link_run h hi lo m) x 0 ≡ get_or h x 0
  unfolding link_run
  linked-behind zero x l = refl
  linked-behind (suc m) x l = get_or-set_other (link_run h hi lo m) (hi + m) x (along lo m) 0 (omega arith) ∙ linked-behind m x (omega arith)

  linked_in : (m k : ℕ) → hi + m ≤ length h → k < m → get_or (link_run h hi lo m) (hi + k) 0 ≡ along lo k
  unfolding link_run
  linked_in zero k s l = absurd (omega arith)
  linked_in (suc m) k s l = go (dec_eq k m) (λ (i : k < m). linked_in m k (omega arith) i)
    where
      go : (k ≡ m) ⊎ (k ≢ m) → (k < m → get_or (link_run h hi lo m) (hi + k) 0 ≡ along lo k) → get_or (set (link_run h hi lo m) (hi + m) (along lo m)) (hi + k) 0 ≡ along lo k
      go (inl e) r = rw e (get_or-set_same (link_run h hi lo m) (hi + m) (along lo m) 0 (omega (arith, linked-length h hi lo m)))
      go (inr e) r = get_or-set_other (link_run h hi lo m) (hi + m) (hi + k) (along lo m) 0 (omega arith) ∙ r (omega arith)

  -- links that are such, number by number
  linked_is : (m : ℕ) (h' : List ℕ) → hi + m ≤ length h → length h' ≡ length h → ((k : ℕ) → k < m → get_or h' (hi + k) 0 ≡ along lo k)
      → ((x : ℕ) → x < hi → get_or h' x 0 ≡ get_or h x 0) → ((x : ℕ) → hi + m ≤ x → get_or h' x 0 ≡ get_or h x 0) → link_run h hi lo m ≡ h'
  linked_is m h' s e in' before behind =
      ext_get_or 0 (link_run h hi lo m) h' (linked-length h hi lo m ∙ sym e) (λ x l. go x (lt_or_le x hi) (lt_or_le x (hi + m)))
    where
      go : (x : ℕ) → (x < hi) ⊎ (hi ≤ x) → (x < hi + m) ⊎ (hi + m ≤ x) → get_or (link_run h hi lo m) x 0 ≡ get_or h' x 0
      go x (inl a) b = linked_before m x a ∙ sym (before x a)
      go x (inr a) (inr b) = linked-behind m x b ∙ sym (behind x b)
      go x (inr a) (inl b) =
          let z : x ≡ hi + (x - hi) = omega arith in
          ap (λ (y : ℕ). get_or (link_run h hi lo m) y 0) z ∙ linked_in m (x - hi) s (omega arith)
          ∙ sym (ap (λ (y : ℕ). get_or h' y 0) z ∙ in' (x - hi) (omega arith))

-- a run of roots was linked
module _ (h c : List ℕ) (S : Stands h c) (a b hi lo m : ℕ) (higher : lo < hi) (fits : hi + m ≤ length h) (apart : (lo < 2) ⊎ (lo + m ≤ hi)) (place : 2 ≤ hi)
    (tops : (k : ℕ) → k < m → max (rep c (along a k)) (rep c (along b k)) ≡ hi + k)
    (lows : (k : ℕ) → k < m → min (rep c (along a k)) (rep c (along b k)) ≡ along lo k)
    (h' : List ℕ) (len : length h' ≡ length h) (in' : (k : ℕ) → k < m → get_or h' (hi + k) 0 ≡ along lo k)
    (before : (x : ℕ) → x < hi → get_or h' x 0 ≡ get_or h x 0) (behind : (x : ℕ) → hi + m ≤ x → get_or h' x 0 ≡ get_or h x 0) where
  pub run-joined : Stands h' (run c (run_pairs a b m))
  run-joined =
      subst (λ (g : List ℕ). Stands g (run c (run_pairs a b m))) (linked_is h hi lo m h' fits len in' before behind)
      (done h c S a b hi lo m higher fits apart place tops lows m (omega arith)).stands

  pub run_kept : (x : ℕ) → rep c x < hi → rep (run c (run_pairs a b m)) x ≡ rep c x
  run_kept x l = (done h c S a b hi lo m higher fits apart place tops lows m (omega arith)).kept x (λ j i e. absurd (omega (arith, e)))

  pub run_moved : (x j : ℕ) → j < m → rep c x ≡ hi + j → rep (run c (run_pairs a b m)) x ≡ along lo j
  run_moved x j l e = (done h c S a b hi lo m higher fits apart place tops lows m (omega arith)).moved x j l e

  pub run-ties : links c (run_pairs a b m) ≡ m
  run-ties = (done h c S a b hi lo m higher fits apart place tops lows m (omega arith)).counted

-- pairs of sources of one class each say nothing
pub run_nothing : (c : List ℕ) (a b m : ℕ) → ((k : ℕ) → k < m → rep c (along a k) ≡ rep c (along b k)) → (run c (run_pairs a b m) ≡ c) × (links c (run_pairs a b m) ≡ 0)
unfolding run links run_pairs
run_nothing c a b zero same = (refl, refl)
run_nothing c a b (suc m) same =
    let z : rep c a ≡ rep c b = sym (ap (rep c) (along_none a)) ∙ same 0 (omega arith) ∙ ap (rep c) (along_none b) in
    let e : merge c (pair a b) ≡ c = merge_same c (pair a b) z in
    let one : (k : ℕ) → 1 + k ≡ suc k = λ k. omega arith in
    let i = run_nothing c (along a 1) (along b 1) m (λ k l.
    ap (rep c) (along_more a 1 k ∙ ap (along a) (one k)) ∙ same (suc k) (omega arith) ∙ sym (ap (rep c) (along_more b 1 k ∙ ap (along b) (one k)))) in (
      ap (λ (d : List ℕ). run d (run_pairs (along a 1) (along b 1) m)) e ∙ i.0,
      rw (eq-eqb (rep c a) (rep c b) z) (omega (arith, ap (links_of (run_pairs (along a 1) (along b 1) m)) e, i.1)),
    )
  where
    links_of : List Pair → List ℕ → ℕ
    links_of qs d = links d qs
