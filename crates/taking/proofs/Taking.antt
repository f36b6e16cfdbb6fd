-- The equations of a table taken one after the other, pair by pair: what is done plus what the rest will give is what all give.
use mathlib.Core.Path.{◌≡◌, refl, sym, ap, ◌∙◌, subst}
use mathlib.Core.Logic.{◌⊎◌, inl, inr, ◌≢◌}
use mathlib.Core.Bool.{true, false, cond}
use mathlib.Core.List.{List, [], ◌∷◌}
use Prim.Native.Nat.{ℕ, zero, suc, ◌+◌, ◌-◌, ◌≤◌, ◌<◌, min, max}
use native.Mathlib.Omega.{arith}
use native.Mathlib.Numerals.{add-one}
use lib.Dec.{eqb}
use lib.ListN.{length, get_or, take, drop}
use borrow.Author.Tests.{eq-eqb, ne_eqb}
use Rattle.terms.specs.declared.Row.{Row}
use Rattle.terms.specs.Table.{row_at}
use Rattle.answers.specs.Pairs.{Pair, pairs_of, pairs_in}
use Rattle.answers.specs.inner.Classes.{rep, relabel, merge, run, run_all, links, conflict_at, links_before}
use Rattle.laws.proofs.Numbers.{dec_eq}
use Rattle.answers.proofs.Agreement.{relabel_zero}
use Rattle.answers.proofs.Equations.{pairs-from, pairs_past}
use Rattle.classes.specs.inner.Links.{Low, roots_of, pair, linked, PairTaken}
use Rattle.classes.proofs.Links.{Canon, canon_merge, merge_len, merge_is}
use Rattle.classes.proofs.Roots.{roots-length, stands_roots, taken_alike}
use Rattle.classes.proofs.Taking.{tie_or-not, no_conflict, a_conflict}
use Rattle.terms.proofs.RowKinds.{of_term}
use Rattle.sides.specs.inner.Sides.{pairs_from}
use Rattle.terms.proofs.NextEquation.{Passed}
use Rattle.taking.specs.inner.Equations.{Holding, EquationsTaken}

-- ---- one pair more at the end of those taken
abbrev pair_at : List ℕ → List ℕ → ℕ → Pair
pair_at l r i = pair (get_or l i 0) (get_or r i 0)

shift : (l r : List ℕ) (at k : ℕ) → pair_at l r (suc at + k) ≡ pair_at l r (at + suc k)
shift l r at k = ap (pair_at l r) (omega arith)

run_more : (l r c : List ℕ) (at k : ℕ) → run c (pairs_from l r at (suc k)) ≡ merge (run c (pairs_from l r at k)) (pair_at l r (at + k))
unfolding run pairs_from
run_more l r c at zero = ap (λ (n : ℕ). merge c (pair_at l r n)) (omega arith)
run_more l r c at (suc k) =
    run_more l r (merge c (pair_at l r at)) (suc at) k
    ∙ ap (merge (run (merge c (pair_at l r at)) (pairs_from l r (suc at) k))) (shift l r at k)

-- 1 where the pair is new to the classes c
new : List ℕ → Pair → ℕ
new c q = cond (eqb (rep c q.left) (rep c q.right)) 0 1

links_more : (l r c : List ℕ) (at k : ℕ)
    → links c (pairs_from l r at (suc k)) ≡ links c (pairs_from l r at k) + new (run c (pairs_from l r at k)) (pair_at l r (at + k))
unfolding links run pairs_from new
links_more l r c at zero =
    let e : at + 0 ≡ at = omega arith in
    rw e (omega arith)
links_more l r c at (suc k) =
    let i : links (merge c (pair_at l r at)) (pairs_from l r (suc at) (suc k)) ≡ links (merge c (pair_at l r at)) (pairs_from l r (suc at) k) + new (run (merge c (pair_at l r at)) (pairs_from l r (suc at) k)) (pair_at l r (suc at + k)) =
    links_more l r (merge c (pair_at l r at)) (suc at) k in
    let s : new (run (merge c (pair_at l r at)) (pairs_from l r (suc at) k)) (pair_at l r (suc at + k)) ≡ new (run (merge c (pair_at l r at)) (pairs_from l r (suc at) k)) (pair_at l r (at + suc k)) =
    ap (new (run (merge c (pair_at l r at)) (pairs_from l r (suc at) k))) (shift l r at k) in
    omega arith

-- ---- a conflict stays
merge_kept : (c : List ℕ) → Canon c → (q : Pair) → rep c 1 ≡ 0 → rep (merge c q) 1 ≡ 0
merge_kept c k q e = merge_is c k q 1 ∙ ap (relabel (max (rep c q.left) (rep c q.right)) (min (rep c q.left) (rep c q.right))) e ∙ relabel_zero (rep c q.left) (rep c q.right)

canon_run : (c : List ℕ) → Canon c → (qs : List Pair) → Canon (run c qs)
unfolding run
canon_run c k [] = k
canon_run c k (q ∷ qs) = canon_run (merge c q) (canon_merge c k q) qs

run_length : (c : List ℕ) → Canon c → (qs : List Pair) → length (run c qs) ≡ length c
unfolding run
run_length c k [] = refl
run_length c k (q ∷ qs) = run_length (merge c q) (canon_merge c k q) qs ∙ merge_len c k q

stays : (l r c : List ℕ) → Canon c → (at k w : ℕ) → k ≤ w → rep (run c (pairs_from l r at k)) 1 ≡ 0 → rep (run c (pairs_from l r at w)) 1 ≡ 0
stays l r c i at k zero h e =
    let z : k ≡ 0 = omega arith in
    sym (ap (λ (n : ℕ). rep (run c (pairs_from l r at n)) 1) z) ∙ e
stays l r c i at k (suc w) h e = go (dec_eq k (suc w)) (λ (m : k ≤ w). stays l r c i at k w m e)
  where
    go : (k ≡ suc w) ⊎ (k ≢ suc w) → (k ≤ w → rep (run c (pairs_from l r at w)) 1 ≡ 0) → rep (run c (pairs_from l r at (suc w))) 1 ≡ 0
    go (inl d) f = sym (ap (λ (n : ℕ). rep (run c (pairs_from l r at n)) 1) d) ∙ e
    go (inr d) f = ap (λ (v : List ℕ). rep v 1) (run_more l r c at w) ∙ merge_kept (run c (pairs_from l r at w)) (canon_run c i (pairs_from l r at w)) (pair_at l r (at + w)) (f (omega arith))

-- ---- within an equation: k of its pairs are taken, from the classes c
pub record Taking (l r c h : List ℕ) (k found : ℕ) : Type 0 where
  pub canon : Canon c
  pub low : Low h
  pub roots : roots_of h ≡ run c (pairs_from l r 0 k)
  pub one : rep (run c (pairs_from l r 0 k)) 1 ≡ 1
  pub counted : found ≡ links c (pairs_from l r 0 k)
  pub len : length h ≡ length c

pub taking_first : (l r c h : List ℕ) → Canon c → Low h → roots_of h ≡ c → length h ≡ length c → rep c 1 ≡ 1 → Taking l r c h 0 0
unfolding run links pairs_from
taking_first l r c h i low e len o = record { canon = i; low = low; roots = e; one = o; counted = refl; len = len }

-- one pair, taken or in conflict
module _ (l r c h : List ℕ) (k found : ℕ) (t : Taking l r c h k found) (h' : List ℕ) (got : ℕ) (w : PairTaken h h' (get_or l k 0) (get_or r k 0) got) where
  abbrev d : List ℕ
  d = run c (pairs_from l r 0 k)

  abbrev q : Pair
  q = pair_at l r (0 + k)

  z : 0 + k ≡ k
  z = omega arith

  canon_d : Canon d
  canon_d = canon_run c t.canon (pairs_from l r 0 k)

  what : got ≡ linked (rep d q.left) (rep d q.right)
  what = rw z (w.what ∙ ap (λ (v : List ℕ). linked (rep v (get_or l k 0)) (rep v (get_or r k 0))) t.roots)

  pub taking_more : length h' ≡ length h → got ≢ 2 → Taking l r c h' (k + 1) (found + got)
  unfolding new
  taking_more len n =
      let m : run c (pairs_from l r 0 (k + 1)) ≡ merge d q = ap (λ (n : ℕ). run c (pairs_from l r 0 n)) (add-one k) ∙ run_more l r c 0 k in
      let j : links c (pairs_from l r 0 (k + 1)) ≡ links c (pairs_from l r 0 k) + new d q = ap (λ (n : ℕ). links c (pairs_from l r 0 n)) (add-one k) ∙ links_more l r c 0 k in
      let other : linked (rep d q.left) (rep d q.right) ≢ 2 = λ e. n (what ∙ e) in
      record {
        canon = t.canon;
        low = w.low;
        roots = w.next n ∙ ap (λ (v : List ℕ). merge v (pair (get_or l k 0) (get_or r k 0))) t.roots ∙ ap (λ (i : ℕ). merge d (pair_at l r i)) (sym z) ∙ sym m;
        one = ap (λ (v : List ℕ). rep v 1) m ∙ no_conflict d canon_d q other t.one;
        counted = omega (arith, j, what, tie_or-not d canon_d q other, t.counted);
        len = len ∙ t.len;
      }

  pub taking_to : (f : ℕ) → found + got ≡ f → length h' ≡ length h → got ≢ 2 → Taking l r c h' (k + 1) f
  taking_to f e len n = subst (Taking l r c h' (k + 1)) e (taking_more len n)

  pub taking_conflict : got ≡ 2 → (width : ℕ) → k < width → rep (run c (pairs_from l r 0 width)) 1 ≡ 0
  taking_conflict n width s =
      stays l r c t.canon 0 (suc k) width s
      (ap (λ (v : List ℕ). rep v 1) (run_more l r c 0 k) ∙ a_conflict d canon_d q (sym what ∙ n))

-- n pairs whose sources link alike say nothing
pub taking_alike : (l r c h : List ℕ) (n k found : ℕ) → Taking l r c h k found → ((i : ℕ) → i < n → get_or h (get_or l (k + i) 0) 0 ≡ get_or h (get_or r (k + i) 0) 0)
    → Taking l r c h (k + n) found
taking_alike l r c h zero k found t same = let e : k ≡ k + 0 = omega arith in subst (λ (j : ℕ). Taking l r c h j found) e t
taking_alike l r c h (suc n) k found t same =
    let z : k + 0 ≡ k = omega arith in
    let first : get_or h (get_or l k 0) 0 ≡ get_or h (get_or r k 0) 0 = rw z at (same 0 (omega arith)) in
    let one : Taking l r c h (k + 1) found =
    taking_to l r c h k found t h 0 (taken_alike h (get_or l k 0) (get_or r k 0) _ _ _ _ refl refl refl refl first t.low) found (omega arith) refl (λ e. omega (arith, e)) in
    let e : k + 1 + n ≡ k + suc n = omega arith in
    subst (λ (j : ℕ). Taking l r c h j found) e (taking_alike l r c h n (k + 1) found one (λ i m. let s : k + 1 + i ≡ k + suc i = omega arith in rw s (same (suc i) (omega arith))))

-- links that hold the classes of a table have taken none of the next equation's pairs
pub taking_held : (t : List Row) (l r h : List ℕ) → Holding t h → Taking l r (roots_of h) h 0 0
taking_held t l r h b = taking_first l r (roots_of h) h (stands_roots h b.low).canon b.low refl (sym (roots-length h b.low)) b.apart

-- ---- between equations: those from row `from` on and before `row` are taken, from the classes c₀, and those below `to` are to be taken
module _ (t : List Row) (from to : ℕ) (within : to ≤ length t) (c₀ : List ℕ) where
  abbrev left_over : ℕ → List (List Pair)
  left_over row = drop row (take to (pairs_in t t))

  pub record Between (h : List ℕ) (ties row : ℕ) : Type 0 where
    pub held : Holding t h
    pub stopped : row + conflict_at (roots_of h) (drop row (take to (pairs_in t t))) ≡ from + conflict_at c₀ (drop from (take to (pairs_in t t)))
    pub joined : ties + links_before (roots_of h) (drop row (take to (pairs_in t t))) ≡ links_before c₀ (drop from (take to (pairs_in t t)))
    pub ran : run_all (roots_of h) (drop row (take to (pairs_in t t))) ≡ run_all c₀ (drop from (take to (pairs_in t t)))

  pub between_first : (h : List ℕ) → Holding t h → roots_of h ≡ c₀ → Between h 0 from
  between_first h b e =
      record {
        held = b;
        stopped = rw e refl;
        joined = rw e (omega arith);
        ran = rw e refl;
      }

  module _ (h : List ℕ) (ties row : ℕ) (b : Between h ties row) (g : row < to) where
    abbrev c : List ℕ
    c = roots_of h

    abbrev ps : List Pair
    ps = pairs_of t (row_at t row)

    canon_c : Canon c
    canon_c = (stands_roots h b.held.low).canon

    rest : left_over row ≡ ps ∷ left_over (suc row)
    rest = pairs-from t to row g (omega arith)

    conflict_is : conflict_at c (left_over row) ≡ cond (eqb (rep (run c ps) 1) 0) 0 (suc (conflict_at (run c ps) (left_over (suc row))))
    unfolding conflict_at
    conflict_is = ap (conflict_at c) rest

    links_is : links_before c (left_over row) ≡ cond (eqb (rep (run c ps) 1) 0) 0 (links c ps + links_before (run c ps) (left_over (suc row)))
    unfolding links_before
    links_is = ap (links_before c) rest

    run_is : run_all c (left_over row) ≡ run_all (run c ps) (left_over (suc row))
    unfolding run_all
    run_is = ap (run_all c) rest

    -- an equation was taken
    pub between_more : (l r h' : List ℕ) (w found : ℕ) → Taking l r (roots_of h) h' w found → pairs_from l r 0 w ≡ pairs_of t (row_at t row)
        → Between h' (ties + found) (row + 1)
    between_more l r h' w found k e =
        let s : roots_of h' ≡ run c ps = k.roots ∙ ap (run c) e in
        let o : rep (run c ps) 1 ≡ 1 = ap (λ (v : List Pair). rep (run c v) 1) (sym e) ∙ k.one in
        let n : eqb (rep (run c ps) 1) 0 ≡ false = ne_eqb (rep (run c ps) 1) 0 (omega arith) in
        let f : found ≡ links c ps = k.counted ∙ ap (links c) e in
        let m : row + 1 ≡ suc row = add-one row in
        record {
          held = record {
            low = k.low;
            sources = k.len ∙ roots-length h b.held.low ∙ b.held.sources;
            apart = ap (λ (v : List ℕ). rep v 1) s ∙ o;
          };
          stopped = rw (s, m) (omega (arith, b.stopped, rw n at conflict_is));
          joined = rw (s, m) (omega (arith, b.joined, rw n at links_is));
          ran = rw (s, m) (sym run_is ∙ b.ran);
        }

    -- two different fixed bits met
    pub between_conflict : rep (run (roots_of h) (pairs_of t (row_at t row))) 1 ≡ 0 → (h' : List ℕ) → ties ≤ 1000000
        → EquationsTaken t c₀ from to (drop from (take to (pairs_in t t))) h' row ties
    between_conflict z h' few =
        let n : eqb (rep (run c ps) 1) 0 ≡ true = eq-eqb (rep (run c ps) 1) 0 z in
        record {
          row_is = omega (arith, b.stopped, rw n at conflict_is);
          ties_are = omega (arith, b.joined, rw n at links_is);
          few = few;
          held = λ e. absurd (omega arith);
          classes_are = λ e. absurd (omega arith);
        }

  -- rows were passed that have no bit pairs
  no_pairs : (i : ℕ) → (row_at t i).kind ≢ 4 → pairs_of t (row_at t i) ≡ pairs_from [] [] 0 0
  unfolding pairs_of pairs_from
  no_pairs i n = of_term (row_at t i) _ [] n

  between_past : (d : ℕ) (h : List ℕ) (ties row : ℕ) → Between h ties row → row + d ≤ to
      → ((i : ℕ) → row ≤ i → i < row + d → (row_at t i).kind ≢ 4) → Between h ties (row + d)
  between_past zero h ties row b g none = let e : row ≡ row + 0 = omega arith in subst (Between h ties) e b
  between_past (suc d) h ties row b g none =
      let m : Between h (ties + 0) (row + 1) =
      between_more h ties row b (omega arith) [] [] h 0 0 (taking_held t [] [] h b.held) (sym (no_pairs row (none row (omega arith) (omega arith)))) in
      let z : ties + 0 ≡ ties = omega arith in
      let e : row + 1 + d ≡ row + suc d = omega arith in
      subst (Between h ties) e
      (between_past d h ties (row + 1) (subst (λ (n : ℕ). Between h n (row + 1)) z m) (omega arith) (λ i a l. none i (omega arith) (omega arith)))

  pub between_next : (h : List ℕ) (ties row n : ℕ) → Between h ties row → Passed t row to n → Between h ties n
  between_next h ties row n b p =
      let e : row + (n - row) ≡ n = omega (arith, p.forth) in
      subst (Between h ties) e (between_past (n - row) h ties row b (omega (arith, p.forth, p.most)) (λ i a l. p.none i a (omega (arith, p.forth))))

  pub between_done : (h : List ℕ) (ties row : ℕ) → Between h ties row → to ≤ row → ties ≤ 1000000
      → EquationsTaken t c₀ from to (drop from (take to (pairs_in t t))) h row ties
  unfolding conflict_at links_before run_all
  between_done h ties row b g few =
      let z : left_over row ≡ [] = pairs_past t to row g in
      record {
        row_is = omega (arith, rw z at b.stopped);
        ties_are = omega (arith, rw z at b.joined);
        few = few;
        held = λ e. b.held;
        classes_are = λ e. rw z at b.ran;
      }
