-- Pairs of a source with itself: they change no class, join nothing, are no ties and no conflict. And equations taken in two parts. Assumes nothing.
use mathlib.Core.Path.{◌≡◌, refl, sym, ◌∙◌, ap}
use mathlib.Core.Bool.{Bool, true, false, not, ◌||◌, cond, or-true}
use mathlib.Core.List.{List, [], ◌∷◌, ◌++◌, append_assoc}
use mathlib.Core.Logic.{◌≢◌}
use Prim.Native.Nat.{ℕ, zero, suc, ◌+◌, ◌≤◌, ◌<◌, min, max}
use native.Mathlib.Omega.{arith}
use lib.Dec.{eqb}
use lib.ListN.{length, take}
use borrow.Author.Tests.{eq-eqb, ne_eqb, eqb-false}
use Rattle.laws.proofs.Lists.{map_same}
use Rattle.terms.specs.Table.{bit_of}
use Rattle.terms.proofs.Assignments.{every_of}
use Rattle.answers.specs.Pairs.{Pair, paired, equals, equal_under, satisfies_pairs, ties}
use Rattle.answers.specs.Solve.{pairs_together}
use Rattle.answers.specs.inner.Classes.{rep, relabel, merge, run, run_all, links, conflict_at, links_before}
use Rattle.answers.proofs.Exact.{relabel_same}

pub data Silent : List Pair → Type 0 where
  nothing : Silent []
  itself : {q : Pair} {qs : List Pair} → q.left ≡ q.right → Silent qs → Silent (q ∷ qs)

pub data AllSilent : List (List Pair) → Type 0 where
  ended : AllSilent []
  further : {e : List Pair} {es : List (List Pair)} → Silent e → AllSilent es → AllSilent (e ∷ es)

pub silent_paired : (xs : List ℕ) → Silent (paired xs xs)
unfolding paired
silent_paired [] = nothing
silent_paired (x ∷ xs) = itself refl (silent_paired xs)

pub silent_take : (k : ℕ) {es : List (List Pair)} → AllSilent es → AllSilent (take k es)
silent_take zero a = ended
silent_take (suc k) ended = ended
silent_take (suc k) (further s a) = further s (silent_take k a)

silent_append : {qs rs : List Pair} → Silent qs → Silent rs → Silent (qs ++ rs)
silent_append nothing s = s
silent_append (itself e a) s = itself e (silent_append a s)

pub silent_together : {es : List (List Pair)} → AllSilent es → Silent (pairs_together es)
unfolding pairs_together
silent_together ended = nothing
silent_together (further s a) = silent_append s (silent_together a)

-- ---- the classes
merge_silent : (c : List ℕ) (q : Pair) → q.left ≡ q.right → merge c q ≡ c
unfolding merge
merge_silent c q e =
    let m : max (rep c q.left) (rep c q.right) ≡ min (rep c q.left) (rep c q.right) = let f : rep c q.left ≡ rep c q.right = ap (rep c) e in omega arith in
    rw m (map_same (relabel (min (rep c q.left) (rep c q.right)) (min (rep c q.left) (rep c q.right))) (relabel_same (min (rep c q.left) (rep c q.right))) c)

run_silent : (c : List ℕ) {qs : List Pair} → Silent qs → run c qs ≡ c
unfolding run
run_silent c nothing = refl
run_silent c (itself {q} {qs} e s) = ap (λ (d : List ℕ). run d qs) (merge_silent c q e) ∙ run_silent c s

links_silent : (c : List ℕ) {qs : List Pair} → Silent qs → links c qs ≡ 0
unfolding links
links_silent c nothing = refl
links_silent c (itself {q} {qs} e s) = rw (eq-eqb (rep c q.left) (rep c q.right) (ap (rep c) e), merge_silent c q e, links_silent c s)

pub all_silent_run : (c : List ℕ) {es : List (List Pair)} → AllSilent es → run_all c es ≡ c
unfolding run_all
all_silent_run c ended = refl
all_silent_run c (further {e} {es} s a) = ap (λ (d : List ℕ). run_all d es) (run_silent c s) ∙ all_silent_run c a

pub all_silent_conflict : (c : List ℕ) → rep c 1 ≢ 0 → {es : List (List Pair)} → AllSilent es → conflict_at c es ≡ length es
unfolding conflict_at
all_silent_conflict c n ended = refl
all_silent_conflict c n (further {e} {es} s a) = rw (run_silent c s, ne_eqb (rep c 1) 0 n) (ap suc (all_silent_conflict c n a))

pub all_silent_links : (c : List ℕ) {es : List (List Pair)} → AllSilent es → links_before c es ≡ 0
unfolding links_before
all_silent_links c ended = refl
all_silent_links c (further {e} {es} s a) = rw (run_silent c s, links_silent c s, all_silent_links c a) (go (eqb (rep c 1) 0))
  where
    go : (b : Bool) → cond {A = ℕ} b 0 (0 + 0) ≡ 0
    go true = refl
    go false = refl

-- ---- the ties
itself_equal : (n : ℕ) (seen : List Pair) (s u : ℕ) → s ≡ u → equals n seen s u ≡ true
unfolding equal_under
itself_equal n seen s u e =
    every_of n (λ p. not (satisfies_pairs p seen) || eqb (bit_of p s) (bit_of p u))
    (λ p a. rw (eq-eqb (bit_of p s) (bit_of p u) (ap (bit_of p) e)) (or-true (not (satisfies_pairs p seen))))

silent_ties : (n : ℕ) (seen : List Pair) {qs : List Pair} → Silent qs → ties n seen qs ≡ 0
unfolding ties
silent_ties n seen nothing = refl
silent_ties n seen (itself {q} {qs} e s) = rw (itself_equal n seen q.left q.right e, silent_ties n (q ∷ seen) s)

pub ties_silent : (n : ℕ) (seen qs : List Pair) {rs : List Pair} → Silent rs → ties n seen (qs ++ rs) ≡ ties n seen qs
unfolding ties
ties_silent n seen [] s = silent_ties n seen s
ties_silent n seen (q ∷ qs) s = ap (λ (k : ℕ). cond (equals n seen q.left q.right) 0 1 + k) (ties_silent n (q ∷ seen) qs s)

pub together_append : (es fs : List (List Pair)) → pairs_together (es ++ fs) ≡ pairs_together es ++ pairs_together fs
unfolding pairs_together
together_append [] fs = refl
together_append (e ∷ es) fs = ap (λ (l : List Pair). e ++ l) (together_append es fs) ∙ sym (append_assoc e (pairs_together es) (pairs_together fs))

-- ---- equations taken in two parts
pub run_parts : (c : List ℕ) (es fs : List (List Pair)) → run_all c (es ++ fs) ≡ run_all (run_all c es) fs
unfolding run_all
run_parts c [] fs = refl
run_parts c (e ∷ es) fs = run_parts (run c e) es fs

pub conflict_within : (c : List ℕ) (es : List (List Pair)) → conflict_at c es ≤ length es
unfolding conflict_at
conflict_within c [] = omega arith
conflict_within c (e ∷ es) = go (eqb (rep (run c e) 1) 0) (conflict_within (run c e) es)
  where
    go : (b : Bool) → conflict_at (run c e) es ≤ length es → cond b 0 (suc (conflict_at (run c e) es)) ≤ suc (length es)
    go true l = omega arith
    go false l = omega arith

-- the first part without a conflict
pub conflict_parts : (c : List ℕ) (es fs : List (List Pair)) → conflict_at c es ≡ length es → conflict_at c (es ++ fs) ≡ length es + conflict_at (run_all c es) fs
unfolding conflict_at run_all
conflict_parts c [] fs h = omega arith
conflict_parts c (e ∷ es) fs h = go (eqb (rep (run c e) 1) 0) h (λ (k : conflict_at (run c e) es ≡ length es). conflict_parts (run c e) es fs k)
  where
    go : (b : Bool) → cond b 0 (suc (conflict_at (run c e) es)) ≡ suc (length es)
        → (conflict_at (run c e) es ≡ length es → conflict_at (run c e) (es ++ fs) ≡ length es + conflict_at (run_all (run c e) es) fs)
        → cond b 0 (suc (conflict_at (run c e) (es ++ fs))) ≡ suc (length es) + conflict_at (run_all (run c e) es) fs
    go true h r = absurd (omega arith)
    go false h r = omega (arith, r (omega arith))

pub links_parts : (c : List ℕ) (es fs : List (List Pair)) → conflict_at c es ≡ length es → links_before c (es ++ fs) ≡ links_before c es + links_before (run_all c es) fs
unfolding conflict_at links_before run_all
links_parts c [] fs h = omega arith
links_parts c (e ∷ es) fs h = go (eqb (rep (run c e) 1) 0) h (λ (k : conflict_at (run c e) es ≡ length es). links_parts (run c e) es fs k)
  where
    go : (b : Bool) → cond b 0 (suc (conflict_at (run c e) es)) ≡ suc (length es)
        → (conflict_at (run c e) es ≡ length es → links_before (run c e) (es ++ fs) ≡ links_before (run c e) es + links_before (run_all (run c e) es) fs)
        → cond b 0 (links c e + links_before (run c e) (es ++ fs)) ≡ cond b 0 (links c e + links_before (run c e) es) + links_before (run_all (run c e) es) fs
    go true h r = absurd (omega arith)
    go false h r = omega (arith, r (omega arith))

-- the first part with one
pub conflict_first : (c : List ℕ) (es fs : List (List Pair)) → conflict_at c es < length es → conflict_at c (es ++ fs) ≡ conflict_at c es
unfolding conflict_at
conflict_first c [] fs h = absurd (omega arith)
conflict_first c (e ∷ es) fs h = go (eqb (rep (run c e) 1) 0) h (λ (k : conflict_at (run c e) es < length es). conflict_first (run c e) es fs k)
  where
    go : (b : Bool) → cond b 0 (suc (conflict_at (run c e) es)) < suc (length es)
        → (conflict_at (run c e) es < length es → conflict_at (run c e) (es ++ fs) ≡ conflict_at (run c e) es)
        → cond b 0 (suc (conflict_at (run c e) (es ++ fs))) ≡ cond b 0 (suc (conflict_at (run c e) es))
    go true h r = refl
    go false h r = ap suc (r (omega arith))

pub links_first : (c : List ℕ) (es fs : List (List Pair)) → conflict_at c es < length es → links_before c (es ++ fs) ≡ links_before c es
unfolding conflict_at links_before
links_first c [] fs h = absurd (omega arith)
links_first c (e ∷ es) fs h = go (eqb (rep (run c e) 1) 0) h (λ (k : conflict_at (run c e) es < length es). links_first (run c e) es fs k)
  where
    go : (b : Bool) → cond b 0 (suc (conflict_at (run c e) es)) < suc (length es)
        → (conflict_at (run c e) es < length es → links_before (run c e) (es ++ fs) ≡ links_before (run c e) es)
        → cond b 0 (links c e + links_before (run c e) (es ++ fs)) ≡ cond b 0 (links c e + links_before (run c e) es)
    go true h r = refl
    go false h r = ap (λ (k : ℕ). links c e + k) (r (omega arith))

-- without a conflict the fixed bits are apart in the end
pub apart_still : (c : List ℕ) (es : List (List Pair)) → rep c 1 ≢ 0 → conflict_at c es ≡ length es → rep (run_all c es) 1 ≢ 0
unfolding conflict_at run_all
apart_still c [] n h = n
apart_still c (e ∷ es) n h = go (eqb (rep (run c e) 1) 0) refl h (λ (k : rep (run c e) 1 ≢ 0) (j : conflict_at (run c e) es ≡ length es). apart_still (run c e) es k j)
  where
    go : (b : Bool) → eqb (rep (run c e) 1) 0 ≡ b → cond b 0 (suc (conflict_at (run c e) es)) ≡ suc (length es)
        → (rep (run c e) 1 ≢ 0 → conflict_at (run c e) es ≡ length es → rep (run_all (run c e) es) 1 ≢ 0) → rep (run_all (run c e) es) 1 ≢ 0
    go true q h r = absurd (omega arith)
    go false q h r = r (eqb-false (rep (run c e) 1) 0 q) (omega arith)
