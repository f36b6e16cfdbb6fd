-- Pairs taken one behind the other: what they come to together, and that a conflict stays.
use mathlib.Core.Path.{◌≡◌, refl, ap, ◌∙◌}
use mathlib.Core.List.{List, [], ◌∷◌, ◌++◌}
use Prim.Native.Nat.{ℕ, ◌+◌, min, max}
use native.Mathlib.Omega.{arith}
use Rattle.answers.specs.Pairs.{Pair}
use Rattle.answers.specs.inner.Classes.{rep, relabel, merge, run, links}
use Rattle.answers.proofs.Agreement.{relabel_zero}
use Rattle.classes.proofs.Links.{Canon, canon_merge, merge_is}

-- pairs one behind the other
pub run_both : (c : List ℕ) (ps qs : List Pair) → run c (ps ++ qs) ≡ run (run c ps) qs
unfolding run
run_both c [] qs = refl
run_both c (p ∷ ps) qs = run_both (merge c p) ps qs

pub links_both : (c : List ℕ) (ps qs : List Pair) → links c (ps ++ qs) ≡ links c ps + links (run c ps) qs
unfolding run links
links_both c [] qs = omega arith
links_both c (p ∷ ps) qs = omega (arith, links_both (merge c p) ps qs)

pub canon_run : (c : List ℕ) → Canon c → (qs : List Pair) → Canon (run c qs)
unfolding run
canon_run c k [] = k
canon_run c k (q ∷ qs) = canon_run (merge c q) (canon_merge c k q) qs

-- a conflict stays
pub clash_stays : (c : List ℕ) → Canon c → (qs : List Pair) → rep c 1 ≡ 0 → rep (run c qs) 1 ≡ 0
unfolding run
clash_stays c k [] e = e
clash_stays c k (q ∷ qs) e =
    clash_stays (merge c q) (canon_merge c k q) qs
    (merge_is c k q 1 ∙ ap (relabel (max (rep c q.left) (rep c q.right)) (min (rep c q.left) (rep c q.right))) e ∙ relabel_zero (rep c q.left) (rep c q.right))
