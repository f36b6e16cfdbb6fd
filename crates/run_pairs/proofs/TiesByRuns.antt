-- Theorem `ties_by_runs`. Assumes nothing.
use mathlib.Core.Path.{◌≡◌, sym, ap, ◌∙◌}
use mathlib.Core.Logic.{◌≢◌}
use mathlib.Core.Bool.{Bool, true, false, cond}
use mathlib.Core.List.{List, [], ◌∷◌}
use Prim.Native.Nat.{ℕ, zero, suc, ◌+◌, ◌-◌, ◌≤◌, ◌<◌}
use native.Mathlib.Omega.{arith}
use lib.Dec.{eqb}
use lib.ListN.{length}
use borrow.Author.Tests.{eq-eqb, ne_eqb}
use Rattle.answers.specs.inner.Classes.{rep, merge, run, links}
use Rattle.answers.proofs.Exact.{ties_are}
use Rattle.classes.specs.inner.Links.{roots_of, pair}
use Rattle.slices.specs.Along.{along, run_pairs}
use Rattle.slices.proofs.SideBySide.{pairs_more, pairs_split}
use Rattle.run_pairs.specs.Steps.{TiedRun}
use Rattle.run_pairs.specs.inner.Taken.{State, RunTaken, TakesRun}
use Rattle.run_pairs.proofs.Together.{links_both}

-- at most one link for each pair
links_most : (c : List ℕ) (a b m : ℕ) → links c (run_pairs a b m) ≤ m
unfolding links run_pairs
links_most c a b zero = omega arith
links_most c a b (suc m) = go (eqb (rep c a) (rep c b)) (links_most (merge c (pair a b)) (along a 1) (along b 1) m)
  where
    go : (t : Bool) → links (merge c (pair a b)) (run_pairs (along a 1) (along b 1) m) ≤ m → cond {A = ℕ} t 0 1 + links (merge c (pair a b)) (run_pairs (along a 1) (along b 1) m) ≤ suc m
    go true l = omega arith
    go false l = omega arith

single : (v : List ℕ) (x y : ℕ) → links v (pair x y ∷ []) ≤ 1
unfolding links
single v x y = go (eqb (rep v x) (rep v y))
  where
    go : (t : Bool) → cond {A = ℕ} t 0 1 + 0 ≤ 1
    go true = omega arith
    go false = omega arith

-- so where all are links each is one
links_each : (c : List ℕ) (a b m : ℕ) → links c (run_pairs a b m) ≡ m → (k : ℕ) → k < m → links (run c (run_pairs a b k)) (pair (along a k) (along b k) ∷ []) ≡ 1
links_each c a b m e k l =
    let d : ℕ = m - suc k in
    let w : m ≡ suc k + d = omega arith in
    let whole : links c (run_pairs a b m) ≡ links c (run_pairs a b (suc k)) + links (run c (run_pairs a b (suc k))) (run_pairs (along a (suc k)) (along b (suc k)) d) =
    ap (λ (n : ℕ). links c (run_pairs a b n)) w ∙ ap (links c) (pairs_split a b (suc k) d) ∙ links_both c (run_pairs a b (suc k)) (run_pairs (along a (suc k)) (along b (suc k)) d) in
    let front : links c (run_pairs a b (suc k)) ≡ links c (run_pairs a b k) + links (run c (run_pairs a b k)) (pair (along a k) (along b k) ∷ []) =
    ap (links c) (pairs_more a b k) ∙ links_both c (run_pairs a b k) (pair (along a k) (along b k) ∷ []) in
    let one : links (run c (run_pairs a b k)) (pair (along a k) (along b k) ∷ []) ≤ 1 = single (run c (run_pairs a b k)) (along a k) (along b k) in
    omega (arith, links_most c a b k, links_most (run c (run_pairs a b (suc k))) (along a (suc k)) (along b (suc k)) d)

-- A run of m pairs that is tied (1) adds m to the ties, and these are the definition's: m links, each pair one, m ties by meaning. A run that says nothing
-- (0) adds none.
pub ties_by_runs : (shut : ℕ → Bool) (a b count : ℕ) (h last first h' last' first' : List ℕ) (what m : ℕ) → State shut h last first → a < length h → b < length h → 1 ≤ count
    → TakesRun a b count h last first h' last' first' what m
    → (what ≡ 1 → TiedRun h a b m) × (what ≡ 0 → links (roots_of h) (run_pairs a b m) ≡ 0)
ties_by_runs shut a b count h last first h' last' first' what m S small-a small_b some takes = (tied, nothing)
  where
    T : RunTaken shut a b count h last h' last' first' what m
    T = takes shut S small-a small_b some

    tied : what ≡ 1 → TiedRun h a b m
    tied e =
        let ok : what ≢ 2 = λ z. omega (arith, z, e) in
        let all : links (roots_of h) (run_pairs a b m) ≡ m = T.ties ok ∙ ap (λ (t : Bool). cond {A = ℕ} t m 0) (eq-eqb what 1 e) in
        record {
          all = all;
          each = links_each (roots_of h) a b m all;
          by_meaning =
              λ n seen R. ties_are n (roots_of h) seen (run_pairs a b m) R (ap (λ (v : List ℕ). rep v 1) (sym (T.next ok)) ∙ (T.state ok).one) ∙ all;
        }

    nothing : what ≡ 0 → links (roots_of h) (run_pairs a b m) ≡ 0
    nothing e =
        let ok : what ≢ 2 = λ z. omega (arith, z, e) in
        T.ties ok ∙ ap (λ (t : Bool). cond {A = ℕ} t m 0) (ne_eqb what 1 (omega arith))
