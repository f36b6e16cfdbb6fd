-- The closing sweep after the equations of a table: each link its source's representative. Without ties nothing is to be done.
use mathlib.Core.Path.{◌≡◌, refl, sym, ap, ◌∙◌}
use mathlib.Core.Logic.{◌⊎◌, inl, inr, ◌≢◌}
use mathlib.Core.Bool.{Bool, true, false, cond}
use mathlib.Core.List.{List, [], ◌∷◌}
use Prim.Native.Nat.{ℕ, suc, ◌+◌, ◌≤◌, ◌<◌}
use native.Mathlib.Omega.{arith}
use lib.Dec.{eqb}
use lib.ListN.{length, get_or}
use lib.Seq.{ext_get_or}
use borrow.Author.Tests.{ne_eqb}
use Rattle.terms.specs.declared.Row.{Row}
use Rattle.terms.specs.Table.{rows_of, bits_of}
use Rattle.terms.specs.Faults.{Accepted, first_fault}
use Rattle.laws.specs.Lists.{count_up}
use Rattle.laws.proofs.Numbers.{dec_eq}
use Rattle.laws.proofs.CountUp.{count_at, count-up}
use Rattle.answers.specs.Pairs.{Pair, equation_pairs}
use Rattle.answers.specs.inner.Classes.{rep, merge, run, run_all, links, conflict_at, links_before}
use Rattle.answers.proofs.Tables.{pairs_length, conflict_most}
use Rattle.classes.specs.inner.Links.{Low, roots_of}
use Rattle.classes.proofs.Links.{merge_same}
use Rattle.classes.proofs.Roots.{stands_of}
use Rattle.taking.specs.inner.Equations.{EquationsTaken}
use Rattle.linking.specs.inner.Classes.{unlinked, ClassesTaken}

-- pairs that link nothing leave the classes as they are
run_nothing : (c : List ℕ) (qs : List Pair) → links c qs ≡ 0 → run c qs ≡ c
unfolding run links
run_nothing c [] e = refl
run_nothing c (q ∷ qs) e = go (dec_eq (rep c q.left) (rep c q.right)) (run_nothing c qs)
  where
    go : (rep c q.left ≡ rep c q.right) ⊎ (rep c q.left ≢ rep c q.right) → (links c qs ≡ 0 → run c qs ≡ c) → run (merge c q) qs ≡ c
    go (inl d) f =
        let m : merge c q ≡ c = merge_same c q d in
        ap (λ (v : List ℕ). run v qs) m ∙ f (sym (ap (λ (v : List ℕ). links v qs) m) ∙ omega (arith, e))
    go (inr d) f = absurd (omega (arith, rw (ne_eqb (rep c q.left) (rep c q.right) d) at e))

run-all_nothing : (c : List ℕ) (es : List (List Pair)) → length es ≤ conflict_at c es → links_before c es ≡ 0 → run_all c es ≡ c
unfolding run_all conflict_at links_before
run-all_nothing c [] l e = refl
run-all_nothing c (q ∷ es) l e = go (eqb (rep (run c q) 1) 0) l e (run-all_nothing c es)
  where
    go : (b : Bool) → suc (length es) ≤ cond b 0 (suc (conflict_at (run c q) es)) → cond b 0 (links c q + links_before (run c q) es) ≡ 0
        → (length es ≤ conflict_at c es → links_before c es ≡ 0 → run_all c es ≡ c) → run_all (run c q) es ≡ c
    go true m z f = absurd (omega arith)
    go false m z f =
        let s : run c q ≡ c = run_nothing c q (omega arith) in
        rw s (f (omega (arith, rw s at m)) (omega (arith, rw s at z)))

-- links whose roots are each source itself
alone : (h : List ℕ) (n : ℕ) → Low h → roots_of h ≡ count_up 0 n → h ≡ count_up 0 n
alone h n low e =
    let s = stands_of h (count_up 0 n) low e in
    ext_get_or 0 h (count_up 0 n) s.len
    (λ i l.
    let m : i < n = omega (arith, s.len, count-up 0 n) in
    omega (arith, s.keep i, low i, count_at 0 n i m, count_at 0 n (get_or h i 0) (omega (arith, low i))))

module _ (table : List ℕ) (accepted : first_fault table ≡ Accepted) (links : List ℕ) (row ties : ℕ) (E : EquationsTaken (rows_of table) (unlinked (rows_of table)) 0 (length (rows_of table)) (equation_pairs (rows_of table)) links row ties) where
  abbrev t : List Row
  t = rows_of table

  abbrev c₀ : List ℕ
  c₀ = unlinked (rows_of table)

  from_first : row ≡ conflict_at c₀ (equation_pairs t)
  from_first = omega (arith, E.row_is)

  -- a conflict was met
  pub settle_never : row < length t → ClassesTaken t links row ties
  settle_never l = record { row_is = from_first; ties_are = E.ties_are; few = E.few; settled = λ e. absurd (omega arith) }

  module _ (l : length (rows_of table) ≤ row) where
    whole : row ≡ length t
    whole = omega (arith, from_first, conflict_most table accepted)

    low : Low links
    low = (E.held whole).low

    -- no ties: each source is alone
    pub settle_none : ties ≡ 0 → ClassesTaken t links row ties
    settle_none z =
        let few : length (equation_pairs t) ≤ length t = omega (arith, pairs_length t) in
        let s : run_all c₀ (equation_pairs t) ≡ c₀ = run-all_nothing c₀ (equation_pairs t) (omega (arith, from_first, whole)) (sym E.ties_are ∙ z) in
        record {
          row_is = from_first;
          ties_are = E.ties_are;
          few = E.few;
          settled = λ e. alone links (suc (suc (bits_of t))) low (E.classes_are whole ∙ s) ∙ sym s;
        }

    -- swept
    pub settle_swept : (links' : List ℕ) → (Low links → links' ≡ roots_of links) → ClassesTaken t links' row ties
    settle_swept links' f =
        record { row_is = from_first; ties_are = E.ties_are; few = E.few; settled = λ e. f low ∙ E.classes_are e }
