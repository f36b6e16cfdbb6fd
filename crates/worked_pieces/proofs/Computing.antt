-- What is worked of a table can be computed: tests that are enough for runs to be runs, for slices to be a first cut, and for a step. Assumes nothing.
use mathlib.Core.Path.{◌≡◌, refl, sym, ◌∙◌}
use mathlib.Core.Logic.{◌⊎◌, inl, inr}
use mathlib.Core.Bool.{Bool, true, false, not, ◌&&◌, ◌||◌, cond}
use mathlib.Core.List.{List, [], ◌∷◌}
use Prim.Native.Nat.{ℕ, suc, ◌≤◌, ◌<◌}
use native.Mathlib.Omega.{arith}
use lib.Dec.{eqb, leb, ltb}
use lib.ListN.{length, get_or, get_or-eq_default}
use borrow.Author.Tests.{eqb-true, leb-true, ltb-true, le-leb, lt-ltb, not-true}
use Rattle.laws.specs.Bools.{implies}
use Rattle.laws.specs.Lists.{count_up, below}
use Rattle.laws.proofs.Bools.{and_first, and_second, and_both}
use Rattle.laws.proofs.Numbers.{lt_or_le}
use Rattle.laws.proofs.Tallies.{below_at, implied}
use Rattle.terms.specs.declared.Row.{Row}
use Rattle.terms.specs.Table.{rows_of, row_at, bits_of}
use Rattle.answers.specs.Pairs.{equation_pairs, pairs_of}
use Rattle.answers.specs.inner.Classes.{rep, run, links, run_all, conflict_at, links_before}
use Rattle.classes.specs.inner.Links.{Low, roots_of}
use Rattle.taking.specs.inner.Equations.{EquationsTaken}
use Rattle.slices.specs.Along.{along, run_pairs}
use Rattle.slices.specs.Borders.{ends_at, total, Some, none, some}
use Rattle.slices.specs.Cut.{Slice, slice_widths, spelled_pairs, left_widths, right_widths, FirstCut}
use Rattle.slices.proofs.Ends.{ends_past}
use Rattle.slices.proofs.Cuts.{one_first_cut}
use Rattle.slicer.specs.inner.Cutting.{slices_in, SidesCut}
use Rattle.runs.specs.inner.Runs.{Runs, Seated}
use Rattle.run_pairs.specs.inner.Taken.{State, Left, RunTaken}
use Rattle.run_sweep.specs.inner.Settled.{SettlesRuns}
use Rattle.worked_pieces.specs.Work.{Step}

-- ---- runs
unfoldable pub run_at : (ℕ → Bool) → ℕ → List ℕ → List ℕ → List ℕ → ℕ → Bool
run_at shut n h last first s =
    (leb s (get_or last s 0) && ltb (get_or last s 0) n)
    && ((leb 2 (get_or first (get_or last s 0) 0) && leb (get_or first (get_or last s 0) 0) s)
    && (below n (λ x. implies (leb (get_or first (get_or last s 0) 0) x && leb x (get_or last s 0)) (eqb (get_or last x 0) (get_or last s 0)))
    && implies (ltb s (get_or last s 0)) (eqb (get_or h (suc s) 0) (along (get_or h s 0) 1) && not (shut (suc s)))))

unfoldable pub are_runs : (ℕ → Bool) → ℕ → List ℕ → List ℕ → List ℕ → Bool
are_runs shut n h last first = below n (λ s. implies (leb 2 s) (run_at shut n h last first s))

module _ (shut : ℕ → Bool) (n : ℕ) (h last first : List ℕ) (e : are_runs shut n h last first ≡ true) where
  abbrev L : ℕ → ℕ
  L s = get_or last s 0

  abbrev F : ℕ → ℕ
  F s = get_or first (get_or last s 0) 0

  abbrev inner : ℕ → Bool
  inner s = below n (λ x. implies (leb (F s) x && leb x (L s)) (eqb (L x) (L s)))

  abbrev on : ℕ → Bool
  on s = implies (ltb s (L s)) (eqb (get_or h (suc s) 0) (along (get_or h s 0) 1) && not (shut (suc s)))

  at : (s : ℕ) → 2 ≤ s → s < n → (leb s (L s) && ltb (L s) n) && ((leb 2 (F s) && leb (F s) s) && (inner s && on s)) ≡ true
  unfolding are_runs run_at
  at s two small = implied (leb 2 s) (run_at shut n h last first s) (below_at n (λ x. implies (leb 2 x) (run_at shut n h last first x)) e s small) (le-leb 2 s two)

  ended : (s : ℕ) → 2 ≤ s → s < n → leb s (L s) && ltb (L s) n ≡ true
  ended s two small = and_first (leb s (L s) && ltb (L s) n) ((leb 2 (F s) && leb (F s) s) && (inner s && on s)) (at s two small)

  behind : (s : ℕ) → 2 ≤ s → s < n → (leb 2 (F s) && leb (F s) s) && (inner s && on s) ≡ true
  behind s two small = and_second (leb s (L s) && ltb (L s) n) ((leb 2 (F s) && leb (F s) s) && (inner s && on s)) (at s two small)

  started : (s : ℕ) → 2 ≤ s → s < n → leb 2 (F s) && leb (F s) s ≡ true
  started s two small = and_first (leb 2 (F s) && leb (F s) s) (inner s && on s) (behind s two small)

  last_two : (s : ℕ) → 2 ≤ s → s < n → inner s && on s ≡ true
  last_two s two small = and_second (leb 2 (F s) && leb (F s) s) (inner s && on s) (behind s two small)

  goes-on : (s : ℕ) → 2 ≤ s → s < L s → s < n → eqb (get_or h (suc s) 0) (along (get_or h s 0) 1) && not (shut (suc s)) ≡ true
  goes-on s two less small = implied (ltb s (L s)) (eqb (get_or h (suc s) 0) (along (get_or h s 0) 1) && not (shut (suc s))) (and_second (inner s) (on s) (last_two s two small)) (lt-ltb s (L s) less)

  pub runs_are : Runs shut n h last first
  runs_are =
      record {
        ends = λ s two small. (
          leb-true s (L s) (and_first (leb s (L s)) (ltb (L s) n) (ended s two small)),
          ltb-true (L s) n (and_second (leb s (L s)) (ltb (L s) n) (ended s two small)),
        );
        starts = λ s two small. (
          leb-true 2 (F s) (and_first (leb 2 (F s)) (leb (F s) s) (started s two small)),
          leb-true (F s) s (and_second (leb 2 (F s)) (leb (F s) s) (started s two small)),
        );
        whole = λ s x two small a b.
            let far : L s < n = ltb-true (L s) n (and_second (leb s (L s)) (ltb (L s) n) (ended s two small)) in
            eqb-true (L x) (L s)
            (implied (leb (F s) x && leb x (L s)) (eqb (L x) (L s))
            (below_at n (λ y. implies (leb (F s) y && leb y (L s)) (eqb (L y) (L s))) (and_first (inner s) (on s) (last_two s two small)) x (omega arith))
            (and_both (leb (F s) x) (leb x (L s)) (le-leb (F s) x a) (le-leb x (L s) b)));
        side = λ s two less small. eqb-true (get_or h (suc s) 0) (along (get_or h s 0) 1) (and_first (eqb (get_or h (suc s) 0) (along (get_or h s 0) 1)) (not (shut (suc s))) (goes-on s two less small));
        inside = λ s two less small. not-true (shut (suc s)) (and_second (eqb (get_or h (suc s) 0) (along (get_or h s 0) 1)) (not (shut (suc s))) (goes-on s two less small));
      }

-- the same of what they link to
unfoldable pub are_seated : (ℕ → Bool) → ℕ → List ℕ → List ℕ → Bool
are_seated shut n h last = below n (λ s. implies (leb 2 s && (ltb s (get_or last s 0) && leb 2 (get_or h s 0))) (not (shut (suc (get_or h s 0)))))

pub seated_are : (shut : ℕ → Bool) (n : ℕ) (h last : List ℕ) → are_seated shut n h last ≡ true → Seated shut n h last
unfolding are_seated
seated_are shut n h last e s two less small place =
    not-true (shut (suc (get_or h s 0)))
    (implied (leb 2 s && (ltb s (get_or last s 0) && leb 2 (get_or h s 0))) (not (shut (suc (get_or h s 0))))
    (below_at n (λ x. implies (leb 2 x && (ltb x (get_or last x 0) && leb 2 (get_or h x 0))) (not (shut (suc (get_or h x 0))))) e s small)
    (and_both (leb 2 s) (ltb s (get_or last s 0) && leb 2 (get_or h s 0)) (le-leb 2 s two)
    (and_both (ltb s (get_or last s 0)) (leb 2 (get_or h s 0)) (lt-ltb s (get_or last s 0) less) (le-leb 2 (get_or h s 0) place))))

-- links point down
low_are : (h : List ℕ) → below (length h) (λ i. leb (get_or h i 0) i) ≡ true → Low h
low_are h e i = go (lt_or_le i (length h))
  where
    go : (i < length h) ⊎ (length h ≤ i) → get_or h i 0 ≤ i
    go (inl l) = leb-true (get_or h i 0) i (below_at (length h) (λ j. leb (get_or h j 0) j) e i l)
    go (inr l) = omega (arith, get_or-eq_default h 0 {n = i} l)

-- a state
unfoldable pub is_state : (ℕ → Bool) → List ℕ → List ℕ → List ℕ → Bool
is_state shut h last first =
    are_runs shut (length h) h last first
    && (below (length h) (λ i. leb (get_or h i 0) i)
    && ((leb (length h) 4098 && (leb (length h) (length last) && leb (length h) (length first))) && eqb (rep (roots_of h) 1) 1))

pub state_is : (shut : ℕ → Bool) (h last first : List ℕ) → is_state shut h last first ≡ true → State shut h last first
unfolding is_state
state_is shut h last first e =
    let a = and_second (are_runs shut (length h) h last first) (below (length h) (λ i. leb (get_or h i 0) i) && (room && one)) e in
    let b = and_second (below (length h) (λ i. leb (get_or h i 0) i)) (room && one) a in
    let c = and_first room one b in
    let d = and_second (leb (length h) 4098) (leb (length h) (length last) && leb (length h) (length first)) c in
    record {
      runs = runs_are shut (length h) h last first (and_first (are_runs shut (length h) h last first) (below (length h) (λ i. leb (get_or h i 0) i) && (room && one)) e);
      low = low_are h (and_first (below (length h) (λ i. leb (get_or h i 0) i)) (room && one) a);
      few = leb-true (length h) 4098 (and_first (leb (length h) 4098) (leb (length h) (length last) && leb (length h) (length first)) c);
      last_room = leb-true (length h) (length last) (and_first (leb (length h) (length last)) (leb (length h) (length first)) d);
      first_room = leb-true (length h) (length first) (and_second (leb (length h) (length last)) (leb (length h) (length first)) d);
      one = eqb-true (rep (roots_of h) 1) 1 (and_second room one b);
    }
  where
    room : Bool
    room = leb (length h) 4098 && (leb (length h) (length last) && leb (length h) (length first))

    one : Bool
    one = eqb (rep (roots_of h) 1) 1

-- ---- a first cut
unfoldable pub same_ends : List ℕ → List ℕ → List ℕ → ℕ → Bool
same_ends ws L R n = below (suc n) (λ k. cond (ends_at ws k) (ends_at L k || ends_at R k) (not (ends_at L k || ends_at R k)))

told : (a b : Bool) → cond a b (not b) ≡ true → a ≡ b
told true b e = sym e
told false true e = e
told false false e = refl

unfoldable pub each_some : List ℕ → Bool
each_some [] = true
each_some (w ∷ ws) = leb 1 w && each_some ws

some_each : (ws : List ℕ) → each_some ws ≡ true → Some ws
unfolding each_some
some_each [] e = none
some_each (w ∷ ws) e = some (leb-true 1 w (and_first (leb 1 w) (each_some ws) e)) (some_each ws (and_second (leb 1 w) (each_some ws) e))

pub cut_is : (t : List Row) (r : Row) (cut : List Slice) (n : ℕ) → total (slice_widths cut) ≡ n → total (left_widths t r) ≡ n → total (right_widths t r) ≡ n
    → same_ends (slice_widths cut) (left_widths t r) (right_widths t r) n ≡ true → each_some (slice_widths cut) ≡ true → spelled_pairs cut ≡ pairs_of t r → FirstCut t r cut
unfolding same_ends
cut_is t r cut n ew el er same some-all spelled = record { borders = λ k. go k (lt_or_le n k); some = some_each (slice_widths cut) some-all; spells = spelled }
  where
    ws : List ℕ
    ws = slice_widths cut

    L : List ℕ
    L = left_widths t r

    R : List ℕ
    R = right_widths t r

    go : (k : ℕ) → (n < k) ⊎ (k ≤ n) → ends_at ws k ≡ ends_at L k || ends_at R k
    go k (inl l) = rw (ends_past ws k (omega arith), ends_past L k (omega arith), ends_past R k (omega arith))
    go k (inr l) =
        told (ends_at ws k) (ends_at L k || ends_at R k)
        (below_at (suc n) (λ j. cond (ends_at ws j) (ends_at L j || ends_at R j) (not (ends_at L j || ends_at R j))) same k (omega arith))

-- what was cut is it
pub cut_written : (t : List Row) (r : ℕ) (cut : List Slice) → FirstCut t (row_at t r) cut → (cuts : List ℕ) (n : ℕ) → SidesCut t r cuts n → slices_in cuts n ≡ cut
cut_written t r cut F cuts n C = one_first_cut t (row_at t r) (slices_in cuts n) cut C.cut F

-- ---- a step, and what was swept
pub step_is : (shut : ℕ → Bool) (a b count : ℕ) (h last : List ℕ) (s : Step) → ltb s.what 2 ≡ true → leb 1 s.pairs && leb s.pairs count ≡ true
    → Left h last a b count s.pairs → is_state shut s.on.links s.on.last s.on.first ≡ true
    → roots_of s.on.links ≡ run (roots_of h) (run_pairs a b s.pairs) → links (roots_of h) (run_pairs a b s.pairs) ≡ cond (eqb s.what 1) s.pairs 0
    → RunTaken shut a b count h last s.on.links s.on.last s.on.first s.what s.pairs
step_is shut a b count h last s ok fits left state next counted =
    record {
      some = leb-true 1 s.pairs (and_first (leb 1 s.pairs) (leb s.pairs count) fits);
      most = leb-true s.pairs count (and_second (leb 1 s.pairs) (leb s.pairs count) fits);
      left = λ z. left;
      state = λ z. state_is shut s.on.links s.on.last s.on.first state;
      next = λ z. next;
      ties = λ z. counted;
      clash = λ z. absurd (omega (arith, z, ltb-true s.what 2 ok));
    }

module _ (table : List ℕ) (h last first h' last' first' : List ℕ) (shut : ℕ → Bool) (row ties : ℕ)
    (E : EquationsTaken (rows_of table) (count_up 0 (suc (suc (bits_of (rows_of table))))) 0 (length (rows_of table)) (equation_pairs (rows_of table)) h row ties)
    (S : State shut h last first) (promised : SettlesRuns h last first h' last' first') where
  pub swept_is : (n : ℕ) (end : List ℕ) → conflict_at (count_up 0 (suc (suc (bits_of (rows_of table))))) (equation_pairs (rows_of table)) ≡ length (rows_of table)
      → links_before (count_up 0 (suc (suc (bits_of (rows_of table))))) (equation_pairs (rows_of table)) ≡ n
      → run_all (count_up 0 (suc (suc (bits_of (rows_of table))))) (equation_pairs (rows_of table)) ≡ end
      → (row ≡ length (rows_of table)) × (ties ≡ n) × (h' ≡ end)
  swept_is n end never counted all =
      let whole : row ≡ length (rows_of table) = omega (arith, E.row_is, never) in
      (whole, E.ties_are ∙ counted, (promised shut S).roots ∙ E.classes_are whole ∙ all)
