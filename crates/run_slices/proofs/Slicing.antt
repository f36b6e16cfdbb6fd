-- The pairs of a slice, taken run by run: what is done and what is left make the whole.
use mathlib.Core.Path.{◌≡◌, refl, sym, ap, ap₂, ◌∙◌}
use mathlib.Core.Logic.{◌≢◌}
use mathlib.Core.Bool.{Bool, true, false, cond}
use mathlib.Core.List.{List, ◌++◌}
use Prim.Native.Nat.{ℕ, ◌+◌, ◌-◌, ◌%◌, ◌≤◌, ◌<◌, min, max}
use native.Mathlib.Omega.{arith}
use lib.Dec.{eqb}
use lib.ListN.{length}
use Rattle.answers.specs.Pairs.{Pair}
use Rattle.answers.specs.inner.Classes.{rep, run, links}
use Rattle.classes.specs.inner.Links.{roots_of, pair}
use Rattle.classes.proofs.Links.{Canon}
use Rattle.classes.proofs.Roots.{stands_roots}
use Rattle.classes.proofs.Taking.{a_conflict}
use Rattle.slices.specs.Along.{along, run_pairs}
use Rattle.slices.proofs.SideBySide.{along_more, along_none, pairs_split}
use Rattle.run_pairs.specs.inner.Taken.{State, RunTaken, TakesRun}
use Rattle.run_pairs.proofs.Together.{run_both, links_both, canon_run, clash_stays}
use Rattle.run_slices.specs.inner.Slices.{InSteps, none_left, step, SliceTaken}

-- `done` pairs of a slice were taken, in steps: whatever steps take the rest make with these the steps of the whole
pub record Going (shut : ℕ → Bool) (left right width : ℕ) (h₀ last₀ first₀ h last first : List ℕ) (a b len ties : ℕ) : Type 0 where
  pub state : State shut h last first
  pub same_len : length h ≡ length h₀
  pub done : ℕ
  pub all : done + len ≡ width
  pub left_is : 0 < len → a ≡ along left done
  pub right_is : 0 < len → b ≡ along right done
  pub roots : roots_of h ≡ run (roots_of h₀) (run_pairs left right done)
  pub counted : ties ≡ links (roots_of h₀) (run_pairs left right done)
  pub in_steps : (h' last' first' : List ℕ) → InSteps shut h' last' first' (along left done) (along right done) len h last first
      → InSteps shut h' last' first' left right width h₀ last₀ first₀

pub going_first : (shut : ℕ → Bool) (left right width : ℕ) (h last first : List ℕ) → State shut h last first → Going shut left right width h last first h last first left right width 0
unfolding run links run_pairs
going_first shut left right width h last first S = record {
  state = S;
  same_len = refl;
  done = 0;
  all = omega arith;
  left_is = λ z. sym (along_none left);
  right_is = λ z. sym (along_none right);
  roots = refl;
  counted = refl;
  in_steps = λ h' last' first' more. rw (along_none left, along_none right) at more;
}

module _ (shut : ℕ → Bool) (left right width : ℕ) (h₀ last₀ first₀ h last first : List ℕ) (a b len ties : ℕ) (G : Going shut left right width h₀ last₀ first₀ h last first a b len ties) (some : 0 < len)
    (lefts : (k : ℕ) → k < width → along left k < length h₀) (rights : (k : ℕ) → k < width → along right k < length h₀) where
  pub left_small : a < length h
  left_small = omega (arith, G.left_is some, lefts G.done (omega (arith, G.all)), G.same_len)

  pub right_small : b < length h
  right_small = omega (arith, G.right_is some, rights G.done (omega (arith, G.all)), G.same_len)

  split_at : (n m : ℕ) → run_pairs left right (G.done + n + m) ≡ (run_pairs left right G.done ++ run_pairs a b n) ++ run_pairs (along left (G.done + n)) (along right (G.done + n)) m
  split_at n m =
      pairs_split left right (G.done + n) m
      ∙ ap (λ (qs : List Pair). qs ++ run_pairs (along left (G.done + n)) (along right (G.done + n)) m)
      (pairs_split left right G.done n ∙ ap₂ (λ (x y : ℕ). run_pairs left right G.done ++ run_pairs x y n) (sym (G.left_is some)) (sym (G.right_is some)))

  module _ (h' last' first' : List ℕ) (what n : ℕ) (T : RunTaken shut a b len h last h' last' first' what n) where
    pub going_more : what ≢ 2 → (a' b' len' ties' : ℕ) → a' ≡ along a n % 65536 → b' ≡ along b n % 65536 → len' ≡ len - n → ties' ≡ ties + cond (eqb what 1) n 0 → length h' ≡ length h
        → Going shut left right width h₀ last₀ first₀ h' last' first' a' b' len' ties'
    going_more ok a' b' len' ties' ea eb el et eh =
        let z : G.done + n + 0 ≡ G.done + n = omega arith in
        let pairs : run_pairs left right (G.done + n) ≡ run_pairs left right G.done ++ run_pairs a b n =
        pairs_split left right G.done n ∙ ap₂ (λ (x y : ℕ). run_pairs left right G.done ++ run_pairs x y n) (sym (G.left_is some)) (sym (G.right_is some)) in
        record {
          state = T.state ok;
          same_len = eh ∙ G.same_len;
          done = G.done + n;
          all = omega (arith, G.all, T.most);
          left_is = λ l.
              let y : along a n ≡ along left (G.done + n) = ap (λ (x : ℕ). along x n) (G.left_is some) ∙ along_more left G.done n in
              omega (arith, y, lefts (G.done + n) (omega (arith, G.all, T.most)), G.same_len, G.state.few);
          right_is = λ l.
              let y : along b n ≡ along right (G.done + n) = ap (λ (x : ℕ). along x n) (G.right_is some) ∙ along_more right G.done n in
              omega (arith, y, rights (G.done + n) (omega (arith, G.all, T.most)), G.same_len, G.state.few);
          roots = T.next ok ∙ ap (λ (c : List ℕ). run c (run_pairs a b n)) G.roots ∙ sym (ap (run (roots_of h₀)) pairs ∙ run_both (roots_of h₀) (run_pairs left right G.done) (run_pairs a b n));
          counted =
              omega (
                arith,
                G.counted,
                T.ties ok,
                ap (λ (c : List ℕ). links c (run_pairs a b n)) G.roots,
                ap (links (roots_of h₀)) pairs ∙ links_both (roots_of h₀) (run_pairs left right G.done) (run_pairs a b n),
              );
          in_steps = λ h'' last'' first'' more.
              G.in_steps h'' last'' first''
              (step what n ok (rw (G.left_is some, G.right_is some) at T) (rw (along_more left G.done n, along_more right G.done n, sym el) more));
        }

    pub going_clash : what ≡ 2 → (h'' last'' first'' : List ℕ) (t : ℕ) → SliceTaken shut left right width h₀ last₀ first₀ h'' last'' first'' true t
    unfolding run run_pairs
    going_clash bad h'' last'' first'' t =
        record {
          state = λ z. absurd (told z);
          in_steps = λ z. absurd (told z);
          next = λ z. absurd (told z);
          counted = λ z. absurd (told z);
          clash = λ z. whole;
        }
      where
        told : true ≡ false → ⊥
        told z = let w : ◌≡◌ {A = ℕ} 0 1 = cc in omega arith

        c : List ℕ
        c = roots_of h

        K : Canon (roots_of h)
        K = (stands_roots h G.state.low).canon

        first_pair : rep (run (roots_of h) (run_pairs a b 1)) 1 ≡ 0
        first_pair = a_conflict (roots_of h) K (pair a b) (T.clash bad)

        whole : rep (run (roots_of h₀) (run_pairs left right width)) 1 ≡ 0
        whole =
            let e : width ≡ G.done + 1 + (len - 1) = omega (arith, G.all) in
            let r : run (roots_of h₀) (run_pairs left right G.done ++ run_pairs a b 1) ≡ run (roots_of h) (run_pairs a b 1) =
            run_both (roots_of h₀) (run_pairs left right G.done) (run_pairs a b 1) ∙ ap (λ (d : List ℕ). run d (run_pairs a b 1)) (sym G.roots) in
            ap (λ (d : List ℕ). rep d 1)
            (ap (λ (w : ℕ). run (roots_of h₀) (run_pairs left right w)) e ∙ ap (run (roots_of h₀)) (split_at 1 (len - 1))
            ∙ run_both (roots_of h₀) (run_pairs left right G.done ++ run_pairs a b 1) (run_pairs (along left (G.done + 1)) (along right (G.done + 1)) (len - 1))
            ∙ ap (λ (d : List ℕ). run d (run_pairs (along left (G.done + 1)) (along right (G.done + 1)) (len - 1))) r)
            ∙ clash_stays (run (roots_of h) (run_pairs a b 1)) (canon_run (roots_of h) K (run_pairs a b 1)) (run_pairs (along left (G.done + 1)) (along right (G.done + 1)) (len - 1)) first_pair

-- no more ties than pairs
pub gained_few : (ties len width n least what more wide : ℕ) → ties + len ≤ width → least ≡ min n len → more ≡ cond (eqb what 1) least 0 → wide ≡ more → {len' : ℕ} → len' ≡ len - n
    → ties + wide + len' ≤ width
gained_few ties len width n least what more wide l es em ew {len'} el = go (eqb what 1) em
  where
    go : (b : Bool) → more ≡ cond b least 0 → ties + wide + len' ≤ width
    go true e = omega arith
    go false e = omega arith

-- the same by the numbers of the code
pub going_step : (shut : ℕ → Bool) (left right width : ℕ) (h₀ last₀ first₀ h last first : List ℕ) (a b len ties : ℕ) → Going shut left right width h₀ last₀ first₀ h last first a b len ties → 0 < len
    → ((k : ℕ) → k < width → along left k < length h₀) → ((k : ℕ) → k < width → along right k < length h₀) → (h' last' first' : List ℕ) (what r : ℕ) → TakesRun a b len h last first h' last' first' what r
    → what ≢ 2 → length h' ≡ length h → (n least more wide a' b' len' : ℕ) → n ≡ max r 1 → least ≡ min n len → more ≡ cond (eqb what 1) least 0 → wide ≡ more
    → a' ≡ along a n % 65536 → b' ≡ along b n % 65536 → len' ≡ len - n → Going shut left right width h₀ last₀ first₀ h' last' first' a' b' len' (ties + wide)
going_step shut left right width h₀ last₀ first₀ h last first a b len ties G some lefts rights h' last' first' what r T ok eh n least more wide a' b' len' en es em ew ea eb el =
    let K : RunTaken shut a b len h last h' last' first' what r =
    T shut G.state (left_small shut left right width h₀ last₀ first₀ h last first a b len ties G some lefts rights) (right_small shut left right width h₀ last₀ first₀ h last first a b len ties G some lefts rights) some in
    let z : n ≡ r = omega (arith, K.some) in
    let y : least ≡ r = omega (arith, K.most) in
    going_more shut left right width h₀ last₀ first₀ h last first a b len ties G some lefts rights h' last' first' what r K ok a' b' len' (ties + wide)
    (ea ∙ ap (λ (x : ℕ). along a x % 65536) z) (eb ∙ ap (λ (x : ℕ). along b x % 65536) z) (omega arith) (ap (λ (x : ℕ). ties + x) (ew ∙ em ∙ ap (λ (x : ℕ). cond {A = ℕ} (eqb what 1) x 0) y)) eh

pub going_stop : (shut : ℕ → Bool) (left right width : ℕ) (h₀ last₀ first₀ h last first : List ℕ) (a b len ties : ℕ) → Going shut left right width h₀ last₀ first₀ h last first a b len ties → 0 < len
    → ((k : ℕ) → k < width → along left k < length h₀) → ((k : ℕ) → k < width → along right k < length h₀) → (h' last' first' : List ℕ) (what r : ℕ) → TakesRun a b len h last first h' last' first' what r
    → what ≡ 2 → SliceTaken shut left right width h₀ last₀ first₀ h' last' first' true 0
going_stop shut left right width h₀ last₀ first₀ h last first a b len ties G some lefts rights h' last' first' what r T bad =
    let K : RunTaken shut a b len h last h' last' first' what r =
    T shut G.state (left_small shut left right width h₀ last₀ first₀ h last first a b len ties G some lefts rights) (right_small shut left right width h₀ last₀ first₀ h last first a b len ties G some lefts rights) some in
    going_clash shut left right width h₀ last₀ first₀ h last first a b len ties G some lefts rights h' last' first' what r K bad h' last' first' 0

pub going_done : (shut : ℕ → Bool) (left right width : ℕ) (h₀ last₀ first₀ h last first : List ℕ) (a b len ties : ℕ) → Going shut left right width h₀ last₀ first₀ h last first a b len ties → len ≤ 0
    → SliceTaken shut left right width h₀ last₀ first₀ h last first false ties
going_done shut left right width h₀ last₀ first₀ h last first a b len ties G l =
    let e : G.done ≡ width = omega (arith, G.all) in
    let none : len ≡ 0 = omega arith in
    record {
      state = λ z. G.state;
      in_steps = λ z. G.in_steps h last first (rw none none_left);
      next = λ z. G.roots ∙ ap (λ (w : ℕ). run (roots_of h₀) (run_pairs left right w)) e;
      counted = λ z. G.counted ∙ ap (λ (w : ℕ). links (roots_of h₀) (run_pairs left right w)) e;
      clash = λ z. absurd (let w : ◌≡◌ {A = ℕ} 0 1 = cc in omega arith);
    }
