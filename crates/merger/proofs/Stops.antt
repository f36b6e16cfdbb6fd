-- Where the call stops, and what is known where it does not. Assumes nothing.
use mathlib.Core.Path.{◌≡◌, refl, sym}
use mathlib.Core.Bool.{true, false, not, not-not}
use mathlib.Core.List.{List}
use mathlib.Core.Logic.{◌≢◌}
use Prim.Native.Nat.{ℕ, suc, ◌+◌, ◌/◌, ◌%◌, ◌<◌, ◌≤◌}
use native.Mathlib.Omega.{arith}
use native.Mathlib.Numerals.{add-one}
use lib.Dec.{eqb, ltb}
use lib.ListN.{length}
use borrow.Author.Tests.{eq-eqb, ne_eqb, lt-ltb, le-ltb, ltb-false, eqb-true, not-true, not-false}
use Rattle.laws.proofs.Bools.{or_first, or_second}
use Rattle.recordings.specs.Call.{wrong_recording}
use Rattle.merger.specs.inner.Passing.{stops}

module _ (k : ℕ) (numbers : List ℕ) where
  pub too_long : 65535 < length numbers → false ≡ not (wrong_recording k numbers)
  unfolding wrong_recording
  too_long l = rw (lt-ltb 65535 (length numbers) l)

  pub whole_is : length numbers ≤ 65535 → eqb (length numbers % (k + 1)) 0 ≡ not (wrong_recording k numbers)
  unfolding wrong_recording
  whole_is l = rw (le-ltb 65535 (length numbers) l, add-one k) (sym (not-not (eqb (length numbers % suc k) 0)))

  pub not-wrong : wrong_recording k numbers ≡ false → (length numbers ≤ 65535) × (length numbers % suc k ≡ 0)
  unfolding wrong_recording
  not-wrong h =
      let short = or_first (ltb 65535 (length numbers)) (not (eqb (length numbers % suc k) 0)) h in
      let whole = or_second (ltb 65535 (length numbers)) (not (eqb (length numbers % suc k) 0)) h in
      (ltb-false 65535 (length numbers) short, eqb-true (length numbers % suc k) 0 (not-false (eqb (length numbers % suc k) 0) whole))

  -- what `whole` tells
  pub wrong_whole : not (wrong_recording k numbers) ≡ true → wrong_recording k numbers ≡ false
  wrong_whole h = not-true (wrong_recording k numbers) h

  pub wrong_there : not (wrong_recording k numbers) ≡ false → wrong_recording k numbers ≡ true
  wrong_there h = not-false (wrong_recording k numbers) h

-- ---- whether a call stops, for each way
module _ (n : ℕ) (sent received : List ℕ) where
  pub none_stops : n ≡ 0 → stops n sent received ≡ true
  unfolding stops
  none_stops z = rw (eq-eqb n 0 z)

  module _ (some : 1 ≤ n) where
    some_is : eqb n 0 ≡ false
    some_is = ne_eqb n 0 (λ z. omega arith)

    pub odd_stops : n % 2 ≢ 0 → false ≡ not (stops n sent received)
    unfolding stops
    odd_stops o = let e : n % 2 ≡ 1 = omega arith in rw (some_is, eq-eqb (n % 2) 1 e)

    module _ (even : n % 2 ≡ 0) where
      even_is : eqb (n % 2) 1 ≡ false
      even_is = ne_eqb (n % 2) 1 (λ z. omega arith)

      pub sent_stops : not (wrong_recording (n / 2) sent) ≡ false → false ≡ not (stops n sent received)
      unfolding stops
      sent_stops w = rw (some_is, even_is, wrong_there (n / 2) sent w)

      pub received_tells : not (wrong_recording (n / 2) sent) ≡ true → not (wrong_recording (n / 2) received) ≡ not (stops n sent received)
      unfolding stops
      received_tells w = rw (some_is, even_is, wrong_whole (n / 2) sent w) refl
