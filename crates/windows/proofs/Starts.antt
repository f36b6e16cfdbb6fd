-- The starts at which what is left of a run passes a test: which they are, and that they rise.
use mathlib.Core.Path.{◌≡◌, refl, sym, ◌∙◌, ap}
use mathlib.Core.Bool.{Bool, true, false, ◌&&◌, cond}
use mathlib.Core.Logic.{◌⊎◌, inl, inr}
use mathlib.Core.List.{List, [], ◌∷◌, ◌++◌}
use Prim.Native.Nat.{ℕ, zero, suc, ◌+◌, ◌-◌, ◌≤◌, ◌<◌}
use native.Mathlib.Omega.{arith}
use lib.Dec.{leb, ltb}
use lib.ListN.{length, get_or, drop}
use borrow.Author.Tests.{eq-eqb, ne_eqb, le-leb, lt-leb, lt-ltb, le-ltb}
use Rattle.laws.specs.Lists.{count_up, member, distinct}
use Rattle.laws.proofs.Numbers.{lt_or_le}
use Rattle.windows.specs.Call.{starts_from}
use Rattle.windows.specs.Positions.{ending_by}

ltb_suc : (j n : ℕ) → ltb (suc j) (suc n) ≡ ltb j n
ltb_suc j n = go (lt_or_le j n)
  where
    go : (j < n) ⊎ (n ≤ j) → ltb (suc j) (suc n) ≡ ltb j n
    go (inl l) = lt-ltb (suc j) (suc n) (omega arith) ∙ sym (lt-ltb j n l)
    go (inr l) = le-ltb (suc j) (suc n) (omega arith) ∙ sym (le-ltb j n l)

module _ (f : List ℕ → Bool) where
  -- none below the first number
  pub starts_low : (i : ℕ) (words : List ℕ) (j : ℕ) → j < i → member j (starts_from f i words) ≡ false
  unfolding starts_from member
  starts_low i [] j l = refl
  starts_low i (w ∷ words) j l = go (f (w ∷ words)) (starts_low (suc i) words j (omega arith))
    where
      go : (b : Bool) → member j (starts_from f (suc i) words) ≡ false → member j (cond b (i ∷ starts_from f (suc i) words) (starts_from f (suc i) words)) ≡ false
      go true h = rw (ne_eqb j i (omega arith)) h
      go false h = h

  -- which they are
  pub starts_are : (i : ℕ) (words : List ℕ) (j : ℕ) → member (i + j) (starts_from f i words) ≡ ltb j (length words) && f (drop j words)
  unfolding starts_from member
  starts_are i [] j = rw (le-ltb j 0 (omega arith)) refl
  starts_are i (w ∷ words) zero =
      let e : i + 0 ≡ i = omega arith in
      rw (e, lt-ltb 0 (suc (length words)) (omega arith)) (go (f (w ∷ words)))
    where
      go : (b : Bool) → member i (cond b (i ∷ starts_from f (suc i) words) (starts_from f (suc i) words)) ≡ b
      go true = rw (eq-eqb i i refl) refl
      go false = starts_low (suc i) words i (omega arith)
  starts_are i (w ∷ words) (suc j) =
      let e : suc i + j ≡ i + suc j = omega arith in
      rw (ltb_suc j (length words)) (go (f (w ∷ words)) (ap (λ (n : ℕ). member n (starts_from f (suc i) words)) (sym e) ∙ starts_are (suc i) words j))
    where
      go : (b : Bool) → member (i + suc j) (starts_from f (suc i) words) ≡ ltb j (length words) && f (drop j words)
          → member (i + suc j) (cond b (i ∷ starts_from f (suc i) words) (starts_from f (suc i) words)) ≡ ltb j (length words) && f (drop j words)
      go true h = rw (ne_eqb (i + suc j) i (omega arith)) h
      go false h = h

  -- they rise
  starts-from : (i : ℕ) (words : List ℕ) (j : ℕ) → j < length (starts_from f i words) → i ≤ get_or (starts_from f i words) j 0
  unfolding starts_from
  starts-from i [] j l = absurd (omega arith)
  starts-from i (w ∷ words) j l = go (f (w ∷ words)) j l (starts-from (suc i) words)
    where
      go : (b : Bool) (n : ℕ) → n < length (cond b (i ∷ starts_from f (suc i) words) (starts_from f (suc i) words))
          → ((m : ℕ) → m < length (starts_from f (suc i) words) → suc i ≤ get_or (starts_from f (suc i) words) m 0)
          → i ≤ get_or (cond b (i ∷ starts_from f (suc i) words) (starts_from f (suc i) words)) n 0
      go true zero m h = omega arith
      go true (suc n) m h = omega (arith, h n (omega arith))
      go false n m h = omega (arith, h n m)

  pub starts_rise : (i : ℕ) (words : List ℕ) (j : ℕ) → suc j < length (starts_from f i words)
      → get_or (starts_from f i words) j 0 < get_or (starts_from f i words) (suc j) 0
  unfolding starts_from
  starts_rise i [] j l = absurd (omega arith)
  starts_rise i (w ∷ words) j l = go (f (w ∷ words)) j l (starts_rise (suc i) words)
    where
      go : (b : Bool) (n : ℕ) → suc n < length (cond b (i ∷ starts_from f (suc i) words) (starts_from f (suc i) words))
          → ((m : ℕ) → suc m < length (starts_from f (suc i) words) → get_or (starts_from f (suc i) words) m 0 < get_or (starts_from f (suc i) words) (suc m) 0)
          → get_or (cond b (i ∷ starts_from f (suc i) words) (starts_from f (suc i) words)) n 0 < get_or (cond b (i ∷ starts_from f (suc i) words) (starts_from f (suc i) words)) (suc n) 0
      go true zero m h = omega (arith, starts-from (suc i) words 0 (omega arith))
      go true (suc n) m h = h n (omega arith)
      go false n m h = h n m

  pub starts_once : (i : ℕ) (words : List ℕ) → distinct (starts_from f i words) ≡ length (starts_from f i words)
  unfolding starts_from distinct
  starts_once i [] = refl
  starts_once i (w ∷ words) = go (f (w ∷ words)) (starts_once (suc i) words)
    where
      go : (b : Bool) → distinct (starts_from f (suc i) words) ≡ length (starts_from f (suc i) words)
          → distinct (cond b (i ∷ starts_from f (suc i) words) (starts_from f (suc i) words)) ≡ length (cond b (i ∷ starts_from f (suc i) words) (starts_from f (suc i) words))
      go true h = rw (starts_low (suc i) words i (omega arith)) (omega arith)
      go false h = h

-- a test that always fails
pub starts_none : (i : ℕ) (words : List ℕ) → starts_from (λ rest. false) i words ≡ []
unfolding starts_from
starts_none i [] = refl
starts_none i (w ∷ words) = starts_none (suc i) words

-- a test that asks for k words, no more
pub starts_all : (k : ℕ) → 1 ≤ k → (i : ℕ) (words : List ℕ) → starts_from (λ rest. leb k (length rest)) i words ≡ count_up i (length words + 1 - k)
unfolding starts_from count_up
starts_all k one i [] = let z : 0 + 1 - k ≡ 0 = omega arith in rw z refl
starts_all k one i (w ∷ words) = go (lt_or_le (suc (length words)) k) (starts_all k one (suc i) words)
  where
    go : (suc (length words) < k) ⊎ (k ≤ suc (length words)) → starts_from (λ rest. leb k (length rest)) (suc i) words ≡ count_up (suc i) (length words + 1 - k)
        → cond (leb k (suc (length words))) (i ∷ starts_from (λ rest. leb k (length rest)) (suc i) words) (starts_from (λ rest. leb k (length rest)) (suc i) words) ≡ count_up i (suc (length words) + 1 - k)
    go (inl l) h =
        let y : length words + 1 - k ≡ 0 = omega arith in
        let z : suc (length words) + 1 - k ≡ 0 = omega arith in
        rw (lt-leb k (suc (length words)) l, z) (h ∙ ap (count_up (suc i)) y)
    go (inr l) h =
        let z : suc (length words) + 1 - k ≡ suc (length words + 1 - k) = omega arith in
        rw (le-leb k (suc (length words)) l, z) (ap (λ (s : List ℕ). i ∷ s) h)

-- those of a longer run that end inside the run
module _ (f : List ℕ → Bool) (k : ℕ) (one : 1 ≤ k) (more : List ℕ) (inside : (words : List ℕ) → k ≤ length words → f (words ++ more) ≡ f words)
    (short : (words : List ℕ) → length words < k → f words ≡ false) where
  ending_none : (i n : ℕ) (words : List ℕ) → n < i + k → ending_by k n (starts_from f i words) ≡ []
  unfolding starts_from ending_by
  ending_none i n [] l = refl
  ending_none i n (w ∷ words) l = go (f (w ∷ words)) (ending_none (suc i) n words (omega arith))
    where
      go : (b : Bool) → ending_by k n (starts_from f (suc i) words) ≡ [] → ending_by k n (cond b (i ∷ starts_from f (suc i) words) (starts_from f (suc i) words)) ≡ []
      go true h = rw (lt-leb (i + k) n l) h
      go false h = h

  pub ending_inside : (i : ℕ) (words : List ℕ) → ending_by k (i + length words) (starts_from f i (words ++ more)) ≡ starts_from f i words
  unfolding starts_from ending_by
  ending_inside i [] = ending_none i (i + 0) more (omega arith)
  ending_inside i (w ∷ words) =
      let e : suc i + length words ≡ i + suc (length words) = omega arith in
      go (lt_or_le (suc (length words)) k) (rw e at (ending_inside (suc i) words))
    where
      end : ℕ
      end = i + suc (length words)

      later : List ℕ
      later = starts_from f (suc i) (words ++ more)

      here : (b : Bool) → k ≤ suc (length words) → ending_by k end later ≡ starts_from f (suc i) words
          → ending_by k end (cond b (i ∷ later) later) ≡ cond b (i ∷ starts_from f (suc i) words) (starts_from f (suc i) words)
      here true l h = rw (le-leb (i + k) end (omega arith)) (ap (λ (s : List ℕ). i ∷ s) h)
      here false l h = h

      past : (b : Bool) → suc (length words) < k → ending_by k end later ≡ starts_from f (suc i) words → ending_by k end (cond b (i ∷ later) later) ≡ starts_from f (suc i) words
      past true l h = rw (lt-leb (i + k) end (omega arith)) h
      past false l h = h

      go : (suc (length words) < k) ⊎ (k ≤ suc (length words)) → ending_by k end later ≡ starts_from f (suc i) words
          → ending_by k end (cond (f (w ∷ (words ++ more))) (i ∷ later) later) ≡ cond (f (w ∷ words)) (i ∷ starts_from f (suc i) words) (starts_from f (suc i) words)
      go (inl l) h = rw (short (w ∷ words) l) (past (f (w ∷ (words ++ more))) l h)
      go (inr l) h = rw (inside (w ∷ words) l) (here (f (w ∷ words)) l h)
