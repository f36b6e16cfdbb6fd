-- The starts of a run taken one after the other: those before place i are counted and written.
use mathlib.Core.Path.{◌≡◌, refl, sym, ◌∙◌, ap}
use mathlib.Core.Bool.{Bool, true, false, cond}
use mathlib.Core.List.{List, [], ◌∷◌, ◌++◌, append-nil, append_assoc}
use Prim.Native.Nat.{ℕ, zero, suc, ◌+◌, ◌-◌, ◌≤◌, ◌<◌}
use native.Mathlib.Omega.{arith}
use native.Mathlib.Numerals.{add-one}
use lib.ListN.{length, get_or, take, drop, set, length-append, length-drop}
use lib.Seq.{drop-cons}
use borrow.Author.Tests.{le-leb, lt-leb}
use Rattle.laws.specs.Buffers.{overwrite}
use Rattle.laws.proofs.Buffers.{overwrite_more, overwrite_none}
use Rattle.words.specs.inner.Plan.{meets_plan}
use Rattle.windows.specs.Call.{starts_from}
use Rattle.positions.specs.inner.Starts.{meets_ahead}

-- The starts before place i.
unfoldable pub starts_to : (List ℕ → Bool) → List ℕ → ℕ → List ℕ
starts_to f words zero = []
starts_to f words (suc i) = starts_to f words i ++ cond (f (drop i words)) (i ∷ []) []

-- with those of the rest they are all
starts_join : (f : List ℕ → Bool) (words : List ℕ) (i : ℕ) → i ≤ length words → starts_to f words i ++ starts_from f i (drop i words) ≡ starts_from f 0 words
unfolding starts_to starts_from
starts_join f words zero l = refl
starts_join f words (suc i) l =
    append_assoc (starts_to f words i) (cond (f (drop i words)) (i ∷ []) []) (starts_from f (suc i) (drop (suc i) words))
    ∙ ap (λ (s : List ℕ). starts_to f words i ++ s) (rw (drop-cons words i 0 l) (first (f (get_or words i 0 ∷ drop (suc i) words))))
    ∙ starts_join f words i (omega arith)
  where
    first : (b : Bool) → cond b (i ∷ []) [] ++ starts_from f (suc i) (drop (suc i) words) ≡ cond b (i ∷ starts_from f (suc i) (drop (suc i) words)) (starts_from f (suc i) (drop (suc i) words))
    first true = refl
    first false = refl

-- the starts before place i of a run are counted, and written to the beginning of a list
pub record Taking (f : List ℕ → Bool) (words base list : List ℕ) (found i : ℕ) : Type 0 where
  pub counted : found ≡ length (starts_to f words i)
  pub few : found ≤ i
  pub written : list ≡ overwrite (starts_to f words i) base

pub taking_first : (f : List ℕ → Bool) (words base : List ℕ) → Taking f words base base 0 0
unfolding starts_to
taking_first f words base = record { counted = refl; few = omega arith; written = overwrite_none base }

-- ---- windows of k words against a plan
module _ (plan words base : List ℕ) (k : ℕ) where
  abbrev f : List ℕ → Bool
  f = meets_ahead plan k

  -- the window at i
  ahead : (i : ℕ) → i + k ≤ length words → f (drop i words) ≡ meets_plan plan (take k (drop i words))
  unfolding meets_ahead
  ahead i l = rw (le-leb k (length (drop i words)) (omega (arith, length-drop i words))) refl

  pub taking_more : (list list' : List ℕ) (found found' i : ℕ) (window : List ℕ) → Taking (meets_ahead plan k) words base list found i → i + k ≤ length words
      → window ≡ take k (drop i words)
      → found' ≡ cond (meets_plan plan window) (found + 1) found → list' ≡ cond (meets_plan plan window) (set list found i) list
      → Taking (meets_ahead plan k) words base list' found' (i + 1)
  unfolding starts_to
  taking_more list list' found found' i window T l w c s =
      go (meets_plan plan window) c s (ap (starts_to f words) (add-one i) ∙ ap (λ (b : Bool). starts_to f words i ++ cond b (i ∷ []) []) (ahead i l ∙ ap (meets_plan plan) (sym w)))
    where
      go : (b : Bool) → found' ≡ cond b (found + 1) found → list' ≡ cond b (set list found i) list → starts_to f words (i + 1) ≡ starts_to f words i ++ cond b (i ∷ []) []
          → Taking f words base list' found' (i + 1)
      go true c s e =
          record {
            counted = omega (arith, c, T.counted, ap length e, length-append (starts_to f words i) (i ∷ []));
            few = omega (arith, c, T.few);
            written =
                s ∙ ap (λ (o : List ℕ). set o found i) T.written ∙ overwrite_more (starts_to f words i) base i found (sym T.counted) ∙ ap (λ (x : List ℕ). overwrite x base) (sym e);
          }
      go false c s e =
          let e' : starts_to f words (i + 1) ≡ starts_to f words i = e ∙ append-nil (starts_to f words i) in
          record {
            counted = c ∙ T.counted ∙ ap length (sym e');
            few = omega (arith, c, T.few);
            written = s ∙ T.written ∙ ap (λ (x : List ℕ). overwrite x base) (sym e');
          }

  -- behind the last window no start is left
  ends : (rest : List ℕ) → length rest < k → (i : ℕ) → starts_from (meets_ahead plan k) i rest ≡ []
  unfolding starts_from meets_ahead
  ends [] l i = refl
  ends (w ∷ rest) l i = rw (lt-leb k (suc (length rest)) l) (ends rest (omega arith) (suc i))

  pub taking_all : (list : List ℕ) (found i : ℕ) → 1 ≤ k → i ≡ length words + 1 - k → Taking (meets_ahead plan k) words base list found i
      → (found ≡ length (starts_from (meets_ahead plan k) 0 words)) × (list ≡ overwrite (starts_from (meets_ahead plan k) 0 words) base)
  taking_all list found i one e T =
      let all : starts_to f words i ≡ starts_from f 0 words =
      sym (append-nil (starts_to f words i))
      ∙ ap (λ (s : List ℕ). starts_to f words i ++ s) (sym (ends (drop i words) (omega (arith, length-drop i words)) i))
      ∙ starts_join f words i (omega arith) in
      (T.counted ∙ ap length all, T.written ∙ ap (λ (s : List ℕ). overwrite s base) all)
