-- The reader of a form: from the first bit on it stands at each in turn, and its source is what the form's pieces spell there. Assumes
-- nothing.
use mathlib.Core.Path.{◌≡◌, refl, sym, ◌∙◌, ap, ap₂, subst}
use mathlib.Core.Bool.{Bool, true, false}
use mathlib.Core.List.{List, [], ◌∷◌, ◌++◌, append_assoc}
use mathlib.Core.Logic.{⊎_elim}
use Prim.Native.Nat.{ℕ, zero, suc, ◌+◌, ◌-◌, ◌%◌, ◌<◌, ◌≤◌}
use native.Mathlib.Omega.{arith}
use native.Mathlib.Nat.{zero-add, suc-add}
use lib.Dec.{eqb, ltb}
use lib.ListN.{length, get_or, length-append, get_or-append}
use lib.Seq.{get_or-append-add}
use borrow.Author.Tests.{eqb-true, eqb-false, eq-eqb, ne_eqb, lt-ltb, le-ltb}
use Rattle.laws.proofs.Numbers.{lt_or_le}
use Rattle.forms.specs.declared.Piece.{Piece}
use Rattle.pieces.specs.inner.Pieces.{piece_at}
use Rattle.sides.specs.declared.Reader.{Reader}
use Rattle.sides.specs.inner.Reading.{stepped, sources_in, spelled, first_in, next_in, risen, Stands}

pub stepped-length : (x step n : ℕ) → length (stepped x step n) ≡ n
unfolding stepped
stepped-length x step zero = refl
stepped-length x step (suc n) = ap suc (stepped-length ((x + step) % 65536) step n)

module _ (lows form : List ℕ) where
  -- what is left of a piece at its first bit is the whole piece
  piece-stepped : (i : ℕ) → sources_in lows (piece_at form i) ≡ stepped (first_in lows form i).source (first_in lows form i).step (suc (first_in lows form i).left)
  unfolding sources_in first_in
  piece-stepped i = go (ltb (piece_at form i).kind 2) refl
    where
      go : (b : Bool) → ltb (piece_at form i).kind 2 ≡ b
          → sources_in lows (piece_at form i) ≡ stepped (first_in lows form i).source (first_in lows form i).step (suc (first_in lows form i).left)
      go true e = rw e
      go false e = rw e

  pub first_stands : Stands lows form 0 (first_in lows form 0)
  unfolding spelled first_in
  first_stands = record { before = []; counted = refl; spells = piece-stepped 0; within = omega arith; few = omega arith }

  -- one bit on
  pub next_stands : (at : Reader) (k : ℕ) → k < 65535 → Stands lows form k at → Stands lows form (k + 1) (next_in lows form at)
  unfolding next_in first_in spelled stepped
  next_stands at k l s = go (eqb at.left 0) refl
    where
      on : List ℕ
      on = s.before ++ (at.source ∷ [])

      on_count : length on ≡ k + 1
      on_count = length-append s.before (at.source ∷ []) ∙ ap (λ (n : ℕ). n + 1) s.counted

      go : (b : Bool) → eqb at.left 0 ≡ b → Stands lows form (k + 1) (next_in lows form at)
      go true e =
          let z : at.left ≡ 0 = eqb-true at.left 0 e in
          let p : (at.piece + 1) % 65536 ≡ suc at.piece = omega (arith, s.few) in
          let done : spelled lows form (suc at.piece) ≡ s.before ++ (at.source ∷ []) = last z in
          rw (e, p) (record { before = on; counted = on_count; spells = begun done; within = omega (arith, ap length done, on_count); few = omega (arith, s.few) })
        where
          last : at.left ≡ 0 → spelled lows form (suc at.piece) ≡ s.before ++ (at.source ∷ [])
          last z = s.spells ∙ ap (λ (n : ℕ). s.before ++ stepped at.source at.step (suc n)) z

          begun : spelled lows form (suc at.piece) ≡ s.before ++ (at.source ∷ [])
              → spelled lows form (suc (suc at.piece)) ≡ on ++ stepped (first_in lows form (suc at.piece)).source (first_in lows form (suc at.piece)).step (suc (first_in lows form (suc at.piece)).left)
          begun d = ap₂ (λ (a b : List ℕ). a ++ b) d (piece-stepped (suc at.piece))
      go false e =
          let n = eqb-false at.left 0 e in
          let m : suc at.left ≡ suc (suc (at.left - 1)) = omega arith in
          rw e (record { before = on; counted = on_count; spells = more m; within = omega (arith, s.within); few = omega (arith, s.few) })
        where
          more : suc at.left ≡ suc (suc (at.left - 1))
              → spelled lows form (suc at.piece) ≡ on ++ stepped ((at.source + at.step) % 65536) at.step (suc (at.left - 1))
          more m =
              s.spells ∙ ap (λ (n : ℕ). s.before ++ stepped at.source at.step n) m
              ∙ sym (append_assoc s.before (at.source ∷ []) (stepped ((at.source + at.step) % 65536) at.step (suc (at.left - 1))))

  -- n bits on in a part of a variable
  risen_more : (at : Reader) (n : ℕ) → at.step ≡ 1 → n < at.left → next_in lows form (risen n at) ≡ risen (suc n) at
  unfolding next_in risen
  risen_more at n one more =
      let z : eqb (at.left - n) 0 ≡ false = ne_eqb (at.left - n) 0 (omega arith) in
      let x : ((at.source + n) % 65536 + at.step) % 65536 ≡ (at.source + suc n) % 65536 = omega (arith, one) in
      let l : at.left - n - 1 ≡ at.left - suc n = omega arith in
      rw (z, x, l)

  pub risen_stands : (at : Reader) (k n : ℕ) → at.step ≡ 1 → at.source < 65536 → n ≤ at.left → k + n ≤ 65535 → Stands lows form k at
      → Stands lows form (k + n) (risen n at)
  unfolding risen
  risen_stands at k zero one small more few s =
      let e : (at.source + 0) % 65536 ≡ at.source = omega arith in
      let z : k + 0 ≡ k = omega arith in
      let l : at.left - 0 ≡ at.left = omega arith in
      rw (e, z, l) s
  risen_stands at k (suc n) one small more few s =
      let e : k + n + 1 ≡ k + suc n = omega arith in
      subst (λ (j : ℕ). Stands lows form j (risen (suc n) at)) e
      (subst (Stands lows form (k + n + 1)) (risen_more at n one (omega arith))
      (next_stands (risen n at) (k + n) (omega arith) (risen_stands at k n one small (omega arith) (omega arith) s)))

  -- what more pieces spell begins with what fewer spell
  spelled_more : (n : ℕ) → length (spelled lows form n) ≤ length (spelled lows form (suc n))
  unfolding spelled
  spelled_more n = omega (arith, length-append (spelled lows form n) (sources_in lows (piece_at form n)))

  spelled_one : (n k : ℕ) → k < length (spelled lows form n) → get_or (spelled lows form (suc n)) k 0 ≡ get_or (spelled lows form n) k 0
  unfolding spelled
  spelled_one n k l = get_or-append (spelled lows form n) (sources_in lows (piece_at form n)) 0 k l

  spelled_longer : (n d : ℕ) → length (spelled lows form n) ≤ length (spelled lows form (d + n))
  spelled_longer n zero = rw (zero-add n) (omega arith)
  spelled_longer n (suc d) = rw (suc-add d n) (omega (arith, spelled_longer n d, spelled_more (d + n)))

  spelled_early : (n d k : ℕ) → k < length (spelled lows form n) → get_or (spelled lows form (d + n)) k 0 ≡ get_or (spelled lows form n) k 0
  spelled_early n zero k l = ap (λ (m : ℕ). get_or (spelled lows form m) k 0) (zero-add n)
  spelled_early n (suc d) k l = rw (suc-add d n) (spelled_one (d + n) k (omega (arith, spelled_longer n d)) ∙ spelled_early n d k l)

  pub longer : (m n : ℕ) → n ≤ m → length (spelled lows form n) ≤ length (spelled lows form m)
  longer m n h = let e : m - n + n ≡ m = omega arith in omega (arith, spelled_longer n (m - n), ap (λ (j : ℕ). length (spelled lows form j)) e)

  -- the source of a reader that stands at bit k is source k of what the pieces spell
  pub reader_source : (at : Reader) (n k : ℕ) → k < length (spelled lows form n) → Stands lows form k at → at.source ≡ get_or (spelled lows form n) k 0
  unfolding stepped
  reader_source at n k l s =
      let i : ℕ = suc at.piece in
      let mine : get_or (spelled lows form i) k 0 ≡ at.source = here in
      let there : k < length (spelled lows form i) = within in
      sym mine
      ∙ ⊎_elim
      (λ m. let e : i - n + n ≡ i = omega arith in ap (λ (j : ℕ). get_or (spelled lows form j) k 0) (sym e) ∙ spelled_early n (i - n) k l)
      (λ m. let e : n - i + i ≡ n = omega arith in sym (ap (λ (j : ℕ). get_or (spelled lows form j) k 0) (sym e) ∙ spelled_early i (n - i) k there))
      (lt_or_le n i)
    where
      rest : List ℕ
      rest = stepped at.source at.step (suc at.left)

      here : get_or (spelled lows form (suc at.piece)) k 0 ≡ at.source
      here =
          let e : k ≡ length s.before + 0 = omega (arith, s.counted) in
          ap₂ (λ (q : List ℕ) (j : ℕ). get_or q j 0) s.spells e ∙ get_or-append-add s.before rest 0 0

      within : k < length (spelled lows form (suc at.piece))
      within = omega (arith, ap length s.spells, length-append s.before rest, s.counted)

  -- a piece that a reader stands in before bit w, where n pieces spell w sources, ends before it
  pub reader_ends : (at : Reader) (n k : ℕ) → k < length (spelled lows form n) → Stands lows form k at → k + at.left < length (spelled lows form n)
  reader_ends at n k l s =
      let inside : at.piece < n = ⊎_elim (λ m. m) (λ m. absurd (omega (arith, longer at.piece n m, s.within))) (lt_or_le at.piece n) in
      omega (arith, longer n (suc at.piece) inside, ap length s.spells, length-append s.before (stepped at.source at.step (suc at.left)), s.counted, stepped-length at.source at.step (suc at.left))

-- what the functions make
module _ (lows form : List ℕ) (p : Piece) (i : ℕ) (e : p ≡ piece_at form i) where
  pub begin_fill : p.kind < 2 → record { piece = i; source = p.kind; step = 0; left = p.high } ≡ first_in lows form i
  unfolding first_in
  begin_fill h = rw (← e, lt-ltb p.kind 2 h)

  pub begin_part : 2 ≤ p.kind → (x y : ℕ) → x ≡ get_or lows p.variable 0 - p.high → y ≡ p.high - p.low
      → record { piece = i; source = x; step = 1; left = y } ≡ first_in lows form i
  unfolding first_in
  begin_part h x y ex ey = rw (← e, le-ltb p.kind 2 h, ex, ey)

module _ (lows form : List ℕ) (at : Reader) where
  pub next_begun : at.left ≡ 0 → (i : ℕ) → i ≡ (at.piece + 1) % 65536 → first_in lows form i ≡ next_in lows form at
  unfolding next_in
  next_begun z i e = rw (eq-eqb at.left 0 z, e)

  pub next_within : (at.left ≡ 0 → ⊥) → (x : ℕ) → x ≡ (at.source + at.step) % 65536
      → record { piece = at.piece; source = x; step = at.step; left = at.left - 1 } ≡ next_in lows form at
  unfolding next_in
  next_within n x e = rw (ne_eqb at.left 0 n, e)

  -- and where it stands then
  pub next_on : (on : Reader) → on ≡ next_in lows form at → (on ≡ next_in lows form at) × ((k : ℕ) → k < 65535 → Stands lows form k at → Stands lows form (k + 1) on)
  next_on on e = (e, λ k l s. subst (Stands lows form (k + 1)) (sym e) (next_stands lows form at k l s))
