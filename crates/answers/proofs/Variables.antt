-- The widths of the variables of a table: they are as many as its variables and add up to its variable bits, and a variable begins at place 0 and behind the last place.
use mathlib.Core.Path.{◌≡◌, refl, sym, ◌∙◌, ap}
use mathlib.Core.Bool.{Bool, true, false, cond}
use mathlib.Core.List.{List, [], ◌∷◌, ◌++◌, map}
use Prim.Native.Nat.{ℕ, zero, suc, ◌+◌, ◌-◌, ◌≤◌}
use native.Mathlib.Omega.{arith}
use lib.Dec.{eqb, ltb}
use lib.ListN.{length, replicate}
use borrow.Author.Tests.{eq-eqb, ne_eqb}
use Rattle.terms.specs.declared.Row.{Row}
use Rattle.terms.specs.Assignments.{Assignment, done, off, on}
use Rattle.terms.specs.Table.{bits_in, bits_of, count_kind}
use Rattle.terms.proofs.RowKinds.{by_variable, bits_variable, bits_other}
use Rattle.answers.specs.Answer.{variable_widths, begins}
use Rattle.answers.specs.Systems.{Part, fill, fresh, part_width, side_width, FinePart, FineSide, FineSides, SolvedSystem, piece_bits, part_bits, side_bits, system_bits, Filling}
use Rattle.answers.proofs.GeneralSystems.{width_sum, begins_end}

pub widths_sum : (t : List Row) → width_sum (variable_widths t) ≡ bits_of t
unfolding width_sum variable_widths bits_of
widths_sum [] = refl
widths_sum (r ∷ t) =
    let later = widths_sum t in
    by_variable r (r.a ∷ variable_widths t) (variable_widths t) (λ (ws : List ℕ). width_sum ws ≡ bits_in r + bits_of t)
    (λ e. omega (arith, bits_variable r e))
    (λ h. omega (arith, bits_other r h))

pub widths_count : (t : List Row) → length (variable_widths t) ≡ count_kind 0 t
unfolding variable_widths count_kind
widths_count [] = refl
widths_count (r ∷ t) =
    let later = widths_count t in
    by_variable r (r.a ∷ variable_widths t) (variable_widths t) (λ (ws : List ℕ). length ws ≡ cond (eqb r.kind 0) 1 0 + count_kind 0 t)
    (λ e. rw (eq-eqb r.kind 0 e) (omega arith))
    (λ n. rw (ne_eqb r.kind 0 n) (omega arith))

pub begins_first : (ws : List ℕ) → begins ws 0 ≡ true
unfolding begins
begins_first [] = refl
begins_first (w ∷ ws) = go (ltb 0 w) (begins_first ws)
  where
    z : 0 - w ≡ 0
    z = omega arith

    go : (b : Bool) → begins ws 0 ≡ true → cond b (eqb 0 0) (begins ws (0 - w)) ≡ true
    go true h = refl
    go false h = ap (begins ws) z ∙ h

pub begins_last : (t : List Row) → begins (variable_widths t) (bits_of t) ≡ true
begins_last t = ap (begins (variable_widths t)) (sym (widths_sum t)) ∙ begins_end (variable_widths t)

-- a system's assignment has the bits of its variables
bit_first : (b n : ℕ) (p : List ℕ) → b ≤ 1 → Assignment n p → Assignment (suc n) (b ∷ p)
bit_first zero n p l a = off a
bit_first (suc zero) n p l a = on a
bit_first (suc (suc b)) n p l a = absurd (omega arith)

joined_bits : {m k : ℕ} {p q : List ℕ} → Assignment m p → Assignment k q → Assignment (m + k) (p ++ q)
joined_bits {k = k} {q = q} done b = let e : 0 + k ≡ k = omega arith in rw e b
joined_bits {k = k} {q = q} (off {n = n} a) b = let e : suc n + k ≡ suc (n + k) = omega arith in rw e (off (joined_bits a b))
joined_bits {k = k} {q = q} (on {n = n} a) b = let e : suc n + k ≡ suc (n + k) = omega arith in rw e (on (joined_bits a b))

copies : (b w : ℕ) → b ≤ 1 → Assignment w (replicate w b)
copies b zero l = done
copies b (suc w) l = bit_first b w (replicate w b) l (copies b w l)

piece-bits : (f : ℕ → ℕ) (o w : ℕ) → ((i : ℕ) → f i ≤ 1) → Assignment w (piece_bits f o w)
unfolding piece_bits
piece-bits f o zero h = done
piece-bits f o (suc w) h = bit_first (f o) w (piece_bits f (suc o) w) (h o) (piece-bits f (suc o) w h)

part-bits : (wide : ℕ → ℕ) (φ : ℕ → ℕ → ℕ) → Filling φ → (x : Part) → FinePart wide x → Assignment (part_width x) (part_bits φ x)
part-bits wide φ h (fill b w) k = copies b w k.0
part-bits wide φ h (fresh l w) k = piece-bits (φ l) 0 w (h l)

side-bits : (wide : ℕ → ℕ) (φ : ℕ → ℕ → ℕ) → Filling φ → (side : List Part) → FineSide wide side → Assignment (side_width side) (side_bits φ side)
unfolding side_width side_bits
side-bits wide φ h [] k = done
side-bits wide φ h (x ∷ side) k = joined_bits (part-bits wide φ h x k.0) (side-bits wide φ h side k.1)

sides_bits : (wide : ℕ → ℕ) (φ : ℕ → ℕ → ℕ) → Filling φ → (sides : List (List Part)) → FineSides wide sides → (ws : List ℕ)
    → map side_width sides ≡ ws → Assignment (width_sum ws) (system_bits φ sides)
unfolding system_bits width_sum
sides_bits wide φ h [] k [] e = done
sides_bits wide φ h [] k (w ∷ ws) e = let z : ◌≡◌ {A = ℕ} 0 1 = cc in absurd (omega arith)
sides_bits wide φ h (side ∷ sides) k [] e = let z : ◌≡◌ {A = ℕ} 0 1 = cc in absurd (omega arith)
sides_bits wide φ h (side ∷ sides) k (w ∷ ws) e =
    let a : side_width side ≡ w = cc in
    let b : map side_width sides ≡ ws = cc in
    rw (← a) (joined_bits (side-bits wide φ h side k.0) (sides_bits wide φ h sides k.1 ws b))

pub system-bits : (ws : List ℕ) (sides : List (List Part)) → SolvedSystem ws sides → (φ : ℕ → ℕ → ℕ) → Filling φ → Assignment (width_sum ws) (system_bits φ sides)
system-bits ws sides S φ h = sides_bits S.wide φ h sides S.parts_fine ws S.widths_are
