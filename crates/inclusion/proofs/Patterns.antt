-- What `among` and `comparison` say of the patterns of two tables with as many variable bits (document 02, (xii)). Assumes nothing.
use mathlib.Core.Path.{◌≡◌, refl, sym, ◌∙◌, ap, subst}
use mathlib.Core.Bool.{Bool, true, false, not, ◌||◌}
use mathlib.Core.List.{List}
use Prim.Native.Nat.{ℕ, ◌≤◌}
use native.Mathlib.Omega.{arith}
use borrow.Author.Tests.{not-true, not-false}
use Rattle.laws.specs.Bools.{implies}
use Rattle.laws.proofs.Bools.{same_test, not_both}
use Rattle.laws.proofs.Tallies.{implied}
use Rattle.terms.specs.declared.Row.{Row}
use Rattle.terms.specs.Assignments.{Assignment, every}
use Rattle.terms.specs.Table.{bits_of, satisfies}
use Rattle.terms.proofs.Assignments.{every_at, every_of, every_false}
use Rattle.answers.specs.Solve.{unsatisfiable}
use Rattle.answers.proofs.Tables.{every_same}
use Rattle.inclusion.specs.Call.{among, outcome_of, comparison}
use Rattle.inclusion.specs.Comparing.{Among, SamePatterns, MeetsOnly, Compared, Chained, turned}

-- (c), of one direction: no pattern is asked of a never table, and none meets it
module _ (t u : List Row) where
  pub never_among : unsatisfiable t ≡ true → among t u ≡ true
  unfolding unsatisfiable among
  never_among n =
      every_of (bits_of t) (λ p. implies (satisfies t p) (satisfies u p))
      (λ p a. let fails : satisfies t p ≡ false = not-true (satisfies t p) (every_at (bits_of t) (λ q. not (satisfies t q)) n p a) in rw fails refl)

  pub among_never : bits_of t ≡ bits_of u → unsatisfiable t ≡ false → unsatisfiable u ≡ true → among t u ≡ false
  unfolding unsatisfiable among
  among_never bits s n = go (every (bits_of t) (λ p. implies (satisfies t p) (satisfies u p))) refl
    where
      go : (b : Bool) → every (bits_of t) (λ p. implies (satisfies t p) (satisfies u p)) ≡ b → b ≡ false
      go true h =
          let it = every_false (bits_of t) (λ q. not (satisfies t q)) s in
          let meets = implied (satisfies t it.0) (satisfies u it.0) (every_at (bits_of t) (λ p. implies (satisfies t p) (satisfies u p)) h it.0 it.1.0) (not-false (satisfies t it.0) it.1.1) in
          let fails = not-true (satisfies u it.0) (every_at (bits_of u) (λ q. not (satisfies u q)) n it.0 (subst (λ (k : ℕ). Assignment k it.0) bits it.1.0)) in
          absurd (not_both meets fails)
      go false h = refl

-- ---- any tables
pub implies_of : (a b : Bool) → (a ≡ true → b ≡ true) → not a || b ≡ true
implies_of true b h = h refl
implies_of false b h = refl

implies-not : (a b : Bool) → not a || b ≡ false → (a ≡ true) × (b ≡ false)
implies-not true b h = (refl, h)
implies-not false b h = absurd (not_both refl h)

-- `among` says that every pattern of t is one of u; where it fails, some pattern meets t and not u
module _ (t u : List Row) where
  pub among_at : among t u ≡ true → Among t u
  unfolding among
  among_at h p a k = implied (satisfies t p) (satisfies u p) (every_at (bits_of t) (λ q. implies (satisfies t q) (satisfies u q)) h p a) k

  pub among_of : Among t u → among t u ≡ true
  unfolding among
  among_of h = every_of (bits_of t) (λ q. implies (satisfies t q) (satisfies u q)) (λ p a. implies_of (satisfies t p) (satisfies u p) (h p a))

  pub among-not : among t u ≡ false → MeetsOnly t u
  unfolding among
  among-not h =
      let it = every_false (bits_of t) (λ q. implies (satisfies t q) (satisfies u q)) h in
      let at = implies-not (satisfies t it.0) (satisfies u it.0) it.1.1 in
      record { pattern = it.0; bits = it.1.0; meets = at.0; fails = at.1 }

  pub only_not : MeetsOnly t u → among t u ≡ false
  only_not m = go (among t u) refl
    where
      go : (b : Bool) → among t u ≡ b → b ≡ false
      go true h = absurd (not_both (among_at h m.pattern m.bits m.meets) m.fails)
      go false h = refl

-- ---- as many bits
module _ (t u : List Row) (bits : bits_of t ≡ bits_of u) where
  abbrev over : {p : List ℕ} → Assignment (bits_of t) p → Assignment (bits_of u) p
  over {p = p} a = subst (λ (n : ℕ). Assignment n p) bits a

  abbrev back : {p : List ℕ} → Assignment (bits_of u) p → Assignment (bits_of t) p
  back {p = p} a = subst (λ (n : ℕ). Assignment n p) (sym bits) a

  both_among : among t u ≡ true → among u t ≡ true → SamePatterns t u
  both_among h k p a = same_test (satisfies t p) (satisfies u p) (among_at t u h p a) (among_at u t k p (over a))

  same_among : SamePatterns t u → (among t u ≡ true) × (among u t ≡ true)
  same_among s = (among_of t u (λ p a h. sym (s p a) ∙ h), among_of u t (λ p a h. s p (back a) ∙ h))

  -- (a)
  pub patterns_compared : Compared t u (comparison t u)
  unfolding comparison
  patterns_compared = go (among t u) refl (among u t) refl
    where
      go : (a : Bool) → among t u ≡ a → (b : Bool) → among u t ≡ b → Compared t u (outcome_of a b)
      go true h true k =
          record {
            same = record { to = λ e. both_among h k; of = λ s. refl };
            stricter = record { to = λ e. absurd (omega (arith, e)); of = λ s. absurd (not_both k (only_not u t s.1)) };
            looser = record { to = λ e. absurd (omega (arith, e)); of = λ s. absurd (not_both h (only_not t u s.1)) };
            neither = record { to = λ e. absurd (omega (arith, e)); of = λ s. absurd (not_both h (only_not t u s.0)) };
          }
      go true h false k =
          record {
            same = record { to = λ e. absurd (omega (arith, e)); of = λ s. absurd (not_both (same_among s).1 k) };
            stricter = record { to = λ e. (among_at t u h, among-not u t k); of = λ s. refl };
            looser = record { to = λ e. absurd (omega (arith, e)); of = λ s. absurd (not_both h (only_not t u s.1)) };
            neither = record { to = λ e. absurd (omega (arith, e)); of = λ s. absurd (not_both h (only_not t u s.0)) };
          }
      go false h true k =
          record {
            same = record { to = λ e. absurd (omega (arith, e)); of = λ s. absurd (not_both (same_among s).0 h) };
            stricter = record { to = λ e. absurd (omega (arith, e)); of = λ s. absurd (not_both k (only_not u t s.1)) };
            looser = record { to = λ e. (among_at u t k, among-not t u h); of = λ s. refl };
            neither = record { to = λ e. absurd (omega (arith, e)); of = λ s. absurd (not_both k (only_not u t s.1)) };
          }
      go false h false k =
          record {
            same = record { to = λ e. absurd (omega (arith, e)); of = λ s. absurd (not_both (same_among s).0 h) };
            stricter = record { to = λ e. absurd (omega (arith, e)); of = λ s. absurd (not_both (among_of t u s.0) h) };
            looser = record { to = λ e. absurd (omega (arith, e)); of = λ s. absurd (not_both (among_of u t s.0) k) };
            neither = record { to = λ e. (among-not t u h, among-not u t k); of = λ s. refl };
          }

-- ---- what else an outcome says
module _ (t u : List Row) where
  -- an outcome of 0 or 1 is `among`
  pub within : comparison t u ≤ 1 → among t u ≡ true
  unfolding comparison
  within l = go (among t u) refl (among u t) l
    where
      go : (a : Bool) → among t u ≡ a → (b : Bool) → outcome_of a b ≤ 1 → a ≡ true
      go true h b l = refl
      go false h true l = absurd (omega arith)
      go false h false l = absurd (omega arith)

  pub within_of : among t u ≡ true → comparison t u ≤ 1
  unfolding comparison
  within_of h = rw h (go (among u t))
    where
      go : (b : Bool) → outcome_of true b ≤ 1
      go true = omega arith
      go false = omega arith

  pub zero_back : comparison t u ≡ 0 → among u t ≡ true
  unfolding comparison
  zero_back e = go (among t u) (among u t) refl e
    where
      go : (a b : Bool) → among u t ≡ b → outcome_of a b ≡ 0 → b ≡ true
      go a true h z = refl
      go true false h z = absurd (omega (arith, z))
      go false false h z = absurd (omega (arith, z))

  pub one_of_four : comparison t u ≤ 3
  unfolding comparison
  one_of_four = go (among t u) (among u t)
    where
      go : (a b : Bool) → outcome_of a b ≤ 3
      go true true = omega arith
      go true false = omega arith
      go false true = omega arith
      go false false = omega arith

  -- (d)
  pub comparison-turned : comparison u t ≡ turned (comparison t u)
  unfolding comparison turned
  comparison-turned = go (among t u) (among u t)
    where
      go : (a b : Bool) → outcome_of b a ≡ turned (outcome_of a b)
      go true true = refl
      go true false = refl
      go false true = refl
      go false false = refl

-- ---- three tables
module _ (t u : List Row) (bits : bits_of t ≡ bits_of u) where
  -- (g) the same patterns compare alike with those of a third table
  module _ (s : SamePatterns t u) (v : List Row) where
    among_third : among t v ≡ among u v
    unfolding among
    among_third =
        every_same (bits_of t) (λ q. implies (satisfies t q) (satisfies v q)) (λ q. implies (satisfies u q) (satisfies v q)) (λ p a. ap (λ (b : Bool). implies b (satisfies v p)) (s p a))
        ∙ ap (λ (n : ℕ). every n (λ q. implies (satisfies u q) (satisfies v q))) bits

    third_among : bits_of v ≡ bits_of t → among v t ≡ among v u
    unfolding among
    third_among e =
        every_same (bits_of v) (λ q. implies (satisfies v q) (satisfies t q)) (λ q. implies (satisfies v q) (satisfies u q))
        (λ p a. ap (λ (b : Bool). implies (satisfies v p) b) (s p (subst (λ (n : ℕ). Assignment n p) e a)))

    pub same_third : bits_of v ≡ bits_of t → (comparison t v ≡ comparison u v) × (comparison v t ≡ comparison v u)
    unfolding comparison
    same_third e = (rw (among_third, third_among e) refl, rw (among_third, third_among e) refl)

-- (e) A table compared with itself, and three tables in a chain.
pub comparison_itself : (t : List Row) → comparison t t ≡ 0
unfolding comparison
comparison_itself t = rw (among_of t t (λ p a h. h))

among_through : (t u v : List Row) → bits_of t ≡ bits_of u → among t u ≡ true → among u v ≡ true → among t v ≡ true
among_through t u v e h k = among_of t v (λ p a m. among_at u v k p (subst (λ (n : ℕ). Assignment n p) e a) (among_at t u h p a m))

both-zero : (t u : List Row) → among t u ≡ true → among u t ≡ true → comparison t u ≡ 0
unfolding comparison
both-zero t u h k = rw (h, k)

pub comparison_chained : (t u v : List Row) → bits_of t ≡ bits_of u → bits_of u ≡ bits_of v → comparison t u ≤ 1 → comparison u v ≤ 1
    → Chained (comparison t u) (comparison u v) (comparison t v)
comparison_chained t u v d e h k =
    let tu = within t u h in
    let uv = within u v k in
    record {
      passed_on = within_of t v (among_through t u v d tu uv);
      only_same = λ z.
          let vt = zero_back t v z in (
            both-zero t u tu (among_through u v t e uv vt),
            both-zero u v uv (among_through v t u (sym (d ∙ e)) vt tu),
          );
    }
