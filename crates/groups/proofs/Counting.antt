-- The equal rows counted: those of a word, place by place, are one for each two words and shift. Assumes nothing.
use mathlib.Core.Path.{◌≡◌, refl, sym, ◌∙◌, subst}
use mathlib.Core.Bool.{true, false, not, ◌&&◌, cond, and-false}
use mathlib.Core.List.{List}
use Prim.Native.Nat.{ℕ, suc, ◌+◌, ◌*◌, ◌/◌, ◌≤◌, ◌<◌}
use native.Mathlib.Omega.{arith}
use native.Mathlib.Numerals.{add-one}
use lib.Dec.{eqb, leb}
use lib.ListN.{get_or}
use borrow.Author.Tests.{eq-eqb, ne_eqb, le-leb, lt-leb, lt-ltb, le-ltb}
use Rattle.laws.specs.Lists.{below, tally}
use Rattle.laws.proofs.Tallies.{below_of}
use Rattle.groups.specs.inner.Counts.{linked, represented, stand_in, first_alike}
use Rattle.groups.specs.inner.Groups.{group_x, group_y, group_shift, GroupOf, same_key, is_row_of, no_row, Added, no_place, WordRows, PutsPlace, Counts}
use Rattle.groups.proofs.Keys.{none_alike}

-- where a word begins, none of its rows is there
pub word-begins : (r : ℕ → ℕ) (v : ℕ) (plan : List ℕ) (count : ℕ) → WordRows r v (16 * v) plan count count
unfolding no_row no_place
word-begins r v plan count =
    record {
      behind = omega arith;
      keys = λ x y shift.
          below_of count (λ g. not (leb count g && is_row_of plan x y shift g)) (λ g l. rw (lt-leb count g l))
          ∙ sym
          (below_of (16 * v)
          (λ i.
          not (eqb (i / 16) v && (represented r i && same_key (group_x i (stand_in r i)) (group_y i (stand_in r i)) (group_shift i (stand_in r i)) x y shift)))
          (λ i l. rw (ne_eqb (i / 16) v (λ e. omega arith))));
    }

module _ (r : ℕ → ℕ) (i : ℕ) (plan : List ℕ) (from count : ℕ) where
  -- a place that no other stands for
  pub place_none : represented r i ≡ false → PutsPlace r i plan from count plan count
  unfolding no_place first_alike below
  place_none h k =
      record {
        rows = record { behind = k.behind; keys = λ x y shift. k.keys x y shift ∙ rw (add-one, h, and-false (eqb (i / 16) (i / 16))) };
        counted = rw h (omega arith);
      }

  -- any other: to the row that is there, or in one more
  pub place_more : (s x y shift mask : ℕ) (plan' : List ℕ) (count' : ℕ) → s ≡ r (suc (suc i)) → represented r i ≡ true → GroupOf i s x y shift mask
      → Added x y shift mask plan from count plan' count' → PutsPlace r i plan from count plan' count'
  unfolding no_place first_alike below
  place_more s x y shift mask plan' count' e h group' more k =
      let group : GroupOf i (r (suc (suc i))) x y shift mask = rw e at group' in
      record {
        rows = record {
          behind = omega (arith, more.counted, k.behind);
          keys = λ a b c.
              more.rows k.behind a b c
              ∙ rw (add-one, h, eq-eqb (i / 16) (i / 16) refl, group.x_is, group.y_is, group.shift_is, k.keys a b c);
        };
        counted = more.counted ∙ rw (k.keys x y shift, h, group.x_is, group.y_is, group.shift_is, none_alike r i h);
      }

-- a place with its link
pub place_low : (links : List ℕ) (r i : ℕ) → r ≡ get_or links (suc (suc i)) 0 → r < 2 → represented (linked links) i ≡ false
unfolding represented
place_low links r i e l = rw (← e, lt-leb 2 r l)

pub place_own : (links : List ℕ) (r i : ℕ) → r ≡ get_or links (suc (suc i)) 0 → i + 2 ≤ r → represented (linked links) i ≡ false
unfolding represented
place_own links r i e l = rw (← e, le-ltb r (suc (suc i)) (omega arith), and-false (leb 2 r))

pub place_lower : (links : List ℕ) (r i : ℕ) → r ≡ get_or links (suc (suc i)) 0 → 2 ≤ r → r < i + 2 → represented (linked links) i ≡ true
unfolding represented
place_lower links r i e l m = rw (← e, le-leb 2 r l, lt-ltb r (suc (suc i)) (omega arith))

-- one place of word v more
pub word_more : (r : ℕ → ℕ) (v i : ℕ) (plan : List ℕ) (from count : ℕ) (plan' : List ℕ) (count' : ℕ) → 16 * v ≤ i → i < 16 * v + 16 → PutsPlace r i plan from count plan' count'
    → WordRows r v i plan from count → WordRows r v (i + 1) plan' from count' × (count' ≡ count + cond (first_alike r i) 1 0)
word_more r v i plan from count plan' count' l m put k =
    let e : v ≡ i / 16 = omega arith in
    let p = put (subst (λ (w : ℕ). WordRows r w i plan from count) e k) in
    (subst (λ (w : ℕ). WordRows r w (i + 1) plan' from count') (sym e) p.rows, p.counted)

pub count_more : (r : ℕ → ℕ) (n i count m count' : ℕ) → Counts r n i count m → count' ≡ m + cond (first_alike r i) 1 0 → Counts r n (i + 1) count count'
unfolding tally
count_more r n i count m count' h e s = rw add-one (omega (arith, h s))
