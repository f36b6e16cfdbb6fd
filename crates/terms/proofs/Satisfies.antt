-- What it is that an assignment satisfies a table: in each equation that counts the filled sides have the same value.
use mathlib.Core.Path.{◌≡◌, refl, sym, ap₂}
use mathlib.Core.Bool.{Bool, true}
use mathlib.Core.List.{List, [], ◌∷◌}
use mathlib.Core.Logic.{⊎_elim}
use Prim.Native.Nat.{ℕ, zero, suc, ◌<◌}
use native.Mathlib.Omega.{arith}
use lib.Dec.{eqb}
use lib.ListN.{length, get_or, take, length-take}
use lib.Seq.{get_or-take, take_all}
use borrow.Author.Tests.{eqb-true, eq-eqb}
use Rattle.terms.specs.declared.Row.{Row}
use Rattle.terms.specs.Table.{row_at, no_row, by_kind, values_of, same_word, evened, sides_agree, all_rows, silent_row, counting, satisfies}
use Rattle.terms.specs.Counting.{Counts, SidesEqual, MeetsBefore, MeetsCounting}
use Rattle.terms.proofs.RowKinds.{each_kind}
use Rattle.terms.proofs.Counting.{counting_rows, revised-or-not}
use Rattle.laws.proofs.Bools.{not_both, and_parts}

-- Words that are found equal bit for bit are equal.
pub same-word : (v w : List ℕ) → same_word v w ≡ true → v ≡ w
unfolding same_word
same-word [] [] h = refl
same-word [] (y ∷ w) h = absurd (not_both h refl)
same-word (x ∷ v) [] h = absurd (not_both h refl)
same-word (x ∷ v) (y ∷ w) h =
    let b = and_parts (eqb x y) (same_word v w) h in
    ap₂ (λ (z : ℕ) (l : List ℕ). z ∷ l) (eqb-true x y b.0) (same-word v w b.1)

-- A word is found equal to itself bit for bit.
pub word_same : (v : List ℕ) → same_word v v ≡ true
unfolding same_word
word_same [] = refl
word_same (x ∷ v) = rw (eq-eqb x x refl) (word_same v)

-- what is found of all rows holds of each, and the other way round
pub all_at : (f : Row → Bool) (t : List Row) → all_rows f t ≡ true → (r : ℕ) → r < length t → f (row_at t r) ≡ true
unfolding all_rows
all_at f [] h r l = absurd (omega arith)
all_at f (x ∷ t) h zero l = (and_parts (f x) (all_rows f t) h).0
all_at f (x ∷ t) h (suc r) l = all_at f t (and_parts (f x) (all_rows f t) h).1 r (omega arith)

all_of : (f : Row → Bool) (t : List Row) → ((r : ℕ) → r < length t → f (row_at t r) ≡ true) → all_rows f t ≡ true
unfolding all_rows
all_of f [] h = refl
all_of f (x ∷ t) h = rw (h 0 (omega arith)) (all_of f t (λ r l. h (suc r) (omega arith)))

-- a row that is no equation agrees, and an equation agrees where its filled sides have the same value
pub agree_at : (vs : List (List ℕ)) (r : Row) → r.kind ≡ 4 → sides_agree vs r ≡ true
    → evened (get_or vs r.a []) (get_or vs r.b []) ≡ evened (get_or vs r.b []) (get_or vs r.a [])
unfolding sides_agree by_kind
agree_at vs r k h =
    same-word (evened (get_or vs r.a []) (get_or vs r.b [])) (evened (get_or vs r.b []) (get_or vs r.a [])) (rw k at h)

pub agree_of : (vs : List (List ℕ)) (r : Row)
    → (r.kind ≡ 4 → evened (get_or vs r.a []) (get_or vs r.b []) ≡ evened (get_or vs r.b []) (get_or vs r.a [])) → sides_agree vs r ≡ true
unfolding sides_agree
agree_of vs r h =
    sym (each_kind r.kind true (λ e. refl) (λ e. refl) (λ e. refl) (λ e. refl)
    (λ k. sym (rw (h k) (word_same (evened (get_or vs r.b []) (get_or vs r.a []))))) (λ e. refl))

-- the sides of the row that says nothing are equal
pub silent_agrees : (vs : List (List ℕ)) → sides_agree vs silent_row ≡ true
silent_agrees vs = agree_of vs silent_row (λ e. refl)

module _ (t : List Row) (p : List ℕ) where
  -- the first n rows, as they count, agree exactly if the filled sides of each equation that counts among them have the same value
  pub before_at : (n : ℕ) → all_rows (sides_agree (values_of t p)) (take n (counting t)) ≡ true → MeetsBefore t n p
  before_at n h r l c =
      let rows = counting_rows t in
      let inside : r < length (take n (counting t)) = omega (arith, l, c.in_table, rows.as_many, length-take n (counting t)) in
      agree_at (values_of t p) (row_at t r) c.is_equation
      (rw (get_or-take n (counting t) r no_row l, rows.stays r c.unrevised) at (all_at (sides_agree (values_of t p)) (take n (counting t)) h r inside))

  pub before_of : (n : ℕ) → MeetsBefore t n p → all_rows (sides_agree (values_of t p)) (take n (counting t)) ≡ true
  before_of n h =
      all_of (sides_agree (values_of t p)) (take n (counting t))
      (λ r l.
      let below : r < n = omega (arith, l, length-take n (counting t)) in
      rw (get_or-take n (counting t) r no_row below) (row r below (omega (arith, l, length-take n (counting t), (counting_rows t).as_many))))
    where
      row : (r : ℕ) → r < n → r < length t → sides_agree (values_of t p) (row_at (counting t) r) ≡ true
      row r below l =
          ⊎_elim (λ gone. rw ((counting_rows t).replaced r gone) (silent_agrees (values_of t p)))
          (λ still.
          rw ((counting_rows t).stays r still)
          (agree_of (values_of t p) (row_at t r) (λ k. h r below (record { in_table = l; is_equation = k; unrevised = still }))))
          (revised-or-not t r l)

  all-rows : take (length t) (counting t) ≡ counting t
  all-rows = take_all (length t) (counting t) (omega (arith, (counting_rows t).as_many))

  -- In a table that an assignment satisfies the filled sides of each equation that counts have the same value.
  pub satisfies_at : satisfies t p ≡ true → (r : ℕ) → Counts t r → SidesEqual t p r
  unfolding satisfies
  satisfies_at h r c = before_at (length t) (rw all-rows h) r c.in_table c

  -- An assignment under which the filled sides of each equation that counts have the same value satisfies the table.
  pub satisfies_of : ((r : ℕ) → Counts t r → SidesEqual t p r) → satisfies t p ≡ true
  unfolding satisfies
  satisfies_of h = rw all-rows at (before_of (length t) (λ r l c. h r c))

  -- (c) both ways
  pub meets-counting : MeetsCounting t p
  meets-counting = record { to = satisfies_at; of = satisfies_of }

  -- A table without equations is satisfied by every assignment.
  pub no_equations : ((r : ℕ) → r < length t → (row_at t r).kind ≡ 4 → ⊥) → satisfies t p ≡ true
  no_equations none = satisfies_of (λ r c. absurd (none r c.in_table c.is_equation))
