-- Rearranged tables (document 02, (xiv)): the same patterns meet them; the relation goes both ways and on; and it is not empty: the sides of any
-- equation exchanged, any two equations exchanged, and any number of sides turned are instances, in every table. Assumes nothing.
use mathlib.Core.Path.{◌≡◌, refl, sym, ◌∙◌, ap}
use mathlib.Core.Bool.{true}
use mathlib.Core.Logic.{◌⊎◌, inl, inr, ⊎_elim, ◌≢◌}
use mathlib.Core.List.{List, ◌∷◌}
use Prim.Native.Nat.{ℕ, zero, suc, ◌<◌}
use native.Mathlib.Omega.{arith}
use lib.ListN.{length, set, length-set}
use lib.Seq.{get_or-set_same, get_or-set_other}
use Rattle.terms.specs.declared.Row.{Row}
use Rattle.terms.specs.Sound.{IsEquation}
use Rattle.terms.specs.Counting.{Counts, SidesEqual, NoLines}
use Rattle.terms.specs.Table.{row_at, no_row, value_of, values_of, evened, satisfies}
use Rattle.terms.proofs.Alike.{Alike}
use Rattle.terms.proofs.LeavingOff.{alike_values}
use Rattle.terms.proofs.Satisfies.{satisfies_at, satisfies_of}
use Rattle.laws.proofs.Bools.{same_test}
use Rattle.laws.proofs.Numbers.{dec_eq}
use Rattle.answers.specs.Answer.{variable_widths}
use Rattle.answers.proofs.Revised.{alike_variables}
use Rattle.order.specs.Rearranged.{EitherWay, Rearranged, AllTurned, none, kept, turned}

-- rearranged tables differ at most in what their equations say
pub rearranged_alike : (t u : List Row) → Rearranged t u → Alike 4 u t
rearranged_alike t u h = record { count = h.as_many; each = λ r l. record { kind_is = h.kinds r l; same = h.others r l } }

-- without line numbers every equation counts
all-count : (t : List Row) → NoLines t → (r a b : ℕ) → IsEquation t r a b → Counts t r
all-count t unlined r a b e =
    record {
      in_table = e.in_table;
      is_equation = e.is_equation;
      unrevised = λ x. absurd (omega (arith, x.above_0, unlined x.line r x.here));
    }

-- the filled sides of an equation are equal where the table in which it stands, turned or not, is met
either_equal : (t : List Row) (p : List ℕ) (s a b : ℕ) → NoLines t → satisfies t p ≡ true → EitherWay t s a b
    → evened (value_of t p a) (value_of t p b) ≡ evened (value_of t p b) (value_of t p a)
either_equal t p s a b unlined h (inl e) =
    let k : SidesEqual t p s = satisfies_at t p h s (all-count t unlined s a b e) in
    rw (e.left_is, e.right_is) at k
either_equal t p s a b unlined h (inr e) =
    let k : SidesEqual t p s = satisfies_at t p h s (all-count t unlined s b a e) in
    sym (rw (e.left_is, e.right_is) at k)

-- a pattern that meets the one table meets the other
one_way : (t u : List Row) (p : List ℕ) → values_of u p ≡ values_of t p → NoLines t
    → ((r a b : ℕ) → IsEquation u r a b → (s : ℕ) × EitherWay t s a b) → satisfies t p ≡ true → satisfies u p ≡ true
one_way t u p values unlined found h =
    satisfies_of u p (λ r c.
    let e : IsEquation u r (row_at u r).a (row_at u r).b = record { in_table = c.in_table; is_equation = c.is_equation; left_is = refl; right_is = refl } in
    let it = found r (row_at u r).a (row_at u r).b e in
    rw values (either_equal t p it.0 (row_at u r).a (row_at u r).b unlined h it.1))

-- (a) The same patterns meet both tables, and their variables have the same widths.
pub same_patterns : (t u : List Row) → NoLines t → NoLines u → Rearranged t u
    → ((p : List ℕ) → satisfies t p ≡ satisfies u p) × (variable_widths t ≡ variable_widths u)
same_patterns t u first_no_lines second_no_lines h = (
  λ p. same_test (satisfies t p) (satisfies u p) (one_way t u p (values p) first_no_lines h.back) (one_way u t p (sym (values p)) second_no_lines h.forth),
  sym (alike_variables u t alike),
)
  where
    alike : Alike 4 u t
    alike = rearranged_alike t u h

    values : (p : List ℕ) → values_of u p ≡ values_of t p
    values p = alike_values u t alike p

-- ---- (e) it goes both ways and on
other_way : (t : List Row) (r a b : ℕ) → EitherWay t r a b → EitherWay t r b a
other_way t r a b (inl e) = inr e
other_way t r a b (inr e) = inl e

pub rearranged_back : (t u : List Row) → Rearranged t u → Rearranged u t
rearranged_back t u h =
    record {
      as_many = sym h.as_many;
      kinds = λ r l. sym (h.kinds r (omega (arith, h.as_many)));
      others = λ r l n. sym (h.others r (omega (arith, h.as_many)) (λ e. n (h.kinds r (omega (arith, h.as_many)) ∙ e)));
      forth = h.back;
      back = h.forth;
    }

further : (u v : List Row) → ((r a b : ℕ) → IsEquation u r a b → (s : ℕ) × EitherWay v s a b)
    → (r a b : ℕ) → EitherWay u r a b → (s : ℕ) × EitherWay v s a b
further u v f r a b (inl e) = f r a b e
further u v f r a b (inr e) = let it = f r b a e in (it.0, other_way v it.0 b a it.1)

pub rearranged_on : (t u v : List Row) → Rearranged t u → Rearranged u v → Rearranged t v
rearranged_on t u v h k =
    record {
      as_many = k.as_many ∙ h.as_many;
      kinds = λ r l. k.kinds r (omega (arith, h.as_many)) ∙ h.kinds r l;
      others = λ r l n. k.others r (omega (arith, h.as_many)) (λ e. n (sym (h.kinds r l) ∙ e)) ∙ h.others r l n;
      forth = λ r a b e. let it = h.forth r a b e in further u v k.forth it.0 a b it.1;
      back = λ r a b e. let it = k.back r a b e in further u t h.back it.0 a b it.1;
    }

-- ---- each equation in its row, its sides turned or not

-- row r is the same equation in both, turned
record TurnedAt (t u : List Row) (r : ℕ) : Type 0 where
  equation_there : (row_at t r).kind ≡ 4
  equation_here : (row_at u r).kind ≡ 4
  left_is : (row_at u r).a ≡ (row_at t r).b
  right_is : (row_at u r).b ≡ (row_at t r).a

-- an equation in its row
same_place : (t u : List Row) (r a b : ℕ) → r < length u → (row_at u r ≡ row_at t r) ⊎ TurnedAt t u r → IsEquation t r a b → EitherWay u r a b
same_place t u r a b l (inl e) q =
    inl (record { in_table = l; is_equation = rw e q.is_equation; left_is = rw e q.left_is; right_is = rw e q.right_is })
same_place t u r a b l (inr e) q =
    inr (record { in_table = l; is_equation = e.equation_here; left_is = e.left_is ∙ q.right_is; right_is = e.right_is ∙ q.left_is })

turn_back : (t u : List Row) (r : ℕ) → (row_at u r ≡ row_at t r) ⊎ TurnedAt t u r → (row_at t r ≡ row_at u r) ⊎ TurnedAt u t r
turn_back t u r (inl e) = inl (sym e)
turn_back t u r (inr e) =
    inr (record { equation_there = e.equation_here; equation_here = e.equation_there; left_is = sym e.right_is; right_is = sym e.left_is })

in_place : (t u : List Row) → length u ≡ length t → ((r : ℕ) → r < length t → (row_at u r ≡ row_at t r) ⊎ TurnedAt t u r) → Rearranged t u
in_place t u many rows =
    record {
      as_many = many;
      kinds = λ r l. ⊎_elim (λ e. ap (λ (x : Row). x.kind) e) (λ e. e.equation_here ∙ sym e.equation_there) (rows r l);
      others = λ r l n. ⊎_elim (λ e. e) (λ e. absurd (n e.equation_there)) (rows r l);
      forth = λ r a b q. (r, same_place t u r a b (omega (arith, many, q.in_table)) (rows r q.in_table) q);
      back = λ r a b q.
          let l : r < length t = omega (arith, many, q.in_table) in
          (r, same_place u t r a b l (turn_back t u r (rows r l)) q);
    }

-- the sides of one equation exchanged
pub turned_one : (t : List Row) (r a b : ℕ) → IsEquation t r a b
    → Rearranged t (set t r (record { kind = 4; a = b; b = a; c = (row_at t r).c }))
turned_one t r a b q = in_place t (set t r new) (length-set t r new) (λ i l. ⊎_elim here (λ n. inl (get_or-set_other t r i new no_row n)) (dec_eq i r))
  where
    new : Row
    new = record { kind = 4; a = b; b = a; c = (row_at t r).c }

    here : {i : ℕ} → i ≡ r → (row_at (set t r new) i ≡ row_at t i) ⊎ TurnedAt t (set t r new) i
    here e =
        let it : row_at (set t r new) r ≡ new = get_or-set_same t r new no_row q.in_table in
        rw e (inr (record {
          equation_there = q.is_equation;
          equation_here = rw it refl;
          left_is = rw it (sym q.right_is);
          right_is = rw it (sym q.left_is);
        }))

-- any number of sides turned
turned-count : {t u : List Row} → AllTurned t u → length u ≡ length t
turned-count none = refl
turned-count (kept h) = ap suc (turned-count h)
turned-count (turned h) = ap suc (turned-count h)

behind : (x y : Row) (t u : List Row) (r : ℕ) → (row_at u r ≡ row_at t r) ⊎ TurnedAt t u r
    → (row_at (y ∷ u) (suc r) ≡ row_at (x ∷ t) (suc r)) ⊎ TurnedAt (x ∷ t) (y ∷ u) (suc r)
behind x y t u r (inl e) = inl e
behind x y t u r (inr e) =
    inr (record { equation_there = e.equation_there; equation_here = e.equation_here; left_is = e.left_is; right_is = e.right_is })

turned_rows : {t u : List Row} → AllTurned t u → (r : ℕ) → (row_at u r ≡ row_at t r) ⊎ TurnedAt t u r
turned_rows none r = inl refl
turned_rows (kept h) zero = inl refl
turned_rows (turned h) zero = inr (record { equation_there = refl; equation_here = refl; left_is = refl; right_is = refl })
turned_rows (kept {r = x} {t = t} {u = u} h) (suc r) = behind x x t u r (turned_rows h r)
turned_rows (turned {a = a} {b = b} {c = c} {t = t} {u = u} h) (suc r) =
    behind (record { kind = 4; a = a; b = b; c = c }) (record { kind = 4; a = b; b = a; c = c }) t u r (turned_rows h r)

pub turned_rearranged : (t u : List Row) → AllTurned t u → Rearranged t u
turned_rearranged t u h = in_place t u (turned-count h) (λ r l. turned_rows h r)

-- ---- two equations exchanged
moved : (t u : List Row) (r s a b : ℕ) → s < length u → row_at u s ≡ row_at t r → IsEquation t r a b → EitherWay u s a b
moved t u r s a b l e q =
    inl (record { in_table = l; is_equation = rw e q.is_equation; left_is = rw e q.left_is; right_is = rw e q.right_is })

module _ (t : List Row) (r s a b c d : ℕ) (at-r : IsEquation t r a b) (at-s : IsEquation t s c d) where
  abbrev once : List Row
  once = set t r (row_at t s)

  abbrev both : List Row
  both = set once s (row_at t r)

  many : length both ≡ length t
  many = length-set once s (row_at t r) ∙ length-set t r (row_at t s)

  there_s : row_at both s ≡ row_at t r
  there_s = get_or-set_same once s (row_at t r) no_row (omega (arith, length-set t r (row_at t s), at-s.in_table))

  there_r : row_at both r ≡ row_at t s
  there_r = ⊎_elim
      (λ e. ap (row_at both) e ∙ there_s ∙ ap (row_at t) e)
      (λ n. get_or-set_other once s r (row_at t r) no_row n ∙ get_or-set_same t r (row_at t s) no_row at-r.in_table)
      (dec_eq r s)

  elsewhere : (i : ℕ) → i ≢ s → i ≢ r → row_at both i ≡ row_at t i
  elsewhere i n m = get_or-set_other once s i (row_at t r) no_row n ∙ get_or-set_other t r i (row_at t s) no_row m

  -- what holds of row i of both, by where it comes from
  each : (P : ℕ → Type 0) → P s → P r → ((i : ℕ) → i ≢ s → i ≢ r → P i) → (i : ℕ) → P i
  each P x y z i = ⊎_elim (λ e. rw e x) (λ n. ⊎_elim (λ e. rw e y) (λ m. z i n m) (dec_eq i r)) (dec_eq i s)

  pub swapped_two : Rearranged t (set (set t r (row_at t s)) s (row_at t r))
  swapped_two =
      record {
        as_many = many;
        kinds = λ i l. each (λ i. (row_at both i).kind ≡ (row_at t i).kind)
            (rw there_s (at-r.is_equation ∙ sym at-s.is_equation))
            (rw there_r (at-s.is_equation ∙ sym at-r.is_equation))
            (λ i n m. ap (λ (x : Row). x.kind) (elsewhere i n m)) i;
        others = λ i l. each (λ i. ((row_at t i).kind ≡ 4 → ⊥) → row_at both i ≡ row_at t i)
            (λ n. absurd (n at-s.is_equation))
            (λ n. absurd (n at-r.is_equation))
            (λ i n m k. elsewhere i n m) i;
        forth = λ i x y. each (λ i. IsEquation t i x y → (j : ℕ) × EitherWay both j x y)
            (λ q. (r, moved t both s r x y (omega (arith, many, at-r.in_table)) there_r q))
            (λ q. (s, moved t both r s x y (omega (arith, many, at-s.in_table)) there_s q))
            (λ i n m q. (i, moved t both i i x y (omega (arith, many, q.in_table)) (elsewhere i n m) q)) i;
        back = λ i x y. each (λ i. IsEquation both i x y → (j : ℕ) × EitherWay t j x y)
            (λ q. (r, moved both t s r x y at-r.in_table (sym there_s) q))
            (λ q. (s, moved both t r s x y at-s.in_table (sym there_r) q))
            (λ i n m q. (i, moved both t i i x y (omega (arith, many, q.in_table)) (sym (elsewhere i n m)) q)) i;
      }
