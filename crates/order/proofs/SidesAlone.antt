-- Only sides are turned, each equation in its row (document 02, (xiv), more than it asks): the whole record stays, ties and row of a never too. A
-- turned equation agrees where it did, and its bit pairs have their sides exchanged, which no tie sees. Assumes nothing.
use mathlib.Core.Path.{◌≡◌, refl, sym, ◌∙◌, ap, ap₂, fun_ext}
use mathlib.Core.Bool.{Bool, not, ◌&&◌, ◌||◌, cond}
use mathlib.Core.List.{List, [], ◌∷◌, ◌++◌}
use Prim.Native.Nat.{ℕ, zero, suc, ◌+◌}
use native.Mathlib.Omega.{arith}
use lib.Dec.{eqb}
use lib.ListN.{length, take, get_or}
use Rattle.terms.specs.declared.Row.{Row}
use Rattle.terms.specs.Faults.{Accepted, first_fault}
use Rattle.terms.specs.Table.{rows_of, by_kind, bits_of, bit_of, values_of, sources_of, source_of, same_word, evened, sides_agree, all_rows, counting, satisfies}
use Rattle.terms.specs.Counting.{NoLines}
use Rattle.terms.proofs.Alike.{Alike, alike_bits}
use Rattle.terms.proofs.LeavingOff.{alike_values, alike_sources}
use Rattle.terms.proofs.Counting.{unmoved}
use Rattle.laws.specs.Lists.{least}
use Rattle.laws.proofs.Numbers.{eqb_turn}
use Rattle.answers.specs.Pairs.{Pair, paired, pairs_of, pairs_in, satisfies_pairs, ties, equals, equal_under}
use Rattle.answers.specs.Representatives.{SaySame}
use Rattle.answers.specs.Solve.{valid, unsatisfiable, satisfies_to, unsat_row, ties_to, pairs_together, solved_rows, answer_record, solve_record}
use Rattle.answers.proofs.Order.{equals_same, every_ext}
use Rattle.answers.proofs.Revised.{alike_variables, same_pairs}
use Rattle.order.specs.Rearranged.{AllTurned, none, kept, turned}
use Rattle.order.proofs.Rearranged.{rearranged_alike, same_patterns, turned_rearranged}

-- ---- whether equations agree
word_turn : (x y : List ℕ) → same_word x y ≡ same_word y x
unfolding same_word
word_turn [] [] = refl
word_turn [] (y ∷ ys) = refl
word_turn (x ∷ xs) [] = refl
word_turn (x ∷ xs) (y ∷ ys) = ap₂ ◌&&◌ (eqb_turn x y) (word_turn xs ys)

all_turn : (vs : List (List ℕ)) (k : ℕ) {t u : List Row} → AllTurned t u → all_rows (sides_agree vs) (take k t) ≡ all_rows (sides_agree vs) (take k u)
unfolding all_rows sides_agree by_kind
all_turn vs zero h = refl
all_turn vs (suc k) none = refl
all_turn vs (suc k) (kept {r = r} h) = ap (λ (b : Bool). sides_agree vs r && b) (all_turn vs k h)
all_turn vs (suc k) (turned {a = a} {b = b} h) =
    ap₂ ◌&&◌ (word_turn (evened (get_or vs a []) (get_or vs b [])) (evened (get_or vs b []) (get_or vs a []))) (all_turn vs k h)

-- ---- bit pairs and ties

-- pairs the same, or each with its sides exchanged
data Flipped : List Pair → List Pair → Type 0 where
  no_pair : Flipped [] []
  same : {q : Pair} {qs rs : List Pair} → Flipped qs rs → Flipped (q ∷ qs) (q ∷ rs)
  flip : {x y : ℕ} {qs rs : List Pair} → Flipped qs rs → Flipped (record { left = x; right = y } ∷ qs) (record { left = y; right = x } ∷ rs)

flipped_same : (qs : List Pair) → Flipped qs qs
flipped_same [] = no_pair
flipped_same (q ∷ qs) = same (flipped_same qs)

flipped_paired : (xs ys : List ℕ) → Flipped (paired xs ys) (paired ys xs)
unfolding paired
flipped_paired [] [] = no_pair
flipped_paired [] (y ∷ ys) = no_pair
flipped_paired (x ∷ xs) [] = no_pair
flipped_paired (x ∷ xs) (y ∷ ys) = flip (flipped_paired xs ys)

flipped_on : {qs rs qs' rs' : List Pair} → Flipped qs rs → Flipped qs' rs' → Flipped (qs ++ qs') (rs ++ rs')
flipped_on no_pair k = k
flipped_on (same h) k = same (flipped_on h k)
flipped_on (flip h) k = flip (flipped_on h k)

equals_turn : (n : ℕ) (seen : List Pair) (x y : ℕ) → equals n seen x y ≡ equals n seen y x
unfolding equal_under
equals_turn n seen x y =
    every_ext n (λ p. not (satisfies_pairs p seen) || eqb (bit_of p x) (bit_of p y)) (λ p. not (satisfies_pairs p seen) || eqb (bit_of p y) (bit_of p x))
    (λ p. ap (λ (b : Bool). not (satisfies_pairs p seen) || b) (eqb_turn (bit_of p x) (bit_of p y)))

say_same : (q : Pair) (seen seen' : List Pair) → SaySame seen seen' → SaySame (q ∷ seen) (q ∷ seen')
unfolding satisfies_pairs
say_same q seen seen' h p = ap (λ (b : Bool). eqb (bit_of p q.left) (bit_of p q.right) && b) (h p)

say_flip : (x y : ℕ) (seen seen' : List Pair) → SaySame seen seen' → SaySame (record { left = x; right = y } ∷ seen) (record { left = y; right = x } ∷ seen')
unfolding satisfies_pairs
say_flip x y seen seen' h p = ap₂ ◌&&◌ (eqb_turn (bit_of p x) (bit_of p y)) (h p)

ties_flip : (n : ℕ) (seen seen' : List Pair) {qs rs : List Pair} → SaySame seen seen' → Flipped qs rs → ties n seen qs ≡ ties n seen' rs
unfolding ties
ties_flip n seen seen' h no_pair = refl
ties_flip n seen seen' h (same {q = q} k) =
    ap₂ (λ (b : Bool) (m : ℕ). cond b 0 1 + m) (equals_same n seen seen' h q.left q.right) (ties_flip n (q ∷ seen) (q ∷ seen') (say_same q seen seen' h) k)
ties_flip n seen seen' h (flip {x = x} {y = y} k) =
    ap₂ (λ (b : Bool) (m : ℕ). cond b 0 1 + m) (equals_same n seen seen' h x y ∙ equals_turn n seen' x y)
    (ties_flip n (record { left = x; right = y } ∷ seen) (record { left = y; right = x } ∷ seen') (say_flip x y seen seen' h) k)

-- the bit pairs of a row, and of the first k rows
pairs_kept : (t u : List Row) → sources_of t ≡ sources_of u → (r : Row) → Flipped (pairs_of t r) (pairs_of u r)
pairs_kept t u e r = rw (same_pairs t u r e) (flipped_same (pairs_of u r))

pairs_turned : (t u : List Row) → sources_of t ≡ sources_of u → (a b c : ℕ)
    → Flipped (pairs_of t (record { kind = 4; a = a; b = b; c = c })) (pairs_of u (record { kind = 4; a = b; b = a; c = c }))
unfolding pairs_of by_kind
pairs_turned t u e a b c = rw (← e) (flipped_paired (evened (source_of t a) (source_of t b)) (evened (source_of t b) (source_of t a)))

together_turn : (t u : List Row) → sources_of t ≡ sources_of u → (k : ℕ) {rs ss : List Row} → AllTurned rs ss
    → Flipped (pairs_together (take k (pairs_in t rs))) (pairs_together (take k (pairs_in u ss)))
unfolding pairs_in pairs_together
together_turn t u e zero h = no_pair
together_turn t u e (suc k) none = no_pair
together_turn t u e (suc k) (kept {r = r} h) = flipped_on (pairs_kept t u e r) (together_turn t u e k h)
together_turn t u e (suc k) (turned {a = a} {b = b} {c = c} h) = flipped_on (pairs_turned t u e a b c) (together_turn t u e k h)

-- ---- the record
module _ (first second : List ℕ) (first_no_lines : NoLines (rows_of first)) (second_no_lines : NoLines (rows_of second))
    (h : AllTurned (rows_of first) (rows_of second)) where
  abbrev t : List Row
  t = rows_of first

  abbrev u : List Row
  u = rows_of second

  alike : Alike 4 u t
  alike = rearranged_alike t u (turned_rearranged t u h)

  bits : bits_of t ≡ bits_of u
  bits = sym (alike_bits 4 (omega arith) u t alike)

  first_counting : counting t ≡ t
  first_counting = (unmoved t).no_lines first_no_lines

  second_counting : counting u ≡ u
  second_counting = (unmoved u).no_lines second_no_lines

  row_stays : unsat_row t ≡ unsat_row u
  unfolding unsat_row satisfies_to
  row_stays =
      ap₂ (λ (f : ℕ → Bool) (m : ℕ). least f 0 m)
      (fun_ext (λ r. rw (first_counting, second_counting, bits) (every_ext (bits_of u) _ _ (λ p. ap not (
      ap (λ (vs : List (List ℕ)). all_rows (sides_agree vs) (take (suc r) t)) (sym (alike_values u t alike p)) ∙ all_turn (values_of u p) (suc r) h)))))
      (sym alike.count)

  ties_stay : (r : ℕ) → ties_to t r ≡ ties_to u r
  unfolding ties_to
  ties_stay r =
      rw (first_counting, second_counting, bits)
      (ties_flip (bits_of u) [] [] (λ p. refl) (together_turn t u (sym (alike_sources u t alike)) r h))

  patterns_stay : satisfies t ≡ satisfies u
  patterns_stay = fun_ext (same_patterns t u first_no_lines second_no_lines (turned_rearranged t u h)).0

  rows_stay : solved_rows t ≡ solved_rows u
  unfolding solved_rows
  rows_stay = rw (bits, patterns_stay, alike_variables u t alike)

  -- (h) The whole record is equal.
  pub sides_alone : answer_record (rows_of first) ≡ answer_record (rows_of second)
  unfolding answer_record valid unsatisfiable
  sides_alone = rw (rows_stay, row_stays, bits, patterns_stay, sym alike.count, ties_stay (unsat_row u), ties_stay (length u))

  -- and so is that of a solve, whatever is lent to it, where both are accepted.
  pub sides_alone_call : first_fault first ≡ Accepted → first_fault second ≡ Accepted
      → (answerRoom work_room : ℕ) → solve_record first answerRoom work_room ≡ solve_record second answerRoom work_room
  unfolding solve_record
  sides_alone_call first_accepted second_accepted answerRoom work_room = rw (first_accepted, second_accepted, sides_alone)
