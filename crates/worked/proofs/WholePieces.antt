-- The answer that leaves every variable free is well formed, whatever the widths: it is a solved system, and its free bits are all variable bits.
-- Assumes nothing.
use mathlib.Core.Path.{◌≡◌, refl, sym, ◌∙◌, ap, ap₂}
use mathlib.Core.Bool.{false}
use mathlib.Core.List.{List, [], ◌∷◌, map}
use Prim.Native.Nat.{ℕ, zero, suc, ◌+◌, ◌≤◌, ◌<◌}
use native.Mathlib.Omega.{arith}
use lib.ListN.{length, get_or, take}
use lib.Seq.{take-length}
use borrow.Author.Tests.{eq-eqb, ne_eqb}
use Rattle.laws.specs.Lists.{count_up, member, distinct}
use Rattle.terms.specs.declared.Row.{Row}
use Rattle.terms.specs.Table.{bits_of}
use Rattle.answers.specs.declared.AnswerRow.{AnswerRow}
use Rattle.answers.specs.Answer.{variable_widths, fresh_numbers, fresh_pieces, fresh_width, fresh_start, free_bits}
use Rattle.answers.specs.Systems.{Part, fresh, side_width, FineSides, SolvedSystem}
use Rattle.answers.specs.Demands.{part_of, side_of, sides_from, sides_of}
use Rattle.answers.proofs.GeneralSystems.{width_sum}
use Rattle.answers.proofs.Variables.{widths_sum}
use Rattle.worked.specs.WrongSolvers.{whole_pieces}

-- one side for each variable, of one fresh piece
abbrev own : ℕ → List ℕ → List (List Part)
own v [] = []
own v (w ∷ ws) = (fresh v w ∷ []) ∷ own (suc v) ws

side_none : (v u : ℕ) (ws : List ℕ) → v < u → side_of v (whole_pieces u ws) ≡ []
unfolding side_of whole_pieces
side_none v u [] l = refl
side_none v u (w ∷ ws) l = rw (ne_eqb u v (omega arith)) (side_none v (suc u) ws (omega arith))

other_sides : (m v : ℕ) (r : AnswerRow) (rows : List AnswerRow) → r.variable < v → sides_from v m (r ∷ rows) ≡ sides_from v m rows
unfolding sides_from side_of
other_sides zero v r rows l = refl
other_sides (suc m) v r rows l = rw (ne_eqb r.variable v (omega arith)) (ap (λ (s : List (List Part)). side_of v rows ∷ s) (other_sides m (suc v) r rows (omega arith)))

sides_own : (v : ℕ) (ws : List ℕ) → sides_from v (length ws) (whole_pieces v ws) ≡ own v ws
unfolding sides_from side_of whole_pieces part_of
sides_own v [] = refl
sides_own v (w ∷ ws) =
    rw (eq-eqb v v refl, side_none v (suc v) ws (omega arith), other_sides (length ws) (suc v) (record { variable = v; kind = 2; width = w; fresh = v }) (whole_pieces (suc v) ws) (omega arith))
    (ap (λ (s : List (List Part)). (fresh v w ∷ []) ∷ s) (sides_own (suc v) ws))

own_widths : (v : ℕ) (ws : List ℕ) → map side_width (own v ws) ≡ ws
unfolding side_width
own_widths v [] = refl
own_widths v (w ∷ ws) = ap₂ (λ (x : ℕ) (xs : List ℕ). x ∷ xs) (omega arith) (own_widths (suc v) ws)

own_fine : (wide : ℕ → ℕ) (v : ℕ) (ws : List ℕ) → ((k : ℕ) → k < length ws → 1 ≤ get_or ws k 0) → ((k : ℕ) → wide (v + k) ≡ get_or ws k 0) → FineSides wide (own v ws)
own_fine wide v [] l h = tt
own_fine wide v (w ∷ ws) l h = (
  ((l 0 (omega arith), sym (h 0) ∙ ap wide (omega arith)), tt),
  own_fine wide (suc v) ws (λ k q. l (suc k) (omega arith)) (λ k. ap wide (omega arith) ∙ h (suc k)),
)

pub whole_system : (ws : List ℕ) → ((k : ℕ) → k < length ws → 1 ≤ get_or ws k 0) → SolvedSystem ws (sides_of ws (whole_pieces 0 ws))
unfolding sides_of
whole_system ws l =
    rw (sides_own 0 ws)
    (record {
      wide = λ label. get_or ws label 0;
      parts_fine = own_fine (λ label. get_or ws label 0) 0 ws l (λ k. ap (λ (x : ℕ). get_or ws x 0) (omega arith));
      widths_are = own_widths 0 ws;
    })

-- the fresh numbers count up, and each has its variable's width
numbers_up : (v : ℕ) (ws : List ℕ) → fresh_numbers (whole_pieces v ws) ≡ count_up v (length ws)
unfolding fresh_numbers whole_pieces count_up
numbers_up v [] = refl
numbers_up v (w ∷ ws) = ap (λ (l : List ℕ). v ∷ l) (numbers_up (suc v) ws)

not-above : (x k n : ℕ) → x < k → member x (count_up k n) ≡ false
unfolding member count_up
not-above x k zero l = refl
not-above x k (suc n) l = rw (ne_eqb x k (omega arith)) (not-above x (suc k) n (omega arith))

all-distinct : (k n : ℕ) → distinct (count_up k n) ≡ n
unfolding distinct count_up
all-distinct k zero = refl
all-distinct k (suc n) = rw (not-above k (suc k) n (omega arith), all-distinct (suc k) n) (omega arith)

width_of : (v : ℕ) (ws : List ℕ) (i : ℕ) → fresh_width (whole_pieces v ws) (v + i) ≡ get_or ws i 0
unfolding fresh_width whole_pieces
width_of v [] i = refl
width_of v (w ∷ ws) zero = rw (eq-eqb v (v + 0) (omega arith)) refl
width_of v (w ∷ ws) (suc i) =
    rw (ne_eqb v (v + suc i) (omega arith)) (ap (fresh_width (whole_pieces (suc v) ws)) (omega arith) ∙ width_of (suc v) ws i)

sum_more : (ws : List ℕ) (k : ℕ) → width_sum (take (suc k) ws) ≡ width_sum (take k ws) + get_or ws k 0
unfolding width_sum
sum_more [] zero = refl
sum_more [] (suc k) = refl
sum_more (w ∷ ws) zero = omega arith
sum_more (w ∷ ws) (suc k) = omega (arith, sum_more ws k)

start_of : (ws : List ℕ) (k : ℕ) → fresh_start (whole_pieces 0 ws) k ≡ width_sum (take k ws)
unfolding fresh_start
start_of ws zero = unfold width_sum in refl
start_of ws (suc k) = omega (arith, start_of ws k, sum_more ws k, width_of 0 ws k, ap (fresh_width (whole_pieces 0 ws)) (zero_more k))
  where
    zero_more : (k : ℕ) → 0 + k ≡ k
    zero_more k = omega arith

pub whole_free : (t : List Row) → free_bits (whole_pieces 0 (variable_widths t)) ≡ bits_of t
unfolding free_bits fresh_pieces
whole_free t =
    let ws = variable_widths t in
    ap (fresh_start (whole_pieces 0 ws)) (ap distinct (numbers_up 0 ws) ∙ all-distinct 0 (length ws))
    ∙ start_of ws (length ws) ∙ ap width_sum (take-length ws) ∙ widths_sum t
