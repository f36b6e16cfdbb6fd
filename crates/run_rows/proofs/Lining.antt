-- Marks by runs, stretches of a run, and rows that are passed at once: what the functions do, step by step.
use mathlib.Core.Path.{◌≡◌, refl, sym, ap, ◌∙◌, subst}
use mathlib.Core.Logic.{◌⊎◌, inl, inr, ◌≢◌}
use mathlib.Core.Bool.{Bool, true, false, cond}
use mathlib.Core.List.{List}
use Prim.Native.Nat.{ℕ, suc, ◌+◌, ◌-◌, ◌%◌, ◌≤◌, ◌<◌, min, max}
use native.Mathlib.Omega.{arith}
use lib.Bits.{bit_or, or_add_and, and_le_l, and_le_r}
use lib.Dec.{eqb}
use lib.ListN.{length, get_or, set, replicate}
use borrow.Author.Tests.{eqb-true}
use Rattle.laws.proofs.Bools.{and_parts, not_both}
use Rattle.laws.proofs.Numbers.{lt_or_le}
use Rattle.laws.proofs.Tallies.{tally_most}
use Rattle.answers.specs.Answer.{begins, variable_widths, appears}
use Rattle.terms.specs.Table.{rows_of}
use Rattle.terms.proofs.AcceptedTable.{table_bits}
use Rattle.answers.specs.inner.Classes.{rep, in_class}
use Rattle.borders.specs.declared.Progress.{Progress}
use Rattle.borders.specs.inner.Borders.{goes_in, step_in, row_written, uneven_with, MarksUneven, MarksBegins, BeginsMarked}
use Rattle.borders.proofs.Sweeping.{Swept, swept_first, swept_more, swept_done}
use Rattle.borders.proofs.Placing.{Putting, no_place, putting_first, putting_more, putting_done}
use Rattle.borders.proofs.Answering.{rows_put, put-many}
use Rattle.slices.specs.Along.{along}
use Rattle.slices.proofs.SideBySide.{along_fixed, along_place}
use Rattle.runs.specs.inner.Puts.{PutsRun}
use Rattle.runs.proofs.Putting.{paced_same}
use Rattle.runs.proofs.Finding.{side_all}
use Rattle.run_rows.specs.inner.Wide.{wider}
use Rattle.run_rows.specs.inner.Lined.{Settled, MarksAre, MarksRun, MarksRuns, IsClear, AllClear, Stretches, PutsInRuns, PutsWithRuns, PutsRowsInRuns}
use Rattle.run_rows.proofs.Going.{going_wide}
use Rattle.run_rows.proofs.Marking.{inner_swept, stretch_on}

-- ---- one run marked
module _ (marks c : List ℕ) (side k t : ℕ) (u u₁ : List ℕ) (e₁ : u₁ ≡ uneven_with marks c side k u) (l₁ : length u₁ ≡ length u) where
  first_swept : (u₀ : List ℕ) → length u ≡ length u₀ → MarksUneven marks c side k u₀ u → Swept marks c side (k + 1) u₀ u₁
  first_swept u₀ l M = swept_more marks c side k u₀ u u₁ (record { len = l; marks = M }) l₁ e₁

  -- of one place, of two, and of more
  pub run_one : t ≤ k → MarksRun marks c side k t u u₁
  run_one a n S last first u₀ are D either room up in' on l M =
      let e : k + 1 ≡ t + 1 = omega arith in
      subst (λ (x : ℕ). MarksUneven marks c side x u₀ u₁) e (first_swept u₀ l M).marks

  pub run_two : (s : ℕ) (u₂ : List ℕ) → k < t → s ≡ (k + 1) % 65536 → t ≡ s → u₂ ≡ uneven_with marks c side t u₁ → length u₂ ≡ length u₁ → MarksRun marks c side k t u u₂
  run_two s u₂ a es et e₂ l₂ n S last first u₀ are D either room up in' on l M =
      let e : k + 1 ≡ t = omega (arith, D.few) in
      let W : Swept marks c side t u₀ u₁ = subst (λ (x : ℕ). Swept marks c side x u₀ u₁) e (first_swept u₀ l M) in
      (swept_more marks c side t u₀ u₁ u₂ W l₂ e₂).marks

  pub run_more : (s : ℕ) (u₂ u₃ : List ℕ) → k < t → s ≡ (k + 1) % 65536 → t ≢ s → u₂ ≡ uneven_with marks c side s u₁ → length u₂ ≡ length u₁ → u₃ ≡ uneven_with marks c side t u₂ → length u₃ ≡ length u₂
      → MarksRun marks c side k t u u₃
  run_more s u₂ u₃ a es et e₂ l₂ e₃ l₃ n S last first u₀ are D either room up in' on l M =
      let e : k + 1 ≡ s = omega (arith, D.few) in
      let more : suc (suc k) ≤ t = behind D.few up in' in
      let W : Swept marks c side s u₀ u₁ = subst (λ (x : ℕ). Swept marks c side x u₀ u₁) e (first_swept u₀ l M) in
      let z : s + 1 ≡ suc (suc k) = omega arith in
      let X : Swept marks c side (suc (suc k)) u₀ u₂ = subst (λ (x : ℕ). Swept marks c side x u₀ u₂) z (swept_more marks c side s u₀ u₁ u₂ W l₂ e₂) in
      let d : suc (suc k) + (t - suc (suc k)) ≡ t = omega arith in
      let Y : Swept marks c side t u₀ u₂ =
      subst (λ (x : ℕ). Swept marks c side x u₀ u₂) d
      (inner_swept n S marks c last first are D.low D.root D.runs D.seated side either u₀ u₂ room k t (t - suc (suc k)) in' (omega arith) on X) in
      (swept_more marks c side t u₀ u₂ u₃ Y l₃ e₃).marks
    where
      behind : {m : ℕ} → m ≤ 4096 → k ≤ t → t < m → suc (suc k) ≤ t
      behind f p q = go (lt_or_le (suc k) t)
        where
          go : (suc k < t) ⊎ (t ≤ suc k) → suc (suc k) ≤ t
          go (inl y) = y
          go (inr y) = absurd (et (omega arith))

-- ---- all runs
module _ (marks c last : List ℕ) (side n : ℕ) (u₀ u : List ℕ) (k : ℕ) (small : k < n) (S : ℕ → Bool) (first : List ℕ) (are : MarksAre n S marks) (D : Settled n S c last first)
    (either : (side ≡ 0) ⊎ (side ≡ 1)) (room : n + 2 ≤ length u₀) (len : length u ≡ length u₀) (M : MarksUneven marks c side k u₀ u) where
  pub runs_marked : (w x end lo t : ℕ) (u' : List ℕ) → w ≡ k → x ≡ get_or last (w + 2) 0 → end ≡ x - 2 → lo ≡ min end (n - 1) → t ≡ max k lo → MarksRun marks c side k t u u'
      → MarksUneven marks c side (t + 1) u₀ u'
  runs_marked w x end lo t u' ew ex ee el et P =
      let z : w + 2 ≡ suc (suc k) = omega arith in
      let e : x ≡ get_or last (suc (suc k)) 0 = ex ∙ ap (λ (i : ℕ). get_or last i 0) z in
      let b = D.runs.ends (suc (suc k)) (omega arith) (omega arith) in
      let f = D.runs.starts (suc (suc k)) (omega arith) (omega arith) in
      let top : suc (suc t) ≡ get_or last (suc (suc k)) 0 = omega arith in
      P n S last first u₀ are D either room (omega arith) (omega arith)
      (λ j p q. omega (arith, D.runs.whole (suc (suc k)) (suc (suc j)) (omega arith) (omega arith) (omega arith) (omega arith)))
      len M

-- with k places passed the marks are those of the first k
pub record RunsMarked (marks c last : List ℕ) (side n k : ℕ) (u₀ u : List ℕ) : Type 0 where
  pub within : k ≤ n
  pub len : length u ≡ length u₀
  pub so_far : (S : ℕ → Bool) (first : List ℕ) → MarksAre n S marks → Settled n S c last first → (side ≡ 0) ⊎ (side ≡ 1) → n + 2 ≤ length u₀ → MarksUneven marks c side k u₀ u

pub runs_first : (marks c last : List ℕ) (side n : ℕ) (u : List ℕ) → RunsMarked marks c last side n 0 u u
runs_first marks c last side n u =
    record { within = omega arith; len = refl; so_far = λ S first are D either room. (swept_first marks c side u).marks }

pub runs_more : (marks c last : List ℕ) (side n k : ℕ) (u₀ u : List ℕ) → RunsMarked marks c last side n k u₀ u → k < n
    → (w x end lo t : ℕ) (u' : List ℕ) → w ≡ k → x ≡ get_or last (w + 2) 0 → end ≡ x - 2 → lo ≡ min end (n - 1) → t ≡ max k lo → MarksRun marks c side k t u u' → length u' ≡ length u
    → RunsMarked marks c last side n (t + 1) u₀ u'
runs_more marks c last side n k u₀ u R l w x end lo t u' ew ex ee el et P len = record {
  within = omega arith;
  len = len ∙ R.len;
  so_far = λ S first are D either room.
      runs_marked marks c last side n u₀ u k l S first are D either room R.len (R.so_far S first are D either room) w x end lo t u' ew ex ee el et P;
}

pub runs_done : (marks c last : List ℕ) (side n k : ℕ) (u₀ u : List ℕ) → RunsMarked marks c last side n k u₀ u → n ≤ k → MarksRuns marks c last side n u₀ u
runs_done marks c last side n k u₀ u R l S first are D either room =
    swept_done marks c side k n u₀ u (record { len = R.len; marks = R.so_far S first are D either room }) R.within l

-- ---- a stretch
module _ (c last after before : List ℕ) (i w len : ℕ) (ew : w ≡ i) (x p : ℕ) (ex : x ≡ get_or last (w + 1) 0) (ep : p ≡ (i + 1) % 65536) (el : len ≡ x - p) where
  module _ (n : ℕ) (S : ℕ → Bool) (marks first : List ℕ) (are : MarksAre n S marks) (D : Settled n S c last first) (one : 1 ≤ i) (j : ℕ) (l : j < len) (in' : i + j < n) where
    last_is : get_or last (suc i) 0 ≡ x
    last_is = let z : w + 1 ≡ suc i = omega arith in sym (ex ∙ ap (λ (y : ℕ). get_or last y 0) z)

    far : suc i + j < get_or last (suc i) 0
    far = omega (arith, last_is, D.few)

    pub on_there : suc (suc (i + j - 1)) < get_or last (suc (suc (i + j - 1))) 0
    on_there =
        let z : suc (suc (i + j - 1)) ≡ suc i + j = omega arith in
        let f = D.runs.starts (suc i) (omega arith) (omega arith) in
        let same : get_or last (suc i + j) 0 ≡ get_or last (suc i) 0 = D.runs.whole (suc i) (suc i + j) (omega arith) (omega arith) (omega (arith, f)) (omega (arith, far)) in
        rw z (omega (arith, same, far))

    pub rep_there : rep c (suc (suc (i + j - 1))) ≡ along (rep c (suc i)) j
    rep_there =
        let z : suc (suc (i + j - 1)) ≡ suc i + j = omega arith in
        ap (rep c) z ∙ side_all (λ y. S (y - 2)) (n + 2) c last first D.runs (suc i) j (omega arith) (omega arith) (omega (arith, far))

    pub goes_there : ((2 ≤ rep c (suc (suc (i + j - 1)))) → (get_or after (rep c (suc (suc (i + j - 1)))) 0 ≡ 0) × (get_or before (suc (rep c (suc (suc (i + j - 1))))) 0 ≡ 0))
        → goes_in marks c after before (i + j) ≡ true
    goes_there clear =
        let z : suc (i + j - 1) ≡ i + j = omega arith in
        subst (λ (y : ℕ). goes_in marks c after before y ≡ true) z
        (stretch_on n S marks c last first are D.root D.runs D.seated (i + j - 1) (omega arith) on_there after before clear)

  pub stretch_fixed : (r : ℕ) → r ≡ get_or c (w + 1) 0 → r < 2 → Stretches c last after before i len
  stretch_fixed r er small n S marks first are D one j l in' =
      let z : w + 1 ≡ suc i = omega arith in
      let e : rep c (suc i) ≡ r = sym (er ∙ ap (λ (y : ℕ). get_or c y 0) z) in
      goes_there n S marks first are D one j l in'
      (λ two. absurd (omega (arith, rep_there n S marks first are D one j l in', along_fixed (rep c (suc i)) j (omega arith))))

  pub stretch_free : (r m : ℕ) → r ≡ get_or c (w + 1) 0 → 2 ≤ r → (m ≤ len) × AllClear after before r m → Stretches c last after before i m
  stretch_free r m er two K n S marks first are D one j l in' =
      let z : w + 1 ≡ suc i = omega arith in
      let e : rep c (suc i) ≡ r = sym (er ∙ ap (λ (y : ℕ). get_or c y 0) z) in
      let more : j < len = omega (arith, K.0) in
      let there : rep c (suc (suc (i + j - 1))) ≡ r + j = rep_there n S marks first are D one j more in' ∙ ap (λ (y : ℕ). along y j) e ∙ along_place r j two in
      let clear = K.1 j l in
      let v : r + j + 1 ≡ suc (r + j) = omega arith in
      goes_there n S marks first are D one j more in' (λ w. rw (there, ← v) clear)

-- ---- one place clear, and more
pub clear_not : {A : Type 0} → false ≡ true → A
clear_not e = absurd (not_both e refl)

pub clear_told : (after before : List ℕ) (r x y : ℕ) → x ≡ get_or after r 0 → x ≡ 0 → y ≡ get_or before (r + 1) 0 → eqb y 0 ≡ true → IsClear after before r
clear_told after before r x y ex zx ey zy = (sym ex ∙ zx, sym ey ∙ eqb-true y 0 zy)

pub clear_one : (after before : List ℕ) (r : ℕ) → IsClear after before r → AllClear after before r 1
clear_one after before r one j l =
    let e : r ≡ r + j = omega arith in
    subst (IsClear after before) e one

-- so many passed, and so many more
pub clear_more : (after before : List ℕ) (r k m : ℕ) → AllClear after before r k → AllClear after before (r + k) m → AllClear after before r (k + m)
clear_more after before r k m K more j l = go (lt_or_le j k)
  where
    go : (j < k) ⊎ (k ≤ j) → IsClear after before (r + j)
    go (inl a) = K j a
    go (inr a) = let e : r + k + (j - k) ≡ r + j = omega arith in subst (IsClear after before) e (more (j - k) (omega arith))

pub clear_all : (after before : List ℕ) (r len from count k m : ℕ) → from ≡ r → count ≡ len → count ≤ 65535 → k ≤ count → AllClear after before from k → m ≡ k % 65536
    → (m ≤ len) × AllClear after before r m
clear_all after before r len from count k m ef ec few most K em = (omega arith, λ j l. subst (λ (x : ℕ). IsClear after before (x + j)) ef (K j (omega arith)))

-- the bits of the marks looked at, taken together, are none
pub eight_more : (after before : List ℕ) (r i bits x y : ℕ) → (bits ≡ 0 → AllClear after before r i) → x ≡ get_or after (r + i) 0 → y ≡ get_or before (r + 1 + i) 0
    → bit_or bits (bit_or x y) ≡ 0 → AllClear after before r (i + 1)
eight_more after before r i bits x y K ex ey none =
    clear_more after before r i 1 (K (omega (arith, or_add_and bits (bit_or x y), and_le_r bits (bit_or x y))))
    (clear_one after before (r + i) (omega (arith, both, or_add_and x y, and_le_r x y), here))
  where
    both : bit_or x y ≡ 0
    both = omega (arith, or_add_and bits (bit_or x y), and_le_l bits (bit_or x y))

    here : get_or before (r + i + 1) 0 ≡ 0
    here =
        let e : r + i + 1 ≡ r + 1 + i = omega arith in
        rw e (omega (arith, both, or_add_and x y, and_le_l x y))

pub eight_told : (after before : List ℕ) (r i bits : ℕ) → (bits ≡ 0 → AllClear after before r i) → 8 ≤ i → i ≤ 8 → eqb bits 0 ≡ true → AllClear after before r 8
eight_told after before r i bits K a b e j l = K (eqb-true bits 0 e) j (omega arith)

-- ---- the rows, a stretch at once
goes_open : (m c after before : List ℕ) (i : ℕ) → goes_in m c after before i ≡ true → get_or m i 0 ≡ 0
unfolding goes_in
goes_open m c after before i e = eqb-true (get_or m i 0) 0 (and_parts (eqb (get_or m i 0) 0) _ e).0

pub putting_wide : (n : ℕ) (m c last after before numbers₀ old numbers answer : List ℕ) (p : Progress) (i : ℕ) → Putting n m c after before numbers₀ old numbers answer p i → 1 ≤ i
    → (S : ℕ → Bool) (first : List ℕ) → MarksAre n S m → Settled n S c last first
    → (s w x y : ℕ) → Stretches c last after before i s → w ≡ min s (n - i) → x ≡ i → y ≡ w → (numbers' : List ℕ) → PutsRun x y p.fresh 0 numbers numbers' → length numbers' ≡ length numbers
    → (i' : ℕ) → i' ≡ (i + w) % 65536 → Putting n m c after before numbers₀ old numbers' answer (wider p w) i'
putting_wide n m c last after before numbers₀ old numbers answer p i P one S first are D s w x y St ew ex ey numbers' put len i' ei =
    let z : i + w ≡ i' = omega (arith, P.within, D.few) in
    subst (Putting n m c after before numbers₀ old numbers' answer (wider p w)) z
    (record {
      within = omega (arith, P.within);
      numbers_len = len ∙ P.numbers_len;
      answer_len = P.answer_len;
      going = λ ws seen B room.
          let G = P.going ws seen B room in
          let K = put (omega (arith, P.within, P.numbers_len)) in
          let on : (k : ℕ) → k < w → goes_in m c after before (i + k) ≡ true = λ k l. St n S m first are D one k (omega arith) (omega arith) in
          going_wide n ws c seen m after before B numbers' old answer (omega (arith, P.numbers_len)) numbers p i w (omega (arith, P.within)) on (λ k l. goes_open m c after before (i + k) (on k l))
          (λ j l. K.before j (omega arith))
          (λ k l. ap (λ (a : ℕ). get_or numbers' (a + k) 0) (sym ex) ∙ K.in' k (omega arith) ∙ paced_same p.fresh k (omega (arith, G.fresh, tally_most i (appears n ws (in_class c)), P.within, D.few)))
          G;
    })

-- with i places passed, where the classes are in runs
pub record RowsGoing (n : ℕ) (m c last after before numbers₀ old numbers answer : List ℕ) (p : Progress) (i : ℕ) : Type 0 where
  pub within : i ≤ n
  pub numbers_len : length numbers ≡ length numbers₀
  pub answer_len : length answer ≡ length old
  pub so_far : (S : ℕ → Bool) (first : List ℕ) → MarksAre n S m → Settled n S c last first → Putting n m c after before numbers₀ old numbers answer p i

pub rows_first : (n : ℕ) (m c last after before numbers old : List ℕ) → RowsGoing n m c last after before numbers old numbers old no_place 0
rows_first n m c last after before numbers old =
    record { within = omega arith; numbers_len = refl; answer_len = refl; so_far = λ S first are D. putting_first n m c after before numbers old }

module _ (n : ℕ) (m c last after before numbers₀ old numbers answer : List ℕ) (p : Progress) (i : ℕ) (G : RowsGoing n m c last after before numbers₀ old numbers answer p i) where
  -- a place, and the stretch behind it
  pub rows_more : i < n → n ≤ 65535 → (at : ℕ) (numbers₁ answer₁ : List ℕ) (on : Bool) (q : Progress) → at ≡ i → numbers₁ ≡ set numbers at p.fresh
      → length numbers₁ ≡ length numbers → on ≡ goes_in m c after before i → answer₁ ≡ cond on answer (row_written answer p) → length answer₁ ≡ length answer
      → q ≡ step_in m c numbers₁ on p i → (s w x y : ℕ) → Stretches c last after before (i + 1) s → w ≡ min s (n - (i + 1)) → x ≡ i + 1 → y ≡ w → (numbers' : List ℕ)
      → PutsRun x y q.fresh 0 numbers₁ numbers' → length numbers' ≡ length numbers₁ → (q' : Progress) → q' ≡ wider q w → (i' : ℕ) → i' ≡ (i + 1 + w) % 65536
      → RowsGoing n m c last after before numbers₀ old numbers' answer₁ q' i'
  rows_more l small at numbers₁ answer₁ on q et en ln eo ea la eq s w x y St ew ex ey numbers' put len q' eq' i' ei = record {
    within = omega arith;
    numbers_len = len ∙ ln ∙ G.numbers_len;
    answer_len = la ∙ G.answer_len;
    so_far = λ S first are D.
        let P = putting_more n m c after before numbers₀ old numbers answer p i (G.so_far S first are D) l at numbers₁ answer₁ on q et en ln eo ea la eq in
        rw eq' (putting_wide n m c last after before numbers₀ old numbers₁ answer₁ q (i + 1) P (omega arith) S first are D s w x y St ew ex ey numbers' put len i' ei);
  }

  pub rows_done : n ≤ i → (pieces fresh : ℕ) (answer' : List ℕ) → answer' ≡ row_written answer p → pieces ≡ p.rows → fresh ≡ p.fresh
      → PutsInRuns n m c last after before numbers₀ old answer' pieces fresh
  rows_done l pieces fresh answer' ea ep ef S first are D =
      putting_done n m c after before numbers₀ old numbers answer p i (G.so_far S first are D) l pieces fresh answer' ea ep ef

-- ---- all of it: the parts of crate borders, with the marks and the pass by runs
pub rows_in_runs : (table c last answer answer' marks₀ marks after₀ after before₀ before numbers : List ℕ) (n pieces fresh : ℕ)
    → MarksBegins table marks₀ marks n → MarksRuns marks c last 1 n after₀ after → MarksRuns marks c last 0 n before₀ before
    → PutsInRuns n marks c last after before numbers answer answer' pieces fresh
    → PutsWithRuns table c last marks₀ after₀ before₀ (length numbers) answer answer' pieces fresh
rows_in_runs table c last answer answer' marks₀ marks after₀ after before₀ before numbers n pieces fresh b a e p first D zm za ze lm la le ln seen f inv one =
    let k : BeginsMarked table marks n = b f zm (omega (arith, inv.len, table_bits table f)) in
    let S : ℕ → Bool = begins (variable_widths (rows_of table)) in
    let D' : Settled n S c last first = subst (λ (x : ℕ). Settled x S c last first) (sym k.bits) D in
    rows_put table c answer answer' marks₀ marks after₀ after before₀ before numbers n pieces fresh b
    (a S first k.marks_are D' (inr refl) (omega (arith, inv.len, k.bits)))
    (e S first k.marks_are D' (inl refl) (omega (arith, inv.len, k.bits)))
    (p S first k.marks_are D') zm za ze lm la le ln seen f inv one

-- the lists that help are all 0 at first
pub put_all : (table c last answer answer' : List ℕ) (pieces fresh : ℕ)
    → PutsWithRuns table c last (replicate 4098 0) (replicate 4098 0) (replicate 4098 0) (length (replicate {A = ℕ} 4098 0)) answer answer' pieces fresh
    → PutsRowsInRuns table c last answer answer' pieces fresh
put_all table c last answer answer' pieces fresh p first D = put-many table c answer answer' 4098 pieces fresh (p first D) (omega arith)
