-- Home and high bit set row by row: rows before row i have those of their home row, the others their own.
use mathlib.Core.Path.{◌≡◌, refl, sym, ◌∙◌, ap}
use mathlib.Core.Logic.{◌⊎◌, inl, inr, ◌≢◌}
use mathlib.Core.List.{List}
use Prim.Native.Nat.{ℕ, suc, ◌+◌, ◌*◌, ◌≤◌, ◌<◌}
use native.Mathlib.Omega.{arith}
use native.Mathlib.Numerals.{add-one}
use lib.ListN.{length, get_or}
use borrow.Author.Tests.{lt-ltb, le-ltb}
use Rattle.laws.proofs.Numbers.{dec_eq, lt_or_le}
use Rattle.answers.specs.declared.AnswerRow.{AnswerRow}
use Rattle.answers.specs.Answer.{answer_row_at, answer_rows_of, high_bit, home_row}
use Rattle.answers.proofs.AnswerNumbers.{answer-columns}
use Rattle.answers.specs.inner.Orderly.{Orderly}
use Rattle.answers.specs.inner.FourNumbers.{answer_columns}
use Rattle.homes.specs.inner.Homes.{Standing, home_in, home_copied, homed_to, Homed, MarksFirst, SetsHome, SetsHomes}
use Rattle.homes.proofs.Stores.{kept_columns, copy-length, copy_kept, copy-home, copy_high}
use Rattle.answers.proofs.Homes.{home_le}
use Rattle.homes.proofs.Firsts.{none_seen, home_known, home_home}

module _ (rows : List AnswerRow) (i j : ℕ) where
  homed_low : j < i → homed_to rows i j ≡ home_row rows j
  unfolding homed_to
  homed_low l = rw (lt-ltb j i l)

  homed_high : i ≤ j → homed_to rows i j ≡ j
  unfolding homed_to
  homed_high l = rw (le-ltb j i l)

-- another row than row i
homed_same : (rows : List AnswerRow) (i j : ℕ) → j ≢ i → homed_to rows i j ≡ homed_to rows (suc i) j
homed_same rows i j n = go (lt_or_le j i)
  where
    go : (j < i) ⊎ (i ≤ j) → homed_to rows i j ≡ homed_to rows (suc i) j
    go (inl l) = homed_low rows i j l ∙ sym (homed_low rows (suc i) j (omega arith))
    go (inr l) = homed_high rows i j l ∙ sym (homed_high rows (suc i) j (omega arith))

-- the home row has its own place
homed_home : (rows : List AnswerRow) (i : ℕ) → homed_to rows i (home_row rows i) ≡ home_row rows i
homed_home rows i = go (lt_or_le (home_row rows i) i)
  where
    go : (home_row rows i < i) ⊎ (i ≤ home_row rows i) → homed_to rows i (home_row rows i) ≡ home_row rows i
    go (inl l) = homed_low rows i (home_row rows i) l ∙ home_home rows i
    go (inr l) = homed_high rows i (home_row rows i) l

pub record Setting (n : ℕ) (t₀ t firsts₀ firsts : List ℕ) (seen i : ℕ) : Type 0 where
  pub within : i ≤ n
  pub len : length t ≡ length t₀
  pub room_len : length firsts ≡ length firsts₀
  pub going : (rows : List AnswerRow) (old : List ℕ) → n ≡ length rows → Orderly rows → n * 6 ≤ length t₀ → n ≤ length firsts₀ → Standing rows (λ j. j) old t₀
      → Homed rows old t firsts seen i

-- the same rows by another name of their places
standing_as : (rows : List AnswerRow) (f g : ℕ → ℕ) (old t : List ℕ) → ((j : ℕ) → j < length rows → f j ≡ g j) → Standing rows f old t → Standing rows g old t
standing_as rows f g old t h k =
    record {
      len = k.len;
      rows_are = k.rows_are;
      homes_are = λ j l. k.homes_are j l ∙ ap (λ (x : ℕ). (answer_row_at rows x).variable) (h j l);
      highs_are = λ j l. k.highs_are j l ∙ ap (high_bit rows) (h j l);
      behind = k.behind;
    }

pub setting_first : (n : ℕ) (t firsts : List ℕ) → Setting n t t firsts firsts 0 0
setting_first n t firsts =
    record {
      within = omega arith;
      len = refl;
      room_len = refl;
      going = λ rows old e o room space s.
          record { seen_are = none_seen rows firsts; standing = standing_as rows (λ j. j) (homed_to rows 0) old t (λ j l. sym (homed_high rows 0 j (omega arith))) s };
    }

-- one row more
module _ (rows : List AnswerRow) (o : Orderly rows) (old t : List ℕ) (i : ℕ) (s : Standing rows (homed_to rows i) old t) (l : i < length rows) (room : length rows * 6 ≤ length t) where
  abbrev h : ℕ
  h = home_row rows i

  abbrev t' : List ℕ
  t' = home_copied t (home_row rows i) i

  home_there : home_row rows i < length rows
  home_there = omega (arith, home_le rows i)

  standing_more : Standing rows (homed_to rows (suc i)) old (home_copied t (home_row rows i) i)
  standing_more =
      record {
        len = copy-length t h i ∙ s.len;
        rows_are = λ j q. rows_at j q (dec_eq j i);
        homes_are = λ j q. homes_at j q (dec_eq j i);
        highs_are = λ j q. highs_at j q (dec_eq j i);
        behind = λ x q. copy_kept t h i x (inr (omega arith)) ∙ s.behind x q;
      }
    where
      fits : i * 6 + 6 ≤ length t
      fits = omega arith

      now_home : homed_to rows (suc i) i ≡ home_row rows i
      now_home = homed_low rows (suc i) i (omega arith)

      apart : (j : ℕ) → j ≢ i → (j * 6 + 6 ≤ i * 6) ⊎ (i * 6 + 6 ≤ j * 6)
      apart j n = go (lt_or_le j i)
        where
          go : (j < i) ⊎ (i ≤ j) → (j * 6 + 6 ≤ i * 6) ⊎ (i * 6 + 6 ≤ j * 6)
          go (inl q) = inl (omega arith)
          go (inr q) = inr (omega arith)

      kept_at : (j x : ℕ) → j ≢ i → j * 6 ≤ x → x < j * 6 + 6 → get_or t' x 0 ≡ get_or t x 0
      kept_at j x n a b = go (apart j n)
        where
          go : (j * 6 + 6 ≤ i * 6) ⊎ (i * 6 + 6 ≤ j * 6) → get_or t' x 0 ≡ get_or t x 0
          go (inl q) = copy_kept t h i x (inl (omega arith))
          go (inr q) = copy_kept t h i x (inr (omega arith))

      columns_kept : (j : ℕ) → (j ≡ i) ⊎ (j ≢ i) → answer_columns t' (j * 6) ≡ answer_columns t (j * 6)
      columns_kept j (inl e) = kept_columns t t' (i * 6 + 4) 2 (j * 6) (copy_kept t h i) (inl (omega arith))
      columns_kept j (inr n) = go (apart j n)
        where
          go : (j * 6 + 6 ≤ i * 6) ⊎ (i * 6 + 6 ≤ j * 6) → answer_columns t' (j * 6) ≡ answer_columns t (j * 6)
          go (inl q) = kept_columns t t' (i * 6 + 4) 2 (j * 6) (copy_kept t h i) (inl (omega arith))
          go (inr q) = kept_columns t t' (i * 6 + 4) 2 (j * 6) (copy_kept t h i) (inr (omega arith))

      rows_at : (j : ℕ) → j < length rows → (j ≡ i) ⊎ (j ≢ i) → answer_columns t' (j * 6) ≡ answer_row_at rows j
      rows_at j q d = columns_kept j d ∙ s.rows_are j q

      homes_at : (j : ℕ) → j < length rows → (j ≡ i) ⊎ (j ≢ i) → get_or t' (j * 6 + 4) 0 ≡ (answer_row_at rows (homed_to rows (suc i) j)).variable
      homes_at j q (inl e) =
          rw (e, now_home) (copy-home t h i fits ∙ s.homes_are h home_there ∙ ap (λ (x : ℕ). (answer_row_at rows x).variable) (homed_home rows i))
      homes_at j q (inr n) =
          kept_at j (j * 6 + 4) n (omega arith) (omega arith) ∙ s.homes_are j q ∙ ap (λ (x : ℕ). (answer_row_at rows x).variable) (homed_same rows i j n)

      highs_at : (j : ℕ) → j < length rows → (j ≡ i) ⊎ (j ≢ i) → get_or t' (j * 6 + 5) 0 ≡ high_bit rows (homed_to rows (suc i) j)
      highs_at j q (inl e) = rw (e, now_home) (copy_high t h i fits ∙ s.highs_are h home_there ∙ ap (high_bit rows) (homed_home rows i))
      highs_at j q (inr n) = kept_at j (j * 6 + 5) n (omega arith) (omega arith) ∙ s.highs_are j q ∙ ap (high_bit rows) (homed_same rows i j n)

-- row i marked as far as its piece first appears there, and its home read
pub home_set : (r : AnswerRow) (i seen : ℕ) (t firsts firsts' : List ℕ) (seen' : ℕ) → length firsts' ≡ length firsts → MarksFirst r i seen firsts firsts' seen'
    → (from : ℕ) → from ≡ home_in firsts' r i → (t' : List ℕ) → t' ≡ home_copied t from i → SetsHome r i seen t t' firsts firsts' seen'
home_set r i seen t firsts firsts' seen' lf m from eh t' et rows old o e l room space g =
    let s = m rows o e l space g.seen_are in
    let home : from ≡ home_row rows i = eh ∙ ap (λ (x : AnswerRow). home_in firsts' x i) e ∙ home_known rows firsts' seen' (i + 1) i s (omega arith) in
    rw (et, home) (record { seen_are = s; standing = rw add-one (standing_more rows o old t i g.standing l room) })

module _ (n : ℕ) (t₀ t firsts₀ firsts : List ℕ) (seen i : ℕ) (k : Setting n t₀ t firsts₀ firsts seen i) where
  pub setting_more : i < n → (w : ℕ) → w ≡ i → (r : AnswerRow) → r ≡ answer_row_at (answer_rows_of t) w → (t' firsts' : List ℕ) → length t' ≡ length t → length firsts' ≡ length firsts
      → (seen' : ℕ) → SetsHome r i seen t t' firsts firsts' seen' → Setting n t₀ t' firsts₀ firsts' seen' (i + 1)
  setting_more l w ew r er t' firsts' lt lf seen' h =
      record {
        within = omega arith;
        len = lt ∙ k.len;
        room_len = lf ∙ k.room_len;
        going = λ rows old e o room space s.
            let g = k.going rows old e o room space s in
            let row : r ≡ answer_row_at rows i =
            er ∙ ap (answer_row_at (answer_rows_of t)) ew ∙ sym (answer-columns t i (omega (arith, k.len))) ∙ g.standing.rows_are i (omega arith) in
            h rows old o row (omega arith) (omega (arith, k.len)) (omega (arith, k.room_len)) g;
      }

  pub setting_done : n ≤ i → SetsHomes n t₀ t (length firsts₀)
  setting_done l rows old e o room space s =
      let g = k.going rows old e o room space s in
      standing_as rows (homed_to rows i) (home_row rows) old t (λ j q. homed_low rows i j (omega arith)) g.standing
