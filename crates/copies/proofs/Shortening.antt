-- The pass of `shorten`: with r rows passed, the buffer has the shortened rows of them.
use mathlib.Core.Path.{◌≡◌, refl, sym, ◌∙◌, ap, ap₂}
use mathlib.Core.Bool.{Bool, true, false}
use mathlib.Core.List.{List, [], ◌∷◌, ◌++◌}
use Prim.Native.Nat.{ℕ, suc, ◌+◌, ◌*◌, ◌%◌, ◌<◌, ◌≤◌, min}
use native.Mathlib.Omega.{arith}
use native.Mathlib.Numerals.{add-one}
use lib.Dec.{eqb}
use lib.ListN.{length, take, set, length-set}
use lib.Seq.{take_all, take-suc-set, get_or-take, length-take-le}
use borrow.Author.Tests.{eqb-true, eqb-false, eq-eqb, ne_eqb}
use Rattle.terms.specs.declared.Row.{Row}
use Rattle.terms.specs.Table.{rows_of, row_at, width_of, by_rows}
use Rattle.terms.specs.Faults.{Accepted, first_fault}
use Rattle.terms.proofs.AcceptedTable.{accepted_table}
use Rattle.terms.proofs.Faults.{kept, kept_names, extract_names, widths_small}
use Rattle.terms.specs.Sound.{Sound}
use Rattle.terms.proofs.Rows.{rows_length, row_columns}
use Rattle.copies.specs.inner.Shortened.{short_row, shortened, short_in, stored_row, Shortens}
use Rattle.copies.proofs.Shortened.{short_more, short_at, one_cut, row_cut, row_same_inner, row_same, CutOf, short_cut}
use Rattle.laws.specs.Buffers.{set_four}

-- one row, from the row that it names
pub plain_outer : (r named : Row) → (r.kind ≡ 3 → ⊥) → r ≡ short_in r named
unfolding short_in
plain_outer r named e = rw (ne_eqb r.kind 3 e)

pub plain_inner : (r named : Row) → r.kind ≡ 3 → (named.kind ≡ 3 → ⊥) → r ≡ short_in r named
unfolding short_in
plain_inner r named e f = rw (eq-eqb r.kind 3 e, ne_eqb named.kind 3 f)

pub both_cuts : (r named : Row) (b c : ℕ) → r.kind ≡ 3 → named.kind ≡ 3 → b ≡ (r.b + named.c) % 65536 → c ≡ (r.c + named.c) % 65536
    → record { kind = 3; a = named.a; b = b; c = c } ≡ short_in r named
unfolding short_in
both_cuts r named b c e f eb ec = rw (eq-eqb r.kind 3 e, eq-eqb named.kind 3 f, eb, ec)

-- a row stored
pub stored_length : (s : List ℕ) (n : ℕ) (row : Row) → length (stored_row s n row) ≡ length s
unfolding stored_row set_four
stored_length s n row = simp length-set

stored_take : (s : List ℕ) (n : ℕ) (row : Row) → suc n * 4 ≤ length s
    → take (suc n * 4) (stored_row s n row) ≡ (((take (n * 4) s ++ (row.kind ∷ [])) ++ (row.a ∷ [])) ++ (row.b ∷ [])) ++ (row.c ∷ [])
unfolding stored_row set_four
stored_take s n row h =
    let s1 = set s (n * 4) row.kind in
    let s2 = set s1 (n * 4 + 1) row.a in
    let s3 = set s2 (n * 4 + 2) row.b in
    let l1 : length s1 ≡ length s = length-set s (n * 4) row.kind in
    let l2 : length s2 ≡ length s = length-set s1 (n * 4 + 1) row.a ∙ l1 in
    let l3 : length s3 ≡ length s = length-set s2 (n * 4 + 2) row.b ∙ l2 in
    let e1 : n * 4 + 1 ≡ suc (n * 4) = omega arith in
    let e2 : n * 4 + 2 ≡ suc (n * 4 + 1) = omega arith in
    let e3 : n * 4 + 3 ≡ suc (n * 4 + 2) = omega arith in
    let e4 : suc n * 4 ≡ suc (n * 4 + 3) = omega arith in
    let t1 : take (n * 4 + 1) s1 ≡ take (n * 4) s ++ (row.kind ∷ []) = ap (λ (m : ℕ). take m s1) e1 ∙ take-suc-set s (n * 4) row.kind (omega arith) in
    let t2 : take (n * 4 + 2) s2 ≡ take (n * 4 + 1) s1 ++ (row.a ∷ []) = ap (λ (m : ℕ). take m s2) e2 ∙ take-suc-set s1 (n * 4 + 1) row.a (omega arith) in
    let t3 : take (n * 4 + 3) s3 ≡ take (n * 4 + 2) s2 ++ (row.b ∷ []) = ap (λ (m : ℕ). take m s3) e3 ∙ take-suc-set s2 (n * 4 + 2) row.b (omega arith) in
    ap (λ (m : ℕ). take m (set s3 (n * 4 + 3) row.c)) e4
    ∙ take-suc-set s3 (n * 4 + 3) row.c (omega arith)
    ∙ ap (λ (l : List ℕ). l ++ (row.c ∷ []))
    (t3 ∙ ap (λ (l : List ℕ). l ++ (row.b ∷ [])) (t2 ∙ ap (λ (l : List ℕ). l ++ (row.a ∷ [])) t1))

rows_four : (s : List ℕ) (k a b c : ℕ) → length s % 4 ≡ 0
    → rows_of ((((s ++ (k ∷ [])) ++ (a ∷ [])) ++ (b ∷ [])) ++ (c ∷ [])) ≡ rows_of s ++ (record { kind = k; a = a; b = b; c = c } ∷ [])
unfolding rows_of
rows_four [] k a b c h = refl
rows_four (w ∷ []) k a b c h = absurd (omega arith)
rows_four (w ∷ x ∷ []) k a b c h = absurd (omega arith)
rows_four (w ∷ x ∷ y ∷ []) k a b c h = absurd (omega arith)
rows_four (w ∷ x ∷ y ∷ z ∷ s) k a b c h = ap (λ (l : List Row). record { kind = w; a = x; b = y; c = z } ∷ l) (rows_four s k a b c (omega arith))

-- the rows of a part
row-part : (s : List ℕ) (n i : ℕ) → n * 4 ≤ length s → i < n → row_at (rows_of (take (n * 4) s)) i ≡ row_at (rows_of s) i
row-part s n i h l =
    let m : length (take (n * 4) s) ≡ n * 4 = length-take-le (n * 4) s h in
    sym (row_columns (take (n * 4) s) i (omega arith))
    ∙ rw (get_or-take (n * 4) s (i * 4) 0 (omega arith), get_or-take (n * 4) s (i * 4 + 1) 0 (omega arith), get_or-take (n * 4) s (i * 4 + 2) 0 (omega arith), get_or-take (n * 4) s (i * 4 + 3) 0 (omega arith))
    (row_columns s i (omega arith))

pub record Shortening (table short₀ short : List ℕ) (r : ℕ) : Type 0 where
  pub within : r ≤ length (rows_of table)
  pub same_room : length short ≡ length short₀
  pub rows_are : first_fault table ≡ Accepted → length table ≤ length short₀ → rows_of (take (r * 4) short) ≡ shortened (take r (rows_of table))

pub shortening_first : (table short₀ : List ℕ) → Shortening table short₀ short₀ 0
unfolding rows_of shortened by_rows
shortening_first table short₀ = record { within = omega arith; same_room = refl; rows_are = λ f room. refl }

module _ (table short₀ short : List ℕ) (r : ℕ) (k : Shortening table short₀ short r) where
  abbrev t : List Row
  t = rows_of table

  -- in 16 bits the sums of an accepted table are exact
  row_exact : r < length t → r < 512 → first_fault table ≡ Accepted → length table ≤ length short₀
      → short_in (row_at t r) (row_at (rows_of short) (row_at t r).a) ≡ short_row (shortened (take r t)) (row_at t r)
  row_exact l few f room = go (eqb row.kind 3) refl (eqb (row_at made row.a).kind 3) refl
    where
      row : Row
      row = row_at t r

      named : Row
      named = row_at (rows_of short) row.a

      made : List Row
      made = shortened (take r t)

      sound : Sound t
      sound = (accepted_table table f).sound

      same : row.kind ≡ 3 → row_at made row.a ≡ named
      same e =
          let early : row.a < r = (extract_names t r row (kept_names t r (kept t r (sound r l))) e).earlier in
          ap (λ (q : List Row). row_at q row.a) (sym (k.rows_are f room))
          ∙ row-part short r row.a (omega (arith, k.same_room, rows_length table)) early

      go : (b : Bool) → eqb row.kind 3 ≡ b → (d : Bool) → eqb (row_at made row.a).kind 3 ≡ d → short_in row named ≡ short_row made row
      go false e d g =
          let n = eqb-false row.kind 3 e in
          sym (plain_outer row named n) ∙ sym (row_same made row n)
      go true e false g =
          let n = eqb-false (row_at made row.a).kind 3 g in
          let o : row.kind ≡ 3 = eqb-true row.kind 3 e in
          sym (plain_inner row named o (rw (same o) at n)) ∙ sym (row_same_inner made row n)
      go true e true g =
          let o : row.kind ≡ 3 = eqb-true row.kind 3 e in
          let i : (row_at made row.a).kind ≡ 3 = eqb-true (row_at made row.a).kind 3 g in
          let cut : CutOf t r (one_cut row (row_at made row.a)) = rw (short_at t r l, row_cut made row o i) at (short_cut t sound r l o) in
          let mine : CutOf t r (one_cut row named) = rw (same o) at cut in
          let small : width_of t named.a ≤ 1024 = widths_small t (length t) (omega arith) sound named.a (omega (arith, mine.names.earlier)) in
          sym (both_cuts row named (row.b + named.c) (row.c + named.c) o (rw (same o) at i) (omega (arith, mine.below)) (omega (arith, mine.below, mine.order)))
          ∙ ap (one_cut row) (sym (same o))
          ∙ sym (row_cut made row o i)

  pub shortening_more : r < length t → r < 512 → (row named new : Row) (a : ℕ) (short' : List ℕ) → row ≡ row_at t r → a ≡ row.a → named ≡ row_at (rows_of short) a
      → new ≡ short_in row named → short' ≡ stored_row short (min r 512) new → Shortening table short₀ short' (r + 1)
  shortening_more l few row named new a short' er ea en ew es =
      let m : min r 512 ≡ r = omega arith in
      let stored : short' ≡ stored_row short r new = rw m at es in
      rw add-one
      (record {
        within = l;
        same_room = ap length stored ∙ stored_length short r new ∙ k.same_room;
        rows_are =
            λ f room.
            let size : length (take (r * 4) short) ≡ r * 4 = length-take-le (r * 4) short (omega (arith, k.same_room, rows_length table)) in
            ap (λ (q : List ℕ). rows_of (take (suc r * 4) q)) stored
            ∙ ap rows_of (stored_take short r new (omega (arith, k.same_room, rows_length table)))
            ∙ rows_four (take (r * 4) short) new.kind new.a new.b new.c (omega arith)
            ∙ ap₂ (λ (q : List Row) (x : Row). q ++ (x ∷ [])) (k.rows_are f room)
            (ew ∙ ap₂ (λ (x y : Row). short_in x y) er (en ∙ ap (row_at (rows_of short)) (ea ∙ ap (λ (x : Row). x.a) er)) ∙ row_exact l few f room)
            ∙ sym (short_more t r l);
      })

  pub shortening_done : min (length t) 512 ≤ r → Shortens table (length short₀) short (r * 4)
  shortening_done l f room =
      let it = accepted_table table f in
      let all : length t ≤ r = omega (arith, l, it.few) in
      (omega (arith, rows_length table, k.within, it.whole), k.rows_are f room ∙ ap shortened (take_all r t all))
