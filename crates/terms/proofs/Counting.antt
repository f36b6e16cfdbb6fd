-- The equations that count (document 02, (vii)): which rows stay, that the last equation of each line counts and no other, that what counts
-- is an accepted table of which everything counts, and that nothing moves where no line is revised. Assumes nothing.
use mathlib.Core.Path.{◌≡◌, refl, sym, ◌∙◌, ap, ap₂}
use mathlib.Core.Bool.{Bool, true, false, ◌&&◌, ◌||◌, cond, and-false, or-false}
use mathlib.Core.List.{List, [], ◌∷◌, ◌++◌}
use mathlib.Core.Logic.{◌⊎◌, inl, inr, ⊎_elim, ◌≢◌}
use Prim.Native.Nat.{ℕ, zero, suc, ◌+◌, ◌-◌, ◌<◌, ◌≤◌}
use native.Mathlib.Omega.{arith}
use lib.Dec.{eqb, ltb}
use lib.ListN.{length, drop, length-drop, get_or-eq_default}
use lib.Seq.{get_or-drop, ext_get_or}
use borrow.Author.Tests.{eqb-true, eq-eqb, ne_eqb, ltb-true, lt-ltb}
use Rattle.laws.proofs.Bools.{not_both, and_parts, and_both, or_left, or_right}
use Rattle.laws.proofs.Numbers.{lt_or_le, dec_eq}
use Rattle.terms.specs.declared.Row.{Row}
use Rattle.terms.specs.Table.{rows_of, row_numbers, row_at, no_row, silent_row, leaving_off, of_line, some_row, revised, counting}
use Rattle.terms.specs.Faults.{Accepted, first_fault}
use Rattle.terms.specs.Sound.{Sound}
use Rattle.terms.specs.Counting.{IsLine, Revised, Counts, CountingRows, OneOfLine, DistinctLines, Unmoved, without_line, FewEquations}
use Rattle.terms.proofs.RowNumbers.{row_numbers_length, rows_written}
use Rattle.terms.proofs.AcceptedTable.{accepted_table, sound_accepted, table_totals}
use Rattle.terms.proofs.Alike.{AlikeRow, Alike}
use Rattle.terms.proofs.LeavingOff.{off_count, off_row, off_alike, off_sound}

-- ---- the tests
pub line_to : (n : ℕ) (r : Row) → of_line n r ≡ true → (r.kind ≡ 4) × (r.c ≡ n)
unfolding of_line
line_to n r h = let b = and_parts (eqb r.kind 4) (eqb r.c n) h in (eqb-true r.kind 4 b.0, eqb-true r.c n b.1)

line_of : (n : ℕ) (r : Row) → r.kind ≡ 4 → r.c ≡ n → of_line n r ≡ true
unfolding of_line
line_of n r k e = and_both (eqb r.kind 4) (eqb r.c n) (eq-eqb r.kind 4 k) (eq-eqb r.c n e)

-- a row that passes a test
record Found (f : Row → Bool) (t : List Row) : Type 0 where
  at : ℕ
  in_table : at < length t
  passes : f (row_at t at) ≡ true

some_at : (f : Row → Bool) (t : List Row) → some_row f t ≡ true → Found f t
unfolding some_row
some_at f [] h = absurd (not_both h refl)
some_at f (r ∷ t) h = go (some_at f t) (f r) refl
  where
    go : (some_row f t ≡ true → Found f t) → (b : Bool) → f r ≡ b → Found f (r ∷ t)
    go behind true e = record { at = 0; in_table = omega arith; passes = e }
    go behind false e = let it = behind (rw e at h) in record { at = suc it.at; in_table = omega (arith, it.in_table); passes = it.passes }

some_of : (f : Row → Bool) (t : List Row) (r : ℕ) → r < length t → f (row_at t r) ≡ true → some_row f t ≡ true
unfolding some_row
some_of f [] r l h = absurd (omega arith)
some_of f (x ∷ t) zero l h = or_left (f x) (some_row f t) h
some_of f (x ∷ t) (suc r) l h = or_right (f x) (some_row f t) (some_of f t r (omega arith) h)

record RevisedBy (r : Row) (behind : List Row) : Type 0 where
  is_equation : r.kind ≡ 4
  above_0 : 0 < r.c
  again : some_row (of_line r.c) behind ≡ true

revised_parts : (r : Row) (behind : List Row) → revised r behind ≡ true → RevisedBy r behind
unfolding revised
revised_parts r behind h =
    let a = and_parts (eqb r.kind 4) (ltb 0 r.c && some_row (of_line r.c) behind) h in
    let b = and_parts (ltb 0 r.c) (some_row (of_line r.c) behind) a.1 in
    record { is_equation = eqb-true r.kind 4 a.0; above_0 = ltb-true 0 r.c b.0; again = b.1 }

revised_whole : (r : Row) (behind : List Row) → RevisedBy r behind → revised r behind ≡ true
unfolding revised
revised_whole r behind h = rw (eq-eqb r.kind 4 h.is_equation, lt-ltb 0 r.c h.above_0, h.again)

pub revised_equation : (r : Row) (behind : List Row) → revised r behind ≡ true → r.kind ≡ 4
revised_equation r behind h = (revised_parts r behind h).is_equation

module _ (t : List Row) where
  -- an equation of line n behind row r
  line-behind : (n r : ℕ) → some_row (of_line n) (drop (suc r) t) ≡ true → Found (of_line n) (drop (suc r) t)
  line-behind n r h = some_at (of_line n) (drop (suc r) t) h

  found_line : (n r : ℕ) (it : Found (of_line n) (drop (suc r) t)) → IsLine t (suc r + it.at) n
  found_line n r it =
      let line = line_to n (row_at t (suc r + it.at)) (rw (get_or-drop (suc r) t it.at no_row) at it.passes) in
      record { in_table = omega (arith, it.in_table, length-drop (suc r) t); is_equation = line.0; line_is = line.1 }

  line-found : (n r i : ℕ) → r < i → IsLine t i n → some_row (of_line n) (drop (suc r) t) ≡ true
  line-found n r i l k =
      let e : suc r + (i - suc r) ≡ i = omega arith in
      some_of (of_line n) (drop (suc r) t) (i - suc r) (omega (arith, k.in_table, length-drop (suc r) t))
      (rw (get_or-drop (suc r) t (i - suc r) no_row, e) (line_of n (row_at t i) k.is_equation k.line_is))

  revised_to : (r : ℕ) → r < length t → revised (row_at t r) (drop (suc r) t) ≡ true → Revised t r
  revised_to r l h =
      let by = revised_parts (row_at t r) (drop (suc r) t) h in
      let it = line-behind (row_at t r).c r by.again in
      record {
        line = (row_at t r).c;
        above_0 = by.above_0;
        here = record { in_table = l; is_equation = by.is_equation; line_is = refl };
        later = suc r + it.at;
        behind = omega arith;
        there = found_line (row_at t r).c r it;
      }

  revised_of : (r : ℕ) → Revised t r → revised (row_at t r) (drop (suc r) t) ≡ true
  revised_of r h =
      let e = h.here.line_is in
      revised_whole (row_at t r) (drop (suc r) t)
      (record {
        is_equation = h.here.is_equation;
        above_0 = rw e h.above_0;
        again = rw e (line-found h.line r h.later h.behind h.there);
      })

  -- a row of the table that is not revised
  row_stays : (r : ℕ) → r < length t → (Revised t r → ⊥) → row_at (leaving_off revised t) r ≡ row_at t r
  row_stays r l still = off_row revised t r l ∙ go (revised (row_at t r) (drop (suc r) t)) refl
    where
      go : (b : Bool) → revised (row_at t r) (drop (suc r) t) ≡ b → cond b silent_row (row_at t r) ≡ row_at t r
      go true e = absurd (still (revised_to r l e))
      go false e = refl

  row_past : (r : ℕ) → length t ≤ r → row_at (leaving_off revised t) r ≡ row_at t r
  row_past r l = get_or-eq_default (leaving_off revised t) no_row (omega (arith, off_count revised t)) ∙ sym (get_or-eq_default t no_row l)

  -- (a) which rows stay
  pub counting_rows : CountingRows t
  unfolding counting
  counting_rows =
      record {
        replaced = λ r h. off_row revised t r h.here.in_table ∙ rw (revised_of r h);
        stays = λ r still. ⊎_elim (λ l. row_stays r l still) (row_past r) (lt_or_le r (length t));
        as_many = off_count revised t;
      }

  -- a row is revised or not
  pub revised-or-not : (r : ℕ) → r < length t → Revised t r ⊎ (Revised t r → ⊥)
  revised-or-not r l = go (revised (row_at t r) (drop (suc r) t)) refl
    where
      go : (b : Bool) → revised (row_at t r) (drop (suc r) t) ≡ b → Revised t r ⊎ (Revised t r → ⊥)
      go true e = inl (revised_to r l e)
      go false e = inr (λ h. not_both (revised_of r h) e)

  -- a row is an equation that counts or not
  pub counts_or-not : (r : ℕ) → Counts t r ⊎ (Counts t r → ⊥)
  counts_or-not r = go (lt_or_le r (length t)) (dec_eq (row_at t r).kind 4)
    where
      go : (r < length t) ⊎ (length t ≤ r) → ((row_at t r).kind ≡ 4) ⊎ ((row_at t r).kind ≢ 4) → Counts t r ⊎ (Counts t r → ⊥)
      go (inr l) k = inr (λ c. absurd (omega (arith, l, c.in_table)))
      go (inl l) (inr k) = inr (λ c. k c.is_equation)
      go (inl l) (inl k) =
          ⊎_elim (λ gone. inr (λ c. c.unrevised gone)) (λ still. inl (record { in_table = l; is_equation = k; unrevised = still })) (revised-or-not r l)

  -- (e) where no two equations have one line number above 0, nothing moves
  pub unmoved : Unmoved t
  unmoved = record { distinct_lines = distinct; no_lines = λ none. distinct (λ n i j above l h k. absurd (omega (arith, none n i h))) }
    where
      distinct : DistinctLines t → counting t ≡ t
      distinct apart =
          ext_get_or no_row (counting t) t counting_rows.as_many
          (λ r l. counting_rows.stays r (λ h. apart h.line r h.later h.above_0 h.behind h.here h.there))

  -- an equation of a line above 0 among those that count is the table's, and is not revised
  pub counting-line : (n r : ℕ) → 0 < n → IsLine (counting t) r n → IsLine t r n × (Revised t r → ⊥)
  counting-line n r above k = ⊎_elim gone there (revised-or-not r (omega (arith, k.in_table, counting_rows.as_many)))
    where
      gone : Revised t r → IsLine t r n × (Revised t r → ⊥)
      gone h = absurd (omega (arith, above, k.line_is, ap (λ (x : Row). x.c) (counting_rows.replaced r h)))

      there : (Revised t r → ⊥) → IsLine t r n × (Revised t r → ⊥)
      there still =
          let e = counting_rows.stays r still in (
            record {
              in_table = omega (arith, k.in_table, counting_rows.as_many);
              is_equation = rw e at k.is_equation;
              line_is = rw e at k.line_is;
            },
            still,
          )

  -- (b) of each line number above 0 the last equation counts, and no other
  the_last : (n r : ℕ) → 0 < n → IsLine t r n → some_row (of_line n) (drop (suc r) t) ≡ false → OneOfLine t n
  the_last n r above k e =
      record {
        row = r;
        is_line = k;
        last = last;
        stays = counting_rows.stays r unrevised;
        only = only;
      }
    where
      last : (i : ℕ) → r < i → IsLine t i n → ⊥
      last i l h = not_both (line-found n r i l h) e

      unrevised : Revised t r → ⊥
      unrevised h =
          let same : h.line ≡ n = sym h.here.line_is ∙ k.line_is in
          last h.later h.behind (record { in_table = h.there.in_table; is_equation = h.there.is_equation; line_is = h.there.line_is ∙ same })

      only : (i : ℕ) → IsLine (counting t) i n → i ≡ r
      only i c =
          let line = counting-line n i above c in
          ⊎_elim (λ l. absurd (line.1 (record { line = n; above_0 = above; here = line.0; later = r; behind = l; there = k })))
          (λ l. ⊎_elim (λ m. absurd (last i m line.0)) (λ m. omega arith) (lt_or_le r i))
          (lt_or_le i r)

  last_line : (n : ℕ) → 0 < n → (d r : ℕ) → length t ≤ r + d → IsLine t r n → OneOfLine t n
  last_line n above zero r f k = absurd (omega (arith, k.in_table))
  last_line n above (suc d) r f k = go (last_line n above d) (some_row (of_line n) (drop (suc r) t)) refl
    where
      go : ((i : ℕ) → length t ≤ i + d → IsLine t i n → OneOfLine t n) → (b : Bool) → some_row (of_line n) (drop (suc r) t) ≡ b → OneOfLine t n
      go further true e = let it = line-behind n r e in further (suc r + it.at) (omega arith) (found_line n r it)
      go further false e = the_last n r above k e

  pub one_of_line : (n r : ℕ) → 0 < n → IsLine t r n → OneOfLine t n
  one_of_line n r above k = last_line n above (length t) r (omega arith) k

  pub counting-distinct : DistinctLines (counting t)
  counting-distinct n i j above l h k =
      let first = counting-line n i above h in
      first.1 (record { line = n; above_0 = above; here = first.0; later = j; behind = l; there = (counting-line n j above k).0 })

  -- ---- what stays as it was
  pub counting-alike : Alike 4 (counting t) t
  unfolding counting
  counting-alike = off_alike revised revised_equation t

  pub counting_sound : Sound t → Sound (counting t)
  unfolding counting
  counting_sound = off_sound revised revised_equation t

-- without the equations of one line no two have one line number either
pub without_distinct : (n : ℕ) (t : List Row) → DistinctLines t → DistinctLines (without_line n t)
unfolding without_line
without_distinct n t apart m i j above l h k = apart m i j above l (line i h) (line j k)
  where
    line : (r : ℕ) → IsLine (leaving_off (λ x behind. of_line n x) t) r m → IsLine t r m
    line r it = go (of_line n (row_at t r)) refl
      where
        inside : r < length t
        inside = omega (arith, it.in_table, off_count (λ x behind. of_line n x) t)

        row : row_at (leaving_off (λ x behind. of_line n x) t) r ≡ cond (of_line n (row_at t r)) silent_row (row_at t r)
        row = off_row (λ x behind. of_line n x) t r inside

        go : (b : Bool) → of_line n (row_at t r) ≡ b → IsLine t r m
        go true e = absurd (omega (arith, above, it.line_is, ap (λ (x : Row). x.c) (rw e at row)))
        go false e =
            let same = rw e at row in
            record { in_table = inside; is_equation = rw same at it.is_equation; line_is = rw same at it.line_is }

pub without_alike : (n : ℕ) (t : List Row) → Alike 4 (without_line n t) t
unfolding without_line
without_alike n t = off_alike (λ x behind. of_line n x) (λ x behind h. (line_to n x h).0) t

-- rows that differ at most in what the rows of another kind say have the same lines, so the same of them count
module _ (k : ℕ) (other : k < 4) (s t : List Row) (alike : Alike k s t) where
  same_equation : (r : ℕ) → r < length t → (row_at t r).kind ≡ 4 → row_at s r ≡ row_at t r
  same_equation r l e = (alike.each r l).same (λ f. absurd (omega arith))

  line_forth : (r n : ℕ) → IsLine s r n → IsLine t r n
  line_forth r n h =
      let l : r < length t = omega (arith, h.in_table, alike.count) in
      let kind : (row_at t r).kind ≡ 4 = sym (alike.each r l).kind_is ∙ h.is_equation in
      record { in_table = l; is_equation = kind; line_is = rw (same_equation r l kind) at h.line_is }

  line_back : (r n : ℕ) → IsLine t r n → IsLine s r n
  line_back r n h =
      let e = same_equation r h.in_table h.is_equation in
      record { in_table = omega (arith, h.in_table, alike.count); is_equation = rw e h.is_equation; line_is = rw e h.line_is }

  revised_forth : (r : ℕ) → Revised s r → Revised t r
  revised_forth r h =
      record {
        line = h.line;
        above_0 = h.above_0;
        here = line_forth r h.line h.here;
        later = h.later;
        behind = h.behind;
        there = line_forth h.later h.line h.there;
      }

  revised_back : (r : ℕ) → Revised t r → Revised s r
  revised_back r h =
      record {
        line = h.line;
        above_0 = h.above_0;
        here = line_back r h.line h.here;
        later = h.later;
        behind = h.behind;
        there = line_back h.later h.line h.there;
      }

  pub counting_keeps : Alike k (counting s) (counting t)
  counting_keeps =
      record {
        count = (counting_rows s).as_many ∙ alike.count ∙ sym (counting_rows t).as_many;
        each = λ r h. row r (omega (arith, h, (counting_rows t).as_many));
      }
    where
      row : (r : ℕ) → r < length t → AlikeRow k (row_at (counting s) r) (row_at (counting t) r)
      row r l =
          ⊎_elim
          (λ gone. rw ((counting_rows s).replaced r (revised_back r gone), (counting_rows t).replaced r gone) (record { kind_is = refl; same = λ n. refl }))
          (λ still. rw ((counting_rows s).stays r (λ h. still (revised_forth r h)), (counting_rows t).stays r still) (alike.each r l))
          (revised-or-not t r l)

-- leaving off once more changes nothing
pub counting_once : (t : List Row) → counting (counting t) ≡ counting t
counting_once t = (unmoved (counting t)).distinct_lines (counting-distinct t)

-- what counts in an accepted table is accepted
pub counting_accepted : (table : List ℕ) → first_fault table ≡ Accepted → first_fault (row_numbers (counting (rows_of table))) ≡ Accepted
counting_accepted table accepted =
    let it = accepted_table table accepted in
    let t = rows_of table in
    let read = rows_written (counting t) in
    sound_accepted (row_numbers (counting t)) (omega (arith, row_numbers_length (counting t)))
    (rw read (omega (arith, (counting_rows t).as_many, it.few)))
    (rw read (counting_sound t it.sound))

-- (g) an accepted table has at most 64 equations, counting or not
pub few_equations : (table : List ℕ) → first_fault table ≡ Accepted → FewEquations table
few_equations table accepted = (table_totals table accepted).2

-- ---- an equation behind a table

some_append : (f : Row → Bool) (xs ys : List Row) → some_row f (xs ++ ys) ≡ some_row f xs || some_row f ys
unfolding some_row
some_append f [] ys = refl
some_append f (x ∷ xs) ys = go (some_append f xs ys) (f x)
  where
    go : some_row f (xs ++ ys) ≡ some_row f xs || some_row f ys → (b : Bool) → b || some_row f (xs ++ ys) ≡ (b || some_row f xs) || some_row f ys
    go behind true = refl
    go behind false = behind

none_behind : (e : Row) → revised e [] ≡ false
unfolding revised some_row
none_behind e = rw (and-false (ltb 0 e.c), and-false (eqb e.kind 4))

module _ (e : Row) (equation : e.kind ≡ 4) (above : 0 < e.c) where
  alone-behind : (n : ℕ) → some_row (of_line n) (e ∷ []) ≡ of_line n e
  unfolding some_row
  alone-behind n = or-false (of_line n e)

  -- a row that is revised with it behind the table was so before, or is of its line
  revised_more : (r : Row) (rs : List Row) → revised r rs ≡ true → revised r (rs ++ (e ∷ [])) ≡ true
  revised_more r rs h =
      let by = revised_parts r rs h in
      revised_whole r (rs ++ (e ∷ []))
      (record {
        is_equation = by.is_equation;
        above_0 = by.above_0;
        again = some_append (of_line r.c) rs (e ∷ []) ∙ or_left (some_row (of_line r.c) rs) (some_row (of_line r.c) (e ∷ [])) by.again;
      })

  revised-line : (r : Row) (rs : List Row) → of_line e.c r ≡ true → revised r (rs ++ (e ∷ [])) ≡ true
  revised-line r rs h =
      let line = line_to e.c r h in
      revised_whole r (rs ++ (e ∷ []))
      (record {
        is_equation = line.0;
        above_0 = omega (arith, line.1);
        again =
            some_append (of_line r.c) rs (e ∷ [])
            ∙ or_right (some_row (of_line r.c) rs) (some_row (of_line r.c) (e ∷ [])) (alone-behind r.c ∙ line_of r.c e equation (sym line.1));
      })

  revised_before : (r : Row) (rs : List Row) → revised r rs ≡ false → revised r (rs ++ (e ∷ [])) ≡ true → of_line e.c r ≡ true
  revised_before r rs a h = go (some_row (of_line r.c) rs) refl
    where
      by : RevisedBy r (rs ++ (e ∷ []))
      by = revised_parts r (rs ++ (e ∷ [])) h

      go : (x : Bool) → some_row (of_line r.c) rs ≡ x → of_line e.c r ≡ true
      go true s = absurd (not_both (revised_whole r rs (record { is_equation = by.is_equation; above_0 = by.above_0; again = s })) a)
      go false s =
          let it : of_line r.c e ≡ true = sym (alone-behind r.c) ∙ rw (some_append (of_line r.c) rs (e ∷ []), s) at by.again in
          line_of e.c r by.is_equation (sym (line_to r.c e it).1)

  -- so it is left off exactly if it was, or is of its line
  one_more : (r : Row) (rs : List Row)
      → cond (revised r (rs ++ (e ∷ []))) silent_row r ≡ cond (of_line e.c (cond (revised r rs) silent_row r)) silent_row (cond (revised r rs) silent_row r)
  one_more r rs = go (revised r rs) refl (of_line e.c r) refl (revised r (rs ++ (e ∷ []))) refl
    where
      either : (b : Bool) → silent_row ≡ cond b silent_row silent_row
      either true = refl
      either false = refl

      go : (a : Bool) → revised r rs ≡ a → (b : Bool) → of_line e.c r ≡ b → (c : Bool) → revised r (rs ++ (e ∷ [])) ≡ c
          → cond c silent_row r ≡ cond (of_line e.c (cond a silent_row r)) silent_row (cond a silent_row r)
      go true h b k true m = either (of_line e.c silent_row)
      go true h b k false m = absurd (not_both (revised_more r rs h) m)
      go false h true k true m = rw k refl
      go false h true k false m = absurd (not_both (revised-line r rs k) m)
      go false h false k true m = absurd (not_both (revised_before r rs h m) k)
      go false h false k false m = rw k refl

  pub counting-behind : (t : List Row) → counting (t ++ (e ∷ [])) ≡ without_line e.c (counting t) ++ (e ∷ [])
  unfolding counting without_line leaving_off
  counting-behind [] = rw (none_behind e)
  counting-behind (r ∷ t) = ap₂ (λ (x : Row) (xs : List Row). x ∷ xs) (one_more r t) (counting-behind t)

-- one without a line number takes no place: all that counted before still counts
module _ (e : Row) (plain : e.c ≡ 0) where
  other_line : (r : Row) → ltb 0 r.c ≡ true → some_row (of_line r.c) (e ∷ []) ≡ false
  unfolding some_row of_line
  other_line r h = rw (ne_eqb e.c r.c (λ k. omega (arith, ltb-true 0 r.c h, plain)), and-false (eqb e.kind 4))

  revised_plain : (r : Row) (rs : List Row) → revised r (rs ++ (e ∷ [])) ≡ revised r rs
  unfolding revised
  revised_plain r rs = go (ltb 0 r.c) refl
    where
      go : (b : Bool) → ltb 0 r.c ≡ b
          → eqb r.kind 4 && (b && some_row (of_line r.c) (rs ++ (e ∷ []))) ≡ eqb r.kind 4 && (b && some_row (of_line r.c) rs)
      go true h =
          ap (λ (x : Bool). eqb r.kind 4 && x)
          (some_append (of_line r.c) rs (e ∷ []) ∙ rw (other_line r h) (or-false (some_row (of_line r.c) rs)))
      go false h = refl

  pub counting_plain : (t : List Row) → counting (t ++ (e ∷ [])) ≡ counting t ++ (e ∷ [])
  unfolding counting leaving_off
  counting_plain [] = rw (none_behind e)
  counting_plain (r ∷ t) = ap₂ (λ (b : Bool) (xs : List Row). cond b silent_row r ∷ xs) (revised_plain r t) (counting_plain t)
