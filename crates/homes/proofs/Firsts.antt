-- The first row of each fresh piece, row by row, and the home row of each row from these.
use mathlib.Core.Path.{◌≡◌, refl, sym, ◌∙◌, ap}
use mathlib.Core.Logic.{◌⊎◌, inl, inr, ◌≢◌}
use mathlib.Core.Bool.{Bool, true, false, ◌&&◌, cond}
use mathlib.Core.List.{List}
use Prim.Native.Nat.{ℕ, suc, ◌≤◌, ◌<◌}
use native.Mathlib.Omega.{arith}
use lib.Dec.{eqb, ltb}
use lib.ListN.{length, get_or, set}
use lib.Seq.{get_or-set_same, get_or-set_other}
use borrow.Author.Tests.{eq-eqb, ne_eqb, lt-ltb, le-ltb}
use Rattle.laws.proofs.Bools.{clash, and_both}
use Rattle.laws.proofs.Numbers.{lt_or_le, below-or_at}
use Rattle.answers.specs.declared.AnswerRow.{AnswerRow}
use Rattle.answers.specs.Answer.{answer_row_at, is_fresh, home_row}
use Rattle.answers.specs.Homes.{FirstPlaces}
use Rattle.answers.specs.inner.Orderly.{Orderly}
use Rattle.answers.proofs.Homes.{home_fill, home_is, first-places}
use Rattle.homes.specs.inner.Homes.{home_in, of_piece, First, Seen}

pub none_seen : (rows : List AnswerRow) (firsts : List ℕ) → Seen rows firsts 0 0
none_seen rows firsts = record { most = omega arith; marked = λ n l. absurd (omega arith); passed = λ i l f. absurd (omega arith) }

module _ (rows : List AnswerRow) where
  abbrev at : ℕ → AnswerRow
  at i = answer_row_at rows i

  -- the first row of row j's piece is its home
  home_first : (j i : ℕ) → is_fresh (answer_row_at rows j) ≡ true → First rows (answer_row_at rows j).fresh i → home_row rows j ≡ i
  home_first j i f k = home_is rows j i f (low (lt_or_le j i)) k.is_row k.none_before
    where
      here : of_piece rows (at j).fresh j ≡ true
      here = and_both (is_fresh (at j)) (eqb (at j).fresh (at j).fresh) f (eq-eqb (at j).fresh (at j).fresh refl)

      low : (j < i) ⊎ (i ≤ j) → i ≤ j
      low (inr l) = l
      low (inl l) = clash (of_piece rows (at j).fresh j) here (k.none_before j l)

  pub kind_fresh : (r : AnswerRow) → 2 ≤ r.kind → is_fresh r ≡ true
  kind_fresh r l = rw (le-ltb r.kind 2 l)

  pub kind_fill : (r : AnswerRow) → r.kind < 2 → is_fresh r ≡ false
  kind_fill r l = rw (lt-ltb r.kind 2 l)

  -- where the first row of its piece is marked, the home row is read
  home_read : (firsts : List ℕ) (j : ℕ) → (is_fresh (answer_row_at rows j) ≡ true → First rows (answer_row_at rows j).fresh (get_or firsts (answer_row_at rows j).fresh 0))
      → home_in firsts (answer_row_at rows j) j ≡ home_row rows j
  unfolding home_in
  home_read firsts j h = go (lt_or_le (at j).kind 2)
    where
      go : ((at j).kind < 2) ⊎ (2 ≤ (at j).kind) → cond (ltb (at j).kind 2) j (get_or firsts (at j).fresh 0) ≡ home_row rows j
      go (inl l) = rw (lt-ltb (at j).kind 2 l) (sym (home_fill rows j (kind_fill (at j) l)))
      go (inr l) = rw (le-ltb (at j).kind 2 l) (sym (home_first j (get_or firsts (at j).fresh 0) (kind_fresh (at j) l) (h (kind_fresh (at j) l))))

  -- all rows were passed
  pub home_known : (firsts : List ℕ) (seen n j : ℕ) → Seen rows firsts seen n → j < n → home_in firsts (answer_row_at rows j) j ≡ home_row rows j
  home_known firsts seen n j k l = home_read firsts j (λ f. k.marked (at j).fresh (k.passed j l f))

  -- one row more
  module _ (o : Orderly rows) (firsts : List ℕ) (seen j : ℕ) (k : Seen rows firsts seen j) (l : j < length rows) (room : length rows ≤ length firsts) where
    abbrev firsts' : List ℕ
    firsts' = set firsts seen j

    kept_mark : (n : ℕ) → n < seen → get_or (set firsts seen j) n 0 ≡ get_or firsts n 0
    kept_mark n q = get_or-set_other firsts seen n j 0 (λ e. omega arith)

    new_mark : get_or (set firsts seen j) seen 0 ≡ j
    new_mark = get_or-set_same firsts seen j 0 (omega (arith, k.most))

    -- a number that was not seen is that of no row before
    unseen : (i : ℕ) → i < j → of_piece rows seen i ≡ false
    unseen i q = go (is_fresh (at i)) refl
      where
        go : (b : Bool) → is_fresh (at i) ≡ b → b && eqb (at i).fresh seen ≡ false
        go false e = refl
        go true e = ne_eqb (at i).fresh seen (λ d. omega (arith, k.passed i q e))

    number_most : is_fresh (answer_row_at rows j) ≡ true → (answer_row_at rows j).fresh ≤ seen
    number_most f = o.numbered j seen l f (λ i q g. k.passed i q g)

    first_here : is_fresh (answer_row_at rows j) ≡ true → (answer_row_at rows j).fresh ≡ seen → First rows seen j
    first_here f e = record { is_row = and_both (is_fresh (at j)) (eqb (at j).fresh seen) f (eq-eqb (at j).fresh seen e); none_before = unseen }

    -- with a row that adds no fresh piece
    same_seen : (is_fresh (answer_row_at rows j) ≡ true → (answer_row_at rows j).fresh ≢ seen) → Seen rows (set firsts seen j) seen (suc j)
    same_seen h =
        record {
          most = omega (arith, k.most);
          marked = λ n q. rw (kept_mark n q) (k.marked n q);
          passed = λ i q f. go i f (below-or_at i j q);
        }
      where
        go : (i : ℕ) → is_fresh (at i) ≡ true → (i < j) ⊎ (i ≡ j) → (at i).fresh < seen
        go i f (inl q) = k.passed i q f
        go i f (inr q) =
            let g : is_fresh (at j) ≡ true = ap (λ (x : ℕ). is_fresh (at x)) (sym q) ∙ f in
            let e : (at i).fresh ≡ (at j).fresh = ap (λ (x : ℕ). (at x).fresh) q in
            omega (arith, number_most g, h g)

    -- with a row that adds no fresh piece nothing is marked
    pub seen_kept : (is_fresh (answer_row_at rows j) ≡ true → (answer_row_at rows j).fresh ≢ seen) → Seen rows firsts seen (suc j)
    seen_kept h = let q = same_seen h in record { most = q.most; marked = k.marked; passed = q.passed }

    -- with one that adds the next
    pub more_seen : is_fresh (answer_row_at rows j) ≡ true → (answer_row_at rows j).fresh ≡ seen → Seen rows (set firsts seen j) (suc seen) (suc j)
    more_seen f e =
        record { most = omega (arith, k.most); marked = λ n q. mark n (below-or_at n seen q); passed = λ i q g. go i g (below-or_at i j q) }
      where
        mark : (n : ℕ) → (n < seen) ⊎ (n ≡ seen) → First rows n (get_or (set firsts seen j) n 0)
        mark n (inl q) = rw (kept_mark n q) (k.marked n q)
        mark n (inr q) = rw (q, new_mark) (first_here f e)

        go : (i : ℕ) → is_fresh (at i) ≡ true → (i < j) ⊎ (i ≡ j) → (at i).fresh < suc seen
        go i g (inl q) = omega (arith, k.passed i q g)
        go i g (inr q) = let d : (at i).fresh ≡ (at j).fresh = ap (λ (x : ℕ). (at x).fresh) q in omega arith

-- a home row is its own home
pub home_home : (rows : List AnswerRow) (j : ℕ) → home_row rows (home_row rows j) ≡ home_row rows j
home_home rows j = go (is_fresh (answer_row_at rows j)) refl
  where
    P : FirstPlaces rows
    P = first-places rows

    go : (b : Bool) → is_fresh (answer_row_at rows j) ≡ b → home_row rows (home_row rows j) ≡ home_row rows j
    go false f = ap (home_row rows) (home_fill rows j f)
    go true f = P.first_own (home_row rows j) (P.home_fresh j f) (λ i l g e. P.none_before j i f l g (e ∙ P.home_number j f))
