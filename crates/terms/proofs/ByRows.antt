-- A list made row by row (`by_rows`): a row's element is made of the rows and elements before it, and the rows
-- after it do not change it.
use mathlib.Core.Path.{◌≡◌, sym, ◌∙◌, ap}
use mathlib.Core.List.{List, [], ◌∷◌, ◌++◌, append_assoc, append-nil}
use Prim.Native.Nat.{ℕ, suc, ◌+◌, ◌<◌, ◌≤◌}
use native.Mathlib.Omega.{arith}
use lib.ListN.{length, get_or, take, drop, length-append, take-append-drop}
use lib.Seq.{take-suc, take-append-le, take_all, take-take, length-take-le, get_or-append_seam, get_or-take}
use Rattle.terms.specs.declared.Row.{Row}
use Rattle.terms.specs.Table.{row_at, no_row, by_rows}

module _ {A : Type 0} (f : List Row → List A → Row → A) where
  rows_append : (before : List Row) (made : List A) (xs ys : List Row)
      → by_rows f before made (xs ++ ys) ≡ by_rows f (before ++ xs) (by_rows f before made xs) ys
  unfolding by_rows
  rows_append before made [] ys = ap (λ (l : List Row). by_rows f l made ys) (sym (append-nil before))
  rows_append before made (x ∷ xs) ys =
      rows_append (before ++ (x ∷ [])) (made ++ (f before made x ∷ [])) xs ys
      ∙ ap (λ (l : List Row). by_rows f l (by_rows f (before ++ (x ∷ [])) (made ++ (f before made x ∷ [])) xs) ys) (append_assoc before (x ∷ []) xs)

  length_from : (before : List Row) (made : List A) (xs : List Row) → length (by_rows f before made xs) ≡ length made + length xs
  unfolding by_rows
  length_from before made [] = omega arith
  length_from before made (x ∷ xs) =
      omega (arith, length_from (before ++ (x ∷ [])) (made ++ (f before made x ∷ [])) xs, length-append made (f before made x ∷ []))

  take_from : (before : List Row) (made : List A) (xs : List Row) → take (length made) (by_rows f before made xs) ≡ made
  unfolding by_rows
  take_from before made [] = take_all (length made) made (omega arith)
  take_from before made (x ∷ xs) =
      let more = made ++ (f before made x ∷ []) in
      let l : length more ≡ length made + 1 = length-append made (f before made x ∷ []) in
      sym (take-take (length made) (length more) (by_rows f (before ++ (x ∷ [])) more xs) (omega arith))
      ∙ ap (take (length made)) (take_from (before ++ (x ∷ [])) more xs)
      ∙ take-append-le (length made) made (f before made x ∷ []) (omega arith)
      ∙ take_all (length made) made (omega arith)

  -- one element for each row
  pub rows_count : (t : List Row) → length (by_rows f [] [] t) ≡ length t
  rows_count t = omega (arith, length_from [] [] t)

  -- one more row
  pub rows_snoc : (t : List Row) (r : Row) → by_rows f [] [] (t ++ (r ∷ [])) ≡ by_rows f [] [] t ++ (f t (by_rows f [] [] t) r ∷ [])
  unfolding by_rows
  rows_snoc t r = rows_append [] [] t (r ∷ [])

  -- the elements of the first rows
  pub rows_take : (t : List Row) (r : ℕ) → r ≤ length t → take r (by_rows f [] [] t) ≡ by_rows f [] [] (take r t)
  rows_take t r h =
      let made = by_rows f [] [] (take r t) in
      let n : length made ≡ r = rows_count (take r t) ∙ length-take-le r t h in
      ap (λ (l : List Row). take r (by_rows f [] [] l)) (sym (take-append-drop r t))
      ∙ ap (take r) (rows_append [] [] (take r t) (drop r t))
      ∙ ap (λ (k : ℕ). take k (by_rows f (take r t) made (drop r t))) (sym n)
      ∙ take_from (take r t) made (drop r t)

  pub rows_early : (t : List Row) (r : ℕ) (d : A) (i : ℕ) → r ≤ length t → i < r → get_or (by_rows f [] [] (take r t)) i d ≡ get_or (by_rows f [] [] t) i d
  rows_early t r d i h l = ap (λ (m : List A). get_or m i d) (sym (rows_take t r h)) ∙ get_or-take r (by_rows f [] [] t) i d l

  pub rows_more : (t : List Row) (r : ℕ) → r < length t
      → by_rows f [] [] (take (suc r) t) ≡ by_rows f [] [] (take r t) ++ (f (take r t) (by_rows f [] [] (take r t)) (row_at t r) ∷ [])
  rows_more t r h = ap (by_rows f [] []) (take-suc t r no_row h) ∙ rows_snoc (take r t) (row_at t r)

  -- a row's element, from the rows and elements before it
  pub rows_at : (t : List Row) (r : ℕ) (d : A) → r < length t
      → get_or (by_rows f [] [] t) r d ≡ f (take r t) (by_rows f [] [] (take r t)) (row_at t r)
  rows_at t r d h =
      let made = by_rows f [] [] (take r t) in
      let n : length made ≡ r = rows_count (take r t) ∙ length-take-le r t (omega arith) in
      sym (rows_early t (suc r) d r h (omega arith))
      ∙ ap (λ (m : List A). get_or m r d) (rows_more t r h)
      ∙ ap (λ (k : ℕ). get_or (made ++ (f (take r t) made (row_at t r) ∷ [])) k d) (sym n)
      ∙ get_or-append_seam made (f (take r t) made (row_at t r)) [] d
