-- Bytes written behind those that the output has: the pass of `put_bits`, and that of `put_rows`.
use mathlib.Core.Path.{◌≡◌, refl, sym, ap, ◌∙◌}
use mathlib.Core.Logic.{◌⊎◌, inl, inr}
use mathlib.Core.Bool.{Bool, true, false, cond}
use mathlib.Core.List.{List, [], ◌∷◌, ◌++◌, append_assoc, append-nil}
use Prim.Native.Nat.{ℕ, zero, suc, ◌+◌, ◌/◌, ◌≤◌, ◌<◌}
use native.Mathlib.Omega.{arith}
use native.Mathlib.Numerals.{add-one}
use lib.ListN.{length, get_or, set, take, drop, replicate, length-append, length-set, length-take, length-drop, length-replicate}
use lib.Seq.{take-suc, take_all, get_or-drop}
use borrow.Author.Tests.{lt-ltb, le-ltb}
use Rattle.laws.specs.Buffers.{overwrite, Written, Behind}
use Rattle.laws.proofs.Buffers.{overwrite-length, written_more}
use Rattle.laws.proofs.Lists.{copies_snoc}
use Rattle.laws.proofs.Numbers.{lt_or_le}
use Rattle.answers.specs.declared.AnswerRow.{AnswerRow}
use Rattle.answers.specs.Answer.{answer_row_at, no_answer_row, answer_rows_of, is_fresh, fresh_start, row_bits, bits_of_rows, instantiate}
use Rattle.answers.proofs.AnswerNumbers.{answer_length}
use Rattle.assignments.specs.Form.{pattern_bits}
use Rattle.assignments.proofs.VariableBits.{bits_parts}
use Rattle.shapes.specs.inner.Shapes.{Shaped}
use Rattle.maker.specs.inner.Filling.{byte_in, bytes_in, WritesRows}

bytes_count : (fresh : List ℕ) (kind start n : ℕ) → length (bytes_in fresh kind start n) ≡ n
unfolding bytes_in
bytes_count fresh kind start zero = refl
bytes_count fresh kind start (suc n) =
    omega (arith, length-append (bytes_in fresh kind start n) (byte_in fresh kind (start + n) ∷ []), bytes_count fresh kind start n)

-- a part of a row is written
pub record Putting (fresh : List ℕ) (start kind width : ℕ) (out₀ : List ℕ) (from : ℕ) (out : List ℕ) (at j : ℕ) : Type 0 where
  pub within : j ≤ width
  pub written : (earlier base : List ℕ) → Written earlier base from out₀ → Written (earlier ++ bytes_in fresh kind start j) base at out
  pub same_room : length out ≡ length out₀

pub putting_first : (fresh : List ℕ) (start kind width : ℕ) (out₀ : List ℕ) (from : ℕ) → Putting fresh start kind width out₀ from out₀ from 0
unfolding bytes_in
putting_first fresh start kind width out₀ from = record { within = omega arith; written = λ earlier base k. rw append-nil k; same_room = refl }

module _ (fresh : List ℕ) (start kind width : ℕ) (out₀ : List ℕ) (from : ℕ) (out : List ℕ) (at j : ℕ) (k : Putting fresh start kind width out₀ from out at j) where
  pub putting_more : j < width → (i x : ℕ) → i ≡ start + j → x ≡ byte_in fresh kind i → Putting fresh start kind width out₀ from (set out at x) (at + 1) (j + 1)
  unfolding bytes_in
  putting_more l i x ei ex = let z : j + 1 ≡ suc j = add-one j in rw z (record {
    within = omega arith;
    written =
        λ earlier base w.
        rw (← append_assoc earlier (bytes_in fresh kind start j) (byte_in fresh kind (start + j) ∷ []), ← ei, ← ex)
        (written_more (earlier ++ bytes_in fresh kind start j) base at out x (k.written earlier base w));
    same_room = length-set out at x ∙ k.same_room;
  })

  pub putting_done : width ≤ j → Behind (bytes_in fresh kind start width) from out₀ at out
  putting_done l earlier base room w = let e : width ≡ j = omega (arith, k.within) in rw e (k.written earlier base w)

  -- a row that has room is not cut short
  pub putting_full : j < width → length out ≤ at → Behind (bytes_in fresh kind start width) from out₀ at out
  putting_full l full earlier base room w =
      let here = k.written earlier base w in
      absurd
      (omega (
        arith,
        here.counted,
        length-append earlier (bytes_in fresh kind start j),
        bytes_count fresh kind start j,
        bytes_count fresh kind start width,
        ap length here.numbers,
        overwrite-length (earlier ++ bytes_in fresh kind start j) base,
      ))

-- the bytes of a fill, and those of a fresh piece
fill_bytes : (fresh : List ℕ) (kind start n : ℕ) → kind < 2 → bytes_in fresh kind start n ≡ replicate n kind
unfolding bytes_in byte_in
fill_bytes fresh kind start zero l = refl
fill_bytes fresh kind start (suc n) l = rw (fill_bytes fresh kind start n l, lt-ltb kind 2 l) (copies_snoc n kind)

fresh_bytes : (fresh : List ℕ) (kind start n : ℕ) → 2 ≤ kind → start + n ≤ length fresh → bytes_in fresh kind start n ≡ take n (drop start fresh)
unfolding bytes_in byte_in
fresh_bytes fresh kind start zero l h = refl
fresh_bytes fresh kind start (suc n) l h =
    rw (fresh_bytes fresh kind start n l (omega arith), le-ltb kind 2 l, ← get_or-drop start fresh n 0)
    (sym (take-suc (drop start fresh) n 0 (omega (arith, length-drop start fresh))))

-- the bytes of a row are its bits
row_bytes : (rows : List AnswerRow) (starts fresh : List ℕ) (bits free : ℕ) → Shaped rows starts bits free → length fresh ≡ free
    → (j : ℕ) → j < length rows
    → bytes_in fresh (answer_row_at rows j).kind (get_or starts (answer_row_at rows j).fresh 0) (answer_row_at rows j).width ≡ row_bits rows fresh (answer_row_at rows j)
unfolding row_bits
row_bytes rows starts fresh bits free k n j l = go (lt_or_le (answer_row_at rows j).kind 2)
  where
    r : AnswerRow
    r = answer_row_at rows j

    go : (r.kind < 2) ⊎ (2 ≤ r.kind)
        → bytes_in fresh r.kind (get_or starts r.fresh 0) r.width ≡ cond (is_fresh r) (take r.width (drop (fresh_start rows r.fresh) fresh)) (replicate r.width r.kind)
    go (inl q) = rw (lt-ltb r.kind 2 q) (fill_bytes fresh r.kind (get_or starts r.fresh 0) r.width q)
    go (inr q) =
        let f : is_fresh r ≡ true = rw (le-ltb r.kind 2 q) in
        rw (le-ltb r.kind 2 q, k.starts_are j l f)
        (fresh_bytes fresh r.kind (fresh_start rows r.fresh) r.width q (omega (arith, k.pieces_in j l f, k.free_are)))

-- how many bits rows have at the most
bits_most : (rows : List AnswerRow) (f : List ℕ) (xs : List AnswerRow) → length (bits_of_rows rows f xs) ≤ pattern_bits xs
unfolding bits_of_rows pattern_bits row_bits
bits_most rows f [] = omega arith
bits_most rows f (x ∷ xs) = omega (arith, length-append (row_bits rows f x) (bits_of_rows rows f xs), bits_most rows f xs, one (is_fresh x))
  where
    one : (b : Bool) → length (cond b (take x.width (drop (fresh_start rows x.fresh) f)) (replicate x.width x.kind)) ≤ x.width
    one true = omega (arith, length-take x.width (drop (fresh_start rows x.fresh) f))
    one false = omega (arith, length-replicate x.width x.kind)

bits_behind : (rows : List AnswerRow) (f : List ℕ) (xs : List AnswerRow) (r : AnswerRow) → bits_of_rows rows f (xs ++ (r ∷ [])) ≡ bits_of_rows rows f xs ++ row_bits rows f r
unfolding bits_of_rows
bits_behind rows f [] r = append-nil (row_bits rows f r)
bits_behind rows f (x ∷ xs) r = ap (λ (t : List ℕ). row_bits rows f x ++ t) (bits_behind rows f xs r) ∙ sym (append_assoc (row_bits rows f x) (bits_of_rows rows f xs) (row_bits rows f r))

-- the pass over the rows
pub record Filling (answer fresh starts out₀ out : List ℕ) (at i : ℕ) : Type 0 where
  pub within : i ≤ length answer / 6
  pub same_room : length out ≡ length out₀
  pub written : (bits free : ℕ) → Shaped (answer_rows_of answer) starts bits free → length fresh ≡ free → bits ≤ length out₀
      → Written (bits_of_rows (answer_rows_of answer) fresh (take i (answer_rows_of answer))) out₀ at out

pub filling_first : (answer fresh starts out₀ : List ℕ) → Filling answer fresh starts out₀ out₀ 0 0
unfolding bits_of_rows overwrite
filling_first answer fresh starts out₀ = record { within = omega arith; same_room = refl; written = λ bits free s n l. record { counted = refl; numbers = refl } }

module _ (answer fresh starts out₀ out : List ℕ) (at i : ℕ) (k : Filling answer fresh starts out₀ out at i) where
  abbrev rows : List AnswerRow
  rows = answer_rows_of answer

  pub filling_more : i < length answer / 6 → (r : AnswerRow) → r ≡ answer_row_at (answer_rows_of answer) i → (number start at' : ℕ) (out' : List ℕ) → number ≡ r.fresh → start ≡ get_or starts number 0
      → Behind (bytes_in fresh r.kind start r.width) at out at' out' → length out' ≡ length out → Filling answer fresh starts out₀ out' at' (i + 1)
  filling_more l r er number start at' out' en found put same = rw (add-one) (record {
    within = omega arith;
    same_room = same ∙ k.same_room;
    written = λ bits free s n room. rw (all_bytes bits free s n) (put (bits_of_rows rows fresh (take i rows)) out₀ (enough bits free s n room) (k.written bits free s n room));
  })
    where
      there : i < length rows
      there = omega (arith, answer_length answer)

      es : start ≡ get_or starts r.fresh 0
      es = found ∙ ap (λ (x : ℕ). get_or starts x 0) en

      row_here : r ≡ answer_row_at rows i
      row_here = er

      bytes_are : (bits free : ℕ) → Shaped (answer_rows_of answer) starts bits free → length fresh ≡ free
          → bytes_in fresh r.kind start r.width ≡ row_bits (answer_rows_of answer) fresh (answer_row_at (answer_rows_of answer) i)
      bytes_are bits free s n =
          rw es (ap (λ (q : AnswerRow). bytes_in fresh q.kind (get_or starts q.fresh 0) q.width) row_here ∙ row_bytes rows starts fresh bits free s n i there)

      all_bytes : (bits free : ℕ) → Shaped (answer_rows_of answer) starts bits free → length fresh ≡ free
          → bits_of_rows (answer_rows_of answer) fresh (take (suc i) (answer_rows_of answer)) ≡ bits_of_rows (answer_rows_of answer) fresh (take i (answer_rows_of answer)) ++ bytes_in fresh r.kind start r.width
      all_bytes bits free s n =
          ap (bits_of_rows rows fresh) (take-suc rows i no_answer_row there)
          ∙ bits_behind rows fresh (take i rows) (answer_row_at rows i)
          ∙ ap (λ (t : List ℕ). bits_of_rows rows fresh (take i rows) ++ t) (sym (bytes_are bits free s n))

      enough : (bits free : ℕ) → Shaped (answer_rows_of answer) starts bits free → length fresh ≡ free → bits ≤ length out₀
          → length (bits_of_rows (answer_rows_of answer) fresh (take i (answer_rows_of answer))) + length (bytes_in fresh r.kind start r.width) ≤ length out₀
      enough bits free s n room =
          omega (
            arith,
            ap length (all_bytes bits free s n),
            length-append (bits_of_rows rows fresh (take i rows)) (bytes_in fresh r.kind start r.width),
            bits_most rows fresh (take (suc i) rows),
            bits_parts (suc i) rows,
            s.bits_are,
          )

  pub filling_done : length answer / 6 ≤ i → WritesRows answer fresh starts out₀ out
  unfolding instantiate
  filling_done l bits free s n room =
      (k.written bits free s n room).numbers
      ∙ ap (λ (x : List AnswerRow). overwrite (bits_of_rows rows fresh x) out₀) (take_all i rows (omega (arith, answer_length answer)))
