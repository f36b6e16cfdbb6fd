-- The answer of a solved table is itself a solved system with the table's patterns, and has as many fresh pieces as the record says:
-- so the fewest that demand 3 speaks of is reached. Assumes nothing.
use mathlib.Core.Path.{◌≡◌, refl, sym, ap, ◌∙◌}
use mathlib.Core.Bool.{Bool, true, false, cond}
use mathlib.Core.List.{List, [], ◌∷◌, ◌++◌, map, reverse, reverse_aux, append_assoc, append-nil, map-append}
use Prim.Native.Nat.{ℕ, zero, suc, ◌≤◌, ◌<◌}
use native.Mathlib.Omega.{arith}
use lib.ListN.{length, replicate}
use lib.Seq.{ext_get_or}
use Rattle.terms.specs.declared.Row.{Row}
use Rattle.terms.specs.Assignments.{Assignment}
use Rattle.terms.specs.Faults.{Accepted, first_fault}
use Rattle.terms.specs.Table.{rows_of, bits_of, satisfies}
use Rattle.terms.proofs.Assignments.{assignment_length, assignment_bit}
use Rattle.answers.specs.Pairs.{Pair, equation_pairs, satisfies_pairs}
use Rattle.answers.specs.inner.Classes.{rep, in_class, Represents}
use Rattle.answers.specs.Answer.{variable_widths, begins, rows_to, answer_rows, is_fresh, fresh_pieces}
use Rattle.answers.specs.declared.AnswerRow.{AnswerRow}
use Rattle.laws.specs.Lists.{distinct}
use Rattle.answers.specs.Systems.{fill as fillPart, fresh as freshPart, FinePart, SolvedSystem, labels_of, fresh_count, piece_bits, part_bits, side_bits, system_bits, Filling, Gives}
use Rattle.answers.specs.Solve.{valid, unsatisfiable, pairs_together, solved_rows, answer_record}
use Rattle.answers.proofs.Slots.{Slot, fill, value, slots_assignment}
use Rattle.laws.proofs.Lists.{tab, tab_at, tab_length, tab_more}
use Rattle.answers.proofs.OurPieces.{slot, wide, slot_bits, slot_gives, slot_reads, filled}
use Rattle.answers.proofs.AnswerRows.{parts_from, row_slots, slots_to, Each, slots_below, Whole, rows_are}
use Rattle.answers.proofs.Instantiating.{fills_value, answer_whole}
use Rattle.answers.proofs.GeneralSystems.{width_sum}
use Rattle.answers.proofs.Variables.{widths_sum, begins_first, begins_last}
use Rattle.answers.proofs.Tables.{table_classes, represent, satisfies_seen, apart_one, solved-rows}
use Rattle.answers.proofs.Demands.{demand_3}
use Rattle.answers.proofs.RowSides.{flat, labels_flat, bits_flat, row_labels, flat_rows, fine_sides, InOrder, in_order}
use Rattle.answers.specs.Demands.{part_of, sides_of, AnswerSystem}

each_two : (P Q R : AnswerRow → Type 0) (xs : List AnswerRow) → ((x : AnswerRow) → P x → Q x → R x) → Each P xs → Each Q xs → Each R xs
each_two P Q R [] h k l = tt
each_two P Q R (x ∷ xs) h k l = (h x k.0 l.0, each_two P Q R xs h k.1 l.1)

-- the bits of a part are those of its slots
piece_slots : (φ : ℕ → ℕ → ℕ) (k o w : ℕ) → piece_bits (φ k) o w ≡ map (value φ) (parts_from k o w)
unfolding piece_bits parts_from
piece_slots φ k o zero = refl
piece_slots φ k o (suc w) = ap (λ (l : List ℕ). φ k o ∷ l) (piece_slots φ k (suc o) w)

row-slots : (φ : ℕ → ℕ → ℕ) (r : AnswerRow) → part_bits φ (part_of r) ≡ map (value φ) (row_slots r)
unfolding part_of row_slots
row-slots φ r = go (is_fresh r)
  where
    go : (b : Bool) → part_bits φ (cond b (freshPart r.fresh r.width) (fillPart r.kind r.width))
        ≡ map (value φ) (cond b (parts_from r.fresh 0 r.width) (replicate r.width (fill r.kind)))
    go true = piece_slots φ r.fresh 0 r.width
    go false = sym (fills_value φ r.kind r.width)

rows_slots : (φ : ℕ → ℕ → ℕ) (xs ys : List AnswerRow) → side_bits φ (map part_of (reverse_aux xs ys)) ≡ map (value φ) (slots_to xs) ++ side_bits φ (map part_of ys)
unfolding side_bits slots_to
rows_slots φ [] ys = refl
rows_slots φ (x ∷ xs) ys =
    rows_slots φ xs (x ∷ ys)
    ∙ ap (λ (l : List ℕ). map (value φ) (slots_to xs) ++ (l ++ side_bits φ (map part_of ys))) (row-slots φ x)
    ∙ sym (append_assoc (map (value φ) (slots_to xs)) (map (value φ) (row_slots x)) (side_bits φ (map part_of ys)))
    ∙ ap (λ (l : List ℕ). l ++ side_bits φ (map part_of ys)) (sym (map-append (value φ) (slots_to xs) (row_slots x)))

module _ (n : ℕ) (c : List ℕ) (seen : List Pair) (inv : Represents n c seen) (one : rep c 1 ≡ 1) (ws : List ℕ) (begin : begins ws 0 ≡ true) (last : begins ws n ≡ true) (sum : width_sum ws ≡ n) where
  abbrev answer : List AnswerRow
  answer = answer_rows n ws (in_class c)

  abbrev slot_of : ℕ → Slot
  slot_of i = slot n c seen inv one (begins ws) begin last i

  abbrev wide_of : ℕ → ℕ
  wide_of k = wide n c seen inv one (begins ws) begin last k

  ordered : InOrder ws answer
  ordered = in_order n ws (in_class c) sum

  all_parts : flat (sides_of ws answer) ≡ map part_of answer
  unfolding sides_of
  all_parts = flat_rows (length ws) answer ordered.sorted ordered.low

  part_fine : (r : AnswerRow) → Whole n c seen inv one ws begin last r → 1 ≤ r.width → FinePart wide_of (part_of r)
  unfolding part_of
  part_fine r W l = go (is_fresh r) refl
    where
      go : (b : Bool) → is_fresh r ≡ b → FinePart wide_of (cond b (freshPart r.fresh r.width) (fillPart r.kind r.width))
      go true e = (l, (W.is_piece e).1)
      go false e = (W.is_bit e, l)

  answer_solves : SolvedSystem ws (sides_of ws (answer_rows n ws (in_class c)))
  unfolding sides_of
  answer_solves =
      record {
        wide = wide_of;
        parts_fine = fine_sides wide_of (length ws) 0 answer
            (each_two (Whole n c seen inv one ws begin last) (λ r. 1 ≤ r.width) (λ r. FinePart wide_of (part_of r)) answer part_fine (answer_whole n c seen inv one ws begin last) ordered.wide);
        widths_are = ordered.widths_are;
      }

  answer_count : fresh_count (sides_of ws (answer_rows n ws (in_class c))) ≡ fresh_pieces (answer_rows n ws (in_class c))
  unfolding fresh_count fresh_pieces
  answer_count = ap distinct (labels_flat (sides_of ws answer) ∙ ap labels_of all_parts ∙ row_labels answer)

  below_tab : (φ : ℕ → ℕ → ℕ) (m : ℕ) → map (value φ) (slots_below n c seen inv one ws begin last m) ≡ tab m (λ i. value φ (slot_of i))
  unfolding slots_below
  below_tab φ zero = unfold tab in refl
  below_tab φ (suc m) =
      map-append (value φ) (slots_below n c seen inv one ws begin last m) (slot_of m ∷ [])
      ∙ ap (λ (l : List ℕ). l ++ (value φ (slot_of m) ∷ [])) (below_tab φ m)
      ∙ sym (tab_more m (λ i. value φ (slot_of i)))

  all_slots : slots_to (rows_to n ws (in_class c) n) ≡ slots_below n c seen inv one ws begin last n
  all_slots = go n refl
    where
      go : (m : ℕ) → n ≡ m → slots_to (rows_to n ws (in_class c) m) ≡ slots_below n c seen inv one ws begin last m
      go zero e = unfold rows_to slots_to slots_below in refl
      go (suc j) e = let R = rows_are n c seen inv one ws begin last j (omega arith) in ap slots_to R.are ∙ R.slots

  system_is : (φ : ℕ → ℕ → ℕ) → system_bits φ (sides_of ws answer) ≡ tab n (λ i. value φ (slot_of i))
  system_is φ =
      bits_flat φ (sides_of ws answer) ∙ ap (side_bits φ) all_parts ∙ turned
      ∙ ap (map (value φ)) all_slots ∙ below_tab φ n
    where
      turned : side_bits φ (map part_of answer) ≡ map (value φ) (slots_to (rows_to n ws (in_class c) n))
      turned = unfold answer_rows side_bits in (rows_slots φ (rows_to n ws (in_class c) n) [] ∙ append-nil (map (value φ) (slots_to (rows_to n ws (in_class c) n))))

  answer_assignment : (φ : ℕ → ℕ → ℕ) → Filling φ → Assignment n (system_bits φ (sides_of ws (answer_rows n ws (in_class c))))
  answer_assignment φ h = rw (system_is φ) (slots_assignment n slot_of (slot_bits n c seen inv one (begins ws) begin last) φ h)

  answer_gives : Gives n (λ p. satisfies_pairs p seen) (sides_of ws (answer_rows n ws (in_class c)))
  answer_gives =
      record {
        passes = λ φ h. rw (system_is φ) (slot_gives n c seen inv one (begins ws) begin last φ h);
        reaches = λ p a s. (filled n c seen inv one (begins ws) begin last p, small p a, back p a s);
      }
    where
      small : (p : List ℕ) → Assignment n p → Filling (filled n c seen inv one (begins ws) begin last p)
      small p a k o = unfold filled in assignment_bit a _

      back : (p : List ℕ) → Assignment n p → satisfies_pairs p seen ≡ true → system_bits (filled n c seen inv one (begins ws) begin last p) (sides_of ws answer) ≡ p
      back p a s =
          let φ = filled n c seen inv one (begins ws) begin last p in
          system_is φ
          ∙ ext_get_or 0 (tab n (λ i. value φ (slot_of i))) p (tab_length n (λ i. value φ (slot_of i)) ∙ sym (assignment_length a))
          (λ i l.
          let b : i < n = omega (arith, tab_length n (λ i. value φ (slot_of i)), l) in
          tab_at n (λ i. value φ (slot_of i)) i b ∙ sym (slot_reads n c seen inv one (begins ws) begin last p a s i b))

-- an answer is solved only if some assignment is left
pub some_left : (t : List Row) → (answer_record t).outcome ≡ 2 → unsatisfiable t ≡ false
unfolding answer_record
some_left t e = go (valid t) refl (unsatisfiable t) refl
  where
    go : (a : Bool) → valid t ≡ a → (b : Bool) → unsatisfiable t ≡ b → b ≡ false
    go true h b k = let o : (answer_record t).outcome ≡ 0 = rw h refl in absurd (omega (arith, e, o))
    go false h true k = let o : (answer_record t).outcome ≡ 1 = rw (h, k) refl in absurd (omega (arith, e, o))
    go false h false k = refl

module _ (table : List ℕ) (accepted : first_fault table ≡ Accepted) (solved : (answer_record (rows_of table)).outcome ≡ 2) where
  abbrev t : List Row
  t = rows_of table

  abbrev n : ℕ
  n = bits_of (rows_of table)

  abbrev ws : List ℕ
  ws = variable_widths (rows_of table)

  abbrev c : List ℕ
  c = table_classes table accepted

  abbrev seen : List Pair
  seen = reverse (pairs_together (equation_pairs (rows_of table)))

  abbrev some : unsatisfiable (rows_of table) ≡ false
  some = some_left (rows_of table) solved

  abbrev one : rep (table_classes table accepted) 1 ≡ 1
  one = apart_one table accepted some

  ending : begins ws n ≡ true
  ending = begins_last t

  rows_are_those : solved_rows t ≡ answer_rows n ws (in_class c)
  rows_are_those = solved-rows table accepted some

  given : Gives n (satisfies t) (sides_of ws (answer_rows n ws (in_class c)))
  given =
      let G = answer_gives n c seen (represent table accepted) one ws (begins_first ws) ending (widths_sum t) in
      record {
        passes = λ φ h.
            satisfies_seen table accepted (system_bits φ (sides_of ws (answer_rows n ws (in_class c))))
            (answer_assignment n c seen (represent table accepted) one ws (begins_first ws) ending (widths_sum t) φ h)
            ∙ G.passes φ h;
        reaches = λ p a s. G.reaches p a (sym (satisfies_seen table accepted p a) ∙ s);
      }

  -- The answer is a solved system with the table's patterns.
  pub answer_system : AnswerSystem (rows_of table)
  answer_system =
      record {
        solves = rw rows_are_those (answer_solves n c seen (represent table accepted) one ws (begins_first ws) ending (widths_sum t));
        gives = rw rows_are_those given;
        pieces =
            rw rows_are_those (answer_count n c seen (represent table accepted) one ws (begins_first ws) ending (widths_sum t))
            ∙ sym ((demand_3 table accepted).solved_fresh solved);
      }
