-- The value of a form's pieces is the value of the row: a piece of one bit has its source's bit, and merging keeps
-- values.
use mathlib.Core.Path.{◌≡◌, refl, sym, ◌∙◌, ap, ap₂}
use mathlib.Core.Bool.{Bool, true, false}
use mathlib.Core.List.{List, [], ◌∷◌, ◌++◌, map, append_assoc}
use Prim.Native.Nat.{ℕ, zero, suc, ◌+◌, ◌-◌, ◌<◌, ◌≤◌}
use native.Mathlib.Omega.{arith}
use lib.Dec.{eqb, ltb}
use lib.ListN.{length, get_or, take, drop, length-drop, replicate-append-replicate, get_or-eq_default, get_or-append}
use lib.Seq.{get_or-take, get_or-drop, get_or-append-add, length-take-le, drop-cons}
use mathlib.Core.Logic.{◌⊎◌, inl, inr, ⊎_elim}
use borrow.Author.Tests.{eqb-true, eqb-false}
use Rattle.terms.specs.declared.Row.{Row}
use Rattle.terms.specs.Table.{bits_in, bits_of, bit_of, extract, source_of, value_of}
use Rattle.terms.proofs.RowKinds.{of_variable, of_other, bits_variable, bits_other}
use Rattle.laws.proofs.Bools.{not_both}
use Rattle.laws.proofs.Numbers.{lt_or_le}
use Rattle.terms.proofs.Sources.{value_sources}
use Rattle.terms.specs.Sound.{Sound}
use Rattle.terms.proofs.Words.{extract_join}
use Rattle.forms.specs.declared.Piece.{Piece}
use Rattle.forms.specs.Form.{fill, part, bits_up, place_pieces, piece_of, meets, merged, add, add_all, group, form_from, form_of, variable_bits, piece_value, pieces_value, form_value}
use Rattle.forms.proofs.Grouping.{Meeting, meeting}
use Rattle.forms.proofs.Places.{places_count, bits_count, bits_at, pieces_variable, pieces_other}

-- a piece that lies within its variable
pub record Within (vs : List (List ℕ)) (p : Piece) : Type 0 where
  pub in_order : p.low ≤ p.high
  pub inside : ltb p.kind 2 ≡ false → p.high < length (get_or vs p.variable [])

pub data AllWithin (vs : List (List ℕ)) : List Piece → Type 0 where
  none : AllWithin vs []
  some : {p : Piece} {form : List Piece} → Within vs p → AllWithin vs form → AllWithin vs (p ∷ form)

module _ (vs : List (List ℕ)) where
  merged_within : (p q : Piece) → meets p q ≡ true → Within vs p → Within vs q → Within vs (merged p q)
  unfolding merged
  merged_within p q h kp kq = go (ltb p.kind 2) refl
    where
      m : Meeting p q
      m = meeting p q h

      go : (b : Bool) → ltb p.kind 2 ≡ b → Within vs (merged p q)
      go true f = record { in_order = rw f (omega (arith, kq.in_order)); inside = λ e. absurd (not_both f e) }
      go false f = record { in_order = rw f (omega (arith, kp.in_order, kq.in_order, (m.beside f).1)); inside = λ e. rw f (kp.inside f) }

  merged_value : (p q : Piece) → meets p q ≡ true → Within vs p → Within vs q → piece_value vs (merged p q) ≡ piece_value vs p ++ piece_value vs q
  unfolding piece_value merged
  merged_value p q h kp kq = go (ltb p.kind 2) refl
    where
      m : Meeting p q
      m = meeting p q h

      go : (b : Bool) → ltb p.kind 2 ≡ b → piece_value vs (merged p q) ≡ piece_value vs p ++ piece_value vs q
      go true f =
          let g : ltb q.kind 2 ≡ true = rw m.same_kind at f in
          let n : p.high + 1 + (q.high + 1) ≡ p.high + q.high + 1 + 1 = omega arith in
          rw (f, g, ← m.same_kind, replicate-append-replicate, n)
      go false f =
          let g : ltb q.kind 2 ≡ false = rw m.same_kind at f in
          let w = get_or vs p.variable [] in
          let j : p.low - 1 ≡ q.high = omega (arith, (m.beside f).1) in
          let joined : extract w p.high p.low ++ extract w (p.low - 1) q.low ≡ extract w p.high q.low =
          extract_join w p.high p.low q.low (kp.inside f) kp.in_order (omega (arith, kq.in_order, (m.beside f).1)) in
          rw (f, g, ← (m.beside f).0) (sym (rw j at joined))

  add_within : (p : Piece) (form : List Piece) → Within vs p → AllWithin vs form → AllWithin vs (add p form)
  unfolding add
  add_within p form kp none = some kp none
  add_within p form kp (some {p = q} {form = rest} kq ks) = go (meets p q) refl
    where
      go : (b : Bool) → meets p q ≡ b → AllWithin vs (add p (q ∷ rest))
      go true e = rw e (some (merged_within p q e kp kq) ks)
      go false e = rw e (some kp (some kq ks))

  add-value : (p : Piece) (form : List Piece) → Within vs p → AllWithin vs form → pieces_value vs (add p form) ≡ piece_value vs p ++ pieces_value vs form
  unfolding add pieces_value
  add-value p form kp none = refl
  add-value p form kp (some {p = q} {form = rest} kq ks) = go (meets p q) refl
    where
      go : (b : Bool) → meets p q ≡ b → pieces_value vs (add p (q ∷ rest)) ≡ piece_value vs p ++ pieces_value vs (q ∷ rest)
      go true e = rw (e, merged_value p q e kp kq) (append_assoc (piece_value vs p) (piece_value vs q) (pieces_value vs rest))
      go false e = rw e

  group_within : (ps : List Piece) → AllWithin vs ps → AllWithin vs (group ps)
  unfolding group add_all
  group_within ps none = none
  group_within ps (some {p = p} {form = rest} k ks) = add_within p (group rest) k (group_within rest ks)

  -- grouping keeps the value
  pub group-value : (ps : List Piece) → AllWithin vs ps → pieces_value vs (group ps) ≡ pieces_value vs ps
  unfolding group add_all pieces_value
  group-value ps none = refl
  group-value ps (some {p = p} {form = rest} k ks) =
      add-value p (group rest) k (group_within rest ks) ∙ ap (λ (l : List ℕ). piece_value vs p ++ l) (group-value rest ks)

-- a piece of one bit, and its bit
record Reads (vs : List (List ℕ)) (q : Piece) (b : ℕ) : Type 0 where
  value : piece_value vs q ≡ b ∷ []
  within : Within vs q

fill_reads : (vs : List (List ℕ)) (b : ℕ) → b ≤ 1 → Reads vs (fill b 0) b
unfolding piece_value
fill_reads vs zero h = record { value = refl; within = record { in_order = omega arith; inside = λ e. absurd (not_both refl e) } }
fill_reads vs (suc zero) h = record { value = refl; within = record { in_order = omega arith; inside = λ e. absurd (not_both refl e) } }
fill_reads vs (suc (suc b)) h = absurd (omega arith)

one_bit : (w : List ℕ) (j : ℕ) → j < length w → extract w j j ≡ get_or w (length w - (j + 1)) 0 ∷ []
unfolding extract
one_bit w j h =
    let n : j + 1 - j ≡ 1 = omega arith in
    let k = length w - (j + 1) in
    rw (n, drop-cons w k 0 (omega arith))

head_at : (vs : List (List ℕ)) (v : ℕ) (w : List ℕ) (ws : List (List ℕ)) → drop v vs ≡ w ∷ ws → (get_or vs v [] ≡ w) × (drop (suc v) vs ≡ ws)
head_at [] zero w ws e = absurd (let z : ◌≡◌ {A = ℕ} 0 1 = cc in omega arith)
head_at [] (suc v) w ws e = absurd (let z : ◌≡◌ {A = ℕ} 0 1 = cc in omega arith)
head_at (x ∷ vs) zero w ws e = (cc, cc)
head_at (x ∷ vs) (suc v) w ws e = head_at vs v w ws e

part_reads : (vs : List (List ℕ)) (v a i : ℕ) (p : List ℕ) → get_or vs v [] ≡ take a p → a ≤ length p → i < a
    → Reads vs (part v (0 + (a - 1 - i)) (0 + (a - 1 - i))) (get_or p i 0)
unfolding piece_value
part_reads vs v a i p e l h =
    let w = take a p in
    let n : length w ≡ a = length-take-le a p l in
    let j = 0 + (a - 1 - i) in
    let k : length w - (j + 1) ≡ i = omega arith in
    record {
      value = ap (λ (x : List ℕ). extract x j j) e ∙ one_bit w j (omega arith) ∙ ap (λ (m : ℕ). get_or w m 0 ∷ []) k ∙ ap (λ (b : ℕ). b ∷ []) (get_or-take a p i 0 h);
      within = record { in_order = omega arith; inside = λ f. rw e (omega arith) };
    }

-- a row that is no variable adds nothing
record Skipped (r : Row) (t : List Row) (v : ℕ) (p : List ℕ) : Type 0 where
  no_pieces : place_pieces v (r ∷ t) ≡ place_pieces v t
  no_variable : variable_bits (r ∷ t) p ≡ variable_bits t p
  no_bits : bits_in r ≡ 0

skipped : (r : Row) (t : List Row) (v : ℕ) (p : List ℕ) → (r.kind ≡ 0 → ⊥) → Skipped r t v p
unfolding variable_bits
skipped r t v p h =
    record {
      no_pieces = pieces_other v r t h;
      no_variable = of_other r (take r.a p ∷ variable_bits t (drop r.a p)) (variable_bits t p) h;
      no_bits = bits_other r h;
    }

-- a variable adds its bits
record Added (r : Row) (t : List Row) (v : ℕ) (p : List ℕ) : Type 0 where
  its_pieces : place_pieces v (r ∷ t) ≡ bits_up v 0 r.a ++ place_pieces (suc v) t
  its_value : variable_bits (r ∷ t) p ≡ take r.a p ∷ variable_bits t (drop r.a p)
  its_bits : bits_in r ≡ r.a

added : (r : Row) (t : List Row) (v : ℕ) (p : List ℕ) → r.kind ≡ 0 → Added r t v p
unfolding variable_bits
added r t v p k =
    record {
      its_pieces = pieces_variable v r t k;
      its_value = of_variable r (take r.a p ∷ variable_bits t (drop r.a p)) (variable_bits t p) k;
      its_bits = bits_variable r k;
    }

-- the pieces of an assignment's places have its bits
place_reads : (t : List Row) (v : ℕ) (p : List ℕ) (vs : List (List ℕ)) → drop v vs ≡ variable_bits t p → length p ≡ bits_of t → (i : ℕ) → i < bits_of t
    → Reads vs (get_or (place_pieces v t) i (fill 0 0)) (get_or p i 0)
unfolding bits_of
place_reads [] v p vs e n i h = absurd (omega arith)
place_reads (r ∷ t) v p vs e n i h = go (eqb r.kind 0) refl (place_reads t)
  where
    Later : Type 0
    Later = (v : ℕ) (p : List ℕ) (vs : List (List ℕ)) → drop v vs ≡ variable_bits t p → length p ≡ bits_of t → (i : ℕ) → i < bits_of t → Reads vs (get_or (place_pieces v t) i (fill 0 0)) (get_or p i 0)

    among : (a : ℕ) → get_or (place_pieces v (r ∷ t)) i (fill 0 0) ≡ get_or (bits_up v 0 a ++ place_pieces (suc v) t) i (fill 0 0)
        → bits_in r ≡ a → get_or vs v [] ≡ take a p → drop (suc v) vs ≡ variable_bits t (drop a p) → Later → (i < a) ⊎ (a ≤ i)
        → Reads vs (get_or (place_pieces v (r ∷ t)) i (fill 0 0)) (get_or p i 0)
    among a pieces bits here rest later (inl l) =
        rw (pieces, get_or-append (bits_up v 0 a) (place_pieces (suc v) t) (fill 0 0) i (omega (arith, bits_count v 0 a)), bits_at v 0 a i (fill 0 0) l)
        (part_reads vs v a i p here (omega arith) l)
    among a pieces bits here rest later (inr l) =
        let j : i ≡ length (bits_up v 0 a) + (i - a) = omega (arith, bits_count v 0 a) in
        let piece = pieces ∙ ap (λ (k : ℕ). get_or (bits_up v 0 a ++ place_pieces (suc v) t) k (fill 0 0)) j ∙ get_or-append-add (bits_up v 0 a) (place_pieces (suc v) t) (i - a) (fill 0 0) in
        let k : a + (i - a) ≡ i = omega arith in
        let bit : get_or (drop a p) (i - a) 0 ≡ get_or p i 0 = get_or-drop a p (i - a) 0 ∙ ap (λ (m : ℕ). get_or p m 0) k in
        rw (piece, ← bit) (later (suc v) (drop a p) vs rest (omega (arith, length-drop a p)) (i - a) (omega arith))

    go : (b : Bool) → eqb r.kind 0 ≡ b → Later → Reads vs (get_or (place_pieces v (r ∷ t)) i (fill 0 0)) (get_or p i 0)
    go true k later =
        let it = added r t v p (eqb-true r.kind 0 k) in
        let at = head_at vs v (take r.a p) (variable_bits t (drop r.a p)) (e ∙ it.its_value) in
        among r.a (ap (λ (l : List Piece). get_or l i (fill 0 0)) it.its_pieces) it.its_bits at.0 at.1 later (lt_or_le i r.a)
    go false k later =
        let it = skipped r t v p (eqb-false r.kind 0 k) in
        rw it.no_pieces (later v p vs (e ∙ it.no_variable) (omega (arith, it.no_bits)) i (omega (arith, it.no_bits)))

-- a source's piece has its bit
source_reads : (t : List Row) (p : List ℕ) → length p ≡ bits_of t → (s : ℕ) → Reads (variable_bits t p) (piece_of t s) (bit_of p s)
unfolding piece_of bit_of
source_reads t p n zero = fill_reads (variable_bits t p) 0 (omega arith)
source_reads t p n (suc zero) = fill_reads (variable_bits t p) 1 (omega arith)
source_reads t p n (suc (suc i)) =
    ⊎_elim (λ l. place_reads t 0 p (variable_bits t p) refl n i l)
    (λ l.
    rw (
      get_or-eq_default (place_pieces 0 t) (fill 0 0) {n = i} (omega (arith, places_count 0 t)),
      get_or-eq_default p 0 {n = i} (omega arith),
    )
    (fill_reads (variable_bits t p) 0 (omega arith)))
    (lt_or_le i (bits_of t))

module _ (t : List Row) (p : List ℕ) (n : length p ≡ bits_of t) where
  sources_within : (xs : List ℕ) → AllWithin (variable_bits t p) (map (piece_of t) xs)
  sources_within [] = none
  sources_within (x ∷ xs) = some (source_reads t p n x).within (sources_within xs)

  sources_value : (xs : List ℕ) → pieces_value (variable_bits t p) (map (piece_of t) xs) ≡ map (bit_of p) xs
  unfolding pieces_value
  sources_value [] = refl
  sources_value (x ∷ xs) = ap₂ (λ (a b : List ℕ). a ++ b) (source_reads t p n x).value (sources_value xs)

  -- the value of a form of sources is their bits
  pub form_bits : (xs : List ℕ) → form_value t p (form_from t xs) ≡ map (bit_of p) xs
  unfolding form_value form_from
  form_bits xs = group-value (variable_bits t p) (map (piece_of t) xs) (sources_within xs) ∙ sources_value xs

  -- The value of a form's pieces under every pattern is the row's value.
  pub form-value : Sound t → (r : ℕ) → r < length t → form_value t p (form_of t r) ≡ value_of t p r
  unfolding form_of
  form-value sound r h = form_bits (source_of t r) ∙ sym (value_sources t p sound n r h)
