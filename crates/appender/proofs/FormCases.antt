-- What the form functions append, case by case, from what the calls in them append (document 001, figure 3).
use mathlib.Core.Path.{◌≡◌, refl, sym, ◌∙◌, ap}
use mathlib.Core.Bool.{Bool, true, false, ◌||◌}
use mathlib.Core.List.{List, [], ◌∷◌, ◌++◌, append-nil}
use mathlib.Core.Logic.{◌⊎◌, inl, inr}
use Prim.Native.Nat.{ℕ, ◌+◌, ◌-◌, ◌/◌, ◌%◌, ◌^◌, ◌<◌, ◌≤◌}
use native.Mathlib.Omega.{arith}
use lib.Dec.{eqb, ltb}
use lib.ListN.{get_or}
use borrow.Author.Tests.{eqb-true, eqb-false, eq-eqb, ne_eqb, lt-ltb, le-ltb}
use Rattle.laws.proofs.Bools.{or_first, or_second}
use Rattle.laws.proofs.Numbers.{lt_or_le}
use Rattle.laws.specs.Binary.{binary}
use Rattle.terms.specs.declared.Row.{Row}
use Rattle.terms.specs.Table.{rows_of, row_at, width_of, source_of, extract}
use Rattle.terms.specs.Faults.{absent}
use Rattle.forms.specs.Form.{part, form_from}
use Rattle.terms.specs.inner.Placed.{Numbered}
use Rattle.forms.proofs.RowForms.{width_some, width_value, width_read, whole_cut, first_earlier, concat_left, variable_cut, constant_cut, value_cut, cut_there, cut_bounds, cut_sources, shifted_within, shifted_small, cut_cut, left_there, right_there, right_earlier, both_sources, right_cut, left_cut, left_within, across}
use Rattle.appender.specs.declared.Cut.{Cut}
use Rattle.appender.specs.declared.Part.{Part}
use Rattle.appender.specs.inner.Cuts.{is_leaf, leaf_piece, AppendsLeaf, AppendsForm, AppendsCut, left_bits, right_bits, part_sources, Within, AppendsPart, AppendsParts}
use Rattle.appender.proofs.Appending.{appended_none, appended_same, appended_both}

-- a row that is no leaf is neither a variable nor a constant nor a value
record Inner (kind : ℕ) : Type 0 where
  no_variable : kind ≡ 0 → ⊥
  no_constant : kind ≡ 1 → ⊥
  no_value : kind ≡ 5 → ⊥

inner_kind : (kind : ℕ) → is_leaf kind ≡ false → Inner kind
unfolding is_leaf
inner_kind kind h =
    let first = or_first (eqb kind 0 || eqb kind 1) (eqb kind 5) h in
    record {
      no_variable = eqb-false kind 0 (or_first (eqb kind 0) (eqb kind 1) first);
      no_constant = eqb-false kind 1 (or_second (eqb kind 0) (eqb kind 1) first);
      no_value = eqb-false kind 5 (or_second (eqb kind 0 || eqb kind 1) (eqb kind 5) h);
    }

data Leaf (kind : ℕ) : Type 0 where
  a_variable : kind ≡ 0 → Leaf kind
  a_constant : kind ≡ 1 → Leaf kind
  a_value : kind ≡ 5 → Leaf kind

leaf_kind : (kind : ℕ) → is_leaf kind ≡ true → Leaf kind
unfolding is_leaf
leaf_kind kind h = go (eqb kind 0) refl (eqb kind 1) refl
  where
    go : (b : Bool) → eqb kind 0 ≡ b → (c : Bool) → eqb kind 1 ≡ c → Leaf kind
    go true e c f = a_variable (eqb-true kind 0 e)
    go false e true f = a_constant (eqb-true kind 1 f)
    go false e false f = a_value (eqb-true kind 5 (rw (e, f) at h))

-- a row of an accepted table, which was read as r
module _ (table widths variables : List ℕ) (num : Numbered table widths variables) (row : ℕ) (there : absent (rows_of table) row ≡ false)
    (r : Row) (read : r ≡ row_at (rows_of table) row) where
  abbrev rows : List Row
  rows = rows_of table

  abbrev at : Row
  at = row_at (rows_of table) row

  kind_is : r.kind ≡ at.kind
  kind_is = ap (λ (x : Row). x.kind) read

  -- bits of a variable or of a constant are one piece, bits of a value those of its number
  leaf_cut : is_leaf r.kind ≡ true → (r.kind ≡ 5 → ⊥) → (high low : ℕ) → low ≤ high → high < width_of rows row
      → form_from rows (extract (source_of rows row) high low) ≡ leaf_piece r (get_or variables row 0) high low ∷ []
  unfolding leaf_piece
  leaf_cut e other high low l h = go (leaf_kind r.kind e)
    where
      go : Leaf r.kind → form_from rows (extract (source_of rows row) high low) ≡ leaf_piece r (get_or variables row 0) high low ∷ []
      go (a_variable k) = rw (eq-eqb r.kind 0 k) (variable_cut table widths variables num row there (sym kind_is ∙ k) high low l h)
      go (a_constant k) = rw (k, ap (λ (x : Row). x.a) read) (constant_cut table widths variables num row there (sym kind_is ∙ k) high low l h)
      go (a_value k) = absurd (other k)

  bits_cut : r.kind ≡ 5 → (high low : ℕ) → low ≤ high → high < width_of rows row
      → extract (source_of rows row) high low ≡ binary (high + 1 - low) (r.a / 2 ^ low)
  bits_cut k high low l h =
      value_cut table widths variables num row there (sym kind_is ∙ k) high low l h ∙ ap (λ (x : Row). binary (high + 1 - low) (x.a / 2 ^ low)) (sym read)

  leaf_wide : is_leaf r.kind ≡ true → 1 ≤ width_of rows row
  leaf_wide e = go (leaf_kind r.kind e)
    where
      go : Leaf r.kind → 1 ≤ width_of rows row
      go (a_variable k) = width_some table widths variables num row there (omega (arith, kind_is))
      go (a_constant k) = width_some table widths variables num row there (omega (arith, kind_is))
      go (a_value k) = width_value table widths variables num row there (sym kind_is ∙ k)

  -- what is named is earlier
  named_first : is_leaf r.kind ≡ false → r.a < row
  named_first inner =
      let i = inner_kind r.kind inner in
      omega (
        arith,
        ap (λ (x : Row). x.a) read,
        first_earlier table widths variables num row there (λ h. i.no_variable (kind_is ∙ h)) (λ h. i.no_constant (kind_is ∙ h)) (λ h. i.no_value (kind_is ∙ h)),
      )

  is_join : is_leaf r.kind ≡ false → (r.kind ≡ 3 → ⊥) → at.kind ≡ 2
  is_join inner other =
      let i = inner_kind r.kind inner in
      concat_left table widths variables num row there (λ h. i.no_variable (kind_is ∙ h)) (λ h. i.no_constant (kind_is ∙ h)) (λ h. i.no_value (kind_is ∙ h)) (λ h. other (kind_is ∙ h))

  named_second : is_leaf r.kind ≡ false → (r.kind ≡ 3 → ⊥) → r.b < row
  named_second inner other = omega (arith, ap (λ (x : Row). x.b) read, right_earlier table widths variables num row there (is_join inner other))

-- `put_form` at a row, which it read as r
module _ (table widths variables : List ℕ) (row : ℕ) (r : Row) (read : r ≡ row_at (rows_of table) row) (n : ℕ) (out : List ℕ) (m : ℕ) (out' : List ℕ) where
  pub form_leaf : is_leaf r.kind ≡ true → (v high : ℕ) → v ≡ get_or variables row 0 → high ≡ get_or widths row 0 - 1
      → AppendsLeaf r v high 0 n out m out' → AppendsForm table widths variables row n out m out'
  form_leaf e v high ev eh f num there =
      let w = width_read table widths variables num row there row there in
      let some = leaf_wide table widths variables num row there r read e in
      let whole = whole_cut table widths variables num row there high 0 (omega arith) refl in
      f (rows_of table) (source_of (rows_of table) row) (omega arith)
      (λ k. sym whole ∙ bits_cut table widths variables num row there r read k high 0 (omega arith) (omega arith))
      (λ k. ap (form_from (rows_of table)) (sym whole) ∙ leaf_cut table widths variables num row there r read e k high 0 (omega arith) (omega arith) ∙ rw ev)

  pub form_first_later : is_leaf r.kind ≡ false → (a : ℕ) → a ≡ r.a → row ≤ a → AppendsForm table widths variables row n out m out'
  form_first_later inner a ea l num there = absurd (omega (arith, named_first table widths variables num row there r read inner))

  pub form_second_later : is_leaf r.kind ≡ false → (r.kind ≡ 3 → ⊥) → (b : ℕ) → b ≡ r.b → row ≤ b → AppendsForm table widths variables row n out m out'
  form_second_later inner other b eb l num there = absurd (omega (arith, named_second table widths variables num row there r read inner other))

  pub form_cut : r.kind ≡ 3 → (k : Cut) → k ≡ record { row = r.a; high = r.b; low = r.c }
      → AppendsCut table widths variables k n out m out' → AppendsForm table widths variables row n out m out'
  form_cut e k ek f num there =
      let at = row_at (rows_of table) row in
      let e' = sym (ap (λ (x : Row). x.kind) read) ∙ e in
      let f' : AppendsCut table widths variables (record { row = at.a; high = at.b; low = at.c }) n out m out' = rw (ek, read) at f in
      let bounds = cut_bounds table widths variables num row there e' in
      appended_same _ _ _ _ _ _ _ (cut_sources table widths variables num row there e') (f' num (cut_there table widths variables num row there e') bounds.1 bounds.0)

  pub form_join : is_leaf r.kind ≡ false → (r.kind ≡ 3 → ⊥) → (a b : ℕ) → a ≡ r.a → b ≡ r.b → (k : ℕ) (middle : List ℕ)
      → AppendsForm table widths variables a n out k middle → AppendsForm table widths variables b k middle m out' → AppendsForm table widths variables row n out m out'
  form_join inner other a b ea eb k middle f g num there =
      let at = row_at (rows_of table) row in
      let e = is_join table widths variables num row there r read inner other in
      let f' : AppendsForm table widths variables at.a n out k middle = rw (ea ∙ ap (λ (x : Row). x.a) read) at f in
      let g' : AppendsForm table widths variables at.b k middle m out' = rw (eb ∙ ap (λ (x : Row). x.b) read) at g in
      appended_same _ _ _ _ _ _ _ (both_sources table widths variables num row there e)
      (appended_both _ _ _ _ _ _ _ _ _ (f' num (left_there table widths variables num row there e)) (g' num (right_there table widths variables num row there e)))

-- what a cut of a join has of its parts are bits of the rows that it names
pub left_row : (row left right : ℕ) (cut : Cut) → (left_bits row left right cut).row ≡ row
unfolding left_bits
left_row row left right cut = go (ltb cut.high right) refl
  where
    go : (b : Bool) → ltb cut.high right ≡ b → (left_bits row left right cut).row ≡ row
    go true e = rw e
    go false e = rw e

pub right_row : (row right : ℕ) (cut : Cut) → (right_bits row right cut).row ≡ row
unfolding right_bits
right_row row right cut = go (ltb cut.low right) refl
  where
    go : (b : Bool) → ltb cut.low right ≡ b → (right_bits row right cut).row ≡ row
    go true e = rw e
    go false e = rw e

-- a cut of a join, and what it has of both parts
record Divided (t : List Row) (row high low : ℕ) (left right : Part) : Type 0 where
  sources : part_sources t left ++ part_sources t right ≡ extract (source_of t row) high low
  left_within : 0 < left.width → Within t left
  right_within : 0 < right.width → Within t right

module _ (table widths variables : List ℕ) (num : Numbered table widths variables) (cut : Cut) (there : absent (rows_of table) cut.row ≡ false)
    (e : (row_at (rows_of table) cut.row).kind ≡ 2) (l : cut.low ≤ cut.high) (h : cut.high < width_of (rows_of table) cut.row) where
  abbrev joined : Row
  joined = row_at (rows_of table) cut.row

  abbrev left : ℕ
  left = width_of (rows_of table) (row_at (rows_of table) cut.row).a

  abbrev right : ℕ
  right = width_of (rows_of table) (row_at (rows_of table) cut.row).b

  abbrev Divides : Type 0
  Divides = Divided (rows_of table) cut.row cut.high cut.low (left_bits joined.a left right cut) (right_bits joined.b right cut)

  -- within the right part, within the left part, or across both
  only_right : cut.high < right → Divides
  unfolding left_bits right_bits part_sources
  only_right s =
      let none = lt-ltb cut.high right s in
      let some = lt-ltb cut.low right (omega arith) in
      let wide = ne_eqb right 0 (omega arith) in
      rw (none, some)
      (record {
        sources = rw wide (right_cut table widths variables num cut.row there e cut.high cut.low l h s);
        left_within = λ z. absurd (omega arith);
        right_within = λ z. record { there = right_there table widths variables num cut.row there e; wide = refl; in_order = l; inside = s };
      })

  only_left : right ≤ cut.low → Divides
  unfolding left_bits right_bits part_sources
  only_left s =
      let inside = left_within table widths variables num cut.row there e cut.high cut.low l h (omega arith) in
      let some = le-ltb cut.high right (omega arith) in
      let none = le-ltb cut.low right s in
      let wide = ne_eqb left 0 (omega arith) in
      rw (some, none)
      (record {
        sources = rw wide (append-nil _ ∙ left_cut table widths variables num cut.row there e cut.high cut.low l h s);
        left_within = λ z. record { there = left_there table widths variables num cut.row there e; wide = refl; in_order = omega arith; inside = inside };
        right_within = λ z. absurd (omega arith);
      })

  both : right ≤ cut.high → cut.low < right → Divides
  unfolding left_bits right_bits part_sources
  both s u =
      let inside = left_within table widths variables num cut.row there e cut.high cut.low l h s in
      let some = le-ltb cut.high right s in
      let more = lt-ltb cut.low right u in
      let wide = ne_eqb left 0 (omega arith) in
      let wide' = ne_eqb right 0 (omega arith) in
      let low : cut.low - right ≡ 0 = omega arith in
      rw (some, more, low)
      (record {
        sources = rw (wide, wide') (across table widths variables num cut.row there e cut.high cut.low l h u s);
        left_within = λ z. record { there = left_there table widths variables num cut.row there e; wide = refl; in_order = omega arith; inside = inside };
        right_within = λ z. record { there = right_there table widths variables num cut.row there e; wide = refl; in_order = omega arith; inside = omega arith };
      })

  divided : Divides
  divided = go (lt_or_le cut.high right) (lt_or_le cut.low right)
    where
      go : (cut.high < right) ⊎ (right ≤ cut.high) → (cut.low < right) ⊎ (right ≤ cut.low) → Divides
      go (inl s) u = only_right s
      go (inr s) (inl u) = both s u
      go (inr s) (inr u) = only_left u

-- `put_cut`, whose row was read as r
module _ (table widths variables : List ℕ) (cut : Cut) (row : ℕ) (er : row ≡ cut.row) (r : Row) (read : r ≡ row_at (rows_of table) row)
    (n : ℕ) (out : List ℕ) (m : ℕ) (out' : List ℕ) where
  read_at : r ≡ row_at (rows_of table) cut.row
  read_at = read ∙ ap (row_at (rows_of table)) er

  abbrev here : Row
  here = row_at (rows_of table) cut.row

  pub cut_leaf : is_leaf r.kind ≡ true → (v : ℕ) → v ≡ get_or variables row 0
      → AppendsLeaf r v cut.high cut.low n out m out' → AppendsCut table widths variables cut n out m out'
  cut_leaf e v ev f num there l h =
      f (rows_of table) _ l
      (λ k. bits_cut table widths variables num cut.row there r read_at k cut.high cut.low l h)
      (λ k. leaf_cut table widths variables num cut.row there r read_at e k cut.high cut.low l h ∙ rw (ev, er))

  pub cut_first_later : is_leaf r.kind ≡ false → (a : ℕ) → a ≡ r.a → row ≤ a → AppendsCut table widths variables cut n out m out'
  cut_first_later inner a ea s num there l h = absurd (omega (arith, er, named_first table widths variables num cut.row there r read_at inner))

  pub cut_second_later : is_leaf r.kind ≡ false → (r.kind ≡ 3 → ⊥) → (b : ℕ) → b ≡ r.b → row ≤ b → AppendsCut table widths variables cut n out m out'
  cut_second_later inner other b eb s num there l h = absurd (omega (arith, er, named_second table widths variables num cut.row there r read_at inner other))

  pub cut_of_cut : r.kind ≡ 3 → (high low : ℕ) → high ≡ (cut.high + r.c) % 65536 → low ≡ (cut.low + r.c) % 65536
      → (k : Cut) → k ≡ record { row = r.a; high = high; low = low } → AppendsCut table widths variables k n out m out' → AppendsCut table widths variables cut n out m out'
  cut_of_cut e high low eh el k ek f num there l h =
      let e' = sym (ap (λ (x : Row). x.kind) read_at) ∙ e in
      let small = shifted_small table widths variables num cut.row there e' cut.high cut.low l h in
      let named : k ≡ record { row = here.a; high = cut.high + here.c; low = cut.low + here.c } =
      ek ∙ rw (eh, el, read_at, small cut.high (omega arith), small cut.low l) in
      let f' : AppendsCut table widths variables (record { row = here.a; high = cut.high + here.c; low = cut.low + here.c }) n out m out' = rw named at f in
      appended_same _ _ _ _ _ _ _ (cut_cut table widths variables num cut.row there e' cut.high cut.low l h)
      (f' num (cut_there table widths variables num cut.row there e') (omega arith) (shifted_within table widths variables num cut.row there e' cut.high cut.low l h))

  pub cut_of_join : is_leaf r.kind ≡ false → (r.kind ≡ 3 → ⊥) → (a b left right : ℕ) → a ≡ r.a → b ≡ r.b → left ≡ get_or widths a 0 → right ≡ get_or widths b 0
      → (p q : Part) → p ≡ left_bits r.a left right cut → q ≡ right_bits r.b right cut → AppendsParts table widths variables p q n out m out'
      → AppendsCut table widths variables cut n out m out'
  cut_of_join inner other a b left right ea eb el ew p q ep eq f num there l h =
      let e = is_join table widths variables num cut.row there r read_at inner other in
      let left_is : left ≡ width_of (rows_of table) here.a =
      rw (el, ea, read_at) (width_read table widths variables num cut.row there here.a (left_there table widths variables num cut.row there e)) in
      let right_is : right ≡ width_of (rows_of table) here.b =
      rw (ew, eb, read_at) (width_read table widths variables num cut.row there here.b (right_there table widths variables num cut.row there e)) in
      let d : Divided (rows_of table) cut.row cut.high cut.low p q = rw (ep, eq, left_is, right_is, read_at) (divided table widths variables num cut there e l h) in
      appended_same _ _ _ _ _ _ _ d.sources (f num d.left_within d.right_within)

-- `put_join`
pub both_parts : (table widths variables : List ℕ) (left right : Part) (n : ℕ) (out : List ℕ) (k : ℕ) (middle : List ℕ) (m : ℕ) (out' : List ℕ)
    → AppendsPart table widths variables left n out k middle → AppendsPart table widths variables right k middle m out'
    → AppendsParts table widths variables left right n out m out'
both_parts table widths variables left right n out k middle m out' f g num kl kr = appended_both _ _ _ _ _ _ _ _ _ (f num kl) (g num kr)

-- `put_part`: no bits, the whole row, or a cut of it
pub part_none : (table widths variables : List ℕ) (part : Part) (n : ℕ) (out : List ℕ) → part.width ≡ 0 → AppendsPart table widths variables part n out n out
unfolding part_sources
part_none table widths variables part n out e num k = rw (eq-eqb part.width 0 e) (appended_none (rows_of table) n out)

module _ (table widths variables : List ℕ) (part : Part) (n : ℕ) (out : List ℕ) (m : ℕ) (out' : List ℕ) where
  pub part_whole : (part.width ≡ 0 → ⊥) → part.high - part.low ≡ part.width - 1 → (row : ℕ) → row ≡ part.row
      → AppendsForm table widths variables row n out m out' → AppendsPart table widths variables part n out m out'
  unfolding part_sources
  part_whole some e row er f num k =
      let w = k (omega arith) in
      let f' : AppendsForm table widths variables part.row n out m out' = rw er at f in
      rw (ne_eqb part.width 0 some)
      (appended_same _ _ _ _ _ _ _
      (sym (whole_cut table widths variables num part.row w.there part.high part.low (omega (arith, w.wide, w.in_order, w.inside)) (omega (arith, w.wide, w.in_order, w.inside))))
      (f' num w.there))

  pub part_cut : (part.width ≡ 0 → ⊥) → (k : Cut) → k ≡ record { row = part.row; high = part.high; low = part.low }
      → AppendsCut table widths variables k n out m out' → AppendsPart table widths variables part n out m out'
  unfolding part_sources
  part_cut some k ek f num within =
      let w = within (omega arith) in
      let f' : AppendsCut table widths variables (record { row = part.row; high = part.high; low = part.low }) n out m out' = rw ek at f in
      rw (ne_eqb part.width 0 some) (f' num w.there w.in_order w.inside)
