-- What was read of a text stands there as it is written, and then what is left of the text: a field, a line, the names. Assumes nothing.
use mathlib.Core.Path.{◌≡◌, refl, sym, ◌∙◌, ap}
use mathlib.Core.Bool.{Bool, true, false, ◌&&◌, cond}
use mathlib.Core.List.{List, [], ◌∷◌, ◌++◌, append_assoc}
use Prim.Native.Nat.{ℕ, suc, ◌+◌, ◌<◌, ◌≤◌}
use native.Mathlib.Omega.{arith}
use native.Mathlib.Numerals.{add-one}
use lib.ListN.{drop}
use lib.Seq.{drop-cons}
use Rattle.terms.specs.declared.Row.{Row}
use Rattle.laws.proofs.Bools.{and_first, and_second}
use Rattle.sheets.specs.declared.Order.{Order}
use Rattle.sheets.specs.Text.{NumberFound, Value, NoNumber, NameFound, Column, NoName, NamesFound, InOrder, NoNames, LineFound, Values, number_at, sees, ended_by, field_at, row_of_values, with_number, line_at, sees_kind, column_at, named_by, name_at, with_name, all_different, names_at}
use Rattle.sheets.specs.Writing.{spelled, Spelling, name_bytes, name, value_in, names_line, line_in, IsOrder, SmallRow}
use Rattle.sheets.proofs.Fields.{seen_within, seen_byte}
use Rattle.sheets.proofs.Spelled.{number_written}
use Rattle.sheets.proofs.Orders.{first_placed, second_placed, third_placed, fourth_placed, placed_small}
use Rattle.sheets.proofs.Writing.{behind}

module _ (text : List ℕ) where
  seen : (at byte : ℕ) → sees text at byte ≡ true → drop at text ≡ byte ∷ drop (at + 1) text
  seen at byte h =
      drop-cons text at 0 (seen_within text at byte h)
      ∙ ap (λ (b : ℕ). b ∷ drop (suc at) text) (seen_byte text at byte h)
      ∙ ap (λ (i : ℕ). byte ∷ drop i text) (sym (add-one at))

  -- a value with the byte behind it
  record ValueThere (at byte v to : ℕ) : Type 0 where
    small : v ≤ 65535
    spelling : ℕ
    there : drop at text ≡ value_in spelling v byte ++ drop to text

  value_there : (at byte v to : ℕ) → field_at text at byte ≡ Value v to → ValueThere at byte v to
  unfolding field_at value_in
  value_there at byte v to e = go (number_at text at) refl e
    where
      go₂ : (v' to' : ℕ) (t : Bool) → number_at text at ≡ Value v' to' → sees text to' byte ≡ t
          → cond t (Value v' (to' + 1)) NoNumber ≡ Value v to → ValueThere at byte v to
      go₂ v' to' true n s e =
          let same : v' ≡ v = cc in
          let w = number_written at (drop at text) v' to' n in
          let i : to' + 1 ≡ to = cc in
          let x = spelled w.spelling v' in
          let d : drop to' text ≡ w.rest = ap (λ (k : ℕ). drop k text) w.behind ∙ behind text at x w.rest w.split in
          let b : drop to' text ≡ byte ∷ drop to text = seen to' byte s ∙ ap (λ (k : ℕ). byte ∷ drop k text) i in
          record {
            small = omega (arith, w.small);
            spelling = w.spelling;
            there =
                w.split ∙ ap (λ (r : List ℕ). x ++ r) (sym d ∙ b) ∙ ap (λ (n : ℕ). spelled w.spelling n ++ (byte ∷ drop to text)) same
                ∙ sym (append_assoc (spelled w.spelling v) (byte ∷ []) (drop to text));
          }
      go₂ v' to' false n s e = let z : ◌≡◌ {A = ℕ} 0 1 = cc in absurd (omega arith)

      go : (x : NumberFound) → number_at text at ≡ x → ended_by text byte x ≡ Value v to → ValueThere at byte v to
      go (Value v' to') n e = go₂ v' to' (sees text to' byte) n refl e
      go NoNumber n e = let z : ◌≡◌ {A = ℕ} 0 1 = cc in absurd (omega arith)

  -- a line of values
  record Taken (x : NumberFound) (next : ℕ → ℕ → LineFound) (row : Row) (to : ℕ) : Type 0 where
    v : ℕ
    k : ℕ
    is : x ≡ Value v k
    goes : next v k ≡ Values row to

  taken : (x : NumberFound) (next : ℕ → ℕ → LineFound) (row : Row) (to : ℕ) → with_number x next ≡ Values row to → Taken x next row to
  taken (Value v k) next row to e = record { v = v; k = k; is = refl; goes = e }
  taken NoNumber next row to e = let z : ◌≡◌ {A = ℕ} 0 1 = cc in absurd (omega arith)

  abbrev after₃ : Order → ℕ → ℕ → ℕ → ℕ → ℕ → LineFound
  after₃ order v₁ v₂ v₃ v₄ at₄ = Values (row_of_values order v₁ v₂ v₃ v₄) at₄

  abbrev after₂ : Order → ℕ → ℕ → ℕ → ℕ → LineFound
  after₂ order v₁ v₂ v₃ at₃ = with_number (field_at text at₃ 10) (after₃ order v₁ v₂ v₃)

  abbrev after₁ : Order → ℕ → ℕ → ℕ → LineFound
  after₁ order v₁ v₂ at₂ = with_number (field_at text at₂ 32) (after₂ order v₁ v₂)

  abbrev after₀ : Order → ℕ → ℕ → LineFound
  after₀ order v₁ at₁ = with_number (field_at text at₁ 32) (after₁ order v₁)

  pub record LineThere (order : Order) (at : ℕ) (row : Row) (to : ℕ) : Type 0 where
    pub small : SmallRow row
    pub spelling : Spelling
    pub there : drop at text ≡ line_in order spelling row ++ drop to text

  -- the row that four values are stands there
  module _ (order : Order) (is : IsOrder order) (at v₁ v₂ v₃ v₄ k₁ k₂ k₃ k₄ : ℕ)
      (f₁ : ValueThere at 32 v₁ k₁) (f₂ : ValueThere k₁ 32 v₂ k₂) (f₃ : ValueThere k₂ 32 v₃ k₃) (f₄ : ValueThere k₃ 10 v₄ k₄) where
    abbrev spellings : Spelling
    spellings = record { first = f₁.spelling; second = f₂.spelling; third = f₃.spelling; fourth = f₄.spelling }

    row_there : drop at text ≡ line_in order spellings (row_of_values order v₁ v₂ v₃ v₄) ++ drop k₄ text
    unfolding line_in
    row_there =
        let x₁ = value_in f₁.spelling v₁ 32 in
        let x₂ = value_in f₂.spelling v₂ 32 in
        let x₃ = value_in f₃.spelling v₃ 32 in
        f₁.there ∙ ap (λ (r : List ℕ). x₁ ++ r) (f₂.there ∙ ap (λ (r : List ℕ). x₂ ++ r) (f₃.there ∙ ap (λ (r : List ℕ). x₃ ++ r) f₄.there))
        ∙ rw (first_placed order is v₁ v₂ v₃ v₄, second_placed order is v₁ v₂ v₃ v₄, third_placed order is v₁ v₂ v₃ v₄, fourth_placed order is v₁ v₂ v₃ v₄)
        (simp append_assoc)

    line_made : (row : Row) (to : ℕ) → Values (row_of_values order v₁ v₂ v₃ v₄) k₄ ≡ Values row to → LineThere order at row to
    line_made row to e =
        let same : row_of_values order v₁ v₂ v₃ v₄ ≡ row = cc in
        let i : k₄ ≡ to = cc in
        record {
          small = rw same at (placed_small order v₁ v₂ v₃ v₄ f₁.small f₂.small f₃.small f₄.small);
          spelling = spellings;
          there =
              row_there
              ∙ ap (λ (r : Row). line_in order spellings r ++ drop k₄ text) same ∙ ap (λ (j : ℕ). line_in order spellings row ++ drop j text) i;
        }

  pub line_there : (order : Order) → IsOrder order → (at : ℕ) (row : Row) (to : ℕ) → line_at text order at ≡ Values row to → LineThere order at row to
  unfolding line_at
  line_there order is at row to e =
      let t₁ = taken (field_at text at 32) (after₀ order) row to e in
      let t₂ = taken (field_at text t₁.k 32) (after₁ order t₁.v) row to t₁.goes in
      let t₃ = taken (field_at text t₂.k 32) (after₂ order t₁.v t₂.v) row to t₂.goes in
      let t₄ = taken (field_at text t₃.k 10) (after₃ order t₁.v t₂.v t₃.v) row to t₃.goes in
      line_made order is at t₁.v t₂.v t₃.v t₄.v t₁.k t₂.k t₃.k t₄.k
      (value_there at 32 t₁.v t₁.k t₁.is)
      (value_there t₁.k 32 t₂.v t₂.k t₂.is)
      (value_there t₂.k 32 t₃.v t₃.k t₃.is)
      (value_there t₃.k 10 t₄.v t₄.k t₄.is)
      row to t₄.goes

  -- a name, and with the byte behind it
  record ColumnThere (at n to : ℕ) : Type 0 where
    column : n < 4
    there : drop at text ≡ name_bytes n ++ drop to text

  column_made : (at m i n to : ℕ) → m < 4 → drop at text ≡ name_bytes m ++ drop i text → Column m i ≡ Column n to → ColumnThere at n to
  column_made at m i n to h d e =
      let same : m ≡ n = cc in
      let j : i ≡ to = cc in
      record { column = omega arith; there = d ∙ ap (λ (x : ℕ). name_bytes x ++ drop i text) same ∙ ap (λ (x : ℕ). name_bytes n ++ drop x text) j }

  kind_seen : (at : ℕ) → sees_kind text at ≡ true → drop at text ≡ name_bytes 0 ++ drop (at + 4) text
  unfolding sees_kind name_bytes
  kind_seen at h =
      let s₀ = sees text at 107 in
      let s₁ = sees text (at + 1) 105 in
      let s₂ = sees text (at + 2) 110 in
      let s₃ = sees text (at + 3) 100 in
      let h₁ : s₁ && (s₂ && s₃) ≡ true = and_second s₀ (s₁ && (s₂ && s₃)) h in
      let h₂ : s₂ && s₃ ≡ true = and_second s₁ (s₂ && s₃) h₁ in
      let next : (i j : ℕ) → i + 1 ≡ j → (x : ℕ) → sees text i x ≡ true → drop i text ≡ x ∷ drop j text =
      λ i j e x s. seen i x s ∙ ap (λ (y : ℕ). x ∷ drop y text) e in
      let e₀ : drop at text ≡ 107 ∷ drop (at + 1) text = next at (at + 1) refl 107 (and_first s₀ (s₁ && (s₂ && s₃)) h) in
      let e₁ : drop (at + 1) text ≡ 105 ∷ drop (at + 2) text = next (at + 1) (at + 2) (omega arith) 105 (and_first s₁ (s₂ && s₃) h₁) in
      let e₂ : drop (at + 2) text ≡ 110 ∷ drop (at + 3) text = next (at + 2) (at + 3) (omega arith) 110 (and_first s₂ s₃ h₂) in
      let e₃ : drop (at + 3) text ≡ 100 ∷ drop (at + 4) text = next (at + 3) (at + 4) (omega arith) 100 (and_second s₂ s₃ h₂) in
      cc

  column_there : (at n to : ℕ) → column_at text at ≡ Column n to → ColumnThere at n to
  unfolding column_at name_bytes
  column_there at n to e = go (sees text at 97) (sees text at 98) (sees text at 99) (sees_kind text at) refl refl refl refl e
    where
      go : (t₁ t₂ t₃ t₀ : Bool) → sees text at 97 ≡ t₁ → sees text at 98 ≡ t₂ → sees text at 99 ≡ t₃ → sees_kind text at ≡ t₀
          → cond t₁ (Column 1 (at + 1)) (cond t₂ (Column 2 (at + 1)) (cond t₃ (Column 3 (at + 1)) (cond t₀ (Column 0 (at + 4)) NoName)))
          ≡ Column n to
          → ColumnThere at n to
      go true t₂ t₃ t₀ s₁ s₂ s₃ s₀ e = column_made at 1 (at + 1) n to (omega arith) (seen at 97 s₁) e
      go false true t₃ t₀ s₁ s₂ s₃ s₀ e = column_made at 2 (at + 1) n to (omega arith) (seen at 98 s₂) e
      go false false true t₀ s₁ s₂ s₃ s₀ e = column_made at 3 (at + 1) n to (omega arith) (seen at 99 s₃) e
      go false false false true s₁ s₂ s₃ s₀ e = column_made at 0 (at + 4) n to (omega arith) (kind_seen at s₀) e
      go false false false false s₁ s₂ s₃ s₀ e = let z : ◌≡◌ {A = ℕ} 0 1 = cc in absurd (omega arith)

  record NameThere (at byte n to : ℕ) : Type 0 where
    column : n < 4
    there : drop at text ≡ name n byte ++ drop to text

  name_there : (at byte n to : ℕ) → name_at text at byte ≡ Column n to → NameThere at byte n to
  unfolding name_at name
  name_there at byte n to e = go (column_at text at) refl e
    where
      go₂ : (n' to' : ℕ) (t : Bool) → column_at text at ≡ Column n' to' → sees text to' byte ≡ t
          → cond t (Column n' (to' + 1)) NoName ≡ Column n to → NameThere at byte n to
      go₂ n' to' true x s e =
          let same : n' ≡ n = cc in
          let w = column_there at n' to' x in
          let i : to' + 1 ≡ to = cc in
          let b : drop to' text ≡ byte ∷ drop to text = seen to' byte s ∙ ap (λ (k : ℕ). byte ∷ drop k text) i in
          record {
            column = omega (arith, w.column);
            there =
                w.there ∙ ap (λ (r : List ℕ). name_bytes n' ++ r) b ∙ ap (λ (x : ℕ). name_bytes x ++ (byte ∷ drop to text)) same
                ∙ sym (append_assoc (name_bytes n) (byte ∷ []) (drop to text));
          }
      go₂ n' to' false x s e = let z : ◌≡◌ {A = ℕ} 0 1 = cc in absurd (omega arith)

      go : (x : NameFound) → column_at text at ≡ x → named_by text byte x ≡ Column n to → NameThere at byte n to
      go (Column n' to') x e = go₂ n' to' (sees text to' byte) x refl e
      go NoName x e = let z : ◌≡◌ {A = ℕ} 0 1 = cc in absurd (omega arith)

  -- the line of names
  record Named (x : NameFound) (next : ℕ → ℕ → NamesFound) (order : Order) (to : ℕ) : Type 0 where
    n : ℕ
    k : ℕ
    is : x ≡ Column n k
    goes : next n k ≡ InOrder order to

  named : (x : NameFound) (next : ℕ → ℕ → NamesFound) (order : Order) (to : ℕ) → with_name x next ≡ InOrder order to → Named x next order to
  named (Column n k) next order to e = record { n = n; k = k; is = refl; goes = e }
  named NoName next order to e = let z : ◌≡◌ {A = ℕ} 0 1 = cc in absurd (omega arith)

  abbrev columns : ℕ → ℕ → ℕ → ℕ → Order
  columns n₁ n₂ n₃ n₄ = record { first = n₁; second = n₂; third = n₃; fourth = n₄ }

  abbrev behind₃ : ℕ → ℕ → ℕ → ℕ → ℕ → NamesFound
  behind₃ n₁ n₂ n₃ n₄ at₄ = cond (all_different n₁ n₂ n₃ n₄) (InOrder (columns n₁ n₂ n₃ n₄) at₄) NoNames

  abbrev behind₂ : ℕ → ℕ → ℕ → ℕ → NamesFound
  behind₂ n₁ n₂ n₃ at₃ = with_name (name_at text at₃ 10) (behind₃ n₁ n₂ n₃)

  abbrev behind₁ : ℕ → ℕ → ℕ → NamesFound
  behind₁ n₁ n₂ at₂ = with_name (name_at text at₂ 32) (behind₂ n₁ n₂)

  abbrev behind₀ : ℕ → ℕ → NamesFound
  behind₀ n₁ at₁ = with_name (name_at text at₁ 32) (behind₁ n₁)

  pub record NamesThere (at : ℕ) (order : Order) (to : ℕ) : Type 0 where
    pub order_is : IsOrder order
    pub there : drop at text ≡ names_line order ++ drop to text

  names_made : (at n₁ n₂ n₃ n₄ k₁ k₂ k₃ k₄ : ℕ) (order : Order) (to : ℕ)
      → NameThere at 32 n₁ k₁ → NameThere k₁ 32 n₂ k₂ → NameThere k₂ 32 n₃ k₃ → NameThere k₃ 10 n₄ k₄
      → behind₃ n₁ n₂ n₃ n₄ k₄ ≡ InOrder order to → NamesThere at order to
  unfolding names_line
  names_made at n₁ n₂ n₃ n₄ k₁ k₂ k₃ k₄ order to f₁ f₂ f₃ f₄ e = go (all_different n₁ n₂ n₃ n₄) refl e
    where
      go : (t : Bool) → all_different n₁ n₂ n₃ n₄ ≡ t → cond t (InOrder (columns n₁ n₂ n₃ n₄) k₄) NoNames ≡ InOrder order to → NamesThere at order to
      go true d e =
          let same : columns n₁ n₂ n₃ n₄ ≡ order = cc in
          let i : k₄ ≡ to = cc in
          let o : IsOrder (columns n₁ n₂ n₃ n₄) =
          record { first_is = f₁.column; second_is = f₂.column; third_is = f₃.column; fourth_is = f₄.column; different = d } in
          let w : drop at text ≡ names_line (columns n₁ n₂ n₃ n₄) ++ drop k₄ text =
          f₁.there
          ∙ ap (λ (r : List ℕ). name n₁ 32 ++ r) (f₂.there ∙ ap (λ (r : List ℕ). name n₂ 32 ++ r) (f₃.there ∙ ap (λ (r : List ℕ). name n₃ 32 ++ r) f₄.there))
          ∙ simp append_assoc in
          record {
            order_is = rw same at o;
            there = w ∙ ap (λ (r : Order). names_line r ++ drop k₄ text) same ∙ ap (λ (j : ℕ). names_line order ++ drop j text) i;
          }
      go false d e = let z : ◌≡◌ {A = ℕ} 0 1 = cc in absurd (omega arith)

  pub names_there : (at : ℕ) (order : Order) (to : ℕ) → names_at text at ≡ InOrder order to → NamesThere at order to
  unfolding names_at
  names_there at order to e =
      let t₁ = named (name_at text at 32) behind₀ order to e in
      let t₂ = named (name_at text t₁.k 32) (behind₁ t₁.n) order to t₁.goes in
      let t₃ = named (name_at text t₂.k 32) (behind₂ t₁.n t₂.n) order to t₂.goes in
      let t₄ = named (name_at text t₃.k 10) (behind₃ t₁.n t₂.n t₃.n) order to t₃.goes in
      names_made at t₁.n t₂.n t₃.n t₄.n t₁.k t₂.k t₃.k t₄.k order to
      (name_there at 32 t₁.n t₁.k t₁.is)
      (name_there t₁.k 32 t₂.n t₂.k t₂.is)
      (name_there t₂.k 32 t₃.n t₃.k t₃.is)
      (name_there t₃.k 10 t₄.n t₄.k t₄.is)
      t₄.goes
