-- Lines of four columns. Assumes nothing.
use mathlib.Core.Path.{◌≡◌, ◌∙◌, ap}
use mathlib.Core.List.{List, ◌++◌, append_assoc}
use Prim.Native.Nat.{ℕ, ◌+◌, ◌≤◌}
use native.Mathlib.Omega.{arith}
use lib.ListN.{length, drop, replicate, length-append}
use Rattle.laws.proofs.Buffers.{overwrite-fits}
use Rattle.sheets.specs.inner.Printed.{written}
use Rattle.sheets.proofs.Printed.{Put, PutIn, put_kept, put_there, both_put}
use Rattle.pages.specs.inner.Lines.{four_cells}

-- bytes that were put where there is room
there : (bytes out out' : List ℕ) (at b : ℕ) → at + length bytes ≤ length out → PutIn (length bytes) out at bytes out' b → Put out at bytes out' b
there bytes out out' at b room p = put_there (length bytes) out at bytes out' b room p

-- four columns written to a line, before a byte 10
module _ (c₁ c₂ c₃ c₄ : List ℕ) (l₁ : length c₁ ≡ 10) (l₂ : length c₂ ≡ 10) (l₃ : length c₃ ≡ 10) (l₄ : length c₄ ≡ 10) where
  pub four-put : (out₁ out₂ out₃ out₄ : List ℕ) (b₁ b₂ b₃ b₄ : ℕ)
      → PutIn (length c₁) (replicate 41 10) 0 c₁ out₁ b₁ → PutIn (length c₂) out₁ b₁ c₂ out₂ b₂
      → PutIn (length c₃) out₂ b₂ c₃ out₃ b₃ → PutIn (length c₄) out₃ b₃ c₄ out₄ b₄ → out₄ ≡ four_cells c₁ c₂ c₃ c₄
  unfolding four_cells written
  four-put out₁ out₂ out₃ out₄ b₁ b₂ b₃ b₄ p₁ p₂ p₃ p₄ =
      let base : List ℕ = replicate 41 10 in
      let q₁ : Put base 0 c₁ out₁ b₁ = there c₁ base out₁ 0 b₁ (omega arith) p₁ in
      let k₁ = put_kept base out₁ 0 b₁ c₁ q₁ in
      let q₂ = there c₂ out₁ out₂ b₁ b₂ (omega (arith, q₁.place, k₁)) p₂ in
      let k₂ = put_kept out₁ out₂ b₁ b₂ c₂ q₂ in
      let q₃ = there c₃ out₂ out₃ b₂ b₃ (omega (arith, q₁.place, k₁, q₂.place, k₂)) p₃ in
      let k₃ = put_kept out₂ out₃ b₂ b₃ c₃ q₃ in
      let q₄ = there c₄ out₃ out₄ b₃ b₄ (omega (arith, q₁.place, k₁, q₂.place, k₂, q₃.place, k₃)) p₄ in
      let r₃ = both_put out₂ out₃ out₄ b₂ b₃ b₄ c₃ c₄ (omega (arith, q₁.place, k₁, q₂.place, k₂)) q₃ q₄ in
      let r₂ = both_put out₁ out₂ out₄ b₁ b₂ b₄ c₂ (c₃ ++ c₄) (omega (arith, q₁.place, k₁)) q₂ r₃ in
      let r₁ = both_put base out₁ out₄ 0 b₁ b₄ c₁ (c₂ ++ (c₃ ++ c₄)) (omega arith) q₁ r₂ in
      let all : List ℕ = c₁ ++ (c₂ ++ (c₃ ++ c₄)) in
      let n : length all ≡ 40 =
      omega (arith, length-append c₁ (c₂ ++ (c₃ ++ c₄)), length-append c₂ (c₃ ++ c₄), length-append c₃ c₄) in
      r₁.content
      ∙ overwrite-fits all base (omega arith)
      ∙ ap (λ (m : ℕ). all ++ drop m base) n
      ∙ simp append_assoc
