-- A row's kind and its number.
use Rattle.std.specs.Prelude.{◌≡◌, ℕ, ◌<◌, Option, Some, None}
use Rattle.rules.specs.declared.Kind.{Kind}
use Rattle.rules.specs.declared.Kind.TheVariants.{Variable, Constant, Concat, Extract, Equation, Value}

-- The kind has this number; without a kind the number is above those of the kinds.
abbrev pub HasNumber : Option Kind → ℕ → Type 0
HasNumber (Some Variable) n = n ≡ 0
HasNumber (Some Constant) n = n ≡ 1
HasNumber (Some Concat) n = n ≡ 2
HasNumber (Some Extract) n = n ≡ 3
HasNumber (Some Equation) n = n ≡ 4
HasNumber (Some Value) n = n ≡ 5
HasNumber None n = 5 < n
