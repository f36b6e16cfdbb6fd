-- How bytes come to stand in a buffer: all of them, or none where there is too little room.
use Rattle.std.specs.Prelude.{Bool, cond, List, ◌++◌, ℕ, ◌+◌, leb, length, take}
use Rattle.laws.specs.Buffers.{overwrite}

-- Whether n bytes fit into a buffer of so many bytes from a place on.
unfoldable pub fits : ℕ → ℕ → ℕ → Bool
fits n room at = leb (at + n) room

-- A buffer whose first `at` bytes are kept, with more bytes written behind them.
unfoldable pub written : List ℕ → ℕ → List ℕ → List ℕ
written out at bytes = overwrite (take at out ++ bytes) out

-- The buffer with bytes written from a place on, if n bytes fit there; else the buffer as it was.
unfoldable pub printed_in : ℕ → List ℕ → ℕ → List ℕ → List ℕ
printed_in n out at bytes = cond (fits n (length out) at) (written out at bytes) out

-- The place behind these bytes, if n bytes fit; else the place itself.
unfoldable pub behind_in : ℕ → ℕ → ℕ → List ℕ → ℕ
behind_in n room at bytes = cond (fits n room at) (at + length bytes) at

-- The same for bytes that need just the room that they take.
abbrev pub printed : List ℕ → ℕ → List ℕ → List ℕ
printed out at bytes = printed_in (length bytes) out at bytes

abbrev pub behind : ℕ → ℕ → List ℕ → ℕ
behind room at bytes = behind_in (length bytes) room at bytes
