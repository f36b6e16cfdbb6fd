-- What was read of standard input.
use Rattle.std.specs.Prelude.{◌≡◌, ⊤, Bool, true, false, ◌&&◌, List, ℕ, zero, suc, ◌+◌, ◌≤◌, ◌<◌, ltb, length, take, Option, Some, None, Result, Ok, Err}
use Rattle.input.specs.declared.State.{State}
use Rattle.input.specs.declared.State.TheVariants.{Open, Ended, Failed}
use Rattle.input.specs.declared.Input.{Input}

-- The text: as many of the bytes as were read.
abbrev pub text_of : Input → List ℕ
text_of i = take i.len i.bytes

-- A read's answer: how many bytes have come, or none where it failed.
abbrev pub moved : {E : Type 0} → Result ℕ E → Option ℕ
moved (Ok n) = Some n
moved (Err e) = None

-- What a read that has room for n bytes may answer: a failure, or how many bytes have come, at most n.
abbrev pub Moved : ℕ → Option ℕ → Type 0
Moved n (Some k) = k ≤ n
Moved n None = ⊤

-- What a read's answer makes of a text of so many bytes: none is a failure, 0 the input's end, any other how many bytes have come.
abbrev pub after_read : List ℕ → ℕ → Option ℕ → Input
after_read bytes len None = record { bytes = bytes; len = len; state = Failed }
after_read bytes len (Some zero) = record { bytes = bytes; len = len; state = Ended }
after_read bytes len (Some (suc k)) = record { bytes = bytes; len = len + suc k; state = Open }

-- Whether more may come.
abbrev pub may_come : State → Bool
may_come Open = true
may_come Ended = false
may_come Failed = false

-- Whether there is more to read: more may come, and there is room for it.
abbrev pub is_open : Input → Bool
is_open i = ltb i.len 16385 && may_come i.state

-- Whether a read has failed.
abbrev pub has_failed : State → Bool
has_failed Open = false
has_failed Ended = false
has_failed Failed = true

-- The bytes that were read are among the 16,385 that there is room for.
pub record InBounds (i : Input) : Type 0 where
  pub room : length i.bytes ≡ 16385
  pub within : i.len ≤ 16385

-- A text that goes on: what was read stays, and what has come stands behind it; where more may come, something has.
pub record GoesOn (before after : Input) : Type 0 where
  pub bounds : InBounds after
  pub kept : take before.len after.bytes ≡ text_of before
  pub longer : before.len ≤ after.len
  pub come : may_come after.state ≡ true → before.len < after.len

-- All is read that is to be read: the input has ended behind the text, or it has 16,385 bytes, one more than a sheet may have.
pub record Whole (i : Input) : Type 0 where
  pub bounds : InBounds i
  pub sound : has_failed i.state ≡ false
  pub all : may_come i.state ≡ true → length (text_of i) ≡ 16385

-- That it was read from an input: the text is the input's beginning, and all of it where the input has ended. No contract of the kit says
-- this of a read.
pub record ReadFrom (input : List ℕ) (i : Input) : Type 0 where
  pub begins : text_of i ≡ take i.len input
  pub ended : i.state ≡ Ended → text_of i ≡ input
