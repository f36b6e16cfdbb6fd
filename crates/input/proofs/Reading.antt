-- That a text goes on by what a read's answer makes of it; that reading ends, and is whole where no read has failed; and what was read then of
-- an input. Assumes nothing.
use mathlib.Core.Path.{◌≡◌, refl, sym, ◌∙◌, ap}
use mathlib.Core.Logic.{◌⊎◌, inl, inr}
use mathlib.Core.Bool.{Bool, true, false, cond}
use mathlib.Core.List.{List}
use Prim.Native.Nat.{ℕ, zero, suc, ◌-◌, ◌≤◌, ◌<◌}
use native.Mathlib.Omega.{arith}
use lib.Dec.{ltb}
use lib.ListN.{length, take, length-take}
use lib.Seq.{length-take-le}
use borrow.Author.Tests.{ltb-true, ltb-false, lt-ltb, le-ltb}
use Rattle.std.specs.Prelude.{Option, Some, None}
use Rattle.laws.proofs.Bools.{and_parts, and_first}
use Rattle.input.specs.declared.State.{State}
use Rattle.input.specs.declared.State.TheVariants.{Open, Ended, Failed}
use Rattle.input.specs.declared.Input.{Input}
use Rattle.input.specs.Reading.{Moved, text_of, may_come, has_failed, is_open, after_read, InBounds, GoesOn, Whole, ReadFrom}

-- whether there is more to read, by the tests on it
pub room_full : (i : Input) → 16385 ≤ i.len → false ≡ is_open i
room_full i h = rw (le-ltb i.len 16385 h)

pub room_left : (i : Input) (s : State) → i.len < 16385 → i.state ≡ s → may_come s ≡ is_open i
room_left i s h e = rw (lt-ltb i.len 16385 h, e)

-- a text goes on by what a read left behind it
module _ (i : Input) (bytes : List ℕ) (b : InBounds i) (room : length bytes ≡ 16385) (kept : take i.len bytes ≡ text_of i) where
  stays : (s : State) → may_come s ≡ false → GoesOn i (record { bytes = bytes; len = i.len; state = s })
  stays s f = record {
    bounds = record { room = room; within = b.within };
    kept = kept;
    longer = omega arith;
    come = λ e. let z : ◌≡◌ {A = ℕ} 0 1 = cc in absurd (omega arith);
  }

  pub goes-on : (got : Option ℕ) → Moved (16385 - i.len) got → GoesOn i (after_read bytes i.len got)
  goes-on (Some zero) m = stays Ended refl
  goes-on (Some (suc n)) m = record { bounds = record { room = room; within = omega (arith, b.within, m) }; kept = kept; longer = omega arith; come = λ e. omega arith }
  goes-on None m = stays Failed refl

-- how much may still come, and one for the end: less with every read
abbrev pub left : Input → ℕ
left i = cond (may_come i.state) (16386 - i.len) 0

pub left_less : (before after : Input) → is_open before ≡ true → GoesOn before after → left after < left before
left_less before after o g =
    let p = and_parts (ltb before.len 16385) (may_come before.state) o in
    rw p.1 (go (may_come after.state) refl)
  where
    go : (t : Bool) → may_come after.state ≡ t → cond {A = ℕ} t (16386 - after.len) 0 < 16386 - before.len
    go true e = omega (arith, g.come e, g.bounds.within)
    go false e = omega (arith, ltb-true before.len 16385 (and_first (ltb before.len 16385) (may_come before.state) o))

pub all_read : (i : Input) → InBounds i → is_open i ≡ false → has_failed i.state ≡ false → Whole i
all_read i b o f = record { bounds = b; sound = f; all = λ e. go (ltb i.len 16385) refl e }
  where
    go : (t : Bool) → ltb i.len 16385 ≡ t → may_come i.state ≡ true → length (text_of i) ≡ 16385
    go true e m = let z : ◌≡◌ {A = ℕ} 0 1 = cc in absurd (omega arith)
    go false e m = length-take-le i.len i.bytes (omega (arith, b.room, b.within)) ∙ omega (arith, ltb-false i.len 16385 e, b.within)

-- what was read of an input is all of it, or its first 16,385 bytes
pub whole_or_first : (input : List ℕ) (i : Input) → Whole i → ReadFrom input i → (text_of i ≡ input) ⊎ (text_of i ≡ take 16385 input)
whole_or_first input i w r = go i.state refl
  where
    go : (s : State) → i.state ≡ s → (text_of i ≡ input) ⊎ (text_of i ≡ take 16385 input)
    go Open e =
        let full : i.len ≡ 16385 = omega (arith, w.all (ap may_come e), w.bounds.within, length-take i.len i.bytes) in
        inr (r.begins ∙ ap (λ (n : ℕ). take n input) full)
    go Ended e = inl (r.ended e)
    go Failed e = let f : true ≡ false = sym (ap has_failed e) ∙ w.sound in let z : ◌≡◌ {A = ℕ} 0 1 = cc in absurd (omega arith)
