-- Whether a call stops: if it does not, its record is that of an accepted call; if it does, its record is the same whatever that one
-- is. Assumes nothing.
use mathlib.Core.Path.{◌≡◌, refl}
use mathlib.Core.Bool.{Bool, true, false, ◌||◌, cond}
use mathlib.Core.List.{List, [], ◌∷◌}
use Rattle.terms.specs.declared.Record.{Record}
use Rattle.terms.specs.Calls.{stop_at, stopped}
use Rattle.laws.proofs.Bools.{not_both, or_first, or_second}

pub goes-on : (stops : List (Bool × Record)) (accepted : Record) → stopped stops ≡ false → stop_at stops accepted ≡ accepted
unfolding stop_at stopped
goes-on [] accepted h = refl
goes-on (s ∷ stops) accepted h = rw (or_first s.0 (stopped stops) h) (goes-on stops accepted (or_second s.0 (stopped stops) h))

pub stops_alike : (stops : List (Bool × Record)) (accepted other : Record) → stopped stops ≡ true → stop_at stops accepted ≡ stop_at stops other
unfolding stop_at stopped
stops_alike [] accepted other h = absurd (not_both h refl)
stops_alike (s ∷ stops) accepted other h = go s.0 h (stops_alike stops accepted other)
  where
    go : (t : Bool) → t || stopped stops ≡ true → (stopped stops ≡ true → stop_at stops accepted ≡ stop_at stops other)
        → cond t s.1 (stop_at stops accepted) ≡ cond t s.1 (stop_at stops other)
    go true h later = refl
    go false h later = later h
