-- (a) The records of an accepted call are counted: each is in one pair or alone. Assumes nothing.
use mathlib.Core.Path.{ap}
use mathlib.Core.List.{List}
use Prim.Native.Nat.{ℕ}
use native.Mathlib.Omega.{arith}
use Rattle.terms.specs.declared.Record.{Record}
use Rattle.recordings.specs.Call.{recordings_record}
use Rattle.recordings.specs.Compared.{frames_by, Accepts, AllCounted}
use Rattle.recordings.proofs.Counted.{together, numbered, pairs_rise}
use Rattle.recordings.proofs.Stops.{parts}

pub all_counted : (table sent received : List ℕ) → Accepts table sent received
    → AllCounted (frames_by table sent) (frames_by table received) (recordings_record table sent received)
all_counted table sent received a =
    let p = parts table sent received a in
    let n = numbered (frames_by table sent) (frames_by table received) p.sent_rises p.received_rises in
    record {
      sent = λ test. (together test (frames_by table sent) (frames_by table received) p.sent_rises p.received_rises).0;
      received = λ test. (together test (frames_by table sent) (frames_by table received) p.sent_rises p.received_rises).1;
      once = pairs_rise (frames_by table sent) (frames_by table received) p.sent_rises p.received_rises;
      both = omega (arith, n.0, n.1, ap (λ (r : Record). r.pieces) p.is, ap (λ (r : Record). r.fresh) p.is);
    }
