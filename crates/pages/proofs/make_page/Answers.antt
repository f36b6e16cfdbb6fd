-- `make_page` meets its contract: a page is written over as many bytes. Assumes nothing.
use Prim.Native.Nat.{ℕ}
use lib.ListN.{length-replicate}
use Rattle.pages.proofs.Making.{whole_page}
use Rattle.pages.proofs.make_page.Goals as goal

pub returns : goal.returns
returns c = record { bytes = whole_page _ _ _ _ _ (length-replicate {A = ℕ} 2460 32) c.put_lines.ensures }
