-- `copy_home` meets its contract: two numbers read and stored. Assumes nothing.
use Rattle.std.proofs.Common.{◌+◌, ◌*◌, refl}
use Rattle.std.proofs.lemmas.List.{set-get_or}
use Rattle.homes.specs.inner.Homes.{home_copied}
use Rattle.homes.proofs.copy_home.Goals as goal

pub returns : goal.returns
unfolding home_copied
returns c = rw (c.store-2.ensures, c.store.ensures, c.load-home.ensures, c.load-high.ensures, c.from-source.ensures, c.from-target.ensures)

-- a row's own home is there already
pub returns-then-from-to : goal.returns-then-from-to
unfolding home_copied
returns-then-from-to c = rw (c.if-from-to.true, set-get_or c.args.answer.now (c.args.to * 6 + 4) 0, set-get_or c.args.answer.now (c.args.to * 6 + 5) 0) refl
