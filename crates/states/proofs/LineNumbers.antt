-- Whether a row is an equation with a line number. Assumes nothing.
use mathlib.Core.Path.{◌≡◌, refl}
use mathlib.Core.Bool.{false}
use mathlib.Core.Logic.{◌≢◌}
use lib.Dec.{ltb}
use borrow.Author.Tests.{eq-eqb, ne_eqb}
use Rattle.terms.specs.declared.Row.{Row}
use Rattle.jobs.specs.Call.{has_line}

pub no_equation : (r : Row) → r.kind ≢ 4 → false ≡ has_line r
unfolding has_line
no_equation r n = rw (ne_eqb r.kind 4 n) refl

pub equation_line : (r : Row) → r.kind ≡ 4 → ltb 0 r.c ≡ has_line r
unfolding has_line
equation_line r e = rw (eq-eqb r.kind 4 e) refl
