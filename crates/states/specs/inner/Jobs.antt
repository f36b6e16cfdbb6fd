-- What the inner functions promise of a job, once the table is accepted and has no line number.
use Rattle.std.specs.Prelude.{◌≡◌, false, ◌&&◌, cond, Option, Some, None, List, ℕ, suc, ◌≤◌, eqb, leb, length}
use Rattle.terms.specs.declared.Row.{Row}
use Rattle.terms.specs.Table.{rows_of, bits_of}
use Rattle.terms.specs.inner.Placed.{Placed}
use Rattle.answers.specs.Solve.{unsatisfiable, unsat_row}
use Rattle.copies.specs.inner.Copies.{Copied}
use Rattle.jobs.specs.Prefix.{equation_from}
use Rattle.jobs.specs.State.{never_row, reachable}
use Rattle.jobs.specs.Call.{breaks43}
use Rattle.states.specs.inner.Prefixes.{PrefixTaken}

-- The row before which the equations of a job with this next row were taken: after a never the row at which no pattern is left, else the
-- next row, if it is an equation's or the number of rows.
unfoldable pub claimed : List Row → ℕ → Option ℕ
claimed t next =
    cond (eqb next never_row)
    (cond (unsatisfiable t) (Some (unsat_row t)) None)
    (cond (leb next (length t) && eqb (equation_from t next) next) (Some next) None)

-- A table that was placed and copied, without line numbers, with room for the forms of two sides and a link for each source.
pub record Ready (table short widths places : List ℕ) (leftRoom rightRoom : ℕ) (links : List ℕ) : Type 0 where
  pub placed : Placed table widths places
  pub copied : Copied table short
  pub no_lines : breaks43 (rows_of table) ≡ false
  pub left_room : 4096 ≤ leftRoom
  pub right_room : 4096 ≤ rightRoom
  pub sources : length links ≡ suc (suc (bits_of (rows_of table)))

abbrev pub Claims : List ℕ → List ℕ → List ℕ → List ℕ → ℕ → ℕ → ℕ → List ℕ → Option ℕ → Type 0
Claims table short widths places next leftRoom rightRoom links row =
    Ready table short widths places leftRoom rightRoom links → row ≡ claimed (rows_of table) next

-- A job and a work area that are a state: the row before which its equations were taken, and links with the classes of these. Of others no
-- row.
pub record StateRead (t : List Row) (next ties : ℕ) (work links : List ℕ) (row : Option ℕ) : Type 0 where
  pub row_is : row ≡ cond (reachable t next ties work) (claimed t next) None
  pub taken : (r : ℕ) → row ≡ Some r → PrefixTaken t r links r ties

abbrev pub ReadsState : List ℕ → List ℕ → List ℕ → List ℕ → ℕ → ℕ → List ℕ → ℕ → ℕ → List ℕ → List ℕ → Option ℕ → Type 0
ReadsState table short widths places next ties work leftRoom rightRoom links links' row =
    Ready table short widths places leftRoom rightRoom links → 16384 ≤ length work → StateRead (rows_of table) next ties work links' row
