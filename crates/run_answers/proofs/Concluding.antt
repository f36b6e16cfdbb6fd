-- What is made of equations taken in whole runs is what crate solver makes of them: swept links are representatives, in runs still.
use mathlib.Core.Path.{◌≡◌, refl, sym, subst}
use mathlib.Core.List.{List}
use Prim.Native.Nat.{ℕ, ◌+◌, ◌≤◌, ◌<◌}
use native.Mathlib.Omega.{arith}
use lib.ListN.{length}
use Rattle.terms.specs.declared.Row.{Row}
use Rattle.terms.specs.Table.{rows_of, bits_of}
use Rattle.terms.specs.Faults.{Accepted, first_fault}
use Rattle.terms.proofs.AcceptedTable.{table_bits}
use Rattle.answers.proofs.Tables.{conflict_most}
use Rattle.classes.proofs.Links.{Canon}
use Rattle.classes.proofs.Roots.{stands_roots}
use Rattle.linking.specs.inner.Classes.{ClassesTaken}
use Rattle.linking.proofs.Settling.{settle_never, settle_none, settle_swept}
use Rattle.solver.specs.inner.Call.{TakenOf}
use Rattle.runs.specs.inner.Runs.{Runs, Seated}
use Rattle.run_pairs.specs.inner.Taken.{State}
use Rattle.run_sweep.specs.inner.Settled.{Settled, SettlesRuns}
use Rattle.run_rows.specs.inner.Lined.{SettledRows}
use Rattle.run_classes.specs.inner.Classes.{shut_at, TakenInRuns}

module _ (table links last first : List ℕ) (row ties : ℕ) (accepted : first_fault table ≡ Accepted) (T : TakenInRuns (rows_of table) links last first row ties) where
  abbrev t : List Row
  t = rows_of table

  of_table : (h : List ℕ) → ClassesTaken t h row ties → TakenOf table table h row ties
  of_table h E = record { accepted = accepted; variables = refl; as_many = refl; taken = E }

  -- a conflict was met
  pub taken_never : row < length (rows_of table) → TakenOf table table links row ties
  taken_never l = of_table links (settle_never table accepted links row ties T.taken l)

  module _ (l : length (rows_of table) ≤ row) where
    -- no ties
    pub taken_none : ties ≡ 0 → TakenOf table table links row ties
    taken_none z = of_table links (settle_none table accepted links row ties T.taken l z)

    state : State (shut_at t) links last first
    state = T.state (omega (arith, T.taken.row_is, conflict_most table accepted))

    -- swept
    module _ (links' last' first' : List ℕ) (sweep : SettlesRuns links last first links' last' first') where
      S : Settled (shut_at t) links links' last' first'
      S = sweep (shut_at t) state

      pub taken_swept : TakenOf table table links' row ties
      taken_swept = of_table links' (settle_swept table accepted links row ties T.taken l links' (λ low. S.roots))

      canon : Canon links'
      canon = subst Canon (sym S.roots) (stands_roots links state.low).canon

      sources : length links ≡ bits_of t + 2
      sources = omega (arith, (T.taken.held (omega (arith, T.taken.row_is, conflict_most table accepted))).sources)

      pub settled_rows : SettledRows table links' last' first'
      settled_rows =
          record {
            few = table_bits table accepted;
            low = canon.low;
            root = canon.root;
            runs = subst (λ (n : ℕ). Runs (shut_at t) n links' last' first') sources S.runs;
            seated = subst (λ (n : ℕ). Seated (shut_at t) n links' last') sources S.seated;
          }
