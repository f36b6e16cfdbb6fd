-- The contract of each exported call that returns a record says what calls says of it, and nothing else: it requires nothing, and ensures the
-- record and what is lent afterwards. Each is one line, by computation. Assumes nothing.
use mathlib.Core.Path.{◌≡◌, refl}
use mathlib.Core.List.{List, []}
use Prim.Native.Nat.{ℕ}
use lib.ListN.{get_or}
use seplogic.Ra.Ura.{Ura}
use base.Logic.{SProp}
use prog.Memory.{Memory}
use prog.Routine.{Routine}
use types.Logic.{Logic}
use contract.Lifetimes.{Lfts}
use contract.Monad.{Fun}
use contract.Notation.{connectives}
use denote.Triple.Entry.{Args, Res}
use denote.Triple.Clauses.{Ended, AtExit, ClausesAt}
use Rattle.terms.specs.declared.Record.{Record}
use Rattle.jobs.specs.declared.Job.{Job}
use Rattle.calls.specs.Calls.{Call, lw-value, lw-normal-form, lw-read-sheet, lw-solve, lw-solve-pieces, lw-make-pattern, lw-marker-positions, lw-compare-recordings, lw-compare-tables, lw-value-rows, lw-normal-form-rows, lw-solve-rows, lw-job-open, lw-job-step, lw-job-preview, lw-job-answer, record_of, left_by}
use Rattle.linkwords.specs.contracts.lw_value as value
use Rattle.linkwords.specs.contracts.lw_normal_form as normal-form
use Rattle.linkwords.specs.contracts.lw_read_sheet as read-sheet
use Rattle.linkwords.specs.contracts.lw_solve as solve
use Rattle.linkwords.specs.contracts.lw_solve_pieces as solve-pieces
use Rattle.linkwords.specs.contracts.lw_make_pattern as make-pattern
use Rattle.linkwords.specs.contracts.lw_marker_positions as marker-positions
use Rattle.linkwords.specs.contracts.lw_compare_recordings as compare-recordings
use Rattle.linkwords.specs.contracts.lw_compare_tables as compare-tables
use Rattle.linkwords.specs.contracts.lw_value_rows as value-rows
use Rattle.linkwords.specs.contracts.lw_normal_form_rows as normal-form-rows
use Rattle.linkwords.specs.contracts.lw_solve_rows as solve-rows
use Rattle.linkwords.specs.contracts.lw_job_open as job_open
use Rattle.linkwords.specs.contracts.lw_job_step as job_step
use Rattle.linkwords.specs.contracts.lw_job_preview as job-preview
use Rattle.linkwords.specs.contracts.lw_job_answer as job_answer

module _ {M : Type 1} {𝓤 : Ura M} (𝓛 : Logic 𝓤) (mem : Memory → SProp 𝓤) (run : Routine → Fun 𝓤) where
  open connectives 𝓤 use {⌜◌⌝, ◌∗◌, ⊤ₛ}

  -- a contract that requires nothing
  abbrev Ensures : (T : Ended) (κs : Lfts T.signature.lifetimes) → (Res T.signature κs → AtExit T κs → SProp 𝓤) → ClausesAt 𝓤 T κs
  Ensures T κs says = record { ghost = Unit; requires = λ g. ⊤ₛ; ensures = λ g r e. says r e }

  -- the record of a call, and the one buffer that is lent to it, afterwards; the same with two
  abbrev One : Call → Record → List ℕ → SProp 𝓤
  One c r x = ⌜ r ≡ record_of c ⌝ ∗ ⌜ x ≡ get_or (left_by c) 0 [] ⌝

  abbrev Two : Call → Record → List ℕ → List ℕ → SProp 𝓤
  Two c r x y = ⌜ r ≡ record_of c ⌝ ∗ ⌜ x ≡ get_or (left_by c) 0 [] ⌝ ∗ ⌜ y ≡ get_or (left_by c) 1 [] ⌝

  -- the same with a job, of which each number is told, and a buffer
  abbrev Kept : Call → Record → Job → List ℕ → SProp 𝓤
  Kept c r j x = ⌜ r ≡ record_of c ⌝ ∗ ⌜ j.next ≡ get_or (get_or (left_by c) 0 []) 0 0 ⌝ ∗ ⌜ j.ties ≡ get_or (get_or (left_by c) 0 []) 1 0 ⌝ ∗ ⌜ x ≡ get_or (left_by c) 1 [] ⌝

  pub value_says : (κs : Lfts 3) (a : Args value.signature κs)
      → value.clauses 𝓛 mem run κs a ≡ Ensures value.ended κs (λ r e. One (lw-value a.0.now a.1.0 a.1.1.0.now a.1.1.1.0.now) r e.1.1.1.0.now)
  value_says κs a = refl

  pub normal_form_says : (κs : Lfts 2) (a : Args normal-form.signature κs)
      → normal-form.clauses 𝓛 mem run κs a ≡ Ensures normal-form.ended κs (λ r e. One (lw-normal-form a.0.now a.1.0 a.1.1.0.now) r e.1.1.0.now)
  normal_form_says κs a = refl

  pub read_sheet_says : (κs : Lfts 2) (a : Args read-sheet.signature κs)
      → read-sheet.clauses 𝓛 mem run κs a ≡ Ensures read-sheet.ended κs (λ r e. One (lw-read-sheet a.0.now a.1.0.now) r e.1.0.now)
  read_sheet_says κs a = refl

  pub solve_says : (κs : Lfts 3) (a : Args solve.signature κs)
      → solve.clauses 𝓛 mem run κs a ≡ Ensures solve.ended κs (λ r e. Two (lw-solve a.0.now a.1.0.now a.1.1.0.now) r e.1.0.now e.1.1.0.now)
  solve_says κs a = refl

  pub solve_pieces_says : (κs : Lfts 3) (a : Args solve-pieces.signature κs)
      → solve-pieces.clauses 𝓛 mem run κs a ≡ Ensures solve-pieces.ended κs (λ r e. Two (lw-solve-pieces a.0.now a.1.0.now a.1.1.0.now) r e.1.0.now e.1.1.0.now)
  solve_pieces_says κs a = refl

  pub make_pattern_says : (κs : Lfts 5) (a : Args make-pattern.signature κs)
      → make-pattern.clauses 𝓛 mem run κs a ≡ Ensures make-pattern.ended κs (λ r e. Two (lw-make-pattern a.0.now a.1.0.now a.1.1.0.now a.1.1.1.0.now a.1.1.1.1.0.now) r e.1.1.1.0.now e.1.1.1.1.0.now)
  make_pattern_says κs a = refl

  pub marker_positions_says : (κs : Lfts 3) (a : Args marker-positions.signature κs)
      → marker-positions.clauses 𝓛 mem run κs a ≡ Ensures marker-positions.ended κs (λ r e. One (lw-marker-positions a.0.now a.1.0.now a.1.1.0.now) r e.1.1.0.now)
  marker_positions_says κs a = refl

  pub compare_recordings_says : (κs : Lfts 3) (a : Args compare-recordings.signature κs)
      → compare-recordings.clauses 𝓛 mem run κs a ≡ Ensures compare-recordings.ended κs (λ r e. ⌜ r ≡ record_of (lw-compare-recordings a.0.now a.1.0.now a.1.1.0.now) ⌝)
  compare_recordings_says κs a = refl

  pub compare_tables_says : (κs : Lfts 3) (a : Args compare-tables.signature κs)
      → compare-tables.clauses 𝓛 mem run κs a ≡ Ensures compare-tables.ended κs (λ r e. One (lw-compare-tables a.0.now a.1.0.now a.1.1.0.now) r e.1.1.0.now)
  compare_tables_says κs a = refl

  pub value_rows_says : (κs : Lfts 3) (a : Args value-rows.signature κs)
      → value-rows.clauses 𝓛 mem run κs a ≡ Ensures value-rows.ended κs (λ r e. One (lw-value-rows a.0.now a.1.0 a.1.1.0.now a.1.1.1.0.now) r e.1.1.1.0.now)
  value_rows_says κs a = refl

  pub normal_form_rows_says : (κs : Lfts 2) (a : Args normal-form-rows.signature κs)
      → normal-form-rows.clauses 𝓛 mem run κs a ≡ Ensures normal-form-rows.ended κs (λ r e. One (lw-normal-form-rows a.0.now a.1.0 a.1.1.0.now) r e.1.1.0.now)
  normal_form_rows_says κs a = refl

  pub solve_rows_says : (κs : Lfts 3) (a : Args solve-rows.signature κs)
      → solve-rows.clauses 𝓛 mem run κs a ≡ Ensures solve-rows.ended κs (λ r e. Two (lw-solve-rows a.0.now a.1.0.now a.1.1.0.now) r e.1.0.now e.1.1.0.now)
  solve_rows_says κs a = refl

  pub job_open_says : (κs : Lfts 3) (a : Args job_open.signature κs)
      → job_open.clauses 𝓛 mem run κs a ≡ Ensures job_open.ended κs (λ r e. Kept (lw-job-open a.0.now a.1.0.now.next a.1.0.now.ties a.1.1.0.now) r e.1.0.now e.1.1.0.now)
  job_open_says κs a = refl

  pub job_step_says : (κs : Lfts 3) (a : Args job_step.signature κs)
      → job_step.clauses 𝓛 mem run κs a ≡ Ensures job_step.ended κs (λ r e. Kept (lw-job-step a.0.now a.1.0.now.next a.1.0.now.ties a.1.1.0.now) r e.1.0.now e.1.1.0.now)
  job_step_says κs a = refl

  pub job_preview_says : (κs : Lfts 3) (a : Args job-preview.signature κs)
      → job-preview.clauses 𝓛 mem run κs a ≡ Ensures job-preview.ended κs (λ r e. ⌜ r ≡ record_of (lw-job-preview a.0.now a.1.0.now.next a.1.0.now.ties a.1.1.0.now) ⌝)
  job_preview_says κs a = refl

  pub job_answer_says : (κs : Lfts 4) (a : Args job_answer.signature κs)
      → job_answer.clauses 𝓛 mem run κs a ≡ Ensures job_answer.ended κs (λ r e. One (lw-job-answer a.0.now a.1.0.now.next a.1.0.now.ties a.1.1.0.now a.1.1.1.0.now) r e.1.1.1.0.now)
  job_answer_says κs a = refl
