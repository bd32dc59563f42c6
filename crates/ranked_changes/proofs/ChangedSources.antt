-- A source with a change made passes the checks of its kind, and has the same settings.
use Rattle.std.proofs.Common.{◌≡◌, ℕ, ◌==◌, cond, List, [], length, Option, Some, None, ap₂, sym, subst, ◌∙◌, arith}
use Rattle.std.specs.Prelude.{is_some, option_map}
use Rattle.std.specs.Option.{option_or}
use Rattle.bench_types.specs.declared.flaw.HeaderFlaw.{HeaderFlaw}
use Rattle.bench_types.specs.declared.header.QueueArgs.{QueueArgs}
use Rattle.bench_types.specs.declared.kernel_data.Settings.{Settings}
use Rattle.bench_types.specs.declared.step.Step.{Step}
use Rattle.bench_types.specs.Flaw.{header_flaw as flaw_of_header}
use Rattle.kept_runs.specs.Items.{edited_session}
use Rattle.bench_types.specs.Session.{IsCheckedSession, Session}
use Rattle.bench_types.specs.Step.{settings_of}
use Rattle.bench_types.proofs.Passes.{checked_flaw}
use Rattle.task_programs.specs.declared.flaw.WorkloadFlaw.TheVariants as workloads
use Rattle.task_programs.specs.declared.workload.Workload.{Workload}
use Rattle.task_programs.specs.Workloads.{contents_flaw, header_flaw, interrupts_flaw, items_flaw, programs_flaw, ticks_flaw, workload_flaw, IsCheckedWorkload}
use Rattle.task_programs.proofs.Flaws.{none_of}
use Rattle.run_sources.specs.declared.source.Source.{Source}
use Rattle.run_sources.specs.declared.source.Source.TheVariants as source
use Rattle.run_sources.specs.Sources.{header_of}
use Rattle.ranked_changes.specs.declared.change.Change.{Change}
use Rattle.ranked_changes.specs.declared.change.Change.TheVariants as change
use Rattle.ranked_changes.specs.Changed.{changed, changed_header, changed_session, changed_workload, IsHeaderChange, IsStepChange}
use Rattle.ranked_changes.specs.ChangeLaws.{ChangesKeepSources}
use Rattle.ranked_changes.proofs.KeptChanges.{change_made, same_settings}
use Rattle.ranked_changes.proofs.ChangedSessions.{header_kept, queues_kept, session_kept, settings_kept, steps_kept, tasks_kept}

-- ---- workloads

module _ (workload : Workload) (made : Change) where
  -- programs and interrupts are judged by what stays
  contents_kept : contents_flaw (changed_workload workload made) ≡ contents_flaw workload
  unfolding contents_flaw
  contents_kept =
      ap₂ (λ (settings : Settings) (count : ℕ).
      option_or
      (option_or
      (option_or
      (option_or (cond (length workload.programs == count) None (Some (workloads.Programs (length workload.programs)))) (items_flaw workload.programs))
      (programs_flaw settings 0 workload.programs)) (interrupts_flaw settings 0 workload.interrupts)) (ticks_flaw workload.ticks))
      (settings_kept workload.header made) (tasks_kept workload.header made)

  pub workload_kept : IsCheckedWorkload workload → IsHeaderChange workload.header made → IsCheckedWorkload (changed_workload workload made)
  unfolding workload_flaw
  workload_kept is allowed =
      let header = header_kept workload.header made is.header allowed in
      let both = none_of (header_flaw workload.header) (contents_flaw workload) is.passes in
      let own =
      none_of (option_map workloads.Header (flaw_of_header workload.header)) (cond (is_some workload.header.queues) None (Some workloads.NoQueues)) both.0 in
      let head : header_flaw (changed_header workload.header made) ≡ None =
      ap₂ (λ (flaw : Option HeaderFlaw) (queues : Option (List QueueArgs)).
      option_or (option_map workloads.Header flaw) (cond (is_some queues) None (Some workloads.NoQueues)))
      (checked_flaw (changed_header workload.header made) header.passes) (queues_kept workload.header made)
      ∙ own.1 in
      record {
        passes = ap₂ option_or head (contents_kept ∙ both.1);
        header = header;
        programs = is.programs;
        interrupts = is.interrupts;
      }

-- ---- sessions

pub checked_session_kept : (session : Session) (made : Change) → IsCheckedSession session → IsHeaderChange session.header made
    → IsStepChange session.steps made → IsCheckedSession (changed_session session made)
checked_session_kept session made is header steps = record {
  checked = session_kept session made is.checked header steps;
  few = omega (arith, is.few, steps_kept session.steps made);
}

-- ---- sources

-- what is allowed where there is no step is allowed where there are some
more_places : (made : Change) (steps : List Step) → IsStepChange [] made → IsStepChange steps made
more_places (change.Priority task priority) steps any = tt
more_places (change.Mask task mask) steps any = tt
more_places (change.Order first second) steps places = absurd (let low = places.0 in omega (arith, low))

pub changes_keep_sources : ChangesKeepSources
changes_keep_sources (source.Session session) made is allowed = checked_session_kept session made is allowed.0 allowed.1
changes_keep_sources (source.Settled session) made is allowed = checked_session_kept session made is allowed.0 allowed.1
changes_keep_sources (source.Workload workload) made is allowed = workload_kept workload made is allowed.0
changes_keep_sources (source.Kept kept order) made is allowed =
    let after = edited_session kept.session kept.edits in (
      is.0,
      subst IsCheckedSession (sym (change_made kept made is.1.checked allowed.0 allowed.1))
          (checked_session_kept after made is.1 allowed.0 (more_places made after.steps allowed.1)),
    )

pub source_settings_kept : (source : Source) (made : Change) → settings_of (header_of (changed source made)) ≡ settings_of (header_of source)
source_settings_kept (source.Session session) made = settings_kept session.header made
source_settings_kept (source.Settled session) made = settings_kept session.header made
source_settings_kept (source.Workload workload) made = settings_kept workload.header made
source_settings_kept (source.Kept kept order) made = same_settings kept made
