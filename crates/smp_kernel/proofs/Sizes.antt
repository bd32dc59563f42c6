-- How large the parts of a kernel are: what a rule does to them says whether the kernel keeps its
-- shape.
use Rattle.std.proofs.Common.{◌≡◌, ℕ, ◌<◌, ◌≤◌, ◌^◌, Bool, length, sym, ap, subst, ◌∙◌}
use Rattle.bench_types.specs.Limits.{max_cores}
use Rattle.bench_types.specs.declared.kernel_data.Settings.{Settings}
use Rattle.bench_types.specs.Step.{queue_total}
use Rattle.bench_model.specs.Sound.{list_values}
use Rattle.bench_model.specs.Waiters.{event_lists}
use Rattle.smp_kernel.specs.Kernel.{IsDisjoint, Parts, IsKernelShape, delayed_task, waiting_task}

pub record Sizes : Type 0 where
  pub priorities : ℕ
  pub slicing : Bool
  pub cores : ℕ
  pub controls : ℕ
  pub calls : ℕ
  pub note_tasks : ℕ
  pub note_entries : ℕ
  pub mutexes : ℕ
  pub mutex_priorities : ℕ
  pub holders : ℕ
  pub lists : ℕ
  pub queues : ℕ
  pub delays : ℕ
  pub deadlines : ℕ
  pub values : ℕ

abbrev pub sizes_of : Parts → Sizes
sizes_of parts = record {
  priorities = parts.cores.priorities;
  slicing = parts.cores.slicing;
  cores = length parts.cores.control.cores;
  controls = length parts.cores.control.tasks;
  calls = length parts.calls;
  note_tasks = parts.notes.tasks;
  note_entries = parts.notes.entries;
  mutexes = parts.mutexes.tasks;
  mutex_priorities = parts.mutexes.priorities;
  holders = length parts.mutexes.holders;
  lists = parts.mutexes.lists;
  queues = length parts.queues;
  delays = parts.delays.tasks;
  deadlines = length parts.deadlines;
  values = length parts.mutexes.values;
}

-- a kernel has its shape where its parts are as large as those of one that has, with the same
-- settings, and no ready task waits
pub reshaped : (parts later : Parts) → later.settings ≡ parts.settings → sizes_of later ≡ sizes_of parts
    → IsDisjoint delayed_task later.cores.ready later.delays.delayed
    → IsDisjoint waiting_task later.cores.ready later.mutexes.waiters
    → IsKernelShape parts → IsKernelShape later
reshaped parts later same sizes undelayed unqueued shape = record {
  priorities = ap (λ (s : Sizes). s.priorities) sizes ∙ shape.priorities ∙ ap (λ (s : Settings). s.priorities) (sym same);
  slicing = ap (λ (s : Sizes). s.slicing) sizes ∙ shape.slicing ∙ ap (λ (s : Settings). s.slicing) (sym same);
  few_cores = subst (λ (s : Settings). s.cores ≤ max_cores) (sym same) shape.few_cores;
  some_priority = subst (λ (s : Settings). 0 < s.priorities) (sym same) shape.some_priority;
  cores = ap (λ (s : Sizes). s.cores) sizes ∙ shape.cores ∙ ap (λ (s : Settings). s.cores) (sym same);
  controls = ap (λ (s : Sizes). s.controls) sizes ∙ shape.controls ∙ ap (λ (s : Settings). s.tasks) (sym same);
  calls = ap (λ (s : Sizes). s.calls) sizes ∙ shape.calls ∙ ap (λ (s : Settings). s.tasks) (sym same);
  note_tasks = ap (λ (s : Sizes). s.note_tasks) sizes ∙ shape.note_tasks ∙ ap (λ (s : Settings). s.tasks) (sym same);
  note_entries = ap (λ (s : Sizes). s.note_entries) sizes ∙ shape.note_entries ∙ ap (λ (s : Settings). s.notes) (sym same);
  some_note = subst (λ (s : Settings). 0 < s.notes) (sym same) shape.some_note;
  mutexes = ap (λ (s : Sizes). s.mutexes) sizes ∙ shape.mutexes ∙ ap (λ (s : Settings). s.tasks) (sym same);
  mutex_priorities = ap (λ (s : Sizes). s.mutex_priorities) sizes ∙ shape.mutex_priorities ∙ ap (λ (s : Settings). s.priorities) (sym same);
  holders = ap (λ (s : Sizes). s.holders) sizes ∙ shape.holders ∙ ap (λ (s : Settings). s.mutexes) (sym same);
  lists = ap (λ (s : Sizes). s.lists) sizes ∙ shape.lists ∙ ap event_lists (sym same);
  few_lists = subst (λ (s : Settings). event_lists s < 2 ^ 32) (sym same) shape.few_lists;
  queues = ap (λ (s : Sizes). s.queues) sizes ∙ shape.queues ∙ ap queue_total (sym same);
  delays = ap (λ (s : Sizes). s.delays) sizes ∙ shape.delays ∙ ap (λ (s : Settings). s.tasks) (sym same);
  deadlines = ap (λ (s : Sizes). s.deadlines) sizes ∙ shape.deadlines ∙ ap (λ (s : Settings). s.tasks) (sym same);
  values = ap (λ (s : Sizes). s.values) sizes ∙ shape.values ∙ ap list_values (sym same);
  undelayed = undelayed;
  unqueued = unqueued;
}
