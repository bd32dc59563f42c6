-- How long the lists of a table are: what a rule does to them says whether the table stays sized.
use Rattle.std.proofs.Common.{◌≡◌, ℕ, ◌*◌, ◌<◌, ◌≤◌, length, sym, ap, subst, ◌∙◌}
use Rattle.bench_types.specs.declared.kernel_data.Settings.{Settings}
use Rattle.bench_types.specs.Step.{queue_total}
use Rattle.bench_model.specs.Table.{Table}
use Rattle.bench_model.specs.Sound.{list_values, IsSized}

pub record Lengths : Type 0 where
  pub cores : ℕ
  pub controls : ℕ
  pub calls : ℕ
  pub notes : ℕ
  pub holders : ℕ
  pub queues : ℕ
  pub rows : ℕ
  pub deadlines : ℕ
  pub values : ℕ

abbrev pub lengths_of : Table → Lengths
lengths_of table = record {
  cores = length table.control.cores;
  controls = length table.control.tasks;
  calls = length table.calls;
  notes = length table.notes;
  holders = length table.holders;
  queues = length table.queues;
  rows = length table.orders.rows;
  deadlines = length table.orders.deadlines;
  values = length table.orders.values;
}

-- a table is sized where its lists are as long as those of a sized one with the same settings
pub resized : (table later : Table) → later.settings ≡ table.settings → lengths_of later ≡ lengths_of table → IsSized table → IsSized later
resized table later same lengths sized =
    record {
      cores = ap (λ (l : Lengths). l.cores) lengths ∙ sized.cores ∙ ap (λ (s : Settings). s.cores) (sym same);
      controls = ap (λ (l : Lengths). l.controls) lengths ∙ sized.controls ∙ ap (λ (s : Settings). s.tasks) (sym same);
      calls = ap (λ (l : Lengths). l.calls) lengths ∙ sized.calls ∙ ap (λ (s : Settings). s.tasks) (sym same);
      notes = ap (λ (l : Lengths). l.notes) lengths ∙ sized.notes ∙ ap (λ (s : Settings). s.tasks * s.notes) (sym same);
      holders = ap (λ (l : Lengths). l.holders) lengths ∙ sized.holders ∙ ap (λ (s : Settings). s.mutexes) (sym same);
      queues = ap (λ (l : Lengths). l.queues) lengths ∙ sized.queues ∙ ap queue_total (sym same);
      rows = ap (λ (l : Lengths). l.rows) lengths ∙ sized.rows ∙ ap (λ (s : Settings). s.tasks) (sym same);
      deadlines = ap (λ (l : Lengths). l.deadlines) lengths ∙ sized.deadlines ∙ ap (λ (s : Settings). s.tasks) (sym same);
      values = ap (λ (l : Lengths). l.values) lengths ∙ sized.values ∙ ap list_values (sym same);
      some_core = subst (λ (s : Settings). 0 < s.cores) (sym same) sized.some_core;
      some_note = subst (λ (s : Settings). 0 < s.notes) (sym same) sized.some_note;
      idle_tasks = subst (λ (s : Settings). s.cores ≤ s.tasks) (sym same) sized.idle_tasks;
    }
