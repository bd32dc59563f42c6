-- What is seen of a kernel that stands for some table.
use Rattle.std.proofs.Common.{◌≡◌, ℕ, length, ap, sym, ◌∙◌}
use Rattle.bench_types.specs.declared.kernel_data.TaskLook.{TaskLook}
use Rattle.bench_types.specs.declared.kernel_data.CoreLook.{CoreLook}
use Rattle.bench_model.specs.Control.{core_at, task_at}
use Rattle.bench_model.specs.Equal.{StandsFor}
use Rattle.bench_model.specs.Lists.{View}
use Rattle.bench_model.specs.Looks.{task_look}
use Rattle.bench_model.specs.Table.{Table}
use Rattle.smp_kernel.specs.Kernel.{StandsForSome}

-- the base priority that a look tells
pub base_seen : (view : View) (task : ℕ) (look : TaskLook) → StandsForSome view → ((table : Table) → StandsFor view table → look ≡ task_look table task) →
    look.base ≡ (task_at view.control task).base
unfolding task_look
base_seen view task look some known = ap (λ (l : TaskLook). l.base) (known some.0 some.1) ∙ ap (λ (v : View). (task_at v.control task).base) some.1.shows

-- and whether its preemption is on
pub preempt_seen : (view : View) (task : ℕ) (look : TaskLook) → StandsForSome view → ((table : Table) → StandsFor view table → look ≡ task_look table task) →
    look.preempt ≡ (task_at view.control task).preempt
unfolding task_look
preempt_seen view task look some known =
    ap (λ (l : TaskLook). l.preempt) (known some.0 some.1) ∙ ap (λ (v : View). (task_at v.control task).preempt) some.1.shows

-- the core as it is told
pub core_seen : (view : View) (core : ℕ) (look : CoreLook) → StandsForSome view → ((table : Table) → StandsFor view table → look ≡ core_at table.control core) →
    look ≡ core_at view.control core
core_seen view core look some known = known some.0 some.1 ∙ ap (λ (v : View). core_at v.control core) some.1.shows

-- there are as many cores and holders as the settings say
pub cores_seen : (view : View) → StandsForSome view → length view.control.cores ≡ view.settings.cores
cores_seen view some =
    sym (ap (λ (v : View). length v.control.cores) some.1.shows) ∙ some.1.sound.consistent.sized.cores ∙ ap (λ (v : View). v.settings.cores) some.1.shows

pub holders_seen : (view : View) → StandsForSome view → length view.holders ≡ view.settings.mutexes
holders_seen view some =
    sym (ap (λ (v : View). length v.holders) some.1.shows) ∙ some.1.sound.consistent.sized.holders ∙ ap (λ (v : View). v.settings.mutexes) some.1.shows
