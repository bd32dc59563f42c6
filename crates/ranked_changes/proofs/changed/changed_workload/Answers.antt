use Rattle.std.proofs.Common.{◌≡◌, ◌∙◌, ap, ap₂, sym, subst}
use Rattle.bench_types.specs.declared.header.Header.{Header}
use Rattle.task_programs.specs.declared.workload.Workload.{Workload}
use Rattle.task_programs.specs.Workloads.{IsCheckedWorkload}
use Rattle.ranked_changes.specs.Changed.{changed_header, changed_workload, IsHeaderChange}
use Rattle.ranked_changes.proofs.ChangedSources.{workload_kept}
use Rattle.ranked_changes.proofs.changed.changed_workload.Goals as goal

pub header_with-requires : goal.header_with-requires
header_with-requires c = subst (λ (header : Header). IsHeaderChange header c.args.change) (sym c.header.ensures.header) c.requires

pub unflawed-requires : goal.unflawed-requires
unflawed-requires c =
    let workload = c.args.workload.now in
    let make : Header → Workload → Workload =
    λ header own. record { header = header; programs = own.programs; interrupts = own.interrupts; ticks = own.ticks } in
    let header : c.in_ok-header.header ≡ changed_header workload.header c.args.change =
    c.in_ok-header.ensures ∙ ap (λ (header : Header). changed_header header c.args.change) c.header.ensures.header in
    let own : c.into_workload-programs.result ≡ workload = c.into_workload-programs.ensures.workload ∙ c.in_ok-copy.ensures in
    let made : make c.in_ok-header.header c.into_workload-programs.result ≡ changed_workload workload c.args.change = ap₂ make header own in
    subst IsCheckedWorkload (sym made) (workload_kept workload c.args.change c.header.ensures.checked c.requires)
