use Rattle.std.proofs.Common.{◌≡◌, ◌*◌, length, sym, ap, ap₂, ◌∙◌, arith}
use Rattle.bench_types.specs.declared.kernel_data.Settings.{Settings}
use Rattle.session_laws.proofs.Tallies.{length_each}
use Rattle.tallies.specs.Tables.{tallies_in}
use Rattle.tallies.proofs.Begins.{first_counts, first_table}
use Rattle.tallies.proofs.counts.CountTable.begin.Goals as goal

pub invariant_of-result : goal.invariant_of-result
invariant_of-result c =
    let kernel = c.args.kernel.now in
    let settings = c.settings-settings.result in
    let tasks : length c.in_ok-counts.counts.items ≡ settings.tasks =
    ap length c.in_ok-counts.ensures ∙ length_each (first_counts kernel.control) kernel.settings.tasks ∙ ap (λ (s : Settings). s.tasks)
    (sym c.settings-settings.ensures.settings) in
    record {
      size = omega (arith, c.in_ok-runs.ensures.len, c.in_ok-runs.runs.ok.0, c.place_of-ticks.ensures, ap (λ n. n * settings.cores) tasks);
      few = omega (arith, tasks);
    }

pub returns : goal.returns
returns c =
    let kernel = c.args.kernel.now in
    ap₂ (tallies_in c.settings-settings.result.cores) (c.in_ok-runs.ensures.items_if_clones_equal (λ y e. e)) c.in_ok-counts.ensures
    ∙ first_table kernel.settings kernel.control c.settings-settings.result.cores c.place_of-ticks.result
    (λ task low. ap (λ (s : Settings). s.cores) c.settings-settings.ensures.settings)
