use Rattle.std.proofs.Common.{◌∙◌, ap, sym}
use Rattle.std.specs.Prelude.{slice_get}
use Rattle.bench_types.specs.declared.kernel_data.Settings.{Settings}
use Rattle.keeping.specs.Progress.{takes_time}
use Rattle.keeping.proofs.keeping.Keeping.is_before_time.Goals as goal

pub returns : goal.returns
returns c now holds =
    let settings = c.settings-units.ensures.settings ∙ c.kernel.ensures.settings ∙ sym holds.settings in
    c.takes_time.ensures ∙ ap (λ (settings : Settings). takes_time settings.units c.next.result) settings
    ∙ ap (takes_time now.table.settings.units) (c.next.ensures ∙ ap (λ outside. slice_get outside 0) holds.rest.outside)
