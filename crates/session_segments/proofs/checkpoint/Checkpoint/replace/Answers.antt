use Rattle.std.proofs.Common.{refl, sym, ap, ◌∙◌}
use Rattle.bench_model.specs.Shifted.{shifted}
use Rattle.shift_laws.proofs.Steps.{not_shifted}
use Rattle.session_segments.proofs.checkpoint.Checkpoint.replace.Goals as goal

pub returns : goal.returns
returns c =
    let stands = c.requires.stands in
    ap (shifted 0) (c.copy_from.ensures ∙ sym stands.1.shows) ∙ sym (not_shifted stands.0 stands.0 refl) ∙ stands.1.shows
