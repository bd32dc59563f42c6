use Rattle.std.proofs.Common.{ap₂, ◌∙◌}
use Rattle.std.specs.Option.{option_or}
use Rattle.session_text.specs.Step.{kinds, third_kinds}
use Rattle.session_text.proofs.StepWords.{kind_of_either}
use Rattle.session_text.proofs.step.Kind.of.Goals as goal

pub returns-in-Three : goal.returns-in-Three
returns-in-Three c = rw c.in-Three.is
    (c.or.ensures ∙ ap₂ (λ one other. option_or one other) c.of_any_format-in-Three.ensures c.of_format_3.ensures
    ∙ kind_of_either kinds third_kinds c.args.word.now)
