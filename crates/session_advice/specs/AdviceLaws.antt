-- The laws of advice.
use Rattle.std.specs.Prelude.{◌≡◌}
use Rattle.run_sources.specs.declared.source.Source.{Source}
use Rattle.session_advice.specs.Advice.{IsAdvice}
use Rattle.session_advice.specs.Questions.{Asked, Printed}

-- to a question on a source one advice is told alone
abbrev pub AdviceIsOne : Type 0
AdviceIsOne =
    (question : Asked) (source : Source) (printed other : Printed)
    → IsAdvice question source printed → IsAdvice question source other → printed ≡ other
