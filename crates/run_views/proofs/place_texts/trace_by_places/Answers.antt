use Rattle.std.proofs.Common.{◌≡◌, ◌+◌, ◌<◌, ◌^◌, length, ap, sym, ◌∙◌, arith}
use Rattle.std.specs.Prelude.{flat_map, string_bytes}
use Rattle.std.proofs.lemmas.List.{length-map}
use Rattle.std.proofs.lemmas.Result.{IfOk-weaker}
use Rattle.run_views.specs.PlaceTexts.{everything}
use Rattle.run_views.specs.Trace.{trace_text}
use Rattle.run_views.proofs.PlaceTexts.{texts_numbered, whole_printed}
use Rattle.run_views.proofs.Sessions.{same_session}
use Rattle.run_views.proofs.place_texts.trace_by_places.Goals as goal

pub returns-in-Ok-clause-numbered : goal.returns-in-Ok-clause-numbered
returns-in-Ok-clause-numbered c =
    let header = c.header-header.result.now in
    let steps = c.steps-steps.result.now in
    let few : length steps + 1 < 2 ^ 32 = omega (arith, ap length c.steps-steps.ensures.steps, c.steps-steps.ensures.checked.few) in
    IfOk-weaker c.texts_of.result _ _ (λ texts are. texts_numbered c.args.places header steps (length texts.items) (omega arith) few
    (sym (length-map texts.items string_bytes) ∙ ap length are)) c.texts_of.ensures

pub returns-in-Ok-clause-whole : goal.returns-in-Ok-clause-whole
returns-in-Ok-clause-whole c =
    let places = c.args.places in
    let header = c.header-header.result.now in
    let steps = c.steps-steps.result.now in
    IfOk-weaker c.texts_of.result _ _ (λ texts are.
    same_session (λ header steps. flat_map string_bytes texts.items ≡ trace_text places everything header steps) c.header-header.ensures.header
    c.steps-steps.ensures.steps (whole_printed string_bytes places header steps texts.items are)) c.texts_of.ensures
