use Rattle.std.proofs.Common.{List, ℕ, ◌++◌, OnOk, string_bytes, ap, ◌∙◌}
use Rattle.std.proofs.lemmas.Result.{on_ok_weaker}
use Rattle.run_pages.specs.declared.script.TheConstants.{SCRIPT}
use Rattle.run_pages.specs.declared.style.TheConstants.{END, SCRIPT_OPENING}
use Rattle.run_pages.proofs.PageTexts.{closing_texts, written}
use Rattle.run_pages.proofs.parts.push_closing.Goals as goal

pub returns : goal.returns
returns c =
    on_ok_weaker c.push_str-4.result
    (λ last. last
    ∙ ap (λ (text : List ℕ). text ++ END.now)
    (c.in_ok-push_str-3.ensures.bytes
    ∙ ap (λ (text : List ℕ). text ++ SCRIPT.now)
    (c.in_ok-push_str-2.ensures.bytes ∙ ap (λ (text : List ℕ). text ++ SCRIPT_OPENING.now) c.in_ok-push_str.ensures.bytes))
    ∙ closing_texts (string_bytes c.args.text.now)) (written c.push_str-4.result _ _ _ c.push_str-4.ensures.bytes)
