use Rattle.std.proofs.Common.{◌≡◌, ℕ, List, ◌++◌, append_assoc, codes, decimal, string_bytes, subst, ap, ◌∙◌}
use Rattle.std.specs.Prelude.{OnOk}
use Rattle.bench_types.specs.declared.header.Header.{Header}
use Rattle.report_figures.specs.Limits.{value_text}
use Rattle.run_sources.specs.Sources.{header_of}
use Rattle.session_advice.specs.Advice.{head_line}
use Rattle.session_advice.proofs.entries.push_head.Goals as goal

joined : (old value count words : List ℕ) → (old ++ value) ++ (codes "; " ++ (count ++ words)) ≡ old ++ (value ++ codes "; " ++ count ++ words)
joined old value count words = simp append_assoc

pub returns : goal.returns
unfolding head_line
returns c =
    let judged = c.args.base.now.judged in
    let value : List ℕ = value_text (header_of c.args.base.now.source.now) judged in
    let words : List ℕ = codes " changes tried\n" in
    let same = ap (λ (bytes : List ℕ). bytes ++ (codes "; " ++ (decimal c.args.count ++ words)))
    (c.in_ok-push_value.ensures ∙ ap (λ (header : Header). string_bytes c.args.text.now ++ value_text header judged) c.header.ensures.header)
    ∙ joined (string_bytes c.args.text.now) value (decimal c.args.count) words in
    subst (λ (bytes : List ℕ). OnOk c.write.result (string_bytes c.write.new.self ≡ bytes)) same c.write.ensures.bytes
