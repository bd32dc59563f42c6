use Rattle.std.proofs.Common.{rules, ◌≡◌, ◌++◌, ℕ, List, length, map, string_bytes, refl, sym, ap, subst, ◌∙◌}
use Rattle.std.specs.Prelude.{OnOk, slice_get, option_map}
use Rattle.std.proofs.lemmas.Option.{slice_get-map, slice_get_read}
use Rattle.bench_commands.proofs.labels.Labels.push.Goals as goal

pub returns-in-Some : goal.returns-in-Some
returns-in-Some c =
    let lent = c.deref.result.now in
    let lookup = c.in-Some.ensures.lookup in
    let there = slice_get_read lent (length lent) c.args.task c.in-Some.label.now refl lookup.3.0 lookup.1 in
    let found = slice_get-map string_bytes lent c.args.task ∙ ap (option_map string_bytes) there in
    let labels = ap (map string_bytes) c.deref.ensures.value ∙ c.self.view_is in
    let label = c.requires c.args.task (string_bytes c.in-Some.label.now) (ap (λ (labels : List (List ℕ)). slice_get labels c.args.task) (sym labels) ∙ found)
    in
    let pushed : OnOk c.push_str.result (string_bytes c.push_str.new.self ≡ string_bytes c.args.text.now ++ c.as_str.result.now) = search rules in
    subst (λ (label : List ℕ). OnOk c.push_str.result (string_bytes c.push_str.new.self ≡ string_bytes c.args.text.now ++ label))
    (c.as_str.ensures.value ∙ label) pushed
