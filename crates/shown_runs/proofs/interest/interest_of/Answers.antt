use Rattle.std.proofs.Common.{ℕ, List, flat_map, string_bytes, ap, ap₂, sym, ◌∙◌}
use Rattle.std.specs.Prelude.{String}
use Rattle.std.specs.declared.alloc.Global.{Global}
use Rattle.std.proofs.lemmas.List.Folds.{flat_map-map}
use Rattle.run_views.specs.declared.interest.Interest.{Interest}
use Rattle.shown_runs.specs.Interests.{interest_of, listed, task_named}
use Rattle.shown_runs.proofs.interest.interest_of.Goals as goal

pub returns : goal.returns
returns c =
    let header = c.args.header.now in
    let inside = c.selection.inside in
    let given : List ℕ → List ℕ = λ name. listed (task_named header name) in
    let made : List ℕ → List ℕ → Interest = λ tasks cores. record { tasks = tasks; cores = cores } in
    let tasks = c.new.ensures ∙ c.in_ok-tasks.ensures ∙ ap (λ (names : List (String Global)). flat_map
    (λ (name : String Global). listed (task_named header (string_bytes name))) names) c.as_slice.ensures.value ∙ sym
    (flat_map-map given string_bytes inside.tasks.items) in
    let cores = c.new-2.ensures ∙ c.in_ok-cores.ensures.items ∙ c.as_slice-2.ensures.value in
    ap₂ made tasks cores ∙ ap (interest_of header) c.selection.view_is
