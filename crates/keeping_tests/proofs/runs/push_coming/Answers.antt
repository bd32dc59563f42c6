use Rattle.std.proofs.Common.{[], ◌∷◌, subst, sym}
use Rattle.std.specs.Prelude.{All}
use Rattle.std.proofs.lemmas.List.Elements.{All-append, All-from_recursion}
use Rattle.bench_types.specs.Step.{settings_of}
use Rattle.keeping.specs.Progress.{IsComing}
use Rattle.keeping_tests.proofs.runs.push_coming.Goals as goal

pub returns : goal.returns
returns c =
    let P = IsComing (settings_of c.args.header.now) in
    subst (All P) (sym c.in_ok-push.ensures.items)
    (All-append P c.args.checked.now.items (c.args.one.now ∷ []) c.requires (All-from_recursion P (c.args.one.now ∷ []) (c.may_come.ensures c.if-not-may_come.false, tt)))
