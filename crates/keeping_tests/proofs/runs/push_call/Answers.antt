use Rattle.std.proofs.Common.{[], ◌∷◌, subst, sym}
use Rattle.std.specs.Prelude.{All}
use Rattle.std.proofs.lemmas.List.Elements.{All-append, All-from_recursion}
use Rattle.bench_types.specs.Step.{settings_of}
use Rattle.keeping.specs.Works.{IsUnmade}
use Rattle.keeping_tests.proofs.runs.push_call.Goals as goal

pub returns-clause-all : goal.returns-clause-all
returns-clause-all c =
    let P = IsUnmade (settings_of c.args.header.now) in
    subst (All P) (sym c.in_ok-push.ensures.items)
    (All-append P c.args.checked.now.items (c.args.one.now ∷ []) c.requires (All-from_recursion P (c.args.one.now ∷ []) (c.may_call.ensures c.if-not-may_call.false, tt)))
