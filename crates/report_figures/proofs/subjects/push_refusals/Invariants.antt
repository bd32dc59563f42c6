use Rattle.std.proofs.Common.{◌≡◌, ◌++◌, map, take}
use Rattle.run_numbers.specs.declared.subject.Event.TheVariants.{Refused}
use Rattle.run_numbers.specs.declared.subject.Subject.TheVariants.{Steps}
use Rattle.report_figures.specs.Subjects.{refusals}
use Rattle.report_figures.proofs.subjects.push_refusals.Given as goal

abbrev pub invariant-loop-why : goal.invariant-loop-why
invariant-loop-why l =
    l.subjects.items
    ≡ l.fn.subjects.items ++ map (λ why. Steps (Refused l.task why)) (take l.why-index refusals)
