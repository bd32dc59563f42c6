-- What people are told of a rule of workloads that is broken.
use Rattle.std.specs.Prelude.{ℕ, List, ◌++◌, codes, decimal}
use Rattle.session_text.specs.declared.detail.BrokenRule.{BrokenRule}
use Rattle.session_text.specs.declared.detail.BrokenRule.TheVariants.{Unreached, NoWork, NoWorks, Finish, NoRounds, NoBody, NoLoop, Nesting, NoPeriod, Items, Ticks, Edits, NoItem}

-- so many of these at most
abbrev pub at_most : List ℕ → ℕ → List ℕ → List ℕ
at_most what most of = what ++ codes " " ++ decimal most ++ codes " " ++ of ++ codes " at most"

-- what may stand there
abbrev pub rule_text : BrokenRule → List ℕ
rule_text Unreached =
    codes "no run comes here: a break, or a forever that no break leaves, is before"
rule_text NoWork = codes "work has to be 1 or more"
rule_text NoWorks = codes "a list of works has one at least"
rule_text Finish = codes "a task finishes its calls by itself"
rule_text NoRounds = codes "repeat has to be 1 or more"
rule_text NoBody = codes "a loop has items, and none begins with break"
rule_text NoLoop = codes "no loop is around this break"
rule_text (Nesting most) =
    at_most (codes "around an item stand") most (codes "loops and calls with branches")
rule_text NoPeriod = codes "every has to be 1 or more"
rule_text (Items most) = at_most (codes "all programs together have") most (codes "items")
rule_text (Ticks most) = at_most (codes "a workload goes on for") most (codes "ticks")
rule_text (Edits most) = at_most (codes "a workload has") most (codes "edits")
rule_text NoItem = codes "no item of the program stands at this path"
