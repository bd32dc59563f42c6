use Rattle.std.proofs.Common.{◌≡◌, ◌++◌, codes, string_bytes, sym, subst}
use Rattle.std.specs.Prelude.{OnOk}
use Rattle.bench_types.specs.declared.header.TaskArgs.{TaskArgs}
use Rattle.ranked_changes.specs.declared.change.Change.{Change}
use Rattle.session_advice.specs.Words.{change_words, task_words}
use Rattle.session_advice.proofs.words.push_change.Goals as goal

pub returns-in-Priority : goal.returns-in-Priority
unfolding change_words
returns-in-Priority c =
    subst (λ (change : Change). OnOk c.push_numbers.result (string_bytes c.push_numbers.new.text ≡ string_bytes c.args.text.now ++ change_words
    c.args.header.now change)) (sym c.in-Priority.is)
    (subst
    (λ (args : TaskArgs).
    OnOk c.push_numbers.result (string_bytes c.push_numbers.new.text ≡ string_bytes c.args.text.now ++ task_words c.args.header.now (codes "priority of ")
    c.in-Priority.task c.in-Priority.priority args.priority))
    c.args_of.ensures c.push_numbers.ensures)
