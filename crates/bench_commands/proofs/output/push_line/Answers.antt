use Rattle.std.proofs.Common.{◌≡◌, ◌++◌, List, ℕ, Some, None, decimal, string_bytes, codes, ap, sym, subst, ◌∙◌}
use Rattle.std.specs.Prelude.{OnOk}
use Rattle.std.proofs.lemmas.List.{append-nil}
use Rattle.bench_commands.specs.Lines.{reply_text}
use Rattle.program_io.specs.Refusal.{spaced}
use Rattle.bench_commands.proofs.Replays.{line_of, row_some}
use Rattle.bench_commands.proofs.output.push_line.Goals as goal

pub returns-in-Some-clause-line : goal.returns-in-Some-clause-line
returns-in-Some-clause-line c =
    let session = c.args.store.now.session in
    let reply = c.in-Some.reply in
    let shown = c.in_ok-pass.ensures in
    let row = c.pass.new.self.tasks.items in
    let line = line_of session.header session.steps c.args.place (Some reply) (Some row) c.in-Some.ensures
    (row_some session.header session.steps c.args.place row (sym shown.runs)) in
    let said = c.as_str.ensures.value ∙ shown.shown in
    subst (λ (line : List ℕ). OnOk c.push_step_line.result (string_bytes c.push_step_line.new.text ≡ string_bytes c.args.text.now ++ line)) (sym line)
    (subst (λ (text : List ℕ). OnOk c.push_step_line.result (string_bytes c.push_step_line.new.text ≡ string_bytes c.args.text.now ++
    (decimal c.args.place ++ spaced (reply_text reply) ++ text ++ codes "\n"))) said c.push_step_line.ensures)

pub returns-in-None-clause-line : goal.returns-in-None-clause-line
returns-in-None-clause-line c =
    let session = c.args.store.now.session in
    let shown = c.in_ok-pass.ensures in
    let row = c.pass.new.self.tasks.items in
    let line = line_of session.header session.steps c.args.place None (Some row) c.in-None.ensures
    (row_some session.header session.steps c.args.place row (sym shown.runs)) in
    sym (append-nil (string_bytes c.args.text.now)) ∙ ap (λ line. string_bytes c.args.text.now ++ line) (sym line)
