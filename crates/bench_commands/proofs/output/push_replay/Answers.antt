use Rattle.std.proofs.Common.{◌≡◌, ◌+◌, ◌++◌, List, ℕ, suc, string_bytes, codes, sym, ap, subst, ◌∙◌, arith}
use Rattle.bench_commands.specs.Answer.{first_line, line_at}
use Rattle.bench_commands.specs.Lines.{AreLabels, IsShownAt, row_text}
use Rattle.bench_commands.proofs.Replays.{lines_start, lines_next, lines_end, start_shown}
use Rattle.bench_commands.proofs.output.push_replay.Goals as goal

pub loop-place-init : goal.loop-place-init
loop-place-init c =
    let session = c.args.store.now.session in
    let row = c.in_ok-row.row in
    let initial = c.in_ok-row.ensures in
    let said : string_bytes row.text ≡ row_text session.header row.tasks.items = initial.shown in
    let first = c.as_str.ensures.value ∙ said ∙ ap (row_text session.header) (start_shown session.header session.steps row.tasks.items (sym initial.runs)) in
    let opened : string_bytes c.push_start_line.new.text ≡ string_bytes c.args.text.now ++ first_line session.header = c.in_ok-push_start_line.ensures ∙ ap
    (λ (text : List ℕ). string_bytes c.args.text.now ++ (codes "start" ++ text ++ codes "\n")) first in
    record { lines = opened ∙ lines_start (string_bytes c.args.text.now) session.header session.steps; row = initial }

pub loop-place-preserved : goal.loop-place-preserved
loop-place-preserved c =
    let session = c.args.store.now.session in
    let place = c.loop-place.place in
    let next : suc place ≡ place + 1 = omega arith in
    record {
      lines = c.in_ok-push_line.ensures.line ∙ ap (λ text. text ++ line_at session.header session.steps place) c.loop-place.invariant.lines ∙ lines_next
          (string_bytes c.args.text.now) session.header session.steps place;
      row = subst (λ n. IsShownAt session n c.push_line.new.row.tasks.items (string_bytes c.push_line.new.row.text)) next c.in_ok-push_line.ensures.row;
    }

pub returns : goal.returns
returns c =
    let session = c.args.store.now.session in
    c.loop-place.invariant.lines ∙ lines_end (string_bytes c.args.text.now) session.header session.steps c.loop-place.place
    (omega (arith, c.loop-place.auto.place-end, c.loop-place-test.false, c.len-place-end.ensures.steps))

pub push_line-requires-clause-labels : goal.push_line-requires-clause-labels
push_line-requires-clause-labels c = subst (λ header. AreLabels header c.in_ok-labels.labels) c.header.ensures.header c.in_ok-labels.ensures
