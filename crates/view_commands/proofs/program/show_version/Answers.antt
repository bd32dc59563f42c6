use Rattle.std.proofs.Common.{◌≡◌, List, ℕ, refl, rules, subst}
use Rattle.program_io.specs.Endings.{EndsOver, EndsShowing}
use Rattle.program_io.proofs.Ended.{refused_over, shown_over}
use Rattle.view_commands.specs.CommandLine.{version_line}
use Rattle.view_commands.proofs.program.show_version.Goals as goal

pub returns-in-Ok : goal.returns-in-Ok
returns-in-Ok g c =
    let line : c.as_str.result.now ≡ version_line = search rules in
    λ read. subst (λ (text : List ℕ). EndsOver (EndsShowing text) c.show_text.result read read (g.W.CountedWrite.seen c.args.writer.now)
    (g.W.CountedWrite.seen c.show_text.new.writer)) line
    (shown_over c.as_str.result.now c.show_text.result read (g.W.CountedWrite.seen c.args.writer.now) (g.W.CountedWrite.seen c.show_text.new.writer)
    c.show_text.ensures.bytes c.show_text.ensures.reads c.show_text.ensures.writes c.show_text.ensures.fault)

pub returns-in-Err : goal.returns-in-Err
returns-in-Err g c = λ read. refused_over (EndsShowing version_line) read (g.W.CountedWrite.seen c.args.writer.now) (refl, refl)
