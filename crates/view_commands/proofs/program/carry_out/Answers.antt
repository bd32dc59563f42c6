use Rattle.std.proofs.Common.{◌≡◌, ℕ, List, rules, string_bytes, subst}
use Rattle.program_io.specs.Endings.{EndsOver, EndsShowing}
use Rattle.program_io.proofs.Ended.{shown_over}
use Rattle.view_commands.proofs.program.carry_out.Goals as goal

pub returns-in-Help : goal.returns-in-Help
returns-in-Help g c =
    let read = g.R.CountedRead.seen c.args.reader.now in
    let write = g.W.CountedWrite.seen in
    let same : c.as_str.result.now ≡ string_bytes c.in-Help.text = search rules in
    rw c.in-Help.is
    (subst (λ (text : List ℕ). EndsOver (EndsShowing text) c.show_text.result read read (write c.args.writer.now) (write c.show_text.new.writer)) same
    (shown_over c.as_str.result.now c.show_text.result read (write c.args.writer.now) (write c.show_text.new.writer) c.show_text.ensures.bytes
    c.show_text.ensures.reads c.show_text.ensures.writes c.show_text.ensures.fault))

pub returns-in-Version : goal.returns-in-Version
returns-in-Version g c =
    rw c.in-Version.is (c.show_version.ensures (g.R.CountedRead.seen c.args.reader.now))
