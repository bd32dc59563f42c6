use Rattle.std.proofs.Common.{◌≡◌, true, arith}
use Rattle.program_io.specs.Device.{device}
use Rattle.program_io.proofs.Prompted.{prompted}
use Rattle.program_io.proofs.prompt.Prompting.tell.Goals as goal

pub returns-clause-printed : goal.returns-clause-printed
returns-clause-printed g c =
    let due : c.args.self.now.is_due ≡ true = grind (arith, c.if-not-self.false) in
    prompted c.args.self.now.is_due (device (g.W.Write.contents c.args.self.now.errors.device) c.args.self.now.errors.failures)
    (device (g.W.Write.contents c.write_text.new.writer.device) c.write_text.new.writer.failures) c.as_bytes.result.now c.write_text.result due
    c.as_bytes.ensures.value
    c.write_text.ensures.whole c.write_text.ensures.prefix c.write_text.ensures.failures
