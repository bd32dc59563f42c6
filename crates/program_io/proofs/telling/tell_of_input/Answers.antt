use Rattle.std.proofs.Common.{Ok, sym, ap, subst, ◌∙◌}
use Rattle.std.specs.Fn.{FnOnceReturns, FnOnceReturnsAt}
use Rattle.program_io.specs.Device.{failures_after}
use Rattle.program_io.proofs.Ended.{printed_ended}
use Rattle.program_io.proofs.Printed.{where_ok}
use Rattle.program_io.proofs.telling.tell_of_input.Goals as goal

pub returns-in-Ok : goal.returns-in-Ok
returns-in-Ok g c =
    let read_old = g.R.CountedRead.seen c.args.reader.now in
    let read_new = g.R.CountedRead.seen c.read_input.new.reader in
    let write_old = g.W.CountedWrite.seen c.args.writer.now in
    let write_new = g.W.CountedWrite.seen c.write_output.new.writer in
    let printed = where_ok c.tell.result
    (λ printed is. (c.deref.result, subst (λ r. FnOnceReturns g.F.FnOnce c.args.tell (c.deref.result, tt) r) is c.tell.ensures, c.deref.ensures.value)) in
    record {
      bytes = printed_ended (λ input printed. FnOnceReturnsAt g.F.FnOnce c.args.tell input (Ok printed)) read_old.bytes read_new.bytes write_old.bytes
          write_new.bytes c.in-Ok.input.items c.tell.result c.write_output.result c.in-Ok.ensures.input printed c.write_output.ensures.bytes;
      reads = c.in-Ok.ensures.failures ∙ sym (ap (λ well. failures_after well read_old.failures) c.write_output.ensures.reads);
      writes = c.write_output.ensures.writes;
      fault = c.write_output.ensures.fault;
    }
