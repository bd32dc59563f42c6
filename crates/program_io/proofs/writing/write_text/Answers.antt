use Rattle.std.proofs.Common.{length, arith, ◌∙◌, ap}
use Rattle.std.proofs.lemmas.List.{length-drop}
use Rattle.program_io.proofs.KnownOutput.{appends_piece, appends_whole, take_rest, none_counted, none_later}
use Rattle.program_io.proofs.writing.write_text.Goals as goal

-- src/writing.rt:18:5
pub loop-written-preserved : goal.loop-written-preserved
loop-written-preserved g c = record {
  wrote = appends_piece (g.W.CountedWrite.seen c.args.writer.now).bytes (g.W.CountedWrite.seen c.loop-written.writer).bytes
      (g.W.CountedWrite.seen c.write_counted.new.self).bytes c.loop-written.written c.in-Ok.count c.args.text.now c.loop-written.invariant.wrote
      c.in-Ok.ensures.bytes;
  within = omega (
    arith,
    c.in-Ok.ensures.bound,
    c.loop-written-test.true,
    length-drop c.loop-written.written c.args.text.now,
    ap (λ bytes. length bytes)
        (take_rest c.loop-written.written c.args.text.now),
  );
  none_failed = c.write_counted.ensures.count ∙ none_counted c.write_counted.result c.in-Ok.count (g.W.CountedWrite.seen c.loop-written.writer).failures
      c.in-Ok.is c.if-count-eq0.false ∙ c.loop-written.invariant.none_failed;
  same_fault = c.write_counted.ensures.fault ∙ none_later c.write_counted.result c.in-Ok.count (g.W.CountedWrite.seen c.loop-written.writer).fault
      c.in-Ok.is c.if-count-eq0.false ∙ c.loop-written.invariant.same_fault;
}

pub returns-clause-whole : goal.returns-clause-whole
returns-clause-whole g c = appends_whole (g.W.CountedWrite.seen c.args.writer.now).bytes (g.W.CountedWrite.seen c.loop-written.writer).bytes
    c.loop-written.written c.args.text.now c.loop-written-test.false c.loop-written.invariant.wrote
