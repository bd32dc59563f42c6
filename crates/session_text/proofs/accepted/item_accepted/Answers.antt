use Rattle.std.proofs.Common.{◌∙◌, ap, sym, option_map, Result, Err}
use Rattle.std.specs.Prelude.{⊤}
use Rattle.bench_types.specs.declared.header.Header.{Header}
use Rattle.json_data.specs.View.{view}
use Rattle.session_text.specs.declared.fault.TextFault.{TextFault}
use Rattle.session_text.specs.Accepted.{item_accepted, item_fault, item_of}
use Rattle.session_text.specs.Names.{user_names}
use Rattle.session_text.specs.Path.{item_path, path_of}
use Rattle.session_text.proofs.Accepting.{ends_at}
use Rattle.session_text.proofs.accepted.item_accepted.Goals as goal

pub returns-in-Some-clause-reading : goal.returns-in-Some-clause-reading
returns-in-Some-clause-reading g c =
    let at = item_path (path_of c.args.source.now.location.now) c.args.index in
    let value = item_of c.args.index (option_map view c.args.source.now.value) in
    let names = user_names (g.H.HasHeader.header_of c.args.header.now) in
    let fault_of : Header → Result ⊤ TextFault = λ header. Err (item_fault (user_names header) at value c.in-Some.flaw) in
    ends_at c.fault.result
    (ap (item_accepted names at value) (sym c.judge.ensures.value ∙ c.in-Some.is) ∙ ap fault_of (sym c.header.ensures))
    c.fault.ensures
