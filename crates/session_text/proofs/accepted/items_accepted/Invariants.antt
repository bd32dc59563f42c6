use Rattle.std.proofs.Common.{◌≡◌, drop, take, option_map}
use Rattle.std.specs.Prelude.{All}
use Rattle.session_text.specs.Accepted.{items_accepted}
use Rattle.json_data.specs.View.{view}
use Rattle.session_text.specs.Names.{user_names}
use Rattle.session_text.specs.Path.{path_of}
use Rattle.session_text.proofs.accepted.items_accepted.Given as goal

-- no item so far is at fault, so that only those from here on are left to look at
abbrev pub invariant-loop-index : goal.invariant-loop-index
invariant-loop-index g l =
    let flaw_of = g.T.HasCheck.flaw_of l.header in
    let names = user_names (g.H.HasHeader.header_of l.header) in
    let at = path_of l.source.location.now in
    let array = option_map view l.source.value in
    record {
      reading : items_accepted flaw_of names at array l.index (drop l.index l.items) ≡ items_accepted flaw_of names at array 0 l.items;
      checked : All (g.T.HasCheck.IsChecked l.header) (take l.index l.items);
    }
