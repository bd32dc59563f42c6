use Rattle.std.specs.Prelude.{codes}
use Rattle.std.proofs.Common.{◌≡◌, drop, Some, None}
use Rattle.serde_json.specs.View.{view as value_view}
use Rattle.json_data.specs.View.{view}
use Rattle.session_text.specs.Path.{member_path, path_of}
use Rattle.edited_workloads.specs.Edited.{edits_made}
use Rattle.edited_workloads.proofs.document.Making.all.Given as goal

-- the edits from here on, made of what those before it leave, lead to what all lead to
abbrev pub invariant-loop-index : goal.invariant-loop-index
invariant-loop-index l =
    let header = l.self.header.now in
    let home = member_path (path_of l.self.outer.now) (codes "workload") in
    let at = path_of l.self.location.now in
    let array = Some (view l.self.array.now) in
    edits_made header home at array l.index (drop l.index l.edits) (value_view l.left) l.last ≡ edits_made header home at array 0 l.edits (value_view l.workload) None
