use Rattle.std.proofs.Common.{◌≡◌, drop, map}
use Rattle.std.specs.List.{filter_map, find}
use Rattle.json_data.specs.View.{view}
use Rattle.session_text.specs.UnknownName.{is_unknown, naming_members, text_of}
use Rattle.session_text.proofs.unknown_name.unknown_member.Given as goal

-- the name is among the texts of the members from here on
abbrev pub invariant-loop-member : goal.invariant-loop-member
invariant-loop-member l =
    let unknown = is_unknown (map (λ name. name.now) l.names) in
    find unknown (filter_map (text_of (view l.value)) (drop l.member-index naming_members)) ≡ find unknown (filter_map (text_of (view l.value)) naming_members)
