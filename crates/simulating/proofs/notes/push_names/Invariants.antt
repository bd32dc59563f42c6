use Rattle.std.proofs.Common.{◌≡◌, ◌++◌, flat_map, string_bytes, take}
use Rattle.simulating.specs.Notes.{next_name, user_name}
use Rattle.simulating.proofs.notes.push_names.Given as goal

abbrev pub invariant-loop-user : goal.invariant-loop-user
invariant-loop-user l =
    string_bytes l.text
    ≡ string_bytes l.fn.text ++ (user_name l.header l.first ++ flat_map (next_name l.header) (take l.user-index l.others))
