-- A document's first member that stands twice.
use Rattle.std.specs.Prelude.{Option, option_map, string_bytes}
use Rattle.json_data.specs.Doubled.{Key}
use Rattle.session_text.specs.declared.noted.DoubledMember.{DoubledMember}

-- the key of the member
abbrev pub member_key : DoubledMember → Key
member_key member = record { token = member.token; name = string_bytes member.name }

abbrev pub doubled_view : Option DoubledMember → Option Key
doubled_view member = option_map member_key member
