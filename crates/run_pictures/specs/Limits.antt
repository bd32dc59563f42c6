-- How large a picture may be.
use Rattle.std.specs.Prelude.{ℕ}

-- the places that a picture shows
abbrev pub max_places : ℕ
max_places = 4000

-- the stretches of ready tasks that are told apart by what is in the way
abbrev pub max_pieces : ℕ
max_pieces = 4096

-- the hindrances that are looked for, at each core, of each user task at each place
abbrev pub max_found : ℕ
max_found = 2097152

-- the cores of which it is told
abbrev pub max_lines : ℕ
max_lines = 8
