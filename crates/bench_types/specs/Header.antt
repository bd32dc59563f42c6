-- Which headers a session may start from, and the names of its tasks.
use Rattle.std.specs.Prelude.{◌≡◌, ℕ, ◌-◌, ◌<◌, ◌^◌, All, IsTrue, List, [], ◌++◌, Bool, ◌&&◌, nat_lt, is_none, codes, decimal, length, Option, option_map, slice_index_or, Result, Ok, Err}
use Rattle.std.specs.Prelude.{if◌then◌else◌, ⊤}
use Rattle.bench_types.specs.Flaw.{header_flaw}
pub use Rattle.bench_types.specs.Mask.{cores_of_mask}
use Rattle.bench_types.specs.Name.{is_name}
use Rattle.bench_types.specs.declared.fault.Fault.{Fault}
use Rattle.bench_types.specs.declared.fault.Fault.TheVariants.{BadHeader}
use Rattle.bench_types.specs.declared.header.Config.{Config}
use Rattle.bench_types.specs.declared.header.Header.{Header}

-- a priority below their number, and a core to run on
abbrev pub has_valid_numbers : Config → ℕ → ℕ → Bool
has_valid_numbers config priority mask =
    nat_lt priority config.priorities && nat_lt 0 (cores_of_mask config.cores mask)

-- a header without a flaw
abbrev pub is_header : Header → Bool
is_header header = is_none (header_flaw header)

-- F1 is the one fault of a header
abbrev pub header_check : Header → Result ⊤ Fault
header_check header = if is_header header then Ok tt else Err BadHeader

-- a header that was checked: its names are names, and its numbers are of 32 bits
pub record IsCheckedHeader (header : Header) : Type 0 where
  pub passes : header_check header ≡ Ok tt
  pub tick : header.config.tick < 2 ^ 32
  pub names : All (λ task. IsTrue (is_name task.name)) header.tasks
  pub masks : All (λ task. task.mask < 2 ^ 32) header.tasks

-- how many queues there are, in a session that says which there are
abbrev pub queue_count : Header → Option ℕ
queue_count header = option_map length header.queues

-- the idle task of core c is IDLEc; a user task has its name in the header
abbrev pub name_of : Header → ℕ → List ℕ
name_of header task = if nat_lt task header.config.cores then codes "IDLE" ++ decimal task
    else (slice_index_or header.tasks (task - header.config.cores)
    (record { name = []; priority = 0; mask = 0 })).name
