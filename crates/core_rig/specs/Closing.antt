-- The end of a rig.
use Rattle.std.specs.Prelude.{◌≡◌, ℕ, ◌<◌, List, length, map, Bool, ◌&&◌, ◌==◌, Ok, Err, Result, ⊤, if◌then◌else◌}
use Rattle.std.specs.List.{count_by, list_all, list_any}
use Rattle.list_orders.specs.Search.{numbers}
use Rattle.bench_types.specs.declared.entry.Entry.{Entry}
use Rattle.bench_model.specs.History.{made_by, StartsWith}
use Rattle.core_rig.specs.declared.fault.CloseFault.{CloseFault}
use Rattle.core_rig.specs.declared.fault.CloseFault.TheVariants.{WrongSeats, HoldOpen}
use Rattle.core_rig.specs.Seats.{CoreView, depth_at}

-- there are as many seats as cores, and each of the rig's cores is that of just one of them
abbrev pub HasEachOnce : ℕ → List CoreView → Type 0
HasEachOnce cores seats =
    (length seats ≡ cores)
    × ((core : ℕ) → core < cores → count_by (λ seat. seat.core == core) seats ≡ 1)

-- one of the seats is the core's
abbrev pub has_core : ℕ → List CoreView → Bool
has_core core seats = list_any (λ seat. seat.core == core) seats

abbrev pub has_all_cores : ℕ → List CoreView → Bool
has_all_cores cores seats = list_all (λ core. has_core core seats) (numbers cores)

-- no core holds the kernel
abbrev pub hold_nothing : List CoreView → Bool
hold_nothing seats = list_all (λ seat. depth_at seat == 0) seats

-- G6 where the seats' cores are not those of the rig, each once, else G5 where a core holds the
-- kernel
abbrev pub close_check : ℕ → List CoreView → Result ⊤ CloseFault
close_check cores seats =
    if (length seats == cores) && has_all_cores cores seats
    then (if hold_nothing seats then Ok tt else Err HoldOpen) else Err WrongSeats

-- the history begins with all that the core has seen, and has of its entries just those it made
abbrev pub IsEndOf : List Entry → CoreView → Type 0
IsEndOf history seat = StartsWith history seat.seen × (made_by seat.core history ≡ seat.made)

-- how many entries each core made
abbrev pub counts : ℕ → List Entry → List ℕ
counts cores history = map (λ core. length (made_by core history)) (numbers cores)
