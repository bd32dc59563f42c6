-- What is in the way of a ready task, in words: a line for each core.
use Rattle.std.specs.Prelude.{ℕ, ◌-◌, ◌==◌, List, [], ◌∷◌, ◌++◌, filter, flat_map, length, take, codes, decimal, Bool, true, false, not, if◌then◌else◌}
use Rattle.bench_types.specs.declared.header.Header.{Header}
use Rattle.bench_types.specs.Header.{name_of}
use Rattle.run_pictures.specs.declared.hindrance.Hindrance.{Hindrance}
use Rattle.run_pictures.specs.declared.hindrance.Obstacle.{Obstacle}
use Rattle.run_pictures.specs.declared.hindrance.Obstacle.TheVariants.{Masked, Held, Due, Unpreempted, Outranked, Lower}
use Rattle.run_pictures.specs.declared.pose.Detail.{Detail}
use Rattle.run_pictures.specs.declared.pose.Detail.TheVariants.{EachPlace, FirstPlace}
use Rattle.run_pictures.specs.Limits.{max_lines}

-- of which core a line tells
unfoldable pub core_text : ℕ → List ℕ
core_text core = codes "\ncore " ++ decimal core ++ codes ": "

-- the priority in use of the task that the core runs
unfoldable pub level_text : ℕ → List ℕ
level_text priority = codes " of priority " ++ decimal priority ++ codes " runs"

-- the task that the core runs
unfoldable pub rival_text : Header → ℕ → ℕ → ℕ → List ℕ
rival_text header core task priority =
    core_text core ++ name_of header task ++ level_text priority

abbrev pub obstacle_text : Header → ℕ → Obstacle → List ℕ
obstacle_text header core Masked = core_text core ++ codes "not in its mask"
obstacle_text header core (Held holder) = codes "\nthe kernel is held by core " ++ decimal holder
obstacle_text header core Due = core_text core ++ codes "due, has not switched yet"
obstacle_text header core (Unpreempted task priority) =
    rival_text header core task priority ++ codes " with preemption off"
obstacle_text header core (Outranked task priority) = rival_text header core task priority
obstacle_text header core (Lower task priority) =
    rival_text header core task priority ++ codes ", which is lower; the core was not asked"

unfoldable pub hindrance_text : Header → Hindrance → List ℕ
hindrance_text header hindrance = obstacle_text header hindrance.core hindrance.by

-- that there are so many more
unfoldable pub more_text : ℕ → List ℕ
more_text count =
    if count == 0 then []
    else (if count == 1 then codes "\nand 1 more core"
    else codes "\nand " ++ decimal count ++ codes " more cores")

abbrev pub is_mask : Obstacle → Bool
is_mask Masked = true
is_mask other = false

abbrev pub is_masked : Hindrance → Bool
is_masked hindrance = is_mask hindrance.by

-- those at the cores of the mask first
unfoldable pub detail_order : List Hindrance → List Hindrance
detail_order hindrances =
    filter (λ one. not (is_masked one)) hindrances ++ filter is_masked hindrances

abbrev pub is_hold : Obstacle → Bool
is_hold (Held holder) = true
is_hold other = false

-- the first of them is a hold of the kernel
abbrev pub hold_first : List Hindrance → Bool
hold_first [] = false
hold_first (hindrance ∷ hindrances) = is_hold hindrance.by

-- The first lines of them, and how many more there are. A hold is in the way at each core of the
-- mask, and told once.
unfoldable pub lines_text : Header → List Hindrance → List ℕ
lines_text header found =
    if hold_first found then flat_map (hindrance_text header) (take 1 found)
    else flat_map (hindrance_text header) (take max_lines found)
    ++ more_text (length found - max_lines)

-- which place is told of, where it is not each one
unfoldable pub place_text : Detail → ℕ → List ℕ
place_text EachPlace first = []
place_text FirstPlace first = codes "\nat place " ++ decimal first ++ codes ":"

-- what is in the way from the first place on
unfoldable pub hindered_text : Header → Detail → ℕ → List Hindrance → List ℕ
hindered_text header detail first hindrances =
    if length hindrances == 0 then []
    else place_text detail first ++ lines_text header (detail_order hindrances)
