-- The best item of those that were looked at so far.
use Rattle.std.specs.Prelude.{Bool, true, not, ◌&&◌, Option, Some, None, if◌then◌else◌}

-- an item after those that were looked at is better than the best of them
abbrev pub is_better : {X : Type 0} → (X → X → Bool) → Option X → X → Bool
is_better stays_in_front None x = true
is_better stays_in_front (Some best) x = not (stays_in_front best x)

-- the better of them where it passes the test
abbrev pub better_of : {X : Type 0} → (X → X → Bool) → (X → Bool) → Option X → X → Option X
better_of stays_in_front test best x =
    if test x && is_better stays_in_front best x then Some x else best
