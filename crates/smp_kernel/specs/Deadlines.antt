-- The deadlines of unfinished waits for mutexes.
use Rattle.std.specs.Prelude.{◌≡◌, ◌≤◌, ℕ, ◌+◌, ◌-◌, Bool, false, List, All, Option, None, length, map, option_map, replicate}
use Rattle.std.specs.Option.{ForSome}

-- one tick less is left to a deadline, and none to one that is reached
abbrev pub one_less : Option ℕ → Option ℕ
one_less left = option_map (λ left. left - 1) left

-- what is left to a deadline when so many ticks have passed
abbrev pub left_after : ℕ → Option ℕ → Option ℕ
left_after passed end = option_map (λ end. end - passed) end

-- what is left to each
abbrev pub lefts : ℕ → List (Option ℕ) → List (Option ℕ)
lefts passed ends = map (left_after passed) ends

-- no deadline is further ahead than the ticks of a wait can be
abbrev pub AreNear : ℕ → List (Option ℕ) → Type 0
AreNear passed ends = All (λ end. ForSome end (λ end. end ≤ passed + 4294967295)) ends

-- where no task may have a deadline, none has
abbrev pub AreNone : Bool → List (Option ℕ) → Type 0
AreNone some ends = some ≡ false → ends ≡ replicate (length ends) None
