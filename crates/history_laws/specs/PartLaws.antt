-- The laws of the parts of a history: the entries of one core, beginnings, and what one core adds.
-- Each is a clause of a public function.
use Rattle.std.specs.Prelude.{◌≡◌, ◌≢◌, ℕ, ◌<◌, List, [], ◌∷◌, ◌++◌, length, sum_by, All, ◌==◌, if◌then◌else◌}
use Rattle.bench_types.specs.declared.entry.Entry.{Entry}
use Rattle.bench_types.specs.declared.header.Header.{Header}
use Rattle.list_orders.specs.Search.{numbers}
use Rattle.bench_model.specs.History.{made_by, IsLegal, StartsWith, IsGrowthBy}

-- an entry more is one of its core more, and of no other core
abbrev pub OneMoreIsMade : Type 0
OneMoreIsMade = (core : ℕ) (entries : List Entry) (entry : Entry) →
    made_by core (entries ++ entry ∷ [])
    ≡ (if entry.core == core then made_by core entries ++ entry ∷ [] else made_by core entries)

-- the entries of a core in two histories, one after the other
abbrev pub MadeInBoth : Type 0
MadeInBoth =
    (core : ℕ) (first second : List Entry)
    → made_by core (first ++ second) ≡ made_by core first ++ made_by core second

-- the entries of all cores are as many as there are
abbrev pub CoresAddUp : Type 0
CoresAddUp =
    (cores : ℕ) (entries : List Entry) → All (λ entry. entry.core < cores) entries →
    sum_by (λ core. length (made_by core entries)) (numbers cores) ≡ length entries

-- entries begin with themselves
abbrev pub WholeIsBeginning : Type 0
WholeIsBeginning = (entries : List Entry) → StartsWith entries entries

-- a beginning of a beginning is one
abbrev pub BeginningsNest : Type 0
BeginningsNest =
    (entries longer shorter : List Entry) → StartsWith entries longer → StartsWith longer shorter
    → StartsWith entries shorter

-- entries that others come after are the beginning
abbrev pub FirstIsBeginning : Type 0
FirstIsBeginning = (first second : List Entry) → StartsWith (first ++ second) first

-- a beginning of a legal history is legal
abbrev pub BeginningIsLegal : Type 0
BeginningIsLegal =
    (header : Header) (entries first : List Entry) → IsLegal header entries
    → StartsWith entries first → IsLegal header first

-- no entry at all is growth by every core
abbrev pub NoneIsGrowth : Type 0
NoneIsGrowth = (core : ℕ) (entries : List Entry) → IsGrowthBy core entries entries

-- an entry is growth by its core
abbrev pub OneIsGrowth : Type 0
OneIsGrowth =
    (entries : List Entry) (entry : Entry) → IsGrowthBy entry.core entries (entries ++ entry ∷ [])

-- growth after growth by one core is growth by it
abbrev pub GrowthGoesOn : Type 0
GrowthGoesOn =
    (core : ℕ) (old middle new : List Entry) → IsGrowthBy core old middle
    → IsGrowthBy core middle new → IsGrowthBy core old new

-- growth by a core leaves the entries of the others
abbrev pub GrowthLeavesOthers : Type 0
GrowthLeavesOthers =
    (core other : ℕ) (old new : List Entry) → IsGrowthBy core old new → core ≢ other
    → made_by other new ≡ made_by other old

-- growth leaves what the history begins with
abbrev pub GrowthKeepsBeginning : Type 0
GrowthKeepsBeginning =
    (core : ℕ) (old new first : List Entry) → IsGrowthBy core old new → StartsWith old first
    → StartsWith new first
