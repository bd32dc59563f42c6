-- The ranking of changes.
use Rattle.std.specs.Prelude.{◌≡◌, ℕ, ◌+◌, ◌-◌, ◌<◌, List, length, Bool, false, AllPairs, IfOk, IsPermutation, Ok, Result, bit_xor, count_ones, slice_index_or}
use Rattle.std.specs.List.{AllZip}
use Rattle.std.specs.Ordering.{is_lt, nat_cmp, ordering_then}
use Rattle.std.specs.declared.alloc.AllocError.{AllocError}
use Rattle.std.specs.declared.cmp.Ordering.{Ordering}
use Rattle.std.specs.declared.cmp.Ordering.TheVariants.{Less, Equal, Greater}
use Rattle.bench_types.specs.declared.header.Header.{Header}
use Rattle.bench_types.specs.Header.{cores_of_mask}
use Rattle.run_sources.specs.declared.source.Source.{Source}
use Rattle.run_sources.specs.Sources.{header_of}
use Rattle.bench_model.specs.Edits.{args_of}
use Rattle.ranked_changes.specs.declared.change.Change.{Change}
use Rattle.ranked_changes.specs.declared.change.Change.TheVariants as change
use Rattle.ranked_changes.specs.declared.judge.Judge.{Judge}
use Rattle.ranked_changes.specs.declared.judge.Verdict.{Verdict}
use Rattle.ranked_changes.specs.declared.judge.Verdict.TheVariants.{Number, TooLong}
use Rattle.ranked_changes.specs.declared.rank.Ranked.{Ranked}
use Rattle.ranked_changes.specs.declared.rank.Size.{Size}
use Rattle.ranked_changes.specs.declared.rank.Size.TheVariants as size
use Rattle.ranked_changes.specs.Changed.{changed}
use Rattle.ranked_changes.specs.Verdicts.{IsVerdict}

-- ---- sizes

-- how far two numbers are apart
abbrev pub distance : ℕ → ℕ → ℕ
distance one other = (one - other) + (other - one)

-- the cores that one of two masks allows and the other does not
abbrev pub cores_apart : ℕ → ℕ → ℕ → ℕ
cores_apart cores one other =
    count_ones (bit_xor (cores_of_mask cores one) (cores_of_mask cores other))

-- how much the change changes
abbrev pub size_of : Header → Change → Size
size_of header (change.Priority task priority) =
    size.Priority (distance priority (args_of header task).priority)
size_of header (change.Mask task mask) =
    size.Mask (cores_apart header.config.cores mask (args_of header task).mask)
size_of header (change.Order first second) = size.Order

-- ---- order

-- the least number first, and any before none
abbrev pub verdict_cmp : Verdict → Verdict → Ordering
verdict_cmp (Number one) (Number other) = nat_cmp one other
verdict_cmp (Number one) TooLong = Less
verdict_cmp TooLong (Number other) = Greater
verdict_cmp TooLong TooLong = Equal

-- priorities first, by how far they move, then masks, by their cores, then exchanges
abbrev pub size_cmp : Size → Size → Ordering
size_cmp (size.Priority one) (size.Priority other) = nat_cmp one other
size_cmp (size.Priority one) other = Less
size_cmp (size.Mask one) (size.Priority other) = Greater
size_cmp (size.Mask one) (size.Mask other) = nat_cmp one other
size_cmp (size.Mask one) size.Order = Less
size_cmp size.Order size.Order = Equal
size_cmp size.Order other = Greater

-- by the verdict, of equals by the size, of equals by the place among the changes
abbrev pub ranked_cmp : Ranked → Ranked → Ordering
ranked_cmp one other =
    ordering_then (verdict_cmp one.verdict other.verdict)
    (ordering_then (size_cmp one.size other.size) (nat_cmp one.index other.index))

-- the one is better than the other
abbrev pub is_before : Ranked → Ranked → Bool
is_before one other = is_lt (ranked_cmp one other)

-- ---- rankings

-- the entry of a change that stands at a place
pub record IsEntry (judge : Judge) (source : Source) (place : ℕ) (made : Change)
    (entry : Ranked) : Type 0 where
  pub verdict : IsVerdict judge (changed source made) entry.verdict
  pub size : entry.size ≡ size_of (header_of source) made
  pub index : entry.index ≡ place

-- an entry for each of the changes, in their order
pub record AreEntries (judge : Judge) (source : Source) (changes : List Change)
    (entries : List Ranked) : Type 0 where
  pub count : length entries ≡ length changes
  pub each : (place : ℕ) (made : Change) (entry : Ranked) → place < length changes
      → IsEntry judge source place (slice_index_or changes place made)
      (slice_index_or entries place entry)

-- none is better than one that stands earlier
abbrev pub AreBestFirst : List Ranked → Type 0
AreBestFirst ranked = AllPairs (λ earlier later. is_before later earlier ≡ false) ranked

-- an entry for each of the changes, the best first
pub record IsRanking (judge : Judge) (source : Source) (changes : List Change)
    (ranked : List Ranked) : Type 0 where
  pub entries : List Ranked
  pub judged : AreEntries judge source changes entries
  pub moved : IsPermutation entries ranked
  pub ordered : AreBestFirst ranked

-- ---- on the way

-- what was said of each of the changes; nothing is known where memory was refused
abbrev pub AreVerdicts :
    Judge → Source → List Change → List (Result Verdict AllocError) → Type 0
AreVerdicts judge source changes verdicts =
    AllZip (λ made verdict. IfOk verdict (IsVerdict judge (changed source made))) changes verdicts

-- an entry for each of the first changes, with the verdict at its place
pub record AreRead (header : Header) (changes : List Change)
    (verdicts : List (Result Verdict AllocError)) (entries : List Ranked) : Type 0 where
  pub judged : (place : ℕ) (verdict : Result Verdict AllocError) (entry : Ranked)
      → place < length entries
      → slice_index_or verdicts place verdict ≡ Ok (slice_index_or entries place entry).verdict
  pub sizes : (place : ℕ) (made : Change) (entry : Ranked) → place < length entries
      → (slice_index_or entries place entry).size
      ≡ size_of header (slice_index_or changes place made)
  pub indexes : (place : ℕ) (entry : Ranked) → place < length entries
      → (slice_index_or entries place entry).index ≡ place
