-- The laws of legal histories. Each is a clause of a public function.
use Rattle.std.specs.Prelude.{◌≡◌, ◌↔◌, ℕ, ◌<◌, List, [], ◌∷◌, ◌++◌, All, Ok, option_map, slice_get}
use Rattle.bench_types.specs.declared.entry.Entry.{Entry}
use Rattle.bench_types.specs.declared.header.Header.{Header}
use Rattle.bench_types.specs.Header.{header_check, IsCheckedHeader}
use Rattle.bench_types.specs.Session.{IsSession}
use Rattle.bench_model.specs.History.{end_of, steps_of, AreByCurrent, IsByCurrent, IsLegal, IsNext}
use Rattle.bench_model.specs.Session.{step_of, reply_at}
use Rattle.bench_model.specs.Start.{start}
use Rattle.history_laws.specs.SoundHistories.{IsSoundHistory}

-- no entries are legal
abbrev pub EmptyIsLegal : Type 0
EmptyIsLegal = (header : Header) → IsLegal header []

-- an entry more is legal just where it may come after entries that are
abbrev pub OneMoreIsLegal : Type 0
OneMoreIsLegal = (header : Header) (entries : List Entry) (entry : Entry) →
    (IsLegal header (entries ++ entry ∷ [])
    ↔ (IsLegal header entries × IsNext header entries entry))

-- the end of no entries is the start
abbrev pub EmptyEndsAtStart : Type 0
EmptyEndsAtStart = (header : Header) → end_of header [] ≡ start header

-- the end of an entry more is the table after its step
abbrev pub OneMoreEndsAfter : Type 0
OneMoreEndsAfter =
    (header : Header) (entries : List Entry) (entry : Entry)
    → end_of header (entries ++ entry ∷ []) ≡ (step_of entry.step (end_of header entries)).1

-- each entry of a legal history is made by one of the cores
abbrev pub CoresAreThere : Type 0
CoresAreThere =
    (header : Header) (entries : List Entry) → header_check header ≡ Ok tt → IsLegal header entries
    → All (λ entry. entry.core < header.config.cores) entries

-- each table on the way of a legal history is sound
abbrev pub LegalIsSound : Type 0
LegalIsSound =
    (header : Header) (entries : List Entry) → header_check header ≡ Ok tt → IsLegal header entries
    → IsSoundHistory header entries

-- the steps of a legal history are a session of its header
abbrev pub LegalIsSession : Type 0
LegalIsSession =
    (header : Header) (entries : List Entry) → IsCheckedHeader header → IsLegal header entries
    → IsSession (record { header = header; steps = steps_of entries })

-- a replay of that session gives each entry's reply at its place, and none past the last
abbrev pub RepliesAreKept : Type 0
RepliesAreKept =
    (header : Header) (entries : List Entry) (place : ℕ) → IsLegal header entries
    → reply_at header (steps_of entries) place
    ≡ option_map (λ entry. entry.reply) (slice_get entries place)

-- no entries have calls by the current tasks, and an entry more keeps that just where it may
abbrev pub NoneIsByCurrent : Type 0
NoneIsByCurrent = (header : Header) → AreByCurrent header []

abbrev pub OneMoreIsByCurrent : Type 0
OneMoreIsByCurrent = (header : Header) (entries : List Entry) (entry : Entry) →
    (AreByCurrent header (entries ++ entry ∷ [])
    ↔ (AreByCurrent header entries × IsByCurrent (end_of header entries).control entry.step))
