-- The sessions that rigs record, as stores have them. Each law is a clause of a public function.
use Rattle.std.specs.Prelude.{◌≡◌, ℕ, ◌≤◌, List, length, Ok, Err, if◌then◌else◌, option_map, slice_get}
use Rattle.bench_types.specs.declared.entry.Entry.{Entry}
use Rattle.bench_types.specs.declared.header.Header.{Header}
use Rattle.bench_types.specs.Header.{header_check}
use Rattle.bench_types.specs.Limits.{max_span, max_steps}
use Rattle.bench_types.specs.Name.{is_within}
use Rattle.bench_types.specs.Session.{Session}
use Rattle.bench_model.specs.History.{steps_of, IsLegal}
use Rattle.bench_model.specs.Meeting.{first_kept}
use Rattle.bench_model.specs.Session.{reply_at}
use Rattle.session_store.specs.declared.fault.OpenRefusal.TheVariants.{BadSpan}
use Rattle.session_store.specs.Opening.{at_no_step, open_check}

-- a legal history of a checked header, no longer than a session may be, is refused only with J3
abbrev pub RecordedIsOpened : Type 0
RecordedIsOpened =
    (header : Header) (entries : List Entry) (span : ℕ) → header_check header ≡ Ok tt
    → IsLegal header entries → length entries ≤ max_steps →
    open_check header (steps_of entries) span
    ≡ (if is_within 1 max_span span then Ok tt else Err (at_no_step BadSpan))

-- the replies of a store that opened it are those of its entries, and none past the last
abbrev pub RecordedReplies : Type 0
RecordedReplies =
    (header : Header) (entries : List Entry) (span place : ℕ) → IsLegal header entries →
    let opened : Session = record { header = header; steps = steps_of entries } in
    let session = (first_kept span opened).session in
    reply_at session.header session.steps place
    ≡ option_map (λ entry. entry.reply) (slice_get entries place)
