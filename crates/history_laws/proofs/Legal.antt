-- A history is legal entry by entry.
use Rattle.std.proofs.Common.{◌≡◌, ℕ, zero, suc, List, [], ◌∷◌, ◌++◌, ◌<◌, length, take, Some, refl, sym, ap, subst, ◌∙◌, arith}
use Rattle.std.specs.Prelude.{All, ◌↔◌, ◌≢◌, Ok, option_map, slice_get, slice_index_or}
use Rattle.std.proofs.lemmas.List.Elements.{All-nil, All-push, All-get_or, All-take, All-same}
use Rattle.std.proofs.lemmas.List.{length-append, map-append}
use Rattle.std.proofs.lemmas.Option.{same_Some}
use Rattle.std.proofs.lemmas.List.Sums.{fold-append}
use Rattle.std.proofs.Math.Seq.{take-append_seam, get_or-append_seam}
use Rattle.bench_types.specs.declared.entry.Entry.{Entry}
use Rattle.bench_types.specs.declared.header.Header.{Header}
use Rattle.bench_types.specs.declared.reply.Refusal.TheVariants.{Held}
use Rattle.bench_types.specs.declared.reply.Reply.TheVariants.{Refused}
use Rattle.bench_types.specs.Header.{header_check}
use Rattle.bench_types.specs.Step.{core_of, settings_of, step_check, core_check, note_check, queue_check, resume_check, task_check, call_check, ◌>>◌, IsCheckedStep}
use Rattle.bench_types.proofs.Passes.{both_pass, checked_core, checked_header}
use Rattle.bench_types.specs.declared.step.Step.{Step}
use Rattle.bench_types.specs.declared.step.Step.TheVariants.{Tick, Switch, Interrupt, QueueInterrupt, ResumeInterrupt, Pass}
use Rattle.bench_types.specs.declared.step.Step.TheVariants as steps
use Rattle.bench_model.specs.History.{steps_of, end_of, IsLegal, IsNext}
use Rattle.bench_model.specs.Session.{step_of, state_after, state_at, reply_at}
use Rattle.bench_model.specs.Start.{start}
use Rattle.bench_model.specs.Table.{Table}

pub end_empty : (header : Header) → end_of header [] ≡ start header
unfolding end_of
end_empty header = refl

pub steps-push : (entries : List Entry) (entry : Entry) → steps_of (entries ++ entry ∷ []) ≡ steps_of entries ++ entry.step ∷ []
steps-push entries entry = map-append (λ (entry : Entry). entry.step) entries (entry ∷ [])

pub end-push : (header : Header) (entries : List Entry) (entry : Entry) → end_of header (entries ++ entry ∷ []) ≡ (step_of entry.step (end_of header entries)).1
unfolding end_of
end-push header entries entry =
    ap (λ steps. state_after (start header) steps) (steps-push entries entry)
    ∙ fold-append (λ (table : Table) (step : Step). (step_of step table).1) (start header) (steps_of entries) (entry.step ∷ [])

-- what holds of each item and of one more
module _ {X : Type 0} (P : X → Type 0) where
  pub All_front : (first rest : List X) → All P (first ++ rest) → All P first
  All_front first rest all = All-same P first (take (length first) (first ++ rest)) (sym (take-append_seam first rest))
      (All-take P (length first) (first ++ rest) all)

  All_last : (items : List X) (item : X) → All P (items ++ item ∷ []) → P item
  All_last items item all = subst P (get_or-append_seam items item [] item)
      (All-get_or P (items ++ item ∷ []) (length items) item (omega (arith, length-append items (item ∷ []))) all)

-- the replies of entries are those of their steps from a table on, place by place
abbrev Answers : Table → List Entry → Type 0
Answers table entries = (place : ℕ) → option_map (λ (entry : Entry). entry.reply) (slice_get entries place) ≡ option_map
    (λ (step : Step). (step_of step (state_after table (take place (steps_of entries)))).0) (slice_get (steps_of entries) place)

answers-push : (entries : List Entry) (table : Table) (entry : Entry) → Answers table entries → entry.reply ≡
    (step_of entry.step (state_after table (steps_of entries))).0 → Answers table (entries ++ entry ∷ [])
answers-push [] table entry answers reply zero = ap Some reply
answers-push [] table entry answers reply (suc place) = refl
answers-push (first ∷ entries) table entry answers reply zero = answers zero
answers-push (first ∷ entries) table entry answers reply (suc place) = answers-push entries (step_of first.step table).1 entry (λ place. answers (suc place))
    reply place

answers_front : (entries : List Entry) (table : Table) (entry : Entry) → Answers table (entries ++ entry ∷ []) → Answers table entries
answers_front [] table entry answers place = refl
answers_front (first ∷ entries) table entry answers zero = answers zero
answers_front (first ∷ entries) table entry answers (suc place) = answers_front entries (step_of first.step table).1 entry (λ place. answers (suc place)) place

answers_last : (entries : List Entry) (table : Table) (entry : Entry) → Answers table (entries ++ entry ∷ []) → entry.reply ≡
    (step_of entry.step (state_after table (steps_of entries))).0
answers_last [] table entry answers = same_Some entry.reply (step_of entry.step table).0 (answers zero)
answers_last (first ∷ entries) table entry answers = answers_last entries (step_of first.step table).1 entry (λ place. answers (suc place))

-- what is to hold of each entry by itself
abbrev IsChecked : Header → Entry → Type 0
IsChecked header entry = IsCheckedStep (settings_of header) entry.step

abbrev IsOwn : Entry → Type 0
IsOwn entry = entry.core ≡ core_of entry.step

abbrev IsUnheld : Entry → Type 0
IsUnheld entry = entry.reply ≢ Refused Held

pub legal_empty : (header : Header) → IsLegal header []
unfolding reply_at
legal_empty header = record { checked = All-nil (IsChecked header); own = All-nil IsOwn; unheld = All-nil IsUnheld; replies = λ place. refl }

pub legal-push : (header : Header) (entries : List Entry) (entry : Entry) → IsLegal header entries → IsNext header entries entry → IsLegal header
    (entries ++ entry ∷ [])
unfolding reply_at state_at end_of
legal-push header entries entry legal next = record {
  checked = All-push (IsChecked header) entries entry legal.checked next.checked;
  own = All-push IsOwn entries entry legal.own next.own;
  unheld = All-push IsUnheld entries entry legal.unheld next.unheld;
  replies = answers-push entries (start header) entry legal.replies next.reply;
}

pub legal_parts : (header : Header) (entries : List Entry) (entry : Entry) → IsLegal header (entries ++ entry ∷ []) → IsLegal header entries × IsNext header
    entries entry
unfolding reply_at state_at end_of
legal_parts header entries entry legal = (
  record {
    checked = All_front (IsChecked header) entries (entry ∷ []) legal.checked;
    own = All_front IsOwn entries (entry ∷ []) legal.own;
    unheld = All_front IsUnheld entries (entry ∷ []) legal.unheld;
    replies = answers_front entries (start header) entry legal.replies;
  },
  record {
    checked = All_last (IsChecked header) entries entry legal.checked;
    own = All_last IsOwn entries entry legal.own;
    unheld = All_last IsUnheld entries entry legal.unheld;
    reply = answers_last entries (start header) entry legal.replies;
  },
)

pub one_more_legal : (header : Header) (entries : List Entry) (entry : Entry) →
    (IsLegal header (entries ++ entry ∷ []) ↔ (IsLegal header entries × IsNext header entries entry))
one_more_legal header entries entry = (legal_parts header entries entry, λ both. legal-push header entries entry both.0 both.1)

-- the core of a checked step is one of the cores
core_there : (header : Header) (step : Step) → 0 < header.config.cores → step_check (settings_of header) step ≡ Ok tt → core_of step < header.config.cores
core_there header Tick some checked = some
core_there header (Switch core) some checked = checked_core (settings_of header) core checked
core_there header (steps.Call core task call) some checked =
    let settings = settings_of header in
    checked_core settings core (both_pass (core_check settings core) (task_check settings task)
    (both_pass (core_check settings core >> task_check settings task) (call_check settings call) checked).0).0
core_there header (Interrupt core note) some checked =
    let settings = settings_of header in
    checked_core settings core (both_pass (core_check settings core) (note_check settings note) checked).0
core_there header (QueueInterrupt core queue direction) some checked =
    let settings = settings_of header in
    checked_core settings core (both_pass (core_check settings core) (queue_check settings queue) checked).0
core_there header (ResumeInterrupt core task) some checked =
    let settings = settings_of header in
    checked_core settings core (both_pass (core_check settings core) (resume_check settings task) checked).0
core_there header (Pass units) some checked = some

pub cores_there : (header : Header) (entries : List Entry) → header_check header ≡ Ok tt → IsLegal header entries → All
    (λ entry. entry.core < header.config.cores) entries
cores_there header entries passes legal place other below =
    subst (λ core. core < header.config.cores) (sym (legal.own place other below))
    (core_there header (slice_index_or entries place other).step (checked_header header passes).some_core (legal.checked place other below).passes)
