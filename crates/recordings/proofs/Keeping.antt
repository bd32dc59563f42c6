-- What the fields of a recording keep, from its start and from step to step.
use Rattle.std.proofs.Common.{Bool, true, cond, eqb, Option, Some, None, ◌≡◌, ℕ, ◌≤◌, false, List, [], ◌∷◌, ◌++◌, length, refl, sym, ap, subst, ◌∙◌, arith}
use Rattle.std.specs.Option.{ForSome}
use Rattle.std.specs.Prelude.{Result, Ok, Err, IsErr}
use Rattle.std.proofs.lemmas.List.{length_push}
use Rattle.bench_types.specs.declared.entry.Entry.{Entry}
use Rattle.bench_types.specs.declared.header.Header.{Header}
use Rattle.bench_types.specs.declared.kernel_data.Hold.{Hold}
use Rattle.bench_types.specs.declared.reply.Reply.{Reply}
use Rattle.bench_types.specs.declared.step.Step.{Step}
use Rattle.bench_types.specs.declared.fault.Fault.{Fault}
use Rattle.bench_types.specs.Header.{header_check}
use Rattle.bench_types.specs.Step.{core_of, settings_of, IsCheckedStep}
use Rattle.bench_model.specs.Equal.{StandsFor}
use Rattle.bench_model.specs.History.{end_of, is_kept_out, places_of, AreByCurrent, IsByCurrent, IsLegal, IsNext}
use Rattle.bench_model.specs.Holds.{depth_of, depth_by, is_held_by}
use Rattle.bench_model.specs.Lists.{View}
use Rattle.bench_model.specs.Session.{step_of}
use Rattle.bench_model.specs.Sound.{IsHeldWell, IsSound}
use Rattle.bench_model.specs.Start.{start}
use Rattle.bench_model.specs.Table.{Table}
use Rattle.history_laws.proofs.KeptOut.{held_kept_out, start_free}
use Rattle.history_laws.proofs.Legal.{end_empty, end-push, legal_empty, legal-push}
use Rattle.history_laws.proofs.Recorded.{none_by_current, by_current_push}
use Rattle.history_laws.proofs.Room.{fits_room}
use Rattle.recordings.specs.Kept.{IsRecording}
use Rattle.recordings.specs.RecordingView.{RecordingView, entry_of, table_of, hold_of, room_of}

-- a check without a fault
pub no_fault : (check : Result (Unit {0}) Fault) → ¬ IsErr check → check ≡ Ok tt
no_fault (Ok done) none = refl
no_fault (Err why) none = absurd (none refl)

pub start_is_recording : (header : Header) (entries : List Entry) (limit capacity : ℕ) (kernel : View) → header_check header ≡ Ok tt → StandsFor kernel
    (start header) → kernel.settings ≡ settings_of header → entries ≡ [] → limit ≤ capacity → IsRecording header entries limit capacity kernel
start_is_recording header entries limit capacity kernel passes stands settings none memory =
    subst (λ (es : List Entry). IsRecording header es limit capacity kernel) (sym none) (record {
      passes = passes;
      stands = subst (StandsFor kernel) (sym (end_empty header)) stands;
      settings = settings;
      legal = legal_empty header;
      current = none_by_current header;
      memory = memory;
      closable = omega (arith, ap (λ (table : Table). depth_of table.hold) (end_empty header), ap depth_of (start_free header));
    })

-- a step that may be recorded next
pub record IsFit (view : RecordingView) (step : Step) : Type 0 where
  pub checked : IsCheckedStep (settings_of view.header) step
  pub current : IsByCurrent (table_of view).control step
  pub unheld : is_kept_out (hold_of view) step ≡ false
  pub room : places_of (hold_of view) step ≤ room_of view

pub fit_is_next : (view : RecordingView) (step : Step) → IsFit view step → IsNext view.header view.entries (entry_of step view)
fit_is_next view step fit = record {
  checked = fit.checked;
  own = refl;
  unheld = λ held. cc ((held_kept_out (table_of view) step).0 held, fit.unheld);
  reply = refl;
}

module _ (header : Header) (entries later : List Entry) (limit capacity room : ℕ) (kernel next : View) (step : Step) (core : ℕ) (reply : Reply) where
  abbrev before : RecordingView
  before = record { header = header; entries = entries; limit = limit }

  pub step_is_recording : IsRecording header entries limit capacity kernel → IsFit before step
      → core ≡ core_of step → reply ≡ (step_of step (end_of header entries)).0 → StandsFor next (step_of step (end_of header entries)).1 → next.settings ≡
      kernel.settings
      → later ≡ entries ++ (record { core = core; step = step; reply = reply }) ∷ [] → room ≡ capacity
      → IsRecording header later limit room next
  step_is_recording kept fit own replies stands settings more stays =
      let table = end_of header entries in
      let entry : Entry = entry_of step before in
      let push : ℕ → Reply → List Entry = λ core reply. entries ++ (record { core = core; step = step; reply = reply }) ∷ [] in
      let longer : later ≡ entries ++ entry ∷ [] = more ∙ ap (λ core. push core reply) own ∙ ap (push (core_of step)) replies in
      let ends : end_of header later ≡ (step_of step table).1 = ap (end_of header) longer ∙ end-push header entries entry in
      let fits = fits_room limit entries table step kept.stands.sound fit.current kept.closable fit.room in
      record {
        passes = kept.passes;
        stands = subst (StandsFor next) (sym ends) stands;
        settings = settings ∙ kept.settings;
        legal = subst (IsLegal header) (sym longer) (legal-push header entries entry kept.legal (fit_is_next before step fit));
        current = subst (AreByCurrent header) (sym longer) (by_current_push header entries entry kept.current fit.current);
        memory = omega (arith, kept.memory, stays);
        closable = omega (arith, ap length longer, length_push entries entry, ap (λ (t : Table). depth_of t.hold) ends, fits);
      }

-- a core that holds a sound table at no depth holds nothing
pub none_held : (core : ℕ) (table : Table) → IsSound table → depth_by core table.hold ≡ 0 → is_held_by core table.hold ≡ false
none_held core table sound none = at table.hold sound.held none
  where
    at : (hold : Option Hold) → ForSome hold (IsHeldWell table) → depth_by core hold ≡ 0 → is_held_by core hold ≡ false
    at None well none = refl
    at (Some hold) well none = by (eqb hold.core core) none
      where
        by : (b : Bool) → cond b hold.depth 0 ≡ 0 → b ≡ false
        by true none = let deep = (well hold refl).depth.0 in absurd (omega arith)
        by false none = refl
