-- A recorded session is opened, and its replies are those that were recorded.
use Rattle.std.proofs.Common.{◌≡◌, ℕ, ◌+◌, ◌≤◌, Bool, true, false, List, [], ◌∷◌, Some, length, nat_le, if◌then◌else◌, Result, Ok, Err, refl, sym, ap, ◌∙◌}
use Rattle.std.proofs.Common.{arith}
use Rattle.std.specs.Prelude.{All, option_map, slice_get}
use Rattle.std.specs.Result.{result_map_both}
use Rattle.std.proofs.lemmas.Bool.Decides.{nat_tests}
use Rattle.std.proofs.lemmas.List.{length-map}
use Rattle.std.proofs.lemmas.List.Elements.{All-head, All-map, All-tail}
use Rattle.bench_types.specs.declared.entry.Entry.{Entry}
use Rattle.bench_types.specs.declared.fault.Fault.{Fault}
use Rattle.bench_types.specs.declared.header.Header.{Header}
use Rattle.bench_types.specs.declared.kernel_data.Settings.{Settings}
use Rattle.bench_types.specs.declared.step.Step.{Step}
use Rattle.bench_types.specs.Header.{header_check}
use Rattle.bench_types.specs.Limits.{max_span, max_steps}
use Rattle.bench_types.specs.Name.{is_within}
use Rattle.bench_types.specs.Step.{settings_of, ◌>>◌, IsCheckedStep}
use Rattle.bench_model.specs.History.{steps_of, IsLegal}
use Rattle.bench_model.specs.Session.{reply_at}
use Rattle.session_store.specs.declared.fault.OpenRefusal.TheVariants.{Bench, BadSpan, TooLong}
use Rattle.session_store.specs.declared.fault.Refused.{Refused}
use Rattle.session_store.specs.Opening.{at_no_step, steps_check, open_check}

abbrev Checked : Type 0
Checked = Result (Unit {0}) Refused

abbrev shown : (Fault → Refused) → Result (Unit {0}) Fault → Checked
shown why check = result_map_both (λ _. tt) why check

abbrev chosen : Bool → Refused → Checked
chosen b why = if b then Ok tt else Err why

-- no step that was checked is at fault
none_at_fault : (settings : Settings) (at : ℕ) (steps : List Step) → All (IsCheckedStep settings) steps → steps_check settings at steps ≡ Ok tt
none_at_fault settings at [] all = refl
none_at_fault settings at (step ∷ steps) all =
    ap (λ check. shown (λ fault. record { why = Bench fault; at = Some at }) check >> steps_check settings (at + 1) steps)
    (All-head (IsCheckedStep settings) step steps all).passes
    ∙ none_at_fault settings (at + 1) steps (All-tail (IsCheckedStep settings) step steps all)

only_span : (b : Bool) (why : Refused) → ◌≡◌ {A = Checked} (Ok tt >> chosen b why >> Ok tt >> Ok tt) (chosen b why)
only_span true why = refl
only_span false why = refl

pub recorded_opened : (header : Header) (entries : List Entry) (span : ℕ) → header_check header ≡ Ok tt → IsLegal header entries → length entries ≤ max_steps →
    open_check header (steps_of entries) span ≡ chosen (is_within 1 max_span span) (at_no_step BadSpan)
recorded_opened header entries span passes legal few =
    let steps = steps_of entries in
    let settings = settings_of header in
    let spans = chosen (is_within 1 max_span span) (at_no_step BadSpan) in
    let short : nat_le (length steps) max_steps ≡ true = at_most in
    let checked = none_at_fault settings 0 steps (All-map (IsCheckedStep settings) (λ (entry : Entry). entry.step) entries legal.checked) in
    ap (λ check. shown (λ fault. at_no_step (Bench fault)) check >> spans >> chosen (nat_le (length steps) max_steps) (at_no_step TooLong) >> steps_check
    settings 0 steps) passes
    ∙ ap (λ b. Ok tt >> spans >> chosen b (at_no_step TooLong) >> steps_check settings 0 steps) short
    ∙ ap (λ check. Ok tt >> spans >> Ok tt >> check) checked
    ∙ only_span (is_within 1 max_span span) (at_no_step BadSpan)
  where
    at_most : nat_le (length (steps_of entries)) max_steps ≡ true
    at_most = let same = length-map entries (λ (entry : Entry). entry.step) in grind (arith, nat_tests, same, few)

pub recorded_replies : (header : Header) (entries : List Entry) (span place : ℕ) → IsLegal header entries → reply_at header (steps_of entries) place ≡
    option_map (λ (entry : Entry). entry.reply) (slice_get entries place)
recorded_replies header entries span place legal = sym (legal.replies place)
