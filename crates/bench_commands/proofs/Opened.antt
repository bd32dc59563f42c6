-- A session that was read is opened, unless it has too many steps.
use Rattle.std.proofs.Common.{◌≡◌, ℕ, suc, ◌+◌, Bool, true, false, List, [], ◌∷◌, length, nat_le, nat_lt, Result, Ok, Err, refl, ap, ◌∙◌, arith}
use Rattle.std.specs.Prelude.{All, Some, if◌then◌else◌}
use Rattle.std.proofs.lemmas.Bool.Decides.{nat_tests}
use Rattle.std.specs.Result.{result_map_both}
use Rattle.bench_types.specs.declared.fault.Fault.{Fault}
use Rattle.bench_types.specs.declared.header.Header.{Header}
use Rattle.bench_types.specs.declared.kernel_data.Settings.{Settings}
use Rattle.bench_types.specs.declared.step.Step.{Step}
use Rattle.bench_types.specs.Header.{header_check}
use Rattle.bench_types.specs.Name.{is_within}
use Rattle.bench_types.specs.Session.{IsSession}
use Rattle.bench_types.specs.Step.{settings_of, step_check, ◌>>◌}
use Rattle.bench_types.specs.Limits.{max_span, max_steps}
use Rattle.session_store.specs.declared.fault.OpenRefusal.TheVariants.{Bench, BadSpan, TooLong}
use Rattle.session_store.specs.Opening.{at_no_step, steps_check, open_check}

-- no step is at fault
steps_fit : (settings : Settings) (at : ℕ) (steps : List Step) → All (λ step. step_check settings step ≡ Ok tt) steps → steps_check settings at steps ≡ Ok tt
steps_fit settings at [] all = refl
steps_fit settings at (step ∷ steps) all =
    let rest = steps_fit settings (at + 1) steps (λ k d within. all (suc k) d (omega arith)) in
    let first : step_check settings step ≡ Ok tt = all 0 step (omega arith) in
    ap (λ (check : Result (Unit {0}) Fault). result_map_both (λ _. tt) (λ fault. record { why = Bench fault; at = Some at }) check >> steps_check settings
    (at + 1) steps) first ∙ rest

pub opens : (header : Header) (steps : List Step) (span : ℕ) → IsSession (record { header = header; steps = steps }) → is_within 1 max_span span ≡ true → nat_le
    (length steps) max_steps ≡ true → open_check header steps span ≡ Ok tt
opens header steps span is spans few = rw (is.header.passes, spans, few) (steps_fit (settings_of header) 0 steps (λ k d short. (is.steps k d short).passes))

-- what was opened has no more steps than a session may have
pub few_steps : (header : Header) (steps : List Step) (span : ℕ) → open_check header steps span ≡ Ok tt → nat_lt max_steps (length steps) ≡ false
few_steps header steps span accepted = at (header_check header) (is_within 1 max_span span) (nat_le (length steps) max_steps) refl accepted
  where
    at : (fits : Result (Unit {0}) Fault) (spans few : Bool) → nat_le (length steps) max_steps ≡ few
        → (result_map_both (λ _. tt) (λ fault. at_no_step (Bench fault)) fits >> (if spans then Ok tt else Err (at_no_step BadSpan)) >>
        (if few then Ok tt else Err (at_no_step TooLong)) >> steps_check (settings_of header) 0 steps) ≡ Ok tt
        → nat_lt max_steps (length steps) ≡ false
    at fits spans true short passes = grind (arith, nat_tests, short)
    at (Err why) spans false long passes = absurd (cc passes)
    at (Ok done) true false long passes = absurd (cc passes)
    at (Ok done) false false long passes = absurd (cc passes)
