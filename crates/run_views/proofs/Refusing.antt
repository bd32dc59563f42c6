-- Steps that are made until one is refused.
use Rattle.std.proofs.Common.{◌≡◌, ℕ, ◌+◌, ◌≤◌, ◌<◌, Bool, true, false, List, [], ◌∷◌, length, take, get_or, Some, None, refl, ap, sym, subst, ◌∙◌, arith, inl}
use Rattle.std.proofs.Common.{inr}
use Rattle.std.specs.Prelude.{IsTrue, ◌↔◌, option_map}
use Rattle.std.proofs.lemmas.Bool.{cases_lt}
use Rattle.std.proofs.lemmas.List.{take_more}
use Rattle.std.proofs.lemmas.List.Sums.{fold-append}
use Rattle.std.proofs.lemmas.Option.{slice_get-get_or, slice_get_past}
use Rattle.bench_types.specs.declared.header.Header.{Header}
use Rattle.bench_types.specs.declared.reply.Refusal.{Refusal}
use Rattle.bench_types.specs.declared.reply.Reply.{Reply}
use Rattle.bench_types.specs.declared.reply.Reply.TheVariants.{Done, Blocked, Flag, Value, Waited, Until, Isr, Refused}
use Rattle.bench_types.specs.declared.step.Step.{Step}
use Rattle.bench_model.specs.Equal.{StandsFor}
use Rattle.bench_model.specs.Lists.{View}
use Rattle.bench_model.specs.Session.{reply_at, state_after, state_at, step_of}
use Rattle.bench_model.specs.Start.{start}
use Rattle.bench_model.specs.Table.{Table}
use Rattle.run_views.specs.RefusedSteps.{is_refusal, reply_from, HasRefusedStep, IsRefusedFrom}

-- none of so many steps is refused, and the kernel has made them
pub record NoneRefused (first : View) (steps : List Step) (kernel : View) (index : ℕ) : Type 0 where
  pub settings : kernel.settings ≡ first.settings
  pub stands : (table : Table) → StandsFor first table → StandsFor kernel (state_after table (take index steps))
  pub none : (table : Table) (place : ℕ) (why : Refusal) → StandsFor first table → place < index → reply_from table steps place ≡ Some (Refused why) → ⊥

reason : (reply : Reply) → is_refusal reply ≡ true → (why : Refusal) × (reply ≡ Refused why)
reason Done is = absurd (cc is)
reason Blocked is = absurd (cc is)
reason (Flag flag) is = absurd (cc is)
reason (Value value) is = absurd (cc is)
reason (Waited ok value) is = absurd (cc is)
reason (Until delayed wake) is = absurd (cc is)
reason (Isr pass pend) is = absurd (cc is)
reason (Refused why) is = (why, refl)

-- the reply of the next step
reply_next : (table : Table) (steps : List Step) (index : ℕ) (d : Step) → index < length steps → reply_from table steps index ≡ Some
    ((step_of (get_or steps index d) (state_after table (take index steps))).0)
reply_next table steps index d within = ap (option_map (λ (step : Step). (step_of step (state_after table (take index steps))).0))
    (slice_get-get_or steps index d within)

-- the next step is refused
pub refused_here : {first : View} {steps : List Step} {kernel : View} {index : ℕ} (d : Step) (reply : Reply) → NoneRefused first steps kernel index → index <
    length steps
    → ((table : Table) → StandsFor kernel table → reply ≡ (step_of (get_or steps index d) table).0) → is_refusal reply ≡ true → (table : Table) → StandsFor
    first table → IsRefusedFrom table steps
refused_here {first} {steps} {kernel} {index} d reply were within replies is table stands =
    let why = reason reply is in
    let printed = replies (state_after table (take index steps)) (were.stands table stands) in
    (index, why.0, reply_next table steps index d within ∙ ap Some (sym printed ∙ why.1))

-- the next step is not refused
pub passed_on : {first : View} {steps : List Step} {kernel : View} {index : ℕ} (later : View) (d : Step) (reply : Reply) → NoneRefused first steps kernel index
    → index < length steps → later.settings ≡ kernel.settings
    → ((table : Table) → StandsFor kernel table → StandsFor later (step_of (get_or steps index d) table).1) →
    ((table : Table) → StandsFor kernel table → reply ≡ (step_of (get_or steps index d) table).0) → is_refusal reply ≡ false → NoneRefused first steps later
    (index + 1)
passed_on {first} {steps} {kernel} {index} later d reply were within settings moves replies not = record {
  settings = settings ∙ were.settings;
  stands = λ table stands.
      let move : Table → Step → Table = λ table step. (step_of step table).1 in
      subst (λ (now : Table). StandsFor later now)
      (sym (ap (state_after table) (take_more steps index d within) ∙ fold-append move table (take index steps) (get_or steps index d ∷ [])))
      (moves (state_after table (take index steps)) (were.stands table stands));
  none = λ table place why stands before refused. elim (cases_lt place index) [
    | inl early ↦ were.none table place why stands early refused
    | inr past ↦
        let here : place ≡ index = omega (arith, past, before) in
        let printed = replies (state_after table (take index steps)) (were.stands table stands) in
        let at : reply_from table steps index ≡ Some (Refused why) = subst (λ (n : ℕ). reply_from table steps n ≡ Some (Refused why)) here refused in
        let both : Some reply ≡ Some (Refused why) = ap Some printed ∙ sym (reply_next table steps index d within) ∙ at in
        let same : reply ≡ Refused why = cc both in
        let is : is_refusal reply ≡ true = ap is_refusal same in
        absurd (cc (is, not))
  ];
}

-- no step is refused
pub none_refused : {first : View} {steps : List Step} {kernel : View} (index : ℕ) → NoneRefused first steps kernel index → length steps ≤ index →
    (table : Table) → StandsFor first table → IsRefusedFrom table steps → ⊥
none_refused {first} {steps} {kernel} index were past table stands refused =
    elim (cases_lt refused.0 (length steps)) [
      | inl within ↦ were.none table refused.0 refused.1 stands (omega (arith, within, past)) refused.2
      | inr beyond ↦
          let none : reply_from table steps refused.0 ≡ None = ap (option_map (λ (step : Step). (step_of step (state_after table (take refused.0 steps))).0))
          (slice_get_past steps refused.0 beyond) in
          absurd (cc (none, refused.2))
    ]

pub printed_yes : {P : Type 0} → P → IsTrue true ↔ P
printed_yes p = (λ is. p, λ some. refl)

pub printed_no : {P : Type 0} → (P → ⊥) → IsTrue false ↔ P
printed_no none = (λ is. absurd (cc is), λ some. absurd (none some))

-- the steps of a session begin at its start
pub session_printed : (header : Header) (steps : List Step) (found : Bool) → (IsTrue found ↔ IsRefusedFrom (start header) steps) → IsTrue found ↔ HasRefusedStep
    header steps
unfolding reply_at state_at
session_printed header steps found printed = printed
