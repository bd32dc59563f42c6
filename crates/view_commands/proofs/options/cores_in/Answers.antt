use Rattle.std.proofs.Common.{rules, ◌≡◌, ◌∙◌, ◌++◌, ◌^◌, ◌-◌, [], true, map, Option, Some, refl, ap, sym, subst, codes, arith}
use Rattle.std.specs.Prelude.{IfSome, List, option_map, unwrap_or}
use Rattle.std.specs.List.{list_all}
use Rattle.std.proofs.lemmas.List.{append-nil}
use Rattle.clap.specs.Words.{Text, found_of, values_left}
use Rattle.clap.proofs.WalkLemmas.{typed_values-rows}
use Rattle.command_words.specs.Asking.{number_of}
use Rattle.command_words.proofs.NumberTexts.{all_read, none_fails}
use Rattle.view_commands.specs.Options.{is_number}
use Rattle.view_commands.proofs.options.cores_in.Goals as goal

pub returns-in_default : goal.returns-in_default
returns-in_default c =
    let row = c.get_many.ensures ∙ typed_values-rows (found_of c.args.options.now) (codes "core") in
    c.new-cores.ensures.items ∙ ap (λ all. map number_of (unwrap_or all [])) (ap (option_map values_left) (sym c.in_default.is) ∙ row)

pub loop-number-init : goal.loop-number-init
loop-number-init c =
    let row = c.get_many.ensures ∙ typed_values-rows (found_of c.args.options.now) (codes "core") in
    let given : Some (values_left c.in-Some.numbers) ≡ _ = ap (option_map values_left) (sym c.in-Some.is) ∙ row in
    let handed : c.into_iter-number-iterator.result ≡ c.in-Some.numbers = search rules in
    record {
      numbers = rw c.new-cores.ensures.items refl;
      taken = rw handed (subst (λ (texts : Option (List Text)). IfSome texts (λ texts. list_all is_number texts ≡ true)) (sym given) c.requires.cores);
    }

pub loop-number-preserved : goal.loop-number-preserved
loop-number-preserved c =
    absurd (none_fails 32 0 (2 ^ 32 - 1) (omega arith) (values_left c.loop-number.number-iterator) (values_left c.next.new.self) c.in-Some-number.number
    c.in_default-number.field-0 c.in-Some-number.ensures.steps c.loop-number.invariant.taken c.in_default-number.is)

pub returns : goal.returns
returns c =
    let row = c.get_many.ensures ∙ typed_values-rows (found_of c.args.options.now) (codes "core") in
    let handed : c.into_iter-number-iterator.result ≡ c.in-Some.numbers = search rules in
    let none = all_read 32 (values_left c.loop-number.number-iterator) (values_left c.next.new.self) c.in-None.ensures.steps in
    sym (append-nil c.loop-number.cores.items) ∙ ap (λ texts. c.loop-number.cores.items ++ map number_of texts) (sym none) ∙ c.loop-number.invariant.numbers
    ∙ ap (λ it. map number_of (values_left it)) handed
    ∙ ap (λ all. map number_of (unwrap_or all [])) (ap (option_map values_left) (sym c.in-Some.is) ∙ row)
