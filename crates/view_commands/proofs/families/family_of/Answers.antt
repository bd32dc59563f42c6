use Rattle.std.proofs.Common.{◌≡◌, ◌∙◌, Bool, true, false, List, Bor, Some, None, map, ap, sym, arith, if◌then◌else◌}
use Rattle.std.specs.List.{list_all}
use Rattle.clap.specs.Words.{Text}
use Rattle.ranked_changes.specs.declared.change.Family.{Family}
use Rattle.view_commands.specs.Families.{family_with, is_family, words_of}
use Rattle.view_commands.proofs.Texts.{lent_families}
use Rattle.view_commands.proofs.families.family_of.Goals as goal

pub returns-then-not-are_families : goal.returns-then-not-are_families
returns-then-not-are_families c =
    let text = c.args.text.now in
    let all = c.are_families.ensures ∙ ap (λ (words : List (Bor Text)). list_all (λ (w : Bor Text). is_family w.now) words) c.as_slice.ensures.value ∙
    lent_families c.in_ok-words.words.items ∙ ap (list_all is_family) c.in_ok-words.ensures in
    let no : c.are_families.result ≡ false = grind (arith, c.if-not-are_families.true) in
    sym (ap (λ (is : Bool). if is then Some (family_with (words_of text)) else None) (sym all ∙ no))

pub returns : goal.returns
returns c =
    let text = c.args.text.now in
    let all = c.are_families.ensures ∙ ap (λ (words : List (Bor Text)). list_all (λ (w : Bor Text). is_family w.now) words) c.as_slice.ensures.value ∙
    lent_families c.in_ok-words.words.items ∙ ap (list_all is_family) c.in_ok-words.ensures in
    let yes : c.are_families.result ≡ true = grind (arith, c.if-not-are_families.false) in
    let family = c.family_with.ensures ∙ ap (λ (words : List (Bor Text)). family_with (map (λ (w : Bor Text). w.now) words)) c.as_slice-2.ensures.value ∙ ap
    family_with c.in_ok-words.ensures in
    ap (λ (family : Family). Some family) family ∙ sym (ap (λ (is : Bool). if is then Some (family_with (words_of text)) else None) (sym all ∙ yes))
