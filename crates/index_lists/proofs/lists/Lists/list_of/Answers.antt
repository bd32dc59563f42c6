use Rattle.std.proofs.Common.{None, sym, ◌∙◌, arith}
use Rattle.std.proofs.lemmas.List.{get_or_read}
use Rattle.index_lists.proofs.Apart.{only_home, no_home, in_one_list}
use Rattle.index_lists.proofs.Looks.{seen_stand, list_of_home, list_of_none}
use Rattle.index_lists.proofs.lists.Lists.list_of.Goals as goal

pub returns-in-Some-clause-list : goal.returns-in-Some-clause-list
returns-in-Some-clause-list c =
    let homes = c.self.inside.homes.items in
    let stand = seen_stand _ _ homes _ _ c.self.view_is c.self.invariant in
    let home = sym (get_or_read homes c.args.item c.index.result.now (omega (arith, c.requires, stand.room)) c.index.ensures None) ∙ c.in-Some.is in
    sym (list_of_home _ _ _ _ _ _ stand c.args.item c.in-Some.home home)

pub returns-in-Some-clause-only : goal.returns-in-Some-clause-only
returns-in-Some-clause-only c list =
    let homes = c.self.inside.homes.items in
    let stand = seen_stand _ _ homes _ _ c.self.view_is c.self.invariant in
    let home = sym (get_or_read homes c.args.item c.index.result.now (omega (arith, c.requires, stand.room)) c.index.ensures None) ∙ c.in-Some.is in
    only_home _ _ _ _ _ _ stand c.args.item list c.in-Some.home home

pub returns-in-Some-clause-each : goal.returns-in-Some-clause-each
returns-in-Some-clause-each c = in_one_list _ _ _ _ _ _ (seen_stand _ _ c.self.inside.homes.items _ _ c.self.view_is c.self.invariant)

pub returns-in-None-clause-list : goal.returns-in-None-clause-list
returns-in-None-clause-list c =
    let homes = c.self.inside.homes.items in
    let stand = seen_stand _ _ homes _ _ c.self.view_is c.self.invariant in
    let home = sym (get_or_read homes c.args.item c.index.result.now (omega (arith, c.requires, stand.room)) c.index.ensures None) ∙ c.in-None.is in
    sym (list_of_none _ _ _ _ _ _ stand c.args.item home)

pub returns-in-None-clause-only : goal.returns-in-None-clause-only
returns-in-None-clause-only c list =
    let homes = c.self.inside.homes.items in
    let stand = seen_stand _ _ homes _ _ c.self.view_is c.self.invariant in
    let home = sym (get_or_read homes c.args.item c.index.result.now (omega (arith, c.requires, stand.room)) c.index.ensures None) ∙ c.in-None.is in
    (λ there. absurd (cc (there, no_home _ _ _ _ _ _ stand c.args.item list home)), λ same. absurd (cc (same)))

pub returns-in-None-clause-each : goal.returns-in-None-clause-each
returns-in-None-clause-each c = in_one_list _ _ _ _ _ _ (seen_stand _ _ c.self.inside.homes.items _ _ c.self.view_is c.self.invariant)
