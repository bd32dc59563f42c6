use Rattle.std.proofs.Common.{None, sym, ◌∙◌, arith}
use Rattle.std.proofs.lemmas.List.{get_or_read}
use Rattle.index_lists.proofs.Apart.{in_one_list}
use Rattle.index_lists.proofs.Looks.{seen_stand, key_of_home, key_of_none}
use Rattle.index_lists.proofs.lists.Lists.key_of.Goals as goal

pub returns-in-Some-clause-key : goal.returns-in-Some-clause-key
returns-in-Some-clause-key c =
    let homes = c.self.inside.homes.items in
    let stand = seen_stand _ _ homes _ _ c.self.view_is c.self.invariant in
    let home = sym (get_or_read homes c.args.item c.index.result.now (omega (arith, c.requires, stand.room)) c.index.ensures None) ∙ c.in-Some.is in
    sym (key_of_home _ _ _ _ _ _ stand c.args.item c.in-Some.home home)

pub returns-in-None-clause-key : goal.returns-in-None-clause-key
returns-in-None-clause-key c =
    let homes = c.self.inside.homes.items in
    let stand = seen_stand _ _ homes _ _ c.self.view_is c.self.invariant in
    let home = sym (get_or_read homes c.args.item c.index.result.now (omega (arith, c.requires, stand.room)) c.index.ensures None) ∙ c.in-None.is in
    sym (key_of_none _ _ _ _ _ _ stand c.args.item home)

pub returns-in-Some-clause-each : goal.returns-in-Some-clause-each
returns-in-Some-clause-each c = in_one_list _ _ _ _ _ _ (seen_stand _ _ c.self.inside.homes.items _ _ c.self.view_is c.self.invariant)

pub returns-in-None-clause-each : goal.returns-in-None-clause-each
returns-in-None-clause-each c = in_one_list _ _ _ _ _ _ (seen_stand _ _ c.self.inside.homes.items _ _ c.self.view_is c.self.invariant)
