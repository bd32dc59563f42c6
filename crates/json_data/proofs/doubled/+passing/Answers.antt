use Rattle.std.proofs.Common.{◌+◌, refl, arith}
use Rattle.json_data.proofs.Twice.{array_passed, goes_on, items_closed, items_past, items_turn, items_twice, leaf_passed, members_begin, members_closed}
use Rattle.json_data.proofs.Twice.{members_past, members_turn, members_twice, name_doubled, object_passed, value_past}
use Rattle.json_data.specs.declared.doubled.Passed.TheVariants.{Next}
use Rattle.json_data.proofs.doubled.+passing.Goals as goal

pub passed_value-returns-then-at-nodes-clause-passed :
    goal.passed_value-returns-then-at-nodes-clause-passed
passed_value-returns-then-at-nodes-clause-passed t c whole rest reads = absurd
    (value_past c.args.nodes.now c.args.at whole rest c.if-at-nodes.true reads)

pub passed_value-returns-in-Object-clause-passed : goal.passed_value-returns-in-Object-clause-passed
passed_value-returns-in-Object-clause-passed t c whole rest reads =
    object_passed c.passed_members.result c.args.nodes.now c.args.at c.in-Object.field-0 whole rest
    c.if-at-nodes.false c.in-Object.is reads c.passed_members.ensures.passed

pub passed_value-returns-in-Array-clause-passed : goal.passed_value-returns-in-Array-clause-passed
passed_value-returns-in-Array-clause-passed t c whole rest reads =
    array_passed c.passed_items.result c.args.nodes.now c.args.at c.in-Array.field-0 whole rest
    c.if-at-nodes.false c.in-Array.is reads c.passed_items.ensures.passed

pub passed_value-returns-in_default : goal.passed_value-returns-in_default
passed_value-returns-in_default t c = record {
  passed = λ whole rest reads. leaf_passed c.args.nodes.now c.args.at whole rest
      c.if-at-nodes.false (λ end is. grind arith) (λ end is. grind arith) reads;
  within = (omega arith, omega arith);
  further = λ low. (omega arith, omega arith);
}

pub passed_items-returns-in-EndArray-clause-passed :
    goal.passed_items-returns-in-EndArray-clause-passed
passed_items-returns-in-EndArray-clause-passed t c all rest reads =
    let l = c.loop-next in
    items_closed c.args.nodes.now c.args.at l.next all rest
    (l.invariant.left all rest reads) c.loop-next-test.true c.in-EndArray.is

pub passed_items-returns-in-Twice : goal.passed_items-returns-in-Twice
passed_items-returns-in-Twice t c =
    let l = c.loop-next in
    record {
      passed = λ all rest reads. items_twice c.args.nodes.now c.args.at l.next c.in-Twice.doubled
          c.in_ok-item.item all rest (l.invariant.left all rest reads) c.loop-next-test.true
          (λ is. grind arith) c.in_ok-item.ensures.passed c.in-Twice.is;
      within = tt;
    }

pub passed_items-loop-next-preserved : goal.passed_items-loop-next-preserved
passed_items-loop-next-preserved t c =
    let l = c.loop-next in
    let goes = goes_on c.in_ok-item.item _ _ c.in-Next.after c.in-Next.is
    (c.in_ok-item.ensures.further c.loop-next-test.true) in
    record {
      ordered = omega (arith, goes.0, l.invariant.ordered);
      within = goes.1;
      left = λ all rest reads. items_turn c.args.nodes.now c.args.at l.next c.in-Next.after
          c.in_ok-item.item all rest (l.invariant.left all rest reads) c.loop-next-test.true
          (λ is. grind arith) c.in_ok-item.ensures.passed c.in-Next.is;
    }

pub passed_items-returns-clause-passed : goal.passed_items-returns-clause-passed
passed_items-returns-clause-passed t c all rest reads =
    let l = c.loop-next in
    absurd (items_past c.args.nodes.now c.args.at l.next all rest
    (l.invariant.left all rest reads) c.loop-next-test.false)

pub passed_members-loop-next-init : goal.passed_members-loop-next-init
passed_members-loop-next-init t c = record {
  ordered = omega arith;
  within = c.requires;
  left = λ all rest reads. members_begin _ c.args.at c.none-names.result all rest
      c.none-names.ensures reads;
}

pub passed_members-returns-in_default : goal.passed_members-returns-in_default
passed_members-returns-in_default t c =
    let l = c.loop-next in
    record {
      passed = λ all rest reads. members_closed c.args.nodes.now c.args.at l.next l.names all rest
          (l.invariant.left all rest reads) c.loop-next-test.true (λ key is. grind arith);
      within = (omega (arith, l.invariant.ordered), omega arith);
    }

pub passed_members-returns-then-branch-clause-passed :
    goal.passed_members-returns-then-branch-clause-passed
passed_members-returns-then-branch-clause-passed t c all rest reads =
    let l = c.loop-next in
    name_doubled c.args.nodes.now c.args.at l.next c.in-Key.name l.names all rest
    (l.invariant.left all rest reads) c.loop-next-test.true c.in-Key.is (grind arith)

pub passed_members-returns-in-Twice-clause-passed :
    goal.passed_members-returns-in-Twice-clause-passed
passed_members-returns-in-Twice-clause-passed t c all rest reads =
    let l = c.loop-next in
    members_twice c.args.nodes.now c.args.at l.next c.in-Twice.within c.in_ok-member.member
    c.in-Key.name l.names all rest
    (l.invariant.left all rest reads) c.loop-next-test.true c.in-Key.is
    (grind arith) c.in_ok-member.ensures.passed
    c.in-Twice.is

pub passed_members-loop-next-preserved-then-is_leaf :
    goal.passed_members-loop-next-preserved-then-is_leaf
passed_members-loop-next-preserved-then-is_leaf t c =
    let l = c.loop-next in
    let low = c.is_leaf.ensures.within c.if-is_leaf.true in
    record {
      ordered = omega (arith, l.invariant.ordered);
      within = omega (arith, low);
      left = λ all rest reads. members_turn c.args.nodes.now c.args.at l.next (l.next + 2)
          (Next (l.next + 2)) c.in-Key.name l.names c.add.new.self all rest
          (l.invariant.left all rest reads) c.loop-next-test.true c.in-Key.is (grind arith)
          c.in_ok-add.ensures.there
          (λ whole more reads.
          let leaf = c.is_leaf.ensures.passed c.if-is_leaf.true whole more reads in
          (leaf.0, omega (arith, leaf.1)))
          refl;
    }

pub passed_members-loop-next-preserved : goal.passed_members-loop-next-preserved
passed_members-loop-next-preserved t c =
    let l = c.loop-next in
    let goes = goes_on c.in_ok-member.member _ _ c.in-Next.after c.in-Next.is
    c.in_ok-member.ensures.within in
    record {
      ordered = omega (arith, goes.0, l.invariant.ordered);
      within = goes.1;
      left = λ all rest reads. members_turn c.args.nodes.now c.args.at l.next c.in-Next.after
          c.in_ok-member.member c.in-Key.name l.names c.add.new.self all rest
          (l.invariant.left all rest reads) c.loop-next-test.true c.in-Key.is (grind arith)
          c.in_ok-add.ensures.there c.in_ok-member.ensures.passed c.in-Next.is;
    }

pub passed_members-returns-clause-passed : goal.passed_members-returns-clause-passed
passed_members-returns-clause-passed t c all rest reads =
    let l = c.loop-next in
    absurd (members_past c.args.nodes.now c.args.at l.next l.names all rest
    (l.invariant.left all rest reads) c.loop-next-test.false)
