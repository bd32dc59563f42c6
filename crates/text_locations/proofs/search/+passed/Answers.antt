use Rattle.std.proofs.Common.{◌≡◌, ◌+◌, ◌<◌, [], ◌∷◌, length, Some, None, true, false, option_map, refl, sym, ap, ap₂, ◌∙◌, subst, arith, rules}
use Rattle.std.specs.Prelude.{IfOk}
use Rattle.std.proofs.lemmas.Bool.Decides.{nat_tests}
use Rattle.json.specs.Token.{Token}
use Rattle.json.specs.Json.{array, object, no_items, no_members, parse_map, after_end_array, read_key, items, members, value}
use Rattle.json.specs.Json as json
use Rattle.json.specs.Reads.{token_of}
use Rattle.json.proofs.Grammar.{after_end_array-shorter, closed_array, items_end, items_fail, members_end, members_fail, members_no_key, read_key_is, value_is}
use Rattle.json.proofs.Grammar.{value-begin_array, value-begin_object}
use Rattle.text_locations.specs.Leads.{wanted_at}
use Rattle.text_locations.specs.Path.{is_named, itself, itself_or_lacking, next_parts, parts}
use Rattle.text_locations.specs.Parts.{target_of}
use Rattle.text_locations.specs.Walk.{Passes, items_lead, members_lead}
use Rattle.text_locations.specs.declared.search.Passed.{Passed}
use Rattle.text_locations.proofs.Walks.{walk_begins, walk_ends, walk_fails, items_begin, items_lead_end, wanted_item, item_before, item_turn, members_begin}
use Rattle.text_locations.proofs.Walks.{members_lead_end, wanted_member, other_member, member_turn, array_passed, object_passed, is_leaf, leaf_passed, ok_more}
use Rattle.text_locations.proofs.Walks.{passed_size}
use Rattle.text_locations.proofs.search.+passed.Goals as goal

pub passed_items-loop-path-init : goal.passed_items-loop-path-init
passed_items-loop-path-init t c =
    let target = target_of c.args.target in (
      walk_begins (λ n. items (value c.args.depth) n c.args.reader.now) c.args.reader.now (λ all. wanted_at target c.args.at (array all))
          (items_lead c.index-before.result (parts c.rest-path.result.now) (c.args.at + 1) c.itself-found.result)
          (λ all. items_begin target c.args.at all ∙ ap (λ b. items_lead b (next_parts target) (c.args.at + 1) (itself target c.args.at) all)
          (sym c.index-before.ensures)
          ∙ ap (λ r. items_lead c.index-before.result r (c.args.at + 1) (itself target c.args.at) all) (sym c.rest-path.ensures)
          ∙ ap (λ f. items_lead c.index-before.result (parts c.rest-path.result.now) (c.args.at + 1) f all) (sym c.itself-found.ensures)),
      refl,
      omega arith,
    )

pub passed_items-loop-path-preserved-in-Some-eq0 : goal.passed_items-loop-path-preserved-in-Some-eq0
passed_items-loop-path-preserved-in-Some-eq0 t c =
    let p = value c.args.depth in
    let l = c.loop-path in
    let w = l.invariant.0 in
    let going : (after_end_array l.reader ≡ None) × (c.take_end_array.new.self ≡ l.reader) = grind arith in
    let item = c.in_ok-item-in-Some-eq0.item in
    let done = c.in_ok-item-in-Some-eq0.ensures in
    let new = c.passed_value.new.reader in
    let less : length new < length l.reader = rw (← going.1) done.shorter in
    let from : Passes (p l.reader) l.next (length l.reader) new (wanted_at (Some (parts c.rest-path.result.now)) l.next) item = rw (← going.1) done.ok in
    let size = passed_size c.args.depth l.next item.next l.reader new from.whole from.is from.next in
    let here : l.before ≡ Some 0 = grind arith in (
      item_turn c.args.depth l.reader new from.whole w going.0 from.is less
          (λ all. ap (λ b. items_lead b (parts c.rest-path.result.now) l.next l.found (json.item from.whole all)) here ∙ wanted_item
          (parts c.rest-path.result.now) l.next item.next l.found item.found from.whole all from.found),
      omega (arith, from.next, l.invariant.1),
      omega (arith, less, l.invariant.2),
    )

pub passed_items-loop-path-preserved-in-Some : goal.passed_items-loop-path-preserved-in-Some
passed_items-loop-path-preserved-in-Some t c =
    let p = value c.args.depth in
    let l = c.loop-path in
    let w = l.invariant.0 in
    let going : (after_end_array l.reader ≡ None) × (c.take_end_array.new.self ≡ l.reader) = grind arith in
    let item = c.in_ok-item-in-Some.item in
    let done = c.in_ok-item-in-Some.ensures in
    let new = c.passed_value-in-Some.new.reader in
    let less : length new < length l.reader = rw (← going.1) done.shorter in
    let from : Passes (p l.reader) l.next (length l.reader) new (wanted_at None l.next) item = rw (← going.1) done.ok in
    let size = passed_size c.args.depth l.next item.next l.reader new from.whole from.is from.next in
    let here : l.before ≡ Some c.in-Some.count = grind arith in
    let some : 0 < c.in-Some.count = first_of (grind (arith, nat_tests), search rules) in (
      item_turn c.args.depth l.reader new from.whole w going.0 from.is less
          (λ all. ap (λ b. items_lead b (parts c.rest-path.result.now) l.next l.found (json.item from.whole all)) here ∙ item_before c.in-Some.count
          (parts c.rest-path.result.now) l.next item.next l.found from.whole all some size),
      omega (arith, from.next, l.invariant.1),
      omega (arith, less, l.invariant.2),
    )

pub passed_items-loop-path-preserved : goal.passed_items-loop-path-preserved
passed_items-loop-path-preserved t c =
    let p = value c.args.depth in
    let l = c.loop-path in
    let w = l.invariant.0 in
    let going : (after_end_array l.reader ≡ None) × (c.take_end_array.new.self ≡ l.reader) = grind arith in
    let item = c.in_ok-item-in-None.item in
    let done = c.in_ok-item-in-None.ensures in
    let new = c.passed_value-in-None.new.reader in
    let less : length new < length l.reader = rw (← going.1) done.shorter in
    let from : Passes (p l.reader) l.next (length l.reader) new (wanted_at None l.next) item = rw (← going.1) done.ok in
    let size = passed_size c.args.depth l.next item.next l.reader new from.whole from.is from.next in
    let here : l.before ≡ None = grind arith in (
      item_turn c.args.depth l.reader new from.whole w going.0 from.is less
          (λ all. ap (λ b. items_lead b (parts c.rest-path.result.now) l.next l.found (json.item from.whole all)) here ∙ ap
          (λ b. items_lead b (parts c.rest-path.result.now) item.next l.found all) (sym here)),
      omega (arith, from.next, l.invariant.1),
      omega (arith, less, l.invariant.2),
    )

pub passed_items-returns-in_err-item-in-Some-eq0-clause-invalid : goal.passed_items-returns-in_err-item-in-Some-eq0-clause-invalid
passed_items-returns-in_err-item-in-Some-eq0-clause-invalid t c _ =
    let p = value c.args.depth in
    let l = c.loop-path in
    let w = l.invariant.0 in
    let going : (after_end_array l.reader ≡ None) × (c.take_end_array.new.self ≡ l.reader) = grind arith in
    walk_fails w (items_fail p w.turns l.reader going.0 (rw (← going.1) (c.in_err-item-in-Some-eq0.ensures.invalid refl)))

pub passed_items-returns-in_err-item-in-Some-clause-invalid : goal.passed_items-returns-in_err-item-in-Some-clause-invalid
passed_items-returns-in_err-item-in-Some-clause-invalid t c _ =
    let p = value c.args.depth in
    let l = c.loop-path in
    let w = l.invariant.0 in
    let going : (after_end_array l.reader ≡ None) × (c.take_end_array.new.self ≡ l.reader) = grind arith in
    walk_fails w (items_fail p w.turns l.reader going.0 (rw (← going.1) (c.in_err-item-in-Some.ensures.invalid refl)))

pub passed_items-returns-in_err-item-in-None-clause-invalid : goal.passed_items-returns-in_err-item-in-None-clause-invalid
passed_items-returns-in_err-item-in-None-clause-invalid t c _ =
    let p = value c.args.depth in
    let l = c.loop-path in
    let w = l.invariant.0 in
    let going : (after_end_array l.reader ≡ None) × (c.take_end_array.new.self ≡ l.reader) = grind arith in
    walk_fails w (items_fail p w.turns l.reader going.0 (rw (← going.1) (c.in_err-item-in-None.ensures.invalid refl)))

pub passed_items-returns-clause-ok : goal.passed_items-returns-clause-ok
passed_items-returns-clause-ok t c =
    let p = value c.args.depth in
    let l = c.loop-path in
    let w = l.invariant.0 in
    let r = c.take_end_array.new.self in
    let ends : after_end_array l.reader ≡ Some r = grind arith in
    let taken = ap length (closed_array l.reader r ends) in
    walk_ends w no_items (c.args.at + 1) (length c.args.reader.now) r (record { next = l.next + 1; found = l.found })
    (items_end p w.turns l.reader r w.enough ends)
    (omega (arith, taken, l.invariant.1)) (items_lead_end l.before (parts c.rest-path.result.now) l.next l.found)

pub passed_items-returns-clause-shorter : goal.passed_items-returns-clause-shorter
passed_items-returns-clause-shorter t c =
    let l = c.loop-path in
    let ends : after_end_array l.reader ≡ Some c.take_end_array.new.self = grind arith in
    omega (arith, after_end_array-shorter l.reader c.take_end_array.new.self ends, l.invariant.2)

pub passed_members-loop-key-init : goal.passed_members-loop-key-init
passed_members-loop-key-init t c =
    let target = target_of c.args.target in (
      walk_begins (λ n. members (value c.args.depth) n c.args.reader.now) c.args.reader.now (λ all. wanted_at target c.args.at (object all))
          (members_lead (option_map (λ name. name.now) c.name-name.result) (parts c.rest-path.result.now) (c.args.at + 1) c.itself_or_lacking-found.result)
          (λ all. members_begin target c.args.at all ∙ ap (λ b. members_lead b (next_parts target) (c.args.at + 1) (itself_or_lacking target c.args.at) all)
          (sym c.name-name.ensures)
          ∙ ap (λ r. members_lead (option_map (λ name. name.now) c.name-name.result) r (c.args.at + 1) (itself_or_lacking target c.args.at) all)
          (sym c.rest-path.ensures)
          ∙ ap (λ f. members_lead (option_map (λ name. name.now) c.name-name.result) (parts c.rest-path.result.now) (c.args.at + 1) f all)
          (sym c.itself_or_lacking-found.ensures)),
      refl,
      omega arith,
    )

pub passed_members-returns-in_err-key-clause-invalid : goal.passed_members-returns-in_err-key-clause-invalid
passed_members-returns-in_err-key-clause-invalid t c _ =
    let p = value c.args.depth in
    let l = c.loop-key in
    let w = l.invariant.0 in
    walk_fails w (members_no_key p w.turns l.reader c.in_err-key.ensures.value)

pub passed_members-loop-key-preserved-then-is_named : goal.passed_members-loop-key-preserved-then-is_named
passed_members-loop-key-preserved-then-is_named t c =
    let p = value c.args.depth in
    let l = c.loop-key in
    let w = l.invariant.0 in
    let k = c.in-Some.key.now in
    let s = c.next_key.new.self in
    let key : read_key l.reader ≡ Some (Some k, s) = grind arith in
    let taken = ap length (read_key_is l.reader (Some k) s key) in
    let member = c.in_ok-member.member in
    let done = c.in_ok-member.ensures in
    let new = c.passed_value.new.reader in
    let from : Passes (p s) (l.next + 1) (length s) new (wanted_at (Some (parts c.rest-path.result.now)) (l.next + 1)) member = done.ok in
    let less = done.shorter in
    let size = passed_size c.args.depth (l.next + 1) member.next s new from.whole from.is from.next in
    let named : is_named (option_map (λ name. name.now) c.name-name.result) k ≡ true = grind arith in (
      member_turn c.args.depth l.reader s new k from.whole w key from.is (omega (arith, less, taken))
          (λ all. wanted_member (option_map (λ name. name.now) c.name-name.result) (parts c.rest-path.result.now) l.next member.next l.found member.found k
          from.whole all named from.found size),
      omega (arith, from.next, taken, l.invariant.1),
      omega (arith, less, taken, l.invariant.2),
    )

pub passed_members-loop-key-preserved : goal.passed_members-loop-key-preserved
passed_members-loop-key-preserved t c =
    let p = value c.args.depth in
    let l = c.loop-key in
    let w = l.invariant.0 in
    let k = c.in-Some.key.now in
    let s = c.next_key.new.self in
    let key : read_key l.reader ≡ Some (Some k, s) = grind arith in
    let taken = ap length (read_key_is l.reader (Some k) s key) in
    let member = c.in_ok-member-2.member in
    let done = c.in_ok-member-2.ensures in
    let new = c.passed_value-else-is_named.new.reader in
    let from : Passes (p s) (l.next + 1) (length s) new (wanted_at None (l.next + 1)) member = done.ok in
    let less = done.shorter in
    let size = passed_size c.args.depth (l.next + 1) member.next s new from.whole from.is from.next in
    let named : is_named (option_map (λ name. name.now) c.name-name.result) k ≡ false = grind arith in (
      member_turn c.args.depth l.reader s new k from.whole w key from.is (omega (arith, less, taken))
          (λ all. other_member (option_map (λ name. name.now) c.name-name.result) (parts c.rest-path.result.now) l.next member.next l.found k from.whole all
          named size),
      omega (arith, from.next, taken, l.invariant.1),
      omega (arith, less, taken, l.invariant.2),
    )

pub passed_members-returns-in_err-member-clause-invalid : goal.passed_members-returns-in_err-member-clause-invalid
passed_members-returns-in_err-member-clause-invalid t c _ =
    let p = value c.args.depth in
    let l = c.loop-key in
    let w = l.invariant.0 in
    let k = c.in-Some.key.now in
    let s = c.next_key.new.self in
    let key : read_key l.reader ≡ Some (Some k, s) = grind arith in
    let taken = ap length (read_key_is l.reader (Some k) s key) in
    walk_fails w (members_fail p w.turns k l.reader s key (c.in_err-member.ensures.invalid refl))

pub passed_members-returns-in_err-member-2-clause-invalid : goal.passed_members-returns-in_err-member-2-clause-invalid
passed_members-returns-in_err-member-2-clause-invalid t c _ =
    let p = value c.args.depth in
    let l = c.loop-key in
    let w = l.invariant.0 in
    let k = c.in-Some.key.now in
    let s = c.next_key.new.self in
    let key : read_key l.reader ≡ Some (Some k, s) = grind arith in
    let taken = ap length (read_key_is l.reader (Some k) s key) in
    walk_fails w (members_fail p w.turns k l.reader s key (c.in_err-member-2.ensures.invalid refl))

pub passed_members-returns-clause-ok : goal.passed_members-returns-clause-ok
passed_members-returns-clause-ok t c =
    let p = value c.args.depth in
    let l = c.loop-key in
    let w = l.invariant.0 in
    let r = c.next_key.new.self in
    let ends : read_key l.reader ≡ Some (None, r) = grind arith in
    let taken = ap length (read_key_is l.reader None r ends) in
    walk_ends w no_members (c.args.at + 1) (length c.args.reader.now) r (record { next = l.next + 1; found = l.found })
    (members_end p w.turns l.reader r w.enough ends)
    (omega (arith, taken, l.invariant.1)) (members_lead_end (option_map (λ name. name.now) c.name-name.result) (parts c.rest-path.result.now) l.next l.found)

pub passed_value-returns-in_err-token-clause-invalid : goal.passed_value-returns-in_err-token-clause-invalid
passed_value-returns-in_err-token-clause-invalid t c _ =
    let empty : c.args.reader.now ≡ [] = grind arith in
    ap (value c.args.depth) empty ∙ value_is c.args.depth []

pub passed_value-returns-then-depth-eq0-clause-invalid : goal.passed_value-returns-then-depth-eq0-clause-invalid
unfolding value
passed_value-returns-then-depth-eq0-clause-invalid t c _ =
    let first : c.args.reader.now ≡ token_of c.in_ok-token.token ∷ c.next.new.self = grind arith in
    let none : c.args.depth ≡ 0 = omega arith in
    ap₂ value none (first ∙ ap (λ k. token_of k ∷ c.next.new.self) c.in-BeginArray.is)

pub passed_value-returns-then-depth-eq0-2-clause-invalid : goal.passed_value-returns-then-depth-eq0-2-clause-invalid
unfolding value
passed_value-returns-then-depth-eq0-2-clause-invalid t c _ =
    let first : c.args.reader.now ≡ token_of c.in_ok-token.token ∷ c.next.new.self = grind arith in
    let none : c.args.depth ≡ 0 = omega arith in
    ap₂ value none (first ∙ ap (λ k. token_of k ∷ c.next.new.self) c.in-BeginObject.is)

pub passed_value-returns-in-String-clause-ok : goal.passed_value-returns-in-String-clause-ok
passed_value-returns-in-String-clause-ok t c =
    let first : c.args.reader.now ≡ token_of c.in_ok-token.token ∷ c.next.new.self = grind arith in
    let leaf : is_leaf (token_of c.in_ok-token.token) ≡ true = grind arith in
    let passed : Passed = record { next = c.args.at + 1; found = c.itself.result } in
    subst (λ ts. Passes (value c.args.depth ts) c.args.at (length ts) c.next.new.self (wanted_at (option_map (λ path. parts path.now) c.args.path) c.args.at)
    passed) (sym first)
    (subst (λ t. Passes (value c.args.depth (token_of c.in_ok-token.token ∷ c.next.new.self)) c.args.at
    (length (token_of c.in_ok-token.token ∷ c.next.new.self)) c.next.new.self (wanted_at t c.args.at) passed)
    c.of_path-target.ensures (leaf_passed (token_of c.in_ok-token.token) c.args.depth c.next.new.self (target_of c.of_path-target.result) c.args.at passed leaf
    refl c.itself.ensures))

pub passed_value-returns-in-EndObject-clause-invalid : goal.passed_value-returns-in-EndObject-clause-invalid
passed_value-returns-in-EndObject-clause-invalid t c _ =
    let first : c.args.reader.now ≡ token_of c.in_ok-token.token ∷ c.next.new.self = grind arith in
    rw (value_is c.args.depth c.args.reader.now, first) (grind arith)

pub passed_value-returns-else-depth-eq0-clause-ok : goal.passed_value-returns-else-depth-eq0-clause-ok
passed_value-returns-else-depth-eq0-clause-ok t c =
    let first : c.args.reader.now ≡ token_of c.in_ok-token.token ∷ c.next.new.self = grind arith in
    let opened : c.args.reader.now ≡ Token.begin_array ∷ c.next.new.self = first ∙ ap (λ k. token_of k ∷ c.next.new.self) c.in-BeginArray.is in
    subst (λ ts. IfOk c.passed_items.result (Passes (value c.args.depth ts) c.args.at (length ts) c.passed_items.new.reader
    (wanted_at (option_map (λ path. parts path.now) c.args.path) c.args.at))) (sym opened)
    (subst (λ t. IfOk c.passed_items.result (Passes (value c.args.depth (Token.begin_array ∷ c.next.new.self)) c.args.at
    (length (Token.begin_array ∷ c.next.new.self)) c.passed_items.new.reader (wanted_at t c.args.at))) c.of_path-target.ensures
    (ok_more c.passed_items.result (λ passed h. array_passed c.args.depth c.next.new.self c.passed_items.new.reader (target_of c.of_path-target.result)
    c.args.at passed (omega arith) h) c.passed_items.ensures.ok))

pub passed_value-returns-else-depth-eq0-clause-invalid : goal.passed_value-returns-else-depth-eq0-clause-invalid
passed_value-returns-else-depth-eq0-clause-invalid t c failed =
    let first : c.args.reader.now ≡ token_of c.in_ok-token.token ∷ c.next.new.self = grind arith in
    let opened : c.args.reader.now ≡ Token.begin_array ∷ c.next.new.self = first ∙ ap (λ k. token_of k ∷ c.next.new.self) c.in-BeginArray.is in
    ap (value c.args.depth) opened ∙ value-begin_array c.args.depth c.next.new.self (omega arith) ∙ ap (parse_map array) (c.passed_items.ensures.invalid failed)

pub passed_value-returns-else-depth-eq0-clause-shorter : goal.passed_value-returns-else-depth-eq0-clause-shorter
passed_value-returns-else-depth-eq0-clause-shorter t c =
    let first : c.args.reader.now ≡ token_of c.in_ok-token.token ∷ c.next.new.self = grind arith in
    ok_more {P = λ _. length c.passed_items.new.reader < length c.next.new.self} {Q = λ _. length c.passed_items.new.reader < length c.args.reader.now}
    c.passed_items.result
    (λ _ h. omega (arith, h, ap length first)) c.passed_items.ensures.shorter

pub passed_value-returns-else-depth-eq0-2-clause-ok : goal.passed_value-returns-else-depth-eq0-2-clause-ok
passed_value-returns-else-depth-eq0-2-clause-ok t c =
    let first : c.args.reader.now ≡ token_of c.in_ok-token.token ∷ c.next.new.self = grind arith in
    let opened : c.args.reader.now ≡ Token.begin_object ∷ c.next.new.self = first ∙ ap (λ k. token_of k ∷ c.next.new.self) c.in-BeginObject.is in
    subst (λ ts. IfOk c.passed_members.result (Passes (value c.args.depth ts) c.args.at (length ts) c.passed_members.new.reader
    (wanted_at (option_map (λ path. parts path.now) c.args.path) c.args.at))) (sym opened)
    (subst (λ t. IfOk c.passed_members.result (Passes (value c.args.depth (Token.begin_object ∷ c.next.new.self)) c.args.at
    (length (Token.begin_object ∷ c.next.new.self)) c.passed_members.new.reader (wanted_at t c.args.at))) c.of_path-target.ensures
    (ok_more c.passed_members.result (λ passed h. object_passed c.args.depth c.next.new.self c.passed_members.new.reader (target_of c.of_path-target.result)
    c.args.at passed (omega arith) h) c.passed_members.ensures.ok))

pub passed_value-returns-else-depth-eq0-2-clause-invalid : goal.passed_value-returns-else-depth-eq0-2-clause-invalid
passed_value-returns-else-depth-eq0-2-clause-invalid t c failed =
    let first : c.args.reader.now ≡ token_of c.in_ok-token.token ∷ c.next.new.self = grind arith in
    let opened : c.args.reader.now ≡ Token.begin_object ∷ c.next.new.self = first ∙ ap (λ k. token_of k ∷ c.next.new.self) c.in-BeginObject.is in
    ap (value c.args.depth) opened ∙ value-begin_object c.args.depth c.next.new.self (omega arith) ∙ ap (parse_map object)
    (c.passed_members.ensures.invalid failed)

pub passed_value-returns-else-depth-eq0-2-clause-shorter : goal.passed_value-returns-else-depth-eq0-2-clause-shorter
passed_value-returns-else-depth-eq0-2-clause-shorter t c =
    let first : c.args.reader.now ≡ token_of c.in_ok-token.token ∷ c.next.new.self = grind arith in
    ok_more {P = λ _. length c.passed_members.new.reader < length c.next.new.self} {Q = λ _. length c.passed_members.new.reader < length c.args.reader.now}
    c.passed_members.result
    (λ _ h. omega (arith, h, ap length first)) c.passed_members.ensures.shorter
