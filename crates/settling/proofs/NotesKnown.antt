-- The tasks of which calls were left, one after another.
use Rattle.std.proofs.Common.{◌≡◌, ℕ, ◌+◌, List, [], ◌∷◌, ◌++◌, flat_map, ap, sym, ◌∙◌, append_assoc}
use Rattle.std.proofs.lemmas.List.{append-nil}
use Rattle.list_orders.specs.Search.{numbers}
use Rattle.list_orders.proofs.Stamped.{numbers_more}
use Rattle.bench_types.specs.declared.header.Header.{Header}
use Rattle.bench_types.specs.Limits.{max_cores, max_tasks}
use Rattle.settled_runs.specs.declared.waiting_call.WaitingCall.{WaitingCall}
use Rattle.settling.specs.Notes.{entry_if_left, left_text}

flat_map_more : {X : Type 0} (f : X → List ℕ) (xs : List X) (x : X) → flat_map f (xs ++ x ∷ []) ≡ flat_map f xs ++ f x
flat_map_more f [] x = append-nil (f x)
flat_map_more f (y ∷ ys) x = ap (λ rest. f y ++ rest) (flat_map_more f ys x) ∙ sym (append_assoc (f y) (flat_map f ys) (f x))

-- one task more
pub entry_more : (header : Header) (left : List WaitingCall) (before text after : List ℕ) (n : ℕ) → text ≡ before ++ flat_map (entry_if_left header left)
    (numbers n) → after ≡ text ++ entry_if_left header left n
    → after ≡ before ++ flat_map (entry_if_left header left) (numbers (n + 1))
entry_more header left before text after n so_far pushed =
    let entry : ℕ → List ℕ = entry_if_left header left in
    pushed ∙ ap (λ all. all ++ entry n) so_far ∙ append_assoc before (flat_map entry (numbers n)) (entry n)
    ∙ ap (λ all. before ++ all) (sym (ap (flat_map entry) (numbers_more n) ∙ flat_map_more entry (numbers n) n))

-- all numbers that a task may have
pub entries_end : (header : Header) (left : List WaitingCall) (before text : List ℕ) (n : ℕ) → n ≡ max_cores + max_tasks → text ≡ before ++ flat_map
    (entry_if_left header left) (numbers n) → text ≡ before ++ left_text header left
unfolding left_text
entries_end header left before text n all so_far = so_far ∙ ap (λ m. before ++ flat_map (entry_if_left header left) (numbers m)) all
