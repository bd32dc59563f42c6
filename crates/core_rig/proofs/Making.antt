-- What is so of a new rig.
use Rattle.std.proofs.Common.{◌≡◌, ℕ, ◌<◌, List, [], ◌∷◌, map, refl, sym, ap, subst, ◌∙◌, arith, All}
use Rattle.std.specs.Prelude.{Ok}
use Rattle.std.proofs.lemmas.List.Elements.{All-map, All-from_recursion}
use Rattle.bench_types.specs.declared.header.Header.{Header}
use Rattle.bench_types.specs.Header.{header_check}
use Rattle.list_orders.proofs.Stamped.{numbers_below}
use Rattle.list_orders.specs.Search.{numbers}
use Rattle.port_locks.specs.Made as locks
use Rattle.port_locks.specs.Seats.{PairView, SeatView}
use Rattle.recordings.specs.RecordingView.{RecordingView}
use Rattle.core_rig.specs.Resting.{IsNew, core_view}
use Rattle.core_rig.specs.Seats.{CoreView, new_seat}

module _ (pair : PairView) (header : Header) (is : pair.terms.header ≡ header) (passes : header_check header ≡ Ok tt) (cores : ℕ)
    (count : cores ≡ header.config.cores) where
  abbrev inner : List (SeatView RecordingView)
  inner = map (locks.new_seat pair) (numbers cores)

  seat_new : (core : ℕ) → core < cores → IsNew (locks.new_seat pair core)
  seat_new core below = record {
    passes = subst (λ header. header_check header ≡ Ok tt) (sym is) passes;
    core = (let same = ap (λ header. header.config.cores) is in omega (arith, below, count, same));
    rests = refl;
    seen = refl;
    made = refl;
  }

  pub all_new : (seats : List (SeatView RecordingView)) → seats ≡ inner → All IsNew seats
  all_new seats same =
      subst (All IsNew) (sym same)
      (All-map IsNew (locks.new_seat pair) (numbers cores) (λ k d less. seat_new _ (all_below k d less)))
    where
      all_below : All (λ core. core < cores) (numbers cores)
      all_below = All-from_recursion (λ core. core < cores) (numbers cores) (numbers_below cores)

pub seats_in_order : (pair : PairView) (cores : ℕ) (held : List (SeatView RecordingView)) (seats : List CoreView) → held ≡ map (locks.new_seat pair)
    (numbers cores) → seats ≡ map core_view held → seats ≡ map (new_seat pair) (numbers cores)
seats_in_order pair cores held seats same is = is ∙ ap (map core_view) same ∙ map_twice (numbers cores)
  where
    map_twice : (xs : List ℕ) → map core_view (map (locks.new_seat pair) xs) ≡ map (new_seat pair) xs
    map_twice [] = refl
    map_twice (x ∷ xs) = ap (λ rest. new_seat pair x ∷ rest) (map_twice xs)
