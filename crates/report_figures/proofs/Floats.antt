-- The JSON of figures has no floats.
use Rattle.std.proofs.Common.{◌≡◌, ℕ, ℤ, pos, negsuc, Bool, true, false, ◌||◌, List, [], ◌∷◌, length, refl, Option, Some, None, Ordering, Less, Equal, Greater}
use Rattle.std.proofs.Common.{nat_cmp}
use Rattle.std.specs.Prelude.{◌==◌, fold, if◌then◌else◌}
use Rattle.std.specs.Ordering.{match_ordering}
use Rattle.std.specs.Cmp.Lexicographic.{slice_cmp}
use Rattle.list_orders.specs.Search.{numbers}
use Rattle.serde_json.specs.Data.{Data, Members, number, unsigned, no_members, member, put}
use Rattle.serde_json.specs.Find.{is_float, of_integer}
use Rattle.serde_json.specs.Written.{has_float, members_have_float}
use Rattle.bench_types.specs.declared.header.Header.{Header}
use Rattle.report_figures.specs.declared.figures.Figure.{Figure}
use Rattle.report_figures.specs.declared.figures.Part.{Part}
use Rattle.report_figures.specs.declared.figures.Part.TheVariants.{Total, Longest}
use Rattle.report_figures.specs.Names.{figure_name}
use Rattle.report_figures.specs.Objects.{change_at, changes_data, figures_data, pair_data, places_data, put_place, run_data, run_object, run_object_in, runs_object, runs_object_in, values_data, with_change, with_place}
use Rattle.report_figures.specs.Objects.{with_value}
use Rattle.report_figures.specs.Table.{name_at}

abbrev IsFree : Members → Type 0
IsFree members = members_have_float members ≡ false

either_free : (o : Ordering) (a b c : Members) → IsFree a → IsFree b → IsFree c → IsFree (match_ordering o a b c)
either_free Less a b c first second third = first
either_free Equal a b c first second third = second
either_free Greater a b c first second third = third

parts_free : (a b : Bool) → (a || b) ≡ false → (a ≡ false) × (b ≡ false)
parts_free false b free = (refl, free)
parts_free true b free = absurd cc

both_free : (a b : Bool) → a ≡ false → b ≡ false → (a || b) ≡ false
both_free a b first second = rw (first, second) refl

put_free : (k : List ℕ) (d : Data) (members : Members) → has_float d ≡ false → IsFree members → IsFree (put k d members)
put_free k d no_members whole free = both_free (has_float d) false whole refl
put_free k d (member l e rest) whole free =
    let parts = parts_free (has_float e) (members_have_float rest) free in
    either_free (slice_cmp nat_cmp k l) (member k d (member l e rest)) (member l d rest) (member l e (put k d rest))
    (both_free (has_float d) (has_float e || members_have_float rest) whole free)
    (both_free (has_float d) (members_have_float rest) whole parts.1)
    (both_free (has_float e) (members_have_float (put k d rest)) parts.0 (put_free k d rest whole parts.1))

fold_free : {X : Type 0} (f : Members → X → Members) (xs : List X) (start : Members) → ((members : Members) (x : X) → IsFree members → IsFree (f members x)) →
    IsFree start → IsFree (fold f start xs)
fold_free f [] start keeps free = free
fold_free f (x ∷ xs) start keeps free = fold_free f xs (f start x) keeps (keeps start x free)

integer_free : (z : ℤ) → is_float (of_integer z) ≡ false
integer_free (pos n) = refl
integer_free (negsuc n) = refl

place_free : (part : Part) (from : Option ℕ) (name : List ℕ) (members : Members) → IsFree members → IsFree (put_place part from name members)
place_free Total None name members free = free
place_free Total (Some place) name members free = free
place_free Longest None name members free = free
place_free Longest (Some place) name members free = put_free name (number (unsigned place)) members refl free

module _ (header : Header) where
  values_free : (figures : List Figure) → has_float (values_data header figures) ≡ false
  values_free figures =
      fold_free (with_value header) figures no_members
      (λ members figure free. put_free (figure_name header figure.subject figure.part) (number (unsigned figure.value)) members refl free) refl

  places_free : (figures : List Figure) → has_float (places_data header figures) ≡ false
  places_free figures =
      fold_free (with_place header) figures no_members
      (λ members figure free. place_free figure.part figure.from (figure_name header figure.subject figure.part) members free) refl

  changes_free : (before after : List Figure) → has_float (changes_data header before after) ≡ false
  changes_free before after =
      fold_free (with_change header before after) (numbers (length before)) no_members
      (λ members index free. put_free (name_at header before index) (number (of_integer (change_at before after index))) members
      (integer_free (change_at before after index)) free) refl

  pub run_free : (figures : List Figure) (settled : Bool) → has_float (run_data header figures settled) ≡ false
  run_free figures settled = at (header.config.units == 1)
    where
      at : (one : Bool)
          → has_float (if one then run_object (places_data header figures) settled (values_data header figures)
          else run_object_in header.config.units (places_data header figures) settled (values_data header figures)) ≡ false
      at true = rw (places_free figures, values_free figures) refl
      at false = rw (places_free figures, values_free figures) refl

  figures_free : (figures : List Figure) → has_float (figures_data header figures) ≡ false
  figures_free figures = rw (places_free figures, values_free figures) refl

  pub pair_free : (before after : List Figure) (settled : Bool) → has_float (pair_data header before after settled) ≡ false
  pair_free before after settled = at (header.config.units == 1)
    where
      at : (one : Bool)
          → has_float (if one then runs_object (figures_data header after) (figures_data header before) (changes_data header before after) settled
          else runs_object_in header.config.units (figures_data header after) (figures_data header before) (changes_data header before after) settled)
          ≡ false
      at true =
          both_free (has_float (figures_data header after)) _ (figures_free after)
          (both_free (has_float (figures_data header before)) _ (figures_free before)
          (both_free (has_float (changes_data header before after)) false (changes_free before after) refl))
      at false =
          both_free (has_float (figures_data header after)) _ (figures_free after)
          (both_free (has_float (figures_data header before)) _ (figures_free before)
          (both_free (has_float (changes_data header before after)) false (changes_free before after) refl))
