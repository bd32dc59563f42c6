use Rattle.std.proofs.Common.{◌≡◌, ℕ, min, ◌∙◌, arith}
use Rattle.std.specs.Prelude.{unwrap_or}
use Rattle.run_pictures.specs.ColumnLaws.{PicturesBeginAtLesser}
use Rattle.run_pictures.proofs.laws.law_of_first_columns.Goals as goal

same_least : (n : ℕ) → min n n ≡ n
same_least n = omega arith

begin : PicturesBeginAtLesser
begin places before after = record {
  both = λ upper lower is was i. min (unwrap_or (is i) places.from) (unwrap_or (was i) places.from);
  before_lacks = λ lower is was i. min (unwrap_or (is i) places.from) (unwrap_or (was i) places.from);
  after_lacks = λ upper is was i. min (unwrap_or (is i) places.from) (unwrap_or (was i) places.from);
  both_lack = λ is was. (λ i. min (unwrap_or (is i) places.from) (unwrap_or (was i) places.from)) ∙ same_least places.from;
}

pub returns : goal.returns
returns c = begin
