use Rattle.std.proofs.Common.{refl}
use Rattle.std.specs.Fmt.{digits}
use Rattle.sample_rows.proofs.laws.as_worked.Goals as goal

pub returns : goal.returns
unfolding digits
returns c = record {
  first_row = refl;
  row_10 = refl;
  tags = refl;
  lists = refl;
  no_items = refl;
  ten_items = refl;
}
