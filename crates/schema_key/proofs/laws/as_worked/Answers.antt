use Rattle.std.proofs.Common.{refl}
use Rattle.schema_key.specs.Key.{unframed}
use Rattle.schema_key.proofs.laws.as_worked.Goals as goal

pub returns : goal.returns
unfolding unframed
returns c = record { framed = refl; behind = refl; without_mark = refl; three = refl; mark_alone = refl; seven = refl; last = refl; used = refl; ignored = refl; absent = refl }
