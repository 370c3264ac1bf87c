use Rattle.columns_array.specs.Boxed.{boxed}
use Rattle.typed_rows.proofs.Held.{values_own}
use Rattle.typed_rows.proofs.inner.values_of.Goals as goal

pub returns : goal.returns
returns c = values_own (boxed c.args.array.now) c.args.from c.args.count c.requires.leaf c.know.ensures c.requires.within c.requires.kept
