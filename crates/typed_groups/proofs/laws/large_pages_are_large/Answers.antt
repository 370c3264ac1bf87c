use Rattle.typed_groups.proofs.Large.{large}
use Rattle.typed_groups.proofs.laws.large_pages_are_large.Goals as goal

pub returns : goal.returns
returns c = large c.typed_columns_are_own.ensures c.typed_slots_are_read.ensures
