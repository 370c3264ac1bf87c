use Rattle.std.proofs.Common.{rules}
use Rattle.schema_to_tree.proofs.Leafy.{counted, no_more_unions}
use Rattle.schema_to_tree.proofs.leaves.+count.Goals as goal

pub n_columns_of-returns-clause-ok : goal.n_columns_of-returns-clause-ok
n_columns_of-returns-clause-ok t c = search (rules, counted)

pub n_columns_of-returns-clause-unions : goal.n_columns_of-returns-clause-unions
n_columns_of-returns-clause-unions t c = search (rules, no_more_unions)

pub n_columns-returns-in_default-clause-err : goal.n_columns-returns-in_default-clause-err
n_columns-returns-in_default-clause-err t c = tt
