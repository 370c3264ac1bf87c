use Rattle.nested_paths.proofs.Merged.{merged_paths_have_columns}
use Rattle.nested_paths.proofs.laws.merged_paths_have_columns.Goals as goal

pub returns : goal.returns
returns c = merged_paths_have_columns
