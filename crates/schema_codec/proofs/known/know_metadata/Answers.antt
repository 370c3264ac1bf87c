use Rattle.std.proofs.Common.{IsUtf8, subst}
use Rattle.std.specs.List.{AllByRecursion}
use Rattle.columns_core.specs.Meta.{Meta}
use Rattle.schema_codec.proofs.InRange.{are_texts}
use Rattle.schema_codec.proofs.known.know_metadata.Goals as goal

pub returns : goal.returns
returns c = record { texts = subst (λ (m : Meta). AllByRecursion (λ e. IsUtf8 e.0 × IsUtf8 e.1) m) c.iter-entries.ensures (are_texts c.iter-entries.result); ascends = c.know.ensures }
