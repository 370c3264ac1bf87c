use Rattle.columns_array.specs.Boxed.{boxed}
use Rattle.columns_array.specs.Fits.{FitsKeys}
use Rattle.columns_core.specs.Shapes.{base}
use Rattle.columns_core.specs.View.{type_view}
use Rattle.dictionary_leaves.proofs.Unmade.{why_unmade}
use Rattle.dictionary_leaves.proofs.next.dictionary_of.Goals as goal

pub returns-clause-err : goal.returns-clause-err
returns-clause-err c = why_unmade (FitsKeys (base (type_view c.in-Ok.data_type)) c.args.keys (boxed c.in-Ok-clone.entries)) (FitsKeys (base (type_view c.args.data_type.now)) c.args.keys (boxed c.args.entries.now)) c.try_new.result (λ q. rw (c.in-Ok.ensures.ok, c.in-Ok-clone.ensures.ok) q) c.try_new.ensures.err c.try_new.ensures.refused
