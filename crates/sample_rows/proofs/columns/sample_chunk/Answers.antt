use Rattle.std.proofs.Common.{◌∷◌, []}
use Rattle.columns_array.specs.Boxed.{all_boxed}
use Rattle.sample_rows.proofs.Chunks.{columns_even, never_refused}
use Rattle.sample_rows.proofs.columns.sample_chunk.Goals as goal

pub returns-clause-err : goal.returns-clause-err
returns-clause-err c =
    never_refused c.try_new.result c.try_new.ensures.err (λ h. c.try_new.ensures.refused.0 h (rw c.in_ok-from_array.ensures.items (columns_even c.args.count (all_boxed (c.in_ok-ids.ids ∷ c.in_ok-tags.tags ∷ c.in_ok-items.items ∷ [])) (c.in_ok-ids.ensures.ok, c.in_ok-tags.ensures.ok, c.in_ok-items.ensures.ok))))
