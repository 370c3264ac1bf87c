use Rattle.levels.proofs.Bounds.{column-most}
use Rattle.levels.proofs.most.most_values.Goals as goal

pub returns : goal.returns
returns c = λ values. column-most values c.args.nested.now _ _ _ c.requires c.know_all.ensures c.slot_count.ensures c.get_max_length.ensures c.saturating_add.ensures
