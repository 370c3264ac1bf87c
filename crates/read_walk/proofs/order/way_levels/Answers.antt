use Rattle.std.proofs.Common.{ap, ◌∙◌}
use Rattle.shredding.specs.Local.{inside}
use Rattle.read_laws.specs.State.{kept_way}
use Rattle.read_walk.proofs.BlocksTaken.{floor-top}
use Rattle.read_walk.proofs.order.way_levels.Goals as goal

pub returns : goal.returns
returns c =
    let w = kept_way c.args.nested.now in (
      c.max_repetition-lists.ensures,
      c.max_definition.ensures,
      c.inside.ensures,
      floor-top c.inside.result c.max_definition.result w (c.inside.ensures ∙ ap (inside w) c.max_repetition-lists.ensures) c.max_definition.ensures,
    )
