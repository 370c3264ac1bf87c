use Rattle.std.proofs.Common.{◌-◌, arith}
use Rattle.levels.specs.Sizes.{list_size}
use Rattle.level_sections.proofs.Told.{lists_none}
use Rattle.level_sections.proofs.lists.walk_lists.Goals as goal

pub returns-then-from-to-clause-added : goal.returns-then-from-to-clause-added
returns-then-from-to-clause-added g c =
    let list = c.args.list.now in
    λ start xs k. lists_none start _ _ (list_size list.is_optional list.validity list.offsets) c.args.above.rep c.args.above.depth c.args.from (c.args.to - c.args.from) xs (omega (arith, c.if-from-to.true)) k
