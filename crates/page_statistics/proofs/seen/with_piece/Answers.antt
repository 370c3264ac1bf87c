use Rattle.std.proofs.Common.{◌-◌, Some}
use Rattle.write_places.specs.Places.{range}
use Rattle.page_statistics.proofs.Kept.{all_of_stretch, kept}
use Rattle.page_statistics.proofs.seen.with_piece.Goals as goal

pub returns-then-are_between-clause-are : goal.returns-then-are_between-clause-are
returns-then-are_between-clause-are g c = λ places h.
    kept (g.L.OrderedLeaf.value c.args.leaf.now) (Some c.args.extremes) c.args.from c.args.to (range c.args.from (c.args.to - c.args.from)) places (c.are_between.ensures c.if-are_between.true) (all_of_stretch c.args.from c.args.to c.requires.ordered) h
