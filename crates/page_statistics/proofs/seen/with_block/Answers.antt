use Rattle.std.proofs.Common.{◌-◌, ◌∷◌, ◌++◌, []}
use Rattle.page_statistics.proofs.Kept.{ends_kept, ends_within}
use Rattle.page_statistics.proofs.seen.with_block.Goals as goal

pub returns-then-are_between-clause-are : goal.returns-then-are_between-clause-are
returns-then-are_between-clause-are g c = λ places h.
    ends_kept (g.L.OrderedLeaf.value c.args.leaf.now) c.with_ends-ends.result c.args.from c.args.to places c.requires.some (c.are_between.ensures c.if-are_between.true) (c.with_ends-ends.ensures.are places h)

pub returns-clause-are : goal.returns-clause-are
returns-clause-are g c = λ places h.
    ends_within (g.L.OrderedLeaf.value c.args.leaf.now) c.with_pieces.result c.args.from c.args.to places c.requires.some (c.with_pieces.ensures.are ((places ++ c.args.from ∷ []) ++ (c.args.to - 1) ∷ []) (c.with_ends-ends.ensures.are places h))
