use Rattle.std.proofs.Common.{sym, ◌∙◌}
use Rattle.write_statistics.proofs.Kept.{extremes_more, extremes_same}
use Rattle.write_statistics.proofs.numbers.with_kept.Goals as goal

pub returns-then-get_bit : goal.returns-then-get_bit
returns-then-get_bit g c =
    extremes_more g.T.OrderedNative.ordinal c.args.mask.now c.args.values.now c.args.i c.index-values-i.result _ _ _ _ c.requires.same c.requires.within (sym c.get_bit.ensures ∙ c.if-get_bit.true) c.index-values-i.is c.with_number.ensures

pub returns-else-get_bit : goal.returns-else-get_bit
returns-else-get_bit g c = extremes_same g.T.OrderedNative.ordinal c.args.mask.now c.args.values.now c.args.i _ _ c.requires.same c.requires.within (sym c.get_bit.ensures ∙ c.if-get_bit.false)
