use Rattle.std.proofs.Common.{map}
use Rattle.dictionary_leaves.proofs.KeySlots.{masked_more}
use Rattle.dictionary_leaves.proofs.keys.kept_bits.Goals as goal

pub loop-i-preserved : goal.loop-i-preserved
loop-i-preserved g c = masked_more c.loop-i.i c.args.count c.args.validity.now (map g.K.KeyNumber.kept c.args.numbers.now) (map g.K.KeyNumber.loaded_key c.args.numbers.now) c.loop-i.bits.0 c.is_kept.result c.push.new.self.0 c.in_ok-push.ensures.ok c.loop-i.invariant c.is_kept.ensures
