use Rattle.std.proofs.Common.{sym, ◌∙◌}
use Rattle.schema_codec.proofs.Turns.{last_ascends}
use Rattle.schema_codec.proofs.meta.keys_ascend.Goals as goal

pub returns : goal.returns
returns c = sym (last_ascends c.args.entries.now c.loop-i.i c.loop-i-test.false) ∙ c.loop-i.invariant
