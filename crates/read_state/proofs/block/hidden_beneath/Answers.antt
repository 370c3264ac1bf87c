use Rattle.std.proofs.Common.{sym, ◌∙◌}
use Rattle.read_state.proofs.Blocks.{hides-none, none-hidden}
use Rattle.read_state.proofs.block.hidden_beneath.Goals as goal

pub returns-clause-flags : goal.returns-clause-flags
returns-clause-flags c k h = none-hidden k ∙ sym (hides-none c.args.reps.now c.args.defs.now c.args.hidden.now c.args.depth c.args.def c.args.nullable c.args.required k c.if-required.false)
