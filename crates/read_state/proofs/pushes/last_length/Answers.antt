use Rattle.std.proofs.Common.{◌-◌, length, arith, refl, ap, sym, ◌∙◌}
use Rattle.read_state.specs.Kinds.{unless_negative}
use Rattle.read_state.proofs.Lengths.{last-length}
use Rattle.read_state.proofs.pushes.last_length.Goals as goal

pub returns : goal.returns
returns c = c.unsigned_or_none.ensures ∙ (ap unless_negative c.cast_unsigned.ensures ∙ sym (last-length c.args.lengths.now (length c.args.lengths.now - 1) (omega (arith, c.if-lengths-eq0.false)) refl))
