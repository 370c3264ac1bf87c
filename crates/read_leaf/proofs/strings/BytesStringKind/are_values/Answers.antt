use Rattle.std.proofs.Common.{sym}
use Rattle.read_leaf.specs.Strings.{cut_off}
use Rattle.read_leaf.proofs.Stretches.{each-any}
use Rattle.read_leaf.proofs.strings.BytesStringKind.are_values.Goals as goal

pub returns : goal.returns
returns c = sym (each-any (cut_off c.args._lengths.now c.args._bytes.now))
