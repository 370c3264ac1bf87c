use Rattle.read_leaf.proofs.Standing.{told}
use Rattle.read_leaf.proofs.strings.TextStringKind.is_value.Goals as goal

pub returns : goal.returns
returns c = told c.args.bytes.now c.is_text.result c.is_text.ensures
