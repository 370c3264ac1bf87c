use Rattle.std.proofs.Common.{sym}
use Rattle.read_leaf.proofs.CutTexts.{each-ascii}
use Rattle.read_leaf.proofs.texts.are_texts.Goals as goal

pub returns-then-is_ascii : goal.returns-then-is_ascii
returns-then-is_ascii c = sym (each-ascii c.args.lengths.now c.args.bytes.now c.if-is_ascii.ensures.cases)
