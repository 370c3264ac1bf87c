use Rattle.std.proofs.Common.{◌↔◌, drop}
use Rattle.columns_slots.specs.Bytes.{pieces}
use Rattle.columns_leaf.specs.Texts.{AreTexts}
use Rattle.columns_leaf.proofs.utf8.are_texts.Given as goal

abbrev pub invariant-loop-i : goal.invariant-loop-i
invariant-loop-i g l = AreTexts (pieces l.offsets l.values) ↔ AreTexts (drop l.i (pieces l.offsets l.values))
