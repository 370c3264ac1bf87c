use Rattle.std.proofs.Common.{◌*◌, ◌≤◌}
use Rattle.columns_core.specs.Rising.{last_place}
use Rattle.sample_rows.specs.Parts.{AreStrung, tag_text}
use Rattle.sample_rows.specs.Rows.{each_row}
use Rattle.sample_rows.proofs.tags.texts.Given as goal

abbrev pub invariant-loop-i : goal.invariant-loop-i
invariant-loop-i l = record {
  strung : AreStrung (each_row tag_text l.i) l.offsets.0 l.bytes.items;
  small : last_place l.offsets.0 ≤ 6 * l.i;
}
