use Rattle.std.proofs.Common.{◌∙◌, ap, sym, replicate}
use Rattle.read_column.specs.Deltas.{levels_at}
use Rattle.read_column.proofs.Present.{block_present}
use Rattle.read_column.proofs.deltas.count_next.Goals as goal

pub returns-in-Some : goal.returns-in-Some
returns-in-Some c =
    let t = c.in-Some.ensures.0 in
    block_present c.args.level c.count_copies.result (replicate c.in-Some.copies c.in-Some.field-0-0) (replicate c.in-Some.copies c.in-Some.copied) c.args.pairs.now c.next_copies.new.self t.0 t.1 t.2 c.count_copies.ensures

pub returns-in-Some-Ok : goal.returns-in-Some-Ok
returns-in-Some-Ok c =
    let b = rw c.in-Some-Ok.field-0-is at c.in-Some-Ok.ensures in
    block_present c.args.level c.count_level.result c.next_block.new.block.0 c.next_block.new.block.1 c.args.pairs.now c.next_block.new.self (sym c.in_default.ensures ∙ b.0) b.1 b.2 (c.count_level.ensures ∙ ap (levels_at c.args.level) c.defs.ensures)
