use Rattle.std.proofs.Common.{◌≤◌, ◌-◌, ℕ, List, map, subst, sym, arith}
use Rattle.columns_slots.specs.Bytes.{pieces_values}
use Rattle.pq_tree.specs.Physical.{byte_array}
use Rattle.pq_files.specs.Layout.{plain_length}
use Rattle.pq_files.specs.Room.{max_size}
use Rattle.write_values.specs.Numbers.{at_place}
use Rattle.write_values.specs.Rows.{AppendsRow}
use Rattle.write_values.proofs.StringPlaces.{string_none}
use Rattle.write_values.proofs.StringRows.{all_of_block, block_more, block_small}
use Rattle.write_values.proofs.strings.push_strings.Goals as goal

pub loop-at-init : goal.loop-at-init
loop-at-init g c = record {
  after = omega arith;
  within = c.requires.ordered;
  row = string_none c.args.offsets.now c.args.all.now c.args.from c.args.out.now.items;
}

pub push_picked-requires-clause-small : goal.push_picked-requires-clause-small
push_picked-requires-clause-small g c =
    let e = c.block_end-end.ensures in
    let i = c.loop-at.invariant in
    let f = at_place (pieces_values c.args.offsets.now c.args.all.now) in
    subst (λ (ns : List ℕ). plain_length byte_array (map f ns) ≤ max_size) (sym (all_of_block c.full_word.result c.loop-at.at (c.block_end-end.result - c.loop-at.at) c.full_word.ensures)) (block_small c.args.offsets.now c.args.all.now c.args.from c.loop-at.at c.block_end-end.result c.args.to c.requires.places c.know.ensures i.after (omega (arith, e.past)) e.within c.requires.within c.requires.small)

pub loop-at-preserved : goal.loop-at-preserved
loop-at-preserved g c =
    let e = c.block_end-end.ensures in
    let i = c.loop-at.invariant in
    let f = at_place (pieces_values c.args.offsets.now c.args.all.now) in
    record {
      after = omega (arith, i.after, e.past);
      within = e.within;
      row = block_more f c.args.from c.loop-at.at c.block_end-end.result c.args.out.now.items c.loop-at.out.items _ i.after (omega (arith, e.past)) i.row (subst (λ (ns : List ℕ). AppendsRow byte_array c.loop-at.out.items c.push_picked.new.out.items (map f ns)) (all_of_block c.full_word.result c.loop-at.at (c.block_end-end.result - c.loop-at.at) c.full_word.ensures) c.in_ok-push_picked.ensures.ok);
    }
