use Rattle.std.proofs.Common.{◌≡◌, ◌++◌, length, flat_map, take, ap, subst, sym, ◌∙◌, arith}
use Rattle.std.proofs.lemmas.List.{take_all}
use Rattle.columns_slots.specs.Tree.{ArrayTrees}
use Rattle.sample_rows.proofs.Counted.{are_of, both_are, totals_are}
use Rattle.sample_rows.specs.Present.{present}
use Rattle.sample_rows.specs.Rows.{each_row, items_slot}
use Rattle.sample_rows.specs.Totals.{AreOf}
use Rattle.sample_run.proofs.Reading.{all_present, one_more, present_in, room_left}
use Rattle.sample_run.proofs.read.count_pieces.Goals as goal
use Rattle.sample_run.specs.Items.{lists_in}

pub plus-totals-requires : goal.plus-totals-requires
plus-totals-requires c =
    let d : ArrayTrees = c.piece-item.result in
    let own : AreOf c.piece_items.result (present_in d) = are_of c.piece_items.result (lists_in d) c.piece_items.ensures in
    let room = room_left c.args.pieces.now c.args.count c.loop-piece.piece-index d c.requires.few c.requires.are c.loop-piece-test.true in
    omega (arith, c.loop-piece.invariant.counted, own.counted, room, ap (λ x. length (present_in x)) c.piece-item.is)

pub loop-piece-preserved : goal.loop-piece-preserved
loop-piece-preserved c =
    let d : ArrayTrees = c.piece-item.result in
    let k = c.loop-piece.piece-index in
    let own : AreOf c.piece_items.result (present_in d) = are_of c.piece_items.result (lists_in d) c.piece_items.ensures in
    let both = both_are c.loop-piece.totals c.piece_items.result c.plus-totals.result (flat_map present_in (take k c.args.pieces.now)) (present_in d) c.plus-totals.ensures c.loop-piece.invariant own in
    let more = one_more c.args.pieces.now k d c.loop-piece-test.true in
    subst (AreOf c.plus-totals.result) (ap (λ x. flat_map present_in (take k c.args.pieces.now) ++ present_in x) c.piece-item.is ∙ sym more) both

pub returns : goal.returns
returns c =
    let whole : flat_map present_in (take c.loop-piece.piece-index c.args.pieces.now) ≡ present (each_row items_slot c.args.count) =
    ap (flat_map present_in) (take_all c.loop-piece.piece-index c.args.pieces.now c.loop-piece-test.false) ∙ all_present c.args.pieces.now c.args.count c.requires.are in
    totals_are c.loop-piece.totals (each_row items_slot c.args.count) (subst (AreOf c.loop-piece.totals) whole c.loop-piece.invariant)
