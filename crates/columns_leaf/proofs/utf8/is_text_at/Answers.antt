use Rattle.std.proofs.Common.{length, arith}
use Rattle.columns_leaf.proofs.Texts.{step_of_places, text_told}
use Rattle.columns_leaf.proofs.utf8.is_text_at.Goals as goal

pub slice_bounds-is_text_bytes-count : goal.slice_bounds-is_text_bytes-count
slice_bounds-is_text_bytes-count g c =
    omega (arith, (step_of_places c.args.offsets.now (length c.args.values.now) c.args.i c.requires.places c.requires.within).0, c.place-start.ensures, c.place-end.ensures)

pub slice_bounds-is_text_bytes-start : goal.slice_bounds-is_text_bytes-start
slice_bounds-is_text_bytes-start g c =
    omega (arith, (step_of_places c.args.offsets.now (length c.args.values.now) c.args.i c.requires.places c.requires.within).0, c.place-start.ensures, c.place-end.ensures)

pub slice_bounds-is_text_bytes-end : goal.slice_bounds-is_text_bytes-end
slice_bounds-is_text_bytes-end g c =
    omega (arith, (step_of_places c.args.offsets.now (length c.args.values.now) c.args.i c.requires.places c.requires.within).1, c.place-start.ensures, c.place-end.ensures)

pub returns : goal.returns
returns g c =
    text_told c.args.offsets.now c.args.values.now c.args.i c.place-start.result c.place-end.result c.is_text_bytes.result c.requires.within c.place-start.ensures c.place-end.ensures c.is_text_bytes.ensures
