use Rattle.std.proofs.Common.{◌<◌, length, get_or, ◌∙◌, arith}
use Rattle.std.proofs.lemmas.List.{length-map}
use Rattle.levels.specs.Nested.{part_of, parts_of}
use Rattle.nested_slice.proofs.Steps.{mask_left, rows_left, nested_more, kinds_set, part_there, left_none}
use Rattle.nested_slice.proofs.slice.slice_parts.Goals as goal

pub slice_part-rows-requires-clause-mask : goal.slice_part-rows-requires-clause-mask
slice_part-rows-requires-clause-mask c =
    let now = c.loop-part.nested in
    let i = c.loop-part.part-index in
    let x = c.part-item.result in
    let l : i < length now = omega arith in
    mask_left (parts_of now) (parts_of c.args.nested.now) i _ _ _ _ (part_of (get_or now i x)) c.loop-part.invariant.left (omega (arith, length-map now part_of)) (part_there now i x l)

pub slice_part-rows-requires-clause-within : goal.slice_part-rows-requires-clause-within
slice_part-rows-requires-clause-within c =
    let now = c.loop-part.nested in
    let i = c.loop-part.part-index in
    let x = c.part-item.result in
    let l : i < length now = omega arith in
    rows_left (parts_of now) (parts_of c.args.nested.now) i _ _ _ _ (part_of (get_or now i x)) c.loop-part.invariant.left (omega (arith, length-map now part_of)) (part_there now i x l)

pub loop-part-preserved : goal.loop-part-preserved
loop-part-preserved c =
    let now = c.loop-part.nested in
    let i = c.loop-part.part-index in
    let x = c.part-item.result in
    let l : i < length now = omega arith in
    let done = c.slice_part-rows.ensures in
    record {
      left = nested_more now c.args.nested.now i _ _ _ _ x c.slice_part-rows.new.part _ _ c.loop-part.invariant.left l done.cut done.rises done.first done.count;
      kinds = kinds_set now i x c.slice_part-rows.new.part done.kind ∙ c.loop-part.invariant.kinds;
    }

pub returns : goal.returns
returns c =
    let now = c.loop-part.nested in
    let done = left_none (parts_of now) (parts_of c.args.nested.now) c.loop-part.part-index _ _ _ _ c.loop-part.invariant.left (omega (arith, length-map now part_of)) in
    record { parts = done.cut; kinds = c.loop-part.invariant.kinds; leaf = done.leaf; rises = done.rises }
