use Rattle.std.proofs.Common.{◌+◌, ◌≤◌, arith}
use Rattle.std.specs.Prelude.{slice_index}
use Rattle.nested_slice.proofs.Paths.{place_cut, later_place}
use Rattle.nested_slice.proofs.slice.slice_list.Goals as goal

pub overflow_sub-result : goal.overflow_sub-result
overflow_sub-result g c =
    let os = c.args.list.now.offsets in
    let o = c.args.rows.first in
    let n = c.args.rows.count in
    let up : slice_index os (o + 0) ≤ slice_index os (o + n) = later_place os o 0 n c.know.ensures (omega arith) c.requires.within in
    rw (c.place-first.ensures, c.place.ensures, c.slice_ranges.ensures, place_cut os o n 0 (omega arith), place_cut os o n n (omega arith)) up
