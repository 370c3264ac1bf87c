use Rattle.columns_array.specs.Boxed.{boxed}
use Rattle.levels.specs.Nested.{parts_of}
use Rattle.nested_slice.proofs.Sliced.{leaf_rows_within, sliced}
use Rattle.nested_slice.proofs.slice.slice_parquet_array.Goals as goal

pub slice-requires : goal.slice-requires
slice-requires c =
    let done = c.slice_parts-leaf.ensures in
    leaf_rows_within (parts_of c.args.nested.now) (boxed c.args.primitive_array.now) c.args.current_offset c.args.current_length _ _ c.requires.in_bounds done.rises c.requires.rows c.requires.leaf done.leaf

pub returns : goal.returns
returns c =
    let done = c.slice_parts-leaf.ensures in
    let all =
    sliced (parts_of c.args.nested.now) (parts_of c.slice_parts-leaf.new.nested) (boxed c.args.primitive_array.now) (boxed c.slice.new.self) c.args.current_offset c.args.current_length
    _ _ c.requires.in_bounds done.rises c.requires.rows c.requires.leaf c.know.ensures done.parts done.leaf c.slice.ensures in
    record { path = all.path; length = all.length; leaf = all.leaf; slots = all.slots; read = all.read; parts = done.parts; kinds = done.kinds; way = all.way; array = all.array }
