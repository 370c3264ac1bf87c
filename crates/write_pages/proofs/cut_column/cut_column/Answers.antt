use Rattle.std.proofs.Common.{◌≡◌, ◌∙◌, List, length, ap, sym, subst, arith}
use Rattle.std.proofs.lemmas.List.{length-map}
use Rattle.shredding.specs.Parts.{Part, IsPath, path_way, path_slots}
use Rattle.columns_array.specs.Boxed.{boxed}
use Rattle.columns_slots.specs.Slots.{cut, tree_len, type_of}
use Rattle.columns_slots.specs.Tree.{ArrayTree}
use Rattle.levels.specs.declared.nested.Nested.{Nested}
use Rattle.levels.specs.Nested.{part_of, parts_of}
use Rattle.levels.specs.Ranges.{leaf_count_or}
use Rattle.nested_paths.specs.Seen.{leaf_slot}
use Rattle.nested_slice.specs.CutPath.{cut_parts, leaf_rows}
use Rattle.nested_slice.specs.Laws.{IsReadAsCut}
use Rattle.std.specs.Vec.{with_items}
use Rattle.write_pages.proofs.Moved.{front_is, rows_cut, type_cut}
use Rattle.write_pages.proofs.cut_column.cut_column.Goals as goal

pub returns-clause-ok : goal.returns-clause-ok
returns-clause-ok c =
    let a = boxed c.args.array.now in
    let old = parts_of c.args.nested.now in
    let s = c.slice_parquet_array.ensures in
    let o = c.args.first in
    let n = c.args.count in
    let new = c.slice_parquet_array.new.nested in
    let array = c.slice_parquet_array.new.primitive_array in
    let items : (with_items c.in_ok-nested.nested new).items ≡ new = front_is new _ c.in_ok-nested.nested.len (omega (arith, c.slice_parquet_array.auto.nested, c.deref_mut.ensures.len, ap length c.deref_mut.ensures.value)) in
    let path : parts_of c.deref_mut.result.now ≡ old = ap parts_of (c.deref_mut.ensures.value ∙ c.in_ok-nested.ensures.ok) in
    let many : length new ≡ length c.args.nested.now = c.slice_parquet_array.auto.nested ∙ ap length (c.deref_mut.ensures.value ∙ c.in_ok-nested.ensures.ok) in
    let tree : boxed array ≡ cut a (leaf_rows old o n).0 (leaf_rows old o n).1 =
    s.array ∙ (ap (λ (b : ArrayTree). cut b (leaf_rows (parts_of c.deref_mut.result.now) o n).0 (leaf_rows (parts_of c.deref_mut.result.now) o n).1) c.in_ok-array.ensures.ok ∙ ap (λ (ps : List Part). cut a (leaf_rows ps o n).0 (leaf_rows ps o n).1) path) in
    let read : IsReadAsCut old (parts_of new) o n = subst (λ (ps : List Part). IsReadAsCut ps (parts_of new) o n) path s.read in
    record {
      well = subst (λ (xs : List Nested). IsPath (parts_of xs)) (sym items) s.path;
      few = ap length items ∙ (many ∙ sym (length-map c.args.nested.now part_of));
      leaf = subst (λ (xs : List Nested). tree_len (boxed array) ≡ leaf_count_or 0 (parts_of xs)) (sym items) s.leaf;
      type = ap type_of tree ∙ type_cut a (leaf_rows old o n).0 (leaf_rows old o n).1;
      way = ap (λ (xs : List Nested). path_way (parts_of xs)) items ∙ (s.way ∙ ap path_way path);
      rows = ap (λ (xs : List Nested). path_slots (leaf_slot (boxed array)) (parts_of xs)) items ∙ rows_cut a (boxed array) old (parts_of new) o n c.cut_leaves_are_seen.ensures tree read;
    }

pub returns-clause-tree : goal.returns-clause-tree
returns-clause-tree c =
    let a = boxed c.args.array.now in
    let o = c.args.first in
    let n = c.args.count in
    let path : parts_of c.deref_mut.result.now ≡ parts_of c.args.nested.now = ap parts_of (c.deref_mut.ensures.value ∙ c.in_ok-nested.ensures.ok) in
    c.slice_parquet_array.ensures.array
    ∙ (ap (λ (b : ArrayTree). cut b (leaf_rows (parts_of c.deref_mut.result.now) o n).0 (leaf_rows (parts_of c.deref_mut.result.now) o n).1) c.in_ok-array.ensures.ok ∙ ap (λ (ps : List Part). cut a (leaf_rows ps o n).0 (leaf_rows ps o n).1) path)

pub returns-clause-path : goal.returns-clause-path
returns-clause-path c =
    let o = c.args.first in
    let n = c.args.count in
    let new = c.slice_parquet_array.new.nested in
    let items : (with_items c.in_ok-nested.nested new).items ≡ new = front_is new _ c.in_ok-nested.nested.len (omega (arith, c.slice_parquet_array.auto.nested, c.deref_mut.ensures.len, ap length c.deref_mut.ensures.value)) in
    let path : parts_of c.deref_mut.result.now ≡ parts_of c.args.nested.now = ap parts_of (c.deref_mut.ensures.value ∙ c.in_ok-nested.ensures.ok) in
    ap parts_of items ∙ (c.slice_parquet_array.ensures.parts ∙ ap (λ (ps : List Part). cut_parts ps o n) path)
