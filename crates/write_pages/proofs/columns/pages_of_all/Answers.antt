use Rattle.std.proofs.Common.{◌<◌, [], List, length, map, get_or, subst, arith, inl, inr, append-nil}
use Rattle.columns_array.specs.Boxed.{boxed}
use Rattle.levels.specs.declared.nested.Nested.{Nested}
use Rattle.levels.specs.Nested.{parts_of}
use Rattle.nested_paths.specs.Leaves.{leaf_node}
use Rattle.pq_tree.specs.declared.types.Encoding.TheVariants as E
use Rattle.nested_paths.specs.Taken.{all_parts, shown}
use Rattle.write_pages.specs.Columns.{AreColumns, RefusesColumn}
use Rattle.write_pages.specs.Given.{to_give}
use Rattle.write_pages.specs.Holds.{ToGive}
use Rattle.write_pages.proofs.ColumnLists.{front_at, front_of, none_more, refused_here}
use Rattle.write_pages.proofs.columns.pages_of_all.Goals as goal

pub returns-clause-ok : goal.returns-clause-ok
returns-clause-ok c =
    subst (λ (gs : List ToGive). AreColumns c.args.options (map leaf_node c.args.types.now) (all_parts c.args.paths.now) (shown c.args.arrays.now) c.args.encoding.now gs) (append-nil (map to_give c.loop-i.columns.items))
    (c.loop-i.invariant.done [] (none_more c.args.options c.args.types.now c.args.paths.now c.args.arrays.now c.args.encoding.now c.loop-i.i c.loop-i-test.false c.requires.paths c.requires.arrays c.requires.encodings))

pub returns-in-Err-clause-err : goal.returns-in-Err-clause-err
returns-in-Err-clause-err c =
    let i = c.loop-i.i in
    let types = c.args.types.now in
    let paths = c.args.paths.now in
    let arrays = c.args.arrays.now in
    let es = c.args.encoding.now in
    let h : i < length types = c.loop-i-test.true in
    let lt = front_of types i c.index-types-i.result h c.index-types-i.is in
    let lp = front_of paths i c.index-paths-i.result (omega (arith, c.requires.paths, h)) c.index-paths-i.is in
    let la = front_of arrays i c.index-arrays-i.result (omega (arith, c.requires.arrays, h)) c.index-arrays-i.is in
    let le = front_at es i E.Plain (omega (arith, c.requires.encodings, h)) in
    elim c.in-Err.ensures.err [ inl m ↦ inl m | inr r ↦ inr (c.loop-i.invariant.refused c.in-Err.error (refused_here c.args.options types paths arrays es i c.index-types-i.result c.index-paths-i.result c.index-arrays-i.result (get_or es i E.Plain) lt lp la le c.in-Err.error (subst (λ (xs : List Nested). RefusesColumn c.args.options (leaf_node c.index-types-i.result) (parts_of xs) (boxed c.index-arrays-i.result.now) (get_or es i E.Plain) c.in-Err.error) c.deref.ensures.value r))) ]
