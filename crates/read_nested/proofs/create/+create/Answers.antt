use Rattle.std.proofs.Common.{◌+◌, ◌-◌, length, take, drop, inl, inr, refl, ap, ◌∙◌}
use Rattle.std.proofs.lemmas.Result.{err_from_is_err_and}
use Rattle.std.specs.Vec.Iter.{into_iter_items}
use Rattle.columns_core.specs.View.{type_view, field_view, fields_view}
use Rattle.columns_array.specs.Boxed.{boxed, all_boxed}
use Rattle.read_nested.proofs.Each.{none-done, next-done, end-done, fail-done, add-fails, map-fails, map-view}
use Rattle.read_nested.proofs.create.+create.Goals as goal

pub create_children-loop-field-init : goal.create_children-loop-field-init
create_children-loop-field-init t c = record {
  same = refl;
  done = none-done c.in_ok-children.children.nested (fields_view (take (length c.args.fields.now - 1) (drop 1 c.args.fields.now))) (into_iter_items c.create_field.new.pieces) (all_boxed c.in_ok-children.children.arrays.items);
}

pub create_children-loop-field-preserved : goal.create_children-loop-field-preserved
create_children-loop-field-preserved t c = record {
  same = c.in_ok-add_child.ensures.same ∙ c.loop-field.invariant.same;
  done = next-done c.in_ok-children.children.nested c.in_ok-piece-2.piece.nested (take (length c.args.fields.now - 1) (drop 1 c.args.fields.now)) c.loop-field.field-index c.field-item.result (fields_view (take (length c.args.fields.now - 1) (drop 1 c.args.fields.now)))
      (into_iter_items c.create_field.new.pieces) (into_iter_items c.loop-field.pieces) (into_iter_items c.create_field-in-loop-field.new.pieces) (all_boxed c.in_ok-children.children.arrays.items) (all_boxed c.loop-field.children.arrays.items) (all_boxed c.add_child.new.children.arrays.items) (boxed c.in_ok-piece-2.piece.values)
      c.loop-field-test.true c.field-item.is c.loop-field.invariant.done c.in_ok-piece-2.ensures.ok (c.in_ok-add_child.ensures.ok.0 ∙ c.loop-field.invariant.same) c.in_ok-add_child.ensures.ok.1;
}

pub create_children-returns-clause-ok : goal.create_children-returns-clause-ok
create_children-returns-clause-ok t c =
    end-done c.args.fields.now c.first-item.result c.loop-field.field-index (into_iter_items c.args.pieces.now) (into_iter_items c.create_field.new.pieces) (into_iter_items c.loop-field.pieces) (boxed c.in_ok-piece.piece.values) c.in_ok-piece.piece.nested c.in_ok-children.children.nested c.loop-field.children.nested (all_boxed c.in_ok-children.children.arrays.items) (all_boxed c.loop-field.children.arrays.items)
    c.in-len1-up.len_at_least c.first-item.is c.loop-field-test.false c.in_ok-piece.ensures.ok c.in_ok-children.ensures.ok c.loop-field.invariant.done c.loop-field.invariant.same

pub create_children-returns-in_err-piece-2-clause-err : goal.create_children-returns-in_err-piece-2-clause-err
create_children-returns-in_err-piece-2-clause-err t c =
    let p = err_from_is_err_and c.from_residual-in_err-piece-2.result c.from_residual-in_err-piece-2.ensures.1 in
    rw (p.1, p.2)
    (fail-done c.args.fields.now c.first-item.result c.field-item.result c.loop-field.field-index (into_iter_items c.args.pieces.now) (into_iter_items c.create_field.new.pieces) (into_iter_items c.loop-field.pieces) (boxed c.in_ok-piece.piece.values) c.in_ok-piece.piece.nested c.in_ok-children.children.nested (all_boxed c.in_ok-children.children.arrays.items) (all_boxed c.loop-field.children.arrays.items) _
    c.in-len1-up.len_at_least c.first-item.is c.loop-field-test.true c.field-item.is c.in_ok-piece.ensures.ok c.in_ok-children.ensures.ok c.loop-field.invariant.done (inr (inl c.in_err-piece-2.ensures.err)))

pub create_children-returns-in_err-add_child-clause-err : goal.create_children-returns-in_err-add_child-clause-err
create_children-returns-in_err-add_child-clause-err t c =
    let p = err_from_is_err_and c.from_residual-in_err-add_child.result c.from_residual-in_err-add_child.ensures.1 in
    rw (p.1, p.2)
    (fail-done c.args.fields.now c.first-item.result c.field-item.result c.loop-field.field-index (into_iter_items c.args.pieces.now) (into_iter_items c.create_field.new.pieces) (into_iter_items c.loop-field.pieces) (boxed c.in_ok-piece.piece.values) c.in_ok-piece.piece.nested c.in_ok-children.children.nested (all_boxed c.in_ok-children.children.arrays.items) (all_boxed c.loop-field.children.arrays.items) _
    c.in-len1-up.len_at_least c.first-item.is c.loop-field-test.true c.field-item.is c.in_ok-piece.ensures.ok c.in_ok-children.ensures.ok c.loop-field.invariant.done
    (add-fails c.in_ok-children.children.nested (field_view c.field-item.result) (fields_view (drop (c.loop-field.field-index + 1) (take (length c.args.fields.now - 1) (drop 1 c.args.fields.now)))) (into_iter_items c.loop-field.pieces) (into_iter_items c.create_field-in-loop-field.new.pieces) (boxed c.in_ok-piece-2.piece.values) c.in_ok-piece-2.piece.nested c.loop-field.children.nested _
    c.in_ok-piece-2.ensures.ok c.loop-field.invariant.same c.in_err-add_child.ensures.err))

pub create_type-returns-in-Map-clause-err : goal.create_type-returns-in-Map-clause-err
create_type-returns-in-Map-clause-err t c =
    map-fails (type_view c.args.own.now) (type_view c.args.data_type.now) (field_view c.deref-in-Map.result.now) (field_view c.in-Map.entry.value) c.in-Map.field-1 (into_iter_items c.args.pieces.now) c.create_entries.result (ap type_view c.in-Map.is ∙ map-view c.in-Map.entry c.in-Map.field-1) (ap field_view c.deref-in-Map.ensures) c.create_entries.ensures.err
