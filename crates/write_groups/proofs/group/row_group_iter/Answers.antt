use Rattle.std.proofs.Common.{length, refl, sym, ap, ◌∙◌}
use Rattle.columns_slots.specs.Slots.{count_arrays}
use Rattle.write_groups.proofs.Fields.{boxed_count}
use Rattle.write_groups.proofs.group.row_group_iter.Goals as goal

pub columns_of-requires-clause-trees : goal.columns_of-requires-clause-trees
columns_of-requires-clause-trees c =
    ap length c.deref.ensures.value ∙ ((c.if-not-are_so_many.ensures.0 refl).1 ∙ (sym (ap count_arrays c.arrays.ensures) ∙ boxed_count c.arrays.result.now))

pub columns_of-requires-clause-encodings : goal.columns_of-requires-clause-encodings
columns_of-requires-clause-encodings c =
    ap length c.deref-2.ensures.value ∙ ((c.if-not-are_so_many.ensures.0 refl).0 ∙ (sym (ap count_arrays c.arrays.ensures) ∙ boxed_count c.arrays.result.now))
