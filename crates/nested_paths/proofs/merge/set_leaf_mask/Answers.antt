use Rattle.std.proofs.Common.{rules, ◌≡◌, Some, false, ap, sym, length, ◌-◌}
use Rattle.levels.specs.Nested.{is_leaf, is_large}
use Rattle.levels.specs.declared.nested.Nested.TheVariants.{Primitive}
use Rattle.nested_slice.proofs.Steps.{kinds_set}
use Rattle.nested_paths.proofs.Lasts.{set_last, last_other}
use Rattle.nested_paths.proofs.merge.set_leaf_mask.Goals as goal

pub returns-in-Primitive-clause-parts : goal.returns-in-Primitive-clause-parts
returns-in-Primitive-clause-parts c =
    set_last c.args.nested.now c.in-Primitive.mask (Some c.args.values) c.in-Primitive.field-1 c.in-Primitive.field-2 c.index-nested-last.result c.requires.in_bounds (sym c.in-Primitive.is)

pub returns-in-Primitive-clause-kinds : goal.returns-in-Primitive-clause-kinds
returns-in-Primitive-clause-kinds c =
    kinds_set c.args.nested.now (length c.args.nested.now - 1) c.index-nested-last.result (Primitive (Some c.args.values) c.in-Primitive.field-1 c.in-Primitive.field-2)
    (ap is_large (sym c.in-Primitive.is))

pub returns-in_default : goal.returns-in_default
returns-in_default c =
    let other : is_leaf c.index-nested-last.result ≡ false = search rules in
    absurd (last_other c.args.nested.now c.index-nested-last.result c.requires.in_bounds c.index-nested-last.is other)
