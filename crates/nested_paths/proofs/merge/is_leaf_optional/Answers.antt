use Rattle.std.proofs.Common.{rules, ◌≡◌, false, sym}
use Rattle.levels.specs.Nested.{is_leaf}
use Rattle.nested_paths.proofs.Lasts.{last_primitive, last_other}
use Rattle.nested_paths.proofs.merge.is_leaf_optional.Goals as goal

pub returns-in-Primitive : goal.returns-in-Primitive
returns-in-Primitive c =
    sym (last_primitive c.args.nested.now c.index-nested-nested.result _ _ _ c.requires c.index-nested-nested.is c.in-Primitive.is).optional_is

pub returns-in_default : goal.returns-in_default
returns-in_default c =
    let other : is_leaf c.index-nested-nested.result ≡ false = search rules in
    absurd (last_other c.args.nested.now c.index-nested-nested.result c.requires c.index-nested-nested.is other)
