use Rattle.std.proofs.Common.{◌≡◌, rules, true}
use Rattle.columns_core.specs.Shapes.{base}
use Rattle.columns_core.specs.View.{type_view}
use Rattle.columns_slots.specs.Types.{is_leaf}
use Rattle.rewrite_whole.proofs.Plains.{values_have}
use Rattle.rewrite_whole.proofs.plan.encoding_of.Goals as goal

pub page_encoding-requires : goal.page_encoding-requires
page_encoding-requires c =
    let t = type_view c.args.data_type.now in
    let own : is_leaf (base t) ≡ true = search rules in
    values_have t own
