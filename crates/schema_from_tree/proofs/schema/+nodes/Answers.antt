use Rattle.std.proofs.Common.{sym}
use Rattle.schema_from_tree.proofs.One.{more_item}
use Rattle.schema_from_tree.proofs.schema.+nodes.Goals as goal

pub item_of_node-returns-in-len2-up : goal.item_of_node-returns-in-len2-up
item_of_node-returns-in-len2-up t c =
    let g = c.in-GroupType in
    let e = more_item c.args.parent.now _ g.field_info g.logical_type g.converted_type g.fields _ g.is c.as_slice.ensures.value c.in-len2-up.len_at_least in
    let f = c.struct_of_nodes-in-len2-up.ensures in
    let d = c.deref-in-len2-up.ensures.value in
    rw (e, sym d) f
