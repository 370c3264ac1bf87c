use Rattle.std.proofs.Common.{refl}
use Rattle.columns_core.specs.View.{type_view}
use Rattle.read_leaves.proofs.Leaves.{opens}
use Rattle.read_leaves.proofs.leaf.LeafColumn.try_new.Goals as goal

pub returns-in-Ok-clause-ok : goal.returns-in-Ok-clause-ok
returns-in-Ok-clause-ok g c o opened outcomes way rows size =
    let kind = c.in-Ok.ensures.kind in
    let readable = opens o (type_view c.args.data_type) _ c.in-Some.kind opened c.in-Some.ensures.0 c.in-Some.ensures.1 in
    let reads = rw c.in_ok-rows.ensures.ok at c.in-Ok.ensures.reads in
    record { typed = refl; made = rw kind c.in-Some.ensures.1; reads = rw kind (reads o readable opened.physical outcomes way rows size) }
