use Rattle.std.proofs.Common.{arith}
use Rattle.schema_fit.proofs.Rests.{place_found, place_past, place_end, place_nests}
use Rattle.schema_fit.proofs.place.+places.Goals as goal

pub next_of_nodes-next_beneath-requires : goal.next_of_nodes-next_beneath-requires
next_of_nodes-next_beneath-requires t c =
    let n = place_nests c.args.nodes.now c.nodes.path c.at-index.result c.at-index.result c.index-nodes-index.result c.at-index.ensures c.if-index-nodes.false c.at-index.ensures c.index-nodes-index.is in
    let r = c.requires in
    let l = c.nodes.auto.path in
    let d = c.decreases in
    (omega (arith, n, d), omega (arith, n, r, l))

pub next_of_nodes-returns-in-Some-clause-next : goal.next_of_nodes-returns-in-Some-clause-next
next_of_nodes-returns-in-Some-clause-next t c =
    place_found c.args.nodes.now c.nodes.path c.next_beneath.new.path _ c.at-index.result c.at-index.result c.index-nodes-index.result _ c.at-index.ensures c.if-index-nodes.false c.at-index.ensures c.index-nodes-index.is c.nodes.invariant c.next_beneath.ensures.at c.in-Some.ensures.next

pub next_of_nodes-returns-in-Some-clause-shallow : goal.next_of_nodes-returns-in-Some-clause-shallow
next_of_nodes-returns-in-Some-clause-shallow t c =
    let n = place_nests c.args.nodes.now c.nodes.path c.at-index.result c.at-index.result c.index-nodes-index.result c.at-index.ensures c.if-index-nodes.false c.at-index.ensures c.index-nodes-index.is in
    let s = c.in-Some.ensures.shallow in
    omega (arith, n, s)

pub next_of_nodes-nodes-preserved : goal.next_of_nodes-nodes-preserved
next_of_nodes-nodes-preserved t c =
    place_past c.args.nodes.now c.nodes.path c.next_beneath.new.path c.pass.new.path _ c.at-index.result c.at-index.result _ c.index-nodes-index.result c.at-index.ensures c.if-index-nodes.false c.at-index.ensures c.index-nodes-index.is c.nodes.invariant c.next_beneath.ensures.at c.pass.ensures.at c.pass.ensures.begins c.in_default.ensures.next

pub next_of_nodes-returns-then-index-nodes-clause-next : goal.next_of_nodes-returns-then-index-nodes-clause-next
next_of_nodes-returns-then-index-nodes-clause-next t c = place_end c.args.nodes.now c.nodes.path _ c.at-index.result c.at-index.ensures c.if-index-nodes.true c.nodes.invariant
