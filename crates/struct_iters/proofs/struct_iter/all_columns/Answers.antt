use Rattle.std.proofs.Common.{◌≡◌, [], ◌++◌, flat_map, sym, subst, arith}
use Rattle.std.specs.Vec.Iter.{into_iter_items}
use Rattle.struct_iters.specs.Readings.{items_in}
use Rattle.struct_iters.proofs.Collected.{no-items, none-of-several, several-more}
use Rattle.struct_iters.proofs.struct_iter.all_columns.Goals as goal

pub iters-preserved : goal.iters-preserved
iters-preserved g c =
    subst (λ us. us ++ flat_map (λ it. (items_in {I = g.row.I.Denot} it).readers) (into_iter_items c.next.new.self) ≡ flat_map (λ it. (items_in {I = g.row.I.Denot} it).readers) c.args.iters.items) (sym c.in_ok-append.ensures.items)
    (several-more (λ it. (items_in {I = g.row.I.Denot} it).readers) c.iters.columns.items c.into_columns-more.result.items (flat_map (λ it. (items_in {I = g.row.I.Denot} it).readers) c.args.iters.items)
    (into_iter_items c.iters.left) (into_iter_items c.next.new.self) c.in-Some.iter c.in-Some.ensures.items c.into_columns-more.ensures c.iters.invariant)

pub returns-clause-ok : goal.returns-clause-ok
returns-clause-ok g c =
    let empty : into_iter_items c.iters.left ≡ [] = no-items (into_iter_items c.iters.left) (omega (arith, c.iters.left.rest.ok.0, c.in_default.ensures.cases.0)) in
    none-of-several (λ it. (items_in {I = g.row.I.Denot} it).readers) c.iters.columns.items (flat_map (λ it. (items_in {I = g.row.I.Denot} it).readers) c.args.iters.items) (into_iter_items c.iters.left) empty c.iters.invariant
