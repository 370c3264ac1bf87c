use Rattle.std.proofs.Common.{◌≡◌, [], ◌++◌, Some, map, sym, subst, arith}
use Rattle.std.specs.Vec.Iter.{into_iter_items}
use Rattle.struct_iters.proofs.Collected.{no-items, none-left, one-more}
use Rattle.struct_iters.proofs.open.open_all.Goals as goal

pub readers-preserved : goal.readers-preserved
readers-preserved g c =
    subst (λ us. us ++ map Some (into_iter_items c.next.new.self) ≡ map Some c.args.readers.items) (sym c.in_ok-push.ensures.items)
    (one-more Some c.readers.columns.items (map Some c.args.readers.items) (into_iter_items c.readers.left) (into_iter_items c.next.new.self) c.in-Some.reader c.in-Some.ensures.items c.readers.invariant)

pub returns-clause-ok : goal.returns-clause-ok
returns-clause-ok g c =
    let empty : into_iter_items c.readers.left ≡ [] = no-items (into_iter_items c.readers.left) (omega (arith, c.readers.left.rest.ok.0, c.in_default.ensures.cases.0)) in
    none-left Some c.readers.columns.items (map Some c.args.readers.items) (into_iter_items c.readers.left) empty c.readers.invariant
