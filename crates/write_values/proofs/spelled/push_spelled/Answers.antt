use Rattle.std.proofs.Common.{Option, map, sym, subst}
use Rattle.levels.specs.Nested.{parts_of}
use Rattle.write_places.specs.Places.{path_places}
use Rattle.write_values.specs.declared.spelling.Deltas.{Deltas}
use Rattle.write_values.specs.Deltas.{AppendsSpelled, encoding_in}
use Rattle.write_values.specs.Leaf.{leaf_tree, leaf_physical}
use Rattle.write_values.specs.Stored.{stored_at}
use Rattle.write_values.proofs.InRows.{plain_spelled}
use Rattle.write_values.proofs.spelled.push_spelled.Goals as goal

pub returns-in_ok-out-in-None-clause-ok : goal.returns-in_ok-out-in-None-clause-ok
returns-in_ok-out-in-None-clause-ok c =
    let p = leaf_physical c.args.leaf in
    let vs = map (stored_at (leaf_tree c.args.leaf) p) (path_places (parts_of c.args.nested.now)) in
    subst (λ (d : Option Deltas). AppendsSpelled (encoding_in d) p c.args.out.items c.in_ok-out-in-None.out.items vs) (sym c.in-None.is) (plain_spelled p c.args.out.items c.in_ok-out-in-None.out.items vs c.in_ok-out-in-None.ensures.ok)
