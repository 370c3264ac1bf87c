use Rattle.std.proofs.Common.{ap, subst}
use Rattle.columns_core.specs.Shapes.{base}
use Rattle.levels.specs.Nested.{parts_of}
use Rattle.write_places.specs.Places.{path_places}
use Rattle.write_values.specs.Leaf.{leaf_physical, leaf_tree}
use Rattle.write_values.specs.Nulls.{TellsNulls}
use Rattle.write_values.specs.declared.leaf.Leaf.{Leaf}
use Rattle.write_values.proofs.IntervalPlaces.{months_served}
use Rattle.write_values.proofs.NullPlaces.{none_appended}
use Rattle.write_values.proofs.values.push_values.Goals as goal

pub new-requires-in-Months : goal.new-requires-in-Months
new-requires-in-Months c = months_served (base c.in-Months.a.now.0) c.know.ensures.typed (rw c.in-Months.is at c.requires.served)

pub returns-in-Null-clause-ok : goal.returns-in-Null-clause-ok
returns-in-Null-clause-ok c =
    none_appended (leaf_physical c.args.leaf) c.args.out.items _ (path_places (parts_of c.args.nested.now)) (ap leaf_physical c.in-Null.is) (subst (λ (l : Leaf). TellsNulls (leaf_tree l) (parts_of c.args.nested.now)) c.in-Null.is c.requires.nulls)
