use Rattle.std.proofs.Common.{◌≡◌, ◌++◌, map}
use Rattle.write_groups.specs.Given.{column_of}
use Rattle.write_groups.proofs.group.push_all.Given as goal

abbrev pub invariant-loop-page : goal.invariant-loop-page
invariant-loop-page l = l.columns.items ≡ l.fn.columns.items ++ map column_of l.yielded
