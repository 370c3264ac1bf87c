use Rattle.std.proofs.Common.{◌++◌, List, map, drop}
use Rattle.columns_base.specs.declared.error.Error.{Error}
use Rattle.nested_paths.specs.Leaves.{leaf_node}
use Rattle.nested_paths.specs.Taken.{all_parts, shown}
use Rattle.write_pages.specs.Columns.{AnyRefused, AreColumns, AreShort}
use Rattle.write_pages.specs.Given.{to_give}
use Rattle.write_pages.specs.Holds.{ToGive}
use Rattle.write_pages.proofs.columns.pages_of_all.Given as goal

abbrev pub invariant-loop-i : goal.invariant-loop-i
invariant-loop-i l = record {
  done : (gs : List ToGive) → AreColumns l.options (map leaf_node (drop l.i l.types)) (all_parts (drop l.i l.paths)) (shown (drop l.i l.arrays)) (drop l.i l.encoding) gs → AreColumns l.options (map leaf_node l.types) (all_parts l.paths) (shown l.arrays) l.encoding (map to_give l.columns.items ++ gs);
  refused : (e : Error) → AnyRefused l.options (map leaf_node (drop l.i l.types)) (all_parts (drop l.i l.paths)) (shown (drop l.i l.arrays)) (drop l.i l.encoding) e → AnyRefused l.options (map leaf_node l.types) (all_parts l.paths) (shown l.arrays) l.encoding e;
  short : AreShort (all_parts (drop l.i l.paths));
}
