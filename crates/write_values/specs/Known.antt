-- What is known of the values that a path reaches.
use Rattle.std.specs.Prelude.{Bool, List, option_map}
use Rattle.columns_core.specs.Shapes.{leaf_type}
use Rattle.columns_slots.specs.Slots.{tree_len, type_of}
use Rattle.columns_slots.specs.Tree.{ArrayTree}
use Rattle.levels.specs.declared.nested.Nested.{Nested}
use Rattle.levels.specs.Nested.{parts_of}
use Rattle.page_statistics.specs.Stated.{AreStated}
use Rattle.pq_tree.specs.Physical.{Physical}
use Rattle.pq_tree.specs.Views.{statistics_view}
use Rattle.write_places.specs.Places.{path_places}
use Rattle.write_values.specs.declared.known.Known.{Known}
use Rattle.write_values.specs.Pages.{value_column}
use Rattle.write_values.specs.Rows.{Measures}
use Rattle.write_values.specs.Stored.{stored_at}

-- The number of the values that the path reaches in the leaf array and that of the bytes of what is stored for them, and their statistics,
-- where these are wanted.
pub record AreKnown (wanted : Bool) (a : ArrayTree) (p : Physical) (nested : List Nested) (known : Known) : Type 0 where
  pub measures : Measures p (tree_len a) (stored_at a p) (path_places (parts_of nested)) known.measured
  pub stated : AreStated wanted (leaf_type (type_of a)) p (value_column a nested) (option_map statistics_view known.statistics)
