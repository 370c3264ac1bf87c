-- What is known of a column is known of the same column told otherwise.
use Rattle.std.proofs.Common.{◌≡◌, Bool, Option, None, List, option_map, subst}
use Rattle.shredding.specs.Shape.{LeafType, Way}
use Rattle.shredding.specs.Slot.{Slot}
use Rattle.columns_core.specs.Shapes.{leaf_type}
use Rattle.columns_slots.specs.Slots.{tree_len, type_of}
use Rattle.columns_slots.specs.Tree.{ArrayTree}
use Rattle.levels.specs.declared.nested.Nested.{Nested}
use Rattle.levels.specs.Nested.{parts_of}
use Rattle.page_statistics.specs.Stated.{AreStated}
use Rattle.pq_files.specs.Page.{Encoding}
use Rattle.pq_pages.specs.DataPages.{DataPageValue}
use Rattle.pq_tree.specs.Footers.{ChunkStatistics}
use Rattle.pq_tree.specs.Physical.{Physical}
use Rattle.pq_tree.specs.Tree.{Tree}
use Rattle.pq_tree.specs.Views.{statistics_view}
use Rattle.write_places.specs.Places.{path_places}
use Rattle.write_values.specs.declared.known.Known.{Known}
use Rattle.write_values.specs.declared.measured.Measured.{Measured}
use Rattle.write_values.specs.Known.{AreKnown}
use Rattle.write_values.specs.Pages.{value_column}
use Rattle.write_values.specs.Rows.{Measures}
use Rattle.write_values.specs.Stored.{stored_at}
use Rattle.write_pages.specs.declared.options.WriteOptions.{WriteOptions}
use Rattle.write_pages.specs.Holds.{HoldsRows}

pub known_moved : (wanted : Bool) (a : ArrayTree) (p p' : Physical) (nested nested' : List Nested) (k k' : Known) → p ≡ p' → nested ≡ nested' → k.measured ≡ k'.measured → option_map statistics_view k.statistics ≡ option_map statistics_view k'.statistics → AreKnown wanted a p nested k → AreKnown wanted a p' nested' k'
known_moved wanted a p p' nested nested' k k' e d m s h =
    subst (λ (q : Physical). AreKnown wanted a q nested' k') e
    (subst (λ (xs : List Nested). AreKnown wanted a p xs k') d
    (record {
      measures = subst (λ (x : Measured). Measures p (tree_len a) (stored_at a p) (path_places (parts_of nested)) x) m h.measures;
      stated = subst (λ (x : Option ChunkStatistics). AreStated wanted (leaf_type (type_of a)) p (value_column a nested) x) s h.stated;
    }))

pub holds_moved : (o : WriteOptions) (f : LeafType → Encoding) (t t' : LeafType) (node : Tree) (p : Physical) (w w' : Way) (rows rows' : List Slot) (page : DataPageValue) → t ≡ t' → w ≡ w' → rows ≡ rows' → HoldsRows o (f t) t node p w None rows page → HoldsRows o (f t') t' node p w' None rows' page
holds_moved o f t t' node p w w' rows rows' page a d e h =
    subst (λ (x : LeafType). HoldsRows o (f x) x node p w' None rows' page) a (subst (λ (x : Way). HoldsRows o (f t) t node p x None rows' page) d (subst (λ (x : List Slot). HoldsRows o (f t) t node p w None x page) e h))
