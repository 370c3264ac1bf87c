-- What a writer keeps of the leaves of its schema, for the metadata of their columns (Parquet format, parquet.thrift: ColumnMetaData).
use Rattle.std.specs.Prelude.{◌≡◌, List, map}
use Rattle.pq_tree.specs.Paths.{names_of, path_view}
use Rattle.pq_tree.specs.Tree.{Leaf}
use Rattle.pq_tree.specs.Views.{physical_view}
use Rattle.write_file.specs.declared.leaf.LeafMetas.{LeafMetas}

-- of each leaf in order the physical type, and the names on its path
pub record AreMetasOf (ls : List Leaf) (m : LeafMetas) : Type 0 where
  pub physicals : map physical_view m.physicals.items ≡ map (λ l. l.physical) ls
  pub paths : map path_view m.paths.items ≡ map names_of ls
