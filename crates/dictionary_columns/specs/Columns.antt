-- The column of a dictionary's keys: one of numbers.
use Rattle.std.specs.Prelude.{ℕ, List}
use Rattle.columns_core.specs.declared.types.IntegerType.{IntegerType}
use Rattle.pq_headline.specs.Columns.{ArrowColumn}
use Rattle.pq_pages.specs.Outcomes.{Outcome, gives_dictionary}
use Rattle.pq_tree.specs.Tree.{Leaf}
use Rattle.read_pieces.specs.Columns.{ColumnOpening}
use Rattle.dictionary_columns.specs.Keys.{key_physical, key_tree}
use Rattle.dictionary_columns.specs.Sources.{keyed_outcomes}

abbrev pub key_column : IntegerType → ArrowColumn → ArrowColumn
key_column key c = record { way = c.way; limits = c.limits; data_type = key_tree key }

abbrev pub key_leaf : IntegerType → Leaf → Leaf
key_leaf key l = record { path = l.path; physical = key_physical key }

-- over a dictionary page with the keys of so many entries in this body
abbrev pub key_opening : IntegerType → ℕ → List ℕ → List Outcome → ColumnOpening → ColumnOpening
key_opening key n body os o =
    record {
      column = key_column key o.column;
      leaf = key_leaf key o.leaf;
      outcomes = keyed_outcomes (gives_dictionary n body) os;
      rows = o.rows;
      chunk_size = o.chunk_size;
    }
