-- What a page of a column is, in the words of pages.
use Rattle.std.proofs.Common.{None}
use Rattle.columns_core.specs.Shapes.{leaf_type}
use Rattle.columns_slots.specs.Slots.{type_of}
use Rattle.leaf_pages.specs.Columns.{FitsArray, IsTooWide, IsPageAlong, IsTooLarge, PathColumn, column_pairs, column_physical, column_rows}
use Rattle.pq_files.specs.Page.{Encoding}
use Rattle.pq_pages.specs.DataPages.{DataPageValue}
use Rattle.pq_tree.specs.TreeViews.{leaf_view}
use Rattle.shredding.specs.Parts.{path_way}
use Rattle.write_pages.specs.Fits.{FitsColumn}
use Rattle.write_pages.specs.Holds.{HoldsRows}
use Rattle.write_pages.specs.Refused.{HasWide, IsPastRoom}
use Rattle.write_pages.specs.declared.options.WriteOptions.{WriteOptions}

pub fits : (c : PathColumn) → FitsArray c → FitsColumn c.parts (column_rows c) (leaf_view c.type_) (column_physical c) c.array
unfolding FitsArray
fits c h = h

pub fits_array : (c : PathColumn) → FitsColumn c.parts (column_rows c) (leaf_view c.type_) (column_physical c) c.array → FitsArray c
unfolding FitsArray
fits_array c h = h

pub is_wide : (c : PathColumn) → HasWide (leaf_type (type_of c.array)) (column_physical c) (column_pairs c) → IsTooWide c
unfolding IsTooWide
is_wide c h = h

pub wide : (c : PathColumn) → IsTooWide c → HasWide (leaf_type (type_of c.array)) (column_physical c) (column_pairs c)
unfolding IsTooWide
wide c h = h

pub is_large : (c : PathColumn) → IsPastRoom (leaf_type (type_of c.array)) (column_physical c) (column_pairs c) → IsTooLarge c
unfolding IsTooLarge
is_large c h = h

pub large : (c : PathColumn) → IsTooLarge c → IsPastRoom (leaf_type (type_of c.array)) (column_physical c) (column_pairs c)
unfolding IsTooLarge
large c h = h

pub is_page : (o : WriteOptions) (e : Encoding) (c : PathColumn) (page : DataPageValue) → HoldsRows o e (leaf_type (type_of c.array)) (leaf_view c.type_) (column_physical c) (path_way c.parts) None (column_rows c) page → IsPageAlong o e c page
unfolding IsPageAlong
is_page o e c page h = h
