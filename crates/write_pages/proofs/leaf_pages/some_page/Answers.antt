use Rattle.columns_array.specs.Boxed.{boxed}
use Rattle.levels.specs.Nested.{parts_of}
use Rattle.pq_tree.specs.Views.{physical_view}
use Rattle.write_pages.proofs.leaf_pages.some_page.Goals as goal

pub known_page_at-requires-clause-known : goal.known_page_at-requires-clause-known
known_page_at-requires-clause-known c =
    c.in-Some.ensures c.args.options.write_statistics (boxed c.args.array.now) (parts_of c.args.nested.now) (physical_view c.args.type_.now.physical_type) c.requires.known
