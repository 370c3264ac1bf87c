-- What the source in memory that never fails has left.
use Rattle.std.specs.Prelude.{List, ℕ, drop}
use Rattle.pq_io.specs.declared.plain_source.PlainSource.{PlainSource}

abbrev pub plain_left : PlainSource → List ℕ
plain_left source = drop source.at source.bytes.items
