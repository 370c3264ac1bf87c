use Rattle.std.proofs.Common.{List, length, ℕ}
use Rattle.read_column.specs.Dictionary.{means}
use Rattle.read_column.proofs.Futures.{IsFilling}
use Rattle.read_column.proofs.reader.fill.Given as goal

abbrev pub invariant-pages : goal.invariant-pages
invariant-pages g l = IsFilling (λ (text : List ℕ). g.L.LeafReader.stored l.leaf text 0) g.L.LeafReader.byte_limit (g.I.Pages.outcomes l.initial.pages) (g.I.Pages.outcomes l.pages) (means l.initial.entries l.deltas) (means l.entries l.deltas) l.initial.queue l.queue l.initial.began l.began × g.L.LeafReader.suits l.leaf l.queue.width

abbrev pub decreases-pages : goal.decreases-pages
decreases-pages g l = length (g.I.Pages.outcomes l.pages)
