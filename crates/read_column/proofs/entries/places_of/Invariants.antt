use Rattle.std.proofs.Common.{List, ℕ, length, ◌-◌, ◌≤◌}
use Rattle.read_column.specs.Entries.{ArePlacesTo}
use Rattle.read_column.proofs.entries.places_of.Given as goal

abbrev pub invariant-values : goal.invariant-values
invariant-values g l = ArePlacesTo (λ (text : List ℕ). g.L.LeafReader.stored l.leaf text 0) l.body l.places.items l.end × (length l.places.items ≤ l.count)

abbrev pub decreases-values : goal.decreases-values
decreases-values g l = l.count - length l.places.items
