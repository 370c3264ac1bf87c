-- A Thrift value says one thing: the tables of ids have one reading.
use Rattle.std.specs.Prelude.{◌≡◌}
use Rattle.pq_thrift.specs.Value.{Value}
use Rattle.pq_metadata.specs.Footer.{Footer, SpellsFooter}
use Rattle.pq_metadata.specs.Header.{PageHeader, SpellsHeader}

-- a value is at most one footer
abbrev pub FootersAreUnique : Type 0
FootersAreUnique = (v : Value) (f g : Footer) → SpellsFooter v f → SpellsFooter v g → f ≡ g

-- a value is at most one page header
abbrev pub HeadersAreUnique : Type 0
HeadersAreUnique = (v : Value) (h k : PageHeader) → SpellsHeader v h → SpellsHeader v k → h ≡ k
