-- The entries of a column's arrays are those of the chunk that its pages hold.
use Rattle.std.proofs.Common.{◌≡◌, Bool, true, Option, Some, None, List, ◌∷◌, map, ap, sym, ◌∙◌, refl, subst}
use Rattle.dictionary_leaves.specs.Dictionaries.{HasDictionary}
use Rattle.pq_files.proofs.PlainOnce.{plain_same}
use Rattle.pq_files.specs.Chunk.{Chunk}
use Rattle.pq_headline.specs.Rows.{HasEntriesOf}
use Rattle.pq_pages.specs.Held.{HoldsChunk}
use Rattle.pq_pages.specs.Outcomes.{Outcome, gives_dictionary}
use Rattle.read_columns.specs.Laws.{EntriesAreHeld}
use Rattle.read_pieces.specs.Columns.{ColumnOpening}
use Rattle.shredding.specs.Slot.{Value}

dictionary_held : (o : ColumnOpening) (vs : List Value) (chunk : Chunk) → HasDictionary o vs → HoldsChunk o.leaf o.outcomes chunk → HasEntriesOf true o.column.data_type o.leaf.physical chunk.entries (Some (map Some vs))
dictionary_held o vs chunk d h =
    let held : HoldsChunk o.leaf (gives_dictionary d.n d.body ∷ d.behind) chunk = subst (λ (os : List Outcome). HoldsChunk o.leaf os chunk) d.outcomes h in
    let same : d.stored ≡ held.0 = plain_same o.leaf.physical d.body d.body d.stored held.0 refl d.are.plain held.2.plain (sym d.are.count ∙ held.2.count) in
    subst (λ (x : Option (List Value)). HasEntriesOf true o.column.data_type o.leaf.physical x (Some (map Some vs))) (ap Some same ∙ sym held.1) d.entries

pub entries_held : EntriesAreHeld
entries_held o None chunk h direct = subst (λ (b : Bool). HasEntriesOf b o.column.data_type o.leaf.physical chunk.entries None) (sym direct) tt
entries_held o (Some es) chunk h (keyed, (vs, are, d)) =
    let own : HasEntriesOf true o.column.data_type o.leaf.physical chunk.entries (Some es) = subst (λ (xs : List (Option Value)). HasEntriesOf true o.column.data_type o.leaf.physical chunk.entries (Some xs)) (sym are) (dictionary_held o vs chunk d h) in
    subst (λ (b : Bool). HasEntriesOf b o.column.data_type o.leaf.physical chunk.entries (Some es)) (sym keyed) own
