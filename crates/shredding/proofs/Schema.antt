-- The columns of a schema.
use Rattle.std.proofs.Common.{◌≡◌, false, List, [], ◌∷◌, ◌++◌, map, refl, sym, ap, ◌∙◌}
use Rattle.std.proofs.lemmas.List.Elements.{All-map}
use Rattle.shredding.specs.Laws.{SchemaRowsAreUnique, FieldsHaveTheirColumns}
use Rattle.shredding.specs.Slot.{Slot, fields, Slots, no_slots, slot_at}
use Rattle.shredding.specs.Shape.{struct, IsOf}
use Rattle.shredding.specs.Shred.{shred}
use Rattle.shredding.proofs.Unique.{unique}

children : Slot → Slots
children (fields ss) = ss
children _ = no_slots

map-children : (rows : List Slots) → map children (map fields rows) ≡ rows
unfolding children
map-children [] = refl
map-children (row ∷ rows) = ap (λ rs. row ∷ rs) (map-children rows)

pub schema_unique : SchemaRowsAreUnique
schema_unique fs a b h p q e =
    let same : map fields a ≡ map fields b = unique (struct false fs) (map fields a) (map fields b) h (All-map (IsOf (struct false fs)) fields a p) (All-map (IsOf (struct false fs)) fields b q) e in
    sym (map-children a) ∙ ap (map children) same ∙ map-children b

pub own_columns : FieldsHaveTheirColumns
unfolding shred
own_columns i w [] = refl
own_columns i w (row ∷ rows) = ap (λ c. shred w (slot_at row i) 0 0 0 ++ c) (own_columns i w rows)
