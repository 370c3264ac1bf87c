-- States before the first pair.
use Rattle.std.proofs.Common.{◌≡◌, ℕ, Bool, true, false, is_some, List, [], ◌∷◌, map, refl, arith}
use Rattle.shredding.specs.Slot.{Slot}
use Rattle.shredding.specs.Shape.{Way}
use Rattle.shredding.specs.Parts.{MaskFits, slots_from}
use Rattle.read_laws.specs.State.{Kept, count, kept_way, leaf_count, StateFits}
use Rattle.read_laws.specs.Column.{kept_column}
use Rattle.read_laws.specs.State.{kept_slots}
use Rattle.read_state.specs.declared.init.InitNested.{InitNested}
use Rattle.read_state.specs.declared.init.InitNested.TheVariants.{Primitive, List as ListOf, Struct}
use Rattle.read_state.specs.Initial.{no_validity, initial, IsWay, StatesBeginEmpty}

is-some : (n : Bool) → is_some (no_validity n) ≡ n
is-some true = refl
is-some false = refl

mask-fits : (n : Bool) → MaskFits (no_validity n) 0
mask-fits true = refl
mask-fits false = tt

none : (parts : List InitNested) (w : Way) → IsWay parts w → count (map initial parts) ≡ 0
none [] w h = absurd h
none (Primitive n ∷ parts) w h = refl
none (ListOf n ∷ parts) w h = refl
none (Struct n ∷ parts) w h = refl

no-slots : (slots : ℕ → Slot) (ks : List Kept) → count ks ≡ 0 → kept_column slots ks ≡ []
unfolding kept_slots slots_from
no-slots slots ks e = rw e refl

fits : (parts : List InitNested) (w : Way) → IsWay parts w → StateFits (map initial parts)
fits [] w h = absurd h
fits (Primitive n ∷ parts) w h = rw h.0 refl
fits (ListOf n ∷ parts) w h = (mask-fits n, (λ i k. absurd (omega (arith, k))), (λ i j k l. absurd (omega (arith, l))), fits parts h.0 h.1)
fits (Struct n ∷ parts) w h = (mask-fits n, none parts h.0 h.1, fits parts h.0 h.1)

way : (parts : List InitNested) (w : Way) → IsWay parts w → kept_way (map initial parts) ≡ w
way [] w h = absurd h
way (Primitive n ∷ parts) w h = rw h.1 refl
way (ListOf n ∷ parts) w h = rw (is-some n, way parts h.0 h.1, h.2) refl
way (Struct n ∷ parts) w h = rw (is-some n, way parts h.0 h.1, h.2) refl

leaf : (parts : List InitNested) (w : Way) → IsWay parts w → leaf_count (map initial parts) ≡ 0
leaf [] w h = absurd h
leaf (Primitive n ∷ parts) w h = refl
leaf (ListOf n ∷ parts) w h = leaf parts h.0 h.1
leaf (Struct n ∷ parts) w h = leaf parts h.0 h.1

pub begin-empty : StatesBeginEmpty
begin-empty parts w h = record {
  fits = fits parts w h;
  way = way parts w h;
  leaf = leaf parts w h;
  column = (λ slots. no-slots slots (map initial parts) (none parts w h));
}
