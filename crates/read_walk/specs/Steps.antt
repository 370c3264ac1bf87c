-- One step of the walk: the next pairs, equal ones or a block.
use Rattle.std.specs.Prelude.{◌≡◌, ◌⊎◌, ℕ, ◌-◌, Bool, true, false, Option, List, ◌∷◌}
use Rattle.columns_base.specs.declared.error.Error.{Error}
use Rattle.columns_base.specs.declared.error.Error.TheVariants.{OutOfSpec}
use Rattle.columns_base.specs.declared.error.S.TheVariants.{S4}
use Rattle.shredding.specs.Slot.{Slot}
use Rattle.read_laws.specs.State.{Kept, kept_way}
use Rattle.read_walk.specs.Blocks.{TookBlock, CannotTake}
use Rattle.read_walk.specs.Order.{zipped, last_level, Follows, OneMayNot}
use Rattle.read_walk.specs.Pairs.{Item, fault, StopsAt, TakesPairs}
use Rattle.read_walk.specs.Values.{Stored}

-- pairs that the page gave and that may come, taken, with the rows that are still wanted then and the definition level of the last pair
pub record TookPairs (rows rows' : ℕ) (before before' : Option ℕ) (page page' : List Item) (left left' : List Stored) (ks ks' : List Kept) (slots slots' : List Slot) : Type 0 where
  pub reps : List ℕ
  pub defs : List ℕ
  pub begun : ℕ
  pub takes : TakesPairs rows page begun reps defs page'
  pub follow : Follows (kept_way ks) before (zipped reps defs)
  pub took : TookBlock before reps defs ks ks' slots slots' left left'
  pub wanted : rows' ≡ rows - begun
  pub last : before' ≡ last_level before (zipped reps defs)

-- nothing changed, where no pair is left or one begins a row too many
pub record TookNone (rows : ℕ) (page page' : List Item) (left left' : List Stored) (ks ks' : List Kept) (slots slots' : List Slot) : Type 0 where
  pub same : page' ≡ page
  pub stops : StopsAt rows page
  pub values : left' ≡ left
  pub state : ks' ≡ ks
  pub decoded : slots' ≡ slots

abbrev pub TakesStep : Bool → ℕ → ℕ → Option ℕ → Option ℕ → List Item → List Item → List Stored → List Stored → List Kept → List Kept → List Slot → List Slot → Type 0
TakesStep true rows rows' before before' page page' left left' ks ks' slots slots' = TookPairs rows rows' before before' page page' left left' ks ks' slots slots'
TakesStep false rows rows' before before' page page' left left' ks ks' slots slots' = TookNone rows page page' left left' ks ks' slots slots'

-- pairs that the page gave, and why they cannot be taken
pub record CannotTakePairs (limit rows : ℕ) (before : Option ℕ) (page : List Item) (left : List Stored) (ks : List Kept) (slots : List Slot) (e : Error) : Type 0 where
  pub reps : List ℕ
  pub defs : List ℕ
  pub begun : ℕ
  pub rest : List Item
  pub takes : TakesPairs rows page begun reps defs rest
  pub why : OneMayNot (kept_way ks) before (zipped reps defs) e ⊎ CannotTake limit reps defs ks left slots e

abbrev pub CannotStep : ℕ → ℕ → Option ℕ → List Item → List Stored → List Kept → List Slot → Error → Type 0
CannotStep limit rows before page left ks slots e = ((e ≡ OutOfSpec S4) × ((is : List Item) × (page ≡ fault ∷ is))) ⊎ CannotTakePairs limit rows before page left ks slots e
