-- Entries at some indices at once.
use Rattle.std.specs.Prelude.{◌≡◌, ℕ, true, false, Bool, Some, List, ◌++◌, length, slice_get}
use Rattle.std.specs.List.{AllZip}
use Rattle.pq_runs.specs.Hybrid.{Item as Index, given, runs_items}
use Rattle.read_column.specs.Dictionary.{IsLaid, Texts, all_of}

-- the entries at these indices, one behind the other
abbrev pub AreLaidAs : Texts → List ℕ → List ℕ → Type 0
AreLaidAs texts ns bytes = (parts : Texts) × AllZip (λ n t. slice_get texts n ≡ Some t) ns parts × (bytes ≡ all_of parts)

-- the entries at the indices so far, of those that there were
pub record IsLaidTo (texts : Texts) (items items' : List Index) (values : List ℕ) : Type 0 where
  pub indices : List ℕ
  pub read : items ≡ given indices ++ items'
  pub parts : Texts
  pub are : AllZip (λ n t. slice_get texts n ≡ Some t) indices parts
  pub spelled : values ≡ all_of parts

-- What comes of indices behind others: the entries at all of them, or at those in front of the first that is past the entries.
unfoldable pub Lays : Texts → List ℕ → Bool → List ℕ → List ℕ → Type 0
Lays texts ns true before after = (items others : List Index) → IsLaidTo texts items (given ns ++ others) before → IsLaidTo texts items others after
Lays texts ns false before after = (items others : List Index) → IsLaidTo texts items (given ns ++ others) before → IsLaid texts items after

-- What comes of a run: indices that are left are those behind it, or nothing more is laid.
unfoldable pub LaysRun : Texts → Bool → ℕ → ℕ → List ℕ → ℕ → List ℕ → List ℕ → List ℕ → Type 0
LaysRun texts true w left bytes left' bytes' before after =
    (items : List Index) → IsLaidTo texts items (runs_items (length bytes) w left bytes) before → IsLaidTo texts items (runs_items (length bytes') w left' bytes') after
LaysRun texts false w left bytes left' bytes' before after = (items : List Index) → IsLaidTo texts items (runs_items (length bytes) w left bytes) before → IsLaid texts items after
