-- Bytes have one reading: laws of the definitions.
use Rattle.std.specs.Prelude.{◌≡◌, ℕ, ◌<◌, List, All, Option}
use Rattle.shredding.specs.Shape.{LeafType}
use Rattle.shredding.specs.Shred.{Triple}
use Rattle.shredding.specs.Slot.{Value, bytes}
use Rattle.pq_metadata.specs.Footer.{Key}
use Rattle.pq_metadata.specs.Header.{Header}
use Rattle.pq_tree.specs.Physical.{Physical}
use Rattle.pq_tree.specs.Tree.{Leaf, Schema}
use Rattle.pq_files.specs.Carried.{GroupPages, HoldsPages, Group, Carried}
use Rattle.pq_files.specs.Page.{IsPage}
use Rattle.pq_files.specs.Stored.{IsStored, AreStored}

-- byte strings have bytes
abbrev pub HasBytes : Value → Type 0
HasBytes (bytes t) = All (λ b. b < 256) t
HasBytes v = Unit {0}

-- Each value of a leaf type has at most one stored value of bytes, and no two values share one.
pub record StoredValuesAreUnique : Type 0 where
  pub stored : (t : LeafType) (p : Physical) (v s r : Value) → HasBytes s → HasBytes r → IsStored t p v s → IsStored t p v r → s ≡ r
  pub shared : (t : LeafType) (p : Physical) (v w s : Value) → IsStored t p v s → IsStored t p w s → v ≡ w
  -- so stored triples are those of at most one list of triples
  pub triples : (t : LeafType) (p : Physical) (xs ys zs : List Triple) → AreStored t p xs zs → AreStored t p ys zs → xs ≡ ys

-- a page has at most one list of triples
abbrev pub PagesAreUnique : Type 0
PagesAreUnique = (l : Leaf) (entries : Option (List Value)) (h : Header) (body : List ℕ) (ts us : List Triple) → IsPage l entries h body ts → IsPage l entries h body us → ts ≡ us

pub record FilesAreUnique : Type 0 where
  -- a file has at most one tree, one list of keys and one list of groups, down to its pages
  pub held : (bytes : List ℕ) (s t : Schema) (ks js : List Key) (gs hs : List GroupPages) → HoldsPages bytes s ks gs → HoldsPages bytes t js hs → (s ≡ t) × (ks ≡ js) × (gs ≡ hs)
  -- and so it carries at most one
  pub carried : (bytes : List ℕ) (s t : Schema) (ks js : List Key) (gs hs : List Group) → Carried bytes s ks gs → Carried bytes t js hs → (s ≡ t) × (ks ≡ js) × (gs ≡ hs)
