-- The footer with the elements of its schema as a list, before they are put together to a tree.
use Rattle.std.specs.Prelude.{◌≡◌, ◌↔◌, ◌≤◌, ℕ, ℤ, List, Option, Some, None}
use Rattle.pq_thrift.specs.Grammar.{Spells, depth}
use Rattle.pq_thrift.specs.Value.{Value, int32, int64, list, struct, Values, value, Fields}
use Rattle.pq_metadata.specs.Elements.{SpellsNode, SpellsRoot}
pub use Rattle.pq_tree.specs.Footers.{FlatFooter, flat_form}
use Rattle.pq_tree.specs.Footers.{Footer}
use Rattle.pq_metadata.specs.Footer.{SpellsGroup, HasKeys, HasFooter}
use Rattle.pq_metadata.specs.Ids.{get, Holds, Each}
use Rattle.pq_tree.specs.Tree.{Element}

pub record SpellsElements (vs : Values) (name : List ℕ) (children : ℕ) (nodes : List Element) : Type 0 where
  pub first : Value
  pub others : Values
  pub parts : vs ≡ value first others
  pub root : SpellsRoot first name children
  pub are : Each SpellsNode others nodes

-- the same, with what they spell as one
abbrev pub SpellsSchema : Values → List ℕ × ℕ × List Element → Type 0
SpellsSchema vs s = SpellsElements vs s.0 s.1 s.2

pub record HasFlatFooter (fs : Fields) (f : FlatFooter) : Type 0 where
  pub version : (z : Option ℤ) × Holds int32 1 fs z
  pub kind : ℕ
  pub elements : Values
  pub has_elements : get 2 fs ≡ Some (list kind elements)
  pub schema : SpellsElements elements f.name f.children f.nodes
  pub num_rows : (z : Option ℤ) × Holds int64 3 fs z
  pub group_kind : ℕ
  pub groups : Values
  pub has_groups : get 4 fs ≡ Some (list group_kind groups)
  pub are : Each SpellsGroup groups f.groups
  pub keys : HasKeys (get 5 fs) f.keys
  pub plain : get 8 fs ≡ None

abbrev pub SpellsFlatFooter : Value → FlatFooter → Type 0
SpellsFlatFooter (struct fs) f = HasFlatFooter fs f
SpellsFlatFooter v f = ⊥

-- the text begins with a struct that says this
abbrev pub SpellsFlatRecord : List ℕ → FlatFooter → Type 0
SpellsFlatRecord text f = (v : Value) × Spells text v × (depth v ≤ 128) × SpellsFlatFooter v f

-- A struct is a footer exactly where it is its flat form.
abbrev pub FlatFormsAreFooters : Type 0
FlatFormsAreFooters = (fs : Fields) (f : Footer) → HasFooter fs f ↔ HasFlatFooter fs (flat_form f)
