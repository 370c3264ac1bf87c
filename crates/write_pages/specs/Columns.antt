-- The pages of the columns of an array that is written by a tree.
use Rattle.std.specs.Prelude.{◌≡◌, ◌⊎◌, ◌≤◌, Option, List, [], ◌∷◌, ◌++◌, length}
use Rattle.shredding.specs.Parts.{Part}
use Rattle.columns_base.specs.declared.error.Error.{Error}
use Rattle.columns_slots.specs.Tree.{ArrayTree}
use Rattle.nested_paths.specs.Leaves.{leaf_node}
use Rattle.pq_tree.specs.declared.types.Encoding.{Encoding}
use Rattle.pq_tree.specs.declared.types.PrimitiveType.{PrimitiveType}
use Rattle.pq_tree.specs.Physical.{Physical}
use Rattle.pq_tree.specs.Types.{Info}
use Rattle.write_pages.specs.declared.options.WriteOptions.{WriteOptions}
use Rattle.write_pages.specs.declared.pages.PageIter.{PageIter}
use Rattle.write_pages.specs.Given.{to_give}
use Rattle.write_pages.specs.Holds.{IsPagesOf, ToGive}
use Rattle.write_pages.specs.Refused.{AreWritten, RefusesPages}

-- what a leaf of a tree says of itself: its node, and its physical type
abbrev pub LeafNode : Type 0
LeafNode = Option Info × Physical

-- the pages of one column, whose leaf is this one
pub record IsColumn (o : WriteOptions) (node : LeafNode) (parts : List Part) (a : ArrayTree) (e : Encoding) (g : ToGive) : Type 0 where
  pub type_ : PrimitiveType
  pub is : leaf_node type_ ≡ node
  pub written : AreWritten o type_ parts a e
  pub pages : IsPagesOf o type_ parts a e g

-- one column for each leaf, path, leaf array and encoding, in order
abbrev pub AreColumns : WriteOptions → List LeafNode → List (List Part) → List ArrayTree → List Encoding → List ToGive → Type 0
AreColumns o [] [] [] [] [] = Unit {0}
AreColumns o (node ∷ nodes) (parts ∷ paths) (a ∷ arrays) (e ∷ es) (g ∷ gs) = IsColumn o node parts a e g × AreColumns o nodes paths arrays es gs
AreColumns o _ _ _ _ _ = ⊥

-- the pages of a column whose leaf is this one are refused for this reason
abbrev pub RefusesColumn : WriteOptions → LeafNode → List Part → ArrayTree → Encoding → Error → Type 0
RefusesColumn o node parts a e error = (type_ : PrimitiveType) × (leaf_node type_ ≡ node) × RefusesPages o type_ parts a e error

-- those of some column are
abbrev pub AnyRefused : WriteOptions → List LeafNode → List (List Part) → List ArrayTree → List Encoding → Error → Type 0
AnyRefused o (node ∷ nodes) (parts ∷ paths) (a ∷ arrays) (e ∷ es) error = RefusesColumn o node parts a e error ⊎ AnyRefused o nodes paths arrays es error
AnyRefused o _ _ _ _ error = ⊥

-- no path has more than 128 parts
abbrev pub AreShort : List (List Part) → Type 0
AreShort [] = Unit {0}
AreShort (parts ∷ paths) = (length parts ≤ 128) × AreShort paths

-- the pages of a column come behind those of others
pub record PushesColumn (o : WriteOptions) (type_ : PrimitiveType) (parts : List Part) (a : ArrayTree) (e : Encoding) (old new : List PageIter) : Type 0 where
  pub pages : PageIter
  pub pushed : new ≡ old ++ (pages ∷ [])
  pub column : IsColumn o (leaf_node type_) parts a e (to_give pages)
