-- Columns one after another.
use Rattle.std.proofs.Common.{◌≡◌, ℕ, ◌+◌, ◌<◌, ◌≤◌, List, [], ◌∷◌, ◌++◌, length, map, drop, get_or, Some, refl, sym, ap, subst, inl, add-one, drop-cons, Vec, Bor}
use Rattle.std.specs.Global.{Global}
use Rattle.std.proofs.lemmas.List.{drop_all}
use Rattle.shredding.specs.Parts.{Part}
use Rattle.columns_array.specs.Boxed.{boxed}
use Rattle.columns_array.specs.declared.arrays.ArrayBox.{ArrayBox}
use Rattle.columns_base.specs.declared.error.Error.{Error}
use Rattle.columns_slots.specs.Tree.{ArrayTree}
use Rattle.levels.specs.declared.nested.Nested.{Nested}
use Rattle.levels.specs.Nested.{parts_of}
use Rattle.nested_paths.specs.Leaves.{leaf_node}
use Rattle.nested_paths.specs.Taken.{all_parts, shown}
use Rattle.pq_tree.specs.declared.types.Encoding.{Encoding}
use Rattle.pq_tree.specs.declared.types.PrimitiveType.{PrimitiveType}
use Rattle.pq_tree.specs.Physical.{boolean}
use Rattle.pq_tree.specs.Tree.{Tree, leaf, group}
use Rattle.pq_tree.specs.TreeViews.{leaf_view}
use Rattle.write_pages.specs.declared.options.WriteOptions.{WriteOptions}
use Rattle.write_pages.specs.Columns.{AnyRefused, AreColumns, LeafNode, PushesColumn, RefusesColumn}
use Rattle.write_pages.specs.declared.pages.PageIter.{PageIter}
use Rattle.write_pages.specs.Given.{to_give}
use Rattle.write_pages.specs.Holds.{IsPagesOf}
use Rattle.write_pages.specs.Refused.{AreWritten}
use Rattle.std.specs.Prelude.{None}

node_in : Tree → LeafNode
node_in (leaf info p) = (Some info, p)
node_in (group info ts) = (None, boolean)

-- leaves that are the same say the same of themselves
pub node_same : (x y : PrimitiveType) → leaf_view x ≡ leaf_view y → leaf_node x ≡ leaf_node y
unfolding node_in
node_same x y e = ap node_in e

front : {A : Type 0} (xs : List A) (i : ℕ) (x : A) → i < length xs → x ≡ get_or xs i x → drop i xs ≡ x ∷ drop (i + 1) xs
front xs i x h e = rw (add-one, drop-cons xs i x h, ← e) refl

module _ (o : WriteOptions) (types : List PrimitiveType) (paths : List (Vec Nested Global)) (arrays : List (Bor ArrayBox)) (es : List Encoding) (i : ℕ) (type_ : PrimitiveType) (path : Vec Nested Global) (array : Bor ArrayBox) (e : Encoding)
    (lt : drop i types ≡ type_ ∷ drop (i + 1) types) (lp : drop i paths ≡ path ∷ drop (i + 1) paths) (la : drop i arrays ≡ array ∷ drop (i + 1) arrays) (le : drop i es ≡ e ∷ drop (i + 1) es) where
  refused : (x : Error) → AnyRefused o (map leaf_node (type_ ∷ drop (i + 1) types)) (all_parts (path ∷ drop (i + 1) paths)) (shown (array ∷ drop (i + 1) arrays)) (e ∷ drop (i + 1) es) x → AnyRefused o (map leaf_node (drop i types)) (all_parts (drop i paths)) (shown (drop i arrays)) (drop i es) x
  refused x h =
      subst (λ (xs : List PrimitiveType). AnyRefused o (map leaf_node xs) (all_parts (drop i paths)) (shown (drop i arrays)) (drop i es) x) (sym lt)
      (subst (λ (xs : List (Vec Nested Global)). AnyRefused o (map leaf_node (type_ ∷ drop (i + 1) types)) (all_parts xs) (shown (drop i arrays)) (drop i es) x) (sym lp)
      (subst (λ (xs : List (Bor ArrayBox)). AnyRefused o (map leaf_node (type_ ∷ drop (i + 1) types)) (all_parts (path ∷ drop (i + 1) paths)) (shown xs) (drop i es) x) (sym la)
      (subst (λ (xs : List Encoding). AnyRefused o (map leaf_node (type_ ∷ drop (i + 1) types)) (all_parts (path ∷ drop (i + 1) paths)) (shown (array ∷ drop (i + 1) arrays)) xs x) (sym le) h)))

  pub refused_here : (x : Error) → RefusesColumn o (leaf_node type_) (parts_of path.items) (boxed array.now) e x → AnyRefused o (map leaf_node (drop i types)) (all_parts (drop i paths)) (shown (drop i arrays)) (drop i es) x
  refused_here x h = refused x (inl h)

pub is_column : (o : WriteOptions) (other type_ : PrimitiveType) (parts : List Part) (a : ArrayTree) (e : Encoding) (old new : List PageIter) (s : PageIter) → leaf_view other ≡ leaf_view type_ → new ≡ old ++ (s ∷ []) → AreWritten o other parts a e → IsPagesOf o other parts a e (to_give s) → PushesColumn o type_ parts a e old new
is_column o other type_ parts a e old new s q p w h = record {
  pages = s;
  pushed = p;
  column = record { type_ = other; is = node_same other type_ q; written = w; pages = h };
}

pub none_more : (o : WriteOptions) (types : List PrimitiveType) (paths : List (Vec Nested Global)) (arrays : List (Bor ArrayBox)) (es : List Encoding) (i : ℕ) → length types ≤ i → length paths ≡ length types → length arrays ≡ length types → length es ≡ length types → AreColumns o (map leaf_node (drop i types)) (all_parts (drop i paths)) (shown (drop i arrays)) (drop i es) []
none_more o types paths arrays es i h a b c =
    rw (drop_all i types h, drop_all i paths (rw a h), drop_all i arrays (rw b h), drop_all i es (rw c h)) tt

pub front_of : {A : Type 0} (xs : List A) (i : ℕ) (x : A) → i < length xs → x ≡ get_or xs i x → drop i xs ≡ x ∷ drop (i + 1) xs
front_of xs i x h e = front xs i x h e

pub front_at : {A : Type 0} (xs : List A) (i : ℕ) (d : A) → i < length xs → drop i xs ≡ get_or xs i d ∷ drop (i + 1) xs
front_at xs i d h = rw (add-one, drop-cons xs i d h) refl
