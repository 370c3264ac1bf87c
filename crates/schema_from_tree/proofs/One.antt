-- A group with more than one node.
use Rattle.std.proofs.Common.{◌≡◌, ℕ, ◌≤◌, false, List, [], ◌∷◌, length, refl, sym, ◌∙◌, ap, arith, rules, Option}
use Rattle.std.specs.Prelude.{Vec, codes, bytes_eq, ◌&&◌, not, if◌then◌else◌}
use Rattle.std.specs.Global.{Global}
use Rattle.pq_tree.specs.declared.types.ConvertedType.{ConvertedType}
use Rattle.pq_tree.specs.declared.types.LogicalType.{LogicalType}
use Rattle.pq_tree.specs.declared.types.FieldInfo.{FieldInfo}
use Rattle.pq_tree.specs.declared.types.ParquetType.{ParquetType, the_lemmas}
use Rattle.pq_tree.specs.declared.types.ParquetType.TheVariants.{GroupType}
use Rattle.pq_tree.specs.Tree.{Trees, tree, group}
use Rattle.pq_tree.specs.Types.{Info}
use Rattle.pq_tree.specs.TreeViews.{tree_view, trees_view, info_view}
use Rattle.schema_from_tree.specs.FromTree.{has_one, names_an_item, first_info, item_info, item_of, first_of, struct_with, arrow_fields}

has_more : (fs : List ParquetType) → 2 ≤ length fs → has_one (trees_view fs) ≡ false
has_more [] h = absurd (omega arith)
has_more (f ∷ []) h = absurd (omega arith)
has_more (f ∷ g ∷ fs) h = refl

info_if_more : (i : Info) (ts : Trees) → has_one ts ≡ false → item_info (group i ts) ≡ i
info_if_more i ts e = ap (λ b. if b && bytes_eq i.name (codes "list") then first_info i ts else i) e

item_if_more : (parent : List ℕ) (i : Info) (ts : Trees) → has_one ts ≡ false → item_of parent (group i ts) ≡ struct_with (arrow_fields ts)
item_if_more parent i ts e = ap (λ b. if b && not (names_an_item parent i.name) then first_of ts else struct_with (arrow_fields ts)) e

view_of_group : (i : FieldInfo) (l : Option LogicalType) (c : Option ConvertedType) (fs : Vec ParquetType Global) → tree_view (GroupType i l c fs) ≡ group (info_view i c l) (trees_view fs.items)
view_of_group i l c fs = search (the_lemmas, rules)

pub more_info : (n : ParquetType) (i : FieldInfo) (l : Option LogicalType) (c : Option ConvertedType) (fs : Vec ParquetType Global) (xs : List ParquetType)
    → n ≡ GroupType i l c fs → xs ≡ fs.items → 2 ≤ length xs → item_info (tree_view n) ≡ info_view i c l
more_info n i l c fs xs e same h = ap (λ m. item_info (tree_view m)) e ∙ ap item_info (view_of_group i l c fs) ∙ info_if_more (info_view i c l) (trees_view fs.items) (ap (λ ys. has_one (trees_view ys)) (sym same) ∙ has_more xs h)

pub more_item : (parent : List ℕ) (n : ParquetType) (i : FieldInfo) (l : Option LogicalType) (c : Option ConvertedType) (fs : Vec ParquetType Global) (xs : List ParquetType)
    → n ≡ GroupType i l c fs → xs ≡ fs.items → 2 ≤ length xs → item_of parent (tree_view n) ≡ struct_with (arrow_fields (trees_view fs.items))
more_item parent n i l c fs xs e same h =
    ap (λ m. item_of parent (tree_view m)) e ∙ ap (item_of parent) (view_of_group i l c fs) ∙ item_if_more parent (info_view i c l) (trees_view fs.items) (ap (λ ys. has_one (trees_view ys)) (sym same) ∙ has_more xs h)
