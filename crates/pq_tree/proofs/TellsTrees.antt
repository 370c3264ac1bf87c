-- The derived `==` on nodes and trees tells whether they stand for the same.
use Rattle.std.proofs.Common.{◌≡◌, ℕ, ℤ, ◌+◌, List, [], ◌∷◌, map, Bool, true≢false, Option, Some, None, Global, string_bytes, option_map, unwrap_or, refl, ap, sym, subst, ◌∙◌, rules}
use Rattle.std.specs.Bool.{Decides}
use Rattle.std.specs.Option.{option_eq}
use Rattle.std.specs.Ordering.{int_eq}
use Rattle.std.specs.Cmp.Lexicographic.{pointwise}
use Rattle.std.specs.List.{AllByRecursion as All'}
use Rattle.std.specs.declared.vec.Vec.{Vec}
use Rattle.std.proofs.lemmas.Bool.Decides.{Decides-like, Decides-and, Decides-int_eq, Decides-at}
use Rattle.std.proofs.lemmas.Slice.Eq.{bytes_eq-Decides}
use mathlib.Core.Logic.{inl, inr}
use denote.Enum.Declared.{Choice}
use Rattle.pq_tree.specs.declared.types.ConvertedType.{ConvertedType}
use Rattle.pq_tree.specs.declared.types.LogicalType.{LogicalType}
use Rattle.pq_tree.specs.declared.types.FieldInfo.{FieldInfo}
use Rattle.pq_tree.specs.declared.types.PrimitiveType.{PrimitiveType}
use Rattle.pq_tree.specs.declared.types.ParquetType.{ParquetType, ind-ParquetType, the_lemmas, roll-ParquetType, map-ParquetType, PrimitiveType as PrimitiveType', GroupType as GroupType'}
use Rattle.pq_tree.specs.declared.types.ParquetType.TheOpen.{ParquetType-F}
use Rattle.pq_tree.specs.declared.types.ParquetType.TheShapes.{former-ParquetType-GroupType-3}
use Rattle.pq_tree.specs.declared.types.ParquetType.TheViews.{rolls-PrimitiveType, rolls-GroupType}
use Rattle.pq_tree.specs.contracts.types.ParquetType.{enum, as_values, the_make, the_eta, the_beta}
use Rattle.pq_tree.specs.contracts.types.FieldInfoPartialEq.TheImpl as info_impl
use Rattle.pq_tree.specs.contracts.types.PrimitiveTypePartialEq.TheImpl as leaf_impl
use Rattle.pq_tree.specs.contracts.types.ParquetTypePartialEq.TheImpl as tree_impl
use Rattle.pq_tree.specs.contracts.types.ParquetTypePartialEq.TheImpl.Laws as tree_laws
use Rattle.pq_tree.specs.Physical.{Physical}
use Rattle.pq_tree.specs.Tree.{Tree, leaf, group, Trees, no_trees, tree}
use Rattle.pq_tree.specs.TreeViews.{info_view, leaf_view, tree_view, trees_view}
use Rattle.pq_tree.specs.Types.{Info, required}
use Rattle.pq_tree.specs.Views.{converted_view, logical_view}
use Rattle.pq_tree.proofs.Compared.{place, Apart, Alike, by_decides}
use Rattle.pq_tree.proofs.TellsKinds.{tells_some, tells_repetition, tells_physical, tells_converted, tells_logical}
use Rattle.pq_tree.specs.contracts.types.ConvertedTypePartialEq.TheImpl as converted_impl
use Rattle.pq_tree.specs.contracts.types.LogicalTypePartialEq.TheImpl as logical_impl

-- ---- the parts of trees

abbrev plain_info : Info
plain_info = record { name = []; repetition = required; id = None; converted = None; logical = None }

abbrev info_in : Tree → Info
info_in (leaf info p) = info
info_in (group info ts) = info

abbrev physical_in : Tree → Physical
physical_in (leaf info p) = p
physical_in (group info ts) = Physical.boolean

abbrev trees_in : Tree → Trees
trees_in (leaf info p) = no_trees
trees_in (group info ts) = ts

abbrev first_in : Trees → Tree
first_in no_trees = leaf plain_info Physical.boolean
first_in (tree t ts) = t

abbrev others_in : Trees → Trees
others_in no_trees = no_trees
others_in (tree t ts) = ts

abbrev bare : Info → Info
bare i = record { name = i.name; repetition = i.repetition; id = i.id; converted = None; logical = None }

-- ---- nodes

tells_id : (a b : Option ℤ) → Decides (option_eq int_eq a b) (a ≡ b)
tells_id None None = (λ e. refl, λ e. refl)
tells_id None (Some b) = (λ e. absurd (true≢false (sym e)), λ e. cc)
tells_id (Some a) None = (λ e. absurd (true≢false (sym e)), λ e. cc)
tells_id (Some a) (Some b) = Decides-like _ (λ e. ap Some e) (λ e. ap (λ o. unwrap_or o a) e) (Decides-int_eq a b)

pub tells_info : (a b : FieldInfo) → Decides ((info_impl.ghosts).eq a b) (info_view a None None ≡ info_view b None None)
tells_info a b =
    Decides-like _ (λ e. λ i. record { name = e.0 i; repetition = e.1.0 i; id = e.1.1 i; converted = None; logical = None }) (λ e. (ap (λ x. x.name) e, (ap (λ x. x.repetition) e, ap (λ x. x.id) e)))
    (Decides-and _ _ (bytes_eq-Decides (string_bytes a.name) (string_bytes b.name)) (Decides-and _ _ (tells_repetition a.repetition b.repetition) (tells_id a.id b.id)))

-- a node's info and annotations by their parts
whole_info : (a b : FieldInfo) (c d : Option ConvertedType) (l m : Option LogicalType) → info_view a None None ≡ info_view b None None → option_map converted_view c ≡ option_map converted_view d → option_map logical_view l ≡ option_map logical_view m
    → info_view a c l ≡ info_view b d m
whole_info a b c d l m e f g = λ i. record { name = (e i).name; repetition = (e i).repetition; id = (e i).id; converted = f i; logical = g i }

pub tells_leaf : (a b : PrimitiveType) → Decides ((leaf_impl.ghosts).eq a b) (leaf_view a ≡ leaf_view b)
tells_leaf a b =
    Decides-like _
    (λ e. λ i. leaf (whole_info a.field_info b.field_info a.converted_type b.converted_type a.logical_type b.logical_type e.0 e.1.1.0 e.1.0 i) (e.1.1.1 i))
    (λ e. (ap (λ t. bare (info_in t)) e, (ap (λ t. (info_in t).logical) e, (ap (λ t. (info_in t).converted) e, ap physical_in e))))
    (Decides-and _ _ (tells_info a.field_info b.field_info)
    (Decides-and _ _ (tells_some (logical_impl.ghosts).eq logical_view tells_logical a.logical_type b.logical_type)
    (Decides-and _ _ (tells_some (converted_impl.ghosts).eq converted_view tells_converted a.converted_type b.converted_type) (tells_physical a.physical_type b.physical_type))))

-- ---- trees

abbrev tag : Tree → ℕ
tag (leaf info p) = 0
tag (group info ts) = 1

abbrev Tells : ParquetType → Type 0
Tells a = (b : ParquetType) → Decides ((tree_impl.ghosts).eq a b) (tree_view a ≡ tree_view b)

abbrev seen : Choice (enum.parts) → Tree
seen c = tree_view (the_make c)

abbrev compare : Choice (enum.parts) → Choice (enum.parts) → Bool
compare c d = tree_laws.unfolded (the_make c) (the_make d)

tags : (c : Choice (enum.parts)) → tag (seen c) ≡ 0 + place (enum.parts) c
tags (inl v) = search (rules, the_lemmas)
tags (inr (inl v)) = search (rules, the_lemmas)
tags (inr (inr v)) = absurd v

apart : Apart (enum.parts) compare
apart = (
  λ x y. rw (the_beta (inl x), the_beta (inr y)) refl,
  λ x y. rw (the_beta (inr x), the_beta (inl y)) refl,
  (
    λ x y. rw (the_beta (inr (inl x)), the_beta (inr (inr y))) refl,
    λ x y. rw (the_beta (inr (inr x)), the_beta (inr (inl y))) refl,
    tt,
  ),
)

tells_trees : (fs gs : List ParquetType) → All' Tells fs → Decides (pointwise (tree_impl.ghosts).eq fs gs) (trees_view fs ≡ trees_view gs)
tells_trees [] [] h = (λ e. refl, λ e. refl)
tells_trees [] (g ∷ gs) h = (λ e. absurd (true≢false (sym e)), λ e. cc)
tells_trees (f ∷ fs) [] h = (λ e. absurd (true≢false (sym e)), λ e. cc)
tells_trees (f ∷ fs) (g ∷ gs) h = Decides-like _ (λ e. λ i. tree (e.0 i) (e.1 i)) (λ e. (ap first_in e, ap others_in e)) (Decides-and _ _ (h.0 g) (tells_trees fs gs h.1))

view_leaf : (p : PrimitiveType) → tree_view (PrimitiveType' p) ≡ leaf_view p
view_leaf p = search (rules, the_lemmas)

view_group : (f : FieldInfo) (l : Option LogicalType) (c : Option ConvertedType) (ts : Vec ParquetType Global) → tree_view (GroupType' f l c ts) ≡ group (info_view f c l) (trees_view ts.items)
view_group f l c ts = search (rules, the_lemmas)

tells_leaf_tree : (p : PrimitiveType) → Alike (enum.parts) compare seen (inl (p, tt))
tells_leaf_tree p y =
    rw (the_beta (inl (p, tt)), the_beta (inl y))
    (Decides-like _ (λ e. view_leaf p ∙ e ∙ sym (view_leaf y.0)) (λ e. sym (view_leaf p) ∙ e ∙ view_leaf y.0) (tells_leaf p y.0))

tells_group : (f : FieldInfo) (l : Option LogicalType) (c : Option ConvertedType) (ts : Vec ParquetType Global) → All' Tells ts.items → Alike (enum.parts) compare seen (inr (inl (f, (l, (c, (ts, tt))))))
tells_group f l c ts h y =
    rw (the_beta (inr (inl (f, (l, (c, (ts, tt)))))), the_beta (inr (inl y)))
    (Decides-like _
    (λ e. view_group f l c ts ∙ (λ i. group (whole_info f y.0 c y.1.1.0 l y.1.0 e.0 e.1.1.0 e.1.0 i) (e.1.1.1 i)) ∙ sym (view_group y.0 y.1.0 y.1.1.0 y.1.1.1.0))
    (λ e.
    let p = sym (view_group f l c ts) ∙ e ∙ view_group y.0 y.1.0 y.1.1.0 y.1.1.1.0 in
    (ap (λ t. bare (info_in t)) p, (ap (λ t. (info_in t).logical) p, (ap (λ t. (info_in t).converted) p, ap trees_in p))))
    (Decides-and _ _ (tells_info f y.0)
    (Decides-and _ _ (tells_some (logical_impl.ghosts).eq logical_view tells_logical l y.1.0)
    (Decides-and _ _ (tells_some (converted_impl.ghosts).eq converted_view tells_converted c y.1.1.0) (tells_trees ts.items y.1.1.1.0.items h)))))

tells_by : (a b : ParquetType) → Alike (enum.parts) compare seen (as_values a) → Decides ((tree_impl.ghosts).eq a b) (tree_view a ≡ tree_view b)
tells_by a b h =
    let d = by_decides (enum.parts) compare seen tag 0 tags apart (as_values a) (as_values b) h in
    Decides-at _ _ (tree_laws.is a b)
    (subst (λ z. Decides (tree_laws.unfolded z b) (tree_view z ≡ tree_view b)) (the_eta a)
    (subst (λ w. Decides (tree_laws.unfolded (the_make (as_values a)) w) (tree_view (the_make (as_values a)) ≡ tree_view w)) (the_eta b) d))

abbrev Known : Type 0
Known = (a : ParquetType) × Tells a

all_known : (es : List Known) → All' Tells (map (λ e. e.0) es)
all_known [] = tt
all_known (e ∷ es) = (e.1, all_known es)

tells_at : (c : Choice (enum.parts)) → Alike (enum.parts) compare seen c → Tells (the_make c)
tells_at c h b = tells_by (the_make c) b (subst (Alike (enum.parts) compare seen) (sym (the_beta c)) h)

abbrev plain_trees : Vec Known Global → Vec ParquetType Global
plain_trees v = (former-ParquetType-GroupType-3).map Known ParquetType (λ e. e.0) v

abbrev plain : ParquetType-F Known → ParquetType-F ParquetType
plain = map-ParquetType Known ParquetType (λ e. e.0)

tree_case : (y : ParquetType-F Known) → Tells (roll-ParquetType (plain y))
tree_case (ParquetType-F.PrimitiveType p) = subst Tells (sym (rolls-PrimitiveType p)) (tells_at (inl (p, tt)) (tells_leaf_tree p))
tree_case (ParquetType-F.GroupType f l c ts) =
    subst Tells (sym (rolls-GroupType f l c (plain_trees ts))) (tells_at (inr (inl (f, (l, (c, (plain_trees ts, tt)))))) (tells_group f l c (plain_trees ts) (all_known ts.items)))

pub tells_tree : (a : ParquetType) → Tells a
tells_tree = ind-ParquetType Tells (λ x y is. subst (λ z. Tells (roll-ParquetType z)) is (tree_case y))
