-- A flat footer has one reading.
use Rattle.std.proofs.Common.{◌≡◌, ℕ, List, sym, subst, ◌∙◌}
use Rattle.pq_thrift.specs.Value.{Value, struct, Values}
use Rattle.pq_metadata.specs.Elements.{SpellsNode, SpellsRoot}
use Rattle.pq_metadata.specs.FlatFooter.{FlatFooter, SpellsElements, SpellsFlatFooter}
use Rattle.pq_metadata.specs.Footer.{SpellsGroup}
use Rattle.pq_metadata.specs.Ids.{get, Each}
use Rattle.pq_tree.specs.Tree.{Element}
use Rattle.pq_metadata.proofs.FooterOnce.{spelled_node_same, root_same, values_parts, group_meta_same, keys_same}
use Rattle.pq_metadata.proofs.Injective.{list_same, each_same}

record SameElements (n m : List ℕ) (c d : ℕ) (xs ys : List Element) : Type 0 where
  names : n ≡ m
  counts : c ≡ d
  nodes : xs ≡ ys

elements_same : (vs : Values) (n m : List ℕ) (c d : ℕ) (xs ys : List Element) → SpellsElements vs n c xs → SpellsElements vs m d ys → SameElements n m c d xs ys
elements_same vs n m c d xs ys a b =
    let parts = values_parts a.first b.first a.others b.others (sym a.parts ∙ b.parts) in
    let root = root_same b.first n m c d (subst (λ (v : Value). SpellsRoot v n c) parts.0 a.root) b.root in
    let nodes : xs ≡ ys = each_same SpellsNode spelled_node_same b.others xs ys (subst (λ (z : Values). Each SpellsNode z xs) parts.1 a.are) b.are in
    record { names = root.0; counts = root.1; nodes = nodes }

pub flat_once : (v : Value) (f g : FlatFooter) → SpellsFlatFooter v f → SpellsFlatFooter v g → f ≡ g
flat_once (struct fs) f g a b =
    let es = list_same (get 2 fs) a.kind b.kind a.elements b.elements a.has_elements b.has_elements in
    let s = elements_same b.elements f.name g.name f.children g.children f.nodes g.nodes (subst (λ (z : Values). SpellsElements z f.name f.children f.nodes) es a.schema) b.schema in
    let vs = list_same (get 4 fs) a.group_kind b.group_kind a.groups b.groups a.has_groups b.has_groups in
    let gs = each_same SpellsGroup group_meta_same b.groups f.groups g.groups (subst (λ (z : Values). Each SpellsGroup z f.groups) vs a.are) b.are in
    let ks = keys_same (get 5 fs) f.keys g.keys a.keys b.keys in
    λ i. record { name = s.names i; children = s.counts i; nodes = s.nodes i; groups = gs i; keys = ks i }
flat_once _ f g a b = absurd a
