use Rattle.std.proofs.Common.{◌≡◌, ◌∙◌, List, [], ◌∷◌, map, ap, refl}
use Rattle.pq_tree.specs.Columns.{Column, column_of}
use Rattle.pq_tree.specs.Described.{column_view}
use Rattle.pq_tree.specs.Physical.{Physical}
use Rattle.pq_tree.specs.Tree.{Leaf}
use Rattle.pq_tree.specs.Views.{physical_view}
use Rattle.pq_tree.specs.declared.types.Descriptor.{Descriptor}
use Rattle.write_file.proofs.leaf.leaves_of.Goals as goal

of_descriptors : (ds : List Descriptor) → map (λ d. physical_view d.primitive_type.physical_type) ds ≡ map (λ (c : Column). c.physical) (map column_view ds)
of_descriptors [] = refl
of_descriptors (d ∷ ds) = ap (λ (xs : List Physical). physical_view d.primitive_type.physical_type ∷ xs) (of_descriptors ds)

of_leaves : (ls : List Leaf) → map (λ (c : Column). c.physical) (map column_of ls) ≡ map (λ (l : Leaf). l.physical) ls
of_leaves [] = refl
of_leaves (l ∷ ls) = ap (λ (xs : List Physical). l.physical ∷ xs) (of_leaves ls)

pub returns-clause-ok : goal.returns-clause-ok
returns-clause-ok c = record {
  physicals = c.in_ok-physicals.ensures.ok ∙ (of_descriptors c.columns.result.now ∙ (ap (map (λ (x : Column). x.physical)) c.columns.ensures ∙ of_leaves _));
  paths = c.in_ok-paths.ensures.ok;
}
