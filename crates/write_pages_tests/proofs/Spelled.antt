-- 1 and 2 as numbers of 32 bits, spelled by hand.
use Rattle.std.proofs.Common.{◌≡◌, ◌∙◌, ◌+◌, Bool, true, false, List, [], ◌∷◌, None, pos, refl, sym, ap, subst, length, arith}
use Rattle.std.proofs.lemmas.List.{length-append}
use Rattle.columns_core.specs.Tree.{t_int32}
use Rattle.columns_slots.specs.Tree.{ArrayTree, leaf_array}
use Rattle.leaf_pages.specs.Columns.{column_physical, leaf_column}
use Rattle.leaf_pages.specs.Encoded.{Encodes, stored_pairs}
use Rattle.levels.specs.Nested.{nested_column}
use Rattle.levels.specs.declared.nested.Nested.TheVariants.{Primitive}
use Rattle.nested_paths.specs.Nodes.{is_optional}
use Rattle.pq_files.specs.Layout.{plain_length}
use Rattle.pq_files.specs.Page.{plain, values_in}
use Rattle.pq_files.specs.Plain.{IsPlain}
use Rattle.pq_tree.specs.Physical.{Physical, int32}
use Rattle.pq_tree.specs.Tree.{Leaf}
use Rattle.pq_tree.specs.TreeViews.{leaf_view}
use Rattle.pq_tree.specs.Views.{physical_view}
use Rattle.pq_tree.specs.declared.types.Encoding.TheVariants as E
use Rattle.pq_tree.specs.declared.types.PrimitiveType.{PrimitiveType}
use Rattle.pq_tree.specs.declared.version.Version.{Version}
use Rattle.shredding.specs.Parts.{leaf_part}
use Rattle.shredding.specs.Slot.{Value, number}
use Rattle.write_places.specs.Places.{path_places, gather, slot_places}
use Rattle.write_places.proofs.Values.{values_are_at_places}
use Rattle.write_values.specs.Stored.{stored_at}
use Rattle.std.specs.Prelude.{map, ℕ}

abbrev pub one_and_two : ArrayTree
one_and_two = leaf_array t_int32 (number (pos 1) ∷ number (pos 2) ∷ []) None

places : (o : Bool) → path_places (leaf_part o None 2 ∷ []) ≡ 0 ∷ 1 ∷ []
unfolding gather slot_places
places true = refl
places false = refl

stored : (o : Bool) → values_in (nested_column (stored_at one_and_two int32) (Primitive None o 2 ∷ [])) ≡ number (pos 1) ∷ number (pos 2) ∷ []
stored o = values_are_at_places (stored_at one_and_two int32) (Primitive None o 2 ∷ []) ∙ ap (map (stored_at one_and_two int32)) (places o)

pub stored_is : (type_ : PrimitiveType) → physical_view type_.physical_type ≡ int32 → values_in (stored_pairs (leaf_column type_ one_and_two)) ≡ number (pos 1) ∷ number (pos 2) ∷ []
stored_is type_ e =
    let o = is_optional (leaf_view type_) in
    subst (λ (p : Physical). values_in (nested_column (stored_at one_and_two p) (Primitive None o 2 ∷ [])) ≡ number (pos 1) ∷ number (pos 2) ∷ []) (sym e) (stored o)

abbrev pub bytes : List ℕ
bytes = 1 ∷ 0 ∷ 0 ∷ 0 ∷ 2 ∷ 0 ∷ 0 ∷ 0 ∷ []

-- their plain spelling
pub spelled : (l : Leaf) → l.physical ≡ int32 → IsPlain l.physical bytes (number (pos 1) ∷ number (pos 2) ∷ [])
spelled l e =
    rw e (1 ∷ 0 ∷ 0 ∷ 0 ∷ [], 2 ∷ 0 ∷ 0 ∷ 0 ∷ [], (refl, refl), (2 ∷ 0 ∷ 0 ∷ 0 ∷ [], [], (refl, refl), refl, refl), refl)

pub encodes : (type_ : PrimitiveType) (version : Version) → physical_view type_.physical_type ≡ int32 → Encodes (λ is_optional text. text ≡ bytes) version E.Plain (leaf_column type_ one_and_two)
encodes type_ version e =
    let c = leaf_column type_ one_and_two in
    let are = stored_is type_ e in
    record {
      encoding = plain;
      named = refl;
      spelled = λ text h l q. subst (λ (vs : List Value). IsPlain l.physical text vs) (sym are) (subst (λ (t : List ℕ). IsPlain l.physical t (number (pos 1) ∷ number (pos 2) ∷ [])) (sym h) (spelled l (q ∙ e)));
      within = λ text levels sizes h s.
          let plain_size : plain_length (column_physical c) (values_in (stored_pairs c)) ≡ 8 = ap (λ (p : Physical). plain_length p (values_in (stored_pairs c))) e ∙ ap (plain_length int32) are in
          let behind : length text ≡ 8 = ap length h in
          let front : length levels ≡ length s.repetition + length s.definition = ap length s.parts ∙ length-append s.repetition s.definition in
          omega (arith, length-append levels text, behind, front, s.tight, plain_size);
    }
