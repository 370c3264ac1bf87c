-- The footer that is written is read again, but for what is not written.
use Rattle.std.proofs.Common.{◌≡◌, ℕ, pos, List, [], ◌∷◌, map, All, Option, Some, None, option_map, Global, String, refl, sym, subst}
use Rattle.std.specs.Prelude.{string_bytes, IsUtf8, IfSome, Vec}
use Rattle.std.proofs.lemmas.Str.{IsUtf8-string_bytes}
use Rattle.std.proofs.lemmas.List.Elements.{All-nil, All-cons}
use Rattle.pq_thrift.specs.Value.{binary, struct, no_fields}
use Rattle.pq_tree.specs.declared.schema.SchemaDescriptor.{SchemaDescriptor}
use Rattle.pq_tree.specs.declared.types.KeyValue.{KeyValue}
use Rattle.pq_metadata.specs.Elements.{SpellsRoot}
use Rattle.pq_metadata.specs.Footer.{SpellsTree, SpellsFooter}
use Rattle.pq_tree.specs.Tree.{Schema, Tree, leaf, group, Trees, no_trees, tree, count_trees}
use Rattle.pq_tree.specs.TreeViews.{schema_view, pairs_view}
use Rattle.pq_tree.specs.Types.{Converted}
use Rattle.pq_tree.specs.Views.{key_view}
use Rattle.pq_files.specs.Packed.{IsKeyText}
use Rattle.pq_files.specs.Written.{at, i32, elements_of, tree_root, footer_value}
use Rattle.pq_files.proofs.FooterSays.{footer_says as says}
use Rattle.footer_write.specs.declared.types.ThriftFileMetaData.{ThriftFileMetaData}
use Rattle.footer_write.specs.FooterView.{footer_view}
use Rattle.footer_write.specs.Reads.{without_numbers, tree_told, trees_told, TreeHasLengths, HasLengths, schema_told, footer_told, HasNoNumbers, TreeIsTold, AreTold}
use Rattle.footer_write.proofs.ReadAgain.{KnownTrees, known_trees, same_count, trees_say}

-- ---- the schema

root_says : (name : List ℕ) (n : ℕ) → IsUtf8 name → SpellsRoot (struct (at 4 (binary name) (at 5 (i32 n) no_fields))) name n
root_says name n u = (
  record { type = None; type_length = None; repetition = None; name = name; num_children = Some (pos n); converted = None; scale = None; precision = None; field_id = None; logical = None },
  record { type = refl; type_length = refl; repetition = refl; name = refl; text = u; num_children = refl; converted = refl; scale = refl; precision = refl; field_id = refl; logical = refl },
  record { is_group = refl; counts = refl; is_named = refl; precision = 0; scale = 0; has_precision = refl; has_scale = refl; annotation = None; logical = refl },
)

pub schema_says : (s : Schema) → IsUtf8 s.name → KnownTrees s.fields → HasLengths s.fields → SpellsTree (elements_of s) (schema_told s)
schema_says s u k h =
    record {
      first = tree_root s;
      others = _;
      parts = refl;
      root = subst (λ n. SpellsRoot (tree_root s) s.name n) (sym (same_count s.fields)) (root_says s.name (count_trees s.fields) u);
      nodes = trees_say s.fields k h;
    }

-- ---- schemas that are read as they are

have_no_numbers : (c : Option Converted) → HasNoNumbers c → without_numbers c ≡ c
have_no_numbers (Some (Converted.decimal p s)) h = λ i. Some (Converted.decimal (sym h.0 i) (sym h.1 i))
have_no_numbers c h = refl

mutual
  same_tree : (t : Tree) → TreeIsTold t → (tree_told t ≡ t) × TreeHasLengths t
  same_tree (leaf info p) h = (λ i. leaf (record { name = info.name; repetition = info.repetition; id = sym h.0 i; converted = info.converted; logical = info.logical }) p, h.1)
  same_tree (group info ts) h =
      let children = same_trees ts h.2 in
      (λ i. group (record { name = info.name; repetition = info.repetition; id = sym h.0 i; converted = have_no_numbers info.converted h.1 i; logical = info.logical }) (children.0 i), children.1)

  same_trees : (ts : Trees) → AreTold ts → (trees_told ts ≡ ts) × HasLengths ts
  same_trees no_trees h = (refl, tt)
  same_trees (tree t ts) h =
      let first = same_tree t h.0 in
      let others = same_trees ts h.1 in
      (λ i. tree (first.0 i) (others.0 i), (first.1, others.1))

pub schema_is_told : (s : SchemaDescriptor) → IsUtf8 s.name → AreTold (schema_view s).fields → SpellsTree (elements_of (schema_view s)) (schema_view s)
schema_is_told s u h =
    let same = same_trees (schema_view s).fields h in
    subst (λ (ts : Trees). SpellsTree (elements_of (schema_view s)) (record { name = s.name; fields = ts })) same.0 (schema_says (schema_view s) u (known_trees s.fields) same.1)

-- ---- pairs

value_is_text : (k : KeyValue) → IsKeyText (key_view k)
value_is_text k = (IsUtf8-string_bytes k.key, some_text k.«value»)
  where
    some_text : (o : Option (String Global)) → IfSome (option_map string_bytes o) IsUtf8
    some_text None = tt
    some_text (Some v) = IsUtf8-string_bytes v

keys_are_text : (ks : List KeyValue) → All IsKeyText (map key_view ks)
keys_are_text [] = All-nil IsKeyText
keys_are_text (k ∷ ks) = All-cons IsKeyText (key_view k) (map key_view ks) (value_is_text k) (keys_are_text ks)

pairs_are_text : (o : Option (Vec KeyValue Global)) → All IsKeyText (pairs_view o)
pairs_are_text None = All-nil IsKeyText
pairs_are_text (Some ks) = keys_are_text ks.items

-- ---- the footer

pub footer_says : (m : ThriftFileMetaData) → IsUtf8 m.schema.name → HasLengths (footer_view m).schema.fields → SpellsFooter (footer_value (footer_view m)) (footer_told (footer_view m))
footer_says m u h =
    let s = (footer_view m).schema in
    says (footer_view m) (schema_told s) (pairs_are_text m.key_value_metadata) (schema_says s u (known_trees m.schema.fields) h)
