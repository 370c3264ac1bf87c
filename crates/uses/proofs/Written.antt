-- A chunk of arrays, written as a file.
use Rattle.std.proofs.Common.{◌≡◌, inl, inr, ℕ, List, [], ◌∷◌, Option, refl, sym, subst}
use Rattle.columns_core.specs.View.{SchemaTree, schema_view}
use Rattle.columns_slots.specs.Slots.{first_len}
use Rattle.columns_slots.specs.Tree.{ArrayTrees}
use Rattle.pq_files.specs.Layout.{OutGroup}
use Rattle.schema_key.specs.Key.{schema_entry}
use Rattle.schema_to_tree.specs.Table.{schema_of}
use Rattle.write_file.specs.Files.{HasFile}
use Rattle.write_groups.specs.Writing.{Adds, HasColumns, IsGroupOf, IsWriting, fields_in}
use Rattle.write_groups.specs.declared.group.RowGroupIter.{RowGroupIter}
use Rattle.write_groups.specs.declared.writer.FileWriter.{FileWriter}
use Rattle.write_pages.specs.declared.options.WriteOptions.{WriteOptions}
use Rattle.uses.specs.Files.{IsFileOf}

pub file_of : {W : Type 0} (taken : W → Option (List ℕ)) (before after : Option (List ℕ)) (old new : FileWriter W) (g : RowGroupIter) (s : SchemaTree) (bytes_of : SchemaTree → List ℕ) (options : WriteOptions) (chunk : ArrayTrees) (size : ℕ)
    → schema_view old.file.schema ≡ s → schema_view new.file.schema ≡ s → new.options ≡ options → g.chunk ≡ chunk → HasColumns g
    → IsWriting taken before old [] → Adds taken before [] g old new
    → ((groups : List OutGroup) → IsWriting taken before new groups → HasFile before after (schema_of (fields_in new)) (schema_entry (bytes_of (schema_view new.file.schema)) ∷ []) new.options.version groups size)
    → IsFileOf before after s (bytes_of s) options chunk
file_of taken before after old new g s bytes_of options chunk size is_old is_new asked same has begun adds ended = elim adds [
  | inl none ↦
      record {
        groups = [];
        are = inl (subst (λ x. first_len x ≡ 0) same none.0, refl);
        size = size;
        file = told [] (ended [] (subst (λ w. IsWriting taken before w []) (sym none.1) begun));
      }
  | inr one ↦
      record {
        groups = one.0 ∷ [];
        are = inr (g, one.0, refl, same, has, subst (λ (t : SchemaTree). IsGroupOf t.fields g one.0) is_old one.1);
        size = size;
        file = told (one.0 ∷ []) (ended (one.0 ∷ []) one.2);
      }
]
  where
    told : (groups : List OutGroup) → HasFile before after (schema_of (fields_in new)) (schema_entry (bytes_of (schema_view new.file.schema)) ∷ []) new.options.version groups size → HasFile before after (schema_of s.fields) (schema_entry (bytes_of s) ∷ []) options.version groups size
    told groups h =
        subst (λ (o : WriteOptions). HasFile before after (schema_of s.fields) (schema_entry (bytes_of s) ∷ []) o.version groups size) asked
        (subst (λ (t : SchemaTree). HasFile before after (schema_of t.fields) (schema_entry (bytes_of t) ∷ []) new.options.version groups size) is_new h)
