-- A chunk of arrays that is not written as a file, by its cause.
use Rattle.std.proofs.Common.{◌≡◌, ◌⊎◌, ◌<◌, inl, inr, ℕ, List, [], ◌∷◌, length, map, Option, refl, sym, ap, subst, ◌∙◌, suc}
use Rattle.std.specs.Prelude.{Vec}
use Rattle.std.proofs.lemmas.List.{length-map}
use Rattle.std.specs.Global.{Global}
use Rattle.columns_base.specs.declared.error.Error.{Error}
use Rattle.columns_base.specs.declared.error.Error.TheVariants.{InvalidArgumentError, Memory, Overflow, WriteFault}
use Rattle.columns_base.specs.declared.error.A.TheVariants.{A8}
use Rattle.columns_base.specs.declared.error.V.TheVariants.{V3}
use Rattle.columns_core.specs.View.{SchemaTree, schema_view}
use Rattle.columns_slots.specs.Slots.{AreTyped, first_len}
use Rattle.columns_slots.specs.Tree.{ArrayTrees}
use Rattle.pq_files.specs.Layout.{OutGroup}
use Rattle.pq_files.specs.Room.{footer_room, max_size, planned_footer}
use Rattle.pq_tree.specs.Tree.{Schema, Trees, columns_of, count_trees}
use Rattle.pq_tree.specs.TreeViews.{trees_view}
use Rattle.pq_tree.specs.declared.types.Encoding.{Encoding}
use Rattle.pq_tree.specs.declared.types.ParquetType.{ParquetType}
use Rattle.schema_key.specs.Key.{schema_entry}
use Rattle.schema_to_tree.specs.Conditions.{RefusesSchema}
use Rattle.schema_to_tree.specs.Table.{schema_of}
use Rattle.write_counts.specs.Passing.{GroupPasses}
use Rattle.write_groups.specs.Columns.{AreSoMany, RefusesFields}
use Rattle.write_groups.specs.Writing.{Adds, HasColumns, IsGroupOf, IsWriting, Refuses, Takes, fields_in}
use Rattle.write_groups.specs.declared.group.RowGroupIter.{RowGroupIter}
use Rattle.write_groups.specs.declared.writer.FileWriter.{FileWriter}
use Rattle.write_pages.specs.declared.options.WriteOptions.{WriteOptions}
use Rattle.uses.specs.Files.{AreGroupsOf, RefusesFile}

abbrev pub lists_of : List (Vec Encoding Global) → List (List Encoding)
lists_of ess = map (λ es. es.items) ess

counted : (xs : List ParquetType) → count_trees (trees_view xs) ≡ length xs
counted [] = refl
counted (x ∷ xs) = ap suc (counted xs)

-- a writer's tree is that of its schema
pub tree_fields : {W : Type 0} (taken : W → Option (List ℕ)) (before : Option (List ℕ)) (w : FileWriter W) (s : SchemaTree) → schema_view w.file.schema ≡ s → IsWriting taken before w []
    → trees_view w.file.body.metadata.schema.fields ≡ (schema_of s.fields).fields
tree_fields taken before w s same begun = ap (λ (t : Schema). t.fields) begun.has.schema ∙ ap (λ (x : SchemaTree). (schema_of x.fields).fields) same

out_of_memory : (s : SchemaTree) (bytes : List ℕ) (options : WriteOptions) (chunk : ArrayTrees) (es : List (List Encoding)) (e : Error) → e ≡ Memory → RefusesFile s bytes options chunk es e
out_of_memory s bytes options chunk es e m = inl (subst (RefusesSchema s.fields) (sym m) tt)

pub group_refused : (s : SchemaTree) (bytes : List ℕ) (options : WriteOptions) (chunk : ArrayTrees) (ess : List (Vec Encoding Global)) (trees : List ParquetType) (e : Error) → trees_view trees ≡ (schema_of s.fields).fields
    → (e ≡ Memory) ⊎ ((e ≡ InvalidArgumentError A8) × (¬ AreSoMany chunk (length ess) (length trees))) ⊎ RefusesFields options chunk (trees_view trees) (lists_of ess) e
    → RefusesFile s bytes options chunk (lists_of ess) e
group_refused s bytes options chunk ess trees e same (inl m) = out_of_memory s bytes options chunk (lists_of ess) e m
group_refused s bytes options chunk ess trees e same (inr (inl x)) =
    let count : length trees ≡ count_trees (schema_of s.fields).fields = sym (counted trees) ∙ ap count_trees same in
    inr (inr (inl (x.0, inl (subst (λ (n : ℕ). ¬ AreSoMany chunk n (count_trees (schema_of s.fields).fields)) (sym (length-map ess (λ es. es.items))) (subst (λ (n : ℕ). ¬ AreSoMany chunk (length ess) n) count x.1)))))
group_refused s bytes options chunk ess trees e same (inr (inr x)) = inr (inr (inr (inl (subst (λ (ts : Trees). RefusesFields options chunk ts (lists_of ess) e) same x))))

pub write_refused : {W : Type 0} (faults : W → ℕ) (old new : FileWriter W) (g : RowGroupIter) (s : SchemaTree) (bytes : List ℕ) (options : WriteOptions) (chunk : ArrayTrees) (es : List (List Encoding)) (e : Error)
    → schema_view old.file.schema ≡ s → old.options ≡ options → g.chunk ≡ chunk → g.options ≡ options → trees_view g.fields.items ≡ trees_view old.file.body.metadata.schema.fields → HasColumns g
    → ((e ≡ InvalidArgumentError A8) × (¬ Takes old g)) ⊎ Refuses faults [] g old new e → RefusesFile s bytes options chunk es e
write_refused faults old new g s bytes options chunk es e same asked is_chunk as_asked trees has (inl x) =
    inr (inr (inl (
      x.0,
      inr (λ typed. x.1 (record {
        trees = trees;
        typed = subst (λ (t : SchemaTree). AreTyped t.fields g.chunk) (sym same) (subst (AreTyped s.fields) (sym is_chunk) typed);
        version = ap (λ (o : WriteOptions). o.version) (as_asked ∙ sym asked);
        statistics = ap (λ (o : WriteOptions). o.write_statistics) (as_asked ∙ sym asked);
      })),
    )))
write_refused faults old new g s bytes options chunk es e same asked is_chunk as_asked trees has (inr (inl m)) = out_of_memory s bytes options chunk es e m
write_refused faults old new g s bytes options chunk es e same asked is_chunk as_asked trees has (inr (inr (inl f))) = inr (inl f.0)
write_refused faults old new g s bytes options chunk es e same asked is_chunk as_asked trees has (inr (inr (inr (inl v)))) =
    let out = v.1 in
    let is : IsGroupOf s.fields g out = subst (λ (t : SchemaTree). IsGroupOf t.fields g out) same v.2 in
    let passes : GroupPasses options.version (columns_of (schema_of s.fields)) [] out =
    subst (λ (o : WriteOptions). GroupPasses o.version (columns_of (schema_of s.fields)) [] out) asked
    (subst (λ (t : SchemaTree). GroupPasses old.options.version (columns_of (schema_of t.fields)) [] out) same v.3) in
    inr (inr (inr (inr (inl (g, is_chunk, has, inr (v.0, out, is, passes))))))
write_refused faults old new g s bytes options chunk es e same asked is_chunk as_asked trees has (inr (inr (inr (inr r)))) = inr (inr (inr (inr (inl (g, is_chunk, has, inl r)))))

pub end_refused : {W : Type 0} (taken : W → Option (List ℕ)) (before : Option (List ℕ)) (old new : FileWriter W) (rose : Type 0) (g : RowGroupIter) (s : SchemaTree) (bytes_of : SchemaTree → List ℕ) (options : WriteOptions) (chunk : ArrayTrees) (es : List (List Encoding)) (e : Error)
    → schema_view old.file.schema ≡ s → schema_view new.file.schema ≡ s → g.chunk ≡ chunk → HasColumns g → IsWriting taken before old [] → Adds taken before [] g old new
    → ((groups : List OutGroup) → IsWriting taken before new groups → (e ≡ Memory) ⊎ ((e ≡ WriteFault) × rose) ⊎ ((e ≡ Overflow V3) × ((max_size < length (bytes_of (schema_view new.file.schema))) ⊎ (max_size < footer_room (planned_footer (schema_of (fields_in new)) (schema_entry (bytes_of (schema_view new.file.schema)) ∷ []) groups)))))
    → RefusesFile s (bytes_of s) options chunk es e
end_refused taken before old new rose g s bytes_of options chunk es e is_old is_new same has begun adds refused = elim adds [
  | inl none ↦ by [] (inl (subst (λ x. first_len x ≡ 0) same none.0, refl)) (refused [] (subst (λ w. IsWriting taken before w []) (sym none.1) begun))
  | inr one ↦ by (one.0 ∷ []) (inr (g, one.0, refl, same, has, subst (λ (t : SchemaTree). IsGroupOf t.fields g one.0) is_old one.1)) (refused (one.0 ∷ []) one.2)
]
  where
    by : (groups : List OutGroup) → AreGroupsOf s chunk groups
        → (e ≡ Memory) ⊎ ((e ≡ WriteFault) × rose) ⊎ ((e ≡ Overflow V3) × ((max_size < length (bytes_of (schema_view new.file.schema))) ⊎ (max_size < footer_room (planned_footer (schema_of (fields_in new)) (schema_entry (bytes_of (schema_view new.file.schema)) ∷ []) groups))))
        → RefusesFile s (bytes_of s) options chunk es e
    by groups are (inl m) = out_of_memory s (bytes_of s) options chunk es e m
    by groups are (inr (inl f)) = inr (inl f.0)
    by groups are (inr (inr (v, inl k))) = inr (inr (inr (inr (inr (v, inl (subst (λ (t : SchemaTree). max_size < length (bytes_of t)) is_new k))))))
    by groups are (inr (inr (v, inr k))) = inr (inr (inr (inr (inr (v, inr (groups, are, subst (λ (t : SchemaTree). max_size < footer_room (planned_footer (schema_of t.fields) (schema_entry (bytes_of t) ∷ []) groups)) is_new k))))))
