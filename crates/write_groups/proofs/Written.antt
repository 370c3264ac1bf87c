-- The group of a chunk, and why it is refused.
use Rattle.std.proofs.Common.{◌≡◌, ◌⊎◌, inl, inr, ℕ, ◌<◌, List, [], ◌∷◌, map, refl, subst}
use Rattle.columns_array.specs.Chunks.{AreEven}
use Rattle.columns_base.specs.declared.error.Error.{Error}
use Rattle.columns_base.specs.declared.error.Error.TheVariants.{Memory, WriteFault, Overflow}
use Rattle.columns_base.specs.declared.error.V.TheVariants.{V3}
use Rattle.columns_core.specs.Tree.{FieldTrees}
use Rattle.columns_slots.specs.Slots.{first_len}
use Rattle.nested_paths.specs.Laws.{PathsHaveLevels}
use Rattle.pq_files.specs.Layout.{OutGroup}
use Rattle.pq_files.specs.Packed.{HasRows}
use Rattle.pq_io.specs.Causes.{Rose}
use Rattle.pq_tree.specs.Tree.{Trees, leaves_of, columns_of}
use Rattle.pq_tree.specs.TreeViews.{trees_view}
use Rattle.pq_tree.specs.declared.version.Version.{Version}
use Rattle.schema_to_tree.specs.Table.{schema_of}
use Rattle.write_file.specs.Pages.{AllGive, SomeRefuses}
use Rattle.write_counts.specs.Passing.{GroupPasses}
use Rattle.write_groups.proofs.Groups.{even_len, group_chunks, has_rows}
use Rattle.write_groups.specs.Given.{BeginsColumn, RefusesColumn}
use Rattle.write_groups.specs.Writing.{HasColumns, IsGroupOf, Refuses, fields_in}
use Rattle.write_groups.specs.declared.column.ChunkColumn.{ChunkColumn}
use Rattle.write_groups.specs.declared.group.RowGroupIter.{RowGroupIter}
use Rattle.write_groups.specs.declared.writer.FileWriter.{FileWriter}

pub record Grouped (fs : FieldTrees) (g : RowGroupIter) (version : Version) : Type 0 where
  pub out : OutGroup
  pub is : IsGroupOf fs g out
  pub has : HasRows out
  pub give : AllGive BeginsColumn version (columns_of (schema_of fs)) out.chunks g.columns.items

pub grouped : (fs : FieldTrees) (g : RowGroupIter) (version : Version) → PathsHaveLevels → HasColumns g → AreEven g.chunk → 0 < first_len g.chunk → trees_view g.fields.items ≡ (schema_of fs).fields → g.options.version ≡ version → Grouped fs g version
grouped fs g version law h even some trees same =
    let k = group_chunks g.options g.chunk (trees_view g.fields.items) (map (λ es. es.items) g.encodings.items) g.columns.items (first_len g.chunk) law h (even_len g.chunk even) some in
    let out : OutGroup = record { rows = first_len g.chunk; chunks = k.chunks } in
    let give = subst (λ (ts : Trees). AllGive BeginsColumn g.options.version (leaves_of ts) k.chunks g.columns.items) trees k.give in
    record {
      out = out;
      is = record { rows = refl; columns = give };
      has = has_rows out (first_len g.chunk) refl k.counted;
      give = subst (λ (v : Version). AllGive BeginsColumn v (columns_of (schema_of fs)) k.chunks g.columns.items) same give;
    }

-- ---- refusals

no_fault : (ss : List ChunkColumn) → SomeRefuses RefusesColumn ss WriteFault → ⊥
no_fault [] h = h
no_fault (s ∷ ss) (inl (inl e)) = cc
no_fault (s ∷ ss) (inl (inr h)) = let q = h.0 in cc
no_fault (s ∷ ss) (inr h) = no_fault ss h

pub refused : {W : Type 0} (faults : W → ℕ) (groups : List OutGroup) (g : RowGroupIter) (old new : FileWriter W) (out : OutGroup) (e : Error) (ss : List ChunkColumn) → ss ≡ g.columns.items → IsGroupOf (fields_in old) g out
    → (e ≡ Memory) ⊎ ((e ≡ WriteFault) × (Rose (faults old.file.body.writer) (faults new.file.body.writer) ⊎ SomeRefuses RefusesColumn ss WriteFault)) ⊎ ((e ≡ Overflow V3) × GroupPasses old.options.version (columns_of (schema_of (fields_in old))) groups out) ⊎ SomeRefuses RefusesColumn ss e
    → Refuses faults groups g old new e
refused faults groups g old new out e ss same is (inl h) = inl h
refused faults groups g old new out e ss same is (inr (inl (h, inl r))) = inr (inl (h, r))
refused faults groups g old new out e ss same is (inr (inl (h, inr f))) = absurd (no_fault ss f)
refused faults groups g old new out e ss same is (inr (inr (inl (h, p)))) = inr (inr (inl (h, out, is, p)))
refused faults groups g old new out e ss same is (inr (inr (inr h))) = inr (inr (inr (subst (λ (xs : List ChunkColumn). SomeRefuses RefusesColumn xs e) same h)))
