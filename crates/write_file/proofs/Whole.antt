-- A file that is begun, a group more, and the end.
use Rattle.std.proofs.Common.{◌≡◌, inl, inr, ℕ, ◌+◌, ◌<◌, ◌≤◌, List, [], ◌∷◌, ◌++◌, length, map, None, Some, Option, refl, sym, ap, subst, ◌∙◌, append_assoc, arith, option_map, pos}
use Rattle.std.specs.Prelude.{sum_by, String, Vec, string_bytes, IfSome, IsUtf8}
use Rattle.std.specs.Global.{Global}
use Rattle.std.specs.Io.KnownBytes.{Appends}
use Rattle.std.specs.List.{AllByRecursion as Each}
use Rattle.std.proofs.KnownBytes.{Appends-trans}
use Rattle.std.proofs.lemmas.List.{length-append, map-append}
use Rattle.std.proofs.lemmas.List.Elements.{All-from_recursion}
use Rattle.std.proofs.lemmas.List.Sums.{sum_by-append, sum_by-cons}
use Rattle.std.proofs.lemmas.Str.{IsUtf8-string_bytes}
use Rattle.footer_write.specs.FooterView.{row_group_view, footer_view}
use Rattle.footer_write.specs.declared.types.ThriftFileMetaData.{ThriftFileMetaData}
use Rattle.footer_write.specs.declared.types.ThriftRowGroup.{ThriftRowGroup}
use Rattle.pq_tree.specs.declared.types.KeyValue.{KeyValue}
use Rattle.pq_tree.specs.declared.version.Version.{Version}
use Rattle.pq_metadata.specs.Footer.{SpellsTree}
use Rattle.pq_metadata.specs.Frame.{magic}
use Rattle.pq_tree.specs.Tree.{Schema, columns_of}
use Rattle.pq_tree.specs.TreeViews.{schema_view, pairs_view}
use Rattle.pq_tree.specs.Views.{key_view}
use Rattle.pq_files.specs.FooterRecord.{ColumnChunk, RowGroup, FileMetaData}
use Rattle.pq_files.specs.Layout.{OutGroup}
use Rattle.pq_files.specs.Packed.{AreChunks, AreGroups, HasRows, IsWrittenFile, IsKeyText, WrittenFilesArePacked}
use Rattle.pq_files.specs.Written.{elements_of, footer_value, footer_record, group_record}
use Rattle.pq_numbers.specs.Texts.{number_of}
use Rattle.pq_thrift.specs.Written.{IsWritten}
use Rattle.write_file.proofs.Grown.{groups_more}
use Rattle.write_file.specs.Files.{HasWritten, HasFileStating, IsFront, pages_in}
use Rattle.write_file.specs.declared.body.FileBody.{FileBody}

-- what a step that only pushes leaves as it is
pub record IsKept {W : Type 0} (old new : FileBody W) : Type 0 where
  pub metadata : new.metadata ≡ old.metadata
  pub version : new.version ≡ old.version
  pub leaves : new.leaves ≡ old.leaves
  pub rows : new.rows ≡ old.rows
  pub data_pages : new.data_pages ≡ old.data_pages

no_pages : (groups : List OutGroup) (text pages : List ℕ) → length text ≡ 0 → IsFront groups text pages → pages ≡ []
no_pages groups text pages e (inl h) = h.2
no_pages groups text pages e (inr h) = absurd (omega (arith, e, ap length h, length-append magic pages))

no_text : (text : List ℕ) → length text ≡ 0 → text ≡ []
no_text [] e = refl
no_text (b ∷ text) e = absurd (omega (arith, e))

pub begun : {W : Type 0} (taken : W → Option (List ℕ)) (before : Option (List ℕ)) (tree : Schema) (version : Version) (groups : List OutGroup) (old new : FileBody W) → HasWritten taken before tree version groups old → old.pushed ≡ 0 → new.pushed ≡ 4 → Appends (taken old.writer) (taken new.writer) magic → IsKept old new → HasWritten taken before tree version groups new
begun taken before tree version groups old new h e n a k =
    let empty : length h.text ≡ 0 = sym h.counted ∙ e in
    let none = no_pages groups h.text h.pages empty h.front in
    record {
      schema = ap (λ (m : ThriftFileMetaData). schema_view m.schema) k.metadata ∙ h.schema;
      same = k.version ∙ h.same;
      number = ap (λ (m : ThriftFileMetaData). m.version) k.metadata ∙ h.number;
      author = ap (λ (m : ThriftFileMetaData). string_bytes m.created_by) k.metadata ∙ h.author;
      leaves = rw k.leaves h.leaves;
      text = magic;
      pages = h.pages;
      gained = Appends-trans before (taken old.writer) (taken new.writer) [] magic (subst (λ (t : List ℕ). Appends before (taken old.writer) t) (no_text h.text empty) h.gained) a;
      front = inr (ap (λ (t : List ℕ). magic ++ t) (sym none));
      counted = n;
      few = omega (arith, k.data_pages, h.few, e, n);
      are = rw k.metadata h.are;
      groups_are = h.groups_are ∙ ap (λ (m : ThriftFileMetaData). length m.row_groups.items) (sym k.metadata);
      rows_are = k.rows ∙ h.rows_are;
      stated = ap (λ (m : ThriftFileMetaData). m.num_rows) k.metadata ∙ h.stated;
      data_pages_are = k.data_pages ∙ h.data_pages_are;
    }

-- where something was pushed, PAR1 is in front
fronted : (groups : List OutGroup) (text pages : List ℕ) → 0 < length text → IsFront groups text pages → text ≡ magic ++ pages
fronted groups text pages some (inl h) = absurd (omega (arith, some, ap length h.0))
fronted groups text pages some (inr h) = h

pub behind_front : {W : Type 0} (taken : W → Option (List ℕ)) (before : Option (List ℕ)) (tree : Schema) (version : Version) (groups : List OutGroup) (b : FileBody W) (h : HasWritten taken before tree version groups b) → 0 < b.pushed → b.pushed ≡ 4 + length h.pages
behind_front taken before tree version groups b h some =
    let front = fronted groups h.text h.pages (omega (arith, h.counted, some)) h.front in
    omega (arith, h.counted, ap length front, length-append magic h.pages)

-- what a group that was pushed changes
pub record IsGrown {W : Type 0} (old new : FileBody W) (meta : ThriftRowGroup) (rows size data_pages : ℕ) : Type 0 where
  pub schema : new.metadata.schema ≡ old.metadata.schema
  pub number : new.metadata.version ≡ old.metadata.version
  pub author : new.metadata.created_by ≡ old.metadata.created_by
  pub row_groups : new.metadata.row_groups.items ≡ old.metadata.row_groups.items ++ (meta ∷ [])
  pub stated : new.metadata.num_rows ≡ pos (old.rows + rows)
  pub version : new.version ≡ old.version
  pub leaves : new.leaves ≡ old.leaves
  pub rows_are : new.rows ≡ old.rows + rows
  pub pushed : new.pushed ≡ old.pushed + size
  pub data_pages_are : new.data_pages ≡ old.data_pages + data_pages

pub grown : {W : Type 0} (taken : W → Option (List ℕ)) (before : Option (List ℕ)) (tree : Schema) (version : Version) (groups : List OutGroup) (g : OutGroup) (old new : FileBody W) (meta : ThriftRowGroup) (columns : List ColumnChunk) (text : List ℕ) → HasWritten taken before tree version groups old → 0 < old.pushed → HasRows g → AreChunks version (columns_of tree) g.chunks old.pushed text columns → Appends (taken old.writer) (taken new.writer) text → row_group_view meta ≡ group_record (length old.metadata.row_groups.items) columns g.rows old.pushed (length text) → IsGrown old new meta g.rows (length text) (pages_in g) → pages_in g ≤ length text → HasWritten taken before tree version (groups ++ (g ∷ [])) new
grown taken before tree version groups g old new meta columns text h some rows chunks a m k few =
    let front = fronted groups h.text h.pages (omega (arith, h.counted, some)) h.front in
    let start : old.pushed ≡ 4 + length h.pages = omega (arith, h.counted, ap length front, length-append magic h.pages) in
    let place : length old.metadata.row_groups.items ≡ 0 + length groups = omega (arith, h.groups_are) in
    let told : row_group_view meta ≡ group_record (0 + length groups) columns g.rows (4 + length h.pages) (length text) = m ∙ (λ i. group_record (place i) columns g.rows (start i) (length text)) in
    let more = groups_more version (columns_of tree) groups g 0 4 h.pages text (map row_group_view old.metadata.row_groups.items) (row_group_view meta) columns h.are rows (subst (λ (s : ℕ). AreChunks version (columns_of tree) g.chunks s text columns) start chunks) told in
    let metas : map row_group_view old.metadata.row_groups.items ++ (row_group_view meta ∷ []) ≡ map row_group_view new.metadata.row_groups.items = sym (map-append row_group_view old.metadata.row_groups.items (meta ∷ [])) ∙ ap (map row_group_view) (sym k.row_groups) in
    let row_sum : old.rows + g.rows ≡ sum_by (λ (x : OutGroup). x.rows) (groups ++ (g ∷ [])) = omega (arith, h.rows_are, sum_by-append (λ (x : OutGroup). x.rows) groups (g ∷ []), sum_by-cons (λ (x : OutGroup). x.rows) g []) in
    record {
      schema = ap schema_view k.schema ∙ h.schema;
      same = k.version ∙ h.same;
      number = k.number ∙ h.number;
      author = ap string_bytes k.author ∙ h.author;
      leaves = rw k.leaves h.leaves;
      text = h.text ++ text;
      pages = h.pages ++ text;
      gained = Appends-trans before (taken old.writer) (taken new.writer) h.text text h.gained a;
      front = inr (ap (λ (t : List ℕ). t ++ text) front ∙ append_assoc magic h.pages text);
      counted = omega (arith, k.pushed, h.counted, length-append h.text text);
      few = omega (arith, k.pushed, k.data_pages_are, h.few, few);
      are = subst (λ (vs : List RowGroup). AreGroups version (columns_of tree) (groups ++ (g ∷ [])) 0 4 (h.pages ++ text) vs) metas more;
      groups_are = omega (arith, h.groups_are, length-append groups (g ∷ []), ap length k.row_groups, length-append old.metadata.row_groups.items (meta ∷ []));
      rows_are = k.rows_are ∙ row_sum;
      stated = k.stated ∙ ap pos row_sum;
      data_pages_are = omega (arith, k.data_pages_are, h.data_pages_are, sum_by-append pages_in groups (g ∷ []), sum_by-cons pages_in g []);
    }

-- ---- the end

-- whatever keys are set
pub keyed : {W : Type 0} (taken : W → Option (List ℕ)) (before : Option (List ℕ)) (tree : Schema) (version : Version) (groups : List OutGroup) (b : FileBody W) (keys : Option (Vec KeyValue Global)) → HasWritten taken before tree version groups b → HasWritten taken before tree version groups (record b { metadata = record b.metadata { key_value_metadata = keys } })
keyed taken before tree version groups b keys h = record {
  schema = h.schema;
  same = h.same;
  number = h.number;
  author = h.author;
  leaves = h.leaves;
  text = h.text;
  pages = h.pages;
  gained = h.gained;
  front = h.front;
  counted = h.counted;
  few = h.few;
  are = h.are;
  groups_are = h.groups_are;
  rows_are = h.rows_are;
  stated = h.stated;
  data_pages_are = h.data_pages_are;
}

key_texts : (ks : List KeyValue) → Each IsKeyText (map key_view ks)
key_texts [] = tt
key_texts (k ∷ ks) = ((IsUtf8-string_bytes k.key, some_text k.«value»), key_texts ks)
  where
    some_text : (v : Option (String Global)) → IfSome (option_map string_bytes v) IsUtf8
    some_text None = tt
    some_text (Some s) = IsUtf8-string_bytes s

pairs_texts : (keys : Option (Vec KeyValue Global)) → Each IsKeyText (pairs_view keys)
pairs_texts None = tt
pairs_texts (Some ks) = key_texts ks.items

-- what the footer states
pub stated : {W : Type 0} (taken : W → Option (List ℕ)) (before : Option (List ℕ)) (tree : Schema) (version : Version) (groups : List OutGroup) (b : FileBody W) → HasWritten taken before tree version groups b → footer_view b.metadata ≡ footer_record version tree (pairs_view b.metadata.key_value_metadata) groups (map row_group_view b.metadata.row_groups.items)
stated taken before tree version groups b h = λ i. record {
  version = h.number i;
  schema = h.schema i;
  num_rows = h.stated i;
  row_groups = map row_group_view b.metadata.row_groups.items;
  keys = pairs_view b.metadata.key_value_metadata;
  created_by = h.author i;
}

pub whole : {W : Type 0} (taken : W → Option (List ℕ)) (before after : Option (List ℕ)) (tree : Schema) (version : Version) (groups : List OutGroup) (b : FileBody W) (footer four rest : List ℕ) (size : ℕ) → WrittenFilesArePacked → HasWritten taken before tree version groups b → 0 < b.pushed → SpellsTree (elements_of tree) tree → IsWritten footer (footer_value (footer_view b.metadata)) → length four ≡ 4 → number_of four ≡ length footer → rest ≡ footer ++ (four ++ magic) → Appends (taken b.writer) after rest → size ≡ b.pushed + length rest → HasFileStating before after tree (pairs_view b.metadata.key_value_metadata) version groups size (footer_view b.metadata)
whole taken before after tree version groups b footer four rest size law h some shape w f4 fn parts a e =
    let keys = pairs_view b.metadata.key_value_metadata in
    let front = fronted groups h.text h.pages (omega (arith, h.counted, some)) h.front in
    let file = magic ++ (h.pages ++ (footer ++ (four ++ magic))) in
    let all : h.text ++ rest ≡ file = ap (λ (x : List ℕ). x ++ rest) front ∙ (append_assoc magic h.pages rest ∙ ap (λ (x : List ℕ). magic ++ (h.pages ++ x)) parts) in
    let written : IsWrittenFile file tree keys version groups = record {
      pages = h.pages;
      footer = footer;
      size = four;
      parts = refl;
      four = f4;
      is_size = fn;
      row_groups = map row_group_view b.metadata.row_groups.items;
      are = h.are;
      is_footer = subst (λ (m : FileMetaData). IsWritten footer (footer_value m)) (stated taken before tree version groups b h) w;
      is_tree = shape;
      are_keys = All-from_recursion IsKeyText keys (pairs_texts b.metadata.key_value_metadata);
    } in
    record {
      whole = record {
        file = file;
        gained = subst (λ (x : List ℕ). Appends before after x) all (Appends-trans before (taken b.writer) after h.text rest h.gained a);
        packed = record { written = written; carried = (law file tree keys version groups written).carried };
        size_is = e ∙ (omega (arith, h.counted, length-append h.text rest) ∙ ap length all);
      };
      stated = stated taken before tree version groups b h;
    }
