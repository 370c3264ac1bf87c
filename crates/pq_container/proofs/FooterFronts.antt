-- The parts of a footer, from the fields that stand one behind the other.
use Rattle.std.proofs.Common.{◌≡◌, ℕ, suc, ℤ, pos, ◌-◌, ◌≤◌, List, [], ◌∷◌, ◌++◌, length, take, drop, Option, Some, None, refl, sym, ap, subst, ◌∙◌, append_assoc, arith}
use Rattle.std.proofs.lemmas.List.{length-take, take-append-drop}
use Rattle.pq_numbers.specs.Texts.{Begins}
use Rattle.pq_thrift.specs.declared.kind.Kind.TheVariants as kinds
use Rattle.pq_thrift.specs.Grammar.{IsListHead, IsFieldHead, IsBinary, AreFields, Spells, count, fields_depth}
use Rattle.pq_thrift.specs.Value.{Value, int32, int64, binary, list, struct, Values, value, Fields, no_fields, field}
use Rattle.pq_metadata.specs.Elements.{SpellsNode}
use Rattle.pq_metadata.specs.FlatFooter.{FlatFooter, HasFlatFooter, SpellsFlatRecord, SpellsElements}
use Rattle.pq_metadata.specs.Footer.{ChunkMeta, GroupMeta, SaysStatistics, SpellsChunk, SpellsGroup}
use Rattle.pq_metadata.specs.Ids.{Each}
use Rattle.pq_tree.specs.Tree.{Element}
use Rattle.pq_container.specs.declared.chunks.ColumnNumbers.{ColumnNumbers}
use Rattle.pq_container.specs.Raw.{SpellsRootAs}
use Rattle.pq_container.specs.Ahead.{Fronts, FrontsBehind, IsShort, IsLong, FrontsSaying, FrontsStruct, FrontsValues, place_field, SaysColumn, rows_fields, created_field, FrontsSchema, FrontsGroups, FrontsGroupsHead}
use Rattle.pq_container.proofs.Fronts.{head, field_first, no_field, short_first, struct_first}
use Rattle.pq_container.proofs.Lists.{list_first, value_deep}

-- ---- fields

-- a number of 64 bits in front of other fields
long_first : (last id : ℤ) (byte : ℕ) (z : ℤ) (fs : Fields) (bytes middle rest : List ℕ) → IsFieldHead last (byte ∷ []) id kinds.I64 → FrontsBehind byte (IsLong z) bytes middle → Fronts (AreFields fs id) middle rest → Fronts (AreFields (field id (int64 z) fs) last) bytes rest
long_first last id byte z fs bytes middle rest h b f = field_first last id byte kinds.I64 (int64 z) fs bytes middle rest h (record { middle = b.middle; parts = b.parts; fronts = record { text = b.fronts.text; parts = b.fronts.parts; holds = (refl, b.fronts.holds) } }) f

pub no_place : (bytes rest : List ℕ) → bytes ≡ 0 ∷ rest → Fronts (AreFields (place_field None) (pos 9)) bytes rest
no_place bytes rest e = no_field (pos 9) bytes rest e

pub some_place : (z : ℤ) (bytes middle rest : List ℕ) → FrontsBehind 38 (IsLong z) bytes middle → middle ≡ 0 ∷ rest → Fronts (AreFields (place_field (Some z)) (pos 9)) bytes rest
some_place z bytes middle rest f e = long_first (pos 9) (pos 11) 38 z no_fields bytes middle rest (head (pos 9) (pos 11) 38 kinds.I64 refl (λ e. omega (arith, e)) refl refl) f (no_field (pos 11) middle rest e)

pub rows_stand : (size rows : ℤ) (a b c rest : List ℕ) → FrontsBehind 22 (IsLong size) a b → FrontsBehind 22 (IsLong rows) b c → c ≡ 0 ∷ rest → Fronts (AreFields (rows_fields size rows) (pos 1)) a rest
rows_stand size rows a b c rest f g e =
    let last = long_first (pos 2) (pos 3) 22 rows no_fields b c rest (head (pos 2) (pos 3) 22 kinds.I64 refl (λ e. omega (arith, e)) refl refl) g (no_field (pos 3) c rest e) in
    long_first (pos 1) (pos 2) 22 size (field (pos 3) (int64 rows) no_fields) a b rest (head (pos 1) (pos 2) 22 kinds.I64 refl (λ e. omega (arith, e)) refl refl) f last

pub no_creator : (bytes rest : List ℕ) → bytes ≡ 0 ∷ rest → Fronts (AreFields (created_field None) (pos 4)) bytes rest
no_creator bytes rest e = no_field (pos 4) bytes rest e

pub some_creator : (s : List ℕ) (bytes middle after rest : List ℕ) → bytes ≡ 40 ∷ middle → Fronts (λ t. IsBinary t s) middle after → after ≡ 0 ∷ rest → Fronts (AreFields (created_field (Some s)) (pos 4)) bytes rest
some_creator s bytes middle after rest e f z =
    field_first (pos 4) (pos 6) 40 kinds.Binary (binary s) no_fields bytes after rest (head (pos 4) (pos 6) 40 kinds.Binary refl (λ e. omega (arith, e)) refl refl)
    (record { middle = middle; parts = e; fronts = record { text = f.text; parts = f.parts; holds = (refl, f.holds) } })
    (no_field (pos 6) after rest z)

-- ---- a column

column_fields : ℤ → Values → Values → ℤ → ℤ → ℤ → ℤ → ℤ → Option ℤ → Fields
column_fields p es ns k v u s d o = field (pos 1) (int32 p) (field (pos 2) (list 5 es) (field (pos 3) (list 8 ns) (field (pos 4) (int32 k) (field (pos 5) (int64 v) (field (pos 6) (int64 u) (field (pos 7) (int64 s) (field (pos 9) (int64 d) (place_field o))))))))

column_has : (p : ℤ) (es ns : Values) (k v u s d : ℤ) (o : Option ℤ) (zs : List ℤ) (ts : List (List ℕ)) → Each (λ v z. v ≡ int32 z) es zs → Each (λ v s. v ≡ binary s) ns ts → SaysColumn (column_fields p es ns k v u s d o) (record { physical_type = p; codec = k; num_values = v; total_compressed_size = s; data_page_offset = d; dictionary_page_offset = o })
unfolding column_fields
column_has p es ns k v u s d None zs ts ez et = record { numbers = record { physical = refl; encodings = (zs, ez); path = (ts, et); codec = refl; num_values = refl; uncompressed = (Some u, refl); size = refl; data_page = refl; dictionary_page = refl }; bare = refl }
column_has p es ns k v u s d (Some z) zs ts ez et = record { numbers = record { physical = refl; encodings = (zs, ez); path = (ts, et); codec = refl; num_values = refl; uncompressed = (Some u, refl); size = refl; data_page = refl; dictionary_page = refl }; bare = refl }

place_depth : (o : Option ℤ) → fields_depth (place_field o) ≤ 1
place_depth None = omega arith
place_depth (Some z) = omega arith

pub column_stands : (p k v u s d : ℤ) (o : Option ℤ) (e n : ℕ) (zs : List ℤ) (ts : List (List ℕ)) (b0 b1 b2 b3 b4 b5 b6 b7 b8 b9 b10 rest : List ℕ)
    → FrontsBehind 21 (IsShort p) b0 b1
    → FrontsBehind 25 (λ t. IsListHead t 5 e) b1 b2
    → FrontsValues (λ v z. v ≡ int32 z) 5 1 e zs b2 b3
    → FrontsBehind 25 (λ t. IsListHead t 8 n) b3 b4
    → FrontsValues (λ v s. v ≡ binary s) 8 1 n ts b4 b5
    → FrontsBehind 21 (IsShort k) b5 b6
    → FrontsBehind 22 (IsLong v) b6 b7
    → FrontsBehind 22 (IsLong u) b7 b8
    → FrontsBehind 22 (IsLong s) b8 b9
    → FrontsBehind 38 (IsLong d) b9 b10
    → Fronts (AreFields (place_field o) (pos 9)) b10 rest
    → FrontsSaying SaysColumn 2 (record { physical_type = p; codec = k; num_values = v; total_compressed_size = s; data_page_offset = d; dictionary_page_offset = o }) b0 rest
unfolding column_fields
column_stands p k v u s d o e n zs ts b0 b1 b2 b3 b4 b5 b6 b7 b8 b9 b10 rest f1 h2 f2 h3 f3 f4 f5 f6 f7 f9 f11 =
    let es = f2.values in
    let ns = f3.values in
    let t9 = place_field o in
    let t7 = field (pos 9) (int64 d) t9 in
    let t6 = field (pos 7) (int64 s) t7 in
    let t5 = field (pos 6) (int64 u) t6 in
    let t4 = field (pos 5) (int64 v) t5 in
    let t3 = field (pos 4) (int32 k) t4 in
    let t2 = field (pos 3) (list 8 ns) t3 in
    let t1 = field (pos 2) (list 5 es) t2 in
    let s9 = long_first (pos 7) (pos 9) 38 d t9 b9 b10 rest (head (pos 7) (pos 9) 38 kinds.I64 refl (λ e. omega (arith, e)) refl refl) f9 f11 in
    let s7 = long_first (pos 6) (pos 7) 22 s t7 b8 b9 rest (head (pos 6) (pos 7) 22 kinds.I64 refl (λ e. omega (arith, e)) refl refl) f7 s9 in
    let s6 = long_first (pos 5) (pos 6) 22 u t6 b7 b8 rest (head (pos 5) (pos 6) 22 kinds.I64 refl (λ e. omega (arith, e)) refl refl) f6 s7 in
    let s5 = long_first (pos 4) (pos 5) 22 v t5 b6 b7 rest (head (pos 4) (pos 5) 22 kinds.I64 refl (λ e. omega (arith, e)) refl refl) f5 s6 in
    let s4 = short_first 3 k t4 b5 b6 rest (omega arith) f4 s5 in
    let s3 = list_first (pos 2) (pos 3) 25 8 n ns t3 b3 b4 b5 rest (head (pos 2) (pos 3) 25 kinds.List refl (λ e. omega (arith, e)) refl refl) h3 f3.many f3.fronts s4 in
    let s2 = list_first (pos 1) (pos 2) 25 5 e es t2 b1 b2 b3 rest (head (pos 1) (pos 2) 25 kinds.List refl (λ e. omega (arith, e)) refl refl) h2 f2.many f2.fronts s3 in
    record {
      fields = column_fields p es ns k v u s d o;
      fronts = short_first 0 p t1 b0 b1 rest (omega arith) f1 s2;
      shallow = omega (arith, f2.shallow, f3.shallow, place_depth o);
      says = column_has p es ns k v u s d o zs ts f2.are f3.are;
    }

pub chunk_stands : (z : ℤ) (c : ColumnNumbers) (a b m d rest : List ℕ) → FrontsBehind 38 (IsLong z) a b → b ≡ 28 ∷ m → FrontsSaying SaysColumn 2 c m d → d ≡ 0 ∷ rest → FrontsStruct SpellsChunk 4 (record { file_path = None; physical = c.physical_type; codec = c.codec; num_values = c.num_values; size = c.total_compressed_size; data_page = c.data_page_offset; dictionary_page = c.dictionary_page_offset; statistics = None }) a rest
chunk_stands z c a b m d rest f e s w =
    let n = s.says.numbers in
    let three = struct_first (pos 2) (pos 3) 28 s.fields no_fields b m d rest (head (pos 2) (pos 3) 28 kinds.Struct refl (λ e. omega (arith, e)) refl refl) e s.fronts (no_field (pos 3) d rest w) in
    let all = long_first (pos 0) (pos 2) 38 z (field (pos 3) (struct s.fields) no_fields) a b rest (head (pos 0) (pos 2) 38 kinds.I64 refl (λ e. omega (arith, e)) refl refl) f three in
    record {
      value = struct (field (pos 2) (int64 z) (field (pos 3) (struct s.fields) no_fields));
      fronts = record { text = all.text; parts = all.parts; holds = (refl, all.holds) };
      shallow = omega (arith, s.shallow);
      says = record {
        file_path = refl;
        text = tt;
        offset = (Some z, refl);
        metadata = s.fields;
        has_metadata = refl;
        is = record {
          physical = n.physical;
          encodings = n.encodings;
          path = n.path;
          codec = n.codec;
          num_values = n.num_values;
          uncompressed = n.uncompressed;
          size = n.size;
          data_page = n.data_page;
          dictionary_page = n.dictionary_page;
          statistics = subst (λ (o : Option Value). SaysStatistics o None) (sym s.says.bare) refl;
        };
        plain_keys = refl;
        plain_metadata = refl;
      };
    }

pub group_stands : (n : ℕ) (cs : List ChunkMeta) (size rows : ℤ) (a l t rest : List ℕ) → FrontsBehind 25 (λ t. IsListHead t 12 n) a l → FrontsValues SpellsChunk 12 4 n cs l t → Fronts (AreFields (rows_fields size rows) (pos 1)) t rest → FrontsStruct SpellsGroup 6 (record { chunks = cs; num_rows = rows }) a rest
group_stands n cs size rows a l t rest h f r =
    let all = list_first (pos 0) (pos 1) 25 12 n f.values (rows_fields size rows) a l t rest (head (pos 0) (pos 1) 25 kinds.List refl (λ e. omega (arith, e)) refl refl) h f.many f.fronts r in
    record {
      value = struct (field (pos 1) (list 12 f.values) (rows_fields size rows));
      fronts = record { text = all.text; parts = all.parts; holds = (refl, all.holds) };
      shallow = omega (arith, f.shallow);
      says = record { kind = 12; columns = f.values; has_columns = refl; are = f.are; num_rows = refl; total = (Some size, refl); offset = (None, refl); compressed = (None, refl); ordinal = (None, refl) };
    }

-- ---- the schema

pub value_stands : {A : Type 0} (Says : Value → A → Type 0) (a : A) (v : Value) (size : ℕ) (bytes : List ℕ) → size ≤ length bytes → size ≤ 100 → Spells (take size bytes) v → Says v a → FrontsStruct Says 100 a bytes (drop size bytes)
value_stands Says a v size bytes w h s says =
    record {
      value = v;
      fronts = record { text = take size bytes; parts = sym (take-append-drop size bytes); holds = s };
      shallow = omega (arith, value_deep v kinds.Struct (take size bytes) s, length-take size bytes, w, h);
      says = says;
    }

pub schema_stands : (n : ℕ) (r : List ℕ × ℕ) (nodes : List Element) (a l m rest : List ℕ) → 1 ≤ n → FrontsBehind 25 (λ t. IsListHead t 12 n) a l → FrontsStruct SpellsRootAs 100 r l m → FrontsValues SpellsNode 12 100 (n - 1) nodes m rest → FrontsSchema (r.0, r.1, nodes) a rest
schema_stands n r nodes a l m rest some h f g =
    let many : n ≡ suc (count g.values) = omega (arith, some, g.many) in
    let b = h.fronts in
    let elements = f.fronts.text ++ g.fronts.text in
    let parts : l ≡ elements ++ rest = f.fronts.parts ∙ ap (λ (t : List ℕ). f.fronts.text ++ t) g.fronts.parts ∙ sym (append_assoc f.fronts.text g.fronts.text rest) in
    record {
      values = value f.value g.values;
      fronts = record {
        middle = h.middle;
        parts = h.parts;
        fronts = record {
          text = b.text ++ elements;
          parts = b.parts ∙ ap (λ (t : List ℕ). b.text ++ t) parts ∙ sym (append_assoc b.text elements rest);
          holds = (refl, b.text, elements, subst (λ (k : ℕ). IsListHead b.text 12 k) many b.holds, (f.fronts.text, g.fronts.text, (kinds.Struct, refl, f.fronts.holds), g.fronts.holds, refl), refl);
        };
      };
      shallow = omega (arith, f.shallow, g.shallow);
      says = record { first = f.value; others = g.values; parts = refl; root = f.says; are = g.are };
    }

-- ---- the footer

pub groups_stand : (n : ℕ) (gs : List GroupMeta) (o : Option (List ℕ)) (a l t rest : List ℕ) → FrontsGroupsHead n a l → FrontsValues SpellsGroup 12 6 n gs l t → Fronts (AreFields (created_field o) (pos 4)) t rest → FrontsGroups gs a rest
groups_stand n gs o a l t rest h g r =
    let rows = h.rows in
    let b = h.middle in
    let four = list_first (pos 3) (pos 4) 25 12 n g.values (created_field o) b l t rest (head (pos 3) (pos 4) 25 kinds.List refl (λ e. omega (arith, e)) refl refl) h.head g.many g.fronts r in
    record {
      rows = rows;
      values = g.values;
      creator = o;
      fronts = long_first (pos 2) (pos 3) 22 rows (field (pos 4) (list 12 g.values) (created_field o)) a b rest (head (pos 2) (pos 3) 22 kinds.I64 refl (λ e. omega (arith, e)) refl refl) h.has_rows four;
      shallow = g.shallow;
      are = g.are;
    }

footer_fields : ℤ → Values → ℤ → Values → Option (List ℕ) → Fields
footer_fields version schema rows groups o = field (pos 1) (int32 version) (field (pos 2) (list 12 schema) (field (pos 3) (int64 rows) (field (pos 4) (list 12 groups) (created_field o))))

footer_has : (version : ℤ) (schema : Values) (rows : ℤ) (groups : Values) (o : Option (List ℕ)) (f : FlatFooter) → f.keys ≡ [] → SpellsElements schema f.name f.children f.nodes → Each SpellsGroup groups f.groups → HasFlatFooter (footer_fields version schema rows groups o) f
unfolding footer_fields
footer_has version schema rows groups None f k s g = record { version = (Some version, refl); kind = 12; elements = schema; has_elements = refl; schema = s; num_rows = (Some rows, refl); group_kind = 12; groups = groups; has_groups = refl; are = g; keys = k; plain = refl }
footer_has version schema rows groups (Some c) f k s g = record { version = (Some version, refl); kind = 12; elements = schema; has_elements = refl; schema = s; num_rows = (Some rows, refl); group_kind = 12; groups = groups; has_groups = refl; are = g; keys = k; plain = refl }

created_depth : (o : Option (List ℕ)) → fields_depth (created_field o) ≤ 1
created_depth None = omega arith
created_depth (Some s) = omega arith

pub footer_stands : (version : ℤ) (name : List ℕ) (children : ℕ) (nodes : List Element) (gs : List GroupMeta) (a b c rest : List ℕ) → FrontsBehind 21 (IsShort version) a b → FrontsSchema (name, children, nodes) b c → FrontsGroups gs c rest → Begins SpellsFlatRecord a (record { name = name; children = children; nodes = nodes; groups = gs; keys = [] })
unfolding footer_fields
footer_stands version name children nodes gs a b c rest f s g =
    let behind = field (pos 3) (int64 g.rows) (field (pos 4) (list 12 g.values) (created_field g.creator)) in
    let two = field_first (pos 1) (pos 2) 25 kinds.List (list 12 s.values) behind b c rest (head (pos 1) (pos 2) 25 kinds.List refl (λ e. omega (arith, e)) refl refl) s.fronts g.fronts in
    let all = short_first 0 version (field (pos 2) (list 12 s.values) behind) a b rest (omega arith) f two in
    record {
      text = all.text;
      rest = rest;
      parts = all.parts;
      spells = (struct (footer_fields version s.values g.rows g.values g.creator), (refl, all.holds), omega (arith, s.shallow, g.shallow, created_depth g.creator), footer_has version s.values g.rows g.values g.creator (record { name = name; children = children; nodes = nodes; groups = gs; keys = [] }) refl s.says g.are);
    }
