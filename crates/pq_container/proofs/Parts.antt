-- A whole has its parts: where a part of it stands for nothing, the whole does not.
use Rattle.std.proofs.Common.{◌≡◌, ℕ, ◌≤◌, ◌-◌, List, [], ◌∷◌, length, get_or, take, drop, refl, sym, ap, subst, ◌∙◌, arith}
use Rattle.std.proofs.lemmas.List.{take_all, length-drop}
use Rattle.std.specs.Prelude.{Option, Some, None, is_some, false}
use Rattle.columns_base.specs.declared.error.Error.{Error}
use Rattle.pq_thrift.specs.declared.value.Thrift.{Thrift}
use Rattle.pq_thrift.specs.Value.{Value, truth, int8, int16, int32, int64, double, binary, list, set, map as map_value, struct, Values, no_values, value, Fields, view, values_view}
use Rattle.pq_container.specs.declared.chunks.ColumnNumbers.{ColumnNumbers}
use Rattle.pq_metadata.specs.Elements.{RawElement, HasElement, IsNode, IsRoot, SpellsNode, SpellsRoot}
use Rattle.pq_metadata.specs.FlatFooter.{FlatFooter, SpellsElements, SpellsSchema, HasFlatFooter, SpellsFlatFooter}
use Rattle.pq_metadata.specs.Footer.{AreAll, ChunkMeta, GroupMeta, HasColumnMeta, HasChunk, SpellsChunk, HasGroup, SpellsGroup}
use Rattle.pq_metadata.specs.Ids.{get, Each}
use Rattle.pq_metadata.specs.Kinds.{list_in, struct_in, HasList}
use Rattle.pq_container.specs.Raw.{SpellsRootAs}
use Rattle.pq_container.specs.RawChunk.{HasNumbers, HasPlace}
use Rattle.pq_tree.specs.Reads.{HasNone, Refuses}
use Rattle.pq_tree.specs.Tree.{Element}
use Rattle.pq_container.proofs.Eachs.{struct_is}
use Rattle.pq_metadata.proofs.FooterOnce.{raw_same}
use Rattle.pq_metadata.proofs.Injective.{list_same, struct_same}
use Rattle.pq_tree.proofs.Refusals.{refuses_more}

-- ---- lists

pub list_not : {A : Type 0} (con : A → Value) (v : Value) (vs : Values) → Some vs ≡ list_in v → HasNone (Each (λ w x. w ≡ con x) vs) → ¬ AreAll con (Some v)
list_not con (list k ws) vs e n s = n s.0 (subst (λ (z : Values). Each (λ w x. w ≡ con x) z s.0) (let i : ws ≡ vs = cc e in i) s.1)
list_not con (truth b) vs e n s = s
list_not con (int8 z) vs e n s = s
list_not con (int16 z) vs e n s = s
list_not con (int32 z) vs e n s = s
list_not con (int64 z) vs e n s = s
list_not con (double z) vs e n s = s
list_not con (binary z) vs e n s = s
list_not con (set k ws) vs e n s = s
list_not con (map_value k l ps) vs e n s = s
list_not con (struct fs) vs e n s = s

-- ---- nodes

pub node_refused : (reason e : Error) (v : Value) (fs : Fields) (raw : RawElement) → Some fs ≡ struct_in v → HasElement fs raw → Refuses reason (IsNode raw) e → Refuses reason (SpellsNode v) e
node_refused reason e v fs raw is h r =
    let part : (b : Element) → SpellsNode v b → (a : Element) × IsNode raw a = λ b s. (let t = subst (λ (w : Value). SpellsNode w b) (struct_is v fs is) s in (b, subst (λ (x : RawElement). IsNode x b) (raw_same fs t.0 raw t.1 h) t.2)) in
    refuses_more reason e (IsNode raw) (SpellsNode v) part r

pub root_none : (v : Value) (fs : Fields) (raw : RawElement) → Some fs ≡ struct_in v → HasElement fs raw → ((name : List ℕ) → HasNone (IsRoot raw name)) → HasNone (SpellsRootAs v)
root_none v fs raw is h n r s =
    let t = subst (λ (w : Value). SpellsRoot w r.0 r.1) (struct_is v fs is) s in
    n r.0 r.1 (subst (λ (x : RawElement). IsRoot x r.0 r.1) (raw_same fs t.0 raw t.1 h) t.2)

pub none_of : {A : Type 0} (o : Option A) → is_some o ≡ false → o ≡ None
none_of None e = refl
none_of (Some a) e = cc e

-- ---- the schema's elements

first_of : Value → Values → Value
first_of d no_values = d
first_of d (value v vs) = v

rest_of : Values → Values
rest_of no_values = no_values
rest_of (value v vs) = vs

firsts_same : (v w : Value) (vs ws : Values) → value v vs ≡ value w ws → v ≡ w
unfolding first_of
firsts_same v w vs ws e = ap (first_of v) e

rests_same : (v w : Value) (vs ws : Values) → value v vs ≡ value w ws → vs ≡ ws
unfolding rest_of
rests_same v w vs ws e = ap rest_of e

root_part : (xs : List Thrift) (x : Thrift) → 1 ≤ length xs → x ≡ get_or xs 0 x → (s : List ℕ × ℕ × List Element) → SpellsSchema (values_view xs) s → (r : List ℕ × ℕ) × SpellsRootAs (view x) r
root_part [] x h e s q = absurd (omega (arith, h))
root_part (y ∷ xs) x h e s q =
    let same : view x ≡ q.first = ap view e ∙ firsts_same (view y) q.first (values_view xs) q.others q.parts in
    ((s.0, s.1), subst (λ (v : Value). SpellsRoot v s.0 s.1) (sym same) q.root)

pub root_refused : (reason e : Error) (xs : List Thrift) (x : Thrift) → 1 ≤ length xs → x ≡ get_or xs 0 x → Refuses reason (SpellsRootAs (view x)) e → Refuses reason (SpellsSchema (values_view xs)) e
root_refused reason e xs x h is r = refuses_more reason e (SpellsRootAs (view x)) (SpellsSchema (values_view xs)) (root_part xs x h is) r

nodes_part : (xs : List Thrift) → (s : List ℕ × ℕ × List Element) → SpellsSchema (values_view xs) s → (ns : List Element) × Each SpellsNode (values_view (drop 1 xs)) ns
nodes_part [] s q = absurd (let e : no_values ≡ value q.first q.others = q.parts in cc e)
nodes_part (y ∷ xs) s q = (s.2, subst (λ (vs : Values). Each SpellsNode vs s.2) (sym (rests_same (view y) q.first (values_view xs) q.others q.parts)) q.are)

pub nodes_refused : (reason e : Error) (xs : List Thrift) → Refuses reason (Each SpellsNode (values_view (take (length xs - 1) (drop 1 xs)))) e → Refuses reason (SpellsSchema (values_view xs)) e
nodes_refused reason e xs r =
    let all : take (length xs - 1) (drop 1 xs) ≡ drop 1 xs = take_all (length xs - 1) (drop 1 xs) (omega (arith, length-drop 1 xs)) in
    refuses_more reason e (Each SpellsNode (values_view (drop 1 xs))) (SpellsSchema (values_view xs)) (nodes_part xs) (subst (λ (ys : List Thrift). Refuses reason (Each SpellsNode (values_view ys)) e) all r)

-- ---- columns and groups

pub place_none : (v : Value) (fs : Fields) → Some fs ≡ struct_in v → HasNone (HasPlace fs) → HasNone (SpellsChunk v)
place_none v fs is n c s =
    let t : HasChunk fs c = subst (λ (w : Value). SpellsChunk w c) (struct_is v fs is) s in
    n (c.file_path, t.metadata) record { file_path = t.file_path; text = t.text; offset = t.offset; has_metadata = t.has_metadata; plain_keys = t.plain_keys; plain_metadata = t.plain_metadata }

numbers_of : ChunkMeta → ColumnNumbers
numbers_of c =
    record {
      physical_type = c.physical;
      codec = c.codec;
      num_values = c.num_values;
      total_compressed_size = c.size;
      data_page_offset = c.data_page;
      dictionary_page_offset = c.dictionary_page;
    }

pub numbers_none : (v : Value) (fs metadata : Fields) (path : Option (List ℕ)) → Some fs ≡ struct_in v → HasPlace fs (path, metadata) → HasNone (HasNumbers metadata) → HasNone (SpellsChunk v)
unfolding numbers_of
numbers_none v fs metadata path is p n c s =
    let t : HasChunk fs c = subst (λ (w : Value). SpellsChunk w c) (struct_is v fs is) s in
    let m : HasColumnMeta metadata c = subst (λ (w : Fields). HasColumnMeta w c) (struct_same (get 3 fs) t.metadata metadata t.has_metadata p.has_metadata) t.is in
    n (numbers_of c)
    record {
      physical = m.physical;
      encodings = m.encodings;
      path = m.path;
      codec = m.codec;
      num_values = m.num_values;
      uncompressed = m.uncompressed;
      size = m.size;
      data_page = m.data_page;
      dictionary_page = m.dictionary_page;
    }

pub columns_none : (v : Value) (fs : Fields) → Some fs ≡ struct_in v → HasNone (HasList 1 fs) → HasNone (SpellsGroup v)
columns_none v fs is n g s =
    let t : HasGroup fs g = subst (λ (w : Value). SpellsGroup w g) (struct_is v fs is) s in
    n t.columns (t.kind, t.has_columns)

pub columns_refused : (reason e : Error) (v : Value) (fs : Fields) (vs : Values) → Some fs ≡ struct_in v → HasList 1 fs vs → Refuses reason (Each SpellsChunk vs) e → Refuses reason (SpellsGroup v) e
columns_refused reason e v fs vs is h r =
    let part : (g : GroupMeta) → SpellsGroup v g → (cs : List ChunkMeta) × Each SpellsChunk vs cs = λ g s. (let t : HasGroup fs g = subst (λ (w : Value). SpellsGroup w g) (struct_is v fs is) s in (g.chunks, subst (λ (z : Values). Each SpellsChunk z g.chunks) (list_same (get 1 fs) t.kind h.0 t.columns vs t.has_columns h.1) t.are)) in
    refuses_more reason e (Each SpellsChunk vs) (SpellsGroup v) part r

-- ---- the footer

pub footer_elements_none : (v : Value) (fs : Fields) → Some fs ≡ struct_in v → HasNone (HasList 2 fs) → HasNone (SpellsFlatFooter v)
footer_elements_none v fs is n f s =
    let t : HasFlatFooter fs f = subst (λ (w : Value). SpellsFlatFooter w f) (struct_is v fs is) s in
    n t.elements (t.kind, t.has_elements)

pub footer_groups_none : (v : Value) (fs : Fields) → Some fs ≡ struct_in v → HasNone (HasList 4 fs) → HasNone (SpellsFlatFooter v)
footer_groups_none v fs is n f s =
    let t : HasFlatFooter fs f = subst (λ (w : Value). SpellsFlatFooter w f) (struct_is v fs is) s in
    n t.groups (t.group_kind, t.has_groups)

pub schema_refused : (reason e : Error) (v : Value) (fs : Fields) (vs : Values) → Some fs ≡ struct_in v → HasList 2 fs vs → Refuses reason (SpellsSchema vs) e → Refuses reason (SpellsFlatFooter v) e
schema_refused reason e v fs vs is h r =
    let part : (f : FlatFooter) → SpellsFlatFooter v f → (q : List ℕ × ℕ × List Element) × SpellsSchema vs q = λ f s. (let t : HasFlatFooter fs f = subst (λ (w : Value). SpellsFlatFooter w f) (struct_is v fs is) s in ((f.name, f.children, f.nodes), subst (λ (z : Values). SpellsElements z f.name f.children f.nodes) (list_same (get 2 fs) t.kind h.0 t.elements vs t.has_elements h.1) t.schema)) in
    refuses_more reason e (SpellsSchema vs) (SpellsFlatFooter v) part r

pub groups_refused : (reason e : Error) (v : Value) (fs : Fields) (vs : Values) → Some fs ≡ struct_in v → HasList 4 fs vs → Refuses reason (Each SpellsGroup vs) e → Refuses reason (SpellsFlatFooter v) e
groups_refused reason e v fs vs is h r =
    let part : (f : FlatFooter) → SpellsFlatFooter v f → (gs : List GroupMeta) × Each SpellsGroup vs gs = λ f s. (let t : HasFlatFooter fs f = subst (λ (w : Value). SpellsFlatFooter w f) (struct_is v fs is) s in (f.groups, subst (λ (z : Values). Each SpellsGroup z f.groups) (list_same (get 4 fs) t.group_kind h.0 t.groups vs t.has_groups h.1) t.are)) in
    refuses_more reason e (Each SpellsGroup vs) (SpellsFlatFooter v) part r
