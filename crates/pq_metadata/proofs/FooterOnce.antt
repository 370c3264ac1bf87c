-- A footer has one reading.
use Rattle.std.proofs.Common.{◌≡◌, ℕ, zero, suc, ℤ, pos, negsuc, List, [], ◌++◌, Option, Some, None, refl, sym, ap, subst, ◌∙◌, arith}
use Rattle.std.proofs.lemmas.List.{append_assoc}
use Rattle.pq_thrift.specs.Value.{Value, list, struct, Values, no_values, value, Fields}
use Rattle.pq_metadata.specs.Elements.{RawElement, HasElement, IsNatural, IsPhysical, number_of_repetition, converted_of, IsNode, SpellsNode, SpellsRoot}
use Rattle.pq_metadata.specs.Footer.{ChunkStatistics, HasStatistics, SaysStatistics, ChunkMeta, GroupMeta, Key, Footer, SpellsTree, HasColumnMeta, SpellsChunk, SpellsGroup, SpellsKey, HasKeys, SpellsFooter}
use Rattle.pq_metadata.specs.Ids.{get, Each}
use Rattle.pq_tree.specs.Physical.{Physical, boolean, int32 as p_int32, int64 as p_int64, int96, float, double as p_double, byte_array, fixed}
use Rattle.pq_tree.specs.Tree.{Tree, leaf, group, Trees, no_trees, tree, Schema, Element, preorder, preorder_of, count_trees}
use Rattle.pq_tree.specs.Types.{Repetition, required, optional, repeated, Info}
use Rattle.pq_metadata.proofs.Injective.{cons_same, i32_same, i64_same, bytes_same, struct_same, list_same, maybe_i32, maybe_i64, maybe_bytes, maybe_struct, each_same, some_same, pos_same}

-- ---- elements

pub raw_same : (fs : Fields) (x y : RawElement) → HasElement fs x → HasElement fs y → x ≡ y
raw_same fs x y a b =
    let t = maybe_i32 1 fs x.type y.type a.type b.type in
    let tl = maybe_i32 2 fs x.type_length y.type_length a.type_length b.type_length in
    let r = maybe_i32 3 fs x.repetition y.repetition a.repetition b.repetition in
    let n = bytes_same (get 4 fs) x.name y.name a.name b.name in
    let nc = maybe_i32 5 fs x.num_children y.num_children a.num_children b.num_children in
    let c = maybe_i32 6 fs x.converted y.converted a.converted b.converted in
    let s = maybe_i32 7 fs x.scale y.scale a.scale b.scale in
    let p = maybe_i32 8 fs x.precision y.precision a.precision b.precision in
    let f = maybe_i32 9 fs x.field_id y.field_id a.field_id b.field_id in
    let l = maybe_struct 10 fs x.logical y.logical a.logical b.logical in
    λ i. record { type = t i; type_length = tl i; repetition = r i; name = n i; num_children = nc i; converted = c i; scale = s i; precision = p i; field_id = f i; logical = l i }

natural_same : (o : Option ℤ) (m n : ℕ) → IsNatural o m → IsNatural o n → m ≡ n
natural_same None m n a b = a ∙ sym b
natural_same (Some z) m n a b = pos_same m n (sym a ∙ b)

repetition_same : (r q : Repetition) → number_of_repetition r ≡ number_of_repetition q → r ≡ q
repetition_same required required e = refl
repetition_same optional optional e = refl
repetition_same repeated repeated e = refl
repetition_same required optional e = absurd (omega (arith, pos_same 0 1 e))
repetition_same required repeated e = absurd (omega (arith, pos_same 0 2 e))
repetition_same optional required e = absurd (omega (arith, pos_same 1 0 e))
repetition_same optional repeated e = absurd (omega (arith, pos_same 1 2 e))
repetition_same repeated required e = absurd (omega (arith, pos_same 2 0 e))
repetition_same repeated optional e = absurd (omega (arith, pos_same 2 1 e))

-- the type that a number stands for, where a fixed one has this length
abbrev pub physical_from : ℕ → ℕ → Physical
physical_from zero n = boolean
physical_from (suc zero) n = p_int32
physical_from (suc (suc zero)) n = p_int64
physical_from (suc (suc (suc zero))) n = int96
physical_from (suc (suc (suc (suc zero)))) n = float
physical_from (suc (suc (suc (suc (suc zero))))) n = p_double
physical_from (suc (suc (suc (suc (suc (suc zero)))))) n = byte_array
physical_from (suc (suc (suc (suc (suc (suc (suc m))))))) n = fixed n

abbrev pub natural_part : ℤ → ℕ
natural_part (pos n) = n
natural_part (negsuc n) = 0

abbrev pub length_part : Option ℤ → ℕ
length_part None = 0
length_part (Some z) = natural_part z

physical_is : (z : ℤ) (len : Option ℤ) (p : Physical) → IsPhysical (Some z) len (Some p) → p ≡ physical_from (natural_part z) (length_part len)
physical_is z len boolean a = ap (λ y. physical_from (natural_part y) (length_part len)) (sym a)
physical_is z len p_int32 a = ap (λ y. physical_from (natural_part y) (length_part len)) (sym a)
physical_is z len p_int64 a = ap (λ y. physical_from (natural_part y) (length_part len)) (sym a)
physical_is z len int96 a = ap (λ y. physical_from (natural_part y) (length_part len)) (sym a)
physical_is z len float a = ap (λ y. physical_from (natural_part y) (length_part len)) (sym a)
physical_is z len p_double a = ap (λ y. physical_from (natural_part y) (length_part len)) (sym a)
physical_is z len byte_array a = ap (λ y. physical_from (natural_part y) (length_part len)) (sym a)
physical_is z len (fixed n) a = ap (λ y. physical_from 7 (length_part y)) (sym a.2) ∙ ap (λ y. physical_from (natural_part y) (length_part len)) (sym a.0)

physical_same : (o len : Option ℤ) (p q : Option Physical) → IsPhysical o len p → IsPhysical o len q → p ≡ q
physical_same None len p q a b = a ∙ sym b
physical_same (Some z) len None q a b = absurd a
physical_same (Some z) len (Some p) None a b = absurd b
physical_same (Some z) len (Some p) (Some q) a b = ap Some (physical_is z len p a ∙ sym (physical_is z len q b))

info_same : (x y : Info) → x.name ≡ y.name → x.repetition ≡ y.repetition → x.id ≡ y.id → x.converted ≡ y.converted → x.logical ≡ y.logical → x ≡ y
info_same x y n r d c l = λ i. record { name = n i; repetition = r i; id = d i; converted = c i; logical = l i }

node_same : (raw : RawElement) (x y : Element) → IsNode raw x → IsNode raw y → x ≡ y
node_same raw x y a b =
    let p = physical_same raw.type raw.type_length x.physical y.physical a.physical b.physical in
    let c = natural_same raw.num_children x.children y.children a.children b.children in
    let precision = natural_same raw.precision a.precision b.precision a.has_precision b.has_precision in
    let scale = natural_same raw.scale a.scale b.scale a.has_scale b.has_scale in
    let converted = a.converted ∙ ap (λ (n : ℕ). converted_of raw.converted n a.scale) precision ∙ ap (λ (n : ℕ). converted_of raw.converted b.precision n) scale ∙ sym b.converted in
    let repetition = repetition_same x.info.repetition y.info.repetition (some_same (number_of_repetition x.info.repetition) (number_of_repetition y.info.repetition) (sym a.repetition ∙ b.repetition)) in
    let logical = some_same x.info.logical y.info.logical (sym a.logical ∙ b.logical) in
    let info = info_same x.info y.info (sym a.name ∙ b.name) repetition (sym a.id ∙ b.id) converted logical in
    λ i. record { physical = p i; children = c i; info = info i }

pub spelled_node_same : (v : Value) (x y : Element) → SpellsNode v x → SpellsNode v y → x ≡ y
spelled_node_same (struct fs) x y a b = node_same b.0 x y (subst (λ (r : RawElement). IsNode r x) (raw_same fs a.0 b.0 a.1 b.1) a.2) b.2
spelled_node_same _ x y a b = absurd a

-- ---- the tree

pub record SameTrees (ts us : Trees) (x y : List Element) : Type 0 where
  pub trees : ts ≡ us
  pub rests : x ≡ y

pub record SameTree (t u : Tree) (x y : List Element) : Type 0 where
  pub are : t ≡ u
  pub rests : x ≡ y

not_none : (p : Physical) → Some p ≡ None → ⊥
not_none p e = cc e

mutual
  tree_same : (t u : Tree) (x y : List Element) → preorder t ++ x ≡ preorder u ++ y → SameTree t u x y
  tree_same (leaf i p) (leaf j q) x y e =
      let s = cons_same _ _ x y e in
      let pe = some_same p q (ap (λ z. z.physical) s.0) in
      let ie = ap (λ z. z.info) s.0 in
      record { are = λ k. leaf (ie k) (pe k); rests = s.1 }
  tree_same (group i ts) (group j us) x y e =
      let s = cons_same _ _ (preorder_of ts ++ x) (preorder_of us ++ y) e in
      let ie = ap (λ z. z.info) s.0 in
      let inner = trees_same ts us x y (ap (λ z. z.children) s.0) s.1 in
      record { are = λ k. group (ie k) (inner.trees k); rests = inner.rests }
  tree_same (leaf i p) (group j us) x y e = absurd (not_none p (ap (λ z. z.physical) (cons_same _ _ x (preorder_of us ++ y) e).0))
  tree_same (group i ts) (leaf j q) x y e = absurd (not_none q (sym (ap (λ z. z.physical) (cons_same _ _ (preorder_of ts ++ x) y e).0)))

  trees_same : (ts us : Trees) (x y : List Element) → count_trees ts ≡ count_trees us → preorder_of ts ++ x ≡ preorder_of us ++ y → SameTrees ts us x y
  trees_same no_trees no_trees x y n e = record { trees = refl; rests = e }
  trees_same no_trees (tree u us) x y n e = absurd (omega (arith, n))
  trees_same (tree t ts) no_trees x y n e = absurd (omega (arith, n))
  trees_same (tree t ts) (tree u us) x y n e =
      let whole : preorder t ++ (preorder_of ts ++ x) ≡ preorder u ++ (preorder_of us ++ y) = sym (append_assoc (preorder t) (preorder_of ts) x) ∙ e ∙ append_assoc (preorder u) (preorder_of us) y in
      let first = tree_same t u (preorder_of ts ++ x) (preorder_of us ++ y) whole in
      let others = trees_same ts us x y (omega (arith, n)) first.rests in
      record { trees = λ k. tree (first.are k) (others.trees k); rests = others.rests }

pub root_same : (v : Value) (n m : List ℕ) (c d : ℕ) → SpellsRoot v n c → SpellsRoot v m d → (n ≡ m) × (c ≡ d)
root_same (struct fs) n m c d a b =
    let r = raw_same fs a.0 b.0 a.1 b.1 in (
      sym a.2.is_named ∙ ap (λ z. z.name) r ∙ b.2.is_named,
      natural_same b.0.num_children c d (subst (λ (x : RawElement). IsNatural x.num_children c) r a.2.counts) b.2.counts,
    )
root_same _ n m c d a b = absurd a

first_of_values : Value → Values → Value
first_of_values d no_values = d
first_of_values d (value v vs) = v

others_of : Values → Values
others_of no_values = no_values
others_of (value v vs) = vs

pub values_parts : (v w : Value) (vs ws : Values) → value v vs ≡ value w ws → (v ≡ w) × (vs ≡ ws)
unfolding first_of_values others_of
values_parts v w vs ws e = (ap (λ z. first_of_values v z) e, ap (λ z. others_of z) e)

schema_same : (vs : Values) (s t : Schema) → SpellsTree vs s → SpellsTree vs t → s ≡ t
schema_same vs s t a b =
    let parts = values_parts a.first b.first a.others b.others (sym a.parts ∙ b.parts) in
    let root = root_same b.first s.name t.name (count_trees s.fields) (count_trees t.fields) (subst (λ (v : Value). SpellsRoot v s.name (count_trees s.fields)) parts.0 a.root) b.root in
    let nodes : preorder_of s.fields ≡ preorder_of t.fields = each_same SpellsNode spelled_node_same b.others (preorder_of s.fields) (preorder_of t.fields) (subst (λ (z : Values). Each SpellsNode z (preorder_of s.fields)) parts.1 a.nodes) b.nodes in
    let whole : preorder_of s.fields ++ [] ≡ preorder_of t.fields ++ [] = ap (λ xs. xs ++ []) nodes in
    let trees = trees_same s.fields t.fields [] [] root.1 whole in
    λ i. record { name = root.0 i; fields = trees.trees i }

-- ---- chunks, groups and keys

statistics_same : (fs : Fields) (s t : ChunkStatistics) → HasStatistics fs s → HasStatistics fs t → s ≡ t
statistics_same fs s t a b =
    let n = maybe_i64 3 fs s.null_count t.null_count a.null_count b.null_count in
    let g = maybe_bytes 5 fs s.max_value t.max_value a.max_value b.max_value in
    let l = maybe_bytes 6 fs s.min_value t.min_value a.min_value b.min_value in
    λ i. record { null_count = n i; max_value = g i; min_value = l i }

said_same : (v : Option Value) (s t : Option ChunkStatistics) → SaysStatistics v s → SaysStatistics v t → s ≡ t
said_same None s t a b = a ∙ sym b
said_same (Some (struct fs)) (Some s) (Some t) a b = ap Some (statistics_same fs s t a b)
said_same (Some (struct fs)) (Some s) None a b = absurd b
said_same (Some (struct fs)) None t a b = absurd a
said_same (Some _) s t a b = absurd a

column_meta_same : (fs : Fields) (c d : ChunkMeta) → c.file_path ≡ d.file_path → HasColumnMeta fs c → HasColumnMeta fs d → c ≡ d
column_meta_same fs c d f a b =
    let p = i32_same (get 1 fs) c.physical d.physical a.physical b.physical in
    let k = i32_same (get 4 fs) c.codec d.codec a.codec b.codec in
    let n = i64_same (get 5 fs) c.num_values d.num_values a.num_values b.num_values in
    let s = i64_same (get 7 fs) c.size d.size a.size b.size in
    let o = i64_same (get 9 fs) c.data_page d.data_page a.data_page b.data_page in
    let q = maybe_i64 11 fs c.dictionary_page d.dictionary_page a.dictionary_page b.dictionary_page in
    let st = said_same (get 12 fs) c.statistics d.statistics a.statistics b.statistics in
    λ i. record { file_path = f i; physical = p i; codec = k i; num_values = n i; size = s i; data_page = o i; dictionary_page = q i; statistics = st i }

chunk_meta_same : (v : Value) (c d : ChunkMeta) → SpellsChunk v c → SpellsChunk v d → c ≡ d
chunk_meta_same (struct fs) c d a b =
    let f = maybe_bytes 1 fs c.file_path d.file_path a.file_path b.file_path in
    let m = struct_same (get 3 fs) a.metadata b.metadata a.has_metadata b.has_metadata in
    column_meta_same b.metadata c d f (subst (λ (x : Fields). HasColumnMeta x c) m a.is) b.is
chunk_meta_same _ c d a b = absurd a

pub group_meta_same : (v : Value) (g h : GroupMeta) → SpellsGroup v g → SpellsGroup v h → g ≡ h
group_meta_same (struct fs) g h a b =
    let vs = list_same (get 1 fs) a.kind b.kind a.columns b.columns a.has_columns b.has_columns in
    let cs = each_same SpellsChunk chunk_meta_same b.columns g.chunks h.chunks (subst (λ (z : Values). Each SpellsChunk z g.chunks) vs a.are) b.are in
    let r = i64_same (get 3 fs) g.num_rows h.num_rows a.num_rows b.num_rows in
    λ i. record { chunks = cs i; num_rows = r i }
group_meta_same _ g h a b = absurd a

key_same : (v : Value) (k j : Key) → SpellsKey v k → SpellsKey v j → k ≡ j
key_same (struct fs) k j a b =
    let n = bytes_same (get 1 fs) k.key j.key a.key b.key in
    let v = maybe_bytes 2 fs k.value j.value a.value b.value in
    λ i. record { key = n i; «value» = v i }
key_same _ k j a b = absurd a

pub keys_same : (o : Option Value) (ks js : List Key) → HasKeys o ks → HasKeys o js → ks ≡ js
keys_same None ks js a b = a ∙ sym b
keys_same (Some (list kind vs)) ks js a b = each_same SpellsKey key_same vs ks js a b
keys_same (Some _) ks js a b = absurd a

pub footer_same : (v : Value) (f g : Footer) → SpellsFooter v f → SpellsFooter v g → f ≡ g
footer_same (struct fs) f g a b =
    let es = list_same (get 2 fs) a.kind b.kind a.elements b.elements a.has_elements b.has_elements in
    let t = schema_same b.elements f.schema g.schema (subst (λ (z : Values). SpellsTree z f.schema) es a.tree) b.tree in
    let vs = list_same (get 4 fs) a.group_kind b.group_kind a.groups b.groups a.has_groups b.has_groups in
    let gs = each_same SpellsGroup group_meta_same b.groups f.groups g.groups (subst (λ (z : Values). Each SpellsGroup z f.groups) vs a.are) b.are in
    let ks = keys_same (get 5 fs) f.keys g.keys a.keys b.keys in
    λ i. record { schema = t i; groups = gs i; keys = ks i }
footer_same _ f g a b = absurd a
