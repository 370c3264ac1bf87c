-- A file of the sample is not refused for a size.
use Rattle.std.proofs.Common.{◌≡◌, ℕ, List, [], ◌∷◌, flat_map, map, Option, Some, None, refl, sym, subst, ap, ◌∙◌, arith}
use Rattle.shredding.specs.Cut.{cut}
use Rattle.shredding.specs.Slot.{Slots}
use Rattle.columns_base.specs.declared.error.Error.TheVariants.{Overflow}
use Rattle.columns_base.specs.declared.error.Error.{Error}
use Rattle.columns_base.specs.declared.error.V.{V}
use Rattle.columns_base.specs.declared.error.V.TheVariants.{V1, V2, V3}
use Rattle.columns_core.specs.View.{SchemaTree, fields_of}
use Rattle.schema_from_tree.specs.FromTree.{arrow_fields}
use Rattle.schema_key.specs.Inferred.{inferred}
use Rattle.pq_headline.specs.FieldReasons.{Refuses as RefusesField}
use Rattle.pq_headline.specs.Lists.{AllZip3}
use Rattle.pq_headline.specs.Output.{Style}
use Rattle.pq_headline.specs.Rewrites.{Asked, Codec, HasFooterAt, InfersSchema, Piece, all_pieces}
use Rattle.pq_headline.specs.Rows.{HoldsRows}
use Rattle.pq_headline.specs.Stages.{A7At, At7, Passes7, Refuses, V3At}
use Rattle.pq_metadata.specs.Footer.{Footer}
use Rattle.pq_tree.specs.Tree.{columns_of}
use Rattle.pq_tree.specs.declared.version.Version.{Version}
use Rattle.sample_rows.specs.Fields.{sample_fields, sample_tree}
use Rattle.sample_sizes.proofs.Bytes.{files_are_small}
use Rattle.sample_sizes.proofs.Claims.{few_pairs_are_claimed, footer_is as written_footer}
use Rattle.sample_sizes.proofs.Opened.{IsNone, no_v1_refusal, no_v2_refusal}
use Rattle.sample_sizes.proofs.Overflows.{not_refused}
use Rattle.sample_sizes.proofs.Past.{no_piece_is_past, no_wide_piece}
use Rattle.sample_sizes.proofs.Samples.{samples_are_groups}
use Rattle.sample_sizes.specs.Laws.{IsAskedFor, SamplesPassNoSize}
use Rattle.sample_sizes.specs.Rows.{AreGroupsOfRows, IsSample, thousands}
use Rattle.schema_codec.specs.Spelling.{plain_bytes}
use Rattle.schema_key.specs.Key.{schema_entry}
use Rattle.schema_to_tree.specs.Table.{schema_of}
use Rattle.unique_rows.proofs.Outs.{piece_rows}
use Rattle.unique_rows.proofs.Unique.{footer_is, rows_are_unique}
use Rattle.unique_rows.specs.Held.{HasWays}
use Rattle.unique_rows.specs.Rewritten.{IsFileFor}

has_ways : HasWays sample_fields
has_ways = record { ways_are = refl; structs = (tt, (tt, (tt, tt))) }

-- the key tells the schema
told : {A : Type 0} (x y : A) (o : Option A) → o ≡ Some x → o ≡ Some y → x ≡ y
told {A = A} x y o a b = ap (some_or x) (sym a ∙ b)
  where
    some_or : A → Option A → A
    some_or d None = d
    some_or d (Some z) = z

-- ---- what is read is the sample, under its own schema
record IsRead (asked : Asked) (f : Footer) (u : SchemaTree) (pieces : List Piece) : Type 0 where
  schema : u ≡ sample_tree
  keys : f.keys ≡ schema_entry (plain_bytes sample_tree) ∷ []
  groups : AreGroupsOfRows (map (λ p. p.rows) pieces)

is_read : (s : Style) (version : Version) (codec : Codec) (asked : Asked) (rowss : List (List Slots)) (input : List ℕ) (place : ℕ) (f : Footer) (u : SchemaTree)
    → IsAskedFor codec asked → IsSample rowss → IsFileFor s version plain_bytes sample_tree rowss input → (p : Passes7 codec asked input place f u) → IsRead asked f u (all_pieces asked.chunk_size p.groups p.rows)
is_read s version codec asked rowss input place f u k sample file p =
    let entry = schema_entry (plain_bytes sample_tree) in
    let at : HasFooterAt input place f = p.sixth.fifth.fourth.third.footer in
    let footer = footer_is u.fields input (schema_of sample_fields) (entry ∷ []) version file.outs place f p.groups p.rows file.packed at p.hold in
    let keys : f.keys ≡ schema_entry (codec.bytes_of sample_tree) ∷ [] = footer.1 ∙ ap (λ bs. schema_entry bs ∷ []) (sym k.bytes_are) in
    let e : u ≡ sample_tree = told u sample_tree _ (subst (λ ks. inferred codec.reads asked.rule ks (fields_of (arrow_fields f.schema.fields)) ≡ Some u) keys p.sixth.infers) (k.told (fields_of (arrow_fields f.schema.fields))) in
    let rows : p.rows ≡ rowss =
    subst (λ (v : SchemaTree). AllZip3 (HoldsRows v.fields input place (columns_of f.schema)) f.groups p.groups p.rows → p.rows ≡ rowss) (sym e) (λ hold.
    (rows_are_unique s sample_fields input (entry ∷ []) version file.outs rowss place f p.groups p.rows has_ways file.packed file.are at hold).rows_are) p.hold in
    let parts : map (λ q. q.rows) (all_pieces asked.chunk_size p.groups p.rows) ≡ thousands rowss =
    piece_rows _ asked.chunk_size f.groups p.groups p.rows p.hold ∙ ap (flat_map (λ r. cut r asked.chunk_size)) rows ∙ ap (λ n. flat_map (λ r. cut r n) rowss) k.pieces in
    record { schema = e; keys = footer.1; groups = subst AreGroupsOfRows (sym parts) (samples_are_groups rowss sample).1 }

-- the key tells its schema
is_sample_tree : (s : Style) (version : Version) (codec : Codec) (asked : Asked) (rowss : List (List Slots)) (input : List ℕ) (place : ℕ) (f : Footer) (u : SchemaTree)
    → IsAskedFor codec asked → IsFileFor s version plain_bytes sample_tree rowss input → HasFooterAt input place f → InfersSchema codec asked.rule f u → u ≡ sample_tree
is_sample_tree s version codec asked rowss input place f u k file at i =
    let own = written_footer input (schema_of sample_fields) (schema_entry (plain_bytes sample_tree) ∷ []) version file.outs place f file.packed.written at in
    let keys : f.keys ≡ schema_entry (codec.bytes_of sample_tree) ∷ [] = ap (λ (x : Footer). x.keys) own ∙ ap (λ bs. schema_entry bs ∷ []) (sym k.bytes_are) in
    told u sample_tree _ (subst (λ ks. inferred codec.reads asked.rule ks (fields_of (arrow_fields f.schema.fields)) ≡ Some u) keys i) (k.told (fields_of (arrow_fields f.schema.fields)))

pub samples_pass_no_size : SamplesPassNoSize
samples_pass_no_size s version codec asked rowss input limit k sample file = record {
  small = files_are_small s version rowss input limit groups.0 file;
  overflow = overflow;
  pairs = λ h. absurd (omega (arith, h.3, k.pairs, groups.0.few, few_pairs_are_claimed s version rowss input h.0 h.1 groups.0 file h.2.footer));
  decimals = λ h.
      let p = h.3 in
      let r = is_read s version codec asked rowss input h.0 h.1 h.2 k sample file p in
      no_decimal h.1 h.2 (all_pieces asked.chunk_size p.groups p.rows) r h.4;
}
  where
    groups : AreGroupsOfRows rowss × AreGroupsOfRows (thousands rowss)
    groups = samples_are_groups rowss sample

    no_size : (f : Footer) (u : SchemaTree) (pieces : List Piece) → IsRead asked f u pieces → V3At codec asked f u pieces → ⊥
    no_size f u pieces r v = no_piece_is_past codec asked f pieces k.bytes_are r.keys r.groups (subst (λ t. V3At codec asked f t pieces) r.schema v)

    no_decimal : (f : Footer) (u : SchemaTree) (pieces : List Piece) → IsRead asked f u pieces → A7At f u pieces → ⊥
    no_decimal f u pieces r v = no_wide_piece f pieces (subst (λ t. A7At f t pieces) r.schema v)

    none_at : (e : Error) → IsNone (λ o. RefusesField o e) → At7 codec asked e input → ⊥
    none_at e none h =
        let at : HasFooterAt input h.0 h.1 = h.3.fifth.fourth.third.footer in
        not_refused e s version asked rowss input h.0 h.1 h.2 none limit groups.0 file at (is_sample_tree s version codec asked rowss input h.0 h.1 h.2 k file at h.3.infers) h.4

    overflow : (v : V) → Refuses codec asked input (Overflow v) → ⊥
    overflow V1 h = none_at (Overflow V1) no_v1_refusal h
    overflow V2 h = none_at (Overflow V2) no_v2_refusal h
    overflow V3 h =
        let p = h.3 in
        let r = is_read s version codec asked rowss input h.0 h.1 h.2 k sample file p in
        no_size h.1 h.2 (all_pieces asked.chunk_size p.groups p.rows) r h.4
