-- A file that was written is refused for sizes alone.
use Rattle.std.proofs.Common.{◌≡◌, ◌≢◌, ◌<◌, ◌≤◌, ℕ, false, All, List, [], ◌∷◌, Some, refl, sym, ap, subst, ◌∙◌, inl, inr}
use Rattle.shredding.specs.Shape.{HasNoEmptyStruct, HaveNoEmptyStruct, struct}
use Rattle.shredding.specs.Slot.{Slots}
use Rattle.columns_base.specs.declared.error.Error.{Error}
use Rattle.columns_base.specs.declared.error.Error.TheVariants.{ReadFault, WriteFault, InputLimit, OutOfSpec, NotYetImplemented, InvalidArgumentError, Overflow, Memory}
use Rattle.columns_base.specs.declared.error.Limit.TheVariants.{Bytes, Pairs}
use Rattle.columns_base.specs.declared.error.S.{S as Damage}
use Rattle.columns_base.specs.declared.error.N.{N as Missing}
use Rattle.columns_base.specs.declared.error.S.TheVariants as S
use Rattle.columns_base.specs.declared.error.N.TheVariants as N
use Rattle.columns_base.specs.declared.error.A.TheVariants as A
use Rattle.columns_base.specs.declared.error.V.TheVariants as V
use Rattle.columns_core.specs.Shapes.{shapes_of}
use Rattle.columns_core.specs.Tree.{FieldTrees, more_fields, no_fields}
use Rattle.columns_core.specs.View.{SchemaTree, fields_of}
use Rattle.pq_files.proofs.CarriedOnce.{frame_same, record_same}
use Rattle.pq_files.specs.Reasons.{AnyOf, N1, N2, N3, N7, S1, S2}
use Rattle.pq_metadata.specs.Footer.{Footer, Key}
use Rattle.pq_tree.specs.Tree.{Schema, columns_of, schema_nesting}
use Rattle.pq_tree.specs.declared.version.Version.{Version}
use Rattle.schema_from_tree.specs.FromTree.{arrow_fields}
use Rattle.schema_key.specs.Inferred.{inferred}
use Rattle.schema_key.specs.Key.{schema_entry}
use Rattle.schema_map.specs.Laws.{FittingFieldsAgree, RowsDecide}
use Rattle.schema_to_tree.specs.Table.{schema_of}
use Rattle.pq_headline.proofs.Plain.{fields_keys}
use Rattle.pq_headline.proofs.Settling.{filled_fields}
use Rattle.pq_headline.proofs.Ways.{schema_ways}
use Rattle.pq_headline.specs.Laws.{PassedIsNotRefused}
use Rattle.pq_headline.specs.Opened.{GroupIsPlaced}
use Rattle.pq_headline.specs.Output.{HasWideDecimal, Style}
use Rattle.pq_headline.specs.Rewrites.{Asked, Codec, HasFooterAt, InfersSchema, all_pieces}
use Rattle.pq_headline.specs.Stages.{A7At, At5, At6, At7, At8, Passes3, Passes7, Refuses, RefusesSchema6, SomeFieldIs, V3At, pairs_claimed}
use Rattle.unique_rows.proofs.Fields.{ForSize, SomePasses}
use Rattle.unique_rows.proofs.Found.{FileIsFound, file_found}
use Rattle.unique_rows.proofs.Groups.{AreGroupsOf, groups_are, groups_claim, groups_placed, groups_refused, no_entries}
use Rattle.unique_rows.proofs.Offsets.{pass_offsets}
use Rattle.unique_rows.proofs.Outs.{piece_rows}
use Rattle.unique_rows.proofs.Rewritten.{told}
use Rattle.unique_rows.proofs.Settled.{settled_fits}
use Rattle.unique_rows.proofs.TooLarge.{any_rows, rows_in_pieces, too_large}
use Rattle.unique_rows.proofs.Unique.{rows_are_unique}
use Rattle.unique_rows.specs.Held.{HasWays}
use Rattle.unique_rows.specs.Rewritten.{IsFileFor, IsTold, all_cut}
use Rattle.unique_rows.specs.Valid.{AreTooLarge, FilesAreRefusedForSizeAlone, IsForSize, IsSettled, pairs_in_rows}

-- ---- one footer

record SameFooter (p q : ℕ) (f g : Footer) : Type 0 where
  pub places : p ≡ q
  pub footers : f ≡ g

same_footer : (bytes : List ℕ) (p q : ℕ) (f g : Footer) → HasFooterAt bytes p f → HasFooterAt bytes q g → SameFooter p q f g
same_footer bytes p q f g a b =
    let frame = frame_same bytes p q a.footer b.footer a.framed b.framed in
    record { places = frame.places; footers = record_same a.footer b.footer f g frame.footers a.said b.said }

-- ---- the fields

filled : (fs : FieldTrees) → fs ≢ no_fields → HaveNoEmptyStruct (shapes_of fs) → HasNoEmptyStruct (struct false (shapes_of fs))
filled no_fields n h = n refl
filled (more_fields f fs) n h = h

has_ways : (fs : FieldTrees) → IsSettled fs → HasWays fs
has_ways fs s = record { ways_are = schema_ways fs s.served; structs = filled fs s.some (filled_fields fs s.written.structs s.served) }

-- ---- the file

-- what is known of the file
record IsKnown (style : Style) (version : Version) (codec : Codec) (asked : Asked) (s : SchemaTree) (rowss : List (List Slots)) (bytes : List ℕ) : Type 0 where
  pub file : IsFileFor style version codec.bytes_of s rowss bytes
  pub settled : IsSettled s.fields
  pub told : IsTold codec asked s
  pub place : ℕ
  pub footer : Footer
  pub has_footer : HasFooterAt bytes place footer
  pub schema : footer.schema ≡ schema_of s.fields
  pub keys : footer.keys ≡ schema_entry (codec.bytes_of s) ∷ []
  pub groups : AreGroupsOf bytes place s.fields rowss footer.groups

known : (style : Style) (version : Version) (codec : Codec) (asked : Asked) (s : SchemaTree) (rowss : List (List Slots)) (bytes : List ℕ) → IsSettled s.fields → IsTold codec asked s → IsFileFor style version codec.bytes_of s rowss bytes → IsKnown style version codec asked s rowss bytes
known style version codec asked s rowss bytes settled t i =
    let found : FileIsFound bytes (schema_of s.fields) (schema_entry (codec.bytes_of s) ∷ []) i.outs = file_found bytes (schema_of s.fields) (schema_entry (codec.bytes_of s) ∷ []) version i.outs (no_entries style s.fields rowss i.outs i.are) i.packed.written in
    record {
      file = i;
      settled = settled;
      told = t;
      place = found.place;
      footer = record { schema = schema_of s.fields; groups = found.metas; keys = schema_entry (codec.bytes_of s) ∷ [] };
      has_footer = found.has_footer;
      schema = refl;
      keys = refl;
      groups = groups_are style bytes found.place s.fields rowss found.metas i.outs (fields_keys false 0 s.fields settled.served) i.are found.groups;
    }

module _ (decide : RowsDecide) (agree : FittingFieldsAgree) (passed : PassedIsNotRefused) (style : Style) (version : Version) (codec : Codec) (asked : Asked) (s : SchemaTree) (rowss : List (List Slots)) (bytes : List ℕ) (k : IsKnown style version codec asked s rowss bytes) where
  same : (p : ℕ) (f : Footer) → HasFooterAt bytes p f → SameFooter p k.place f k.footer
  same p f h = same_footer bytes p k.place f k.footer h k.has_footer

  -- ---- the frame, the footer and places

  passes3 : Passes3 bytes k.place k.footer
  passes3 = record { footer = k.has_footer; shallow = subst (λ (t : Schema). schema_nesting t ≤ 128) (sym k.schema) k.settled.written.tree_nesting }

  not_third : (¬ S1 bytes) × (¬ N2 bytes) × (¬ N7 bytes)
  unfolding passes3
  not_third = passed.third bytes k.place k.footer passes3

  not_fifth : (¬ S2 k.place k.footer) × (¬ N1 k.footer) × (¬ N3 k.footer)
  not_fifth = passed.fifth k.place k.footer (subst (λ (t : Schema). All (GroupIsPlaced k.place (columns_of t)) k.footer.groups) (sym k.schema) (groups_placed bytes k.place s.fields rowss k.footer.groups k.groups))

  no_s2 : (p : ℕ) (f : Footer) → HasFooterAt bytes p f → S2 p f → ⊥
  unfolding not_fifth
  no_s2 p f h x = let e = same p f h in not_fifth.0 (subst (λ (q : ℕ). S2 q k.footer) e.places (subst (λ (g : Footer). S2 p g) e.footers x))

  no_n1 : (p : ℕ) (f : Footer) → HasFooterAt bytes p f → N1 f → ⊥
  no_n1 p f h x = let e = same p f h in not_fifth.1 (subst N1 e.footers x)

  no_n3 : (p : ℕ) (f : Footer) → HasFooterAt bytes p f → N3 f → ⊥
  no_n3 p f h x = let e = same p f h in not_fifth.2 (subst N3 e.footers x)

  pairs : (p : ℕ) (f : Footer) → HasFooterAt bytes p f → asked.pair_limit < pairs_claimed f → asked.pair_limit < pairs_in_rows s.fields rowss
  pairs p f h x = subst (λ (n : ℕ). asked.pair_limit < n) (ap pairs_claimed (same p f h).footers ∙ groups_claim bytes k.place s.fields rowss k.footer.groups k.groups) x

  -- ---- the schema

  infers : InfersSchema codec asked.rule k.footer s
  infers = subst (λ (ks : List Key). inferred codec.reads asked.rule ks (fields_of (arrow_fields k.footer.schema.fields)) ≡ Some s) (sym k.keys) (k.told (fields_of (arrow_fields k.footer.schema.fields)))

  no_sixth : (p : ℕ) (f : Footer) (e : Error) → HasFooterAt bytes p f → RefusesSchema6 codec asked.rule f e → ⊥
  no_sixth p f e h x = passed.sixth codec asked.rule k.footer s e infers (settled_fits decide agree s.fields k.footer k.schema k.settled) (subst (λ (g : Footer). RefusesSchema6 codec asked.rule g e) (same p f h).footers x)

  same_schema : (p : ℕ) (f : Footer) (u : SchemaTree) → HasFooterAt bytes p f → InfersSchema codec asked.rule f u → u ≡ s
  same_schema p f u h x = told u s _ (subst (λ (g : Footer). InfersSchema codec asked.rule g u) (same p f h).footers x) infers

  -- ---- fields and rows

  seventh : (e : Error) → At7 codec asked e bytes → ForSize e (AnyOf (λ rows. SomePasses asked.chunk_size rows 0 s.fields) rowss)
  seventh e h =
      let p = h.0 in
      let f = h.1 in
      let at = h.3.fifth.fourth.third.footer in
      let one = same p f at in
      let schema : h.2 ≡ s = same_schema p f h.2 at h.3.infers in
      let here : AnyOf (SomeFieldIs bytes p asked s.fields (columns_of f.schema) e) f.groups = subst (λ (u : SchemaTree). AnyOf (SomeFieldIs bytes p asked u.fields (columns_of f.schema) e) f.groups) schema h.4 in
      let own : AnyOf (SomeFieldIs bytes p asked s.fields (columns_of k.footer.schema) e) k.footer.groups = subst (λ (g : Footer). AnyOf (SomeFieldIs bytes p asked s.fields (columns_of g.schema) e) g.groups) one.footers here in
      let there : AnyOf (SomeFieldIs bytes k.place asked s.fields (columns_of k.footer.schema) e) k.footer.groups = subst (λ (q : ℕ). AnyOf (SomeFieldIs bytes q asked s.fields (columns_of k.footer.schema) e) k.footer.groups) one.places own in
      groups_refused bytes k.place asked s.fields rowss k.footer.groups e k.groups (subst (λ (t : Schema). AnyOf (SomeFieldIs bytes k.place asked s.fields (columns_of t) e) k.footer.groups) k.schema there)

  -- ---- the output

  -- the rows of the pieces are those of the file, cut
  pieces_are : (p : ℕ) (f : Footer) (x : Passes7 codec asked bytes p f s) → rows_in_pieces (all_pieces asked.chunk_size x.groups x.rows) ≡ all_cut asked rowss
  pieces_are p f x =
      let i = k.file in
      let held = rows_are_unique style s.fields bytes (schema_entry (codec.bytes_of s) ∷ []) version i.outs rowss p f x.groups x.rows (has_ways s.fields k.settled) i.packed i.are x.sixth.fifth.fourth.third.footer x.hold in
      piece_rows _ asked.chunk_size f.groups x.groups x.rows x.hold ∙ ap (all_cut asked) held.rows_are

  wide : At8 codec asked A7At bytes → AnyOf (HasWideDecimal s.fields) (all_cut asked rowss)
  wide h =
      let e : h.2 ≡ s = same_schema h.0 h.1 h.2 h.3.sixth.fifth.fourth.third.footer h.3.sixth.infers in
      subst (λ (u : SchemaTree). (x : Passes7 codec asked bytes h.0 h.1 u) → A7At h.1 u (all_pieces asked.chunk_size x.groups x.rows) → AnyOf (HasWideDecimal s.fields) (all_cut asked rowss)) (sym e)
      (λ x r. subst (AnyOf (HasWideDecimal s.fields)) (pieces_are h.0 h.1 x) (any_rows (λ p. HasWideDecimal s.fields p.rows) (HasWideDecimal s.fields) (λ p y. y) (all_pieces asked.chunk_size x.groups x.rows) r))
      h.3 h.4

  large : At8 codec asked (V3At codec asked) bytes → AreTooLarge codec asked s (all_cut asked rowss)
  large h =
      let at = h.3.sixth.fifth.fourth.third.footer in
      let e : h.2 ≡ s = same_schema h.0 h.1 h.2 at h.3.sixth.infers in
      let keys : h.1.keys ≡ schema_entry (codec.bytes_of s) ∷ [] = ap (λ (g : Footer). g.keys) (same h.0 h.1 at).footers ∙ k.keys in
      subst (λ (u : SchemaTree). (x : Passes7 codec asked bytes h.0 h.1 u) → V3At codec asked h.1 u (all_pieces asked.chunk_size x.groups x.rows) → AreTooLarge codec asked s (all_cut asked rowss)) (sym e)
      (λ x r. subst (AreTooLarge codec asked s) (pieces_are h.0 h.1 x) (too_large codec asked h.1 s (all_pieces asked.chunk_size x.groups x.rows) (fields_keys false 0 s.fields k.settled.served) keys r))
      h.3 h.4

  -- ---- all reasons

  not_s : (x : Damage) (A : Type 0) → ForSize (OutOfSpec x) A → ⊥
  not_s x A (inl m) = cc m
  not_s x A (inr h) = cc h.0

  not_n : (x : Missing) (A : Type 0) → ForSize (NotYetImplemented x) A → ⊥
  not_n x A (inl m) = cc m
  not_n x A (inr h) = cc h.0

  not_v2 : (A : Type 0) → ForSize (Overflow V.V2) A → ⊥
  not_v2 A (inl m) = cc m
  not_v2 A (inr h) = cc h.0

  only_v1 : (A : Type 0) → ForSize (Overflow V.V1) A → A
  only_v1 A (inl m) = absurd (cc m)
  only_v1 A (inr h) = h.1

  footer5 : (R : ℕ → Footer → Type 0) (h : At5 asked R bytes) → HasFooterAt bytes h.0 h.1
  footer5 R h = h.2.third.footer

  footer6 : (e : Error) (h : At6 codec asked e bytes) → ⊥
  footer6 e h = no_sixth h.0 h.1 e h.2.fourth.third.footer h.3

  for_size : asked.chunk_size ≢ Some 0 → (e : Error) → Refuses codec asked bytes e → IsForSize codec asked s rowss e
  for_size some ReadFault h = h
  for_size some WriteFault h = h
  for_size some (InputLimit Bytes) h = h
  for_size some (InputLimit Pairs) h = pairs h.0 h.1 h.2.footer h.3
  for_size some (OutOfSpec S.S1) h = not_third.0 h
  for_size some (OutOfSpec S.S2) h = no_s2 h.0 h.1 h.2.third.footer h.3
  for_size some (OutOfSpec S.S8) h = footer6 (OutOfSpec S.S8) h
  for_size some (OutOfSpec x) h = not_s x _ (seventh (OutOfSpec x) h)
  for_size some (NotYetImplemented N.N1) h = no_n1 h.0 h.1 h.2.third.footer h.3
  for_size some (NotYetImplemented N.N2) h = not_third.1 h
  for_size some (NotYetImplemented N.N3) h = no_n3 h.0 h.1 h.2.third.footer h.3
  for_size some (NotYetImplemented N.N5) h = footer6 (NotYetImplemented N.N5) h
  for_size some (NotYetImplemented N.N6) h = footer6 (NotYetImplemented N.N6) h
  for_size some (NotYetImplemented N.N7) (inl h) = not_third.2 h
  for_size some (NotYetImplemented N.N7) (inr h) = footer6 (NotYetImplemented N.N7) h
  for_size some (NotYetImplemented x) h = not_n x _ (seventh (NotYetImplemented x) h)
  for_size some (InvalidArgumentError A.A1) h = h
  for_size some (InvalidArgumentError A.A7) h = wide h
  for_size some (InvalidArgumentError A.A8) h = h
  for_size some (InvalidArgumentError x) h = footer6 (InvalidArgumentError x) h
  for_size some (Overflow V.V1) h = pass_offsets asked.chunk_size s.fields rowss some (only_v1 _ (seventh (Overflow V.V1) h))
  for_size some (Overflow V.V2) h = not_v2 _ (seventh (Overflow V.V2) h)
  for_size some (Overflow V.V3) h = large h
  for_size some Memory h = h

pub refused_for_size : RowsDecide → FittingFieldsAgree → PassedIsNotRefused → FilesAreRefusedForSizeAlone
refused_for_size decide agree passed style version codec asked s rowss bytes e settled some t i h = for_size decide agree passed style version codec asked s rowss bytes (known style version codec asked s rowss bytes settled t i) some e h
