-- Near misses of the first file carry nothing.
use Rattle.std.proofs.Common.{◌≡◌, ℕ, pos, List, [], ◌∷◌, ◌++◌, length, Option, Some, None, Ok, refl, sym, ap, subst, ◌∙◌, arith, inl, inr, ◌+◌, ◌<◌, ◌≤◌, take, drop, All, map}
use Rattle.std.specs.List.{AllZip}
use Rattle.std.proofs.lemmas.List.{append-nil, take_at}
use Rattle.pq_numbers.specs.Texts.{Begins}
use Rattle.pq_numbers.specs.Varint.{varint_up_to}
use Rattle.pq_thrift.specs.Grammar.{Spells}
use Rattle.pq_thrift.specs.Numbers.{signed_at, binary_at}
use Rattle.pq_thrift.specs.Reading.{list_head_at, field_head_at, values_at, fields_at, list_with, struct_with, struct_at, value_at}
use Rattle.pq_thrift.specs.Spelling.{spell}
use Rattle.pq_thrift.specs.Written.{IsWritten}
use Rattle.pq_thrift.specs.Value.{Value as Thrift, int32, int64, binary, list, struct, Fields, no_fields, field}
use Rattle.pq_thrift.proofs.OneReading.{same_reading}
use Rattle.shredding.specs.Shred.{shred}
use Rattle.shredding.specs.Slot.{Value}
use Rattle.pq_tree.specs.declared.version.Version.{Version}
use Rattle.pq_metadata.specs.Footer.{GroupMeta, Key}
use Rattle.pq_metadata.specs.Frame.{magic, IsFramed, footer_place, footer_of}
use Rattle.pq_metadata.specs.Header.{Header, data_page, data_page_2, dictionary_page}
use Rattle.pq_metadata.specs.Ids.{get}
use Rattle.pq_tree.specs.Tree.{Schema, columns_of}
use Rattle.pq_metadata.proofs.Framed.{has_frame, is_framed}
use Rattle.pq_metadata.proofs.Injective.{pos_same}
use Rattle.pq_metadata.specs.Metadata.{IsFooterText}
use Rattle.pq_files.specs.Carried.{IsChunkOf, AreChunks, IsGroup, GroupPages, Group, Carried, IsNotCarried}
use Rattle.pq_files.specs.Chunk.{RawPage, IsPageText, IsData, IsDictionary, Pages, here, page, HasPages, Page, Chunk, IsPageIn, HasEntries, IsChunk, triples_of, count_in}
use Rattle.pq_files.specs.FirstFile.{head, body, footer, file, file_of, schema, the_leaf}
use Rattle.pq_files.specs.Layout.{OutGroup}
use Rattle.pq_files.specs.NearMiss.{header, cut_levels, head_of_six, footer_of_five, cut_file, AreNotCarried, IsNotPacked, padded_head, long_footer, IsNoWrittenPage, AreNotPacked}
use Rattle.pq_files.specs.Page.{IsPage, rows_in}
use Rattle.pq_files.specs.Reasons.{S1}
use Rattle.pq_files.specs.WrittenExample.{file_of as written_of, footer as written_footer}
use Rattle.pq_files.specs.FooterRecord.{FileMetaData}
use Rattle.pq_files.specs.Packed.{IsWrittenFile}
use Rattle.pq_files.specs.Written.{at, at_some, structs, elements_of, orders_value, created_by, group_value, footer_value, footer_record, keys_value}
use Rattle.pq_files.proofs.CarriedOnce.{frame_same, record_same}
use Rattle.pq_files.proofs.ChunkOnce.{chunk_same}
use Rattle.pq_files.proofs.CutFooter.{is_out_of_spec}
use Rattle.pq_files.proofs.FirstFile.{spelled, footer_fields, footer_spelled, head_fields, head_spelled, the_meta, the_group_meta, the_footer, meta_is, is_page_text, the_page, is_chunk, the_chunk}
use Rattle.pq_files.proofs.FirstFile as first
use Rattle.pq_files.proofs.HeaderOnce.{page_text_same}
use Rattle.pq_files.proofs.NearMiss.{levels_cut}
use Rattle.pq_files.proofs.Unique.{every}
use Rattle.pq_files.proofs.WrittenExample as out

-- ---- what such a file says of its only chunk

says : (n : ℕ) (said : List ℕ) → Spells said (struct (footer_fields n)) → Begins IsFooterText said (the_footer n)
unfolding footer_fields
says n said s = record { text = said; rest = []; parts = sym (append-nil said); spells = (struct (footer_fields n), s, omega arith, meta_is n) }

framed : (pages said : List ℕ) → length said ≡ 95 → IsFramed (file_of pages said) (4 + length pages) said
framed pages said e = record { pages = pages; size = 95 ∷ 0 ∷ 0 ∷ 0 ∷ []; parts = refl; four = refl; is_size = sym e; is_place = refl }

record HasChunk (pages : List ℕ) (n : ℕ) : Type 0 where
  pub chunk : Chunk
  pub is : IsChunk the_leaf 5 pages chunk
  pub rows : rows_in (triples_of chunk) ≡ n

only_chunk : (pages said : List ℕ) (place : ℕ) (c : Chunk) → length pages ≡ 38 → IsChunkOf (file_of pages said) place the_meta the_leaf c → IsChunk the_leaf 5 pages c
unfolding the_meta
only_chunk pages said place c size a =
    let n : ◌≡◌ {A = ℕ} 5 a.num_values = pos_same 5 a.num_values a.has_num_values in
    let start : ◌≡◌ {A = ℕ} 4 a.start = pos_same 4 a.start a.starts in
    let len : ◌≡◌ {A = ℕ} 38 a.size = pos_same 38 a.size a.has_size in
    let text : a.text ≡ pages =
    a.is_there.is ∙ ap (λ (k : ℕ). take k (drop a.start (file_of pages said))) (sym len) ∙ ap (λ (k : ℕ). take 38 (drop k (file_of pages said))) (sym start)
    ∙ take_at pages (said ++ (95 ∷ 0 ∷ 0 ∷ 0 ∷ magic)) 38 size in
    subst (λ (s : List ℕ). IsChunk the_leaf 5 s c) text (subst (λ (k : ℕ). IsChunk the_leaf k a.text c) (sym n) a.is)

only_chunks : (pages said : List ℕ) (place rows : ℕ) (cs : List Chunk) → length pages ≡ 38 → AreChunks (file_of pages said) place (the_meta ∷ []) (the_leaf ∷ []) cs → All (λ c. rows_in (triples_of c) ≡ rows) cs → HasChunk pages rows
only_chunks pages said place rows [] size a h = absurd a
only_chunks pages said place rows (c ∷ []) size a h = record { chunk = c; is = only_chunk pages said place c size a.0; rows = (every (λ d. rows_in (triples_of d) ≡ rows) (c ∷ []) h).0 }
only_chunks pages said place rows (c ∷ d ∷ cs) size a h = absurd a.1

only_group : (pages said : List ℕ) (n place : ℕ) (gs : List GroupPages) → length pages ≡ 38 → AllZip (λ m g. IsGroup (file_of pages said) place (columns_of schema) m g.rows g.chunks) (the_group_meta n ∷ []) gs → HasChunk pages n
unfolding the_group_meta
only_group pages said n place [] size a = absurd a
only_group pages said n place (g ∷ []) size a = subst (λ (r : ℕ). HasChunk pages r) (pos_same g.rows n (sym a.0.has_rows)) (only_chunks pages said place g.rows g.chunks size a.0.are a.0.counted)
only_group pages said n place (g ∷ h ∷ gs) size a = absurd a.1

its_chunk : (pages said : List ℕ) (n : ℕ) → length pages ≡ 38 → length said ≡ 95 → Spells said (struct (footer_fields n)) → (tree : Schema) (keys : List Key) (groups : List Group) → Carried (file_of pages said) tree keys groups → HasChunk pages n
unfolding the_footer
its_chunk pages said n size long s tree keys groups c =
    let h = c.1 in
    let frame = frame_same (file_of pages said) (4 + length pages) h.place said h.footer (framed pages said long) h.framed in
    let f = record_same said h.footer (the_footer n) (record { schema = tree; groups = h.metas; keys = keys }) frame.footers (says n said s) h.said in
    let trees : schema ≡ tree = ap (λ x. x.schema) f in
    let metas : the_group_meta n ∷ [] ≡ h.metas = ap (λ x. x.groups) f in
    only_group pages said n h.place c.0 size
    (subst (λ (x : Schema). AllZip (λ m g. IsGroup (file_of pages said) h.place (columns_of x) m g.rows g.chunks) (the_group_meta n ∷ []) c.0) (sym trees)
    (subst (λ (x : List GroupMeta). AllZip (λ m g. IsGroup (file_of pages said) h.place (columns_of tree) m g.rows g.chunks) x c.0) (sym metas) h.are))

-- ---- the page in front of a chunk

record Begun (p : RawPage) (n : ℕ) (dict : Option RawPage) (ps : List RawPage) : Type 0 where
  pub none : dict ≡ None
  pub more : List RawPage
  pub first : ps ≡ p ∷ more
  pub fits : count_in p.header ≤ n

begins_with : (n m : ℕ) (bytes rest : List ℕ) (ps : List RawPage) → m ≡ 0 → 0 < n → Pages n bytes ps m rest → (p : RawPage) (text behind : List ℕ) → IsPageText text p → bytes ≡ text ++ behind → Begun p n None ps
begins_with _ _ _ _ _ z some (here m rest) p text behind is e = absurd (omega (arith, z, some))
begins_with _ _ _ _ _ z some (page k m text' bytes rest q more is' is_data some' others) p text behind is e =
    let s = page_text_same text' text bytes behind q p is' is e in
    record { none = refl; more = more; first = ap (λ x. x ∷ more) s.pages; fits = omega (arith, ap (λ (x : RawPage). count_in x.header) s.pages) }

not_both : (h : Header) → IsData h → IsDictionary h → ⊥
not_both (data_page h) a b = b
not_both (data_page_2 h) a b = b
not_both (dictionary_page h) a b = a

begun : (n : ℕ) (bytes : List ℕ) (dict : Option RawPage) (ps : List RawPage) → 0 < n → HasPages n bytes dict ps → (p : RawPage) (text behind : List ℕ) → IsPageText text p → IsData p.header → bytes ≡ text ++ behind → Begun p n dict ps
begun n bytes None ps some h p text behind is d e = begins_with n 0 h.behind h.surplus ps refl some h.are p text behind is (sym h.starts ∙ e)
begun n bytes (Some q) ps some h p text behind is d e =
    let s = page_text_same h.starts.0 text h.behind behind q p h.starts.1 is (sym h.starts.4 ∙ e) in
    absurd (not_both q.header (subst (λ (x : RawPage). IsData x.header) (sym s.pages) d) h.starts.2)

no_entries : (dict : Option RawPage) (entries : Option (List Value)) → dict ≡ None → HasEntries the_leaf dict entries → entries ≡ None
no_entries dict entries e h = none entries (subst (λ (d : Option RawPage). HasEntries the_leaf d entries) e h)
  where
    none : (entries : Option (List Value)) → HasEntries the_leaf None entries → entries ≡ None
    none None h = refl
    none (Some xs) h = absurd h

-- ---- the levels cut

cut_page : RawPage
cut_page = record { header = header 5; body = cut_levels }

cut_text : IsPageText (head ++ cut_levels) cut_page
unfolding head_fields cut_page first.header
cut_text = record { head = head; «value» = struct head_fields; spells = head_spelled; nests = omega arith; is_header = first.header_is; parts = refl }

no_first : (entries : Option (List Value)) (more : List RawPage) (ps : List Page) → entries ≡ None → AllZip (IsPageIn the_leaf entries) (cut_page ∷ more) ps → ⊥
unfolding cut_page
no_first entries more [] e h = h
no_first entries more (p ∷ ps) e h = levels_cut p.triples (subst (λ (x : Option (List Value)). IsPage the_leaf x (header 5) cut_levels p.triples) e h.0.is)

cut_is_not_carried : IsNotCarried (file_of (head ++ cut_levels) footer)
unfolding cut_page
cut_is_not_carried tree keys groups c =
    let h = its_chunk (head ++ cut_levels) footer 4 refl refl footer_spelled tree keys groups c in
    let b = begun 5 (head ++ cut_levels) h.is.dictionary h.is.pages (omega arith) h.is.has cut_page (head ++ cut_levels) [] cut_text tt refl in
    no_first h.chunk.entries b.more h.chunk.pages (no_entries h.is.dictionary h.chunk.entries b.none h.is.holds.entries)
    (subst (λ (x : List RawPage). AllZip (IsPageIn the_leaf h.chunk.entries) x h.chunk.pages) b.first h.is.holds.are)

-- ---- a pair more

fields_of_six : Fields
fields_of_six = field (pos 1) (int32 (pos 0)) (field (pos 2) (int32 (pos 21)) (field (pos 3) (int32 (pos 21)) (field (pos 5) (struct (field (pos 1) (int32 (pos 6)) (field (pos 2) (int32 (pos 0)) (field (pos 3) (int32 (pos 3)) (field (pos 4) (int32 (pos 3)) no_fields))))) no_fields)))

six_read : struct_at 127 head_of_six ≡ Ok (fields_of_six, [])
unfolding fields_of_six varint_up_to signed_at binary_at list_head_at field_head_at values_at fields_at list_with struct_with value_at
six_read = refl

six_page : RawPage
six_page = record { header = header 6; body = body }

six_text : IsPageText (head_of_six ++ body) six_page
unfolding fields_of_six six_page
six_text =
    record {
      head = head_of_six;
      «value» = struct fields_of_six;
      spells = spelled head_of_six fields_of_six six_read;
      nests = omega arith;
      is_header = record { header = (refl, _, refl, record { num_values = refl; encoding = refl; definition_encoding = refl; repetition_encoding = refl }); uncompressed = (Some (pos 21), refl); size = refl };
      parts = refl;
    }

six_is_not_carried : IsNotCarried (file_of (head_of_six ++ body) footer)
unfolding six_page
six_is_not_carried tree keys groups c =
    let h = its_chunk (head_of_six ++ body) footer 4 refl refl footer_spelled tree keys groups c in
    omega (arith, (begun 5 (head_of_six ++ body) h.is.dictionary h.is.pages (omega arith) h.is.has six_page (head_of_six ++ body) [] six_text tt refl).fits)

-- ---- a row more

five_read : struct_at 127 footer_of_five ≡ Ok (footer_fields 5, [])
unfolding footer_fields varint_up_to signed_at binary_at list_head_at field_head_at values_at fields_at list_with struct_with value_at
five_read = refl

four_rows : rows_in (triples_of the_chunk) ≡ 4
unfolding the_chunk shred
four_rows = refl

five_is_not_carried : IsNotCarried (file_of (head ++ body) footer_of_five)
five_is_not_carried tree keys groups c =
    let h = its_chunk (head ++ body) footer_of_five 5 refl refl (spelled footer_of_five (footer_fields 5) five_read) tree keys groups c in
    let same = chunk_same the_leaf 5 (head ++ body) h.chunk the_chunk h.is is_chunk in
    omega (arith, sym h.rows ∙ ap (λ x. rows_in (triples_of x)) same ∙ four_rows)

-- ---- out of the format

pub none_carried : (bytes : List ℕ) → S1 bytes → IsNotCarried bytes
none_carried bytes (inl s) tree keys groups c = s.0 (has_frame bytes c.1.place c.1.footer c.1.framed)
none_carried bytes (inr s) tree keys groups c =
    let h = c.1 in
    let frame = frame_same bytes h.place (footer_place bytes) h.footer (footer_of bytes) h.framed (is_framed bytes s.0) in
    s.1.none (record { schema = tree; groups = h.metas; keys = keys }) (subst (λ (x : List ℕ). Begins IsFooterText x (record { schema = tree; groups = h.metas; keys = keys })) frame.footers h.said)

pub are_not_carried : AreNotCarried
are_not_carried = record { levels_cut = cut_is_not_carried; one_pair_more = six_is_not_carried; one_row_more = five_is_not_carried; footer_cut = (is_out_of_spec, none_carried cut_file is_out_of_spec) }

-- ---- not packed

abbrev pub fields_in : Thrift → Fields
fields_in (struct fs) = fs
fields_in v = no_fields

abbrev pub from_keys : Option Thrift → FileMetaData → Fields
from_keys o m =
    at 1 (int32 m.version)
    (at 2 (list 12 (elements_of m.schema)) (at 3 (int64 m.num_rows) (at 4 (structs (map group_value m.row_groups)) (at_some 5 o (at 6 (binary m.created_by) (at 7 (orders_value m.schema) no_fields))))))

says_creator : (o : Option Thrift) (m : FileMetaData) → get 6 (from_keys o m) ≡ Some (binary m.created_by)
says_creator None m = refl
says_creator (Some v) m = refl

-- the frame that a packed file's footer stands in
framed_footer : (bytes : List ℕ) (tree : Schema) (keys : List Key) (version : Version) (groups : List OutGroup) → (w : IsWrittenFile bytes tree keys version groups) → IsFramed bytes (4 + length w.pages) w.footer
framed_footer bytes tree keys version groups w = record { pages = w.pages; size = w.size; parts = w.parts; four = w.four; is_size = w.is_size; is_place = refl }

few_ids : IsNotPacked file
unfolding footer_fields
few_ids tree keys version groups p =
    let w = p.written in
    let stated : FileMetaData = footer_record version tree keys groups w.row_groups in
    let frame = frame_same file 42 (4 + length w.pages) footer w.footer (framed (head ++ body) footer refl) (framed_footer file tree keys version groups w) in
    let read = same_reading footer w.footer [] [] (struct (footer_fields 4)) (footer_value stated) footer_spelled w.is_footer.spells (ap (λ (x : List ℕ). x ++ []) frame.footers) in
    let none : get 6 (footer_fields 4) ≡ None = refl in
    let same : get 6 (footer_fields 4) ≡ get 6 (from_keys (keys_value keys) stated) = ap (λ v. get 6 (fields_in v)) read.1 in
    not_none (binary created_by) (sym (sym none ∙ same ∙ says_creator (keys_value keys) stated))
  where
    not_none : (v : Thrift) → Some v ≡ None → ⊥
    not_none v e = cc e

one_more : ◌≡◌ {A = ℕ} 159 160 → ⊥
one_more e = omega (arith, e)

stray_byte : IsNotPacked (written_of 160 (head ++ body) (written_footer ++ 0 ∷ []))
stray_byte tree keys version groups p =
    let w = p.written in
    let bytes = written_of 160 (head ++ body) (written_footer ++ 0 ∷ []) in
    let ours : IsFramed bytes 42 (written_footer ++ 0 ∷ []) = record { pages = head ++ body; size = 160 ∷ 0 ∷ 0 ∷ 0 ∷ []; parts = refl; four = refl; is_size = refl; is_place = refl } in
    let frame = frame_same bytes 42 (4 + length w.pages) (written_footer ++ 0 ∷ []) w.footer ours (framed_footer bytes tree keys version groups w) in
    let read = same_reading written_footer w.footer (0 ∷ []) [] (struct out.footer_fields) (footer_value (footer_record version tree keys groups w.row_groups)) out.footer_spelled w.is_footer.spells (frame.footers ∙ sym (append-nil w.footer)) in
    one_more (ap length read.0 ∙ ap length (sym frame.footers))

-- ---- longer than need be

-- what spells a value in another way than it is written is not written for any value
other_spelling : (text written : List ℕ) (v : Thrift) → Spells text v → written ≡ spell v → (head : List ℕ) (u : Thrift) → IsWritten head u → (x y : List ℕ) → text ++ x ≡ head ++ y → text ≡ written
other_spelling text written v s e head u w x y same =
    let read = same_reading text head x y v u s w.spells same in
    read.0 ∙ w.exact ∙ ap spell (sym read.1) ∙ sym e

long_read : struct_at 127 long_footer ≡ Ok (out.footer_fields, [])
unfolding out.footer_fields varint_up_to signed_at binary_at list_head_at field_head_at values_at fields_at list_with struct_with value_at
long_read = refl

long_list : IsNotPacked (written_of 160 (head ++ body) long_footer)
long_list tree keys version groups p =
    let w = p.written in
    let bytes = written_of 160 (head ++ body) long_footer in
    let ours : IsFramed bytes 42 long_footer = record { pages = head ++ body; size = 160 ∷ 0 ∷ 0 ∷ 0 ∷ []; parts = refl; four = refl; is_size = refl; is_place = refl } in
    let frame = frame_same bytes 42 (4 + length w.pages) long_footer w.footer ours (framed_footer bytes tree keys version groups w) in
    let same = other_spelling long_footer written_footer (struct out.footer_fields) (spelled long_footer out.footer_fields long_read) out.footer_written.exact w.footer _ w.is_footer [] [] (ap (λ (x : List ℕ). x ++ []) frame.footers) in
    one_more (sym (ap length same))

padded_read : struct_at 127 padded_head ≡ Ok (head_fields, [])
unfolding head_fields varint_up_to signed_at binary_at list_head_at field_head_at values_at fields_at list_with struct_with value_at
padded_read = refl

padded_number : IsNoWrittenPage (padded_head ++ body)
padded_number version l entries p w =
    longer (ap length (other_spelling padded_head head (struct head_fields) (spelled padded_head head_fields padded_read) out.head_written.exact w.head _ w.header body w.body w.parts))
  where
    longer : ◌≡◌ {A = ℕ} 18 17 → ⊥
    longer e = omega (arith, e)

pub are_not_packed : AreNotPacked
are_not_packed = record { few_ids = few_ids; stray_byte = stray_byte; long_list = long_list; padded_number = padded_number }
