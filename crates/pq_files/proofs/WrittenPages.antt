-- What a reader finds in written pages.
use Rattle.std.proofs.Common.{◌≡◌, ℕ, ◌+◌, ◌<◌, List, [], ◌∷◌, ◌++◌, length, ℤ, pos, Option, Some, None, refl, sym, ap, subst, ◌∙◌, true, false, inl, inr, arith}
use Rattle.std.specs.Int.{w32, w64}
use Rattle.std.specs.List.{AllZip, sum_by, flat_map}
use Rattle.std.proofs.lemmas.List.{append-nil, length-append}
use Rattle.std.proofs.lemmas.List.Sums.{sum_by-cons}
use Rattle.pq_numbers.specs.Texts.{Begins}
use Rattle.pq_thrift.specs.Grammar.{AreFields}
use Rattle.pq_thrift.specs.Value.{Value as Thrift, struct, Fields, no_fields, field}
use Rattle.shredding.specs.Slot.{Value}
use Rattle.shredding.specs.Shred.{Triple}
use Rattle.pq_tree.specs.declared.version.Version.{Version}
use Rattle.pq_tree.specs.declared.version.Version.TheVariants.{V1, V2}
use Rattle.pq_metadata.specs.Header.{Header, dictionary_page}
use Rattle.pq_tree.specs.Tree.{Leaf}
use Rattle.pq_files.specs.Chunk.{RawPage, IsPageText, IsData, count_in, Pages, here, page, StartsWith, Page, Chunk, HasEntries, IsPageIn, IsChunk, triples_of}
use Rattle.pq_files.specs.Layout.{OutPage, OutChunk}
use Rattle.pq_files.specs.Levels.{HasLevels}
use Rattle.pq_files.specs.Packed.{AreLevels, header_of, header_value, IsWrittenPage, ArePages, IsWrittenDictionary, HasDictionary, IsWrittenChunk, triples_out}
use Rattle.pq_files.specs.Indices.{IsIndices}
use Rattle.pq_files.specs.Page.{Encoding, plain, dictionary, delta, delta_length, IsPage, IsPageOf, IsSpelled}
use Rattle.pq_files.specs.WrittenSpelling.{AreWrittenIndices, IsWrittenSpelled}
use Rattle.pq_runs.proofs.WrittenDeltas.{written_deltas}
use Rattle.pq_runs.proofs.WrittenLaws.{written_runs}
use Rattle.pq_files.specs.Plain.{IsPlain}
use Rattle.pq_files.specs.Written.{Place, dictionary_value, pairs_in}
use Rattle.pq_files.proofs.WrittenValues.{header_is, header_nests, dictionary_is, dictionary_nests}

-- ---- a text with nothing behind it

pub whole : {A : Type 0} (R : List ℕ → A → Type 0) (text : List ℕ) (a : A) → R text a → Begins R text a
whole R text a r = record { text = text; rest = []; parts = sym (append-nil text); spells = r }

levels_begin : (max : ℕ) (section levels : List ℕ) → AreLevels max section levels → HasLevels max section levels
levels_begin max section levels a = record { width = a.width; is_width = a.is_width; runs = whole _ section levels (written_runs a.width section levels a.runs); within = a.within }

indices_are : (text ns : List ℕ) → AreWrittenIndices text ns → IsIndices text ns
indices_are text ns a = subst (λ (t : List ℕ). IsIndices t ns) (sym a.parts) (a.fits, written_runs a.width a.runs ns a.are)

-- what is written is read
written_values : (e : Encoding) (l : Leaf) (entries : Option (List Value)) (text : List ℕ) (vs : List Value) → IsWrittenSpelled e l entries text vs → IsSpelled e l entries text vs
written_values plain l entries text vs h = h
written_values dictionary l None text vs h = h
written_values dictionary l (Some entries) text vs h = (h.0, (h.1.0, indices_are text h.1.0 h.1.1, h.1.2))
written_values delta l entries text vs (inl h) = inl (h.0, (h.1.0, written_deltas w32 true text h.1.0 (omega arith) h.1.1, h.1.2))
written_values delta l entries text vs (inr h) = inr (h.0, (h.1.0, written_deltas w64 true text h.1.0 (omega arith) h.1.1, h.1.2))
written_values delta_length l entries text vs h = (
  h.0,
  record {
    strings = h.1.strings;
    short = h.1.short;
    head = h.1.head;
    lengths = written_deltas w32 false h.1.head _ (omega arith) h.1.lengths;
    parts = h.1.parts;
    are = h.1.are;
  },
)

page_begins : (l : Leaf) (entries : Option (List Value)) (h : Header) (body : List ℕ) (ts : List Triple) → IsPageOf AreLevels (λ e section vs. IsWrittenSpelled e l entries section vs) l h body ts → IsPage l entries h body ts
page_begins l entries h body ts p =
    record {
      sections = p.sections;
      split = p.split;
      runs = p.runs;
      repetitions = levels_begin _ p.sections.repetition _ p.repetitions;
      definitions = levels_begin _ p.sections.definition _ p.definitions;
      present = p.present;
      encoding = p.encoding;
      has_encoding = p.has_encoding;
      values = whole (IsSpelled p.encoding l entries) p.sections.values _ (written_values p.encoding l entries p.sections.values _ p.values);
      counted = p.counted;
      begins_row = p.begins_row;
    }

-- ---- data pages

is_data : (version : Version) (p : OutPage) (definition repetition : ℕ) → IsData (header_of version p definition repetition)
is_data V1 p definition repetition = tt
is_data V2 p definition repetition = tt

counted_in : (version : Version) (p : OutPage) (definition repetition : ℕ) → count_in (header_of version p definition repetition) ≡ length p.triples
counted_in V1 p definition repetition = refl
counted_in V2 p definition repetition = refl

-- the pages of a chunk: n pairs stand in them
record Read (l : Leaf) (entries : Option (List Value)) (ps : List OutPage) (text : List ℕ) : Type 0 where
  pub raws : List RawPage
  pub pages : List Page
  pub are : Pages (sum_by (λ p. length p.triples) ps) text raws 0 []
  pub hold : AllZip (IsPageIn l entries) raws pages
  pub triples : flat_map (λ p. p.triples) pages ≡ flat_map (λ p. p.triples) ps

read_pages : (version : Version) (l : Leaf) (entries : Option (List Value)) (ps : List OutPage) (text : List ℕ) → ArePages version l entries ps text → Read l entries ps text
read_pages version l entries [] text a = record { raws = []; pages = []; are = subst (λ (t : List ℕ). Pages 0 t [] 0 []) (sym a) (here 0 []); hold = tt; triples = refl }
read_pages version l entries (p ∷ ps) text a =
    let first = a.0 in
    let w : IsWrittenPage version l entries p first = a.2 in
    let others = read_pages version l entries ps a.1 a.3 in
    let h : Header = header_of version p w.definition w.repetition in
    let raw : RawPage = record { header = h; body = w.body } in
    let is_text : IsPageText first raw = record { head = w.head; «value» = header_value version p w.definition w.repetition (length w.body); spells = w.header.spells; nests = header_nests version p w.definition w.repetition (length w.body); is_header = header_is version p w.definition w.repetition (length w.body); parts = w.parts } in
    let n : count_in h ≡ length p.triples = counted_in version p w.definition w.repetition in
    let total : count_in h + sum_by (λ q. length q.triples) ps ≡ sum_by (λ q. length q.triples) (p ∷ ps) = ap (λ (k : ℕ). k + sum_by (λ q. length q.triples) ps) n ∙ sym (sum_by-cons (λ q. length q.triples) p ps) in
    let one : Pages (count_in h + sum_by (λ q. length q.triples) ps) (first ++ a.1) (raw ∷ others.raws) 0 [] =
    page (sum_by (λ q. length q.triples) ps) 0 first a.1 [] raw others.raws is_text (is_data version p w.definition w.repetition) (omega (arith, n, w.some)) others.are in
    record {
      raws = raw ∷ others.raws;
      pages = record { header = h; triples = p.triples } ∷ others.pages;
      are = subst (λ (t : List ℕ). Pages (sum_by (λ q. length q.triples) (p ∷ ps)) t (raw ∷ others.raws) 0 []) (sym a.4) (subst (λ (k : ℕ). Pages k (first ++ a.1) (raw ∷ others.raws) 0 []) total one);
      hold = (record { header = refl; is = page_begins l entries h w.body p.triples w.page }, others.hold);
      triples = ap (λ (ts : List Triple). p.triples ++ ts) others.triples;
    }

-- ---- a chunk

some_pairs : (version : Version) (l : Leaf) (entries : Option (List Value)) (ps : List OutPage) (text : List ℕ) → ArePages version l entries ps text → 0 < length ps → 0 < sum_by (λ p. length p.triples) ps
some_pairs version l entries [] text a h = absurd (omega (arith, h))
some_pairs version l entries (p ∷ ps) text a h = omega (arith, a.2.some, sum_by-cons (λ (q : OutPage). length q.triples) p ps)

-- the dictionary page in front
record Starts (l : Leaf) (n : ℕ) (entries : Option (List Value)) (text behind : List ℕ) : Type 0 where
  pub dictionary : Option RawPage
  pub starts : StartsWith n (text ++ behind) dictionary behind
  pub entries_are : HasEntries l dictionary entries

read_dictionary : (l : Leaf) (n : ℕ) (entries : Option (List Value)) (text behind : List ℕ) → 0 < n → HasDictionary l entries text → Starts l n entries text behind
read_dictionary l n None text behind h d = record { dictionary = None; starts = ap (λ (t : List ℕ). t ++ behind) d; entries_are = tt }
read_dictionary l n (Some entries) text behind h d =
    let header : Header = dictionary_page (record { num_values = length entries; encoding = pos 0 }) in
    let is_text : IsPageText text (record { header = header; body = d.body }) = record { head = d.head; «value» = dictionary_value (length entries) (length d.body); spells = d.header.spells; nests = dictionary_nests (length entries) (length d.body); is_header = dictionary_is (length entries) (length d.body); parts = d.parts } in
    record { dictionary = Some (record { header = header; body = d.body }); starts = (text, is_text, tt, h, refl); entries_are = (refl, inl refl, whole (IsPlain l.physical) d.body entries d.plain) }

pub record ReadChunk (l : Leaf) (c : OutChunk) (text : List ℕ) : Type 0 where
  pub chunk : Chunk
  pub is : IsChunk l (pairs_in c) text chunk
  pub entries : chunk.entries ≡ c.entries
  pub triples : triples_of chunk ≡ triples_out c

pub read_chunk : (version : Version) (l : Leaf) (c : OutChunk) (w : Place) (text : List ℕ) → IsWrittenChunk version l c w text → ReadChunk l c text
read_chunk version l c w text k =
    let pages = read_pages version l c.entries c.pages k.pages k.are in
    let front = read_dictionary l (pairs_in c) c.entries k.dictionary k.pages (some_pairs version l c.entries c.pages k.pages k.are k.some) k.has_dictionary in
    let chunk : Chunk = record { entries = c.entries; pages = pages.pages } in
    let starts : StartsWith (pairs_in c) text front.dictionary k.pages = subst (λ (t : List ℕ). StartsWith (pairs_in c) t front.dictionary k.pages) (sym k.parts) front.starts in
    record {
      chunk = chunk;
      is =
          record {
            dictionary = front.dictionary;
            pages = pages.raws;
            has = record { behind = k.pages; starts = starts; surplus = []; are = pages.are };
            holds = record { entries = front.entries_are; are = pages.hold };
          };
      entries = refl;
      triples = pages.triples;
    }

-- a struct takes a byte at least
fields_some : (fs : Fields) (last : ℤ) (text : List ℕ) → AreFields fs last text → 0 < length text
fields_some no_fields last text s = omega (arith, ap length s)
fields_some (field id v fs) last text s = omega (arith, ap length s.7, length-append s.1 (s.2 ++ s.3), ap length s.4.parts)

abbrev pub fields_in : Thrift → Fields
fields_in (struct fs) = fs
fields_in v = no_fields

pub dictionary_some : (l : Leaf) (entries : List Value) (text : List ℕ) → IsWrittenDictionary l entries text → 0 < length text
dictionary_some l entries text d =
    omega (arith, ap length d.parts, length-append d.head d.body, fields_some (fields_in (dictionary_value (length entries) (length d.body))) (pos 0) d.head d.header.spells.1)
