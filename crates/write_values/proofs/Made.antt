-- A page made of its parts.
use Rattle.std.proofs.Common.{◌≡◌, ℕ, zero, suc, ◌+◌, ◌-◌, ◌*◌, ◌^◌, ◌<◌, ◌≤◌, pos, List, [], ◌∷◌, ◌++◌, length, map, Some, None, Option, option_map, refl, sym, ap, subst, ◌∙◌, append_assoc, arith, is_some, nat_eq}
use Rattle.std.specs.Prelude.{All, min}
use Rattle.std.proofs.lemmas.List.{length-append}
use Rattle.std.specs.List.{AllByRecursion as Each}
use Rattle.std.proofs.lemmas.List.Elements.{All-from_recursion, recursion_from_All}
use Rattle.std.proofs.lemmas.List.Sums.{count_by-le-length}
use Rattle.shredding.specs.Laws.{BeginsRow}
use Rattle.shredding.specs.Local.{IsWithin, IsInOrder}
use Rattle.shredding.proofs.Counts.{counted}
use Rattle.shredding.proofs.Levels.{levels_are_within}
use Rattle.shredding.proofs.Order as local
use Rattle.shredding.specs.Parts.{IsPath, path_way, slot_count, path_slots}
use Rattle.shredding.specs.Shape.{Way}
use Rattle.shredding.specs.Shred as shred
use Rattle.shredding.specs.Shred.{Triple}
use Rattle.shredding.specs.Slot.{Value, value}
use Rattle.pq_tree.specs.declared.types.DataPageHeader.{DataPageHeader}
use Rattle.pq_tree.specs.declared.types.Descriptor.{Descriptor}
use Rattle.pq_tree.specs.declared.version.Version.{Version}
use Rattle.pq_tree.specs.declared.version.Version.TheVariants.{V1, V2}
use Rattle.pq_tree.specs.Footers.{ChunkStatistics}
use Rattle.pq_tree.specs.Physical.{Physical}
use Rattle.pq_tree.specs.Tree.{Leaf, max_repetition, max_definition}
use Rattle.pq_files.specs.Layout.{OutPage, plain_length}
use Rattle.pq_files.specs.Packed.{AreLevels, header_of}
use Rattle.pq_files.specs.Page.{SaysRuns, LevelsAreRuns, IsSplit, IsCounted, HasEncoding, Encoding, plain, dictionary, delta, delta_length, values_in, rows_in}
use Rattle.pq_files.specs.Levels.{IsBehindLength}
use Rattle.pq_files.specs.WrittenSpelling.{IsWrittenSpelled}
use Rattle.pq_files.specs.Room.{room, max_size}
use Rattle.pq_files.specs.Statistics.{Statistics}
use Rattle.pq_files.specs.Written.{statistics_of}
use Rattle.levels.specs.declared.nested.Nested.{Nested}
use Rattle.levels.specs.Nested.{parts_of, nested_column}
use Rattle.level_sections.specs.Sections.{AppendsSections, Stands}
use Rattle.pq_pages.specs.Denotes.{Denotes}
use Rattle.write_places.specs.Places.{path_places}
use Rattle.write_places.proofs.Values.{values_are_at_places}
use Rattle.write_values.specs.declared.measured.Measured.{Measured}
use Rattle.write_values.specs.declared.page.Body.{Body}
use Rattle.write_values.specs.Pages.{out_page, column_room, IsBody, IsHeader, IsOut}
use Rattle.write_values.specs.Rows.{Measures}
use Rattle.write_values.proofs.Along.{path_along, length-path_slots}
use Rattle.write_values.proofs.Counted.{nulls_and_values}

says_runs : (max : ℕ) → SaysRuns max (Some (pos 3))
says_runs zero = tt
says_runs (suc max) = refl

runs_are : (version : Version) (l : Leaf) (out : OutPage) (d r : ℕ) → LevelsAreRuns l (header_of version out d r)
runs_are V1 l out d r = (says_runs (max_repetition l), says_runs (max_definition l))
runs_are V2 l out d r = tt

counted_is : (version : Version) (out : OutPage) (d r : ℕ) → IsCounted (header_of version out d r) out.triples
counted_is V1 out d r = refl
counted_is V2 out d r = (refl, refl)

encoding_is : (version : Version) (e : Encoding) (ts : List Triple) (st : Option Statistics) (d r : ℕ) → HasEncoding (header_of version (out_page e ts st) d r) e
encoding_is V1 plain ts st d r = refl
encoding_is V1 dictionary ts st d r = refl
encoding_is V1 delta ts st d r = refl
encoding_is V1 delta_length ts st d r = refl
encoding_is V2 plain ts st d r = refl
encoding_is V2 dictionary ts st d r = refl
encoding_is V2 delta ts st d r = refl
encoding_is V2 delta_length ts st d r = refl

split_is : (version : Version) (l : Leaf) (out : OutPage) (d r : ℕ) (rt dt rs ds values body : List ℕ) → Stands version (max_repetition l) rt rs → Stands version (max_definition l) dt ds → body ≡ (rt ++ dt) ++ values → r ≡ length rt → d ≡ length dt → IsSplit l (header_of version out d r) body (record { repetition = rs; definition = ds; values = values })
split_is V1 l out d r rt dt rs ds values body first second parts er ed = record {
  behind = dt ++ values;
  repetition = subst (λ (b : List ℕ). IsBehindLength (max_repetition l) b rs (dt ++ values)) (sym (parts ∙ append_assoc rt dt values)) (first (dt ++ values));
  definition = second values;
}
split_is V2 l out d r rt dt rs ds values body first second parts er ed = record {
  repetition = sym (er ∙ ap length first);
  definition = sym (ed ∙ ap length second);
  parts = parts ∙ (append_assoc rt dt values ∙ rw (first, second) refl);
}

begins : (w : Way) (ts : List Triple) → IsInOrder w ts → BeginsRow ts
begins w [] h = tt
begins w (t ∷ ts) h = h.0

each_present : (w : Way) (ts : List Triple) → Each (IsWithin w) ts → Each (λ t. is_some t.value ≡ nat_eq t.definition (shred.max_definition w)) ts
each_present w [] h = tt
each_present w (t ∷ ts) h = (h.0.present, each_present w ts h.1)

-- The text of the values in a column with these entries stands behind the level sections, within the page's room.
pub denotes_within : (version : Version) (e : Encoding) (p : Physical) (entries : Option (List Value)) (stored : ℕ → Value) (st : Option Statistics) (nested : List Nested) (levels buffer text : List ℕ) (r d : ℕ) (header : DataPageHeader) (about : Descriptor) → IsPath (parts_of nested)
    → AppendsSections version (path_way (parts_of nested)) (nested_column stored nested) [] levels (r, d) → buffer ≡ levels ++ text
    → ((l : Leaf) → l.physical ≡ p → IsWrittenSpelled e l entries text (map stored (path_places (parts_of nested))))
    → length buffer ≤ room (length (nested_column stored nested)) (plain_length p (values_in (nested_column stored nested)))
    → IsHeader version (out_page e (nested_column stored nested) st) r d header
    → room (length (nested_column stored nested)) (plain_length p (values_in (nested_column stored nested))) ≤ max_size
    → Denotes version p (shred.max_repetition (path_way (parts_of nested))) (shred.max_definition (path_way (parts_of nested))) entries (out_page e (nested_column stored nested) st) (record { header = header; buffer = buffer; descriptor = about; selected_rows = None })
denotes_within version e p entries stored st nested levels buffer text r d header about well s whole_is spelled most h fits =
    let parts = parts_of nested in
    let w = path_way parts in
    let ts = nested_column stored nested in
    let rows = path_slots (λ i. value (stored i)) parts in
    let along = path_along stored parts well in
    let within = levels_are_within w rows along in
    let order = (local.columns_are_local w ts).1 (rows, along, refl) in
    let vs : map stored (path_places parts) ≡ values_in ts = sym (values_are_at_places stored nested) in
    let whole : buffer ≡ (s.repetition ++ s.definition) ++ text = whole_is ∙ ap (λ (t : List ℕ). t ++ text) s.parts in
    let sizes_r : r ≡ length s.repetition = ap (λ (x : ℕ × ℕ). x.0) s.sizes_are in
    let sizes_d : d ≡ length s.definition = ap (λ (x : ℕ × ℕ). x.1) s.sizes_are in
    record {
      is = λ l leaf. record {
        definition = d;
        repetition = r;
        header = h;
        body =
            record {
              sections = record { repetition = s.repetitions.section; definition = s.definitions.section; values = text };
              split =
                  split_is version l (out_page e ts st) d r s.repetition s.definition s.repetitions.section s.definitions.section text buffer
                  (subst (λ (m : ℕ). Stands version m s.repetition s.repetitions.section) (sym leaf.repeats) s.repetitions.stands) (subst (λ (m : ℕ). Stands version m s.definition s.definitions.section) (sym leaf.defines) s.definitions.stands) whole sizes_r sizes_d;
              runs = runs_are version l (out_page e ts st) d r;
              repetitions = subst (λ (m : ℕ). AreLevels m s.repetitions.section (map (λ t. t.repetition) ts)) (sym leaf.repeats) s.repetitions.are;
              definitions = subst (λ (m : ℕ). AreLevels m s.definitions.section (map (λ t. t.definition) ts)) (sym leaf.defines) s.definitions.are;
              present = subst (λ (m : ℕ). All (λ t. is_some t.value ≡ nat_eq t.definition m) ts) (sym leaf.defines) (All-from_recursion _ ts (each_present w ts (recursion_from_All (IsWithin w) ts within)));
              encoding = e;
              has_encoding = encoding_is version e ts st d r;
              values = subst (λ (us : List Value). IsWrittenSpelled e l entries text us) vs (spelled l leaf.physical);
              counted = counted_is version (out_page e ts st) d r;
              begins_row = begins w ts order.1;
            };
        encoding = refl;
      };
      within = most;
      fits = omega (arith, most, fits);
    }

-- The same of a text with at most 11 bytes a value and 310 beside the plain spelling.
pub denotes_in : (version : Version) (e : Encoding) (p : Physical) (entries : Option (List Value)) (stored : ℕ → Value) (st : Option Statistics) (nested : List Nested) (levels buffer text : List ℕ) (r d : ℕ) (header : DataPageHeader) (about : Descriptor) → IsPath (parts_of nested)
    → AppendsSections version (path_way (parts_of nested)) (nested_column stored nested) [] levels (r, d) → buffer ≡ levels ++ text
    → ((l : Leaf) → l.physical ≡ p → IsWrittenSpelled e l entries text (map stored (path_places (parts_of nested))))
    → length text ≤ plain_length p (map stored (path_places (parts_of nested))) + (11 * length (map stored (path_places (parts_of nested))) + 310)
    → IsHeader version (out_page e (nested_column stored nested) st) r d header
    → room (length (nested_column stored nested)) (plain_length p (values_in (nested_column stored nested))) ≤ max_size
    → Denotes version p (shred.max_repetition (path_way (parts_of nested))) (shred.max_definition (path_way (parts_of nested))) entries (out_page e (nested_column stored nested) st) (record { header = header; buffer = buffer; descriptor = about; selected_rows = None })
denotes_in version e p entries stored st nested levels buffer text r d header about well s whole_is spelled size_is h fits =
    let ts = nested_column stored nested in
    let vs : map stored (path_places (parts_of nested)) ≡ values_in ts = sym (values_are_at_places stored nested) in
    let whole : buffer ≡ (s.repetition ++ s.definition) ++ text = whole_is ∙ ap (λ (t : List ℕ). t ++ text) s.parts in
    let bytes : length text ≤ plain_length p (values_in ts) + (11 * length (values_in ts) + 310) = subst (λ (us : List Value). length text ≤ plain_length p us + (11 * length us + 310)) vs size_is in
    let few : length (values_in ts) ≤ length ts = omega (arith, nulls_and_values ts) in
    let size : length buffer ≡ length s.repetition + length s.definition + length text = ap length whole ∙ (length-append (s.repetition ++ s.definition) text ∙ omega (arith, length-append s.repetition s.definition)) in
    let most : length buffer ≤ room (length ts) (plain_length p (values_in ts)) = omega (arith, size, s.tight, bytes, few) in
    denotes_within version e p entries stored st nested levels buffer text r d header about well s whole_is spelled most h fits

pub denotes : (version : Version) (e : Encoding) (p : Physical) (stored : ℕ → Value) (st : Option Statistics) (nested : List Nested) (body : Body) (header : DataPageHeader) (d : Descriptor) → IsPath (parts_of nested)
    → IsBody version e p nested stored body → IsHeader version (out_page e (nested_column stored nested) st) body.repetition body.definition header
    → room (length (nested_column stored nested)) (plain_length p (values_in (nested_column stored nested))) ≤ max_size
    → Denotes version p (shred.max_repetition (path_way (parts_of nested))) (shred.max_definition (path_way (parts_of nested))) None (out_page e (nested_column stored nested) st) (record { header = header; buffer = body.buffer.items; descriptor = d; selected_rows = None })
denotes version e p stored st nested body header d well b h fits =
    denotes_in version e p None stored st nested b.levels body.buffer.items b.values.text body.repetition body.definition header d well b.sections b.values.parts b.values.spelled b.values.size h fits

pub mapped : (f : ℕ → Value) (ns : List ℕ) → length (map f ns) ≡ length ns
mapped f [] = refl
mapped f (n ∷ ns) = ap suc (mapped f ns)

-- the numbers of the header
pub out_is : (e : Encoding) (stored : ℕ → Value) (st : Option Statistics) (stated : Option ChunkStatistics) (nested : List Nested) (pairs count rows : ℕ) → IsPath (parts_of nested) → pairs ≡ length (nested_column stored nested) → count ≡ length (path_places (parts_of nested)) → rows ≡ slot_count (parts_of nested) → stated ≡ option_map statistics_of st → IsOut e (out_page e (nested_column stored nested) st) stated pairs (pairs - count) rows
out_is e stored st stated nested pairs count rows well p c r told =
    let parts = parts_of nested in
    let ts = nested_column stored nested in
    let k : length (values_in ts) ≡ length (path_places parts) = ap length (values_are_at_places stored nested) ∙ mapped stored (path_places parts) in
    record {
      encoding = refl;
      statistics = told;
      has_pairs = sym p;
      has_nulls = omega (arith, nulls_and_values ts, k, p, c);
      has_rows = counted (path_way parts) (path_slots (λ i. value (stored i)) parts) ∙ (length-path_slots _ parts ∙ sym r);
    }

-- ---- counts up to the largest number

module _ (p : Physical) (stored : ℕ → Value) (nested : List Nested) where
  plain_is : plain_length p (values_in (nested_column stored nested)) ≡ plain_length p (map stored (path_places (parts_of nested)))
  plain_is = ap (plain_length p) (values_are_at_places stored nested)

  module _ (count pairs : ℕ) (m : Measured) (e : pairs ≡ min (length (nested_column stored nested)) (2 ^ 64 - 1)) (h : Measures p count stored (path_places (parts_of nested)) m) where
    pub room_over : ¬ (room pairs m.plain ≤ max_size) → max_size < column_room p (nested_column stored nested)
    room_over n = omega (arith, e, h.plain, n, plain_is)

    pub room_within : room pairs m.plain ≤ max_size → column_room p (nested_column stored nested) ≤ max_size
    room_within n = omega (arith, e, h.plain, n, plain_is)

  -- there are no more values than pairs
  pub few_values : length (path_places (parts_of nested)) ≤ length (nested_column stored nested)
  few_values =
      let k : length (values_in (nested_column stored nested)) ≡ length (path_places (parts_of nested)) = ap length (values_are_at_places stored nested) ∙ mapped stored (path_places (parts_of nested)) in
      omega (arith, nulls_and_values (nested_column stored nested), k)

  -- nor more rows
  pub rows_few : slot_count (parts_of nested) ≤ length (nested_column stored nested)
  rows_few =
      let w = path_way (parts_of nested) in
      let rows = path_slots (λ i. value (stored i)) (parts_of nested) in
      let n : rows_in (nested_column stored nested) ≤ length (nested_column stored nested) = count_by-le-length (λ t. nat_eq t.repetition 0) (nested_column stored nested) in
      omega (arith, n, counted w rows, length-path_slots (λ i. value (stored i)) (parts_of nested))
