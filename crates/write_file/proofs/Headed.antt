-- A page's header states its number of pairs, and has a byte at least.
use Rattle.std.proofs.Common.{◌≡◌, ◌⊎◌, inl, inr, subst, ◌<◌, ◌≤◌, ◌++◌, List, Option, ℕ, ℤ, pos, length, arith, ap, refl, sym, ◌∙◌}
use Rattle.std.proofs.lemmas.List.{length-append}
use Rattle.shredding.specs.Slot.{Value}
use Rattle.pq_tree.specs.Views.{natural_part}
use Rattle.pq_tree.specs.declared.types.DataPageHeader.{DataPageHeader}
use Rattle.pq_tree.specs.declared.types.DataPageHeader.TheVariants as headers
use Rattle.pq_tree.specs.declared.version.Version.{Version}
use Rattle.pq_tree.specs.declared.version.Version.TheVariants.{V1, V2}
use Rattle.pq_tree.specs.Tree.{Leaf}
use Rattle.pq_files.specs.Layout.{OutPage}
use Rattle.pq_files.specs.Packed.{header_value, IsWrittenPage}
use Rattle.pq_files.specs.Room.{max_count}
use Rattle.pq_pages.specs.DataPages.{DataPageValue, stated_values}
use Rattle.pq_pages.specs.HeaderValue.{body_of, data_value, page_value, v1_value, v2_value, IsTooLong}
use Rattle.pq_files.specs.Written.{at, i32}
use Rattle.pq_pages.specs.Denotes.{PagesAreWritten}
use Rattle.pq_pages.specs.declared.page.Page.{Page}
use Rattle.pq_pages.specs.declared.page.Page.TheVariants.{Data, Dict}
use Rattle.pq_thrift.specs.Spelling.{spell, spell_fields, field_head, behind_head, number_of, kind_in_field}
use Rattle.pq_thrift.specs.Value.{Value as Thrift, Fields, no_fields, int32, struct, field, truth}
use Rattle.write_file.specs.Pages.{IsGiven, IsHeaded}

-- the first number of the struct inside a page's header
told : Thrift → ℤ
told (struct (field i v (field j u (field k w (field m (struct (field n (int32 z) fs)) gs))))) = z
told v = pos 0

told_of : (h : DataPageHeader) → told (data_value h 0) ≡ stated_values h
unfolding told
told_of (headers.V1 h) = refl
told_of (headers.V2 h) = refl

told_out : (version : Version) (out : OutPage) (d r : ℕ) → told (header_value version out d r 0) ≡ pos (length out.triples)
unfolding told
told_out V1 out d r = refl
told_out V2 out d r = refl

pub pairs_are : (version : Version) (l : Leaf) (entries : Option (List Value)) (o : OutPage) (page : DataPageValue) (n : ℕ) → IsGiven version l entries o page → pos n ≡ stated_values page.header → n ≡ length o.triples
pairs_are version l entries o page n h e = ap natural_part (e ∙ (sym (told_of page.header) ∙ (ap told (h.is.header 0) ∙ told_out version o h.is.definition h.is.repetition)))

-- ---- a header has a byte at least

fields_some : (fs : Fields) (last : ℤ) → 0 < length (spell_fields fs last)
fields_some no_fields last = omega arith
fields_some (field id v fs) last =
    let head = field_head last id (number_of (kind_in_field v)) in
    let body = behind_head v (spell v) in
    omega (arith, length-append head (body ++ spell_fields fs id), length-append body (spell_fields fs id), fields_some fs id)

pub struct_some : (fs : Fields) → 0 < length (spell (struct fs))
struct_some fs = fields_some fs _

data_some : (h : DataPageHeader) (size : ℕ) → 0 < length (spell (data_value h size))
data_some (headers.V1 h) size = struct_some (at 1 (i32 0) (at 2 (i32 size) (at 3 (i32 size) (at 5 (v1_value h) no_fields))))
data_some (headers.V2 h) size = struct_some (at 1 (i32 3) (at 2 (i32 size) (at 3 (i32 size) (at 8 (v2_value h) no_fields))))

value_some : (page : Page) → 0 < length (spell (page_value page))
value_some (Data page) = data_some page.header (length page.buffer)
value_some (Dict page) =
    let size = length page.buffer.items in
    struct_some (at 1 (i32 2) (at 2 (i32 size) (at 3 (i32 size) (at 7 (struct (at 1 (i32 page.num_values) (at 2 (i32 0) (at 3 (truth page.is_sorted) no_fields)))) no_fields))))

pub page_some : (page : Page) (text : List ℕ) → IsHeaded page text → 1 ≤ length text
page_some page text h = omega (arith, value_some page, ap length h.parts, length-append h.head (body_of page), ap length h.is.exact)

-- a page that is given passes no field of its header, so the text of it is too long
pub passes_given : (version : Version) (l : Leaf) (entries : Option (List Value)) (o : OutPage) (page : DataPageValue) → PagesAreWritten → IsGiven version l entries o page → IsTooLong (Data page) ⊎ ((text : List ℕ) × IsHeaded (Data page) text × (max_count < length text)) → (text : List ℕ) × IsWrittenPage version l entries o text × (max_count < length text)
passes_given version l entries o page law given (inl p) = absurd (omega (arith, given.fits, p))
passes_given version l entries o page law given (inr (text, h, p)) = (text, subst (IsWrittenPage version l entries o) (sym h.parts) (law.data_pages version l entries o page h.head given.is given.some h.is), p)
