-- A page's header has one reading.
use Rattle.std.proofs.Common.{◌≡◌, ◌≢◌, ℕ, pos, Some, ap, subst, arith}
use Rattle.pq_thrift.specs.Value.{Value, int32, struct, Fields}
use Rattle.pq_metadata.specs.Header.{Header, data_page, data_page_2, dictionary_page, DataHeader, DataHeader2, DictionaryHeader, PageHeader, HasDataHeader, HasDataHeader2, HasDictionaryHeader, HasHeader, SpellsHeader}
use Rattle.pq_metadata.specs.Ids.{get}
use Rattle.pq_metadata.proofs.Injective.{n32_same, i32_same, struct_same, maybe_i32}

data_same : (fs : Fields) (h k : DataHeader) → HasDataHeader fs h → HasDataHeader fs k → h ≡ k
data_same fs h k a b =
    let n = n32_same (get 1 fs) h.num_values k.num_values a.num_values b.num_values in
    let e = i32_same (get 2 fs) h.encoding k.encoding a.encoding b.encoding in
    let d = maybe_i32 3 fs h.definition_encoding k.definition_encoding a.definition_encoding b.definition_encoding in
    let r = maybe_i32 4 fs h.repetition_encoding k.repetition_encoding a.repetition_encoding b.repetition_encoding in
    λ i. record { num_values = n i; encoding = e i; definition_encoding = d i; repetition_encoding = r i }

data_2_same : (fs : Fields) (h k : DataHeader2) → HasDataHeader2 fs h → HasDataHeader2 fs k → h ≡ k
data_2_same fs h k a b =
    let n = n32_same (get 1 fs) h.num_values k.num_values a.num_values b.num_values in
    let r = n32_same (get 3 fs) h.num_rows k.num_rows a.num_rows b.num_rows in
    let e = i32_same (get 4 fs) h.encoding k.encoding a.encoding b.encoding in
    let dl = n32_same (get 5 fs) h.definition_length k.definition_length a.definition_length b.definition_length in
    let rl = n32_same (get 6 fs) h.repetition_length k.repetition_length a.repetition_length b.repetition_length in
    λ i. record { num_values = n i; num_rows = r i; encoding = e i; definition_length = dl i; repetition_length = rl i }

dictionary_same : (fs : Fields) (h k : DictionaryHeader) → HasDictionaryHeader fs h → HasDictionaryHeader fs k → h ≡ k
dictionary_same fs h k a b =
    let n = n32_same (get 1 fs) h.num_values k.num_values a.num_values b.num_values in
    let e = i32_same (get 2 fs) h.encoding k.encoding a.encoding b.encoding in
    λ i. record { num_values = n i; encoding = e i }

types_differ : {A : Type 0} (fs : Fields) (m n : ℕ) → m ≢ n → get 1 fs ≡ Some (int32 (pos m)) → get 1 fs ≡ Some (int32 (pos n)) → A
types_differ fs m n d a b = absurd (d (n32_same (get 1 fs) m n a b))

header_same : (fs : Fields) (h k : Header) → HasHeader fs h → HasHeader fs k → h ≡ k
header_same fs (data_page h) (data_page k) a b =
    ap data_page (data_same b.1 h k (subst (λ (x : Fields). HasDataHeader x h) (struct_same (get 5 fs) a.1 b.1 a.2 b.2) a.3) b.3)
header_same fs (dictionary_page h) (dictionary_page k) a b =
    ap dictionary_page (dictionary_same b.1 h k (subst (λ (x : Fields). HasDictionaryHeader x h) (struct_same (get 7 fs) a.1 b.1 a.2 b.2) a.3) b.3)
header_same fs (data_page_2 h) (data_page_2 k) a b =
    ap data_page_2 (data_2_same b.1 h k (subst (λ (x : Fields). HasDataHeader2 x h) (struct_same (get 8 fs) a.1 b.1 a.2 b.2) a.3) b.3)
header_same fs (data_page h) (dictionary_page k) a b = types_differ fs 0 2 (λ e. omega (arith, e)) a.0 b.0
header_same fs (data_page h) (data_page_2 k) a b = types_differ fs 0 3 (λ e. omega (arith, e)) a.0 b.0
header_same fs (dictionary_page h) (data_page k) a b = types_differ fs 2 0 (λ e. omega (arith, e)) a.0 b.0
header_same fs (dictionary_page h) (data_page_2 k) a b = types_differ fs 2 3 (λ e. omega (arith, e)) a.0 b.0
header_same fs (data_page_2 h) (data_page k) a b = types_differ fs 3 0 (λ e. omega (arith, e)) a.0 b.0
header_same fs (data_page_2 h) (dictionary_page k) a b = types_differ fs 3 2 (λ e. omega (arith, e)) a.0 b.0

pub record SameHeader (h k : PageHeader) : Type 0 where
  pub header : h.header ≡ k.header
  pub size : h.size ≡ k.size

pub spelled_header_same : (v : Value) (h k : PageHeader) → SpellsHeader v h → SpellsHeader v k → SameHeader h k
spelled_header_same (struct fs) h k a b = record { header = header_same fs h.header k.header a.header b.header; size = n32_same (get 3 fs) h.size k.size a.size b.size }
spelled_header_same _ h k a b = absurd a

pub page_header_same : (v : Value) (h k : PageHeader) → SpellsHeader v h → SpellsHeader v k → h ≡ k
page_header_same v h k a b = let s = spelled_header_same v h k a b in λ i. record { header = s.header i; size = s.size i }
