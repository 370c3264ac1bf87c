-- Values one behind the other are those of a struct.
use Rattle.std.proofs.Common.{◌≡◌, ◌≢◌, ℕ, suc, ℤ, pos, negsuc, ◌+◌, ◌*◌, ◌/◌, ◌%◌, ◌^◌, ◌-◌, ◌<◌, ◌≤◌, ◌≤ℤ◌, ◌+ℤ◌, true, List, [], ◌∷◌, ◌++◌, length, take, drop, Option, Some, None, refl, sym, ap, subst, ◌∙◌, append_assoc, inl, inr, arith}
use Rattle.std.specs.Prelude.{IfSome, MatchOption}
use Rattle.std.proofs.lemmas.Bool.{lt-ltb}
use Rattle.std.proofs.lemmas.List.{take_at, length-append, length-take, take-append-drop}
use Rattle.std.proofs.lemmas.Int.{ints}
use Rattle.pq_numbers.specs.Texts.{Begins}
use Rattle.pq_numbers.specs.Varint.{IsNumber, varint_at}
use Rattle.pq_numbers.specs.Zigzag.{unzigzag}
use Rattle.pq_numbers.proofs.Numbers.{number_stands}
use Rattle.pq_thrift.specs.declared.kind.Kind.{Kind}
use Rattle.pq_thrift.specs.declared.kind.Kind.TheVariants as kinds
use Rattle.pq_thrift.specs.Kinds.{kind_of}
use Rattle.pq_thrift.specs.Grammar.{IsFieldHead, InField, IsElement, IsBinary, AreFields, depth}
use Rattle.pq_thrift.specs.Reading.{is_id}
use Rattle.pq_thrift.specs.Value.{Value, int32, int64, binary, struct, Fields, no_fields, field}
use Rattle.pq_thrift.proofs.OneReading.{same_reading}
use Rattle.pq_metadata.specs.Header.{PageHeader, DataHeader, data_page, HasDataHeader}
use Rattle.pq_metadata.specs.HeaderText.{IsHeaderText, IsOfOtherType, SpellsOtherType}
use Rattle.pq_tree.specs.Reads.{HasNone}
use Rattle.pq_tree.specs.Views.{natural_part}
use Rattle.pq_container.specs.Ahead.{Fronts, FrontsBehind, IsShort, FrontsValue, FrontsFields, last_struct, FrontsLast, FrontsSaying}
use Rattle.pq_container.proofs.FromBytes.{known}

-- ---- outcomes

-- what a clause on both outcomes says of a value that is there
pub match_some : {A : Type 0} (N : Type 0) (r : Option A) {P Q : A → Type 0} → MatchOption r N P → ((x : A) → P x → Q x) → IfSome r Q
match_some N None h f = tt
match_some N (Some x) h f = f x h

-- ---- numbers

pub number_fronts : (bytes : List ℕ) (n : ℕ) (rest : List ℕ) → varint_at bytes ≡ Some (n, rest) → Fronts (λ t. IsNumber t n) bytes rest
number_fronts bytes n rest e = let s = number_stands bytes n rest e in record { text = s.0; parts = s.1; holds = s.2 }

pub one_byte : (b : ℕ) (rest : List ℕ) → b < 128 → Fronts (λ t. IsNumber t b) (b ∷ rest) rest
one_byte b rest h = record { text = b ∷ []; parts = refl; holds = record { digits = inl (h, refl, refl); short = omega arith; below = omega (arith, h) } }

pub two_bytes : (low high : ℕ) (rest : List ℕ) → 128 ≤ low → high < 128 → Fronts (λ t. IsNumber t (low % 128 + 128 * high)) (low ∷ high ∷ rest) rest
two_bytes low high rest l h =
    let few : low % 128 < 128 = omega arith in
    record { text = low ∷ high ∷ []; parts = refl; holds = record { digits = inr (l, high, refl, inl (h, refl, refl)); short = omega arith; below = omega (arith, few, h) } }

pub signed_fronts : (n : ℕ) (z : ℤ) (bytes rest : List ℕ) → n < 2 ^ 32 → z ≡ unzigzag n → Fronts (λ t. IsNumber t n) bytes rest → Fronts (IsShort z) bytes rest
signed_fronts n z bytes rest h e f = record { text = f.text; parts = f.parts; holds = record { n = n; number = f.holds; fits = h; is = e } }

pub natural : (z : ℤ) → pos 0 ≤ℤ z → z ≡ pos (natural_part z)
natural (pos n) h = refl
natural (negsuc n) h = absurd (omega (arith, ints))

-- ---- fields

pub head : (last id : ℤ) (byte : ℕ) (kind : Kind) → kind_of (byte % 16) ≡ Some kind → byte / 16 ≢ 0 → id ≡ last +ℤ pos (byte / 16) → is_id id ≡ true → IsFieldHead last (byte ∷ []) id kind
head last id byte kind k s e i = record { byte = byte; tail = []; parts = refl; known = k; is = inr (s, e, i, refl) }

-- a field in front of others
pub field_first : (last id : ℤ) (byte : ℕ) (kind : Kind) (v : Value) (fs : Fields) (bytes middle rest : List ℕ) → IsFieldHead last (byte ∷ []) id kind → FrontsBehind byte (InField v (IsElement v) kind) bytes middle → Fronts (AreFields fs id) middle rest → Fronts (AreFields (field id v fs) last) bytes rest
field_first last id byte kind v fs bytes middle rest h b f =
    record {
      text = byte ∷ (b.fronts.text ++ f.text);
      parts = b.parts ∙ ap (λ (t : List ℕ). byte ∷ t) (b.fronts.parts ∙ ap (λ (t : List ℕ). b.fronts.text ++ t) f.parts ∙ sym (append_assoc b.fronts.text f.text rest));
      holds = (kind, byte ∷ [], b.fronts.text, f.text, h, b.fronts.holds, f.holds, refl);
    }

pub no_field : (last : ℤ) (bytes rest : List ℕ) → bytes ≡ 0 ∷ rest → Fronts (AreFields no_fields last) bytes rest
no_field last bytes rest e = record { text = 0 ∷ []; parts = e; holds = refl }

-- a number of 32 bits, whose id is one more than the last
pub short_first : (last : ℕ) (z : ℤ) (fs : Fields) (bytes middle rest : List ℕ) → last < 100 → FrontsBehind 21 (IsShort z) bytes middle → Fronts (AreFields fs (pos (suc last))) middle rest → Fronts (AreFields (field (pos (suc last)) (int32 z) fs) (pos last)) bytes rest
short_first last z fs bytes middle rest h b f =
    let near : is_id (pos (suc last)) ≡ true = lt-ltb (suc last) (2 ^ 15) (omega (arith, h)) in
    let next : pos (suc last) ≡ pos last +ℤ pos 1 = let e : suc last ≡ last + 1 = omega arith in ap pos e in
    field_first (pos last) (pos (suc last)) 21 kinds.I32 (int32 z) fs bytes middle rest (head (pos last) (pos (suc last)) 21 kinds.I32 refl (λ e. omega (arith, e)) next near) (record { middle = b.middle; parts = b.parts; fronts = record { text = b.fronts.text; parts = b.fronts.parts; holds = (refl, b.fronts.holds) } }) f

-- ---- values that are passed over

pub truth_value : (number : ℕ) (kind : Kind) (v : Value) (bytes : List ℕ) → kind_of number ≡ Some kind → InField v (IsElement v) kind [] → depth v ≤ 1 → FrontsValue number bytes bytes
truth_value number kind v bytes k i d = record { value = v; kind = kind; known = k; fronts = record { text = []; parts = refl; holds = i }; flat = d }

pub long_value : (n : ℕ) (bytes rest : List ℕ) → Fronts (λ t. IsNumber t n) bytes rest → FrontsValue 6 bytes rest
long_value n bytes rest f = record { value = int64 (unzigzag n); kind = kinds.I64; known = refl; fronts = record { text = f.text; parts = f.parts; holds = (refl, record { n = n; number = f.holds; fits = f.holds.below; is = refl }) }; flat = omega arith }

pub text_value : (s : List ℕ) (bytes rest : List ℕ) → Fronts (λ t. IsBinary t s) bytes rest → FrontsValue 8 bytes rest
text_value s bytes rest f = record { value = binary s; kind = kinds.Binary; known = refl; fronts = record { text = f.text; parts = f.parts; holds = (refl, f.holds) }; flat = omega arith }

pub text_fronts : (n : ℕ) (bytes middle : List ℕ) → Fronts (λ t. IsNumber t n) bytes middle → n ≤ length middle → Fronts (λ t. IsBinary t (take n middle)) bytes (drop n middle)
text_fronts n bytes middle f h =
    let size : n ≡ length (take n middle) = omega (arith, length-take n middle, h) in
    record {
      text = f.text ++ take n middle;
      parts = f.parts ∙ ap (λ (t : List ℕ). f.text ++ t) (sym (take-append-drop n middle)) ∙ sym (append_assoc f.text (take n middle) (drop n middle));
      holds = (f.text, subst (λ (k : ℕ). IsNumber f.text k) size f.holds, refl);
    }

-- ---- fields that are passed over

pub ends_here : (last d : ℕ) (bytes rest : List ℕ) → bytes ≡ 0 ∷ rest → FrontsFields last d bytes rest
ends_here last d bytes rest e = record { fields = no_fields; fronts = no_field (pos last) bytes rest e; shallow = omega arith }

pub goes_on : (last byte : ℕ) (bytes middle after rest : List ℕ) → last ≤ 100 → 16 ≤ byte → byte < 256 → bytes ≡ byte ∷ middle → FrontsValue (byte % 16) middle after → FrontsFields (last + byte / 16) 1 after rest → FrontsFields last 1 bytes rest
goes_on last byte bytes middle after rest h low high e v f =
    let id = last + byte / 16 in
    let near : is_id (pos id) ≡ true = lt-ltb id (2 ^ 15) (omega (arith, h, high)) in
    let far : byte / 16 ≢ 0 = λ z. omega (arith, z, low) in
    record {
      fields = field (pos id) v.value f.fields;
      fronts = field_first (pos last) (pos id) byte v.kind v.value f.fields bytes after rest (head (pos last) (pos id) byte v.kind v.known far refl near) (record { middle = middle; parts = e; fronts = v.fronts }) f.fronts;
      shallow = omega (arith, v.flat, f.shallow);
    }

-- ---- statistics

pub no_last : (bytes rest : List ℕ) → bytes ≡ 0 ∷ rest → FrontsLast bytes rest
no_last bytes rest e = record { inner = None; fronts = no_field (pos 4) bytes rest e; shallow = omega arith }

-- a struct in a field whose head is one byte
pub struct_first : (last id : ℤ) (byte : ℕ) (inner fs : Fields) (bytes middle after rest : List ℕ) → IsFieldHead last (byte ∷ []) id kinds.Struct → bytes ≡ byte ∷ middle → Fronts (AreFields inner (pos 0)) middle after → Fronts (AreFields fs id) after rest → Fronts (AreFields (field id (struct inner) fs) last) bytes rest
struct_first last id byte inner fs bytes middle after rest h e s f =
    field_first last id byte kinds.Struct (struct inner) fs bytes after rest h (record { middle = middle; parts = e; fronts = record { text = s.text; parts = s.parts; holds = (refl, s.holds) } }) f

pub some_last : (bytes middle after rest : List ℕ) → bytes ≡ 28 ∷ middle → FrontsFields 0 1 middle after → after ≡ 0 ∷ rest → FrontsLast bytes rest
some_last bytes middle after rest e f z =
    record {
      inner = Some f.fields;
      fronts = struct_first (pos 4) (pos 5) 28 f.fields no_fields bytes middle after rest (head (pos 4) (pos 5) 28 kinds.Struct refl (λ e. omega (arith, e)) refl refl) e f.fronts (no_field (pos 5) after rest z);
      shallow = omega (arith, f.shallow);
    }

-- ---- the header of a data page

-- the struct's fields
data_fields : ℤ → ℤ → ℤ → ℤ → Option Fields → Fields
data_fields n e d r s = field (pos 1) (int32 n) (field (pos 2) (int32 e) (field (pos 3) (int32 d) (field (pos 4) (int32 r) (last_struct s))))

data_has : (n e d r : ℤ) (s : Option Fields) → pos 0 ≤ℤ n → HasDataHeader (data_fields n e d r s) (record { num_values = natural_part n; encoding = e; definition_encoding = Some d; repetition_encoding = Some r })
unfolding data_fields
data_has n e d r None h = record { num_values = ap (λ (z : ℤ). Some (int32 z)) (natural n h); encoding = refl; definition_encoding = refl; repetition_encoding = refl }
data_has n e d r (Some fs) h = record { num_values = ap (λ (z : ℤ). Some (int32 z)) (natural n h); encoding = refl; definition_encoding = refl; repetition_encoding = refl }

pub data_says : (n e d r : ℤ) (a b c m p rest : List ℕ) → pos 0 ≤ℤ n → FrontsBehind 21 (IsShort n) a b → FrontsBehind 21 (IsShort e) b c → FrontsBehind 21 (IsShort d) c m → FrontsBehind 21 (IsShort r) m p → FrontsLast p rest → FrontsSaying HasDataHeader 2 (record { num_values = natural_part n; encoding = e; definition_encoding = Some d; repetition_encoding = Some r }) a rest
unfolding data_fields
data_says n e d r a b c m p rest h fn fe fd fr l =
    let s = last_struct l.inner in
    let four = short_first 3 r s m p rest (omega arith) fr l.fronts in
    let three = short_first 2 d (field (pos 4) (int32 r) s) c m rest (omega arith) fd four in
    let two = short_first 1 e (field (pos 3) (int32 d) (field (pos 4) (int32 r) s)) b c rest (omega arith) fe three in
    record {
      fields = data_fields n e d r l.inner;
      fronts = short_first 0 n (field (pos 2) (int32 e) (field (pos 3) (int32 d) (field (pos 4) (int32 r) s))) a b rest (omega arith) fn two;
      shallow = omega (arith, l.shallow);
      says = data_has n e d r l.inner h;
    }

-- how many bytes stand in front
front_length : (text rest bytes : List ℕ) → bytes ≡ text ++ rest → take (length bytes - length rest) bytes ≡ text
front_length text rest bytes e =
    let size : length text ≡ length bytes - length rest = omega (arith, ap length e, length-append text rest) in
    subst (λ (t : List ℕ). take (length bytes - length rest) t ≡ text) (sym e) (take_at text rest (length bytes - length rest) size)

zero_short : IsShort (pos 0) (0 ∷ [])
zero_short = record { n = 0; number = record { digits = inl (omega arith, refl, refl); short = omega arith; below = omega arith }; fits = omega arith; is = refl }

pub header_stands : (h : DataHeader) (u : ℤ) (size : ℕ) (a b c d e f g rest : List ℕ) → a ≡ 21 ∷ b → b ≡ 0 ∷ c → FrontsBehind 21 (IsShort u) c d → FrontsBehind 21 (IsShort (pos size)) d e → e ≡ 44 ∷ f → FrontsSaying HasDataHeader 2 h f g → g ≡ 0 ∷ rest → IsHeaderText (take (length a - length rest) a) (record { header = data_page h; size = size })
header_stands h u size a b c d e f g rest ab bc cu ds ef fg z =
    let end = no_field (pos 5) g rest z in
    let five = struct_first (pos 3) (pos 5) 44 fg.fields no_fields e f g rest (head (pos 3) (pos 5) 44 kinds.Struct refl (λ e. omega (arith, e)) refl refl) ef fg.fronts end in
    let three = short_first 2 (pos size) (field (pos 5) (struct fg.fields) no_fields) d e rest (omega arith) ds five in
    let two = short_first 1 u (field (pos 3) (int32 (pos size)) (field (pos 5) (struct fg.fields) no_fields)) c d rest (omega arith) cu three in
    let first : FrontsBehind 21 (IsShort (pos 0)) a c = record { middle = b; parts = ab; fronts = record { text = 0 ∷ []; parts = bc; holds = zero_short } } in
    let all = short_first 0 (pos 0) (field (pos 2) (int32 u) (field (pos 3) (int32 (pos size)) (field (pos 5) (struct fg.fields) no_fields))) a c rest (omega arith) first two in
    let fields = field (pos 1) (int32 (pos 0)) (field (pos 2) (int32 u) (field (pos 3) (int32 (pos size)) (field (pos 5) (struct fg.fields) no_fields))) in
    subst (λ (t : List ℕ). IsHeaderText t (record { header = data_page h; size = size })) (sym (front_length all.text rest a all.parts)) (struct fields, (refl, all.holds), omega (arith, fg.shallow), record { header = (refl, fg.fields, refl, fg.says); uncompressed = (Some u, refl); size = refl })

-- ---- a header that stands in front

pub stands_alone : (bytes : List ℕ) (n : ℕ) (h : PageHeader) → IsHeaderText (take n bytes) h → ¬ HasNone (Begins IsHeaderText bytes)
stands_alone bytes n h s none = none h (record { text = take n bytes; rest = drop n bytes; parts = sym (take-append-drop n bytes); spells = s })

pub of_known_type : (bytes : List ℕ) (n : ℕ) (h : PageHeader) → IsHeaderText (take n bytes) h → ¬ IsOfOtherType bytes
of_known_type bytes n h s o =
    let same = same_reading o.spells.text (take n bytes) o.spells.rest (drop n bytes) (struct o.fields) s.0 o.spells.spells s.1 (sym o.spells.parts ∙ sym (take-append-drop n bytes)) in
    known s.0 h s.3 o.type (subst (λ (v : Value). SpellsOtherType v o.type) same.1 (o.has_type, o.other))
