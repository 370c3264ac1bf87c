-- The page header that a value spells, as a function and as a relation.
use Rattle.std.proofs.Common.{◌≡◌, ℕ, ℤ, pos, negsuc, Bool, true, false, cond, Option, Some, None, option_map, refl, ap, subst, inl, inr, ◌∙◌}
use Rattle.std.specs.Prelude.{◌⊎◌}
use Rattle.std.proofs.lemmas.Bool.{eqb-true}
use Rattle.pq_thrift.specs.Value.{Value, int32, struct, Fields}
use Rattle.pq_metadata.specs.Header.{DataHeader, DataHeader2, DictionaryHeader, Header, data_page, data_page_2, dictionary_page, PageHeader, HasDataHeader, HasDataHeader2, HasDictionaryHeader, HasHeader, HasPageHeader, SpellsHeader}
use Rattle.pq_metadata.specs.Ids.{get, is_number}
use Rattle.pq_metadata.specs.Kinds.{int32_in, struct_in}
use Rattle.pq_pages.specs.Headers.{◌>>=◌, natural_in, needed, optional, if_there, data_header_of, data_header_2_of, dictionary_header_of, header_of_type, page_header_of}

-- ---- options

or_that : {A : Type 0} → A → Option A → A
or_that a (Some b) = b
or_that a None = a

some_same : {A : Type 0} (a b : A) → Some a ≡ Some b → a ≡ b
unfolding or_that
some_same a b e = ap (or_that a) e

record Bound {A B : Type 0} (o : Option A) (f : A → Option B) (b : B) : Type 0 where
  «value» : A
  is : o ≡ Some «value»
  gives : f «value» ≡ Some b

bound : {A B : Type 0} (o : Option A) (f : A → Option B) (b : B) → o >>= f ≡ Some b → Bound o f b
bound (Some a) f b e = record { «value» = a; is = refl; gives = e }
bound None f b e = cc e

-- ---- fields

natural_at : (v : Value) (n : ℕ) → natural_in v ≡ Some n → v ≡ int32 (pos n)
natural_at (int32 (pos m)) n e = ap (λ (k : ℕ). int32 (pos k)) (some_same m n e)
natural_at _ n e = cc e

int32_at : (v : Value) (z : ℤ) → int32_in v ≡ Some z → v ≡ int32 z
int32_at (int32 y) z e = ap int32 (some_same y z e)
int32_at _ z e = cc e

struct_at : (v : Value) (fs : Fields) → struct_in v ≡ Some fs → v ≡ struct fs
struct_at (struct gs) fs e = ap struct (some_same gs fs e)
struct_at _ fs e = cc e

natural_is : (o : Option Value) (n : ℕ) → o >>= natural_in ≡ Some n → o ≡ Some (int32 (pos n))
natural_is (Some v) n e = ap Some (natural_at v n e)
natural_is None n e = cc e

pub int32_is : (o : Option Value) (z : ℤ) → o >>= int32_in ≡ Some z → o ≡ Some (int32 z)
int32_is (Some v) z e = ap Some (int32_at v z e)
int32_is None z e = cc e

struct_is : (o : Option Value) (fs : Fields) → o >>= struct_in ≡ Some fs → o ≡ Some (struct fs)
struct_is (Some v) fs e = ap Some (struct_at v fs e)
struct_is None fs e = cc e

optional_is : (o : Option Value) (x : Option ℤ) → if_there int32_in o ≡ Some x → o ≡ option_map int32 x
optional_is None x e = ap (option_map int32) (some_same None x e)
optional_is (Some v) x e =
    let b = bound (int32_in v) (λ a. Some (Some a)) x e in
    ap Some (int32_at v b.«value» b.is) ∙ ap (option_map int32) (some_same (Some b.«value») x b.gives)

there : (x : Option ℤ) → if_there int32_in (option_map int32 x) ≡ Some x
there None = refl
there (Some z) = refl

-- ---- what the function finds is spelled

data_found : (fs : Fields) (h : DataHeader) → data_header_of fs ≡ Some h → HasDataHeader fs h
unfolding data_header_of
data_found fs h e =
    let n = bound (needed natural_in 1 fs) _ h e in
    let c = bound (needed int32_in 2 fs) _ h n.gives in
    let d = bound (optional int32_in 3 fs) _ h c.gives in
    let r = bound (optional int32_in 4 fs) _ h d.gives in
    subst (HasDataHeader fs) (some_same _ h r.gives) (record {
      num_values = natural_is (get 1 fs) n.«value» n.is;
      encoding = int32_is (get 2 fs) c.«value» c.is;
      definition_encoding = optional_is (get 3 fs) d.«value» d.is;
      repetition_encoding = optional_is (get 4 fs) r.«value» r.is;
    })

data_2_found : (fs : Fields) (h : DataHeader2) → data_header_2_of fs ≡ Some h → HasDataHeader2 fs h
unfolding data_header_2_of
data_2_found fs h e =
    let n = bound (needed natural_in 1 fs) _ h e in
    let z = bound (optional int32_in 2 fs) _ h n.gives in
    let k = bound (needed natural_in 3 fs) _ h z.gives in
    let c = bound (needed int32_in 4 fs) _ h k.gives in
    let d = bound (needed natural_in 5 fs) _ h c.gives in
    let r = bound (needed natural_in 6 fs) _ h d.gives in
    subst (HasDataHeader2 fs) (some_same _ h r.gives) (record {
      num_values = natural_is (get 1 fs) n.«value» n.is;
      num_nulls = (z.«value», optional_is (get 2 fs) z.«value» z.is);
      num_rows = natural_is (get 3 fs) k.«value» k.is;
      encoding = int32_is (get 4 fs) c.«value» c.is;
      definition_length = natural_is (get 5 fs) d.«value» d.is;
      repetition_length = natural_is (get 6 fs) r.«value» r.is;
    })

dictionary_found : (fs : Fields) (h : DictionaryHeader) → dictionary_header_of fs ≡ Some h → HasDictionaryHeader fs h
unfolding dictionary_header_of
dictionary_found fs h e =
    let n = bound (needed natural_in 1 fs) _ h e in
    let c = bound (needed int32_in 2 fs) _ h n.gives in
    subst (HasDictionaryHeader fs) (some_same _ h c.gives) (record { num_values = natural_is (get 1 fs) n.«value» n.is; encoding = int32_is (get 2 fs) c.«value» c.is })

pub number_is : (t : ℤ) (n : ℕ) → is_number t n ≡ true → t ≡ pos n
number_is (pos m) n e = ap (λ (k : ℕ). pos k) (eqb-true m n e)
number_is (negsuc m) n e = cc e

-- a choice that was made
chosen : {A : Type 0} (b : Bool) (x y z : A) → cond b x y ≡ z → ((b ≡ true) × (x ≡ z)) ⊎ ((b ≡ false) × (y ≡ z))
chosen true x y z e = inl (refl, e)
chosen false x y z e = inr (refl, e)

type_is : (fs : Fields) (t : ℤ) (n : ℕ) → needed int32_in 1 fs ≡ Some t → is_number t n ≡ true → get 1 fs ≡ Some (int32 (pos n))
type_is fs t n has is = int32_is (get 1 fs) t has ∙ ap (λ (z : ℤ). Some (int32 z)) (number_is t n is)

data_part : (fs : Fields) (h : Header) → needed struct_in 5 fs >>= (λ inner. data_header_of inner >>= λ k. Some (data_page k)) ≡ Some h → get 1 fs ≡ Some (int32 (pos 0)) → HasHeader fs h
data_part fs h e is =
    let inner = bound (needed struct_in 5 fs) _ h e in
    let k = bound (data_header_of inner.«value») _ h inner.gives in
    subst (HasHeader fs) (some_same (data_page k.«value») h k.gives) (is, inner.«value», struct_is (get 5 fs) inner.«value» inner.is, data_found inner.«value» k.«value» k.is)

dictionary_part : (fs : Fields) (h : Header) → needed struct_in 7 fs >>= (λ inner. dictionary_header_of inner >>= λ k. Some (dictionary_page k)) ≡ Some h → get 1 fs ≡ Some (int32 (pos 2)) → HasHeader fs h
dictionary_part fs h e is =
    let inner = bound (needed struct_in 7 fs) _ h e in
    let k = bound (dictionary_header_of inner.«value») _ h inner.gives in
    subst (HasHeader fs) (some_same (dictionary_page k.«value») h k.gives) (is, inner.«value», struct_is (get 7 fs) inner.«value» inner.is, dictionary_found inner.«value» k.«value» k.is)

data_2_part : (fs : Fields) (h : Header) → needed struct_in 8 fs >>= (λ inner. data_header_2_of inner >>= λ k. Some (data_page_2 k)) ≡ Some h → get 1 fs ≡ Some (int32 (pos 3)) → HasHeader fs h
data_2_part fs h e is =
    let inner = bound (needed struct_in 8 fs) _ h e in
    let k = bound (data_header_2_of inner.«value») _ h inner.gives in
    subst (HasHeader fs) (some_same (data_page_2 k.«value») h k.gives) (is, inner.«value», struct_is (get 8 fs) inner.«value» inner.is, data_2_found inner.«value» k.«value» k.is)

header_found : (fs : Fields) (t : ℤ) (h : Header) → needed int32_in 1 fs ≡ Some t → header_of_type t fs ≡ Some h → HasHeader fs h
header_found fs t h has e =
    elim (chosen (is_number t 0) _ _ (Some h) e) [
      | inl x ↦ data_part fs h x.1 (type_is fs t 0 has x.0)
      | inr y ↦
          elim (chosen (is_number t 2) _ _ (Some h) y.1) [
            | inl x ↦ dictionary_part fs h x.1 (type_is fs t 2 has x.0)
            | inr z ↦
                elim (chosen (is_number t 3) _ _ (Some h) z.1) [
                  | inl x ↦ data_2_part fs h x.1 (type_is fs t 3 has x.0)
                  | inr w ↦ cc w.1
                ]
          ]
    ]

pub page_header_found : (v : Value) (h : PageHeader) → page_header_of v ≡ Some h → SpellsHeader v h
unfolding page_header_of
page_header_found (struct fs) h e =
    let t = bound (needed int32_in 1 fs) _ h e in
    let k = bound (header_of_type t.«value» fs) _ h t.gives in
    let z = bound (optional int32_in 2 fs) _ h k.gives in
    let n = bound (needed natural_in 3 fs) _ h z.gives in
    subst (HasPageHeader fs) (some_same _ h n.gives) (record {
      header = header_found fs t.«value» k.«value» t.is k.is;
      uncompressed = (z.«value», optional_is (get 2 fs) z.«value» z.is);
      size = natural_is (get 3 fs) n.«value» n.is;
    })
page_header_found _ h e = cc e

-- ---- and what is spelled it finds

data_told : (fs : Fields) (h : DataHeader) → HasDataHeader fs h → data_header_of fs ≡ Some h
unfolding data_header_of
data_told fs h x =
    let d : optional int32_in 3 fs ≡ Some h.definition_encoding = ap (if_there int32_in) x.definition_encoding ∙ there h.definition_encoding in
    let r : optional int32_in 4 fs ≡ Some h.repetition_encoding = ap (if_there int32_in) x.repetition_encoding ∙ there h.repetition_encoding in
    rw x.num_values (rw x.encoding (rw d (rw r refl)))

data_2_told : (fs : Fields) (h : DataHeader2) → HasDataHeader2 fs h → data_header_2_of fs ≡ Some h
unfolding data_header_2_of
data_2_told fs h x =
    let z : optional int32_in 2 fs ≡ Some x.num_nulls.0 = ap (if_there int32_in) x.num_nulls.1 ∙ there x.num_nulls.0 in
    rw x.num_values (rw z (rw x.num_rows (rw x.encoding (rw x.definition_length (rw x.repetition_length refl)))))

dictionary_told : (fs : Fields) (h : DictionaryHeader) → HasDictionaryHeader fs h → dictionary_header_of fs ≡ Some h
unfolding dictionary_header_of
dictionary_told fs h x = rw x.num_values (rw x.encoding refl)

-- the type that a header has, and what is found by it
record Typed (fs : Fields) (h : Header) : Type 0 where
  type : ℤ
  has : get 1 fs ≡ Some (int32 type)
  finds : header_of_type type fs ≡ Some h

typed : (fs : Fields) (h : Header) → HasHeader fs h → Typed fs h
typed fs (data_page h) x = record { type = pos 0; has = x.0; finds = rw x.2 (rw (data_told x.1 h x.3) refl) }
typed fs (dictionary_page h) x = record { type = pos 2; has = x.0; finds = rw x.2 (rw (dictionary_told x.1 h x.3) refl) }
typed fs (data_page_2 h) x = record { type = pos 3; has = x.0; finds = rw x.2 (rw (data_2_told x.1 h x.3) refl) }

pub page_header_told : (v : Value) (h : PageHeader) → SpellsHeader v h → page_header_of v ≡ Some h
unfolding page_header_of
page_header_told (struct fs) h x =
    let t = typed fs h.header x.header in
    let z : optional int32_in 2 fs ≡ Some x.uncompressed.0 = ap (if_there int32_in) x.uncompressed.1 ∙ there x.uncompressed.0 in
    rw t.has (rw t.finds (rw z (rw x.size refl)))
page_header_told _ h x = absurd x
