-- Values of a list one behind the other, and a list as a field.
use Rattle.std.proofs.Common.{map as list_map, ◌≡◌, ℕ, suc, ℤ, pos, ◌+◌, ◌/◌, ◌%◌, ◌^◌, ◌-◌, ◌<◌, ◌≤◌, List, [], ◌∷◌, ◌++◌, length, refl, sym, ap, subst, zero, ◌∙◌, append_assoc, inl, inr, arith}
use Rattle.std.proofs.lemmas.List.{length-append, append-nil}
use Rattle.pq_numbers.specs.Varint.{IsNumber}
use Rattle.pq_numbers.specs.Zigzag.{unzigzag}
use Rattle.pq_thrift.specs.declared.kind.Kind.{Kind}
use Rattle.pq_thrift.specs.declared.kind.Kind.TheVariants as kinds
use Rattle.pq_thrift.specs.Grammar.{IsListHead, IsBinary, IsMapHead, IsFieldHead, InField, IsNumbered, IsElement, AreElements, ArePairs, AreFields, count, pair_count, depth, values_depth, pairs_depth, fields_depth}
use Rattle.pq_thrift.specs.Value.{Value, truth, int8, int16, int32, int64, double, binary, list, set, map, struct, Values, no_values, value, Pairs, no_pairs, pair, Fields, no_fields, field}
use Rattle.pq_metadata.specs.Ids.{Each}
use Rattle.pq_container.specs.Ahead.{Fronts, FrontsBehind, FrontsStruct, FrontsValues}
use Rattle.pq_container.proofs.Fronts.{field_first}

-- ---- one more value behind some

more : Values → Value → Values
more no_values v = value v no_values
more (value w ws) v = value w (more ws v)

more_count : (vs : Values) (v : Value) → count (more vs v) ≡ suc (count vs)
unfolding more
more_count no_values v = refl
more_count (value w ws) v = ap suc (more_count ws v)

more_depth : (vs : Values) (v : Value) (d : ℕ) → values_depth vs ≤ d → depth v ≤ d → values_depth (more vs v) ≤ d
unfolding more
more_depth no_values v d h g = omega (arith, h, g)
more_depth (value w ws) v d h g =
    let others = more_depth ws v d (omega (arith, h)) g in
    omega (arith, h, others)

more_spells : (vs : Values) (v : Value) (number : ℕ) (a b : List ℕ) → AreElements vs number a → IsNumbered number (IsElement v) b → AreElements (more vs v) number (a ++ b)
unfolding more
more_spells no_values v number a b h g = (b, [], g, refl, ap (λ (t : List ℕ). t ++ b) h ∙ sym (append-nil b))
more_spells (value w ws) v number a b h g =
    let others = more_spells ws v number h.1 b h.3 g in
    (h.0, h.1 ++ b, h.2, others, ap (λ (t : List ℕ). t ++ b) h.4 ∙ append_assoc h.0 h.1 b)

more_each : {A : Type 0} (R : Value → A → Type 0) (vs : Values) (v : Value) (xs : List A) (a : A) → Each R vs xs → R v a → Each R (more vs v) (xs ++ a ∷ [])
unfolding more
more_each R no_values v [] a h g = (g, tt)
more_each R no_values v (b ∷ xs) a h g = absurd h
more_each R (value w ws) v [] a h g = absurd h
more_each R (value w ws) v (b ∷ xs) a h g = (h.0, more_each R ws v xs a h.1 g)

pub none_yet : {A : Type 0} (Says : Value → A → Type 0) (number d : ℕ) (bytes : List ℕ) → FrontsValues Says number d 0 [] bytes bytes
none_yet Says number d bytes = record { values = no_values; many = refl; fronts = record { text = []; parts = refl; holds = refl }; shallow = omega arith; are = tt }

-- a struct behind some
pub one_more : {A : Type 0} (Says : Value → A → Type 0) (d n : ℕ) (xs : List A) (a : A) (bytes middle rest : List ℕ) → FrontsValues Says 12 d n xs bytes middle → FrontsStruct Says d a middle rest → FrontsValues Says 12 d (n + 1) (xs ++ a ∷ []) bytes rest
one_more Says d n xs a bytes middle rest f s =
    record {
      values = more f.values s.value;
      many = more_count f.values s.value ∙ ap suc f.many ∙ (let e : suc n ≡ n + 1 = omega arith in e);
      fronts = record {
        text = f.fronts.text ++ s.fronts.text;
        parts = f.fronts.parts ∙ ap (λ (t : List ℕ). f.fronts.text ++ t) s.fronts.parts ∙ sym (append_assoc f.fronts.text s.fronts.text rest);
        holds = more_spells f.values s.value 12 f.fronts.text s.fronts.text f.fronts.holds (kinds.Struct, refl, s.fronts.holds);
      };
      shallow = more_depth f.values s.value d f.shallow s.shallow;
      are = more_each Says f.values s.value xs a f.are s.says;
    }

map_more : {A B : Type 0} (see : B → A) (xs : List B) (x : B) → list_map see (xs ++ x ∷ []) ≡ list_map see xs ++ see x ∷ []
map_more see [] x = refl
map_more see (y ∷ ys) x = ap (λ zs. see y ∷ zs) (map_more see ys x)

-- the same of what stands for some items
pub one_seen : {A B : Type 0} (Says : Value → A → Type 0) (see : B → A) (d n : ℕ) (xs : List B) (x : B) (bytes middle rest : List ℕ) → FrontsValues Says 12 d n (list_map see xs) bytes middle → FrontsStruct Says d (see x) middle rest → FrontsValues Says 12 d (n + 1) (list_map see (xs ++ x ∷ [])) bytes rest
one_seen Says see d n xs x bytes middle rest f s =
    subst (λ zs. FrontsValues Says 12 d (n + 1) zs bytes rest) (sym (map_more see xs x)) (one_more Says d n (list_map see xs) (see x) bytes middle rest f s)

-- as many as there are to be
pub all_seen : {A : Type 0} (Says : Value → A → Type 0) (d n m : ℕ) (xs : List A) (bytes rest : List ℕ) → n ≡ m → FrontsValues Says 12 d n xs bytes rest → FrontsValues Says 12 d m xs bytes rest
all_seen Says d n m xs bytes rest e f = subst (λ (k : ℕ). FrontsValues Says 12 d k xs bytes rest) e f

-- a value in front of others
pub one_first : {A : Type 0} (Says : Value → A → Type 0) (number d n : ℕ) (v : Value) (a : A) (xs : List A) (bytes middle rest : List ℕ) → Fronts (IsNumbered number (IsElement v)) bytes middle → depth v ≤ d → Says v a → FrontsValues Says number d n xs middle rest → FrontsValues Says number d (suc n) (a ∷ xs) bytes rest
one_first Says number d n v a xs bytes middle rest f h s g =
    record {
      values = value v g.values;
      many = ap suc g.many;
      fronts = record {
        text = f.text ++ g.fronts.text;
        parts = f.parts ∙ ap (λ (t : List ℕ). f.text ++ t) g.fronts.parts ∙ sym (append_assoc f.text g.fronts.text rest);
        holds = (f.text, g.fronts.text, f.holds, g.fronts.holds, refl);
      };
      shallow = omega (arith, h, g.shallow);
      are = (s, g.are);
    }

pub numbers_more : (m n : ℕ) (zs : List ℤ) (bytes middle rest : List ℕ) → 1 ≤ m → n < 2 ^ 32 → Fronts (λ t. IsNumber t n) bytes middle → FrontsValues (λ v z. v ≡ int32 z) 5 1 (m - 1) zs middle rest → FrontsValues (λ v z. v ≡ int32 z) 5 1 m (unzigzag n ∷ zs) bytes rest
numbers_more m n zs bytes middle rest some h f g =
    let more = one_first (λ v z. v ≡ int32 z) 5 1 (m - 1) (int32 (unzigzag n)) (unzigzag n) zs bytes middle rest (record { text = f.text; parts = f.parts; holds = (kinds.I32, refl, (refl, record { n = n; number = f.holds; fits = h; is = refl })) }) (omega arith) refl g in
    let same : suc (m - 1) ≡ m = omega (arith, some) in
    subst (λ (k : ℕ). FrontsValues (λ v z. v ≡ int32 z) 5 1 k (unzigzag n ∷ zs) bytes rest) same more

pub texts_more : (m : ℕ) (s : List ℕ) (ts : List (List ℕ)) (bytes middle rest : List ℕ) → 1 ≤ m → Fronts (λ t. IsBinary t s) bytes middle → FrontsValues (λ v s. v ≡ binary s) 8 1 (m - 1) ts middle rest → FrontsValues (λ v s. v ≡ binary s) 8 1 m (s ∷ ts) bytes rest
texts_more m s ts bytes middle rest some f g =
    let more = one_first (λ v s. v ≡ binary s) 8 1 (m - 1) (binary s) s ts bytes middle rest (record { text = f.text; parts = f.parts; holds = (kinds.Binary, refl, (refl, f.holds)) }) (omega arith) refl g in
    let same : suc (m - 1) ≡ m = omega (arith, some) in
    subst (λ (k : ℕ). FrontsValues (λ v s. v ≡ binary s) 8 1 k (s ∷ ts) bytes rest) same more

-- ---- a list as a field

pub list_first : (last id : ℤ) (byte number n : ℕ) (vs : Values) (fs : Fields) (bytes elements after rest : List ℕ) → IsFieldHead last (byte ∷ []) id kinds.List → FrontsBehind byte (λ t. IsListHead t number n) bytes elements → count vs ≡ n → Fronts (AreElements vs number) elements after → Fronts (AreFields fs id) after rest → Fronts (AreFields (field id (list number vs) fs) last) bytes rest
list_first last id byte number n vs fs bytes elements after rest h b c g r =
    let f = b.fronts in
    field_first last id byte kinds.List (list number vs) fs bytes after rest h
    (record {
      middle = b.middle;
      parts = b.parts;
      fronts = record {
        text = f.text ++ g.text;
        parts = f.parts ∙ ap (λ (t : List ℕ). f.text ++ t) g.parts ∙ sym (append_assoc f.text g.text after);
        holds = (refl, f.text, g.text, subst (λ (k : ℕ). IsListHead f.text number k) (sym c) f.holds, g.holds, refl);
      };
    })
    r

pub short_list : (kind byte : ℕ) (bytes rest : List ℕ) → byte % 16 ≡ kind → byte < 240 → bytes ≡ byte ∷ rest → Fronts (λ t. IsListHead t kind (byte / 16)) bytes rest
short_list kind byte bytes rest k h e = record { text = byte ∷ []; parts = e; holds = record { byte = byte; tail = []; parts = refl; low = k; count = inr ((λ z. omega (arith, z, h)), refl, refl) } }

pub long_list : (kind byte n : ℕ) (bytes middle rest : List ℕ) → byte % 16 ≡ kind → 240 ≤ byte → byte < 256 → bytes ≡ byte ∷ middle → Fronts (λ t. IsNumber t n) middle rest → Fronts (λ t. IsListHead t kind n) bytes rest
long_list kind byte n bytes middle rest k l h e f =
    let high : byte / 16 ≡ 15 = omega (arith, l, h) in
    record { text = byte ∷ f.text; parts = e ∙ ap (λ (t : List ℕ). byte ∷ t) f.parts; holds = record { byte = byte; tail = f.text; parts = refl; low = k; count = inl (high, f.holds) } }

-- ---- a struct nests no deeper than its text is long

number_long : (text : List ℕ) (n : ℕ) → IsNumber text n → 1 ≤ length text
number_long [] n h = absurd h.digits
number_long (b ∷ bytes) n h = omega arith

map_head_long : (text : List ℕ) (key_number number n : ℕ) → IsMapHead text key_number number n → 1 ≤ length text
map_head_long text key_number number zero h = number_long text 0 h.2
map_head_long text key_number number (suc n) h = omega (arith, ap length h.parts, length-append h.size (h.byte ∷ []))

-- A truth value stands in the head of its field.
in_field_deep : (v : Value) (kind : Kind) (text : List ℕ) → (IsElement v kind text → depth v ≤ length text) → InField v (IsElement v) kind text → depth v ≤ suc (length text)
in_field_deep (truth b) kind text f h = omega arith
in_field_deep (int8 z) kind text f h = omega (arith, f h)
in_field_deep (int16 z) kind text f h = omega (arith, f h)
in_field_deep (int32 z) kind text f h = omega (arith, f h)
in_field_deep (int64 z) kind text f h = omega (arith, f h)
in_field_deep (double s) kind text f h = omega (arith, f h)
in_field_deep (binary s) kind text f h = omega (arith, f h)
in_field_deep (list number vs) kind text f h = omega (arith, f h)
in_field_deep (set number vs) kind text f h = omega (arith, f h)
in_field_deep (map key_number number ps) kind text f h = omega (arith, f h)
in_field_deep (struct fs) kind text f h = omega (arith, f h)

mutual
  pub value_deep : (v : Value) (kind : Kind) (text : List ℕ) → IsElement v kind text → depth v ≤ length text
  value_deep (truth b) kind text h = omega (arith, ap length h.2)
  value_deep (int8 z) kind text h = omega (arith, ap length h.2)
  value_deep (int16 z) kind text h = number_long text h.1.n h.1.number
  value_deep (int32 z) kind text h = number_long text h.1.n h.1.number
  value_deep (int64 z) kind text h = number_long text h.1.n h.1.number
  value_deep (double s) kind text h = omega (arith, h.1, ap length h.2)
  value_deep (binary s) kind text h = omega (arith, number_long h.1.0 (length s) h.1.1, ap length h.1.2, length-append h.1.0 s)
  value_deep (list number vs) kind text h = omega (arith, ap length h.3.parts, values_deep vs number h.2 h.4, ap length h.5, length-append h.1 h.2)
  value_deep (set number vs) kind text h = omega (arith, ap length h.3.parts, values_deep vs number h.2 h.4, ap length h.5, length-append h.1 h.2)
  value_deep (map key_number number ps) kind text h = omega (arith, map_head_long h.1 key_number number (pair_count ps) h.3, pairs_deep ps key_number number h.2 h.4, ap length h.5, length-append h.1 h.2)
  value_deep (struct fs) kind text h = fields_deep fs (pos 0) text h.1

  values_deep : (vs : Values) (number : ℕ) (text : List ℕ) → AreElements vs number text → values_depth vs ≤ length text
  values_deep no_values number text h = omega arith
  values_deep (value v vs) number text h = omega (arith, value_deep v h.2.0 h.0 h.2.2, values_deep vs number h.1 h.3, ap length h.4, length-append h.0 h.1)

  pairs_deep : (ps : Pairs) (key_number number : ℕ) (text : List ℕ) → ArePairs ps key_number number text → pairs_depth ps ≤ length text
  pairs_deep no_pairs key_number number text h = omega arith
  pairs_deep (pair k v ps) key_number number text h = omega (arith, value_deep k h.3.0 h.0 h.3.2, value_deep v h.4.0 h.1 h.4.2, pairs_deep ps key_number number h.2 h.5, ap length h.6, length-append h.0 (h.1 ++ h.2), length-append h.1 h.2)

  fields_deep : (fs : Fields) (last : ℤ) (text : List ℕ) → AreFields fs last text → suc (fields_depth fs) ≤ length text
  fields_deep no_fields last text h = omega (arith, ap length h)
  fields_deep (field id v fs) last text h = omega (arith, ap length h.4.parts, in_field_deep v h.0 h.2 (value_deep v h.0 h.2) h.5, fields_deep fs id h.3 h.6, ap length h.7, length-append h.1 (h.2 ++ h.3), length-append h.2 h.3)
