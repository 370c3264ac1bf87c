-- What is spelled can be written.
use Rattle.std.proofs.Common.{◌≡◌, ◌⊎◌, ℕ, ℤ, pos, ◌%◌, ◌<◌, Bool, true, false, cond, eqb, List, [], ◌∷◌, Option, Some, None, refl, sym, ap, ◌∙◌, inl, inr, arith}
use Rattle.std.proofs.lemmas.Bool.{eqb-true}
use Rattle.pq_thrift.specs.declared.kind.Kind.{Kind}
use Rattle.pq_thrift.specs.declared.kind.Kind.TheVariants as kinds
use Rattle.pq_thrift.specs.Kinds.{kind_of}
use Rattle.pq_thrift.specs.Value.{Value, truth, int8, int16, int32, int64, double, binary, list, set, map, struct, Values, no_values, value, Pairs, no_pairs, pair, Fields, no_fields, field}
use Rattle.pq_thrift.specs.Grammar.{InField, IsNumbered, IsElement, AreElements, ArePairs, AreFields, Spells}
use Rattle.pq_thrift.specs.Spelling.{number_of, IsOfType, IsStruct, IsWritable, AreWritable, ArePairsWritable, AreFieldsWritable}

-- ---- the number of a kind

-- the kinds that are left to try, and their numbers
abbrev pick : ℕ → List (ℕ × Kind) → Option Kind
pick n [] = None
pick n (p ∷ ps) = cond (eqb n p.0) (Some p.1) (pick n ps)

abbrev AreNumbered : List (ℕ × Kind) → Type 0
AreNumbered [] = Unit {0}
AreNumbered (p ∷ ps) = (number_of p.1 ≡ p.0) × AreNumbered ps

abbrev found_kind : Kind → Option Kind
found_kind k = Some k

tested : (b : Bool) (n j : ℕ) (kind k : Kind) (more : Option Kind) → eqb n j ≡ b → number_of kind ≡ j → cond b (found_kind kind) more ≡ Some k → (n ≡ number_of k) ⊎ (more ≡ Some k)
tested true n j kind k more test is e =
    let same : kind ≡ k = cc in
    inl (eqb-true n j test ∙ sym is ∙ ap number_of same)
tested false n j kind k more test is e = inr e

picked : (n : ℕ) (ps : List (ℕ × Kind)) (k : Kind) → AreNumbered ps → pick n ps ≡ Some k → n ≡ number_of k
picked n [] k h e = absurd cc
picked n (p ∷ ps) k h e = elim (tested (eqb n p.0) n p.0 p.1 k (pick n ps) refl h.0 e) [ inl here ↦ here | inr later ↦ picked n ps k h.1 later ]

abbrev all_kinds : List (ℕ × Kind)
all_kinds = (1, kinds.True) ∷ (2, kinds.False) ∷ (3, kinds.I8) ∷ (4, kinds.I16) ∷ (5, kinds.I32) ∷ (6, kinds.I64) ∷ (7, kinds.Double) ∷ (8, kinds.Binary) ∷ (9, kinds.List) ∷ (10, kinds.Set) ∷ (11, kinds.Map) ∷ (12, kinds.Struct) ∷ []

pub kind_number : (n : ℕ) (k : Kind) → kind_of n ≡ Some k → n ≡ number_of k
kind_number n k e = picked n all_kinds k (refl, (refl, (refl, (refl, (refl, (refl, (refl, (refl, (refl, (refl, (refl, (refl, tt)))))))))))) e

-- ---- values

type_of : (number : ℕ) (v : Value) (text : List ℕ) → IsNumbered number (IsElement v) text → IsOfType number v
type_of number (truth b) text h = elim h.2.0 [ inl e ↦ inl (kind_number number h.0 h.1 ∙ ap number_of e) | inr e ↦ inr (kind_number number h.0 h.1 ∙ ap number_of e) ]
type_of number (int8 z) text h = kind_number number h.0 h.1 ∙ ap number_of h.2.0
type_of number (int16 z) text h = kind_number number h.0 h.1 ∙ ap number_of h.2.0
type_of number (int32 z) text h = kind_number number h.0 h.1 ∙ ap number_of h.2.0
type_of number (int64 z) text h = kind_number number h.0 h.1 ∙ ap number_of h.2.0
type_of number (double s) text h = kind_number number h.0 h.1 ∙ ap number_of h.2.0
type_of number (binary s) text h = kind_number number h.0 h.1 ∙ ap number_of h.2.0
type_of number (list element vs) text h = kind_number number h.0 h.1 ∙ ap number_of h.2.0
type_of number (set element vs) text h = kind_number number h.0 h.1 ∙ ap number_of h.2.0
type_of number (map key element ps) text h = kind_number number h.0 h.1 ∙ ap number_of h.2.0
type_of number (struct fs) text h = kind_number number h.0 h.1 ∙ ap number_of h.2.0

-- a value in a field, where one in a list can be written
in_field : (v : Value) (kind : Kind) (text : List ℕ) → (IsElement v kind text → IsWritable v) → InField v (IsElement v) kind text → IsWritable v
in_field (truth b) kind text h is = tt
in_field (int8 z) kind text h is = tt
in_field (int16 z) kind text h is = tt
in_field (int32 z) kind text h is = tt
in_field (int64 z) kind text h is = tt
in_field (double s) kind text h is = tt
in_field (binary s) kind text h is = tt
in_field (list number vs) kind text h is = h is
in_field (set number vs) kind text h is = h is
in_field (map key_number number ps) kind text h is = h is
in_field (struct fs) kind text h is = h is

low_half : (byte number : ℕ) → byte % 16 ≡ number → number < 16
low_half byte number e = omega arith

mutual
  pub element_writable : (v : Value) (kind : Kind) (text : List ℕ) → IsElement v kind text → IsWritable v
  element_writable (truth b) kind text h = tt
  element_writable (int8 z) kind text h = tt
  element_writable (int16 z) kind text h = tt
  element_writable (int32 z) kind text h = tt
  element_writable (int64 z) kind text h = tt
  element_writable (double s) kind text h = tt
  element_writable (binary s) kind text h = tt
  element_writable (list number vs) kind text h = (low_half h.3.byte number h.3.low, values_writable vs number h.2 h.4)
  element_writable (set number vs) kind text h = (low_half h.3.byte number h.3.low, values_writable vs number h.2 h.4)
  element_writable (map key_number number no_pairs) kind text h = ((h.3.0, h.3.1), tt)
  element_writable (map key_number number (pair k v ps)) kind text h = (tt, pairs_writable (pair k v ps) key_number number h.2 h.4)
  element_writable (struct fs) kind text h = fields_writable fs (pos 0) text h.1

  values_writable : (vs : Values) (number : ℕ) (text : List ℕ) → AreElements vs number text → AreWritable vs number
  values_writable no_values number text h = tt
  values_writable (value v vs) number text h = (type_of number v h.0 h.2, element_writable v h.2.0 h.0 h.2.2, values_writable vs number h.1 h.3)

  pairs_writable : (ps : Pairs) (key_number number : ℕ) (text : List ℕ) → ArePairs ps key_number number text → ArePairsWritable ps key_number number
  pairs_writable no_pairs key_number number text h = tt
  pairs_writable (pair k v ps) key_number number text h = (type_of key_number k h.0 h.3, element_writable k h.3.0 h.0 h.3.2, type_of number v h.1 h.4, element_writable v h.4.0 h.1 h.4.2, pairs_writable ps key_number number h.2 h.5)

  fields_writable : (fs : Fields) (last : ℤ) (text : List ℕ) → AreFields fs last text → AreFieldsWritable fs
  fields_writable no_fields last text h = tt
  fields_writable (field id v fs) last text h = (in_field v h.0 h.2 (λ e. element_writable v h.0 h.2 e) h.5, fields_writable fs id h.3 h.6)

wrong : (k : Kind) → kinds.Struct ≡ k → (kinds.Struct ≡ k → ⊥) → ⊥
wrong k e other = other e

struct_only : (v : Value) (text : List ℕ) → Spells text v → IsStruct v
struct_only (truth b) text h = elim h.0 [ inl e ↦ absurd cc | inr e ↦ absurd cc ]
struct_only (int8 z) text h = absurd (wrong kinds.I8 h.0 (λ e. cc))
struct_only (int16 z) text h = absurd (wrong kinds.I16 h.0 (λ e. cc))
struct_only (int32 z) text h = absurd (wrong kinds.I32 h.0 (λ e. cc))
struct_only (int64 z) text h = absurd (wrong kinds.I64 h.0 (λ e. cc))
struct_only (double s) text h = absurd (wrong kinds.Double h.0 (λ e. cc))
struct_only (binary s) text h = absurd (wrong kinds.Binary h.0 (λ e. cc))
struct_only (list number vs) text h = absurd (wrong kinds.List h.0 (λ e. cc))
struct_only (set number vs) text h = absurd (wrong kinds.Set h.0 (λ e. cc))
struct_only (map key_number number ps) text h = absurd (wrong kinds.Map h.0 (λ e. cc))
struct_only (struct fs) text h = tt

pub can_be_written : (v : Value) (text : List ℕ) → Spells text v → IsStruct v × IsWritable v
can_be_written v text h = (struct_only v text h, element_writable v kinds.Struct text h)
