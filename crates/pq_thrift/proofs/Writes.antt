-- Writing values one after the other, as a loop does.
use Rattle.std.proofs.Common.{◌≡◌, ℕ, suc, ℤ, ◌+◌, ◌<◌, ◌≤◌, List, [], ◌∷◌, ◌++◌, length, drop, get_or, refl, sym, ap, subst, ◌∙◌, append_assoc, arith}
use Rattle.std.proofs.lemmas.List.{append-nil, drop_more, drop_all}
use Rattle.pq_thrift.specs.declared.kind.Kind.{Kind}
use Rattle.pq_thrift.specs.declared.kind.Kind.TheVariants as kinds
use Rattle.pq_thrift.specs.declared.value.Thrift.{Thrift}
use Rattle.pq_thrift.specs.Value.{view, no_values, values_view, no_pairs, pairs_view, no_fields, field, fields_view}
use Rattle.pq_thrift.specs.Grammar.{count, pair_count}
use Rattle.pq_thrift.specs.Spelling.{number_of, field_head, kind_in_field, behind_head, spell, spell_values, spell_pairs, spell_fields, IsWritable, AreWritable, ArePairsWritable, AreFieldsWritable, ValuesFit, PairsFit, FieldsFit}

pub count_is : (vs : List Thrift) → count (values_view vs) ≡ length vs
count_is [] = refl
count_is (v ∷ vs) = ap suc (count_is vs)

pub number_below : (kind : Kind) → number_of kind < 16
number_below kinds.True = omega arith
number_below kinds.False = omega arith
number_below kinds.I8 = omega arith
number_below kinds.I16 = omega arith
number_below kinds.I32 = omega arith
number_below kinds.I64 = omega arith
number_below kinds.Double = omega arith
number_below kinds.Binary = omega arith
number_below kinds.List = omega arith
number_below kinds.Set = omega arith
number_below kinds.Map = omega arith
number_below kinds.Struct = omega arith

pub pair_count_is : (ps : List (Thrift × Thrift)) → pair_count (pairs_view ps) ≡ length ps
pair_count_is [] = refl
pair_count_is (p ∷ ps) = ap suc (pair_count_is ps)

-- What is written, and the values from i on, are all that is to be written.
pub record WritesValues (out : List ℕ) (number : ℕ) (vs : List Thrift) (i : ℕ) (all : List ℕ) : Type 0 where
  pub so_far : out ++ spell_values (values_view (drop i vs)) ≡ all
  pub writable : AreWritable (values_view (drop i vs)) number
  pub fit : ValuesFit (values_view (drop i vs)) → ValuesFit (values_view vs)

pub values_done : (out : List ℕ) (number : ℕ) (vs : List Thrift) (i : ℕ) (all : List ℕ) → length vs ≤ i → WritesValues out number vs i all → (out ≡ all) × ValuesFit (values_view vs)
values_done out number vs i all h w =
    let e : drop i vs ≡ [] = drop_all i vs h in
    let so_far : out ++ [] ≡ all = subst (λ (xs : List Thrift). out ++ spell_values (values_view xs) ≡ all) e w.so_far in
    let fit : ValuesFit no_values → ValuesFit (values_view vs) = subst (λ (xs : List Thrift). ValuesFit (values_view xs) → ValuesFit (values_view vs)) e w.fit in
    (sym (append-nil out) ∙ so_far, fit tt)

-- ---- pairs

pub record WritesPairs (out : List ℕ) (keys values : ℕ) (ps : List (Thrift × Thrift)) (i : ℕ) (all : List ℕ) : Type 0 where
  pub so_far : out ++ spell_pairs (pairs_view (drop i ps)) ≡ all
  pub writable : ArePairsWritable (pairs_view (drop i ps)) keys values
  pub fit : PairsFit (pairs_view (drop i ps)) → PairsFit (pairs_view ps)

next_pair : (ps : List (Thrift × Thrift)) (i : ℕ) (p : Thrift × Thrift) → i < length ps → p ≡ get_or ps i p → drop i ps ≡ p ∷ drop (i + 1) ps
next_pair ps i p h is = drop_more ps i p h ∙ ap (λ (q : Thrift × Thrift). q ∷ drop (i + 1) ps) (sym is)

pub next_pair_writable : (out : List ℕ) (keys values : ℕ) (ps : List (Thrift × Thrift)) (i : ℕ) (all : List ℕ) (p : Thrift × Thrift) → i < length ps → p ≡ get_or ps i p → WritesPairs out keys values ps i all → IsWritable (view p.0) × IsWritable (view p.1)
next_pair_writable out keys values ps i all p h is w =
    let e = next_pair ps i p h is in
    let all_writable : ArePairsWritable (pairs_view (p ∷ drop (i + 1) ps)) keys values = subst (λ (xs : List (Thrift × Thrift)). ArePairsWritable (pairs_view xs) keys values) e w.writable in
    (all_writable.1, all_writable.3)

pub pairs_done : (out : List ℕ) (keys values : ℕ) (ps : List (Thrift × Thrift)) (i : ℕ) (all : List ℕ) → length ps ≤ i → WritesPairs out keys values ps i all → (out ≡ all) × PairsFit (pairs_view ps)
pairs_done out keys values ps i all h w =
    let e : drop i ps ≡ [] = drop_all i ps h in
    let so_far : out ++ [] ≡ all = subst (λ (xs : List (Thrift × Thrift)). out ++ spell_pairs (pairs_view xs) ≡ all) e w.so_far in
    let fit : PairsFit no_pairs → PairsFit (pairs_view ps) = subst (λ (xs : List (Thrift × Thrift)). PairsFit (pairs_view xs) → PairsFit (pairs_view ps)) e w.fit in
    (sym (append-nil out) ∙ so_far, fit tt)

-- ---- fields

pub record WritesFields (out : List ℕ) (last : ℤ) (fs : List (ℤ × Thrift)) (i : ℕ) (all : List ℕ) : Type 0 where
  pub so_far : out ++ spell_fields (fields_view (drop i fs)) last ≡ all
  pub writable : AreFieldsWritable (fields_view (drop i fs))
  pub fit : FieldsFit (fields_view (drop i fs)) → FieldsFit (fields_view fs)

next_field : (fs : List (ℤ × Thrift)) (i : ℕ) (f : ℤ × Thrift) → i < length fs → f ≡ get_or fs i f → drop i fs ≡ f ∷ drop (i + 1) fs
next_field fs i f h is = drop_more fs i f h ∙ ap (λ (g : ℤ × Thrift). g ∷ drop (i + 1) fs) (sym is)

pub next_field_writable : (out : List ℕ) (last : ℤ) (fs : List (ℤ × Thrift)) (i : ℕ) (all : List ℕ) (f : ℤ × Thrift) → i < length fs → f ≡ get_or fs i f → WritesFields out last fs i all → IsWritable (view f.1)
next_field_writable out last fs i all f h is w =
    let e = next_field fs i f h is in
    let all_writable : AreFieldsWritable (fields_view (f ∷ drop (i + 1) fs)) = subst (λ (xs : List (ℤ × Thrift)). AreFieldsWritable (fields_view xs)) e w.writable in
    all_writable.0

pub fields_more : (out : List ℕ) (last : ℤ) (fs : List (ℤ × Thrift)) (i : ℕ) (all : List ℕ) (f : ℤ × Thrift) → i < length fs → f ≡ get_or fs i f → FieldsFit (field f.0 (view f.1) no_fields) → WritesFields out last fs i all
    → WritesFields ((out ++ field_head last f.0 (number_of (kind_in_field (view f.1)))) ++ behind_head (view f.1) (spell (view f.1))) f.0 fs (i + 1) all
fields_more out last fs i all f h is fits w =
    let e = next_field fs i f h is in
    let head = field_head last f.0 (number_of (kind_in_field (view f.1))) in
    let body = behind_head (view f.1) (spell (view f.1)) in
    let more = spell_fields (fields_view (drop (i + 1) fs)) f.0 in
    let so_far : out ++ (head ++ (body ++ more)) ≡ all = subst (λ (xs : List (ℤ × Thrift)). out ++ spell_fields (fields_view xs) last ≡ all) e w.so_far in
    let all_writable : AreFieldsWritable (fields_view (f ∷ drop (i + 1) fs)) = subst (λ (xs : List (ℤ × Thrift)). AreFieldsWritable (fields_view xs)) e w.writable in
    let fit : FieldsFit (fields_view (f ∷ drop (i + 1) fs)) → FieldsFit (fields_view fs) = subst (λ (xs : List (ℤ × Thrift)). FieldsFit (fields_view xs) → FieldsFit (fields_view fs)) e w.fit in
    record { so_far = append_assoc (out ++ head) body more ∙ append_assoc out head (body ++ more) ∙ so_far; writable = all_writable.1; fit = λ g. fit (fits.0, fits.1, g) }

pub fields_done : (out : List ℕ) (last : ℤ) (fs : List (ℤ × Thrift)) (i : ℕ) (all : List ℕ) → length fs ≤ i → WritesFields out last fs i all → (out ++ 0 ∷ [] ≡ all) × FieldsFit (fields_view fs)
fields_done out last fs i all h w =
    let e : drop i fs ≡ [] = drop_all i fs h in
    let so_far : out ++ 0 ∷ [] ≡ all = subst (λ (xs : List (ℤ × Thrift)). out ++ spell_fields (fields_view xs) last ≡ all) e w.so_far in
    let fit : FieldsFit no_fields → FieldsFit (fields_view fs) = subst (λ (xs : List (ℤ × Thrift)). FieldsFit (fields_view xs) → FieldsFit (fields_view fs)) e w.fit in
    (so_far, fit tt)
