-- Whether a page may stand in its place.
use Rattle.std.proofs.Common.{◌≡◌, ℕ, ◌<◌, ◌≤◌, ℤ, pos, negsuc, List, [], Bool, true, false, cond, not, nat_eq, nat_lt, Option, Some, None, is_some, refl, sym, ap, ◌∙◌, inl, inr}
use Rattle.std.specs.Prelude.{◌⊎◌, ◌≢◌, ◌||◌, ◌&&◌, ◌==◌, if◌then◌else◌}
use Rattle.std.proofs.lemmas.Bool.{ltb-true, ltb-false, eqb-true}
use Rattle.columns_base.specs.declared.error.Error.{Error}
use Rattle.columns_base.specs.declared.error.Error.TheVariants.{OutOfSpec, NotYetImplemented}
use Rattle.columns_base.specs.declared.error.S.TheVariants.{S3}
use Rattle.columns_base.specs.declared.error.N.TheVariants.{N4}
use Rattle.pq_metadata.specs.Header.{Header, data_page, data_page_2, dictionary_page}
use Rattle.pq_files.specs.Chunk.{RawPage, IsData, IsDictionary, count_in}
use Rattle.pq_files.specs.Page.{HasEncoding, encoding_numbered, plain, dictionary, delta, delta_length}
use Rattle.pq_files.specs.PageReasons.{IsOutOfPlace, EncodingOfEntries}
use Rattle.pq_pages.specs.declared.place.Place.{Place}
use Rattle.pq_pages.specs.DataPages.{is_named, IsEncodingNumber}
use Rattle.pq_pages.specs.Reading.{fault_in, is_indexed, is_of_entries}
use Rattle.pq_pages.specs.ReadsChunk.{IsUnnamed}

-- ---- numbers of encodings

unnamed : (z : ℤ) → is_named z ≡ false → ¬ IsEncodingNumber z
unnamed z e n = cc (e, n)

either : (a b : Bool) → (a || b) ≡ true → (a ≡ true) ⊎ (b ≡ true)
either true b e = inl refl
either false b e = inr e

neither : (a b : Bool) → (a || b) ≡ false → (a ≡ false) × (b ≡ false)
neither true b e = cc e
neither false b e = (refl, e)

both : (a b : Bool) → (a && b) ≡ true → (a ≡ true) × (b ≡ true)
both true b e = (refl, e)
both false b e = cc e

indexed_is : (z : ℤ) → is_indexed z ≡ true → encoding_numbered z ≡ Some dictionary
indexed_is (pos n) e = elim (either (nat_eq n 2) (nat_eq n 8) e) [ inl x ↦ ap (λ (k : ℕ). encoding_numbered (pos k)) (eqb-true n 2 x) | inr x ↦ ap (λ (k : ℕ). encoding_numbered (pos k)) (eqb-true n 8 x) ]
indexed_is (negsuc n) e = cc e

entries_is : (z : ℤ) → is_of_entries z ≡ true → (z ≡ pos 0) ⊎ (z ≡ pos 2)
entries_is (pos n) e = elim (either (nat_eq n 0) (nat_eq n 2) e) [ inl x ↦ inl (ap (λ (k : ℕ). pos k) (eqb-true n 0 x)) | inr x ↦ inr (ap (λ (k : ℕ). pos k) (eqb-true n 2 x)) ]
entries_is (negsuc n) e = cc e

no_entries : (z : ℤ) → is_of_entries z ≡ false → (z ≡ pos 0) ⊎ (z ≡ pos 2) → ⊥
no_entries z e (inl x) = let y : is_of_entries z ≡ true = ap is_of_entries x in cc (e, y)
no_entries z e (inr x) = let y : is_of_entries z ≡ true = ap is_of_entries x in cc (e, y)

-- an encoding of indices has a number of those
table : (a b c d e : Bool) → b ≡ false → c ≡ false → (if a then Some plain else if b then Some dictionary else if c then Some dictionary else if d then Some delta else if e then Some delta_length else None) ≡ Some dictionary → ⊥
table true b c d e x y is = cc is
table false true c d e x y is = cc x
table false false true d e x y is = cc y
table false false false true e x y is = cc is
table false false false false true x y is = cc is
table false false false false false x y is = cc is

not_indexed : (z : ℤ) → is_indexed z ≡ false → encoding_numbered z ≡ Some dictionary → ⊥
not_indexed (pos n) e is = let k = neither (nat_eq n 2) (nat_eq n 8) e in table (n == 0) (n == 2) (n == 8) (n == 5) (n == 6) k.0 k.1 is
not_indexed (negsuc n) e is = cc is

-- ---- a place, and what was read before it

pub record Agrees (place : Place) (dict : Option RawPage) (pages : List RawPage) : Type 0 where
  pub has : place.has_dictionary ≡ is_some dict
  pub first : place.is_first ≡ true → (dict ≡ None) × (pages ≡ [])
  pub later : place.is_first ≡ false → (pages ≢ []) ⊎ (dict ≢ None)

none_if : (dict : Option RawPage) → false ≡ is_some dict → dict ≡ None
none_if None e = refl
none_if (Some p) e = cc e

some_if : (dict : Option RawPage) → true ≡ is_some dict → dict ≢ None
some_if None e = cc e
some_if (Some p) e = λ n. cc n

abbrev pub Misplaced : Option RawPage → List RawPage → ℕ → RawPage → Error → Type 0
Misplaced dict pages left p e = ((e ≡ OutOfSpec S3) × IsOutOfPlace dict pages left p) ⊎ ((e ≡ NotYetImplemented N4) × IsUnnamed p.header)

some_of : Error → Option Error → Error
some_of d (Some e) = e
some_of d None = d

some_same : (a b : Error) → Some a ≡ Some b → a ≡ b
unfolding some_of
some_same a b e = ap (some_of a) e

abbrev Wrong : Option RawPage → ℕ → ℕ → ℤ → Type 0
Wrong dict left n z = (left < n) ⊎ ((dict ≡ None) × (encoding_numbered z ≡ Some dictionary))

wrong_data : (place : Place) (dict : Option RawPage) (left n : ℕ) (z : ℤ) (b : Bool) → place.has_dictionary ≡ is_some dict → place.has_dictionary ≡ b → (nat_lt left n || (is_indexed z && not b)) ≡ true → Wrong dict left n z
wrong_data place dict left n z true has is e =
    elim (either (nat_lt left n) (is_indexed z && not true) e) [ inl x ↦ inl (ltb-true left n x) | inr x ↦ absurd (let y = (both (is_indexed z) false x).1 in cc y) ]
wrong_data place dict left n z false has is e =
    elim (either (nat_lt left n) (is_indexed z && not false) e) [ inl x ↦ inl (ltb-true left n x) | inr x ↦ inr (none_if dict (sym is ∙ has), indexed_is z (both (is_indexed z) true x).0) ]

data_misplaced : (place : Place) (dict : Option RawPage) (left n : ℕ) (z : ℤ) (e : Error) (a b : Bool) → place.has_dictionary ≡ is_some dict → (nat_lt left n || (is_indexed z && not place.has_dictionary)) ≡ a → is_named z ≡ b
    → cond {A = Option Error} a (Some (OutOfSpec S3)) (cond b None (Some (NotYetImplemented N4))) ≡ Some e → ((e ≡ OutOfSpec S3) × Wrong dict left n z) ⊎ ((e ≡ NotYetImplemented N4) × (¬ IsEncodingNumber z))
data_misplaced place dict left n z e true b has x y r = inl (sym (some_same (OutOfSpec S3) e r), wrong_data place dict left n z place.has_dictionary has refl x)
data_misplaced place dict left n z e false true has x y r = cc r
data_misplaced place dict left n z e false false has x y r = inr (sym (some_same (NotYetImplemented N4) e r), unnamed z y)

dictionary_misplaced : (place : Place) (z : ℤ) (e : Error) (a b : Bool) → place.is_first ≡ a → is_of_entries z ≡ b → cond {A = Option Error} a (cond b None (Some (NotYetImplemented N4))) (Some (OutOfSpec S3)) ≡ Some e
    → ((e ≡ OutOfSpec S3) × (place.is_first ≡ false)) ⊎ ((e ≡ NotYetImplemented N4) × ((z ≡ pos 0) ⊎ (z ≡ pos 2) → ⊥))
dictionary_misplaced place z e true true x y r = cc r
dictionary_misplaced place z e true false x y r = inr (sym (some_same (NotYetImplemented N4) e r), no_entries z y)
dictionary_misplaced place z e false b x y r = inl (sym (some_same (OutOfSpec S3) e r), x)

misplaced_by : (place : Place) (dict : Option RawPage) (pages : List RawPage) (left : ℕ) (h : Header) (body : List ℕ) (e : Error) → Agrees place dict pages → fault_in place left h ≡ Some e → Misplaced dict pages left (record { header = h; body = body }) e
misplaced_by place dict pages left (data_page h) body e agrees r =
    elim (data_misplaced place dict left h.num_values h.encoding e (nat_lt left h.num_values || (is_indexed h.encoding && not place.has_dictionary)) (is_named h.encoding) agrees.has refl refl r) [
      | inl x ↦ inl (x.0, inr (tt, x.1))
      | inr x ↦ inr x
    ]
misplaced_by place dict pages left (data_page_2 h) body e agrees r =
    elim (data_misplaced place dict left h.num_values h.encoding e (nat_lt left h.num_values || (is_indexed h.encoding && not place.has_dictionary)) (is_named h.encoding) agrees.has refl refl r) [
      | inl x ↦ inl (x.0, inr (tt, x.1))
      | inr x ↦ inr x
    ]
misplaced_by place dict pages left (dictionary_page h) body e agrees r =
    elim (dictionary_misplaced place h.encoding e place.is_first (is_of_entries h.encoding) refl refl r) [
      | inl x ↦ inl (x.0, inl (tt, agrees.later x.1))
      | inr x ↦ inr x
    ]

pub misplaced : (place : Place) (dict : Option RawPage) (pages : List RawPage) (left : ℕ) (p : RawPage) (e : Error) → Agrees place dict pages → fault_in place left p.header ≡ Some e → Misplaced dict pages left p e
misplaced place dict pages left p e agrees r = misplaced_by place dict pages left p.header p.body e agrees r

-- ---- a page that may stand there

pub record DataPasses (dict : Option RawPage) (left : ℕ) (p : RawPage) : Type 0 where
  pub fits : count_in p.header ≤ left
  pub indexed : HasEncoding p.header dictionary → dict ≢ None
  pub named : IsUnnamed p.header → ⊥

fits_data : (place : Place) (dict : Option RawPage) (left n : ℕ) (z : ℤ) (b : Bool) → place.has_dictionary ≡ is_some dict → place.has_dictionary ≡ b → (nat_lt left n || (is_indexed z && not b)) ≡ false → (n ≤ left) × (encoding_numbered z ≡ Some dictionary → dict ≢ None)
fits_data place dict left n z true has is e = (ltb-false left n (neither (nat_lt left n) (is_indexed z && not true) e).0, λ x. some_if dict (sym is ∙ has))
fits_data place dict left n z false has is e =
    let k = neither (nat_lt left n) (is_indexed z && not false) e in
    (ltb-false left n k.0, λ x. absurd (not_indexed z (by_true (is_indexed z) k.1) x))
  where
    by_true : (a : Bool) → (a && true) ≡ false → a ≡ false
    by_true true e = e
    by_true false e = refl

data_passed : (place : Place) (dict : Option RawPage) (left n : ℕ) (z : ℤ) (a b : Bool) → place.has_dictionary ≡ is_some dict → (nat_lt left n || (is_indexed z && not place.has_dictionary)) ≡ a → is_named z ≡ b
    → cond {A = Option Error} a (Some (OutOfSpec S3)) (cond b None (Some (NotYetImplemented N4))) ≡ None → (n ≤ left) × (encoding_numbered z ≡ Some dictionary → dict ≢ None) × ((¬ IsEncodingNumber z) → ⊥)
data_passed place dict left n z true b has x y r = cc r
data_passed place dict left n z false false has x y r = cc r
data_passed place dict left n z false true has x y r = let k = fits_data place dict left n z place.has_dictionary has refl x in (k.0, k.1, λ no. no y)

passed_by : (place : Place) (dict : Option RawPage) (left : ℕ) (h : Header) (body : List ℕ) → place.has_dictionary ≡ is_some dict → IsData h → fault_in place left h ≡ None → DataPasses dict left (record { header = h; body = body })
passed_by place dict left (data_page h) body has is r =
    let k = data_passed place dict left h.num_values h.encoding _ _ has refl refl r in
    record { fits = k.0; indexed = k.1; named = k.2 }
passed_by place dict left (data_page_2 h) body has is r =
    let k = data_passed place dict left h.num_values h.encoding _ _ has refl refl r in
    record { fits = k.0; indexed = k.1; named = k.2 }
passed_by place dict left (dictionary_page h) body has is r = absurd is

pub passed : (place : Place) (dict : Option RawPage) (pages : List RawPage) (left : ℕ) (p : RawPage) → Agrees place dict pages → IsData p.header → fault_in place left p.header ≡ None → DataPasses dict left p
passed place dict pages left p agrees is r = passed_by place dict left p.header p.body agrees.has is r

dictionary_choice : (place : Place) (z : ℤ) (a b : Bool) → place.is_first ≡ a → is_of_entries z ≡ b → cond {A = Option Error} a (cond b None (Some (NotYetImplemented N4))) (Some (OutOfSpec S3)) ≡ None → (place.is_first ≡ true) × ((z ≡ pos 0) ⊎ (z ≡ pos 2))
dictionary_choice place z true true x y r = (x, entries_is z y)
dictionary_choice place z true false x y r = cc r
dictionary_choice place z false b x y r = cc r

dictionary_by : (place : Place) (left : ℕ) (h : Header) → IsDictionary h → fault_in place left h ≡ None → (place.is_first ≡ true) × EncodingOfEntries h
dictionary_by place left (dictionary_page h) is r = dictionary_choice place h.encoding place.is_first (is_of_entries h.encoding) refl refl r
dictionary_by place left (data_page h) is r = absurd is
dictionary_by place left (data_page_2 h) is r = absurd is

pub dictionary_passed : (place : Place) (left : ℕ) (p : RawPage) → IsDictionary p.header → fault_in place left p.header ≡ None → (place.is_first ≡ true) × EncodingOfEntries p.header
dictionary_passed place left p is r = dictionary_by place left p.header is r
