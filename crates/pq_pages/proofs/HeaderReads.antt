-- The header in front of bytes, as a function of them, is what a reader answers.
use Rattle.std.proofs.Common.{◌≡◌, ◌↔◌, ℕ, ℤ, pos, ◌≤◌, ◌-◌, List, ◌++◌, length, take, drop, Bool, true, false, Option, Some, None, Result, Ok, Err, refl, sym, ap, subst, ◌∙◌, inl, inr, arith}
use Rattle.std.specs.Prelude.{◌⊎◌, IfOk, IfErr}
use Rattle.std.proofs.lemmas.Bool.{eq-eqb}
use Rattle.std.proofs.lemmas.List.{take-append-drop, length-drop}
use Rattle.columns_base.specs.declared.error.Error.{Error}
use Rattle.columns_base.specs.declared.error.Error.TheVariants.{Memory, OutOfSpec, NotYetImplemented}
use Rattle.columns_base.specs.declared.error.S.TheVariants.{S3}
use Rattle.columns_base.specs.declared.error.N.TheVariants.{N4}
use Rattle.pq_numbers.specs.Texts.{Begins}
use Rattle.pq_thrift.specs.declared.fault.Fault.{Fault}
use Rattle.pq_thrift.specs.declared.kind.Kind.TheVariants as kinds
use Rattle.pq_thrift.specs.Grammar.{Spells, depth}
use Rattle.pq_thrift.specs.Reading.{max_depth, thrift_at}
use Rattle.pq_thrift.specs.Value.{Value, int32, struct, Fields}
use Rattle.pq_thrift.proofs.Again.{struct_again}
use Rattle.pq_thrift.proofs.Takes.{value_takes}
use Rattle.pq_metadata.specs.Header.{PageHeader}
use Rattle.pq_metadata.specs.HeaderText.{IsHeaderText, IsOfOtherType, SpellsOtherType, TellsType}
use Rattle.pq_metadata.specs.Ids.{get, is_number}
use Rattle.pq_metadata.specs.Kinds.{int32_in}
use Rattle.pq_tree.specs.Reads.{HasNone, ComesWhere}
use Rattle.pq_tree.specs.Views.{page_header_view}
use Rattle.pq_tree.specs.declared.types.PageHeader.{PageHeader as RustPageHeader}
use Rattle.pq_metadata.proofs.Injective.{i32_same}
use Rattle.pq_pages.specs.Headers.{◌>>=◌, page_header_of, needed, header_at, header_from, or_reason, known_reason, type_reason, value_reason, HeaderReads}
use Rattle.pq_pages.proofs.Headers.{page_header_found, page_header_told, int32_is, number_is}

abbrev pub Read : Type 0
Read = Result (Value × List ℕ) Fault

-- ---- the value in front

pub read_at : (bytes text rest : List ℕ) (v : Value) → bytes ≡ text ++ rest → Spells text v → depth v ≤ 128 → thrift_at bytes ≡ Ok (v, rest)
read_at bytes text rest v e h d = ap thrift_at e ∙ struct_again max_depth v text rest h d

pub record Front (bytes : List ℕ) (v : Value) (rest : List ℕ) : Type 0 where
  pub text : List ℕ
  pub parts : bytes ≡ text ++ rest
  pub spells : Spells text v
  pub nests : depth v ≤ 128

pub front : (bytes : List ℕ) (v : Value) (rest : List ℕ) → thrift_at bytes ≡ Ok (v, rest) → Front bytes v rest
front bytes v rest e = let t = value_takes max_depth kinds.Struct bytes v rest e in record { text = t.text; parts = t.parts; spells = t.spells.0; nests = t.spells.1 }

ok_of : Value × List ℕ → Read → Value × List ℕ
ok_of d (Ok x) = x
ok_of d (Err e) = d

pub ok_same : (x y : Value × List ℕ) → (let r : Read = Ok x in r) ≡ Ok y → x ≡ y
unfolding ok_of
ok_same x y e = ap (ok_of x) e

-- the value in front is one
pub front_same : (bytes : List ℕ) (v : Value) (rest text behind : List ℕ) (w : Value) → thrift_at bytes ≡ Ok (v, rest) → bytes ≡ text ++ behind → Spells text w → depth w ≤ 128 → w ≡ v
front_same bytes v rest text behind w is e h d = ap (λ x. x.0) (ok_same (w, behind) (v, rest) (sym (read_at bytes text behind w e h d) ∙ is))

-- none is in front
pub front_none : (bytes : List ℕ) (f : Fault) (text behind : List ℕ) (w : Value) → thrift_at bytes ≡ Err f → bytes ≡ text ++ behind → Spells text w → depth w ≤ 128 → ⊥
front_none bytes f text behind w is e h d =
    let both : (let r : Read = Ok (w, behind) in r) ≡ Err f = sym (read_at bytes text behind w e h d) ∙ is in
    cc both

-- ---- the type of a struct that is no header

not_number : (t : ℤ) (n : ℕ) → is_number t n ≡ false → t ≡ pos n → ⊥
not_number t n e is =
    let same : is_number t n ≡ is_number (pos n) n = ap (λ (z : ℤ). is_number z n) is in
    cc (e, same, eq-eqb n n refl)

of_type : (fs : Fields) (t : ℤ) (n : ℕ) → get 1 fs ≡ Some (int32 t) → is_number t n ≡ true → (s : ℤ) → get 1 fs ≡ Some (int32 s) → s ≡ pos n
of_type fs t n has is s e = i32_same (get 1 fs) s (pos n) e (has ∙ ap (λ (z : ℤ). Some (int32 z)) (number_is t n is))

by_type : (fs : Fields) (t : ℤ) (a b c : Bool) → get 1 fs ≡ Some (int32 t) → is_number t 0 ≡ a → is_number t 2 ≡ b → is_number t 3 ≡ c → TellsType (struct fs) (type_reason t)
by_type fs t true b c has x y z = inr (rw x refl, λ s h. h.1.0 (of_type fs t 0 has x s h.0))
by_type fs t false true c has x y z = inr (rw x (rw y refl), λ s h. h.1.1 (of_type fs t 2 has y s h.0))
by_type fs t false false true has x y z = inr (rw x (rw y (rw z refl)), λ s h. h.1.2 (of_type fs t 3 has z s h.0))
by_type fs t false false false has x y z = inl (rw x (rw y (rw z refl)), t, (has, (not_number t 0 x, not_number t 2 y, not_number t 3 z)))

by_needed : (fs : Fields) (o : Option ℤ) → needed int32_in 1 fs ≡ o → TellsType (struct fs) (known_reason o)
by_needed fs None e = inr (refl, λ t h. let s : needed int32_in 1 fs ≡ Some t = ap (λ (o : Option Value). o >>= int32_in) h.0 in cc (e, s))
by_needed fs (Some t) e = by_type fs t (is_number t 0) (is_number t 2) (is_number t 3) (int32_is (get 1 fs) t e) refl refl refl

pub tells : (v : Value) → TellsType v (value_reason v)
tells (struct fs) = by_needed fs (needed int32_in 1 fs) refl
tells _ = inr (refl, λ t h. h)

-- ---- what a reader answers

pub found : (bytes : List ℕ) (n : ℕ) (h : PageHeader) → n ≤ length bytes → IsHeaderText (take n bytes) h → header_at bytes ≡ Ok (h, n)
unfolding header_at
found bytes n h within t =
    let is = read_at bytes (take n bytes) (drop n bytes) t.0 (sym (take-append-drop n bytes)) t.1 t.2 in
    let size : length bytes - length (drop n bytes) ≡ n = omega (arith, length-drop n bytes, within) in
    ap (header_from (length bytes)) is ∙ ap (or_reason t.0 (length bytes - length (drop n bytes))) (page_header_told t.0 h t.3) ∙ ap (λ (k : ℕ). Ok (h, k)) size

-- why none is read, as the call's clauses say it
pub record NoneRead (bytes : List ℕ) (e : Error) : Type 0 where
  pub none : HasNone (Begins IsHeaderText bytes)
  pub other_type : (e ≡ NotYetImplemented N4) ↔ IsOfOtherType bytes
  pub refused : (e ≡ OutOfSpec S3) ↔ (HasNone (Begins IsHeaderText bytes) × (¬ IsOfOtherType bytes))

pub is_other : (bytes : List ℕ) (v : Value) (rest : List ℕ) (t : ℤ) → Front bytes v rest → SpellsOtherType v t → IsOfOtherType bytes
is_other bytes (struct fs) rest t f h = record { fields = fs; spells = record { text = f.text; rest = rest; parts = f.parts; spells = f.spells }; nests = f.nests; type = t; has_type = h.0; other = h.1 }
is_other bytes _ rest t f h = absurd h

pub no_other : (bytes : List ℕ) (v : Value) (rest : List ℕ) → thrift_at bytes ≡ Ok (v, rest) → HasNone (SpellsOtherType v) → ¬ IsOfOtherType bytes
no_other bytes v rest is none o =
    let same = front_same bytes v rest o.spells.text o.spells.rest (struct o.fields) is o.spells.parts o.spells.spells o.nests in
    none o.type (subst (λ (w : Value). SpellsOtherType w o.type) same (o.has_type, o.other))

pub none_other : (bytes : List ℕ) (f : Fault) → thrift_at bytes ≡ Err f → ¬ IsOfOtherType bytes
none_other bytes f is o = front_none bytes f o.spells.text o.spells.rest (struct o.fields) is o.spells.parts o.spells.spells o.nests

refuses : (bytes : List ℕ) (e : Error) (v : Value) (rest : List ℕ) (o : Option PageHeader) → NoneRead bytes e → thrift_at bytes ≡ Ok (v, rest) → page_header_of v ≡ o → or_reason v (length bytes - length rest) o ≡ Err e
refuses bytes e v rest (Some h) n is has =
    let f = front bytes v rest is in
    absurd (n.none h (record { text = f.text; rest = rest; parts = f.parts; spells = (v, f.spells, f.nests, page_header_found v h has) }))
refuses bytes e v rest None n is has =
    elim (tells v) [
      | inl x ↦ ap (λ (r : Error). Err r) (x.0 ∙ sym (n.other_type.1 (is_other bytes v rest x.1 (front bytes v rest is) x.2)))
      | inr y ↦ ap (λ (r : Error). Err r) (y.0 ∙ sym (n.refused.1 (n.none, no_other bytes v rest is y.1)))
    ]

refused_at : (bytes : List ℕ) (e : Error) (r : Read) → NoneRead bytes e → thrift_at bytes ≡ r → header_from (length bytes) r ≡ Err e
refused_at bytes e (Err f) n is = ap (λ (r : Error). Err r) (sym (n.refused.1 (n.none, none_other bytes f is)))
refused_at bytes e (Ok x) n is = refuses bytes e x.0 x.1 (page_header_of x.0) n is refl

pub refused : (bytes : List ℕ) (e : Error) → NoneRead bytes e → header_at bytes ≡ Err e
unfolding header_at
refused bytes e n = refused_at bytes e (thrift_at bytes) n refl

-- the clauses of the call
pub record Says (bytes : List ℕ) (r : Result (RustPageHeader × ℕ) Error) : Type 0 where
  pub within : IfOk r (λ x. x.1 ≤ length bytes)
  pub is : IfOk r (λ x. IsHeaderText (take x.1 bytes) (page_header_view x.0))
  pub none : IfErr r (λ e. (e ≡ Memory) ⊎ HasNone (Begins IsHeaderText bytes))
  pub other_type : ComesWhere (NotYetImplemented N4) (IsOfOtherType bytes) r
  pub refused : ComesWhere (OutOfSpec S3) (HasNone (Begins IsHeaderText bytes) × (¬ IsOfOtherType bytes)) r

by_clauses : (bytes : List ℕ) (e : Error) → (e ≡ Memory) ⊎ HasNone (Begins IsHeaderText bytes) → (e ≡ Memory) ⊎ ((e ≡ NotYetImplemented N4) ↔ IsOfOtherType bytes) → (e ≡ Memory) ⊎ ((e ≡ OutOfSpec S3) ↔ (HasNone (Begins IsHeaderText bytes) × (¬ IsOfOtherType bytes))) → (e ≡ Memory) ⊎ (header_at bytes ≡ Err e)
by_clauses bytes e (inl m) b c = inl m
by_clauses bytes e (inr a) (inl m) c = inl m
by_clauses bytes e (inr a) (inr b) (inl m) = inl m
by_clauses bytes e (inr a) (inr b) (inr c) = inr (refused bytes e (record { none = a; other_type = b; refused = c }))

pub reads : (bytes : List ℕ) (r : Result (RustPageHeader × ℕ) Error) → Says bytes r → HeaderReads r (header_at bytes)
reads bytes (Ok x) s = found bytes x.1 (page_header_view x.0) s.within s.is
reads bytes (Err e) s = by_clauses bytes e s.none s.other_type s.refused
