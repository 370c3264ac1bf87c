-- Why no next page is read.
use Rattle.std.proofs.Common.{◌≡◌, ℕ, ℤ, pos, ◌+◌, ◌-◌, ◌<◌, ◌≤◌, List, ◌++◌, length, take, drop, Bool, true, false, cond, nat_lt, Option, Some, None, Result, Ok, Err, refl, sym, ap, ap₂, subst, ◌∙◌, inl, inr, append_assoc, arith}
use Rattle.std.specs.Prelude.{◌⊎◌}
use Rattle.std.proofs.lemmas.Bool.{ltb-true, ltb-false}
use Rattle.std.proofs.lemmas.List.{take-append-drop, length-append}
use Rattle.std.proofs.Math.Seq.{take-append-add}
use Rattle.columns_base.specs.declared.error.Error.{Error}
use Rattle.columns_base.specs.declared.error.Error.TheVariants.{OutOfSpec, NotYetImplemented}
use Rattle.columns_base.specs.declared.error.S.TheVariants.{S3}
use Rattle.columns_base.specs.declared.error.N.TheVariants.{N4}
use Rattle.pq_thrift.specs.declared.fault.Fault.{Fault}
use Rattle.pq_thrift.specs.Grammar.{Spells}
use Rattle.pq_thrift.specs.Reading.{thrift_at}
use Rattle.pq_thrift.specs.Value.{Value, int32, struct, Fields}
use Rattle.pq_metadata.specs.Header.{Header, data_page, data_page_2, dictionary_page, PageHeader, HasHeader, SpellsHeader}
use Rattle.pq_metadata.specs.HeaderText.{IsOfOtherType, IsOtherType, SpellsOtherType}
use Rattle.pq_metadata.specs.Ids.{get}
use Rattle.pq_tree.specs.Reads.{HasNone}
use Rattle.pq_metadata.proofs.HeaderOnce.{page_header_same}
use Rattle.pq_metadata.proofs.Injective.{i32_same}
use Rattle.pq_files.specs.Chunk.{RawPage, IsPageText}
use Rattle.pq_files.specs.PageReasons.{IsNext}
use Rattle.pq_pages.specs.Headers.{header_at, header_from, or_reason, page_header_of, value_reason}
use Rattle.pq_pages.specs.Reading.{body_behind, next_page}
use Rattle.pq_pages.proofs.Headers.{page_header_told}
use Rattle.pq_pages.proofs.HeaderReads.{Read, Front, front, front_same, front_none, is_other, no_other, none_other, ok_same, read_at, tells}
use Rattle.pq_pages.proofs.NextFound.{Given, HeaderIs, header_is, widened, page_with}

-- neither a page nor a struct of another type
pub record NothingNext (bytes : List ℕ) : Type 0 where
  pub pages : (p : RawPage) → IsNext bytes p → ⊥
  pub other : ¬ IsOfOtherType bytes

-- a struct of more bytes
pub record LongNext (max : ℕ) (bytes : List ℕ) : Type 0 where
  pub head : List ℕ
  pub behind : List ℕ
  pub parts : bytes ≡ head ++ behind
  pub «value» : Value
  pub spells : Spells head «value»
  pub long : max < length head

abbrev pub Fails : ℕ → List ℕ → Error → Type 0
Fails max bytes e = ((e ≡ OutOfSpec S3) × (NothingNext bytes ⊎ LongNext max bytes)) ⊎ ((e ≡ NotYetImplemented N4) × IsOfOtherType bytes)

-- ---- what stands in front

next_parts : (bytes text rest : List ℕ) (p : RawPage) (t : IsPageText text p) → bytes ≡ text ++ rest → bytes ≡ t.head ++ (p.body ++ rest)
next_parts bytes text rest p t e = e ∙ ap (λ (s : List ℕ). s ++ rest) t.parts ∙ append_assoc t.head p.body rest

nothing_read : (bytes : List ℕ) (f : Fault) → thrift_at bytes ≡ Err f → NothingNext bytes
nothing_read bytes f is =
    record {
      pages = λ p n. front_none bytes f n.spells.head (p.body ++ n.rest) n.spells.«value» is (next_parts bytes n.text n.rest p n.spells n.parts) n.spells.spells n.spells.nests;
      other = none_other bytes f is;
    }

no_header : (bytes : List ℕ) (v : Value) (rest : List ℕ) → thrift_at bytes ≡ Ok (v, rest) → page_header_of v ≡ None → (p : RawPage) → IsNext bytes p → ⊥
no_header bytes v rest is none p n =
    let same = front_same bytes v rest n.spells.head (p.body ++ n.rest) n.spells.«value» is (next_parts bytes n.text n.rest p n.spells n.parts) n.spells.spells n.spells.nests in
    let told = page_header_told n.spells.«value» _ n.spells.is_header in
    cc (told, ap page_header_of same, none)

-- the same value stands in front of more bytes
wider : (max : ℕ) (bytes : List ℕ) (v : Value) (rest : List ℕ) → Front (take max bytes) v rest → Front bytes v (rest ++ drop max bytes)
wider max bytes v rest f =
    record {
      text = f.text;
      parts = sym (take-append-drop max bytes) ∙ ap (λ (s : List ℕ). s ++ drop max bytes) f.parts ∙ append_assoc f.text rest (drop max bytes);
      spells = f.spells;
      nests = f.nests;
    }

-- and in front of fewer, where it lies in them
narrower : (max : ℕ) (bytes : List ℕ) (v : Value) (rest : List ℕ) (f : Front bytes v rest) → length f.text ≤ max → take max bytes ≡ f.text ++ take (max - length f.text) rest
narrower max bytes v rest f h = ap₂ take (omega (arith, h)) f.parts ∙ take-append-add f.text rest (max - length f.text)

-- ---- by what was read

abbrev Or : Type 0
Or = Result (PageHeader × ℕ) Error

error_of : Error → Or → Error
error_of d (Ok x) = d
error_of d (Err e) = e

err_same : (a b : Error) → (let r : Or = Err a in r) ≡ Err b → a ≡ b
unfolding error_of
err_same a b e = ap (error_of a) e

by_value : (max : ℕ) (bytes : List ℕ) (v : Value) (rest : List ℕ) (e : Error) (o : Option PageHeader) → thrift_at (take max bytes) ≡ Ok (v, rest) → page_header_of v ≡ o → or_reason v (length (take max bytes) - length rest) o ≡ Err e → Fails max bytes e
by_value max bytes v rest e (Some h) is has r = cc r
by_value max bytes v rest e None is has r =
    let f = wider max bytes v rest (front (take max bytes) v rest is) in
    let wide : thrift_at bytes ≡ Ok (v, rest ++ drop max bytes) = read_at bytes f.text (rest ++ drop max bytes) v f.parts f.spells f.nests in
    let reason : value_reason v ≡ e = err_same (value_reason v) e r in
    elim (tells v) [
      | inl x ↦ inr (sym reason ∙ x.0, is_other bytes v (rest ++ drop max bytes) x.1 f x.2)
      | inr y ↦ inl (sym reason ∙ y.0, inl (record { pages = no_header bytes v (rest ++ drop max bytes) wide has; other = no_other bytes v (rest ++ drop max bytes) wide y.1 }))
    ]

-- a struct that does not lie in the first bytes passes them
by_length : (max : ℕ) (bytes : List ℕ) (f : Fault) (v : Value) (rest : List ℕ) (x : Front bytes v rest) (b : Bool) → thrift_at (take max bytes) ≡ Err f → nat_lt max (length x.text) ≡ b → NothingNext bytes ⊎ LongNext max bytes
by_length max bytes f v rest x true cut l = inr (record { head = x.text; behind = rest; parts = x.parts; «value» = v; spells = x.spells; long = ltb-true max (length x.text) l })
by_length max bytes f v rest x false cut l =
    absurd (front_none (take max bytes) f x.text (take (max - length x.text) rest) v cut (narrower max bytes v rest x (ltb-false max (length x.text) l)) x.spells x.nests)

-- no struct lies in the first bytes
short_or_long : (max : ℕ) (bytes : List ℕ) (f : Fault) (r : Read) → thrift_at (take max bytes) ≡ Err f → thrift_at bytes ≡ r → NothingNext bytes ⊎ LongNext max bytes
short_or_long max bytes f (Err g) cut is = inl (nothing_read bytes g is)
short_or_long max bytes f (Ok x) cut is = by_length max bytes f x.0 x.1 (front bytes x.0 x.1 is) _ cut refl

by_fault : (max : ℕ) (bytes : List ℕ) (r : Read) (e : Error) → thrift_at (take max bytes) ≡ r → header_from (length (take max bytes)) r ≡ Err e → Fails max bytes e
by_fault max bytes (Err f) e is r = inl (sym (err_same (OutOfSpec S3) e r), short_or_long max bytes f (thrift_at bytes) is refl)
by_fault max bytes (Ok x) e is r = by_value max bytes x.0 x.1 e (page_header_of x.0) is refl r

no_header_fails : (max : ℕ) (bytes : List ℕ) (e : Error) → header_at (take max bytes) ≡ Err e → Fails max bytes e
unfolding header_at
no_header_fails max bytes e is = by_fault max bytes (thrift_at (take max bytes)) e refl is

-- ---- a header whose body is cut

type_known : (fs : Fields) (h : Header) (t : ℤ) → HasHeader fs h → get 1 fs ≡ Some (int32 t) → IsOtherType t → ⊥
type_known fs (data_page h) t a e o = o.0 (i32_same (get 1 fs) t (pos 0) e a.0)
type_known fs (dictionary_page h) t a e o = o.1 (i32_same (get 1 fs) t (pos 2) e a.0)
type_known fs (data_page_2 h) t a e o = o.2 (i32_same (get 1 fs) t (pos 3) e a.0)

known : (v : Value) (h : PageHeader) → SpellsHeader v h → HasNone (SpellsOtherType v)
known (struct fs) h s t o = type_known fs h.header t s.header o.0 o.1
known _ h s t o = absurd s

cut_off : (bytes : List ℕ) (h : PageHeader) (n : ℕ) → HeaderIs bytes h n → length bytes < n + h.size → (p : RawPage) → IsNext bytes p → ⊥
cut_off bytes h n x cut p next =
    let t = next.spells in
    let there = read_at bytes t.head (p.body ++ next.rest) t.«value» (next_parts bytes next.text next.rest p t next.parts) t.spells t.nests in
    let here = read_at bytes x.head x.rest x.«value» x.parts x.spells x.nests in
    let same = ok_same (x.«value», x.rest) (t.«value», p.body ++ next.rest) (sym here ∙ there) in
    let header = page_header_same t.«value» h (record { header = p.header; size = length p.body }) (subst (λ (v : Value). SpellsHeader v h) (ap (λ y. y.0) same) x.is_header) t.is_header in
    omega (arith, cut, x.size, ap length x.parts, length-append x.head x.rest, ap (λ y. length y.1) same, length-append p.body next.rest, ap (λ (k : PageHeader). k.size) header)

body_cut : (max : ℕ) (bytes : List ℕ) (h : PageHeader) (n : ℕ) → HeaderIs bytes h n → length bytes < n + h.size → Fails max bytes (OutOfSpec S3)
body_cut max bytes h n x cut =
    let here = read_at bytes x.head x.rest x.«value» x.parts x.spells x.nests in
    inl (refl, inl (record { pages = cut_off bytes h n x cut; other = no_other bytes x.«value» x.rest here (known x.«value» h x.is_header) }))

abbrev Next : Type 0
Next = Result (RawPage × List ℕ) Error

next_error : Error → Next → Error
next_error d (Ok x) = d
next_error d (Err e) = e

next_err_same : (a b : Error) → (let r : Next = Err a in r) ≡ Err b → a ≡ b
unfolding next_error
next_err_same a b e = ap (next_error a) e

by_choice : (max : ℕ) (bytes : List ℕ) (h : PageHeader) (n : ℕ) (b : Bool) (e : Error) → HeaderIs bytes h n → nat_lt (length bytes) (n + h.size) ≡ b → cond {A = Next} b (Err (OutOfSpec S3)) (Ok (page_with bytes h n)) ≡ Err e → Fails max bytes e
by_choice max bytes h n false e x is r = cc r
by_choice max bytes h n true e x is r = subst (Fails max bytes) (next_err_same (OutOfSpec S3) e r) (body_cut max bytes h n x (ltb-true (length bytes) (n + h.size) is))

by_given : (max : ℕ) (bytes : List ℕ) (g : Given) (e : Error) → header_at (take max bytes) ≡ g → body_behind bytes g ≡ Err e → Fails max bytes e
by_given max bytes (Err f) e is r = subst (Fails max bytes) (next_err_same f e r) (no_header_fails max bytes f is)
by_given max bytes (Ok x) e is r = by_choice max bytes x.0 x.1 (nat_lt (length bytes) (x.1 + x.0.size)) e (widened max bytes x.0 x.1 (header_is (take max bytes) x.0 x.1 is)) refl r

pub next_fails : (max : ℕ) (bytes : List ℕ) (e : Error) → next_page max bytes ≡ Err e → Fails max bytes e
unfolding next_page
next_fails max bytes e is = by_given max bytes (header_at (take max bytes)) e refl is
