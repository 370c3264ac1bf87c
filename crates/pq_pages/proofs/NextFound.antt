-- What the next page of a chunk is, where one is read.
use Rattle.std.proofs.Common.{◌≡◌, ℕ, ℤ, pos, ◌+◌, ◌-◌, ◌<◌, ◌≤◌, List, ◌++◌, length, take, drop, Bool, true, false, cond, nat_lt, Option, Some, None, Result, Ok, Err, refl, sym, ap, subst, ◌∙◌, inl, inr, append_assoc, arith}
use Rattle.std.proofs.lemmas.Bool.{ltb-false}
use Rattle.std.proofs.lemmas.List.{take-append-drop, drop_at, length-append, length-take-le, length-drop, drop-drop}
use Rattle.columns_base.specs.declared.error.Error.{Error}
use Rattle.columns_base.specs.declared.error.Error.TheVariants.{OutOfSpec}
use Rattle.columns_base.specs.declared.error.S.TheVariants.{S3}
use Rattle.pq_thrift.specs.Grammar.{Spells, AreFields, depth}
use Rattle.pq_thrift.specs.Reading.{thrift_at}
use Rattle.pq_thrift.specs.Value.{Value, truth, int8, int16, int32, int64, double, binary, list, set, map, struct, Fields, no_fields, field}
use Rattle.pq_metadata.specs.Header.{PageHeader, SpellsHeader}
use Rattle.pq_files.specs.Chunk.{RawPage, IsPageText}
use Rattle.pq_pages.specs.Headers.{header_at, header_from, or_reason, page_header_of}
use Rattle.pq_pages.specs.Reading.{body_behind, next_page}
use Rattle.pq_pages.proofs.Headers.{page_header_found}
use Rattle.pq_pages.proofs.HeaderReads.{Read, Front, front}

-- ---- a struct has a byte

fields_some : (fs : Fields) (last : ℤ) (text : List ℕ) → AreFields fs last text → 0 < length text
fields_some no_fields last text s = omega (arith, ap length s)
fields_some (field id v fs) last text s = omega (arith, ap length s.7, ap length s.4.parts, length-append s.1 (s.2 ++ s.3))

pub struct_some : (v : Value) (text : List ℕ) → Spells text v → 0 < length text
struct_some (struct fs) text s = fields_some fs (pos 0) text s.1
struct_some (truth b) text s = elim s.0 [ inl e ↦ cc e | inr e ↦ cc e ]
struct_some (int8 z) text s = cc s.0
struct_some (int16 z) text s = cc s.0
struct_some (int32 z) text s = cc s.0
struct_some (int64 z) text s = cc s.0
struct_some (double b) text s = cc s.0
struct_some (binary b) text s = cc s.0
struct_some (list n vs) text s = cc s.0
struct_some (set n vs) text s = cc s.0
struct_some (map k n ps) text s = cc s.0

-- ---- the header

pub record HeaderIs (bytes : List ℕ) (h : PageHeader) (n : ℕ) : Type 0 where
  pub head : List ℕ
  pub rest : List ℕ
  pub parts : bytes ≡ head ++ rest
  pub «value» : Value
  pub spells : Spells head «value»
  pub nests : depth «value» ≤ 128
  pub is_header : SpellsHeader «value» h
  pub size : n ≡ length head

abbrev pub Given : Type 0
Given = Result (PageHeader × ℕ) Error

ok_of : PageHeader × ℕ → Given → PageHeader × ℕ
ok_of d (Ok x) = x
ok_of d (Err e) = d

given_same : (x y : PageHeader × ℕ) → (let r : Given = Ok x in r) ≡ Ok y → x ≡ y
unfolding ok_of
given_same x y e = ap (ok_of x) e

by_header : (bytes : List ℕ) (v : Value) (rest : List ℕ) (h : PageHeader) (n : ℕ) (o : Option PageHeader) → Front bytes v rest → page_header_of v ≡ o → or_reason v (length bytes - length rest) o ≡ Ok (h, n) → HeaderIs bytes h n
by_header bytes v rest h n None f has e = cc e
by_header bytes v rest h n (Some k) f has e =
    let same = given_same (k, length bytes - length rest) (h, n) e in
    record {
      head = f.text;
      rest = rest;
      parts = f.parts;
      «value» = v;
      spells = f.spells;
      nests = f.nests;
      is_header = subst (SpellsHeader v) (ap (λ x. x.0) same) (page_header_found v k has);
      size = omega (arith, ap (λ x. x.1) same, ap length f.parts, length-append f.text rest);
    }

by_read : (bytes : List ℕ) (r : Read) (h : PageHeader) (n : ℕ) → thrift_at bytes ≡ r → header_from (length bytes) r ≡ Ok (h, n) → HeaderIs bytes h n
by_read bytes (Err f) h n is e = cc e
by_read bytes (Ok x) h n is e = by_header bytes x.0 x.1 h n (page_header_of x.0) (front bytes x.0 x.1 is) refl e

pub header_is : (bytes : List ℕ) (h : PageHeader) (n : ℕ) → header_at bytes ≡ Ok (h, n) → HeaderIs bytes h n
unfolding header_at
header_is bytes h n e = by_read bytes (thrift_at bytes) h n refl e

-- the same in front of more bytes
pub widened : (max : ℕ) (bytes : List ℕ) (h : PageHeader) (n : ℕ) → HeaderIs (take max bytes) h n → HeaderIs bytes h n
widened max bytes h n x =
    record {
      head = x.head;
      rest = x.rest ++ drop max bytes;
      parts = sym (take-append-drop max bytes) ∙ ap (λ (s : List ℕ). s ++ drop max bytes) x.parts ∙ append_assoc x.head x.rest (drop max bytes);
      «value» = x.«value»;
      spells = x.spells;
      nests = x.nests;
      is_header = x.is_header;
      size = x.size;
    }

-- ---- the page

pub record NextIs (bytes : List ℕ) (p : RawPage) (behind : List ℕ) : Type 0 where
  pub text : List ℕ
  pub parts : bytes ≡ text ++ behind
  pub is : IsPageText text p
  pub some : 0 < length text

abbrev Next : Type 0
Next = Result (RawPage × List ℕ) Error

next_of : RawPage × List ℕ → Next → RawPage × List ℕ
next_of d (Ok x) = x
next_of d (Err e) = d

pub next_same : (x y : RawPage × List ℕ) → (let r : Next = Ok x in r) ≡ Ok y → x ≡ y
unfolding next_of
next_same x y e = ap (next_of x) e

abbrev pub page_with : List ℕ → PageHeader → ℕ → RawPage × List ℕ
page_with bytes h n = (record { header = h.header; body = take h.size (drop n bytes) }, drop (n + h.size) bytes)

-- a page whose body lies in the bytes
whole : (bytes : List ℕ) (h : PageHeader) (n : ℕ) → HeaderIs bytes h n → n + h.size ≤ length bytes → NextIs bytes (page_with bytes h n).0 (page_with bytes h n).1
whole bytes h n x fits =
    let rest : drop n bytes ≡ x.rest = ap (drop n) x.parts ∙ drop_at x.head x.rest n (sym x.size) in
    let size : length (take h.size (drop n bytes)) ≡ h.size = length-take-le h.size (drop n bytes) (omega (arith, length-drop n bytes, fits)) in
    let all : bytes ≡ x.head ++ (take h.size (drop n bytes) ++ drop h.size (drop n bytes)) = x.parts ∙ ap (λ (s : List ℕ). x.head ++ s) (sym rest ∙ sym (take-append-drop h.size (drop n bytes))) in
    record {
      text = x.head ++ take h.size (drop n bytes);
      parts = all ∙ ap (λ (s : List ℕ). x.head ++ (take h.size (drop n bytes) ++ s)) (drop-drop h.size n bytes) ∙ sym (append_assoc x.head (take h.size (drop n bytes)) (drop (n + h.size) bytes));
      is =
          record {
            head = x.head;
            «value» = x.«value»;
            spells = x.spells;
            nests = x.nests;
            is_header = subst (λ (k : ℕ). SpellsHeader x.«value» (record { header = h.header; size = k })) (sym size) x.is_header;
            parts = refl;
          };
      some = omega (arith, length-append x.head (take h.size (drop n bytes)), struct_some x.«value» x.head x.spells);
    }

by_choice : (bytes : List ℕ) (h : PageHeader) (n : ℕ) (b : Bool) (p : RawPage) (behind : List ℕ) → HeaderIs bytes h n → nat_lt (length bytes) (n + h.size) ≡ b → cond {A = Next} b (Err (OutOfSpec S3)) (Ok (page_with bytes h n)) ≡ Ok (p, behind) → NextIs bytes p behind
by_choice bytes h n true p behind x is e = cc e
by_choice bytes h n false p behind x is e =
    let same = next_same (page_with bytes h n) (p, behind) e in
    subst (λ (y : RawPage × List ℕ). NextIs bytes y.0 y.1) same (whole bytes h n x (ltb-false (length bytes) (n + h.size) is))

by_given : (max : ℕ) (bytes : List ℕ) (r : Given) (p : RawPage) (behind : List ℕ) → header_at (take max bytes) ≡ r → body_behind bytes r ≡ Ok (p, behind) → NextIs bytes p behind
by_given max bytes (Err f) p behind is e = cc e
by_given max bytes (Ok x) p behind is e = by_choice bytes x.0 x.1 (nat_lt (length bytes) (x.1 + x.0.size)) p behind (widened max bytes x.0 x.1 (header_is (take max bytes) x.0 x.1 is)) refl e

pub next_is : (max : ℕ) (bytes : List ℕ) (p : RawPage) (behind : List ℕ) → next_page max bytes ≡ Ok (p, behind) → NextIs bytes p behind
unfolding next_page
next_is max bytes p behind e = by_given max bytes (header_at (take max bytes)) p behind refl e

pub next_shorter : (max : ℕ) (bytes : List ℕ) (p : RawPage) (behind : List ℕ) → next_page max bytes ≡ Ok (p, behind) → length behind < length bytes
next_shorter max bytes p behind e = let n = next_is max bytes p behind e in omega (arith, ap length n.parts, length-append n.text behind, n.some)
