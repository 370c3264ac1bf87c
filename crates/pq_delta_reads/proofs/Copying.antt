-- Byte strings one after another, spelled plain.
use Rattle.std.proofs.Common.{◌≡◌, ◌⊎◌, ℕ, suc, ℤ, pos, ◌+◌, ◌-◌, ◌<◌, ◌≤◌, ◌^◌, false, List, [], ◌∷◌, ◌++◌, length, take, drop, map, get_or, All, inl, inr, Result, Ok, Err, Some, None, refl, sym, ap, subst, ◌∙◌, arith, append-nil, append_assoc}
use Rattle.std.proofs.lemmas.List.{length-append, length-map, length-take, map-append, drop_at, drop_more, get_or-take, take-append-drop, take-take}
use Rattle.std.proofs.lemmas.List.Elements.{All-push}
use Rattle.std.proofs.lemmas.Option.{same_Some}
use Rattle.std.specs.Int.{w32, w64, cast_signed}
use Rattle.std.specs.Int.RustNames.{unsigned_abs}
use Rattle.std.specs.List.{flat_map}
use Rattle.columns_base.specs.declared.error.Error.{Error}
use Rattle.shredding.specs.Slot.{Value, bytes}
use Rattle.pq_numbers.specs.Texts.{Begins, number_of}
use Rattle.pq_tree.specs.Physical.{byte_array}
use Rattle.pq_files.specs.Delta.{AreDeltaLengths}
use Rattle.pq_files.specs.Plain.{IsOne, InARow}
use Rattle.pq_files.proofs.DeltasOnce.{lengths_same}
use Rattle.pq_files.proofs.Unique.{append_same}
use Rattle.pq_runs.specs.Delta.{wrapped}
use Rattle.pq_runs.specs.DeltaReading.{Head, all, head_at, numbers_of}
use Rattle.pq_runs.specs.Writing.{Extends}
use Rattle.pq_runs.proofs.Packs.{kept_more, kept_then}
use Rattle.pq_delta_reads.specs.Blocks.{StopsStrings, TakesStrings, signed}
use Rattle.pq_delta_reads.specs.Decoding.{Decoding}
use Rattle.pq_delta_reads.specs.Read.{IsRead}
use Rattle.pq_delta_reads.specs.Sections.{TurnsPlain, SpellsNone, TakesString}
use Rattle.pq_delta_reads.proofs.Adding.{signed_more}
use Rattle.pq_delta_reads.proofs.Filling.{row_push, turns}
use Rattle.pq_delta_reads.proofs.Narrow.{narrow_32, narrowed, widened}
use Rattle.pq_delta_reads.proofs.Whole.{no_error, all_same, whole_found, whole_stands, read_whole}

abbrev pub joined : List (List ℕ) → List ℕ
joined ss = flat_map (λ s. s) ss

abbrev pub sizes : List (List ℕ) → List ℤ
sizes ss = map (λ s. pos (length s)) ss

-- ---- what is read, is read once

pub head_once : (section : List ℕ) (size : ℕ) (zs : List ℤ) (h : Head) → head_at section ≡ Some h → IsRead section size zs → (h.count ≡ length zs) × ((numbers_of h).items ≡ all zs) × (size ≡ length section - length h.body + (numbers_of h).taken)
head_once section size zs h found r =
    let same : r.head ≡ h = same_Some r.head h (sym r.found ∙ found) in
    (ap (λ (x : Head). x.count) (sym same) ∙ r.counts, ap (λ (x : Head). (numbers_of x).items) (sym same) ∙ r.items, r.taken ∙ ap (λ (x : Head). length section - length x.body + (numbers_of x).taken) same)

pub read_once : (section : List ℕ) (size size' : ℕ) (zs zs' : List ℤ) → IsRead section size zs → IsRead section size' zs' → (size ≡ size') × (zs ≡ zs')
read_once section size size' zs zs' r r' =
    let a = head_once section size zs r'.head r'.found r in
    (a.2 ∙ sym r'.taken, all_same zs zs' (sym a.1 ∙ r'.items))

-- the strings of a section, of which the lengths are read
pub record Strings (section : List ℕ) (size : ℕ) (zs : List ℤ) (vs : List Value) : Type 0 where
  pub strings : List (List ℕ)
  pub rest : List ℕ
  pub lengths : map (wrapped w32) zs ≡ sizes strings
  pub behind : drop size section ≡ joined strings ++ rest
  pub are : vs ≡ map bytes strings

pub strings_read : (section : List ℕ) (vs : List Value) → Begins AreDeltaLengths section vs → (size : ℕ) × (zs : List ℤ) × IsRead section size zs × (size ≤ length section) × Strings section size zs vs
strings_read section vs b =
    let x = b.spells in
    let n = narrowed w32 narrow_32 false x.head (sizes x.strings) x.lengths in
    let parts : section ≡ x.head ++ (joined x.strings ++ b.rest) = b.parts ∙ ap (λ (t : List ℕ). t ++ b.rest) x.parts ∙ append_assoc x.head (joined x.strings) b.rest in
    let r = whole_found section (length x.head) n.0 (record { begins = record { text = x.head; rest = joined x.strings ++ b.rest; parts = parts; spells = n.1 }; is = refl }) in
    (length x.head, n.0, r.0, r.1, record { strings = x.strings; rest = b.rest; lengths = sym n.2; behind = ap (drop (length x.head)) parts ∙ drop_at x.head (joined x.strings ++ b.rest) (length x.head) refl; are = x.are })

pub strings_of : (section : List ℕ) (size : ℕ) (zs : List ℤ) (vs : List Value) → IsRead section size zs → Begins AreDeltaLengths section vs → Strings section size zs vs × (size ≤ length section)
strings_of section size zs vs r b =
    let s = strings_read section vs b in
    let o = read_once section s.0 size s.1 zs s.2 r in
    (subst (λ (k : ℕ). Strings section k zs vs) o.0 (subst (λ (ys : List ℤ). Strings section s.0 ys vs) o.1 s.4), omega (arith, s.3, o.0))

string_count : (section : List ℕ) (size : ℕ) (zs : List ℤ) (vs : List Value) (s : Strings section size zs vs) → length vs ≡ length zs
string_count section size zs vs s = ap length s.are ∙ length-map s.strings bytes ∙ sym (length-map s.strings (λ (t : List ℕ). pos (length t))) ∙ sym (ap length s.lengths) ∙ length-map zs (wrapped w32)

-- ---- going over the lengths

pub record Walking (first d : Decoding) : Type 0 where
  pub done : List ℤ
  pub come : all done ++ d.items ≡ first.items
  pub total : d.total ≡ first.total

pub lengths_none : (count : ℕ) (section : List ℕ) → head_at section ≡ None → SpellsNone AreDeltaLengths count section
lengths_none count section none = λ vs n b. (
    let r = (strings_read section vs b).2 in
    let no : Some r.head ≡ None = sym r.found ∙ none in
    absurd cc)

pub lengths_other : (count : ℕ) (section : List ℕ) (h : Head) → head_at section ≡ Some h → (h.count ≡ count → ⊥) → SpellsNone AreDeltaLengths count section
lengths_other count section h found other = λ vs n b. (
    let s = strings_read section vs b in
    let o = head_once section s.0 s.1 h found s.2 in
    other (o.0 ∙ sym (string_count section s.0 s.1 vs s.4) ∙ n))

pub lengths_fail : (count : ℕ) (section : List ℕ) (h : Head) (first d : Decoding) (e : Error) → head_at section ≡ Some h → first.items ≡ (numbers_of h).items → d.items ≡ Err e ∷ [] → Walking first d → SpellsNone AreDeltaLengths count section
lengths_fail count section h first d e found are failed w = λ vs n b. (
    let s = strings_read section vs b in
    let o = head_once section s.0 s.1 h found s.2 in
    no_error w.done s.1 e (ap (λ (x : List (Result ℤ Error)). all w.done ++ x) (sym failed) ∙ w.come ∙ are ∙ o.1))

pub lengths_cut : (count : ℕ) (section : List ℕ) (h : Head) (taken : ℕ) → head_at section ≡ Some h → taken ≡ length section - length h.body + (numbers_of h).taken → length section < taken → SpellsNone AreDeltaLengths count section
lengths_cut count section h taken found is past = λ vs n b. (
    let s = strings_read section vs b in
    let o = head_once section s.0 s.1 h found s.2 in
    omega (arith, s.3, o.2, is, past))

pub lengths_done : (count taken : ℕ) (section behind : List ℕ) (h : Head) (first d : Decoding) → head_at section ≡ Some h → first.items ≡ (numbers_of h).items → first.total ≡ length section - length h.body + (numbers_of h).taken → h.count ≡ count → d.items ≡ [] → taken ≡ d.total → taken ≤ length section → behind ≡ drop taken section → Walking first d → (size : ℕ) × (zs : List ℤ) × IsRead section size zs × (size ≤ length section) × (length zs ≡ count) × (behind ≡ drop size section)
lengths_done count taken section behind h first d found are total counts none is within rest w =
    let items : (numbers_of h).items ≡ all w.done = sym are ∙ sym w.come ∙ ap (λ (x : List (Result ℤ Error)). all w.done ++ x) none ∙ append-nil (all w.done) in
    let r = read_whole section h w.done found items in
    let size : length section - length h.body + (numbers_of h).taken ≡ taken = sym total ∙ sym w.total ∙ sym is in
    let o = head_once section (length section - length h.body + (numbers_of h).taken) w.done h found r in
    (length section - length h.body + (numbers_of h).taken, w.done, r, omega (arith, size, within), sym o.0 ∙ counts, rest ∙ ap (λ (k : ℕ). drop k section) (sym size))

-- ---- copying the strings

pub record Copying (start out : List ℕ) (zs : List ℤ) (behind : List ℕ) (items : List (Result ℤ Error)) (rest : List ℕ) : Type 0 where
  pub done : List (List ℕ)
  pub left : List ℤ
  pub text : List ℕ
  pub parts : out ≡ start ++ text
  pub row : InARow byte_array text (map bytes done)
  pub come : items ≡ all left
  pub lengths : sizes done ++ map (wrapped w32) left ≡ map (wrapped w32) zs
  pub short : All (λ s. length s < 2 ^ 31) done
  pub split : joined done ++ rest ≡ behind

all_none : All (λ (s : List ℕ). length s < 2 ^ 31) []
all_none = λ k d lt. absurd (omega (arith, lt))

pub copying_begin : (start section rest : List ℕ) (h : Head) (items : List (Result ℤ Error)) (size size' : ℕ) (zs zs' : List ℤ) → head_at section ≡ Some h → items ≡ (numbers_of h).items → IsRead section size zs → IsRead section size' zs' → rest ≡ drop size' section → Copying start start zs (drop size section) items rest
copying_begin start section rest h items size size' zs zs' found are r r' is =
    let o = head_once section size zs h found r in
    let same = read_once section size size' zs zs' r r' in
    record {
      done = [];
      left = zs;
      text = [];
      parts = sym (append-nil start);
      row = refl;
      come = are ∙ o.1;
      lengths = refl;
      short = all_none;
      split = is ∙ ap (λ (k : ℕ). drop k section) (sym same.0);
    }

joined_push : (ss : List (List ℕ)) (s rest : List ℕ) → joined (ss ++ s ∷ []) ++ rest ≡ joined ss ++ (s ++ rest)
joined_push [] s rest = ap (λ (t : List ℕ). t ++ rest) (append-nil s)
joined_push (x ∷ ss) s rest = append_assoc x (joined (ss ++ s ∷ [])) rest ∙ ap (λ (t : List ℕ). x ++ t) (joined_push ss s rest) ∙ sym (append_assoc x (joined ss) (s ++ rest))

next_left : (left : List ℤ) (z : ℤ) (items' : List (Result ℤ Error)) → Ok z ∷ items' ≡ all left → (more : List ℤ) × (left ≡ z ∷ more) × (items' ≡ all more)
next_left [] z items' e = absurd cc
next_left (y ∷ ys) z items' e =
    let head : z ≡ y = cc in
    let tail : items' ≡ all ys = cc in
    (ys, ap (λ (x : ℤ). x ∷ ys) (sym head), tail)

pub copying_more : (start out out' one : List ℕ) (zs : List ℤ) (behind : List ℕ) (items items' : List (Result ℤ Error)) (rest rest' : List ℕ) (z : ℤ) (size : ℕ) → items ≡ Ok z ∷ items' → wrapped w32 z ≡ pos size → size < 2 ^ 31 → size ≤ length rest → rest' ≡ drop size rest → out' ≡ out ++ one → IsOne byte_array one (bytes (take size rest)) → Copying start out zs behind items rest → Copying start out' zs behind items' rest'
copying_more start out out' one zs behind items items' rest rest' z size e is few within back o string c =
    let n = next_left c.left z items' (sym e ∙ c.come) in
    let s : List ℕ = take size rest in
    let long : length s ≡ size = omega (arith, length-take size rest, within) in
    record {
      done = c.done ++ s ∷ [];
      left = n.0;
      text = c.text ++ one;
      parts = o ∙ ap (λ (t : List ℕ). t ++ one) c.parts ∙ append_assoc start c.text one;
      row = subst (λ (vs : List Value). InARow byte_array (c.text ++ one) vs) (sym (map-append bytes c.done (s ∷ []))) (row_push byte_array c.text one (map bytes c.done) (bytes s) c.row string);
      come = n.2;
      lengths =
          ap (λ (t : List ℤ). t ++ map (wrapped w32) n.0) (map-append (λ (t : List ℕ). pos (length t)) c.done (s ∷ []))
          ∙ append_assoc (sizes c.done) (pos (length s) ∷ []) (map (wrapped w32) n.0)
          ∙ ap (λ (y : ℤ). sizes c.done ++ (y ∷ map (wrapped w32) n.0)) (ap pos long ∙ sym is)
          ∙ ap (λ (t : List ℤ). sizes c.done ++ map (wrapped w32) t) (sym n.1)
          ∙ c.lengths;
      short = All-push (λ (t : List ℕ). length t < 2 ^ 31) c.done s c.short (omega (arith, long, few));
      split = joined_push c.done s rest' ∙ ap (λ (t : List ℕ). joined c.done ++ (s ++ t)) back ∙ ap (λ (t : List ℕ). joined c.done ++ t) (take-append-drop size rest) ∙ c.split;
    }

pub copying_block : (ys : List ℤ) (start out out' : List ℕ) (zs : List ℤ) (behind : List ℕ) (items items' : List (Result ℤ Error)) (rest rest' : List ℕ) → items ≡ all ys ++ items' → TakesStrings ys rest rest' out out' → Copying start out zs behind items rest → Copying start out' zs behind items' rest'
copying_block [] start out out' zs behind items items' rest rest' e t c = record {
  done = c.done;
  left = c.left;
  text = c.text;
  parts = t.1 ∙ c.parts;
  row = c.row;
  come = sym e ∙ c.come;
  lengths = c.lengths;
  short = c.short;
  split = ap (λ (r : List ℕ). joined c.done ++ r) t.0 ∙ c.split;
}
copying_block (y ∷ ys) start out out' zs behind items items' rest rest' e t c =
    let s = t.3.2 in
    copying_block ys start t.3.1 out' zs behind (all ys ++ items') items' t.3.0 rest' refl t.3.3 (copying_more start out t.3.1 s.2.0 zs behind items (all ys ++ items') rest t.3.0 y t.0 e t.1 t.2 s.0 s.1 s.2.1 s.2.2 c)

pub takes_push : (done : List ℤ) (z : ℤ) (size : ℕ) (front mid rest before between after : List ℕ) → TakesStrings done front mid before between → wrapped w32 z ≡ pos size → size < 2 ^ 31 → TakesString size mid rest between after → TakesStrings (done ++ z ∷ []) front rest before after
takes_push [] z size front mid rest before between after t is few s =
    (size, is, few, (rest, after, subst (λ (m : List ℕ). TakesString size m rest before after) t.0 (subst (λ (b : List ℕ). TakesString size mid rest b after) t.1 s), (refl, refl)))
takes_push (y ∷ done) z size front mid rest before between after t is few s =
    (t.0, t.1, t.2, (t.3.0, t.3.1, t.3.2, takes_push done z size t.3.0 mid rest t.3.1 between after t.3.3 is few s))

-- the first of some lengths, one of them, and the others
pub signed_split : (count i : ℕ) (ns : List ℕ) → i < count → i < length ns → signed (take count ns) ≡ signed (take i ns) ++ cast_signed w64 (get_or ns i 0) ∷ signed (drop (i + 1) (take count ns))
signed_split count i ns lt within =
    ap signed (
    sym (take-append-drop i (take count ns))
    ∙ ap (λ (t : List ℕ). t ++ drop i (take count ns)) (take-take i count ns (omega (arith, lt)))
    ∙ ap (λ (t : List ℕ). take i ns ++ t) (drop_more (take count ns) i 0 (omega (arith, lt, within, length-take count ns)))
    ∙ ap (λ (x : ℕ). take i ns ++ x ∷ drop (i + 1) (take count ns)) (get_or-take count ns i 0 lt)
    )
    ∙ map-append (cast_signed w64) (take i ns) (get_or ns i 0 ∷ drop (i + 1) (take count ns))

pub stops_at : (count i : ℕ) (ns front rest before after : List ℕ) (z : ℤ) → i < count → i < length ns → z ≡ cast_signed w64 (get_or ns i 0) → TakesStrings (signed (take i ns)) front rest before after → ((n : ℕ) → wrapped w32 z ≡ pos n → ⊥) ⊎ ((n : ℕ) × (wrapped w32 z ≡ pos n) × (length rest < n)) → StopsStrings (signed (take count ns)) front before
stops_at count i ns front rest before after z lt within is takes cause = record {
  done = signed (take i ns);
  z = z;
  others = signed (drop (i + 1) (take count ns));
  parts = signed_split count i ns lt within ∙ ap (λ (y : ℤ). signed (take i ns) ++ y ∷ signed (drop (i + 1) (take count ns))) (sym is);
  rest = rest;
  after = after;
  takes = takes;
  cause = cause;
}

pub takes_next : (i : ℕ) (ns front mid rest before between after : List ℕ) (z : ℤ) (size : ℕ) → i < length ns → z ≡ cast_signed w64 (get_or ns i 0) → TakesStrings (signed (take i ns)) front mid before between → wrapped w32 z ≡ pos size → size < 2 ^ 31 → TakesString size mid rest between after → TakesStrings (signed (take (i + 1) ns)) front rest before after
takes_next i ns front mid rest before between after z size within is takes length_is few string =
    let more : signed (take (i + 1) ns) ≡ signed (take i ns) ++ z ∷ [] = signed_more i ns within ∙ ap (λ (y : ℤ). signed (take i ns) ++ y ∷ []) (sym is) in
    subst (λ (ys : List ℤ). TakesStrings ys front rest before after) (sym more) (takes_push (signed (take i ns)) z size front mid rest before between after takes length_is few string)

-- behind another text
pub takes_behind : (ys : List ℤ) (start front rest before after : List ℕ) → TakesStrings ys front rest before after → TakesStrings ys front rest (start ++ before) (start ++ after)
takes_behind [] start front rest before after t = (t.0, ap (λ (x : List ℕ). start ++ x) t.1)
takes_behind (y ∷ ys) start front rest before after t =
    let s = t.3.2 in
    (t.0, t.1, t.2, (t.3.0, start ++ t.3.1, (s.0, s.1, (s.2.0, ap (λ (x : List ℕ). start ++ x) s.2.1 ∙ sym (append_assoc start before s.2.0), s.2.2)), takes_behind ys start t.3.0 rest t.3.1 after t.3.3))

pub takes_appended : (ys : List ℤ) (front rest before after text : List ℕ) → TakesStrings ys front rest [] text → after ≡ before ++ text → TakesStrings ys front rest before after
takes_appended ys front rest before after text t e =
    subst (λ (x : List ℕ). TakesStrings ys front rest before x) (sym e) (subst (λ (x : List ℕ). TakesStrings ys front rest x (before ++ text)) (append-nil before) (takes_behind ys before front rest [] text t))

take_past : (xs ys : List ℕ) (k : ℕ) → take (length xs + k) (xs ++ ys) ≡ xs ++ take k ys
take_past [] ys k = (let e : 0 + k ≡ k = omega arith in ap (λ (n : ℕ). take n ys) e)
take_past (x ∷ xs) ys k =
    let e : suc (length xs) + k ≡ suc (length xs + k) = omega arith in
    ap (λ (n : ℕ). take n (x ∷ (xs ++ ys))) e ∙ ap (λ (t : List ℕ). x ∷ t) (take_past xs ys k)

-- a string that was put with more bytes behind it
pub string_put : (at size n : ℕ) (head places between after front rest : List ℕ) → at ≤ length places → length head ≡ 4 → number_of head ≡ size → size ≤ n → n ≤ length front → rest ≡ drop size front → take (at + 4) between ≡ take at places ++ head → take (at + 4 + n) after ≡ take (at + 4) between ++ take n front → TakesString size front rest (take at places) (take (at + 4 + size) after)
string_put at size n head places between after front rest within four value short enough behind first second =
    let long : length (take (at + 4) between) ≡ at + 4 = ap length first ∙ omega (arith, length-append (take at places) head, length-take at places, within, four) in
    let text : take (at + 4 + size) after ≡ take at places ++ (head ++ take size front) =
    sym (take-take (at + 4 + size) (at + 4 + n) after (omega (arith, short)))
    ∙ ap (take (at + 4 + size)) second
    ∙ ap (λ (k : ℕ). take (k + size) (take (at + 4) between ++ take n front)) (sym long)
    ∙ take_past (take (at + 4) between) (take n front) size
    ∙ ap (λ (t : List ℕ). take (at + 4) between ++ t) (take-take size n front short)
    ∙ ap (λ (t : List ℕ). t ++ take size front) first
    ∙ append_assoc (take at places) head (take size front)
    in
    (omega (arith, short, enough), behind, (head ++ take size front, text, record { head = head; four = four; size = value ∙ sym (omega (arith, length-take size front, short, enough)); parts = refl }))

pub takes_kept : (ys : List ℤ) (front rest before after : List ℕ) → TakesStrings ys front rest before after → Extends before after
takes_kept [] front rest before after t = kept_more before after [] (t.1 ∙ sym (append-nil before))
takes_kept (y ∷ ys) front rest before after t =
    let s = t.3.2 in
    kept_then before t.3.1 after (kept_more before t.3.1 s.2.0 s.2.1) (takes_kept ys t.3.0 rest t.3.1 after t.3.3)

-- the strings that are left
strings_left : (done ss : List (List ℕ)) (rest r : List ℕ) (ws : List ℤ) → sizes done ++ ws ≡ sizes ss → joined done ++ rest ≡ joined ss ++ r → (more : List (List ℕ)) × (ws ≡ sizes more) × (rest ≡ joined more ++ r)
strings_left [] ss rest r ws l e = (ss, l, e)
strings_left (d ∷ done) [] rest r ws l e = absurd cc
strings_left (d ∷ done) (s ∷ ss) rest r ws l e =
    let head : pos (length d) ≡ pos (length s) = cc in
    let tail : sizes done ++ ws ≡ sizes ss = cc in
    let text : d ++ (joined done ++ rest) ≡ s ++ (joined ss ++ r) = sym (append_assoc d (joined done) rest) ∙ e ∙ append_assoc s (joined ss) r in
    let same = append_same d s (joined done ++ rest) (joined ss ++ r) (ap unsigned_abs head) text in
    strings_left done ss rest r ws tail same.1

first_left : (more : List (List ℕ)) (z : ℤ) (zs : List ℤ) (rest r : List ℕ) → map (wrapped w32) (z ∷ zs) ≡ sizes more → rest ≡ joined more ++ r → (s : List ℕ) × (wrapped w32 z ≡ pos (length s)) × (length s ≤ length rest)
first_left [] z zs rest r l e = absurd cc
first_left (s ∷ more) z zs rest r l e =
    let head : wrapped w32 z ≡ pos (length s) = cc in
    (s, head, omega (arith, ap length e, length-append (s ++ joined more) r, length-append s (joined more)))

-- where a string comes next, its length is that of bytes that stand there
next_string : (section start out : List ℕ) (size : ℕ) (zs : List ℤ) (items items' : List (Result ℤ Error)) (rest : List ℕ) (z : ℤ) (vs : List Value) → IsRead section size zs → items ≡ Ok z ∷ items' → Copying start out zs (drop size section) items rest → Begins AreDeltaLengths section vs → (s : List ℕ) × (wrapped w32 z ≡ pos (length s)) × (length s ≤ length rest)
next_string section start out size zs items items' rest z vs r e c b =
    let s = (strings_of section size zs vs r b).0 in
    let n = next_left c.left z items' (sym e ∙ c.come) in
    let l = strings_left c.done s.strings rest s.rest (map (wrapped w32) c.left) (c.lengths ∙ s.lengths) (c.split ∙ s.behind) in
    first_left l.0 z n.0 rest s.rest (ap (map (wrapped w32)) (sym n.1) ∙ l.1) l.2

pub no_length : (count : ℕ) (section start out : List ℕ) (size : ℕ) (zs : List ℤ) (items items' : List (Result ℤ Error)) (rest : List ℕ) (z : ℤ) → IsRead section size zs → items ≡ Ok z ∷ items' → Copying start out zs (drop size section) items rest → ((n : ℕ) → wrapped w32 z ≡ pos n → ⊥) → SpellsNone AreDeltaLengths count section
no_length count section start out size zs items items' rest z r e c none = λ vs n b. (let s = next_string section start out size zs items items' rest z vs r e c b in none (length s.0) s.1)

pub no_bytes_left : (count : ℕ) (section start out : List ℕ) (size : ℕ) (zs : List ℤ) (items items' : List (Result ℤ Error)) (rest : List ℕ) (z : ℤ) (n : ℕ) → IsRead section size zs → items ≡ Ok z ∷ items' → Copying start out zs (drop size section) items rest → wrapped w32 z ≡ pos n → length rest < n → SpellsNone AreDeltaLengths count section
no_bytes_left count section start out size zs items items' rest z n r e c is past = λ vs k b. (
    let s = next_string section start out size zs items items' rest z vs r e c b in
    omega (arith, past, s.2, ap unsigned_abs (sym s.1 ∙ is)))

pub block_stops : (count : ℕ) (section start out : List ℕ) (size : ℕ) (zs ys : List ℤ) (items items' : List (Result ℤ Error)) (rest : List ℕ) → IsRead section size zs → items ≡ all ys ++ items' → StopsStrings ys rest out → Copying start out zs (drop size section) items rest → SpellsNone AreDeltaLengths count section
block_stops count section start out size zs ys items items' rest r e x c =
    let others : List (Result ℤ Error) = all x.others ++ items' in
    let come : items ≡ all x.done ++ (Ok x.z ∷ others) = e ∙ ap (λ (t : List ℤ). all t ++ items') x.parts ∙ ap (λ (t : List (Result ℤ Error)). t ++ items') (map-append Ok x.done (x.z ∷ x.others)) ∙ append_assoc (all x.done) (Ok x.z ∷ all x.others) items' in
    let here = copying_block x.done start out x.after zs (drop size section) items (Ok x.z ∷ others) rest x.rest come x.takes c in
    elim x.cause [
      | inl none ↦ no_length count section start x.after size zs (Ok x.z ∷ others) others x.rest x.z r refl here none
      | inr past ↦ no_bytes_left count section start x.after size zs (Ok x.z ∷ others) others x.rest x.z past.0 r refl here past.1 past.2
    ]

pub no_item : (start out : List ℕ) (zs : List ℤ) (behind : List ℕ) (items : List (Result ℤ Error)) (rest : List ℕ) (e : Error) → items ≡ Err e ∷ [] → Copying start out zs behind items rest → ⊥
no_item start out zs behind items rest e failed c = no_error [] c.left e (sym failed ∙ c.come)

all_done : (left : List ℤ) → [] ≡ all left → left ≡ []
all_done [] e = refl
all_done (z ∷ zs) e = absurd cc

pub copied : (count : ℕ) (section start out : List ℕ) (size : ℕ) (zs : List ℤ) (items : List (Result ℤ Error)) (rest : List ℕ) → IsRead section size zs → size ≤ length section → length zs ≡ count → items ≡ [] → Copying start out zs (drop size section) items rest → TurnsPlain AreDeltaLengths byte_array count section start out
copied count section start out size zs items rest r within counts none c =
    let left : c.left ≡ [] = all_done c.left (sym none ∙ c.come) in
    let lengths : sizes c.done ≡ map (wrapped w32) zs = sym (append-nil (sizes c.done)) ∙ ap (λ (t : List ℤ). sizes c.done ++ map (wrapped w32) t) (sym left) ∙ c.lengths in
    let b = whole_stands section size zs (r, within) in
    let behind : b.begins.rest ≡ drop size section = sym (drop_at b.begins.text b.begins.rest (length b.begins.text) refl) ∙ ap (drop (length b.begins.text)) (sym b.begins.parts) ∙ ap (λ (k : ℕ). drop k section) b.is in
    let begins : Begins AreDeltaLengths section (map bytes c.done) = record {
      text = b.begins.text ++ joined c.done;
      rest = rest;
      parts = b.begins.parts ∙ ap (λ (t : List ℕ). b.begins.text ++ t) (behind ∙ sym c.split) ∙ sym (append_assoc b.begins.text (joined c.done) rest);
      spells = record {
        strings = c.done;
        short = c.short;
        head = b.begins.text;
        lengths = widened w32 narrow_32 false b.begins.text zs (sizes c.done) b.begins.spells lengths;
        parts = refl;
        are = refl;
      };
    } in
    let counted : length (map bytes c.done) ≡ count = length-map c.done bytes ∙ sym (length-map c.done (λ (t : List ℕ). pos (length t))) ∙ ap length lengths ∙ length-map zs (wrapped w32) ∙ counts in
    turns AreDeltaLengths byte_array count section start out c.text (map bytes c.done) (λ vs n b'. lengths_same section section vs (map bytes c.done) refl b' begins n) c.parts counted begins c.row
