-- What decoders give of delta packing is what stands there.
use Rattle.std.proofs.Common.{◌≡◌, ℕ, zero, suc, ◌+◌, ◌-◌, ◌*◌, ◌/◌, ◌^◌, ◌≤◌, ℤ, ◌+ℤ◌, Bool, true, false, List, [], ◌∷◌, ◌++◌, length, Option, Some, None, Result, Ok, Err, if◌then◌else◌, refl, sym, ap, subst, ◌∙◌, arith, append_assoc}
use Rattle.std.proofs.lemmas.List.{length-append}
use Rattle.std.proofs.lemmas.Option.{same_Some}
use Rattle.std.specs.Int.{w64}
use Rattle.columns_base.specs.declared.error.Error.{Error}
use Rattle.pq_numbers.specs.Texts.{Begins}
use Rattle.pq_numbers.specs.Varint.{IsNumber, varint_at}
use Rattle.pq_numbers.specs.Zigzag.{unzigzag, IsSigned}
use Rattle.pq_numbers.proofs.Numbers.{number_stands}
use Rattle.pq_runs.specs.Delta.{Blocks, sums, IsSums, IsDelta, wrapped}
use Rattle.pq_runs.specs.DeltaReading.{all, Head, is_good, first_after, count_after, miniblocks_after, size_after, head_at, running, deltas_of, numbers_of}
use Rattle.pq_runs.proofs.DeltaComplete.{delta_read, found_head, good}
use Rattle.pq_runs.proofs.DeltaSound.{blocks_good}
use Rattle.pq_delta_reads.specs.Read.{IsRead, BeginsOf, HasHead}
use Rattle.pq_delta_reads.proofs.Steps.{good_parts}

-- ---- the header

record Stands (bytes : List ℕ) (h : Head) : Type 0 where
  pub size_text : List ℕ
  pub miniblocks_text : List ℕ
  pub count_text : List ℕ
  pub first_text : List ℕ
  pub parts : bytes ≡ size_text ++ (miniblocks_text ++ (count_text ++ (first_text ++ h.body)))
  pub has_size : IsNumber size_text h.size
  pub has_miniblocks : IsNumber miniblocks_text h.miniblocks
  pub has_count : IsNumber count_text h.count
  pub has_first : IsSigned (2 ^ 64) first_text h.first
  pub good : is_good h.size h.miniblocks ≡ true

tested : (b : Bool) (x h : Head) → (if b then Some x else None) ≡ Some h → (b ≡ true) × (x ≡ h)
tested true x h e = (refl, same_Some x h e)
tested false x h e = absurd cc

four_stand : (bytes s_tail m_tail c_tail : List ℕ) (size miniblocks count : ℕ) (h : Head) (first : Option (ℕ × List ℕ)) → varint_at bytes ≡ Some (size, s_tail) → varint_at s_tail ≡ Some (miniblocks, m_tail) → varint_at m_tail ≡ Some (count, c_tail) → varint_at c_tail ≡ first → first_after size miniblocks count first ≡ Some h → Stands bytes h
four_stand bytes s_tail m_tail c_tail size miniblocks count h None s m c f e = absurd cc
four_stand bytes s_tail m_tail c_tail size miniblocks count h (Some first) s m c f e =
    let x : Head = record { size = size; miniblocks = miniblocks; count = count; first = unzigzag first.0; body = first.1 } in
    let t = tested (is_good size miniblocks) x h e in
    let a = number_stands bytes size s_tail s in
    let b = number_stands s_tail miniblocks m_tail m in
    let d = number_stands m_tail count c_tail c in
    let g = number_stands c_tail first.0 first.1 f in
    subst (λ (y : Head). Stands bytes y) t.1 (record {
      size_text = a.0;
      miniblocks_text = b.0;
      count_text = d.0;
      first_text = g.0;
      parts = a.1 ∙ ap (λ (r : List ℕ). a.0 ++ r) (b.1 ∙ ap (λ (r : List ℕ). b.0 ++ r) (d.1 ∙ ap (λ (r : List ℕ). d.0 ++ r) g.1));
      has_size = a.2;
      has_miniblocks = b.2;
      has_count = d.2;
      has_first = record { n = first.0; number = g.2; fits = g.2.below; is = refl };
      good = t.0;
    })

three_stand : (bytes s_tail m_tail : List ℕ) (size miniblocks : ℕ) (h : Head) (count : Option (ℕ × List ℕ)) → varint_at bytes ≡ Some (size, s_tail) → varint_at s_tail ≡ Some (miniblocks, m_tail) → varint_at m_tail ≡ count → count_after size miniblocks count ≡ Some h → Stands bytes h
three_stand bytes s_tail m_tail size miniblocks h None s m c e = absurd cc
three_stand bytes s_tail m_tail size miniblocks h (Some count) s m c e = four_stand bytes s_tail m_tail count.1 size miniblocks count.0 h (varint_at count.1) s m c refl e

two_stand : (bytes s_tail : List ℕ) (size : ℕ) (h : Head) (miniblocks : Option (ℕ × List ℕ)) → varint_at bytes ≡ Some (size, s_tail) → varint_at s_tail ≡ miniblocks → miniblocks_after size miniblocks ≡ Some h → Stands bytes h
two_stand bytes s_tail size h None s m e = absurd cc
two_stand bytes s_tail size h (Some miniblocks) s m e = three_stand bytes s_tail miniblocks.1 size miniblocks.0 h (varint_at miniblocks.1) s m refl e

one_stands : (bytes : List ℕ) (h : Head) (size : Option (ℕ × List ℕ)) → varint_at bytes ≡ size → size_after size ≡ Some h → Stands bytes h
one_stands bytes h None s e = absurd cc
one_stands bytes h (Some size) s e = two_stand bytes size.1 size.0 h (varint_at size.1) s refl e

head_stands : (bytes : List ℕ) (h : Head) → head_at bytes ≡ Some h → Stands bytes h
head_stands bytes h e = one_stands bytes h (varint_at bytes) refl e

pub head_has : (bytes : List ℕ) (h : Head) → head_at bytes ≡ Some h → HasHead bytes h
head_has bytes h e =
    let s = head_stands bytes h e in
    let p = good_parts h.size h.miniblocks s.good in
    record {
      size_text = s.size_text;
      miniblocks_text = s.miniblocks_text;
      count_text = s.count_text;
      first_text = s.first_text;
      parts = s.parts;
      has_size = s.has_size;
      has_miniblocks = s.has_miniblocks;
      has_count = s.has_count;
      has_first = s.has_first;
      size_fits = p.size_fits;
      n = 8 * (h.size / h.miniblocks / 8);
      divides = p.divides;
      n_fits = p.n_fits;
    }

pub has_found : (bytes : List ℕ) (h : Head) → HasHead bytes h → head_at bytes ≡ Some h
has_found bytes h s =
    let g = good h.size h.miniblocks s.n s.size_fits.0 s.size_fits.1 s.divides s.n_fits.0 s.n_fits.1 in
    ap head_at s.parts
    ∙ found_head h.size h.miniblocks h.count s.has_first.n s.size_text s.miniblocks_text s.count_text s.first_text h.body s.has_size s.has_miniblocks s.has_count s.has_first.number g.0
    ∙ ap (λ (z : ℤ). (let x : Head = record { size = h.size; miniblocks = h.miniblocks; count = h.count; first = z; body = h.body } in Some x)) (sym s.has_first.is)

-- ---- sums

none_left : (zs : List ℤ) → [] ≡ all zs → zs ≡ []
none_left [] e = refl
none_left (z ∷ zs) e = absurd cc

pub no_error : (done zs : List ℤ) (e : Error) → all done ++ (Err e ∷ []) ≡ all zs → ⊥
no_error [] [] e h = cc h
no_error [] (z ∷ zs) e h = cc h
no_error (d ∷ done) [] e h = cc h
no_error (d ∷ done) (z ∷ zs) e h = (let tail : all done ++ (Err e ∷ []) ≡ all zs = cc in no_error done zs e tail)

pub all_same : (xs ys : List ℤ) → all xs ≡ all ys → xs ≡ ys
all_same [] ys e = sym (none_left ys e)
all_same (x ∷ xs) [] e = absurd cc
all_same (x ∷ xs) (y ∷ ys) e =
    let head : x ≡ y = cc in
    let tail : all xs ≡ all ys = cc in
    ap (λ (t : List ℤ). x ∷ t) (all_same xs ys tail) ∙ ap (λ (z : ℤ). z ∷ ys) head

running_good : (z : ℤ) (items : List (Result ℤ Error)) (zs : List ℤ) → running z items ≡ all zs → (ds : List ℤ) × (items ≡ all ds) × (zs ≡ sums w64 z ds)
running_good z [] [] e = absurd cc
running_good z [] (y ∷ ys) e =
    let head : wrapped w64 z ≡ y = cc in
    let tail : [] ≡ all ys = cc in
    ([], refl, ap (λ (t : List ℤ). y ∷ t) (none_left ys tail) ∙ ap (λ (x : ℤ). x ∷ []) (sym head))
running_good z (Ok d ∷ items) [] e = absurd cc
running_good z (Ok d ∷ items) (y ∷ ys) e =
    let head : wrapped w64 z ≡ y = cc in
    let tail : running (z +ℤ d) items ≡ all ys = cc in
    let r = running_good (z +ℤ d) items ys tail in
    (d ∷ r.0, ap (λ (t : List (Result ℤ Error)). Ok d ∷ t) r.1, ap (λ (t : List ℤ). y ∷ t) r.2 ∙ ap (λ (x : ℤ). x ∷ sums w64 (z +ℤ d) r.0) (sym head))
running_good z (Err e ∷ items) [] h = absurd cc
running_good z (Err e ∷ items) (y ∷ ys) h =
    let tail : Err e ∷ [] ≡ all ys = cc in
    absurd (no_error [] ys e tail)

are_sums : (z : ℤ) (ds zs : List ℤ) → zs ≡ sums w64 z ds → IsSums w64 z ds zs
are_sums z [] [] e = refl
are_sums z (d ∷ ds) [] e = absurd cc
are_sums z ds (y ∷ zs) e = e

length-sums : (z : ℤ) (ds : List ℤ) → length (sums w64 z ds) ≡ suc (length ds)
length-sums z [] = refl
length-sums z (d ∷ ds) = ap suc (length-sums (z +ℤ d) ds)

-- ---- all numbers

record Spelled (h : Head) (q : ℕ) (zs : List ℤ) : Type 0 where
  pub deltas : List ℤ
  pub text : List ℕ
  pub rest : List ℕ
  pub parts : h.body ≡ text ++ rest
  pub blocks : Blocks true h.miniblocks (8 * q) text deltas
  pub are : IsSums w64 h.first deltas zs
  pub counts : h.count ≡ length zs
  pub whole : (numbers_of h).taken ≤ length h.body → ((numbers_of h).taken ≡ length text) × Blocks false h.miniblocks (8 * q) text deltas

numbers_good : (h : Head) (zs : List ℤ) → is_good h.size h.miniblocks ≡ true → (numbers_of h).items ≡ all zs → Spelled h (h.size / h.miniblocks / 8) zs
numbers_good h zs good e = by_count h.count refl
  where
    by_count : (n : ℕ) → h.count ≡ n → Spelled h (h.size / h.miniblocks / 8) zs
    by_count zero is =
        let none : zs ≡ [] = none_left zs (rw is at e) in
        rw none (record {
          deltas = [];
          text = [];
          rest = h.body;
          parts = refl;
          blocks = Blocks.no_more;
          are = refl;
          counts = is;
          whole = λ le. (rw is refl, Blocks.no_more);
        })
    by_count (suc k) is =
        let p = good_parts h.size h.miniblocks good in
        let r = running_good h.first (deltas_of h k).items zs (rw is at e) in
        let f = blocks_good (length h.body) h.miniblocks (h.size / h.miniblocks / 8) k h.body r.0 p.groups p.some r.1 in
        record {
          deltas = r.0;
          text = f.text;
          rest = f.rest;
          parts = f.parts;
          blocks = f.blocks;
          are = are_sums h.first r.0 zs r.2;
          counts = omega (arith, is, f.count, ap length r.2, length-sums h.first r.0);
          whole = λ le. (let w = f.whole (rw is at le) in (rw is w.0, w.1));
        }

spelled : (cut : Bool) (bytes : List ℕ) (h : Head) (zs : List ℤ) (s : Stands bytes h) (t : Spelled h (h.size / h.miniblocks / 8) zs) → Blocks cut h.miniblocks (8 * (h.size / h.miniblocks / 8)) t.text t.deltas → (b : Begins (λ text ys. IsDelta w64 cut text ys) bytes zs) × (length b.text ≡ length bytes - length h.body + length t.text)
spelled cut bytes h zs s t blocks =
    let p = good_parts h.size h.miniblocks s.good in
    let text : List ℕ = s.size_text ++ (s.miniblocks_text ++ (s.count_text ++ (s.first_text ++ t.text))) in
    let b : Begins (λ text ys. IsDelta w64 cut text ys) bytes zs = record {
      text = text;
      rest = t.rest;
      parts = s.parts ∙ ap (λ (r : List ℕ). s.size_text ++ (s.miniblocks_text ++ (s.count_text ++ (s.first_text ++ r)))) t.parts ∙ sym (simp append_assoc refl);
      spells = record {
        size = h.size;
        miniblocks = h.miniblocks;
        count = h.count;
        first = h.first;
        size_text = s.size_text;
        miniblocks_text = s.miniblocks_text;
        count_text = s.count_text;
        first_text = s.first_text;
        body = t.text;
        parts = refl;
        has_size = s.has_size;
        has_miniblocks = s.has_miniblocks;
        has_count = s.has_count;
        has_first = s.has_first;
        size_fits = p.size_fits;
        n = 8 * (h.size / h.miniblocks / 8);
        divides = p.divides;
        n_fits = p.n_fits;
        counts = t.counts;
        deltas = t.deltas;
        blocks = blocks;
        are = t.are;
      };
    } in
    (b, omega (arith, ap length s.parts, ap length t.parts, length-append t.text t.rest, length-append s.size_text (s.miniblocks_text ++ (s.count_text ++ (s.first_text ++ h.body))), length-append s.miniblocks_text (s.count_text ++ (s.first_text ++ h.body)), length-append s.count_text (s.first_text ++ h.body), length-append s.first_text h.body, length-append s.size_text (s.miniblocks_text ++ (s.count_text ++ (s.first_text ++ t.text))), length-append s.miniblocks_text (s.count_text ++ (s.first_text ++ t.text)), length-append s.count_text (s.first_text ++ t.text), length-append s.first_text t.text))

pub delta_found : (bytes : List ℕ) (zs : List ℤ) → Begins (λ text ys. IsDelta w64 true text ys) bytes zs → (size : ℕ) × IsRead bytes size zs
delta_found bytes zs b =
    let r = delta_read true bytes zs b in
    (length bytes - length r.head.body + (numbers_of r.head).taken, record { head = r.head; found = r.found; counts = r.counts; items = r.items; taken = refl })

-- what a decoder gives in the end, without an error, is read: as many numbers as the header says
pub read_whole : (bytes : List ℕ) (h : Head) (zs : List ℤ) → head_at bytes ≡ Some h → (numbers_of h).items ≡ all zs → IsRead bytes (length bytes - length h.body + (numbers_of h).taken) zs
read_whole bytes h zs found e =
    let s = head_stands bytes h found in
    let t = numbers_good h zs s.good e in
    record { head = h; found = found; counts = t.counts; items = e; taken = refl }

pub delta_stands : (bytes : List ℕ) (zs : List ℤ) → ((size : ℕ) × IsRead bytes size zs) → Begins (λ text ys. IsDelta w64 true text ys) bytes zs
delta_stands bytes zs (size, r) =
    let s = head_stands bytes r.head r.found in
    let t = numbers_good r.head zs s.good r.items in
    (spelled true bytes r.head zs s t t.blocks).0

pub whole_found : (bytes : List ℕ) (size : ℕ) (zs : List ℤ) → BeginsOf false bytes size zs → IsRead bytes size zs × (size ≤ length bytes)
whole_found bytes size zs b =
    let r = delta_read false bytes zs b.begins in
    (record { head = r.head; found = r.found; counts = r.counts; items = r.items; taken = sym b.is ∙ sym (r.taken refl) }, omega (arith, b.is, ap length b.begins.parts, length-append b.begins.text b.begins.rest))

pub whole_stands : (bytes : List ℕ) (size : ℕ) (zs : List ℤ) → IsRead bytes size zs × (size ≤ length bytes) → BeginsOf false bytes size zs
whole_stands bytes size zs (r, le) =
    let s = head_stands bytes r.head r.found in
    let t = numbers_good r.head zs s.good r.items in
    let longer : length r.head.body ≤ length bytes = omega (arith, ap length s.parts, length-append s.size_text (s.miniblocks_text ++ (s.count_text ++ (s.first_text ++ r.head.body))), length-append s.miniblocks_text (s.count_text ++ (s.first_text ++ r.head.body)), length-append s.count_text (s.first_text ++ r.head.body), length-append s.first_text r.head.body) in
    let w = t.whole (omega (arith, le, r.taken, longer)) in
    let b = spelled false bytes r.head zs s t w.1 in
    record { begins = b.0; is = omega (arith, b.1, r.taken, w.0) }
