-- Entries at some indices at once.
use Rattle.std.proofs.Common.{◌≡◌, inl, ℕ, zero, suc, ◌+◌, ◌-◌, ◌*◌, ◌/◌, ◌<◌, ◌≤◌, min, Bool, true, false, Some, Ok, Err, List, [], ◌∷◌, ◌++◌, length, take, drop, get_or, replicate, refl, sym, ap, subst, ◌∙◌, arith, append-nil, append_assoc}
use Rattle.std.specs.Prelude.{slice_get}
use Rattle.std.proofs.lemmas.Bool.{ne_eqb}
use Rattle.std.specs.List.{AllZip}
use Rattle.std.proofs.lemmas.List.{map-append, take_more, drop_more, get_or-take, take-append-drop, take-take, take-replicate, replicate-append-replicate, length-take}
use Rattle.pq_numbers.specs.Bits.{unpacked}
use Rattle.pq_numbers.proofs.Bytes.{AreBytes}
use Rattle.pq_numbers.specs.Texts.{number_of}
use Rattle.pq_numbers.specs.Varint.{varint_at}
use Rattle.pq_numbers.proofs.Numbers.{varint-none}
use Rattle.pq_runs.specs.Hybrid.{Item as Index, fault, given, hybrid, runs_items}
use Rattle.pq_runs.specs.Taking.{IsPackedRun, IsRepeatedRun, NoRun}
use Rattle.pq_runs.proofs.Complete.{none_left}
use Rattle.pq_runs.proofs.Fuel.{found_copies, found_nothing, found_packed}
use Rattle.pq_delta_reads.specs.Blocks.{block_of}
use Rattle.pq_delta_reads.proofs.Groups.{block_front}
use Rattle.pq_delta_reads.proofs.Steps.{parts_of}
use Rattle.read_column.specs.Dictionary.{IsLaid, Texts, all_of, indices_in}
use Rattle.read_column.specs.Lookups.{AreLaidAs, IsLaidTo, Lays, LaysRun}
use Rattle.read_column.proofs.Laying.{all-push, in-section, laid-all, laid-none, nothing-laid, too-wide, zip-push}

-- ---- bytes

take_past : (xs ys : List ℕ) (k : ℕ) → take (length xs + k) (xs ++ ys) ≡ xs ++ take k ys
take_past [] ys k = (let e : 0 + k ≡ k = omega arith in ap (λ (n : ℕ). take n ys) e)
take_past (x ∷ xs) ys k =
    let e : suc (length xs) + k ≡ suc (length xs + k) = omega arith in
    ap (λ (n : ℕ). take n (x ∷ (xs ++ ys))) e ∙ ap (λ (t : List ℕ). x ∷ t) (take_past xs ys k)

-- fewer bytes than were put
pub fewer_put : (at size n : ℕ) (front out bytes : List ℕ) → length front ≡ at → size ≤ n → take (at + n) out ≡ front ++ take n bytes → take (at + size) out ≡ front ++ take size bytes
fewer_put at size n front out bytes is le e =
    sym (take-take (at + size) (at + n) out (omega (arith, le)))
    ∙ ap (take (at + size)) e
    ∙ ap (λ (k : ℕ). take (k + size) (front ++ take n bytes)) (sym is)
    ∙ take_past front (take n bytes) size
    ∙ ap (λ (t : List ℕ). front ++ t) (take-take size n bytes le)

-- ---- entries

pub laid_more : (texts : Texts) (i : ℕ) (ns bytes text : List ℕ) → i < length ns → slice_get texts (get_or ns i 0) ≡ Some text → AreLaidAs texts (take i ns) bytes → AreLaidAs texts (take (i + 1) ns) (bytes ++ text)
laid_more texts i ns bytes text lt is a =
    subst (λ (ms : List ℕ). AreLaidAs texts ms (bytes ++ text)) (sym (take_more ns i 0 lt)) (
      a.0 ++ text ∷ [],
      zip-push (λ m t. slice_get texts m ≡ Some t) (take i ns) a.0 (get_or ns i 0) text a.1 is,
      ap (λ (t : List ℕ). t ++ text) a.2 ∙ sym (all-push a.0 text),
    )

pub appended_more : (texts : Texts) (i : ℕ) (ns start out out' text : List ℕ) → i < length ns → slice_get texts (get_or ns i 0) ≡ Some text → out' ≡ out ++ text → ((front : List ℕ) × (out ≡ start ++ front) × AreLaidAs texts (take i ns) front) → (front : List ℕ) × (out' ≡ start ++ front) × AreLaidAs texts (take (i + 1) ns) front
appended_more texts i ns start out out' text lt is e a =
    (a.0 ++ text, e ∙ ap (λ (t : List ℕ). t ++ text) a.1 ∙ append_assoc start a.0 text, laid_more texts i ns a.0 text lt is a.2)

-- all of so many
pub count_is : (texts : Texts) (count at : ℕ) (ns start out : List ℕ) → at ≡ count → ((front : List ℕ) × (out ≡ start ++ front) × AreLaidAs texts (take at ns) front) → (front : List ℕ) × (out ≡ start ++ front) × AreLaidAs texts (take count ns) front
count_is texts count at ns start out e a = subst (λ (k : ℕ). (front : List ℕ) × (out ≡ start ++ front) × AreLaidAs texts (take k ns) front) e a

all_append : (xs ys : Texts) → all_of (xs ++ ys) ≡ all_of xs ++ all_of ys
all_append [] ys = refl
all_append (x ∷ xs) ys = ap (λ (t : List ℕ). x ++ t) (all_append xs ys) ∙ sym (append_assoc x (all_of xs) (all_of ys))

zip_append : {A B : Type 0} (R : A → B → Type 0) (xs : List A) (ys : List B) (us : List A) (vs : List B) → AllZip R xs ys → AllZip R us vs → AllZip R (xs ++ us) (ys ++ vs)
zip_append R [] [] us vs a b = b
zip_append R [] (y ∷ ys) us vs a b = absurd a
zip_append R (x ∷ xs) [] us vs a b = absurd a
zip_append R (x ∷ xs) (y ∷ ys) us vs a b = (a.0, zip_append R xs ys us vs a.1 b)

given_append : (xs ys : List ℕ) (others : List Index) → given (xs ++ ys) ++ others ≡ given xs ++ (given ys ++ others)
given_append xs ys others = ap (λ (t : List Index). t ++ others) (map-append Ok xs ys) ∙ append_assoc (given xs) (given ys) others

laid_on : (texts : Texts) (items others : List Index) (ns before after text : List ℕ) → after ≡ before ++ text → AreLaidAs texts ns text → IsLaidTo texts items (given ns ++ others) before → IsLaidTo texts items others after
laid_on texts items others ns before after text e l a = record {
  indices = a.indices ++ ns;
  read = a.read ∙ sym (given_append a.indices ns others);
  parts = a.parts ++ l.0;
  are = zip_append (λ n t. slice_get texts n ≡ Some t) a.indices a.parts ns l.0 a.are l.1;
  spelled = e ∙ ap (λ (t : List ℕ). t ++ text) a.spelled ∙ ap (λ (t : List ℕ). all_of a.parts ++ t) l.2 ∙ sym (all_append a.parts l.0);
}

-- ---- blocks

pub lays_all : (texts : Texts) (ns before after : List ℕ) → ((text : List ℕ) × (after ≡ before ++ text) × AreLaidAs texts ns text) → Lays texts ns true before after
unfolding Lays
lays_all texts ns before after l = λ items others a. laid_on texts items others ns before after l.0 l.1 l.2 a

pub lays_front : (texts : Texts) (at count : ℕ) (ns before after : List ℕ) → at < count → at < length ns → length texts ≤ get_or ns at 0 → ((text : List ℕ) × (after ≡ before ++ text) × AreLaidAs texts (take at ns) text) → Lays texts (take count ns) false before after
unfolding Lays
lays_front texts at count ns before after lt within past l = λ items others a. (
    let rest : List ℕ = drop (at + 1) (take count ns) in
    let n : ℕ = get_or ns at 0 in
    let split : take count ns ≡ take at ns ++ n ∷ rest =
    sym (take-append-drop at (take count ns))
    ∙ ap (λ (t : List ℕ). t ++ drop at (take count ns)) (take-take at count ns (omega (arith, lt)))
    ∙ ap (λ (t : List ℕ). take at ns ++ t) (drop_more (take count ns) at 0 (omega (arith, lt, within, length-take count ns)))
    ∙ ap (λ (x : ℕ). take at ns ++ x ∷ rest) (get_or-take count ns at 0 lt)
    in
    let come : given (take count ns) ++ others ≡ given (take at ns) ++ (given (n ∷ rest) ++ others) = ap (λ (xs : List ℕ). given xs ++ others) split ∙ given_append (take at ns) (n ∷ rest) others in
    let b = laid_on texts items (given (n ∷ rest) ++ others) (take at ns) before after l.0 l.1 l.2 (subst (λ (xs : List Index). IsLaidTo texts items xs before) come a) in
    laid-all texts items (Ok n ∷ (given rest ++ others)) after b past)

pub lays_then : (all : Bool) (texts : Texts) (xs ys a b c : List ℕ) → Lays texts xs true a b → Lays texts ys all b c → Lays texts (xs ++ ys) all a c
unfolding Lays
lays_then true texts xs ys a b c j k = λ items others h. k items others (j items (given ys ++ others) (subst (λ (t : List Index). IsLaidTo texts items t a) (given_append xs ys others) h))
lays_then false texts xs ys a b c j k = λ items others h. k items others (j items (given ys ++ others) (subst (λ (t : List Index). IsLaidTo texts items t a) (given_append xs ys others) h))

pub lays_stops : (texts : Texts) (xs ys a b : List ℕ) → Lays texts xs false a b → Lays texts (xs ++ ys) false a b
unfolding Lays
lays_stops texts xs ys a b j = λ items others h. j items (given ys ++ others) (subst (λ (t : List Index). IsLaidTo texts items t a) (given_append xs ys others) h)

pub lays_none : (texts : Texts) (xs a : List ℕ) → xs ≡ [] → Lays texts xs true a a
unfolding Lays
lays_none texts xs a none = λ items others h. subst (λ (t : List ℕ). IsLaidTo texts items (given t ++ others) a) none h

-- ---- so many

abbrev pub SoFar : Texts → List ℕ → List ℕ → List ℕ → List ℕ → Type 0
SoFar texts whole start left now = (all : Bool) (after : List ℕ) → Lays texts left all now after → Lays texts whole all start after

pub packed_parts : (w left some : ℕ) (rest : List ℕ) → AreBytes rest → some ≡ min left 32 → take some (block_of w rest) ++ unpacked w (left - some) (drop (4 * w) rest) ≡ unpacked w left rest
packed_parts w left some rest are is =
    ap (λ (t : List ℕ). t ++ unpacked w (left - some) (drop (4 * w) rest)) (block_front w some rest (omega (arith, is))) ∙ parts_of w left some rest are is

pub copied_parts : (left some n : ℕ) (block : List ℕ) → block ≡ replicate 32 n → some ≡ min left 32 → take some block ++ replicate (left - some) n ≡ replicate left n
copied_parts left some n block e is =
    let parts : some + (left - some) ≡ left = omega (arith, is) in
    ap (λ (t : List ℕ). take some t ++ replicate (left - some) n) e
    ∙ ap (λ (t : List ℕ). t ++ replicate (left - some) n) (take-replicate some 32 n (omega (arith, is)))
    ∙ replicate-append-replicate some (left - some) n
    ∙ ap (λ (k : ℕ). replicate k n) parts

pub so_far_more : (texts : Texts) (whole start front others left now next : List ℕ) → front ++ others ≡ left → SoFar texts whole start left now → Lays texts front true now next → SoFar texts whole start others next
so_far_more texts whole start front others left now next e s l = λ all after h. s all after (subst (λ (t : List ℕ). Lays texts t all now after) e (lays_then all texts front others now next after l h))

pub so_far_stops : (texts : Texts) (whole start front others left now next : List ℕ) → front ++ others ≡ left → SoFar texts whole start left now → Lays texts front false now next → Lays texts whole false start next
so_far_stops texts whole start front others left now next e s l = s false next (subst (λ (t : List ℕ). Lays texts t false now next) e (lays_stops texts front others now next l))

pub so_far_end : (texts : Texts) (whole start left now : List ℕ) → left ≡ [] → SoFar texts whole start left now → Lays texts whole true start now
so_far_end texts whole start left now none s = s true now (lays_none texts left now none)

-- ---- runs

pub copies_run : (w n m k v : ℕ) (bytes value rest : List ℕ) → 0 < n → IsRepeatedRun w bytes value m rest → k ≡ min m n → v ≡ number_of value → runs_items (length bytes) w n bytes ≡ given (replicate k v) ++ runs_items (length rest) w (n - k) rest
copies_run w n m k v bytes value rest some r is same = rw (is, same) (found_copies w n m bytes value rest some r)

pub packed_run : (w n k : ℕ) (bytes body rest : List ℕ) → 0 < w → 0 < n → IsPackedRun w bytes body rest → k ≡ min n (8 * length body / w) → runs_items (length bytes) w n bytes ≡ given (unpacked w k body) ++ runs_items (length rest) w (n - k) rest
packed_run w n k bytes body rest wide some r is = rw is (found_packed w n bytes body rest wide some r)

pub run_laid : (all : Bool) (texts : Texts) (w left left' : ℕ) (ns bytes bytes' before after : List ℕ) → runs_items (length bytes) w left bytes ≡ given ns ++ runs_items (length bytes') w left' bytes' → Lays texts ns all before after → LaysRun texts all w left bytes left' bytes' before after
unfolding Lays LaysRun
run_laid true texts w left left' ns bytes bytes' before after e l = λ items h. l items (runs_items (length bytes') w left' bytes') (subst (λ (t : List Index). IsLaidTo texts items t before) e h)
run_laid false texts w left left' ns bytes bytes' before after e l = λ items h. l items (runs_items (length bytes') w left' bytes') (subst (λ (t : List Index). IsLaidTo texts items t before) e h)

pub no_run_laid : (texts : Texts) (w left left' : ℕ) (bytes bytes' values : List ℕ) → 0 < left → NoRun w bytes → LaysRun texts false w left bytes left' bytes' values values
unfolding LaysRun
no_run_laid texts w left left' bytes bytes' values some none = λ items h. laid-all texts items (Err fault ∷ []) values (subst (λ (t : List Index). IsLaidTo texts items t values) (found_nothing w left bytes some none) h) tt

pub no_bytes : (w : ℕ) (bytes : List ℕ) → bytes ≡ [] → NoRun w bytes
no_bytes w bytes none = inl (ap varint_at none ∙ varint-none)

pub run_on : (texts : Texts) (w left left' : ℕ) (bytes bytes' before after : List ℕ) (items : List Index) → LaysRun texts true w left bytes left' bytes' before after → IsLaidTo texts items (runs_items (length bytes) w left bytes) before → IsLaidTo texts items (runs_items (length bytes') w left' bytes') after
unfolding LaysRun
run_on texts w left left' bytes bytes' before after items l h = l items h

hybrid_is : (w n : ℕ) (bytes : List ℕ) → 0 < w → runs_items (length bytes) w n bytes ≡ hybrid w n bytes
unfolding hybrid
hybrid_is w n bytes wide = rw (ne_eqb w 0 (λ z. omega (arith, z, wide))) refl

pub run_stops : (texts : Texts) (w n left left' : ℕ) (all bytes bytes' before after : List ℕ) → 0 < w → LaysRun texts false w left bytes left' bytes' before after → IsLaidTo texts (runs_items (length all) w n all) (runs_items (length bytes) w left bytes) before → IsLaid texts (hybrid w n all) after
unfolding LaysRun
run_stops texts w n left left' all bytes bytes' before after wide l h = subst (λ (t : List Index). IsLaid texts t after) (hybrid_is w n all wide) (l (runs_items (length all) w n all) h)

pub runs_end : (texts : Texts) (w n left : ℕ) (all bytes values : List ℕ) → 0 < w → left ≡ 0 → IsLaidTo texts (runs_items (length all) w n all) (runs_items (length bytes) w left bytes) values → IsLaid texts (hybrid w n all) values
runs_end texts w n left all bytes values wide none h =
    let b : IsLaidTo texts (runs_items (length all) w n all) [] values = subst (λ (t : List Index). IsLaidTo texts (runs_items (length all) w n all) t values) (ap (λ (k : ℕ). runs_items (length bytes) w k bytes) none ∙ none_left (length bytes) w bytes) h in
    subst (λ (t : List Index). IsLaid texts t values) (hybrid_is w n all wide) (laid-all texts (runs_items (length all) w n all) [] values b tt)

pub whole_laid : (all : Bool) (texts : Texts) (ns values : List ℕ) → Lays texts ns all [] values → IsLaid texts (given ns) values
unfolding Lays
whole_laid true texts ns values l = laid-all texts (given ns) [] values (l (given ns) [] (subst (λ (t : List Index). IsLaidTo texts (given ns) t []) (sym (append-nil (given ns))) (laid-none texts (given ns)))) tt
whole_laid false texts ns values l = l (given ns) [] (subst (λ (t : List Index). IsLaidTo texts (given ns) t []) (sym (append-nil (given ns))) (laid-none texts (given ns)))

zeros : (n : ℕ) → replicate n (Ok 0) ≡ given (replicate n 0)
zeros zero = refl
zeros (suc n) = ap (λ (t : List Index). Ok 0 ∷ t) (zeros n)

hybrid_none : (w n : ℕ) (bytes : List ℕ) → w ≡ 0 → hybrid w n bytes ≡ given (replicate n 0)
unfolding hybrid
hybrid_none w n bytes none = rw none (zeros n)

pub no_width : (texts : Texts) (w n : ℕ) (runs values : List ℕ) → w ≡ 0 → IsLaid texts (given (replicate n 0)) values → IsLaid texts (indices_in n (w ∷ runs)) values
no_width texts w n runs values none l = subst (λ (t : List Index). IsLaid texts t values) (sym (hybrid_none w n runs none) ∙ in-section w n runs (omega (arith, none))) l

pub some_width : (texts : Texts) (w n : ℕ) (runs values : List ℕ) → w ≤ 32 → IsLaid texts (hybrid w n runs) values → IsLaid texts (indices_in n (w ∷ runs)) values
some_width texts w n runs values fits l = subst (λ (t : List Index). IsLaid texts t values) (in-section w n runs fits) l

pub past_width : (texts : Texts) (w n : ℕ) (runs values : List ℕ) → 32 < w → values ≡ [] → IsLaid texts (indices_in n (w ∷ runs)) values
past_width texts w n runs values wide none = subst (λ (t : List ℕ). IsLaid texts (indices_in n (w ∷ runs)) t) (sym none) (subst (λ (t : List Index). IsLaid texts t []) (too-wide w n runs wide) (nothing-laid texts))
