-- Numbers, 32 at once.
use Rattle.std.proofs.Common.{◌≡◌, ℕ, zero, suc, ◌+◌, ◌-◌, ◌*◌, ◌^◌, ◌<◌, ◌≤◌, min, ℤ, pos, ◌+ℤ◌, List, [], ◌∷◌, ◌++◌, length, take, drop, map, get_or, Result, Ok, refl, sym, ap, subst, ◌∙◌, arith, append-nil, append_assoc}
use Rattle.std.proofs.lemmas.List.{length-map, map-append, take_all, take_more, drop_all}
use Rattle.std.specs.Int.{Width, w64, cast_signed}
use Rattle.columns_base.specs.declared.error.Error.{Error}
use Rattle.shredding.specs.Slot.{Value, number}
use Rattle.pq_numbers.specs.Bits.{unpacked}
use Rattle.pq_numbers.specs.Texts.{number_of}
use Rattle.pq_numbers.proofs.Bytes.{AreBytes}
use Rattle.pq_numbers.proofs.Digits.{length-digits}
use Rattle.pq_tree.specs.Physical.{Physical}
use Rattle.pq_files.specs.Plain.{IsOne, InARow}
use Rattle.pq_runs.specs.Delta.{wrapped}
use Rattle.pq_runs.specs.DeltaReading.{Out, above, all}
use Rattle.pq_delta_reads.specs.Blocks.{block_of, signed, values_of}
use Rattle.pq_delta_reads.specs.Reading.{stepped}
use Rattle.pq_delta_reads.proofs.Filling.{Filling, row_push, stored}
use Rattle.pq_delta_reads.proofs.Groups.{block_front}
use Rattle.pq_delta_reads.proofs.Steps.{fill_items}

-- ---- sums

pub added : (least latest : ℤ) (i : ℕ) (numbers : List ℕ) (whole : List (Result ℤ Error)) → length numbers ≤ i → all (signed (take i numbers)) ++ stepped latest (all (above least (drop i numbers))) ≡ whole → all (signed numbers) ≡ whole
added least latest i numbers whole le e =
    sym (append-nil (all (signed numbers)))
    ∙ ap (λ (ns : List ℕ). all (signed ns) ++ []) (sym (take_all i numbers le))
    ∙ ap (λ (ns : List ℕ). all (signed (take i numbers)) ++ stepped latest (all (above least ns))) (sym (drop_all i numbers le))
    ∙ e

stepped_take : (k : ℕ) (z : ℤ) (ds : List ℤ) (ns : List ℕ) (rest : List (Result ℤ Error)) → all (signed ns) ≡ stepped z (all ds) → suc k ≤ length ns → stepped z (all (take (suc k) ds) ++ rest) ≡ all (signed (take (suc k) ns)) ++ stepped (cast_signed w64 (get_or ns k 0)) rest
stepped_take k z [] [] rest e le = absurd (omega (arith, le))
stepped_take k z [] (n ∷ ns) rest e le = absurd cc
stepped_take k z (d ∷ ds) [] rest e le = absurd (omega (arith, le))
stepped_take zero z (d ∷ ds) (n ∷ ns) rest e le =
    let head : cast_signed w64 n ≡ wrapped w64 (z +ℤ d) = cc in
    ap (λ (y : ℤ). Ok y ∷ stepped y rest) (sym head)
stepped_take (suc k) z (d ∷ ds) (n ∷ ns) rest e le =
    let head : cast_signed w64 n ≡ wrapped w64 (z +ℤ d) = cc in
    let tail : all (signed ns) ≡ stepped (wrapped w64 (z +ℤ d)) (all ds) = cc in
    ap (λ (y : ℤ). Ok y ∷ stepped (wrapped w64 (z +ℤ d)) (all (take (suc k) ds) ++ rest)) (sym head)
    ∙ ap (λ (t : List (Result ℤ Error)). Ok (cast_signed w64 n) ∷ t) (stepped_take k (wrapped w64 (z +ℤ d)) ds ns rest tail (omega (arith, le)))

length_stepped : (z : ℤ) (ds : List ℤ) → length (stepped z (all ds)) ≡ length ds
length_stepped z [] = refl
length_stepped z (d ∷ ds) = ap suc (length_stepped (wrapped w64 (z +ℤ d)) ds)

length_block : (w : ℕ) (bytes : List ℕ) → length (block_of w bytes) ≡ 32
unfolding block_of
length_block w bytes = length-digits (2 ^ w) 32 (number_of bytes)

take_above : (least : ℤ) (k : ℕ) (ns : List ℕ) → above least (take k ns) ≡ take k (above least ns)
take_above least zero ns = refl
take_above least (suc k) [] = refl
take_above least (suc k) (n ∷ ns) = ap (λ (t : List ℤ). (least +ℤ pos n) ∷ t) (take_above least k ns)

abbrev pub item_list : ℤ → ℤ → List ℕ → ℕ → ℕ → List ℕ → Out → List (Result ℤ Error)
item_list latest least waiting width standing packed behind = stepped latest (all (above least (waiting ++ unpacked width standing packed)) ++ behind.items)

parted : (least : ℤ) (front others : List ℕ) (items : List (Result ℤ Error)) → all (above least (front ++ others)) ++ items ≡ all (above least front) ++ (all (above least others) ++ items)
parted least [] others items = refl
parted least (n ∷ front) others items = ap (λ (t : List (Result ℤ Error)). Ok (least +ℤ pos n) ∷ t) (parted least front others items)

pub block_items : (latest least : ℤ) (waiting : List ℕ) (width standing count : ℕ) (packed packed' : List ℕ) (behind : Out) (deltas numbers : List ℕ) → length waiting ≡ 0 → AreBytes packed → count ≡ min standing 32 → 0 < standing → deltas ≡ block_of width packed → all (signed numbers) ≡ stepped latest (all (above least deltas)) → packed' ≡ drop (4 * width) packed → item_list latest least waiting width standing packed behind ≡ all (signed (take count numbers)) ++ item_list (cast_signed w64 (get_or numbers (count - 1) 0)) least waiting width (standing - count) packed' behind
block_items latest least [] width standing count packed packed' behind deltas numbers empty are is some from sums back =
    let front : unpacked width count packed ≡ take count deltas = sym (block_front width count packed (omega (arith, is))) ∙ ap (take count) (sym from) in
    let one : suc (count - 1) ≡ count = omega (arith, is, some) in
    let long : length numbers ≡ 32 = sym (length-map numbers (cast_signed w64)) ∙ sym (length-map (signed numbers) Ok) ∙ ap length sums ∙ length_stepped latest (above least deltas) ∙ length-map deltas (λ (m : ℕ). least +ℤ pos m) ∙ ap length from ∙ length_block width packed in
    let others : List ℕ = unpacked width (standing - count) packed' in
    let rest : List (Result ℤ Error) = all (above least others) ++ behind.items in
    sym (fill_items latest least [] (take count deltas) width standing count packed packed' behind empty are is (sym front) back)
    ∙ ap (stepped latest) (parted least (take count deltas) others behind.items)
    ∙ ap (λ (ds : List ℤ). stepped latest (all ds ++ rest)) (take_above least count deltas)
    ∙ ap (λ (k : ℕ). stepped latest (all (take k (above least deltas)) ++ rest)) (sym one)
    ∙ stepped_take (count - 1) latest (above least deltas) numbers rest sums (omega (arith, long, is, some))
    ∙ ap (λ (k : ℕ). all (signed (take k numbers)) ++ stepped (cast_signed w64 (get_or numbers (count - 1) 0)) rest) one
block_items latest least (n ∷ ns) width standing count packed packed' behind deltas numbers empty are is some from sums back = absurd (omega (arith, empty))

-- ---- bytes

pub signed_more : (i : ℕ) (numbers : List ℕ) → i < length numbers → signed (take (i + 1) numbers) ≡ signed (take i numbers) ++ cast_signed w64 (get_or numbers i 0) ∷ []
signed_more i numbers lt = ap signed (take_more numbers i 0 lt) ∙ map-append (cast_signed w64) (take i numbers) (get_or numbers i 0 ∷ [])

pub row_more : (v : Width) (p : Physical) (size i : ℕ) (places places' one numbers : List ℕ) (z : ℤ) → i < length numbers → take (size * i + size) places' ≡ take (size * i) places ++ one → z ≡ cast_signed w64 (get_or numbers i 0) → IsOne p one (number (wrapped v z)) → InARow p (take (size * i) places) (values_of v (take i numbers)) → InARow p (take (size * (i + 1)) places') (values_of v (take (i + 1) numbers))
row_more v p size i places places' one numbers z lt put is o row =
    let at : size * (i + 1) ≡ size * i + size = omega arith in
    let last : List ℤ = cast_signed w64 (get_or numbers i 0) ∷ [] in
    let pushed : values_of v (take (i + 1) numbers) ≡ values_of v (take i numbers) ++ number (wrapped v z) ∷ [] =
    ap (λ (zs : List ℤ). map number (map (wrapped v) zs)) (signed_more i numbers lt)
    ∙ ap (map number) (map-append (wrapped v) (signed (take i numbers)) last)
    ∙ map-append number (map (wrapped v) (signed (take i numbers))) (map (wrapped v) last)
    ∙ ap (λ (y : ℤ). values_of v (take i numbers) ++ number (wrapped v y) ∷ []) (sym is)
    in
    subst (λ (t : List ℕ). InARow p t (values_of v (take (i + 1) numbers))) (sym (ap (λ (k : ℕ). take k places') at ∙ put)) (subst (λ (vs : List Value). InARow p (take (size * i) places ++ one) vs) (sym pushed) (row_push p (take (size * i) places) one (values_of v (take i numbers)) (number (wrapped v z)) row o))

row_append : (p : Physical) (text others : List ℕ) (vs ws : List Value) → InARow p text vs → InARow p others ws → InARow p (text ++ others) (vs ++ ws)
row_append p text others [] ws h k = subst (λ (t : List ℕ). InARow p t ws) (sym (ap (λ (t : List ℕ). t ++ others) h)) k
row_append p text others (v ∷ vs) ws h k =
    (h.0, h.1 ++ others, h.2, row_append p h.1 others vs ws h.3 k, ap (λ (t : List ℕ). t ++ others) h.4 ∙ append_assoc h.0 h.1 others)

pub filling_block : (v : Width) (p : Physical) (start out out' text : List ℕ) (all_items items items' : List (Result ℤ Error)) (ns : List ℕ) → items ≡ all (signed ns) ++ items' → out' ≡ out ++ text → InARow p text (values_of v ns) → Filling v p start out all_items items → Filling v p start out' all_items items'
filling_block v p start out out' text all_items items items' ns e o row f =
    let pushed : stored v (f.done ++ signed ns) ≡ stored v f.done ++ values_of v ns = ap (map number) (map-append (wrapped v) f.done (signed ns)) ∙ map-append number (map (wrapped v) f.done) (map (wrapped v) (signed ns)) in
    record {
      done = f.done ++ signed ns;
      text = f.text ++ text;
      parts = o ∙ ap (λ (t : List ℕ). t ++ text) f.parts ∙ append_assoc start f.text text;
      row = subst (λ (vs : List Value). InARow p (f.text ++ text) vs) (sym pushed) (row_append p f.text text (stored v f.done) (values_of v ns) f.row row);
      come = ap (λ (t : List (Result ℤ Error)). t ++ items') (map-append Ok f.done (signed ns)) ∙ append_assoc (all f.done) (all (signed ns)) items' ∙ ap (λ (t : List (Result ℤ Error)). all f.done ++ t) (sym e) ∙ f.come;
    }
