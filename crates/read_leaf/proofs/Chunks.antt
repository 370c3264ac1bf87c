-- Byte strings of one size, one after another.
use Rattle.std.proofs.Common.{◌≡◌, ℕ, zero, suc, ◌+◌, ◌*◌, ◌/◌, ◌<◌, ◌≤◌, Bool, true, false, Some, List, [], ◌∷◌, ◌++◌, map, length, take, drop, replicate, refl, arith, ap, sym, ◌∙◌, length-append}
use Rattle.std.proofs.Math.Nat.{mul-div-le, div-zero}
use Rattle.std.proofs.lemmas.Nat.{mul-le}
use Rattle.std.proofs.lemmas.List.{map-append, length-map, length-drop, length-replicate, length-take-le, take-append-le, drop-append-le, take-append-drop}
use Rattle.shredding.specs.Slot.{Value, bytes, Slot, null, value}
use Rattle.columns_slots.specs.Bytes.{chunks, chunks_values}
use Rattle.columns_slots.proofs.Strings.{chunks_len}
use Rattle.read_walk.specs.Values.{Stored}
use Rattle.read_leaf.specs.Fixed.{stored_fixed, value_slots}
use Rattle.read_leaf.specs.FixedBytes.{loaded_bytes, chunk_slots}
use Rattle.read_leaf.proofs.FixedRead.{fixed-first}
use Rattle.read_leaf.proofs.MixedValues.{both-slots}

nothing : (xs : List ℕ) (size : ℕ) → length xs ≡ size * 0 → xs ≡ []
nothing [] size e = refl
nothing (x ∷ xs) size e = absurd (omega (arith, e))

times-suc : (size n : ℕ) → size * suc n ≡ size + size * n
times-suc size n = omega arith

pub times-sum : (size n m : ℕ) → size * (n + m) ≡ size * n + size * m
times-sum size n m = omega arith

-- the first string of some
first-size : (size n : ℕ) (xs : List ℕ) → length xs ≡ size * suc n → size ≤ length xs
first-size size n xs e = omega (arith, e, times-suc size n)

others-size : (size n : ℕ) (xs : List ℕ) → length xs ≡ size * suc n → length (drop size xs) ≡ size * n
others-size size n xs e = omega (arith, e, times-suc size n, length-drop size xs)

chunks-more : (size n m : ℕ) (xs ys : List ℕ) → length xs ≡ size * n → chunks size (n + m) (xs ++ ys) ≡ chunks size n xs ++ chunks size m ys
chunks-more size zero m xs ys e =
    let none : xs ≡ [] = nothing xs size e in
    let count : 0 + m ≡ m = omega arith in
    rw (none, count) refl
chunks-more size (suc n) m xs ys e =
    let count : suc n + m ≡ suc (n + m) = omega arith in
    let h : size ≤ length xs = first-size size n xs e in
    rw (count, take-append-le size xs ys h, drop-append-le size xs ys h) (ap (λ (t : List (List ℕ)). take size xs ∷ t) (chunks-more size n m (drop size xs) ys (others-size size n xs e)))

-- the strings that stand at the front, and those behind them
stored-split : (size n : ℕ) (own rest : List ℕ) → (0 < n → 0 < size) → length own ≡ size * n → stored_fixed loaded_bytes size (own ++ rest) ≡ map Some (chunks_values size n own) ++ stored_fixed loaded_bytes size rest
stored-split size zero own rest some e = let none : own ≡ [] = nothing own size e in rw none refl
stored-split size (suc n) own rest some e =
    let h : size ≤ length own = first-size size n own e in
    let whole : size ≤ length (own ++ rest) = omega (arith, h, length-append own rest) in
    let front : take size (own ++ rest) ≡ take size own = take-append-le size own rest h in
    let behind : drop size (own ++ rest) ≡ drop size own ++ rest = drop-append-le size own rest h in
    fixed-first loaded_bytes size (own ++ rest) (some (omega arith)) whole
    ∙ (ap (λ (s : List ℕ). loaded_bytes s ∷ stored_fixed loaded_bytes size (drop size (own ++ rest))) front
    ∙ (ap (λ (s : List ℕ). loaded_bytes (take size own) ∷ stored_fixed loaded_bytes size s) behind
    ∙ ap (λ (t : List Stored). loaded_bytes (take size own) ∷ t) (stored-split size n (drop size own) rest (λ _. some (omega arith)) (others-size size n own e))))

pub values-count : (size n : ℕ) (content : List ℕ) → length (chunks_values size n content) ≡ n
values-count size n content = length-map (chunks size n content) bytes ∙ chunks_len size n content

-- ---- slots
slots-there : (vs : List Value) (n : ℕ) → length vs ≡ n → value_slots vs (replicate n true) ≡ map value vs
slots-there [] zero e = refl
slots-there [] (suc n) e = absurd (omega (arith, e))
slots-there (v ∷ vs) zero e = absurd (omega (arith, e))
slots-there (v ∷ vs) (suc n) e = ap (λ (t : List Slot). value v ∷ t) (slots-there vs n (omega (arith, e)))

slots-absent : (vs : List Value) (n : ℕ) → length vs ≡ n → value_slots vs (replicate n false) ≡ replicate n null
slots-absent [] zero e = refl
slots-absent [] (suc n) e = absurd (omega (arith, e))
slots-absent (v ∷ vs) zero e = absurd (omega (arith, e))
slots-absent (v ∷ vs) (suc n) e = ap (λ (t : List Slot). null ∷ t) (slots-absent vs n (omega (arith, e)))

grown : (size : ℕ) (content more : List ℕ) (bits added : List Bool) → length content ≡ size * length bits → chunk_slots size (content ++ more) (bits ++ added) ≡ chunk_slots size content bits ++ chunk_slots size more added
grown size content more bits added e =
    let count : length (bits ++ added) ≡ length bits + length added = length-append bits added in
    let parts : chunks_values size (length (bits ++ added)) (content ++ more) ≡ chunks_values size (length bits) content ++ chunks_values size (length added) more = ap (λ (n : ℕ). chunks_values size n (content ++ more)) count ∙ (ap (map bytes) (chunks-more size (length bits) (length added) content more e) ∙ map-append bytes (chunks size (length bits) content) (chunks size (length added) more)) in
    ap (λ (vs : List Value). value_slots vs (bits ++ added)) parts ∙ both-slots (chunks_values size (length bits) content) (chunks_values size (length added) more) bits added (values-count size (length bits) content)

copies : (n : ℕ) (b : Bool) → length (replicate n b) ≡ n
copies n b = length-replicate n b

pub strings-more : (size n : ℕ) (content content' more : List ℕ) (bits bits' : List Bool) → length content ≡ size * length bits → content' ≡ content ++ more → bits' ≡ bits ++ replicate n true → chunk_slots size content' bits' ≡ chunk_slots size content bits ++ map value (chunks_values size n more)
strings-more size n content content' more bits bits' even c b =
    let added : chunk_slots size more (replicate n true) ≡ map value (chunks_values size n more) = ap (λ (k : ℕ). value_slots (chunks_values size k more) (replicate n true)) (copies n true) ∙ slots-there (chunks_values size n more) n (values-count size n more) in
    rw (c, b) (grown size content more bits (replicate n true) even ∙ ap (λ (t : List Slot). chunk_slots size content bits ++ t) added)

pub blanks-more : (size n : ℕ) (content content' more : List ℕ) (bits bits' : List Bool) → length content ≡ size * length bits → content' ≡ content ++ more → bits' ≡ bits ++ replicate n false → chunk_slots size content' bits' ≡ chunk_slots size content bits ++ replicate n null
blanks-more size n content content' more bits bits' even c b =
    let added : chunk_slots size more (replicate n false) ≡ replicate n null = ap (λ (k : ℕ). value_slots (chunks_values size k more) (replicate n false)) (copies n false) ∙ slots-absent (chunks_values size n more) n (values-count size n more) in
    rw (c, b) (grown size content more bits (replicate n false) even ∙ ap (λ (t : List Slot). chunk_slots size content bits ++ t) added)

-- as many bytes still as strings have
pub still-even : (size n : ℕ) (content content' more : List ℕ) (bits bits' : List Bool) (b : Bool) → length content ≡ size * length bits → length more ≡ size * n → content' ≡ content ++ more → bits' ≡ bits ++ replicate n b → length content' ≡ size * length bits'
still-even size n content content' more bits bits' b even m c e =
    let count : length bits' ≡ length bits + n = ap length e ∙ (length-append bits (replicate n b) ∙ ap (λ (k : ℕ). length bits + k) (copies n b)) in
    ap length c ∙ (length-append content more ∙ (omega (arith, even, m, times-sum size (length bits) n) ∙ ap (λ (k : ℕ). size * k) (sym count)))

-- ---- strings at the front
fixed-count : (size n : ℕ) (text : List ℕ) → length (map loaded_bytes (chunks size n text)) ≡ n
fixed-count size n text = length-map (chunks size n text) loaded_bytes ∙ chunks_len size n text

pub count-stored : (size : ℕ) (text : List ℕ) → length (stored_fixed loaded_bytes size text) ≡ length text / size
count-stored size text = fixed-count size (length text / size) text

some-size : (size n : ℕ) (text : List ℕ) → n ≤ length text / size → 0 < n → 0 < size
some-size zero n text h some = absurd (omega (arith, h, some, div-zero (length text)))
some-size (suc size) n text h some = omega arith

pub enough : (size n : ℕ) (text : List ℕ) → n ≤ length text / size → size * n ≤ length text
enough size n text h = omega (arith, mul-le size n size (length text / size) (omega arith) h, mul-div-le (length text) size)

pub stored-front : (size n : ℕ) (text own rest : List ℕ) → n ≤ length text / size → own ≡ take (size * n) text → rest ≡ drop (size * n) text → (length own ≡ size * n) × (stored_fixed loaded_bytes size text ≡ map Some (chunks_values size n own) ++ stored_fixed loaded_bytes size rest)
stored-front size n text own rest h f b =
    let whole : length own ≡ size * n = ap length f ∙ length-take-le (size * n) text (enough size n text h) in
    let parts : text ≡ own ++ rest = sym (take-append-drop (size * n) text) ∙ (ap (λ (t : List ℕ). t ++ drop (size * n) text) (sym f) ∙ ap (λ (t : List ℕ). own ++ t) (sym b)) in
    (whole, ap (stored_fixed loaded_bytes size) parts ∙ stored-split size n own rest (some-size size n text h) whole)
