-- Slots of truth values.
use Rattle.std.proofs.Common.{◌≡◌, ℕ, zero, suc, ◌+◌, ◌-◌, ◌*◌, ◌^◌, ◌<◌, ◌≤◌, ◌==◌, Bool, true, false, true≢false, Some, List, [], ◌∷◌, ◌++◌, map, length, drop, replicate, refl, ap, sym, ◌∙◌, arith, length-append}
use Rattle.std.specs.Prelude.{Result, Ok, Err, IsOk, IfOk, OnOk}
use Rattle.std.proofs.lemmas.List.{map-append, length-map, length-drop}
use Rattle.columns_core.specs.Bits.{word_bits}
use Rattle.pq_numbers.proofs.Digits.{length-digits}
use Rattle.pq_numbers.specs.Bits.{unpacked}
use Rattle.pq_numbers.specs.Texts.{number_of}
use Rattle.shredding.specs.Slot.{truth, Slot, null, value}
use Rattle.read_walk.specs.Values.{Stored, Decodes, DecodesMixed, ones, spread}
use Rattle.read_leaf.specs.Truths.{plain_truths, stored_truths, truth_slots, among_nulls, TookTruths, AddsTruths, TookAmong}
use Rattle.read_leaf.proofs.SetBits.{length-bits}

pub slots-more : (vs ts bs cs : List Bool) → length vs ≡ length bs → truth_slots (vs ++ ts) (bs ++ cs) ≡ truth_slots vs bs ++ truth_slots ts cs
slots-more [] ts [] cs e = refl
slots-more [] ts (b ∷ bs) cs e = absurd (omega (arith, e))
slots-more (v ∷ vs) ts [] cs e = absurd (omega (arith, e))
slots-more (v ∷ vs) ts (true ∷ bs) cs e = ap (λ (ss : List Slot). value (truth v) ∷ ss) (slots-more vs ts bs cs (omega (arith, e)))
slots-more (v ∷ vs) ts (false ∷ bs) cs e = ap (λ (ss : List Slot). null ∷ ss) (slots-more vs ts bs cs (omega (arith, e)))

all-there : (ts : List Bool) (n : ℕ) → length ts ≡ n → truth_slots ts (replicate n true) ≡ map value (map truth ts)
all-there [] zero e = refl
all-there [] (suc n) e = absurd (omega (arith, e))
all-there (t ∷ ts) zero e = absurd (omega (arith, e))
all-there (t ∷ ts) (suc n) e = ap (λ (ss : List Slot). value (truth t) ∷ ss) (all-there ts n (omega (arith, e)))

none-there : (n : ℕ) → truth_slots (replicate n false) (replicate n false) ≡ replicate n null
none-there zero = refl
none-there (suc n) = ap (λ (ss : List Slot). null ∷ ss) (none-there n)

some-there : (bits ts : List Bool) → truth_slots (among_nulls bits ts) bits ≡ spread bits (map truth ts)
some-there [] ts = refl
some-there (false ∷ bits) ts = ap (λ (ss : List Slot). null ∷ ss) (some-there bits ts)
some-there (true ∷ bits) [] = refl
some-there (true ∷ bits) (t ∷ ts) = ap (λ (ss : List Slot). value (truth t) ∷ ss) (some-there bits ts)

pub stored-so : (ts : List Bool) → map (λ b. Some (truth b)) ts ≡ map Some (map truth ts)
stored-so [] = refl
stored-so (t ∷ ts) = ap (λ (ss : List Stored). Some (truth t) ∷ ss) (stored-so ts)

took-stored : (n : ℕ) (bytes rest : List ℕ) (bit bit' : ℕ) (ts : List Bool) → TookTruths n bytes bit rest bit' ts → stored_truths bytes bit ≡ map Some (map truth ts) ++ stored_truths rest bit'
took-stored n bytes rest bit bit' ts t =
    ap (map (λ b. Some (truth b))) t.taken ∙ (map-append (λ b. Some (truth b)) ts (plain_truths rest bit') ∙ ap (λ (ss : List Stored). ss ++ stored_truths rest bit') (stored-so ts))

pub truths-decoded : (n : ℕ) (bytes rest : List ℕ) (bit bit' : ℕ) (vs vs' bs bs' : List Bool) → length vs ≡ length bs → AddsTruths n bytes bit rest bit' vs vs' → bs' ≡ bs ++ replicate n true → Decodes n (stored_truths bytes bit) (stored_truths rest bit') (truth_slots vs bs) (truth_slots vs' bs')
truths-decoded n bytes rest bit bit' vs vs' bs bs' even a e = record {
  values = map truth a.truths;
  size = length-map a.truths truth ∙ a.took.count;
  taken = took-stored n bytes rest bit bit' a.truths a.took;
  pushed = rw (a.pushed, e) (slots-more vs a.truths bs (replicate n true) even ∙ ap (λ (ss : List Slot). truth_slots vs bs ++ ss) (all-there a.truths n a.took.count));
}

pub truths-even : (n : ℕ) (bytes rest : List ℕ) (bit bit' : ℕ) (vs vs' bs bs' : List Bool) → length vs ≡ length bs → AddsTruths n bytes bit rest bit' vs vs' → bs' ≡ bs ++ replicate n true → length vs' ≡ length bs'
truths-even n bytes rest bit bit' vs vs' bs bs' even a e = rw (a.pushed, e) (length-append vs a.truths ∙ omega (arith, even, a.took.count, length-append bs (replicate n true), length-copies n true))
  where
    length-copies : (k : ℕ) (b : Bool) → length (replicate k b) ≡ k
    length-copies zero b = refl
    length-copies (suc k) b = ap suc (length-copies k b)

pub nulls-decoded : (n : ℕ) (vs vs' bs bs' : List Bool) → length vs ≡ length bs → vs' ≡ vs ++ replicate n false → bs' ≡ bs ++ replicate n false → truth_slots vs' bs' ≡ truth_slots vs bs ++ replicate n null
nulls-decoded n vs vs' bs bs' even e f = rw (e, f) (slots-more vs (replicate n false) bs (replicate n false) even ∙ ap (λ (ss : List Slot). truth_slots vs bs ++ ss) (none-there n))

pub among-decoded : (valid count word : ℕ) (bytes rest : List ℕ) (bit bit' : ℕ) (vs vs' bs bs' : List Bool) → length vs ≡ length bs → TookAmong (word_bits valid count) bytes bit rest bit' (word_bits word count) → vs' ≡ vs ++ word_bits word count → bs' ≡ bs ++ word_bits valid count
    → DecodesMixed (word_bits valid count) (stored_truths bytes bit) (stored_truths rest bit') (truth_slots vs bs) (truth_slots vs' bs')
among-decoded valid count word bytes rest bit bit' vs vs' bs bs' even a e f = record {
  values = map truth a.truths;
  size = length-map a.truths truth ∙ a.took.count;
  taken = took-stored (ones (word_bits valid count)) bytes rest bit bit' a.truths a.took;
  pushed = rw (e, f) (slots-more vs (word_bits word count) bs (word_bits valid count) even ∙ ap (λ (ss : List Slot). truth_slots vs bs ++ ss) (ap (λ (ts : List Bool). truth_slots ts (word_bits valid count)) a.are ∙ some-there (word_bits valid count) a.truths));
}

pub word-even : (count v w : ℕ) (vs vs' bs bs' : List Bool) → length vs ≡ length bs → vs' ≡ vs ++ word_bits v count → bs' ≡ bs ++ word_bits w count → length vs' ≡ length bs'
word-even count v w vs vs' bs bs' even e f = rw (e, f) (length-append vs (word_bits v count) ∙ omega (arith, even, length-bits v count, length-bits w count, length-append bs (word_bits w count)))

pub length-stored : (bytes : List ℕ) (bit : ℕ) → length (stored_truths bytes bit) ≡ 8 * length bytes - bit
length-stored bytes bit =
    let n = 8 * length bytes in
    let ds : List ℕ = drop bit (unpacked 1 n bytes) in
    length-map (plain_truths bytes bit) (λ b. Some (truth b)) ∙ (length-map ds (λ (d : ℕ). d == 1) ∙ (length-drop bit (unpacked 1 n bytes) ∙ ap (λ (k : ℕ). k - bit) (length-digits (2 ^ 1) n (number_of bytes))))

pub too-few : (bytes : List ℕ) (bit count : ℕ) → 0 < count → ¬ (bit + count ≤ 8 * length bytes) → length (stored_truths bytes bit) < count
too-few bytes bit count some n = omega (arith, length-stored bytes bit, some, n)

-- a call that is not refused
pub not_refused : {A E : Type 0} (r : Result A E) (P : Type 0) → IsOk r → OnOk r P → P
not_refused (Ok x) P h p = p
not_refused (Err e) P h p = absurd (true≢false (sym h))

-- what is not refused
pub done_ok : {A E : Type 0} (r : Result A E) (P : Type 0) → IsOk r → IfOk r (λ x. P) → P
done_ok (Ok x) P h p = p
done_ok (Err e) P h p = absurd (true≢false (sym h))
