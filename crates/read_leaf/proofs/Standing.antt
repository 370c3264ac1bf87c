-- Strings that stand in bytes, and strings as slots.
use Rattle.std.proofs.Common.{◌≡◌, ◌⊎◌, ◌↔◌, inl, inr, ℕ, zero, suc, ◌+◌, ◌<◌, ◌≤◌, nat_lt, Bool, true, false, Option, Some, None, List, [], ◌∷◌, ◌++◌, map, length, take, drop, replicate, refl, arith, ap, sym, ◌∙◌, append_assoc, length-append}
use Rattle.std.proofs.Common.{IsTrue}
use Rattle.std.proofs.lemmas.Bool.{cases_lt}
use Rattle.std.proofs.lemmas.Bool.Decides.{leb_tells}
use Rattle.std.proofs.lemmas.List.{map-append, length-replicate, length-drop}
use Rattle.std.proofs.lemmas.Str.{IsUtf8-from_is_utf8, is_utf8-from_IsUtf8}
use Rattle.std.specs.Str.{is_utf8}
use Rattle.columns_base.specs.declared.error.Error.{Error}
use Rattle.columns_base.specs.declared.error.Error.TheVariants.{OutOfSpec, Overflow, Memory}
use Rattle.columns_base.specs.declared.error.S.TheVariants.{S6, S7}
use Rattle.columns_base.specs.declared.error.V.TheVariants.{V1}
use Rattle.shredding.specs.Slot.{bytes, Slot, null, value}
use Rattle.pq_numbers.specs.Texts.{number_of}
use Rattle.read_walk.specs.Values.{Stored, Decodes, CannotDecode, bytes_in, bytes_of}
use Rattle.read_walk.proofs.Decoding.{slots-append, slots-values, slots-nulls, cannot-behind, cannot-more}
use Rattle.read_leaf.specs.Strings.{string_at, strings_in, strings_behind, all_strings, stored_strings, total_bytes, string_slots, AreStrings, AreAllowed, IsText}
use Rattle.read_leaf.proofs.Pieces.{total-append}

-- ---- the string at the front
lt-false : (k n : ℕ) → n ≤ k → nat_lt k n ≡ false
lt-false k n h = elim (leb_tells (suc k) n) [ inl e ↦ absurd (omega (arith, e.1, h)) | inr e ↦ e.0 ]

lt-true : (k n : ℕ) → k < n → nat_lt k n ≡ true
lt-true k n h = elim (leb_tells (suc k) n) [ inl e ↦ e.0 | inr e ↦ absurd (omega (arith, e.1, h)) ]

pub no-length : (text : List ℕ) → length text < 4 → string_at text ≡ None
no-length text h = rw (lt-true (length text) 4 h) refl

pub no-bytes : (text : List ℕ) (n : ℕ) → 4 ≤ length text → n ≡ number_of (take 4 text) → length (drop 4 text) < n → string_at text ≡ None
no-bytes text n h e k = rw (lt-false (length text) 4 h, lt-true (length (drop 4 text)) (number_of (take 4 text)) (omega (arith, k, e))) refl

pub stands : (text : List ℕ) (n : ℕ) → 4 ≤ length text → n ≡ number_of (take 4 text) → n ≤ length (drop 4 text) → string_at text ≡ Some (take n (drop 4 text), drop n (drop 4 text))
stands text n h e k = rw (lt-false (length text) 4 h, lt-false (length (drop 4 text)) (number_of (take 4 text)) (omega (arith, k, e)), e) refl

shorter : (text : List ℕ) (s : List ℕ × List ℕ) → string_at text ≡ Some s → length s.1 < length text
shorter text s is = elim (cases_lt (length text) 4) [
  | inl few ↦ absurd (let e = sym (no-length text few) ∙ is in cc)
  | inr some ↦ elim (cases_lt (length (drop 4 text)) (number_of (take 4 text))) [
    | inl cut ↦ absurd (let e = sym (no-bytes text (number_of (take 4 text)) some refl cut) ∙ is in cc)
    | inr whole ↦
        let e = sym (stands text (number_of (take 4 text)) some refl whole) ∙ is in
        let rest : drop (number_of (take 4 text)) (drop 4 text) ≡ s.1 = cc in
        omega (arith, ap length rest, length-drop (number_of (take 4 text)) (drop 4 text), length-drop 4 text)
  ]
]

behind-same : (others others' : List ℕ → List (List ℕ)) (o : Option (List ℕ × List ℕ)) → ((s : List ℕ × List ℕ) → o ≡ Some s → others s.1 ≡ others' s.1) → strings_behind others o ≡ strings_behind others' o
behind-same others others' None h = refl
behind-same others others' (Some s) h = ap (λ (t : List (List ℕ)). s.0 ∷ t) (h s refl)

none-in : (fuel : ℕ) (text : List ℕ) → string_at text ≡ None → strings_in fuel text ≡ []
unfolding strings_in
none-in zero text e = refl
none-in (suc fuel) text e = rw e refl

fuel-same : (f g : ℕ) (text : List ℕ) → length text ≤ f → length text ≤ g → strings_in f text ≡ strings_in g text
unfolding strings_in
fuel-same zero g text h k = sym (none-in g text (no-length text (omega (arith, h))))
fuel-same (suc f) zero text h k = none-in (suc f) text (no-length text (omega (arith, k)))
fuel-same (suc f) (suc g) text h k = behind-same (strings_in f) (strings_in g) (string_at text) (λ s e. fuel-same f g s.1 (omega (arith, shorter text s e, h)) (omega (arith, shorter text s e, k)))

pub none-stand : (text : List ℕ) → string_at text ≡ None → all_strings text ≡ []
none-stand text e = none-in (length text) text e

some-in : (fuel : ℕ) (text : List ℕ) (s : List ℕ × List ℕ) → length text ≤ fuel → string_at text ≡ Some s → strings_in fuel text ≡ s.0 ∷ all_strings s.1
unfolding strings_in
some-in zero text s h e = absurd (omega (arith, shorter text s e, h))
some-in (suc fuel) text s h e = rw e (ap (λ (t : List (List ℕ)). s.0 ∷ t) (fuel-same fuel (length s.1) s.1 (omega (arith, shorter text s e, h)) (omega arith)))

pub one-stands : (text : List ℕ) (s rest : List ℕ) → string_at text ≡ Some (s, rest) → all_strings text ≡ s ∷ all_strings rest
one-stands text s rest e = some-in (length text) text (s, rest) (omega arith) e

-- ---- slots
all-null : (n : ℕ) → string_slots (replicate n []) (replicate n false) ≡ replicate n null
all-null zero = refl
all-null (suc n) = ap (λ (u : List Slot). null ∷ u) (all-null n)

pub nulls-more : (n : ℕ) (ss : List (List ℕ)) (bs : List Bool) → length ss ≡ length bs → string_slots (ss ++ replicate n []) (bs ++ replicate n false) ≡ string_slots ss bs ++ replicate n null
nulls-more n [] [] e = all-null n
nulls-more n [] (b ∷ bs) e = absurd (omega (arith, e))
nulls-more n (t ∷ ss) [] e = absurd (omega (arith, e))
nulls-more n (t ∷ ss) (true ∷ bs) e = ap (λ (u : List Slot). value (bytes t) ∷ u) (nulls-more n ss bs (omega (arith, e)))
nulls-more n (t ∷ ss) (false ∷ bs) e = ap (λ (u : List Slot). null ∷ u) (nulls-more n ss bs (omega (arith, e)))

total-empty : (n : ℕ) → total_bytes (replicate n []) ≡ 0
total-empty zero = refl
total-empty (suc n) = omega (arith, total-empty n)

pub are-nulls : (n : ℕ) (ss ss' : List (List ℕ)) (bs bs' : List Bool) → AreStrings ss bs → ss' ≡ ss ++ replicate n [] → bs' ≡ bs ++ replicate n false → AreStrings ss' bs'
are-nulls n ss ss' bs bs' a e f = rw (e, f) record {
  even = omega (arith, length-append ss (replicate n []), length-append bs (replicate n false), length-replicate {A = List ℕ} n [], length-replicate n false, a.even);
  all = ap bytes_in (nulls-more n ss bs a.even) ∙ omega (arith, slots-append (string_slots ss bs) (replicate n null), slots-nulls n, total-append ss (replicate n []), total-empty n, a.all);
}

-- ---- strings that are values
all-allowed : (allows : List ℕ → Bool) (n : ℕ) → allows [] ≡ true → AreAllowed allows (replicate n [])
all-allowed allows zero e = tt
all-allowed allows (suc n) e = (e, all-allowed allows n e)

pub allowed-nulls : (allows : List ℕ → Bool) (n : ℕ) (ss : List (List ℕ)) → AreAllowed allows ss → allows [] ≡ true → AreAllowed allows (ss ++ replicate n [])
allowed-nulls allows n [] a e = all-allowed allows n e
allowed-nulls allows n (t ∷ ss) a e = (a.0, allowed-nulls allows n ss a.1 e)

-- ---- a string decoded
pub allowed : (allows : List ℕ → Bool) (text s rest : List ℕ) → string_at text ≡ Some (s, rest) → allows s ≡ true → stored_strings allows text ≡ Some (bytes s) ∷ stored_strings allows rest
allowed allows text s rest e a = rw (one-stands text s rest e, a) refl

pub refused : (allows : List ℕ → Bool) (text s rest : List ℕ) → string_at text ≡ Some (s, rest) → allows s ≡ false → stored_strings allows text ≡ None ∷ stored_strings allows rest
refused allows text s rest e a = rw (one-stands text s rest e, a) refl

pub string-missing : (limit : ℕ) (allows : List ℕ → Bool) (text : List ℕ) (slots : List Slot) → string_at text ≡ None → CannotDecode limit 1 (stored_strings allows text) slots (OutOfSpec S6)
string-missing limit allows text slots e = inr (inl (refl, rw (none-stand text e) (omega arith)))

pub string-outside : (limit : ℕ) (allows : List ℕ → Bool) (text s rest : List ℕ) (slots : List Slot) → string_at text ≡ Some (s, rest) → allows s ≡ false → CannotDecode limit 1 (stored_strings allows text) slots (OutOfSpec S7)
string-outside limit allows text s rest slots e a = inr (inr (inl (refl, record { values = []; rest = stored_strings allows rest; next = refused allows text s rest e a; within = omega arith })))

pub string-long : (limit : ℕ) (allows : List ℕ → Bool) (text s rest : List ℕ) (slots : List Slot) (e : Error) → string_at text ≡ Some (s, rest) → allows s ≡ true → (e ≡ Memory) ⊎ ((e ≡ Overflow V1) × (0 < limit) × (limit ≤ bytes_in slots + length s)) → CannotDecode limit 1 (stored_strings allows text) slots e
string-long limit allows text s rest slots e is a why = elim why [
  | inl memory ↦ inl memory
  | inr long ↦ inr (inr (inr (long.0, record { values = bytes s ∷ []; rest = stored_strings allows rest; next = allowed allows text s rest is a; within = omega arith; some = long.1; long = omega (arith, long.2) })))
]

-- ---- one after another
pub decodes-more : (n m : ℕ) (left left1 left2 : List Stored) (slots slots1 slots2 : List Slot) → Decodes n left left1 slots slots1 → Decodes m left1 left2 slots1 slots2 → Decodes (n + m) left left2 slots slots2
decodes-more n m left left1 left2 slots slots1 slots2 a b = record {
  values = a.values ++ b.values;
  size = omega (arith, length-append a.values b.values, a.size, b.size);
  taken = a.taken ∙ (ap (λ (t : List Stored). map Some a.values ++ t) b.taken ∙ (sym (append_assoc (map Some a.values) (map Some b.values) left2) ∙ ap (λ (t : List Stored). t ++ left2) (sym (map-append Some a.values b.values))));
  pushed = b.pushed ∙ (ap (λ (t : List Slot). t ++ map value b.values) a.pushed ∙ (append_assoc slots (map value a.values) (map value b.values) ∙ ap (λ (t : List Slot). slots ++ t) (sym (map-append value a.values b.values))));
}

pub cannot-next : (limit n m count : ℕ) (left left1 : List Stored) (slots slots1 : List Slot) (e : Error) → n + m ≤ count → Decodes n left left1 slots slots1 → CannotDecode limit m left1 slots1 e → CannotDecode limit count left slots e
cannot-next limit n m count left left1 slots slots1 e h d c =
    let bytes' : bytes_in slots1 ≡ bytes_in slots + bytes_of d.values = ap bytes_in d.pushed ∙ (slots-append slots (map value d.values) ∙ ap (λ (k : ℕ). bytes_in slots + k) (slots-values d.values)) in
    cannot-more limit (length d.values + m) count left slots e (omega (arith, d.size, h)) (cannot-behind limit m d.values left left1 slots slots1 e d.taken bytes' c)

-- ---- UTF-8
pub told : (s : List ℕ) (r : Bool) → (IsTrue r ↔ IsText s) → r ≡ is_utf8 s
unfolding IsText
told s true h = sym (is_utf8-from_IsUtf8 s (h.0 refl))
told s false h = not-text (is_utf8 s) refl
  where
    not-text : (b : Bool) → is_utf8 s ≡ b → false ≡ is_utf8 s
    not-text true e = absurd (let k = h.1 (IsUtf8-from_is_utf8 s e) in cc)
    not-text false e = sym e
