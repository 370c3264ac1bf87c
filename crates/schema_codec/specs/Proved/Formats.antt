-- What is written is read again, and what is read was written so: for each part.
use Rattle.std.proofs.Common.{◌≡◌, ℕ, zero, suc, ◌+◌, ◌%◌, ◌^◌, ◌<◌, ◌≤◌, Bool, true, false, cond, ltb, List, [], ◌∷◌, ◌++◌, length, take, drop, get_or, slice_get, Option, Some, None, IsUtf8, refl, sym, ap, subst, ◌∙◌, append_assoc, arith}
use Rattle.std.specs.Int.{w32, w64, to_le_bytes, from_le_bytes}
use Rattle.std.specs.Str.{is_utf8}
use Rattle.std.proofs.lemmas.Bool.{le-ltb, ltb-false}
use Rattle.std.proofs.lemmas.List.{take_at, drop_at, take-append-drop, length-append, length-take}
use Rattle.std.proofs.lemmas.Nat.{le_bytes_4, le_bytes_8, from_le_bytes-to_le_bytes_4, from_le_bytes-to_le_bytes_8}
use Rattle.std.proofs.lemmas.Str.{IsUtf8-from_is_utf8, is_utf8-from_IsUtf8}
use Rattle.schema_codec.specs.Parse.{◌>>=◌, Parse, under, both, known}
use Rattle.schema_codec.specs.Ranges.{IsSize}
use Rattle.schema_codec.specs.Reading.{bytes_at, count_at, size_at, known_at, truth_at, text_at}
use Rattle.schema_codec.specs.Spelling.{count_bytes, size_bytes, truth_bytes, text_bytes}

-- ---- what stands in a list of bytes

abbrev pub AreBytes : List ℕ → Type 0
AreBytes [] = Unit {0}
AreBytes (b ∷ bytes) = (b < 256) × AreBytes bytes

pub bytes_behind : (front rest : List ℕ) → AreBytes (front ++ rest) → AreBytes rest
bytes_behind [] rest are = are
bytes_behind (b ∷ front) rest are = bytes_behind front rest are.1

pub bytes_before : (front rest : List ℕ) → AreBytes (front ++ rest) → AreBytes front
bytes_before [] rest are = tt
bytes_before (b ∷ front) rest are = (are.0, bytes_before front rest are.1)

pub byte_of : (bytes : List ℕ) → AreBytes bytes → (i : ℕ) → get_or bytes i 0 < 256
byte_of [] are i = omega arith
byte_of (b ∷ bytes) are zero = are.0
byte_of (b ∷ bytes) are (suc i) = byte_of bytes are.1 i

pub are_bytes : (bytes : List ℕ) → ((i : ℕ) → get_or bytes i 0 < 256) → AreBytes bytes
are_bytes [] h = tt
are_bytes (b ∷ bytes) h = (h 0, are_bytes bytes (λ i. h (suc i)))

-- ---- the value of a step that gave one

pub bind_some : {A B : Type 0} (r : Option A) (f : A → Option B) (y : B) → (r >>= f) ≡ Some y → (x : A) × (r ≡ Some x) × (f x ≡ Some y)
bind_some None f y e = absurd cc
bind_some (Some x) f y e = (x, refl, e)

abbrev some : {A : Type 0} → A → Option A
some x = Some x

pub some_is : {A : Type 0} (x y : A) → some x ≡ some y → x ≡ y
some_is x y e = cc

pub some_parts : {A : Type 0} (x y : A × List ℕ) → some x ≡ some y → (x.0 ≡ y.0) × (x.1 ≡ y.1)
some_parts {A = A} x y e =
    let q = some_is x y e in
    (ap (λ (p : A × List ℕ). p.0) q, ap (λ (p : A × List ℕ). p.1) q)

pub passed : {A : Type 0} (b : Bool) (x y : A) → cond b (Some x) None ≡ Some y → (b ≡ true) × (x ≡ y)
passed true x y e = (refl, cc)
passed false x y e = absurd cc

pub held : {A : Type 0} (b : Bool) (x y : A) → cond b None (Some x) ≡ Some y → (b ≡ false) × (x ≡ y)
held true x y e = absurd cc
held false x y e = (refl, cc)

-- ---- the two directions

-- what is spelled so is read again, whatever follows it
abbrev pub Again : {A : Type 0} → Parse A → (A → List ℕ) → (A → Type 0) → Type 0
Again {A = A} one spell Fits = (x : A) (rest : List ℕ) → Fits x → length (spell x) < 2 ^ 32 → one (spell x ++ rest) ≡ Some (x, rest)

-- the text stands in front, and something holds
pub record Took (text : List ℕ) (Fit : Type 0) (bytes rest : List ℕ) : Type 0 where
  pub parts : bytes ≡ text ++ rest
  pub fits : Fit
  pub after : AreBytes rest

-- what is read is spelled so
abbrev pub Takes : {A : Type 0} → Parse A → (A → List ℕ) → (A → Type 0) → Type 0
Takes {A = A} one spell Fits = (bytes : List ℕ) (x : A) (rest : List ℕ) → AreBytes bytes → one bytes ≡ Some (x, rest) → Took (spell x) (Fits x) bytes rest

pub under_again : {A B : Type 0} (one : Parse A) (spell : A → List ℕ) (Fits : A → Type 0) → Again one spell Fits → (f : A → B) (x : A) (rest : List ℕ) → Fits x → length (spell x) < 2 ^ 32
    → under f one (spell x ++ rest) ≡ Some (f x, rest)
under_again one spell Fits again f x rest fits small = rw (again x rest fits small) refl

pub under_takes : {A B : Type 0} (one : Parse A) (spell : A → List ℕ) (Fits : A → Type 0) → Takes one spell Fits → (f : A → B) (bytes : List ℕ) (y : B) (rest : List ℕ) → AreBytes bytes
    → under f one bytes ≡ Some (y, rest) → (x : A) × (f x ≡ y) × Took (spell x) (Fits x) bytes rest
under_takes one spell Fits takes f bytes y rest are e =
    let x = bind_some (one bytes) (λ x. Some (f x.0, x.1)) (y, rest) e in
    let same = some_parts (f x.0.0, x.0.1) (y, rest) x.2 in
    (x.0.0, same.0, subst (λ (r : List ℕ). Took (spell x.0.0) (Fits x.0.0) bytes r) same.1 (takes bytes x.0.0 x.0.1 are x.1))

pub both_again : {A B : Type 0} (first : Parse A) (a : A → List ℕ) (F : A → Type 0) (second : Parse B) (b : B → List ℕ) (G : B → Type 0) → Again first a F → Again second b G
    → Again (both first second) (λ p. a p.0 ++ b p.1) (λ p. F p.0 × G p.1)
both_again first a F second b G here there p rest fits small =
    let sum = length-append (a p.0) (b p.1) in
    let one : first (a p.0 ++ (b p.1 ++ rest)) ≡ Some (p.0, b p.1 ++ rest) = here p.0 (b p.1 ++ rest) fits.0 (omega (arith, sum)) in
    let two : second (b p.1 ++ rest) ≡ Some (p.1, rest) = there p.1 rest fits.1 (omega (arith, sum)) in
    ap (both first second) (append_assoc (a p.0) (b p.1) rest) ∙ rw (one, two) refl

pub both_takes : {A B : Type 0} (first : Parse A) (a : A → List ℕ) (F : A → Type 0) (second : Parse B) (b : B → List ℕ) (G : B → Type 0) → Takes first a F → Takes second b G
    → Takes (both first second) (λ p. a p.0 ++ b p.1) (λ p. F p.0 × G p.1)
both_takes {A = A} {B = B} first a F second b G here there bytes x rest are e =
    let p = bind_some (first bytes) (λ p. second p.1 >>= λ q. Some ((p.0, q.0), q.1)) (x, rest) e in
    let q = bind_some (second p.0.1) (λ q. Some ((p.0.0, q.0), q.1)) (x, rest) p.2 in
    let same = some_parts ((p.0.0, q.0.0), q.0.1) (x, rest) q.2 in
    let one = here bytes p.0.0 p.0.1 are p.1 in
    let two = there p.0.1 q.0.0 q.0.1 one.after q.1 in
    let parts : bytes ≡ (a p.0.0 ++ b q.0.0) ++ q.0.1 = one.parts ∙ ap (λ (t : List ℕ). a p.0.0 ++ t) two.parts ∙ sym (append_assoc (a p.0.0) (b q.0.0) q.0.1) in
    let took : Took (a p.0.0 ++ b q.0.0) (F p.0.0 × G q.0.0) bytes q.0.1 = record { parts = parts; fits = (one.fits, two.fits); after = two.after } in
    subst (λ (y : A × B). Took (a y.0 ++ b y.1) (F y.0 × G y.1) bytes rest) same.0 (subst (λ (r : List ℕ). Took (a p.0.0 ++ b q.0.0) (F p.0.0 × G q.0.0) bytes r) same.1 took)

-- ---- so many bytes

bytes_again : (s rest : List ℕ) (n : ℕ) → length s ≡ n → bytes_at n (s ++ rest) ≡ Some (s, rest)
bytes_again s rest n size =
    let long : ltb (length (s ++ rest)) n ≡ false = le-ltb _ _ (omega (arith, length-append s rest)) in
    rw (long, take_at s rest n size, drop_at s rest n size) refl

bytes_takes : (n : ℕ) (bytes s rest : List ℕ) → bytes_at n bytes ≡ Some (s, rest) → (bytes ≡ s ++ rest) × (length s ≡ n)
bytes_takes n bytes s rest e =
    let g = held (ltb (length bytes) n) (take n bytes, drop n bytes) (s, rest) e in
    let front : take n bytes ≡ s = ap (λ (q : List ℕ × List ℕ). q.0) g.1 in
    let behind : drop n bytes ≡ rest = ap (λ (q : List ℕ × List ℕ). q.1) g.1 in
    let long : n ≤ length bytes = ltb-false (length bytes) n g.0 in
    (sym (take-append-drop n bytes) ∙ ap (λ (t : List ℕ). t ++ drop n bytes) front ∙ ap (λ (t : List ℕ). s ++ t) behind, omega (arith, length-take n bytes, ap length front))

-- ---- counts and sizes

abbrev pub IsCount : ℕ → Type 0
IsCount n = n < 2 ^ 32

count_value : (n : ℕ) → n < 2 ^ 32 → from_le_bytes w32 (count_bytes n) ≡ n
unfolding count_bytes
count_value n small =
    let low : n % 2 ^ 32 ≡ n = omega arith in
    from_le_bytes-to_le_bytes_4 (n % 2 ^ 32) (omega arith) ∙ low

pub count_length : (n : ℕ) → length (count_bytes n) ≡ 4
unfolding count_bytes
count_length n = refl

pub count_again : (n : ℕ) (rest : List ℕ) → n < 2 ^ 32 → count_at (count_bytes n ++ rest) ≡ Some (n, rest)
unfolding count_at
count_again n rest small =
    ap (λ (r : Option (List ℕ × List ℕ)). r >>= λ x. Some (from_le_bytes w32 x.0, x.1)) (bytes_again (count_bytes n) rest 4 (count_length n))
    ∙ ap (λ (m : ℕ). Some (m, rest)) (count_value n small)

four_below : (s : List ℕ) → ((i : ℕ) → get_or s i 0 < 256) → from_le_bytes w32 s < 2 ^ 32
four_below s fits = omega (arith, fits 0, fits 1, fits 2, fits 3)

count_spelled : (s : List ℕ) (n : ℕ) → length s ≡ 4 → AreBytes s → from_le_bytes w32 s ≡ n → (s ≡ count_bytes n) × (n < 2 ^ 32)
unfolding count_bytes
count_spelled s n size are is =
    let fits = byte_of s are in
    let small : from_le_bytes w32 s < 2 ^ 32 = four_below s fits in
    let low : n % 2 ^ 32 ≡ from_le_bytes w32 s = omega arith in
    (sym (le_bytes_4 s (n % 2 ^ 32) size fits low), omega arith)

pub count_takes : Takes count_at count_bytes IsCount
unfolding count_at
count_takes bytes n rest are e =
    let x = bind_some (bytes_at 4 bytes) (λ x. Some (from_le_bytes w32 x.0, x.1)) (n, rest) e in
    let same = some_parts (from_le_bytes w32 x.0.0, x.0.1) (n, rest) x.2 in
    let took = bytes_takes 4 bytes x.0.0 x.0.1 x.1 in
    let all : AreBytes (x.0.0 ++ x.0.1) = subst AreBytes took.0 are in
    let is = count_spelled x.0.0 n took.1 (bytes_before x.0.0 x.0.1 all) same.0 in
    let parts : bytes ≡ count_bytes n ++ rest = took.0 ∙ ap (λ (t : List ℕ). t ++ x.0.1) is.0 ∙ ap (λ (t : List ℕ). count_bytes n ++ t) same.1 in
    record { parts = parts; fits = is.1; after = subst AreBytes same.1 (bytes_behind x.0.0 x.0.1 all) }

pub size_again : Again size_at size_bytes IsSize
unfolding size_at size_bytes
size_again n rest small _ =
    ap (λ (r : Option (List ℕ × List ℕ)). r >>= λ x. Some (from_le_bytes w64 x.0, x.1)) (bytes_again (to_le_bytes w64 n) rest 8 refl)
    ∙ ap (λ (m : ℕ). Some (m, rest)) (from_le_bytes-to_le_bytes_8 n small)

eight_below : (s : List ℕ) → ((i : ℕ) → get_or s i 0 < 256) → from_le_bytes w64 s < 2 ^ 64
eight_below s fits = omega (arith, fits 0, fits 1, fits 2, fits 3, fits 4, fits 5, fits 6, fits 7)

size_spelled : (s : List ℕ) (n : ℕ) → length s ≡ 8 → AreBytes s → from_le_bytes w64 s ≡ n → (s ≡ size_bytes n) × (n < 2 ^ 64)
unfolding size_bytes
size_spelled s n size are is =
    let fits = byte_of s are in
    let small : from_le_bytes w64 s < 2 ^ 64 = eight_below s fits in
    (sym (le_bytes_8 s n size fits (sym is)), subst (λ (m : ℕ). m < 2 ^ 64) is small)

pub size_takes : Takes size_at size_bytes IsSize
unfolding size_at
size_takes bytes n rest are e =
    let x = bind_some (bytes_at 8 bytes) (λ x. Some (from_le_bytes w64 x.0, x.1)) (n, rest) e in
    let same = some_parts (from_le_bytes w64 x.0.0, x.0.1) (n, rest) x.2 in
    let took = bytes_takes 8 bytes x.0.0 x.0.1 x.1 in
    let all : AreBytes (x.0.0 ++ x.0.1) = subst AreBytes took.0 are in
    let is = size_spelled x.0.0 n took.1 (bytes_before x.0.0 x.0.1 all) same.0 in
    let parts : bytes ≡ size_bytes n ++ rest = took.0 ∙ ap (λ (t : List ℕ). t ++ x.0.1) is.0 ∙ ap (λ (t : List ℕ). size_bytes n ++ t) same.1 in
    record { parts = parts; fits = is.1; after = subst AreBytes same.1 (bytes_behind x.0.0 x.0.1 all) }

-- ---- texts

pub text_again : Again text_at text_bytes IsUtf8
unfolding text_at
text_again s rest valid small =
    let size : length s < 2 ^ 32 = omega (arith, length-append (count_bytes (length s)) s) in
    let test : is_utf8 s ≡ true = is_utf8-from_IsUtf8 s valid in
    ap text_at (append_assoc (count_bytes (length s)) s rest) ∙ rw (count_again (length s) (s ++ rest) size, bytes_again s rest (length s) refl, test) refl

pub text_takes : Takes text_at text_bytes IsUtf8
unfolding text_at
text_takes bytes s rest are e =
    let n = bind_some (count_at bytes) (λ n. bytes_at n.0 n.1 >>= λ s. cond (is_utf8 s.0) (Some s) None) (s, rest) e in
    let x = bind_some (bytes_at n.0.0 n.0.1) (λ s. cond (is_utf8 s.0) (Some s) None) (s, rest) n.2 in
    let g = passed (is_utf8 x.0.0) x.0 (s, rest) x.2 in
    let front : x.0.0 ≡ s = ap (λ (q : List ℕ × List ℕ). q.0) g.1 in
    let behind : x.0.1 ≡ rest = ap (λ (q : List ℕ × List ℕ). q.1) g.1 in
    let counted = count_takes bytes n.0.0 n.0.1 are n.1 in
    let took = bytes_takes n.0.0 n.0.1 x.0.0 x.0.1 x.1 in
    let middle : n.0.1 ≡ s ++ rest = took.0 ∙ ap (λ (t : List ℕ). t ++ x.0.1) front ∙ ap (λ (t : List ℕ). s ++ t) behind in
    let size : n.0.0 ≡ length s = sym took.1 ∙ ap length front in
    let parts : bytes ≡ (count_bytes (length s) ++ s) ++ rest =
    counted.parts ∙ ap (λ (t : List ℕ). count_bytes n.0.0 ++ t) middle ∙ ap (λ (m : ℕ). count_bytes m ++ (s ++ rest)) size ∙ sym (append_assoc (count_bytes (length s)) s rest) in
    let valid : is_utf8 s ≡ true = sym (ap is_utf8 front) ∙ g.0 in
    record { parts = parts; fits = IsUtf8-from_is_utf8 s valid; after = bytes_behind s rest (subst AreBytes middle counted.after) }

-- ---- bytes that stand for something

-- each element has its place as its number
abbrev pub AreNumbered : {T : Type 0} → (T → ℕ) → ℕ → List T → Type 0
AreNumbered number k [] = Unit {0}
AreNumbered number k (x ∷ xs) = (number x ≡ k) × AreNumbered number (suc k) xs

number_is : {T : Type 0} (number : T → ℕ) (k : ℕ) (xs : List T) (i : ℕ) (x : T) → AreNumbered number k xs → slice_get xs i ≡ Some x → k + i ≡ number x
number_is number k [] i x h e = absurd cc
number_is {T = T} number k (y ∷ ys) zero x h e =
    let same : y ≡ x = some_is y x e in
    let is : number y ≡ number x = ap number same in
    omega (arith, h.0, is)
number_is number k (y ∷ ys) (suc i) x h e = omega (arith, number_is number (suc k) ys i x h.1 e)

abbrev pub Anything : {T : Type 0} → T → Type 0
Anything x = Unit {0}

pub known_takes : {T : Type 0} (table : List T) (number : T → ℕ) → AreNumbered number 0 table → Takes (known_at (slice_get table)) (λ x. number x ∷ []) Anything
known_takes table number are_numbered [] x rest are e = absurd cc
known_takes {T = T} table number are_numbered (b ∷ bytes) x rest are e = at (slice_get table b) refl e
  where
    at : (o : Option T) → slice_get table b ≡ o → known o bytes ≡ Some (x, rest) → Took (number x ∷ []) (Unit {0}) (b ∷ bytes) rest
    at None is e = absurd cc
    at (Some y) is e =
        let same = some_parts (y, bytes) (x, rest) e in
        let b_is : b ≡ number y = omega (arith, number_is number 0 table b y are_numbered is) in
        let parts : b ∷ bytes ≡ number x ∷ rest = ap (λ (c : ℕ). c ∷ bytes) (b_is ∙ ap number same.0) ∙ ap (λ (t : List ℕ). number x ∷ t) same.1 in
        record { parts = parts; fits = tt; after = subst AreBytes same.1 are.1 }

pub known_again : {T : Type 0} (table : List T) (number : T → ℕ) → ((x : T) → slice_get table (number x) ≡ Some x) → Again (known_at (slice_get table)) (λ x. number x ∷ []) Anything
known_again table number there x rest _ _ = rw (there x) refl

pub truth_again : Again truth_at truth_bytes Anything
unfolding truth_at
truth_again true rest _ _ = refl
truth_again false rest _ _ = refl

pub truth_takes : Takes truth_at truth_bytes Anything
unfolding truth_at
truth_takes [] x rest are e = absurd cc
truth_takes (zero ∷ bytes) x rest are e =
    let same = some_parts (false, bytes) (x, rest) e in
    record { parts = ap (λ (b : Bool). truth_bytes b ++ bytes) same.0 ∙ ap (λ (t : List ℕ). truth_bytes x ++ t) same.1; fits = tt; after = subst AreBytes same.1 are.1 }
truth_takes (suc zero ∷ bytes) x rest are e =
    let same = some_parts (true, bytes) (x, rest) e in
    record { parts = ap (λ (b : Bool). truth_bytes b ++ bytes) same.0 ∙ ap (λ (t : List ℕ). truth_bytes x ++ t) same.1; fits = tt; after = subst AreBytes same.1 are.1 }
truth_takes (suc (suc b) ∷ bytes) x rest are e = absurd cc
