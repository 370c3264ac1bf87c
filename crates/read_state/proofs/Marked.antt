-- The marks of a block for one part, and for the part beneath it.
use Rattle.std.proofs.Common.{◌≡◌, ℕ, zero, suc, ◌+◌, ◌<◌, ◌==◌, Bool, true, false, true≢false, not, is_some, ◌&&◌, ◌||◌, nat_le, nat_lt, min, inl, inr, Option, List, [], ◌∷◌, map, length, replicate, refl, arith, ap, sym, ◌∙◌}
use Rattle.std.proofs.lemmas.Bool.Decides.{leb_tells, eqb_tells}
use Rattle.columns_core.specs.Bits.{word_bits}
use Rattle.read_laws.specs.State.{Kept, kept_leaf, kept_list, kept_struct}
use Rattle.read_laws.specs.Step.{bit, is_list, is_struct, is_nullable, gain, hides}
use Rattle.read_laws.specs.Block.{Mark, marks_part, beneath}
use Rattle.read_state.specs.Marks.{marks_of}
use Rattle.read_state.specs.Reach.{reached, AllNear, AreMarked}
use Rattle.read_state.proofs.Blocks.{and-none}

cons-same : (b c : Bool) (bs cs : List Bool) → b ≡ c → bs ≡ cs → b ∷ bs ≡ c ∷ cs
cons-same b c bs cs e f = ap (λ (x : Bool). x ∷ bs) e ∙ ap (λ (xs : List Bool). c ∷ xs) f

reps-beneath : (k : Kept) (depth def : ℕ) (ms : List Mark) → map (λ m. min m.repetition 255) (map (beneath k depth def) ms) ≡ map (λ m. min m.repetition 255) ms
reps-beneath k depth def [] = refl
reps-beneath k depth def (m ∷ ms) = ap (λ (rs : List ℕ). min m.repetition 255 ∷ rs) (reps-beneath k depth def ms)

defs-beneath : (k : Kept) (depth def : ℕ) (ms : List Mark) → map (λ m. min m.definition 255) (map (beneath k depth def) ms) ≡ map (λ m. min m.definition 255) ms
defs-beneath k depth def [] = refl
defs-beneath k depth def (m ∷ ms) = ap (λ (ds : List ℕ). min m.definition 255 ∷ ds) (defs-beneath k depth def ms)

-- ---- beneath a struct: a is that the pair is not too deep, b that it defines the struct, s that the struct is there
required-bit : (h a b : Bool) → (((h || (a && b)) && true) || (a && b)) ≡ (h || (a && b))
required-bit true a b = refl
required-bit false true true = refl
required-bit false true false = refl
required-bit false false b = refl

nullable-bit : (h a b s : Bool) → (s ≡ true → b ≡ true) → (h ≡ true → b ≡ true → a ≡ true) → (((h || (a && b)) && not s) || (a && s)) ≡ (h || (a && b))
nullable-bit true true b true f g = refl
nullable-bit true false b true f g = absurd (true≢false (sym (g refl (f refl))))
nullable-bit false true true true f g = refl
nullable-bit false true false true f g = absurd (true≢false (sym (f refl)))
nullable-bit false false b true f g = refl
nullable-bit true true b false f g = refl
nullable-bit true false b false f g = refl
nullable-bit false true true false f g = refl
nullable-bit false true false false f g = refl
nullable-bit false false b false f g = refl

less-defines : (def l : ℕ) → nat_lt def l ≡ true → nat_le def l ≡ true
less-defines def l e = elim (leb_tells def l) [
  | inl h ↦ h.0
  | inr h ↦ elim (leb_tells (suc def) l) [
    | inl k ↦ absurd (omega (arith, h.1, k.1))
    | inr k ↦ absurd (true≢false (sym e ∙ k.0))
  ]
]

struct-bit : (n h : Bool) (r l depth def inner : ℕ) → inner ≡ def + (bit n + 0) → (h ≡ true → nat_le def l ≡ true → nat_le r depth ≡ true) → (((h || (nat_le r depth && nat_le def l)) && not (n && nat_lt def l)) || (nat_le r depth && nat_le inner l)) ≡ (h || (nat_le r depth && nat_le def l))
struct-bit false h r l depth def inner e g =
    let same : inner ≡ def = omega (arith, e) in
    rw same (required-bit h (nat_le r depth) (nat_le def l))
struct-bit true h r l depth def inner e g =
    let next : inner ≡ suc def = omega (arith, e) in
    rw next (nullable-bit h (nat_le r depth) (nat_le def l) (nat_lt def l) (less-defines def l) g)

struct-bits : (mask : Option (List Bool)) (c depth def inner : ℕ) (ms : List Mark) → inner ≡ def + (bit (is_some mask) + 0) → AllNear depth def ms → map (marks_part depth inner) (map (beneath (kept_struct mask c) depth def) ms) ≡ map (marks_part depth def) ms
struct-bits mask c depth def inner [] e near = refl
struct-bits mask c depth def inner (m ∷ ms) e near = cons-same _ _ _ _ (struct-bit (is_some mask) m.hidden m.repetition m.definition depth def inner e near.0) (struct-bits mask c depth def inner ms e near.1)

-- what is pushed beneath a null of the struct, and reaches further
required-near : (h a b : Bool) → (h ≡ true → b ≡ true → a ≡ true) → ((h || (a && b)) && true) ≡ true → b ≡ true → a ≡ true
required-near h true b g p q = refl
required-near true false b g p q = g refl q
required-near false false b g p q = absurd (true≢false (sym p))

nullable-near : (p a s : Bool) → (p && not s) ≡ true → s ≡ true → a ≡ true
nullable-near true a true e q = absurd (true≢false (sym e))
nullable-near true a false e q = absurd (true≢false (sym q))
nullable-near false a s e q = absurd (true≢false (sym e))

struct-near : (n h : Bool) (r l depth def inner : ℕ) → inner ≡ def + (bit n + 0) → (h ≡ true → nat_le def l ≡ true → nat_le r depth ≡ true) → ((h || (nat_le r depth && nat_le def l)) && not (n && nat_lt def l)) ≡ true → nat_le inner l ≡ true → nat_le r depth ≡ true
struct-near false h r l depth def inner e g p q =
    let same : inner ≡ def = omega (arith, e) in
    required-near h (nat_le r depth) (nat_le def l) g p (rw same at q)
struct-near true h r l depth def inner e g p q =
    let next : inner ≡ suc def = omega (arith, e) in
    nullable-near (h || (nat_le r depth && nat_le def l)) (nat_le r depth) (nat_lt def l) p (rw next at q)

structs-near : (mask : Option (List Bool)) (c depth def inner : ℕ) (ms : List Mark) → inner ≡ def + (bit (is_some mask) + 0) → AllNear depth def ms → AllNear depth inner (map (beneath (kept_struct mask c) depth def) ms)
structs-near mask c depth def inner [] e near = tt
structs-near mask c depth def inner (m ∷ ms) e near = (struct-near (is_some mask) m.hidden m.repetition m.definition depth def inner e near.0, structs-near mask c depth def inner ms e near.1)

marked-struct : (mask : Option (List Bool)) (c : ℕ) (ms : List Mark) (reps defs : List ℕ) (w depth def inner : ℕ) → inner ≡ def + (bit (is_some mask) + 0) → AreMarked ms reps defs w depth def → AreMarked (map (beneath (kept_struct mask c) depth def) ms) reps defs w depth inner
marked-struct mask c ms reps defs w depth def inner e is = record {
  repetitions = reps-beneath (kept_struct mask c) depth def ms ∙ is.repetitions;
  definitions = defs-beneath (kept_struct mask c) depth def ms ∙ is.definitions;
  pushed = is.pushed ∙ sym (struct-bits mask c depth def inner ms e is.near);
  near = structs-near mask c depth def inner ms e is.near;
}

-- ---- beneath another part
-- what is above 255 is above or at each level below it
not-deep : (r depth : ℕ) → depth < 255 → nat_le (min r 255) depth ≡ nat_le r depth
not-deep r depth h = elim (leb_tells r depth) [
  | inl e ↦ elim (leb_tells (min r 255) depth) [
    | inl f ↦ f.0 ∙ sym e.0
    | inr f ↦ absurd (omega (arith, e.1, f.1))
  ]
  | inr e ↦ elim (leb_tells (min r 255) depth) [
    | inl f ↦ absurd (omega (arith, e.1, f.1, h))
    | inr f ↦ f.0 ∙ sym e.0
  ]
]

not-low : (l def : ℕ) → def < 256 → nat_le def (min l 255) ≡ nat_le def l
not-low l def h = elim (leb_tells def l) [
  | inl e ↦ elim (leb_tells def (min l 255)) [
    | inl f ↦ f.0 ∙ sym e.0
    | inr f ↦ absurd (omega (arith, e.1, f.1, h))
  ]
  | inr e ↦ elim (leb_tells def (min l 255)) [
    | inl f ↦ absurd (omega (arith, e.1, f.1))
    | inr f ↦ f.0 ∙ sym e.0
  ]
]

pub told-levels : (def : ℕ) (ms : List Mark) → def < 255 → map (λ d. nat_lt def d) (map (λ m. min m.definition 255) ms) ≡ map (λ d. nat_lt def d) (map (λ m. m.definition) ms)
told-levels def [] h = refl
told-levels def (m ∷ ms) h = cons-same _ _ _ _ (not-low m.definition (suc def) (omega (arith, h))) (told-levels def ms h)

plain-bits : (k : Kept) (depth def deeper inner : ℕ) (ms : List Mark) → deeper < 255 → inner < 256 → is_struct k ≡ false → reached deeper inner (map (λ m. min m.repetition 255) ms) (map (λ m. min m.definition 255) ms) ≡ map (marks_part deeper inner) (map (beneath k depth def) ms)
plain-bits k depth def deeper inner [] g h e = refl
plain-bits k depth def deeper inner (m ∷ ms) g h e =
    let none : (marks_part depth def m && hides k m.definition def) ≡ false = rw e (and-none (marks_part depth def m) (not (is_nullable k && nat_lt def m.definition))) in
    cons-same _ _ _ _ (rw (not-deep m.repetition deeper g, not-low m.definition inner h) (ap (λ (b : Bool). b || (nat_le m.repetition deeper && nat_le inner m.definition)) (sym none))) (plain-bits k depth def deeper inner ms g h e)

plain-near : (k : Kept) (depth def deeper inner : ℕ) (ms : List Mark) → is_struct k ≡ false → AllNear deeper inner (map (beneath k depth def) ms)
plain-near k depth def deeper inner [] e = tt
plain-near k depth def deeper inner (m ∷ ms) e =
    let none : (marks_part depth def m && hides k m.definition def) ≡ false = rw e (and-none (marks_part depth def m) (not (is_nullable k && nat_lt def m.definition))) in
    (λ h q. absurd (true≢false (sym h ∙ none)), plain-near k depth def deeper inner ms e)

pub marked-plain : (k : Kept) (ms : List Mark) (reps defs : List ℕ) (w depth def w' deeper inner : ℕ) → deeper < 255 → inner < 256 → is_struct k ≡ false → word_bits w' 64 ≡ reached deeper inner reps defs → AreMarked ms reps defs w depth def → AreMarked (map (beneath k depth def) ms) reps defs w' deeper inner
marked-plain k ms reps defs w depth def w' deeper inner g h e bits is = record {
  repetitions = reps-beneath k depth def ms ∙ is.repetitions;
  definitions = defs-beneath k depth def ms ∙ is.definitions;
  pushed = bits ∙ (ap (λ (rs : List ℕ). reached deeper inner rs defs) (sym is.repetitions) ∙ (ap (reached deeper inner (map (λ m. min m.repetition 255) ms)) (sym is.definitions) ∙ plain-bits k depth def deeper inner ms g h e));
  near = plain-near k depth def deeper inner ms e;
}

pub marked-required : (k : Kept) (ms : List Mark) (reps defs : List ℕ) (w depth def deeper inner : ℕ) → is_struct k ≡ true → deeper ≡ depth + bit (is_list k) → inner ≡ def + gain k → AreMarked ms reps defs w depth def → AreMarked (map (beneath k depth def) ms) reps defs w deeper inner
marked-required (kept_leaf n c) ms reps defs w depth def deeper inner e f g is = absurd (true≢false (sym e))
marked-required (kept_list mask starts) ms reps defs w depth def deeper inner e f g is = absurd (true≢false (sym e))
marked-required (kept_struct mask c) ms reps defs w depth def deeper inner e f g is =
    let same : deeper ≡ depth = omega (arith, f) in
    rw same (marked-struct mask c ms reps defs w depth def inner g is)

-- ---- the pairs of a block for the first part
first-reps : (n : ℕ) (reps defs : List ℕ) → length reps ≡ n → length defs ≡ n → map (λ m. min m.repetition 255) (marks_of reps defs (replicate n false)) ≡ map (λ d. min d 255) reps
first-reps zero [] defs l m = refl
first-reps zero (r ∷ reps) defs l m = absurd (omega (arith, l))
first-reps (suc n) [] defs l m = absurd (omega (arith, l))
first-reps (suc n) (r ∷ reps) [] l m = absurd (omega (arith, m))
first-reps (suc n) (r ∷ reps) (d ∷ defs) l m = ap (λ (rs : List ℕ). min r 255 ∷ rs) (first-reps n reps defs (omega (arith, l)) (omega (arith, m)))

first-defs : (n : ℕ) (reps defs : List ℕ) → length reps ≡ n → length defs ≡ n → map (λ m. min m.definition 255) (marks_of reps defs (replicate n false)) ≡ map (λ d. min d 255) defs
first-defs zero [] [] l m = refl
first-defs zero [] (d ∷ defs) l m = absurd (omega (arith, m))
first-defs zero (r ∷ reps) defs l m = absurd (omega (arith, l))
first-defs (suc n) [] defs l m = absurd (omega (arith, l))
first-defs (suc n) (r ∷ reps) [] l m = absurd (omega (arith, m))
first-defs (suc n) (r ∷ reps) (d ∷ defs) l m = ap (λ (ds : List ℕ). min d 255 ∷ ds) (first-defs n reps defs (omega (arith, l)) (omega (arith, m)))

told-reached : (depth def : ℕ) (reps defs : List ℕ) → depth < 255 → def < 256 → reached depth def (map (λ d. min d 255) reps) (map (λ d. min d 255) defs) ≡ reached depth def reps defs
told-reached depth def [] defs g h = refl
told-reached depth def (r ∷ reps) [] g h = refl
told-reached depth def (r ∷ reps) (d ∷ defs) g h = rw (not-deep r depth g, not-low d def h) (ap (λ (bs : List Bool). (nat_le r depth && nat_le def d) ∷ bs) (told-reached depth def reps defs g h))

pub first-bits : (n depth def : ℕ) (reps defs : List ℕ) → length reps ≡ n → length defs ≡ n → reached depth def reps defs ≡ map (marks_part depth def) (marks_of reps defs (replicate n false))
first-bits zero depth def [] defs l m = refl
first-bits zero depth def (r ∷ reps) defs l m = absurd (omega (arith, l))
first-bits (suc n) depth def [] defs l m = absurd (omega (arith, l))
first-bits (suc n) depth def (r ∷ reps) [] l m = absurd (omega (arith, m))
first-bits (suc n) depth def (r ∷ reps) (d ∷ defs) l m = ap (λ (bs : List Bool). (nat_le r depth && nat_le def d) ∷ bs) (first-bits n depth def reps defs (omega (arith, l)) (omega (arith, m)))

first-near : (n depth def : ℕ) (reps defs : List ℕ) → AllNear depth def (marks_of reps defs (replicate n false))
first-near zero depth def [] defs = tt
first-near zero depth def (r ∷ reps) [] = tt
first-near zero depth def (r ∷ reps) (d ∷ defs) = tt
first-near (suc n) depth def [] defs = tt
first-near (suc n) depth def (r ∷ reps) [] = tt
first-near (suc n) depth def (r ∷ reps) (d ∷ defs) = (λ h q. absurd (true≢false (sym h)), first-near n depth def reps defs)

pub marked-outer : (w : ℕ) (reps defs low tall : List ℕ) → length reps ≡ 64 → length defs ≡ 64 → low ≡ map (λ d. min d 255) reps → tall ≡ map (λ d. min d 255) defs → word_bits w 64 ≡ reached 0 0 reps defs → AreMarked (marks_of reps defs (replicate 64 false)) low tall w 0 0
marked-outer w reps defs low tall l m e f bits = record {
  repetitions = first-reps 64 reps defs l m ∙ sym e;
  definitions = first-defs 64 reps defs l m ∙ sym f;
  pushed = bits ∙ first-bits 64 0 0 reps defs l m;
  near = first-near 64 0 0 reps defs;
}

-- ---- a part that is a list, or has a part beneath it, is not the last one
not-empty : (n : ℕ) → 0 < n → (n == 0) ≡ false
not-empty n h = elim (eqb_tells n 0) [
  | inl e ↦ absurd (omega (arith, e.1, h))
  | inr e ↦ e.0
]

pub not-last : (repeated : Bool) (n : ℕ) → 0 < n → (not repeated && (n == 0)) ≡ false
not-last true n h = refl
not-last false n h = not-empty n h

pub list-lasts : (repeated : Bool) (n : ℕ) → repeated ≡ true → (not repeated && (n == 0)) ≡ false
list-lasts true n e = refl
list-lasts false n e = absurd (true≢false (sym e))
