-- Pairs that may follow one another.
use Rattle.std.proofs.Common.{◌≡◌, ◌⊎◌, inl, inr, ℕ, zero, suc, ◌+◌, ◌-◌, ◌*◌, ◌/◌, ◌%◌, ◌^◌, ◌<◌, ◌≤◌, ◌==◌, Bool, true, false, true≢false, nat_eq, nat_le, bit_and, bit_or, max, Option, Some, None, List, [], ◌∷◌, map, length, replicate, drop, get_or, refl, arith, ap, sym, subst, ◌∙◌, add-one}
use Rattle.std.specs.Int.{bit_at, from_bool}
use Rattle.std.proofs.lemmas.Bool.Decides.{leb_tells, eqb_tells}
use Rattle.std.proofs.lemmas.Nat.Bits.{bit_at_lowest, bit_at-suc, bit_at_or, bit_at-lt}
use Rattle.columns_core.specs.Bits.{word_bits}
use Rattle.columns_core.proofs.Words.{low_bit}
use Rattle.read_state.proofs.Compared.{word-tells, both-bits}
use Rattle.std.proofs.Math.Seq.{drop-cons}
use Rattle.columns_base.specs.declared.error.Error.{Error}
use Rattle.shredding.specs.Shape.{Way, at_leaf, in_list, in_struct}
use Rattle.shredding.specs.Shred.{max_repetition, max_definition}
use Rattle.shredding.specs.Local.{inside}
use Rattle.read_laws.proofs.Stretches.{up-bit}
use Rattle.read_walk.specs.Order.{zipped, last_level, MayCome, Follows, WhyNot, OneMayNot, level_before, IsInside, PlainlyFollow, MayComeAt}
use Rattle.read_walk.specs.Pairs.{Pair}

-- a list deeper down lies inside more
pub inside-more : (w : Way) (r s : ℕ) → r ≤ s → inside w r ≤ inside w s
inside-more w zero s h = omega arith
inside-more w (suc r) zero h = absurd (omega (arith, h))
inside-more (at_leaf n) (suc r) (suc s) h = omega arith
inside-more (in_list n w) (suc r) (suc s) h = omega (arith, inside-more w r s (omega (arith, h)), up-bit n (suc (inside w r)), up-bit n (suc (inside w s)))
inside-more (in_struct n i w) (suc r) (suc s) h = omega (arith, inside-more w (suc r) (suc s) h, up-bit n (inside w (suc r)), up-bit n (inside w (suc s)))

-- deep enough for the innermost list, so for each
pub deep-enough : (w : Way) (r lists floor low : ℕ) → lists ≡ max_repetition w → floor ≡ inside w lists → r ≤ lists → floor ≤ low → inside w r ≤ low
deep-enough w r lists floor low l f h k = omega (arith, inside-more w r lists h, f, k)

pub next-pair : (reps defs : List ℕ) (j : ℕ) → j < length reps → length defs ≡ length reps → zipped (drop j reps) (drop j defs) ≡ (get_or reps j 0, get_or defs j 0) ∷ zipped (drop (j + 1) reps) (drop (j + 1) defs)
next-pair reps defs j h e =
    let r : drop j reps ≡ get_or reps j 0 ∷ drop (j + 1) reps = rw add-one (drop-cons reps j 0 h) in
    let d : drop j defs ≡ get_or defs j 0 ∷ drop (j + 1) defs = rw add-one (drop-cons defs j 0 (omega (arith, h, e))) in
    rw (r, d) refl

pub here-not : (w : Way) (before : Option ℕ) (p : Pair) (ps : List Pair) (e : Error) → WhyNot w before p e → OneMayNot w before (p ∷ ps) e
here-not w before p ps e h = record { front = []; pair = p; back = ps; parts = refl; why = h }

pub later-not : (w : Way) (before : Option ℕ) (p : Pair) (ps : List Pair) (e : Error) → OneMayNot w (Some p.1) ps e → OneMayNot w before (p ∷ ps) e
later-not w before p ps e o = record { front = p ∷ o.front; pair = o.pair; back = o.back; parts = ap (λ (qs : List Pair). p ∷ qs) o.parts; why = o.why }

pub none-follow : (w : Way) (before : Option ℕ) (reps defs : List ℕ) → reps ≡ [] → Follows w before (zipped reps defs)
none-follow w before reps defs e = rw e tt

-- ---- pairs that plainly may
comes : (w : Way) (before : Option ℕ) (r d floor : ℕ) → floor ≡ inside w (max_repetition w) → r ≤ max_repetition w → (r ≡ 0) ⊎ ((floor ≤ d) × IsInside floor before) → MayCome w before (r, d)
comes w None r d floor f m (inl z) = z
comes w None r d floor f m (inr i) = absurd i.1
comes w (Some b) r d floor f m (inl z) = (rw z (omega arith), rw z (omega arith))
comes w (Some b) r d floor f m (inr i) = let more = inside-more w r (max_repetition w) m in (omega (arith, more, f, i.1), omega (arith, more, f, i.0))

one-later : (before : Option ℕ) (d : ℕ) (defs : List ℕ) (k : ℕ) → level_before before (d ∷ defs) (suc k) ≡ level_before (Some d) defs k
one-later before d defs zero = refl
one-later before d defs (suc k) = refl

pub plainly : (w : Way) (before : Option ℕ) (reps defs : List ℕ) (lists top floor : ℕ) → length defs ≡ length reps → lists ≡ max_repetition w → top ≡ max_definition w → floor ≡ inside w (max_repetition w) → PlainlyFollow before reps defs lists top floor → Follows w before (zipped reps defs)
plainly w before [] defs lists top floor e l t f p = tt
plainly w before (r ∷ reps) [] lists top floor e l t f p = absurd (omega (arith, e))
plainly w before (r ∷ reps) (d ∷ defs) lists top floor e l t f p =
    let here = p 0 (omega arith) in
    let rep : r ≤ max_repetition w = omega (arith, here.0, l) in (
      rep,
      omega (arith, here.1, t),
      comes w before r d floor f rep here.2,
      plainly w (Some d) reps defs lists top floor (omega (arith, e)) l t f (λ k h.
          let q = p (suc k) (omega (arith, h)) in
          (q.0, q.1, elim q.2 [ inl z ↦ inl z | inr i ↦ inr (i.0, subst (IsInside floor) (one-later before d defs k) i.1) ])),
    )

-- by words of 64 pairs
behind-bit : (x c k : ℕ) → c < 2 → k < 64 → (bit_at (x % 2 ^ 63 * 2 + c) k == 1) ≡ true → ((k ≡ 0) × (c ≡ 1)) ⊎ ((j : ℕ) × (k ≡ j + 1) × ((bit_at x j == 1) ≡ true))
behind-bit x c zero l h e =
    let low : bit_at (x % 2 ^ 63 * 2 + c) 0 ≡ c = bit_at_lowest (x % 2 ^ 63 * 2 + c) ∙ omega (arith, l) in
    inl (refl, one c l (ap (λ (k : ℕ). k == 1) (sym low) ∙ e))
  where
    one : (c : ℕ) → c < 2 → (c == 1) ≡ true → c ≡ 1
    one zero l e = absurd (true≢false (sym e))
    one (suc zero) l e = refl
    one (suc (suc c)) l e = absurd (omega (arith, l))
behind-bit x c (suc j) l h e =
    let half : (x % 2 ^ 63 * 2 + c) / 2 ≡ x % 2 ^ 63 = omega (arith, l) in
    let there : bit_at (x % 2 ^ 63 * 2 + c) (suc j) ≡ bit_at x j = bit_at-suc (x % 2 ^ 63 * 2 + c) j ∙ (ap (λ (y : ℕ). bit_at y j) half ∙ low_bit x 63 j (omega (arith, h))) in
    inr (j, omega arith, ap (λ (k : ℕ). k == 1) (sym there) ∙ e)

from-tells : (least d : ℕ) → nat_le least d ≡ true → least ≤ d
from-tells least d e = elim (leb_tells least d) [ inl h ↦ h.1 | inr h ↦ absurd (true≢false (sym e ∙ h.0)) ]

at-tells : (d level : ℕ) → nat_eq d level ≡ true → d ≡ level
at-tells d level e = elim (eqb_tells d level) [ inl h ↦ h.1 | inr h ↦ absurd (true≢false (sym e ∙ h.0)) ]

carried-few : (b : Bool) → from_bool b < 2
carried-few true = omega arith
carried-few false = omega arith

carried-one : (b : Bool) → from_bool b ≡ 1 → b ≡ true
carried-one true e = refl
carried-one false e = absurd (omega (arith, e))

-- a bit of two words
max-one : (x y : ℕ) → x < 2 → y < 2 → (max x y == 1) ≡ true → ((x == 1) ≡ true) ⊎ ((y == 1) ≡ true)
max-one zero zero p q e = absurd (true≢false (sym e))
max-one zero (suc zero) p q e = inr refl
max-one zero (suc (suc y)) p q e = absurd (omega (arith, q))
max-one (suc zero) y p q e = inl refl
max-one (suc (suc x)) y p q e = absurd (omega (arith, p))

pub of-either : (a b k : ℕ) → (bit_at (bit_or a b) k == 1) ≡ true → ((bit_at a k == 1) ≡ true) ⊎ ((bit_at b k == 1) ≡ true)
of-either a b k e = max-one (bit_at a k) (bit_at b k) (bit_at-lt a k) (bit_at-lt b k) (ap (λ (j : ℕ). j == 1) (sym (bit_at_or a b k)) ∙ e)

-- a pair by words: whether it lies inside, and whether the one before it does
pub inner-pair : (before : Option ℕ) (defs : List ℕ) (floor inner c k : ℕ) (carried : Bool) → length defs ≡ 64 → c ≡ from_bool carried → (carried ≡ true → (b : ℕ) × (before ≡ Some b) × (floor ≤ b)) → word_bits inner 64 ≡ map (λ d. nat_le floor d) defs → (bit_at (bit_and inner (inner % 2 ^ 63 * 2 + c)) k == 1) ≡ true → k < 64
    → (floor ≤ get_or defs k 0) × IsInside floor (level_before before defs k)
inner-pair before defs floor inner c k carried n f r i e h =
    let few : c < 2 = rw f (carried-few carried) in
    let two = both-bits inner (inner % 2 ^ 63 * 2 + c) k e in
    let there : (j : ℕ) → j < 64 → (bit_at inner j == 1) ≡ true → floor ≤ get_or defs j 0 = λ j l b. from-tells floor (get_or defs j 0) (sym (word-tells (λ d. nat_le floor d) defs 64 inner j n l i) ∙ b) in (
      there k h two.0,
      elim (behind-bit inner c k few h two.1) [
        | inl first ↦ let t = r (carried-one carried (sym f ∙ first.1)) in rw (first.0, t.1) t.2
        | inr later ↦ let e : k ≡ suc later.0 = omega (arith, later.1) in rw e (there later.0 (omega (arith, later.1, h)) later.2)
      ],
    )

-- such a pair may come where it repeats in that list
pub inner-comes : (w : Way) (before : Option ℕ) (r d floor : ℕ) → floor ≡ inside w r → (floor ≤ d) × IsInside floor before → MayCome w before (r, d)
inner-comes w None r d floor f i = absurd i.1
inner-comes w (Some b) r d floor f i = (omega (arith, f, i.1), omega (arith, f, i.0))

pub list-comes : (w : Way) (before : Option ℕ) (reps defs : List ℕ) (list floor at inner k : ℕ) → length reps ≡ 64 → floor ≡ inside w list → word_bits at 64 ≡ map (λ d. nat_eq d list) reps → k < 64
    → ((bit_at inner k == 1) ≡ true → (floor ≤ get_or defs k 0) × IsInside floor (level_before before defs k)) → (bit_at (bit_and at inner) k == 1) ≡ true → MayCome w (level_before before defs k) (get_or reps k 0, get_or defs k 0)
list-comes w before reps defs list floor at inner k l f a h i e =
    let two = both-bits at inner k e in
    let is : get_or reps k 0 ≡ list = at-tells (get_or reps k 0) list (sym (word-tells (λ d. nat_eq d list) reps 64 at k l h a) ∙ two.0) in
    inner-comes w (level_before before defs k) (get_or reps k 0) (get_or defs k 0) floor (f ∙ ap (inside w) (sym is)) (i two.1)

-- a pair that begins a row may come, and one inside the innermost list
pub plain-comes : (w : Way) (before : Option ℕ) (reps defs : List ℕ) (lists floor at inner k : ℕ) → length reps ≡ 64 → lists ≡ max_repetition w → floor ≡ inside w lists → get_or reps k 0 ≤ lists → word_bits at 64 ≡ map (λ d. nat_eq d 0) reps → k < 64
    → ((bit_at inner k == 1) ≡ true → (floor ≤ get_or defs k 0) × IsInside floor (level_before before defs k)) → (bit_at (bit_or at inner) k == 1) ≡ true → MayCome w (level_before before defs k) (get_or reps k 0, get_or defs k 0)
plain-comes w before reps defs lists floor at inner k l m f r a h i e =
    let deep : floor ≡ inside w (max_repetition w) = f ∙ ap (inside w) m in
    let few : get_or reps k 0 ≤ max_repetition w = omega (arith, r, m) in
    elim (of-either at inner k e) [
      | inl row ↦ comes w (level_before before defs k) (get_or reps k 0) (get_or defs k 0) floor deep few (inl (at-tells (get_or reps k 0) 0 (sym (word-tells (λ d. nat_eq d 0) reps 64 at k l h a) ∙ row)))
      | inr both ↦ comes w (level_before before defs k) (get_or reps k 0) (get_or defs k 0) floor deep few (inr (i both))
    ]

-- where each may come, one follows another
pub each-follows : (w : Way) (before : Option ℕ) (reps defs : List ℕ) → length defs ≡ length reps → ((k : ℕ) → k < length reps → (get_or reps k 0 ≤ max_repetition w) × (get_or defs k 0 ≤ max_definition w) × MayComeAt w before reps defs k) → Follows w before (zipped reps defs)
each-follows w before [] defs e p = tt
each-follows w before (r ∷ reps) [] e p = absurd (omega (arith, e))
each-follows w before (r ∷ reps) (d ∷ defs) e p =
    let here = p 0 (omega arith) in (
      here.0,
      here.1,
      here.2,
      each-follows w (Some d) reps defs (omega (arith, e)) (λ k h.
          let q = p (suc k) (omega (arith, h)) in
          (q.0, q.1, subst (λ (b : Option ℕ). MayCome w b (get_or reps k 0, get_or defs k 0)) (one-later before d defs k) q.2)),
    )

-- ---- equal pairs
copies-follow : (w : Way) (n r d : ℕ) → r ≤ max_repetition w → d ≤ max_definition w → MayCome w (Some d) (r, d) → Follows w (Some d) (zipped (replicate n r) (replicate n d))
copies-follow w zero r d a b m = tt
copies-follow w (suc n) r d a b m = (a, b, m, copies-follow w n r d a b m)

-- the first may come, and one behind it
pub follow-copies : (w : Way) (before : Option ℕ) (n r d : ℕ) → r ≤ max_repetition w → d ≤ max_definition w → MayCome w before (r, d) → MayCome w (Some d) (r, d) → Follows w before (zipped (replicate n r) (replicate n d))
follow-copies w before zero r d a b m k = tt
follow-copies w before (suc n) r d a b m k = (a, b, m, copies-follow w n r d a b k)

pub follow-one : (w : Way) (before : Option ℕ) (n r d : ℕ) → n ≡ 1 → r ≤ max_repetition w → d ≤ max_definition w → MayCome w before (r, d) → Follows w before (zipped (replicate n r) (replicate n d))
follow-one w before n r d e a b m = rw e (a, b, m, tt)

pub first-not : (w : Way) (before : Option ℕ) (n r d : ℕ) (e : Error) → 0 < n → WhyNot w before (r, d) e → OneMayNot w before (zipped (replicate n r) (replicate n d)) e
first-not w before zero r d e h why = absurd (omega (arith, h))
first-not w before (suc n) r d e h why = here-not w before (r, d) (zipped (replicate n r) (replicate n d)) e why

pub second-not : (w : Way) (before : Option ℕ) (n r d : ℕ) (e : Error) → 0 < n → (n ≡ 1 → ⊥) → WhyNot w (Some d) (r, d) e → OneMayNot w before (zipped (replicate n r) (replicate n d)) e
second-not w before zero r d e h one why = absurd (omega (arith, h))
second-not w before (suc zero) r d e h one why = absurd (one refl)
second-not w before (suc (suc n)) r d e h one why = later-not w before (r, d) (zipped (replicate (suc n) r) (replicate (suc n) d)) e (here-not w (Some d) (r, d) (zipped (replicate n r) (replicate n d)) e why)

-- pairs that follow one another have no level above its greatest
pub follows-most : (w : Way) (before : Option ℕ) (reps defs : List ℕ) → length defs ≡ length reps → Follows w before (zipped reps defs) → (k : ℕ) → k < length reps → (get_or reps k 0 ≤ max_repetition w) × (get_or defs k 0 ≤ max_definition w)
follows-most w before [] defs e f k h = absurd (omega (arith, h))
follows-most w before (r ∷ reps) [] e f k h = absurd (omega (arith, e))
follows-most w before (r ∷ reps) (d ∷ defs) e f zero h = (f.0, f.1)
follows-most w before (r ∷ reps) (d ∷ defs) e f (suc k) h = follows-most w (Some d) reps defs (omega (arith, e)) f.3 k (omega (arith, h))

-- ---- the definition level of the last pair
last : (before : Option ℕ) (r d : ℕ) (reps defs : List ℕ) → length defs ≡ length reps → last_level before (zipped (r ∷ reps) (d ∷ defs)) ≡ Some (get_or (d ∷ defs) (length reps) 0)
last before r d [] defs e = refl
last before r d (s ∷ reps) [] e = absurd (omega (arith, e))
last before r d (s ∷ reps) (f ∷ defs) e = last (Some d) s f reps defs (omega (arith, e))

pub last-pair : (before : Option ℕ) (reps defs : List ℕ) (i : ℕ) → length defs ≡ length reps → 0 < length reps → i ≡ length reps - 1 → ◌≡◌ {A = Option ℕ} (Some (get_or defs i 0)) (last_level before (zipped reps defs))
last-pair before [] defs i e h k = absurd (omega (arith, h))
last-pair before (r ∷ reps) [] i e h k = absurd (omega (arith, e))
last-pair before (r ∷ reps) (d ∷ defs) i e h k =
    let m : i ≡ length reps = omega (arith, k) in
    rw (m, last before r d reps defs (omega (arith, e))) refl
