-- A stretch of equal pairs, pair by pair.
use Rattle.std.proofs.Common.{◌≡◌, ℕ, zero, suc, ◌+◌, ◌-◌, ◌*◌, ◌≤◌, true, false, Bool, not, ◌&&◌, nat_lt, is_some, Option, Some, None, List, [], ◌∷◌, ◌++◌, map, length, replicate, refl, arith, inl, inr, ◌⊎◌, append_assoc, append-nil, sym, ◌∙◌, ap}
use Rattle.shredding.specs.Slot.{Value, Slot}
use Rattle.shredding.specs.Shred.{single, up, max_repetition, max_definition}
use Rattle.shredding.specs.Local.{inside}
use Rattle.shredding.specs.Shape.{in_list, in_struct}
use Rattle.read_laws.specs.State.{Kept, kept_leaf, kept_list, kept_struct, count, kept_way, leaf_count, StateFits}
use Rattle.read_laws.specs.Step.{bit, pushes, grown, rising, pushed, gain, is_list, is_nullable, is_struct, is_there, hides, growth, step, top_level, leaf_nullable, leaf_pushes, way_nullable, Continues, Reaches, Ended, LeafGives}
use Rattle.read_laws.specs.Column.{kept_column, MayCome, ComesAfter, IsExtended, GivesAll, triple, IsStretched}
use Rattle.read_laws.proofs.Steps.{step-push, step-pass, count-step, column-row, column-deep}
use Rattle.read_laws.proofs.Ends.{fits-new, fits-deep, ended-new, ended-deep, continues-ended}

pub cases_bool : (b : Bool) → (b ≡ true) ⊎ (b ≡ false)
cases_bool true = inl refl
cases_bool false = inr refl

pub nullable-pushed : (k : Kept) (first by : ℕ) (v : Bool) (m : ℕ) → is_nullable (pushed k first by v m) ≡ is_nullable k
nullable-pushed (kept_leaf n c) first by v m = refl
nullable-pushed (kept_list None starts) first by v m = refl
nullable-pushed (kept_list (Some bits) starts) first by v m = refl
nullable-pushed (kept_struct None c) first by v m = refl
nullable-pushed (kept_struct (Some bits) c) first by v m = refl

pub list-pushed : (k : Kept) (first by : ℕ) (v : Bool) (m : ℕ) → is_list (pushed k first by v m) ≡ is_list k
list-pushed (kept_leaf n c) first by v m = refl
list-pushed (kept_list mask starts) first by v m = refl
list-pushed (kept_struct mask c) first by v m = refl

pub struct-pushed : (k : Kept) (first by : ℕ) (v : Bool) (m : ℕ) → is_struct (pushed k first by v m) ≡ is_struct k
struct-pushed (kept_leaf n c) first by v m = refl
struct-pushed (kept_list mask starts) first by v m = refl
struct-pushed (kept_struct mask c) first by v m = refl

grown-more : (mask : Option (List Bool)) (m : ℕ) (v : Bool) → grown (grown mask 1 v) m v ≡ grown mask (suc m) v
grown-more None m v = refl
grown-more (Some bits) m v = ap Some (append_assoc bits (v ∷ []) (replicate m v))

rising-more : (starts : List ℕ) (first by m : ℕ) → (starts ++ rising first by 1) ++ rising (first + by) by m ≡ starts ++ rising first by (suc m)
unfolding rising
rising-more starts first by m = append_assoc starts (first ∷ []) (rising (first + by) by m)

-- one push and m more are m + 1 pushes
pushed-more : (k : Kept) (first next by : ℕ) (v : Bool) (m : ℕ) → (is_list k ≡ true → next ≡ first + by) → pushed (pushed k first by v 1) next by v m ≡ pushed k first by v (suc m)
pushed-more (kept_leaf n c) first next by v m h = let e : c + 1 + m ≡ c + suc m = omega arith in rw e
pushed-more (kept_list mask starts) first next by v m h = rw (h refl, grown-more mask m v, rising-more starts first by m)
pushed-more (kept_struct mask c) first next by v m h = let e : c + 1 + m ≡ c + suc m = omega arith in rw (e, grown-more mask m v)

-- by how much the part beneath a list grows
grows : (rep level : ℕ) (k : Kept) (depth def : ℕ) (ks : List Kept) → StateFits ks → count (step 1 rep level false (depth + bit (is_list k)) (def + gain k) ks) ≡ count ks + growth rep level k depth def
grows rep level k depth def [] f = absurd f
grows rep level k depth def (k' ∷ ks) f = elim (cases_bool (pushes rep level false (depth + bit (is_list k)) (def + gain k))) [
  | inl e ↦ rw (count-step 1 rep level false (depth + bit (is_list k)) (def + gain k) (k' ∷ ks) f e, e)
  | inr e ↦ rw (step-pass 1 rep level false (depth + bit (is_list k)) (def + gain k) k' ks e, e) (omega arith)
]

list-hides : (k : Kept) (level def : ℕ) → is_list k ≡ true → hides k level def ≡ false
list-hides (kept_leaf n c) level def e = absurd (cc)
list-hides (kept_list mask starts) level def e = refl
list-hides (kept_struct mask c) level def e = absurd (cc)

grows-list : (rep level : ℕ) (k : Kept) (depth def : ℕ) (ks : List Kept) → StateFits ks → is_list k ≡ true → count (step 1 rep level (hides k level def) (depth + bit (is_list k)) (def + gain k) ks) ≡ count ks + growth rep level k depth def
grows-list rep level k depth def ks f e = rw (list-hides k level def e) (grows rep level k depth def ks f)

pub fits-rest : (k : Kept) (ks : List Kept) → StateFits (k ∷ ks) → (StateFits ks) ⊎ ((is_list k ≡ false) × (length ks ≡ 0))
fits-rest (kept_leaf n c) ks f = inr (refl, f)
fits-rest (kept_list mask starts) ks f = inl f.3
fits-rest (kept_struct mask c) ks f = inl f.2

pub step-none : (m rep level : ℕ) (junk : Bool) (depth def : ℕ) → step m rep level junk depth def [] ≡ []
unfolding step
step-none m rep level junk depth def = refl

step-more-none : (m rep level : ℕ) (junk : Bool) (depth def : ℕ) (ks : List Kept) → length ks ≡ 0 → step (suc m) rep level junk depth def ks ≡ step m rep level junk depth def (step 1 rep level junk depth def ks)
step-more-none m rep level junk depth def [] e = rw (step-none (suc m) rep level junk depth def, step-none 1 rep level junk depth def, step-none m rep level junk depth def)
step-more-none m rep level junk depth def (k ∷ ks) e = absurd (omega (arith, e))

no-list : (k : Kept) (next first by : ℕ) → is_list k ≡ false → is_list k ≡ true → next ≡ first + by
no-list k next first by e h = absurd (cc)

pub step-more : (m rep level : ℕ) (junk : Bool) (depth def : ℕ) (ks : List Kept) → StateFits ks → step (suc m) rep level junk depth def ks ≡ step m rep level junk depth def (step 1 rep level junk depth def ks)
step-more m rep level junk depth def [] f = absurd f
step-more m rep level junk depth def (k ∷ ks) f =
    let n = count ks in
    let g = growth rep level k depth def in
    let v = is_there k level def in
    let k' = pushed k n g v 1 in
    let D : ℕ = def + gain k in
    let K : ℕ = depth + bit (is_list k) in
    let H = hides k level def in
    elim (cases_bool (pushes rep level junk depth def)) [
      | inl e ↦
          let ks' = step 1 rep level H K D ks in
          elim (fits-rest k ks f) [
            | inl fits ↦
                let below = step-more m rep level H K D ks fits in
                let head = pushed-more k n (count ks') g v m (grows-list rep level k depth def ks fits) in
                rw (step-push (suc m) rep level junk depth def k ks e, step-push 1 rep level junk depth def k ks e, step-push m rep level junk depth def k' ks' e, nullable-pushed k n g v 1, list-pushed k n g v 1, struct-pushed k n g v 1, head, below)
            | inr none ↦
                let below = step-more-none m rep level H K D ks none.1 in
                let head = pushed-more k n (count ks') g v m (no-list k (count ks') n g none.0) in
                rw (step-push (suc m) rep level junk depth def k ks e, step-push 1 rep level junk depth def k ks e, step-push m rep level junk depth def k' ks' e, nullable-pushed k n g v 1, list-pushed k n g v 1, struct-pushed k n g v 1, head, below)
          ]
      | inr e ↦
          let ks' = step 1 rep level false K D ks in
          elim (fits-rest k ks f) [
            | inl fits ↦ rw (step-pass (suc m) rep level junk depth def k ks e, step-pass 1 rep level junk depth def k ks e, step-pass m rep level junk depth def k ks' e, step-more m rep level false K D ks fits)
            | inr none ↦ rw (step-pass (suc m) rep level junk depth def k ks e, step-pass 1 rep level junk depth def k ks e, step-pass m rep level junk depth def k ks' e, step-more-none m rep level false K D ks none.1)
          ]
    ]

-- ---- no pushes
grown-none : (mask : Option (List Bool)) (v : Bool) → grown mask 0 v ≡ mask
grown-none None v = refl
grown-none (Some bits) v = ap Some (append-nil bits)

pushed-none : (k : Kept) (first by : ℕ) (v : Bool) → pushed k first by v 0 ≡ k
unfolding rising
pushed-none (kept_leaf n c) first by v = let e : c + 0 ≡ c = omega arith in rw e
pushed-none (kept_list mask starts) first by v = rw (grown-none mask v, append-nil)
pushed-none (kept_struct mask c) first by v = let e : c + 0 ≡ c = omega arith in rw (e, grown-none mask v)

pub step-zero : (rep level : ℕ) (junk : Bool) (depth def : ℕ) (ks : List Kept) → step 0 rep level junk depth def ks ≡ ks
step-zero rep level junk depth def [] = step-none 0 rep level junk depth def
step-zero rep level junk depth def (k ∷ ks) = elim (cases_bool (pushes rep level junk depth def)) [
  | inl e ↦ rw (step-push 0 rep level junk depth def k ks e, pushed-none k (count ks) (growth rep level k depth def) (is_there k level def), step-zero rep level (hides k level def) (depth + bit (is_list k)) (def + gain k) ks)
  | inr e ↦ rw (step-pass 0 rep level junk depth def k ks e, step-zero rep level false (depth + bit (is_list k)) (def + gain k) ks)
]

-- ---- what pairs leave as it was
way-head : (k : Kept) (first by : ℕ) (v : Bool) (m : ℕ) (xs ys : List Kept) → kept_way xs ≡ kept_way ys → kept_way (pushed k first by v m ∷ xs) ≡ kept_way (k ∷ ys)
way-head (kept_leaf n c) first by v m xs ys e = refl
way-head (kept_list None starts) first by v m xs ys e = ap (in_list false) e
way-head (kept_list (Some bits) starts) first by v m xs ys e = ap (in_list true) e
way-head (kept_struct None c) first by v m xs ys e = ap (in_struct false zero) e
way-head (kept_struct (Some bits) c) first by v m xs ys e = ap (in_struct true zero) e

way-tail : (k : Kept) (xs ys : List Kept) → kept_way xs ≡ kept_way ys → kept_way (k ∷ xs) ≡ kept_way (k ∷ ys)
way-tail (kept_leaf n c) xs ys e = refl
way-tail (kept_list mask starts) xs ys e = ap (in_list (is_some mask)) e
way-tail (kept_struct mask c) xs ys e = ap (in_struct (is_some mask) zero) e

pub way-step : (m rep level : ℕ) (junk : Bool) (depth def : ℕ) (ks : List Kept) → kept_way (step m rep level junk depth def ks) ≡ kept_way ks
way-step m rep level junk depth def [] = rw (step-none m rep level junk depth def)
way-step m rep level junk depth def (k ∷ ks) = elim (cases_bool (pushes rep level junk depth def)) [
  | inl e ↦ rw (step-push m rep level junk depth def k ks e) (way-head k _ _ _ m _ ks (way-step m rep level (hides k level def) (depth + bit (is_list k)) (def + gain k) ks))
  | inr e ↦ rw (step-pass m rep level junk depth def k ks e) (way-tail k _ ks (way-step m rep level false (depth + bit (is_list k)) (def + gain k) ks))
]

pub up-bit : (b : Bool) (d : ℕ) → up b d ≡ d + bit b
up-bit true d = omega arith
up-bit false d = omega arith

pub top-way : (def : ℕ) (ks : List Kept) → StateFits ks → top_level def ks ≡ def + max_definition (kept_way ks)
top-way def [] f = absurd f
top-way def (kept_leaf n c ∷ []) f = omega (arith, up-bit n 0)
top-way def (kept_leaf n c ∷ k ∷ ks) f = absurd (omega (arith, f))
top-way def (kept_list m starts ∷ ks) f =
    let below = top-way (def + gain (kept_list m starts)) ks f.3 in
    let e = up-bit (is_some m) (suc (max_definition (kept_way ks))) in
    rw below (omega arith)
top-way def (kept_struct m c ∷ ks) f =
    let below = top-way (def + gain (kept_struct m c)) ks f.2 in
    let e = up-bit (is_some m) (max_definition (kept_way ks)) in
    rw below (omega arith)

pub nullable-way : (ks : List Kept) → leaf_nullable ks ≡ way_nullable (kept_way ks)
nullable-way [] = refl
nullable-way (kept_leaf n c ∷ ks) = refl
nullable-way (kept_list m starts ∷ ks) = nullable-way ks
nullable-way (kept_struct m c ∷ ks) = nullable-way ks

pub reaches-way : (rep level depth def r : ℕ) (ks : List Kept) → rep ≡ depth + suc r → suc r ≤ max_repetition (kept_way ks) → def + inside (kept_way ks) (suc r) ≤ level → Reaches rep level depth def ks
reaches-way rep level depth def r [] e few low = absurd (omega (arith, few))
reaches-way rep level depth def r (kept_leaf n c ∷ ks) e few low = absurd (omega (arith, few))
reaches-way rep level depth def zero (kept_list m starts ∷ ks) e few low =
    let u = up-bit (is_some m) 1 in
    (omega (arith, low, u), λ deeper. absurd (omega arith))
reaches-way rep level depth def (suc r) (kept_list m starts ∷ ks) e few low =
    let u = up-bit (is_some m) (suc (inside (kept_way ks) (suc r))) in
    (omega (arith, low, u), λ deeper. reaches-way rep level (depth + 1) (def + gain (kept_list m starts)) r ks (omega arith) (omega (arith, few)) (omega (arith, low, u)))
reaches-way rep level depth def r (kept_struct m c ∷ ks) e few low =
    let u = up-bit (is_some m) (inside (kept_way ks) (suc r)) in
    reaches-way rep level (depth + bit (is_list (kept_struct m c))) (def + gain (kept_struct m c)) r ks (omega arith) few (omega (arith, low, u))

-- ---- leaves
leaf_through : (m rep level : ℕ) (mask : Option (List Bool)) (c : ℕ) (depth def : ℕ) (ks : List Kept) (p b : Bool) → p ≡ b → leaf_count ks + m * bit (leaf_pushes rep level (b && not (is_some mask && nat_lt def level)) (depth + 0) (def + (bit (is_some mask) + 0)) (kept_way ks)) ≡ leaf_count ks + m * bit (leaf_pushes rep level (p && not (is_some mask && nat_lt def level)) (depth + 0) (def + (bit (is_some mask) + 0)) (kept_way ks))
leaf_through m rep level mask c depth def ks p b e = rw e refl

pub leaves-step : (m rep level : ℕ) (junk : Bool) (depth def : ℕ) (ks : List Kept) → StateFits ks → leaf_count (step m rep level junk depth def ks) ≡ leaf_count ks + m * bit (leaf_pushes rep level junk depth def (kept_way ks))
leaves-step m rep level junk depth def [] f = absurd f
leaves-step m rep level junk depth def (kept_leaf n c ∷ ks) f = elim (cases_bool (pushes rep level junk depth def)) [
  | inl e ↦ rw (step-push m rep level junk depth def (kept_leaf n c) ks e, e) (omega arith)
  | inr e ↦ rw (step-pass m rep level junk depth def (kept_leaf n c) ks e, e) (omega arith)
]
leaves-step m rep level junk depth def (kept_list mask starts ∷ ks) f =
    let k = kept_list mask starts in
    elim (cases_bool (pushes rep level junk depth def)) [
      | inl e ↦ rw (step-push m rep level junk depth def k ks e) (leaves-step m rep level (hides k level def) (depth + bit (is_list k)) (def + gain k) ks f.3)
      | inr e ↦ rw (step-pass m rep level junk depth def k ks e) (leaves-step m rep level false (depth + bit (is_list k)) (def + gain k) ks f.3)
    ]
leaves-step m rep level junk depth def (kept_struct mask c ∷ ks) f =
    let k = kept_struct mask c in
    elim (cases_bool (pushes rep level junk depth def)) [
      | inl e ↦ rw (step-push m rep level junk depth def k ks e) (leaves-step m rep level (hides k level def) (depth + bit (is_list k)) (def + gain k) ks f.2 ∙ leaf_through m rep level mask c depth def ks (pushes rep level junk depth def) true e)
      | inr e ↦ rw (step-pass m rep level junk depth def k ks e) (leaves-step m rep level false (depth + bit (is_list k)) (def + gain k) ks f.2 ∙ leaf_through m rep level mask c depth def ks (pushes rep level junk depth def) false e)
    ]

-- ---- one pair, then the others
continues-after : (before rep level r : ℕ) (ks : List Kept) → rep ≡ suc r → Ended before 0 ks → rep ≤ max_repetition (kept_way ks) → inside (kept_way ks) rep ≤ before → inside (kept_way ks) rep ≤ level → Continues rep level 0 0 ks
continues-after before rep level r ks e ended few low high =
    let n : rep ≡ 0 + suc r = omega arith in
    let few' : suc r ≤ max_repetition (kept_way ks) = rw (← e) few in
    let low' : 0 + inside (kept_way ks) (suc r) ≤ before = omega (arith, rw e at low) in
    let high' : 0 + inside (kept_way ks) (suc r) ≤ level = omega (arith, rw e at high) in
    continues-ended before rep level 0 0 ks ended (reaches-way rep before 0 0 r ks n few' low') (reaches-way rep level 0 0 r ks n few' high')

pub may-come : (before rep level : ℕ) (ks : List Kept) → ComesAfter before rep level ks → MayCome rep level ks
may-come before rep level ks come = elim come [
  | inl e ↦ inl e
  | inr e ↦ inr (e.1, continues-after before rep level (rep - 1) ks (omega (arith, e.1)) e.0 e.2 e.3 e.4)
]

pub top-of : (level : ℕ) (ks : List Kept) → StateFits ks → level ≤ max_definition (kept_way ks) → level ≤ top_level 0 ks
top-of level ks f h = omega (arith, top-way 0 ks f)

pub gives-of : (level : ℕ) (ks : List Kept) (s : Slot) (o : Option Value) → StateFits ks → LeafGives (way_nullable (kept_way ks)) level (max_definition (kept_way ks)) s o → LeafGives (leaf_nullable ks) level (top_level 0 ks) s o
gives-of level ks s o f g =
    let e : top_level 0 ks ≡ max_definition (kept_way ks) = omega (arith, top-way 0 ks f) in
    rw (e, nullable-way ks) g

pub extended : (leaf : ℕ → Slot) (rep level : ℕ) (ks : List Kept) (o : Option Value) → StateFits ks → level ≤ top_level 0 ks → MayCome rep level ks → LeafGives (leaf_nullable ks) level (top_level 0 ks) (leaf (leaf_count ks)) o → IsExtended leaf rep level ks o
extended leaf rep level ks o f top come gives = elim come [
  | inl e ↦ rw e record {
    fits = fits-new 0 level false 0 0 ks f (omega arith);
    column = column-row leaf level ks o f top gives;
  }
  | inr e ↦ record {
    fits = fits-deep rep level 0 0 ks f e.0 e.1;
    column = column-deep leaf rep level ks o f e.0 top e.1 gives;
  }
]

pub ended-pair : (rep level : ℕ) (ks : List Kept) → StateFits ks → level ≤ top_level 0 ks → MayCome rep level ks → Ended level 0 (step 1 rep level false 0 0 ks)
ended-pair rep level ks f top come = elim come [
  | inl e ↦ rw e (ended-new 0 level false 0 0 ks f (omega arith) (omega arith) top)
  | inr e ↦ ended-deep rep level 0 0 ks f e.0 top e.1
]

after-pair : (before rep level : ℕ) (ks : List Kept) → StateFits ks → level ≤ max_definition (kept_way ks) → ComesAfter before rep level ks → ComesAfter level rep level (step 1 rep level false 0 0 ks)
after-pair before rep level ks f h come = elim come [
  | inl e ↦ inl e
  | inr e ↦ inr (ended-pair rep level ks f (top-of level ks f h) (may-come before rep level ks (inr e)), e.1, rw (way-step 1 rep level false 0 0 ks) e.2, rw (way-step 1 rep level false 0 0 ks) e.4, rw (way-step 1 rep level false 0 0 ks) e.4)
]

pub one-times : (n : ℕ) → 1 * n ≡ n
one-times n = omega arith

ended-all : (leaf : ℕ → Slot) (before rep level : ℕ) (ks : List Kept) (os : List (Option Value)) → IsStretched leaf (length os) rep level ks os → Ended level 0 ks → Ended level 0 (step (length os) rep level false 0 0 ks)
ended-all leaf before rep level ks [] s e = rw (step-zero rep level false 0 0 ks) e
ended-all leaf before rep level ks (o ∷ os) s e = s.ended (omega arith)

pub stretched : (leaf : ℕ → Slot) (before rep level : ℕ) (ks : List Kept) (os : List (Option Value)) → StateFits ks → level ≤ max_definition (kept_way ks) → ComesAfter before rep level ks → GivesAll (way_nullable (kept_way ks)) level (max_definition (kept_way ks)) leaf (leaf_count ks) (bit (leaf_pushes rep level false 0 0 (kept_way ks))) os → IsStretched leaf (length os) rep level ks os
stretched leaf before rep level ks [] f h come gives = record {
  fits = rw (step-zero rep level false 0 0 ks) f;
  ended = λ some. absurd (omega (arith, some));
  column = rw (step-zero rep level false 0 0 ks) (sym (append-nil (kept_column leaf ks)));
}
stretched leaf before rep level ks (o ∷ os) f h come gives =
    let ks' = step 1 rep level false 0 0 ks in
    let w = kept_way ks in
    let by = bit (leaf_pushes rep level false 0 0 w) in
    let may = may-come before rep level ks come in
    let one = extended leaf rep level ks o f (top-of level ks f h) may (gives-of level ks (leaf (leaf_count ks)) o f gives.0) in
    let way = way-step 1 rep level false 0 0 ks in
    let leaves : leaf_count ks' ≡ leaf_count ks + by = leaves-step 1 rep level false 0 0 ks f ∙ ap (λ x. leaf_count ks + x) (one-times by) in
    let h' : level ≤ max_definition (kept_way ks') = rw way h in
    let gives' : GivesAll (way_nullable (kept_way ks')) level (max_definition (kept_way ks')) leaf (leaf_count ks') (bit (leaf_pushes rep level false 0 0 (kept_way ks'))) os = rw (way, leaves) gives.1 in
    let rest = stretched leaf level rep level ks' os one.fits h' (after-pair before rep level ks f h come) gives' in
    let more = step-more (length os) rep level false 0 0 ks f in
    record {
      fits = rw more rest.fits;
      ended = λ some. rw more (ended-all leaf level rep level ks' os rest (ended-pair rep level ks f (top-of level ks f h) may));
      column = rw more (rest.column ∙ (ap (λ ts. ts ++ map (triple rep level) os) one.column ∙ append_assoc (kept_column leaf ks) (single rep level o) (map (triple rep level) os)));
    }
