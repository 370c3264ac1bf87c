-- Columns that agree build the same front.
use Rattle.std.proofs.Common.{◌≡◌, ℕ, zero, suc, ◌+◌, ◌<◌, ◌≤◌, min, Bool, true, false, ◌&&◌, nat_le, nat_lt, nat_eq, is_some, List, [], ◌∷◌, map, filter, length, take, refl, arith, sym, ap, ◌∙◌, inl, inr, subst, le-leb, eq-eqb, add-one}
use Rattle.std.proofs.lemmas.Bool.Decides.{leb_tells, eqb_tells}
use Rattle.shredding.specs.Shape.{Way, in_struct}
use Rattle.shredding.specs.Share.{shared_lists, shared_levels, lowered}
use Rattle.shredding.specs.Shred.{Triple}
use Rattle.read_laws.specs.Block.{walk}
use Rattle.read_laws.specs.Blocks.{mark_of}
use Rattle.read_laws.specs.State.{Kept, kept_leaf, kept_list, kept_struct, count, size}
use Rattle.read_laws.specs.Step.{bit, pushes, pushed, gain, is_list, is_nullable, is_there, hides, growth, step}
use Rattle.read_laws.proofs.Steps.{step-push, step-pass, pushes-deep, leb-lt, rising-one}
use Rattle.read_laws.proofs.Stretches.{cases_bool, nullable-pushed, list-pushed, step-none, up-bit}
use Rattle.read_state.specs.Initial.{no_validity}
use Rattle.read_nested.specs.Above.{Above, above_list, above_struct, way_beneath}
use Rattle.read_pieces.specs.Pieces.{empty_state}
use Rattle.read_nested.specs.Fronts.{built, FrontsAgree}

-- the same first parts
abbrev Same : ℕ → List Kept → List Kept → Type 0
Same zero ks ls = Unit {0}
Same (suc n) (k ∷ ks) (l ∷ ls) = (k ≡ l) × Same n ks ls
Same (suc n) _ _ = ⊥

-- there are so many parts, of which the last is no list
abbrev Ends : ℕ → List Kept → Type 0
Ends zero ks = Unit {0}
Ends (suc zero) (k ∷ ks) = is_list k ≡ false
Ends (suc (suc n)) (k ∷ ks) = Ends (suc n) ks
Ends (suc n) [] = ⊥

-- the lists, and the lists and nullable parts, of the first parts
abbrev lists : ℕ → List Kept → ℕ
lists zero ks = 0
lists (suc n) [] = 0
lists (suc n) (k ∷ ks) = bit (is_list k) + lists n ks

abbrev levels : ℕ → List Kept → ℕ
levels zero ks = 0
levels (suc n) [] = 0
levels (suc n) (k ∷ ks) = gain k + levels n ks

-- ---- tests that see no more than some levels
le-same : (d a b e : ℕ) → d ≤ e → min a e ≡ min b e → nat_le d a ≡ nat_le d b
le-same d a b e h m =
    elim (leb_tells d a) [
      | inl x ↦ let y : nat_le d b ≡ true = le-leb d b (omega (arith, x.1)) in x.0 ∙ sym y
      | inr x ↦ let y : nat_le d b ≡ false = leb-lt d b (omega (arith, x.1)) in x.0 ∙ sym y
    ]

pushes-same : (rep a b : ℕ) (junk : Bool) (depth d e : ℕ) → d ≤ e → min a e ≡ min b e → pushes rep a junk depth d ≡ pushes rep b junk depth d
pushes-same rep a b junk depth d e h m = rw (le-same d a b e h m) refl

and-same : (n : Bool) (d a b e : ℕ) → d + bit n ≤ e → min a e ≡ min b e → (n && nat_lt d a) ≡ (n && nat_lt d b)
and-same false d a b e h m = refl
and-same true d a b e h m = le-same (suc d) a b e (omega arith) m

there-same : (k : Kept) (d a b e : ℕ) → d + gain k ≤ e → min a e ≡ min b e → is_there k a d ≡ is_there k b d
there-same k d a b e h m = and-same (is_nullable k) d a b e (omega arith) m

-- ---- one pair
head-same : (k : Kept) (x y g h : ℕ) (v u : Bool) → v ≡ u → (is_list k ≡ true → x ≡ y) → pushed k x g v 1 ≡ pushed k y h u 1
head-same (kept_leaf n c) x y g h v u e f = refl
head-same (kept_list m starts) x y g h v u e f = rw (rising-one x g, rising-one y h, e, f refl) refl
head-same (kept_struct m c) x y g h v u e f = rw e refl

ends-rest : (n : ℕ) (k : Kept) (ks : List Kept) → Ends (suc n) (k ∷ ks) → Ends n ks
ends-rest zero k ks e = tt
ends-rest (suc n) k ks e = e

count-same : (n : ℕ) (k : Kept) (ks ls : List Kept) → Ends (suc n) (k ∷ ks) → Same n ks ls → is_list k ≡ true → count ks ≡ count ls
count-same zero k ks ls e s h = absurd (cc)
count-same (suc n) k [] ls e s h = absurd s
count-same (suc n) k (x ∷ ks) [] e s h = absurd s
count-same (suc n) k (x ∷ ks) (y ∷ ls) e s h = ap size s.0

stepped : (n rep a b : ℕ) (junk : Bool) (depth d : ℕ) (ks ls : List Kept) → Ends n ks → Same n ks ls → min a (d + levels n ks) ≡ min b (d + levels n ks) → Same n (step 1 rep a junk depth d ks) (step 1 rep b junk depth d ls)
stepped zero rep a b junk depth d ks ls e s m = tt
stepped (suc n) rep a b junk depth d [] ls e s m = absurd s
stepped (suc n) rep a b junk depth d (k ∷ ks) [] e s m = absurd s
stepped (suc n) rep a b junk depth d (k ∷ ks) (l ∷ ls) e s m =
    let E : ℕ = d + (gain k + levels n ks) in
    let D : ℕ = d + gain k in
    let K : ℕ = depth + bit (is_list k) in
    let p : pushes rep a junk depth d ≡ pushes rep b junk depth d = pushes-same rep a b junk depth d E (omega arith) m in
    let t : is_there k a d ≡ is_there k b d = there-same k d a b E (omega arith) m in
    let below : (j : Bool) → Same n (step 1 rep a j K D ks) (step 1 rep b j K D ls) =
    λ j. let m' : min a (D + levels n ks) ≡ min b (D + levels n ks) = omega arith in stepped n rep a b j K D ks ls (ends-rest n k ks e) s.1 m' in
    let same : Same (suc n) (step 1 rep a junk depth d (k ∷ ks)) (step 1 rep b junk depth d (k ∷ ls)) =
    elim (cases_bool (pushes rep a junk depth d)) [
      | inl x ↦
          let y : pushes rep b junk depth d ≡ true = sym p ∙ x in
          let h : hides k a d ≡ hides k b d = rw t refl in
          let head = head-same k (count ks) (count ls) (growth rep a k depth d) (growth rep b k depth d) (is_there k a d) (is_there k b d) t (count-same n k ks ls e s.1) in
          rw (step-push 1 rep a junk depth d k ks x, step-push 1 rep b junk depth d k ls y) (head, rw h (below (hides k b d)))
      | inr x ↦
          let y : pushes rep b junk depth d ≡ false = sym p ∙ x in
          rw (step-pass 1 rep a junk depth d k ks x, step-pass 1 rep b junk depth d k ls y) (refl, below false)
    ] in
    let P : Kept → Type 0 = λ l'. Same (suc n) (step 1 rep a junk depth d (k ∷ ks)) (step 1 rep b junk depth d (l' ∷ ls)) in
    subst P s.0 same

-- a pair that repeats deeper leaves them
skipped : (n rep a depth d : ℕ) (ks : List Kept) → Ends n ks → depth + lists n ks < rep → Same n (step 1 rep a false depth d ks) ks
skipped zero rep a depth d ks e h = tt
skipped (suc n) rep a depth d [] e h = elim n [ zero ↦ absurd e | suc _ ↦ absurd e ]
skipped (suc n) rep a depth d (k ∷ ks) e h =
    rw (step-pass 1 rep a false depth d k ks (pushes-deep rep a depth d (omega arith)))
    (refl, skipped n rep a (depth + bit (is_list k)) (d + gain k) ks (ends-rest n k ks e) (omega arith))

same-turned : (n : ℕ) (ks ls : List Kept) → Same n ks ls → Same n ls ks
same-turned zero ks ls s = tt
same-turned (suc n) [] ls s = absurd s
same-turned (suc n) (k ∷ ks) [] s = absurd s
same-turned (suc n) (k ∷ ks) (l ∷ ls) s = (sym s.0, same-turned n ks ls s.1)

same-joined : (n : ℕ) (ks ls ms : List Kept) → Same n ks ls → Same n ls ms → Same n ks ms
same-joined zero ks ls ms s t = tt
same-joined (suc n) [] ls ms s t = absurd s
same-joined (suc n) (k ∷ ks) [] ms s t = absurd s
same-joined (suc n) (k ∷ ks) (l ∷ ls) [] s t = absurd t
same-joined (suc n) (k ∷ ks) (l ∷ ls) (m ∷ ms) s t = (s.0 ∙ t.0, same-joined n ks ls ms s.1 t.1)

same-start : (n : ℕ) (ks : List Kept) → Ends n ks → Same n ks ks
same-start zero ks e = tt
same-start (suc n) [] e = elim n [ zero ↦ absurd e | suc _ ↦ absurd e ]
same-start (suc n) (k ∷ ks) e = (refl, same-start n ks (ends-rest n k ks e))

-- and what the same parts share
same-lists : (n : ℕ) (ks ls : List Kept) → Same n ks ls → lists n ls ≡ lists n ks
same-lists zero ks ls s = refl
same-lists (suc n) [] ls s = absurd s
same-lists (suc n) (k ∷ ks) [] s = absurd s
same-lists (suc n) (k ∷ ks) (l ∷ ls) s = rw (s.0, same-lists n ks ls s.1) refl

-- ---- what a pair leaves
gain-pushed : (k : Kept) (first by : ℕ) (v : Bool) → gain (pushed k first by v 1) ≡ gain k
gain-pushed k first by v = rw (nullable-pushed k first by v 1, list-pushed k first by v 1) refl

ends-head : (n : ℕ) (k l : Kept) (ks ls : List Kept) → is_list l ≡ is_list k → Ends (suc n) (k ∷ ks) → (Ends n ks → Ends n ls) → Ends (suc n) (l ∷ ls)
ends-head zero k l ks ls h e f = h ∙ e
ends-head (suc n) k l ks ls h e f = f e

ends-step : (n rep a : ℕ) (junk : Bool) (depth d : ℕ) (ks : List Kept) → Ends n ks → Ends n (step 1 rep a junk depth d ks)
ends-step zero rep a junk depth d ks e = tt
ends-step (suc n) rep a junk depth d [] e = elim n [ zero ↦ absurd e | suc _ ↦ absurd e ]
ends-step (suc n) rep a junk depth d (k ∷ ks) e =
    elim (cases_bool (pushes rep a junk depth d)) [
      | inl x ↦ rw (step-push 1 rep a junk depth d k ks x) (ends-head n k _ ks _ (list-pushed k _ _ _ 1) e (ends-step n rep a (hides k a d) (depth + bit (is_list k)) (d + gain k) ks))
      | inr x ↦ rw (step-pass 1 rep a junk depth d k ks x) (ends-head n k k ks _ refl e (ends-step n rep a false (depth + bit (is_list k)) (d + gain k) ks))
    ]

lists-step : (n rep a : ℕ) (junk : Bool) (depth d : ℕ) (ks : List Kept) → lists n (step 1 rep a junk depth d ks) ≡ lists n ks
lists-step zero rep a junk depth d ks = refl
lists-step (suc n) rep a junk depth d [] = rw (step-none 1 rep a junk depth d) refl
lists-step (suc n) rep a junk depth d (k ∷ ks) =
    elim (cases_bool (pushes rep a junk depth d)) [
      | inl x ↦ rw (step-push 1 rep a junk depth d k ks x, list-pushed k (count ks) (growth rep a k depth d) (is_there k a d) 1, lists-step n rep a (hides k a d) (depth + bit (is_list k)) (d + gain k) ks) refl
      | inr x ↦ rw (step-pass 1 rep a junk depth d k ks x, lists-step n rep a false (depth + bit (is_list k)) (d + gain k) ks) refl
    ]

levels-step : (n rep a : ℕ) (junk : Bool) (depth d : ℕ) (ks : List Kept) → levels n (step 1 rep a junk depth d ks) ≡ levels n ks
levels-step zero rep a junk depth d ks = refl
levels-step (suc n) rep a junk depth d [] = rw (step-none 1 rep a junk depth d) refl
levels-step (suc n) rep a junk depth d (k ∷ ks) =
    elim (cases_bool (pushes rep a junk depth d)) [
      | inl x ↦ rw (step-push 1 rep a junk depth d k ks x, nullable-pushed k (count ks) (growth rep a k depth d) (is_there k a d) 1, list-pushed k (count ks) (growth rep a k depth d) (is_there k a d) 1, levels-step n rep a (hides k a d) (depth + bit (is_list k)) (d + gain k) ks) refl
      | inr x ↦ rw (step-pass 1 rep a junk depth d k ks x, levels-step n rep a false (depth + bit (is_list k)) (d + gain k) ks) refl
    ]

-- ---- all pairs
abbrev walked : List Triple → List Kept → List Kept
walked ts ks = walk (map mark_of ts) ks

abbrev near : ℕ → List Triple → List Triple
near c ts = filter (λ t. nat_le t.repetition c) ts

of-near : (n c : ℕ) (ts : List Triple) (ks ls : List Kept) → Ends n ks → lists n ks ≡ c → Same n ks ls → Same n (walked ts ks) (walked (near c ts) ls)
of-near n c [] ks ls e h s = s
of-near n c (t ∷ ts) ks ls e h s =
    let ks' = step 1 t.repetition t.definition false 0 0 ks in
    let e' : Ends n ks' = ends-step n t.repetition t.definition false 0 0 ks e in
    let h' : lists n ks' ≡ c = lists-step n t.repetition t.definition false 0 0 ks ∙ h in
    elim (leb_tells t.repetition c) [
      | inl x ↦ rw x.0 (of-near n c ts ks' (step 1 t.repetition t.definition false 0 0 ls) e' h' (stepped n t.repetition t.definition t.definition false 0 0 ks ls e s refl))
      | inr x ↦ rw x.0 (of-near n c ts ks' ls e' h' (same-joined n ks' ks ls (skipped n t.repetition t.definition 0 0 ks e (omega (arith, x.1))) s))
    ]

of-lowered : (n e : ℕ) (xs ys : List Triple) (ks ls : List Kept) → map (lowered e) xs ≡ map (lowered e) ys → Ends n ks → levels n ks ≡ e → Same n ks ls → Same n (walked xs ks) (walked ys ls)
of-lowered n e [] [] ks ls q f h s = s
of-lowered n e [] (y ∷ ys) ks ls q f h s = absurd (cc)
of-lowered n e (x ∷ xs) [] ks ls q f h s = absurd (cc)
of-lowered n e (x ∷ xs) (y ∷ ys) ks ls q f h s =
    let head : lowered e x ≡ lowered e y = cc in
    let rest : map (lowered e) xs ≡ map (lowered e) ys = cc in
    let rep : x.repetition ≡ y.repetition = ap (λ (t : Triple). t.repetition) head in
    let def : min x.definition e ≡ min y.definition e = ap (λ (t : Triple). t.definition) head in
    let ks' = step 1 x.repetition x.definition false 0 0 ks in
    let m : min x.definition (0 + levels n ks) ≡ min y.definition (0 + levels n ks) = omega arith in
    let P : ℕ → Type 0 = λ r. Same n ks' (step 1 r y.definition false 0 0 ls) in
    let s' : P y.repetition = subst P rep (stepped n x.repetition x.definition y.definition false 0 0 ks ls f s m) in
    of-lowered n e xs ys ks' (step 1 y.repetition y.definition false 0 0 ls) rest (ends-step n x.repetition x.definition false 0 0 ks f) (levels-step n x.repetition x.definition false 0 0 ks ∙ h) s'

-- ---- before the first pair
is-some : (n : Bool) → is_some (no_validity n) ≡ n
is-some true = refl
is-some false = refl

eq-self : (i : ℕ) → nat_eq i i ≡ true
eq-self i = eq-eqb i i refl

eq-other : (i j : ℕ) → (i ≡ j → ⊥) → nat_eq i j ≡ false
eq-other i j f = elim (eqb_tells i j) [ inl x ↦ absurd (f x.1) | inr x ↦ x.0 ]

abbrev one : Bool → ℕ → Way → List Above → Way
one n i w above = way_beneath above (in_struct n i w)

empty-ends : (n : Bool) (i : ℕ) (w : Way) (above : List Above) → Ends (suc (length above)) (empty_state (one n i w above))
empty-ends n i w [] = refl
empty-ends n i w (above_list m l ∷ above) = empty-ends n i w above
empty-ends n i w (above_struct m l ∷ above) = empty-ends n i w above

empty-same : (n : Bool) (i j : ℕ) (w v : Way) (above : List Above) → Same (suc (length above)) (empty_state (one n i w above)) (empty_state (one n j v above))
empty-same n i j w v [] = (refl, tt)
empty-same n i j w v (above_list m l ∷ above) = (refl, empty-same n i j w v above)
empty-same n i j w v (above_struct m l ∷ above) = (refl, empty-same n i j w v above)

empty-lists : (n : Bool) (i j : ℕ) (w v : Way) (above : List Above) → nat_eq i j ≡ false → lists (suc (length above)) (empty_state (one n i w above)) ≡ shared_lists (one n i w above) (one n j v above)
empty-lists n i j w v [] e = rw e refl
empty-lists n i j w v (above_list m l ∷ above) e = let h = empty-lists n i j w v above e in omega arith
empty-lists n i j w v (above_struct m l ∷ above) e = let h = empty-lists n i j w v above e in rw (eq-self l) (omega arith)

empty-levels : (n : Bool) (i j : ℕ) (w v : Way) (above : List Above) → nat_eq i j ≡ false → levels (suc (length above)) (empty_state (one n i w above)) ≡ shared_levels (one n i w above) (one n j v above)
empty-levels n i j w v [] e = rw (e, is-some n, up-bit n 0) (omega arith)
empty-levels n i j w v (above_list m l ∷ above) e =
    let h = empty-levels n i j w v above e in rw (is-some m, up-bit m (suc (shared_levels (one n i w above) (one n j v above)))) (omega arith)
empty-levels n i j w v (above_struct m l ∷ above) e =
    let h = empty-levels n i j w v above e in
    rw (eq-self l, is-some m, up-bit m (shared_levels (one n i w above) (one n j v above))) (omega arith)

same-take : (n : ℕ) (ks ls : List Kept) → Same n ks ls → take n ks ≡ take n ls
same-take zero ks ls s = refl
same-take (suc n) [] ls s = absurd s
same-take (suc n) (k ∷ ks) [] s = absurd s
same-take (suc n) (k ∷ ks) (l ∷ ls) s = let h = same-take n ks ls s.1 in let g = s.0 in cc

pub fronts-agree : FrontsAgree
fronts-agree above n i j w v ts us apart agree =
    let N : ℕ = suc (length above) in
    let W = one n i w above in
    let V = one n j v above in
    let c : ℕ = shared_lists W V in
    let e : ℕ = shared_levels W V in
    let off : nat_eq i j ≡ false = eq-other i j apart in
    let start = empty-same n i j w v above in
    let a = of-near N c ts (empty_state W) (empty_state W) (empty-ends n i w above) (empty-lists n i j w v above off) (same-start N (empty_state W) (empty-ends n i w above)) in
    let b = of-lowered N e (near c ts) (near c us) (empty_state W) (empty_state V) agree (empty-ends n i w above) (empty-levels n i j w v above off) start in
    let d = of-near N c us (empty_state V) (empty_state V) (empty-ends n j v above) (same-lists N (empty_state W) (empty_state V) start ∙ empty-lists n i j w v above off) (same-start N (empty_state V) (empty-ends n j v above)) in
    let all = same-joined N (built W ts) (walked (near c us) (empty_state V)) (built V us) (same-joined N (built W ts) (walked (near c ts) (empty_state W)) (walked (near c us) (empty_state V)) a b) (same-turned N (built V us) (walked (near c us) (empty_state V)) d) in
    rw (add-one (length above)) (same-take N (built W ts) (built V us) all)
