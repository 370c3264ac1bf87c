-- The definition level at which a state ends tells which repetition levels may follow. Fitting states stay so.
use Rattle.std.proofs.Common.{◌≡◌, ℕ, suc, ◌+◌, ◌-◌, ◌<◌, ◌≤◌, true, false, Bool, is_some, Option, Some, None, List, [], ◌∷◌, ◌++◌, length, refl, arith, get_or, inl, inr, length-append, sym, ap}
use Rattle.std.proofs.lemmas.Bool.{cases_lt}
use Rattle.std.proofs.lemmas.Bool.Decides.{leb_tells}
use Rattle.std.proofs.Math.ListN.{get_or-append}
use Rattle.std.proofs.Math.Seq.{get_or-append_seam}
use Rattle.shredding.specs.Parts.{MaskFits}
use Rattle.read_laws.specs.State.{Kept, kept_leaf, kept_list, kept_struct, count, StateFits}
use Rattle.read_laws.specs.Step.{bit, pushes, grown, gain, is_list, is_there, hides, growth, step, top_level, Continues, Reaches, Ended}
use Rattle.read_laws.proofs.Steps.{arm, pushes-new, pushes-deep, reaches, keeps-last, some-grown, fits-grown, step-untouched, step-push, step-pass, count-step, count-step-deep, rising-one}

reaches-above : (rep level depth def : ℕ) (ks : List Kept) → Reaches rep level depth def ks → def < level
reaches-above rep level depth def [] g = absurd g
reaches-above rep level depth def (kept_leaf n c ∷ ks) g = absurd g
reaches-above rep level depth def (kept_list m starts ∷ ks) g = omega (arith, g.0)
reaches-above rep level depth def (kept_struct m c ∷ ks) g = omega (arith, reaches-above rep level (depth + bit (is_list (kept_struct m c))) (def + gain (kept_struct m c)) ks g)

-- where the last pair and the next reach into an item of the list, the next goes on with the last slot
pub continues-ended : (prev rep level depth def : ℕ) (ks : List Kept) → Ended prev def ks → Reaches rep prev depth def ks → Reaches rep level depth def ks → Continues rep level depth def ks
continues-ended prev rep level depth def [] e p g = absurd e
continues-ended prev rep level depth def (kept_leaf n c ∷ ks) e p g = absurd g
continues-ended prev rep level depth def (kept_list m starts ∷ ks) e p g = elim e.1 [
  | inl k ↦ elim k.1 [
    | inl s ↦ absurd (omega (arith, s.1, p.0))
    | inr s ↦ (e.0, k.0, s.0, g.0, (λ deeper. continues-ended prev rep level (depth + 1) (def + gain (kept_list m starts)) ks s.1 (p.1 deeper) (g.1 deeper)))
  ]
  | inr k ↦ absurd (omega (arith, k.1, p.0))
]
continues-ended prev rep level depth def (kept_struct m c ∷ ks) e p g = elim e.1 [
  | inl k ↦ (e.0, k.0, continues-ended prev rep level (depth + bit (is_list (kept_struct m c))) (def + gain (kept_struct m c)) ks k.1 p g)
  | inr k ↦ absurd (omega (arith, k.1, reaches-above rep prev (depth + bit (is_list (kept_struct m c))) (def + gain (kept_struct m c)) ks p))
]

last-place : (starts : List ℕ) (n : ℕ) → length (starts ++ n ∷ []) - 1 ≡ length starts
last-place starts n = rw (length-append starts (n ∷ [])) (omega arith)

some-place : (starts : List ℕ) (n : ℕ) → 0 < length (starts ++ n ∷ [])
some-place starts n = rw (length-append starts (n ∷ [])) (omega arith)

pub ended-new : (rep level : ℕ) (junk : Bool) (depth def : ℕ) (ks : List Kept) → StateFits ks → rep ≤ depth → def ≤ level → level ≤ top_level def ks → Ended level def (step 1 rep level junk depth def ks)
ended-new rep level junk depth def [] f h low top = absurd f
ended-new rep level junk depth def (kept_leaf n c ∷ ks) f h low top =
    rw (step-push 1 rep level junk depth def (kept_leaf n c) ks (pushes-new rep level junk depth def h low)) (omega arith, low)
ended-new rep level junk depth def (kept_list m starts ∷ ks) f h low top =
    let k = kept_list m starts in
    let v = is_there k level def in
    let n = count ks in
    let D : ℕ = def + gain k in
    let K : ℕ = depth + bit (is_list k) in
    let start : get_or (starts ++ n ∷ []) (length starts) 0 ≡ n = get_or-append_seam starts n [] 0 in
    rw (step-push 1 rep level junk depth def k ks (pushes-new rep level junk depth def h low), rising-one n (growth rep level k depth def), last-place starts n, keeps-last m (length starts) v f.0, some-grown m 1 v, start) (
      some-place starts n,
      elim (arm (is_some m) level def low) [
        | inl e ↦ inl (
          e.0,
          elim (cases_lt level D) [
            | inl below ↦ inl (ap count (sym (step-untouched 1 rep level K D ks below)), omega (arith, e.1))
            | inr above ↦ inr (rw (count-step 1 rep level false K D ks f.3 (pushes-new rep level false K D (omega arith) above)) (omega arith), ended-new rep level false K D ks f.3 (omega arith) above top)
          ],
        )
        | inr e ↦ inr (e.0, e.1)
      ],
    )
ended-new rep level junk depth def (kept_struct m c ∷ ks) f h low top =
    let k = kept_struct m c in
    let v = is_there k level def in
    let D : ℕ = def + gain k in
    let K : ℕ = depth + bit (is_list k) in
    let last : c + 1 - 1 ≡ c = omega arith in
    rw (step-push 1 rep level junk depth def k ks (pushes-new rep level junk depth def h low), last, keeps-last m c v f.0, some-grown m 1 v) (
      omega arith,
      elim (arm (is_some m) level def low) [
        | inl e ↦ inl (e.0, ended-new rep level (hides k level def) K D ks f.2 (omega arith) (omega (arith, e.1)) top)
        | inr e ↦ inr (e.0, e.1)
      ],
    )

pub ended-deep : (rep level depth def : ℕ) (ks : List Kept) → StateFits ks → depth < rep → level ≤ top_level def ks → Continues rep level depth def ks → Ended level def (step 1 rep level false depth def ks)
ended-deep rep level depth def [] f h top g = absurd f
ended-deep rep level depth def (kept_leaf n c ∷ ks) f h top g = absurd g
ended-deep rep level depth def (kept_list m starts ∷ ks) f h top g =
    let k = kept_list m starts in
    let D : ℕ = def + gain k in
    let K : ℕ = depth + bit (is_list k) in
    elim (cases_lt (depth + 1) rep) [
      | inl deeper ↦
          let same = count-step-deep 1 rep level K D ks deeper in
          rw (step-pass 1 rep level false depth def k ks (pushes-deep rep level depth def h)) (g.0, inl (g.1, inr (rw same g.2, ended-deep rep level K D ks f.3 deeper top (g.4 deeper))))
      | inr here ↦
          let more = count-step 1 rep level false K D ks f.3 (pushes-new rep level false K D here g.3) in
          rw (step-pass 1 rep level false depth def k ks (pushes-deep rep level depth def h)) (g.0, inl (g.1, inr (rw more (omega (arith, g.2)), ended-new rep level false K D ks f.3 here g.3 top)))
    ]
ended-deep rep level depth def (kept_struct m c ∷ ks) f h top g =
    let k = kept_struct m c in
    rw (step-pass 1 rep level false depth def k ks (pushes-deep rep level depth def h)) (g.0, inl (g.1, ended-deep rep level (depth + bit (is_list k)) (def + gain k) ks f.2 (omega arith) top g.2))

-- ---- a state that fits still fits
starts-fit : (starts : List ℕ) (n m : ℕ) → n ≤ m → ((i : ℕ) → i < length starts → get_or starts i 0 ≤ n) → (i : ℕ) → i < length (starts ++ n ∷ []) → get_or (starts ++ n ∷ []) i 0 ≤ m
starts-fit starts n m h fits i b =
    let size = length-append starts (n ∷ []) in
    elim (cases_lt i (length starts)) [
      | inl e ↦ rw (get_or-append starts (n ∷ []) 0 i e) (omega (arith, fits i e))
      | inr e ↦ let eq : i ≡ length starts = omega arith in rw (eq, get_or-append_seam starts n [] 0) h
    ]

starts-rise : (starts : List ℕ) (n : ℕ) → ((i : ℕ) → i < length starts → get_or starts i 0 ≤ n) → ((i j : ℕ) → i ≤ j → j < length starts → get_or starts i 0 ≤ get_or starts j 0) → (i j : ℕ) → i ≤ j → j < length (starts ++ n ∷ []) → get_or (starts ++ n ∷ []) i 0 ≤ get_or (starts ++ n ∷ []) j 0
starts-rise starts n fits rise i j le b =
    let size = length-append starts (n ∷ []) in
    elim (cases_lt j (length starts)) [
      | inl e ↦ let small : i < length starts = omega arith in
          rw (get_or-append starts (n ∷ []) 0 i small, get_or-append starts (n ∷ []) 0 j e) (rise i j le e)
      | inr e ↦ let eq : j ≡ length starts = omega arith in
          rw (eq, get_or-append_seam starts n [] 0) (starts-fit starts n n (omega arith) fits i (omega arith))
    ]

-- a pair takes no slot away
count-grows : (rep level : ℕ) (junk : Bool) (depth def : ℕ) (ks : List Kept) → StateFits ks → rep ≤ depth → count ks ≤ count (step 1 rep level junk depth def ks)
count-grows rep level junk depth def ks f h =
    elim (reaches rep level junk depth def h) [
      | inl e ↦ rw (count-step 1 rep level junk depth def ks f e) (omega arith)
      | inr e ↦ rw (e.0, step-untouched 1 rep level depth def ks e.1) (omega arith)
    ]

-- the part beneath a struct that is pushed to is pushed to
struct-pushes : (rep level : ℕ) (depth def : ℕ) (m : Option (List Bool)) (c : ℕ) → rep ≤ depth → pushes rep level (hides (kept_struct m c) level def) (depth + bit (is_list (kept_struct m c))) (def + gain (kept_struct m c)) ≡ true
struct-pushes rep level depth def None c h = refl
struct-pushes rep level depth def (Some bits) c h =
    elim (leb_tells (suc def) level) [
      | inl e ↦ rw e.0 (pushes-new rep level false (depth + 0) (def + (1 + 0)) (omega arith) (omega (arith, e.1)))
      | inr e ↦ rw e.0 refl
    ]

no-more : (rep level : ℕ) (junk : Bool) (depth def : ℕ) → length (step 1 rep level junk depth def []) ≡ 0
unfolding step
no-more rep level junk depth def = refl

pub fits-new : (rep level : ℕ) (junk : Bool) (depth def : ℕ) (ks : List Kept) → StateFits ks → rep ≤ depth → StateFits (step 1 rep level junk depth def ks)
fits-new rep level junk depth def [] f h = absurd f
fits-new rep level junk depth def (kept_leaf n c ∷ []) f h =
    elim (reaches rep level junk depth def h) [
      | inl e ↦ rw (step-push 1 rep level junk depth def (kept_leaf n c) [] e) (no-more rep level (hides (kept_leaf n c) level def) (depth + bit (is_list (kept_leaf n c))) (def + gain (kept_leaf n c)))
      | inr e ↦ rw (e.0, step-untouched 1 rep level depth def (kept_leaf n c ∷ []) e.1) f
    ]
fits-new rep level junk depth def (kept_leaf n c ∷ k ∷ ks) f h = absurd (omega (arith, f))
fits-new rep level junk depth def (kept_list m starts ∷ ks) f h =
    let k = kept_list m starts in
    let v = is_there k level def in
    let D : ℕ = def + gain k in
    let K : ℕ = depth + bit (is_list k) in
    elim (reaches rep level junk depth def h) [
      | inl e ↦
          let below = fits-new rep level false K D ks f.3 (omega arith) in
          let grows = count-grows rep level false K D ks f.3 (omega arith) in
          let masks : MaskFits (grown m 1 v) (length (starts ++ count ks ∷ [])) = rw (length-append starts (count ks ∷ [])) (fits-grown m (length starts) 1 v f.0) in
          rw (step-push 1 rep level junk depth def k ks e, rising-one (count ks) (growth rep level k depth def)) (masks, starts-fit starts (count ks) (count (step 1 rep level false K D ks)) grows f.1, starts-rise starts (count ks) f.1 f.2, below)
      | inr e ↦ rw (e.0, step-untouched 1 rep level depth def (k ∷ ks) e.1) f
    ]
fits-new rep level junk depth def (kept_struct m c ∷ ks) f h =
    let k = kept_struct m c in
    let v = is_there k level def in
    let D : ℕ = def + gain k in
    let K : ℕ = depth + bit (is_list k) in
    elim (reaches rep level junk depth def h) [
      | inl e ↦
          let below = fits-new rep level (hides k level def) K D ks f.2 (omega arith) in
          let more = count-step 1 rep level (hides k level def) K D ks f.2 (struct-pushes rep level depth def m c h) in
          rw (step-push 1 rep level junk depth def k ks e) (fits-grown m c 1 v f.0, rw more (ap (λ n. n + 1) f.1), below)
      | inr e ↦ rw (e.0, step-untouched 1 rep level depth def (k ∷ ks) e.1) f
    ]

pub fits-deep : (rep level depth def : ℕ) (ks : List Kept) → StateFits ks → depth < rep → Continues rep level depth def ks → StateFits (step 1 rep level false depth def ks)
fits-deep rep level depth def [] f h g = absurd f
fits-deep rep level depth def (kept_leaf n c ∷ ks) f h g = absurd g
fits-deep rep level depth def (kept_list m starts ∷ ks) f h g =
    let k = kept_list m starts in
    let D : ℕ = def + gain k in
    let K : ℕ = depth + bit (is_list k) in
    elim (cases_lt (depth + 1) rep) [
      | inl deeper ↦
          let same = count-step-deep 1 rep level K D ks deeper in
          rw (step-pass 1 rep level false depth def k ks (pushes-deep rep level depth def h)) (f.0, (λ i b. rw same (f.1 i b)), f.2, fits-deep rep level K D ks f.3 deeper (g.4 deeper))
      | inr here ↦
          let grows = count-grows rep level false K D ks f.3 here in
          rw (step-pass 1 rep level false depth def k ks (pushes-deep rep level depth def h)) (f.0, (λ i b. omega (arith, f.1 i b, grows)), f.2, fits-new rep level false K D ks f.3 here)
    ]
fits-deep rep level depth def (kept_struct m c ∷ ks) f h g =
    let k = kept_struct m c in
    let same = count-step-deep 1 rep level (depth + bit (is_list k)) (def + gain k) ks (omega arith) in
    rw (step-pass 1 rep level false depth def k ks (pushes-deep rep level depth def h)) (f.0, rw same f.1, fits-deep rep level (depth + bit (is_list k)) (def + gain k) ks f.2 (omega arith) g.2)
