-- Whether a pair pushes to the leaf is a matter of its definition level.
use Rattle.std.proofs.Common.{◌≡◌, ◌⊎◌, inl, inr, ℕ, zero, suc, ◌+◌, ◌<◌, ◌≤◌, Bool, true, false, not, ◌&&◌, nat_lt, refl, arith, ap, sym, ◌∙◌}
use Rattle.std.proofs.lemmas.Bool.{cases_lt, le-leb}
use Rattle.std.proofs.lemmas.Bool.Decides.{leb_tells}
use Rattle.shredding.specs.Shape.{Way, at_leaf, in_list, in_struct}
use Rattle.shredding.specs.Shred.{up, max_repetition}
use Rattle.shredding.specs.Local.{inside}
use Rattle.read_laws.specs.Step.{bit, pushes, leaf_pushes}
use Rattle.read_laws.specs.Threshold.{LeafThreshold}
use Rattle.read_laws.proofs.Steps.{leb-lt, pushes-low, pushes-new}
use Rattle.read_laws.proofs.Stretches.{up-bit}

pushes-any : (rep level : ℕ) (junk : Bool) (depth def : ℕ) → rep ≤ depth → (junk ≡ true) ⊎ (def ≤ level) → pushes rep level junk depth def ≡ true
pushes-any rep level junk depth def h w = elim w [
  | inl e ↦ rw e refl
  | inr e ↦ pushes-new rep level junk depth def h e
]

-- a null of a struct hides what is beneath, and a slot that is there defines more
next : (n : Bool) (level def : ℕ) → (not (n && nat_lt def level) ≡ true) ⊎ (def + (bit n + 0) ≤ level)
next false level def = inl refl
next true level def = elim (leb_tells (suc def) level) [ inl e ↦ inr (omega (arith, e.1)) | inr e ↦ inl (ap not e.0) ]

flat : (rep level : ℕ) (junk : Bool) (depth def : ℕ) (w : Way) → max_repetition w ≡ 0 → rep ≤ depth → (junk ≡ true) ⊎ (def ≤ level) → leaf_pushes rep level junk depth def w ≡ true
flat rep level junk depth def (at_leaf n) z h j = pushes-any rep level junk depth def h j
flat rep level junk depth def (in_list n w) z h j = absurd (omega (arith, z))
flat rep level junk depth def (in_struct n i w) z h j =
    let p = pushes-any rep level junk depth def h j in
    flat rep level (pushes rep level junk depth def && not (n && nat_lt def level)) (depth + 0) (def + (bit n + 0)) w z (omega (arith, h)) (elim (next n level def) [
      | inl e ↦ inl (rw (p, e) refl)
      | inr e ↦ inr e
    ])

inside-struct : (n : Bool) (i : ℕ) (w : Way) (r : ℕ) → 0 < r → inside (in_struct n i w) r ≡ up n (inside w r)
inside-struct n i w zero h = absurd (omega (arith, h))
inside-struct n i w (suc r) h = refl

inside-none : (w : Way) (r : ℕ) → r ≡ 0 → inside w r ≡ 0
inside-none w r e = rw e refl

-- a pair that reaches an item of the innermost list pushes to the leaf
high : (rep level : ℕ) (junk : Bool) (depth def : ℕ) (w : Way) → 0 < max_repetition w → rep ≤ depth + max_repetition w → def + inside w (max_repetition w) ≤ level → leaf_pushes rep level junk depth def w ≡ true
high rep level junk depth def (at_leaf n) some few h = absurd (omega (arith, some))
high rep level junk depth def (in_list n w) some few h =
    let u = up-bit n (suc (inside w (max_repetition w))) in
    elim (cases_lt 0 (max_repetition w)) [
      | inl e ↦ high rep level false (depth + 1) (def + (bit n + 1)) w e (omega (arith, few)) (omega (arith, h, u))
      | inr e ↦ flat rep level false (depth + 1) (def + (bit n + 1)) w (omega (arith, e)) (omega (arith, few, e)) (inr (omega (arith, h, u)))
    ]
high rep level junk depth def (in_struct n i w) some few h =
    let s = inside-struct n i w (max_repetition w) some in
    let u = up-bit n (inside w (max_repetition w)) in
    high rep level (pushes rep level junk depth def && not (n && nat_lt def level)) (depth + 0) (def + (bit n + 0)) w some (omega (arith, few)) (omega (arith, h, u, s))

-- a pair that defines too little pushes to nothing beneath
deep : (rep level : ℕ) (depth def : ℕ) (w : Way) → level < def → leaf_pushes rep level false depth def w ≡ false
deep rep level depth def (at_leaf n) h = pushes-low rep level depth def h
deep rep level depth def (in_list n w) h = deep rep level (depth + 1) (def + (bit n + 1)) w (omega (arith, h))
deep rep level depth def (in_struct n i w) h = rw (pushes-low rep level depth def h) (deep rep level (depth + 0) (def + (bit n + 0)) w (omega (arith, h)))

low : (rep level : ℕ) (junk : Bool) (depth def : ℕ) (w : Way) → 0 < max_repetition w → level < def + inside w (max_repetition w) → leaf_pushes rep level junk depth def w ≡ false
low rep level junk depth def (at_leaf n) some h = absurd (omega (arith, some))
low rep level junk depth def (in_list n w) some h =
    let u = up-bit n (suc (inside w (max_repetition w))) in
    elim (cases_lt 0 (max_repetition w)) [
      | inl e ↦ low rep level false (depth + 1) (def + (bit n + 1)) w e (omega (arith, h, u))
      | inr e ↦ deep rep level (depth + 1) (def + (bit n + 1)) w (omega (arith, h, u, inside-none w (max_repetition w) (omega (arith, e))))
    ]
low rep level junk depth def (in_struct n i w) some h =
    let s = inside-struct n i w (max_repetition w) some in
    let u = up-bit n (inside w (max_repetition w)) in
    low rep level (pushes rep level junk depth def && not (n && nat_lt def level)) (depth + 0) (def + (bit n + 0)) w some (omega (arith, h, u, s))

pub threshold : LeafThreshold
threshold w rep level few = elim (cases_lt 0 (max_repetition w)) [
  | inl some ↦ elim (cases_lt level (inside w (max_repetition w))) [
    | inl e ↦ low rep level false 0 0 w some (omega (arith, e)) ∙ sym (leb-lt (inside w (max_repetition w)) level e)
    | inr e ↦ high rep level false 0 0 w some (omega (arith, few)) (omega (arith, e)) ∙ sym (le-leb (inside w (max_repetition w)) level (omega (arith, e)))
  ]
  | inr none ↦
      let z : max_repetition w ≡ 0 = omega (arith, none) in
      flat rep level false 0 0 w z (omega (arith, few, z)) (inr (omega arith)) ∙ sym (le-leb (inside w (max_repetition w)) level (omega (arith, inside-none w (max_repetition w) z)))
]
