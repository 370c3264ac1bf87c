-- Levels that are told as bytes.
use Rattle.std.proofs.Common.{◌≡◌, ℕ, zero, suc, ◌+◌, ◌*◌, ◌<◌, ◌==◌, cond, List, [], ◌∷◌, ◌++◌, ◌-◌, ◌≤◌, drop, take, refl, arith, ap, sym, ◌∙◌, append_assoc, append-nil}
use Rattle.std.proofs.lemmas.List.{drop-drop, take-append-drop}
use Rattle.std.specs.Prelude.{slice_index}
use Rattle.std.specs.Int.{bit_at, to_le_bytes, w32}
use Rattle.shredding.specs.Parts.{Part}
use Rattle.level_sections.specs.Blocks.{flat_level}
use Rattle.level_sections.specs.Planes.{plane_number, plane_numbers}
use Rattle.level_sections.specs.declared.planes.BitPlanes.{BitPlanes}
use Rattle.level_sections.proofs.Blocks.{one_bit}
use Rattle.level_sections.proofs.PlaneNumbers.{bit-most, planes-add}

-- some levels more
pub told-more : (told told' piece rest left whole : List ℕ) → told' ≡ told ++ piece → left ≡ piece ++ rest → told ++ left ≡ whole → told' ++ rest ≡ whole
told-more told told' piece rest left whole e f g = ap (λ (t : List ℕ). t ++ rest) e ∙ (append_assoc told piece rest ∙ (ap (λ (t : List ℕ). told ++ t) (sym f) ∙ g))

pub told-end : (told left whole : List ℕ) → left ≡ [] → told ++ left ≡ whole → told ≡ whole
told-end told left whole z g = sym (append-nil told) ∙ (ap (λ (t : List ℕ). told ++ t) (sym z) ∙ g)

pub told-as : (old new piece piece' : List ℕ) → piece ≡ piece' → new ≡ old ++ piece → new ≡ old ++ piece'
told-as old new piece piece' e f = f ∙ ap (λ (t : List ℕ). old ++ t) e

-- a slot that is looked at from the top on
pub flat-zero : (parts : List Part) (def n word i place : ℕ) → n ≡ 0 → bit_at word i ≡ 1 → cond (bit_at word i == 1) (flat_level parts (def + n) place) (def + n) ≡ flat_level parts def place
flat-zero parts def n word i place z b =
    let e : def + n ≡ def = omega (arith, z) in
    rw (one_bit word i b, e) refl

-- ---- bytes that go to a writer

pub bytes-step : (bytes : List ℕ) (at next : ℕ) → at ≤ next → drop at bytes ≡ take (next - at) (drop at bytes) ++ drop next bytes
bytes-step bytes at next le =
    let e : at + (next - at) ≡ next = omega (arith, le) in
    sym (take-append-drop (next - at) (drop at bytes)) ∙ ap (λ (t : List ℕ). take (next - at) (drop at bytes) ++ t) (drop-drop (next - at) at bytes ∙ ap (λ (i : ℕ). drop i bytes) e)

-- ---- four numbers at a time, each with so much more

lists-four : (x y z w a b c d : ℕ) → x ≡ a → y ≡ b → z ≡ c → w ≡ d → x ∷ y ∷ z ∷ w ∷ [] ≡ a ∷ b ∷ c ∷ d ∷ []
lists-four x y z w a b c d ex ey ez ew = rw (ex, ey, ez, ew) refl

level-bytes : (sum a b c d : ℕ) → a < 256 → b < 256 → c < 256 → d < 256 → sum ≡ a + 256 * b + 65536 * c + 16777216 * d → to_le_bytes w32 sum ≡ a ∷ b ∷ c ∷ d ∷ []
level-bytes sum a b c d ha hb hc hd e =
    lists-four _ _ _ _ a b c d at_0 at_1 at_2 at_3
  where
    at_0 : slice_index (to_le_bytes w32 sum) 0 ≡ a
    at_0 = omega (arith, e, ha, hb, hc, hd)

    at_1 : slice_index (to_le_bytes w32 sum) 1 ≡ b
    at_1 = omega (arith, e, ha, hb, hc, hd)

    at_2 : slice_index (to_le_bytes w32 sum) 2 ≡ c
    at_2 = omega (arith, e, ha, hb, hc, hd)

    at_3 : slice_index (to_le_bytes w32 sum) 3 ≡ d
    at_3 = omega (arith, e, ha, hb, hc, hd)

low-below : (planes : BitPlanes) (low i : ℕ) → low ≤ 248 → low + plane_number planes i < 256
low-below planes low i h = omega (arith, h, bit-most planes.ones i, bit-most planes.twos i, bit-most planes.fours i)

pub low-numbers : (planes : BitPlanes) (low at sum : ℕ) → low ≤ 248 → sum ≡ low * 16843009 + (plane_number planes at + 256 * plane_number planes (at + 1) + 65536 * plane_number planes (at + 2) + 16777216 * plane_number planes (at + 3)) → to_le_bytes w32 sum ≡ plane_numbers low planes at 4
unfolding plane_numbers
low-numbers planes low at sum h e =
    let two : at + 2 ≡ at + 1 + 1 = omega arith in
    let three : at + 3 ≡ at + 1 + 1 + 1 = omega arith in
    level-bytes sum (low + plane_number planes at) (low + plane_number planes (at + 1)) (low + plane_number planes (at + 2)) (low + plane_number planes (at + 3)) (low-below planes low at h) (low-below planes low (at + 1) h) (low-below planes low (at + 2) h) (low-below planes low (at + 3) h) (omega (arith, e))
    ∙ lists-four _ _ _ _ _ _ _ _ refl refl (ap (λ (k : ℕ). low + plane_number planes k) two) (ap (λ (k : ℕ). low + plane_number planes k) three)

pub low-more : (low : ℕ) (planes : BitPlanes) (i : ℕ) (before after bytes : List ℕ) → take (4 * i) before ≡ plane_numbers low planes 0 (4 * i) → take (4 * i + 4) after ≡ take (4 * i) before ++ bytes → bytes ≡ plane_numbers low planes (4 * i) 4 → take (4 * (i + 1)) after ≡ plane_numbers low planes 0 (4 * (i + 1))
low-more low planes i before after bytes h e is =
    let n : 4 * (i + 1) ≡ 4 * i + 4 = omega arith in
    let z : 4 * i ≡ 0 + 4 * i = omega arith in
    rw n (e ∙ (ap (λ ys. ys ++ bytes) h ∙ (ap (λ ys. plane_numbers low planes 0 (4 * i) ++ ys) (is ∙ ap (λ p. plane_numbers low planes p 4) z) ∙ sym (planes-add low planes 0 (4 * i) 4))))

pub low-front : (low : ℕ) (planes : BitPlanes) (place count more : ℕ) → count ≤ more → take count (plane_numbers low planes place more) ≡ plane_numbers low planes place count
unfolding plane_numbers
low-front low planes place zero more le = refl
low-front low planes place (suc count) zero le = absurd (omega (arith, le))
low-front low planes place (suc count) (suc more) le = ap (λ (ys : List ℕ). (low + plane_number planes place) ∷ ys) (low-front low planes (place + 1) count more (omega (arith, le)))
