-- Definition levels of paths without lists.
use Rattle.std.proofs.Common.{◌≡◌, ℕ, zero, suc, ◌+◌, ◌-◌, ◌<◌, ◌≤◌, ◌==◌, min, Bool, true, false, cond, List, [], ◌∷◌, ◌++◌, length, take, replicate, All, map, refl, arith, ap, sym, ◌∙◌}
use Rattle.std.specs.Prelude.{slice_index}
use Rattle.std.specs.Int.{bit_at}
use Rattle.std.proofs.lemmas.Nat.Bits.{bit_at-lt, bit_at_and, bit_at-zero}
use Rattle.std.proofs.lemmas.List.Elements.{All-append}
use lib.Bits.{bit_and}
use Rattle.shredding.specs.Parts.{Part, leaf_part, list_part, struct_part, is_present, slot_count, path_way, FitTogether}
use Rattle.shredding.specs.Shred.{up, max_repetition, max_definition}
use Rattle.levels.specs.declared.nested.Nested.{Nested}
use Rattle.levels.specs.Nested.{parts_of}
use Rattle.levels.specs.Levels.{run, one_pair, slot_pairs, bit}
use Rattle.levels.specs.Stretch.{level_of, like_pairs}
use Rattle.levels.specs.declared.walk.Level.{Level}
use Rattle.levels.specs.declared.walk.Level.TheVariants.{Repetition, Definition}
use Rattle.levels.proofs.Stretches.{first_and_others}
use Rattle.pq_runs.specs.Words.{bit_numbers}
use Rattle.level_sections.specs.declared.walk.Above.{Above}
use Rattle.level_sections.specs.Walk.{walked}
use Rattle.level_sections.specs.Blocks.{part_optional, part_present, flat_level, levels_from, Reaches}

-- ---- one part

required : (part : Part) (i : ℕ) → part_optional part ≡ false → part_present part i ≡ true
required (leaf_part is_optional mask count) i e = rw e refl
required (list_part is_optional mask offsets) i e = rw e refl
required (struct_part is_optional mask count) i e = rw e refl

pub level-there : (part : Part) (parts : List Part) (def next i : ℕ) → part_present part i ≡ true → next ≡ def + bit (part_optional part) → flat_level (part ∷ parts) def i ≡ flat_level parts next i
unfolding flat_level
level-there part parts def next i e n = rw (e, n) refl

pub level-null : (part : Part) (parts : List Part) (def i : ℕ) → part_present part i ≡ false → flat_level (part ∷ parts) def i ≡ def
unfolding flat_level
level-null part parts def i e = rw e refl

pub level-required : (part : Part) (parts : List Part) (def i : ℕ) → part_optional part ≡ false → flat_level (part ∷ parts) def i ≡ flat_level parts def i
level-required part parts def i e = level-there part parts def def i (required part i e) (rw e (omega arith))

level-none : (def i : ℕ) → flat_level [] def i ≡ def
unfolding flat_level
level-none def i = refl

pub level-word : (part : Part) (parts : List Part) (def word i place : ℕ) → (bit_at word i == 1) ≡ part_present part place → part_optional part ≡ true → flat_level (part ∷ parts) def place ≡ cond (bit_at word i == 1) (flat_level parts (def + 1) place) def
unfolding flat_level
level-word part parts def word i place b o = rw (b, o) refl

pub zero_bit : (word i : ℕ) → word ≡ 0 → (bit_at word i == 1) ≡ false
zero_bit word i e = rw (e, bit_at-zero i) refl

pub one_bit : (word i : ℕ) → bit_at word i ≡ 1 → (bit_at word i == 1) ≡ true
one_bit word i e = rw e refl

cond-same : {A : Type 0} (b : Bool) (x : A) → cond b x x ≡ x
cond-same true x = refl
cond-same false x = refl

-- ---- what one part more says of a slot, by bits

part-step : (part : Part) (parts : List Part) (d d' i x y z : ℕ) → x < 2 → y < 2 → z ≡ min x y → (y == 1) ≡ part_present part i → d' ≡ d + cond (part_optional part) z 0 → cond (z == 1) (flat_level parts d' i) d' ≡ cond (x == 1) (flat_level (part ∷ parts) d i) d
part-step part parts d d' i zero y z hx hy e there is =
    let z0 : z ≡ 0 = omega (arith, e) in
    let same : d' ≡ d = is ∙ rw (z0, cond-same {A = ℕ} (part_optional part) 0) (omega arith) in
    rw (z0) same
part-step part parts d d' i (suc zero) zero z hx hy e there is =
    let z0 : z ≡ 0 = omega (arith, e) in
    let same : d' ≡ d = is ∙ rw (z0, cond-same {A = ℕ} (part_optional part) 0) (omega arith) in
    rw (z0) (same ∙ sym (level-null part parts d i (sym there)))
part-step part parts d d' i (suc zero) (suc zero) z hx hy e there is =
    let z1 : z ≡ 1 = omega (arith, e) in
    rw (z1) (sym (level-there part parts d d' i (sym there) (is ∙ rw z1 refl)))
part-step part parts d d' i (suc zero) (suc (suc y)) z hx hy e there is = absurd (omega (arith, hy))
part-step part parts d d' i (suc (suc x)) y z hx hy e there is = absurd (omega (arith, hx))

pub part-more : (part : Part) (parts : List Part) (d d' i place alive word next : ℕ) → next ≡ bit_and alive word → (bit_at word i == 1) ≡ part_present part place → d' ≡ d + cond (part_optional part) (bit_at next i) 0 → cond (bit_at next i == 1) (flat_level parts d' place) d' ≡ cond (bit_at alive i == 1) (flat_level (part ∷ parts) d place) d
part-more part parts d d' i place alive word next e there is =
    part-step part parts d d' place (bit_at alive i) (bit_at word i) (bit_at next i) (bit_at-lt alive i) (bit_at-lt word i) (ap (λ n. bit_at n i) e ∙ bit_at_and alive word i) there is

pub no_parts : (rest : List Nested) (def i : ℕ) → length rest ≡ 0 → flat_level (parts_of rest) def i ≡ def
no_parts [] def i e = level-none def i
no_parts (part ∷ rest) def i e = absurd (omega (arith, e))

pub parts-end : (b : Bool) (rest : List Nested) (d i : ℕ) → length rest ≡ 0 → cond b (flat_level (parts_of rest) d i) d ≡ d
parts-end b rest d i e = ap (λ n. cond b n d) (no_parts rest d i e) ∙ cond-same b d

-- ---- lists of levels

pub from-none : (level : ℕ → ℕ) (place count : ℕ) → count ≡ 0 → levels_from level place count ≡ []
unfolding levels_from
from-none level place zero e = refl
from-none level place (suc count) e = absurd (omega (arith, e))

pub from-taken : (level : ℕ → ℕ) (xs : List ℕ) (place count : ℕ) → count ≤ length xs → ((i : ℕ) → i < count → slice_index xs i ≡ level (place + i)) → take count xs ≡ levels_from level place count
unfolding levels_from
from-taken level xs place zero few each = refl
from-taken level [] place (suc count) few each = absurd (omega (arith, few))
from-taken level (x ∷ xs) place (suc count) few each =
    let here : place + 0 ≡ place = omega arith in
    let first : x ≡ level place = each 0 (omega arith) ∙ ap level here in
    ap (λ y. y ∷ take count xs) first ∙ ap (λ ys. level place ∷ ys) (from-taken level xs (place + 1) count (omega (arith, few)) (λ i h. each (suc i) (omega (arith, h)) ∙ ap level (omega arith)))

pub from-even : (level : ℕ → ℕ) (value place count : ℕ) → ((i : ℕ) → i < count → level (place + i) ≡ value) → replicate count value ≡ levels_from level place count
unfolding levels_from
from-even level value place zero each = refl
from-even level value place (suc count) each =
    let here : place + 0 ≡ place = omega arith in
    let first : value ≡ level place = sym (each 0 (omega arith)) ∙ ap level here in
    ap (λ y. y ∷ replicate count value) first ∙ ap (λ ys. level place ∷ ys) (from-even level value (place + 1) count (λ i h. ap level (omega arith) ∙ each (suc i) (omega (arith, h))))

pub from-below : (level : ℕ → ℕ) (most place count : ℕ) → ((i : ℕ) → level i < most) → All (λ v. v < most) (levels_from level place count)
unfolding levels_from
from-below level most place zero low = λ k e lt. absurd (omega (arith, lt))
from-below level most place (suc count) low = All-append (λ v. v < most) (level place ∷ []) (levels_from level (place + 1) count) (one (level place) (low place)) (from-below level most (place + 1) count low)
  where
    one : (v : ℕ) → v < most → All (λ u. u < most) (v ∷ [])
    one v le zero e lt = le
    one v le (suc k) e lt = absurd (omega (arith, lt))

from-add : (level : ℕ → ℕ) (place m n : ℕ) → levels_from level place (m + n) ≡ levels_from level place m ++ levels_from level (place + m) n
unfolding levels_from
from-add level place zero n =
    let a : 0 + n ≡ n = omega arith in
    let b : place + 0 ≡ place = omega arith in
    rw (a, b) refl
from-add level place (suc m) n =
    let a : suc m + n ≡ suc (m + n) = omega arith in
    let b : place + suc m ≡ place + 1 + m = omega arith in
    rw (a, b) (ap (λ ys. level place ∷ ys) (from-add level (place + 1) m n))

pub from-split : (level : ℕ → ℕ) (place count to : ℕ) → place + count ≤ to → levels_from level place (to - place) ≡ levels_from level place count ++ levels_from level (place + count) (to - (place + count))
from-split level place count to within =
    let a : to - place ≡ count + (to - (place + count)) = omega (arith, within) in
    rw a (from-add level place count (to - (place + count)))

pub bits-from : (level : ℕ → ℕ) (low word p place count : ℕ) → ((i : ℕ) → i < count → level (place + i) ≡ low + bit_at word (p + i)) → bit_numbers low word p count ≡ levels_from level place count
unfolding levels_from bit_numbers
bits-from level low word p place zero each = refl
bits-from level low word p place (suc count) each =
    let here : place + 0 ≡ place = omega arith in
    let bit : p + 0 ≡ p = omega arith in
    let first : low + bit_at word p ≡ level place = ap (λ k. low + bit_at word k) (sym bit) ∙ (sym (each 0 (omega arith)) ∙ ap level here) in
    ap (λ y. y ∷ bit_numbers low word (p + 1) count) first ∙ ap (λ ys. level place ∷ ys) (bits-from level low word (p + 1) (place + 1) count (λ i h. ap level (omega arith) ∙ (each (suc i) (omega (arith, h)) ∙ ap (λ k. low + bit_at word k) (omega arith))))

one_more_or : (low x : ℕ) → x < 2 → cond (x == 1) (low + 1) low ≡ low + x
one_more_or low zero h = omega arith
one_more_or low (suc zero) h = refl
one_more_or low (suc (suc x)) h = absurd (omega (arith, h))

-- levels of which a word tells all, since the parts beneath add nothing
pub bits-mixed : (parts rest : List Part) (def low word place count : ℕ) → ((i : ℕ) → i < count → flat_level parts def (place + i) ≡ cond (bit_at word i == 1) (flat_level rest (low + 1) (place + i)) low) → ((d i : ℕ) → flat_level rest d i ≡ d) → bit_numbers low word 0 count ≡ levels_from (flat_level parts def) place count
bits-mixed parts rest def low word place count each none =
    bits-from (flat_level parts def) low word 0 place count (λ i h. each i h ∙ (ap (λ n. cond (bit_at word i == 1) n low) (none (low + 1) (place + i)) ∙ (one_more_or low (bit_at word i) (bit_at-lt word i) ∙ ap (λ k. low + bit_at word k) (omega arith))))

-- the first slots are alike
pub from-run : (level : ℕ → ℕ) (value from end to : ℕ) → from ≤ end → end ≤ to → ((i : ℕ) → from ≤ i → i < end → level i ≡ value) → replicate (end - from) value ++ levels_from level end (to - end) ≡ levels_from level from (to - from)
from-run level value from end to le within each =
    let e : from + (end - from) ≡ end = omega (arith, le) in
    let even = from-even level value from (end - from) (λ i h. each (from + i) (omega arith) (omega (arith, h))) in
    ap (λ ys. ys ++ levels_from level end (to - end)) even ∙ (ap (λ p. levels_from level from (end - from) ++ levels_from level p (to - p)) (sym e) ∙ sym (from-split level from (end - from) to (omega (arith, le, within))))

-- ---- blocks

pub reaches-less : (to to' : ℕ) (parts : List Part) → to' ≤ to → Reaches to parts → Reaches to' parts
reaches-less to to' [] le h = tt
reaches-less to to' (leaf_part is_optional mask count ∷ parts) le h = ((h.0.0, omega (arith, le, h.0.1)), reaches-less to to' parts le h.1)
reaches-less to to' (list_part is_optional mask offsets ∷ parts) le h = absurd h.0
reaches-less to to' (struct_part is_optional mask count ∷ parts) le h = ((h.0.0, omega (arith, le, h.0.1)), reaches-less to to' parts le h.1)

pub bit_most : (b : Bool) (word i : ℕ) → cond b (bit_at word i) 0 ≤ 1
bit_most true word i = omega (arith, bit_at-lt word i)
bit_most false word i = omega arith

pub same_at : (n v i : ℕ) → i < n → slice_index (replicate n v) i ≡ v
same_at zero v i h = absurd (omega (arith, h))
same_at (suc n) v zero h = refl
same_at (suc n) v (suc i) h = same_at n v i (omega (arith, h))

pub mixed : (parts : List Part) (level mid i x : ℕ) → x < 2 → mid ≡ level + x → cond (x == 1) (flat_level parts mid i) mid ≡ cond (x == 1) (flat_level parts (level + 1) i) level
mixed parts level mid i zero h e = omega (arith, e)
mixed parts level mid i (suc zero) h e = ap (λ n. flat_level parts n i) e
mixed parts level mid i (suc (suc x)) h e = absurd (omega (arith, h))

pub mixed_level : (parts : List Part) (level before mid place i word : ℕ) → before ≡ level → mid ≡ before + cond true (bit_at word i) 0 → cond (bit_at word i == 1) (flat_level parts mid place) mid ≡ cond (bit_at word i == 1) (flat_level parts (level + 1) place) level
mixed_level parts level before mid place i word b e = mixed parts level mid place (bit_at word i) (bit_at-lt word i) (rw b at e)

-- ---- the walk over a path without lists

cond_pair : (b : Bool) (rep x y : ℕ) → cond b (one_pair rep x) (one_pair rep y) ≡ one_pair rep (cond b x y)
cond_pair true rep x y = refl
cond_pair false rep x y = refl

cond_most : (b : Bool) (x y most : ℕ) → x ≤ most → y ≤ most → cond b x y ≤ most
cond_most true x y most h k = h
cond_most false x y most h k = k

pub up-bit : (b : Bool) (d : ℕ) → up b d ≡ d + bit b
up-bit true d = omega arith
up-bit false d = omega arith

pub flat-pairs : (parts : List Part) → FitTogether parts → max_repetition (path_way parts) ≡ 0 → (def depth rep i : ℕ) → slot_pairs parts def depth rep i ≡ one_pair rep (flat_level parts def i)
unfolding slot_pairs flat_level
flat-pairs [] h e def depth rep i = refl
flat-pairs (leaf_part is_optional mask count ∷ []) h e def depth rep i = cond_pair (is_present is_optional mask i) rep (def + bit is_optional) def
flat-pairs (leaf_part is_optional mask count ∷ part ∷ parts) h e def depth rep i = absurd (omega (arith, h.0.1))
flat-pairs (list_part is_optional mask offsets ∷ parts) h e def depth rep i = absurd (omega (arith, e))
flat-pairs (struct_part is_optional mask count ∷ parts) h e def depth rep i =
    ap (λ ps. cond (is_present is_optional mask i) ps (one_pair rep def)) (flat-pairs parts h.1 e (def + bit is_optional) depth rep i)
    ∙ cond_pair (is_present is_optional mask i) rep (flat_level parts (def + bit is_optional) i) def

pub flat-reaches : (to : ℕ) (parts : List Part) → FitTogether parts → max_repetition (path_way parts) ≡ 0 → to ≤ slot_count parts → Reaches to parts
flat-reaches to [] h e le = tt
flat-reaches to (leaf_part is_optional mask count ∷ []) h e le = ((h.0.0, le), tt)
flat-reaches to (leaf_part is_optional mask count ∷ part ∷ parts) h e le = absurd (omega (arith, h.0.1))
flat-reaches to (list_part is_optional mask offsets ∷ parts) h e le = absurd (omega (arith, e))
flat-reaches to (struct_part is_optional mask count ∷ parts) h e le = ((h.0.0, le), flat-reaches to parts h.1 e (omega (arith, le, h.0.1)))

flat-most : (parts : List Part) → FitTogether parts → max_repetition (path_way parts) ≡ 0 → (def i : ℕ) → flat_level parts def i ≤ def + max_definition (path_way parts)
unfolding flat_level
flat-most [] h e def i = omega arith
flat-most (leaf_part is_optional mask count ∷ []) h e def i = cond_most (is_present is_optional mask i) (def + bit is_optional) def _ (omega (arith, up-bit is_optional 0)) (omega arith)
flat-most (leaf_part is_optional mask count ∷ part ∷ parts) h e def i = absurd (omega (arith, h.0.1))
flat-most (list_part is_optional mask offsets ∷ parts) h e def i = absurd (omega (arith, e))
flat-most (struct_part is_optional mask count ∷ parts) h e def i =
    cond_most (is_present is_optional mask i) (flat_level parts (def + bit is_optional) i) def _ (omega (arith, flat-most parts h.1 e (def + bit is_optional) i, up-bit is_optional (max_definition (path_way parts)))) (omega arith)

pub flat-below : (parts : List Part) (def most : ℕ) → FitTogether parts → max_repetition (path_way parts) ≡ 0 → def + max_definition (path_way parts) < most → (i : ℕ) → flat_level parts def i < most
flat-below parts def most h e low i = omega (arith, flat-most parts h e def i, low)

pub run-levels : (level : ℕ → ℕ) (piece : ℕ → ℕ → List (ℕ × ℕ)) → ((rep i : ℕ) → piece rep i ≡ one_pair rep (level i)) → (first others place count : ℕ) → map (level_of Definition) (run piece first others place count) ≡ levels_from level place count
unfolding run levels_from
run-levels level piece same first others place zero = refl
run-levels level piece same first others place (suc count) =
    ap (λ ps. map (level_of Definition) (ps ++ run piece others others (place + 1) count)) (same first place)
    ∙ ap (λ ys. level place ∷ ys) (run-levels level piece same others others (place + 1) count)

pub walked-definitions : (level : Level) (parts : List Part) (above : Above) (place count : ℕ) → level ≡ Definition → FitTogether parts → max_repetition (path_way parts) ≡ 0 → levels_from (flat_level parts above.def) place count ≡ walked level parts above place count
walked-definitions level parts above place count l h e = rw l (sym (run-levels (flat_level parts above.def) (slot_pairs parts above.def above.depth) (λ rep i. flat-pairs parts h e above.def above.depth rep i) above.rep above.depth place count))

pub walked-repetitions : (level : Level) (parts : List Part) (above : Above) (place count : ℕ) → level ≡ Repetition → FitTogether parts → max_repetition (path_way parts) ≡ 0 → map (level_of level) (like_pairs above.rep above.depth above.def count) ≡ walked level parts above place count
walked-repetitions level parts above place count l h e = rw l (sym (first_and_others (slot_pairs parts above.def above.depth) above.rep above.depth above.def place count (λ rep i. ap (map (level_of Repetition)) (flat-pairs parts h e above.def above.depth rep i))))
