-- Repetition levels of lists above a path without lists.
use Rattle.std.proofs.Common.{◌≡◌, ℕ, zero, suc, ◌+◌, ◌-◌, ◌<◌, ◌≤◌, max, Bool, true, false, cond, Option, List, [], ◌∷◌, ◌++◌, map, replicate, All, refl, arith, ap, sym, ◌∙◌, append_assoc}
use Rattle.std.specs.Int.{bit_at}
use Rattle.std.proofs.lemmas.List.{map-append}
use Rattle.std.proofs.lemmas.List.Elements.{All-append}
use Rattle.std.proofs.lemmas.Nat.Bits.{bit_at-lt}
use Rattle.shredding.specs.Parts.{Part, list_part, is_present, item_start, item_count, path_way, FitTogether}
use Rattle.shredding.specs.Shred.{max_repetition}
use Rattle.levels.specs.Levels.{run, run_or, one_pair, slot_pairs, bit}
use Rattle.levels.specs.Sizes.{list_size}
use Rattle.levels.specs.Stretch.{level_of, like_pairs}
use Rattle.levels.specs.declared.walk.Level.{Level}
use Rattle.levels.specs.declared.walk.Level.TheVariants.{Repetition}
use Rattle.levels.proofs.Stretches.{first_and_others}
use Rattle.pq_runs.specs.Words.{bit_numbers}
use Rattle.pq_runs.proofs.BitNumbers.{numbers-add, numbers-alike}
use Rattle.level_sections.specs.declared.walk.Above.{Above}
use Rattle.level_sections.specs.Lists.{list_levels, reps_from}
use Rattle.level_sections.specs.Walk.{walked, IsListAbove}
use Rattle.level_sections.proofs.Blocks.{flat-pairs}

-- ---- what the definition of levels says of lists

abbrev firsts : List (ℕ × ℕ) → List ℕ
firsts = map (level_of Repetition)

firsts-alike : (n depth def : ℕ) → firsts (replicate n (depth, def)) ≡ replicate n depth
firsts-alike zero depth def = refl
firsts-alike (suc n) depth def = ap (λ ys. depth ∷ ys) (firsts-alike n depth def)

like-firsts : (rep depth def n : ℕ) → firsts (like_pairs rep depth def (suc n)) ≡ rep ∷ replicate n depth
unfolding like_pairs
like-firsts rep depth def n = ap (λ ys. rep ∷ ys) (firsts-alike n depth def)

items-firsts : (piece : ℕ → ℕ → List (ℕ × ℕ)) → ((rep i : ℕ) → firsts (piece rep i) ≡ rep ∷ []) → (rep def others place count : ℕ) → firsts (run_or (rep, def) piece rep others place count) ≡ rep ∷ replicate (max count 1 - 1) others
unfolding run_or
items-firsts piece one rep def others place zero = refl
items-firsts piece one rep def others place (suc n) =
    let less : n ≡ max (suc n) 1 - 1 = omega arith in
    first_and_others piece rep others 0 place (suc n) one ∙ (like-firsts rep others 0 n ∙ ap (λ k. rep ∷ replicate k others) less)

by_presence : (b : Bool) (xs : List (ℕ × ℕ)) (rep def n others : ℕ) → firsts xs ≡ rep ∷ replicate (n - 1) others → firsts (cond b xs (one_pair rep def)) ≡ rep ∷ replicate (cond b n 1 - 1) others
by_presence true xs rep def n others e = e
by_presence false xs rep def n others e = refl

list-firsts : (is_optional : Bool) (mask : Option (List Bool)) (offsets : List ℕ) (parts : List Part) → FitTogether parts → max_repetition (path_way parts) ≡ 0 → (def depth rep i : ℕ) → firsts (slot_pairs (list_part is_optional mask offsets ∷ parts) def depth rep i) ≡ list_levels rep depth (list_size is_optional mask offsets i)
unfolding slot_pairs
list-firsts is_optional mask offsets parts h e def depth rep i =
    by_presence (is_present is_optional mask i) _ rep def (max (item_count offsets i) 1) (depth + 1)
    (items-firsts (slot_pairs parts (def + bit is_optional + 1) (depth + 1)) (λ r j. ap firsts (flat-pairs parts h e (def + bit is_optional + 1) (depth + 1) r j)) rep (def + bit is_optional) (depth + 1) (item_start offsets i) (item_count offsets i))

run-reps : (size : ℕ → ℕ) (piece : ℕ → ℕ → List (ℕ × ℕ)) (others : ℕ) → ((rep i : ℕ) → firsts (piece rep i) ≡ list_levels rep others (size i)) → (first place count : ℕ) → firsts (run piece first others place count) ≡ reps_from size first others place count
unfolding run reps_from
run-reps size piece others same first place zero = refl
run-reps size piece others same first place (suc count) =
    map-append (level_of Repetition) (piece first place) (run piece others others (place + 1) count)
    ∙ (ap (λ ys. ys ++ firsts (run piece others others (place + 1) count)) (same first place)
    ∙ ap (λ ys. list_levels first others (size place) ++ ys) (run-reps size piece others same others (place + 1) count))

walked-lists : (level : Level) (is_optional : Bool) (mask : Option (List Bool)) (offsets : List ℕ) (parts : List Part) (above : Above) (place count : ℕ) → level ≡ Repetition → FitTogether parts → max_repetition (path_way parts) ≡ 0 → reps_from (list_size is_optional mask offsets) above.rep above.depth place count ≡ walked level (list_part is_optional mask offsets ∷ parts) above place count
walked-lists level is_optional mask offsets parts above place count l h e =
    rw l (sym (run-reps (list_size is_optional mask offsets) (slot_pairs (list_part is_optional mask offsets ∷ parts) above.def above.depth) above.depth (λ rep i. list-firsts is_optional mask offsets parts h e above.def above.depth rep i) above.rep place count))

-- ---- in steps

pub reps-none : (size : ℕ → ℕ) (first others place count : ℕ) → count ≡ 0 → reps_from size first others place count ≡ []
unfolding reps_from
reps-none size first others place zero e = refl
reps-none size first others place (suc count) e = absurd (omega (arith, e))

pub reps-more : (size : ℕ → ℕ) (first others place count left pairs : ℕ) → count ≡ left + 1 → pairs ≡ size place → reps_from size first others place count ≡ list_levels first others pairs ++ reps_from size others others (place + 1) left
unfolding reps_from
reps-more size first others place zero left pairs e p = absurd (omega (arith, e))
reps-more size first others place (suc count) left pairs e p = let h : count ≡ left = omega (arith, e) in rw (h, p) refl

reps-add : (size : ℕ → ℕ) (others place m n : ℕ) → reps_from size others others place (m + n) ≡ reps_from size others others place m ++ reps_from size others others (place + m) n
unfolding reps_from
reps-add size others place zero n =
    let a : 0 + n ≡ n = omega arith in
    let b : place + 0 ≡ place = omega arith in
    rw (a, b) refl
reps-add size others place (suc m) n =
    let a : suc m + n ≡ suc (m + n) = omega arith in
    let b : place + suc m ≡ place + 1 + m = omega arith in
    rw (a, b) (ap (λ ys. list_levels others others (size place) ++ ys) (reps-add size others (place + 1) m n) ∙ sym (append_assoc (list_levels others others (size place)) (reps_from size others others (place + 1) m) (reps_from size others others (place + 1 + m) n)))

pub reps-split : (size : ℕ → ℕ) (others place count to : ℕ) → place + count ≤ to → reps_from size others others place (to - place) ≡ reps_from size others others place count ++ reps_from size others others (place + count) (to - (place + count))
reps-split size others place count to within =
    let a : to - place ≡ count + (to - (place + count)) = omega (arith, within) in
    rw a (reps-add size others place count (to - (place + count)))

-- ---- levels by the bits of a word

numbers-ones : (low word place count : ℕ) → ((i : ℕ) → place ≤ i → i < place + count → bit_at word i ≡ 1) → bit_numbers low word place count ≡ replicate count (low + 1)
unfolding bit_numbers
numbers-ones low word place zero ones = refl
numbers-ones low word place (suc count) ones =
    ap (λ b. (low + b) ∷ bit_numbers low word (place + 1) count) (ones place (omega arith) (omega arith)) ∙ ap (λ ys. (low + 1) ∷ ys) (numbers-ones low word (place + 1) count (λ i l h. ones i (omega (arith, l)) (omega (arith, h))))

numbers-list : (low word place n : ℕ) → bit_at word place ≡ 0 → ((i : ℕ) → place < i → i < place + 1 + n → bit_at word i ≡ 1) → bit_numbers low word place (suc n) ≡ low ∷ replicate n (low + 1)
unfolding bit_numbers
numbers-list low word place n z ones =
    let first : low + bit_at word place ≡ low = omega (arith, z) in
    ap (λ x. x ∷ bit_numbers low word (place + 1) n) first ∙ ap (λ ys. low ∷ ys) (numbers-ones low word (place + 1) n (λ i l h. ones i (omega (arith, l)) h))

-- a list behind the levels that wait
pub numbers-more : (depth word next count pairs : ℕ) → 1 ≤ pairs → ((i : ℕ) → i < count → bit_at next i ≡ bit_at word i) → bit_at next count ≡ 0 → ((i : ℕ) → count < i → i < count + pairs → bit_at next i ≡ 1) → bit_numbers depth next 0 (count + pairs) ≡ bit_numbers depth word 0 count ++ list_levels depth depth pairs
numbers-more depth word next count pairs some below z ones =
    let n : pairs ≡ suc (pairs - 1) = omega (arith, some) in
    let here : 0 + count ≡ count = omega arith in
    let items : bit_numbers depth next count pairs ≡ list_levels depth depth pairs =
    ap (λ k. bit_numbers depth next count k) n ∙ numbers-list depth next count (pairs - 1) z (λ i l h. ones i l (omega (arith, h, some))) in
    numbers-add depth next 0 count pairs
    ∙ (ap (λ p. bit_numbers depth next 0 count ++ bit_numbers depth next p pairs) here
    ∙ (ap (λ ys. ys ++ bit_numbers depth next count pairs) (numbers-alike depth next word 0 count (λ i h. below i (omega (arith, h))))
    ∙ ap (λ ys. bit_numbers depth word 0 count ++ ys) items))

pub numbers-none : (low word place count : ℕ) → count ≡ 0 → bit_numbers low word place count ≡ []
unfolding bit_numbers
numbers-none low word place zero e = refl
numbers-none low word place (suc count) e = absurd (omega (arith, e))

pub numbers-below : (low word place count most : ℕ) → low + 1 < most → All (λ v. v < most) (bit_numbers low word place count)
unfolding bit_numbers
numbers-below low word place zero most top = λ k e lt. absurd (omega (arith, lt))
numbers-below low word place (suc count) most top = All-append (λ v. v < most) ((low + bit_at word place) ∷ []) (bit_numbers low word (place + 1) count) (one (low + bit_at word place) (omega (arith, top, bit_at-lt word place))) (numbers-below low word (place + 1) count most top)
  where
    one : (v : ℕ) → v < most → All (λ u. u < most) (v ∷ [])
    one v le zero e lt = le
    one v le (suc k) e lt = absurd (omega (arith, lt))

-- a list over a path without lists
pub listed : (level : Level) (is_optional : Bool) (mask : Option (List Bool)) (offsets : List ℕ) (parts : List Part) (above : Above) (place count : ℕ) → FitTogether parts → IsListAbove level parts (list_part is_optional mask offsets) → reps_from (list_size is_optional mask offsets) above.rep above.depth place count ≡ walked level parts above place count
listed level is_optional mask offsets parts above place count fits h =
    walked-lists level is_optional mask offsets h.rest above place count h.is_repetition (rw h.whole at fits).1 h.flat ∙ ap (λ ps. walked level ps above place count) (sym h.whole)
