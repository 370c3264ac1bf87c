-- No level passes its maximum.
use Rattle.std.proofs.Common.{◌≡◌, ℕ, zero, suc, ◌+◌, ◌*◌, ◌^◌, ◌<◌, ◌≤◌, Bool, true, false, cond, List, [], ◌∷◌, map, length, All, arith, sym, subst, get_or}
use Rattle.std.proofs.lemmas.List.Elements.{All-append}
use Rattle.shredding.specs.Parts.{Part, leaf_part, list_part, struct_part, is_present, item_start, item_count, slot_count, path_way, IsPath, FitTogether}
use Rattle.shredding.specs.Shred.{up, max_repetition, max_definition}
use Rattle.pq_numbers.specs.Bits.{IsWidth}
use Rattle.levels.specs.Levels.{run, run_or, one_pair, slot_pairs, path_pairs, bit}
use Rattle.levels.specs.declared.walk.Level.{Level}
use Rattle.levels.specs.declared.walk.Level.TheVariants.{Repetition, Definition}
use Rattle.levels.specs.Stretch.{level_of}
use Rattle.level_sections.specs.declared.walk.Above.{Above}
use Rattle.level_sections.specs.Walk.{Holds, greatest, walked}

-- ---- below 256

pub most_definition : (parts : List Part) → FitTogether parts → 0 < length parts → max_definition (path_way parts) + 1 ≤ 2 * length parts
most_definition [] h some = absurd (omega arith)
most_definition (leaf_part is_optional mask count ∷ parts) h some = omega (arith, up_one is_optional) where
  up_one : (n : Bool) → up n 0 ≤ 1
  up_one true = omega arith
  up_one false = omega arith
most_definition (list_part is_optional mask offsets ∷ parts) h some = omega (arith, up_more is_optional (suc (max_definition (path_way parts))), most_definition parts h.1 h.0.2) where
  up_more : (n : Bool) (d : ℕ) → up n d ≤ d + 1
  up_more true d = omega arith
  up_more false d = omega arith
most_definition (struct_part is_optional mask count ∷ parts) h some = omega (arith, up_more is_optional (max_definition (path_way parts)), most_definition parts h.1 h.0.2) where
  up_more : (n : Bool) (d : ℕ) → up n d ≤ d + 1
  up_more true d = omega arith
  up_more false d = omega arith

pub most_repetition : (parts : List Part) → FitTogether parts → 0 < length parts → max_repetition (path_way parts) + 1 ≤ length parts
most_repetition [] h some = absurd (omega arith)
most_repetition (leaf_part is_optional mask count ∷ parts) h some = omega arith
most_repetition (list_part is_optional mask offsets ∷ parts) h some = omega (arith, most_repetition parts h.1 h.0.2)
most_repetition (struct_part is_optional mask count ∷ parts) h some = omega (arith, most_repetition parts h.1 h.0.2)

pub greatest-below : (level : Level) (parts : List Part) → IsPath parts → length parts ≤ 128 → greatest level parts < 256
greatest-below Repetition parts h few = omega (arith, most_repetition parts h.fits h.some, few)
greatest-below Definition parts h few = omega (arith, most_definition parts h.fits h.some, few)

-- ---- each pair

pub record IsBelow (r d : ℕ) (p : ℕ × ℕ) : Type 0 where
  pub repetition : p.0 ≤ r
  pub definition : p.1 ≤ d

one-below : (r d rep def : ℕ) → rep ≤ r → def ≤ d → All (IsBelow r d) (one_pair rep def)
one-below r d rep def a b = λ i e lt. elim_one i e lt where
  elim_one : (i : ℕ) (e : ℕ × ℕ) → i < length (one_pair rep def) → IsBelow r d (get_or (one_pair rep def) i e)
  elim_one zero e lt = record { repetition = a; definition = b }
  elim_one (suc i) e lt = absurd (omega (arith, lt))

run-below : (r d : ℕ) (piece : ℕ → ℕ → List (ℕ × ℕ)) → ((rep i : ℕ) → rep ≤ r → All (IsBelow r d) (piece rep i)) → (first others place count : ℕ) → first ≤ r → others ≤ r → All (IsBelow r d) (run piece first others place count)
unfolding run
run-below r d piece below first others place zero a b = λ i e lt. absurd (omega (arith, lt))
run-below r d piece below first others place (suc count) a b = All-append (IsBelow r d) (piece first place) (run piece others others (place + 1) count) (below first place a) (run-below r d piece below others others (place + 1) count b b)

run_or-below : (r d : ℕ) (empty : ℕ × ℕ) (piece : ℕ → ℕ → List (ℕ × ℕ)) → All (IsBelow r d) (empty ∷ []) → ((rep i : ℕ) → rep ≤ r → All (IsBelow r d) (piece rep i)) → (first others place count : ℕ) → first ≤ r → others ≤ r → All (IsBelow r d) (run_or empty piece first others place count)
unfolding run_or
run_or-below r d empty piece e below first others place zero a b = e
run_or-below r d empty piece e below first others place (suc count) a b = run-below r d piece below first others place (suc count) a b

by_presence : (r d : ℕ) (b : Bool) (xs ys : List (ℕ × ℕ)) → All (IsBelow r d) xs → All (IsBelow r d) ys → All (IsBelow r d) (cond b xs ys)
by_presence r d true xs ys h k = h
by_presence r d false xs ys h k = k

up-bit' : (n : Bool) (d : ℕ) → up n d ≡ d + bit n
up-bit' true d = omega arith
up-bit' false d = omega arith

pairs-below : (r d : ℕ) (parts : List Part) (def depth rep i : ℕ) → rep ≤ r → depth + max_repetition (path_way parts) ≤ r → def + max_definition (path_way parts) ≤ d → All (IsBelow r d) (slot_pairs parts def depth rep i)
unfolding slot_pairs
pairs-below r d [] def depth rep i a b c = one-below r d rep def a (omega (arith, c))
pairs-below r d (leaf_part is_optional mask count ∷ parts) def depth rep i a b c =
    by_presence r d (is_present is_optional mask i) _ _ (one-below r d rep (def + bit is_optional) a (omega (arith, c, up-bit' is_optional 0))) (one-below r d rep def a (omega (arith, c)))
pairs-below r d (list_part is_optional mask offsets ∷ parts) def depth rep i a b c =
    let u = up-bit' is_optional (suc (max_definition (path_way parts))) in
    by_presence r d (is_present is_optional mask i) _ _
    (run_or-below r d (rep, def + bit is_optional) (slot_pairs parts (def + bit is_optional + 1) (depth + 1)) (one-below r d rep (def + bit is_optional) a (omega (arith, c, u)))
    (λ rep' j h. pairs-below r d parts (def + bit is_optional + 1) (depth + 1) rep' j h (omega (arith, b)) (omega (arith, c, u))) rep (depth + 1) (item_start offsets i) (item_count offsets i) a (omega (arith, b)))
    (one-below r d rep def a (omega (arith, c)))
pairs-below r d (struct_part is_optional mask count ∷ parts) def depth rep i a b c =
    let u = up-bit' is_optional (max_definition (path_way parts)) in
    by_presence r d (is_present is_optional mask i) _ _ (pairs-below r d parts (def + bit is_optional) depth rep i a b (omega (arith, c, u))) (one-below r d rep def a (omega (arith, c)))

path-below : (parts : List Part) → All (IsBelow (max_repetition (path_way parts)) (max_definition (path_way parts))) (path_pairs parts)
unfolding path_pairs
path-below parts = run-below _ _ (slot_pairs parts 0 0) (λ rep i h. pairs-below _ _ parts 0 0 rep i h (omega arith) (omega arith)) 0 0 0 (slot_count parts) (omega arith) (omega arith)

level-below : (level : Level) (parts : List Part) (p : ℕ × ℕ) → IsBelow (max_repetition (path_way parts)) (max_definition (path_way parts)) p → level_of level p ≤ greatest level parts
level-below Repetition parts p h = h.repetition
level-below Definition parts p h = h.definition

map-below : (r d most : ℕ) (f : ℕ × ℕ → ℕ) → ((p : ℕ × ℕ) → IsBelow r d p → f p ≤ most) → (ps : List (ℕ × ℕ)) → All (IsBelow r d) ps → All (λ v. v ≤ most) (map f ps)
map-below r d most f g [] h = λ k e lt. absurd (omega (arith, lt))
map-below r d most f g (p ∷ ps) h = All-append (λ v. v ≤ most) (f p ∷ []) (map f ps) (one (f p) (g p (h 0 p (omega arith)))) (map-below r d most f g ps (λ i e' lt'. h (suc i) e' (omega (arith, lt'))))
  where
    one : (v : ℕ) → v ≤ most → All (λ u. u ≤ most) (v ∷ [])
    one v le zero e lt = le
    one v le (suc k) e lt = absurd (omega (arith, lt))

pub levels-below : (level : Level) (parts : List Part) → All (λ v. v ≤ greatest level parts) (map (level_of level) (path_pairs parts))
levels-below level parts = map-below _ _ (greatest level parts) (level_of level) (λ p h. level-below level parts p h) (path_pairs parts) (path-below parts)

-- ---- widths

pub width-most : (level : Level) (parts : List Part) (w : ℕ) → IsPath parts → length parts ≤ 128 → IsWidth (greatest level parts) w → w ≤ 8
width-most level parts w h few is = is.least 8 (omega (arith, greatest-below level parts h few))

pub width-repetition : (parts : List Part) (w : ℕ) → IsPath parts → length parts ≤ 128 → IsWidth (greatest Repetition parts) w → w ≤ 7
width-repetition parts w h few is = is.least 7 (omega (arith, most_repetition parts h.fits h.some, few))

pub levels-most : (level : Level) (parts : List Part) (max : ℕ) → max ≡ greatest level parts → All (λ v. v ≤ max) (map (level_of level) (path_pairs parts))
levels-most level parts max e = subst (λ (m : ℕ). All (λ v. v ≤ m) (map (level_of level) (path_pairs parts))) (sym e) (levels-below level parts)

-- ---- the levels of a walk

map-under : (r d most : ℕ) (f : ℕ × ℕ → ℕ) → ((p : ℕ × ℕ) → IsBelow r d p → f p < most) → (ps : List (ℕ × ℕ)) → All (IsBelow r d) ps → All (λ v. v < most) (map f ps)
map-under r d most f g [] h = λ k e lt. absurd (omega (arith, lt))
map-under r d most f g (p ∷ ps) h = All-append (λ v. v < most) (f p ∷ []) (map f ps) (one (f p) (g p (h 0 p (omega arith)))) (map-under r d most f g ps (λ i e' lt'. h (suc i) e' (omega (arith, lt'))))
  where
    one : (v : ℕ) → v < most → All (λ u. u < most) (v ∷ [])
    one v le zero e lt = le
    one v le (suc k) e lt = absurd (omega (arith, lt))

slots-below : (parts : List Part) (above : Above) (place count : ℕ) → above.rep ≤ above.depth → All (IsBelow (above.depth + max_repetition (path_way parts)) (above.def + max_definition (path_way parts))) (run (slot_pairs parts above.def above.depth) above.rep above.depth place count)
slots-below parts above place count first =
    run-below _ _ (slot_pairs parts above.def above.depth) (λ rep i h. pairs-below _ _ parts above.def above.depth rep i h (omega arith) (omega arith)) above.rep above.depth place count (omega (arith, first)) (omega arith)

-- a width that holds all levels of a path holds those of a walk
pub walked-below : (level : Level) (parts : List Part) (above : Above) (place count width : ℕ) → above.rep ≤ above.depth → Holds level above (max_repetition (path_way parts)) (max_definition (path_way parts)) width → All (λ v. v < 2 ^ width) (walked level parts above place count)
walked-below Repetition parts above place count width first holds = map-under _ _ (2 ^ width) (level_of Repetition) (λ p h. omega (arith, h.repetition, holds)) _ (slots-below parts above place count first)
walked-below Definition parts above place count width first holds = map-under _ _ (2 ^ width) (level_of Definition) (λ p h. omega (arith, h.definition, holds)) _ (slots-below parts above place count first)
