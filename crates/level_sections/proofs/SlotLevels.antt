-- Levels of slots side by side.
use Rattle.std.proofs.Common.{◌≡◌, ◌≢◌, ◌⊎◌, ℕ, zero, suc, ◌+◌, ◌-◌, ◌<◌, ◌≤◌, Bool, true, false, cond, Option, List, [], ◌∷◌, ◌++◌, drop, length, map, take, inl, inr, refl, arith, ap, sym, ◌∙◌, append_assoc, append-nil}
use Rattle.std.proofs.lemmas.Bool.{cases_lt}
use Rattle.std.proofs.lemmas.List.{length-append, length-drop, length-take-le, map-append, take_at, drop_at}
use Rattle.std.specs.Prelude.{slice_index, slice_set}
use Rattle.shredding.specs.Parts.{Part, leaf_part, list_part, struct_part, is_present, item_count, item_start, path_way, FitTogether}
use Rattle.shredding.specs.Shred.{max_repetition}
use Rattle.levels.specs.Levels.{bit, run, run_or, slot_pairs}
use Rattle.levels.specs.Stretch.{level_of}
use Rattle.levels.specs.declared.walk.Level.{Level}
use Rattle.levels.specs.declared.walk.Level.TheVariants.{Repetition, Definition}
use Rattle.columns_core.specs.Rising.{IsRising}
use Rattle.levels.proofs.Rising.{rising}
use Rattle.levels.proofs.Runs.{run_or-none, run_or-some}
use Rattle.level_sections.specs.declared.pieces.Pieces.{Pieces}
use Rattle.level_sections.specs.declared.walk.Above.{Above}
use Rattle.level_sections.specs.Pieces.{AreTold, above_fields, above_items, with_first}
use Rattle.level_sections.specs.Walk.{walked}
use Rattle.level_sections.proofs.Blocks.{flat-pairs}

-- ---- how the pairs of a slot begin

-- the first pair has the repetition level that is asked for, and nothing else depends on it
record Begins (pairs : ℕ → List (ℕ × ℕ)) : Type 0 where
  first : ℕ
  others : List (ℕ × ℕ)
  is : (rep : ℕ) → pairs rep ≡ (rep, first) ∷ others

begins-one : (def : ℕ) → Begins (λ rep. (rep, def) ∷ [])
begins-one def = record { first = def; others = []; is = λ rep. refl }

begins-cond : (b : Bool) (xs ys : ℕ → List (ℕ × ℕ)) → Begins xs → Begins ys → Begins (λ rep. cond b (xs rep) (ys rep))
begins-cond true xs ys h k = h
begins-cond false xs ys h k = k

begins-run : (piece : ℕ → ℕ → List (ℕ × ℕ)) → ((i : ℕ) → Begins (λ rep. piece rep i)) → (depth place n : ℕ) → Begins (λ rep. run piece rep depth place (suc n))
unfolding run
begins-run piece each depth place n =
    let b = each place in
    record { first = b.first; others = b.others ++ run piece depth depth (place + 1) n; is = λ rep. ap (λ (ps : List (ℕ × ℕ)). ps ++ run piece depth depth (place + 1) n) (b.is rep) }

begins-run_or : (piece : ℕ → ℕ → List (ℕ × ℕ)) → ((i : ℕ) → Begins (λ rep. piece rep i)) → (def depth place n : ℕ) → Begins (λ rep. run_or (rep, def) piece rep depth place n)
unfolding run_or
begins-run_or piece each def depth place zero = begins-one def
begins-run_or piece each def depth place (suc n) = begins-run piece each depth place n

begins-slot : (parts : List Part) (def depth i : ℕ) → Begins (λ rep. slot_pairs parts def depth rep i)
unfolding slot_pairs
begins-slot [] def depth i = begins-one def
begins-slot (leaf_part is_optional mask count ∷ parts) def depth i = begins-cond (is_present is_optional mask i) _ _ (begins-one (def + bit is_optional)) (begins-one def)
begins-slot (list_part is_optional mask offsets ∷ parts) def depth i =
    begins-cond (is_present is_optional mask i) _ _
    (begins-run_or (slot_pairs parts (def + bit is_optional + 1) (depth + 1)) (λ j. begins-slot parts (def + bit is_optional + 1) (depth + 1) j) (def + bit is_optional) (depth + 1) (item_start offsets i) (item_count offsets i))
    (begins-one def)
begins-slot (struct_part is_optional mask count ∷ parts) def depth i = begins-cond (is_present is_optional mask i) _ _ (begins-slot parts (def + bit is_optional) depth i) (begins-one def)

first-as : (level : Level) (rep rep' first : ℕ) (others : List (ℕ × ℕ)) → map (level_of level) ((rep, first) ∷ others) ≡ with_first level rep (map (level_of level) ((rep', first) ∷ others))
unfolding with_first
first-as Repetition rep rep' first others = refl
first-as Definition rep rep' first others = refl

pub run-first : (level : Level) (parts : List Part) (rep rep' def depth place n : ℕ) → 0 < n → map (level_of level) (run (slot_pairs parts def depth) rep depth place n) ≡ with_first level rep (map (level_of level) (run (slot_pairs parts def depth) rep' depth place n))
run-first level parts rep rep' def depth place zero some = absurd (omega (arith, some))
run-first level parts rep rep' def depth place (suc n) some =
    let b = begins-run (slot_pairs parts def depth) (λ i. begins-slot parts def depth i) depth place n in
    ap (map (level_of level)) (b.is rep) ∙ (first-as level rep rep' b.first b.others ∙ ap (λ (ps : List (ℕ × ℕ)). with_first level rep (map (level_of level) ps)) (sym (b.is rep')))

run-some : (level : Level) (parts : List Part) (rep def depth place n : ℕ) → 0 < n → 0 < length (map (level_of level) (run (slot_pairs parts def depth) rep depth place n))
run-some level parts rep def depth place zero some = absurd (omega (arith, some))
run-some level parts rep def depth place (suc n) some =
    let b = begins-run (slot_pairs parts def depth) (λ i. begins-slot parts def depth i) depth place n in
    let e : length (map (level_of level) (run (slot_pairs parts def depth) rep depth place (suc n))) ≡ suc (length (map (level_of level) b.others)) = ap (λ (ps : List (ℕ × ℕ)). length (map (level_of level) ps)) (b.is rep) in
    omega (arith, e)

-- ---- one slot

one-run : (piece : ℕ → ℕ → List (ℕ × ℕ)) (rep depth place : ℕ) → run piece rep depth place 1 ≡ piece rep place
unfolding run
one-run piece rep depth place = append-nil (piece rep place)

one-slot : (level : Level) (parts : List Part) (above : Above) (i : ℕ) → walked level parts above i 1 ≡ map (level_of level) (slot_pairs parts above.def above.depth above.rep i)
one-slot level parts above i = ap (map (level_of level)) (one-run (slot_pairs parts above.def above.depth) above.rep above.depth i)

null_list-pairs : (is_optional : Bool) (mask : Option (List Bool)) (offsets : List ℕ) (rest : List Part) (def depth rep i : ℕ) → is_present is_optional mask i ≡ false → slot_pairs (list_part is_optional mask offsets ∷ rest) def depth rep i ≡ (rep, def) ∷ []
unfolding slot_pairs
null_list-pairs is_optional mask offsets rest def depth rep i e = rw e refl

empty_list-pairs : (is_optional : Bool) (mask : Option (List Bool)) (offsets : List ℕ) (rest : List Part) (def depth rep i : ℕ) → is_present is_optional mask i ≡ true → item_count offsets i ≡ 0 → slot_pairs (list_part is_optional mask offsets ∷ rest) def depth rep i ≡ (rep, def + bit is_optional) ∷ []
unfolding slot_pairs
empty_list-pairs is_optional mask offsets rest def depth rep i e z = rw e (run_or-none _ _ _ _ _ _ z)

full_list-pairs : (is_optional : Bool) (mask : Option (List Bool)) (offsets : List ℕ) (rest : List Part) (def depth rep i : ℕ) → is_present is_optional mask i ≡ true → 0 < item_count offsets i → slot_pairs (list_part is_optional mask offsets ∷ rest) def depth rep i ≡ run (slot_pairs rest (def + bit is_optional + 1) (depth + 1)) rep (depth + 1) (item_start offsets i) (item_count offsets i)
unfolding slot_pairs
full_list-pairs is_optional mask offsets rest def depth rep i e some = rw e (run_or-some _ _ _ _ _ _ some)

null_struct-pairs : (is_optional : Bool) (mask : Option (List Bool)) (count : ℕ) (rest : List Part) (def depth rep i : ℕ) → is_present is_optional mask i ≡ false → slot_pairs (struct_part is_optional mask count ∷ rest) def depth rep i ≡ (rep, def) ∷ []
unfolding slot_pairs
null_struct-pairs is_optional mask count rest def depth rep i e = rw e refl

full_struct-pairs : (is_optional : Bool) (mask : Option (List Bool)) (count : ℕ) (rest : List Part) (def depth rep i : ℕ) → is_present is_optional mask i ≡ true → slot_pairs (struct_part is_optional mask count ∷ rest) def depth rep i ≡ slot_pairs rest (def + bit is_optional) depth rep i
unfolding slot_pairs
full_struct-pairs is_optional mask count rest def depth rep i e = rw e refl

pub null-list : (level : Level) (is_optional : Bool) (mask : Option (List Bool)) (offsets : List ℕ) (rest : List Part) (above : Above) (i : ℕ) → is_present is_optional mask i ≡ false → level_of level (above.rep, above.def) ∷ [] ≡ walked level (list_part is_optional mask offsets ∷ rest) above i 1
null-list level is_optional mask offsets rest above i e = sym (one-slot level (list_part is_optional mask offsets ∷ rest) above i ∙ ap (map (level_of level)) (null_list-pairs is_optional mask offsets rest above.def above.depth above.rep i e))

pub empty-list : (level : Level) (is_optional : Bool) (mask : Option (List Bool)) (offsets : List ℕ) (rest : List Part) (above : Above) (i : ℕ) → is_present is_optional mask i ≡ true → item_count offsets i ≡ 0 → level_of level (above.rep, above.def + bit is_optional) ∷ [] ≡ walked level (list_part is_optional mask offsets ∷ rest) above i 1
empty-list level is_optional mask offsets rest above i e z = sym (one-slot level (list_part is_optional mask offsets ∷ rest) above i ∙ ap (map (level_of level)) (empty_list-pairs is_optional mask offsets rest above.def above.depth above.rep i e z))

pub full-list : (level : Level) (is_optional : Bool) (mask : Option (List Bool)) (offsets : List ℕ) (rest : List Part) (above : Above) (i : ℕ) → is_present is_optional mask i ≡ true → 0 < item_count offsets i → with_first level above.rep (walked level rest (above_items above is_optional) (item_start offsets i) (item_count offsets i)) ≡ walked level (list_part is_optional mask offsets ∷ rest) above i 1
full-list level is_optional mask offsets rest above i e some =
    sym (one-slot level (list_part is_optional mask offsets ∷ rest) above i
    ∙ (ap (map (level_of level)) (full_list-pairs is_optional mask offsets rest above.def above.depth above.rep i e some)
    ∙ run-first level rest above.rep (above.depth + 1) (above.def + bit is_optional + 1) (above.depth + 1) (item_start offsets i) (item_count offsets i) some))

pub null-struct : (level : Level) (is_optional : Bool) (mask : Option (List Bool)) (count : ℕ) (rest : List Part) (above : Above) (i : ℕ) → is_present is_optional mask i ≡ false → level_of level (above.rep, above.def) ∷ [] ≡ walked level (struct_part is_optional mask count ∷ rest) above i 1
null-struct level is_optional mask count rest above i e = sym (one-slot level (struct_part is_optional mask count ∷ rest) above i ∙ ap (map (level_of level)) (null_struct-pairs is_optional mask count rest above.def above.depth above.rep i e))

pub full-struct : (level : Level) (is_optional : Bool) (mask : Option (List Bool)) (count : ℕ) (rest : List Part) (above : Above) (i : ℕ) → is_present is_optional mask i ≡ true → with_first level above.rep (walked level rest (above_fields above is_optional) i 1) ≡ walked level (struct_part is_optional mask count ∷ rest) above i 1
full-struct level is_optional mask count rest above i e =
    sym (run-first level rest above.rep above.rep (above.def + bit is_optional) above.depth i 1 (omega arith))
    ∙ (one-slot level rest (above_fields above is_optional) i
    ∙ (ap (map (level_of level)) (sym (full_struct-pairs is_optional mask count rest above.def above.depth above.rep i e))
    ∙ sym (one-slot level (struct_part is_optional mask count ∷ rest) above i)))

-- ---- slots side by side

run-add : (piece : ℕ → ℕ → List (ℕ × ℕ)) (depth place m n : ℕ) → run piece depth depth place (m + n) ≡ run piece depth depth place m ++ run piece depth depth (place + m) n
unfolding run
run-add piece depth place zero n =
    let a : 0 + n ≡ n = omega arith in
    let b : place + 0 ≡ place = omega arith in
    rw (a, b) refl
run-add piece depth place (suc m) n =
    let a : suc m + n ≡ suc (m + n) = omega arith in
    let b : place + suc m ≡ place + 1 + m = omega arith in
    rw (a, b) (ap (λ ps. piece depth place ++ ps) (run-add piece depth (place + 1) m n) ∙ sym (append_assoc (piece depth place) (run piece depth depth (place + 1) m) (run piece depth depth (place + 1 + m) n)))

pub walked-add : (level : Level) (parts : List Part) (above : Above) (place m n : ℕ) → above.rep ≡ above.depth → walked level parts above place (m + n) ≡ walked level parts above place m ++ walked level parts above (place + m) n
walked-add level parts above place m n same =
    rw same (ap (map (level_of level)) (run-add (slot_pairs parts above.def above.depth) above.depth place m n)
    ∙ map-append (level_of level) (run (slot_pairs parts above.def above.depth) above.depth above.depth place m) (run (slot_pairs parts above.def above.depth) above.depth above.depth (place + m) n))

walked-no : (level : Level) (parts : List Part) (above : Above) (place : ℕ) → walked level parts above place 0 ≡ []
unfolding run
walked-no level parts above place = refl

-- the levels of some slots among others
middle : (xs ys zs : List ℕ) → take (length ys) (drop (length xs) (xs ++ (ys ++ zs))) ≡ ys
middle xs ys zs = ap (take (length ys)) (drop_at xs (ys ++ zs) (length xs) refl) ∙ take_at ys zs (length ys) refl

pub record IsCut (level : Level) (parts : List Part) (above : Above) (place a b : ℕ) (pieces : Pieces) : Type 0 where
  pub ordered : slice_index pieces.starts a < slice_index pieces.starts b
  pub within : slice_index pieces.starts b ≤ length pieces.told
  pub levels : take (slice_index pieces.starts b - slice_index pieces.starts a) (drop (slice_index pieces.starts a) pieces.told) ≡ walked level parts above (place + a) (b - a)

pub cut : (level : Level) (parts : List Part) (above : Above) (place count a b : ℕ) (pieces : Pieces) → above.rep ≡ above.depth → a < b → b ≤ count → AreTold (λ n. walked level parts above place n) count pieces → IsCut level parts above place a b pieces
cut level parts above place count a b pieces same some within h =
    let W = λ (n : ℕ). walked level parts above place n in
    let V = walked level parts above (place + a) (b - a) in
    let Z = walked level parts above (place + b) (count - b) in
    let eb : a + (b - a) ≡ b = omega (arith, some) in
    let ec : b + (count - b) ≡ count = omega (arith, within) in
    let wb : W b ≡ W a ++ V = ap W (sym eb) ∙ walked-add level parts above place a (b - a) same in
    let wc : W count ≡ W b ++ Z = ap W (sym ec) ∙ walked-add level parts above place b (count - b) same in
    let all : pieces.told ≡ W a ++ (V ++ Z) = h.told ∙ (wc ∙ (ap (λ (xs : List ℕ). xs ++ Z) wb ∙ append_assoc (W a) V Z)) in
    let sa : slice_index pieces.starts a ≡ length (W a) = h.starts a (omega (arith, some, within)) in
    let sb : slice_index pieces.starts b ≡ length (W a) + length V = h.starts b within ∙ (ap length wb ∙ length-append (W a) V) in
    let size : slice_index pieces.starts b - slice_index pieces.starts a ≡ length V = omega (arith, sa, sb) in
    let more : 0 < length V = run-some level parts above.rep above.def above.depth (place + a) (b - a) (omega (arith, some)) in
    let full : length pieces.told ≡ length (W b) + length Z = ap length (h.told ∙ wc) ∙ length-append (W b) Z in
    record {
      ordered = omega (arith, sa, sb, more);
      within = omega (arith, full, h.starts b within);
      levels = rw (size, sa, all) (middle (W a) V Z);
    }

-- ---- told slot by slot

pub told-none : (level : Level) (parts : List Part) (above : Above) (place count : ℕ) (pieces : Pieces) → count ≡ 0 → pieces.told ≡ [] → slice_index pieces.starts 0 ≡ 0 → AreTold (λ n. walked level parts above place n) count pieces
told-none level parts above place count pieces z e s = record {
  few = omega (arith, z);
  told = e ∙ (sym (walked-no level parts above place) ∙ ap (λ (n : ℕ). walked level parts above place n) (sym z));
  starts = λ i h.
      let j : i ≡ 0 = omega (arith, z, h) in
      ap (slice_index pieces.starts) j ∙ (s ∙ (ap length (sym (walked-no level parts above place)) ∙ ap (λ (n : ℕ). length (walked level parts above place n)) (sym j)));
}

told-grown : (level : Level) (parts : List Part) (above : Above) (place count next i : ℕ) (told more : List ℕ) → above.rep ≡ above.depth → next ≡ count + 1 → i ≡ place + count → told ≡ walked level parts above place count → more ≡ told ++ walked level parts above i 1 → more ≡ walked level parts above place next
told-grown level parts above place count next i told more same e here is add =
    add ∙ (ap (λ (p : ℕ). told ++ walked level parts above p 1) here ∙ (ap (λ (xs : List ℕ). xs ++ walked level parts above (place + count) 1) is ∙ (sym (walked-add level parts above place count 1 same) ∙ ap (λ (n : ℕ). walked level parts above place n) (sym e))))

pub told-next : (level : Level) (parts : List Part) (above : Above) (place count next i : ℕ) (pieces new : Pieces) (more : List ℕ) → above.rep ≡ above.depth → next ≡ count + 1 → next ≤ 2048 → i ≡ place + count → AreTold (λ n. walked level parts above place n) count pieces → more ≡ pieces.told ++ walked level parts above i 1 → new.told ≡ more → slice_index new.starts next ≡ length more → ((j : ℕ) → j < next → slice_index new.starts j ≡ slice_index pieces.starts j) → AreTold (λ n. walked level parts above place n) next new
told-next level parts above place count next i pieces new more same e few here h add told start others =
    let all = told-grown level parts above place count next i pieces.told more same e here h.told add in
    record {
      few = few;
      told = told ∙ all;
      starts = λ j le. by_order j le all (cases_lt j next);
    }
  where
    by_order : (j : ℕ) → j ≤ next → more ≡ walked level parts above place next → (j < next) ⊎ (next ≤ j) → slice_index new.starts j ≡ length (walked level parts above place j)
    by_order j le all (inl below) = others j below ∙ h.starts j (omega (arith, e, below))
    by_order j le all (inr after) =
        let k : j ≡ next = omega (arith, le, after) in
        rw k (start ∙ ap length all)

-- some slots more at once
pub told-run : (level : Level) (parts : List Part) (above : Above) (place count n next : ℕ) (pieces new : Pieces) → above.rep ≡ above.depth → next ≡ count + n → next ≤ 2048 → AreTold (λ m. walked level parts above place m) count pieces → new.told ≡ pieces.told ++ walked level parts above (place + count) n → ((j : ℕ) → j ≤ count → slice_index new.starts j ≡ slice_index pieces.starts j) → ((j : ℕ) → count < j → j ≤ next → slice_index new.starts j ≡ length pieces.told + length (walked level parts above (place + count) (j - count))) → AreTold (λ m. walked level parts above place m) next new
told-run level parts above place count n next pieces new same e few h add before each = record {
  few = few;
  told = add ∙ (ap (λ (xs : List ℕ). xs ++ walked level parts above (place + count) n) h.told ∙ (sym (walked-add level parts above place count n same) ∙ ap (λ (m : ℕ). walked level parts above place m) (sym e)));
  starts = λ j le. by_order j le (cases_lt count j);
}
  where
    by_order : (j : ℕ) → j ≤ next → (count < j) ⊎ (j ≤ count) → slice_index new.starts j ≡ length (walked level parts above place j)
    by_order j le (inr old) = before j old ∙ h.starts j old
    by_order j le (inl more) =
        let back : count + (j - count) ≡ j = omega (arith, more) in
        each j more le
        ∙ (ap (λ (xs : List ℕ). length xs + length (walked level parts above (place + count) (j - count))) h.told
        ∙ (sym (length-append (walked level parts above place count) (walked level parts above (place + count) (j - count)))
        ∙ ap length (sym (walked-add level parts above place count (j - count) same) ∙ ap (λ (m : ℕ). walked level parts above place m) back)))

pub starts-apart : (level : Level) (parts : List Part) (above : Above) (place count a b : ℕ) (pieces : Pieces) → above.rep ≡ above.depth → a ≤ b → b ≤ count → AreTold (λ n. walked level parts above place n) count pieces → slice_index pieces.starts b ≡ slice_index pieces.starts a + length (walked level parts above (place + a) (b - a))
starts-apart level parts above place count a b pieces same le within h =
    let back : a + (b - a) ≡ b = omega (arith, le) in
    let at : slice_index pieces.starts a ≡ length (walked level parts above place a) = h.starts a (omega (arith, le, within)) in
    h.starts b within
    ∙ (ap length (ap (λ (m : ℕ). walked level parts above place m) (sym back) ∙ walked-add level parts above place a (b - a) same)
    ∙ (length-append (walked level parts above place a) (walked level parts above (place + a) (b - a))
    ∙ ap (λ (k : ℕ). k + length (walked level parts above (place + a) (b - a))) (sym at)))

pub starts-within : (level : Level) (parts : List Part) (above : Above) (place count b : ℕ) (pieces : Pieces) → above.rep ≡ above.depth → b ≤ count → AreTold (λ n. walked level parts above place n) count pieces → slice_index pieces.starts b ≤ length pieces.told
starts-within level parts above place count b pieces same le h =
    let apart = starts-apart level parts above place count b count pieces same le (omega arith) h in
    omega (arith, apart, h.starts count (omega arith), ap length h.told)

present-struct : (level : Level) (is_optional : Bool) (mask : Option (List Bool)) (count : ℕ) (rest : List Part) (above : Above) (i : ℕ) → is_present is_optional mask i ≡ true → walked level (struct_part is_optional mask count ∷ rest) above i 1 ≡ walked level rest (above_fields above is_optional) i 1
present-struct level is_optional mask count rest above i e =
    one-slot level (struct_part is_optional mask count ∷ rest) above i
    ∙ (ap (map (level_of level)) (full_struct-pairs is_optional mask count rest above.def above.depth above.rep i e)
    ∙ sym (one-slot level rest (above_fields above is_optional) i))

-- structs that are there have the levels of what is beneath them
pub present-structs : (level : Level) (is_optional : Bool) (mask : Option (List Bool)) (count : ℕ) (rest : List Part) (above : Above) (place n : ℕ) → above.rep ≡ above.depth → ((i : ℕ) → i < n → is_present is_optional mask (place + i) ≡ true) → walked level (struct_part is_optional mask count ∷ rest) above place n ≡ walked level rest (above_fields above is_optional) place n
present-structs level is_optional mask count rest above place zero same there =
    walked-no level (struct_part is_optional mask count ∷ rest) above place ∙ sym (walked-no level rest (above_fields above is_optional) place)
present-structs level is_optional mask count rest above place (suc n) same there =
    let one : suc n ≡ n + 1 = omega arith in
    let here = struct_part is_optional mask count ∷ rest in
    let under = above_fields above is_optional in
    ap (λ (m : ℕ). walked level here above place m) one
    ∙ (walked-add level here above place n 1 same
    ∙ (ap (λ (xs : List ℕ). xs ++ walked level here above (place + n) 1) (present-structs level is_optional mask count rest above place n same (λ i h. there i (omega (arith, h))))
    ∙ (ap (λ (xs : List ℕ). walked level rest under place n ++ xs) (present-struct level is_optional mask count rest above (place + n) (there n (omega arith)))
    ∙ (sym (walked-add level rest under place n 1 same) ∙ ap (λ (m : ℕ). walked level rest under place m) (sym one)))))

-- the same of those of a cut
pub present-cut : (level : Level) (is_optional : Bool) (mask : Option (List Bool)) (count : ℕ) (rest : List Part) (above : Above) (from place n to : ℕ) (lower upper new : Pieces) → above.rep ≡ above.depth → from ≤ place → 0 < n → place + n ≤ to → to - from ≤ 2048 → ((i : ℕ) → i < n → is_present is_optional mask (place + i) ≡ true) → AreTold (λ m. walked level rest (above_fields above is_optional) from m) (to - from) lower → AreTold (λ m. walked level (struct_part is_optional mask count ∷ rest) above from m) (place - from) upper → new.told ≡ upper.told ++ take (slice_index lower.starts (place - from + n) - slice_index lower.starts (place - from)) (drop (slice_index lower.starts (place - from)) lower.told) → ((j : ℕ) → j < place - from + 1 → slice_index new.starts j ≡ slice_index upper.starts j) → ((j : ℕ) → place - from + 1 ≤ j → j < place - from + 1 + n → slice_index new.starts j ≡ slice_index lower.starts j - slice_index lower.starts (place - from) + length upper.told) → AreTold (λ m. walked level (struct_part is_optional mask count ∷ rest) above from m) (place + n - from) new
present-cut level is_optional mask count rest above from place n to lower upper new same after some within room there beneath h add before each =
    let under = above_fields above is_optional in
    let here = struct_part is_optional mask count ∷ rest in
    let a : ℕ = place - from in
    let at : from + a ≡ place = omega (arith, after) in
    let size : a + n - a ≡ n = omega arith in
    let is = cut level rest under from (to - from) a (a + n) lower same (omega (arith, some)) (omega (arith, after, within)) beneath in
    let alike = λ (m : ℕ) (le : m ≤ n). present-structs level is_optional mask count rest above (from + a) m same (λ i l. ap (λ (p : ℕ). is_present is_optional mask (p + i)) at ∙ there i (omega (arith, l, le))) in
    told-run level here above from a n (place + n - from) upper new same (omega (arith, after)) (omega (arith, room, within)) h
    (add ∙ ap (λ (xs : List ℕ). upper.told ++ xs) (is.levels ∙ (ap (λ (m : ℕ). walked level rest under (from + a) m) size ∙ sym (alike n (omega arith)))))
    (λ j le. before j (omega (arith, le)))
    (λ j more le.
    let apart = starts-apart level rest under from (to - from) a j lower same (omega (arith, more)) (omega (arith, le, after, within)) beneath in
    let length_same : length (walked level here above (from + a) (j - a)) ≡ length (walked level rest under (from + a) (j - a)) = ap length (alike (j - a) (omega (arith, le, after))) in
    omega (arith, each j (omega (arith, more)) (omega (arith, le, after)), apart, length_same))

-- ---- slots of one pair each

flat-run : (piece : ℕ → ℕ → List (ℕ × ℕ)) → ((rep i : ℕ) → length (piece rep i) ≡ 1) → (rep depth place n : ℕ) → length (run piece rep depth place n) ≡ n
unfolding run
flat-run piece one rep depth place zero = refl
flat-run piece one rep depth place (suc n) = length-append (piece rep place) (run piece depth depth (place + 1) n) ∙ omega (arith, one rep place, flat-run piece one depth depth (place + 1) n)

length-map' : (level : Level) (ps : List (ℕ × ℕ)) → length (map (level_of level) ps) ≡ length ps
length-map' level [] = refl
length-map' level (p ∷ ps) = ap suc (length-map' level ps)

pub flat-length : (level : Level) (parts : List Part) (above : Above) (place n : ℕ) → FitTogether parts → max_repetition (path_way parts) ≡ 0 → length (walked level parts above place n) ≡ n
flat-length level parts above place n fits flat =
    length-map' level (run (slot_pairs parts above.def above.depth) above.rep above.depth place n)
    ∙ flat-run (slot_pairs parts above.def above.depth) (λ rep i. ap length (flat-pairs parts fits flat above.def above.depth rep i)) above.rep above.depth place n

pub told-flat : (level : Level) (parts : List Part) (above : Above) (place count : ℕ) (pieces : Pieces) → FitTogether parts → max_repetition (path_way parts) ≡ 0 → count ≤ 2048 → ((i : ℕ) → i ≤ count → slice_index pieces.starts i ≡ i) → pieces.told ≡ walked level parts above place count → AreTold (λ n. walked level parts above place n) count pieces
told-flat level parts above place count pieces fits flat few starts told = record {
  few = few;
  told = told;
  starts = λ i h. starts i h ∙ sym (flat-length level parts above place i fits flat);
}

-- ---- a level and those behind it

pub as-definition : (level : Level) (rep : ℕ) (xs : List ℕ) → level ≡ Definition → with_first level rep xs ≡ xs
unfolding with_first
as-definition level rep xs l = rw l refl

as-repetition : (level : Level) (rep : ℕ) (xs : List ℕ) → level ≡ Repetition → with_first level rep xs ≡ rep ∷ drop 1 xs
unfolding with_first
as-repetition level rep xs l = rw l refl

set-front : (front piece : List ℕ) (level : ℕ) → 0 < length piece → slice_set (front ++ piece) (length front) level ≡ front ++ level ∷ drop 1 piece
set-front [] [] level some = absurd (omega (arith, some))
set-front [] (x ∷ xs) level some = refl
set-front (y ∷ front) piece level some = ap (λ (ys : List ℕ). y ∷ ys) (set-front front piece level some)

pub set-repetition : (level : Level) (depth at : ℕ) (told new front piece : List ℕ) → level ≡ Repetition → new ≡ slice_set told at depth → told ≡ front ++ piece → length front ≡ at → 0 < length piece → new ≡ front ++ with_first level depth piece
set-repetition level depth at told new front piece l e is size some =
    e ∙ (ap (λ (xs : List ℕ). slice_set xs at depth) is ∙ (ap (λ (n : ℕ). slice_set (front ++ piece) n depth) (sym size) ∙ (set-front front piece depth some ∙ ap (λ (xs : List ℕ). front ++ xs) (sym (as-repetition level depth piece l)))))

pub set-definition : (level : Level) (depth : ℕ) (told front piece : List ℕ) → level ≡ Definition → told ≡ front ++ piece → told ≡ front ++ with_first level depth piece
set-definition level depth told front piece l is = is ∙ ap (λ (xs : List ℕ). front ++ xs) (sym (as-definition level depth piece l))

-- some levels are not none
pub cut-size : (xs : List ℕ) (from to : ℕ) → to ≤ length xs → length (take (to - from) (drop from xs)) ≡ to - from
cut-size xs from to within = length-take-le (to - from) (drop from xs) (omega (arith, within, length-drop from xs))

-- ---- a slot by those beneath it

one_level : (level : Level) (above : Above) (def value : ℕ) → above.rep ≡ above.depth → value ≡ level_of level (above.depth, def) → value ∷ [] ≡ level_of level (above.rep, def) ∷ []
one_level level above def value same e = ap (λ (l : ℕ). l ∷ []) (e ∙ ap (λ (r : ℕ). level_of level (r, def)) (sym same))

pub null-list-level : (level : Level) (is_optional : Bool) (mask : Option (List Bool)) (offsets : List ℕ) (rest : List Part) (above : Above) (i value : ℕ) → above.rep ≡ above.depth → value ≡ level_of level (above.depth, above.def) → is_present is_optional mask i ≡ false → value ∷ [] ≡ walked level (list_part is_optional mask offsets ∷ rest) above i 1
null-list-level level is_optional mask offsets rest above i value same e null = one_level level above above.def value same e ∙ null-list level is_optional mask offsets rest above i null

pub empty-list-level : (level : Level) (is_optional : Bool) (mask : Option (List Bool)) (offsets : List ℕ) (rest : List Part) (above : Above) (i def value from to : ℕ) → above.rep ≡ above.depth → value ≡ level_of level (above.depth, def) → def ≡ above.def + bit is_optional → is_present is_optional mask i ≡ true → from ≡ item_start offsets i → to ≡ item_start offsets (i + 1) → from ≡ to → value ∷ [] ≡ walked level (list_part is_optional mask offsets ∷ rest) above i 1
empty-list-level level is_optional mask offsets rest above i def value from to same e d there f t z =
    let none : item_count offsets i ≡ 0 = omega (arith, f, t, z) in
    one_level level above def value same e ∙ (ap (λ (n : ℕ). level_of level (above.rep, n) ∷ []) d ∙ empty-list level is_optional mask offsets rest above i there none)

pub null-struct-level : (level : Level) (is_optional : Bool) (mask : Option (List Bool)) (count : ℕ) (rest : List Part) (above : Above) (i value : ℕ) → above.rep ≡ above.depth → value ≡ level_of level (above.depth, above.def) → is_present is_optional mask i ≡ false → value ∷ [] ≡ walked level (struct_part is_optional mask count ∷ rest) above i 1
null-struct-level level is_optional mask count rest above i value same e null = one_level level above above.def value same e ∙ null-struct level is_optional mask count rest above i null

pub items-rise : (offsets : List ℕ) (i j : ℕ) → IsRising offsets → i ≤ j → j < length offsets → item_start offsets i ≤ item_start offsets j
items-rise offsets i j rise le within = omega (arith, rising offsets i j rise le within)

pub list-cut : (level : Level) (is_optional : Bool) (rest : List Part) (above : Above) (first last from to : ℕ) (pieces : Pieces) → from < to → first ≤ from → to ≤ last → AreTold (λ n. walked level rest (above_items above is_optional) first n) (last - first) pieces → IsCut level rest (above_items above is_optional) first (from - first) (to - first) pieces
list-cut level is_optional rest above first last from to pieces some after before h =
    cut level rest (above_items above is_optional) first (last - first) (from - first) (to - first) pieces refl (omega (arith, some, after)) (omega (arith, before)) h

pub record IsAt (level : Level) (parts : List Part) (above : Above) (place count start stop : ℕ) (pieces : Pieces) : Type 0 where
  pub ordered : slice_index pieces.starts start < slice_index pieces.starts stop
  pub within : slice_index pieces.starts stop ≤ length pieces.told
  pub levels : take (slice_index pieces.starts stop - slice_index pieces.starts start) (drop (slice_index pieces.starts start) pieces.told) ≡ walked level parts above place count

pub list-at : (level : Level) (is_optional : Bool) (rest : List Part) (above : Above) (first last from to start stop : ℕ) (pieces : Pieces) → start ≡ from - first → stop ≡ to - first → from < to → first ≤ from → to ≤ last → AreTold (λ n. walked level rest (above_items above is_optional) first n) (last - first) pieces → IsAt level rest (above_items above is_optional) (first + (from - first)) (to - first - (from - first)) start stop pieces
list-at level is_optional rest above first last from to start stop pieces es et some after before h =
    let is = list-cut level is_optional rest above first last from to pieces some after before h in
    record {
      ordered = rw (es, et) is.ordered;
      within = rw et is.within;
      levels = rw (es, et) is.levels;
    }

-- where items lie, counted from those of the first list
pub items-apart : (offsets : List ℕ) (from i start stop : ℕ) → IsRising offsets → from ≤ i → i + 1 < length offsets → start ≡ item_start offsets i - item_start offsets from → stop ≡ item_start offsets (i + 1) - item_start offsets from → start ≢ stop → item_start offsets i < item_start offsets (i + 1)
items-apart offsets from i start stop rise le within s t apart =
    omega (arith, s, t, apart, items-rise offsets from i rise le (omega (arith, within)), items-rise offsets i (i + 1) rise (omega arith) within)

pub items-same : (offsets : List ℕ) (from i start stop : ℕ) → IsRising offsets → from ≤ i → i + 1 < length offsets → start ≡ item_start offsets i - item_start offsets from → stop ≡ item_start offsets (i + 1) - item_start offsets from → start ≡ stop → item_start offsets i ≡ item_start offsets (i + 1)
items-same offsets from i start stop rise le within s t same =
    omega (arith, s, t, same, items-rise offsets from i rise le (omega (arith, within)), items-rise offsets i (i + 1) rise (omega arith) within)

-- the same by the offsets themselves
pub offsets-apart : (offsets : List ℕ) (from i start : ℕ) → IsRising offsets → from ≤ i → i < length offsets → start ≡ slice_index offsets i - slice_index offsets from → start ≡ item_start offsets i - item_start offsets from
offsets-apart offsets from i start rise le within s =
    omega (arith, s, rising offsets 0 from rise (omega arith) (omega (arith, le, within)), rising offsets from i rise le within)

pub list-by-cut : (level : Level) (is_optional : Bool) (mask : Option (List Bool)) (offsets : List ℕ) (rest : List Part) (above : Above) (i first from to : ℕ) (levels : List ℕ) → above.rep ≡ above.depth → is_present is_optional mask i ≡ true → from ≡ item_start offsets i → to ≡ item_start offsets (i + 1) → from < to → first ≤ from → levels ≡ walked level rest (above_items above is_optional) (first + (from - first)) (to - first - (from - first)) → with_first level above.depth levels ≡ walked level (list_part is_optional mask offsets ∷ rest) above i 1
list-by-cut level is_optional mask offsets rest above i first from to levels same there f t some after e =
    let place : first + (from - first) ≡ item_start offsets i = omega (arith, after, f) in
    let count : to - first - (from - first) ≡ item_count offsets i = omega (arith, after, some, f, t) in
    let more : 0 < item_count offsets i = omega (arith, some, f, t) in
    ap (with_first level above.depth) (e ∙ (ap (λ (p : ℕ). walked level rest (above_items above is_optional) p (to - first - (from - first))) place ∙ ap (λ (n : ℕ). walked level rest (above_items above is_optional) (item_start offsets i) n) count))
    ∙ (ap (λ (r : ℕ). with_first level r (walked level rest (above_items above is_optional) (item_start offsets i) (item_count offsets i))) (sym same)
    ∙ full-list level is_optional mask offsets rest above i there more)

pub struct-cut : (level : Level) (is_optional : Bool) (rest : List Part) (above : Above) (place from to : ℕ) (pieces : Pieces) → above.rep ≡ above.depth → from ≤ place → place < to → AreTold (λ n. walked level rest (above_fields above is_optional) from n) (to - from) pieces → IsCut level rest (above_fields above is_optional) from (place - from) (place - from + 1) pieces
struct-cut level is_optional rest above place from to pieces same after before h =
    cut level rest (above_fields above is_optional) from (to - from) (place - from) (place - from + 1) pieces same (omega arith) (omega (arith, after, before)) h

pub struct-by-cut : (level : Level) (is_optional : Bool) (mask : Option (List Bool)) (count : ℕ) (rest : List Part) (above : Above) (place from : ℕ) (levels : List ℕ) → above.rep ≡ above.depth → is_present is_optional mask place ≡ true → from ≤ place → levels ≡ walked level rest (above_fields above is_optional) (from + (place - from)) (place - from + 1 - (place - from)) → with_first level above.depth levels ≡ walked level (struct_part is_optional mask count ∷ rest) above place 1
struct-by-cut level is_optional mask count rest above place from levels same there after e =
    let here : from + (place - from) ≡ place = omega (arith, after) in
    let one : place - from + 1 - (place - from) ≡ 1 = omega arith in
    ap (with_first level above.depth) (e ∙ (ap (λ (p : ℕ). walked level rest (above_fields above is_optional) p (place - from + 1 - (place - from))) here ∙ ap (λ (n : ℕ). walked level rest (above_fields above is_optional) place n) one))
    ∙ (ap (λ (r : ℕ). with_first level r (walked level rest (above_fields above is_optional) place 1)) (sym same)
    ∙ full-struct level is_optional mask count rest above place there)

-- ---- bytes among others

pub take-less : (a b : ℕ) (xs : List ℕ) → a ≤ b → take a (take b xs) ≡ take a xs
take-less zero b xs le = refl
take-less (suc a) zero xs le = absurd (omega (arith, le))
take-less (suc a) (suc b) [] le = refl
take-less (suc a) (suc b) (x ∷ xs) le = ap (λ (ys : List ℕ). x ∷ ys) (take-less a b xs (omega (arith, le)))

pub take-among : (n k f : ℕ) (xs : List ℕ) → k + n ≤ f → take n (drop k (take f xs)) ≡ take n (drop k xs)
take-among n zero f xs le = take-less n f xs (omega (arith, le))
take-among n (suc k) zero xs le = absurd (omega (arith, le))
take-among n (suc k) (suc f) [] le = refl
take-among n (suc k) (suc f) (x ∷ xs) le = take-among n k f xs (omega (arith, le))

take-behind : (xs ys : List ℕ) (n : ℕ) → take (length xs + n) (xs ++ ys) ≡ xs ++ take n ys
take-behind [] ys n = ap (λ (k : ℕ). take k ys) (omega arith)
take-behind (x ∷ xs) ys n =
    let e : length (x ∷ xs) + n ≡ suc (length xs + n) = omega arith in
    rw e (ap (λ (zs : List ℕ). x ∷ zs) (take-behind xs ys n))

pub take-few : (at count most : ℕ) (before after bytes : List ℕ) → count ≤ most → at ≤ length before → take (at + most) after ≡ take at before ++ bytes → take (at + count) after ≡ take at before ++ take count bytes
take-few at count most before after bytes le room e =
    let n : length (take at before) ≡ at = length-take-le at before room in
    let m : at + count ≡ length (take at before) + count = omega (arith, n) in
    sym (take-less (at + count) (at + most) after (omega (arith, le))) ∙ (ap (take (at + count)) e ∙ (ap (λ (k : ℕ). take k (take at before ++ bytes)) m ∙ take-behind (take at before) bytes count))
