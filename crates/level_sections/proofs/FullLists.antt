-- Lists with items, side by side.
use Rattle.std.proofs.Common.{◌≡◌, ◌≢◌, ℕ, ◌+◌, ◌-◌, ◌/◌, ◌%◌, ◌^◌, ◌<◌, ◌≤◌, ◌==◌, Bool, true, false, true≢false, not, cond, eqb, min, bit_and, w16, map, get_or, Option, List, [], ◌∷◌, ◌++◌, drop, length, take, inl, inr, refl, arith, ap, sym, ◌∙◌, append_assoc, append-nil}
use Rattle.std.proofs.Math.Seq.{take-add}
use Rattle.std.proofs.lemmas.List.{drop-drop, length-append}
use Rattle.std.proofs.lemmas.Nat.{shr-shr, shr_le}
use Rattle.std.proofs.lemmas.Nat.Bits.{shr_and_one, bit_at-lt, bit_at_and, bit_at_lowest}
use Rattle.std.proofs.lemmas.Bool.{eq-eqb}
use Rattle.std.proofs.lemmas.Bool.Decides.{eqb_tells}
use Rattle.std.proofs.lemmas.Simd.{bit_mask_l, get_or-zip2, length-zip2, mask_l-mod, tops_compared}
use lib.Lanes.{mask_l, top, zip2}
use mir.Val.{bits, hbits}
use Rattle.std.specs.Int.{bit_at, trailing_ones, w64}
use Rattle.columns_core.proofs.Words.{ones_end, ones_run}
use Rattle.std.specs.Prelude.{slice_index}
use Rattle.shredding.specs.Parts.{Part, list_part, is_present, item_start}
use Rattle.columns_core.specs.Rising.{IsRising}
use Rattle.levels.specs.declared.walk.Level.{Level}
use Rattle.levels.specs.declared.walk.Level.TheVariants.{Repetition, Definition}
use Rattle.level_sections.specs.declared.pieces.Pieces.{Pieces}
use Rattle.level_sections.specs.declared.walk.Above.{Above}
use Rattle.level_sections.specs.Pieces.{AreTold, above_items, with_first}
use Rattle.level_sections.specs.Walk.{walked}
use Rattle.level_sections.proofs.SlotLevels.{cut-size, items-apart, items-rise, list-at, list-by-cut, starts-apart, starts-within, walked-add}

-- ---- set bits side by side

moved-bit : (word at i : ℕ) → bit_at (word / 2 ^ at) i ≡ bit_at word (at + i)
moved-bit word at i = sym (shr_and_one (word / 2 ^ at) i) ∙ (ap (λ (k : ℕ). bit_and k 1) (shr-shr word at i) ∙ shr_and_one word (at + i))

pub set-run : (word at run i : ℕ) → word < 2 ^ 64 → run ≡ trailing_ones w64 (word / 2 ^ at) → i < run → (bit_at word (at + i) == 1) ≡ true
set-run word at run i low e h = ap (λ (k : ℕ). k == 1) (sym (moved-bit word at i)) ∙ ones_run (word / 2 ^ at) (omega (arith, low, shr_le word at)) i (omega (arith, e, h))

pub no-run : (word at run : ℕ) → word < 2 ^ 64 → run ≡ trailing_ones w64 (word / 2 ^ at) → run ≡ 0 → (bit_at word at == 1) ≡ false
no-run word at run low e z =
    let here : at + 0 ≡ at = omega arith in
    let none : trailing_ones w64 (word / 2 ^ at) ≡ 0 = sym e ∙ z in
    ap (λ (k : ℕ). bit_at word k == 1) (sym here)
    ∙ (ap (λ (k : ℕ). k == 1) (sym (moved-bit word at 0))
    ∙ (ap (λ (k : ℕ). bit_at (word / 2 ^ at) k == 1) (sym none) ∙ ones_end (word / 2 ^ at) (omega (arith, low, shr_le word at)) (omega (arith, none))))

-- ---- the lists of a word that have items

set-is : (n : ℕ) → (n == 1) ≡ true → n ≡ 1
set-is n e = elim (eqb_tells n 1) [ inl h ↦ h.1 | inr h ↦ absurd (true≢false (sym e ∙ h.0)) ]

both-set : (a b : ℕ) → a < 2 → b < 2 → (min a b == 1) ≡ true → (a ≡ 1) × ((b == 1) ≡ true)
both-set a b p q e =
    let one : min a b ≡ 1 = set-is (min a b) e in
    let b_is : b ≡ 1 = omega (arith, one, q) in
    (omega (arith, one, p), ap (λ (k : ℕ). k == 1) b_is)

one-is : (b : Bool) → ◌≡◌ {A = ℕ} (cond b 1 0) 1 → b ≡ true
one-is true e = refl
one-is false e = absurd (omega (arith, e))

differ : (x y : ℕ) → not (eqb x y) ≡ true → x ≢ y
differ x y e same = true≢false (sym e ∙ ap not (eq-eqb x y same))

lowest-of : (n i : ℕ) → bit_at n i ≡ n / 2 ^ i % 2
lowest-of n i =
    let here : i + 0 ≡ i = omega arith in
    ap (bit_at n) (sym here) ∙ (sym (moved-bit n i 0) ∙ bit_at_lowest (n / 2 ^ i))

-- what compares two vectors of 64 lanes, beside another word
pub apart-at : (xs ys : List ℕ) (word i : ℕ) → length xs ≡ 64 → length ys ≡ 64 → i < 64 → (bit_at (bit_and (mask_l (map (top (hbits w16)) (zip2 (λ a b. cond (not (eqb a b)) (2 ^ bits w16 - 1) 0) xs ys)) % 2 ^ 64) word) i == 1) ≡ true → ((bit_at word i == 1) ≡ true) × (get_or xs i 0 ≢ get_or ys i 0)
apart-at xs ys word i n m few e =
    let ms : List Bool = zip2 (λ a b. not (eqb a b)) xs ys in
    let mask : mask_l (map (top (hbits w16)) (zip2 (λ a b. cond (not (eqb a b)) (2 ^ bits w16 - 1) 0) xs ys)) % 2 ^ 64 ≡ mask_l ms =
    ap (λ (bs : List Bool). mask_l bs % 2 ^ 64) (tops_compared w16 (λ a b. not (eqb a b)) xs ys) ∙ mask_l-mod ms 64 (omega (arith, length-zip2 (λ a b. not (eqb a b)) xs ys (n ∙ sym m), n)) in
    let both = both-set (bit_at (mask_l ms) i) (bit_at word i) (bit_at-lt (mask_l ms) i) (bit_at-lt word i) (ap (λ (k : ℕ). k == 1) (sym (bit_at_and (mask_l ms) word i)) ∙ (ap (λ (k : ℕ). bit_at (bit_and k word) i == 1) (sym mask) ∙ e)) in
    let set : get_or ms i false ≡ true = one-is (get_or ms i false) (sym (bit_mask_l ms i) ∙ (sym (lowest-of (mask_l ms) i) ∙ both.0)) in
    (both.1, differ (get_or xs i 0) (get_or ys i 0) (sym (get_or-zip2 (λ a b. not (eqb a b)) xs ys i 0 0 false (omega (arith, n, few)) (omega (arith, m, few))) ∙ set))

-- ---- the levels of lists with items

with_first-append : (level : Level) (depth : ℕ) (xs ys : List ℕ) → 0 < length xs → with_first level depth (xs ++ ys) ≡ with_first level depth xs ++ ys
unfolding with_first
with_first-append Repetition depth [] ys some = absurd (omega (arith, some))
with_first-append Repetition depth (x ∷ xs) ys some = refl
with_first-append Definition depth xs ys some = refl

with_first-length : (level : Level) (depth : ℕ) (xs : List ℕ) → 0 < length xs → length (with_first level depth xs) ≡ length xs
unfolding with_first
with_first-length Repetition depth [] some = absurd (omega (arith, some))
with_first-length Repetition depth (x ∷ xs) some = refl
with_first-length Definition depth xs some = refl

pub take-parts : (a b s : ℕ) (xs : List ℕ) → a ≤ b → b ≤ s → take (s - a) (drop a xs) ≡ take (b - a) (drop a xs) ++ take (s - b) (drop b xs)
take-parts a b s xs le more =
    let n : s - a ≡ b - a + (s - b) = omega (arith, le, more) in
    let back : a + (b - a) ≡ b = omega (arith, le) in
    ap (λ (k : ℕ). take k (drop a xs)) n
    ∙ (take-add (b - a) (s - b) (drop a xs)
    ∙ ap (λ (ys : List ℕ). take (b - a) (drop a xs) ++ take (s - b) ys) (drop-drop (b - a) a xs ∙ ap (λ (i : ℕ). drop i xs) back))

-- the levels of one list by a cut of those of the items
pub record IsFull (level : Level) (parts : List Part) (above : Above) (place a b : ℕ) (pieces : Pieces) : Type 0 where
  pub ordered : slice_index pieces.starts a < slice_index pieces.starts b
  pub within : slice_index pieces.starts b ≤ length pieces.told
  pub levels : with_first level above.depth (take (slice_index pieces.starts b - slice_index pieces.starts a) (drop (slice_index pieces.starts a) pieces.told)) ≡ walked level parts above place 1

pub full-at : (level : Level) (is_optional : Bool) (mask : Option (List Bool)) (offsets : List ℕ) (rest : List Part) (above : Above) (from i last start stop : ℕ) (lower : Pieces) → above.rep ≡ above.depth → IsRising offsets → from ≤ i → i + 1 < length offsets → item_start offsets (i + 1) ≤ last → is_present is_optional mask i ≡ true → start ≡ item_start offsets i - item_start offsets from → stop ≡ item_start offsets (i + 1) - item_start offsets from → start ≢ stop → AreTold (λ n. walked level rest (above_items above is_optional) (item_start offsets from) n) (last - item_start offsets from) lower → IsFull level (list_part is_optional mask offsets ∷ rest) above i start stop lower
full-at level is_optional mask offsets rest above from i last start stop lower same rise after within before there s t apart h =
    let some = items-apart offsets from i start stop rise after within s t apart in
    let behind = items-rise offsets from i rise after (omega (arith, within)) in
    let is = list-at level is_optional rest above (item_start offsets from) last (item_start offsets i) (item_start offsets (i + 1)) start stop lower s t some behind before h in
    record {
      ordered = is.ordered;
      within = is.within;
      levels = list-by-cut level is_optional mask offsets rest above i (item_start offsets from) (item_start offsets i) (item_start offsets (i + 1)) _ same there refl refl some behind is.levels;
    }

-- the levels of one list more, where those of the items of some lists stand behind
pub full-step : (level : Level) (parts : List Part) (above : Above) (from i n next a b s : ℕ) (lower : Pieces) (told set : List ℕ) → above.rep ≡ above.depth → i ≡ from + n → next ≡ n + 1 → IsFull level parts above i a b lower → slice_index lower.starts b ≤ s → told ≡ walked level parts above from n ++ take (s - slice_index lower.starts a) (drop (slice_index lower.starts a) lower.told) → set ≡ walked level parts above from n ++ with_first level above.depth (take (s - slice_index lower.starts a) (drop (slice_index lower.starts a) lower.told)) → (set ≡ walked level parts above from next ++ take (s - slice_index lower.starts b) (drop (slice_index lower.starts b) lower.told)) × (length (walked level parts above from next) ≡ length (walked level parts above from n) + (slice_index lower.starts b - slice_index lower.starts a))
full-step level parts above from i n next a b s lower told set same here more is before e f =
    let lo : ℕ = slice_index lower.starts a in
    let hi : ℕ = slice_index lower.starts b in
    let piece : List ℕ = take (hi - lo) (drop lo lower.told) in
    let behind : List ℕ = take (s - hi) (drop hi lower.told) in
    let size : length piece ≡ hi - lo = cut-size lower.told lo hi is.within in
    let some : 0 < length piece = omega (arith, size, is.ordered) in
    let grown : walked level parts above from next ≡ walked level parts above from n ++ with_first level above.depth piece =
    ap (λ (m : ℕ). walked level parts above from m) more
    ∙ (walked-add level parts above from n 1 same
    ∙ ap (λ (xs : List ℕ). walked level parts above from n ++ xs) (ap (λ (p : ℕ). walked level parts above p 1) (sym here) ∙ sym is.levels)) in (
      f
          ∙ (ap (λ (xs : List ℕ). walked level parts above from n ++ with_first level above.depth xs) (take-parts lo hi s lower.told (omega (arith, is.ordered)) before)
          ∙ (ap (λ (xs : List ℕ). walked level parts above from n ++ xs) (with_first-append level above.depth piece behind some)
          ∙ (sym (append_assoc (walked level parts above from n) (with_first level above.depth piece) behind)
          ∙ ap (λ (xs : List ℕ). xs ++ behind) (sym grown)))),
      ap length grown ∙ (length-append (walked level parts above from n) (with_first level above.depth piece) ∙ omega (arith, with_first-length level above.depth piece some, size)),
    )

pub none-behind : (a s : ℕ) (xs ys : List ℕ) → a ≡ s → ys ++ take (s - a) (drop a xs) ≡ ys
none-behind a s xs ys e =
    let z : s - a ≡ 0 = omega (arith, e) in
    rw z (append-nil ys)

-- ---- lists whose items begin and end at some edges

pub edges-low : (offsets edges : List ℕ) (from place to last j : ℕ) → IsRising offsets → place + to < length offsets → item_start offsets (place + to) ≤ last → last - item_start offsets from ≤ 2048 → ((k : ℕ) → k ≤ to → slice_index edges k ≡ item_start offsets (place + k) - item_start offsets from) → j ≤ to → slice_index edges j ≤ last - item_start offsets from
edges-low offsets edges from place to last j rise within before few is le =
    let one = items-rise offsets (place + j) (place + to) rise (omega (arith, le)) within in
    omega (arith, is j le, one, before)

pub edges-rise : (level : Level) (is_optional : Bool) (offsets edges : List ℕ) (rest : List Part) (above : Above) (from place to last i j : ℕ) (lower : Pieces) → IsRising offsets → from ≤ place → place + to < length offsets → item_start offsets (place + to) ≤ last → ((k : ℕ) → k ≤ to → slice_index edges k ≡ item_start offsets (place + k) - item_start offsets from) → AreTold (λ n. walked level rest (above_items above is_optional) (item_start offsets from) n) (last - item_start offsets from) lower → i ≤ j → j ≤ to → (slice_index lower.starts (slice_index edges i) ≤ slice_index lower.starts (slice_index edges j)) × (slice_index lower.starts (slice_index edges j) ≤ length lower.told)
edges-rise level is_optional offsets edges rest above from place to last i j lower rise after within before is h le high =
    let one = items-rise offsets from (place + i) rise (omega (arith, after)) (omega (arith, le, high, within)) in
    let two = items-rise offsets (place + i) (place + j) rise (omega (arith, le)) (omega (arith, high, within)) in
    let three = items-rise offsets (place + j) (place + to) rise (omega (arith, high)) within in
    let most : slice_index edges j ≤ last - item_start offsets from = omega (arith, is j high, three, before) in
    let apart = starts-apart level rest (above_items above is_optional) (item_start offsets from) (last - item_start offsets from) (slice_index edges i) (slice_index edges j) lower refl (omega (arith, is i (omega (arith, le, high)), is j high, one, two)) most h in
    (omega (arith, apart), starts-within level rest (above_items above is_optional) (item_start offsets from) (last - item_start offsets from) (slice_index edges j) lower refl most h)

pub full-between : (level : Level) (is_optional : Bool) (mask : Option (List Bool)) (offsets edges : List ℕ) (rest : List Part) (above : Above) (from place to last k : ℕ) (lower : Pieces) → above.rep ≡ above.depth → IsRising offsets → from ≤ place → place + to < length offsets → item_start offsets (place + to) ≤ last → ((j : ℕ) → j ≤ to → slice_index edges j ≡ item_start offsets (place + j) - item_start offsets from) → AreTold (λ n. walked level rest (above_items above is_optional) (item_start offsets from) n) (last - item_start offsets from) lower → k < to → slice_index edges k ≢ slice_index edges (k + 1) → is_present is_optional mask (place + k) ≡ true → IsFull level (list_part is_optional mask offsets ∷ rest) above (place + k) (slice_index edges k) (slice_index edges (k + 1)) lower
full-between level is_optional mask offsets edges rest above from place to last k lower same rise after within before is h below apart there =
    let next : place + (k + 1) ≡ place + k + 1 = omega arith in
    let three = items-rise offsets (place + k + 1) (place + to) rise (omega (arith, below)) within in
    full-at level is_optional mask offsets rest above from (place + k) last (slice_index edges k) (slice_index edges (k + 1)) lower same rise (omega (arith, after)) (omega (arith, below, within)) (omega (arith, three, before)) there (is k (omega (arith, below))) (is (k + 1) (omega (arith, below)) ∙ ap (λ (p : ℕ). item_start offsets p - item_start offsets from) next) apart h
