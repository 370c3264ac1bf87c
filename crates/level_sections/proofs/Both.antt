-- Both sections of a column.
use Rattle.std.proofs.Common.{◌≡◌, ℕ, Bool, Option, [], ◌∷◌, ◌+◌, ◌*◌, ◌<◌, ◌≤◌, ◌^◌, List, ◌++◌, length, map, refl, sym, ap, subst, ◌∙◌, arith, append_assoc}
use Rattle.std.proofs.lemmas.List.{length-map}
use Rattle.std.proofs.Math.Nat.{mul-le-mul_right}
use Rattle.shredding.specs.Slot.{Value}
use Rattle.shredding.specs.Parts.{leaf_part, IsPath, MaskFits, path_way}
use Rattle.levels.specs.declared.nested.Nested.{Nested}
use Rattle.levels.specs.Nested.{part_of, parts_of, nested_column}
use Rattle.levels.specs.Levels.{path_pairs}
use Rattle.levels.proofs.Sizes.{length-path_pairs, total-leaf}
use Rattle.levels.proofs.Columns.{repetitions-column, definitions-column, length-column}
use Rattle.pq_tree.specs.declared.version.Version.{Version}
use Rattle.pq_files.specs.Room.{level_room}
use Rattle.levels.specs.declared.walk.Level.TheVariants.{Repetition, Definition}
use Rattle.levels.specs.Stretch.{level_of}
use Rattle.level_sections.specs.Walk.{greatest}
use Rattle.level_sections.specs.Sections.{HoldsLevels, AppendsOne, AppendsBoth, AppendsSections, AppendsLevels}
use Rattle.level_sections.proofs.Within.{width-most, width-repetition}

times : (w m n : ℕ) → w ≤ m → w * n ≤ m * n
times w m n h = grind (arith, mul-le-mul_right)

in_few : (w v a b n : ℕ) → w ≤ 7 → v ≤ 8 → 504 * a ≤ (63 * w + 1) * n + 441 * w + 2520 → 504 * b ≤ (63 * v + 1) * n + 441 * v + 2520 → a + b ≤ 2 * n + 24
in_few w v a b n hw hv ha hb =
    let x : (63 * w + 1) * n ≤ 442 * n = times (63 * w + 1) 442 n (omega (arith, hw)) in
    let y : (63 * v + 1) * n ≤ 505 * n = times (63 * v + 1) 505 n (omega (arith, hv)) in
    omega (arith, x, y, ha, hb, hw, hv)

pub sections_of : (values : ℕ → Value) (version : Version) (nested : List Nested) (before after : List ℕ) (r d : ℕ) → IsPath (parts_of nested) → length nested ≤ 128 → AppendsBoth version (parts_of nested) before after r d → AppendsSections version (path_way (parts_of nested)) (nested_column values nested) before after (r, d)
sections_of values version nested before after r d well few both =
    let parts = parts_of nested in
    let a = both.repetitions in
    let b = both.definitions in
    let short : length parts ≤ 128 = rw (length-map nested part_of) few in
    let n : length (nested_column values nested) ≡ length (path_pairs parts) = length-column values nested in
    let na : length (map (level_of Repetition) (path_pairs parts)) ≡ length (nested_column values nested) = length-map (path_pairs parts) (level_of Repetition) ∙ sym n in
    let nb : length (map (level_of Definition) (path_pairs parts)) ≡ length (nested_column values nested) = length-map (path_pairs parts) (level_of Definition) ∙ sym n in
    let la = ap (λ (k : ℕ). (63 * a.holds.are.width + 1) * k) na in
    let lb = ap (λ (k : ℕ). (63 * b.holds.are.width + 1) * k) nb in
    let few_bytes : length a.text + length b.text ≤ 2 * length (nested_column values nested) + 24 = in_few a.holds.are.width b.holds.are.width (length a.text) (length b.text) (length (nested_column values nested)) (width-repetition parts a.holds.are.width well short a.holds.are.is_width) (width-most Definition parts b.holds.are.width well short b.holds.are.is_width) (omega (arith, a.tight, la)) (omega (arith, b.tight, lb)) in
    record {
      repetition = a.text;
      definition = b.text;
      parts = b.parts ∙ ap (λ (t : List ℕ). t ++ b.text) a.parts ∙ append_assoc before a.text b.text;
      repetitions = subst (λ (levels : List ℕ). HoldsLevels version (greatest Repetition parts) a.text levels) (repetitions-column values nested (path_pairs parts) refl) a.holds;
      definitions = subst (λ (levels : List ℕ). HoldsLevels version (greatest Definition parts) b.text levels) (definitions-column values nested (path_pairs parts) refl) b.holds;
      sizes_are = ap (λ (k : ℕ). (k, d)) a.size_is ∙ ap (λ (k : ℕ). (length a.text, k)) b.size_is;
      tight = few_bytes;
      room = omega (arith, few_bytes);
    }

-- a definition section alone
pub levels_of : (values : ℕ → Value) (version : Version) (nested : List Nested) (before after : List ℕ) (d : ℕ) → IsPath (parts_of nested) → length nested ≤ 128 → AppendsOne version (greatest Definition (parts_of nested)) before after (map (level_of Definition) (path_pairs (parts_of nested))) d → AppendsLevels version (greatest Definition (parts_of nested)) before after (map (λ t. t.definition) (nested_column values nested))
levels_of values version nested before after d well few b =
    let parts = parts_of nested in
    let short : length parts ≤ 128 = rw (length-map nested part_of) few in
    let e = definitions-column values nested (path_pairs parts) refl in
    let both = in_few 0 b.holds.are.width 0 (length b.text) (length (map (level_of Definition) (path_pairs parts))) (omega arith) (width-most Definition parts b.holds.are.width well short b.holds.are.is_width) (omega arith) b.tight in
    let room : length b.text ≤ level_room (length (map (level_of Definition) (path_pairs parts))) = omega (arith, both) in
    record {
      text = b.text;
      parts = b.parts;
      holds = subst (λ (levels : List ℕ). HoldsLevels version (greatest Definition parts) b.text levels) e b.holds;
      room = subst (λ (levels : List ℕ). length b.text ≤ level_room (length levels)) e room;
    }

pub few_pairs : (values : ℕ → Value) (nested : List Nested) → length (nested_column values nested) ≤ 1073740799 → length (path_pairs (parts_of nested)) < 2 ^ 30
few_pairs values nested h = omega (arith, h, length-column values nested)

-- a leaf alone
pub flat_path : (is_optional : Bool) (mask : Option (List Bool)) (count : ℕ) → MaskFits mask count → IsPath (leaf_part is_optional mask count ∷ [])
flat_path is_optional mask count fits = record { some = omega arith; fits = ((fits, refl), tt) }

pub flat_pairs : (is_optional : Bool) (mask : Option (List Bool)) (count : ℕ) → MaskFits mask count → length (path_pairs (leaf_part is_optional mask count ∷ [])) ≡ count
flat_pairs is_optional mask count fits =
    length-path_pairs (leaf_part is_optional mask count ∷ []) ∙ total-leaf (leaf_part is_optional mask count ∷ []) 0 count (flat_path is_optional mask count fits) refl
