-- A page begins with a row.
use Rattle.std.proofs.Common.{◌≡◌, ◌≤◌, ℕ, List, [], ◌∷◌, length, map, refl, sym, ◌∙◌, arith}
use Rattle.std.specs.Prelude.{None}
use Rattle.shredding.specs.Laws.{BeginsRow}
use Rattle.shredding.specs.Shred.{Triple}
use Rattle.pq_tree.specs.Tree.{Leaf, max_repetition}
use Rattle.pq_files.specs.Chunk.{IsPageIn, Page, RawPage, count_in}
use Rattle.pq_files.specs.Levels.{HasLevels}
use Rattle.pq_files.specs.PageReasons.{GoesOn}
use Rattle.pq_files.proofs.Unique.{levels_same, split_same}
use Rattle.unique_rows.proofs.Fronts.{levels_front}
use Rattle.unique_rows.proofs.Given.{counted_as}

heads : (x y : ℕ) (xs ys : List ℕ) → x ∷ xs ≡ y ∷ ys → x ≡ y
heads x y xs ys e = cc e

begins : (max : ℕ) (section other : List ℕ) (first : Triple) (ts : List Triple) → section ≡ other → 1 ≤ length ts → BeginsRow ts → HasLevels max section (map (λ t. t.repetition) ts) → HasLevels max other (map (λ t. t.repetition) (first ∷ [])) → first.repetition ≡ 0
begins max section other first [] e some row a b = absurd (omega (arith, some))
begins max section other first (t ∷ ts) e some row a b =
    let same = levels_same max section other (t.repetition ∷ []) (first.repetition ∷ []) e (levels_front max 1 section (t.repetition ∷ map (λ u. u.repetition) ts) a) b refl in
    sym (heads t.repetition first.repetition [] [] same) ∙ row

pub none_goes_on : (l : Leaf) (raw : RawPage) (q : Page) → IsPageIn l None raw q → GoesOn l raw → ⊥
none_goes_on l raw q h g =
    let same = split_same l raw.header raw.body h.is.sections g.shows.sections h.is.split g.shows.split in
    let size : length q.triples ≡ count_in raw.header = counted_as raw.header h.is.encoding q.triples h.is.has_encoding h.is.counted in
    let e : g.first.repetition ≡ 0 = begins (max_repetition l) h.is.sections.repetition g.shows.sections.repetition g.first q.triples same.repetition (omega (arith, size, g.shows.few)) h.is.begins_row h.is.repetitions g.shows.repetitions in
    omega (arith, g.repeats, e)
