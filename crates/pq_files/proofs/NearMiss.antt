-- Pages that are a byte short.
use Rattle.std.proofs.Common.{◌≡◌, ℕ, Bool, true, false, List, [], ◌∷◌, Ok, Err, length, take, drop, map, None, refl, sym, ap, subst, ◌∙◌}
use Rattle.std.proofs.lemmas.List.{length-map}
use Rattle.shredding.specs.Shred.{Triple}
use Rattle.pq_runs.specs.Hybrid.{Item, runs_items, hybrid}
use Rattle.pq_numbers.specs.Bits.{IsWidth}
use Rattle.pq_numbers.specs.Varint.{varint_up_to}
use Rattle.pq_files.specs.Levels.{HasLevels}
use Rattle.pq_files.specs.FirstFile.{body, the_leaf}
use Rattle.pq_files.specs.NearMiss.{header, cut_levels, AreNoPages}
use Rattle.pq_files.specs.Page.{IsPage}
use Rattle.pq_runs.specs.Runs.{Runs}
use Rattle.pq_numbers.specs.Texts.{Begins}
use Rattle.pq_runs.proofs.Complete.{given, reads}
use Rattle.pq_files.proofs.Sections.{behind_length, length_at, two, one}

abbrev pub has_error : List Item → Bool
has_error [] = false
has_error (Ok n ∷ items) = has_error items
has_error (Err e ∷ items) = true

none_given : (xs : List ℕ) → has_error (given xs) ≡ false
none_given [] = refl
none_given (x ∷ xs) = none_given xs

not_both : (b : Bool) → b ≡ true → b ≡ false → ⊥
not_both b t f = cc (t, f)

-- where reading finds too few, no list of so many numbers is spelled
too_few : (w n : ℕ) (bytes : List ℕ) → has_error (hybrid w n bytes) ≡ true → (xs : List ℕ) → length xs ≡ n → Begins (Runs w) bytes xs → ⊥
too_few w n bytes e xs size b =
    let r : hybrid w n bytes ≡ given xs = subst (λ (k : ℕ). hybrid w k bytes ≡ given xs) size (reads w bytes xs b) in
    not_both (has_error (given xs)) (subst (λ (items : List Item). has_error items ≡ true) r e) (none_given xs)

-- the levels have too few runs
pub short : (n w : ℕ) (section : List ℕ) (levels : List ℕ) → has_error (hybrid w n section) ≡ true → length levels ≡ n → (max : ℕ) → ((v : ℕ) → IsWidth max v → v ≡ w) → HasLevels max section levels → ⊥
short n w section levels none size max is l =
    too_few w n section none levels size (subst (λ (v : ℕ). Begins (Runs v) section levels) (is l.width l.is_width) l.runs)

pub levels_cut : (ts : List Triple) → IsPage the_leaf None (header 5) cut_levels ts → ⊥
unfolding hybrid runs_items varint_up_to
levels_cut ts p =
    let r = behind_length 0 cut_levels p.sections.repetition p.split.behind p.split.repetition in
    let d = behind_length 2 p.split.behind p.sections.definition p.sections.values p.split.definition in
    let section : p.sections.definition ≡ 3 ∷ 79 ∷ [] = d.0 ∙ ap (λ (s : List ℕ). take (length_at s) (drop 4 s)) r.1 in
    short 5 2 (3 ∷ 79 ∷ []) (map (λ t. t.definition) ts) refl (length-map ts (λ (t : Triple). t.definition) ∙ sym p.counted) 3 two (subst (λ (s : List ℕ). HasLevels 3 s (map (λ t. t.definition) ts)) section p.definitions)

too_many : (ts : List Triple) → IsPage the_leaf None (header 9) body ts → ⊥
unfolding hybrid runs_items varint_up_to
too_many ts p =
    let r = behind_length 0 body p.sections.repetition p.split.behind p.split.repetition in
    short 9 1 (3 ∷ 2 ∷ []) (map (λ t. t.repetition) ts) refl (length-map ts (λ (t : Triple). t.repetition) ∙ sym p.counted) 1 one (subst (λ (s : List ℕ). HasLevels 1 s (map (λ t. t.repetition) ts)) r.0 p.repetitions)

pub are_no_pages : AreNoPages
are_no_pages = record { levels_cut = levels_cut; too_many = too_many }
