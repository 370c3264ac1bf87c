-- The levels of a walk, stretch by stretch.
use Rattle.std.proofs.Common.{◌≡◌, ℕ, zero, suc, ◌-◌, ◌<◌, ◌≤◌, List, [], ◌∷◌, ◌++◌, map, replicate, refl, arith, ap, sym, ◌∙◌, subst, append_assoc, append-nil}
use Rattle.std.proofs.lemmas.List.{map-append}
use Rattle.shredding.specs.Parts.{Part, slot_count}
use Rattle.levels.specs.Levels.{run, slot_pairs, path_pairs}
use Rattle.levels.specs.Stretch.{like_pairs}
use Rattle.levels.proofs.Runs.{run-split}
use Rattle.pq_runs.specs.Writing.{Keeps, Waiting}
use Rattle.levels.specs.declared.walk.Level.{Level}
use Rattle.levels.specs.declared.walk.Level.TheVariants.{Repetition, Definition}
use Rattle.level_sections.specs.declared.walk.Above.{Above}
use Rattle.levels.specs.Stretch.{level_of}
use Rattle.level_sections.specs.Walk.{walked, Goes}

map-replicate : (f : ℕ × ℕ → ℕ) (n : ℕ) (p : ℕ × ℕ) → map f (replicate n p) ≡ replicate n (f p)
map-replicate f zero p = refl
map-replicate f (suc n) p = ap (λ xs. f p ∷ xs) (map-replicate f n p)

definitions_of : (rep depth def count : ℕ) → map (level_of Definition) (like_pairs rep depth def count) ≡ replicate count def
unfolding like_pairs
definitions_of rep depth def zero = refl
definitions_of rep depth def (suc count) = ap (λ xs. def ∷ xs) (map-replicate (level_of Definition) count (depth, def))

pub definitions-like : (level : Level) (rep depth def count : ℕ) → level ≡ Definition → map (level_of level) (like_pairs rep depth def count) ≡ replicate count def
definitions-like level rep depth def count e = subst (λ (l : Level). map (level_of l) (like_pairs rep depth def count) ≡ replicate count def) (sym e) (definitions_of rep depth def count)

repetitions_of : (rep depth def count : ℕ) → 0 < count → map (level_of Repetition) (like_pairs rep depth def count) ≡ replicate 1 rep ++ replicate (count - 1) depth
unfolding like_pairs
repetitions_of rep depth def zero some = absurd (omega arith)
repetitions_of rep depth def (suc count) some =
    let n : count ≡ suc count - 1 = omega arith in
    ap (λ xs. rep ∷ xs) (map-replicate (level_of Repetition) count (depth, def) ∙ ap (λ (k : ℕ). replicate k depth) n)

pub repetitions-like : (level : Level) (rep depth def count : ℕ) → level ≡ Repetition → 0 < count → map (level_of level) (like_pairs rep depth def count) ≡ replicate 1 rep ++ replicate (count - 1) depth
repetitions-like level rep depth def count e some =
    subst (λ (l : Level). map (level_of l) (like_pairs rep depth def count) ≡ replicate 1 rep ++ replicate (count - 1) depth) (sym e) (repetitions_of rep depth def count some)

pub walked-none : (level : Level) (parts : List Part) (above : Above) (place count : ℕ) → count ≡ 0 → walked level parts above place count ≡ []
unfolding run
walked-none level parts above place zero e = refl
walked-none level parts above place (suc count) e = absurd (omega arith)

-- one stretch of a walk, and what is left
pub walked-step : (level : Level) (parts : List Part) (here next : Above) (place end to : ℕ) → next.rep ≡ here.depth → next.def ≡ here.def → next.depth ≡ here.depth → place < end → end ≤ to → walked level parts here place (to - place) ≡ walked level parts here place (end - place) ++ walked level parts next end (to - end)
walked-step level parts here next place end to er ed ek some within =
    ap (map (level_of level)) (run-split (slot_pairs parts here.def here.depth) here.rep here.depth place end to some within)
    ∙ (map-append (level_of level) (run (slot_pairs parts here.def here.depth) here.rep here.depth place (end - place)) (run (slot_pairs parts here.def here.depth) here.depth here.depth end (to - end))
    ∙ ap (λ xs. walked level parts here place (end - place) ++ xs) (rw (er, ed, ek) refl))

pub goes_on : (start out out' : List ℕ) (w w' : Waiting) (left piece left' whole : List ℕ) → left ≡ piece ++ left' → ((start' xs : List ℕ) → Keeps start' out w xs → Keeps start' out' w' (xs ++ piece)) → Goes start out w left whole → Goes start out' w' left' whole
goes_on start out out' w w' left piece left' whole e f g = record {
  done = g.done ++ piece;
  all = append_assoc g.done piece left' ∙ (ap (λ (t : List ℕ). g.done ++ t) (sym e) ∙ g.all);
  keeps = f start g.done g.keeps;
}

pub goes_end : (start out : List ℕ) (w : Waiting) (left whole : List ℕ) → left ≡ [] → Goes start out w left whole → Keeps start out w whole
goes_end start out w left whole e g =
    let all : g.done ≡ whole = sym (append-nil g.done) ∙ (ap (λ (t : List ℕ). g.done ++ t) (sym e) ∙ g.all) in
    subst (λ (t : List ℕ). Keeps start out w t) all g.keeps

-- the walk over a whole path
pub walked-path : (level : Level) (parts : List Part) (above : Above) (count : ℕ) → above.rep ≡ 0 → above.def ≡ 0 → above.depth ≡ 0 → count ≡ slot_count parts → walked level parts above 0 (count - 0) ≡ map (level_of level) (path_pairs parts)
unfolding path_pairs
walked-path level parts above count er ed ek e =
    let n : count - 0 ≡ slot_count parts = omega (arith, e) in
    rw (er, ed, ek, n) refl
