-- Pieces of rows, one taken after another.
use Rattle.std.proofs.Common.{◌≡◌, ◌⊎◌, ℕ, zero, suc, ◌+◌, ◌-◌, ◌<◌, ◌≤◌, min, Bool, true, false, true≢false, Some, Option, List, [], ◌∷◌, take, drop, length, ap, refl, sym, subst, ◌∙◌, arith, inl, inr}
use Rattle.std.proofs.lemmas.Bool.{cases_lt}
use Rattle.std.proofs.lemmas.List.Elements.{All-from_recursion}
use Rattle.page_statistics.specs.Spelled.{HasOwnBytes}
use Rattle.std.proofs.lemmas.List.{drop_all, drop-drop, length-drop, take_min}
use Rattle.shredding.specs.Cut.{cut, pieces}
use Rattle.shredding.specs.Slot.{Slot}
use Rattle.shredding.specs.Shape.{LeafType, Way}
use Rattle.pq_tree.specs.Physical.{Physical}
use Rattle.pq_files.specs.Layout.{plain_length, rows_per_page}
use Rattle.pq_files.specs.Page.{values_in}
use Rattle.write_pages.specs.Holds.{pieces_left}
use Rattle.write_pages.specs.Rule.{page_limit}
use Rattle.write_pages.specs.Sized.{AreMeasured, IsByRule}

-- with more fuel the pieces are the same
pieces_same : (m k n : ℕ) (rows : List Slot) → 0 < n → length rows ≤ m → length rows ≤ k → pieces m n rows ≡ pieces k n rows
pieces_same zero zero n rows p h g = refl
pieces_same zero (suc k) n [] p h g = refl
pieces_same (suc m) zero n [] p h g = refl
pieces_same (suc m) (suc k) n [] p h g = refl
pieces_same zero (suc k) n (r ∷ rows) p h g = absurd (omega (arith, h))
pieces_same (suc m) zero n (r ∷ rows) p h g = absurd (omega (arith, g))
pieces_same (suc m) (suc k) n (r ∷ rows) p h g =
    ap (λ (ps : List (List Slot)). take n (r ∷ rows) ∷ ps)
    (pieces_same m k n (drop n (r ∷ rows)) p (omega (arith, p, h, length-drop n (r ∷ rows))) (omega (arith, p, g, length-drop n (r ∷ rows))))

pieces_step : (n : ℕ) (rows : List Slot) → 0 < n → 0 < length rows → pieces (length rows) n rows ≡ take n rows ∷ pieces (length (drop n rows)) n (drop n rows)
pieces_step n [] p h = absurd (omega (arith, h))
pieces_step n (r ∷ rows) p h =
    ap (λ (ps : List (List Slot)). take n (r ∷ rows) ∷ ps)
    (pieces_same (length rows) (length (drop n (r ∷ rows))) n (drop n (r ∷ rows)) p (omega (arith, p, length-drop n (r ∷ rows))) (omega arith))

pub none_left : (failed : Bool) (per next : ℕ) (rows : List Slot) → (failed ≡ true) ⊎ (length rows ≤ next) → pieces_left failed per next rows ≡ []
none_left true per next rows h = refl
none_left false per next rows (inl e) = absurd (true≢false (sym e))
none_left false per next rows (inr l) = ap (λ (xs : List Slot). pieces (length xs) per xs) (drop_all next rows l)

-- behind the rows of a page
behind : (per next count : ℕ) (rows : List Slot) → count ≡ min per (length rows - next) → drop per (drop next rows) ≡ drop (next + count) rows
behind per next count rows e = by_order (cases_lt per (length rows - next))
  where
    by_order : (per < length rows - next) ⊎ (length rows - next ≤ per) → drop per (drop next rows) ≡ drop (next + count) rows
    by_order (inl l) =
        let same : count ≡ per = omega (arith, e, l) in
        drop-drop per next rows ∙ ap (λ (k : ℕ). drop (next + k) rows) (sym same)
    by_order (inr l) =
        drop-drop per next rows ∙ (drop_all (next + per) rows (omega (arith, l)) ∙ sym (drop_all (next + count) rows (omega (arith, l, e))))

pub some_left : (failed : Bool) (per next count : ℕ) (rows : List Slot) → failed ≡ false → 0 < per → next < length rows → count ≡ min per (length rows - next)
    → pieces_left failed per next rows ≡ take count (drop next rows) ∷ pieces_left failed per (next + count) rows
some_left true per next count rows f p h e = absurd (true≢false f)
some_left false per next count rows f p h e =
    let few : min per (length (drop next rows)) ≡ count = omega (arith, e, length-drop next rows) in
    pieces_step per (drop next rows) p (omega (arith, h, length-drop next rows))
    ∙ (ap (λ (xs : List Slot). take per (drop next rows) ∷ pieces (length xs) per xs) (behind per next count rows e)
    ∙ ap (λ (xs : List Slot). xs ∷ pieces (length (drop (next + count) rows)) per (drop (next + count) rows)) (sym (take_min per (drop next rows)) ∙ ap (λ (k : ℕ). take k (drop next rows)) few))

-- ---- by the row rule

nothing_of : (rows : List Slot) → length rows ≡ 0 → rows ≡ []
nothing_of [] e = refl
nothing_of (r ∷ rows) e = absurd (omega (arith, e))

pub none_by_rule : (limit : Option ℕ) (t : LeafType) (p : Physical) (w : Way) (rows : List Slot) (n : ℕ) → length rows ≡ 0 → IsByRule limit t p w rows n
none_by_rule limit t p w rows n e =
    subst (λ (xs : List Slot). IsByRule limit t p w xs n) (sym (nothing_of rows e)) (record { stored = []; are_stored = tt; have_bytes = All-from_recursion (HasOwnBytes t) [] tt; pieces = refl })

pub some_by_rule : (limit : Option ℕ) (t : LeafType) (p : Physical) (w : Way) (rows : List Slot) (plain n count : ℕ) → AreMeasured t p w rows plain → count ≡ length rows → ((size : ℕ) → plain ≡ min size 340282366920938463463374607431768211455 → n ≡ rows_per_page (page_limit limit) size count) → IsByRule limit t p w rows n
some_by_rule limit t p w rows plain n count m e h = record {
  stored = m.stored;
  are_stored = m.are_stored;
  have_bytes = m.have_bytes;
  pieces = ap (λ (k : ℕ). cut rows (Some k)) (h (plain_length p (values_in m.stored)) m.bytes ∙ ap (λ (k : ℕ). rows_per_page (page_limit limit) (plain_length p (values_in m.stored)) k) e);
}
