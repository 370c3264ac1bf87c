-- Pieces of rows.
use Rattle.std.proofs.Common.{◌≡◌, ℕ, zero, suc, ◌<◌, ◌≤◌, List, [], ◌∷◌, ◌++◌, take, drop, length, flat_map, refl, ap, ◌∙◌, take-append-drop, length-drop, arith}
use Rattle.shredding.specs.Cut.{pieces}
use Rattle.shredding.specs.Laws.{PiecesAreRows}
use Rattle.shredding.specs.Slot.{Slot}

joined : (fuel n : ℕ) (rows : List Slot) → 0 < n → length rows ≤ fuel → flat_map (λ piece. piece) (pieces fuel n rows) ≡ rows
joined zero n [] p l = refl
joined zero n (row ∷ rows) p l = absurd (omega arith)
joined (suc fuel) n [] p l = refl
joined (suc fuel) n (row ∷ rows) p l =
    ap (λ rest. take n (row ∷ rows) ++ rest) (joined fuel n (drop n (row ∷ rows)) p (omega (arith, length-drop n (row ∷ rows)))) ∙ take-append-drop n (row ∷ rows)

pub pieces_are_rows : PiecesAreRows
pieces_are_rows rows n p = joined (length rows) n rows p (omega arith)
