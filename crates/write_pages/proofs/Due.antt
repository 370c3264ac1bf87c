-- How many pages are still to come: fewer behind each page, and none behind an error.
use Rattle.std.proofs.Common.{◌≡◌, ◌<◌, suc, Bool, true, false, List, ◌∷◌, length, Some, ap, sym, subst, arith}
use Rattle.std.specs.Prelude.{Result, Ok, Err, cond}
use Rattle.shredding.specs.Slot.{Slot}
use Rattle.columns_base.specs.declared.error.Error.{Error}
use Rattle.pq_pages.specs.declared.page.Page.{Page}
use Rattle.pq_pages.specs.declared.page.Page.TheVariants.{Data, Dict}
use Rattle.write_pages.specs.Holds.{ToGive}
use Rattle.write_pages.specs.Refused.{Gives, pages_due}

pub due_with_entries : (g : ToGive) → g.owes_dictionary ≡ true → 0 < pages_due g
due_with_entries g owed = subst (λ (b : Bool). 0 < cond b (suc (length g.pieces)) (length g.pieces)) (sym owed) (omega (arith))

pub due_with_rows : (g : ToGive) (piece : List Slot) (rest : List (List Slot)) → g.owes_dictionary ≡ false → g.pieces ≡ piece ∷ rest → 0 < pages_due g
due_with_rows g piece rest behind is = subst (λ (b : Bool). 0 < cond b (suc (length g.pieces)) (length g.pieces)) (sym behind) (omega (arith, ap length is))

pub comes_nearer : (old new : ToGive) (x : Result Page Error) → Gives old new (Some x) → pages_due new < pages_due old
comes_nearer old new (Ok (Data page)) h =
    let less : length h.1 < length old.pieces = omega (arith, ap length h.3) in
    subst (λ (g : ToGive). pages_due g < pages_due old) (sym h.4)
    (subst (λ (b : Bool). cond b (suc (length h.1)) (length h.1) < cond b (suc (length old.pieces)) (length old.pieces)) (sym h.2) less)
comes_nearer old new (Ok (Dict page)) h =
    subst (λ (g : ToGive). pages_due g < pages_due old) (sym h.3)
    (subst (λ (b : Bool). length old.pieces < cond b (suc (length old.pieces)) (length old.pieces)) (sym h.1) (omega (arith)))
comes_nearer old new (Err e) h = subst (λ (g : ToGive). pages_due g < pages_due old) (sym h.0) h.2
