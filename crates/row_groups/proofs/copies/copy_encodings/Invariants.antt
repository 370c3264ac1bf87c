use Rattle.std.proofs.Common.{◌≡◌, map, take}
use Rattle.row_groups.proofs.copies.copy_encodings.Given as goal

abbrev pub invariant-loop-list : goal.invariant-loop-list
invariant-loop-list l = map (λ es. es.items) l.copies.items ≡ map (λ es. es.items) (take l.list-index l.encodings)
