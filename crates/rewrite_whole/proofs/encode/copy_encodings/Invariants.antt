use Rattle.std.proofs.Common.{◌≡◌, map, take}
use Rattle.rewrite_whole.proofs.encode.copy_encodings.Given as goal

abbrev pub invariant-loop-field : goal.invariant-loop-field
invariant-loop-field l = map (λ es. es.items) l.copies.items ≡ map (λ es. es.items) (take l.field-index l.encodings.items)
