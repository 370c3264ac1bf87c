use Rattle.std.proofs.Common.{ℕ, pos, List, length, map}
use Rattle.std.proofs.lemmas.List.{length-map}
use Rattle.columns_slots.specs.Tree.{Mask}
use Rattle.shredding.specs.Parts.{MaskFits}

pub mask_mapped : (m : Mask) (ks : List ℕ) → MaskFits m (length ks) → MaskFits m (length (map pos ks))
mask_mapped m ks h = rw (length-map ks pos) h
