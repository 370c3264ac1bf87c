-- Columns of which no page was asked for.
use Rattle.std.proofs.Common.{◌≡◌, List, [], ◌∷◌, map, All, refl, ap}
use Rattle.std.specs.List.{AllByRecursion as Each}
use Rattle.std.proofs.lemmas.List.Elements.{All-from_recursion}
use Rattle.write_groups.specs.Columns.{IsFresh}
use Rattle.write_groups.specs.Given.{column_of, to_come}
use Rattle.write_pages.specs.Given.{to_give}
use Rattle.write_pages.specs.Holds.{ToGive}
use Rattle.write_pages.specs.declared.pages.PageIter.{PageIter}

pub given_of : (ps : List PageIter) → map to_come (map column_of ps) ≡ map to_give ps
given_of [] = refl
given_of (p ∷ ps) = ap (λ (gs : List ToGive). to_give p ∷ gs) (given_of ps)

each_fresh : (ps : List PageIter) → Each IsFresh (map column_of ps)
each_fresh [] = tt
each_fresh (p ∷ ps) = (record { has_failed = refl }, each_fresh ps)

pub all_fresh : (ps : List PageIter) → All IsFresh (map column_of ps)
all_fresh ps = All-from_recursion IsFresh (map column_of ps) (each_fresh ps)
