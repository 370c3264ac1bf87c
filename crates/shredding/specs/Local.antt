-- Which lists of triples are columns, told from each triple and the one before it: what the record assembly of the Dremel paper
-- (section 4.3 and appendix B) takes for granted.
use Rattle.std.specs.Prelude.{◌≡◌, ℕ, zero, suc, ◌≤◌, is_some, nat_eq, List, [], ◌∷◌}
use Rattle.shredding.specs.Shape.{Way, at_leaf, in_list, in_struct}
use Rattle.shredding.specs.Shred.{Triple, up, max_repetition, max_definition}

-- no level passes its maximum, and a triple has a value exactly where its definition level is the maximum
pub record IsWithin (w : Way) (t : Triple) : Type 0 where
  pub repetition : t.repetition ≤ max_repetition w
  pub definition : t.definition ≤ max_definition w
  pub present : is_some t.value ≡ nat_eq t.definition (max_definition w)

-- the nullable parts and lists of the way down to its r-th list, that list and its own nullability with them
abbrev pub inside : Way → ℕ → ℕ
inside w zero = 0
inside (at_leaf n) (suc r) = 0
inside (in_list n w) (suc r) = up n (suc (inside w r))
inside (in_struct n i w) (suc r) = up n (inside w (suc r))

-- a triple that repeats in the r-th list, and the one before it, lie inside that list
pub record MayFollow (w : Way) (t u : Triple) : Type 0 where
  pub before : inside w u.repetition ≤ t.definition
  pub after : inside w u.repetition ≤ u.definition

abbrev pub MayGoOn : Way → Triple → List Triple → Type 0
MayGoOn w t [] = Unit {0}
MayGoOn w t (u ∷ ts) = MayFollow w t u × MayGoOn w u ts

-- the first triple begins a row, and each other may follow the one before it
abbrev pub IsInOrder : Way → List Triple → Type 0
IsInOrder w [] = Unit {0}
IsInOrder w (t ∷ ts) = (t.repetition ≡ 0) × MayGoOn w t ts
