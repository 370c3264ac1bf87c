-- Laws of the words.
use Rattle.std.specs.Prelude.{◌≡◌, ℕ, List, ◌∷◌, ◌++◌}
use Rattle.rewrite_words.specs.Words.{options_of}

-- Two neighbours may change places, and so all words may stand in any order.
abbrev pub IsInAnyOrder : Type 0
IsInAnyOrder =
    (before : List (List ℕ)) (one other : List ℕ) (after : List (List ℕ))
    → options_of (before ++ (one ∷ other ∷ after)) ≡ options_of (before ++ (other ∷ one ∷ after))
