-- Arrays of one length, and a code for a list of arrays.
use Rattle.std.specs.Prelude.{◌≡◌, ℕ, List, [], ◌∷◌, refl}
use Rattle.std.specs.Coded.{Coded, code_by, coded_list}
use Rattle.std.proofs.Common.{ap}
use Rattle.columns_slots.specs.Tree.{ArrayTree, ArrayTrees, no_arrays, more_arrays, tree_code}
use Rattle.columns_slots.specs.Slots.{tree_len}

-- each has n positions
abbrev pub HaveLen : ℕ → ArrayTrees → Type 0
HaveLen n no_arrays = Unit {0}
HaveLen n (more_arrays c cs) = (tree_len c ≡ n) × HaveLen n cs

-- each has as many as the first
abbrev pub AreEven : ArrayTrees → Type 0
AreEven no_arrays = Unit {0}
AreEven (more_arrays c cs) = HaveLen (tree_len c) cs

abbrev pub listed : ArrayTrees → List ArrayTree
listed no_arrays = []
listed (more_arrays c cs) = c ∷ listed cs

abbrev pub unlisted : List ArrayTree → ArrayTrees
unlisted [] = no_arrays
unlisted (c ∷ cs) = more_arrays c (unlisted cs)

pub listed_back : (cs : ArrayTrees) → unlisted (listed cs) ≡ cs
listed_back no_arrays = refl
listed_back (more_arrays c cs) = ap (more_arrays c) (listed_back cs)

abbrev pub trees_code : Coded ArrayTrees
trees_code = code_by (List ArrayTree) (coded_list tree_code) listed unlisted listed_back
