-- What an array is made of: its type, values, offsets, keys, masks and the arrays inside it, whichever of them it has
-- (Arrow columnar format, "Physical Memory Layout"). And a code for it.
use Rattle.std.specs.Prelude.{◌≡◌, ℕ, zero, suc, ℤ, List, [], ◌∷◌, Bool, Option, None, ◌⊎◌, refl}
use Rattle.std.specs.Coded.{Coded, code_by, coded_ℕ, coded_ℤ, coded_bool, coded_list, coded×, coded⊎, coded_option}
use Rattle.std.proofs.Common.{ap, ◌∙◌, inl, inr}
use Rattle.shredding.specs.Slot.{Value, truth, number, bytes}
use Rattle.columns_core.specs.Tree.{TypeTree, t_null}
use Rattle.columns_core.specs.TypeCode.{type_code}

-- which positions are not null: with no mask, all (Arrow columnar format, "Validity bitmaps")
abbrev pub Mask : Type 0
Mask = Option (List Bool)

mutual
  pub data ArrayTree : Type 0 where
    -- nulls alone, so many
    null_array : TypeTree → ℕ → ArrayTree
    -- a value for each position: truth values, numbers, texts and byte strings of all kinds
    leaf_array : TypeTree → List Value → Mask → ArrayTree
    -- between an offset and the next are a position's items: both kinds of list, and maps
    list_array : TypeTree → List ℕ → ArrayTree → Mask → ArrayTree
    -- the same number of items for each position: that number, the number of positions, the items
    fixed_list_array : TypeTree → ℕ → ℕ → ArrayTree → Mask → ArrayTree
    -- an array for each field
    struct_array : TypeTree → ArrayTrees → Mask → ArrayTree
    -- a key for each position, and the entries that the keys number from 0
    dictionary_array : TypeTree → List ℤ → ArrayTree → Mask → ArrayTree

  pub data ArrayTrees : Type 0 where
    no_arrays : ArrayTrees
    more_arrays : ArrayTree → ArrayTrees → ArrayTrees

-- ---- the code: each array as tokens, the parts before the whole, read back by two stacks
abbrev value_sum : Value → Bool ⊎ (ℤ ⊎ List ℕ)
value_sum (truth b) = inl b
value_sum (number z) = inr (inl z)
value_sum (bytes bs) = inr (inr bs)

abbrev sum_value : Bool ⊎ (ℤ ⊎ List ℕ) → Value
sum_value (inl b) = truth b
sum_value (inr (inl z)) = number z
sum_value (inr (inr bs)) = bytes bs

pub value_back : (v : Value) → sum_value (value_sum v) ≡ v
value_back (truth b) = refl
value_back (number z) = refl
value_back (bytes bs) = refl

abbrev pub value_code : Coded Value
value_code = code_by (Bool ⊎ (ℤ ⊎ List ℕ)) (coded⊎ coded_bool (coded⊎ coded_ℤ (coded_list coded_ℕ))) value_sum sum_value value_back

-- the parts of one level, and a number for its kind
abbrev pub Token : Type 0
Token = ℕ × (TypeTree × (List Value × (List ℕ × (List ℤ × (ℕ × (ℕ × Mask))))))

abbrev pub mask_code : Coded Mask
mask_code = coded_option (coded_list coded_bool)

abbrev pub token_code : Coded Token
token_code =
    coded× coded_ℕ (coded× type_code (coded× (coded_list value_code) (coded× (coded_list coded_ℕ) (coded× (coded_list coded_ℤ) (coded× coded_ℕ (coded× coded_ℕ mask_code))))))

abbrev mutual
  pub spell : ArrayTree → List Token → List Token
  spell (null_array t n) k = (0, (t, ([], ([], ([], (n, (0, None))))))) ∷ k
  spell (leaf_array t vs m) k = (1, (t, (vs, ([], ([], (0, (0, m))))))) ∷ k
  spell (list_array t os c m) k = spell c ((2, (t, ([], (os, ([], (0, (0, m))))))) ∷ k)
  spell (fixed_list_array t w n c m) k = spell c ((3, (t, ([], ([], ([], (n, (w, m))))))) ∷ k)
  spell (struct_array t cs m) k = spell_all cs ((4, (t, ([], ([], ([], (0, (0, m))))))) ∷ k)
  spell (dictionary_array t ks c m) k = spell c ((5, (t, ([], ([], (ks, (0, (0, m))))))) ∷ k)

  pub spell_all : ArrayTrees → List Token → List Token
  spell_all no_arrays k = (6, (t_null, ([], ([], ([], (0, (0, None))))))) ∷ k
  spell_all (more_arrays c cs) k = spell_all cs (spell c ((7, (t_null, ([], ([], ([], (0, (0, None))))))) ∷ k))

abbrev Stacks : Type 0
Stacks = List ArrayTree × List ArrayTrees

abbrev top : List ArrayTree → ArrayTree
top [] = null_array t_null 0
top (t ∷ ts) = t

abbrev tops : List ArrayTrees → ArrayTrees
tops [] = no_arrays
tops (t ∷ ts) = t

abbrev below : {A : Type 0} → List A → List A
below [] = []
below (x ∷ xs) = xs

abbrev act : ℕ → TypeTree → List Value → List ℕ → List ℤ → ℕ → ℕ → Mask → List ArrayTree → List ArrayTrees → Stacks
act zero t vs os ks n w m s l = (null_array t n ∷ s, l)
act (suc zero) t vs os ks n w m s l = (leaf_array t vs m ∷ s, l)
act (suc (suc zero)) t vs os ks n w m s l = (list_array t os (top s) m ∷ below s, l)
act (suc (suc (suc zero))) t vs os ks n w m s l = (fixed_list_array t w n (top s) m ∷ below s, l)
act (suc (suc (suc (suc zero)))) t vs os ks n w m s l = (struct_array t (tops l) m ∷ s, below l)
act (suc (suc (suc (suc (suc zero))))) t vs os ks n w m s l = (dictionary_array t ks (top s) m ∷ below s, l)
act (suc (suc (suc (suc (suc (suc zero)))))) t vs os ks n w m s l = (s, no_arrays ∷ l)
act (suc (suc (suc (suc (suc (suc (suc k))))))) t vs os ks n w m s l = (below s, more_arrays (top s) (tops l) ∷ below l)

abbrev run : List Token → List ArrayTree → List ArrayTrees → Stacks
run [] s l = (s, l)
run (x ∷ xs) s l =
    let n = act x.0 x.1.0 x.1.1.0 x.1.1.1.0 x.1.1.1.1.0 x.1.1.1.1.1.0 x.1.1.1.1.1.1.0 x.1.1.1.1.1.1.1 s l in
    run xs n.0 n.1

mutual
  pub runs : (a : ArrayTree) (k : List Token) (s : List ArrayTree) (l : List ArrayTrees) → run (spell a k) s l ≡ run k (a ∷ s) l
  runs (null_array t n) k s l = refl
  runs (leaf_array t vs m) k s l = refl
  runs (list_array t os c m) k s l = runs c _ s l
  runs (fixed_list_array t w n c m) k s l = runs c _ s l
  runs (struct_array t cs m) k s l = runs_all cs _ s l
  runs (dictionary_array t ks c m) k s l = runs c _ s l

  pub runs_all : (cs : ArrayTrees) (k : List Token) (s : List ArrayTree) (l : List ArrayTrees) → run (spell_all cs k) s l ≡ run k s (cs ∷ l)
  runs_all no_arrays k s l = refl
  runs_all (more_arrays c cs) k s l = runs_all cs _ s l ∙ runs c _ s (cs ∷ l)

abbrev pub tree_code : Coded ArrayTree
tree_code = code_by (List Token) (coded_list token_code) (λ a. spell a []) (λ ts. top (run ts [] []).0) (λ a. ap (λ r. top r.0) (runs a [] [] []))
