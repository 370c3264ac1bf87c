-- What each row has, one row more.
use Rattle.std.proofs.Common.{◌≡◌, ℕ, ◌+◌, List, [], ◌∷◌, ◌++◌, refl, map, sym, arith}
use Rattle.std.specs.List.{range_with_len}
use Rattle.std.proofs.lemmas.List.{append_assoc, append-nil}
use Rattle.std.proofs.lemmas.List.FromFn.{map-range_with_len_more}
use Rattle.sample_rows.specs.Rows.{each_row}

pub row_more : {A : Type 0} (at : ℕ → A) (i : ℕ) (xs : List A) → xs ≡ each_row at i → (x : A) → x ≡ at i → xs ++ x ∷ [] ≡ each_row at (i + 1)
row_more at i xs e x h = rw (e, h, map-range_with_len_more at 0 i i (omega arith)) refl

-- one place more of a row
pub one_more :
    {A : Type 0} (at : ℕ → A) (row i : ℕ) (before xs : List A)
    → xs ≡ before ++ map at (range_with_len row i) → (x : A) → x ≡ at (row + i) → xs ++ x ∷ [] ≡ before ++ map at (range_with_len row (i + 1))
one_more at row i before xs e x h =
    rw (e, h, map-range_with_len_more at row i (row + i) refl) (append_assoc before (map at (range_with_len row i)) (at (row + i) ∷ []))

pub none_more : {A : Type 0} (at : ℕ → A) (start : ℕ) (xs : List A) → xs ≡ xs ++ map at (range_with_len start 0)
none_more at start xs = sym (append-nil xs)
