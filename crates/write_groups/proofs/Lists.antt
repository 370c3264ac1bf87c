-- Lists side by side.
use Rattle.std.proofs.Common.{◌≡◌, suc, List, [], ◌∷◌, ◌++◌, length, refl, ap}
use Rattle.std.specs.List.{AllZip}

pub split_zip : {A B : Type 0} (P : A → B → Type 0) (xs ys : List A) (zs : List B) → AllZip P (xs ++ ys) zs → (as1 : List B) × (bs : List B) × (zs ≡ as1 ++ bs) × AllZip P xs as1 × AllZip P ys bs
split_zip P [] ys zs h = ([], zs, refl, tt, h)
split_zip P (x ∷ xs) ys [] h = absurd h
split_zip P (x ∷ xs) ys (z ∷ zs) h =
    let r = split_zip P xs ys zs h.1 in
    (z ∷ r.0, r.1, ap (λ (l : List _). z ∷ l) r.2, (h.0, r.3), r.4)

pub zip_length : {A B : Type 0} (P : A → B → Type 0) (xs : List A) (zs : List B) → AllZip P xs zs → length xs ≡ length zs
zip_length P [] [] h = refl
zip_length P [] (z ∷ zs) h = absurd h
zip_length P (x ∷ xs) [] h = absurd h
zip_length P (x ∷ xs) (z ∷ zs) h = ap suc (zip_length P xs zs h.1)
