-- Three lists side by side.
use Rattle.std.proofs.Common.{List, [], ◌∷◌, ◌++◌, map}

abbrev pub All3 : {A B C : Type 0} → (A → B → C → Type 0) → List A → List B → List C → Type 0
All3 P [] [] [] = Unit {0}
All3 P (x ∷ xs) (y ∷ ys) (z ∷ zs) = P x y z × All3 P xs ys zs
All3 P _ _ _ = ⊥

pub map_two : {A B C D E : Type 0} (P : A → B → C → Type 0) (Q : D → E → C → Type 0) (f : A → D) (g : B → E) → ((x : A) (y : B) (z : C) → P x y z → Q (f x) (g y) z) → (xs : List A) (ys : List B) (zs : List C) → All3 P xs ys zs → All3 Q (map f xs) (map g ys) zs
map_two P Q f g h [] [] [] all = tt
map_two P Q f g h [] [] (z ∷ zs) all = absurd all
map_two P Q f g h [] (y ∷ ys) zs all = absurd all
map_two P Q f g h (x ∷ xs) [] zs all = absurd all
map_two P Q f g h (x ∷ xs) (y ∷ ys) [] all = absurd all
map_two P Q f g h (x ∷ xs) (y ∷ ys) (z ∷ zs) all = (h x y z all.0, map_two P Q f g h xs ys zs all.1)

pub map_one : {A B C D : Type 0} (P : A → B → C → Type 0) (Q : D → B → C → Type 0) (f : A → D) → ((x : A) (y : B) (z : C) → P x y z → Q (f x) y z) → (xs : List A) (ys : List B) (zs : List C) → All3 P xs ys zs → All3 Q (map f xs) ys zs
map_one P Q f h [] [] [] all = tt
map_one P Q f h [] [] (z ∷ zs) all = absurd all
map_one P Q f h [] (y ∷ ys) zs all = absurd all
map_one P Q f h (x ∷ xs) [] zs all = absurd all
map_one P Q f h (x ∷ xs) (y ∷ ys) [] all = absurd all
map_one P Q f h (x ∷ xs) (y ∷ ys) (z ∷ zs) all = (h x y z all.0, map_one P Q f h xs ys zs all.1)

pub join : {A B C : Type 0} (P : A → B → C → Type 0) (xs us : List A) (ys vs : List B) (zs ws : List C) → All3 P xs ys zs → All3 P us vs ws → All3 P (xs ++ us) (ys ++ vs) (zs ++ ws)
join P [] us [] vs [] ws all more = more
join P [] us [] vs (z ∷ zs) ws all more = absurd all
join P [] us (y ∷ ys) vs zs ws all more = absurd all
join P (x ∷ xs) us [] vs zs ws all more = absurd all
join P (x ∷ xs) us (y ∷ ys) vs [] ws all more = absurd all
join P (x ∷ xs) us (y ∷ ys) vs (z ∷ zs) ws all more = (all.0, join P xs us ys vs zs ws all.1 more)
