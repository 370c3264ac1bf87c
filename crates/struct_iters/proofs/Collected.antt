-- What is collected from a vector that is taken item by item.
use Rattle.std.proofs.Common.{◌≡◌, ◌≢◌, ◌⊎◌, inl, inr, ◌<◌, ℕ, zero, suc, false, nat_eq, List, [], ◌∷◌, ◌++◌, length, map, flat_map, refl, sym, ap, ◌∙◌, append_assoc, append-nil, true≢false, arith}

-- one of each item
pub one-more : {A B : Type 0} (f : A → B) (done whole : List B) (left rest : List A) (x : A) → left ≡ x ∷ rest → done ++ map f left ≡ whole → (done ++ f x ∷ []) ++ map f rest ≡ whole
one-more f done whole left rest x e h = append_assoc done (f x ∷ []) (map f rest) ∙ ap (λ ls. done ++ map f ls) (sym e) ∙ h

pub none-left : {A B : Type 0} (f : A → B) (done whole : List B) (left : List A) → left ≡ [] → done ++ map f left ≡ whole → done ≡ whole
none-left f done whole left e h = sym (append-nil done) ∙ ap (λ ls. done ++ map f ls) (sym e) ∙ h

-- several of each item
pub several-more : {A B : Type 0} (f : A → List B) (done more whole : List B) (left rest : List A) (x : A) → left ≡ x ∷ rest → more ≡ f x → done ++ flat_map f left ≡ whole → (done ++ more) ++ flat_map f rest ≡ whole
several-more f done more whole left rest x e m h = ap (λ us. (done ++ us) ++ flat_map f rest) m ∙ append_assoc done (f x) (flat_map f rest) ∙ ap (λ ls. done ++ flat_map f ls) (sym e) ∙ h

pub none-of-several : {A B : Type 0} (f : A → List B) (done whole : List B) (left : List A) → left ≡ [] → done ++ flat_map f left ≡ whole → done ≡ whole
none-of-several f done whole left e h = sym (append-nil done) ∙ ap (λ ls. done ++ flat_map f ls) (sym e) ∙ h

-- ---- how many there are
pub no-items : {A : Type 0} (xs : List A) → length xs ≡ 0 → xs ≡ []
no-items [] h = refl
no-items (x ∷ xs) h = absurd (omega (arith, h))

pub not-zero : (n : ℕ) → nat_eq n 0 ≡ false → 0 < n
not-zero zero h = absurd (true≢false h)
not-zero (suc n) h = omega arith

pub as-many : {A : Type 0} (xs : List A) (n : ℕ) → 0 < length xs → length xs ≡ n → (xs ≡ []) ⊎ (length xs ≢ n) → ⊥
as-many xs n some e (inl none) = let z = ap length none in omega (arith, z, some)
as-many xs n some e (inr other) = other e
