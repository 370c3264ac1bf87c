-- A refusal that is handed on with another cause.
use Rattle.std.proofs.Common.{◌⊎◌, inl, inr}
use Rattle.std.specs.Prelude.{Result, Ok, Err, IfOk, IfErr}

-- of three reasons the last one
pub last : {A B C D E : Type 0} → (C → D) → A ⊎ B ⊎ C → A ⊎ B ⊎ D ⊎ E
last f (inl a) = inl a
last f (inr (inl b)) = inr (inl b)
last f (inr (inr c)) = inr (inr (inl (f c)))

-- of four the third one
pub third : {A B C D E : Type 0} → (C → D) → A ⊎ B ⊎ C ⊎ E → A ⊎ B ⊎ D ⊎ E
third f (inl a) = inl a
third f (inr (inl b)) = inr (inl b)
third f (inr (inr (inl c))) = inr (inr (inl (f c)))
third f (inr (inr (inr e))) = inr (inr (inr e))

-- of two the second one, behind one that does not come here
pub second : {A B C D : Type 0} → (C → D) → A ⊎ C → A ⊎ B ⊎ D
second f (inl a) = inl a
second f (inr c) = inr (inr (f c))

-- of three the third one
pub own : {A B C D : Type 0} → (C → D) → A ⊎ B ⊎ C → A ⊎ B ⊎ D
own f (inl a) = inl a
own f (inr (inl b)) = inr (inl b)
own f (inr (inr c)) = inr (inr (f c))

-- of four the third one and the last one
pub both : {A B C D E F : Type 0} → (C → D) → (E → F) → A ⊎ B ⊎ C ⊎ E → A ⊎ B ⊎ D ⊎ F
both f g (inl a) = inl a
both f g (inr (inl b)) = inr (inl b)
both f g (inr (inr (inl c))) = inr (inr (inl (f c)))
both f g (inr (inr (inr e))) = inr (inr (inr (g e)))

-- what is said of a result's value or error, otherwise said
pub ok_so : {A E : Type 0} (r : Result A E) (P Q : A → Type 0) → ((x : A) → P x → Q x) → IfOk r P → IfOk r Q
ok_so (Ok x) P Q f h = f x h
ok_so (Err e) P Q f h = tt

pub err_so : {A E : Type 0} (r : Result A E) (P Q : E → Type 0) → ((e : E) → P e → Q e) → IfErr r P → IfErr r Q
err_so (Ok x) P Q f h = tt
err_so (Err e) P Q f h = f e h
