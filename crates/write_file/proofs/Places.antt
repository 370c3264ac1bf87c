-- One column after another in a list of columns.
use Rattle.std.proofs.Common.{◌≡◌, ◌⊎◌, inl, inr, ℕ, zero, suc, ◌+◌, ◌<◌, ◌≤◌, List, [], ◌∷◌, length, drop, get_or, sym, ap, subst, ◌∙◌, arith}
use Rattle.std.proofs.lemmas.List.{drop-drop, get_or-drop, length-drop}
use Rattle.std.specs.Prelude.{Result, Ok, Err}
use Rattle.columns_base.specs.declared.error.Error.{Error}
use Rattle.columns_base.specs.declared.error.Error.TheVariants.{Memory, WriteFault}
use Rattle.pq_io.specs.Causes.{Rose}
use Rattle.write_file.specs.Pages.{SomeRefuses}

-- what is left begins with what stands at its place
pub first_at : {S : Type 0} (all rest : List S) (i : ℕ) (s : S) → drop i all ≡ s ∷ rest → s ≡ get_or all i s
first_at all rest i s h =
    let n : i + 0 ≡ i = omega arith in
    ap (λ zs. get_or zs 0 s) (sym h) ∙ (get_or-drop i all 0 s ∙ ap (λ (k : ℕ). get_or all k s) n)

pub rest_behind : {S : Type 0} (all rest : List S) (i : ℕ) (s : S) → drop i all ≡ s ∷ rest → drop (i + 1) all ≡ rest
rest_behind all rest i s h = sym (drop-drop 1 i all) ∙ ap (drop 1) h

pub is_within : {S : Type 0} (all rest : List S) (i : ℕ) (s : S) → drop i all ≡ s ∷ rest → i < length all
is_within all rest i s h =
    let n : length (drop i all) ≡ suc (length rest) = ap length h in
    omega (arith, n, length-drop i all)

pub none_behind : {S : Type 0} (all rest : List S) (i : ℕ) → drop i all ≡ rest → length rest ≡ 0 → length all ≤ i
none_behind all rest i h none = omega (arith, ap length h, none, length-drop i all)

pub refuses_at : {S : Type 0} (refuses : S → Error → Type 0) (xs : List S) (i : ℕ) (s : S) (e : Error) → i < length xs → s ≡ get_or xs i s → refuses s e → SomeRefuses refuses xs e
refuses_at refuses [] i s e b q h = absurd (omega (arith, b))
refuses_at refuses (x ∷ xs) zero s e b q h = inl (subst (λ y. refuses y e) q h)
refuses_at refuses (x ∷ xs) (suc i) s e b q h = inr (refuses_at refuses xs i s e (omega (arith, b)) q h)

error_in : {T : Type 0} → Result T Error → Error → Error
error_in (Err e) d = e
error_in (Ok x) d = d

pub same_error : {T : Type 0} (e f : Error) → ◌≡◌ {A = Result T Error} (Err e) (Err f) → e ≡ f
unfolding error_in
same_error e f h = ap (λ r. error_in r e) h

pub one_fails : {S : Type 0} (refuses : S → Error → Type 0) (xs : List S) (i : ℕ) (s : S) (e : Error) (first before after : ℕ) → i < length xs → s ≡ get_or xs i s → first ≤ before → Rose before after ⊎ refuses s e → Rose first after ⊎ SomeRefuses refuses xs e
one_fails refuses xs i s e first before after b q later (inl r) = inl (omega (arith, later, r))
one_fails refuses xs i s e first before after b q later (inr h) = inr (refuses_at refuses xs i s e b q h)

pub one_refuses : {S : Type 0} (refuses : S → Error → Type 0) (xs : List S) (i : ℕ) (s : S) (e : Error) (P Q : Type 0) → i < length xs → s ≡ get_or xs i s → (P → Q) → (e ≡ Memory) ⊎ (e ≡ WriteFault) ⊎ P ⊎ refuses s e → (e ≡ Memory) ⊎ (e ≡ WriteFault) ⊎ Q ⊎ SomeRefuses refuses xs e
one_refuses refuses xs i s e P Q b q f (inl h) = inl h
one_refuses refuses xs i s e P Q b q f (inr (inl h)) = inr (inl h)
one_refuses refuses xs i s e P Q b q f (inr (inr (inl h))) = inr (inr (inl (f h)))
one_refuses refuses xs i s e P Q b q f (inr (inr (inr h))) = inr (inr (inr (refuses_at refuses xs i s e b q h)))
