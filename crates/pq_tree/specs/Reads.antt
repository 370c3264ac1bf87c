-- What a reader answers.
use Rattle.std.specs.Prelude.{◌≡◌, ◌⊎◌, ◌↔◌, Result, Ok, Err}
use Rattle.columns_base.specs.declared.error.Error.{Error}
use Rattle.columns_base.specs.declared.error.Error.TheVariants.{Memory}

-- no value stands in the relation
abbrev pub HasNone : {A : Type 0} → (A → Type 0) → Type 0
HasNone {A} R = (a : A) → R a → ⊥

-- Where no value stands in the relation the error is the reason. Want of memory alone is free.
abbrev pub Refuses : {A : Type 0} → Error → (A → Type 0) → Error → Type 0
Refuses reason R e = (e ≡ Memory) ⊎ ((e ≡ reason) × HasNone R)

-- The error comes exactly where the condition holds. Want of memory alone is free.
abbrev pub ComesWhere : {A : Type 0} → Error → Type 0 → Result A Error → Type 0
ComesWhere reason condition (Ok x) = condition → ⊥
ComesWhere reason condition (Err e) = (e ≡ Memory) ⊎ ((e ≡ reason) ↔ condition)
