-- Reading from left to right: a value and the bytes after it, or nothing.
use Rattle.std.specs.Prelude.{◌≡◌, ℕ, zero, suc, List, [], ◌∷◌, Option, Some, None, Result, Ok, Err}
use Rattle.schema_codec.specs.declared.fault.Refusal.{Refusal}
use Rattle.schema_codec.specs.declared.fault.Refusal.TheVariants as refusals

infixl 10 ◌>>=◌
abbrev pub ◌>>=◌ : {A B : Type 0} → Option A → (A → Option B) → Option B
None >>= f = None
(Some x) >>= f = f x

abbrev pub Parse : Type 0 → Type 0
Parse A = List ℕ → Option (A × List ℕ)

-- f of what is read
abbrev pub under : {A B : Type 0} → (A → B) → Parse A → Parse B
under f one bytes = one bytes >>= λ x. Some (f x.0, x.1)

-- one part and behind it another
abbrev pub both : {A B : Type 0} → Parse A → Parse B → Parse (A × B)
both first second bytes = first bytes >>= λ a. second a.1 >>= λ b. Some ((a.0, b.0), b.1)

-- what a number stands for, if it stands for something
abbrev pub known : {A B : Type 0} → Option A → B → Option (A × B)
known None rest = None
known (Some x) rest = Some (x, rest)

-- so many parts
unfoldable pub items_at : {A : Type 0} → Parse A → ℕ → Parse (List A)
items_at one zero bytes = Some ([], bytes)
items_at one (suc n) bytes = do
  first ← one bytes
  others ← items_at one n first.1
  Some (first.0 ∷ others.0, others.1)

-- What a function of the code answered, seen by view, is what reading gives, unless memory ran out.
abbrev pub Fails : {Y : Type 0} → Refusal → Option Y → Type 0
Fails refusals.Memory read = Unit {0}
Fails refusals.Unreadable read = read ≡ None

abbrev pub Gives : {X Y : Type 0} → (X → Y) → Result X Refusal → Option Y → Type 0
Gives view (Ok x) read = read ≡ Some (view x)
Gives view (Err e) read = Fails e read
