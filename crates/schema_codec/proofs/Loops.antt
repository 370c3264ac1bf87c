-- Reading parts one after the other, as a loop does.
use Rattle.std.proofs.Common.{◌≡◌, ℕ, suc, ◌-◌, ◌+◌, ◌≤◌, ◌<◌, List, [], ◌∷◌, ◌++◌, map, Option, Some, None, refl, sym, ap, ◌∙◌, append_assoc, arith}
use native.Mathlib.Nat.{sub-zero}
use Rattle.std.proofs.lemmas.List.{append-nil}
use Rattle.schema_codec.specs.declared.fault.Refusal.{Refusal}
use Rattle.schema_codec.specs.declared.fault.Refusal.TheVariants as refusals
use Rattle.schema_codec.specs.Parse.{◌>>=◌, Parse, Fails, items_at}

module _ {A : Type 0} where
  -- what is read, behind what was read before
  abbrev pub behind : List A → Option (List A × List ℕ) → Option (List A × List ℕ)
  behind front read = read >>= λ x. Some (front ++ x.0, x.1)

  regroup : (front : List A) (x : A) (read : Option (List A × List ℕ))
      → behind front (read >>= λ xs. Some (x ∷ xs.0, xs.1)) ≡ behind (front ++ x ∷ []) read
  regroup front x None = refl
  regroup front x (Some xs) = ap (λ (all : List A). Some (all, xs.1)) (sym (append_assoc front (x ∷ []) xs.0))

  pub items_begin : (one : Parse A) (count : ℕ) (bytes : List ℕ) → behind [] (items_at one (count - 0) bytes) ≡ items_at one count bytes
  items_begin one count bytes = rw sub-zero (nothing (items_at one count bytes))
    where
      nothing : (read : Option (List A × List ℕ)) → behind [] read ≡ read
      nothing None = refl
      nothing (Some x) = refl

  pub items_go_on : (one : Parse A) (front : List A) (count i : ℕ) (bytes : List ℕ) (x : A) (after : List ℕ) (total : Option (List A × List ℕ)) → i < count → one bytes ≡ Some (x, after)
      → behind front (items_at one (count - i) bytes) ≡ total → behind (front ++ x ∷ []) (items_at one (count - (i + 1)) after) ≡ total
  unfolding items_at
  items_go_on one front count i bytes x after total lt h so_far =
      let k : count - i ≡ suc (count - (i + 1)) = omega arith in
      let step : behind front (items_at one (count - i) bytes) ≡ behind (front ++ x ∷ []) (items_at one (count - (i + 1)) after) = rw (k, h) (regroup front x (items_at one (count - (i + 1)) after)) in
      sym step ∙ so_far

  pub items_fail : (e : Refusal) (one : Parse A) (front : List A) (count i : ℕ) (bytes : List ℕ) (total : Option (List A × List ℕ)) → i < count → Fails e (one bytes)
      → behind front (items_at one (count - i) bytes) ≡ total → Fails e total
  unfolding items_at
  items_fail refusals.Memory one front count i bytes total lt h so_far = tt
  items_fail refusals.Unreadable one front count i bytes total lt h so_far =
      let k : count - i ≡ suc (count - (i + 1)) = omega arith in
      let step : behind front (items_at one (count - i) bytes) ≡ None = rw (k, h) refl in
      sym so_far ∙ step

  pub items_end : (one : Parse A) (front : List A) (count i : ℕ) (bytes : List ℕ) (total : Option (List A × List ℕ)) → count ≤ i
      → behind front (items_at one (count - i) bytes) ≡ total → total ≡ Some (front, bytes)
  unfolding items_at
  items_end one front count i bytes total le so_far =
      let k : count - i ≡ 0 = omega arith in
      let step : behind front (items_at one (count - i) bytes) ≡ Some (front, bytes) = rw k (ap (λ (all : List A). Some (all, bytes)) (append-nil front)) in
      sym so_far ∙ step

pub map_more : {X A : Type 0} (view : X → A) (xs : List X) (x : X) → map view (xs ++ x ∷ []) ≡ map view xs ++ view x ∷ []
map_more view [] x = refl
map_more {A = A} view (y ∷ ys) x = ap (λ (all : List A). view y ∷ all) (map_more view ys x)
