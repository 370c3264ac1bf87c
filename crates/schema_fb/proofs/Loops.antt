-- Reading items one after the other, as a loop does.
use Rattle.std.proofs.Common.{◌≡◌, ℕ, suc, ℤ, ◌-◌, ◌+◌, ◌≤◌, ◌<◌, List, [], ◌∷◌, ◌++◌, Option, Some, None, refl, sym, ap, ◌∙◌, append_assoc, arith}
use native.Mathlib.Nat.{sub-zero}
use Rattle.std.specs.Int.{w32, cast_signed}
use Rattle.std.proofs.lemmas.List.{append-nil}
use Rattle.schema_codec.specs.declared.fault.Refusal.{Refusal}
use Rattle.schema_codec.specs.declared.fault.Refusal.TheVariants as refusals
use Rattle.schema_codec.specs.Parse.{◌>>=◌, Fails}
use Rattle.schema_fb.specs.Places.{follow, word_at, items_at, numbers_at}
use Rattle.schema_fb.specs.Reading.{Reads}
use Rattle.schema_fb.specs.Steps.{item_from}

-- what is read, behind what was read before
abbrev pub behind : {A B : Type 0} → List A → Option (List A × B) → Option (List A × B)
behind front read = read >>= λ x. Some (front ++ x.0, x.1)

module _ {A : Type 0} where
  regroup : (front : List A) (x : A) (read : Option (List A × ℕ))
      → behind front (read >>= λ xs. Some (x ∷ xs.0, xs.1)) ≡ behind (front ++ x ∷ []) read
  regroup front x None = refl
  regroup front x (Some xs) = ap (λ (all : List A). Some (all, xs.1)) (sym (append_assoc front (x ∷ []) xs.0))

  -- one item and those behind it
  item_more : (one : Reads A) (bytes : List ℕ) (n place left : ℕ)
      → items_at one bytes (suc n) place left ≡ (item_from one bytes place left >>= λ first. items_at one bytes n (place + 4) first.1 >>= λ others. Some (first.0 ∷ others.0, others.1))
  unfolding items_at
  item_more one bytes n place left = step (follow bytes place)
    where
      after : A × ℕ → Option (List A × ℕ)
      after first = items_at one bytes n (place + 4) first.1 >>= λ others. Some (first.0 ∷ others.0, others.1)

      step : (there : Option ℕ) → (there >>= λ t. one t left >>= after) ≡ ((there >>= λ t. one t left) >>= after)
      step None = refl
      step (Some t) = refl

  pub items_begin : (one : Reads A) (bytes : List ℕ) (count place left : ℕ) → behind [] (items_at one bytes (count - 0) place left) ≡ items_at one bytes count place left
  items_begin one bytes count place left = rw sub-zero (nothing (items_at one bytes count place left))
    where
      nothing : (read : Option (List A × ℕ)) → behind [] read ≡ read
      nothing None = refl
      nothing (Some x) = refl

  pub items_go_on : (one : Reads A) (bytes : List ℕ) (front : List A) (count i place left : ℕ) (x : A) (rest : ℕ) (total : Option (List A × ℕ)) → i < count → item_from one bytes place left ≡ Some (x, rest)
      → behind front (items_at one bytes (count - i) place left) ≡ total → behind (front ++ x ∷ []) (items_at one bytes (count - (i + 1)) (place + 4) rest) ≡ total
  items_go_on one bytes front count i place left x rest total lt h so_far =
      let k : count - i ≡ suc (count - (i + 1)) = omega arith in
      let step : behind front (items_at one bytes (count - i) place left) ≡ behind (front ++ x ∷ []) (items_at one bytes (count - (i + 1)) (place + 4) rest) = rw (k, item_more one bytes (count - (i + 1)) place left, h) (regroup front x (items_at one bytes (count - (i + 1)) (place + 4) rest)) in
      sym step ∙ so_far

  pub items_fail : (e : Refusal) (one : Reads A) (bytes : List ℕ) (front : List A) (count i place left : ℕ) (total : Option (List A × ℕ)) → i < count → Fails e (item_from one bytes place left)
      → behind front (items_at one bytes (count - i) place left) ≡ total → Fails e total
  items_fail refusals.Memory one bytes front count i place left total lt h so_far = tt
  items_fail refusals.Unreadable one bytes front count i place left total lt h so_far =
      let k : count - i ≡ suc (count - (i + 1)) = omega arith in
      let step : behind front (items_at one bytes (count - i) place left) ≡ None = rw (k, item_more one bytes (count - (i + 1)) place left, h) refl in
      sym so_far ∙ step

  pub items_end : (one : Reads A) (bytes : List ℕ) (front : List A) (count i place left : ℕ) (total : Option (List A × ℕ)) → count ≤ i
      → behind front (items_at one bytes (count - i) place left) ≡ total → total ≡ Some (front, left)
  unfolding items_at
  items_end one bytes front count i place left total le so_far =
      let k : count - i ≡ 0 = omega arith in
      let step : behind front (items_at one bytes (count - i) place left) ≡ Some (front, left) = rw k (ap (λ (all : List A). Some (all, left)) (append-nil front)) in
      sym so_far ∙ step

-- ---- signed numbers

abbrev pub behind_numbers : List ℤ → Option (List ℤ) → Option (List ℤ)
behind_numbers front read = read >>= λ xs. Some (front ++ xs)

regroup_numbers : (front : List ℤ) (x : ℤ) (read : Option (List ℤ)) → behind_numbers front (read >>= λ xs. Some (x ∷ xs)) ≡ behind_numbers (front ++ x ∷ []) read
regroup_numbers front x None = refl
regroup_numbers front x (Some xs) = ap (λ (all : List ℤ). Some all) (sym (append_assoc front (x ∷ []) xs))

pub numbers_begin : (bytes : List ℕ) (count place : ℕ) → behind_numbers [] (numbers_at bytes (count - 0) place) ≡ numbers_at bytes count place
numbers_begin bytes count place = rw sub-zero (nothing (numbers_at bytes count place))
  where
    nothing : (read : Option (List ℤ)) → behind_numbers [] read ≡ read
    nothing None = refl
    nothing (Some x) = refl

pub numbers_go_on : (bytes : List ℕ) (front : List ℤ) (count i place : ℕ) (x : ℕ) (total : Option (List ℤ)) → i < count → word_at bytes place ≡ Some x
    → behind_numbers front (numbers_at bytes (count - i) place) ≡ total → behind_numbers (front ++ cast_signed w32 x ∷ []) (numbers_at bytes (count - (i + 1)) (place + 4)) ≡ total
unfolding numbers_at
numbers_go_on bytes front count i place x total lt h so_far =
    let k : count - i ≡ suc (count - (i + 1)) = omega arith in
    let step : behind_numbers front (numbers_at bytes (count - i) place) ≡ behind_numbers (front ++ cast_signed w32 x ∷ []) (numbers_at bytes (count - (i + 1)) (place + 4)) = rw (k, h) (regroup_numbers front (cast_signed w32 x) (numbers_at bytes (count - (i + 1)) (place + 4))) in
    sym step ∙ so_far

pub numbers_fail : (e : Refusal) (bytes : List ℕ) (front : List ℤ) (count i place : ℕ) (total : Option (List ℤ)) → i < count → Fails e (word_at bytes place)
    → behind_numbers front (numbers_at bytes (count - i) place) ≡ total → Fails e total
unfolding numbers_at
numbers_fail refusals.Memory bytes front count i place total lt h so_far = tt
numbers_fail refusals.Unreadable bytes front count i place total lt h so_far =
    let k : count - i ≡ suc (count - (i + 1)) = omega arith in
    let step : behind_numbers front (numbers_at bytes (count - i) place) ≡ None = rw (k, h) refl in
    sym so_far ∙ step

pub numbers_end : (bytes : List ℕ) (front : List ℤ) (count i place : ℕ) (total : Option (List ℤ)) → count ≤ i
    → behind_numbers front (numbers_at bytes (count - i) place) ≡ total → total ≡ Some front
unfolding numbers_at
numbers_end bytes front count i place total le so_far =
    let k : count - i ≡ 0 = omega arith in
    let step : behind_numbers front (numbers_at bytes (count - i) place) ≡ Some front = rw k (ap (λ (all : List ℤ). Some all) (append-nil front)) in
    sym so_far ∙ step
