-- The least and the greatest value of values and of others behind them, and how many nulls there are.
use Rattle.std.proofs.Common.{◌≡◌, ◌∙◌, ◌+◌, ◌≤◌, ℕ, ℤ, pos, List, [], ◌∷◌, ◌++◌, length, Option, Some, None, is_none, refl, sym, ap, subst, arith, append-nil, cond}
use Rattle.std.specs.Prelude.{count_by}
use Rattle.std.proofs.lemmas.List.{length-append}
use Rattle.std.proofs.lemmas.List.Elements.{All-append, Contains-append_left, Contains-append_right, filter_map-append}
use Rattle.std.proofs.lemmas.List.Sums.{count_by-le-length, sum_by-append}
use Rattle.shredding.specs.Shape.{LeafType}
use Rattle.shredding.specs.Shred.{Triple}
use Rattle.shredding.specs.Slot.{Value}
use Rattle.pq_files.specs.Page.{values_in}
use Rattle.pq_files.specs.Room.{max_count}
use Rattle.pq_files.specs.Statistics.{IsUpTo}
use Rattle.pq_tree.specs.Physical.{Physical}
use Rattle.page_statistics.specs.Spelled.{IsSpelled}
use Rattle.page_statistics.proofs.Further.{up_to_trans}
use Rattle.joined_statistics.specs.Told.{IsLeastOf, IsGreatestOf, IsLeastText, IsGreatestText}

module _ (t : LeafType) (p : Physical) where
  -- no values come behind, or stand in front
  pub least_front : (xs ys : List Value) (s : Option (List ℕ)) → IsLeastText t p xs s → IsLeastText t p ys None → IsLeastText t p (xs ++ ys) s
  least_front xs [] s h k = subst (λ (vs : List Value). IsLeastText t p vs s) (sym (append-nil xs)) h
  least_front xs (y ∷ ys) s h k = absurd k

  pub least_back : (xs ys : List Value) (s : Option (List ℕ)) → IsLeastText t p xs None → IsLeastText t p ys s → IsLeastText t p (xs ++ ys) s
  least_back [] ys s h k = k
  least_back (x ∷ xs) ys s h k = absurd h

  pub greatest_front : (xs ys : List Value) (s : Option (List ℕ)) → IsGreatestText t p xs s → IsGreatestText t p ys None → IsGreatestText t p (xs ++ ys) s
  greatest_front xs [] s h k = subst (λ (vs : List Value). IsGreatestText t p vs s) (sym (append-nil xs)) h
  greatest_front xs (y ∷ ys) s h k = absurd k

  pub greatest_back : (xs ys : List Value) (s : Option (List ℕ)) → IsGreatestText t p xs None → IsGreatestText t p ys s → IsGreatestText t p (xs ++ ys) s
  greatest_back [] ys s h k = k
  greatest_back (x ∷ xs) ys s h k = absurd h

  -- the one whose value the other's is not below, or not above
  pub least_first : (xs ys : List Value) (s u : List ℕ) → IsLeastText t p xs (Some s) → IsLeastText t p ys (Some u) → ((a b : Value) → IsSpelled t p u a → IsSpelled t p s b → IsUpTo b a) → IsLeastText t p (xs ++ ys) (Some s)
  least_first [] ys s u h k f = absurd h
  least_first (x ∷ xs) [] s u h k f = absurd k
  least_first (x ∷ xs) (y ∷ ys) s u h k f =
      let l = f k.low h.low k.spelled h.spelled in
      record {
        low = h.low;
        has = Contains-append_left (x ∷ xs) (y ∷ ys) h.low h.has;
        is = All-append (λ v. IsUpTo h.low v) (x ∷ xs) (y ∷ ys) h.is (λ i d b. up_to_trans _ _ _ l (k.is i d b));
        spelled = h.spelled;
      }

  pub least_second : (xs ys : List Value) (s u : List ℕ) → IsLeastText t p xs (Some s) → IsLeastText t p ys (Some u) → ((a b : Value) → IsSpelled t p u a → IsSpelled t p s b → IsUpTo a b) → IsLeastText t p (xs ++ ys) (Some u)
  least_second [] ys s u h k f = absurd h
  least_second (x ∷ xs) [] s u h k f = absurd k
  least_second (x ∷ xs) (y ∷ ys) s u h k f =
      let l = f k.low h.low k.spelled h.spelled in
      record {
        low = k.low;
        has = Contains-append_right (x ∷ xs) (y ∷ ys) k.low k.has;
        is = All-append (λ v. IsUpTo k.low v) (x ∷ xs) (y ∷ ys) (λ i d b. up_to_trans _ _ _ l (h.is i d b)) k.is;
        spelled = k.spelled;
      }

  pub greatest_first : (xs ys : List Value) (s u : List ℕ) → IsGreatestText t p xs (Some s) → IsGreatestText t p ys (Some u) → ((a b : Value) → IsSpelled t p s a → IsSpelled t p u b → IsUpTo b a) → IsGreatestText t p (xs ++ ys) (Some s)
  greatest_first [] ys s u h k f = absurd h
  greatest_first (x ∷ xs) [] s u h k f = absurd k
  greatest_first (x ∷ xs) (y ∷ ys) s u h k f =
      let l = f h.high k.high h.spelled k.spelled in
      record {
        high = h.high;
        has = Contains-append_left (x ∷ xs) (y ∷ ys) h.high h.has;
        is = All-append (λ v. IsUpTo v h.high) (x ∷ xs) (y ∷ ys) h.is (λ i d b. up_to_trans _ _ _ (k.is i d b) l);
        spelled = h.spelled;
      }

  pub greatest_second : (xs ys : List Value) (s u : List ℕ) → IsGreatestText t p xs (Some s) → IsGreatestText t p ys (Some u) → ((a b : Value) → IsSpelled t p s a → IsSpelled t p u b → IsUpTo a b) → IsGreatestText t p (xs ++ ys) (Some u)
  greatest_second [] ys s u h k f = absurd h
  greatest_second (x ∷ xs) [] s u h k f = absurd k
  greatest_second (x ∷ xs) (y ∷ ys) s u h k f =
      let l = f h.high k.high h.spelled k.spelled in
      record {
        high = k.high;
        has = Contains-append_right (x ∷ xs) (y ∷ ys) k.high k.has;
        is = All-append (λ v. IsUpTo v k.high) (x ∷ xs) (y ∷ ys) (λ i d b. up_to_trans _ _ _ (h.is i d b) l) k.is;
        spelled = k.spelled;
      }

-- ---- triples

pub values_joined : (xs ys : List Triple) → values_in (xs ++ ys) ≡ values_in xs ++ values_in ys
values_joined xs ys = filter_map-append (λ x. x.value) xs ys

abbrev nulls : List Triple → ℕ
nulls ts = count_by (λ x. is_none x.value) ts

pub nulls_joined : (xs ys : List Triple) → nulls (xs ++ ys) ≡ nulls xs + nulls ys
nulls_joined xs ys = sum_by-append (λ x. cond (is_none x.value) 1 0) xs ys

pub few_nulls : (xs ys : List Triple) → length (xs ++ ys) ≤ max_count → nulls xs + nulls ys ≤ max_count
few_nulls xs ys h =
    omega (arith, h, nulls_joined xs ys, count_by-le-length (λ x. is_none x.value) (xs ++ ys))
