-- Values that are stored have a least and a greatest one.
use Rattle.std.proofs.Common.{◌≡◌, ℕ, zero, suc, ◌-◌, ◌^◌, ◌<◌, ◌≤◌, ℤ, pos, negsuc, ◌≤ℤ◌, ◌⊎◌, inl, inr, Bool, true, false, true≢false, List, [], ◌∷◌, Option, Some, None, is_none, refl, sym, ap, subst, ◌∙◌, arith, SFits}
use Rattle.std.specs.Prelude.{Contains, count_by}
use Rattle.std.specs.List.{AllByRecursion as Each}
use Rattle.std.specs.Int.{w32, w64, cast_signed, cast_unsigned}
use Rattle.std.proofs.Math.Facts.{Fits-of_z, sfits_to_z}
use Rattle.std.proofs.lemmas.Bool.{cases_lt}
use Rattle.std.proofs.lemmas.Int.{by_lt_z, to_z-of_z}
use Rattle.std.proofs.lemmas.List.Elements.{All-from_recursion, recursion_from_All, Contains-append_right}
use Rattle.std.proofs.lemmas.Nat.{pow_below}
use Rattle.std.specs.Int.Signed.{<ℤ_irrefl}
use Rattle.std.specs.Cmp.{int_chain}
use Rattle.shredding.specs.Shape.{LeafType, truths, text, binary, signed, unsigned, fixed_bytes, decimal, months, days, Fits}
use Rattle.shredding.specs.Shred.{Triple}
use Rattle.shredding.specs.Slot.{Value, truth, number, bytes}
use Rattle.pq_numbers.proofs.LittleEndianBytes.{four_bytes, eight_bytes}
use Rattle.pq_tree.specs.Physical.{Physical, boolean, int32, int64, byte_array, fixed}
use Rattle.pq_files.specs.Page.{values_in}
use Rattle.pq_files.specs.Statistics.{Bounds, AreBounds, HasBounds, IsBound, IsBoundText, IsBefore, IsUpTo, has_order}
use Rattle.pq_files.specs.Stored.{AreStored, IsStored, IsStoredOption}
use Rattle.page_statistics.specs.Laws.{StatisticsExist}
use Rattle.page_statistics.specs.Spelled.{HasOwnBytes, AreSpelled, BoundsAreSpelled, IsSpelled, bound_text}
use Rattle.page_statistics.proofs.Further.{up_to_self, up_to_trans}

-- ---- values of one type are in order

-- truth values, numbers and bytes, by the type and by the value
abbrev kind : LeafType → ℕ
kind truths = 0
kind (signed w) = 1
kind (unsigned w) = 1
kind decimal = 1
kind t = 2

abbrev tag : Value → ℕ
tag (truth b) = 0
tag (number z) = 1
tag (bytes s) = 2

tagged : (t : LeafType) (p : Physical) (v s : Value) → IsStored t p v s → tag v ≡ kind t
tagged truths boolean (truth b) s h = refl
tagged (signed w) int32 (number z) s h = refl
tagged (signed w) int64 (number z) s h = refl
tagged (unsigned w) int32 (number (pos n)) s h = refl
tagged (unsigned w) int64 (number (pos n)) s h = refl
tagged text byte_array (bytes t) s h = refl
tagged binary byte_array (bytes t) s h = refl
tagged (fixed_bytes n) (fixed m) (bytes t) s h = refl
tagged decimal int32 (number z) s h = refl
tagged decimal int64 (number z) s h = refl
tagged decimal (fixed n) (number z) (bytes t) h = refl
tagged months (fixed n) (bytes t) s h = refl
tagged days (fixed n) (bytes t) s h = refl
tagged t p v s h = absurd h

heads : (a b : ℕ) (s t : List ℕ) → (a < b) ⊎ (b ≤ a) → (b < a) ⊎ (a ≤ b) → IsBefore s t ⊎ IsBefore t s → IsBefore (a ∷ s) (b ∷ t) ⊎ IsBefore (b ∷ t) (a ∷ s)
heads a b s t (inl l) k h = inl (inl l)
heads a b s t (inr l) (inl k) h = inr (inl k)
heads a b s t (inr l) (inr k) (inl h) = inl (inr (omega (arith, l, k), h))
heads a b s t (inr l) (inr k) (inr h) = inr (inr (omega (arith, l, k), h))

before_either : (s t : List ℕ) → IsBefore s t ⊎ IsBefore t s
before_either [] t = inl tt
before_either (a ∷ s) [] = inr tt
before_either (a ∷ s) (b ∷ t) = heads a b s t (cases_lt a b) (cases_lt b a) (before_either s t)

number_either : (a b : ℤ) → (a ≤ℤ b) ⊎ (b ≤ℤ a)
number_either a b = by_lt_z a b (λ l. inl (by_lt_z b a (λ k. absurd (<ℤ_irrefl (int_chain a b a l k))) (λ k. k))) (λ k. inr k)

either : (u v : Value) → tag u ≡ tag v → IsUpTo u v ⊎ IsUpTo v u
either (truth false) (truth c) e = inl tt
either (truth true) (truth true) e = inl refl
either (truth true) (truth false) e = inr tt
either (number a) (number b) e = number_either a b
either (bytes s) (bytes t) e = before_either s t
either (truth b) (number z) e = absurd (omega (arith, e))
either (truth b) (bytes z) e = absurd (omega (arith, e))
either (number b) (truth z) e = absurd (omega (arith, e))
either (number b) (bytes z) e = absurd (omega (arith, e))
either (bytes b) (truth z) e = absurd (omega (arith, e))
either (bytes b) (number z) e = absurd (omega (arith, e))

-- ---- the least and the greatest

-- one of the values, to which some order leads from each of them
record IsFirst (R : Value → Value → Type 0) (vs : List Value) : Type 0 where
  first : Value
  among : Contains vs first
  all : Each (R first) vs

here : (v : Value) (vs : List Value) → Contains (v ∷ vs) v
here v vs = (0, omega arith, refl)

weaker : (R : Value → Value → Type 0) (u v : Value) (vs : List Value) → ((w : Value) → R v w → R u w) → Each (R v) vs → Each (R u) vs
weaker R u v [] h e = tt
weaker R u v (w ∷ ws) h e = (h w e.0, weaker R u v ws h e.1)

module _ (R : Value → Value → Type 0) (self : (v : Value) → R v v) (on : (u v w : Value) → R u v → R v w → R u w) (k : ℕ) (both : (u v : Value) → tag u ≡ k → tag v ≡ k → R u v ⊎ R v u) where
  first_of : (v : Value) (vs : List Value) → Each (λ u. tag u ≡ k) (v ∷ vs) → (f : IsFirst R (v ∷ vs)) × (tag f.first ≡ k)
  first_of v [] h = (record { first = v; among = here v []; all = (self v, tt) }, h.0)
  first_of v (u ∷ us) h = chosen (first_of u us h.1)
    where
      chosen : (f : IsFirst R (u ∷ us)) × (tag f.first ≡ k) → (f : IsFirst R (v ∷ u ∷ us)) × (tag f.first ≡ k)
      chosen f = by_order (both v f.0.first h.0 f.1)
        where
          by_order : R v f.0.first ⊎ R f.0.first v → (g : IsFirst R (v ∷ u ∷ us)) × (tag g.first ≡ k)
          by_order (inl l) = (record { first = v; among = here v (u ∷ us); all = (self v, weaker R v f.0.first (u ∷ us) (λ w r. on v f.0.first w l r) f.0.all) }, h.0)
          by_order (inr g) = (record { first = f.0.first; among = Contains-append_right (v ∷ []) (u ∷ us) f.0.first f.0.among; all = (g, f.0.all) }, f.1)

-- ---- the texts

signed_32 : (z : ℤ) → Fits 32 z → SFits w32 z
signed_32 (pos n) h = omega (arith, h)
signed_32 (negsuc n) h = omega (arith, h)

signed_64 : (z : ℤ) → Fits 64 z → SFits w64 z
signed_64 (pos n) h = omega (arith, h)
signed_64 (negsuc n) h = omega (arith, h)

under : (n a b : ℕ) → a ≤ b → n < 2 ^ a → n < 2 ^ b
under n a b l h = by_order (cases_lt a b)
  where
    by_order : (a < b) ⊎ (b ≤ a) → n < 2 ^ b
    by_order (inl k) = omega (arith, h, pow_below a b k)
    by_order (inr k) = let e : a ≡ b = omega (arith, l, k) in subst (λ (m : ℕ). n < 2 ^ m) e h

wider : (w m : ℕ) (z : ℤ) → w ≤ m → Fits w z → Fits m z
wider w m (pos n) l h = under n (w - 1) (m - 1) (omega (arith, l)) h
wider w m (negsuc n) l h = under n (w - 1) (m - 1) (omega (arith, l)) h

abbrev HasText : Physical → Value → Type 0
HasText p s = IsBoundText p (bound_text p s) s

number_32 : (z : ℤ) → SFits w32 z → HasText int32 (number z)
number_32 z f = (refl, sym (ap (cast_signed w32) (four_bytes (cast_unsigned w32 z) (omega (arith, Fits-of_z f))) ∙ to_z-of_z w32 z f))

number_64 : (z : ℤ) → SFits w64 z → HasText int64 (number z)
number_64 z f = (refl, sym (ap (cast_signed w64) (eight_bytes (cast_unsigned w64 z) (omega (arith, Fits-of_z f))) ∙ to_z-of_z w64 z f))

unsigned_32 : (n : ℕ) → n < 2 ^ 32 → HasText int32 (number (cast_signed w32 n))
unsigned_32 n h = number_32 (cast_signed w32 n) (sfits_to_z (omega (arith, h)))

unsigned_64 : (n : ℕ) → n < 2 ^ 64 → HasText int64 (number (cast_signed w64 n))
unsigned_64 n h = number_64 (cast_signed w64 n) (sfits_to_z (omega (arith, h)))

truth_text : (b : Bool) → HasText boolean (truth b)
truth_text true = refl
truth_text false = refl

of_width : (w n : ℕ) → (w ≡ 32) ⊎ (w ≡ 64) → n < 2 ^ w → n < 2 ^ 64
of_width w n (inl e) h = under n w 64 (omega (arith, e)) h
of_width w n (inr e) h = under n w 64 (omega (arith, e)) h

same : (p : Physical) (s u : Value) → s ≡ u → HasText p u → HasText p s
same p s u e h = subst (HasText p) (sym e) h

pub texts : (t : LeafType) (p : Physical) (v s : Value) → has_order t ≡ true → IsStored t p v s → HasText p s
texts truths boolean (truth b) s o h = same boolean s (truth b) h (truth_text b)
texts (signed w) int32 (number z) s o h = same int32 s (number z) h.2 (number_32 z (signed_32 z (wider w 32 z h.0 h.1)))
texts (signed w) int64 (number z) s o h = same int64 s (number z) h.2 (number_64 z (signed_64 z (wider w 64 z (omega (arith, h.0)) h.1)))
texts (unsigned w) int32 (number (pos n)) s o h = same int32 s (number (cast_signed w32 n)) h.2 (unsigned_32 n (under n w 32 h.0 h.1))
texts (unsigned w) int64 (number (pos n)) s o h = same int64 s (number (cast_signed w64 n)) h.2 (unsigned_64 n (of_width w n h.0 h.1))
texts text byte_array (bytes b) s o h = same byte_array s (bytes b) h.1 refl
texts binary byte_array (bytes b) s o h = same byte_array s (bytes b) h refl
texts (fixed_bytes n) (fixed m) (bytes b) s o h = same (fixed m) s (bytes b) h.2 (h.1 ∙ h.0, refl)
texts decimal int32 (number z) s o h = same int32 s (number z) h.1 (number_32 z (signed_32 z h.0))
texts decimal int64 (number z) s o h = same int64 s (number z) h.1 (number_64 z (signed_64 z h.0))
texts decimal (fixed n) (number z) (bytes b) o h = (h.2, refl)
texts months p v s o h = absurd (true≢false (sym o))
texts days p v s o h = absurd (true≢false (sym o))
texts t p v s o h = absurd h

bound : (t : LeafType) (p : Physical) (s : List ℕ) (v : Value) → has_order t ≡ true → IsSpelled t p s v → IsBound t p s v
bound t p s v o k = record { stored = k.stored; is_stored = k.is_stored; spells = subst (λ (x : List ℕ). IsBoundText p x k.stored) (sym k.is) (texts t p v k.stored o k.is_stored) }

-- what has these texts are bounds
pub spelled_bounds : (t : LeafType) (p : Physical) (b : Bounds) (vs : List Value) → has_order t ≡ true → AreSpelled t p b vs → AreBounds t p b vs
spelled_bounds t p b vs o h = record {
  low = h.low;
  has_low = h.has_low;
  is_low = h.is_low;
  low_text = bound t p b.least h.low o h.low_text;
  high = h.high;
  has_high = h.has_high;
  is_high = h.is_high;
  high_text = bound t p b.greatest h.high o h.high_text;
}

-- ---- of a column

abbrev IsKept : LeafType → Physical → Value → Type 0
IsKept t p v = (s : Value) × IsStored t p v s × HasOwnBytes t s

kept_more : (t : LeafType) (p : Physical) (r d r' d' : ℕ) (u v : Option Value) (xs ys : List Triple) → IsStoredOption t p u v → Each (HasOwnBytes t) (values_in (record { repetition = r'; definition = d'; value = v } ∷ ys)) → (Each (HasOwnBytes t) (values_in ys) → Each (IsKept t p) (values_in xs)) → Each (IsKept t p) (values_in (record { repetition = r; definition = d; value = u } ∷ xs))
kept_more t p r d r' d' None None xs ys h k e = e k
kept_more t p r d r' d' (Some u) (Some v) xs ys h k e = ((v, h, k.0), e k.1)
kept_more t p r d r' d' None (Some v) xs ys h k e = absurd h
kept_more t p r d r' d' (Some u) None xs ys h k e = absurd h

values_kept : (t : LeafType) (p : Physical) (xs ys : List Triple) → AreStored t p xs ys → Each (HasOwnBytes t) (values_in ys) → Each (IsKept t p) (values_in xs)
values_kept t p [] [] h k = tt
values_kept t p [] (y ∷ ys) h k = absurd h
values_kept t p (x ∷ xs) [] h k = absurd h
values_kept t p (x ∷ xs) (y ∷ ys) h k = kept_more t p x.repetition x.definition y.repetition y.definition x.value y.value xs ys h.0.value k (values_kept t p xs ys h.1)

all_tagged : (t : LeafType) (p : Physical) (vs : List Value) → Each (IsKept t p) vs → Each (λ u. tag u ≡ kind t) vs
all_tagged t p [] h = tt
all_tagged t p (v ∷ vs) h = (tagged t p v h.0.0 h.0.1, all_tagged t p vs h.1)

one_of : (P : Value → Type 0) (vs : List Value) (v : Value) → Each P vs → Contains vs v → P v
one_of P [] v h c = absurd (omega (arith, c.1))
one_of P (u ∷ us) v h (zero, l, e) = subst P e h.0
one_of P (u ∷ us) v h (suc i, l, e) = one_of P us v h.1 (i, omega (arith, l), e)

spelled : (t : LeafType) (p : Physical) (v : Value) → IsKept t p v → (s : List ℕ) × IsSpelled t p s v
spelled t p v k = (bound_text p k.0, record { stored = k.0; is_stored = k.1; has_bytes = k.2; is = refl })

bounds : (t : LeafType) (p : Physical) (v : Value) (vs : List Value) → Each (IsKept t p) (v ∷ vs) → (b : Bounds) × AreSpelled t p b (v ∷ vs)
bounds t p v vs h =
    let tags = all_tagged t p (v ∷ vs) h in
    let low = (first_of IsUpTo up_to_self up_to_trans (kind t) (λ u w a b. either u w (a ∙ sym b)) v vs tags).0 in
    let high = (first_of (λ u w. IsUpTo w u) up_to_self (λ u w x a b. up_to_trans x w u b a) (kind t) (λ u w a b. either w u (b ∙ sym a)) v vs tags).0 in
    let least = spelled t p low.first (one_of (IsKept t p) (v ∷ vs) low.first h low.among) in
    let greatest = spelled t p high.first (one_of (IsKept t p) (v ∷ vs) high.first h high.among) in (
      record { least = least.0; greatest = greatest.0 },
      record {
        low = low.first;
        has_low = low.among;
        is_low = All-from_recursion (λ w. IsUpTo low.first w) (v ∷ vs) low.all;
        low_text = least.1;
        high = high.first;
        has_high = high.among;
        is_high = All-from_recursion (λ w. IsUpTo w high.first) (v ∷ vs) high.all;
        high_text = greatest.1;
      },
    )

some_bounds : (t : LeafType) (p : Physical) (o : Bool) (vs : List Value) → has_order t ≡ o → Each (IsKept t p) vs → (b : Option Bounds) × HasBounds t p o b vs × BoundsAreSpelled t p vs b
some_bounds t p false vs o h = (None, tt, tt)
some_bounds t p true [] o h = (None, tt, tt)
some_bounds t p true (v ∷ vs) o h = let b = bounds t p v vs h in (Some b.0, spelled_bounds t p b.0 (v ∷ vs) o b.1, b.1)

pub statistics_exist : StatisticsExist
statistics_exist false t p column stored h k = (None, tt, tt)
statistics_exist true t p column stored h k =
    let b = some_bounds t p (has_order t) (values_in column) refl (values_kept t p column stored h (recursion_from_All (HasOwnBytes t) (values_in stored) k)) in
    (Some (record { null_count = count_by (λ x. is_none x.value) column; bounds = b.0 }), record { null_count = refl; bounds = b.1 }, b.2)
