-- What passes the offsets of a piece.
use Rattle.std.proofs.Common.{◌≡◌, ◌⊎◌, inl, inr, ℕ, zero, suc, ◌+◌, ◌^◌, ◌<◌, ◌≤◌, pos, negsuc, Bool, true, false, is_some, nat_eq, nat_le, ◌&&◌, cond, Option, Some, None, List, [], ◌∷◌, ◌++◌, map, length, All, refl, arith, ap, sym, subst, ◌∙◌, sum_by}
use Rattle.std.specs.List.{AllZip, cons_option}
use Rattle.std.proofs.lemmas.List.Elements.{All-nil, All-cons, All-head, All-tail}
use Rattle.std.proofs.lemmas.List.Sums.{sum_by-cons}
use Rattle.columns_core.specs.Tree.{TypeTree, t_binary, t_large_binary, t_utf8, t_large_utf8}
use Rattle.shredding.specs.Local.{inside}
use Rattle.shredding.specs.Shape.{LeafType, Way, at_leaf, in_list, in_struct, nothing, truths, text, binary, signed, unsigned, fixed_bytes, decimal, months, days}
use Rattle.shredding.specs.Shred.{Triple, max_repetition}
use Rattle.shredding.specs.Slot.{Value, truth, number, bytes}
use Rattle.pq_files.specs.Page.{values_in}
use Rattle.pq_files.specs.Reasons.{AnyOf}
use Rattle.pq_files.specs.Stored.{AreStored, IsStored, IsStoredOption}
use Rattle.pq_headline.specs.Columns.{ArrowColumn, is_alone, large_limit}
use Rattle.pq_headline.specs.FieldReasons.{PassesLists, PassesTexts, items_in, text_size}
use Rattle.pq_tree.specs.Physical.{Physical, boolean, int32, int64, byte_array, fixed}
use Rattle.read_items.specs.Items.{items_from, list_counts}
use Rattle.read_laws.specs.State.{Kept, kept_leaf, kept_list, kept_struct}
use Rattle.read_laws.specs.Step.{bit}
use Rattle.read_state.specs.Kinds.{HasLongItems}
use Rattle.read_walk.specs.Gives.{called}
use Rattle.read_walk.specs.Pairs.{Pair}
use Rattle.read_walk.specs.Values.{byte_size, bytes_of}
use Rattle.read_walk.specs.Walk.{pair_of, values_of}

-- ---- lists
long-counts : (ks : List Kept) → HasLongItems ks → AnyOf (λ n. 2 ^ 63 ≤ n) (list_counts ks)
long-counts [] h = absurd h
long-counts (kept_leaf n c ∷ ks) (inl h) = absurd (let f = h.0 in cc f)
long-counts (kept_leaf n c ∷ ks) (inr h) = long-counts ks h
long-counts (kept_list m starts ∷ ks) (inl h) = inl h.1
long-counts (kept_list m starts ∷ ks) (inr h) = inr (long-counts ks h)
long-counts (kept_struct m c ∷ ks) (inl h) = absurd (let f = h.0 in cc f)
long-counts (kept_struct m c ∷ ks) (inr h) = long-counts ks h

counts-pass : (n r : ℕ) (w : Way) (limits : List ℕ) (ts : List Triple) → AnyOf (λ k. 2 ^ 63 ≤ k) (items_from n r w ts) → length limits ≡ n → All (λ k. k ≤ large_limit) limits → PassesLists w r limits ts
counts-pass zero r w limits ts h e a = absurd h
counts-pass (suc n) r w [] ts h e a = absurd (omega (arith, e))
counts-pass (suc n) r w (limit ∷ limits) ts (inl h) e a = inl (omega (arith, h, All-head (λ k. k ≤ large_limit) limit limits a))
counts-pass (suc n) r w (limit ∷ limits) ts (inr h) e a = inr (counts-pass n (suc r) w limits ts h (omega (arith, e)) (All-tail (λ k. k ≤ large_limit) limit limits a))

items-stored : (t : LeafType) (p : Physical) (w : Way) (r : ℕ) (ts zs : List Triple) → AreStored t p ts zs → items_in w r zs ≡ items_in w r ts
items-stored t p w r [] [] a = refl
items-stored t p w r [] (z ∷ zs) a = absurd a
items-stored t p w r (u ∷ ts) [] a = absurd a
items-stored t p w r (u ∷ ts) (z ∷ zs) a =
    let one : cond (nat_le z.repetition r && nat_le (inside w r) z.definition) 1 0 ≡ cond (nat_le u.repetition r && nat_le (inside w r) u.definition) 1 0 = rw (a.0.repetition, a.0.definition) refl in
    sum_by-cons (λ (x : Triple). cond (nat_le x.repetition r && nat_le (inside w r) x.definition) 1 0) z zs ∙ (ap (λ (n : ℕ). n + items_in w r zs) one ∙ (ap (λ (n : ℕ). cond (nat_le u.repetition r && nat_le (inside w r) u.definition) 1 0 + n) (items-stored t p w r ts zs a.1) ∙ sym (sum_by-cons (λ (x : Triple). cond (nat_le x.repetition r && nat_le (inside w r) x.definition) 1 0) u ts)))

passes-stored : (t : LeafType) (p : Physical) (w : Way) (r : ℕ) (limits : List ℕ) (ts zs : List Triple) → AreStored t p ts zs → PassesLists w r limits ts → PassesLists w r limits zs
passes-stored t p w r [] ts zs a h = absurd h
passes-stored t p w r (limit ∷ limits) ts zs a (inl h) = inl (omega (arith, h, items-stored t p w r ts zs a))
passes-stored t p w r (limit ∷ limits) ts zs a (inr h) = inr (passes-stored t p w (suc r) limits ts zs a h)

pub lists-pass : (t : LeafType) (p : Physical) (w : Way) (limits : List ℕ) (ks : List Kept) (ts zs : List Triple) → list_counts ks ≡ items_from (max_repetition w) 1 w ts → HasLongItems ks → length limits ≡ max_repetition w → All (λ k. k ≤ large_limit) limits → AreStored t p ts zs → PassesLists w 1 limits zs
lists-pass t p w limits ks ts zs e h n a s = passes-stored t p w 1 limits ts zs s (counts-pass (max_repetition w) 1 w limits ts (subst (λ (ns : List ℕ). AnyOf (λ k. 2 ^ 63 ≤ k) ns) e (long-counts ks h)) n a)

-- ---- texts
pub sizes-same : (vs : List Value) → sum_by text_size vs ≡ bytes_of vs
sizes-same [] = refl
sizes-same (v ∷ vs) = sum_by-cons text_size v vs ∙ (ap (λ (n : ℕ). n + sum_by text_size vs) (one v) ∙ ap (λ (n : ℕ). byte_size v + n) (sizes-same vs))
  where
    one : (v : Value) → text_size v ≡ byte_size v
    one (truth b) = refl
    one (number z) = refl
    one (bytes s) = refl

same-size : (b : List ℕ) (s : Value) → s ≡ bytes b → length b ≤ text_size s
same-size b s e = omega (arith, ap text_size e)

size-truths : (p : Physical) (b : List ℕ) (s : Value) → IsStored truths p (bytes b) s → length b ≤ text_size s
size-truths boolean b s h = absurd h
size-truths p b s h = absurd h

size-signed : (w : ℕ) (p : Physical) (b : List ℕ) (s : Value) → IsStored (signed w) p (bytes b) s → length b ≤ text_size s
size-signed w int32 b s h = absurd h
size-signed w int64 b s h = absurd h
size-signed w p b s h = absurd h

size-unsigned : (w : ℕ) (p : Physical) (b : List ℕ) (s : Value) → IsStored (unsigned w) p (bytes b) s → length b ≤ text_size s
size-unsigned w int32 b s h = absurd h
size-unsigned w int64 b s h = absurd h
size-unsigned w p b s h = absurd h

size-decimal : (p : Physical) (b : List ℕ) (s : Value) → IsStored decimal p (bytes b) s → length b ≤ text_size s
size-decimal int32 b s h = absurd h
size-decimal int64 b s h = absurd h
size-decimal (fixed n) b s h = absurd h
size-decimal p b s h = absurd h

size-text : (p : Physical) (b : List ℕ) (s : Value) → IsStored text p (bytes b) s → length b ≤ text_size s
size-text byte_array b s h = same-size b s h.1
size-text p b s h = absurd h

size-binary : (p : Physical) (b : List ℕ) (s : Value) → IsStored binary p (bytes b) s → length b ≤ text_size s
size-binary byte_array b s h = same-size b s h
size-binary p b s h = absurd h

size-fixed : (n : ℕ) (p : Physical) (b : List ℕ) (s : Value) → IsStored (fixed_bytes n) p (bytes b) s → length b ≤ text_size s
size-fixed n (fixed m) b s h = same-size b s h.2
size-fixed n p b s h = absurd h

size-months : (p : Physical) (b : List ℕ) (s : Value) → IsStored months p (bytes b) s → length b ≤ text_size s
size-months (fixed n) b s h = same-size b s h.3
size-months p b s h = absurd h

size-days : (p : Physical) (b : List ℕ) (s : Value) → IsStored days p (bytes b) s → length b ≤ text_size s
size-days (fixed n) b s h = same-size b s h.3
size-days p b s h = absurd h

size-bytes : (t : LeafType) (p : Physical) (b : List ℕ) (s : Value) → IsStored t p (bytes b) s → length b ≤ text_size s
size-bytes nothing p b s h = absurd h
size-bytes truths p b s h = size-truths p b s h
size-bytes text p b s h = size-text p b s h
size-bytes binary p b s h = size-binary p b s h
size-bytes (signed w) p b s h = size-signed w p b s h
size-bytes (unsigned w) p b s h = size-unsigned w p b s h
size-bytes (fixed_bytes n) p b s h = size-fixed n p b s h
size-bytes decimal p b s h = size-decimal p b s h
size-bytes months p b s h = size-months p b s h
size-bytes days p b s h = size-days p b s h

size-stored : (t : LeafType) (p : Physical) (v s : Value) → IsStored t p v s → text_size v ≤ text_size s
size-stored t p (truth b) s h = omega arith
size-stored t p (number z) s h = omega arith
size-stored t p (bytes b) s h = size-bytes t p b s h

sizes-stored : (t : LeafType) (p : Physical) (vs ss : List Value) → AllZip (IsStored t p) vs ss → sum_by text_size vs ≤ sum_by text_size ss
sizes-stored t p [] [] a = omega arith
sizes-stored t p [] (s ∷ ss) a = absurd a
sizes-stored t p (v ∷ vs) [] a = absurd a
sizes-stored t p (v ∷ vs) (s ∷ ss) a = omega (arith, sum_by-cons text_size v vs, sum_by-cons text_size s ss, size-stored t p v s a.0, sizes-stored t p vs ss a.1)

all-stored : (t : LeafType) (p : Physical) (vs ss : List Value) → AllZip (IsStored t p) vs ss → All (λ v. (s : Value) × IsStored t p v s) vs
all-stored t p [] ss a = All-nil (λ v. (s : Value) × IsStored t p v s)
all-stored t p (v ∷ vs) [] a = absurd a
all-stored t p (v ∷ vs) (s ∷ ss) a = All-cons (λ x. (y : Value) × IsStored t p x y) v vs (s, a.0) (all-stored t p vs ss a.1)

passes-more : (t : TypeTree) (vs ws : List Value) → sum_by text_size vs ≤ sum_by text_size ws → PassesTexts t vs → PassesTexts t ws
passes-more t_utf8 vs ws h p = omega (arith, h, p)
passes-more t_binary vs ws h p = omega (arith, h, p)
passes-more t_large_utf8 vs ws h p = omega (arith, h, p)
passes-more t_large_binary vs ws h p = omega (arith, h, p)
passes-more t vs ws h p = absurd p

pub texts-pass : (data_type : TypeTree) (t : LeafType) (p : Physical) (limit : ℕ) (vs ss : List Value) → ((xs : List Value) → All (λ v. (s : Value) × IsStored t p v s) xs → 0 < limit → limit ≤ sum_by text_size xs → PassesTexts data_type xs) → AllZip (IsStored t p) vs ss → 0 < limit → limit ≤ bytes_of vs → PassesTexts data_type ss
texts-pass data_type t p limit vs ss limited a some h = passes-more data_type vs ss (sizes-stored t p vs ss a) (limited vs (all-stored t p vs ss a) some (omega (arith, h, sizes-same vs)))

-- ---- numbers of a flat column pass nothing
sized-32 : (t : LeafType) (v s : Value) → IsStored t int32 v s → text_size s ≡ 0
sized-32 nothing v s h = absurd h
sized-32 truths v s h = absurd h
sized-32 text v s h = absurd h
sized-32 binary v s h = absurd h
sized-32 (signed w) (number z) s h = ap text_size h.2
sized-32 (signed w) (truth b) s h = absurd h
sized-32 (signed w) (bytes b) s h = absurd h
sized-32 (unsigned w) (number (pos n)) s h = ap text_size h.2
sized-32 (unsigned w) (number (negsuc n)) s h = absurd h
sized-32 (unsigned w) (truth b) s h = absurd h
sized-32 (unsigned w) (bytes b) s h = absurd h
sized-32 (fixed_bytes n) v s h = absurd h
sized-32 decimal (number z) s h = ap text_size h.1
sized-32 decimal (truth b) s h = absurd h
sized-32 decimal (bytes b) s h = absurd h
sized-32 months v s h = absurd h
sized-32 days v s h = absurd h

sized-64 : (t : LeafType) (v s : Value) → IsStored t int64 v s → text_size s ≡ 0
sized-64 nothing v s h = absurd h
sized-64 truths v s h = absurd h
sized-64 text v s h = absurd h
sized-64 binary v s h = absurd h
sized-64 (signed w) (number z) s h = ap text_size h.2
sized-64 (signed w) (truth b) s h = absurd h
sized-64 (signed w) (bytes b) s h = absurd h
sized-64 (unsigned w) (number (pos n)) s h = ap text_size h.2
sized-64 (unsigned w) (number (negsuc n)) s h = absurd h
sized-64 (unsigned w) (truth b) s h = absurd h
sized-64 (unsigned w) (bytes b) s h = absurd h
sized-64 (fixed_bytes n) v s h = absurd h
sized-64 decimal (number z) s h = ap text_size h.1
sized-64 decimal (truth b) s h = absurd h
sized-64 decimal (bytes b) s h = absurd h
sized-64 months v s h = absurd h
sized-64 days v s h = absurd h

sized : (t : LeafType) (p : Physical) (v s : Value) → (p ≡ int32) ⊎ (p ≡ int64) → IsStored t p v s → text_size s ≡ 0
sized t p v s (inl e) h = sized-32 t v s (rw (← e) h)
sized t p v s (inr e) h = sized-64 t v s (rw (← e) h)

one-sized : (t : LeafType) (p : Physical) (v s : Option Value) (ss : List Value) → (p ≡ int32) ⊎ (p ≡ int64) → IsStoredOption t p v s → sum_by text_size ss ≡ 0 → sum_by text_size (cons_option s ss) ≡ 0
one-sized t p None None ss n h e = e
one-sized t p (Some v) (Some s) ss n h e = omega (arith, sum_by-cons text_size s ss, sized t p v s n h, e)
one-sized t p None (Some s) ss n h e = absurd h
one-sized t p (Some v) None ss n h e = absurd h

all-sized : (t : LeafType) (p : Physical) (ts zs : List Triple) → (p ≡ int32) ⊎ (p ≡ int64) → AreStored t p ts zs → sum_by text_size (values_in zs) ≡ 0
all-sized t p [] [] n a = refl
all-sized t p [] (z ∷ zs) n a = absurd a
all-sized t p (u ∷ ts) [] n a = absurd a
all-sized t p (u ∷ ts) (z ∷ zs) n a = one-sized t p u.value z.value (values_in zs) n a.0.«value» (all-sized t p ts zs n a.1)

no-texts : (t : TypeTree) (vs : List Value) → sum_by text_size vs ≡ 0 → PassesTexts t vs → ⊥
no-texts t_utf8 vs e h = omega (arith, e, h)
no-texts t_binary vs e h = omega (arith, e, h)
no-texts t_large_utf8 vs e h = omega (arith, e, h)
no-texts t_large_binary vs e h = omega (arith, e, h)
no-texts t vs e h = h

no-lists : (w : Way) (limits : List ℕ) (ts : List Triple) → is_alone w ≡ true → length limits ≡ max_repetition w → PassesLists w 1 limits ts → ⊥
no-lists w [] ts flat n h = h
no-lists (at_leaf m) (limit ∷ limits) ts flat n h = omega (arith, n)
no-lists (in_list m w) (limit ∷ limits) ts flat n h = cc flat
no-lists (in_struct m i w) (limit ∷ limits) ts flat n h = cc flat

pub not-long : (c : ArrowColumn) (t : LeafType) (p : Physical) (ts zs : List Triple) → is_alone c.way ≡ true → (p ≡ int32) ⊎ (p ≡ int64) → length c.limits ≡ max_repetition c.way → AreStored t p ts zs → PassesLists c.way 1 c.limits zs ⊎ PassesTexts c.data_type (values_in zs) → ⊥
not-long c t p ts zs flat n lists a (inl h) = no-lists c.way c.limits zs flat lists h
not-long c t p ts zs flat n lists a (inr h) = no-texts c.data_type (values_in zs) (all-sized t p ts zs n a) h

-- ---- pairs with their values
pub record IsFill (top : ℕ) (ps : List Pair) (vs : List Value) : Type 0 where
  pub triples : List Triple
  pub pairs : map pair_of triples ≡ ps
  pub values : values_of triples ≡ vs
  pub present : All (λ t. is_some t.value ≡ nat_eq t.definition top) triples

fill-one : (top : ℕ) (p : Pair) (ps : List Pair) (b : Bool) → nat_eq p.1 top ≡ b → ((us : List Value) → called top (map (λ q. q.1) ps) ≡ length us → IsFill top ps us) → (vs : List Value) → bit b + called top (map (λ q. q.1) ps) ≡ length vs → IsFill top (p ∷ ps) vs
fill-one top p ps true k more [] h = absurd (omega (arith, h))
fill-one top p ps true k more (v ∷ vs) h =
    let rest = more vs (omega (arith, h)) in
    record {
      triples = record { repetition = p.0; definition = p.1; value = Some v } ∷ rest.triples;
      pairs = ap (λ (qs : List Pair). p ∷ qs) rest.pairs;
      values = ap (λ (xs : List Value). v ∷ xs) rest.values;
      present = All-cons (λ (t : Triple). is_some t.value ≡ nat_eq t.definition top) (record { repetition = p.0; definition = p.1; value = Some v }) rest.triples (sym k) rest.present;
    }
fill-one top p ps false k more vs h =
    let rest = more vs (omega (arith, h)) in
    record {
      triples = record { repetition = p.0; definition = p.1; value = None } ∷ rest.triples;
      pairs = ap (λ (qs : List Pair). p ∷ qs) rest.pairs;
      values = rest.values;
      present = All-cons (λ (t : Triple). is_some t.value ≡ nat_eq t.definition top) (record { repetition = p.0; definition = p.1; value = None }) rest.triples (sym k) rest.present;
    }

pub filled : (top : ℕ) (ps : List Pair) (vs : List Value) → called top (map (λ p. p.1) ps) ≡ length vs → IsFill top ps vs
filled top [] [] e = record { triples = []; pairs = refl; values = refl; present = All-nil (λ (t : Triple). is_some t.value ≡ nat_eq t.definition top) }
filled top [] (v ∷ vs) e = absurd (omega (arith, e))
filled top (p ∷ ps) vs e = fill-one top p ps (nat_eq p.1 top) refl (filled top ps) vs e

-- the first pairs that call for so many values
pub record CallFor (top m : ℕ) (ps : List Pair) : Type 0 where
  pub front : List Pair
  pub back : List Pair
  pub parts : ps ≡ front ++ back
  pub calls : called top (map (λ p. p.1) front) ≡ m

call-one : (top m : ℕ) (p : Pair) (ps : List Pair) (b : Bool) → nat_eq p.1 top ≡ b → ((k : ℕ) → k ≤ called top (map (λ q. q.1) ps) → CallFor top k ps) → suc m ≤ bit b + called top (map (λ q. q.1) ps) → CallFor top (suc m) (p ∷ ps)
call-one top m p ps true k more h =
    let r = more m (omega (arith, h)) in
    record { front = p ∷ r.front; back = r.back; parts = ap (λ (qs : List Pair). p ∷ qs) r.parts; calls = omega (arith, ap bit k, r.calls) }
call-one top m p ps false k more h =
    let r = more (suc m) (omega (arith, h)) in
    record { front = p ∷ r.front; back = r.back; parts = ap (λ (qs : List Pair). p ∷ qs) r.parts; calls = omega (arith, ap bit k, r.calls) }

pub call-for : (top m : ℕ) (ps : List Pair) → m ≤ called top (map (λ p. p.1) ps) → CallFor top m ps
call-for top zero ps h = record { front = []; back = ps; parts = refl; calls = refl }
call-for top (suc m) [] h = absurd (omega (arith, h))
call-for top (suc m) (p ∷ ps) h = call-one top m p ps (nat_eq p.1 top) refl (λ k. call-for top k ps) h
