-- The values of a block, from its last pair to its first.
use Rattle.std.proofs.Common.{◌≡◌, inl, inr, ℕ, zero, suc, ◌+◌, ◌<◌, ◌≤◌, nat_le, true, false, Some, None, nat_eq, List, [], ◌∷◌, ◌++◌, map, length, replicate, drop, get_or, refl, arith, ap, sym, ◌∙◌, append_assoc, append-nil, length-append, add-one}
use Rattle.std.proofs.Math.Seq.{drop-cons, get_or-append_seam}
use Rattle.std.proofs.Common.{Bool}
use Rattle.std.proofs.lemmas.Bool.{le-leb, eq-eqb, ne_eqb}
use Rattle.std.proofs.lemmas.List.{length-map, map-append}
use Rattle.columns_base.specs.declared.error.Error.{Error}
use Rattle.std.proofs.lemmas.Bool.Decides.{leb_tells, eqb_tells}
use Rattle.shredding.specs.Slot.{Value, Slot, null, value}
use Rattle.read_laws.specs.Step.{bit}
use Rattle.read_laws.specs.Column.{slot_of}
use Rattle.read_walk.specs.Values.{Stored, Decodes, DecodesMixed, ones, spread, CannotDecode, bytes_of, bytes_in, byte_size}
use Rattle.read_walk.specs.Gives.{called, mixed, Decoded}

pub decoded-none : (floor top : ℕ) (left : List Stored) (slots : List Slot) → Decoded floor top [] left left slots slots
decoded-none floor top left slots = record { gives = []; more = []; pushed = sym (append-nil slots); each = tt; values = refl; grown = refl; sized = refl }

bit-high : (floor d : ℕ) → floor ≤ d → bit (nat_le floor d) ≡ 1
bit-high floor d h = rw (le-leb floor d h) refl

bit-low : (floor d : ℕ) → d < floor → bit (nat_le floor d) ≡ 0
bit-low floor d h = elim (leb_tells floor d) [ inl e ↦ absurd (omega (arith, h, e.1)) | inr e ↦ rw e.0 refl ]

one-more : (slots : List Slot) (s : Slot) (floor d : ℕ) → floor ≤ d → length (slots ++ s ∷ []) ≡ length slots + bit (nat_le floor d)
one-more slots s floor d h = rw (bit-high floor d h) (length-append slots (s ∷ []))

the-slot : (slots more slots' : List Slot) (s : Slot) → slots' ≡ (slots ++ s ∷ []) ++ more → slot_of slots' (length slots) ≡ s
the-slot slots more slots' s e = rw (e ∙ append_assoc slots (s ∷ []) more) (get_or-append_seam slots s more null)

one-value : (floor top : ℕ) (ds : List ℕ) (v : Value) (left left' : List Stored) (slots slots' : List Slot) → floor ≤ top → Decoded floor top ds left left' (slots ++ value v ∷ []) slots' → Decoded floor top (top ∷ ds) (Some v ∷ left) left' slots slots'
one-value floor top ds v left left' slots slots' h d = record {
  gives = Some v ∷ d.gives;
  more = value v ∷ d.more;
  pushed = d.pushed ∙ append_assoc slots (value v ∷ []) d.more;
  each = ((refl, the-slot slots d.more slots' (value v) d.pushed), rw (← one-more slots (value v) floor top h) d.each);
  values = ap (λ (vs : List Stored). Some v ∷ vs) d.values;
  grown = omega (arith, d.grown, bit-high floor top h);
  sized = ap (λ (n : ℕ). byte_size v + n) d.sized;
}

one-null : (floor top level : ℕ) (ds : List ℕ) (left left' : List Stored) (slots slots' : List Slot) → (level ≡ top → ⊥) → floor ≤ level → Decoded floor top ds left left' (slots ++ null ∷ []) slots' → Decoded floor top (level ∷ ds) left left' slots slots'
one-null floor top level ds left left' slots slots' not h d = record {
  gives = None ∷ d.gives;
  more = null ∷ d.more;
  pushed = d.pushed ∙ append_assoc slots (null ∷ []) d.more;
  each = ((not, λ f. the-slot slots d.more slots' null d.pushed), rw (← one-more slots null floor level h) d.each);
  values = d.values;
  grown = omega (arith, d.grown, bit-high floor level h);
  sized = omega (arith, d.sized);
}

one-less : (floor top level : ℕ) (ds : List ℕ) (left left' : List Stored) (slots slots' : List Slot) → (level ≡ top → ⊥) → level < floor → Decoded floor top ds left left' slots slots' → Decoded floor top (level ∷ ds) left left' slots slots'
one-less floor top level ds left left' slots slots' not h d =
    let z : length slots + bit (nat_le floor level) ≡ length slots = omega (arith, bit-low floor level h) in
    record {
      gives = None ∷ d.gives;
      more = d.more;
      pushed = d.pushed;
      each = ((not, λ f. absurd (omega (arith, f, h))), rw z d.each);
      values = d.values;
      grown = omega (arith, d.grown, bit-low floor level h);
      sized = d.sized;
    }

pub many-values : (floor top : ℕ) (ds : List ℕ) (vs : List Value) (left left' : List Stored) (slots slots' : List Slot) → floor ≤ top → Decoded floor top ds left left' (slots ++ map value vs) slots' → Decoded floor top (replicate (length vs) top ++ ds) (map Some vs ++ left) left' slots slots'
many-values floor top ds [] left left' slots slots' h d = rw (append-nil slots) at d
many-values floor top ds (v ∷ vs) left left' slots slots' h d = one-value floor top (replicate (length vs) top ++ ds) v (map Some vs ++ left) left' slots slots' h (many-values floor top ds vs left left' (slots ++ value v ∷ []) slots' h (rw (append_assoc slots (value v ∷ []) (map value vs)) d))

pub many-nulls : (n floor top level : ℕ) (ds : List ℕ) (left left' : List Stored) (slots slots' : List Slot) → (level ≡ top → ⊥) → floor ≤ level → Decoded floor top ds left left' (slots ++ replicate n null) slots' → Decoded floor top (replicate n level ++ ds) left left' slots slots'
many-nulls zero floor top level ds left left' slots slots' not h d = rw (append-nil slots) at d
many-nulls (suc n) floor top level ds left left' slots slots' not h d = one-null floor top level (replicate n level ++ ds) left left' slots slots' not h (many-nulls n floor top level ds left left' (slots ++ null ∷ []) slots' not h (rw (append_assoc slots (null ∷ []) (replicate n null)) d))

pub many-less : (n floor top level : ℕ) (ds : List ℕ) (left left' : List Stored) (slots slots' : List Slot) → (level ≡ top → ⊥) → level < floor → Decoded floor top ds left left' slots slots' → Decoded floor top (replicate n level ++ ds) left left' slots slots'
many-less zero floor top level ds left left' slots slots' not h d = d
many-less (suc n) floor top level ds left left' slots slots' not h d = one-less floor top level (replicate n level ++ ds) left left' slots slots' not h (many-less n floor top level ds left left' slots slots' not h d)

-- ---- levels from a place on
replicate-more : (n x : ℕ) (ys : List ℕ) → replicate n x ++ x ∷ ys ≡ replicate (suc n) x ++ ys
replicate-more zero x ys = refl
replicate-more (suc n) x ys = ap (λ (t : List ℕ). x ∷ t) (replicate-more n x ys)

pub first-alike : (levels : List ℕ) (at : ℕ) → at < length levels → drop at levels ≡ replicate 1 (get_or levels at 0) ++ drop (at + 1) levels
first-alike levels at h = rw add-one (drop-cons levels at 0 h)

pub more-alike : (levels : List ℕ) (at count level : ℕ) → at + count < length levels → get_or levels (at + count) 0 ≡ level → drop at levels ≡ replicate count level ++ drop (at + count) levels → drop at levels ≡ replicate (count + 1) level ++ drop (at + (count + 1)) levels
more-alike levels at count level h e all =
    let next : drop (at + count) levels ≡ level ∷ drop (suc (at + count)) levels = rw e at (drop-cons levels (at + count) 0 h) in
    let more : count + 1 ≡ suc count = omega arith in
    let place : at + suc count ≡ suc (at + count) = omega arith in
    rw more (rw place (all ∙ (ap (λ (t : List ℕ). replicate count level ++ t) next ∙ replicate-more count level (drop (suc (at + count)) levels))))

pub values-front : (n floor top level : ℕ) (ds : List ℕ) (left left1 left' : List Stored) (slots slots1 slots' : List Slot) → floor ≤ top → level ≡ top → Decodes n left left1 slots slots1 → Decoded floor top ds left1 left' slots1 slots' → Decoded floor top (replicate n level ++ ds) left left' slots slots'
values-front n floor top level ds left left1 left' slots slots1 slots' h e r d =
    let all : Decoded floor top (replicate (length r.values) top ++ ds) (map Some r.values ++ left1) left' slots slots' = many-values floor top ds r.values left1 left' slots slots' h (rw (← r.pushed) d) in
    rw (e, r.taken, ← r.size) all

-- ---- what values cannot be decoded
one-called : (top d : ℕ) → bit (nat_eq d top) ≤ 1
one-called top d = weight (nat_eq d top)
  where
    weight : (b : Bool) → bit b ≤ 1
    weight true = omega arith
    weight false = omega arith

called-top : (n top level : ℕ) (ds : List ℕ) → level ≡ top → called top (replicate n level ++ ds) ≡ n + called top ds
called-top zero top level ds e = omega arith
called-top (suc n) top level ds e = omega (arith, called-top n top level ds e, ap bit (eq-eqb level top e))

called-other : (n top level : ℕ) (ds : List ℕ) → (level ≡ top → ⊥) → called top (replicate n level ++ ds) ≡ called top ds
called-other zero top level ds e = refl
called-other (suc n) top level ds e = omega (arith, called-other n top level ds e, ap bit (ne_eqb level top e))

bytes-append : (xs ys : List Value) → bytes_of (xs ++ ys) ≡ bytes_of xs + bytes_of ys
bytes-append [] ys = omega arith
bytes-append (x ∷ xs) ys = omega (arith, bytes-append xs ys)

pub slots-append : (xs ys : List Slot) → bytes_in (xs ++ ys) ≡ bytes_in xs + bytes_in ys
slots-append [] ys = omega arith
slots-append (x ∷ xs) ys = omega (arith, slots-append xs ys)

pub slots-values : (vs : List Value) → bytes_in (map value vs) ≡ bytes_of vs
slots-values [] = refl
slots-values (v ∷ vs) = ap (λ (n : ℕ). byte_size v + n) (slots-values vs)

pub slots-nulls : (n : ℕ) → bytes_in (replicate n null) ≡ 0
slots-nulls zero = refl
slots-nulls (suc n) = omega (arith, slots-nulls n)

-- more values are called for
pub cannot-more : (most n m : ℕ) (left : List Stored) (slots : List Slot) (e : Error) → n ≤ m → CannotDecode most n left slots e → CannotDecode most m left slots e
cannot-more most n m left slots e h c = elim c [
  | inl memory ↦ inl memory
  | inr (inl few) ↦ inr (inl (few.0, omega (arith, few.1, h)))
  | inr (inr (inl out)) ↦ inr (inr (inl (out.0, record { values = out.1.values; rest = out.1.rest; next = out.1.next; within = omega (arith, out.1.within, h) })))
  | inr (inr (inr long)) ↦ inr (inr (inr (long.0, record { values = long.1.values; rest = long.1.rest; next = long.1.next; within = omega (arith, long.1.within, h); some = long.1.some; long = long.1.long })))
]

-- after values that were decoded, and slots behind those before
pub cannot-behind : (most n : ℕ) (vs : List Value) (left left1 : List Stored) (slots slots1 : List Slot) (e : Error) → left ≡ map Some vs ++ left1 → bytes_in slots1 ≡ bytes_in slots + bytes_of vs → CannotDecode most n left1 slots1 e → CannotDecode most (length vs + n) left slots e
cannot-behind most n vs left left1 slots slots1 e l s c = elim c [
  | inl memory ↦ inl memory
  | inr (inl few) ↦
      let size : length left ≡ length vs + length left1 = ap length l ∙ (length-append (map Some vs) left1 ∙ ap (λ (k : ℕ). k + length left1) (length-map vs Some)) in
      inr (inl (few.0, omega (arith, few.1, size)))
  | inr (inr (inl out)) ↦ inr (inr (inl (
    out.0,
    record {
      values = vs ++ out.1.values;
      rest = out.1.rest;
      next = l ∙ (ap (λ (t : List Stored). map Some vs ++ t) out.1.next ∙ (sym (append_assoc (map Some vs) (map Some out.1.values) (None ∷ out.1.rest)) ∙ ap (λ (t : List Stored). t ++ (None ∷ out.1.rest)) (sym (map-append Some vs out.1.values))));
      within = omega (arith, length-append vs out.1.values, out.1.within);
    },
  )))
  | inr (inr (inr long)) ↦ inr (inr (inr (
    long.0,
    record {
      values = vs ++ long.1.values;
      rest = long.1.rest;
      next = l ∙ (ap (λ (t : List Stored). map Some vs ++ t) long.1.next ∙ (sym (append_assoc (map Some vs) (map Some long.1.values) long.1.rest) ∙ ap (λ (t : List Stored). t ++ long.1.rest) (sym (map-append Some vs long.1.values))));
      within = omega (arith, length-append vs long.1.values, long.1.within);
      some = long.1.some;
      long = omega (arith, long.1.long, s, bytes-append vs long.1.values);
    },
  )))
]

pub cannot-values : (most n top level : ℕ) (ds : List ℕ) (left left1 : List Stored) (slots slots1 : List Slot) (e : Error) → level ≡ top → Decodes n left left1 slots slots1 → CannotDecode most (called top ds) left1 slots1 e → CannotDecode most (called top (replicate n level ++ ds)) left slots e
cannot-values most n top level ds left left1 slots slots1 e same r c =
    let bytes : bytes_in slots1 ≡ bytes_in slots + bytes_of r.values = ap bytes_in r.pushed ∙ (slots-append slots (map value r.values) ∙ ap (λ (k : ℕ). bytes_in slots + k) (slots-values r.values)) in
    let behind = cannot-behind most (called top ds) r.values left left1 slots slots1 e r.taken bytes c in
    cannot-more most (length r.values + called top ds) (called top (replicate n level ++ ds)) left slots e (omega (arith, called-top n top level ds same, r.size)) behind

pub cannot-nulls : (most n k top level : ℕ) (ds : List ℕ) (left : List Stored) (slots slots1 : List Slot) (e : Error) → (level ≡ top → ⊥) → slots1 ≡ slots ++ replicate k null → CannotDecode most (called top ds) left slots1 e → CannotDecode most (called top (replicate n level ++ ds)) left slots e
cannot-nulls most n k top level ds left slots slots1 e differ r c =
    let bytes : bytes_in slots1 ≡ bytes_in slots + 0 = ap bytes_in r ∙ (slots-append slots (replicate k null) ∙ ap (λ (m : ℕ). bytes_in slots + m) (slots-nulls k)) in
    let behind = cannot-behind most (called top ds) [] left left slots slots1 e refl bytes c in
    cannot-more most (0 + called top ds) (called top (replicate n level ++ ds)) left slots e (omega (arith, called-other n top level ds differ)) behind

pub cannot-less : (most n top level : ℕ) (ds : List ℕ) (left : List Stored) (slots : List Slot) (e : Error) → (level ≡ top → ⊥) → CannotDecode most (called top ds) left slots e → CannotDecode most (called top (replicate n level ++ ds)) left slots e
cannot-less most n top level ds left slots e differ c = cannot-more most (called top ds) (called top (replicate n level ++ ds)) left slots e (omega (arith, called-other n top level ds differ)) c

-- those that one stretch calls for are among all
pub cannot-front : (most n top level : ℕ) (ds : List ℕ) (left : List Stored) (slots : List Slot) (e : Error) → level ≡ top → CannotDecode most n left slots e → CannotDecode most (called top (replicate n level ++ ds)) left slots e
cannot-front most n top level ds left slots e same c = cannot-more most n (called top (replicate n level ++ ds)) left slots e (omega (arith, called-top n top level ds same)) c

-- ---- levels from the floor on by their bits
module _ (floor top : ℕ) (under : floor ≤ top) where
  at-top : (x : ℕ) (xs ds : List ℕ) (vs : List Value) (left left' : List Stored) (slots slots' : List Slot) → x ≡ top → length vs ≡ 1 + ones (mixed floor top xs) → Decoded floor top ds left left' (slots ++ spread (true ∷ mixed floor top xs) vs) slots' → ((vs' : List Value) (slots1 : List Slot) → length vs' ≡ ones (mixed floor top xs) → Decoded floor top ds left left' (slots1 ++ spread (mixed floor top xs) vs') slots' → Decoded floor top (xs ++ ds) (map Some vs' ++ left) left' slots1 slots') → Decoded floor top (x ∷ (xs ++ ds)) (map Some vs ++ left) left' slots slots'
  at-top x xs ds [] left left' slots slots' e z d others = absurd (omega (arith, z))
  at-top x xs ds (v ∷ vs) left left' slots slots' e z d others = rw e (one-value floor top (xs ++ ds) v (map Some vs ++ left) left' slots slots' under (others vs (slots ++ value v ∷ []) (omega (arith, z)) (rw (append_assoc slots (value v ∷ []) (spread (mixed floor top xs) vs)) d)))

  pub mixed-front : (xs ds : List ℕ) (vs : List Value) (left left' : List Stored) (slots slots' : List Slot) → length vs ≡ ones (mixed floor top xs) → Decoded floor top ds left left' (slots ++ spread (mixed floor top xs) vs) slots' → Decoded floor top (xs ++ ds) (map Some vs ++ left) left' slots slots'
  mixed-front [] ds [] left left' slots slots' z d = rw (append-nil slots) at d
  mixed-front [] ds (v ∷ vs) left left' slots slots' z d = absurd (omega (arith, z))
  mixed-front (x ∷ xs) ds vs left left' slots slots' z d = elim (leb_tells floor x) [
    | inr low ↦
        let less : x < floor = omega (arith, low.1) in
        one-less floor top x (xs ++ ds) (map Some vs ++ left) left' slots slots' (λ e. omega (arith, e, less, under)) less (mixed-front xs ds vs left left' slots slots' (rw low.0 at z) (rw low.0 at d))
    | inl high ↦ elim (eqb_tells x top) [
      | inl same ↦ at-top x xs ds vs left left' slots slots' same.1 (rw (high.0, same.0) at z) (rw (high.0, same.0) at d) (λ vs' slots1 z' d'. mixed-front xs ds vs' left left' slots1 slots' z' d')
      | inr other ↦
          let same-size : length vs ≡ 0 + ones (mixed floor top xs) = rw (high.0, other.0) at z in
          one-null floor top x (xs ++ ds) (map Some vs ++ left) left' slots slots' other.1 high.1 (mixed-front xs ds vs left left' (slots ++ null ∷ []) slots' (omega (arith, same-size)) (rw (append_assoc slots (null ∷ []) (spread (mixed floor top xs) vs)) (rw (high.0, other.0) at d)))
    ]
  ]

  pub called-mixed : (xs ds : List ℕ) → called top (xs ++ ds) ≡ ones (mixed floor top xs) + called top ds
  called-mixed [] ds = omega arith
  called-mixed (x ∷ xs) ds = elim (leb_tells floor x) [
    | inr low ↦ rw (low.0, ne_eqb x top (λ e. omega (arith, e, low.1, under))) (omega (arith, called-mixed xs ds))
    | inl high ↦ rw high.0 (omega (arith, called-mixed xs ds))
  ]

pub bytes-spread : (bs : List Bool) (vs : List Value) → length vs ≡ ones bs → bytes_in (spread bs vs) ≡ bytes_of vs
bytes-spread [] [] e = refl
bytes-spread [] (v ∷ vs) e = absurd (omega (arith, e))
bytes-spread (false ∷ bs) vs e = omega (arith, bytes-spread bs vs (omega (arith, e)))
bytes-spread (true ∷ bs) [] e = absurd (omega (arith, e))
bytes-spread (true ∷ bs) (v ∷ vs) e = ap (λ (n : ℕ). byte_size v + n) (bytes-spread bs vs (omega (arith, e)))

pub front-mixed : (floor top : ℕ) (xs ds : List ℕ) (bits : List Bool) (left left1 left' : List Stored) (slots slots1 slots' : List Slot) → floor ≤ top → bits ≡ mixed floor top xs → DecodesMixed bits left left1 slots slots1 → Decoded floor top ds left1 left' slots1 slots' → Decoded floor top (xs ++ ds) left left' slots slots'
front-mixed floor top xs ds bits left left1 left' slots slots1 slots' h e r d =
    let size : length r.values ≡ ones (mixed floor top xs) = r.size ∙ ap ones e in
    let pushed : slots1 ≡ slots ++ spread (mixed floor top xs) r.values = r.pushed ∙ ap (λ (bs : List Bool). slots ++ spread bs r.values) e in
    rw r.taken (mixed-front floor top h xs ds r.values left1 left' slots slots' size (rw pushed at d))

pub cannot-mixed : (most floor top : ℕ) (xs ds : List ℕ) (bits : List Bool) (left left1 : List Stored) (slots slots1 : List Slot) (e : Error) → floor ≤ top → bits ≡ mixed floor top xs → DecodesMixed bits left left1 slots slots1 → CannotDecode most (called top ds) left1 slots1 e → CannotDecode most (called top (xs ++ ds)) left slots e
cannot-mixed most floor top xs ds bits left left1 slots slots1 e h b r c =
    let bytes : bytes_in slots1 ≡ bytes_in slots + bytes_of r.values = ap bytes_in r.pushed ∙ (slots-append slots (spread bits r.values) ∙ ap (λ (k : ℕ). bytes_in slots + k) (bytes-spread bits r.values r.size)) in
    let behind = cannot-behind most (called top ds) r.values left left1 slots slots1 e r.taken bytes c in
    cannot-more most (length r.values + called top ds) (called top (xs ++ ds)) left slots e (omega (arith, called-mixed floor top h xs ds, r.size, ap ones b)) behind

pub cannot-first : (most floor top : ℕ) (xs ds : List ℕ) (bits : List Bool) (left : List Stored) (slots : List Slot) (e : Error) → floor ≤ top → bits ≡ mixed floor top xs → CannotDecode most (ones bits) left slots e → CannotDecode most (called top (xs ++ ds)) left slots e
cannot-first most floor top xs ds bits left slots e h b c = cannot-more most (ones bits) (called top (xs ++ ds)) left slots e (omega (arith, called-mixed floor top h xs ds, ap ones b)) c

-- ---- equal levels alone
pub copies-values : (n floor top level : ℕ) (left left' : List Stored) (slots slots' : List Slot) → floor ≤ top → level ≡ top → Decodes n left left' slots slots' → Decoded floor top (replicate n level) left left' slots slots'
copies-values n floor top level left left' slots slots' h e r = rw (append-nil (replicate n level)) at (values-front n floor top level [] left left' left' slots slots' slots' h e r (decoded-none floor top left' slots'))

pub copies-nulls : (n floor top level : ℕ) (left : List Stored) (slots slots' : List Slot) → (level ≡ top → ⊥) → floor ≤ level → slots' ≡ slots ++ replicate n null → Decoded floor top (replicate n level) left left slots slots'
copies-nulls n floor top level left slots slots' not h e =
    let none : Decoded floor top [] left left (slots ++ replicate n null) slots' = rw e (decoded-none floor top left (slots ++ replicate n null)) in
    rw (append-nil (replicate n level)) at (many-nulls n floor top level [] left left slots slots' not h none)

pub copies-less : (n floor top level : ℕ) (left : List Stored) (slots : List Slot) → (level ≡ top → ⊥) → level < floor → Decoded floor top (replicate n level) left left slots slots
copies-less n floor top level left slots not h = rw (append-nil (replicate n level)) at (many-less n floor top level [] left left slots slots not h (decoded-none floor top left slots))

pub cannot-copies : (most n top level : ℕ) (left : List Stored) (slots : List Slot) (e : Error) → level ≡ top → CannotDecode most n left slots e → CannotDecode most (called top (replicate n level)) left slots e
cannot-copies most n top level left slots e same c = rw (append-nil (replicate n level)) at (cannot-front most n top level [] left slots e same c)
