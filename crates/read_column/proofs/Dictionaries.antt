-- Values by a dictionary are the plain values that are laid out for them.
use Rattle.std.proofs.Common.{◌≡◌, inl, inr, ℕ, zero, suc, ◌+◌, ◌*◌, ◌<◌, ◌≤◌, Bool, true, false, nat_le, Option, Some, None, Ok, Err, List, [], ◌∷◌, ◌++◌, length, take, drop, replicate, All, refl, arith, ap, sym, subst, ◌∙◌, append_assoc, append-nil, length-append}
use Rattle.std.specs.Prelude.{slice_get}
use Rattle.std.specs.List.{AllZip}
use Rattle.std.proofs.lemmas.Bool.{cases_lt, le-leb}
use Rattle.std.proofs.lemmas.List.Elements.{All-nil, All-cons}
use Rattle.std.proofs.lemmas.List.{length-map, length-replicate, length-take, take_at, take-append-drop}
use Rattle.std.proofs.lemmas.Option.{same_Some, slice_get_within}
use Rattle.shredding.specs.Shape.{LeafType}
use Rattle.shredding.specs.Slot.{Value, truth, number, bytes}
use Rattle.pq_files.specs.Indices.{IsIndices, IsIndexed}
use Rattle.pq_files.specs.Page.{Encoding, dictionary, IsSpelled}
use Rattle.pq_files.specs.PageReasons.{IsOutside}
use Rattle.pq_files.specs.Plain.{IsOne, InARow, IsPlain}
use Rattle.pq_files.proofs.PlainOnce.{plain_same}
use Rattle.pq_numbers.specs.Texts.{Begins}
use Rattle.pq_runs.specs.Hybrid.{Item as Index, given, hybrid}
use Rattle.pq_runs.proofs.Complete.{reads}
use Rattle.pq_runs.proofs.Sound.{is_spelled}
use Rattle.pq_tree.specs.Physical.{Physical, boolean, int32, int64, int96, float, double, byte_array, fixed}
use Rattle.pq_tree.specs.Tree.{Leaf}
use Rattle.read_pieces.specs.Leaves.{IsLoaded, IsValue, ReadsPlain, in_bytes}
use Rattle.read_walk.specs.Values.{Stored}
use Rattle.read_column.specs.Dictionary.{AreTextsOf, IsEntry, IsLaid, StopsAt, Texts, all_of, indices_in}
use Rattle.read_column.proofs.Fewer.{fewer-read}
use Rattle.read_column.proofs.Fronts.{hybrid-front}
use Rattle.read_column.proofs.Taking.{le-holds, lt-fails, lt-holds}

-- ---- what is spelled by no bytes, and by one
pub zip-length : {A B : Type 0} (R : A → B → Type 0) (xs : List A) (ys : List B) → AllZip R xs ys → length xs ≡ length ys
zip-length R [] [] a = refl
zip-length R [] (y ∷ ys) a = absurd a
zip-length R (x ∷ xs) [] a = absurd a
zip-length R (x ∷ xs) (y ∷ ys) a = ap suc (zip-length R xs ys a.1)

-- as many empty byte strings as one likes
empty-row : (n : ℕ) (k : ℕ) → n ≡ 0 → InARow (fixed n) [] (replicate k (bytes []))
empty-row n zero e = refl
empty-row n (suc k) e = ([], [], (sym e, refl), empty-row n k e, refl)

fixed-some : (t : LeafType) (n : ℕ) (stored : List ℕ → List Stored) → ReadsPlain t (fixed n) stored → 0 < n
fixed-some t n stored r = elim (cases_lt 0 n) [
  | inl h ↦ h
  | inr h ↦ (let k = suc (length (stored [])) in
      let all = r.read [] (replicate k (bytes [])) (record { text = []; rest = []; parts = refl; spells = empty-row n k (omega (arith, h)) }) in
      absurd (omega (arith, all.0, length-replicate k (bytes []))))
]

-- so many values in a row need so many bytes
row-length : (p : Physical) (least : ℕ) (text : List ℕ) (vs : List Value) → ((one : List ℕ) (v : Value) → IsOne p one v → least ≤ length one) → InARow p text vs → least * length vs ≤ length text
row-length p least text [] h r = omega arith
row-length p least text (v ∷ vs) h r =
    let more = row-length p least r.1 vs h r.3 in
    omega (arith, h r.0 v r.2, more, ap length r.4, length-append r.0 r.1, times least (length vs))
  where
    times : (a n : ℕ) → a * suc n ≡ a + a * n
    times a n = grind arith

one-some : (t : LeafType) (p : Physical) (stored : List ℕ → List Stored) → ReadsPlain t p stored → (one : List ℕ) (v : Value) → IsOne p one v → 1 ≤ length one
one-some t int32 stored r one (number z) o = omega (arith, o.0)
one-some t int64 stored r one (number z) o = omega (arith, o.0)
one-some t byte_array stored r one (bytes s) o = omega (arith, ap length o.parts, length-append o.head s, o.four)
one-some t (fixed n) stored r one (bytes s) o = omega (arith, o.0, fixed-some t n stored r)
one-some t int32 stored r one (truth b) o = absurd o
one-some t int32 stored r one (bytes s) o = absurd o
one-some t int64 stored r one (truth b) o = absurd o
one-some t int64 stored r one (bytes s) o = absurd o
one-some t byte_array stored r one (truth b) o = absurd o
one-some t byte_array stored r one (number z) o = absurd o
one-some t (fixed n) stored r one (truth b) o = absurd o
one-some t (fixed n) stored r one (number z) o = absurd o
one-some t _ stored r one v o = absurd o

-- ---- truth values, and all others
plain-row : (p : Physical) (text : List ℕ) (vs : List Value) → (p ≡ boolean → ⊥) → IsPlain p text vs → InARow p text vs
plain-row boolean text vs n h = absurd (n refl)
plain-row int32 text vs n h = h
plain-row int64 text vs n h = h
plain-row int96 text vs n h = h
plain-row float text vs n h = h
plain-row double text vs n h = h
plain-row byte_array text vs n h = h
plain-row (fixed m) text vs n h = h

row-plain : (p : Physical) (text : List ℕ) (vs : List Value) → (p ≡ boolean → ⊥) → InARow p text vs → IsPlain p text vs
row-plain boolean text vs n h = absurd (n refl)
row-plain int32 text vs n h = h
row-plain int64 text vs n h = h
row-plain int96 text vs n h = h
row-plain float text vs n h = h
row-plain double text vs n h = h
row-plain byte_array text vs n h = h
row-plain (fixed m) text vs n h = h

no-bits : (t : LeafType) (stored : List ℕ → List Stored) → ReadsPlain t boolean stored → in_bytes stored ≡ true → ⊥
no-bits t stored r own =
    let eight = r.read (0 ∷ []) (replicate 8 (truth false)) (record { text = 0 ∷ []; rest = []; parts = refl; spells = (refl, refl) }) in
    omega (arith, eight.0, lt-holds (length (stored (0 ∷ []))) 2 own)

-- values in bytes of their own are no truth values
pub own-bytes : (t : LeafType) (p : Physical) (stored : List ℕ → List Stored) → ReadsPlain t p stored → in_bytes stored ≡ true → p ≡ boolean → ⊥
own-bytes t p stored r own e = no-bits t stored (rw e at r) own

-- and the others are
pub are-bits : (t : LeafType) (p : Physical) (stored : List ℕ → List Stored) → ReadsPlain t p stored → in_bytes stored ≡ false → (p ≡ boolean → ⊥) → ⊥
are-bits t p stored r own n =
    let two : 2 ≤ length (stored (0 ∷ [])) = lt-fails (length (stored (0 ∷ []))) 2 own in
    let s = r.spelled (0 ∷ []) 2 two in
    let size : length (take 2 (stored (0 ∷ []))) ≡ length s.0 = zip-length (IsLoaded t p) (take 2 (stored (0 ∷ []))) s.0 s.2 in
    let row = row-length p 1 s.1.text s.0 (one-some t p stored r) (plain-row p s.1.text s.0 n s.1.spells) in
    omega (arith, two, size, length-take 2 (stored (0 ∷ [])), row, ap length s.1.parts, length-append s.1.text s.1.rest)

nothing : {A : Type 0} (xs : List A) → length xs ≡ 0 → xs ≡ []
nothing [] e = refl
nothing (x ∷ xs) e = absurd (omega (arith, e))

stored-none : (t : LeafType) (p : Physical) (stored : List ℕ → List Stored) → ReadsPlain t p stored → (p ≡ boolean → ⊥) → stored [] ≡ []
stored-none t p stored r n =
    let k = length (stored []) in
    let s = r.spelled [] k (omega arith) in
    let size : length (take k (stored [])) ≡ length s.0 = zip-length (IsLoaded t p) (take k (stored [])) s.0 s.2 in
    let row = row-length p 1 s.1.text s.0 (one-some t p stored r) (plain-row p s.1.text s.0 n s.1.spells) in
    nothing (stored []) (omega (arith, size, length-take k (stored []), row, ap length s.1.parts, length-append s.1.text s.1.rest))

-- ---- entries
-- of a value's text
record Read (t : LeafType) (p : Physical) (stored : List ℕ → List Stored) (text : List ℕ) : Type 0 where
  entry : Value
  is : IsEntry stored p text entry
  inside : IsOutside t p entry → ⊥

one-read : (t : LeafType) (p : Physical) (stored : List ℕ → List Stored) (text : List ℕ) (v : Value) (n : ℕ) (ss : List Value) → ReadsPlain t p stored → IsValue stored text v → n ≡ 1 → Begins (IsPlain p) text ss → AllZip (IsLoaded t p) (take n (stored text)) ss → stored text ≡ Some v ∷ stored [] → Read t p stored text
one-read t p stored text v n [] r is e b z f = absurd (let h : AllZip (IsLoaded t p) (take 1 (Some v ∷ stored [])) [] = rw (e, f) at z in h)
one-read t p stored text v n (s ∷ x ∷ ss) r is e b z f = absurd (let h : AllZip (IsLoaded t p) (take 1 (Some v ∷ stored [])) (s ∷ x ∷ ss) = rw (e, f) at z in h.1)
one-read t p stored text v n (s ∷ []) r is e b z f =
    let h : AllZip (IsLoaded t p) (take 1 (Some v ∷ stored [])) (s ∷ []) = rw (e, f) at z in
    let again = r.read b.text (s ∷ []) (record { text = b.text; rest = []; parts = sym (append-nil b.text); spells = b.spells }) in
    let size : length text ≡ length b.text + length b.rest = ap length b.parts ∙ length-append b.text b.rest in
    let none : b.rest ≡ [] = elim (cases_lt (length b.text) (length text)) [
      | inl less ↦
          let cut : take (length b.text) text ≡ b.text = ap (take (length b.text)) b.parts ∙ take_at b.text b.rest (length b.text) refl in
          absurd (omega (arith, again.0, ap length (sym (ap stored cut) ∙ is.least (length b.text) less)))
      | inr all ↦ nothing b.rest (omega (arith, size, all))
    ] in
    let whole : text ≡ b.text = b.parts ∙ (ap (λ (xs : List ℕ). b.text ++ xs) none ∙ append-nil b.text) in
    record { entry = s; is = record { «value» = v; is = is; one = rw whole b.spells }; inside = λ out. out v h.0 }

read-one : (t : LeafType) (p : Physical) (stored : List ℕ → List Stored) (text : List ℕ) (v : Value) → ReadsPlain t p stored → IsValue stored text v → Read t p stored text
read-one t p stored text v r is =
    let f : stored text ≡ Some v ∷ stored [] = ap stored (sym (append-nil text)) ∙ is.is [] in
    let s = r.spelled text 1 (omega (arith, ap length f)) in
    one-read t p stored text v 1 s.0 r is refl s.1 s.2 f

pub record AreRead (t : LeafType) (p : Physical) (stored : List ℕ → List Stored) (texts : Texts) : Type 0 where
  pub entries : List Value
  pub are : AllZip (IsEntry stored p) texts entries
  pub inside : All (λ e. IsOutside t p e → ⊥) entries

pub all-read : (t : LeafType) (p : Physical) (stored : List ℕ → List Stored) (texts : Texts) (vs : List Value) → ReadsPlain t p stored → AllZip (IsValue stored) texts vs → AreRead t p stored texts
all-read t p stored [] [] r a = record { entries = []; are = tt; inside = All-nil (λ e. IsOutside t p e → ⊥) }
all-read t p stored [] (v ∷ vs) r a = absurd a
all-read t p stored (x ∷ texts) [] r a = absurd a
all-read t p stored (x ∷ texts) (v ∷ vs) r a =
    let one = read-one t p stored x v r a.0 in
    let more = all-read t p stored texts vs r a.1 in
    record { entries = one.entry ∷ more.entries; are = (one.is, more.are); inside = All-cons (λ e. IsOutside t p e → ⊥) one.entry more.entries one.inside more.inside }

row-join : (p : Physical) (a b : List ℕ) (e : Value) (es : List Value) → InARow p a (e ∷ []) → InARow p b es → InARow p (a ++ b) (e ∷ es)
row-join p a b e es r s = (r.0, b, r.2, s, ap (λ (xs : List ℕ). xs ++ b) (r.4 ∙ (ap (λ (xs : List ℕ). r.0 ++ xs) r.3 ∙ append-nil r.0)))

pub entries-row : (stored : List ℕ → List Stored) (p : Physical) (texts : Texts) (es : List Value) → (p ≡ boolean → ⊥) → AllZip (IsEntry stored p) texts es → InARow p (all_of texts) es
entries-row stored p [] [] n a = refl
entries-row stored p [] (e ∷ es) n a = absurd a
entries-row stored p (x ∷ texts) [] n a = absurd a
entries-row stored p (x ∷ texts) (e ∷ es) n a = row-join p x (all_of texts) e es (plain-row p x (e ∷ []) n a.0.one) (entries-row stored p texts es n a.1)

pub entries-plain : (stored : List ℕ → List Stored) (p : Physical) (texts : Texts) (rest : List ℕ) (es : List Value) → (p ≡ boolean → ⊥) → AllZip (IsEntry stored p) texts es → Begins (IsPlain p) (all_of texts ++ rest) es
entries-plain stored p texts rest es n a = record { text = all_of texts; rest = rest; parts = refl; spells = row-plain p (all_of texts) es n (entries-row stored p texts es n a) }

-- how many values they are
entries-stored : (stored : List ℕ → List Stored) (p : Physical) (texts : Texts) (es : List Value) → stored [] ≡ [] → AllZip (IsEntry stored p) texts es → length (stored (all_of texts)) ≡ length es
entries-stored stored p [] [] e a = ap length e
entries-stored stored p [] (x ∷ es) e a = absurd a
entries-stored stored p (x ∷ texts) [] e a = absurd a
entries-stored stored p (x ∷ texts) (y ∷ es) e a = ap length (a.0.is.is (all_of texts)) ∙ ap suc (entries-stored stored p texts es e a.1)

-- ---- the entries at indices
entry-at : (stored : List ℕ → List Stored) (p : Physical) (texts : Texts) (es : List Value) (n : ℕ) (text : List ℕ) → AllZip (IsEntry stored p) texts es → slice_get texts n ≡ Some text → (e : Value) × (slice_get es n ≡ Some e) × IsEntry stored p text e
entry-at stored p [] es n text a g = absurd (cc g)
entry-at stored p (x ∷ texts) [] n text a g = absurd a
entry-at stored p (x ∷ texts) (e ∷ es) zero text a g = (e, refl, subst (λ (z : List ℕ). IsEntry stored p z e) (same_Some x text g) a.0)
entry-at stored p (x ∷ texts) (e ∷ es) (suc n) text a g = entry-at stored p texts es n text a.1 g

record AreAt (stored : List ℕ → List Stored) (p : Physical) (es : List Value) (ns : List ℕ) (parts : Texts) : Type 0 where
  own : List Value
  at : AllZip (λ n e. slice_get es n ≡ Some e) ns own
  are : AllZip (IsEntry stored p) parts own

all-at : (stored : List ℕ → List Stored) (p : Physical) (texts : Texts) (es : List Value) (ns : List ℕ) (parts : Texts) → AllZip (IsEntry stored p) texts es → AllZip (λ n t. slice_get texts n ≡ Some t) ns parts → AreAt stored p es ns parts
all-at stored p texts es [] [] a z = record { own = []; at = tt; are = tt }
all-at stored p texts es [] (x ∷ parts) a z = absurd z
all-at stored p texts es (n ∷ ns) [] a z = absurd z
all-at stored p texts es (n ∷ ns) (x ∷ parts) a z =
    let one = entry-at stored p texts es n x a z.0 in
    let more = all-at stored p texts es ns parts a z.1 in
    record { own = one.0 ∷ more.own; at = (one.1, more.at); are = (one.2, more.are) }

-- the first of them
zip-front : {A B : Type 0} (R : A → B → Type 0) (k : ℕ) (xs : List A) (ys : List B) → AllZip R xs ys → AllZip R (take k xs) (take k ys)
zip-front R zero xs ys a = tt
zip-front R (suc k) [] [] a = tt
zip-front R (suc k) [] (y ∷ ys) a = absurd a
zip-front R (suc k) (x ∷ xs) [] a = absurd a
zip-front R (suc k) (x ∷ xs) (y ∷ ys) a = (a.0, zip-front R k xs ys a.1)

pub row-front : (p : Physical) (k : ℕ) (text : List ℕ) (vs : List Value) → InARow p text vs → (a : List ℕ) × (b : List ℕ) × (text ≡ a ++ b) × InARow p a (take k vs)
row-front p zero text vs r = ([], text, refl, refl)
row-front p (suc k) text [] r = ([], text, refl, refl)
row-front p (suc k) text (v ∷ vs) r =
    let m = row-front p k r.1 vs r.3 in
    (r.0 ++ m.0, m.1, r.4 ∙ (ap (λ (xs : List ℕ). r.0 ++ xs) m.2 ∙ sym (append_assoc r.0 m.0 m.1)), (r.0, m.0, r.2, m.3, refl))

-- ---- what can be read of a section's indices
same-index : (n m : ℕ) (a b : List Index) → Ok n ∷ a ≡ Ok m ∷ b → (n ≡ m) × (a ≡ b)
same-index n m a b e = (let h : n ≡ m = cc in h, let t : a ≡ b = cc in t)

-- indices of entries at the front are among those that were laid out
front-of : (texts : Texts) (es : List Value) (ms ns : List ℕ) (vs : List Value) (rest more : List Index) → length texts ≡ length es → AllZip (λ n e. slice_get es n ≡ Some e) ms vs → StopsAt texts rest → given ms ++ more ≡ given ns ++ rest → (length ms ≤ length ns) × (ms ≡ take (length ms) ns)
front-of texts es [] ns vs rest more size a stops e = (omega arith, refl)
front-of texts es (m ∷ ms) ns [] rest more size a stops e = absurd a
front-of texts es (m ∷ ms) (n ∷ ns) (v ∷ vs) rest more size a stops e =
    let s = same-index m n (given ms ++ more) (given ns ++ rest) e in
    let f = front-of texts es ms ns vs rest more size a.1 stops s.1 in
    (omega (arith, f.0), ap (λ (x : ℕ). x ∷ ms) s.0 ∙ ap (λ (xs : List ℕ). n ∷ xs) f.1)
front-of texts es (m ∷ ms) [] (v ∷ vs) [] more size a stops e = absurd (cc e)
front-of texts es (m ∷ ms) [] (v ∷ vs) (Err x ∷ rest) more size a stops e = absurd (cc e)
front-of texts es (m ∷ ms) [] (v ∷ vs) (Ok n ∷ rest) more size a stops e =
    let s = same-index m n (given ms ++ more) rest e in
    absurd (omega (arith, slice_get_within es m v a.0, s.0, stops, size))

-- so many indices of a section are its items
take-more : {A : Type 0} (k : ℕ) (xs ys : List A) → ys ≡ take k xs → (more : List A) × (xs ≡ ys ++ more)
take-more {A = A} k xs ys e = (drop k xs, sym (take-append-drop k xs) ∙ ap (λ (zs : List A). zs ++ drop k xs) (sym e))

in-width : (w n : ℕ) (runs : List ℕ) → w ≤ 32 → indices_in n (w ∷ runs) ≡ hybrid w n runs
in-width w n runs h = rw (le-leb w 32 h) refl

indices-given : (n : ℕ) (section : List ℕ) (text rest ms : List ℕ) → section ≡ text ++ rest → IsIndices text ms → length ms ≤ n → (more : List Index) × (indices_in n section ≡ given ms ++ more)
indices-given n section [] rest ms e i few = (indices_in n section, ap (λ (xs : List ℕ). given xs ++ indices_in n section) (sym i))
indices-given n section (w ∷ text) rest ms e i few =
    let whole : hybrid w (length ms) (text ++ rest) ≡ given ms = reads w (text ++ rest) ms (record { text = text; rest = rest; parts = refl; spells = i.1 }) in
    let part : given ms ≡ take (length ms) (hybrid w n (text ++ rest)) = sym whole ∙ fewer-read w n (length ms) (text ++ rest) few in
    let m = take-more (length ms) (hybrid w n (text ++ rest)) (given ms) part in
    (m.0, ap (indices_in n) e ∙ (in-width w n (text ++ rest) i.0 ∙ m.1))

given-append : (cs bs : List ℕ) → given (cs ++ bs) ≡ given cs ++ given bs
given-append [] bs = refl
given-append (c ∷ cs) bs = ap (λ (is : List Index). Ok c ∷ is) (given-append cs bs)

-- and the other way round
given-indices : (n : ℕ) (section ns : List ℕ) (rest : List Index) (k : ℕ) → indices_in n section ≡ given ns ++ rest → k ≤ length ns → Begins IsIndices section (take k ns)
given-indices n section ns rest zero e few = record { text = []; rest = section; parts = refl; spells = refl }
given-indices n [] [] rest (suc k) e few = absurd (omega (arith, few))
given-indices n [] (m ∷ ns) rest (suc k) e few = absurd (cc e)
given-indices n (w ∷ runs) ns rest (suc k) e few = by (nat_le w 32) refl
  where
    by : (b : Bool) → nat_le w 32 ≡ b → Begins IsIndices (w ∷ runs) (take (suc k) ns)
    by false h = absurd (let f : [] ≡ given ns ++ rest = rw h at e in omega (arith, ap length f, length-append (given ns) rest, length-map {B = Index} ns Ok, few))
    by true h = (
        let f : hybrid w n runs ≡ given ns ++ rest = rw h at e in
        let ms = take (suc k) ns in
        let whole : given ns ≡ given ms ++ given (drop (suc k) ns) = ap given (sym (take-append-drop (suc k) ns)) ∙ given-append ms (drop (suc k) ns) in
        let g : hybrid w n runs ≡ given ms ++ (given (drop (suc k) ns) ++ rest) = f ∙ (ap (λ (xs : List Index). xs ++ rest) whole ∙ append_assoc (given ms) (given (drop (suc k) ns)) rest) in
        let front = hybrid-front w n runs ms (given (drop (suc k) ns) ++ rest) g in
        let s = is_spelled w (length ms) runs ms front.are in
        record { text = w ∷ s.begins.text; rest = s.begins.rest; parts = ap (λ (xs : List ℕ). w ∷ xs) s.begins.parts; spells = (le-holds w 32 h, s.begins.spells) })

-- ---- a section and its values
-- the values of a section are those of plain bytes
abbrev pub AreBoth : Encoding → Leaf → Option (List Value) → List ℕ → List ℕ → List Value → Type 0
AreBoth e l es section values ss = (Begins (IsSpelled e l es) section ss → Begins (IsPlain l.physical) values ss) × (Begins (IsPlain l.physical) values ss → Begins (IsSpelled e l es) section ss)

to-plain : (t : LeafType) (l : Leaf) (stored : List ℕ → List Stored) (texts : Texts) (es : List Value) (n : ℕ) (section values : List ℕ) (ss : List Value) → (l.physical ≡ boolean → ⊥) → AllZip (IsEntry stored l.physical) texts es → IsLaid texts (indices_in n section) values → length ss ≤ n → Begins (IsIndexed es) section ss → Begins (IsPlain l.physical) values ss
to-plain t l stored texts es n section values ss other a laid few b =
    let p = l.physical in
    let ms = b.spells.0 in
    let size : length ms ≡ length ss = zip-length (λ m v. slice_get es m ≡ Some v) ms ss b.spells.2 in
    let given-are = indices-given n section b.text b.rest ms b.parts b.spells.1 (omega (arith, size, few)) in
    let f = front-of texts es ms laid.indices ss laid.rest given-are.0 (zip-length (IsEntry stored p) texts es a) b.spells.2 laid.stops (sym given-are.1 ∙ laid.read) in
    let at = all-at stored p texts es laid.indices laid.parts a laid.are in
    let k = length ms in
    let own : AllZip (λ m v. slice_get es m ≡ Some v) ms (take k at.own) = rw (sym f.1) at (zip-front (λ m v. slice_get es m ≡ Some v) k laid.indices at.own at.at) in
    let same : ss ≡ take k at.own = values-at es ms ss (take k at.own) b.spells.2 own in
    let row = row-front p k (all_of laid.parts) at.own (entries-row stored p laid.parts at.own other at.are) in
    record { text = row.0; rest = row.1; parts = laid.spelled ∙ row.2; spells = rw same (row-plain p row.0 (take k at.own) other row.3) }
  where
    values-at : (es : List Value) (ms : List ℕ) (vs ws : List Value) → AllZip (λ m v. slice_get es m ≡ Some v) ms vs → AllZip (λ m v. slice_get es m ≡ Some v) ms ws → vs ≡ ws
    values-at es [] [] [] a b = refl
    values-at es [] [] (w ∷ ws) a b = absurd b
    values-at es [] (v ∷ vs) ws a b = absurd a
    values-at es (m ∷ ms) [] ws a b = absurd a
    values-at es (m ∷ ms) (v ∷ vs) [] a b = absurd b
    values-at es (m ∷ ms) (v ∷ vs) (w ∷ ws) a b = ap (λ (x : Value). x ∷ vs) (same_Some v w (sym a.0 ∙ b.0)) ∙ ap (λ (xs : List Value). w ∷ xs) (values-at es ms vs ws a.1 b.1)

to-indexed : (t : LeafType) (l : Leaf) (stored : List ℕ → List Stored) (texts : Texts) (es : List Value) (n : ℕ) (section values : List ℕ) (ss : List Value) → ReadsPlain t l.physical stored → (l.physical ≡ boolean → ⊥) → AllZip (IsEntry stored l.physical) texts es → IsLaid texts (indices_in n section) values → Begins (IsPlain l.physical) values ss → Begins (IsIndexed es) section ss
to-indexed t l stored texts es n section values ss r other a laid b =
    let p = l.physical in
    let at = all-at stored p texts es laid.indices laid.parts a laid.are in
    let k = length ss in
    let loads = r.read values ss b in
    let many : length (stored values) ≡ length at.own = ap (λ (v : List ℕ). length (stored v)) laid.spelled ∙ entries-stored stored p laid.parts at.own (stored-none t p stored r other) at.are in
    let size : length laid.indices ≡ length at.own = zip-length (λ m v. slice_get es m ≡ Some v) laid.indices at.own at.at in
    let row = row-front p k (all_of laid.parts) at.own (entries-row stored p laid.parts at.own other at.are) in
    let mine : Begins (IsPlain p) values (take k at.own) = record { text = row.0; rest = row.1; parts = laid.spelled ∙ row.2; spells = row-plain p row.0 (take k at.own) other row.3 } in
    let same : ss ≡ take k at.own = plain_same p values values ss (take k at.own) refl b mine (omega (arith, loads.0, many, length-take k at.own)) in
    let front = given-indices n section laid.indices laid.rest k laid.read (omega (arith, loads.0, many, size)) in
    record {
      text = front.text;
      rest = front.rest;
      parts = front.parts;
      spells = subst (λ (vs : List Value). IsIndexed es front.text vs) (sym same) (take k laid.indices, front.spells, zip-front (λ m v. slice_get es m ≡ Some v) k laid.indices at.own at.at);
    }

pub by-dictionary : (t : LeafType) (l : Leaf) (stored : List ℕ → List Stored) (d : Option Texts) (es : Option (List Value)) (texts : Texts) (n : ℕ) (section values : List ℕ) (ss : List Value) → ReadsPlain t l.physical stored → in_bytes stored ≡ true → AreTextsOf stored l.physical d es → d ≡ Some texts → IsLaid texts (indices_in n section) values → length ss ≤ n → AreBoth dictionary l es section values ss
by-dictionary t l stored None es texts n section values ss r own a e laid few = absurd (cc e)
by-dictionary t l stored (Some x) None texts n section values ss r own a e laid few = absurd a
by-dictionary t l stored (Some x) (Some es) texts n section values ss r own a e laid few =
    let other = own-bytes t l.physical stored r own in
    let mine : AllZip (IsEntry stored l.physical) texts es = subst (λ (y : Texts). AllZip (IsEntry stored l.physical) y es) (same_Some x texts e) (a own) in (
      λ b. to-plain t l stored texts es n section values ss other mine laid few (record { text = b.text; rest = b.rest; parts = b.parts; spells = b.spells.1 }),
      λ b. (let c = to-indexed t l stored texts es n section values ss r other mine laid b in record { text = c.text; rest = c.rest; parts = c.parts; spells = (other, c.spells) }),
    )
