-- Strings of a stretch: taken one after another, laid out, and asked whether they are values.
use Rattle.std.proofs.Common.{◌≡◌, ◌⊎◌, inl, inr, ℕ, ◌+◌, ◌-◌, ◌/◌, ◌^◌, ◌<◌, ◌≤◌, ◌==◌, Bool, true, false, true≢false, ◌&&◌, Option, Some, None, MatchOption, List, [], ◌∷◌, ◌++◌, map, length, take, drop, replicate, sum, refl, arith, ap, ap₂, sym, subst, ◌∙◌, append_assoc, append-nil, length-append}
use borrow.Rule.Slice.PartMut.{put_mid, post_of}
use Rattle.std.specs.Int.{bit_at}
use Rattle.std.proofs.Math.Seq.{take-append-add, take-take}
use Rattle.std.proofs.lemmas.List.{map-append, length-map, length-take-le, length-drop, take-append-le, take_all}
use Rattle.std.proofs.lemmas.List.Sums.{sum_by-cons}
use Rattle.columns_base.specs.declared.error.Error.{Error}
use Rattle.columns_base.specs.declared.error.Error.TheVariants.{OutOfSpec, Memory}
use Rattle.columns_base.specs.declared.error.S.TheVariants.{S6}
use Rattle.columns_core.specs.Bits.{word_bits}
use Rattle.columns_core.specs.Rising.{last_place, places_from}
use Rattle.columns_slots.specs.Bytes.{pieces}
use Rattle.shredding.specs.Slot.{Value, bytes, Slot}
use Rattle.read_walk.specs.Values.{Stored, ones, bytes_in, AreTooLong, IsOneOutside, CannotDecode}
use Rattle.read_leaf.specs.Strings.{string_at, all_strings, loaded_string, stored_strings, total_bytes, cut_off, IsLaid, IsNext, StandIn, joined, TookBytes, IsFault, is_each, TookStrings, CannotTake, CannotLay}
use Rattle.read_leaf.proofs.BitRuns.{bits_split}
use Rattle.read_leaf.proofs.CutStrings.{grown}
use Rattle.read_leaf.proofs.Pieces.{total-append}
use Rattle.read_leaf.proofs.SetBits.{ones-append, set_more, ones_front, spread-bytes}
use Rattle.read_leaf.proofs.Standing.{one-stands, none-stand, allowed, refused}
use Rattle.read_leaf.proofs.MixedStrings.{strings-none, string-there, string-empty, strings-then}

-- ---- one stretch after another

both-stand : (bs cs : List Bool) (ss us : List (List ℕ)) (text mid rest : List ℕ) → StandIn bs ss text mid → StandIn cs us mid rest → StandIn (bs ++ cs) (ss ++ us) text rest
both-stand [] cs [] us text mid rest a h = subst (λ (t : List ℕ). StandIn cs us t rest) a h
both-stand [] cs (s ∷ ss) us text mid rest a h = absurd a
both-stand (b ∷ bs) cs [] us text mid rest a h = absurd a
both-stand (b ∷ bs) cs (s ∷ ss) us text mid rest a h = (a.0, a.1, both-stand bs cs ss us a.0 mid rest a.2 h)

joined-append : (ss us : List (List ℕ)) → joined (ss ++ us) ≡ joined ss ++ joined us
joined-append [] us = refl
joined-append (s ∷ ss) us = ap (λ (t : List ℕ). s ++ t) (joined-append ss us) ∙ sym (append_assoc s (joined ss) (joined us))

pub both-took : (bs cs : List Bool) (text mid rest ns ks old now new : List ℕ) → TookBytes bs text mid ns old now → TookBytes cs mid rest ks now new → TookBytes (bs ++ cs) text rest (ns ++ ks) old new
both-took bs cs text mid rest ns ks old now new a b = record {
  strings = a.strings ++ b.strings;
  stand = both-stand bs cs a.strings b.strings text mid rest a.stand b.stand;
  sizes = map-append length a.strings b.strings ∙ ap₂ (λ (x y : List ℕ). x ++ y) a.sizes b.sizes;
  bytes = b.bytes ∙ (ap (λ (t : List ℕ). t ++ joined b.strings) a.bytes ∙ (append_assoc old (joined a.strings) (joined b.strings) ∙ ap (λ (t : List ℕ). old ++ t) (sym (joined-append a.strings b.strings))));
}

pub took-nothing : (text old : List ℕ) → TookBytes [] text text [] old old
took-nothing text old = record { strings = []; stand = refl; sizes = refl; bytes = sym (append-nil old) }

pub took-none : (text old : List ℕ) → TookBytes (false ∷ []) text text (0 ∷ []) old old
took-none text old = record { strings = [] ∷ []; stand = (text, (refl, refl), refl); sizes = refl; bytes = sym (append-nil old) }

pub took-one : (text s rest old new : List ℕ) → string_at text ≡ Some (s, rest) → new ≡ old ++ s → TookBytes (true ∷ []) text rest (length s ∷ []) old new
took-one text s rest old new e p = record { strings = s ∷ []; stand = (rest, e, refl); sizes = refl; bytes = p ∙ ap (λ (t : List ℕ). old ++ t) (sym (append-nil s)) }

-- a string for the next bit of a word
pub took-next : (valid i : ℕ) (b : Bool) (k : ℕ) (text mid rest ns old now new : List ℕ) → TookBytes (word_bits valid i) text mid ns old now → (bit_at valid i == 1) ≡ b → TookBytes (b ∷ []) mid rest (k ∷ []) now new → TookBytes (word_bits valid (i + 1)) text rest (ns ++ k ∷ []) old new
took-next valid i b k text mid rest ns old now new a e t = subst (λ (bs : List Bool). TookBytes bs text rest (ns ++ k ∷ []) old new) (sym (set_more i valid b e)) (both-took (word_bits valid i) (b ∷ []) text mid rest ns (k ∷ []) old now new a t)

pub front-whole : (s t : List ℕ) → take (length s) (s ++ t) ≡ s
front-whole [] t = refl
front-whole (x ∷ s) t = ap (λ (u : List ℕ). x ∷ u) (front-whole s t)

behind-whole : (s t : List ℕ) → drop (length s) (s ++ t) ≡ t
behind-whole [] t = refl
behind-whole (x ∷ s) t = behind-whole s t

-- the front of what is written behind other items
pub front-put : (k n m : ℕ) (xs ys : List ℕ) → k ≤ length xs → m ≤ length ys → take (k + m) (put_mid k n xs ys) ≡ take k xs ++ take m ys
front-put k n m xs ys h l =
    let size : length (take k xs) ≡ k = length-take-le k xs h in
    subst (λ (j : ℕ). take (j + m) (put_mid k n xs ys) ≡ take k xs ++ take m ys) size (take-append-add (take k xs) (ys ++ post_of k n xs) m ∙ ap (λ (t : List ℕ). take k xs ++ t) (take-append-le m ys (post_of k n xs) l))

-- the bytes that are copied for a short string
pub short-put : (at n : ℕ) (old ys bs : List ℕ) → at ≤ length old → ys ≡ take 32 bs → 32 ≤ length bs → take (at + 32) (put_mid at n old ys) ≡ take at old ++ take 32 bs
short-put at n old ys bs l e h =
    let long : 32 ≤ length ys = omega (arith, ap length e, length-take-le 32 bs h) in
    front-put at n 32 old ys l long ∙ ap (λ (t : List ℕ). take at old ++ t) (ap (take 32) e ∙ take-take 32 32 bs (omega arith))

-- a short string among them
pub short-front : (at n : ℕ) (old new bs : List ℕ) → n ≤ 32 → at ≤ length old → take (at + 32) new ≡ take at old ++ take 32 bs → take (at + n) new ≡ take at old ++ take n bs
short-front at n old new bs h l e =
    let size : length (take at old) ≡ at = length-take-le at old l in
    let cut : take (at + n) (take at old ++ take 32 bs) ≡ take at old ++ take n (take 32 bs) = subst (λ (k : ℕ). take (k + n) (take at old ++ take 32 bs) ≡ take at old ++ take n (take 32 bs)) size (take-append-add (take at old) (take 32 bs) n) in
    sym (take-take (at + n) (at + 32) new (omega (arith, h))) ∙ (ap (take (at + n)) e ∙ (cut ∙ ap (λ (t : List ℕ). take at old ++ t) (take-take n 32 bs h)))

-- a vector whose places are written from one on
pub vec-front : (n len : ℕ) (written items : List ℕ) → n ≤ len → n ≤ length written → take n (take len (written ++ drop (length written) items)) ≡ take n written
vec-front n len written items h l = take-take n len (written ++ drop (length written) items) h ∙ take-append-le n written (drop (length written) items) l

pub filled-front : (before n r : ℕ) (filled same old : List ℕ) → before ≡ length old → same ≡ old → filled ≡ take (before + n) same ++ replicate r 0 → take before filled ≡ old
filled-front before n r filled same old e h d = rw (d, h, e) (ap (λ (t : List ℕ). take (length old) (t ++ replicate r 0)) (take_all (length old + n) old (omega arith)) ∙ front-whole old (replicate r 0))

-- short strings behind those before
pub short-behind : (bs : List Bool) (text rest ns old more new : List ℕ) → TookBytes bs text rest ns [] more → new ≡ old ++ more → TookBytes bs text rest ns old new
short-behind bs text rest ns old more new t e = record { strings = t.strings; stand = t.stand; sizes = t.sizes; bytes = e ∙ ap (λ (u : List ℕ). old ++ u) t.bytes }

-- ---- where strings are missing

count-next : (b : Bool) (text s behind : List ℕ) (n : ℕ) → IsNext b text s behind → length (all_strings behind) ≡ n → length (all_strings text) ≡ ones (b ∷ []) + n
count-next true text s behind n e h = omega (arith, ap length (one-stands text s behind e), h)
count-next false text s behind n e h = omega (arith, ap (λ (t : List ℕ). length (all_strings t)) e.1, h)

count-stand : (bs : List Bool) (ss : List (List ℕ)) (text rest : List ℕ) → StandIn bs ss text rest → length (all_strings text) ≡ ones bs + length (all_strings rest)
count-stand [] [] text rest e = ap (λ (t : List ℕ). length (all_strings t)) (sym e) ∙ omega arith
count-stand [] (s ∷ ss) text rest e = absurd e
count-stand (b ∷ bs) [] text rest e = absurd e
count-stand (b ∷ bs) (s ∷ ss) text rest e = omega (arith, count-next b text s e.0 (ones bs + length (all_strings rest)) e.1 (count-stand bs ss e.0 rest e.2))

pub fault-next : (valid i n : ℕ) (text rest ns old now : List ℕ) (e : Error) → i < n → TookBytes (word_bits valid i) text rest ns old now → (e ≡ Memory) ⊎ ((e ≡ OutOfSpec S6) × ((bit_at valid i == 1) ≡ true) × (string_at rest ≡ None)) → IsFault (word_bits valid n) text e
fault-next valid i n text rest ns old now e l t why = elim why [
  | inl memory ↦ inl memory
  | inr none ↦
      let count = count-stand (word_bits valid i) t.strings text rest t.stand in
      let more : ones (word_bits valid (i + 1)) ≡ ones (word_bits valid i) + 1 = ap ones (set_more i valid true none.1) ∙ ones-append (word_bits valid i) (true ∷ []) in
      inr (none.0, omega (arith, count, more, ap length (none-stand rest none.2), ones_front (i + 1) n valid (omega (arith, l))))
]

pub fault-behind : (bs cs : List Bool) (text mid ns old now : List ℕ) (e : Error) → TookBytes bs text mid ns old now → IsFault cs mid e → IsFault (bs ++ cs) text e
fault-behind bs cs text mid ns old now e t why = elim why [
  | inl memory ↦ inl memory
  | inr few ↦ inr (few.0, omega (arith, count-stand bs t.strings text mid t.stand, ones-append bs cs, few.1))
]

pub fault-joint : (valid k m n r : ℕ) (text mid ns old now : List ℕ) (fault : Option Error) → TookBytes (word_bits valid k) text mid ns old now → MatchOption fault (m ≡ r) (IsFault (word_bits (valid / 2 ^ k) r) mid) → k + r ≡ n → MatchOption fault (k + m ≡ n) (IsFault (word_bits valid n) text)
fault-joint valid k m n r text mid ns old now None t h e = omega (arith, e, h)
fault-joint valid k m n r text mid ns old now (Some x) t h e = subst (λ (bs : List Bool). IsFault bs text x) (sym (bits_split k r valid) ∙ ap (word_bits valid) e) (fault-behind (word_bits valid k) (word_bits (valid / 2 ^ k) r) text mid ns old now x t h)

-- ---- strings that lie one after another

cut-joined : (ss : List (List ℕ)) → cut_off (map length ss) (joined ss) ≡ ss
cut-joined [] = refl
cut-joined (s ∷ ss) = rw (front-whole s (joined ss), behind-whole s (joined ss)) (ap (λ (t : List (List ℕ)). s ∷ t) (cut-joined ss))

sum-joined : (ss : List (List ℕ)) → sum (map length ss) ≡ length (joined ss)
sum-joined [] = refl
sum-joined (s ∷ ss) = sum_by-cons (λ (x : ℕ). x) (length s) (map length ss) ∙ omega (arith, sum-joined ss, length-append s (joined ss))

total-joined : (ss : List (List ℕ)) → total_bytes ss ≡ length (joined ss)
total-joined [] = refl
total-joined (s ∷ ss) = omega (arith, total-joined ss, length-append s (joined ss))

-- what was appended are the strings, between their lengths
pub record IsAppended (lengths strings : List ℕ) (ss : List (List ℕ)) : Type 0 where
  pub whole : sum lengths ≡ length strings
  pub cut : cut_off lengths strings ≡ ss
  pub total : total_bytes ss ≡ length strings

pub appended : (bs : List Bool) (text rest lengths old new : List ℕ) → (t : TookBytes bs text rest lengths old new) → IsAppended lengths (drop (length old) new) t.strings
appended bs text rest lengths old new t =
    let strings : drop (length old) new ≡ joined t.strings = ap (drop (length old)) t.bytes ∙ behind-whole old (joined t.strings) in
    record {
      whole = ap sum (sym t.sizes) ∙ (sum-joined t.strings ∙ ap length (sym strings));
      cut = ap₂ cut_off (sym t.sizes) strings ∙ cut-joined t.strings;
      total = total-joined t.strings ∙ ap length (sym strings);
    }

pub whole-rest : (before : ℕ) (xs ys old : List ℕ) → xs ≡ ys → before ≡ length old → take (length xs - before) (drop before xs) ≡ drop (length old) ys
whole-rest before xs ys old e f = take_all (length xs - before) (drop before xs) (omega (arith, length-drop before xs)) ∙ ap₂ (λ (n : ℕ) (t : List ℕ). drop n t) f e

-- offsets with a range more for each of them
pub record IsGrownBy (os content new ns : List ℕ) : Type 0 where
  pub laid : IsLaid (os ++ places_from (last_place os) ns) new
  pub strings : pieces (os ++ places_from (last_place os) ns) new ≡ pieces os content ++ cut_off ns (drop (length content) new)

pub grown-by : (bs : List Bool) (text rest ns os content new : List ℕ) → TookBytes bs text rest ns content new → IsLaid os content → IsGrownBy os content new ns
grown-by bs text rest ns os content new t l =
    let whole = (appended bs text rest ns content new t).whole in
    let more : List ℕ = drop (length content) new in
    let g = grown ns os content more (last_place os) l.last l (omega (arith, whole)) in
    let strings : more ≡ joined t.strings = ap (drop (length content)) t.bytes ∙ behind-whole content (joined t.strings) in
    let all : content ++ take (sum ns) more ≡ new = ap (λ (u : List ℕ). content ++ u) (take_all (sum ns) more (omega (arith, whole)) ∙ strings) ∙ sym t.bytes in
    record { laid = rw all at g.laid; strings = rw all at g.strings }

-- ---- strings that are values

pub each-any : (ss : List (List ℕ)) → is_each (λ s. true) ss ≡ true
each-any [] = refl
each-any (s ∷ ss) = each-any ss

both-true : (a b : Bool) → (a && b) ≡ true → (a ≡ true) × (b ≡ true)
both-true true b e = (refl, e)
both-true false b e = absurd (true≢false (sym e))

module _ (allows : List ℕ → Bool) (empty : allows [] ≡ true) where
  took-slot : (b : Bool) (text s behind : List ℕ) (old : List (List ℕ)) → IsNext b text s behind → allows s ≡ true → TookStrings allows (b ∷ []) text behind old (old ++ s ∷ [])
  took-slot true text s behind old e a = string-there allows text s behind old (old ++ s ∷ []) e a refl
  took-slot false text s behind old e a = rw (e.0, e.1) (string-empty allows text old (old ++ [] ∷ []) empty refl)

  took-each : (bs : List Bool) (ss : List (List ℕ)) (text rest : List ℕ) (old : List (List ℕ)) → StandIn bs ss text rest → is_each allows ss ≡ true → TookStrings allows bs text rest old (old ++ ss)
  took-each [] [] text rest old e a = rw (e, append-nil old) (strings-none allows text old)
  took-each [] (s ∷ ss) text rest old e a = absurd e
  took-each (b ∷ bs) [] text rest old e a = absurd e
  took-each (b ∷ bs) (s ∷ ss) text rest old e a =
      let both = both-true (allows s) (is_each allows ss) a in
      let others = took-each bs ss e.0 rest (old ++ s ∷ []) e.2 both.1 in
      let joint : (old ++ s ∷ []) ++ ss ≡ old ++ s ∷ ss = append_assoc old (s ∷ []) ss in
      strings-then allows (b ∷ []) bs text e.0 rest old (old ++ s ∷ []) (old ++ s ∷ ss) (took-slot b text s e.0 old e.1 both.0) (rw joint at others)

  outside-next : (b : Bool) (text s behind : List ℕ) (n : ℕ) → IsNext b text s behind → allows s ≡ true → IsOneOutside n (stored_strings allows behind) → IsOneOutside (ones (b ∷ []) + n) (stored_strings allows text)
  outside-next true text s behind n e a o = record {
    values = bytes s ∷ o.values;
    rest = o.rest;
    next = allowed allows text s behind e a ∙ ap (λ (t : List Stored). Some (bytes s) ∷ t) o.next;
    within = omega (arith, o.within);
  }
  outside-next false text s behind n e a o = record { values = o.values; rest = o.rest; next = ap (stored_strings allows) (sym e.1) ∙ o.next; within = omega (arith, o.within) }

  outside-here : (b : Bool) (text s behind : List ℕ) (n : ℕ) → IsNext b text s behind → allows s ≡ false → IsOneOutside (ones (b ∷ []) + n) (stored_strings allows text)
  outside-here true text s behind n e a = record { values = []; rest = stored_strings allows behind; next = refused allows text s behind e a; within = omega arith }
  outside-here false text s behind n e a = absurd (true≢false (sym empty ∙ (ap allows (sym e.0) ∙ a)))

  one-outside : (bs : List Bool) (ss : List (List ℕ)) (text rest : List ℕ) → StandIn bs ss text rest → is_each allows ss ≡ false → IsOneOutside (ones bs) (stored_strings allows text)
  one-outside [] [] text rest e a = absurd (true≢false a)
  one-outside [] (s ∷ ss) text rest e a = absurd e
  one-outside (b ∷ bs) [] text rest e a = absurd e
  one-outside (b ∷ bs) (s ∷ ss) text rest e a =
      let count : ones (b ∷ []) + ones bs ≡ ones (b ∷ bs) = omega arith in
      subst (λ (n : ℕ). IsOneOutside n (stored_strings allows text)) count (of (allows s) refl (one-outside bs ss e.0 rest e.2))
    where
      of : (v : Bool) → allows s ≡ v → (is_each allows ss ≡ false → IsOneOutside (ones bs) (stored_strings allows e.0)) → IsOneOutside (ones (b ∷ []) + ones bs) (stored_strings allows text)
      of true v others = outside-next b text s e.0 (ones bs) e.1 v (others (ap (λ (w : Bool). w && is_each allows ss) (sym v) ∙ a))
      of false v others = outside-here b text s e.0 (ones bs) e.1 v

  -- ---- what is told of a word

  pub plain-taken : (bs : List Bool) (text rest lengths old new : List ℕ) (ss : List (List ℕ)) → TookBytes bs text rest lengths old new → is_each allows (cut_off lengths (drop (length old) new)) ≡ true → TookStrings allows bs text rest ss (ss ++ cut_off lengths (drop (length old) new))
  plain-taken bs text rest lengths old new ss t a =
      let cut = (appended bs text rest lengths old new t).cut in
      rw cut (took-each bs t.strings text rest ss t.stand (rw cut at a))

  too-long : (limit : ℕ) (bs : List Bool) (text rest : List ℕ) (old new : List (List ℕ)) (slots : List Slot) → (t : TookStrings allows bs text rest old new) → bytes_in slots ≡ total_bytes old → 0 < limit → limit ≤ total_bytes old + total_bytes t.among → AreTooLong limit (ones bs) (stored_strings allows text) slots
  too-long limit bs text rest old new slots t same some long =
      let vs : List Value = map bytes t.strings in
      let size : length vs ≡ ones bs = length-map t.strings bytes ∙ t.count in
      record {
        values = vs;
        rest = stored_strings allows rest;
        next = t.taken;
        within = omega (arith, size);
        some = some;
        long = omega (arith, long, same, sym (ap bytes_in t.stand ∙ spread-bytes bs vs size), t.are.all);
      }

  pub plain-cannot : (limit valid k n : ℕ) (text rest lengths offsets old new : List ℕ) (ss : List (List ℕ)) (fault : Option Error) (e : Error) → k ≤ n → TookBytes (word_bits valid k) text rest lengths old new → MatchOption fault (k ≡ n) (IsFault (word_bits valid n) text) → last_place offsets ≡ length old → total_bytes ss ≡ length old → CannotLay limit allows offsets (drop (length old) new) lengths fault e → CannotTake limit (ones (word_bits valid n)) (stored_strings allows text) ss e
  plain-cannot limit valid k n text rest lengths offsets old new ss fault e h t ended last total why = λ slots same. elim why [
    | inl outside ↦
        let one = one-outside (word_bits valid k) t.strings text rest t.stand (rw made.cut at outside.1) in
        inr (inr (inl (outside.0, record { values = one.values; rest = one.rest; next = one.next; within = omega (arith, one.within, ones_front k n valid h) })))
    | inr well ↦ elim well.1 [
      | inl memory ↦ inl memory
      | inr others ↦ elim others [
        | inl found ↦ faulty slots (subst (λ (f : Option Error). MatchOption f (k ≡ n) (IsFault (word_bits valid n) text)) found ended)
        | inr long ↦
            let all : k ≡ n = subst (λ (f : Option Error). MatchOption f (k ≡ n) (IsFault (word_bits valid n) text)) long.1 ended in
            let took = took-each (word_bits valid k) t.strings text rest ss t.stand (rw made.cut at well.0) in
            let size : total_bytes took.among ≡ length (drop (length old) new) = among-size took in
            inr (inr (inr (long.0, subst (λ (m : ℕ). AreTooLong limit (ones (word_bits valid m)) (stored_strings allows text) slots) all (too-long limit (word_bits valid k) text rest ss (ss ++ t.strings) slots took same long.2 (omega (arith, long.3, last, total, size))))))
      ]
    ]
  ]
    where
      made : IsAppended lengths (drop (length old) new) t.strings
      made = appended (word_bits valid k) text rest lengths old new t

      among-size : (took : TookStrings allows (word_bits valid k) text rest ss (ss ++ t.strings)) → total_bytes took.among ≡ length (drop (length old) new)
      among-size took = omega (arith, ap total_bytes took.pushed, total-append ss t.strings, total-append ss took.among, made.total)

      faulty : (slots : List Slot) → IsFault (word_bits valid n) text e → CannotDecode limit (ones (word_bits valid n)) (stored_strings allows text) slots e
      faulty slots f = elim f [
        | inl memory ↦ inl memory
        | inr few ↦ inr (inl (few.0, omega (arith, few.1, length-map (all_strings text) (loaded_string allows))))
      ]
