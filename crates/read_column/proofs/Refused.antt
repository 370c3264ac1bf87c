-- A page of a column of rows is not refused for its levels and values.
use Rattle.std.proofs.Common.{◌≡◌, inl, inr, ℕ, ◌<◌, ◌≤◌, nat_eq, Some, None, Ok, Err, List, [], ◌∷◌, ◌++◌, map, length, All, arith, ap, sym, ◌∙◌, length-append}
use Rattle.std.proofs.lemmas.Option.{same_Some}
use Rattle.std.proofs.lemmas.List.{length-map}
use Rattle.std.proofs.lemmas.List.Elements.{All-head, All-tail}
use Rattle.shredding.specs.Along.{thin}
use Rattle.shredding.specs.Local.{IsInOrder, IsWithin, MayGoOn, inside}
use Rattle.shredding.specs.Shape.{Way}
use Rattle.shredding.specs.Shred.{Triple, max_definition, max_repetition}
use Rattle.shredding.specs.Slot.{Value}
use Rattle.columns_base.specs.declared.error.Error.{Error}
use Rattle.read_laws.specs.Step.{bit}
use Rattle.read_walk.specs.Gives.{called}
use Rattle.read_walk.specs.Order.{last_level, IsOutside, IsPast}
use Rattle.read_walk.specs.Pairs.{Pair, Item, fault}
use Rattle.read_walk.specs.Values.{Stored, AreTooFew, IsOneOutside}
use Rattle.read_walk.specs.Walk.{AreWithin, GoesOn, IsOutOfOrder, IsUnreadable, pair_of, values_of}
use Rattle.read_walk.proofs.Walking.{called-triples}
use Rattle.read_column.specs.Taken.{BeginsPair}
use Rattle.read_column.proofs.Ways.{definition-thin, inside-thin, repetition-thin}

-- ---- order
abbrev pub Chained : Way → List Triple → Type 0
Chained w [] = Unit {0}
Chained w (t ∷ ts) = MayGoOn w t ts

pub order-chained : (w : Way) (ts : List Triple) → IsInOrder w ts → Chained w ts
order-chained w [] o = tt
order-chained w (t ∷ ts) o = o.1

tail-chained : (w : Way) (t : Triple) (ts : List Triple) → MayGoOn w t ts → Chained w ts
tail-chained w t [] o = tt
tail-chained w t (u ∷ ts) o = o.1

pub chained-behind : (w : Way) (xs ys : List Triple) → Chained w (xs ++ ys) → Chained w ys
chained-behind w [] ys o = o
chained-behind w (x ∷ xs) ys o = chained-behind w xs ys (tail-chained w x (xs ++ ys) o)

goes-front : (w : Way) (t : Triple) (xs ys : List Triple) → MayGoOn w t (xs ++ ys) → MayGoOn w t xs
goes-front w t [] ys o = tt
goes-front w t (x ∷ xs) ys o = (o.0, goes-front w x xs ys o.1)

pub chained-front : (w : Way) (xs ys : List Triple) → Chained w (xs ++ ys) → Chained w xs
chained-front w [] ys o = tt
chained-front w (x ∷ xs) ys o = goes-front w x xs ys o

-- ---- faults
no-fault : (ps qs : List Pair) (e : Error) (rest : List Item) → map Ok ps ≡ map Ok qs ++ (Err e ∷ rest) → ⊥
no-fault [] [] e rest h = cc h
no-fault [] (q ∷ qs) e rest h = cc h
no-fault (p ∷ ps) [] e rest h = cc h
no-fault (p ∷ ps) (q ∷ qs) e rest h = no-fault ps qs e rest (cc h)

pub no-fault-left : (us : List Triple) (page rest : List Item) → page ≡ map Ok (map pair_of us) → page ≡ fault ∷ rest → ⊥
no-fault-left us page rest a b = no-fault (map pair_of us) [] _ rest (sym a ∙ b)

not-past : (w v : Way) (us : List Triple) (front : List Pair) (p : Pair) (rest : List Item) → v ≡ thin w → All (IsWithin w) us → map Ok (map pair_of us) ≡ map Ok (front ++ p ∷ []) ++ rest → IsPast v p → ⊥
not-past w v [] [] p rest way a e past = absurd (cc e)
not-past w v [] (q ∷ front) p rest way a e past = absurd (cc e)
not-past w v (u ∷ us) [] p rest way a e past =
    let head : pair_of u ≡ p = cc in
    let h = All-head (IsWithin w) u us a in
    let r : u.repetition ≡ p.0 = ap (λ (x : ℕ × ℕ). x.0) head in
    let d : u.definition ≡ p.1 = ap (λ (x : ℕ × ℕ). x.1) head in
    elim past [
      | inl b ↦ omega (arith, b, h.repetition, r, ap max_repetition way, repetition-thin w)
      | inr b ↦ omega (arith, b, h.definition, d, ap max_definition way, definition-thin w)
    ]
not-past w v (u ∷ us) (q ∷ front) p rest way a e past = not-past w v us front p rest way (All-tail (IsWithin w) u us a) (cc) past

pub not-unreadable : (w v : Way) (us : List Triple) (rows : ℕ) (page : List Item) → v ≡ thin w → All (IsWithin w) us → page ≡ map Ok (map pair_of us) → IsUnreadable v rows page → ⊥
not-unreadable w v us rows page way a e x = elim x.bad [
  | inl b ↦ no-fault (map pair_of us) x.front _ x.rest (sym e ∙ b.pairs)
  | inr b ↦ not-past w v us x.front b.0 x.rest way a (sym e ∙ b.1.pairs) b.2
]

pub not-on : (page : List Item) → BeginsPair page → GoesOn page → ⊥
not-on page b g = (let h : g.first.0 ≡ 0 = rw g.pairs at b in omega (arith, h, g.repeats))

-- ---- order of pairs
lasts : (w v : Way) (t : Triple) (us : List Triple) (front : List Pair) (p : Pair) (rest : List Item) (level : ℕ) → v ≡ thin w → MayGoOn w t us → map Ok (map pair_of us) ≡ map Ok (front ++ p ∷ []) ++ rest → last_level (Some t.definition) front ≡ Some level → IsOutside v level p → ⊥
lasts w v t [] [] p rest level way o e last out = absurd (cc e)
lasts w v t [] (q ∷ front) p rest level way o e last out = absurd (cc e)
lasts w v t (u ∷ us) [] p rest level way o e last out =
    let head : pair_of u ≡ p = cc in
    let r : u.repetition ≡ p.0 = ap (λ (x : ℕ × ℕ). x.0) head in
    let d : u.definition ≡ p.1 = ap (λ (x : ℕ × ℕ). x.1) head in
    let l : t.definition ≡ level = same_Some t.definition level last in
    let i : inside v p.0 ≡ inside w u.repetition = ap (λ (x : Way). inside x p.0) way ∙ (inside-thin w p.0 ∙ ap (inside w) (sym r)) in
    elim out.1 [
      | inl b ↦ omega (arith, b, o.0.before, l, i)
      | inr b ↦ omega (arith, b, o.0.after, d, i)
    ]
lasts w v t (u ∷ us) (q ∷ front) p rest level way o e last out =
    let head : pair_of u ≡ q = cc in
    let d : q.1 ≡ u.definition = ap (λ (x : ℕ × ℕ). x.1) (sym head) in
    lasts w v u us front p rest level way o.1 (cc) (ap (λ (n : ℕ). last_level (Some n) front) (sym d) ∙ last) out

out-of-order : (w v : Way) (us : List Triple) (front : List Pair) (p : Pair) (rest : List Item) (level : ℕ) → v ≡ thin w → Chained w us → map Ok (map pair_of us) ≡ map Ok (front ++ p ∷ []) ++ rest → last_level None front ≡ Some level → IsOutside v level p → ⊥
out-of-order w v us [] p rest level way o e last out = absurd (cc last)
out-of-order w v [] (q ∷ front) p rest level way o e last out = absurd (cc e)
out-of-order w v (u ∷ us) (q ∷ front) p rest level way o e last out =
    let head : pair_of u ≡ q = cc in
    let d : q.1 ≡ u.definition = ap (λ (x : ℕ × ℕ). x.1) (sym head) in
    lasts w v u us front p rest level way o (cc) (ap (λ (n : ℕ). last_level (Some n) front) (sym d) ∙ last) out

pub not-out-of-order : (w v : Way) (us : List Triple) (rows : ℕ) (page : List Item) → v ≡ thin w → Chained w us → page ≡ map Ok (map pair_of us) → IsOutOfOrder v rows page → ⊥
not-out-of-order w v us rows page way o e x = out-of-order w v us x.front x.pair x.rest x.level way o (sym e ∙ x.wanted.pairs) x.last x.outside

-- ---- values
pub within-back : (w : Way) (ts : List Triple) → All (IsWithin w) ts → AreWithin w ts
within-back w [] a = tt
within-back w (t ∷ ts) a = let h = All-head (IsWithin w) t ts a in (h.repetition, h.definition, h.present, within-back w ts (All-tail (IsWithin w) t ts a))

pub called-front : (top : ℕ) (us : List Triple) (ps : List Pair) (rest : List Item) → map Ok (map pair_of us) ≡ map Ok ps ++ rest → called top (map (λ p. p.1) ps) ≤ called top (map (λ p. p.1) (map pair_of us))
called-front top us [] rest e = omega arith
called-front top [] (p ∷ ps) rest e = absurd (cc e)
called-front top (u ∷ us) (p ∷ ps) rest e =
    let head : pair_of u ≡ p = cc in
    let more = called-front top us ps rest (cc) in
    omega (arith, more, ap (λ (x : ℕ × ℕ). bit (nat_eq x.1 top)) head)

called-values : (w v : Way) (us : List Triple) (ps : List Pair) (page rest : List Item) → v ≡ thin w → All (IsWithin w) us → page ≡ map Ok (map pair_of us) → page ≡ map Ok ps ++ rest → called (max_definition v) (map (λ p. p.1) ps) ≤ length (values_of us)
called-values w v us ps page rest way a e wanted =
    let top : max_definition v ≡ max_definition w = ap max_definition way ∙ definition-thin w in
    omega (arith, called-front (max_definition w) us ps rest (sym e ∙ wanted), called-triples w us (within-back w us a), ap (λ (n : ℕ). called n (map (λ p. p.1) ps)) top)

pub not-too-few : (w v : Way) (us : List Triple) (ps : List Pair) (page rest : List Item) (left more : List Stored) → v ≡ thin w → All (IsWithin w) us → page ≡ map Ok (map pair_of us) → page ≡ map Ok ps ++ rest → left ≡ map Some (values_of us) ++ more → AreTooFew (called (max_definition v) (map (λ p. p.1) ps)) left → ⊥
not-too-few w v us ps page rest left more way a e wanted values few =
    omega (arith, few, called-values w v us ps page rest way a e wanted, ap length values, length-append (map {B = Stored} Some (values_of us)) more, length-map {B = Stored} (values_of us) Some)

none-there : (vs ws : List Value) (r s : List Stored) → map Some vs ++ r ≡ map Some ws ++ (None ∷ s) → length ws < length vs → ⊥
none-there [] ws r s e h = absurd (omega (arith, h))
none-there (v ∷ vs) [] r s e h = (let f : ◌≡◌ {A = List Stored} (Some v ∷ (map Some vs ++ r)) (None ∷ s) = e in cc)
none-there (v ∷ vs) (x ∷ ws) r s e h = none-there vs ws r s (let f : ◌≡◌ {A = List Stored} (Some v ∷ (map Some vs ++ r)) (Some x ∷ (map Some ws ++ (None ∷ s))) = e in cc) (omega (arith, h))

pub not-outside : (w v : Way) (us : List Triple) (ps : List Pair) (page rest : List Item) (left more : List Stored) → v ≡ thin w → All (IsWithin w) us → page ≡ map Ok (map pair_of us) → page ≡ map Ok ps ++ rest → left ≡ map Some (values_of us) ++ more → IsOneOutside (called (max_definition v) (map (λ p. p.1) ps)) left → ⊥
not-outside w v us ps page rest left more way a e wanted values out =
    none-there (values_of us) out.values more out.rest (sym values ∙ out.next) (omega (arith, out.within, called-values w v us ps page rest way a e wanted))
