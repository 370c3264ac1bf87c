-- A page of a column of rows, before it is taken.
use Rattle.std.proofs.Common.{◌≡◌, ℕ, ◌≤◌, Bool, is_some, nat_eq, Option, Some, None, Ok, List, [], ◌∷◌, ◌++◌, map, length, take, drop, All, refl, arith, ap, sym, subst, ◌∙◌}
use Rattle.std.specs.List.{AllZip, cons_option}
use Rattle.std.proofs.lemmas.List.{length-map, take-append-drop}
use Rattle.std.proofs.lemmas.List.Elements.{All-nil, All-cons, All-head, All-tail}
use Rattle.shredding.specs.Local.{IsWithin}
use Rattle.shredding.specs.Shape.{LeafType, Way}
use Rattle.shredding.specs.Shred.{Triple, max_definition as way_definition}
use Rattle.shredding.specs.Slot.{Value}
use Rattle.pq_files.specs.Chunk.{IsPageIn, Page, RawPage, count_in}
use Rattle.pq_files.specs.Levels.{HasLevels as FileLevels}
use Rattle.pq_files.specs.Page.{Encoding, IsSpelled, values_in}
use Rattle.pq_files.specs.Stored.{AreStored, IsStored, IsStoredOption}
use Rattle.pq_files.proofs.PageOnce.{encoding_same}
use Rattle.pq_files.proofs.StoredOnce.{are_unique}
use Rattle.pq_files.proofs.Unique.{split_same}
use Rattle.pq_headline.specs.Openings.{leaf_levels}
use Rattle.pq_numbers.specs.Bits.{IsWidth}
use Rattle.pq_numbers.specs.Texts.{Begins}
use Rattle.pq_pages.specs.Outcomes.{Levels}
use Rattle.pq_tree.specs.Physical.{Physical}
use Rattle.pq_tree.specs.Tree.{Leaf, max_definition, max_repetition}
use Rattle.read_pieces.specs.Leaves.{IsLoaded, ReadsPlain, in_bytes}
use Rattle.read_walk.specs.Gives.{given}
use Rattle.read_walk.specs.Pairs.{Item, Pair}
use Rattle.read_walk.specs.Spelled.{HasLevels, NoneAbove}
use Rattle.read_walk.specs.Values.{Stored}
use Rattle.read_walk.specs.Walk.{pair_of, values_of}
use Rattle.read_walk.proofs.Grammar.{pairs-read}
use Rattle.read_column.specs.Deltas.{deltas_in, present_in}
use Rattle.read_column.specs.Dictionary.{AreTextsOf, Means}
use Rattle.read_column.specs.Reading.{HasItems, HasPairs}
use Rattle.read_column.specs.declared.deltas.Deltas.{Deltas}
use Rattle.read_column.proofs.CanRead.{count-is}
use Rattle.read_column.proofs.Pages.{defs-stored, pairs-of, reps-stored, values-few}
use Rattle.read_column.proofs.Present.{pairs-stored, present-values}
use Rattle.read_column.proofs.Values.{holds-values}
use Rattle.read_column.proofs.Widths.{has-width}

-- ---- lists
pub all-front : {X : Type 0} (P : X → Type 0) (xs ys : List X) → All P (xs ++ ys) → All P xs
all-front P [] ys a = All-nil P
all-front P (x ∷ xs) ys a = All-cons P x xs (All-head P x (xs ++ ys) a) (all-front P xs ys (All-tail P x (xs ++ ys) a))

pub all-behind : {X : Type 0} (P : X → Type 0) (xs ys : List X) → All P (xs ++ ys) → All P ys
all-behind P [] ys a = a
all-behind P (x ∷ xs) ys a = all-behind P xs ys (All-tail P x (xs ++ ys) a)

pub stored-cut : (t : LeafType) (p : Physical) (ts a b : List Triple) → AreStored t p ts (a ++ b) → (x : List Triple) × (y : List Triple) × (ts ≡ x ++ y) × AreStored t p x a × AreStored t p y b
stored-cut t p ts [] b s = ([], ts, refl, tt, s)
stored-cut t p [] (z ∷ a) b s = absurd s
stored-cut t p (u ∷ ts) (z ∷ a) b s = let r = stored-cut t p ts a b s.1 in (u ∷ r.0, r.1, ap (λ (us : List Triple). u ∷ us) r.2, (s.0, r.3), r.4)

-- ---- values
one-stored : (t : LeafType) (p : Physical) (v s : Option Value) (vs : List (Option Value)) (ss : List Value) → IsStoredOption t p v s → AllZip (IsStored t p) (given vs) ss → AllZip (IsStored t p) (given (v ∷ vs)) (cons_option s ss)
one-stored t p None None vs ss a h = h
one-stored t p (Some v) (Some s) vs ss a h = (a, h)
one-stored t p None (Some s) vs ss a h = absurd a
one-stored t p (Some v) None vs ss a h = absurd a

pub values-stored : (t : LeafType) (p : Physical) (ts zs : List Triple) → AreStored t p ts zs → AllZip (IsStored t p) (values_of ts) (values_in zs)
values-stored t p [] [] a = tt
values-stored t p [] (z ∷ zs) a = absurd a
values-stored t p (u ∷ ts) [] a = absurd a
values-stored t p (u ∷ ts) (z ∷ zs) a = one-stored t p u.value z.value (map (λ x. x.value) ts) (values_in zs) a.0.«value» (values-stored t p ts zs a.1)

loaded-is : (t : LeafType) (p : Physical) (xs : List Stored) (vs ss : List Value) → AllZip (IsLoaded t p) xs ss → AllZip (IsStored t p) vs ss → xs ≡ map Some vs
loaded-is t p [] [] [] a b = refl
loaded-is t p [] [] (s ∷ ss) a b = absurd b
loaded-is t p [] (v ∷ vs) [] a b = absurd b
loaded-is t p [] (v ∷ vs) (s ∷ ss) a b = absurd a
loaded-is t p (x ∷ xs) vs [] a b = absurd a
loaded-is t p (x ∷ xs) [] (s ∷ ss) a b = absurd b
loaded-is t p (None ∷ xs) (v ∷ vs) (s ∷ ss) a b = absurd (a.0 v b.0)
loaded-is t p (Some x ∷ xs) (v ∷ vs) (s ∷ ss) a b = ap (λ (y : Value). Some y ∷ xs) (are_unique.shared t p x v s a.0 b.0) ∙ ap (λ (ys : List Stored). Some v ∷ ys) (loaded-is t p xs vs ss a.1 b.1)

-- ---- levels
none-above : (max : ℕ) (xs : List ℕ) → All (λ x. x ≤ max) xs → NoneAbove max xs
unfolding NoneAbove
none-above max [] a = tt
none-above max (x ∷ xs) a = (All-head (λ y. y ≤ max) x xs a, none-above max xs (All-tail (λ y. y ≤ max) x xs a))

same-width : (max v w : ℕ) → IsWidth max v → IsWidth max w → v ≡ w
same-width max v w a b = omega (arith, a.least w b.holds, b.least v a.holds)

-- of the width
pub levels-as : (max w : ℕ) (section xs : List ℕ) → IsWidth max w → FileLevels max section xs → HasLevels max w section xs
levels-as max w section xs is h = record { runs = rw (same-width max w h.width is h.is_width) h.runs; within = none-above max xs h.within }

-- ---- the page that comes
pub record Foreseen (w : Way) (stored : List Stored) (items : List Item) (us : List Triple) : Type 0 where
  pub pairs : items ≡ map Ok (map pair_of us)
  pub rest : List Stored
  pub values : stored ≡ map Some (values_of us) ++ rest
  pub within : All (IsWithin w) us

-- its pairs, and what its section begins with
pub record PairsForeseen (l : Leaf) (es : Option (List Value)) (e : Encoding) (p : RawPage) (top : ℕ) (items : List Item) (section : List ℕ) (vs : List Value) (us : List Triple) : Type 0 where
  pub pairs : items ≡ map Ok (map pair_of us)
  pub spelled : Begins (IsSpelled e l es) section vs
  pub present : length vs ≡ present_in top items
  pub few : length vs ≤ count_in p.header

pub pairs-foreseen : (t : LeafType) (l : Leaf) (own : Bool) (k : Deltas) (e : Encoding) (es : Option (List Value)) (p : RawPage) (levels : Levels) (items : List Item) (section : List ℕ) (q : Page) (us : List Triple) → levels ≡ leaf_levels l → (has : HasPairs own k e p levels items section) → IsPageIn l es p q → AreStored t l.physical us q.triples → PairsForeseen l es e p has.definition items section (values_in q.triples) us
pairs-foreseen t l own k e es p levels items section q us of-leaf has in-page are =
    let is = in-page.is in
    let o = has.opened in
    let vs = values_in q.triples in
    let reps = map (λ (u : Triple). u.repetition) us in
    let defs = map (λ (u : Triple). u.definition) us in
    let rep : has.repetition ≡ max_repetition l = o.repetitions ∙ ap (λ (x : Levels). x.repetition) of-leaf in
    let def : has.definition ≡ max_definition l = o.definitions ∙ ap (λ (x : Levels). x.definition) of-leaf in
    let split = o.split l (sym (ap (λ (x : Levels). x.repetition) of-leaf)) (sym (ap (λ (x : Levels). x.definition) of-leaf)) in
    let same = split_same l p.header p.body is.sections has.sections is.split split in
    let v = has-width has.repetition in
    let dw = has-width has.definition in
    let counted = count-is p.header q.triples (e, o.encoding) is.counted in
    let size : length us ≡ has.n = sym (length-map us (λ (u : Triple). u.repetition)) ∙ (ap length (sym (reps-stored t l.physical us q.triples are)) ∙ (length-map q.triples (λ (u : Triple). u.repetition) ∙ (counted ∙ sym o.count))) in
    let rs : FileLevels has.repetition has.sections.repetition reps = rw (rep, ← same.repetition, ← reps-stored t l.physical us q.triples are) is.repetitions in
    let ds : FileLevels has.definition has.sections.definition defs = rw (def, ← same.definition, ← defs-stored t l.physical us q.triples are) is.definitions in
    let read = (pairs-read has.repetition v.0 has.definition dw.0 has.n has.sections.repetition has.sections.definition reps defs (length-map us (λ (u : Triple). u.repetition) ∙ size) (length-map us (λ (u : Triple). u.definition) ∙ size)).0 (levels-as has.repetition v.0 has.sections.repetition reps v.1 rs, levels-as has.definition dw.0 has.sections.definition defs dw.1 ds) in
    let pairs : items ≡ map Ok (map pair_of us) = has.are v.0 dw.0 v.1 dw.1 ∙ (read ∙ pairs-of us) in
    let same-encoding : is.encoding ≡ e = encoding_same p.header is.encoding e is.has_encoding o.encoding in
    let here : Begins (IsSpelled e l es) is.sections.values vs = subst (λ (x : Encoding). Begins (IsSpelled x l es) is.sections.values vs) same-encoding is.values in
    record {
      pairs = pairs;
      spelled = subst (λ (x : List ℕ). Begins (IsSpelled e l es) x vs) (same.values ∙ sym has.bytes) here;
      present = sym (present-values (max_definition l) q.triples is.present) ∙ (ap (λ (ps : List Pair). present_in (max_definition l) (map Ok ps)) (pairs-stored t l.physical us q.triples are) ∙ (ap (present_in (max_definition l)) (sym pairs) ∙ ap (λ (n : ℕ). present_in n items) (sym def)));
      few = omega (arith, values-few q.triples, counted);
    }

abbrev pub pairs-of-items : (own : Bool) (d : Means) (p : RawPage) (levels : Levels) (items : List Item) (values : List ℕ) → (has : HasItems own d p levels items values) → HasPairs own d.deltas has.encoding p levels items has.sections.values
pairs-of-items own d p levels items values has = record {
  sections = has.sections;
  repetition = has.repetition;
  definition = has.definition;
  n = has.n;
  opened = has.opened;
  are = has.are;
  bytes = refl;
}

pub foreseen : (t : LeafType) (l : Leaf) (w : Way) (stored : List ℕ → List Stored) (d : Means) (es : Option (List Value)) (flat : Bool) (p : RawPage) (levels : Levels) (items : List Item) (values : List ℕ) (q : Page) (us : List Triple) → ReadsPlain t l.physical stored → AreTextsOf stored l.physical d.entries es → d.deltas ≡ deltas_in flat l.physical → levels ≡ leaf_levels l → HasItems (in_bytes stored) d p levels items values → IsPageIn l es p q → AreStored t l.physical us q.triples → All (IsWithin w) us → Foreseen w (stored values) items us
foreseen t l w stored d es flat p levels items values q us plainly texts deltas of-leaf has in-page are within =
    let o = has.opened in
    let vs = values_in q.triples in
    let f = pairs-foreseen t l (in_bytes stored) d.deltas has.encoding es p levels items has.sections.values q us of-leaf (pairs-of-items (in_bytes stored) d p levels items values has) in-page are in
    let holds = holds-values t l stored d es flat has.encoding (count_in p.header) (present_in has.definition items) has.sections.values values vs plainly texts deltas o.read has.bytes f.few f.present in
    let loads = plainly.read values vs (holds.0 f.spelled) in
    let front = loaded-is t l.physical (take (length vs) (stored values)) (values_of us) vs loads.1 (values-stored t l.physical us q.triples are) in
    record {
      pairs = f.pairs;
      rest = drop (length vs) (stored values);
      values = sym (take-append-drop (length vs) (stored values)) ∙ ap (λ (xs : List Stored). xs ++ drop (length vs) (stored values)) front;
      within = within;
    }

-- ---- behind some of it
some-first : (a : Bool) (v u : Option Value) → is_some v ≡ a → is_some u ≡ a → (vs us : List (Option Value)) (r s : List Stored) → map Some (given (u ∷ us)) ++ r ≡ map Some (given (v ∷ vs)) ++ s → (u ≡ v) × (map Some (given us) ++ r ≡ map Some (given vs) ++ s)
some-first a None None p q vs us r s e = (refl, e)
some-first a (Some v) (Some u) p q vs us r s e =
    let heads : Some u ≡ Some v = (let h : ◌≡◌ {A = List Stored} (Some u ∷ (map Some (given us) ++ r)) (Some v ∷ (map Some (given vs) ++ s)) = e in cc) in
    let tails : map Some (given us) ++ r ≡ map Some (given vs) ++ s = (let h : ◌≡◌ {A = List Stored} (Some u ∷ (map Some (given us) ++ r)) (Some v ∷ (map Some (given vs) ++ s)) = e in cc) in
    (heads, tails)
some-first a None (Some u) p q vs us r s e = absurd (let h = p ∙ sym q in cc)
some-first a (Some v) None p q vs us r s e = absurd (let h = p ∙ sym q in cc)

pub record Behind (us taken : List Triple) (page' : List Item) (left' rest : List Stored) : Type 0 where
  pub others : List Triple
  pub parts : us ≡ taken ++ others
  pub pairs : page' ≡ map Ok (map pair_of others)
  pub values : left' ≡ map Some (values_of others) ++ rest

pub behind-taken : (w : Way) (us taken : List Triple) (page' : List Item) (left' rest : List Stored) → All (IsWithin w) us → All (IsWithin w) taken → map Ok (map pair_of us) ≡ map Ok (map pair_of taken) ++ page' → map Some (values_of us) ++ rest ≡ map Some (values_of taken) ++ left' → Behind us taken page' left' rest
behind-taken w us [] page' left' rest a b e f = record { others = us; parts = refl; pairs = sym e; values = sym f }
behind-taken w [] (t ∷ taken) page' left' rest a b e f = absurd (cc e)
behind-taken w (u ∷ us) (t ∷ taken) page' left' rest a b e f =
    let heads : pair_of u ≡ pair_of t = cc in
    let tails : map Ok (map pair_of us) ≡ map Ok (map pair_of taken) ++ page' = cc in
    let rep : u.repetition ≡ t.repetition = ap (λ (p : ℕ × ℕ). p.0) heads in
    let def : u.definition ≡ t.definition = ap (λ (p : ℕ × ℕ). p.1) heads in
    let one = (All-head (IsWithin w) u us a).present in
    let two = (All-head (IsWithin w) t taken b).present in
    let vals = some-first (nat_eq t.definition (way_definition w)) t.value u.value two (one ∙ ap (λ (n : ℕ). nat_eq n (way_definition w)) def) (map (λ x. x.value) taken) (map (λ x. x.value) us) rest left' f in
    let v : u.value ≡ t.value = vals.0 in
    let same : u ≡ t = λ i. record { repetition = rep i; definition = def i; value = v i } in
    let more = behind-taken w us taken page' left' rest (All-tail (IsWithin w) u us a) (All-tail (IsWithin w) t taken b) tails vals.1 in
    record { others = more.others; parts = ap (λ (xs : List Triple). u ∷ xs) more.parts ∙ ap (λ (x : Triple). x ∷ (taken ++ more.others)) same; pairs = more.pairs; values = more.values }
