-- A block with what it gives at the leaf.
use Rattle.std.proofs.Common.{◌≡◌, ◌⊎◌, inl, inr, ℕ, zero, suc, ◌+◌, ◌<◌, ◌≤◌, nat_le, false, Bool, Option, Some, None, List, [], ◌∷◌, ◌++◌, map, length, replicate, refl, arith, ap, sym, ◌∙◌, length-append}
use Rattle.std.proofs.lemmas.Bool.{cases_lt}
use Rattle.shredding.specs.Slot.{Value, Slot}
use Rattle.shredding.specs.Shape.{Way, at_leaf, in_list, in_struct}
use Rattle.shredding.specs.Shred.{up, Triple, max_repetition, max_definition}
use Rattle.shredding.specs.Local.{inside}
use Rattle.read_laws.specs.State.{Kept, kept_way, leaf_count, StateFits}
use Rattle.read_laws.specs.Step.{bit, leaf_pushes, way_nullable, LeafGives, Ended}
use Rattle.read_laws.specs.Column.{kept_column, slot_of, triple}
use Rattle.read_laws.specs.Block.{Mark, block}
use Rattle.read_laws.specs.Blocks.{mark_of, leaf_grows, leaves_grow, GivesEach, FollowEach, Starts, IsGrown}
use Rattle.read_laws.specs.Blocks.{last_level as last_definition}
use Rattle.read_laws.proofs.Blocks.{blocks-grow}
use Rattle.read_laws.proofs.Thresholds.{threshold}
use Rattle.read_laws.proofs.Leaves.{front-same}
use Rattle.read_laws.proofs.Stretches.{up-bit}
use Rattle.read_state.specs.Marks.{marks_of}
use Rattle.read_laws.specs.Block.{walk, AllFit}
use Rattle.read_laws.proofs.Blocks.{pairs-fit}
use Rattle.read_laws.proofs.PartByPart.{walked}
use Rattle.read_state.specs.Kinds.{HasLongItems}
use Rattle.read_walk.specs.Gives.{LeafIs, Each, grows, Decoded}
use Rattle.read_walk.specs.Order.{zipped, last_level, MayCome, Follows, EndedAt}
use Rattle.read_walk.specs.Values.{Stored, bytes_in}
use Rattle.read_walk.specs.Walk.{mark_pair}
use Rattle.read_walk.specs.Blocks.{triples_of, TookBlock}
use Rattle.read_walk.proofs.Decoding.{slots-append}

-- pairs, whatever they give
abbrev blank : List ℕ → List ℕ → List Triple
blank (r ∷ rs) (d ∷ ds) = triple r d None ∷ blank rs ds
blank _ _ = []

-- the definition level before, where there is a pair
abbrev level-or : Option ℕ → ℕ
level-or None = 0
level-or (Some level) = level

repeated : (w : Way) (before r d : ℕ) → r ≤ max_repetition w → MayCome w (Some before) (r, d) → (r ≡ 0) ⊎ ((0 < r) × (r ≤ max_repetition w) × (inside w r ≤ before) × (inside w r ≤ d))
repeated w before zero d h m = inl refl
repeated w before (suc r) d h m = inr (omega arith, h, m.0, m.1)

comes-each : (w : Way) (before : Option ℕ) (r d : ℕ) → r ≤ max_repetition w → MayCome w before (r, d) → (r ≡ 0) ⊎ ((0 < r) × (r ≤ max_repetition w) × (inside w r ≤ level-or before) × (inside w r ≤ d))
comes-each w None r d h m = inl m
comes-each w (Some before) r d h m = repeated w before r d h m

follow-each : (w : Way) (before : Option ℕ) (rs ds : List ℕ) (os : List (Option Value)) → Follows w before (zipped rs ds) → FollowEach w (level-or before) (triples_of rs ds os)
follow-each w before [] ds os f = tt
follow-each w before (r ∷ rs) [] os f = tt
follow-each w before (r ∷ rs) (d ∷ ds) [] f = tt
follow-each w before (r ∷ rs) (d ∷ ds) (o ∷ os) f = (f.1, comes-each w before r d f.0 f.2, follow-each w (Some d) rs ds os f.3)

follow-blank : (w : Way) (before : Option ℕ) (rs ds : List ℕ) → Follows w before (zipped rs ds) → FollowEach w (level-or before) (blank rs ds)
follow-blank w before [] ds f = tt
follow-blank w before (r ∷ rs) [] f = tt
follow-blank w before (r ∷ rs) (d ∷ ds) f = (f.1, comes-each w before r d f.0 f.2, follow-blank w (Some d) rs ds f.3)

start : (w : Way) (before : Option ℕ) (r d : ℕ) (ks : List Kept) → MayCome w before (r, d) → EndedAt before ks → (r ≡ 0) ⊎ Ended (level-or before) 0 ks
start w None r d ks m e = inl m
start w (Some before) r d ks m e = inr e

starts-each : (w : Way) (before : Option ℕ) (ks : List Kept) (rs ds : List ℕ) (os : List (Option Value)) → Follows w before (zipped rs ds) → EndedAt before ks → Starts (level-or before) (triples_of rs ds os) ks
starts-each w before ks [] ds os f e = tt
starts-each w before ks (r ∷ rs) [] os f e = tt
starts-each w before ks (r ∷ rs) (d ∷ ds) [] f e = tt
starts-each w before ks (r ∷ rs) (d ∷ ds) (o ∷ os) f e = start w before r d ks f.2 e

starts-blank : (w : Way) (before : Option ℕ) (ks : List Kept) (rs ds : List ℕ) → Follows w before (zipped rs ds) → EndedAt before ks → Starts (level-or before) (blank rs ds) ks
starts-blank w before ks [] ds f e = tt
starts-blank w before ks (r ∷ rs) [] f e = tt
starts-blank w before ks (r ∷ rs) (d ∷ ds) f e = start w before r d ks f.2 e

few : (w : Way) (before r d : ℕ) (ts : List Triple) (o : Option Value) → FollowEach w before (triple r d o ∷ ts) → r ≤ max_repetition w
few w before r d ts o f = elim f.1 [ inl e ↦ omega (arith, e) | inr e ↦ e.1 ]

-- an item of the innermost list lies above the leaf's own level
inside-none : (w : Way) (r : ℕ) → r ≡ 0 → inside w r ≡ 0
inside-none w r e = rw e refl

inside-struct : (n : Bool) (i : ℕ) (w : Way) (r : ℕ) → inside (in_struct n i w) r ≤ up n (inside w r)
inside-struct n i w zero = omega arith
inside-struct n i w (suc r) = omega arith

room : (w : Way) → inside w (max_repetition w) + bit (way_nullable w) ≤ max_definition w
room (at_leaf n) = omega (arith, up-bit n 0)
room (in_list n w) = omega (arith, room w, up-bit n (suc (inside w (max_repetition w))), up-bit n (suc (max_definition w)))
room (in_struct n i w) = omega (arith, room w, inside-struct n i w (max_repetition w), up-bit n (inside w (max_repetition w)), up-bit n (max_definition w))

gives-one : (w : Way) (d : ℕ) (s : Slot) (o : Option Value) → d ≤ max_definition w → LeafIs (inside w (max_repetition w)) (max_definition w) d s o → LeafGives (way_nullable w) d (max_definition w) s o
gives-one w d s None h l =
    let less : d < max_definition w = elim (cases_lt d (max_definition w)) [ inl e ↦ e | inr e ↦ absurd (l.0 (omega (arith, e, h))) ] in
    (less, λ e. l.1 (omega (arith, e, room w)))
gives-one w d s (Some v) h l = l

gives-each : (w : Way) (before place : ℕ) (leaf : ℕ → Slot) (rs ds : List ℕ) (os : List (Option Value)) → length ds ≡ length rs → FollowEach w before (triples_of rs ds os) → Each (inside w (max_repetition w)) (max_definition w) leaf place ds os → GivesEach w leaf place (triples_of rs ds os)
gives-each w before place leaf [] ds os z f e = tt
gives-each w before place leaf (r ∷ rs) [] os z f e = tt
gives-each w before place leaf (r ∷ rs) (d ∷ ds) [] z f e = tt
gives-each w before place leaf (r ∷ rs) (d ∷ ds) (o ∷ os) z f e =
    let t : leaf_pushes r d false 0 0 w ≡ nat_le (inside w (max_repetition w)) d = threshold w r d (few w before r d (triples_of rs ds os) o f) in
    let g : place + leaf_grows w (triple r d o) ≡ place + bit (nat_le (inside w (max_repetition w)) d) = ap (λ (b : Bool). place + bit b) t in
    (gives-one w d (leaf place) o f.0 e.0, rw g (gives-each w d (place + bit (nat_le (inside w (max_repetition w)) d)) leaf rs ds os (omega (arith, z)) f.2 e.1))

grows-each : (w : Way) (before place : ℕ) (leaf : ℕ → Slot) (rs ds : List ℕ) (os : List (Option Value)) → length ds ≡ length rs → FollowEach w before (triples_of rs ds os) → Each (inside w (max_repetition w)) (max_definition w) leaf place ds os → leaves_grow w (triples_of rs ds os) ≡ grows (inside w (max_repetition w)) ds
grows-each w before place leaf [] [] os z f e = refl
grows-each w before place leaf [] (d ∷ ds) os z f e = absurd (omega (arith, z))
grows-each w before place leaf (r ∷ rs) [] os z f e = absurd (omega (arith, z))
grows-each w before place leaf (r ∷ rs) (d ∷ ds) [] z f e = absurd e
grows-each w before place leaf (r ∷ rs) (d ∷ ds) (o ∷ os) z f e =
    let t : leaf_pushes r d false 0 0 w ≡ nat_le (inside w (max_repetition w)) d = threshold w r d (few w before r d (triples_of rs ds os) o f) in
    let rest = grows-each w d (place + bit (nat_le (inside w (max_repetition w)) d)) leaf rs ds os (omega (arith, z)) f.2 e.1 in
    rw (t, rest) refl

-- ---- pairs as marks
pub marks-zipped : (rs ds : List ℕ) (n : ℕ) → length ds ≡ length rs → length rs ≤ n → marks_of rs ds (replicate n false) ≡ map mark_pair (zipped rs ds)
marks-zipped [] ds n z h = refl
marks-zipped (r ∷ rs) [] n z h = absurd (omega (arith, z))
marks-zipped (r ∷ rs) (d ∷ ds) zero z h = absurd (omega (arith, h))
marks-zipped (r ∷ rs) (d ∷ ds) (suc n) z h = ap (λ (ms : List Mark). mark_pair (r, d) ∷ ms) (marks-zipped rs ds n (omega (arith, z)) (omega (arith, h)))

pub marks-triples : (floor top place : ℕ) (leaf : ℕ → Slot) (rs ds : List ℕ) (os : List (Option Value)) → length ds ≡ length rs → Each floor top leaf place ds os → map mark_of (triples_of rs ds os) ≡ map mark_pair (zipped rs ds)
marks-triples floor top place leaf [] [] os z e = refl
marks-triples floor top place leaf [] (d ∷ ds) os z e = absurd (omega (arith, z))
marks-triples floor top place leaf (r ∷ rs) [] os z e = absurd (omega (arith, z))
marks-triples floor top place leaf (r ∷ rs) (d ∷ ds) [] z e = absurd e
marks-triples floor top place leaf (r ∷ rs) (d ∷ ds) (o ∷ os) z e = ap (λ (ms : List Mark). mark_pair (r, d) ∷ ms) (marks-triples floor top (place + bit (nat_le floor d)) leaf rs ds os (omega (arith, z)) e.1)

marks-blank : (rs ds : List ℕ) → map mark_of (blank rs ds) ≡ map mark_pair (zipped rs ds)
marks-blank [] ds = refl
marks-blank (r ∷ rs) [] = refl
marks-blank (r ∷ rs) (d ∷ ds) = ap (λ (ms : List Mark). mark_pair (r, d) ∷ ms) (marks-blank rs ds)

-- each state on the way fits
pub all-fit : (n : ℕ) (before : Option ℕ) (rs ds : List ℕ) (ks : List Kept) → length ds ≡ length rs → length rs ≤ n → StateFits ks → Follows (kept_way ks) before (zipped rs ds) → EndedAt before ks → AllFit (marks_of rs ds (replicate n false)) ks
all-fit n before rs ds ks z h f follow ended =
    let fit = pairs-fit (level-or before) ks (blank rs ds) f (starts-blank (kept_way ks) before ks rs ds follow ended) (follow-blank (kept_way ks) before rs ds follow) in
    rw (marks-zipped rs ds n z h, ← marks-blank rs ds) fit

pub long-walk : (n : ℕ) (rs ds : List ℕ) (ks : List Kept) → length ds ≡ length rs → length rs ≤ n → AllFit (marks_of rs ds (replicate n false)) ks → HasLongItems (block (marks_of rs ds (replicate n false)) 0 0 ks) → HasLongItems (walk (map mark_pair (zipped rs ds)) ks)
long-walk n rs ds ks z h fit long =
    let e = walked (marks_of rs ds (replicate n false)) ks fit in
    let m = marks-zipped rs ds n z h in
    rw (← m) (rw e at long)

-- ---- the last pair
ended-at : (before : Option ℕ) (other : ℕ) (rs ds : List ℕ) (os : List (Option Value)) (floor top place : ℕ) (leaf : ℕ → Slot) (ks ks' : List Kept) → length ds ≡ length rs → Each floor top leaf place ds os → (length rs ≡ 0 → EndedAt before ks') → (0 < length (triples_of rs ds os) → Ended (last_definition other (triples_of rs ds os)) 0 ks') → EndedAt (last_level before (zipped rs ds)) ks'
ended-at before other [] ds os floor top place leaf ks ks' z e none some = none refl
ended-at before other (r ∷ rs) [] os floor top place leaf ks ks' z e none some = absurd (omega (arith, z))
ended-at before other (r ∷ rs) (d ∷ ds) [] floor top place leaf ks ks' z e none some = absurd e
ended-at before other (r ∷ rs) (d ∷ ds) (o ∷ os) floor top place leaf ks ks' z e none some = ended-at (Some d) d rs ds os floor top (place + bit (nat_le floor d)) leaf ks ks' (omega (arith, z)) e.1 (λ n. none-more d rs ds os n (some (omega arith))) (λ n. some (omega arith))
  where
    none-more : (d : ℕ) (rs ds : List ℕ) (os : List (Option Value)) → length rs ≡ 0 → Ended (last_definition d (triples_of rs ds os)) 0 ks' → Ended d 0 ks'
    none-more d [] ds os n h = h
    none-more d (r ∷ rs) ds os n h = absurd (omega (arith, n))

nothing-grown : (rs ds : List ℕ) (os : List (Option Value)) (ks : List Kept) → length rs ≡ 0 → walk (map mark_of (triples_of rs ds os)) ks ≡ ks
nothing-grown [] ds os ks n = refl
nothing-grown (r ∷ rs) ds os ks n = absurd (omega (arith, n))

pub took-block : (n : ℕ) (before : Option ℕ) (floor top : ℕ) (rs ds : List ℕ) (ks ks' : List Kept) (slots slots' : List Slot) (left left' : List Stored) → length rs ≤ n → length ds ≡ length rs → StateFits ks → Follows (kept_way ks) before (zipped rs ds) → EndedAt before ks → length slots ≡ leaf_count ks → floor ≡ inside (kept_way ks) (max_repetition (kept_way ks)) → top ≡ max_definition (kept_way ks) → ks' ≡ block (marks_of rs ds (replicate n false)) 0 0 ks → (HasLongItems ks' → ⊥) → Decoded floor top ds left left' slots slots' → TookBlock before rs ds ks ks' slots slots' left left'
took-block n before floor top rs ds ks ks' slots slots' left left' h z f follow s size lf lt made short d =
    let w = kept_way ks in
    let ts = triples_of rs ds d.gives in
    let level = level-or before in
    let each : Each (inside w (max_repetition w)) (max_definition w) (slot_of slots') (length slots) ds d.gives = rw (← lf, ← lt) d.each in
    let follows : FollowEach w level ts = follow-each w before rs ds d.gives follow in
    let gives : GivesEach w (slot_of slots') (leaf_count ks) ts = rw (← size) (gives-each w level (length slots) (slot_of slots') rs ds d.gives z follows each) in
    let g = blocks-grow (slot_of slots') level ks ts f (starts-each w before ks rs ds d.gives follow s) follows gives in
    let marks : marks_of rs ds (replicate n false) ≡ map mark_of ts = marks-zipped rs ds n z h ∙ sym (marks-triples (inside w (max_repetition w)) (max_definition w) (length slots) (slot_of slots') rs ds d.gives z each) in
    let is : ks' ≡ block (map mark_of ts) 0 0 ks = made ∙ ap (λ (ms : List Mark). block ms 0 0 ks) marks in
    let g' : IsGrown (slot_of slots') level ks ks' ts = rw is g in
    let front : kept_column (slot_of slots') ks ≡ kept_column (slot_of slots) ks = rw d.pushed (front-same ks slots d.more f size) in
    let grown : length d.more ≡ grows (inside w (max_repetition w)) ds = rw (← lf) d.grown in
    let leaves : leaves_grow w ts ≡ grows (inside w (max_repetition w)) ds = grows-each w level (length slots) (slot_of slots') rs ds d.gives z follows each in
    let longer : length slots' ≡ length slots + length d.more = rw d.pushed (length-append slots d.more) in
    record {
      gives = d.gives;
      each = each;
      fits = g'.fits;
      way = g'.way;
      ended = ended-at before level rs ds d.gives (inside w (max_repetition w)) (max_definition w) (length slots) (slot_of slots') ks ks' z each (λ none. rw (g'.walked ∙ nothing-grown rs ds d.gives ks none) s) g'.ended;
      column = g'.column ∙ ap (λ (cs : List Triple). cs ++ ts) front;
      decoded = omega (arith, longer, grown, leaves, size, g'.leaves);
      values = d.values;
      sized = rw d.pushed (slots-append slots d.more ∙ ap (λ (b : ℕ). bytes_in slots + b) d.sized);
      walked = g'.walked;
      counted = short;
    }

pub floor-top : (floor top : ℕ) (w : Way) → floor ≡ inside w (max_repetition w) → top ≡ max_definition w → floor ≤ top
floor-top floor top w e f = omega (arith, e, f, room w)
