-- Definition levels of lists above a path without lists.
use Rattle.std.proofs.Common.{◌≡◌, ◌≢◌, ℕ, zero, suc, ◌+◌, ◌-◌, ◌<◌, ◌≤◌, Bool, true, false, cond, Option, List, [], ◌∷◌, ◌++◌, All, map, refl, arith, ap, sym, subst, ◌∙◌, append_assoc, append-nil}
use Rattle.std.proofs.lemmas.List.{map-append}
use Rattle.std.proofs.lemmas.List.Elements.{All-append}
use Rattle.shredding.specs.Parts.{Part, leaf_part, list_part, struct_part, is_present, item_start, item_count, item_span, path_way, FitTogether}
use Rattle.shredding.specs.Shred.{up, max_repetition, max_definition}
use Rattle.levels.specs.Levels.{run, run_or, one_pair, slot_pairs, bit}
use Rattle.levels.specs.Stretch.{level_of}
use Rattle.levels.specs.declared.walk.Level.{Level}
use Rattle.levels.specs.declared.walk.Level.TheVariants.{Definition}
use Rattle.pq_runs.specs.Writing.{Keeps, Waiting}
use Rattle.level_sections.specs.declared.planes.Pending.{Pending}
use Rattle.level_sections.specs.Planes.{plane_numbers}
use Rattle.level_sections.specs.declared.items.Window.{Window}
use Rattle.level_sections.specs.declared.walk.Above.{Above}
use Rattle.level_sections.specs.Blocks.{Reaches, part_optional, part_present, flat_level, levels_from}
use Rattle.level_sections.specs.Definitions.{IsFollowed, IsWindow, levels_or, list_definitions, listed_from}
use Rattle.level_sections.specs.Walk.{AreItems, Goes, IsOfItems, walked}
use Rattle.level_sections.proofs.Blocks.{flat-below, flat-pairs, flat-reaches, from-below, run-levels, up-bit}
use Rattle.level_sections.proofs.PlaneNumbers.{planes-add, planes-from}
use Rattle.level_sections.proofs.Walked.{goes_on, goes_end}

-- ---- what the definition of levels says of lists

abbrev seconds : List (ℕ × ℕ) → List ℕ
seconds = map (level_of Definition)

items-seconds : (level : ℕ → ℕ) (piece : ℕ → ℕ → List (ℕ × ℕ)) → ((rep i : ℕ) → piece rep i ≡ one_pair rep (level i)) → (rep def others place count : ℕ) → seconds (run_or (rep, def) piece rep others place count) ≡ levels_or def level place count
unfolding run_or
items-seconds level piece same rep def others place zero = refl
items-seconds level piece same rep def others place (suc n) = run-levels level piece same rep others place (suc n)

by_presence : (b : Bool) (xs : List (ℕ × ℕ)) (ys : List ℕ) (rep def : ℕ) → seconds xs ≡ ys → seconds (cond b xs (one_pair rep def)) ≡ cond b ys (def ∷ [])
by_presence true xs ys rep def e = e
by_presence false xs ys rep def e = refl

list-seconds : (is_optional : Bool) (mask : Option (List Bool)) (offsets : List ℕ) (parts : List Part) → FitTogether parts → max_repetition (path_way parts) ≡ 0 → (def depth rep i : ℕ) → seconds (slot_pairs (list_part is_optional mask offsets ∷ parts) def depth rep i) ≡ list_definitions is_optional mask offsets parts def i
unfolding slot_pairs
list-seconds is_optional mask offsets parts h e def depth rep i =
    by_presence (is_present is_optional mask i) _ _ rep def
    (items-seconds (flat_level parts (def + bit is_optional + 1)) (slot_pairs parts (def + bit is_optional + 1) (depth + 1)) (λ r j. flat-pairs parts h e (def + bit is_optional + 1) (depth + 1) r j) rep (def + bit is_optional) (depth + 1) (item_start offsets i) (item_count offsets i))

run-listed : (levels : ℕ → List ℕ) (piece : ℕ → ℕ → List (ℕ × ℕ)) → ((rep i : ℕ) → seconds (piece rep i) ≡ levels i) → (first others place count : ℕ) → seconds (run piece first others place count) ≡ listed_from levels place count
unfolding run listed_from
run-listed levels piece same first others place zero = refl
run-listed levels piece same first others place (suc count) =
    map-append (level_of Definition) (piece first place) (run piece others others (place + 1) count)
    ∙ (ap (λ ys. ys ++ seconds (run piece others others (place + 1) count)) (same first place)
    ∙ ap (λ ys. levels place ++ ys) (run-listed levels piece same others others (place + 1) count))

pub listed-walked : (level : Level) (is_optional : Bool) (mask : Option (List Bool)) (offsets : List ℕ) (parts : List Part) (above : Above) (place count : ℕ) → level ≡ Definition → FitTogether parts → max_repetition (path_way parts) ≡ 0 → listed_from (list_definitions is_optional mask offsets parts above.def) place count ≡ walked level (list_part is_optional mask offsets ∷ parts) above place count
listed-walked level is_optional mask offsets parts above place count l h e =
    rw l (sym (run-listed (list_definitions is_optional mask offsets parts above.def) (slot_pairs (list_part is_optional mask offsets ∷ parts) above.def above.depth) (λ rep i. list-seconds is_optional mask offsets parts h e above.def above.depth rep i) above.rep above.depth place count))

-- ---- in steps

pub listed-none : (levels : ℕ → List ℕ) (place count : ℕ) → count ≡ 0 → listed_from levels place count ≡ []
unfolding listed_from
listed-none levels place zero e = refl
listed-none levels place (suc count) e = absurd (omega (arith, e))

listed-add : (levels : ℕ → List ℕ) (place m n : ℕ) → listed_from levels place (m + n) ≡ listed_from levels place m ++ listed_from levels (place + m) n
unfolding listed_from
listed-add levels place zero n =
    let a : 0 + n ≡ n = omega arith in
    let b : place + 0 ≡ place = omega arith in
    rw (a, b) refl
listed-add levels place (suc m) n =
    let a : suc m + n ≡ suc (m + n) = omega arith in
    let b : place + suc m ≡ place + 1 + m = omega arith in
    rw (a, b) (ap (λ ys. levels place ++ ys) (listed-add levels (place + 1) m n) ∙ sym (append_assoc (levels place) (listed_from levels (place + 1) m) (listed_from levels (place + 1 + m) n)))

listed-one : (levels : ℕ → List ℕ) (place : ℕ) → listed_from levels place 1 ≡ levels place
unfolding listed_from
listed-one levels place = append-nil (levels place)

listed-split : (levels : ℕ → List ℕ) (place count to : ℕ) → place + count ≤ to → listed_from levels place (to - place) ≡ listed_from levels place count ++ listed_from levels (place + count) (to - (place + count))
listed-split levels place count to within =
    let a : to - place ≡ count + (to - (place + count)) = omega (arith, within) in
    rw a (listed-add levels place count (to - (place + count)))

pub listed-begin : (levels : ℕ → List ℕ) (place : ℕ) (front : List ℕ) → front ≡ front ++ listed_from levels place 0
unfolding listed_from
listed-begin levels place front = sym (append-nil front)

-- one list more
pub listed-more : (levels : ℕ → List ℕ) (place i : ℕ) (front before after : List ℕ) → before ≡ front ++ listed_from levels place i → after ≡ before ++ levels (place + i) → after ≡ front ++ listed_from levels place (i + 1)
listed-more levels place i front before after e f =
    f ∙ (ap (λ ys. ys ++ levels (place + i)) e
    ∙ (append_assoc front (listed_from levels place i) (levels (place + i))
    ∙ ap (λ ys. front ++ ys) (ap (λ ys. listed_from levels place i ++ ys) (sym (listed-one levels (place + i))) ∙ sym (listed-add levels place i 1))))

-- ---- the levels of one list

-- those of its items, or the one level of a list without any
pub items-listed : (is_optional : Bool) (mask : Option (List Bool)) (offsets : List ℕ) (parts : List Part) (def i : ℕ) (there : Bool) (first items more : ℕ) → there ≡ is_present is_optional mask i → first ≡ item_start offsets i → items ≡ cond there (item_count offsets i) 0 → more ≡ cond there (bit is_optional) 0 → levels_or (def + more) (flat_level parts (def + bit is_optional + 1)) first items ≡ list_definitions is_optional mask offsets parts def i
items-listed is_optional mask offsets parts def i true first items more e f n m = rw (← e, f, n, m) refl
items-listed is_optional mask offsets parts def i false first items more e f n m =
    let same : def + more ≡ def = omega (arith, m) in
    rw (← e, n) (ap (λ d. d ∷ []) same)

-- a list without items
pub none-listed : (def more items : ℕ) (level : ℕ → ℕ) (first : ℕ) → items ≡ 0 → (def + more) ∷ [] ≡ levels_or (def + more) level first items
none-listed def more zero level first e = refl
none-listed def more (suc items) level first e = absurd (omega (arith, e))

-- the levels of the items of a list
pub long-listed : (def more : ℕ) (level : ℕ → ℕ) (first items : ℕ) → items ≢ 0 → levels_from level first items ≡ levels_or (def + more) level first items
long-listed def more level first zero some = absurd (some refl)
long-listed def more level first (suc items) some = refl

-- a list with items, whose levels stand behind those that wait
pub some-listed : (def more : ℕ) (level : ℕ → ℕ) (first items : ℕ) (pending : Pending) (window : Window) → items ≢ 0 → pending.count + items ≤ 64 → window.first ≤ first → first + items ≤ window.end → IsFollowed pending window first → IsWindow def level window
    → plane_numbers def pending.planes 0 (pending.count + items) ≡ plane_numbers def pending.planes 0 pending.count ++ levels_or (def + more) level first items
some-listed def more level first items pending window some room after before followed is =
    let place : 0 + pending.count ≡ pending.count = omega arith in
    planes-add def pending.planes 0 pending.count items
    ∙ ap (λ ys. plane_numbers def pending.planes 0 pending.count ++ ys)
    (ap (λ k. plane_numbers def pending.planes k items) place
    ∙ (planes-from level def pending.planes pending.count first items (λ i h. ap (λ n. def + n) (followed i (omega (arith, h, room)) (omega (arith, h, before))) ∙ is (first + i) (omega (arith, after)) (omega (arith, before, h)))
    ∙ long-listed def more level first items some))

-- ---- below a bound

flat-least : (parts : List Part) (def i : ℕ) → def ≤ flat_level parts def i
unfolding flat_level
flat-least [] def i = omega arith
flat-least (part ∷ parts) def i = by_cond (part_present part i) (flat_level parts (def + bit (part_optional part)) i) (omega (arith, flat-least parts (def + bit (part_optional part)) i))
  where
    by_cond : (b : Bool) (x : ℕ) → def ≤ x → def ≤ cond b x def
    by_cond true x h = h
    by_cond false x h = omega arith

one-below : (v most : ℕ) → v < most → All (λ u. u < most) (v ∷ [])
one-below v most le zero e lt = le
one-below v most le (suc k) e lt = absurd (omega (arith, lt))

or-below : (empty : ℕ) (level : ℕ → ℕ) (place count most : ℕ) → empty < most → ((j : ℕ) → level j < most) → All (λ v. v < most) (levels_or empty level place count)
or-below empty level place zero most e low = one-below empty most e
or-below empty level place (suc count) most e low = from-below level most place (suc count) low

pub definitions-below : (is_optional : Bool) (mask : Option (List Bool)) (offsets : List ℕ) (parts : List Part) (def i most : ℕ) → ((j : ℕ) → flat_level parts (def + bit is_optional + 1) j < most) → All (λ v. v < most) (list_definitions is_optional mask offsets parts def i)
definitions-below is_optional mask offsets parts def i most low =
    let least : def + bit is_optional + 1 < most = omega (arith, flat-least parts (def + bit is_optional + 1) 0, low 0) in
    by_cond _ _ (is_present is_optional mask i) (or-below (def + bit is_optional) (flat_level parts (def + bit is_optional + 1)) (item_start offsets i) (item_count offsets i) most (omega (arith, least)) low) (one-below def most (omega (arith, least)))
  where
    by_cond : (xs ys : List ℕ) (b : Bool) → All (λ v. v < most) xs → All (λ v. v < most) ys → All (λ v. v < most) (cond b xs ys)
    by_cond xs ys true h k = h
    by_cond xs ys false h k = k

listed-below : (levels : ℕ → List ℕ) (most place count : ℕ) → ((i : ℕ) → All (λ v. v < most) (levels i)) → All (λ v. v < most) (listed_from levels place count)
unfolding listed_from
listed-below levels most place zero low = λ k e lt. absurd (omega (arith, lt))
listed-below levels most place (suc count) low = All-append (λ v. v < most) (levels place) (listed_from levels (place + 1) count) (low place) (listed-below levels most (place + 1) count low)

pub waits-more : (levels : ℕ → List ℕ) (most place count : ℕ) (before after : List ℕ) → after ≡ before ++ listed_from levels place count → ((i : ℕ) → All (λ v. v < most) (levels i)) → All (λ v. v < most) before → All (λ v. v < most) after
waits-more levels most place count before after e low h = subst (λ (ys : List ℕ). All (λ v. v < most) ys) (sym e) (All-append (λ v. v < most) before (listed_from levels place count) h (listed-below levels most place count low))

pub waits-one : (most : ℕ) (none piece after : List ℕ) → none ≡ [] → after ≡ none ++ piece → All (λ v. v < most) piece → All (λ v. v < most) after
waits-one most none piece after z e h = subst (λ (ys : List ℕ). All (λ v. v < most) ys) (sym (e ∙ ap (λ ys. ys ++ piece) z)) h

pub waits-none : (most : ℕ) (xs : List ℕ) → xs ≡ [] → All (λ v. v < most) xs
waits-none most xs z = subst (λ (ys : List ℕ). All (λ v. v < most) ys) (sym z) (λ k e lt. absurd (omega (arith, lt)))

-- ---- what a writer is told

abbrev pub Adds : List ℕ → Waiting → List ℕ → Waiting → List ℕ → Type 0
Adds out w out' w' piece = (start xs : List ℕ) → Keeps start out w xs → Keeps start out' w' (xs ++ piece)

-- what waits is told, and a list waits
pub told-short : (start out out' : List ℕ) (w w' : Waiting) (before none after piece left whole : List ℕ) → none ≡ [] → after ≡ none ++ piece → Adds out w out' w' before → Goes start out w (before ++ (piece ++ left)) whole → Goes start out' w' (after ++ left) whole
told-short start out out' w w' before none after piece left whole z e f g =
    let same : after ≡ piece = e ∙ ap (λ ys. ys ++ piece) z in
    goes_on start out out' w w' _ before (after ++ left) whole (ap (λ (t : List ℕ). before ++ (t ++ left)) (sym same)) f g

-- what waits is told, and a list
pub told-long : (start out out1 out2 : List ℕ) (w w1 w2 : Waiting) (before none piece left whole : List ℕ) → none ≡ [] → Adds out w out1 w1 before → Adds out1 w1 out2 w2 piece → Goes start out w (before ++ (piece ++ left)) whole → Goes start out2 w2 (none ++ left) whole
told-long start out out1 out2 w w1 w2 before none piece left whole z f f1 g =
    let back : left ≡ none ++ left = ap (λ (t : List ℕ). t ++ left) (sym z) in
    goes_on start out1 out2 w1 w2 _ piece (none ++ left) whole (ap (λ (t : List ℕ). piece ++ t) back) f1
    (goes_on start out out1 w w1 _ before (piece ++ left) whole refl f g)

goes-same : (start out : List ℕ) (w : Waiting) (left left' whole : List ℕ) → left ≡ left' → Goes start out w left whole → Goes start out w left' whole
goes-same start out w left left' whole e g = subst (λ (t : List ℕ). Goes start out w t whole) e g

-- some lists wait
pub told-taken : (start out : List ℕ) (w : Waiting) (levels : ℕ → List ℕ) (place count to next : ℕ) (before after whole : List ℕ) → place + count ≤ to → next ≡ place + count → after ≡ before ++ listed_from levels place count → Goes start out w (before ++ listed_from levels place (to - place)) whole → Goes start out w (after ++ listed_from levels next (to - next)) whole
told-taken start out w levels place count to next before after whole within n e g =
    let rest = listed_from levels (place + count) (to - (place + count)) in
    let same : before ++ listed_from levels place (to - place) ≡ after ++ rest = ap (λ ys. before ++ ys) (listed-split levels place count to within) ∙ (sym (append_assoc before (listed_from levels place count) rest) ∙ ap (λ ys. ys ++ rest) (sym e)) in
    rw n (goes-same start out w _ _ whole same g)

-- the next list
pub told-next : (start out : List ℕ) (w : Waiting) (levels : ℕ → List ℕ) (place to next : ℕ) (front whole : List ℕ) → place < to → next ≡ place + 1 → Goes start out w (front ++ listed_from levels place (to - place)) whole → Goes start out w (front ++ (levels place ++ listed_from levels next (to - next))) whole
told-next start out w levels place to next front whole some n g =
    let e : listed_from levels place (to - place) ≡ levels place ++ listed_from levels next (to - next) =
    listed-split levels place 1 to (omega (arith, some)) ∙ (ap (λ ys. ys ++ listed_from levels (place + 1) (to - (place + 1))) (listed-one levels place) ∙ ap (λ k. levels place ++ listed_from levels k (to - k)) (sym n)) in
    goes-same start out w _ _ whole (ap (λ ys. front ++ ys) e) g

pub told-begin : (start out : List ℕ) (w : Waiting) (none xs left : List ℕ) → none ≡ [] → Keeps start out w xs → Goes start out w (none ++ left) (xs ++ left)
told-begin start out w none xs left z k = record { done = xs; all = ap (λ (t : List ℕ). xs ++ (t ++ left)) z; keeps = k }

pub told-end : (start out out' : List ℕ) (w w' : Waiting) (levels : ℕ → List ℕ) (place count : ℕ) (before whole : List ℕ) → count ≡ 0 → Adds out w out' w' before → Goes start out w (before ++ listed_from levels place count) whole → Keeps start out' w' whole
told-end start out out' w w' levels place count before whole z f g =
    goes_end start out' w' [] whole refl (goes_on start out out' w w' _ before [] whole (ap (λ (t : List ℕ). before ++ t) (listed-none levels place count z)) f g)

-- ---- a path of lists over a path without lists

pub listed-items : (level : Level) (is_optional : Bool) (mask : Option (List Bool)) (offsets : List ℕ) (rest parts : List Part) (above : Above) (place count : ℕ) → parts ≡ list_part is_optional mask offsets ∷ rest → AreItems level parts → FitTogether parts → listed_from (list_definitions is_optional mask offsets rest above.def) place count ≡ walked level parts above place count
listed-items level is_optional mask offsets rest parts above place count e are fits =
    listed-walked level is_optional mask offsets rest above place count are.0 (rw e at fits).1 (rw e at are.1).0 ∙ ap (λ ps. walked level ps above place count) (sym e)

pub items-below : (is_optional : Bool) (mask : Option (List Bool)) (offsets : List ℕ) (rest parts : List Part) (def most : ℕ) → parts ≡ list_part is_optional mask offsets ∷ rest → IsOfItems parts → FitTogether parts → def + max_definition (path_way parts) < most → (j : ℕ) → flat_level rest (def + bit is_optional + 1) j < most
items-below is_optional mask offsets rest parts def most e are fits low =
    let low' : def + up is_optional (suc (max_definition (path_way rest))) < most = rw e at low in
    flat-below rest (def + bit is_optional + 1) most (rw e at fits).1 (rw e at are).0 (omega (arith, low', up-bit is_optional (suc (max_definition (path_way rest)))))

pub items-reach : (is_optional : Bool) (mask : Option (List Bool)) (offsets : List ℕ) (rest parts : List Part) → parts ≡ list_part is_optional mask offsets ∷ rest → IsOfItems parts → FitTogether parts → Reaches (item_span offsets) rest
items-reach is_optional mask offsets rest parts e are fits =
    let fits' = rw e at fits in
    flat-reaches (item_span offsets) rest fits'.1 (rw e at are).0 (omega (arith, fits'.0.1))

-- the items of a list that is there
pub long-definitions : (is_optional : Bool) (mask : Option (List Bool)) (offsets : List ℕ) (parts : List Part) (def i : ℕ) (there : Bool) (first items n d : ℕ) → there ≡ is_present is_optional mask i → first ≡ item_start offsets i → items ≡ cond there (item_count offsets i) 0 → items ≢ 0 → n ≡ items → d ≡ def + bit is_optional + 1 → levels_from (flat_level parts d) first n ≡ list_definitions is_optional mask offsets parts def i
long-definitions is_optional mask offsets parts def i there first items n d e f m some en ed =
    rw (en, ed) (long-listed def (cond there (bit is_optional) 0) (flat_level parts (def + bit is_optional + 1)) first items some ∙ items-listed is_optional mask offsets parts def i there first items (cond there (bit is_optional) 0) e f m refl)

-- some lists, and those behind them
pub items-step : (level : Level) (parts : List Part) (above : Above) (place end to : ℕ) → AreItems level parts → FitTogether parts → place ≤ end → end ≤ to → walked level parts above place (to - place) ≡ walked level parts above place (end - place) ++ walked level parts above end (to - end)
items-step level [] above place end to are fits le within = absurd are.1
items-step level (leaf_part is_optional mask count ∷ rest) above place end to are fits le within = absurd are.1
items-step level (struct_part is_optional mask count ∷ rest) above place end to are fits le within = absurd are.1
items-step level (list_part is_optional mask offsets ∷ rest) above place end to are fits le within =
    let levels = list_definitions is_optional mask offsets rest above.def in
    let is = λ (p n : ℕ). listed-items level is_optional mask offsets rest (list_part is_optional mask offsets ∷ rest) above p n refl are fits in
    let e : place + (end - place) ≡ end = omega (arith, le) in
    sym (is place (to - place)) ∙ (listed-split levels place (end - place) to (omega (arith, le, within))
    ∙ (ap (λ k. listed_from levels place (end - place) ++ listed_from levels k (to - k)) e
    ∙ (ap (λ ys. ys ++ listed_from levels end (to - end)) (is place (end - place)) ∙ ap (λ ys. walked level (list_part is_optional mask offsets ∷ rest) above place (end - place) ++ ys) (is end (to - end)))))

-- a list without items has none where it is not there
pub no-items : (there : Bool) (items : ℕ) → items ≡ 0 → items ≡ cond there items 0
no-items true items none = refl
no-items false items none = none

-- a list that is there has its items
pub some-items : (there : Bool) (items : ℕ) → there ≡ true → items ≡ cond there items 0
some-items there items is = rw is refl

-- the items of a list that is there, and none of one that is not
pub items-there : (there : Bool) (items count : ℕ) → items ≡ cond there items 0 → items ≡ count → items ≡ cond there count 0
items-there there items count is same = is ∙ ap (λ n. cond there n 0) same
