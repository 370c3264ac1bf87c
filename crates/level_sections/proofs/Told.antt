-- Lists told to a writer behind levels that wait.
use Rattle.std.proofs.Common.{◌≡◌, ℕ, ◌+◌, ◌-◌, ◌^◌, ◌<◌, ◌≤◌, ◌==◌, Bool, Option, max, true, false, cond, List, [], ◌++◌, replicate, refl, arith, ap, sym, subst, ◌∙◌, append_assoc, append-nil}
use Rattle.std.proofs.lemmas.Nat.Bits.{bit_at_ones}
use Rattle.pq_runs.specs.Writing.{Keeps, Waiting}
use Rattle.level_sections.specs.declared.lists.Starts.{Starts}
use Rattle.std.specs.Prelude.{slice_index}
use Rattle.std.specs.Int.{bit_at}
use Rattle.shredding.specs.Parts.{is_present, item_count}
use Rattle.levels.specs.Sizes.{list_size}
use Rattle.level_sections.specs.Lists.{IsOpen, list_levels, pending, reps_from}
use Rattle.level_sections.specs.Walk.{Goes}
use Rattle.level_sections.proofs.Repeats.{numbers-none, reps-none, reps-more, reps-split}
use Rattle.level_sections.proofs.Walked.{goes_on, goes_end}

pub none_opens : IsOpen (record { word = 2 ^ 64 - 1; count = 0 })
none_opens = record { few = omega arith; ones = λ i l h. bit_at_ones 64 i h }

-- a step of a writer
abbrev pub Adds : List ℕ → Waiting → List ℕ → Waiting → List ℕ → Type 0
Adds out w out' w' piece = (start xs : List ℕ) → Keeps start out w xs → Keeps start out' w' (xs ++ piece)

-- what waits is told, and a list waits
pub told_then : (start out out' : List ℕ) (w w' : Waiting) (depth : ℕ) (starts none after : Starts) (piece rest whole : List ℕ) → none.count ≡ 0 → pending depth after ≡ pending depth none ++ piece → Adds out w out' w' (pending depth starts) → Goes start out w (pending depth starts ++ (piece ++ rest)) whole → Goes start out' w' (pending depth after ++ rest) whole
told_then start out out' w w' depth starts none after piece rest whole z e f g =
    let same : pending depth after ≡ piece = e ∙ ap (λ (t : List ℕ). t ++ piece) (numbers-none depth none.word 0 none.count z) in
    goes_on start out out' w w' _ (pending depth starts) (pending depth after ++ rest) whole (ap (λ (t : List ℕ). pending depth starts ++ (t ++ rest)) (sym same)) f g

-- what waits is told, and a list
pub told_all : (start out out1 out2 out3 : List ℕ) (w w1 w2 w3 : Waiting) (depth pairs : ℕ) (starts none : Starts) (rest whole : List ℕ) → none.count ≡ 0 → Adds out w out1 w1 (pending depth starts) → Adds out1 w1 out2 w2 (replicate 1 depth) → Adds out2 w2 out3 w3 (replicate (pairs - 1) (depth + 1)) → Goes start out w (pending depth starts ++ (list_levels depth depth pairs ++ rest)) whole → Goes start out3 w3 (pending depth none ++ rest) whole
told_all start out out1 out2 out3 w w1 w2 w3 depth pairs starts none rest whole z f f1 f2 g =
    let left : pending depth none ++ rest ≡ rest = ap (λ (t : List ℕ). t ++ rest) (numbers-none depth none.word 0 none.count z) in
    let one = goes_on start out out1 w w1 _ (pending depth starts) (list_levels depth depth pairs ++ rest) whole refl f g in
    let two = goes_on start out1 out2 w1 w2 _ (replicate 1 depth) (replicate (pairs - 1) (depth + 1) ++ rest) whole refl f1 one in
    goes_on start out2 out3 w2 w3 _ (replicate (pairs - 1) (depth + 1)) (pending depth none ++ rest) whole (ap (λ (t : List ℕ). replicate (pairs - 1) (depth + 1) ++ t) (sym left)) f2 two

-- nothing waits at first
pub told_begin : (start out : List ℕ) (w : Waiting) (depth : ℕ) (none : Starts) (xs left : List ℕ) → none.count ≡ 0 → Keeps start out w xs → Goes start out w (pending depth none ++ left) (xs ++ left)
told_begin start out w depth none xs left z k = record { done = xs; all = ap (λ (t : List ℕ). xs ++ (t ++ left)) (numbers-none depth none.word 0 none.count z); keeps = k }

-- ---- lists one after another

abbrev pub Left : (start out : List ℕ) (w : Waiting) (front left rest whole : List ℕ) → Type 0
Left start out w front left rest whole = Goes start out w (front ++ (left ++ rest)) whole

pub some_begin : (start out : List ℕ) (w : Waiting) (size : ℕ → ℕ) (depth place count p n : ℕ) (front rest whole : List ℕ) → p ≡ place → n ≡ count → Left start out w front (reps_from size depth depth place count) rest whole → Left start out w front (reps_from size depth depth p n) rest whole
some_begin start out w size depth place count p n front rest whole e f g = rw (e, f) g

pub some_more : (start out : List ℕ) (w : Waiting) (size : ℕ → ℕ) (depth place i count pairs : ℕ) (front rest whole : List ℕ) → i < count → pairs ≡ size (place + i) → Left start out w front (reps_from size depth depth (place + i) (count - i)) rest whole → Left start out w front (list_levels depth depth pairs) (reps_from size depth depth (place + (i + 1)) (count - (i + 1)) ++ rest) whole
some_more start out w size depth place i count pairs front rest whole below is g =
    let next : place + i + 1 ≡ place + (i + 1) = omega arith in
    let e : reps_from size depth depth (place + i) (count - i) ≡ list_levels depth depth pairs ++ reps_from size depth depth (place + (i + 1)) (count - (i + 1)) =
    reps-more size depth depth (place + i) (count - i) (count - (i + 1)) pairs (omega (arith, below)) is ∙ ap (λ p. list_levels depth depth pairs ++ reps_from size depth depth p (count - (i + 1))) next in
    record {
      done = g.done;
      all = ap (λ (t : List ℕ). g.done ++ (front ++ t)) (sym (append_assoc (list_levels depth depth pairs) (reps_from size depth depth (place + (i + 1)) (count - (i + 1))) rest) ∙ ap (λ (t : List ℕ). t ++ rest) (sym e)) ∙ g.all;
      keeps = g.keeps;
    }

pub some_end : (start out : List ℕ) (w : Waiting) (size : ℕ → ℕ) (depth p n : ℕ) (front rest whole : List ℕ) → n ≡ 0 → Left start out w front (reps_from size depth depth p n) rest whole → Goes start out w (front ++ rest) whole
some_end start out w size depth p n front rest whole z g = record {
  done = g.done;
  all = ap (λ (t : List ℕ). g.done ++ (front ++ (t ++ rest))) (sym (reps-none size depth depth p n z)) ∙ g.all;
  keeps = g.keeps;
}

pub lists_more : (start out : List ℕ) (w : Waiting) (size : ℕ → ℕ) (depth place count to : ℕ) (front whole : List ℕ) → place + count ≤ to → Goes start out w (front ++ reps_from size depth depth place (to - place)) whole → Left start out w front (reps_from size depth depth place count) (reps_from size depth depth (place + count) (to - (place + count))) whole
lists_more start out w size depth place count to front whole within g = record {
  done = g.done;
  all = ap (λ (t : List ℕ). g.done ++ (front ++ t)) (sym (reps-split size depth place count to within)) ∙ g.all;
  keeps = g.keeps;
}

pub lists_end : (start out out' : List ℕ) (w w' : Waiting) (size : ℕ → ℕ) (depth p n : ℕ) (starts : Starts) (whole : List ℕ) → n ≡ 0 → Adds out w out' w' (pending depth starts) → Goes start out w (pending depth starts ++ reps_from size depth depth p n) whole → Keeps start out' w' whole
lists_end start out out' w w' size depth p n starts whole z f g =
    goes_end start out' w' [] whole refl (goes_on start out out' w w' _ (pending depth starts) [] whole (ap (λ (t : List ℕ). pending depth starts ++ t) (reps-none size depth depth p n z)) f g)

-- the first list, and those behind it
pub lists_first : (start out out1 out2 out3 : List ℕ) (w w1 w2 w3 : Waiting) (size : ℕ → ℕ) (first depth from to pairs : ℕ) (xs : List ℕ) → from < to → pairs ≡ size from → Adds out w out1 w1 (replicate 1 first) → Adds out1 w1 out2 w2 (replicate (pairs - 1) (depth + 1)) → Adds out2 w2 out3 w3 (reps_from size depth depth (from + 1) (to - (from + 1))) → Keeps start out w xs → Keeps start out3 w3 (xs ++ reps_from size first depth from (to - from))
lists_first start out out1 out2 out3 w w1 w2 w3 size first depth from to pairs xs some is f1 f2 f3 k =
    let rest = reps_from size depth depth (from + 1) (to - (from + 1)) in
    let begun : Goes start out w (list_levels first depth pairs ++ rest) (xs ++ reps_from size first depth from (to - from)) = record {
      done = xs;
      all = ap (λ (t : List ℕ). xs ++ t) (sym (reps-more size first depth from (to - from) (to - (from + 1)) pairs (omega (arith, some)) is));
      keeps = k;
    } in
    let one = goes_on start out out1 w w1 _ (replicate 1 first) (replicate (pairs - 1) (depth + 1) ++ rest) _ refl f1 begun in
    let two = goes_on start out1 out2 w1 w2 _ (replicate (pairs - 1) (depth + 1)) rest _ refl f2 one in
    goes_end start out3 w3 [] _ refl (goes_on start out2 out3 w2 w3 rest rest [] _ (sym (append-nil rest)) f3 two)

-- a list has a pair
pub list_size-some : (is_optional : Bool) (mask : Option (List Bool)) (offsets : List ℕ) (i : ℕ) → max (list_size is_optional mask offsets i) 1 ≡ list_size is_optional mask offsets i
list_size-some is_optional mask offsets i = one_or (is_present is_optional mask i) (item_count offsets i) where
  one_or : (b : Bool) (n : ℕ) → max (cond b (max n 1) 1) 1 ≡ cond b (max n 1) 1
  one_or true n = omega arith
  one_or false n = omega arith

pub lists_none : (start out : List ℕ) (w : Waiting) (size : ℕ → ℕ) (first depth p n : ℕ) (xs : List ℕ) → n ≡ 0 → Keeps start out w xs → Keeps start out w (xs ++ reps_from size first depth p n)
lists_none start out w size first depth p n xs z k = subst (λ (ys : List ℕ). Keeps start out w ys) (sym (append-nil xs) ∙ ap (λ (t : List ℕ). xs ++ t) (sym (reps-none size first depth p n z))) k

-- ---- lists behind those that wait

pub taken_more : (size : ℕ → ℕ) (depth place i count pairs : ℕ) (starts after : Starts) → i < count → pairs ≡ size (place + i) → pending depth after ≡ pending depth starts ++ list_levels depth depth pairs → pending depth starts ++ reps_from size depth depth (place + i) (count - i) ≡ pending depth after ++ reps_from size depth depth (place + (i + 1)) (count - (i + 1))
taken_more size depth place i count pairs starts after below is e =
    let next : place + i + 1 ≡ place + (i + 1) = omega arith in
    let rest = reps_from size depth depth (place + (i + 1)) (count - (i + 1)) in
    let more : reps_from size depth depth (place + i) (count - i) ≡ list_levels depth depth pairs ++ rest =
    reps-more size depth depth (place + i) (count - i) (count - (i + 1)) pairs (omega (arith, below)) is ∙ ap (λ p. list_levels depth depth pairs ++ reps_from size depth depth p (count - (i + 1))) next in
    ap (λ (t : List ℕ). pending depth starts ++ t) more ∙ (sym (append_assoc (pending depth starts) (list_levels depth depth pairs) rest) ∙ ap (λ (t : List ℕ). t ++ rest) (sym e))

pub some_taken : (start out : List ℕ) (w : Waiting) (front left front' left' rest whole : List ℕ) → front ++ left ≡ front' ++ left' → Left start out w front left rest whole → Left start out w front' left' rest whole
some_taken start out w front left front' left' rest whole e g = record {
  done = g.done;
  all = ap (λ (t : List ℕ). g.done ++ t) (sym (append_assoc front' left' rest) ∙ (ap (λ (t : List ℕ). t ++ rest) (sym e) ∙ append_assoc front left rest)) ∙ g.all;
  keeps = g.keeps;
}

pub taken_at : (size : ℕ → ℕ) (depth i to pairs : ℕ) (starts after : Starts) → i < to → pairs ≡ size i → pending depth after ≡ pending depth starts ++ list_levels depth depth pairs → pending depth starts ++ reps_from size depth depth i (to - i) ≡ pending depth after ++ reps_from size depth depth (i + 1) (to - (i + 1))
taken_at size depth i to pairs starts after below is e =
    let rest = reps_from size depth depth (i + 1) (to - (i + 1)) in
    let more : reps_from size depth depth i (to - i) ≡ list_levels depth depth pairs ++ rest = reps-more size depth depth i (to - i) (to - (i + 1)) pairs (omega (arith, below)) is in
    ap (λ (t : List ℕ). pending depth starts ++ t) more ∙ (sym (append_assoc (pending depth starts) (list_levels depth depth pairs) rest) ∙ ap (λ (t : List ℕ). t ++ rest) (sym e))

-- a list that is there and has items
pub full_size : (is_optional : Bool) (mask : Option (List Bool)) (offsets : List ℕ) (i pairs : ℕ) → is_present is_optional mask i ≡ true → slice_index offsets 0 ≤ slice_index offsets i → 1 ≤ pairs → pairs ≡ slice_index offsets (i + 1) - slice_index offsets i → pairs ≡ list_size is_optional mask offsets i
full_size is_optional mask offsets i pairs there first some e =
    let size : max (item_count offsets i) 1 ≡ pairs = omega (arith, first, some, e) in
    rw there (sym size)

-- places counted from another one
pub taken_from : (size : ℕ → ℕ) (depth place from count to p m q n : ℕ) (starts after : Starts) → p ≡ place + from → m ≡ count - from → q ≡ place + to → n ≡ count - to → pending depth starts ++ reps_from size depth depth p m ≡ pending depth after ++ reps_from size depth depth q n → pending depth starts ++ reps_from size depth depth (place + from) (count - from) ≡ pending depth after ++ reps_from size depth depth (place + to) (count - to)
taken_from size depth place from count to p m q n starts after ep em eq en h = rw (← ep, ← em, ← eq, ← en) h

-- a word whose bits are set says that all lists are there
pub all_there : (is_optional : Bool) (mask : Option (List Bool)) (word full place from count : ℕ) → word ≡ full → ((i : ℕ) → i < count → bit_at full i ≡ 1) → ((i : ℕ) → i < count → (bit_at word i == 1) ≡ is_present is_optional mask (place + i)) → (j : ℕ) → place + from ≤ j → j < place + count → is_present is_optional mask j ≡ true
all_there is_optional mask word full place from count same ones bits j l h =
    let e : place + (j - place) ≡ j = omega (arith, l) in
    let within : j - place < count = omega (arith, l, h) in
    let one : bit_at word (j - place) ≡ 1 = ap (λ (w : ℕ). bit_at w (j - place)) same ∙ ones (j - place) within in
    ap (is_present is_optional mask) (sym e) ∙ (sym (bits (j - place) within) ∙ ap (λ (n : ℕ). n == 1) one)

-- a list is there, and its items lie from a place to another; or it is not there
pub size-between : (is_optional : Bool) (mask : Option (List Bool)) (offsets : List ℕ) (i pairs first last : ℕ) (there : Bool) → there ≡ is_present is_optional mask i → first ≡ slice_index offsets i → last ≡ slice_index offsets (i + 1) → slice_index offsets 0 ≤ slice_index offsets i → pairs ≡ cond there (max (last - first) 1) 1 → pairs ≡ list_size is_optional mask offsets i
size-between is_optional mask offsets i pairs first last there is ef el low e =
    let items : last - first ≡ item_count offsets i = omega (arith, ef, el, low) in
    e ∙ (ap (λ b. cond b (max (last - first) 1) 1) is ∙ ap (λ n. cond (is_present is_optional mask i) (max n 1) 1) items)
