-- What is said of the bits that are left.
use Rattle.std.proofs.Common.{◌≡◌, ℕ, zero, suc, ◌+◌, ◌-◌, ◌<◌, ◌≤◌, Bool, List, [], ◌∷◌, ◌++◌, length, map, replicate, take, drop, Ok, Err, refl, ap, subst, ◌∙◌, arith, append_assoc}
use Rattle.std.specs.Prelude.{get_or, Some, Result}
use Rattle.std.proofs.lemmas.List.{map-append, length-append, length-map, length-replicate}
use Rattle.columns_base.specs.declared.error.Error.{Error}
use Rattle.columns_core.proofs.Bits.{length_bits}
use Rattle.pq_bitmaps.specs.Called.{Bit, given_bits}
use Rattle.pq_bitmaps.specs.Filter.{room}
use Rattle.pq_bitmaps.specs.Selected.{AreAscending, Gap, GivesPart, Says, Step, fails, gives, given_step, passed_step, passes, selected, steps_by}
use Rattle.pq_bitmaps.specs.Stretch.{size_of, stretch_bits}
use Rattle.columns_core.specs.Bits.{bits_from}
use Rattle.pq_bitmaps.specs.declared.part.FilteredHybridEncoded.{FilteredHybridEncoded}
use Rattle.pq_bitmaps.specs.declared.part.FilteredHybridEncoded.TheVariants as P
use Rattle.pq_bitmaps.specs.declared.part.Interval.{Interval}
use Rattle.pq_bitmaps.specs.declared.stretch.Stretch.{Stretch}
use Rattle.pq_bitmaps.specs.declared.stretch.Stretch.TheVariants.{Bitmap, Repeated}

-- ---- intervals

pub ends_within : (at end : ℕ) (is : List Interval) → AreAscending at end is → at ≤ end
ends_within at end [] h = h
ends_within at end (i ∷ is) h = omega (arith, h.0, ends_within (i.start + i.length) end is h.1)

pub selected_within : (at end : ℕ) (is : List Interval) → AreAscending at end is → at + selected is ≤ end
selected_within at end [] h = omega (arith, h)
selected_within at end (i ∷ is) h = omega (arith, h.0, selected_within (i.start + i.length) end is h.1)

-- ---- bits

pub size_bits : (s : Stretch) → length (stretch_bits s) ≡ size_of s
size_bits (Bitmap values offset n) = length_bits values.now offset n
size_bits (Repeated b n) = length-replicate n b

given_split : (xs ys : List Bool) (more : List Bit) → given_bits (xs ++ ys) ++ more ≡ given_bits xs ++ (given_bits ys ++ more)
given_split xs ys more = ap (λ (t : List Bit). t ++ more) (map-append Ok xs ys) ∙ append_assoc (given_bits xs) (given_bits ys) more

none_said : (gs : List Gap) → steps_by gs [] ≡ []
none_said [] = refl
none_said (g ∷ gs) = none g.skip g.count (none_said gs)
  where
    take_none : (n : ℕ) → take {A = Bit} n [] ≡ []
    take_none zero = refl
    take_none (suc n) = refl

    drop_none : (n : ℕ) → drop {A = Bit} n [] ≡ []
    drop_none zero = refl
    drop_none (suc n) = refl

    none : (s t : ℕ) → steps_by gs [] ≡ [] → map passed_step (take s []) ++ (map given_step (take t (drop s [])) ++ steps_by gs (drop t (drop s []))) ≡ []
    none s t e = rw (take_none s, drop_none s, take_none t, drop_none t, e) refl

pass_bits : (s t : ℕ) (gs : List Gap) (xs : List Bool) (more : List Bit) → length xs ≤ s → steps_by (record { skip = s; count = t } ∷ gs) (given_bits xs ++ more) ≡ map passes xs ++ steps_by (record { skip = s - length xs; count = t } ∷ gs) more
pass_bits s t gs [] more le = let e : s - 0 ≡ s = omega arith in rw e refl
pass_bits zero t gs (x ∷ xs) more le = absurd (omega (arith, le))
pass_bits (suc s) t gs (x ∷ xs) more le =
    let e : suc s - suc (length xs) ≡ s - length xs = omega arith in
    rw e (ap (λ (r : List Step). passes x ∷ r) (pass_bits s t gs xs more (omega (arith, le))))

give_bits : (t : ℕ) (gs : List Gap) (xs : List Bool) (more : List Bit) → length xs ≤ t → steps_by (record { skip = 0; count = t } ∷ gs) (given_bits xs ++ more) ≡ map gives xs ++ steps_by (record { skip = 0; count = t - length xs } ∷ gs) more
give_bits t gs [] more le = let e : t - 0 ≡ t = omega arith in rw e refl
give_bits zero gs (x ∷ xs) more le = absurd (omega (arith, le))
give_bits (suc t) gs (x ∷ xs) more le =
    let e : suc t - suc (length xs) ≡ t - length xs = omega arith in
    rw e (ap (λ (r : List Step). gives x ∷ r) (give_bits t gs xs more (omega (arith, le))))

fail_step : (s t : ℕ) (gs : List Gap) (e : Error) → 0 < s + t → steps_by (record { skip = s; count = t } ∷ gs) (Err e ∷ []) ≡ fails e ∷ []
fail_step zero zero gs e some = absurd (omega (arith, some))
fail_step zero (suc t) gs e some = ap (λ (r : List Step). fails e ∷ r) (none_said (record { skip = 0; count = t } ∷ gs))
fail_step (suc s) t gs e some = ap (λ (r : List Step). fails e ∷ r) (none_said (record { skip = s; count = t } ∷ gs))

-- ---- steps

-- what a stretch that is cut says: of its first bits, and of what is left
pub passed : (s t n : ℕ) (gs : List Gap) (all first others : List Bool) (more : List Bit) → all ≡ first ++ others → length first ≡ n → n ≤ s → steps_by (record { skip = s; count = t } ∷ gs) (given_bits all ++ more) ≡ map passes first ++ steps_by (record { skip = s - n; count = t } ∷ gs) (given_bits others ++ more)
passed s t n gs all first others more parts size le =
    ap (λ (bs : List Bool). steps_by (record { skip = s; count = t } ∷ gs) (given_bits bs ++ more)) parts
    ∙ ap (steps_by (record { skip = s; count = t } ∷ gs)) (given_split first others more)
    ∙ pass_bits s t gs first (given_bits others ++ more) (omega (arith, size, le))
    ∙ ap (λ (k : ℕ). map passes first ++ steps_by (record { skip = s - k; count = t } ∷ gs) (given_bits others ++ more)) size

pub given : (s t n : ℕ) (gs : List Gap) (all first others : List Bool) (more : List Bit) → s ≡ 0 → all ≡ first ++ others → length first ≡ n → n ≤ t → steps_by (record { skip = s; count = t } ∷ gs) (given_bits all ++ more) ≡ map gives first ++ steps_by (record { skip = s; count = t - n } ∷ gs) (given_bits others ++ more)
given s t n gs all first others more none parts size le =
    rw none (
    ap (λ (bs : List Bool). steps_by (record { skip = 0; count = t } ∷ gs) (given_bits bs ++ more)) parts
    ∙ ap (steps_by (record { skip = 0; count = t } ∷ gs)) (given_split first others more)
    ∙ give_bits t gs first (given_bits others ++ more) (omega (arith, size, le))
    ∙ ap (λ (k : ℕ). map gives first ++ steps_by (record { skip = 0; count = t - k } ∷ gs) (given_bits others ++ more)) size)

no_bits : (s : Stretch) → size_of s ≡ 0 → stretch_bits s ≡ []
no_bits (Bitmap values offset n) e = rw e refl
no_bits (Repeated b n) e = rw e refl

pub failed : (s t : ℕ) (gs : List Gap) (rest : Stretch) (bits : List Bit) (e : Error) → 0 < s + t → size_of rest ≡ 0 → bits ≡ Err e ∷ [] → steps_by (record { skip = s; count = t } ∷ gs) (given_bits (stretch_bits rest) ++ bits) ≡ fails e ∷ []
failed s t gs rest bits e some none is = rw (no_bits rest none, is) (fail_step s t gs e some)

pub ended : (s t : ℕ) (gs : List Gap) (bits : List Bit) → s ≡ 0 → t ≡ 0 → gs ≡ [] → steps_by (record { skip = s; count = t } ∷ gs) bits ≡ []
ended s t gs bits a b c = rw (a, b, c) refl

-- a run begins behind one that is at its end
pub more_bits : (rest new : Stretch) (bs : List Bool) (before after : List Bit) → size_of rest ≡ 0 → stretch_bits new ≡ bs → before ≡ given_bits bs ++ after → given_bits (stretch_bits rest) ++ before ≡ given_bits (stretch_bits new) ++ after
more_bits rest new bs before after none is e = rw (no_bits rest none, is, e) refl

-- ---- an interval begins

pub begin_fits : (place start n room : ℕ) (is : List Interval) → AreAscending place (place + room) (record { start = start; length = n } ∷ is) → start + n ≤ place + room
begin_fits place start n room is h = ends_within (start + n) (place + room) is h.1

pub begin_ascends : (place start n room : ℕ) (is : List Interval) → AreAscending place (place + room) (record { start = start; length = n } ∷ is) → AreAscending (start + n) (start + n + (room - (start - place + n))) is
begin_ascends place start n room is h =
    let le : start + n ≤ place + room = ends_within (start + n) (place + room) is h.1 in
    let e : place + room ≡ start + n + (room - (start - place + n)) = omega (arith, le, h.0) in
    subst (λ (k : ℕ). AreAscending (start + n) k is) e h.1

pub selected_drop : (i : ℕ) (is : List Interval) → i < length is → selected (drop i is) ≡ (get_or is i (record { start = 0; length = 0 })).length + selected (drop (i + 1) is)
selected_drop zero [] h = absurd (omega (arith, h))
selected_drop zero (x ∷ is) h = refl
selected_drop (suc i) [] h = absurd (omega (arith, h))
selected_drop (suc i) (x ∷ is) h = let e : suc i + 1 ≡ suc (i + 1) = omega arith in rw e (selected_drop i is (omega (arith, h)))

abbrev pub the_bits : Error → List Bit
the_bits e = Err e ∷ []

-- each part says something
said_some : (part : FilteredHybridEncoded) (said : List Step) → Says part said → 0 < length said
said_some (P.Bitmap values offset n) said s = omega (arith, s.0, ap length s.3, length-map (bits_from values.now offset n) (λ (b : Bool). gives b), length_bits values.now offset n)
said_some (P.Repeated b n) said s = omega (arith, s.0, ap length s.1, length-map (replicate n b) (λ (b : Bool). gives b), length-replicate n b)
said_some (P.Skipped n) said s = omega (arith, s.1, ap length s.2, length-map s.0 (λ (b : Bool). passes b))

pub shorter_part : (before after : List Step) (r : Result FilteredHybridEncoded Error) → GivesPart before (Some r) after → length after < length before
shorter_part before after (Ok part) g = omega (arith, ap length g.2, length-append g.0 after, said_some part g.0 g.1)
shorter_part before after (Err e) g = omega (arith, ap length g.0, ap length g.1)
