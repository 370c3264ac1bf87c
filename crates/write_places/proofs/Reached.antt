-- What slots side by side reach.
use Rattle.std.proofs.Common.{◌≡◌, ℕ, ◌+◌, ◌-◌, ◌^◌, ◌<◌, ◌≤◌, Bool, true, false, cond, List, [], ◌∷◌, ◌++◌, length, refl, sym, ap, ◌∙◌, subst, arith, Bor}
use Rattle.std.specs.Prelude.{◌==◌}
use Rattle.std.specs.Int.{bit_at}
use Rattle.shredding.specs.Parts.{Part, item_start, item_span, slot_count}
use Rattle.columns_core.specs.Rising.{IsRising}
use Rattle.levels.specs.declared.nested.Nested.{Nested}
use Rattle.levels.specs.Nested.{parts_of}
use Rattle.levels.specs.Ranges.{leaf_count_or}
use Rattle.levels.proofs.Rising.{rising}
use Rattle.write_places.specs.declared.reach.Reach.TheVariants.{Nothing, Leaves, Picked, Below}
use Rattle.write_places.specs.Places.{gather, slot_places}
use Rattle.write_places.specs.Reach.{AreClosed, IsReach, IsListFoot, IsRun, IsRange}
use Rattle.write_places.specs.There.{is_there, there_places}
use Rattle.write_places.proofs.Bits.{from_word, full_more, zero_bits}
use Rattle.write_places.proofs.Gather.{gather-alike, gather-none, gather-nothing, gather-ranges, gather-split}
use Rattle.write_places.proofs.Slots.{slot_is, slot_there, slot_absent}

-- ---- of a leaf beneath structs

pub all_leaves : (parts : List Part) (n place end last : ℕ) → ((i : ℕ) → there_places parts i ≡ i ∷ []) → slot_count parts ≤ leaf_count_or 0 parts → ((i : ℕ) → place ≤ i → i < end → is_there parts i ≡ true) → place < end → end ≤ last → last ≤ slot_count parts → IsReach parts n place last (Leaves end)
all_leaves parts n place end last leaf room there some within whole =
    record { after = some; before = within; fits = omega (arith, within, whole, room); places = gather-alike _ _ place (end - place) (λ i low high. slot_there parts i (there i low (omega (arith, high, some))) ∙ leaf i) }

pub no_leaves : (parts : List Part) (n place count last word : ℕ) → word ≡ 0 → ((j : ℕ) → j < count → (bit_at word j == 1) ≡ is_there parts (place + j)) → 0 < count → place + count ≤ last → IsReach parts n place last (Nothing (place + count))
no_leaves parts n place count last word e bits some within =
    record { after = omega (arith, some); before = within; fits = tt; places = gather-nothing _ place (place + count - place) (λ i low high. slot_absent parts i (from_word (is_there parts) place count word i _ false bits low (omega (arith, high)) refl (zero_bits word (i - place) e))) }

pub word_leaves : (parts : List Part) (n place count end last word : ℕ) → ((i : ℕ) → there_places parts i ≡ i ∷ []) → slot_count parts ≤ leaf_count_or 0 parts → word ≡ 2 ^ count - 1 → ((j : ℕ) → j < count → (bit_at word j == 1) ≡ is_there parts (place + j)) → 0 < count → place + count ≤ end
    → ((i : ℕ) → place + count ≤ i → i < end → is_there parts i ≡ true) → end ≤ last → last ≤ slot_count parts → IsReach parts n place last (Leaves end)
word_leaves parts n place count end last word leaf room e bits some after there within whole =
    all_leaves parts n place end last leaf room (λ i low high. full_more (is_there parts) place count end word e bits there i low high) (omega (arith, some, after)) within whole

pub some_leaves : (parts : List Part) (n place count last word : ℕ) → ((i : ℕ) → there_places parts i ≡ i ∷ []) → slot_count parts ≤ leaf_count_or 0 parts → ((j : ℕ) → j < count → (bit_at word j == 1) ≡ is_there parts (place + j)) → word < 2 ^ count → 0 < count → count ≤ 64 → place + count ≤ last → last ≤ slot_count parts → IsReach parts n place last (Picked word (place + count))
some_leaves parts n place count last word leaf room bits low some few within whole =
    let n : place + count - place ≡ count = omega arith in
    record {
      after = omega (arith, some);
      before = within;
      fits = (omega (arith, within, whole, room), omega (arith, few), subst (λ (k : ℕ). word < 2 ^ k) (sym n) low);
      places = gather-alike _ _ place (place + count - place) (λ i l h.
          slot_is parts i ∙ (ap (λ (b : Bool). cond b (there_places parts i) []) (from_word (is_there parts) place count word i _ _ bits l (omega (arith, h)) refl refl) ∙ ap (λ (xs : List ℕ). cond (bit_at word (i - place) == 1) xs []) (leaf i)));
    }

-- ---- of lists beneath structs

starts_rise : (offsets : List ℕ) (i : ℕ) → IsRising offsets → i + 1 < length offsets → item_start offsets i ≤ item_start offsets (i + 1)
starts_rise offsets i r h = let e = rising offsets i (i + 1) r (omega arith) h in omega (arith, e)

pub range_first : (parts rest : List Part) (n few : ℕ) (offsets : List ℕ) (place to start end first behind : ℕ) → IsRising offsets → IsListFoot parts n offsets rest few → to ≤ slot_count parts → IsRun (is_there parts) place to start end → first ≡ item_start offsets start → behind ≡ item_start offsets end → behind ≤ item_span offsets → IsRange parts rest (item_span offsets) place to first behind end
range_first parts rest n few offsets place to start end first behind rises foot whole r f b high =
    let e : start + (end - start) ≡ end = omega (arith, r.ordered) in
    let each : (i : ℕ) → start ≤ i → i < start + (end - start) → (item_start offsets i ≤ item_start offsets (i + 1)) × (slot_places parts i ≡ gather (slot_places rest) (item_start offsets i) (item_start offsets (i + 1) - item_start offsets i)) =
    λ i low top. (starts_rise offsets i rises (omega (arith, top, r.ordered, r.within, whole, foot.1)), slot_there parts i (r.run i low (omega (arith, top, r.ordered))) ∙ foot.0 i) in
    let all = gather-ranges (slot_places parts) (slot_places rest) (item_start offsets) start (end - start) each in
    let low : item_start offsets start ≤ item_start offsets end = rw e at all.0 in
    let nothing : gather (slot_places parts) place (start - place) ≡ [] = gather-nothing (slot_places parts) place (start - place) (λ i l h. slot_absent parts i (r.gap i l (omega (arith, h, r.before)))) in
    record {
      after = r.after;
      within = r.within;
      ordered = omega (arith, f, b, low);
      spanned = high;
      places = gather-split (slot_places parts) place start end r.before r.ordered ∙ (ap (λ (xs : List ℕ). xs ++ gather (slot_places parts) start (end - start)) nothing ∙ rw (f, b) (rw e at all.1));
    }

-- lists that are there or have no items
pub range_closed : (parts rest : List Part) (n few : ℕ) (offsets : List ℕ) (place to end first behind : ℕ) → IsRising offsets → IsListFoot parts n offsets rest few → to ≤ slot_count parts → AreClosed parts offsets place end → place < end → end ≤ to → first ≡ item_start offsets place → behind ≡ item_start offsets end → behind ≤ item_span offsets → IsRange parts rest (item_span offsets) place to first behind end
range_closed parts rest n few offsets place to end first behind rises foot whole closed some within f b high =
    let e : place + (end - place) ≡ end = omega (arith, some) in
    let each : (i : ℕ) → place ≤ i → i < place + (end - place) → (item_start offsets i ≤ item_start offsets (i + 1)) × (slot_places parts i ≡ gather (slot_places rest) (item_start offsets i) (item_start offsets (i + 1) - item_start offsets i)) =
    λ i low top. (starts_rise offsets i rises (omega (arith, top, some, within, whole, foot.1)), by_slot i low (omega (arith, top, some)) (is_there parts i) refl) in
    let all = gather-ranges (slot_places parts) (slot_places rest) (item_start offsets) place (end - place) each in
    let low : item_start offsets place ≤ item_start offsets end = rw e at all.0 in
    record {
      after = some;
      within = within;
      ordered = omega (arith, f, b, low);
      spanned = high;
      places = rw (f, b) (rw e at all.1);
    }
  where
    by_slot : (i : ℕ) → place ≤ i → i < end → (there : Bool) → is_there parts i ≡ there → slot_places parts i ≡ gather (slot_places rest) (item_start offsets i) (item_start offsets (i + 1) - item_start offsets i)
    by_slot i low top true h = slot_there parts i h ∙ foot.0 i
    by_slot i low top false h =
        let none : item_start offsets (i + 1) - item_start offsets i ≡ 0 = omega (arith, closed i low top h) in
        slot_absent parts i h ∙ sym (gather-none (slot_places rest) (item_start offsets i) _ none)

pub all_lists : (parts : List Part) (rest : Bor (List Nested)) (n : ℕ) (offsets : List ℕ) (place to first behind end : ℕ) → IsListFoot parts n offsets (parts_of rest.now) (length rest.now) → IsRange parts (parts_of rest.now) (item_span offsets) place to first behind end → IsReach parts n place to (Below rest first behind end)
all_lists parts rest n offsets place to first behind end foot r =
    record {
      after = r.after;
      before = r.within;
      fits = (r.ordered, omega (arith, r.spanned, foot.2), foot.3, foot.4, foot.5);
      places = r.places;
    }
