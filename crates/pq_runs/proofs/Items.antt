-- The items that are left, step by step.
use Rattle.std.proofs.Common.{◌≡◌, ◌≢◌, ℕ, suc, ◌+◌, ◌-◌, ◌*◌, ◌/◌, ◌%◌, ◌^◌, ◌<◌, ◌≤◌, List, [], ◌∷◌, ◌++◌, length, drop, replicate, min, Ok, Err, refl, sym, ap, ◌∙◌, arith, append-nil}
use Rattle.pq_runs.specs.Hybrid.{given, fault}
use Rattle.pq_numbers.specs.Bits.{digits_of}
use Rattle.pq_numbers.specs.Texts.{number_of}
use Rattle.pq_runs.specs.Hybrid.{runs_items, hybrid}
use Rattle.pq_runs.specs.State.{items_of, items, IsState}
use Rattle.pq_runs.specs.Taking.{IsPackedRun, IsRepeatedRun, NoRun}
use Rattle.pq_numbers.proofs.Bytes.{AreBytes, digits-more, from_bit, from_bit-next}
use Rattle.std.proofs.lemmas.Bool.{eq-eqb, ne_eqb}
use Rattle.pq_runs.specs.declared.state.State.{State}
use Rattle.pq_runs.proofs.Complete.{none_left, given-replicate}
use Rattle.pq_runs.proofs.Fuel.{found_nothing, found_copies, found_packed}

-- ---- nothing stands there

pub nothing_stands : (w left copies number standing bits : ℕ) (bytes : List ℕ) → copies + standing ≡ 0 → items_of w left copies number standing bits bytes ≡ runs_items (length bytes) w left bytes
nothing_stands w left copies number standing bits bytes e =
    let c : copies ≡ 0 = omega (arith, e) in
    let s : standing ≡ 0 = omega (arith, e) in
    let n : left - (0 + 0) ≡ left = omega arith in
    rw (c, s, n) refl

pub nothing_left : (w copies number standing bits : ℕ) (bytes : List ℕ) → copies + standing ≡ 0 → items_of w 0 copies number standing bits bytes ≡ []
nothing_left w copies number standing bits bytes e = nothing_stands w 0 copies number standing bits bytes e ∙ none_left (length bytes) w bytes

pub nothing_found : (w left copies number standing bits : ℕ) (bytes : List ℕ) → copies + standing ≡ 0 → 0 < left → NoRun w bytes → items_of w left copies number standing bits bytes ≡ Err fault ∷ []
nothing_found w left copies number standing bits bytes e some h = nothing_stands w left copies number standing bits bytes e ∙ found_nothing w left bytes some h

-- ---- a run begins

pub copies_begin : (w left copies number standing bits k v m : ℕ) (bytes value rest : List ℕ) → copies + standing ≡ 0 → 0 < left → IsRepeatedRun w bytes value m rest → k ≡ min m left → v ≡ number_of value → items_of w left k v standing bits rest ≡ items_of w left copies number standing bits bytes
copies_begin w left copies number standing bits k v m bytes value rest e some r is same =
    let s : standing ≡ 0 = omega (arith, e) in
    let n : min m left + 0 ≡ min m left = omega arith in
    rw (is, same) (rw (s, n) (sym (found_copies w left m bytes value rest some r))) ∙ sym (nothing_stands w left copies number standing bits bytes e)

pub packed_begins : (w left copies number standing bits j : ℕ) (bytes body rest : List ℕ) → 0 < w → copies + standing ≡ 0 → 0 < left → IsPackedRun w bytes body rest → j ≡ min left (8 * length body / w) → items_of w left copies number j (number_of body / 1) rest ≡ items_of w left copies number standing bits bytes
packed_begins w left copies number standing bits j bytes body rest h e some r is =
    let c : copies ≡ 0 = omega (arith, e) in
    let one : number_of body / 1 ≡ number_of body = omega arith in
    let n : 0 + min left (8 * length body / w) ≡ min left (8 * length body / w) = omega arith in
    let run : items_of w left copies number j (number_of body / 1) rest ≡ runs_items (length bytes) w left bytes = rw (is, c, one, n) (sym (found_packed w left bytes body rest h some r)) in
    run ∙ sym (nothing_stands w left copies number standing bits bytes e)

-- ---- one number

pub take_copy : (w left copies number standing bits : ℕ) (bytes : List ℕ) → 0 < copies → copies + standing ≤ left → items_of w left copies number standing bits bytes ≡ Ok number ∷ items_of w (left - 1) (copies - 1) number standing bits bytes
take_copy w left copies number standing bits bytes some within =
    let one : copies ≡ suc (copies - 1) = omega (arith, some) in
    let n : left - (suc (copies - 1) + standing) ≡ left - 1 - (copies - 1 + standing) = omega (arith, some) in
    ap (λ (k : ℕ). items_of w left k number standing bits bytes) one ∙ ap (λ (k : ℕ). Ok number ∷ (given (replicate (copies - 1) number) ++ (given (digits_of (2 ^ w) standing bits) ++ runs_items (length bytes) w k bytes))) n

pub take_packed : (w left copies number standing s : ℕ) (packed bytes : List ℕ) → copies ≡ 0 → 0 < standing → AreBytes packed → items_of w left copies number standing (from_bit s packed) bytes ≡ Ok (from_bit s packed % 2 ^ w) ∷ items_of w (left - 1) copies number (standing - 1) (from_bit ((s + w) % 8) (drop ((s + w) / 8) packed)) bytes
take_packed w left copies number standing s packed bytes none some h =
    let n : left - (0 + standing) ≡ left - 1 - (0 + (standing - 1)) = omega (arith, some) in
    rw (none, digits-more (2 ^ w) standing (standing - 1) (from_bit s packed) (omega (arith, some)), from_bit-next s w packed h, n) refl

-- ---- the beginning and the end

pub none_called : (s : State) → IsState s → s.left ≡ 0 → items s ≡ []
unfolding items
none_called s is e =
    ap (λ (k : ℕ). items_of s.width k s.copies s.number s.standing (number_of s.packed.now / 2 ^ s.shift) s.bytes.now) e
    ∙ nothing_left s.width s.copies s.number s.standing (number_of s.packed.now / 2 ^ s.shift) s.bytes.now (omega (arith, is.within, e))

pub begin_zeros : (w n bits copies : ℕ) (bytes : List ℕ) → w ≡ 0 → copies ≡ n → items_of w n copies 0 0 bits bytes ≡ hybrid w n bytes
unfolding hybrid
begin_zeros w n bits copies bytes none all =
    let e : n - (n + 0) ≡ 0 = omega arith in
    rw (all, e, none_left (length bytes) w bytes, eq-eqb w 0 none, append-nil (given (replicate n 0))) (given-replicate n 0)

pub begin_runs : (w n bits copies : ℕ) (bytes : List ℕ) → w ≢ 0 → copies ≡ 0 → items_of w n copies 0 0 bits bytes ≡ hybrid w n bytes
unfolding hybrid
begin_runs w n bits copies bytes some none =
    nothing_stands w n copies 0 0 bits bytes (omega (arith, none)) ∙ rw (ne_eqb w 0 some) refl
