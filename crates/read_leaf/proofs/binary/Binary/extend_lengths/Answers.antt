use Rattle.std.proofs.Common.{◌≡◌, ◌≤◌, ◌++◌, ◌∙◌, List, ℕ, length, take, drop, sum, ap, refl, arith}
use Rattle.columns_core.specs.Rising.{places_from}
use Rattle.columns_slots.specs.Bytes.{pieces}
use Rattle.read_leaf.proofs.CutStrings.{grown}
use Rattle.read_leaf.proofs.binary.Binary.extend_lengths.Goals as goal

pub invariant_of-self-2 : goal.invariant_of-self-2
invariant_of-self-2 g c =
    let l = c.self.invariant in
    let os = c.self.inside.offsets.0 in
    let content = c.self.inside.values.items in
    let text = c.args.values.now.now in
    let ns = c.in_ok-lengths.lengths.items in
    let total : c.in-Some.total ≡ sum ns = c.in-Some.ensures.0 ∙ ap sum c.deref.ensures.value in
    let items : c.extend_from_slice.new.self.items ≡ content ++ take (sum ns) text =
    (rw (c.unwrap.ensures, c.reserve-2.ensures.items, c.split_at.ensures.front) at c.extend_from_slice.ensures.items) ∙ ap (λ (n : ℕ). content ++ take n text) total in
    let offsets : c.extend_lengths.new.self.0 ≡ os ++ places_from (length content) ns =
    (rw (c.reserve.ensures.same, c.deref-2.ensures.value) at c.extend_lengths.ensures) ∙ ap (λ (n : ℕ). os ++ places_from n ns) l.last in
    rw (offsets, items) (grown ns os content text (length content) refl l (omega (arith, total, c.in-Some.ensures.1))).laid

pub returns-clause-ok : goal.returns-clause-ok
returns-clause-ok g c =
    let l = c.self.invariant in
    let os = c.self.inside.offsets.0 in
    let content = c.self.inside.values.items in
    let text = c.args.values.now.now in
    let ns = c.in_ok-lengths.lengths.items in
    let total : c.in-Some.total ≡ sum ns = c.in-Some.ensures.0 ∙ ap sum c.deref.ensures.value in
    let most : sum ns ≤ length text = omega (arith, total, c.in-Some.ensures.1) in
    let items : c.extend_from_slice.new.self.items ≡ content ++ take (sum ns) text =
    (rw (c.unwrap.ensures, c.reserve-2.ensures.items, c.split_at.ensures.front) at c.extend_from_slice.ensures.items) ∙ ap (λ (n : ℕ). content ++ take n text) total in
    let offsets : c.extend_lengths.new.self.0 ≡ os ++ places_from (length content) ns =
    (rw (c.reserve.ensures.same, c.deref-2.ensures.value) at c.extend_lengths.ensures) ∙ ap (λ (n : ℕ). os ++ places_from n ns) l.last in
    let strings = (grown ns os content text (length content) refl l most).strings in
    (ns, c.in_ok-lengths.ensures.ok, most, rw (← c.self.view_is) (ap (λ (o : List ℕ). pieces o c.extend_from_slice.new.self.items) offsets ∙ (ap (pieces (os ++ places_from (length content) ns)) items ∙ strings)), c.split_at.ensures.back ∙ ap (λ (n : ℕ). drop n text) total)
