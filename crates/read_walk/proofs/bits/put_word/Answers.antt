use Rattle.std.proofs.Common.{◌≡◌, ◌≤◌, ◌+◌, ◌-◌, ◌*◌, ◌/◌, ◌^◌, ◌++◌, ℕ, List, take, drop, length, ap, ap₂, sym, refl, arith, ◌∙◌}
use Rattle.std.proofs.lemmas.List.{length-take, length-drop, take_all}
use borrow.Rule.Slice.PartMut.{put_mid}
use Rattle.pq_numbers.specs.Bits.{digits_of}
use Rattle.pq_runs.proofs.Fields.{digits-parts}
use Rattle.read_walk.proofs.Eights.{front_eight}
use Rattle.read_walk.proofs.Filling.{kept_part}
use Rattle.read_walk.proofs.bits.put_word.Goals as goal

pub loop-i-preserved : goal.loop-i-preserved
loop-i-preserved c =
    let i : ℕ = c.loop-i.i in
    let m : ℕ = c.args.word in
    let out : List ℕ = c.loop-i.out in
    let part : List ℕ = c.put_bits.new.out in
    let before : 8 * i ≤ length out = omega (arith, c.loop-i-test.true, c.requires, c.loop-i.auto.out) in
    let size : length part ≡ length (take (length out - 8 * i) (drop (8 * i) out)) = c.put_bits.auto.out in
    let room : length (take (length out - 8 * i) (drop (8 * i) out)) ≡ length out - 8 * i = length-take (length out - 8 * i) (drop (8 * i) out) ∙ omega (arith, length-drop (8 * i) out) in
    let eight : 8 ≤ length part = omega (arith, size, room, c.loop-i-test.true, c.requires, c.loop-i.auto.out) in
    let e : 8 * (i + 1) ≡ 8 * i + 8 = omega arith in
    let one : 1 * (8 * i) ≡ 8 * i = omega arith in
    let kept = kept_part (8 * i) 8 out part before eight in
    let word : ℕ = m / 2 ^ (8 * i) in
    let front : take 8 part ≡ digits_of 2 8 word = ap (λ (l : List ℕ). take 8 l) c.put_bits.ensures ∙ front_eight 1 word (digits_of 2 8 word) (drop 8 (take (length out - 8 * i) (drop (8 * i) out))) refl in
    let next : digits_of 2 (8 * i + 8) m ≡ digits_of 2 (8 * i) m ++ digits_of 2 8 word = digits-parts 1 (8 * i) 8 m ∙ ap (λ (k : ℕ). digits_of 2 (8 * i) m ++ digits_of 2 8 (m / 2 ^ k)) one in
    record {
      filled = ap (λ (k : ℕ). take k (put_mid (8 * i) (length out - 8 * i) out part)) e ∙ (kept ∙ (ap₂ (λ (a b : List ℕ). a ++ b) c.loop-i.invariant.filled front ∙ (sym next ∙ ap (λ (k : ℕ). digits_of 2 k m) (sym e))));
    }

pub returns : goal.returns
returns c =
    let out : List ℕ = c.loop-i.out in
    let i : c.loop-i.i ≡ 8 = search (arith) in
    sym (take_all 64 out (omega (arith, c.requires, c.loop-i.auto.out))) ∙ (rw i at c.loop-i.invariant.filled)
