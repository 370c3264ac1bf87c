use Rattle.std.proofs.Common.{◌≡◌, ◌≤◌, ◌+◌, ◌-◌, ◌*◌, ◌/◌, ◌^◌, ◌++◌, ℕ, List, take, drop, length, ap, ap₂, sym, refl, arith, ◌∙◌}
use Rattle.std.proofs.lemmas.List.{length-take, length-drop}
use borrow.Rule.Slice.PartMut.{put_mid}
use Rattle.pq_numbers.specs.Bits.{digits_of}
use Rattle.pq_numbers.specs.Texts.{number_of}
use Rattle.read_walk.proofs.Eights.{next_eight, front_eight}
use Rattle.read_walk.proofs.Filling.{kept_part}
use Rattle.read_walk.proofs.bits.put_byte_groups.Goals as goal

pub loop-i-preserved : goal.loop-i-preserved
loop-i-preserved c =
    let i : ℕ = c.loop-i.i in
    let w : ℕ = c.args.width in
    let s : ℕ = c.args.shift in
    let out : List ℕ = c.loop-i.out in
    let packed : List ℕ = c.args.packed.now in
    let part : List ℕ = c.put_byte_eight.new.out in
    let more : c.args.groups ≡ (i + 1) + (c.args.groups - (i + 1)) = omega (arith, c.loop-i-test.true) in
    let all : w * (8 * c.args.groups) ≡ w * (8 * (i + 1)) + w * (8 * (c.args.groups - (i + 1))) = ap (λ (k : ℕ). w * (8 * k)) more ∙ omega arith in
    let enough : s + w * (8 * (i + 1)) ≤ 8 * length packed = omega (arith, all, c.requires.enough) in
    let before : 8 * i ≤ length out = omega (arith, c.loop-i-test.true, c.requires.room, c.loop-i.auto.out) in
    let size : length part ≡ length (take (length out - 8 * i) (drop (8 * i) out)) = c.put_byte_eight.auto.out in
    let room : length (take (length out - 8 * i) (drop (8 * i) out)) ≡ length out - 8 * i = length-take (length out - 8 * i) (drop (8 * i) out) ∙ omega (arith, length-drop (8 * i) out) in
    let eight : 8 ≤ length part = omega (arith, size, room, c.loop-i-test.true, c.requires.room, c.loop-i.auto.out) in
    let e : 8 * (i + 1) ≡ 8 * i + 8 = omega arith in
    let kept = kept_part (8 * i) 8 out part before eight in
    let word : ℕ = c.low_bytes.result / 2 ^ s in
    let number : c.low_bytes.result ≡ number_of (take 8 (drop (w * i) packed)) = c.low_bytes.ensures ∙ ap (λ (l : List ℕ). number_of (take 8 l)) c.skip.ensures in
    let front : take 8 part ≡ digits_of (2 ^ w) 8 word = ap (λ (l : List ℕ). take 8 l) c.put_byte_eight.ensures ∙ front_eight w word (digits_of (2 ^ w) 8 word) (drop 8 (take (length out - 8 * i) (drop (8 * i) out))) refl in
    let next = next_eight w s i packed (omega (arith, c.requires.narrow)) c.requires.small enough (λ k. (c.type_inv.packed k).fits) in
    record {
      filled = ap (λ (k : ℕ). take k (put_mid (8 * i) (length out - 8 * i) out part)) e ∙ (kept ∙ (ap₂ (λ (a b : List ℕ). a ++ b) c.loop-i.invariant.filled (front ∙ ap (λ (x : ℕ). digits_of (2 ^ w) 8 (x / 2 ^ s)) number) ∙ sym next));
    }
