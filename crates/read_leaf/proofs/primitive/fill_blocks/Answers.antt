use Rattle.std.proofs.Common.{◌≡◌, ◌+◌, ◌-◌, ◌*◌, ◌++◌, ℕ, length, map, take, drop, refl, arith, ap, ◌∙◌}
use Rattle.std.proofs.lemmas.List.{map-append, take_all, length-take, length-drop, drop-drop}
use Rattle.read_leaf.proofs.Grouped.{put-front, put-length}
use Rattle.read_leaf.proofs.NumberSlots.{numbers-after}
use Rattle.read_leaf.proofs.primitive.fill_blocks.Goals as goal

pub loop-done-preserved : goal.loop-done-preserved
loop-done-preserved g c =
    let number = g.T.FromStored.loaded_number in
    let size : ℕ = g.P.PlainNumber.byte_count in
    let done : ℕ = c.loop-done.done in
    let xs = c.loop-done.places in
    let ys = c.copy_block.new.places in
    let v = c.loop-done.invariant in
    let bytes = c.args.bytes.now in
    let many : length ys ≡ 32 = c.copy_block.auto.places ∙ (length-take (done + 32 - done) (drop done xs) ∙ omega (arith, length-drop done xs, c.loop-done-test.true)) in
    let all : take 32 ys ≡ ys = take_all 32 ys (omega (arith, many)) in
    let places = ap (map number) (put-front done (done + 32 - done) 32 xs ys v.within (omega (arith, many)) ∙ ap (λ t. take done xs ++ t) all) ∙ map-append number (take done xs) ys in
    let source : c.skip.result.now ≡ drop (size * done) bytes = c.skip.ensures ∙ ap (λ (k : ℕ). drop (k * done) bytes) c.width.ensures in
    let place : size * done + size * 32 ≡ size * (done + 32) = omega arith in
    let behind : drop (size * 32) (drop (size * done) bytes) ≡ drop (size * (done + 32)) bytes = drop-drop (size * 32) (size * done) bytes ∙ ap (λ (k : ℕ). drop k bytes) place in
    record {
      within = omega (arith, put-length done (done + 32 - done) xs ys v.within, many);
      took = rw places (rw behind at (numbers-after g.T.FromStored.loaded g.P.StoredNumber.spelled size done 32 bytes (drop (size * done) bytes) (drop (size * 32) (drop (size * done) bytes)) (map number (take done xs)) (map number ys) v.took (rw source at (c.if-not-copy_block.ensures refl))));
    }
