use Rattle.std.proofs.Common.{◌≡◌, ◌+◌, ◌*◌, ◌≤◌, ◌++◌, ℕ, List, length, map, take, drop, refl, arith, ap, ◌∙◌}
use Rattle.std.proofs.lemmas.List.{map-append, take-append-le, take_all, drop-drop, length-append}
use Rattle.read_leaf.proofs.NumberSlots.{numbers-then, took-behind, block-left}
use Rattle.read_leaf.proofs.primitive.append_blocks.Goals as goal

kept-more : {A : Type 0} (n : ℕ) (xs ys zs : List A) → zs ≡ xs ++ ys → n ≤ length xs → n ≤ length zs
kept-more n xs ys zs e h = omega (arith, h, ap length e, length-append xs ys)

pub copy_block-requires-clause-enough : goal.copy_block-requires-clause-enough
copy_block-requires-clause-enough g c =
    let size : ℕ = g.P.PlainNumber.byte_count in
    let here : c.skip.result.now ≡ drop (size * c.loop-done.done) c.args.bytes.now = c.skip.ensures ∙ ap (λ (k : ℕ). drop (k * c.loop-done.done) c.args.bytes.now) c.width.ensures in
    block-left g.T.FromStored.loaded g.P.StoredNumber.spelled size c.loop-done.done g.row.N c.args.count c.args.bytes.now c.skip.result.now (omega (arith, c.loop-done.invariant.most, c.loop-done-test.true)) c.requires.enough here

pub loop-done-preserved : goal.loop-done-preserved
loop-done-preserved g c =
    let loaded = g.T.FromStored.loaded in
    let number = g.T.FromStored.loaded_number in
    let spelled = g.P.StoredNumber.spelled in
    let size : ℕ = g.P.PlainNumber.byte_count in
    let done : ℕ = c.loop-done.done in
    let bytes = c.args.bytes.now in
    let v = c.loop-done.invariant in
    let items = c.loop-done.values.items in
    let more = c.copy_block.new.places in
    let long : length more ≡ g.row.N = c.copy_block.auto.places ∙ (ap length c.deref_mut.ensures.value ∙ v.block) in
    let full : c.loop-done.block.len ≡ g.row.N = c.loop-done.block.ok.0 ∙ v.block in
    let whole : take c.loop-done.block.len (more ++ drop (length more) c.loop-done.block.items) ≡ more = take-append-le c.loop-done.block.len more (drop (length more) c.loop-done.block.items) (omega (arith, long, full)) ∙ take_all c.loop-done.block.len more (omega (arith, long, full)) in
    let place : size * done + size * g.row.N ≡ size * (done + g.row.N) = omega arith in
    let here : c.skip.result.now ≡ drop (size * done) bytes = c.skip.ensures ∙ ap (λ (k : ℕ). drop (k * done) bytes) c.width.ensures in
    let behind : drop (size * g.row.N) (drop (size * done) bytes) ≡ drop (size * (done + g.row.N)) bytes = drop-drop (size * g.row.N) (size * done) bytes ∙ ap (λ (k : ℕ). drop k bytes) place in
    let pushed : map number c.extend_from_slice.new.self.items ≡ map number items ++ map number more = ap (map number) (c.in_ok-extend_from_slice.ensures.items ∙ ap (λ t. items ++ t) (c.deref.ensures.value ∙ whole)) ∙ map-append number items more in
    let block = took-behind loaded spelled size g.row.N (drop (size * done) bytes) (drop (size * (done + g.row.N)) bytes) (map number items) (map number c.extend_from_slice.new.self.items) (map number more) pushed (rw (here, behind) at (c.if-not-copy_block.ensures refl)) in
    record {
      most = omega (arith, v.most, c.loop-done-test.true);
      block = ap length whole ∙ long;
      kept = kept-more (length c.args.values.now.items) items _ c.extend_from_slice.new.self.items c.in_ok-extend_from_slice.ensures.items v.kept;
      took = numbers-then loaded spelled size done g.row.N bytes (drop (size * done) bytes) (drop (size * (done + g.row.N)) bytes) (map number c.args.values.now.items) (map number items) (map number c.extend_from_slice.new.self.items) v.took block;
    }
