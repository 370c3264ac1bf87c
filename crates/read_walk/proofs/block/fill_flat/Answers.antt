use Rattle.std.proofs.Common.{◌≡◌, length, arith, ◌∙◌}
use Rattle.std.proofs.lemmas.List.{length-take, take_all}
use Rattle.read_walk.proofs.block.fill_flat.Goals as goal

pub returns-then-runs-ne1-clause-size : goal.returns-then-runs-ne1-clause-size
returns-then-runs-ne1-clause-size c _ =
    let size : length c.fill_whole.new.out ≡ 64 = search (arith) in
    length-take 64 c.fill_whole.new.out ∙ omega (arith, size)

pub returns-then-runs-ne1-clause-taken : goal.returns-then-runs-ne1-clause-taken
returns-then-runs-ne1-clause-taken c t =
    let size : length c.fill_whole.new.out ≡ 64 = search (arith) in
    rw (take_all 64 c.fill_whole.new.out (omega (arith, size))) (c.fill_whole.ensures.filled t)
