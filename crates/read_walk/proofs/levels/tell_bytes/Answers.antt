use Rattle.std.proofs.Common.{◌≡◌, length, arith, ◌∙◌}
use Rattle.read_walk.proofs.levels.tell_bytes.Goals as goal

pub returns-clause-size : goal.returns-clause-size
returns-clause-size c _ =
    let size : length c.fill_whole.new.out ≡ 64 = search (arith) in
    rw (c.set_bytes.ensures ∙ c.narrowed.ensures) size

pub returns-clause-taken : goal.returns-clause-taken
returns-clause-taken c _ = rw (c.set_bytes.ensures ∙ c.narrowed.ensures) (c.fill_whole.ensures.filled c.if-not-fill_whole.false)
