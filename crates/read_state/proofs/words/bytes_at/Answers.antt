use Rattle.std.proofs.Common.{w8, map, nat_eq, take, arith, ap, ◌∙◌}
use Rattle.std.proofs.lemmas.List.{take_all, length-take-le}
use Rattle.read_state.proofs.Compared.{mask-at}
use Rattle.read_state.proofs.words.bytes_at.Goals as goal

pub returns : goal.returns
returns c =
    let levels = c.args.levels.now in
    mask-at w8 c.args.level 64 (take 64 levels) (length-take-le 64 levels (omega (arith, c.requires))) (omega arith) ∙ ap (map (λ d. nat_eq d c.args.level)) (take_all 64 levels (omega (arith, c.requires)))
