use Rattle.std.proofs.Common.{◌≡◌, ◌-◌, length, take, drop, arith}
use Rattle.std.proofs.lemmas.List.{length-take, length-drop}
use Rattle.write_values.proofs.StringRows.{string_put}
use Rattle.write_values.proofs.strings.put_string.Goals as goal

pub returns-clause-is : goal.returns-clause-is
returns-clause-is c =
    let n = c.args.to - c.args.from in
    let s = take n (drop c.args.from c.args.all.now) in
    let size : length s ≡ n = omega (arith, length-take n (drop c.args.from c.args.all.now), length-drop c.args.from c.args.all.now, c.requires.within, c.requires.ordered) in
    string_put c.args.at n _ c.args.places.now c.put_bytes.new.places c.put_piece.new.places c.to_le_bytes.result s c.to_le_bytes.ensures (omega (arith, c.requires.short)) (omega (arith, c.requires.short)) size c.put_bytes.ensures.front c.put_piece.ensures.front
