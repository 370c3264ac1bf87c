use Rattle.std.proofs.Common.{◌-◌, ap, arith, drop, length, sym, take}
use Rattle.std.specs.Prelude.{slice_index}
use Rattle.std.proofs.lemmas.List.{length-append}
use Rattle.level_sections.proofs.SlotLevels.{cut-size}
use Rattle.level_sections.proofs.pieces.push_beneath.Goals as goal

pub set_first-requires-clause-within : goal.set_first-requires-clause-within
set_first-requires-clause-within c =
    let lower = c.args.lower.now in
    let a = slice_index lower.starts c.args.first in
    let b = slice_index lower.starts c.args.last in
    omega (arith, c.requires.rising, c.len-at.ensures.size, ap length (c.push_part.ensures c.if-not-push_part.false), length-append c.args.told.now (take (b - a) (drop a lower.told)), cut-size lower.told a b c.requires.within)

pub returns : goal.returns
returns c =
    let lower = c.args.lower.now in
    let a = slice_index lower.starts c.args.first in
    let b = slice_index lower.starts c.args.last in
    λ t. c.set_first.ensures c.args.told.now (take (b - a) (drop a lower.told)) (c.push_part.ensures c.if-not-push_part.false) (sym c.len-at.ensures.size) (omega (arith, c.requires.rising, cut-size lower.told a b c.requires.within))
