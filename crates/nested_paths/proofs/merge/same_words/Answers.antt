use Rattle.std.proofs.Common.{◌+◌, ◌-◌, arith}
use Rattle.nested_paths.proofs.Sames.{AreSame, same-lists, words-more}
use Rattle.nested_paths.proofs.merge.same_words.Goals as goal

pub returns : goal.returns
returns c = λ yes.
    let e = c.same_end-place.ensures in
    let same : AreSame c.args.a.now c.args.b.now (c.same_end-place.result + (c.len-size.result - c.same_end-place.result)) = words-more c.args.a.now c.args.b.now c.same_end-place.result _ _ _ c.word_at.ensures.bits c.word_at-2.ensures.bits c.if-word_at.false e.same in
    same-lists c.args.a.now c.args.b.now (omega (arith, c.len-size.ensures, c.len.ensures, c.if-size-len.false)) (λ i h. same i (omega (arith, h, c.len-size.ensures, e.within)))
