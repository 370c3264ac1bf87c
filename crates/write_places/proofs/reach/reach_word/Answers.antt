use Rattle.std.proofs.Common.{◌∙◌, length}
use Rattle.levels.specs.Nested.{parts_of}
use Rattle.write_places.proofs.Reached.{no_leaves, word_leaves, some_leaves}
use Rattle.write_places.proofs.reach.reach_word.Goals as goal

pub returns-then-word-eq0 : goal.returns-then-word-eq0
returns-then-word-eq0 c =
    let r = c.requires in
    no_leaves (parts_of c.args.parts.now) (length c.args.parts.now) c.args.place c.args.count c.args.to c.masked_word-word.result c.if-word-eq0.true c.masked_word-word.ensures.bits r.some r.up

pub returns-then-word-full_word : goal.returns-then-word-full_word
returns-then-word-full_word c =
    let r = c.requires in
    let e = c.full_end.ensures in
    word_leaves (parts_of c.args.parts.now) (length c.args.parts.now) c.args.place c.args.count c.full_end.result c.args.to c.masked_word-word.result r.leaf r.room (c.if-word-full_word.true ∙ c.full_word.ensures) c.masked_word-word.ensures.bits r.some e.after e.there e.within r.within

pub returns-else-word-full_word : goal.returns-else-word-full_word
returns-else-word-full_word c =
    let r = c.requires in
    some_leaves (parts_of c.args.parts.now) (length c.args.parts.now) c.args.place c.args.count c.args.to c.masked_word-word.result r.leaf r.room c.masked_word-word.ensures.bits c.masked_word-word.ensures.low r.some r.few r.up r.within
