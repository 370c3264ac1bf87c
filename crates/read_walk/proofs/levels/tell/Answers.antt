use Rattle.std.proofs.Common.{◌/◌, ◌^◌, ◌∙◌}
use Rattle.pq_numbers.specs.Texts.{number_of}
use Rattle.pq_numbers.proofs.Digits.{length-digits}
use Rattle.read_walk.proofs.Flat.{word-digits}
use Rattle.read_walk.proofs.levels.tell.Goals as goal

pub returns-then-are_packed-clause-size : goal.returns-then-are_packed-clause-size
returns-then-are_packed-clause-size c _ = rw c.tell_packed.ensures (length-digits (2 ^ c.args.runs.now.runs.num_bits) 64 (number_of c.args.runs.now.packed.now / 2 ^ c.args.runs.now.shift))

pub returns-then-are_packed-clause-taken : goal.returns-then-are_packed-clause-taken
returns-then-are_packed-clause-taken c _ = rw c.tell_packed.ensures c.drop_packed.ensures.left

pub returns-in-Some-clause-size : goal.returns-in-Some-clause-size
returns-in-Some-clause-size c _ = rw (c.set_word.ensures ∙ word-digits 64 c.in-Some.word) (length-digits 2 64 c.in-Some.word)

pub returns-in-Some-clause-taken : goal.returns-in-Some-clause-taken
returns-in-Some-clause-taken c _ = rw (c.set_word.ensures ∙ word-digits 64 c.in-Some.word) c.in-Some.ensures.taken
