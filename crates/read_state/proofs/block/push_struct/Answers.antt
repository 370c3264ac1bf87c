use Rattle.std.proofs.lemmas.Result.{on_ok_weaker}
use Rattle.columns_core.specs.Bits.{word_bits}
use Rattle.read_state.specs.Marks.{marks_of}
use Rattle.read_state.proofs.Validities.{struct-word}
use Rattle.read_state.proofs.block.push_struct.Goals as goal

pub returns-clause-ok : goal.returns-clause-ok
returns-clause-ok c = on_ok_weaker c.extend_from_word.result (λ e place. struct-word (marks_of c.args.reps.now c.args.defs.now c.args.hidden.now) c.args.validity.now.0 c.extend_from_word.new.self.0 (word_bits c.validity_word-word.result.0 c.validity_word-word.result.1) place c.args.depth c.args.def e c.validity_word-word.ensures.bits) c.extend_from_word.ensures.ok
