use Rattle.std.proofs.Common.{◌++◌, List, Bool, ap, ◌∙◌}
use Rattle.columns_core.specs.Bits.{word_bits}
use Rattle.read_leaf.proofs.MixedStrings.{both-strings, both-allowed, strings-decoded}
use Rattle.read_leaf.proofs.strings.StringValues.push_word.Goals as goal

pub unwrap-requires : goal.unwrap-requires
unwrap-requires g c = c.extend_from_word.ensures.reserved c.in_ok-reserve.ensures.ok

pub invariant_of-self-2 : goal.invariant_of-self-2
invariant_of-self-2 g c =
    let t = c.in-Ok.ensures.ok in
    let bits = (rw c.unwrap.ensures at c.extend_from_word.ensures.ok) ∙ ap (λ (bs : List Bool). bs ++ word_bits c.args.valid c.args.count) c.reserve.ensures.same in
    rw (bits, t.pushed) (both-strings c.self.inside.strings t.among c.self.inside.validity.0 (word_bits c.args.valid c.args.count) c.self.invariant.0 t.are, both-allowed g.K.StringKind.allows c.self.inside.strings t.among c.self.invariant.1 t.allowed)

pub returns-clause-ok : goal.returns-clause-ok
returns-clause-ok g c =
    let bits = (rw c.unwrap.ensures at c.extend_from_word.ensures.ok) ∙ ap (λ (bs : List Bool). bs ++ word_bits c.args.valid c.args.count) c.reserve.ensures.same in
    rw (← c.self.view_is) (strings-decoded g.K.StringKind.allows (word_bits c.args.valid c.args.count) c.args.state.now.values.now c.in-Ok.rest.now c.self.inside.strings c.push_plain.new.self c.self.inside.validity.0 c.extend_from_word.new.self.0 c.self.invariant.0.even c.in-Ok.ensures.ok bits)
