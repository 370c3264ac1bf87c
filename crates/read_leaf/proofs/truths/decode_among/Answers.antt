use Rattle.std.proofs.Common.{◌%◌, ◌++◌, ℕ, List, Bool, ap, sym, subst, ◌∙◌}
use Rattle.std.proofs.lemmas.Result.{on_ok_weaker}
use Rattle.columns_core.specs.Bits.{word_bits}
use Rattle.read_leaf.specs.Truths.{TookAmong}
use Rattle.read_leaf.proofs.TruthSlots.{among-decoded, word-even, not_refused}
use Rattle.read_leaf.proofs.truths.decode_among.Goals as goal

pub invariant_of-decoded-2 : goal.invariant_of-decoded-2
invariant_of-decoded-2 c =
    let d = c.decoded.inside in
    let pushed = not_refused c.extend_from_word-2.result _ (c.extend_from_word-2.ensures.reserved c.in_ok-reserve.ensures.ok) c.extend_from_word-2.ensures.ok in
    word-even c.args.count c.take_among-word.result.0 c.args.valid d.values.0 _ d.validity.0 _ c.decoded.invariant c.in-Ok.ensures.ok (pushed ∙ ap (λ (x : List Bool). x ++ word_bits c.args.valid c.args.count) c.reserve.ensures.same)

pub returns-clause-ok : goal.returns-clause-ok
returns-clause-ok c =
    let d = c.decoded.inside in
    let s = c.args.state.now in
    let bits = word_bits c.args.valid c.args.count in
    let word = c.take_among-word.result.0 in
    let rest = c.take_among-word.result.1.now in
    let took : TookAmong bits s.values.now s.bit rest (c.args.end % 8) (word_bits word c.args.count) = subst (λ (k : ℕ). TookAmong bits s.values.now s.bit rest (k % 8) (word_bits word c.args.count)) (sym c.requires.end) c.take_among-word.ensures in
    rw (← c.decoded.view_is) (on_ok_weaker c.extend_from_word-2.result (λ p. among-decoded c.args.valid c.args.count word s.values.now rest s.bit (c.args.end % 8) d.values.0 _ d.validity.0 _ c.decoded.invariant took c.in-Ok.ensures.ok (p ∙ ap (λ (x : List Bool). x ++ bits) c.reserve.ensures.same)) c.extend_from_word-2.ensures.ok)
