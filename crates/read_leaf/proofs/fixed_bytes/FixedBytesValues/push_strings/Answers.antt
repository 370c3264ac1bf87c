use Rattle.std.proofs.Common.{◌++◌, List, Bool, true, replicate, ap, ◌∙◌}
use Rattle.std.proofs.lemmas.Result.{on_ok_weaker}
use Rattle.read_leaf.proofs.Chunks.{strings-more, still-even}
use Rattle.read_leaf.proofs.TruthSlots.{not_refused}
use Rattle.read_leaf.proofs.fixed_bytes.FixedBytesValues.push_strings.Goals as goal

pub invariant_of-self-2 : goal.invariant_of-self-2
invariant_of-self-2 c =
    let d = c.self.inside in
    let even = rw (← c.self.view_is) at c.requires in
    let pushed = not_refused c.extend_constant.result _ (c.extend_constant.ensures.reserved c.in_ok-reserve.ensures.ok) c.extend_constant.ensures.ok in
    still-even d.size c.args.count d.content.items _ c.args.strings.now d.validity.0 _ true c.self.invariant even c.in_ok-extend_from_slice.ensures.items (pushed ∙ ap (λ (bits : List Bool). bits ++ replicate c.args.count true) c.reserve.ensures.same)

pub returns-clause-ok : goal.returns-clause-ok
returns-clause-ok c =
    let d = c.self.inside in
    rw (← c.self.view_is) (on_ok_weaker c.extend_constant.result (λ pushed. strings-more d.size c.args.count d.content.items _ c.args.strings.now d.validity.0 _ c.self.invariant c.in_ok-extend_from_slice.ensures.items (pushed ∙ ap (λ (bits : List Bool). bits ++ replicate c.args.count true) c.reserve.ensures.same)) c.extend_constant.ensures.ok)
