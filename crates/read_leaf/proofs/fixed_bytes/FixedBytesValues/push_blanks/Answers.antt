use Rattle.std.proofs.Common.{◌++◌, List, Bool, false, replicate, ap, ◌∙◌}
use Rattle.std.proofs.lemmas.List.{length-replicate}
use Rattle.std.proofs.lemmas.Result.{on_ok_weaker}
use Rattle.read_leaf.proofs.Chunks.{blanks-more, still-even}
use Rattle.read_leaf.proofs.TruthSlots.{not_refused}
use Rattle.read_leaf.proofs.fixed_bytes.FixedBytesValues.push_blanks.Goals as goal

pub invariant_of-self-2 : goal.invariant_of-self-2
invariant_of-self-2 c =
    let d = c.self.inside in
    let pushed = not_refused c.extend_constant.result _ (c.extend_constant.ensures.reserved c.in_ok-reserve.ensures.ok) c.extend_constant.ensures.ok in
    still-even d.size c.args.count d.content.items _ (replicate c.in-Some.more 0) d.validity.0 _ false c.self.invariant (length-replicate c.in-Some.more 0 ∙ c.in-Some.ensures.1) c.in_ok-push_zeros.ensures.ok (pushed ∙ ap (λ (bits : List Bool). bits ++ replicate c.args.count false) c.reserve.ensures.same)

pub returns-clause-ok : goal.returns-clause-ok
returns-clause-ok c =
    let d = c.self.inside in
    rw (← c.self.view_is) (on_ok_weaker c.extend_constant.result (λ pushed. blanks-more d.size c.args.count d.content.items _ (replicate c.in-Some.more 0) d.validity.0 _ c.self.invariant c.in_ok-push_zeros.ensures.ok (pushed ∙ ap (λ (bits : List Bool). bits ++ replicate c.args.count false) c.reserve.ensures.same)) c.extend_constant.ensures.ok)
