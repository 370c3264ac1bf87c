use Rattle.std.proofs.Common.{◌≡◌, ◌++◌, ◌∷◌, [], map, pos, ap, ◌∙◌}
use Rattle.std.proofs.lemmas.Result.{IfOk-weaker}
use Rattle.read_state.specs.Kinds.{starts_of}
use Rattle.read_nested.proofs.Places.{offsets-done, offsets-whole, places-refused, refused-err}
use Rattle.read_nested.proofs.offsets.offsets_of.Goals as goal

pub returns-clause-ok : goal.returns-clause-ok
returns-clause-ok g c =
    let filled = c.in_ok-append_blocks.ensures.ok c.if-not-branch.false in
    let all : map g.O.Offset.number c.append_blocks.new.offsets.items ≡ map pos (starts_of c.args.starts.now) = filled ∙ ap (λ xs. map g.O.Offset.number xs ++ map pos (starts_of c.args.starts.now)) c.in_ok-offsets.ensures.items in
    let made = offsets-done g.O.Offset.number c.push.new.self.items c.append_blocks.new.offsets.items c.args.last c.args.starts.now c.args.end c.requires.last c.in_ok-push.ensures.items all in
    IfOk-weaker c.try_from_vec.result _ _ (λ os are. are ∙ offsets-whole g.O.Offset.number c.push.new.self.items (starts_of c.args.starts.now ++ c.args.end ∷ []) made) c.try_from_vec.ensures.ok

pub returns-clause-err : goal.returns-clause-err
returns-clause-err g c =
    let filled = c.in_ok-append_blocks.ensures.ok c.if-not-branch.false in
    let all : map g.O.Offset.number c.append_blocks.new.offsets.items ≡ map pos (starts_of c.args.starts.now) = filled ∙ ap (λ xs. map g.O.Offset.number xs ++ map pos (starts_of c.args.starts.now)) c.in_ok-offsets.ensures.items in
    let made = offsets-done g.O.Offset.number c.push.new.self.items c.append_blocks.new.offsets.items c.args.last c.args.starts.now c.args.end c.requires.last c.in_ok-push.ensures.items all in
    refused-err _ c.try_from_vec.result c.try_from_vec.ensures.err (λ is. places-refused g.O.Offset.number c.push.new.self.items (starts_of c.args.starts.now ++ c.args.end ∷ []) c.args.end made (c.try_from_vec.ensures.refused.0 is))
