use Rattle.std.proofs.Common.{inl, inr, cond, length, ap, ◌∙◌}
use Rattle.std.proofs.lemmas.Result.{IfErr-weaker}
use Rattle.shredding.specs.Local.{inside}
use Rattle.shredding.specs.Shred.{max_definition}
use Rattle.read_laws.specs.Column.{slot_of}
use Rattle.read_laws.specs.State.{kept_way}
use Rattle.read_walk.specs.Gives.{called, given}
use Rattle.read_walk.specs.Values.{AreThere}
use Rattle.read_walk.specs.Blocks.{CannotTake}
use Rattle.pq_runs.proofs.Kept.{both_ok}
use Rattle.read_walk.proofs.BlocksTaken.{took-block, all-fit, long-walk}
use Rattle.read_walk.proofs.Walking.{given-called}
use Rattle.read_walk.proofs.take.take_next.Goals as goal

pub push_next-requires-clause-fits : goal.push_next-requires-clause-fits
push_next-requires-clause-fits g c = all-fit 64 c.args.before (cond c.args.told c.args.reps.now c.args.block.now.0) (cond c.args.told c.args.defs.now c.args.block.now.1) c.args.nested.now c.requires.defs c.requires.reps c.requires.fits c.requires.follow c.requires.ended

pub returns-in-Ok-clause-ok : goal.returns-in-Ok-clause-ok
returns-in-Ok-clause-ok g c =
    both_ok c.push_next.result (λ made short. took-block 64 c.args.before c.args.levels.floor c.args.levels.top (cond c.args.told c.args.reps.now c.args.block.now.0) (cond c.args.told c.args.defs.now c.args.block.now.1) c.args.nested.now c.push_next.new.nested (g.D.NestedDecoder.slots c.args.decoded.now) (g.D.NestedDecoder.slots c.decode_next.new.decoded) (g.D.NestedDecoder.left c.args.decoder.now c.args.values.now) (g.D.NestedDecoder.left c.args.decoder.now c.decode_next.new.values) c.requires.reps c.requires.defs c.requires.fits c.requires.follow c.requires.ended c.requires.decoded (c.requires.levels.2 ∙ ap (inside (kept_way c.args.nested.now)) c.requires.levels.0) c.requires.levels.1 made short c.in-Ok.ensures.ok) c.push_next.ensures.ok c.push_next.ensures.counted

pub returns-in-Ok-clause-err : goal.returns-in-Ok-clause-err
returns-in-Ok-clause-err g c =
    let most = g.D.NestedDecoder.byte_limit in
    let left = g.D.NestedDecoder.left c.args.decoder.now c.args.values.now in
    let slots = g.D.NestedDecoder.slots c.args.decoded.now in
    let fit = all-fit 64 c.args.before (cond c.args.told c.args.reps.now c.args.block.now.0) (cond c.args.told c.args.defs.now c.args.block.now.1) c.args.nested.now c.requires.defs c.requires.reps c.requires.fits c.requires.follow c.requires.ended in
    let d = c.in-Ok.ensures.ok in
    let there : AreThere (called (max_definition (kept_way c.args.nested.now)) (cond c.args.told c.args.defs.now c.args.block.now.1)) left = record {
      values = given d.gives;
      rest = g.D.NestedDecoder.left c.args.decoder.now c.decode_next.new.values;
      next = d.values;
      size = rw (← c.requires.levels.1) (given-called c.args.levels.floor c.args.levels.top (length slots) (slot_of (g.D.NestedDecoder.slots c.decode_next.new.decoded)) (cond c.args.told c.args.defs.now c.args.block.now.1) d.gives d.each);
    } in
    IfErr-weaker c.push_next.result _ (CannotTake most (cond c.args.told c.args.reps.now c.args.block.now.0) (cond c.args.told c.args.defs.now c.args.block.now.1) c.args.nested.now left slots) (λ e h. elim h [
      | inl memory ↦ inr (inl memory)
      | inr long ↦ inl (long.0, long-walk 64 (cond c.args.told c.args.reps.now c.args.block.now.0) (cond c.args.told c.args.defs.now c.args.block.now.1) c.args.nested.now c.requires.defs c.requires.reps fit long.1, there)
    ]) c.push_next.ensures.err

pub returns-in-Err-clause-err : goal.returns-in-Err-clause-err
returns-in-Err-clause-err g c = inr (rw c.requires.levels.1 at c.in-Err.ensures.err)

pub push_next-requires-clause-told : goal.push_next-requires-clause-told
push_next-requires-clause-told g c t =
    let may = c.requires.may t in
    (may.rep_size, may.def_size, may.few)
