use Rattle.std.proofs.Common.{◌<◌, ◌+◌, ℕ, List, sym, subst, arith}
use Rattle.std.specs.Io.KnownBytes.{Appends}
use Rattle.footer_write.specs.Fits.{TreesFit}
use Rattle.pq_files.specs.Room.{max_size}
use Rattle.pq_tree.specs.Tree.{Schema}
use Rattle.write_file.proofs.Footed.{room_is, passes, is_brief}
use Rattle.write_file.proofs.Reasons.{second}
use Rattle.write_file.proofs.Whole.{keyed, whole}
use Rattle.write_file.proofs.body.FileBody.write_footer.Goals as goal

pub returns-in-Err-clause-refused : goal.returns-in-Err-clause-refused
returns-in-Err-clause-refused g c = second (λ h. (
  h.0,
  λ before tree version groups w numbers.
      let b = c.in_ok-begin.ensures in
      let k = keyed g.W.Sink.taken before tree version groups c.begin.new.self c.args.keys (b.ok before tree version groups w) in
      subst (λ (n : ℕ). max_size < n) (room_is g.W.Sink.taken before tree version groups _ c.rooms_are_planned.ensures k) (passes _ (subst (λ (t : Schema). TreesFit t.fields) (sym k.schema) numbers) (h.1 (is_brief g.W.Sink.taken before tree version groups _ c.rooms_are_planned.ensures k))),
)) c.in-Err.ensures.refused

pub returns-clause-ok : goal.returns-clause-ok
returns-clause-ok g c = λ before tree version groups h spells.
    let b = c.in_ok-begin.ensures in
    let old = c.begin.new.self in
    let h' = keyed g.W.Sink.taken before tree version groups old c.args.keys (b.ok before tree version groups h) in
    let f = c.in-Ok.ensures.ok in
    whole g.W.Sink.taken before (g.W.Sink.taken c.push_all.new.sink) tree version groups _ f.footer f.size c.in-Ok.foot.items (c.get.result + c.len.result) c.written_files_are_packed.ensures h' b.begun
    spells
    f.is f.four f.is_size f.parts
    (subst (λ (x : List ℕ). Appends (g.W.Sink.taken old.writer) (g.W.Sink.taken c.push_all.new.sink) x) c.deref.ensures.value c.in_ok-push_all.ensures.ok)
    (omega (arith, c.get.ensures.is, c.len.ensures, c.in-Ok.foot.ok.0))
