use Rattle.std.proofs.Common.{List, ℕ, refl, sym, subst, ap, arith, length, take, drop, ◌-◌, ◌+◌}
use Rattle.std.specs.Io.KnownBytes.{Appends}
use Rattle.std.proofs.lemmas.List.{length-take}
use Rattle.pq_io.proofs.Known.{appends_next}
use Rattle.pq_io.proofs.sink.Sink.push_owned.Goals as goal

pub pushing-preserved : goal.pushing-preserved
pushing-preserved g c =
    let all : List ℕ = c.deref.result.now in
    let at : ℕ = c.pushing.pushed in
    let count : ℕ = c.in_ok-pushed.field-0 in
    let e = c.in_ok-pushed.ensures in
    let so_far : Appends (g.Self.Sink.taken c.args.self.now) (g.Self.Sink.taken c.pushing.self) (take at all) = subst (λ (l : List ℕ). Appends (g.Self.Sink.taken c.args.self.now) (g.Self.Sink.taken c.pushing.self) (take at l)) (sym c.deref.ensures.value) c.pushing.invariant.appended in record {
      within = omega (arith, e.bound.0, length-take (length all - at) (drop at all), ap length c.deref.ensures.value);
      appended = subst (λ (l : List ℕ). Appends (g.Self.Sink.taken c.args.self.now) (g.Self.Sink.taken c.push.new.self) (take (at + count) l)) c.deref.ensures.value (appends_next _ _ _ all at count _ e.bound.0 refl so_far e.bytes);
      later = omega arith;
      wants_later = omega arith;
    }
