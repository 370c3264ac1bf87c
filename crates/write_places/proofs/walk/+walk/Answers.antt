use Rattle.std.proofs.Common.{◌-◌, ◌++◌, ◌∙◌, ℕ, List, refl, sym, ap, arith, subst, append-nil, append_assoc}
use Rattle.levels.specs.Nested.{parts_of}
use Rattle.write_places.specs.Places.{gather, slot_places}
use Rattle.write_places.proofs.Gather.{gather-none, gather-split}
use Rattle.write_places.proofs.walk.+walk.Goals as goal

pub walk_by-places-init : goal.walk_by-places-init
walk_by-places-init g t c = record {
  after = omega arith;
  before = c.requires.ordered;
  sound = c.requires.sound;
  limit = refl;
  accepted = c.requires.accepted;
  accepts = λ places h. h;
  taken = λ first places h.
      let none = gather-none (slot_places (parts_of c.args.parts.now)) c.args.from (c.args.from - c.args.from) (omega arith) in
      subst (λ (ps : List ℕ). g.T.Taker.has first c.args.taker.now ps) (sym (append-nil places) ∙ ap (λ (ps : List ℕ). places ++ ps) (sym none)) h;
  same = λ e h. h;
}

pub walk_by-places-preserved : goal.walk_by-places-preserved
walk_by-places-preserved g t c =
    let e = c.in_ok-place.ensures in
    let i = c.places.invariant in
    let piece = slot_places (parts_of c.args.parts.now) in
    record {
      after = omega (arith, i.after, e.after.0);
      before = e.after.1;
      sound = e.sound;
      limit = e.limit ∙ i.limit;
      accepted =
          let here = gather piece c.places.place (c.in_ok-place.place - c.places.place) in
          let later = gather piece c.in_ok-place.place (c.args.to - c.in_ok-place.place) in
          let split = gather-split piece c.places.place c.in_ok-place.place c.args.to (omega (arith, e.after.0)) e.after.1 in
          e.accepts later (g.met.T.Taker.back c.places.taker here later (subst (λ (ps : List ℕ). g.T.Taker.accepts c.places.taker ps) split i.accepted));
      accepts = λ places h. e.accepts places (i.accepts places h);
      taken = λ first places h.
          let before = gather piece c.args.from (c.places.place - c.args.from) in
          let here = gather piece c.places.place (c.in_ok-place.place - c.places.place) in
          let split = gather-split piece c.args.from c.places.place c.in_ok-place.place i.after (omega (arith, e.after.0)) in
          let more = e.taken first (places ++ before) (i.taken first places h) in
          subst (λ (ps : List ℕ). g.T.Taker.has first c.step.new.taker ps) (append_assoc places before here ∙ ap (λ (ps : List ℕ). places ++ ps) (sym split)) more;
      same = λ x h. i.same x (e.same x h);
    }
