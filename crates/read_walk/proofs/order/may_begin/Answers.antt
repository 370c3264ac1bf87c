use Rattle.std.proofs.Common.{◌≡◌, ℕ, inl, length, get_or, arith, ap, sym, ◌∙◌}
use Rattle.std.proofs.lemmas.List.{length-replicate}
use Rattle.shredding.specs.Local.{inside}
use Rattle.read_laws.specs.State.{kept_way}
use Rattle.read_walk.proofs.Flat.{zeros-at}
use Rattle.read_walk.proofs.Following.{plainly}
use Rattle.read_walk.proofs.order.may_begin.Goals as goal

pub returns : goal.returns
returns c e before reps z =
    let w = kept_way c.args.nested.now in
    let levels = c.requires.levels in
    let nought : ℕ = 0 in
    let size : length reps ≡ 64 = rw z (length-replicate 64 nought) in
    let zero : (k : ℕ) → get_or reps k 0 ≡ 0 = λ k. rw z (zeros-at 64 k) in
    record {
      rep_size = size;
      def_size = c.requires.defs;
      few = omega (arith, c.depth.ensures, c.if-depth-ge64.false);
      low = omega (arith, c.if-top-gt255.false);
      follow = plainly w before reps c.args.defs.now _ _ _ (c.requires.defs ∙ sym size) levels.0 levels.1 (levels.2 ∙ ap (inside w) levels.0) (λ k h. (omega (arith, zero k), c.are_told_within.ensures e k (omega (arith, h, size, c.requires.defs)), inl (zero k)));
    }
