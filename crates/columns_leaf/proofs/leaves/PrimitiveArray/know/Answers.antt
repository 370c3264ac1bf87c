use Rattle.std.proofs.Common.{◌≡◌, true, subst}
use Rattle.columns_slots.proofs.Made.{all_map}
use Rattle.shredding.specs.Shape.{IsInRange}
use Rattle.columns_core.specs.Shapes.{base, leaf_type}
use Rattle.columns_leaf.proofs.leaves.PrimitiveArray.know.Goals as goal

pub returns-clause-ranged : goal.returns-clause-ranged
returns-clause-ranged g c =
    let t = base c.args.self.now.0 in
    let typed : g.T.NativeType.stores (base c.args.self.now.0) ≡ true = subst (λ v. g.T.NativeType.stores (base v.0) ≡ true) c.self.view_is c.self.invariant.2 in
    all_map (IsInRange (leaf_type (base c.args.self.now.0))) (g.T.NativeType.value (base c.args.self.now.0)) c.args.self.now.1.0 (λ x. g.met.T.NativeType.ranged (base c.args.self.now.0) x typed)
