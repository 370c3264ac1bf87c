use Rattle.std.proofs.Common.{◌≡◌, refl, ap}
use Rattle.std.proofs.lemmas.Bool.Decides.{Decides-at, Decides-like, Decides-and}
use Rattle.columns_core.specs.View.{schema_view}
use Rattle.columns_core.proofs.Tells.{tells_all, tells_meta}
use Rattle.columns_core.proofs.equal.is_same_schema.Goals as goal

pub returns : goal.returns
returns c =
    let a = c.args.a.now in
    let b = c.args.b.now in
    Decides-at _ _ c.eq.ensures
    (Decides-like _ (λ e. let h : schema_view c.args.a.now ≡ schema_view c.args.b.now = rw (e.0, e.1) refl in h) (λ e. (ap (λ s. s.fields) e, ap (λ s. s.metadata) e))
    (Decides-and _ _ (tells_all a.fields.items b.fields.items) (tells_meta a.metadata b.metadata)))
