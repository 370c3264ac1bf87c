use Rattle.std.proofs.Common.{◌++◌, ◌∷◌, [], map, sym, subst, arith, ◌≡◌, ◌∙◌, ap}
use Rattle.columns_core.specs.Tree.{t_map}
use Rattle.columns_core.specs.View.{type_view, field_view, fields_view}
use Rattle.read_state.specs.declared.init.InitNested.TheVariants.{Struct}
use Rattle.assembly.specs.Paths.{Pushes, path_view, type_paths, fields_paths, type_fault, fields_fault}
use Rattle.assembly.proofs.Openings.{some_fields, map_view}
use Rattle.assembly.proofs.paths.+push.Goals as goal

pub push_children-returns-in-Ok : goal.push_children-returns-in-Ok
push_children-returns-in-Ok t c =
    subst (λ q. Pushes (map path_view c.args.paths.now.items) (map path_view c.push_fields.new.paths.items) (fields_paths (c.args.front.now ++ Struct c.args.is_nullable ∷ []) (fields_view c.args.fields.now.items)) q c.push_fields.result)
    (sym (some_fields c.args.fields.now.items (omega arith))) (subst (λ f. Pushes (map path_view c.args.paths.now.items) (map path_view c.push_fields.new.paths.items) (fields_paths f (fields_view c.args.fields.now.items)) (fields_fault (fields_view c.args.fields.now.items)) c.push_fields.result) (c.deref.ensures.value ∙ c.in-Ok.ensures.ok) c.push_fields.ensures)

pub push_paths-returns-in-Map : goal.push_paths-returns-in-Map
push_paths-returns-in-Map t c =
    let is : type_view c.args.kind.now ≡ t_map (field_view c.deref-in-Map.result.now) c.in-Map.field-1 = ap type_view c.in-Map.is ∙ map_view c.in-Map.entry c.in-Map.field-1 ∙ ap (λ f. t_map (field_view f) c.in-Map.field-1) (sym c.deref-in-Map.ensures) in
    subst (λ k. Pushes (map path_view c.args.paths.now.items) (map path_view c.push_item-in-Map.new.paths.items) (type_paths c.args.front.now c.args.is_nullable (type_view c.args.own.now) k) (type_fault k) c.push_item-in-Map.result)
    (sym is) c.push_item-in-Map.ensures
