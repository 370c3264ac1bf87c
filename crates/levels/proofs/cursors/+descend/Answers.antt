use Rattle.std.proofs.Common.{◌+◌, ◌-◌, ◌++◌, ◌∙◌, map, refl, ap}
use Rattle.levels.specs.Stack.{left, front_levels}
use Rattle.levels.specs.Stretch.{level_of, like_pairs}
use Rattle.levels.proofs.Stacks.{after-stretch, below-stretch}
use Rattle.levels.proofs.cursors.+descend.Goals as goal

pub returns-in-Ends-clause-front : goal.returns-in-Ends-clause-front
returns-in-Ends-clause-front t c =
    let cursor = c.args.cursor in
    let pairs = like_pairs c.args.rep cursor.depth (cursor.def + c.in-Ends.up) (c.in-Ends.end - cursor.place) in
    let fits = c.in-Ends.ensures.fits in
    after-stretch c.args.level cursor _ c.args.rep c.in-Ends.end pairs c.args.stack.now.items c.put_rest.new.stack.items fits.0 fits.1 refl refl refl refl refl c.put_rest.ensures.left (c.in-Ends.ensures.levels cursor.def cursor.depth c.args.rep)
    ∙ ap (λ xs. xs ++ map (level_of c.args.level) (left c.put_rest.new.stack.items)) c.front_of.ensures

pub returns-in-Below-clause-front : goal.returns-in-Below-clause-front
returns-in-Below-clause-front t c =
    let cursor = c.args.cursor in
    let fits = c.in-Below.ensures.fits in
    below-stretch c.args.level cursor _ c.args.rep c.in-Below.end _ c.args.stack.now.items c.put_rest-in-Below.new.stack.items c.descend.new.stack.items (front_levels c.descend.result) fits.0 fits.1 refl refl refl refl refl c.put_rest-in-Below.ensures.left (c.in-Below.ensures.levels cursor.def cursor.depth c.args.rep) c.descend.ensures.front

pub returns-in-Items-clause-front : goal.returns-in-Items-clause-front
returns-in-Items-clause-front t c =
    let cursor = c.args.cursor in
    let fits = c.in-Items.ensures.fits in
    below-stretch c.args.level cursor _ c.args.rep c.in-Items.end _ c.args.stack.now.items c.put_rest-in-Items.new.stack.items c.descend-in-Items.new.stack.items (front_levels c.descend-in-Items.result) fits.0 fits.1 refl refl refl refl refl c.put_rest-in-Items.ensures.left (c.in-Items.ensures.levels cursor.def cursor.depth c.args.rep) c.descend-in-Items.ensures.front
