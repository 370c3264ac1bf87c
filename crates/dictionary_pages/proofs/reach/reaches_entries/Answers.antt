use Rattle.std.proofs.Common.{Bool, All, subst}
use Rattle.levels.specs.Nested.{parts_of}
use Rattle.write_places.specs.Places.{path_places}
use Rattle.dictionary_pages.specs.Keys.{IsKeyed}
use Rattle.dictionary_pages.proofs.Checked.{keyed_rows}
use Rattle.dictionary_pages.proofs.Named.{over_entries}
use Rattle.dictionary_pages.proofs.reach.reaches_entries.Goals as goal

pub returns-clause-rows : goal.returns-clause-rows
returns-clause-rows c = λ p are t.
    let a = c.args.array.now in
    let parts = parts_of c.args.nested.now in
    let sound = c.know.ensures.sound in
    let each = (c.in-Ok.ensures.taken.2.0 t).1 in
    keyed_rows a (over_entries a p c.know.ensures.parts sound are) p sound are parts c.requires.well (subst (λ (b : Bool). All (IsKeyed b a) (path_places parts)) c.is_leaf_optional.ensures each)
